use Rattle.std.proofs.Common.{◌∙◌, codes}
use Rattle.clap.specs.Words.{found_of}
use Rattle.clap.proofs.WalkLemmas.{first_value-rows}
use Rattle.jls_cli.specs.SpliceAsking as spec
use Rattle.jls_cli.proofs.splice.asked.asked_splice.Goals as goal

pub returns : goal.returns
returns c =
    let found = found_of c.args.matches.now in
    let source = c.get_str.ensures ∙ first_value-rows found (codes "source") in
    let tries = c.get_str-2.ensures ∙ first_value-rows found (codes "tries") in
    let ceiling = c.get_str-3.ensures ∙ first_value-rows found (codes "max") in
    let progress = c.get_str-4.ensures ∙ first_value-rows found (codes "progress") in
    let file = c.get_str-5.ensures ∙ first_value-rows found (codes "file") in
    let files = c.get_str-6.ensures ∙ first_value-rows found (codes "files") in
    let out = c.get_str-out.ensures ∙ first_value-rows found (codes "OUT") in
    let copy = c.get_str-first.ensures ∙ first_value-rows found (codes "COPY") in
    let options = c.options_of-options.ensures ∙ (λ i. spec.options_of (source i) (tries i) (ceiling i) (progress i) (file i) (files i)) in
    c.asked_with.ensures ∙ (λ i. spec.asked_with (options i) (out i) (copy i) (c.values_of-others.ensures i) (c.values_of-bad.ensures i)
    (c.values_of.ensures i))
