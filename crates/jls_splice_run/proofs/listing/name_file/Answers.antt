use Rattle.std.proofs.Common.{◌≡◌, ℕ, ◌<◌, ◌+◌, true, false, List, [], ◌∷◌, ◌++◌, length, inl, inr, refl, sym, ap, ◌∙◌, subst, arith}
use Rattle.std.specs.Prelude.{IsTrue}
use Rattle.std.specs.String.{string_bytes}
use Rattle.jls_search.specs.Faultless.{IsFaultless}
use Rattle.jls_splice_run.specs.Listing.{AreNamed, NamedFile, is_named, left_out, named_file, named_files, numbered, one_named}
use Rattle.jls_splice_run.specs.declared.listing.NumberedFile.{NumberedFile}
use Rattle.std.proofs.lemmas.List.{length-map}
use Rattle.jls_splice_run.proofs.Named.{named_with}
use Rattle.jls_splice_run.proofs.listing.name_file.Goals as goal

-- as many names as the code has
counted : (named : List NumberedFile) → length (named_files named) ≡ length named
counted named = length-map named named_file

pub returns-then-len-naming : goal.returns-then-len-naming
returns-then-len-naming c = λ files are.
    let named = c.args.named.now.items in
    left_out files (named_files named) c.args.file.now are
    (λ f. inr (let n = counted named in omega (arith, n, c.len.ensures, c.if-len-naming.true)))

pub returns-then-not-faultless : goal.returns-then-not-faultless
returns-then-not-faultless c = λ files are.
    left_out files (named_files c.args.named.now.items) c.args.file.now are
    (λ f. let so : IsTrue c.args.faultless = c.requires.1 f in let not_so = c.if-not-faultless.true in absurd cc)

pub returns-then-has_name : goal.returns-then-has_name
returns-then-has_name c = λ files are.
    let named = c.args.named.now.items in
    let bytes = c.in_ok-bytes.bytes.items in
    let has : is_named (named_files named) bytes ≡ true =
    sym (λ i. is_named (named_files (c.deref.ensures.value i)) (c.deref-2.ensures.value i)) ∙ sym c.has_name.ensures ∙ c.if-has_name.true in
    left_out files (named_files named) c.args.file.now are (λ f. inl (bytes, c.in_ok-bytes.ensures, has))

pub returns : goal.returns
returns c = λ files are.
    let named = c.args.named.now.items in
    let bytes = c.in_ok-bytes.bytes.items in
    let count = counted named in
    let faultless : IsFaultless c.args.file.now = c.requires.0 c.if-not-faultless.false in
    let new : is_named (named_files named) bytes ≡ false =
    sym (λ i. is_named (named_files (c.deref.ensures.value i)) (c.deref-2.ensures.value i)) ∙ sym c.has_name.ensures
    ∙ c.if-has_name.false in
    let few : length (named_files named) < c.args.naming.most = omega (arith, count, c.len.ensures, c.if-len-naming.false) in
    let same : c.len-2.result ≡ length named = omega (arith, c.len-2.ensures, c.args.named.now.ok) in
    let called : string_bytes c.in_ok-name.name ≡ numbered c.args.naming.prefix.now (length named + 1) =
    c.in_ok-name.ensures ∙ ap (λ (n : ℕ). numbered c.args.naming.prefix.now (n + 1)) same in
    let f : NumberedFile = record { name = c.in_ok-name.name; bytes = c.in_ok-bytes.bytes } in
    subst (λ (xs : List NamedFile). AreNamed c.args.naming.most c.args.naming.prefix.now (files ++ c.args.file.now ∷ []) xs)
    (named_with named bytes c.args.naming.prefix.now f c.push.new.self.items c.in_ok-push.ensures.items called refl)
    (one_named files (named_files named) c.args.file.now bytes are faultless c.in_ok-bytes.ensures new few)
