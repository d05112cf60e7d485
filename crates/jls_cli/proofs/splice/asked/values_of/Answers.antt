use Rattle.std.proofs.Common.{◌≡◌, ◌∙◌, ap, map}
use Rattle.std.specs.Prelude.{List, [], Option, None, Some, option_map, unwrap_or}
use Rattle.std.specs.Borrow.{Bor}
use Rattle.std.specs.Option.{UnwrapsOrElse}
use Rattle.clap.specs.Words.{Text, found_of}
use Rattle.clap.proofs.WalkLemmas.{raw_values-rows}
use Rattle.jls_cli.proofs.splice.asked.values_of.Goals as goal

-- the texts of a slice that may be there, none if it is not
texts_given : (o : Option (Bor (List (Bor Text)))) (slice : Bor (List (Bor Text))) → UnwrapsOrElse o (λ s. s.now ≡ []) slice
    → map (λ f. f.now) slice.now ≡ unwrap_or (option_map (λ s. map (λ f. f.now) s.now) o) []
texts_given None slice none = ap (map (λ (f : Bor Text). f.now)) none
texts_given (Some values) slice same = ap (λ (s : Bor (List (Bor Text))). map (λ (f : Bor Text). f.now) s.now) same

pub returns : goal.returns
returns c =
    let given = c.get_strs.ensures ∙ raw_values-rows (found_of c.args.matches.now) c.args.id.now in
    texts_given c.get_strs.result c.unwrap_or_default.result c.unwrap_or_default.ensures
    ∙ ap (λ (values : Option (List Text)). unwrap_or values []) given
