-- An input that is joined to what is held, or stops the command there.
use Rattle.std.proofs.Common.{◌≡◌, ℕ, Bool, true, List, [], ◌∷◌, ◌++◌, Option, Some, None, refl, sym, subst}
use Rattle.std.specs.Borrow.{Bor}
use Rattle.std.specs.Prelude.{◌↔◌, ◌&&◌, IsTrue}
use Rattle.jls_partial.specs.Partial.{PartialPicture}
use Rattle.jls_io.specs.Event.{History, GrewBy, opened}
use Rattle.jls_io.proofs.Growing.{grew_as}
use Rattle.jls_station.specs.Forms.{IsForm}
use Rattle.jls_station.specs.Given.{Given, given_by_text}
use Rattle.jls_station.specs.Inputs.{ReadsGive}
use Rattle.jls_station.specs.declared.input.InputForm.TheVariants.{Text}
use Rattle.jls_station.specs.declared.input.ReadStop.TheVariants.{Whole}
use Rattle.jls_station.proofs.OneInput.{all_read, text_gives, refused_by}
use Rattle.jls_salvage_run.specs.AllInputs.{CantJoin, differs, runs_out, CantJoinText, refused_text, other_text, IsHeld, IsTaken}
use Rattle.jls_salvage_run.specs.AllInputs.{JoinsInput, JoinsText, JoinsWith, partials, StopsAt, other_shape, no_memory, TakesUnion}
use Rattle.jls_cli.specs.Outcomes.{refusal_at}
use Rattle.jls_cli.specs.declared.outcome.Refusal.{Refusal}
use Rattle.jls_cli.specs.declared.outcome.Cause.TheVariants as cause
use Rattle.jls_salvage_run.proofs.InTurn.{opened_and_given, opened_and_refused, other_shape_than_union, same_shape_as_union, union_of_first}
use Rattle.jls_salvage_run.proofs.InTurn.{union_of_next}

module _ (source : Option ℕ) (old mid new : History) (name : List ℕ) (is_opened : mid ≡ old ++ opened name ∷ []) where
  pub given_joined : (held : Option PartialPicture) (joined : PartialPicture) (whole : Bool) (g : Given)
      → GrewBy (ReadsGive source g) mid new
      → JoinsWith held g.partial joined → IsTrue whole ↔ (g.stop ≡ Whole) → GrewBy (JoinsInput source name held joined whole) old new
  given_joined held joined whole g h j w =
      grew_as (IsTaken source name g) (JoinsInput source name held joined whole) old new
      (λ events taken. record { given = g; taken = taken; joined = j; whole_is = w })
      (opened_and_given source old mid new name g is_opened h)

  pub text_joined : (held : Option PartialPicture) (joined : PartialPicture) (bytes : List ℕ) → GrewBy (IsForm source bytes Text) mid new
      → JoinsText held bytes joined → GrewBy (JoinsInput source name held joined true) old new
  text_joined held joined bytes h j =
      given_joined held joined true (given_by_text j.said) (text_gives source mid new bytes h j.said j.is_text) j.joined
      (λ _. refl, λ _. refl)

-- ---- stopped

module _ (source : Option ℕ) (old mid new : History) (name : List ℕ) (is_opened : mid ≡ old ++ opened name ∷ []) where
  is_opened_as : (n : Bor (List ℕ)) → n.now ≡ name → mid ≡ old ++ opened n.now ∷ []
  is_opened_as n named = subst (λ (t : List ℕ). mid ≡ old ++ opened t ∷ []) (sym named) is_opened

  pub given_stops : (held : Option PartialPicture) (before : List Given) → IsHeld (partials before) held → (g : Given) (r : Refusal)
      → r.name.now ≡ name → GrewBy (ReadsGive source g) mid new → CantJoin held g.partial r → GrewBy (StopsAt source before r) old new
  given_stops _ before u g _ named h (differs held _ n other) =
      grew_as (IsTaken source n.now g) (StopsAt source before (refusal_at n cause.ShapeDiffers)) old new
      (λ events taken. other_shape source before n g events taken (other_shape_than_union (partials before) held g.partial u other))
      (opened_and_given source old mid new n.now g (is_opened_as n named) h)
  given_stops _ before u g _ named h (runs_out held _ n same) =
      grew_as (IsTaken source n.now g) (StopsAt source before (refusal_at n cause.OutOfMemory)) old new
      (λ events taken. no_memory source before n g events taken (same_shape_as_union (partials before) held g.partial u same))
      (opened_and_given source old mid new n.now g (is_opened_as n named) h)

  pub text_stops : (held : Option PartialPicture) (before : List Given) → IsHeld (partials before) held → (bytes : List ℕ) (r : Refusal)
      → r.name.now ≡ name → GrewBy (IsForm source bytes Text) mid new → CantJoinText held bytes r → GrewBy (StopsAt source before r) old new
  text_stops _ before u bytes _ named h (refused_text _ _ n f fails) =
      opened_and_refused source old mid new n _ before (is_opened_as n named)
      (refused_by mid new bytes h.they_are.1 (all_read source mid new bytes h) f fails)
  text_stops _ before u bytes _ named h (other_text held said _ n is other) =
      given_stops (Some held) before u (given_by_text said) (refusal_at n cause.ShapeDiffers) named
      (text_gives source mid new bytes h said is) (differs held said n other)

-- ---- all of them

pub first_joined : (source : Option ℕ) (old new : History) (name : List ℕ) (joined : PartialPicture) (whole : Bool)
    → GrewBy (JoinsInput source name None joined whole) old new → GrewBy (TakesUnion source (name ∷ []) joined whole) old new
first_joined source old new name joined whole h =
    let j = h.they_are in
    union_of_first source old new name j.given whole joined j.whole_is j.joined.union_is
    (record { events = h.events; grew = h.grew; they_are = j.taken })

pub next_joined : (source : Option ℕ) (old mid new : History) (names : List (List ℕ)) (held : PartialPicture) (whole : Bool)
    → GrewBy (TakesUnion source names held whole) old mid → (name : List ℕ) (joined : PartialPicture) (also both : Bool) → both
    ≡ (whole && also)
    → GrewBy (JoinsInput source name (Some held) joined also) mid new → GrewBy (TakesUnion source (names ++ name ∷ []) joined both) old new
next_joined source old mid new names held whole taken name joined also both is h =
    let j = h.they_are in
    union_of_next source old mid new names held whole taken name j.given also both joined j.whole_is is
    (record { events = h.events; grew = h.grew; they_are = j.taken }) j.joined.one_shape j.joined.union_is
