-- Codes that break off: which numbers were tried, and what follows where none of them can be.
use Rattle.std.proofs.Common.{◌≡◌, ℕ, ◌+◌, ◌-◌, ◌^◌, ◌<◌, ◌≤◌, Bool, true, ltb, List, [], ◌∷◌, ◌++◌, sym, ◌∙◌, subst, arith, inl, inr}
use Rattle.std.proofs.lemmas.List.{append-nil}
use Rattle.std.proofs.lemmas.Bool.{cases_lt}
use Rattle.jls_values.specs.Params.{CodingParameters, AreCodingParameters, qbpp, limit}
use Rattle.jls_bits.specs.Golomb.{golomb, has_golomb, BeginsCodeOf}
use Rattle.jls_bits.specs.CodeState.{IsOpen, bits_fed}
use Rattle.jls_bits.specs.declared.code_state.CodeState.{CodeState}
use Rattle.jls_bits.proofs.CodeSteps.{begins, none_whole}
use Rattle.jls_bits.proofs.Codes.{small_has_code}
use Rattle.jls_context.specs.declared.mode.Neighbours.{Neighbours}
use Rattle.jls_context.specs.declared.regular.Cell.{Cell}
use Rattle.jls_context.specs.declared.interruption.RunCell.{RunCell}
use Rattle.jls_context.specs.Mode.{is_negative}
use Rattle.jls_context.specs.Regular.{regular_k, regular_mapped, uses_special_mapping}
use Rattle.jls_context.specs.Interruption.{run_k, interruption_mapped}
use Rattle.jls_context.proofs.Samples.{error_range}
use Rattle.jls_context.proofs.Sizes.{error_mapped_at_most, interruption_mapped_at_most}
use Rattle.jls_interval.specs.Cells.{is_same, regular_error, regular_prediction, interruption_error}
use Rattle.jls_interval.specs.Reading.{NoSample, NoInterruption}
use Rattle.jls_interval.specs.CutEvents.{IsProperPrefix}
use Rattle.jls_interval.proofs.EventsApart.{limit_room}
use Rattle.jls_interval.proofs.SamplesRead.{wide}
use Rattle.jls_interval.proofs.StepwiseCodes.{one_begins}

module _ (k g q : ℕ) (room : q + 2 ≤ g) (code : CodeState) (open_yet : IsOpen k g q code) where
  abbrev fed : List Bool
  fed = bits_fed g q code

  -- the bits fed are no whole code
  pub proper : (m : ℕ) → has_golomb k g q m ≡ true → BeginsCodeOf k g q fed m → IsProperPrefix fed (golomb k g q m)
  proper m has b = parts b.rest b.code
    where
      parts : (rest : List Bool) → golomb k g q m ≡ fed ++ rest → IsProperPrefix fed (golomb k g q m)
      parts [] e = absurd (none_whole k g q room fed (begins k g q room code open_yet) m [] has
          (sym (append-nil fed) ∙ sym e ∙ sym (append-nil (golomb k g q m))))
      parts (x ∷ xs) e = record { missing = x; more_missing = xs; whole_is = e }

  -- a code at whose start they stand
  pub begun : (m : ℕ) (more rest : List Bool) → has_golomb k g q m ≡ true → fed ++ more ≡ golomb k g q m ++ rest
      → BeginsCodeOf k g q fed m
  begun m more rest has e = elim (one_begins fed more (golomb k g q m) rest e) [
    | inl r ↦ absurd (none_whole k g q room fed (begins k g q room code open_yet) m r.0 has r.1)
    | inr r ↦ record { rest = r.1 ∷ r.0; code = r.2 }
  ]

-- of the numbers below i, those whose code the bits begin are none that can be
abbrev pub Tried : ℕ → ℕ → ℕ → List Bool → (List Bool → Type 0) → ℕ → Type 0
Tried k g q fed Missing i =
    (m : ℕ) → m < i → BeginsCodeOf k g q fed m → (given unread : List Bool) → given ≡ golomb k g q m ++ unread → Missing given

module _ (k g q : ℕ) (fed : List Bool) (Missing : List Bool → Type 0) where
  pub tried_none : Tried k g q fed Missing 0
  tried_none m l = absurd (omega arith)

  -- after one number more was tried, all below the next one were
  pub tried_more : (i : ℕ) → Tried k g q fed Missing i
      → (BeginsCodeOf k g q fed i → (given unread : List Bool) → given ≡ golomb k g q i ++ unread → Missing given)
      → Tried k g q fed Missing (i + 1)
  tried_more i t now m l = elim (cases_lt m i) [
    | inl below ↦ t m below
    | inr above ↦ (let e : i ≡ m = omega arith in
        subst (λ z. BeginsCodeOf k g q fed z → (given unread : List Bool) → given ≡ golomb k g q z ++ unread → Missing given) e now)
  ]

module _ (p : CodingParameters) (ok : AreCodingParameters p) where
  -- no number that can come has a mapped error above 2^qbpp
  pub sample_small : (cell : Cell) (near : Neighbours) (s : ℕ) → regular_mapped cell (regular_error p cell near s) ≤ 2 ^ qbpp p
  sample_small cell near s =
      let w = wide p ok in
      let m = error_mapped_at_most p (uses_special_mapping cell) (regular_error p cell near s)
      (error_range p (is_negative p near) s (regular_prediction p cell near)) in
      omega (arith, w, m)

  -- the error of a sample that interrupts a run is mapped to at most 2^qbpp
  pub interruption_small : (cell : RunCell) (near : Neighbours) (s : ℕ)
      → interruption_mapped (is_same near) cell (interruption_error p near s) ≤ 2 ^ qbpp p
  interruption_small cell near s =
      let w = wide p ok in
      let m = interruption_mapped_at_most p (is_same near) cell (interruption_error p near s)
      (error_range p (ltb near.rb near.ra) s near.rb) in
      omega (arith, w, m)

  pub room_of : qbpp p + 2 ≤ limit p
  room_of = let r = limit_room p 0 (omega arith) in omega arith

  -- all numbers were tried
  pub no_sample : (cell : Cell) (near : Neighbours) (code : CodeState) → IsOpen (regular_k cell) (limit p) (qbpp p) code → (i : ℕ)
      → 2 ^ qbpp p < i
      → Tried (regular_k cell) (limit p) (qbpp p) (bits_fed (limit p) (qbpp p) code) (NoSample p cell near) i
      → (more : List Bool) → NoSample p cell near (bits_fed (limit p) (qbpp p) code ++ more)
  no_sample cell near code o i all t more s rest l e =
      let m = regular_mapped cell (regular_error p cell near s) in let small = sample_small cell near s in
      let has = small_has_code (regular_k cell) (limit p) (qbpp p) m room_of small in
      t m (omega arith) (begun (regular_k cell) (limit p) (qbpp p) room_of code o m more rest has e)
      (bits_fed (limit p) (qbpp p) code ++ more) rest e s rest l e

  -- where all numbers were tried and none can be, no sample that interrupts a run begins so
  pub no_interruption : (cell : RunCell) (near : Neighbours) (j : ℕ) → j ≤ 15 → (code : CodeState)
      → IsOpen (run_k (is_same near) cell) (limit p - j - 1) (qbpp p) code
      → (i : ℕ) → 2 ^ qbpp p < i
      → Tried (run_k (is_same near) cell) (limit p - j - 1) (qbpp p) (bits_fed (limit p - j - 1) (qbpp p) code)
      (NoInterruption p cell near j) i
      → (more : List Bool) → NoInterruption p cell near j (bits_fed (limit p - j - 1) (qbpp p) code ++ more)
  no_interruption cell near j few code o i all t more s rest l n e =
      let g = limit p - j - 1 in let k = run_k (is_same near) cell in
      let m = interruption_mapped (is_same near) cell (interruption_error p near s) in let small = interruption_small cell near s in
      let has = small_has_code k g (qbpp p) m (limit_room p j few) small in
      t m (omega arith) (begun k g (qbpp p) (limit_room p j few) code o m more rest has e) (bits_fed g (qbpp p) code ++ more) rest e s rest
      l n e
