-- What bits that go on mean: every place leads to an end, and a cut event is a cut code.
use Rattle.std.proofs.Common.{◌≡◌, ℕ, zero, suc, ◌+◌, ◌-◌, ◌*◌, ◌/◌, ltb, ◌%◌, ◌^◌, ◌<◌, ◌≤◌, Bool, true, false, List, [], ◌∷◌, ◌++◌}
use Rattle.std.proofs.Common.{length, replicate, refl, sym, ap, ◌∙◌, subst, arith, inl, inr, append_assoc}
use Rattle.std.proofs.lemmas.List.{append-nil}
use Rattle.std.proofs.lemmas.Bool.{cases_lt, cases_Bool}
use Rattle.std.proofs.Math.Nat.{suc-mul}
use Rattle.jls_values.specs.Params.{CodingParameters}
use Rattle.jls_interval.specs.Events.{Event, regular, run_to_end, interrupted_run, above}
use Rattle.jls_interval.specs.Code.{event_bits, code}
use Rattle.jls_interval.specs.Lines.{AreLines}
use Rattle.jls_interval.specs.Runs.{blocks, run_order, run_index_before}
use Rattle.jls_interval.specs.Cells.{is_same, run_cell_before, interruption_error}
use Rattle.jls_values.specs.Params.{qbpp, limit}
use Rattle.jls_values.proofs.Lists.{not_empty}
use Rattle.jls_context.specs.Interruption.{run_k, interruption_mapped}
use Rattle.jls_bits.specs.Bits.{bits}
use Rattle.jls_bits.specs.Golomb.{golomb}
use Rattle.jls_interval.specs.Stepwise.{bits_of_steps}
use Rattle.jls_interval.specs.Growth.{added, Position, here, IsNext, moved, interval_steps, start}
use Rattle.std.proofs.lemmas.Nat.{pow_pos}
use Rattle.jls_interval.proofs.Golomb.{golomb_short, golomb_long}
use Rattle.jls_interval.proofs.Runs.{run_index_before_small}
use Rattle.jls_interval.proofs.BlocksTaken.{end_cases}
use Rattle.jls_interval.proofs.GrownLines.{some_fits, added_fits, grown_full, grown_part}
use Rattle.jls_interval.proofs.DecodedBits.{Decoded, decoded_more, decoded_end}

module _ (p : CodingParameters) (w c n : ℕ) (some : 0 < w) where
  -- bits that come later
  pub decoded_with : (given : List Bool) (z : Position) (left more : List Bool) → Decoded p w c n given z left
      → Decoded p w c n (given ++ more) z (left ++ more)
  decoded_with given z left more d = record {
    leads = d.leads;
    bits_are = ap (λ v. v ++ more) d.bits_are ∙ append_assoc (bits_of_steps (interval_steps p w c n) start z.earlier) left more;
    samples = d.samples;
    unfinished = d.unfinished;
  }

  -- an event that can come next, appended
  next_event : (given : List Bool) (z : Position) (e : Event) → Decoded p w c n given z [] → IsNext p w c n z e
      → Decoded p w c n (given ++ event_bits p z.earlier e) (moved w c z e) []
  next_event given z e d a =
      decoded_more p w c n some (given ++ event_bits p z.earlier e) z (event_bits p z.earlier e) [] e
      (decoded_with given z [] (event_bits p z.earlier e) d) a (sym (append-nil (event_bits p z.earlier e)))

  -- how much work a place leaves
  abbrev Within : ℕ → Position → Type 0
  Within fuel z = (n - length z.lines) * w ≤ fuel + length z.line

  room : (n l : ℕ) → l < n → w ≤ (n - l) * w
  room n l h = let m = n - l - 1 in let e : n - l ≡ suc m = omega arith in let f : suc m * w ≡ m * w + w = suc-mul m w in
      subst (λ z. w ≤ z * w) (sym e) (omega arith)

  -- an event that can come next leaves fewer columns, so that the bound on them falls by one
  less : (fuel : ℕ) (z : Position) (e : Event) → length z.line < w → IsNext p w c n z e → Within (suc fuel) z → Within fuel (moved w c z e)
  less fuel z e o a h =
      let line = z.line ++ added (here w c z).ra e in let es = z.earlier ++ e ∷ [] in
      let f = added_fits p w (length z.lines % c) (above c z.lines) z.line e o a.1 in
      elim (cases_lt (length line) w) [
        | inl l ↦ subst (λ (v : Position). Within fuel v) (sym (grown_part p w c n some z.lines line es l)) (omega arith)
        | inr l ↦
            subst (λ (v : Position). Within fuel v) (sym (grown_full p w c n some z.lines line es (omega arith)))
            (full (length z.lines) (length z.line) (length (z.lines ++ line ∷ [])) a.0 o (count z.lines line) h)
      ]
    where
      count : (ls : List (List ℕ)) (l : List ℕ) → length (ls ++ l ∷ []) ≡ length ls + 1
      count [] l = refl
      count (x ∷ ls) l = let r = count ls l in omega arith

      full : (l x l' : ℕ) → l < n → x < w → l' ≡ l + 1 → (n - l) * w ≤ suc fuel + x → (n - l') * w ≤ fuel + 0
      full l x l' a b c d =
          let m = n - (l + 1) in let e : n - l ≡ suc m = omega arith in let g : suc m * w ≡ m * w + w = suc-mul m w in
          let k : n - l' ≡ m = omega arith in let d' : suc m * w ≤ suc fuel + x = subst (λ z. z * w ≤ suc fuel + x) e d in
          subst (λ z. z * w ≤ fuel + 0) (sym k) (omega arith)

  abbrev Ends : List Bool → Type 0
  Ends given = (more : List Bool) × (lines : List (List ℕ)) × AreLines p w n lines × (given ++ more ≡ code p w c lines)

  finished : (given : List Bool) (z : Position) → 0 < n → Decoded p w c n given z [] → n ≤ length z.lines → Ends given
  finished given z any d l = let r = decoded_end p w c n some given z [] any d l in
      ([], z.lines, r.0, append-nil given ∙ r.1 ∙ append-nil (code p w c z.lines))

  -- every place leads to lines
  complete : (fuel : ℕ) (given : List Bool) (z : Position) → 0 < n → Decoded p w c n given z [] → Within fuel z → Ends given
  complete zero given z any d h =
      finished given z any d (elim (cases_lt (length z.lines) n)
      [ inl l ↦ (let r = room n (length z.lines) l in let u = d.unfinished in absurd (omega arith)) | inr l ↦ l ])
  complete (suc fuel) given z any d h =
      elim (cases_lt (length z.lines) n) [
        | inl l ↦ (let e = some_fits p w (length z.lines % c) (above c z.lines) z.line d.unfinished in
            let r = complete fuel (given ++ event_bits p z.earlier e.0) (moved w c z e.0) any (next_event given z e.0 d (l, e.1))
            (less fuel z e.0 d.unfinished (l, e.1) h) in
            (event_bits p z.earlier e.0 ++ r.0, r.1, r.2, sym (append_assoc given (event_bits p z.earlier e.0) r.0) ∙ r.3))
        | inr l ↦
            finished given z any d l
      ]

  -- a cut event is a cut code: the converse of the law of cut codes
  pub cut_converse : (given : List Bool) (z : Position) (left : List Bool) → 0 < n → Decoded p w c n given z left
      → (e : Event) (x : Bool) (xs : List Bool) → IsNext p w c n z e → event_bits p z.earlier e ≡ left ++ x ∷ xs
      → (lines : List (List ℕ)) × (more : List Bool) × AreLines p w n lines × (given ++ x ∷ more ≡ code p w c lines)
  cut_converse given z left any d e x xs a h =
      let whole = given ++ x ∷ xs in
      let dw : Decoded p w c n whole z (event_bits p z.earlier e ++ []) =
      subst (λ v. Decoded p w c n whole z v) (sym h ∙ sym (append-nil (event_bits p z.earlier e)))
      (decoded_with given z left (x ∷ xs) d) in
      let after : Decoded p w c n whole (moved w c z e) [] =
      decoded_more p w c n some whole z (event_bits p z.earlier e ++ []) [] e dw a refl in
      let y = moved w c z e in
      let r = complete ((n - length y.lines) * w) whole y any after (omega arith) in
      (r.1, xs ++ r.0, r.2, sym (append_assoc given (x ∷ xs) r.0) ∙ r.3)

-- Every event has a bit ----------------------------------------------------------------

-- no Golomb code is empty
pub golomb_some : (k g q m : ℕ) → golomb k g q m ≡ [] → ⊥
golomb_some k g q m e =
    elim (cases_Bool (ltb (m / 2 ^ k) (g - q - 1))) [
      | inl h ↦ not_empty (replicate (m / 2 ^ k) false) true (bits k m ++ []) (sym (golomb_short k g q m [] h) ∙ ap (λ z. z ++ []) e)
      | inr h ↦ not_empty (replicate (g - q - 1) false) true (bits q (m - 1) ++ []) (sym (golomb_long k g q m [] h) ∙ ap (λ z. z ++ []) e)
    ]

-- an event that can come next has a bit
pub event_some : (p : CodingParameters) (w c n : ℕ) (z : Position) (e : Event) → length z.line < w → IsNext p w c n z e
    → event_bits p z.earlier e ≡ [] → ⊥
unfolding event_bits
event_some p w c n z (regular near s) o a h = golomb_some _ _ _ _ h
event_some p w c n z (run_to_end k count) o a h =
    let all : length z.line + count ≡ w = a.1.2 in let r = run_index_before z.earlier k in let q = pow_pos (run_order r) in
    let b = end_cases r count [] (run_index_before_small z.earlier k) (omega arith) in
    let x : [] ≡ true ∷ b.0 = sym (ap (λ v. v ++ []) h) ∙ b.1 in cc
event_some p w c n z (interrupted_run k count near s) o a h =
    let run = blocks (run_index_before z.earlier k) count in
    none (replicate run.full_blocks true)
    (golomb (run_k (is_same near) (run_cell_before p z.earlier (is_same near))) (limit p - run_order run.run_index - 1) (qbpp p)
    (interruption_mapped (is_same near) (run_cell_before p z.earlier (is_same near)) (interruption_error p near s)))
    (bits (run_order run.run_index) run.remaining) h
  where
    none : (xs g b : List Bool) → xs ++ false ∷ b ++ g ≡ [] → ⊥
    none [] g b h = cc
    none (x ∷ xs) g b h = cc
