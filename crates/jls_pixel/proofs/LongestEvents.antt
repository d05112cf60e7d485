-- How many bits an event has at most. What follows from it: bits that are as many, and begin with no event, go on to none.
use Rattle.std.proofs.Common.{◌≡◌, ℕ, suc, ◌+◌, ◌-◌, ◌*◌, ◌/◌, ◌^◌, ◌<◌, ◌≤◌, Bool, true, false, ltb, leb, eqb, List, [], ◌∷◌, ◌++◌, length}
use Rattle.std.proofs.Common.{replicate, refl, ap, ◌∙◌, subst, arith, inl, inr, length-append}
use Rattle.std.specs.Prelude.{ℤ, pos, negsuc, neg_ℤ, ◌+ℤ◌, int_le, int_lt, unsigned_abs}
use Rattle.std.specs.Int.{int_div_euclid}
use Rattle.std.specs.List.{filter, fold}
use Rattle.std.proofs.lemmas.Bool.{cases_Bool, cases_eq, ltb-true, eq-eqb, ne_eqb}
use Rattle.std.proofs.lemmas.Int.{ints}
use Rattle.std.proofs.lemmas.List.{append-nil, length-replicate}
use Rattle.jls_values.specs.Params.{CodingParameters, AreCodingParameters, range, qbpp, limit}
use Rattle.jls_bits.specs.Bits.{bits}
use Rattle.jls_bits.specs.Golomb.{golomb}
use Rattle.jls_bits.proofs.NumberBits.{length-bits}
use Rattle.jls_context.specs.declared.mode.Neighbours.{Neighbours}
use Rattle.jls_context.specs.declared.regular.Cell.{Cell}
use Rattle.jls_context.specs.declared.interruption.RunCell.{RunCell}
use Rattle.jls_context.specs.Errors.{IsError}
use Rattle.jls_context.specs.Mode.{context, is_negative}
use Rattle.jls_context.specs.Regular.{golomb_k, initial_cell, updated, bias_computed, regular_mapped}
use Rattle.jls_context.specs.Interruption.{initial_run_cell, run_updated, interruption_mapped}
use Rattle.jls_context.proofs.GolombLaws.{golomb_k_found, k_at_most}
use Rattle.jls_context.proofs.Samples.{error_range}
use Rattle.jls_context.proofs.Sizes.{maxval_small, interruption_mapped_at_most}
use Rattle.jls_context.proofs.Updates.{updated-aged, updated-grown}
use Rattle.jls_interval.specs.Cells.{regular_prediction, regular_error, interruption_error}
use Rattle.jls_interval.specs.Runs.{run_order, block_columns, full_blocks, Blocks, blocks}
use Rattle.jls_interval.specs.Code.{run_to_end_bits, interrupted_run_bits}
use Rattle.jls_interval.proofs.Golomb.{golomb_short, golomb_long}
use Rattle.jls_interval.proofs.LeastPassing.{least_low}
use Rattle.jls_interval.proofs.EventsApart.{j_small}
use Rattle.jls_pixel.specs.Pixels.{RowsAbove, pixel_neighbours}
use Rattle.jls_pixel.specs.Events.{Event, regular_pixel, run_to_end, interrupted_run}
use Rattle.jls_pixel.specs.Cells.{CodedSample, regular, interrupting, coded_with, coded_samples, uses_cell, cell_after, cell_before}
use Rattle.jls_pixel.specs.Cells.{is_interrupting, run_cell_after, run_cell_before, run_index_before}
use Rattle.jls_pixel.specs.Code.{sample_bits, bits_of_samples, event_bits}
use Rattle.jls_pixel.specs.Growth.{Fits}
use Rattle.jls_pixel.specs.EventRead.{NoEvent}
use Rattle.jls_pixel.specs.PixelReading.{longest_event}

-- The cells -----------------------------------------------------------------------------------------

-- N and A such that k is at most 16
record AreNarrow (occurrences magnitudes : ℕ) : Type 0 where
  some : 1 ≤ occurrences
  few : magnitudes ≤ 2 ^ 15 * (occurrences + 1)

narrow_k : (n a : ℕ) → AreNarrow n a → golomb_k n a ≤ 16
narrow_k n a h = let s = h.some in let f = h.few in k_at_most n a (golomb_k n a) (omega arith) (golomb_k_found n a h.some)

fold_keeps : {A B : Type 0} (P : A → Type 0) (f : A → B → A) → ((a : A) (b : B) → P a → P (f a b)) → (xs : List B) (a : A) → P a
    → P (fold f a xs)
fold_keeps P f keeps [] a h = h
fold_keeps P f keeps (x ∷ xs) a h = fold_keeps P f keeps xs (f a x) (keeps a x h)

abbrev IsNarrow : Cell → Type 0
IsNarrow cell = AreNarrow cell.occurrences cell.magnitudes

abbrev IsNarrowRun : RunCell → Type 0
IsNarrowRun cell = AreNarrow cell.occurrences cell.magnitudes

-- how large an error is
error_small : (p : CodingParameters) → AreCodingParameters p → (e : ℤ) → IsError p e → unsigned_abs e ≤ 2 ^ 15
error_small p ok (pos n) is = let m = maxval_small p ok in let a = is.at_least in let b = is.below in omega (arith, ints)
error_small p ok (negsuc n) is = let m = maxval_small p ok in let a = is.at_least in let b = is.below in omega (arith, ints)

module _ (p : CodingParameters) (ok : AreCodingParameters p) where
  initial_narrow : IsNarrow (initial_cell p)
  initial_narrow = let m = maxval_small p ok in record { some = omega arith; few = omega arith }

  initial_run_narrow : IsNarrowRun (initial_run_cell p)
  initial_run_narrow = let m = maxval_small p ok in record { some = omega arith; few = omega arith }

  computed_narrow : (cell : Cell) → IsNarrow cell → IsNarrow (bias_computed cell)
  computed_narrow cell n =
      elim (cases_Bool (int_le cell.bias (neg_ℤ (pos cell.occurrences)))) [
        | inl h ↦ rw h (record { some = n.some; few = n.few })
        | inr h ↦
            elim (cases_Bool (int_lt (pos 0) cell.bias)) [
              | inl k ↦ rw (h, k) (record { some = n.some; few = n.few })
              | inr k ↦ rw (h, k) (record { some = n.some; few = n.few })
            ]
      ]

  updated_narrow : (reset : ℕ) (cell : Cell) (e : ℤ) → unsigned_abs e ≤ 2 ^ 15 → IsNarrow cell → IsNarrow (updated reset cell e)
  updated_narrow reset cell e small n =
      let some = n.some in let few = n.few in
      elim (cases_eq cell.occurrences reset) [
        | inl same ↦
            (let aged : Cell = record {
              magnitudes = (cell.magnitudes + unsigned_abs e) / 2;
              occurrences = cell.occurrences / 2 + 1;
              bias = int_div_euclid (cell.bias +ℤ e) (pos 2);
              correction = cell.correction;
            } in
            subst IsNarrow (updated-aged reset cell e aged same refl refl refl refl)
            (computed_narrow aged (record { some = omega arith; few = omega arith })))
        | inr other ↦
            (let grown : Cell = record {
              magnitudes = cell.magnitudes + unsigned_abs e;
              occurrences = cell.occurrences + 1;
              bias = cell.bias +ℤ e;
              correction = cell.correction;
            } in
            subst IsNarrow (updated-grown reset cell e grown other refl refl refl refl)
            (computed_narrow grown (record { some = omega arith; few = omega arith })))
      ]

  run_updated_narrow : (reset : ℕ) (cell : RunCell) (e : ℤ) → IsError p e → IsNarrowRun cell → IsNarrowRun (run_updated reset false cell e)
  unfolding run_updated
  run_updated_narrow reset cell e is n =
      let some = n.some in let few = n.few in let m = maxval_small p ok in let at_most = interruption_mapped_at_most p false cell e is in
      elim (cases_eq cell.occurrences reset) [
        | inl same ↦
            (let test : eqb cell.occurrences reset ≡ true = eq-eqb cell.occurrences reset same in
            rw test (record { some = omega arith; few = omega arith }))
        | inr other ↦
            (let test : eqb cell.occurrences reset ≡ false = ne_eqb cell.occurrences reset other in
            rw test (record { some = omega arith; few = omega arith }))
      ]

  cell_after_narrow : (cell : Cell) (x : CodedSample) → IsNarrow cell → IsNarrow (cell_after p cell x)
  cell_after_narrow cell (regular near s) n =
      updated_narrow p.reset cell (regular_error p cell near s)
      (error_small p ok _ (error_range p (is_negative p near) s (regular_prediction p cell near))) n
  cell_after_narrow cell (interrupting near s) n = n

  run_cell_after_narrow : (cell : RunCell) (x : CodedSample) → IsNarrowRun cell → IsNarrowRun (run_cell_after p cell x)
  run_cell_after_narrow cell (regular near s) n = n
  run_cell_after_narrow cell (interrupting near s) n =
      run_updated_narrow p.reset cell (interruption_error p near s) (error_range p (ltb near.rb near.ra) s near.rb) n

  before_narrow : (earlier : List CodedSample) (q : ℕ) → IsNarrow (cell_before p earlier q)
  unfolding cell_before
  before_narrow earlier q =
      fold_keeps IsNarrow (cell_after p) cell_after_narrow (filter (uses_cell p q) earlier) (initial_cell p) initial_narrow

  run_before_narrow : (earlier : List CodedSample) → IsNarrowRun (run_cell_before p earlier)
  unfolding run_cell_before
  run_before_narrow earlier =
      fold_keeps IsNarrowRun (run_cell_after p) run_cell_after_narrow (filter is_interrupting earlier) (initial_run_cell p)
      initial_run_narrow

  -- Codes -------------------------------------------------------------------------------------------

  golomb_few : (k g q m : ℕ) → k ≤ 16 → q ≤ 16 → g ≤ 64 → length (golomb k g q m) ≤ 80
  golomb_few k g q m small narrow short =
      let n = ap length (append-nil (golomb k g q m)) in
      elim (cases_Bool (ltb (m / 2 ^ k) (g - q - 1))) [
        | inl s ↦ (let l = ltb-true (m / 2 ^ k) (g - q - 1) s in let e = ap length (golomb_short k g q m [] s) in
            let a = length-append (replicate (m / 2 ^ k) false) (true ∷ (bits k m ++ [])) in
            let b = length-replicate (m / 2 ^ k) false in
            let c = ap length (append-nil (bits k m)) in let d = length-bits k m in
            omega (arith, n, l, e, a, b, c, d, small, narrow, short))
        | inr s ↦ (let e = ap length (golomb_long k g q m [] s) in
            let a = length-append (replicate (g - q - 1) false) (true ∷ (bits q (m - 1) ++ [])) in
            let b = length-replicate (g - q - 1) false in
            let c = ap length (append-nil (bits q (m - 1))) in let d = length-bits q (m - 1) in
            omega (arith, n, e, a, b, c, d, narrow, short))
      ]

  limits : (limit p ≤ 64) × (qbpp p ≤ 16)
  limits = let few : qbpp p ≤ 0 + 16 = least_low (λ bits. leb (range p) (2 ^ bits)) 16 0 in (omega (arith, few), omega (arith, few))

  sample_few : (order : ℕ) (earlier : List CodedSample) (x : CodedSample) → length (sample_bits p order earlier x) ≤ 80
  unfolding sample_bits
  sample_few order earlier (regular near s) =
      let cell = cell_before p earlier (context p near) in
      golomb_few (golomb_k cell.occurrences cell.magnitudes) (limit p) (qbpp p) (regular_mapped cell (regular_error p cell near s))
      (narrow_k cell.occurrences cell.magnitudes (before_narrow earlier (context p near))) limits.1 limits.0
  sample_few order earlier (interrupting near s) =
      let cell = run_cell_before p earlier in let l = limits.0 in
      golomb_few (golomb_k cell.occurrences cell.magnitudes) (limit p - order - 1) (qbpp p)
      (interruption_mapped false cell (interruption_error p near s))
      (narrow_k cell.occurrences cell.magnitudes (run_before_narrow earlier)) limits.1 (less (limit p) order l)
    where
      less : (l order : ℕ) → l ≤ 64 → l - order - 1 ≤ 64
      less l order h = omega arith

  samples_few : (order : ℕ) (earlier xs : List CodedSample) → length (bits_of_samples p order earlier xs) ≤ 80 * length xs
  unfolding bits_of_samples
  samples_few order earlier [] = omega arith
  samples_few order earlier (x ∷ xs) =
      let a = length-append (sample_bits p order earlier x) (bits_of_samples p order (earlier ++ x ∷ []) xs) in
      let b = sample_few order earlier x in let c = samples_few order (earlier ++ x ∷ []) xs in omega arith

coded_few : (kind : Neighbours → ℕ → CodedSample) (nears : List Neighbours) (pixel : List ℕ)
    → length (coded_with kind nears pixel) ≤ length pixel
coded_few kind [] pixel = omega arith
coded_few kind (near ∷ nears) [] = omega arith
coded_few kind (near ∷ nears) (sample ∷ pixel) = let h = coded_few kind nears pixel in omega arith

-- Runs ----------------------------------------------------------------------------------------------

full_few : (r n : ℕ) → n < 2 ^ 16 → (blocks r n).full_blocks ≤ 32
unfolding blocks full_blocks
full_few r n h =
    let l = least_low (λ m. ltb n (block_columns r (suc m))) (31 + n / 2 ^ 15) 0 in omega arith

end_few : (b : Blocks) → length (run_to_end_bits b) ≤ b.full_blocks + 1
end_few b =
    let z = length-replicate b.full_blocks true in
    elim (cases_Bool (eqb b.remaining 0)) [
      | inl h ↦ rw h (let a = length-append (replicate b.full_blocks true) (let none : List Bool = [] in none) in omega arith)
      | inr h ↦ rw h (let a = length-append (replicate b.full_blocks true) (true ∷ []) in omega arith)
    ]

interrupted_few : (b : Blocks) (rest : List Bool) → length (interrupted_run_bits b rest) ≤ b.full_blocks + 16 + length rest
interrupted_few b rest =
    let low = bits (run_order b.run_index) b.remaining in
    let x = length-append (replicate b.full_blocks true ++ false ∷ low) rest in
    let y = length-append (replicate b.full_blocks true) (false ∷ low) in let z = length-replicate b.full_blocks true in
    let v = length-bits (run_order b.run_index) b.remaining in let j = j_small b.run_index in
    omega (arith, x, y, z, v, j)

-- Events --------------------------------------------------------------------------------------------

module _ (p : CodingParameters) (ok : AreCodingParameters p) (w c : ℕ) (narrow : w < 2 ^ 16) (four : c ≤ 4) (up : RowsAbove)
    (row : List (List ℕ)) (earlier : List Event) where
  event_few : (e : Event) → Fits p w c up row (pixel_neighbours w up row c) e → length (event_bits p earlier e) ≤ longest_event
  unfolding event_bits
  event_few (regular_pixel nears pixel) fits =
      let xs = coded_with regular nears pixel in let few = coded_few regular nears pixel in let count = fits.2.0 in
      let all = samples_few p ok 0 (coded_samples earlier) xs in omega arith
  event_few (run_to_end count) fits =
      let r = run_index_before earlier in let columns = fits.1 in let full = full_few r count (omega arith) in
      let all = end_few (blocks r count) in omega arith
  event_few (interrupted_run count nears pixel) fits =
      let r = run_index_before earlier in let columns = fits.1 in let full = full_few r count (omega arith) in
      let run = blocks r count in let xs = coded_with interrupting nears pixel in let few = coded_few interrupting nears pixel in
      let samples = fits.3.0 in let order = run_order run.run_index in
      let rest = samples_few p ok order (coded_samples earlier) xs in
      let all = interrupted_few run (bits_of_samples p order (coded_samples earlier) xs) in omega arith

  first_part : (xs given more rest : List Bool) → length xs ≤ length given → given ++ more ≡ xs ++ rest
      → (mid : List Bool) × (given ≡ xs ++ mid)
  first_part [] given more rest l e = (given, refl)
  first_part (x ∷ xs) [] more rest l e = absurd (omega arith)
  first_part (x ∷ xs) (g ∷ given) more rest l e =
      let tail : given ++ more ≡ xs ++ rest = cc in let head : g ≡ x = cc in
      let r = first_part xs given more rest (omega arith) tail in (r.0, ap (λ z. z ∷ given) head ∙ ap (λ z. x ∷ z) r.1)

  -- bits that are many, and at whose start no event stands, whatever follows them
  pub no_event_more : (given more : List Bool) → longest_event ≤ length given → NoEvent p w c up row given earlier
      → NoEvent p w c up row (given ++ more) earlier
  no_event_more given more many none e rest fits is =
      let few = event_few e fits in let s = first_part (event_bits p earlier e) given more rest (omega arith) is in
      none e s.0 fits s.1
