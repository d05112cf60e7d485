-- After the same earlier events no event's bits begin another's.
use Rattle.std.proofs.Common.{◌≡◌, ℕ, ◌+◌, ◌-◌, ◌*◌, ◌^◌, ◌<◌, ◌≤◌, Bool, true, false, ltb, List, [], ◌∷◌, ◌++◌, length, replicate}
use Rattle.std.proofs.Common.{refl, sym, ap, ◌∙◌, subst, arith, append_assoc}
use Rattle.std.specs.Prelude.{unsigned_abs}
use Rattle.std.specs.List.{AllByRecursion, fold}
use Rattle.std.proofs.lemmas.List.{append_cancel_left}
use Rattle.jls_values.specs.Params.{CodingParameters, AreCodingParameters, range, qbpp, limit}
use Rattle.jls_bits.specs.Bits.{bits}
use Rattle.jls_bits.specs.Golomb.{golomb}
use Rattle.jls_context.specs.declared.mode.Neighbours.{Neighbours}
use Rattle.jls_context.specs.declared.interruption.RunCell.{RunCell}
use Rattle.jls_context.specs.Mode.{context}
use Rattle.jls_context.specs.Interruption.{run_k, interruption_mapped, one_if, maps_positive, mapped_by_sign}
use Rattle.jls_context.proofs.Samples.{error_range, sample_same}
use Rattle.jls_context.proofs.Sizes.{maxval_small, range-le-pow, interruption_mapped_at_most}
use Rattle.jls_interval.specs.Cells.{interruption_error}
use Rattle.jls_interval.specs.Runs.{run_order, blocks}
use Rattle.jls_interval.specs.Code.{interrupted_run_bits}
use Rattle.jls_interval.specs.Stepwise.{IsPrefixFree}
use Rattle.jls_interval.proofs.Golomb.{golomb_same}
use Rattle.jls_interval.proofs.MappedErrors.{interruption_mapped_same}
use Rattle.jls_interval.proofs.EventsApart.{has_from, limit_room, j_small, regular_same, run_map_is, true_false}
use Rattle.jls_interval.proofs.Runs.{run_index_small, run_apart, run_same}
use Rattle.jls_interval.proofs.StepwiseCodes.{regroup}
use Rattle.jls_pixel.specs.Pixels.{IsPixel, RowsAbove, rows_above, pixel_neighbours, is_run_pixel, run_value}
use Rattle.jls_pixel.specs.Events.{Event, regular_pixel, run_to_end, interrupted_run}
use Rattle.jls_pixel.specs.Cells.{CodedSample, regular, interrupting, coded_with, coded_samples, cell_before, run_cell_before}
use Rattle.jls_pixel.specs.Cells.{run_index_after}
use Rattle.jls_pixel.specs.Cells.{run_index_before}
use Rattle.jls_pixel.specs.Code.{sample_bits, bits_of_samples, event_bits}
use Rattle.jls_pixel.specs.Growth.{Fits, pixel_steps}
use Rattle.jls_pixel.proofs.PixelLists.{SmallNear, nears_small, nears_length, back_small, all_append, all_replicate, value_is_pixel}

-- RUNindex stays within its table
pub run_index_before_small : (earlier : List Event) → run_index_before earlier ≤ 31
unfolding run_index_before
run_index_before_small earlier = kept earlier 0 (omega arith)
  where
    kept : (es : List Event) (r : ℕ) → r ≤ 31 → fold run_index_after r es ≤ 31
    kept [] r h = h
    kept (regular_pixel nears pixel ∷ es) r h = kept es r h
    kept (run_to_end n ∷ es) r h = kept es (blocks r n).run_index (run_index_small r n)
    kept (interrupted_run n nears pixel ∷ es) r h = kept es ((blocks r n).run_index - 1) (let q = run_index_small r n in omega arith)

-- the number of a sample of an interrupting pixel gives the sample
pub interrupting_same : (p : CodingParameters) (cell : RunCell) (near : Neighbours) (g s s' : ℕ) (t u : List Bool)
    → range p ≤ 2 ^ qbpp p → qbpp p + 2 ≤ g → near.rb ≤ p.maxval → s ≤ p.maxval → s' ≤ p.maxval
    → golomb (run_k false cell) g (qbpp p) (interruption_mapped false cell (interruption_error p near s)) ++ t
    ≡ golomb (run_k false cell) g (qbpp p) (interruption_mapped false cell (interruption_error p near s')) ++ u
    → s ≡ s'
interrupting_same p cell near g s s' t u r room x a b e =
    let neg = ltb near.rb near.ra in let turn = maps_positive false cell in
    let v = interruption_error p near s in let v' = interruption_error p near s' in
    let m : interruption_mapped false cell v ≡ mapped_by_sign false turn v =
    ap (λ z. 2 * unsigned_abs v - one_if false - one_if z) (run_map_is false cell v) in
    let m' : interruption_mapped false cell v' ≡ mapped_by_sign false turn v' =
    ap (λ z. 2 * unsigned_abs v' - one_if false - one_if z) (run_map_is false cell v') in
    let l = interruption_mapped_at_most p false cell v (error_range p neg s near.rb) in
    let l' = interruption_mapped_at_most p false cell v' (error_range p neg s' near.rb) in
    let h = golomb_same (run_k false cell) g (qbpp p) (interruption_mapped false cell v) (interruption_mapped false cell v') t u
    (has_from (run_k false cell) g (qbpp p) (interruption_mapped false cell v) room (omega arith))
    (has_from (run_k false cell) g (qbpp p) (interruption_mapped false cell v') room (omega arith)) e in
    sample_same p neg s s' near.rb a b x
    (interruption_mapped_same false turn v v' (λ i. absurd (false_true i)) (sym m ∙ h.0 ∙ m'))
  where
    false_true : false ≡ true → ⊥
    false_true e = cc

cons_same : {X : Type 0} (x y : X) (xs ys : List X) → x ≡ y → xs ≡ ys → x ∷ xs ≡ y ∷ ys
cons_same x y xs ys e f = cc

-- samples of one kind, each of which can be told from its bits
abbrev pub CanBeTold : CodingParameters → ℕ → (Neighbours → ℕ → CodedSample) → Type 0
CanBeTold p order kind =
    (earlier : List CodedSample) (near : Neighbours) (s s' : ℕ) (t u : List Bool) → SmallNear p near → s ≤ p.maxval → s' ≤ p.maxval
    → sample_bits p order earlier (kind near s) ++ t ≡ sample_bits p order earlier (kind near s') ++ u → s ≡ s'

pub told_regular : (p : CodingParameters) (order : ℕ) → range p ≤ 2 ^ qbpp p → CanBeTold p order regular
unfolding sample_bits
told_regular p order wide earlier near s s' t u small a b e =
    regular_same p (cell_before p earlier (context p near)) near s s' t u wide a b e

pub told_interrupting : (p : CodingParameters) (order : ℕ) → range p ≤ 2 ^ qbpp p → order ≤ 15 → CanBeTold p order interrupting
unfolding sample_bits
told_interrupting p order wide few earlier near s s' t u small a b e =
    interrupting_same p (run_cell_before p earlier) near (limit p - order - 1) s s' t u wide (limit_room p order few) small.rb a b e

-- the bits of a pixel's samples give the pixel, and the bits after them
pub samples_same : (p : CodingParameters) (order : ℕ) (kind : Neighbours → ℕ → CodedSample) → CanBeTold p order kind
    → (nears : List Neighbours) (xs ys : List ℕ) (earlier : List CodedSample) (t u : List Bool) → AllByRecursion (SmallNear p) nears
    → length xs ≡ length nears → length ys ≡ length nears → AllByRecursion (λ s. s ≤ p.maxval) xs
    → AllByRecursion (λ s. s ≤ p.maxval) ys
    → bits_of_samples p order earlier (coded_with kind nears xs) ++ t ≡ bits_of_samples p order earlier (coded_with kind nears ys) ++ u
    → (xs ≡ ys) × (t ≡ u)
unfolding bits_of_samples
samples_same p order kind told [] [] [] earlier t u small lx ly a b e = (refl, e)
samples_same p order kind told [] (x ∷ xs) ys earlier t u small lx ly a b e = absurd (omega arith)
samples_same p order kind told [] [] (y ∷ ys) earlier t u small lx ly a b e = absurd (omega arith)
samples_same p order kind told (near ∷ nears) [] ys earlier t u small lx ly a b e = absurd (omega arith)
samples_same p order kind told (near ∷ nears) (x ∷ xs) [] earlier t u small lx ly a b e = absurd (omega arith)
samples_same p order kind told (near ∷ nears) (x ∷ xs) (y ∷ ys) earlier t u small lx ly a b e =
    let rest : ℕ → List ℕ → List Bool = λ s ss. bits_of_samples p order (earlier ++ kind near s ∷ []) (coded_with kind nears ss) in
    let flat : sample_bits p order earlier (kind near x) ++ (rest x xs ++ t) ≡ sample_bits p order earlier (kind near y)
    ++ (rest y ys ++ u) =
    regroup (sample_bits p order earlier (kind near x)) (rest x xs) t (sample_bits p order earlier (kind near y)) (rest y ys) u e in
    let h : x ≡ y = told earlier near x y (rest x xs ++ t) (rest y ys ++ u) small.0 a.0 b.0 flat in
    let onto : sample_bits p order earlier (kind near y) ++ (rest y xs ++ t) ≡ sample_bits p order earlier (kind near y)
    ++ (rest y ys ++ u) =
    subst (λ z. sample_bits p order earlier (kind near z) ++ (rest z xs ++ t) ≡ sample_bits p order earlier (kind near y)
    ++ (rest y ys ++ u)) h
    flat in
    let r = samples_same p order kind told nears xs ys (earlier ++ kind near y ∷ []) t u small.1 (omega arith) (omega arith) a.1 b.1
    (append_cancel_left (sample_bits p order earlier (kind near y)) (rest y xs ++ t) (rest y ys ++ u) onto) in
    (cons_same x y xs ys h r.0, r.1)

-- the bits of a run that is interrupted, with what follows them
pub interrupted_then : (p : CodingParameters) (earlier : List Event) (n : ℕ) (nears : List Neighbours) (pixel : List ℕ) (t : List Bool)
    → event_bits p earlier (interrupted_run n nears pixel) ++ t
    ≡ interrupted_run_bits (blocks (run_index_before earlier) n)
    (bits_of_samples p (run_order (blocks (run_index_before earlier) n).run_index) (coded_samples earlier)
    (coded_with interrupting nears pixel) ++ t)
unfolding event_bits
interrupted_then p earlier n nears pixel t =
    let run = blocks (run_index_before earlier) n in
    append_assoc (replicate run.full_blocks true ++ false ∷ bits (run_order run.run_index) run.remaining)
    (bits_of_samples p (run_order run.run_index) (coded_samples earlier) (coded_with interrupting nears pixel)) t

module _ (p : CodingParameters) (wide : range p ≤ 2 ^ qbpp p) (w c : ℕ) (up : RowsAbove)
    (above_small : AllByRecursion (IsPixel p c) up.row_above) (row : List (List ℕ))
    (row_small : AllByRecursion (IsPixel p c) row) (earlier : List Event) where
  abbrev now : List Neighbours
  now = pixel_neighbours w up row c

  abbrev Possible : Event → Type 0
  Possible e = Fits p w c up row now e

  regular_case : (x y : List ℕ) (t u : List Bool) → IsPixel p c x → IsPixel p c y
      → event_bits p earlier (regular_pixel now x) ++ t ≡ event_bits p earlier (regular_pixel now y) ++ u → x ≡ y
  unfolding event_bits
  regular_case x y t u a b e =
      let l = nears_length w up row c in
      (samples_same p 0 regular (told_regular p 0 wide) now x y (coded_samples earlier) t u (nears_small p c w up above_small row row_small)
      (a.0 ∙ sym l) (b.0 ∙ sym l) a.1 b.1 e).0

  apart_case : (n m : ℕ) (nears : List Neighbours) (x : List ℕ) (t u : List Bool) → n < m
      → event_bits p earlier (interrupted_run n nears x) ++ t ≡ event_bits p earlier (run_to_end m) ++ u → ⊥
  unfolding event_bits
  apart_case n m nears x t u h e =
      run_apart n (run_index_before earlier) n m _ u (run_index_before_small earlier) (omega arith) h
      (sym (interrupted_then p earlier n nears x t) ∙ e)

  -- the neighbours of the pixel that interrupts a run of so many
  abbrev there : ℕ → List Neighbours
  there n = pixel_neighbours w up (row ++ replicate n (run_value now)) c

  interrupted_case : (n m : ℕ) (x y : List ℕ) (t u : List Bool) → AllByRecursion (SmallNear p) (there n) → IsPixel p c x → IsPixel p c y
      → event_bits p earlier (interrupted_run n (there n) x) ++ t ≡ event_bits p earlier (interrupted_run m (there m) y) ++ u
      → (n ≡ m) × (x ≡ y)
  interrupted_case n m x y t u small a b e =
      let r = run_same n (run_index_before earlier) n m _ _ (run_index_before_small earlier) (omega arith)
      (sym (interrupted_then p earlier n (there n) x t) ∙ e ∙ interrupted_then p earlier m (there m) y u) in
      let order = run_order (blocks (run_index_before earlier) n).run_index in
      let l = nears_length w up (row ++ replicate n (run_value now)) c in
      let other : bits_of_samples p (run_order (blocks (run_index_before earlier) m).run_index) (coded_samples earlier)
      (coded_with interrupting (there m) y) ++ u
      ≡ bits_of_samples p order (coded_samples earlier) (coded_with interrupting (there n) y) ++ u =
      ap (λ z. bits_of_samples p (run_order (blocks (run_index_before earlier) z).run_index) (coded_samples earlier)
      (coded_with interrupting (there z) y) ++ u) (sym r.0) in (
        r.0,
        (samples_same p order interrupting (told_interrupting p order wide (j_small (blocks (run_index_before earlier) n).run_index))
            (there n) x y (coded_samples earlier) t u small
            (a.0 ∙ sym l) (b.0 ∙ sym l) a.1 b.1 (r.1 ∙ other)).0,
      )

  there_small : (n : ℕ) → AllByRecursion (SmallNear p) (there n)
  there_small n =
      nears_small p c w up above_small (row ++ replicate n (run_value now))
      (all_append (IsPixel p c) row (replicate n (run_value now)) row_small
      (all_replicate (IsPixel p c) n (run_value now) (value_is_pixel p c w up above_small row row_small)))

  regular_event : (n m : List Neighbours) (x y : List ℕ) → n ≡ m → x ≡ y → regular_pixel n x ≡ regular_pixel m y
  regular_event n m x y a b = cc

  interrupted_event : (n m : ℕ) (k l : List Neighbours) (x y : List ℕ) → n ≡ m → k ≡ l → x ≡ y
      → interrupted_run n k x ≡ interrupted_run m l y
  interrupted_event n m k l x y a b d = cc

  pub cases : (e f : Event) (t u : List Bool) → Possible e → Possible f → event_bits p earlier e ++ t ≡ event_bits p earlier f ++ u → e ≡ f
  cases (regular_pixel n x) (regular_pixel m y) t u h j e =
      regular_event n m x y (h.1 ∙ sym j.1)
      (regular_case x y t u h.2 j.2
      (subst (λ z. event_bits p earlier (regular_pixel z x) ++ t ≡ event_bits p earlier (regular_pixel now y) ++ u) h.1
      (subst (λ z. event_bits p earlier (regular_pixel n x) ++ t ≡ event_bits p earlier (regular_pixel z y) ++ u) j.1 e)))
  cases (regular_pixel n x) (run_to_end m) t u h j e = absurd (true_false (is_run_pixel now) j.0 h.0)
  cases (regular_pixel n x) (interrupted_run m k y) t u h j e = absurd (true_false (is_run_pixel now) j.0 h.0)
  cases (run_to_end n) (regular_pixel m y) t u h j e = absurd (true_false (is_run_pixel now) h.0 j.0)
  cases (interrupted_run n k x) (regular_pixel m y) t u h j e = absurd (true_false (is_run_pixel now) h.0 j.0)
  cases (run_to_end n) (run_to_end m) t u h j e =
      let a = h.1 in let b = j.1 in ap run_to_end (let q : n ≡ m = omega arith in q)
  cases (run_to_end n) (interrupted_run m k y) t u h j e =
      let a = h.1 in let b = j.1 in absurd (apart_case m n k y u t (omega arith) (sym e))
  cases (interrupted_run n k x) (run_to_end m) t u h j e =
      let a = h.1 in let b = j.1 in absurd (apart_case n m k x t u (omega arith) e)
  cases (interrupted_run n k x) (interrupted_run m l y) t u h j e =
      let b = interrupted_case n m x y t u (there_small n) h.3 j.3
      (subst (λ z. event_bits p earlier (interrupted_run n z x) ++ t ≡ event_bits p earlier (interrupted_run m (there m) y) ++ u) h.2
      (subst (λ z. event_bits p earlier (interrupted_run n k x) ++ t ≡ event_bits p earlier (interrupted_run m z y) ++ u) j.2 e)) in
      interrupted_event n m k l x y b.0 (h.2 ∙ ap there b.0 ∙ sym j.2) b.1

pub events_apart : (p : CodingParameters) (width components count : ℕ) → AreCodingParameters p
    → IsPrefixFree (pixel_steps p width components count)
events_apart p width components count ok s e f t u sound a b eq =
    cases p (range-le-pow p (maxval_small p ok)) width components (rows_above s.rows) (back_small p components s.rows 1 sound.0) s.row
    sound.1
    s.earlier e f t u a.1 b.1 eq
