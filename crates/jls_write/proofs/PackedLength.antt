-- How many bytes the code of an interval has, at most: the bits of an event are bounded, and there are no more events than samples.
use Rattle.std.proofs.Common.{◌≡◌, ℕ, zero, suc, ◌+◌, ◌-◌, ◌*◌, ◌/◌, ◌^◌, ◌≤◌, ◌<◌, Bool, true, false, eqb, leb, ltb, cond, List, [], ◌∷◌}
use Rattle.std.proofs.Common.{◌++◌, length, replicate, sym, ap, ◌∙◌, ◌%◌, inl, inr, arith, length-append}
use Rattle.std.specs.Prelude.{ℤ, unsigned_abs}
use Rattle.std.specs.List.{AllByRecursion, fold, filter}
use Rattle.std.proofs.lemmas.Bool.{cases_Bool, cases_eq, ltb-true, le-leb}
use Rattle.std.proofs.Math.Nat.{mul-le-mul_right}
use Rattle.std.proofs.lemmas.Int.{ints}
use Rattle.std.proofs.lemmas.List.{length-replicate, append-nil}
use Rattle.jls_values.specs.Params.{CodingParameters, AreCodingParameters, least_from, range, qbpp, limit}
use Rattle.jls_bits.specs.Bits.{bits, width_after, value_of_bits}
use Rattle.jls_bits.specs.Golomb.{golomb, is_short}
use Rattle.jls_bits.specs.Pad.{pad_after}
use Rattle.jls_bits.proofs.NumberBits.{length-bits}
use Rattle.jls_context.specs.declared.regular.Cell.{Cell}
use Rattle.jls_context.specs.declared.interruption.RunCell.{RunCell}
use Rattle.jls_context.specs.Errors.{IsError}
use Rattle.jls_context.specs.Mode.{context, is_negative, is_run_mode}
use Rattle.jls_context.specs.Regular.{golomb_k, with_error, halved, counted, bias_computed, updated, initial_cell, regular_k}
use Rattle.jls_context.specs.Regular.{regular_mapped}
use Rattle.jls_context.specs.Interruption.{run_updated, initial_run_cell, interruption_magnitudes, run_k, interruption_mapped}
use Rattle.jls_context.proofs.BiasSteps.{by_steps}
use Rattle.jls_context.proofs.Samples.{error_range}
use Rattle.jls_context.proofs.Sizes.{maxval_small, interruption_mapped_at_most}
use Rattle.jls_interval.specs.Events.{Event, regular, run_to_end, interrupted_run, Above, neighbours, run_stop, stretch, events_from}
use Rattle.jls_interval.specs.Events.{events_after, above, line_events}
use Rattle.jls_interval.specs.Cells.{regular_error, regular_prediction, cell_after, cell_before, uses_cell, run_cell_after, run_cell_before}
use Rattle.jls_interval.specs.Cells.{uses_run_cell, is_same, interruption_error}
use Rattle.jls_interval.specs.Runs.{run_order, block_columns, full_blocks, blocks, run_index_before}
use Rattle.jls_interval.specs.Code.{event_bits, bits_of_events, code}
use Rattle.jls_interval.specs.Reads.{packed}
use Rattle.jls_interval.proofs.EventsApart.{j_small}
use Rattle.jls_interval.proofs.LeastPassing.{least_low}

-- ---- bytes

-- the pad of some bits has at most one byte more than bits
pad_at_most : (before : ℕ) (pending given : List Bool) → length (pad_after before pending given) ≤ length given + 1
unfolding pad_after
pad_at_most before [] [] = elim (cases_Bool (eqb before 0xFF)) [ inl e ↦ rw e (omega arith) | inr e ↦ rw e (omega arith) ]
pad_at_most before (p ∷ ps) [] = omega arith
pad_at_most before pending (b ∷ bs) =
    elim (cases_Bool (eqb (length pending + 1) (width_after before))) [
      | inl e ↦ rw e (let rest = pad_at_most (value_of_bits (pending ++ b ∷ [])) [] bs in omega (arith, rest))
      | inr e ↦ rw e (let rest = pad_at_most before (pending ++ b ∷ []) bs in omega (arith, rest))
    ]

-- ---- codes of numbers

-- a Golomb code has at most g + k + qbpp + 1 bits
golomb_at_most : (k g q m : ℕ) → length (golomb k g q m) ≤ g + k + q + 1
unfolding golomb
golomb_at_most k g q m =
    elim (cases_Bool (is_short k g q m)) [
      | inl e ↦ rw e (let few = ltb-true (m / 2 ^ k) (g - q - 1) e in
          let both = length-append (replicate (m / 2 ^ k) false) (true ∷ bits k m) in let zeros = length-replicate (m / 2 ^ k) false in
          let low = length-bits k m in omega (arith, few, both, zeros, low))
      | inr e ↦ rw e (let both = length-append (replicate (g - q - 1) false) (true ∷ bits q (m - 1)) in
          let zeros = length-replicate (g - q - 1) false in let low = length-bits q (m - 1) in omega (arith, both, zeros, low))
    ]

-- the least number that passes is at most each number that passes
least_at_most : (passes : ℕ → Bool) (count from j : ℕ) → from ≤ j → passes j ≡ true → least_from passes count from ≤ j
unfolding least_from
least_at_most passes zero from j low here = low
least_at_most passes (suc count) from j low here =
    elim (cases_Bool (passes from)) [
      | inl e ↦ rw e low
      | inr e ↦ rw e (least_at_most passes count (suc from) j
          (elim (cases_eq from j) [
            | inl same ↦ absurd (let both : true ≡ false = sym here ∙ ap passes (sym same) ∙ e in cc)
            | inr other ↦
                omega arith
          ]) here)
    ]

-- k is small where A is
k_at_most : (n a b : ℕ) → 1 ≤ n → a ≤ 2 ^ b → golomb_k n a ≤ b
unfolding golomb_k
k_at_most n a b some small =
    let more : 1 * 2 ^ b ≤ n * 2 ^ b = mul-le-mul_right (2 ^ b) some in
    least_at_most (λ k. leb a (n * 2 ^ k)) a 0 b (omega arith) (le-leb a (n * 2 ^ b) (omega (arith, small, more)))

-- ---- cells

error_at_most : (p : CodingParameters) (e : ℤ) → p.maxval < 2 ^ 16 → IsError p e → unsigned_abs e ≤ 2 ^ 16
error_at_most p e small is = omega (arith, ints, small, is.at_least, is.below)

-- the bias computation leaves A and N as they are
sums_stay : (cell : Cell) → ((bias_computed cell).magnitudes ≡ cell.magnitudes) × ((bias_computed cell).occurrences ≡ cell.occurrences)
sums_stay cell = let e = sym (by_steps cell) in (ap (λ (x : Cell). x.magnitudes) e, ap (λ (x : Cell). x.occurrences) e)

-- an error adds at most so much to A
updated_grows : (reset : ℕ) (cell : Cell) (e : ℤ) → unsigned_abs e ≤ 2 ^ 16
    → (1 ≤ (updated reset cell e).occurrences) × ((updated reset cell e).magnitudes ≤ cell.magnitudes + 2 ^ 17)
unfolding updated
updated_grows reset cell e small =
    elim (cases_Bool (eqb cell.occurrences reset)) [
      | inl same ↦ (let stay = sums_stay (counted (halved (with_error cell e))) in
          rw (same, stay.0, stay.1) (omega arith, omega (arith, small)))
      | inr other ↦ (let stay = sums_stay (counted (with_error cell e)) in rw (other, stay.0, stay.1) (omega arith, omega (arith, small)))
    ]

-- an update of a run cell adds at most 2^17 to A, and at most 1 to N
run_updated_grows : (reset : ℕ) (same : Bool) (cell : RunCell) (e : ℤ) → interruption_mapped same cell e ≤ 2 ^ 16
    → (1 ≤ (run_updated reset same cell e).occurrences) × ((run_updated reset same cell e).magnitudes ≤ cell.magnitudes + 2 ^ 17)
    × ((run_updated reset same cell e).occurrences ≤ cell.occurrences + 1)
unfolding run_updated
run_updated_grows reset same cell e small =
    elim (cases_Bool (eqb cell.occurrences reset)) [
      | inl at ↦ rw at (omega arith, omega (arith, small), omega arith)
      | inr other ↦
          rw other (omega arith, omega (arith, small), omega arith)
    ]

-- TEMP is at most A and N together
temp_at_most : (same : Bool) (cell : RunCell) (a b : ℕ) → cell.magnitudes ≤ a → cell.occurrences ≤ b
    → interruption_magnitudes same cell ≤ a + b
temp_at_most true cell a b h k = omega arith
temp_at_most false cell a b h k = omega arith

module _ (p : CodingParameters) (small : p.maxval < 2 ^ 16) where
  -- an event adds at most 2^17 to A of a cell of regular mode
  regular_grows : (cell : Cell) (e : Event) → 1 ≤ cell.occurrences
      → (1 ≤ (cell_after p cell e).occurrences) × ((cell_after p cell e).magnitudes ≤ cell.magnitudes + 2 ^ 17)
  regular_grows cell (regular near sample) some =
      updated_grows p.reset cell (regular_error p cell near sample)
      (error_at_most p (regular_error p cell near sample) small
      (error_range p (is_negative p near) sample (regular_prediction p cell near)))
  regular_grows cell (run_to_end component count) some = (some, omega arith)
  regular_grows cell (interrupted_run component count near sample) some = (some, omega arith)

  -- some events add at most 2^17 each to A of a cell of regular mode
  cells_grow : (cell : Cell) (events : List Event) → 1 ≤ cell.occurrences
      → (1 ≤ (fold (cell_after p) cell events).occurrences)
      × ((fold (cell_after p) cell events).magnitudes ≤ cell.magnitudes + length events * 2 ^ 17)
  cells_grow cell [] some = (some, omega arith)
  cells_grow cell (e ∷ events) some =
      let one = regular_grows cell e some in
      let rest = cells_grow (cell_after p cell e) events one.0 in
      (rest.0, omega (arith, one.1, rest.1))

  -- an event adds at most 2^17 to A of a run cell, and at most 1 to N
  run_grows : (same : Bool) (cell : RunCell) (e : Event) → 1 ≤ cell.occurrences
      → (1 ≤ (run_cell_after p same cell e).occurrences) × ((run_cell_after p same cell e).magnitudes ≤ cell.magnitudes + 2 ^ 17)
      × ((run_cell_after p same cell e).occurrences ≤ cell.occurrences + 1)
  run_grows same cell (regular near sample) some = (some, omega arith, omega arith)
  run_grows same cell (run_to_end component count) some = (some, omega arith, omega arith)
  run_grows same cell (interrupted_run component count near sample) some =
      let most = interruption_mapped_at_most p same cell (interruption_error p near sample)
      (error_range p (ltb near.rb near.ra) sample near.rb) in
      run_updated_grows p.reset same cell (interruption_error p near sample) (omega (arith, most, small))

  -- some events add at most 2^17 each to A of a run cell, and at most 1 each to N
  run_cells_grow : (same : Bool) (cell : RunCell) (events : List Event) → 1 ≤ cell.occurrences
      → (1 ≤ (fold (run_cell_after p same) cell events).occurrences)
      × ((fold (run_cell_after p same) cell events).magnitudes ≤ cell.magnitudes + length events * 2 ^ 17)
      × ((fold (run_cell_after p same) cell events).occurrences ≤ cell.occurrences + length events)
  run_cells_grow same cell [] some = (some, omega arith, omega arith)
  run_cells_grow same cell (e ∷ events) some =
      let one = run_grows same cell e some in
      let rest = run_cells_grow same (run_cell_after p same cell e) events one.0 in
      (rest.0, omega (arith, one.1, rest.1), omega (arith, one.2, rest.2))

  -- a filtered list is no longer
  filtered : (q : Event → Bool) (events : List Event) → length (filter q events) ≤ length events
  filtered q [] = omega arith
  filtered q (x ∷ events) =
      let rest = filtered q events in
      elim (cases_Bool (q x)) [ inl e ↦ rw e (omega (arith, rest)) | inr e ↦ rw e (omega (arith, rest)) ]

  -- k of a cell, where there are so many events
  regular_k_at_most : (earlier : List Event) (q : ℕ) → length earlier ≤ 2 ^ 28 → regular_k (cell_before p earlier q) ≤ 46
  unfolding cell_before
  regular_k_at_most earlier q few =
      let grown = cells_grow (initial_cell p) (filter (uses_cell p q) earlier) (omega arith) in
      let fewer = filtered (uses_cell p q) earlier in
      k_at_most (fold (cell_after p) (initial_cell p) (filter (uses_cell p q) earlier)).occurrences
      (fold (cell_after p) (initial_cell p) (filter (uses_cell p q) earlier)).magnitudes 46 grown.0
      (omega (arith, grown.1, fewer, few, small))

  -- after at most 2^28 events, k of a run interruption is at most 46
  run_k_at_most : (earlier : List Event) (same : Bool) → length earlier ≤ 2 ^ 28 → run_k same (run_cell_before p earlier same) ≤ 46
  unfolding run_cell_before
  run_k_at_most earlier same few =
      let cell = fold (run_cell_after p same) (initial_run_cell p) (filter (uses_run_cell same) earlier) in
      let grown = run_cells_grow same (initial_run_cell p) (filter (uses_run_cell same) earlier) (omega arith) in
      let fewer = filtered (uses_run_cell same) earlier in
      let temp = temp_at_most same cell (2 ^ 45 + 2 ^ 17) (2 ^ 28 + 1) (omega (arith, grown.1, fewer, few, small))
      (omega (arith, grown.2, fewer, few)) in
      k_at_most cell.occurrences (interruption_magnitudes same cell) 46 grown.0 (omega (arith, temp))

-- ---- events

-- a run of at most so many columns
abbrev IsWithin : ℕ → Event → Type 0
IsWithin width (regular near sample) = Unit {0}
IsWithin width (run_to_end component count) = count ≤ width
IsWithin width (interrupted_run component count near sample) = count ≤ width

limit_at_most : (p : CodingParameters) → (limit p ≤ 64) × (qbpp p ≤ 16)
limit_at_most p = let few : qbpp p ≤ 0 + 16 = least_low (λ bits. leb (range p) (2 ^ bits)) 16 0 in (omega (arith, few), omega (arith, few))

-- a run of fewer than 2^16 columns has at most 32 full blocks
blocks_at_most : (r count : ℕ) → count < 2 ^ 16 → (blocks r count).full_blocks ≤ 32
unfolding blocks full_blocks
blocks_at_most r count few =
    let most = least_low (λ blocks. ltb count (block_columns r (suc blocks))) (31 + count / 2 ^ 15) 0 in
    omega (arith, most, few)

-- after at most 2^28 events, the bits of an event are at most 200
event_at_most : (p : CodingParameters) → p.maxval < 2 ^ 16 → (width : ℕ) → width < 2 ^ 16 → (earlier : List Event) (e : Event)
    → length earlier ≤ 2 ^ 28 → IsWithin width e → length (event_bits p earlier e) ≤ 200
unfolding event_bits
event_at_most p small width narrow earlier (regular near sample) few within =
    let code = golomb_at_most (regular_k (cell_before p earlier (context p near))) (limit p) (qbpp p)
    (regular_mapped (cell_before p earlier (context p near)) (regular_error p (cell_before p earlier (context p near)) near sample)) in
    let k = regular_k_at_most p small earlier (context p near) few in
    let limits = limit_at_most p in
    omega (arith, code, k, limits)
event_at_most p small width narrow earlier (run_to_end component count) few within =
    let run = blocks (run_index_before earlier component) count in
    let full = blocks_at_most (run_index_before earlier component) count (omega (arith, narrow, within)) in
    let ones = length-replicate {A = Bool} run.full_blocks true in
    let both = length-append (replicate run.full_blocks true) (cond (eqb run.remaining 0) [] (true ∷ [])) in
    elim (cases_Bool (eqb run.remaining 0)) [
      | inl e ↦ rw e (simp append-nil (omega (arith, full, ones)))
      | inr e ↦
          rw e (let more = length-append (replicate run.full_blocks true) (true ∷ []) in omega (arith, full, ones, more))
    ]
event_at_most p small width narrow earlier (interrupted_run component count near sample) few within =
    let run = blocks (run_index_before earlier component) count in
    let full = blocks_at_most (run_index_before earlier component) count (omega (arith, narrow, within)) in
    let cell = run_cell_before p earlier (is_same near) in
    let j = run_order run.run_index in
    let rest = golomb_at_most (run_k (is_same near) cell) (limit p - j - 1) (qbpp p)
    (interruption_mapped (is_same near) cell (interruption_error p near sample)) in
    let k = run_k_at_most p small earlier (is_same near) few in
    let limits = limit_at_most p in
    let order = j_small run.run_index in
    let ones = length-replicate {A = Bool} run.full_blocks true in
    let low = length-bits j run.remaining in
    let code = golomb (run_k (is_same near) cell) (limit p - j - 1) (qbpp p)
    (interruption_mapped (is_same near) cell (interruption_error p near sample)) in
    let a = length-append (replicate run.full_blocks true) (false ∷ bits j run.remaining) in
    let b = length-append (replicate run.full_blocks true ++ false ∷ bits j run.remaining) code in
    omega (arith, a, b, rest, k, limits, order, ones, low, full)

-- at most 2^28 events have at most 200 bits each
bits_at_most : (p : CodingParameters) → p.maxval < 2 ^ 16 → (width : ℕ) → width < 2 ^ 16 → (earlier events : List Event)
    → length earlier + length events ≤ 2 ^ 28 → AllByRecursion (IsWithin width) events
    → length (bits_of_events p earlier events) ≤ length events * 200
unfolding bits_of_events
bits_at_most p small width narrow earlier [] few within = omega arith
bits_at_most p small width narrow earlier (e ∷ events) few within =
    let here = event_at_most p small width narrow earlier e (omega (arith, few)) within.0 in
    let size = length-append earlier (e ∷ []) in
    let rest = bits_at_most p small width narrow (earlier ++ e ∷ []) events (omega (arith, few, size)) within.1 in
    let both = length-append (event_bits p earlier e) (bits_of_events p (earlier ++ e ∷ []) events) in
    omega (arith, here, rest, both)

-- a line has no more events than columns, and no run is longer than the line
stretch_within : (width component : ℕ) (up : Above) (line : List ℕ) (x : ℕ) → IsWithin width (stretch width component up line x).event
stretch_within width component up line x =
    let near = neighbours width up line x in
    let stop = run_stop line near.ra x in
    elim (cases_Bool (is_run_mode near)) [
      | inl run ↦ elim (cases_Bool (ltb stop width)) [
        | inl inside ↦ rw (run, inside) (let below = ltb-true stop width inside in omega (arith, below))
        | inr to_end ↦
            rw (run, to_end) (omega arith)
      ]
      | inr other ↦ rw other tt
    ]

-- a line has no more events than columns that are gone through, and each fits the width
line_at_most : (width component : ℕ) (up : Above) (line : List ℕ) (fuel x : ℕ)
    → (length (events_from (stretch width component up line) width fuel x) ≤ fuel)
    × AllByRecursion (IsWithin width) (events_from (stretch width component up line) width fuel x)
unfolding events_from
line_at_most width component up line zero x = (omega arith, tt)
line_at_most width component up line (suc fuel) x =
    let rest = line_at_most width component up line fuel (stretch width component up line x).next in
    elim (cases_Bool (ltb x width)) [
      | inl inside ↦ rw inside (omega (arith, rest.0), (stretch_within width component up line x, rest.1))
      | inr done ↦
          rw done (omega arith, tt)
    ]

all_on : (P : Event → Type 0) (xs ys : List Event) → AllByRecursion P xs → AllByRecursion P ys → AllByRecursion P (xs ++ ys)
all_on P [] ys h k = k
all_on P (x ∷ xs) ys h k = (h.0, all_on P xs ys h.1 k)

-- some lines have no more events than samples, and each fits the width
lines_at_most : (width components : ℕ) (before lines : List (List ℕ))
    → (length (events_after width components before lines) ≤ length lines * width)
    × AllByRecursion (IsWithin width) (events_after width components before lines)
unfolding events_after
lines_at_most width components before [] = (omega arith, tt)
lines_at_most width components before (line ∷ lines) =
    let here = line_at_most width (length before % components) (above components before) line width 0 in
    let rest = lines_at_most width components (before ++ line ∷ []) lines in
    let both = length-append (line_events width (length before % components) (above components before) line)
    (events_after width components (before ++ line ∷ []) lines) in
    let more : length (line ∷ lines) * width ≡ width + length lines * width = omega arith in (
      omega (arith, here.0, rest.0, both, more),
      all_on (IsWithin width) (line_events width (length before % components) (above components before) line)
          (events_after width components (before ++ line ∷ []) lines) here.1 rest.1,
    )

-- the code of an interval has at most 2^38 bytes
pub packed_at_most : (p : CodingParameters) (width components : ℕ) (lines : List (List ℕ)) → AreCodingParameters p → width < 2 ^ 16
    → length lines * width ≤ 2 ^ 28
    → length (packed p width components lines) ≤ 2 ^ 38
unfolding code
packed_at_most p width components lines are narrow few =
    let all = lines_at_most width components [] lines in
    let given = bits_at_most p (maxval_small p are) width narrow [] (events_after width components [] lines) (omega (arith, all.0, few))
    all.1 in
    let bytes = pad_at_most 0 [] (bits_of_events p [] (events_after width components [] lines)) in
    omega (arith, all.0, few, given, bytes)
