-- The blocks of a run, and RUNindex (T.87 A.7.1).
use Rattle.std.specs.Prelude.{ℕ, zero, suc, ◌+◌, ◌-◌, ◌/◌, ◌^◌, min, Bool, false, nat_lt, ◌==◌, List, [], ◌∷◌, get_or}
use Rattle.std.specs.List.{filter, fold}
use Rattle.jls_values.specs.Params.{least_from}
use Rattle.jls_interval.specs.Events.{Event, regular, run_to_end, interrupted_run}

-- J, by RUNindex from 0 to 31 (the table of T.87 A.7.1): a full block has 2^J columns
abbrev pub run_order : ℕ → ℕ
run_order run_index =
    get_or (0 ∷ 0 ∷ 0 ∷ 0 ∷ 1 ∷ 1 ∷ 1 ∷ 1 ∷ 2 ∷ 2 ∷ 2 ∷ 2 ∷ 3 ∷ 3 ∷ 3 ∷ 3 ∷ 4 ∷ 4 ∷ 5 ∷ 5 ∷ 6 ∷ 6 ∷ 7 ∷ 7 ∷ 8 ∷ 9 ∷ 10 ∷ 11 ∷ 12 ∷ 13 ∷ 14
    ∷ 15 ∷ []) run_index 0

-- RUNindex after so many full blocks: it rises by one with each, up to 31 (T.87 A.7.1)
abbrev pub run_index_raised : ℕ → ℕ → ℕ
run_index_raised run_index blocks = min (run_index + blocks) 31

-- RUNindex after an interruption: it falls by one, down to 0 (T.87 A.7.1)
abbrev pub run_index_lowered : ℕ → ℕ
run_index_lowered run_index = run_index - 1

-- the columns that the first so many full blocks of a run have, if it begins at this RUNindex (T.87 A.7.1)
unfoldable pub block_columns : ℕ → ℕ → ℕ
block_columns run_index zero = 0
block_columns run_index (suc blocks) =
    block_columns run_index blocks + 2 ^ run_order (run_index_raised run_index blocks)

-- the number of full blocks in a count of columns: the largest that fits. From the 32nd on each has 2^15 columns, so it is at most 31 +
-- count / 2^15 (T.87 A.7.1)
unfoldable pub full_blocks : ℕ → ℕ → ℕ
full_blocks run_index count =
    least_from (λ blocks. nat_lt count (block_columns run_index (suc blocks))) (31 + count / 2 ^ 15) 0

-- a run's full blocks, RUNindex after them, and the columns that remain (T.87 A.7.1)
pub record Blocks : Type 0 where
  pub full_blocks : ℕ
  pub run_index : ℕ
  pub remaining : ℕ

-- the blocks of a run of so many columns, which begins at this RUNindex (T.87 A.7.1)
unfoldable pub blocks : ℕ → ℕ → Blocks
blocks run_index count =
    let full = full_blocks run_index count in
    record { full_blocks = full; run_index = run_index_raised run_index full; remaining = count - block_columns run_index full }

-- whether an event is a run of a component (T.87 A.7.1)
abbrev pub is_run_of : ℕ → Event → Bool
is_run_of of_component (regular near sample) = false
is_run_of of_component (run_to_end component count) = component == of_component
is_run_of of_component (interrupted_run component count near sample) = component == of_component

-- RUNindex after a run: risen by its full blocks, and then fallen if it is interrupted (T.87 A.7.1)
abbrev pub run_index_after : ℕ → Event → ℕ
run_index_after run_index (regular near sample) = run_index
run_index_after run_index (run_to_end component count) = (blocks run_index count).run_index
run_index_after run_index (interrupted_run component count near sample) =
    run_index_lowered (blocks run_index count).run_index

-- RUNindex of a component before an event, from the earlier runs of the same component. It begins at 0 (T.87 A.7.1, B.2)
unfoldable pub run_index_before : List Event → ℕ → ℕ
run_index_before earlier component = fold run_index_after 0 (filter (is_run_of component) earlier)
