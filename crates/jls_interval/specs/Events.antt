-- The events of an interval: the columns of its finished lines, parted into stretches (T.87 A.3.2 and A.7).
use Rattle.std.specs.Prelude.{◌≡◌, ℕ, zero, suc, ◌+◌, ◌-◌, ◌*◌, ◌/◌, ◌%◌, ◌<◌, true, false, nat_lt, ◌==◌, if◌then◌else◌, List, [], ◌∷◌}
use Rattle.std.specs.Prelude.{◌++◌, length, drop, get_or, pos}
use Rattle.std.specs.List.{prefix_len}
use Rattle.jls_context.specs.declared.mode.Neighbours.{Neighbours}
use Rattle.jls_context.specs.Mode.{is_run_mode}
use Rattle.jls_interval.specs.Lines.{sample_at, neighbours_at}

-- a column in regular mode, a run to the end of its line, or an interrupted run (T.87 A.3.2, A.7)
pub data Event : Type 0 where
  -- one column in regular mode: its neighbours and its sample
  regular : Neighbours → ℕ → Event
  -- a run in a component, of so many columns to the end of the line
  run_to_end : ℕ → ℕ → Event
  -- a run in a component, of so many columns, and then the sample that interrupts it, with its neighbours
  interrupted_run : ℕ → ℕ → Neighbours → ℕ → Event

-- Which events the columns of finished lines are -----------------------------------------------------

-- Line y of a component, in the finished lines of an interval
module _ (width components : ℕ) (lines : List (List ℕ)) (component y : ℕ) where
  -- its sample in column x (T.87 A.3.2, A.7)
  abbrev pub sample_in : ℕ → ℕ
  sample_in x = sample_at components lines component (pos y) x

  -- the neighbours of that column (T.87 A.3.2, A.7)
  abbrev pub neighbours_in : ℕ → Neighbours
  neighbours_in x = neighbours_at width components lines component y x

  -- so many columns from x on hold the value of a run that begins there, which is Ra (T.87 A.3.2, A.7)
  abbrev pub HoldRun : ℕ → ℕ → Type 0
  HoldRun x count = (i : ℕ) → i < count → sample_in (x + i) ≡ (neighbours_in x).ra

  -- column x is in regular mode (T.87 A.3.2, A.7)
  pub record IsRegular (x : ℕ) (near : Neighbours) (sample next : ℕ) : Type 0 where
    pub near_is : near ≡ neighbours_in x
    pub not_run : is_run_mode near ≡ false
    pub sample_is : sample ≡ sample_in x
    pub next_is : next ≡ x + 1

  -- column x is in run mode, and all columns from it on hold the run (T.87 A.3.2, A.7)
  pub record IsRunToEnd (x of_component count next : ℕ) : Type 0 where
    pub component_is : of_component ≡ component
    pub run : is_run_mode (neighbours_in x) ≡ true
    pub to_end : x + count ≡ width
    pub holds : HoldRun x count
    pub next_is : next ≡ width

  -- column x is in run mode, so many columns from it on hold the run, and the one after them does not (T.87 A.3.2, A.7)
  pub record IsInterruptedRun (x of_component count : ℕ) (near : Neighbours) (sample next : ℕ) : Type 0 where
    pub component_is : of_component ≡ component
    pub run : is_run_mode (neighbours_in x) ≡ true
    pub within : x + count < width
    pub holds : HoldRun x count
    pub near_is : near ≡ neighbours_in (x + count)
    pub sample_is : sample ≡ sample_in (x + count)
    pub interrupts : sample ≡ (neighbours_in x).ra → ⊥
    pub next_is : next ≡ x + count + 1

  -- the columns from x to before `next` are this event (T.87 A.3.2, A.7)
  abbrev pub StandsIn : ℕ → Event → ℕ → Type 0
  StandsIn x (regular near sample) next = IsRegular x near sample next
  StandsIn x (run_to_end of_component count) next = IsRunToEnd x of_component count next
  StandsIn x (interrupted_run of_component count near sample) next = IsInterruptedRun x of_component count near sample next

  -- the columns from x on are divided into these events (T.87 A.3.2, A.7)
  abbrev pub IsParted : ℕ → List Event → Type 0
  IsParted x [] = x ≡ width
  IsParted x (event ∷ later) = (next : ℕ) × (x < width) × StandsIn x event next × IsParted next later

-- so many lines from line j on are divided into these events, one line after another. Line j of an interval is line j / components of
-- component j % components (T.87 A.3.2, A.7)
abbrev pub AreParted : ℕ → ℕ → List (List ℕ) → ℕ → ℕ → List Event → Type 0
AreParted width components lines j zero events = events ≡ []
AreParted width components lines j (suc more) events =
    (first : List Event) × (later : List Event) × (events ≡ first ++ later)
    × IsParted width components lines (j % components) (j / components) 0 first × AreParted width components lines (j + 1) more later

-- these are the events of the interval with these lines. For lines as `AreLines` has them there is exactly one such list (T.87 A.3.2, A.7)
abbrev pub AreEvents : ℕ → ℕ → List (List ℕ) → List Event → Type 0
AreEvents width components lines events = AreParted width components lines 0 (length lines) events

-- The same, computed ---------------------------------------------------------------------------------

-- the two lines of one component above a line. A line that isn't there reads as zeros
pub record Above : Type 0 where
  pub line_above : List ℕ
  pub line_two_above : List ℕ

-- the samples round column x of a line whose samples before column x are known, below two lines of its component. Ra stands to the left, Rb
-- above, Rc above to the left, Rd above to the right. In the first column Ra is Rb, and Rc is the Ra that the line above had there. In the
-- last column Rd is Rb (T.87 A.2, A.3)
abbrev pub neighbours : ℕ → Above → List ℕ → ℕ → Neighbours
neighbours width up line zero =
    record {
      ra = get_or up.line_above 0 0;
      rb = get_or up.line_above 0 0;
      rc = get_or up.line_two_above 0 0;
      rd = if (nat_lt 1 width) then get_or up.line_above 1 0 else get_or up.line_above 0 0;
    }
neighbours width up line (suc x) =
    record {
      ra = get_or line x 0;
      rb = get_or up.line_above (suc x) 0;
      rc = get_or up.line_above x 0;
      rd = if (nat_lt (x + 2) width) then get_or up.line_above (x + 2) 0 else get_or up.line_above (suc x) 0;
    }

-- the first column from x on whose sample isn't v, or the column after the line
abbrev pub run_stop : List ℕ → ℕ → ℕ → ℕ
run_stop line v x = x + prefix_len (λ sample. sample == v) (drop x line)

-- an event, and the column after it
pub record Stretch : Type 0 where
  pub event : Event
  pub next : ℕ

-- the stretch that begins at column x
abbrev pub stretch : ℕ → ℕ → Above → List ℕ → ℕ → Stretch
stretch width component up line x =
    let near = neighbours width up line x in let stop = run_stop line near.ra x in
    if (is_run_mode near) then (if (nat_lt stop width) then record {
      event = interrupted_run component (stop - x)
          (neighbours width up line stop) (get_or line stop 0);
      next = suc stop;
    }
    else record { event = run_to_end component (width - x); next = width })
    else record { event = regular near (get_or line x 0); next = suc x }

-- the events of the columns from x on, if `stretch_at` gives the stretch that begins at a column; `fuel` is at least their number
unfoldable pub events_from : (ℕ → Stretch) → ℕ → ℕ → ℕ → List Event
events_from stretch_at width zero x = []
events_from stretch_at width (suc fuel) x =
    let first = stretch_at x in
    let later = events_from stretch_at width fuel first.next in if (nat_lt x width) then first.event ∷ later else []

-- the events of a whole line
abbrev pub line_events : ℕ → ℕ → Above → List ℕ → List Event
line_events width component up line = events_from (stretch width component up line) width width 0

-- the line so many places back, or none
abbrev pub line_back : List (List ℕ) → ℕ → List ℕ
line_back lines back = if (nat_lt (length lines) back) then [] else get_or lines (length lines - back) []

-- the lines above the line that follows these, if the components take turns
abbrev pub above : ℕ → List (List ℕ) → Above
above components lines = record { line_above = line_back lines components; line_two_above = line_back lines (2 * components) }

-- the events of these lines, which follow the lines before
unfoldable pub events_after : ℕ → ℕ → List (List ℕ) → List (List ℕ) → List Event
events_after width components before [] = []
events_after width components before (line ∷ lines) =
    line_events width (length before % components) (above components before) line
    ++ events_after width components (before ++ line ∷ []) lines

-- the events of an interval, computed: those of each line, in order. For lines as in `AreLines` they are those of `AreEvents`, which stands
-- in this file, jls_interval/specs/Events.antt. If a line is too short, zeros are added, which has no meaning
abbrev pub events : ℕ → ℕ → List (List ℕ) → List Event
events width components lines = events_after width components [] lines
