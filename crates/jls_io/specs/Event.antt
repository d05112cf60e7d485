-- The history of a device: the events of its life, in their order.
use Rattle.std.specs.Prelude.{◌≡◌, ◌||◌, ℕ, ◌-◌, ◌^◌, Bool, true, false, List, [], ◌++◌, length, filter, min}
use Rattle.std.specs.List.{flat_map, list_any}

-- an input was opened or not, or an output created or not, by its name. A read with room for so many bytes gave these, or failed. A write
-- took these bytes, or failed
pub data Event : Type 0 where
  opened : List ℕ → Event
  not_opened : List ℕ → Event
  gave : ℕ → List ℕ → Event
  read_failed : Event
  created : List ℕ → Event
  not_created : List ℕ → Event
  took : List ℕ → Event
  write_failed : Event

-- the events of a device, in order
abbrev pub History : Type 0
History = List Event

-- ---- what kind of event it is

-- whether an event is an input that was opened
abbrev pub is_opening : Event → Bool
is_opening (opened name) = true
is_opening _ = false

-- whether an event is an output that was created
abbrev pub is_creation : Event → Bool
is_creation (created name) = true
is_creation _ = false

-- whether an event is a read, failed or not
abbrev pub is_read : Event → Bool
is_read (gave room bytes) = true
is_read read_failed = true
is_read _ = false

-- whether an event is a read that failed
abbrev pub is_failed_read : Event → Bool
is_failed_read read_failed = true
is_failed_read _ = false

-- whether an event is a write that failed
abbrev pub is_failed_write : Event → Bool
is_failed_write write_failed = true
is_failed_write _ = false

-- whether an event is an input that was not opened, or an output that was not created
abbrev pub is_failed_opening : Event → Bool
is_failed_opening (not_opened name) = true
is_failed_opening (not_created name) = true
is_failed_opening _ = false

-- whether an event is something that was not opened or created, or a read or a write that failed
abbrev pub is_failure : Event → Bool
is_failure e = is_failed_opening e || (is_failed_read e || is_failed_write e)

-- ---- what a history tells

-- how many events of a kind there are; the count has 64 bits, and stops at its end
abbrev pub count_of : (Event → Bool) → History → ℕ
count_of test h = min (length (filter test h)) (2 ^ 64 - 1)

-- an input was opened, and so reads have one that they go to
abbrev pub has_input : History → Bool
has_input h = list_any is_opening h

-- an output was created, and so writes have one that they go to
abbrev pub has_output : History → Bool
has_output h = list_any is_creation h

-- the bytes that a read gave
abbrev pub bytes_given_by : Event → List ℕ
bytes_given_by (gave room bytes) = bytes
bytes_given_by _ = []

-- the bytes that a write took
abbrev pub bytes_taken_by : Event → List ℕ
bytes_taken_by (took bytes) = bytes
bytes_taken_by _ = []

-- what reads gave
abbrev pub bytes_given : List Event → List ℕ
bytes_given events = flat_map bytes_given_by events

-- what writes took
abbrev pub bytes_taken : List Event → List ℕ
bytes_taken events = flat_map bytes_taken_by events

-- a history grew by events of which something holds, and nothing else was done
pub record GrewBy (Are : List Event → Type 0) (old new : History) : Type 0 where
  pub events : List Event
  pub grew : new ≡ old ++ events
  pub they_are : Are events

-- the histories of two devices grew by events, and they are such: nothing else was done
pub record GrewBoth (Are : List Event → List Event → Type 0) (desk desk' report report' : History) : Type 0 where
  pub desk_events : List Event
  pub report_events : List Event
  pub desk_is : desk' ≡ desk ++ desk_events
  pub report_is : report' ≡ report ++ report_events
  pub they_are : Are desk_events report_events
