-- What several calls come to, and what calls and a run of `jls-salvage join` come to over the same bytes.
use Rattle.std.specs.Prelude.{◌≡◌, ◌⊎◌, ℕ, Bool, List, [], ◌∷◌, ◌++◌, take, Option, Some}
use Rattle.std.specs.List.{AllByRecursion}
use Rattle.jls_marker.specs.SegmentLaws.{AreBytes}
use Rattle.jls_marker.specs.declared.profile.Profile.{Profile}
use Rattle.jls_marker.specs.declared.profile.Profile.TheVariants.{Strict}
use Rattle.jls_partial.specs.Partial.{PartialPicture}
use Rattle.jls_io.specs.Event.{Event}
use Rattle.jls_station.specs.Inputs.{IsCopyDone}
use Rattle.jls_salvage_run.specs.CommandLaws.{HaveSameMembers, input_bytes, output_bytes}
use Rattle.jls_salvage_run.specs.Joining.{JoinIsDone}
use Rattle.jls_c.specs.PartialAnswers.{IsJoined, IsPartialMadeUnder, HasNoPartial}
use Rattle.jls_c.specs.declared.info.JlsInfo.{JlsInfo}

-- ---- calls and runs that are done

-- a call of `jls_join` that is done: its two texts, what it reported, and its buffer before and after it
pub record JoinCall : Type 0 where
  pub first : List ℕ
  pub second : List ℕ
  pub info : JlsInfo
  pub old : List ℕ
  pub new : List ℕ
  pub joined : IsJoined first second info old new

-- a call of `jls_partial_under` with this profile that is done: its copy and source, what it reported, and its buffer before and after it
pub record PartialCallUnder (profile : Profile) : Type 0 where
  pub copy : List ℕ
  pub source : ℕ
  pub info : JlsInfo
  pub old : List ℕ
  pub new : List ℕ
  pub made : IsPartialMadeUnder profile copy source info old new

-- a call of `jls_partial` that is done: it reads under the strict profile
abbrev pub PartialCall : Type 0
PartialCall = PartialCallUnder Strict

-- what a call wrote: so many of the first bytes of its buffer as it reported
abbrev pub bytes_written : JlsInfo → List ℕ → List ℕ
bytes_written info buffer = take info.bytes buffer

-- a run of `join` is done, under this source or none, and these are its reads and writes
pub record RunIsDone (source : Option ℕ) (events : List Event) : Type 0 where
  pub out : List ℕ
  pub names : List (List ℕ)
  pub joined : PartialPicture
  pub settled : Bool
  pub whole : Bool
  pub is_done : JoinIsDone source out names joined settled whole events

-- ---- joins

-- let two calls of `jls_join` be done that have their texts in the other order. They write the same bytes, and report the same
abbrev pub CallsJoinInAnyOrder : Type 0
CallsJoinInAnyOrder =
    (call again : JoinCall) → again.first ≡ call.second → again.second ≡ call.first
    → (bytes_written again.info again.new ≡ bytes_written call.info call.new) × (again.info ≡ call.info)

-- let a run of `join` be done whose inputs gave the two texts of a call, in any order and with any repeats. Its output was handed
-- the bytes that the call wrote
abbrev pub CallsAndRunsJoinAlike : Type 0
CallsAndRunsJoinAlike =
    (call : JoinCall) (source : Option ℕ) (events : List Event) → RunIsDone source events
    → HaveSameMembers (input_bytes events) (call.first ∷ call.second ∷ [])
    → output_bytes events ≡ bytes_written call.info call.new ∷ []

-- ---- copies

-- what a run read of a copy: all of it, or a front of it after which no byte more changes what it gives
abbrev pub IsReadOf : List ℕ → List ℕ → Type 0
IsReadOf bytes copy = (bytes ≡ copy) ⊎ (IsCopyDone bytes × (more : List ℕ) × (copy ≡ bytes ++ more))

-- let a run of `join` be done under the source of a call, and let its one input be the copy. Its output was handed the bytes that
-- the call wrote
abbrev pub CallsAndRunsReadAlike : Type 0
CallsAndRunsReadAlike =
    (call : PartialCall) (events : List Event) → RunIsDone (Some call.source) events
    → (bytes : List ℕ) → input_bytes events ≡ bytes ∷ [] → IsReadOf bytes call.copy
    → output_bytes events ≡ bytes_written call.info call.new ∷ []

-- ---- any number of calls

-- what a call wrote is refused by no call: neither what `jls_partial` or `jls_partial_under` wrote nor what `jls_join` wrote has a fault
abbrev pub CallsReadWhatCallsWrote : Type 0
CallsReadWhatCallsWrote =
    ((profile : Profile) (call : PartialCallUnder profile) (info : JlsInfo) → HasNoPartial (bytes_written call.info call.new) info → ⊥)
    × ((call : JoinCall) (info : JlsInfo) → HasNoPartial (bytes_written call.info call.new) info → ⊥)

-- what calls made of these inputs, as a run would read them. It is a text as it was given; or what `jls_partial` wrote of a copy
-- under this source; or what `jls_join` wrote of two that calls made
pub data MadeByCalls (source : Option ℕ) : List (List ℕ) → List ℕ → Type 0 where
  as_given : (text : List ℕ) → MadeByCalls source (text ∷ []) text
  of_copy : (call : PartialCall) (bytes : List ℕ) → source ≡ Some call.source → IsReadOf bytes call.copy
      → MadeByCalls source (bytes ∷ []) (bytes_written call.info call.new)
  of_two : (call : JoinCall) (inputs others : List (List ℕ)) → MadeByCalls source inputs call.first
      → MadeByCalls source others call.second → MadeByCalls source (inputs ++ others) (bytes_written call.info call.new)

-- let a call of `jls_join` write what calls made of some inputs, in whatever order and groups. Let a run of `join` be done that
-- has these inputs, in any order and with any repeats. Its output was handed the bytes that the call wrote
abbrev pub ManyCallsAndRunsJoinAlike : Type 0
ManyCallsAndRunsJoinAlike =
    (source : Option ℕ) (inputs : List (List ℕ)) (call : JoinCall) → MadeByCalls source inputs (bytes_written call.info call.new)
    → (events : List Event) → RunIsDone source events → HaveSameMembers (input_bytes events) inputs
    → output_bytes events ≡ bytes_written call.info call.new ∷ []

-- let two calls of `jls_join` write what calls made of the same inputs, in whatever order and groups, and with any repeats. They
-- write the same bytes, and report the same
abbrev pub ManyCallsJoinAlike : Type 0
ManyCallsJoinAlike =
    (source : Option ℕ) (inputs others : List (List ℕ)) → AllByRecursion AreBytes inputs → HaveSameMembers inputs others
    → (call again : JoinCall) → MadeByCalls source inputs (bytes_written call.info call.new)
    → MadeByCalls source others (bytes_written again.info again.new)
    → (bytes_written again.info again.new ≡ bytes_written call.info call.new) × (again.info ≡ call.info)
