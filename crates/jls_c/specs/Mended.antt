-- What is answered where copies are mended.
use Rattle.std.specs.Prelude.{◌≡◌, ◌≤◌, ◌<◌, ◌++◌, ℕ, Bool, List, codes, length, map, if◌then◌else◌}
use Rattle.std.specs.List.{flat_map, list_any}
use Rattle.std.specs.Str.{bytes_eq}
use Rattle.std.specs.String.{string_bytes}
use Rattle.jls_mend.specs.Asking.{BadPlaces}
use Rattle.jls_mend.specs.Mending.{IsMendedOf, IsOfRun, Stops}
use Rattle.jls_mend.specs.declared.mending.Mended.{Mended}
use Rattle.jls_mend.specs.declared.mending.MendRefusal.{MendRefusal}
use Rattle.jls_c.specs.Answers.{BeginsWith}
use Rattle.jls_c.specs.Causes.{mend_answer, stopped_info}
use Rattle.jls_c.specs.Copies.{options_of}
use Rattle.jls_c.specs.declared.copies.JlsMendOptions.{JlsMendOptions}
use Rattle.jls_c.specs.declared.cause.JlsMendInfo.{JlsMendInfo}

-- the bytes of the outputs, one behind the other, and behind them those of the printed lines
abbrev pub bytes_in : Mended → List ℕ
bytes_in v = flat_map (λ o. o.bytes.items) v.outputs.items ++ v.lines.items

-- how many bytes each output has
abbrev pub sizes_in : Mended → List ℕ
sizes_in v = map (λ o. length o.bytes.items) v.outputs.items

-- whether there is a mended file, which is the output of this name
abbrev pub has_file : Mended → Bool
has_file v = list_any (λ o. bytes_eq (string_bytes o.name) (codes "FILE")) v.outputs.items

-- 1 for true
abbrev pub flag : Bool → ℕ
flag b = if b then 1 else 0

-- what is reported of what was mended
abbrev pub mended_info : Mended → JlsMendInfo
mended_info v = record {
  bytes = length (bytes_in v);
  outputs = length (sizes_in v);
  lines = length v.lines.items;
  copy = 0;
  offset = 0;
  has_copy = 0;
  cause = 0;
  fault = 0;
  has_file = flag (has_file v);
  is_promised = flag v.is_promised;
  is_whole = flag v.is_whole;
  has_list = 0;
  list = 0;
  line = 0;
}

-- it stands in the buffers, which go on as they were, and is reported
pub record IsPut (v : Mended) (info : JlsMendInfo) (old new old_sizes new_sizes : List ℕ) : Type 0 where
  pub info_is : info ≡ mended_info v
  pub bytes_fit : length (bytes_in v) ≤ length old
  pub sizes_fit : length (sizes_in v) ≤ length old_sizes
  pub bytes_are : BeginsWith (bytes_in v) old new
  pub sizes_are : BeginsWith (sizes_in v) old_sizes new_sizes

-- it is reported, and there is too little room for it: if there is enough for the bytes, there is too little for the sizes
pub record IsTooLong (v : Mended) (info : JlsMendInfo) (room size_room : ℕ) : Type 0 where
  pub info_is : info ≡ mended_info v
  pub short : length (bytes_in v) ≤ room → size_room < length (sizes_in v)

-- what was mended of copies and lists, as a run of the program hands it out, stands in the buffers
pub record AreMended (o : JlsMendOptions) (copies : List (List ℕ)) (bad : List BadPlaces) (info : JlsMendInfo)
    (old new old_sizes new_sizes : List ℕ) : Type 0
  where
    pub v : Mended
    pub mended : IsMendedOf (options_of o) copies bad v
    pub of_run : IsOfRun (options_of o) copies bad v
    pub put : IsPut v info old new old_sizes new_sizes

-- there is too little room for it
pub record AreMendedLonger (o : JlsMendOptions) (copies : List (List ℕ)) (bad : List BadPlaces) (info : JlsMendInfo)
    (room size_room : ℕ) : Type 0
  where
    pub v : Mended
    pub mended : IsMendedOf (options_of o) copies bad v
    pub of_run : IsOfRun (options_of o) copies bad v
    pub longer : IsTooLong v info room size_room

-- something stops the program on these copies and lists. It is no want of memory, for which the answer is another, and it is reported
pub record AreNotMended (o : JlsMendOptions) (copies : List (List ℕ)) (bad : List BadPlaces) (info : JlsMendInfo) : Type 0 where
  pub refusal : MendRefusal
  pub stops : Stops (options_of o) copies bad refusal
  pub no_want_of_memory : mend_answer refusal.cause ≡ 15
  pub info_is : info ≡ stopped_info refusal
