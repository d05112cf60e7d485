-- A run of `jls-splice` over two copies of the file of two lines: the first is that file, and the second has another first byte. The search
-- finds the file, each line is settled, and the run ends with status 0.
use Rattle.std.proofs.Common.{◌≡◌, ℕ, zero, suc, ◌<◌, true, false, List, [], ◌∷◌, ◌++◌, None, length, take, refl, sym, ap, ◌∙◌, subst}
use Rattle.std.proofs.Common.{lit<, lit≤, arith, inl, inr}
use Rattle.std.specs.Prelude.{codes, get_or}
use Rattle.std.specs.List.{AllByRecursion, Contains}
use Rattle.std.proofs.lemmas.List.{append-nil}
use Rattle.clap.specs.Words.{Text}
use Rattle.clap.proofs.OnLiterals.{clap_on_literals}
use Rattle.jls_values.specs.OrderedSet as set
use Rattle.jls_partial.specs.Partial.{PartialPicture, nothing_known, union, readings_at, without_sources}
use Rattle.jls_partial.specs.PartialLaws.{shape_itself}
use Rattle.jls_partial.specs.Reading.{Reading, reading_cmp}
use Rattle.jls_partial.specs.Text.{text}
use Rattle.jls_io.specs.Event.{Event, opened, gave, created, took}
use Rattle.jls_io.specs.Writing.{Wrote, Printed}
use Rattle.jls_marker.specs.declared.profile.Profile.TheVariants.{Wide}
use Rattle.jls_copy.specs.CopyReads.{CopyReads, CopyReadsUnder}
use Rattle.jls_copy_laws.specs.Gives.{GivesReading}
use Rattle.jls_copy.specs.Course.{by_marker, Course, IsCourse, without_units_under}
use Rattle.jls_marker.specs.declared.fault.MarkerFault.TheVariants as fault
use Rattle.jls_copy.specs.Pieces.{PieceOutcome, Lines, pieces, readings, records}
use Rattle.jls_copy.specs.ReadCopy.{ReadCopy}
use Rattle.jls_copy.specs.ScanData.{ClosedPiece}
use Rattle.jls_copy.specs.declared.end.End.TheVariants.{Eoi, Header}
use Rattle.jls_copy_laws.proofs.Members.{none_in, is_first, first_or_rest, bytes_of_test}
use Rattle.jls_write.specs.Picture.{line_of}
use Rattle.jls_station.specs.CopyFiles.{CopyBytes, IsCopyRead, IsTextPrefix, AreCopiesRead}
use Rattle.jls_station.specs.declared.input.ReadStop.TheVariants.{Whole}
use Rattle.jls_diff.specs.Parts.{Part, Same, Differ, made, AreParts}
use Rattle.jls_search.specs.Faultless.{IsFaultless, IsSought}
use Rattle.jls_search.specs.Found.{Found, IsFound}
use Rattle.jls_search.specs.Search.{CameTo}
use Rattle.jls_search.specs.Shapes.{HasFrameOfShape, HasNoFrame, IsShapeTaken}
use Rattle.jls_search.specs.Stations.{TakesFiles, gives, gives_nothing, no_file}
use Rattle.jls_search.proofs.OneFile.{no_shape}
use Rattle.jls_headline.specs.Collected.{new_station, reader_finished, partial_taken, CollectedFrom}
use Rattle.jls_file_laws.specs.Covering.{IsLineOf}
use Rattle.jls_headline.specs.Damaged.{picture_reading}
use Rattle.jls_headline.specs.ReadsAs.{GivesPicture}
use Rattle.jls_headline.specs.Sources.{SourcedCopy, sourced_copy}
use Rattle.jls_headline.specs.Stations.{HoldsExactly, ReadingsOf}
use Rattle.jls_headline.proofs.Collected.{collected_holds}
use Rattle.jls_headline.proofs.ColumnFiles.{is_column_course, byte_is_piece}
use Rattle.jls_headline.proofs.FileExamples.{file, file_reads}
use Rattle.jls_headline.proofs.Held.{one_reading}
use Rattle.jls_headline.proofs.Pictures.{gives_picture}
use Rattle.jls_headline.proofs.TwoLineCopies.{shape, pic, is_picture, outcomes_read, course_with, two_lines_taken}
use Rattle.jls_cli.specs.Outcomes.{finished}
use Rattle.jls_cli.specs.SpliceAsking.{Asked, AskFor}
use Rattle.jls_splice_run.specs.Handing.{HandsAll, none_handed}
use Rattle.jls_splice_run.specs.Making.{Made, IsMade, lines}
use Rattle.jls_splice_run.specs.Inputs.{AreInputs}
use Rattle.jls_splice_run.specs.Runs.{Performs, Run, came_of, done, performed, texts}
use Rattle.jls_splice_laws.proofs.StrictCourses.{wide, wide_course, wide_reading}
use Rattle.jls_splice_laws.specs.RunLaws.{DidMake}
use Rattle.jls_splice_laws.proofs.FaultlessExamples.{file_is_faultless, no_soi, has_fault_there}

-- The copies -------------------------------------------------------------------------------------------------------

-- the file without its first byte
abbrev tail : List ℕ
tail =
    0xD8 ∷ 0xFF ∷ 0xF7 ∷ 0 ∷ 0x0B ∷ 8 ∷ 0 ∷ 2 ∷ 0 ∷ 1 ∷ 1 ∷ 1 ∷ 0x11 ∷ 0 ∷ 0xFF ∷ 0xDD ∷ 0 ∷ 4 ∷ 0 ∷ 1
    ∷ 0xFF ∷ 0xDA ∷ 0 ∷ 8 ∷ 1 ∷ 1 ∷ 0 ∷ 0 ∷ 0 ∷ 0 ∷ 0x80 ∷ 0xFF ∷ 0xD0 ∷ 0x40 ∷ 0xFF ∷ 0xD9 ∷ []

abbrev other : List ℕ
other = 1 ∷ tail

abbrev parts : List Part
parts = Differ ((0xFF ∷ []) ∷ (1 ∷ []) ∷ []) ∷ Same tail ∷ []

are_parts : AreParts (file ∷ other ∷ []) parts
are_parts = record { ways = (refl, (tt, tt)); make = by }
  where
    by : (j : ℕ) → j < 2 → made j parts ≡ get_or (file ∷ other ∷ []) j []
    by zero l = refl
    by (suc zero) l = refl
    by (suc (suc j)) l = absurd (omega (arith, l))

-- What was found: the first copy's way, and what both have after it -------------------------------------------------

abbrev found : Found
found = record { parts = parts; choices = (0 ∷ 0 ∷ []) ∷ []; is_used_up = false; by_groups = None }

each_is_found : (count j : ℕ) (rest more bytes : List ℕ) → 2 ≡ count → j < count → bytes ≡ get_or ((0xFF ∷ []) ∷ (1 ∷ []) ∷ []) j [] ++ rest
    → rest ≡ tail ++ more → more ≡ [] → IsFaultless bytes → Contains (file ∷ []) bytes
each_is_found count zero rest more bytes two l e f g faultless =
    let is : bytes ≡ file = e ∙ ap (λ (xs : List ℕ). 0xFF ∷ xs) (f ∙ ap (λ (xs : List ℕ). tail ++ xs) g) in
    subst (λ (b : List ℕ). Contains (file ∷ []) b) (sym is) (is_first file [])
each_is_found count (suc zero) rest more bytes two l e f g faultless = absurd (has_fault_there rest (subst IsFaultless e faultless))
each_is_found count (suc (suc j)) rest more bytes two l e f g faultless = absurd (omega (arith, two, l))

came_to : CameTo (IsSought None) parts ((0 ∷ 0 ∷ []) ∷ []) false
came_to = record {
  files = (((((lit< tt, λ o l _. absurd (omega (arith, l))), (refl, tt)), refl), (file_is_faultless, tt)), tt);
  all = λ e count some ways bytes low splice sought.
      each_is_found count splice.0 splice.2 splice.4.2 bytes ways.0 splice.1 splice.3 splice.4.3 splice.4.4 sought.0;
}

is_found : IsFound None (file ∷ other ∷ []) found
is_found = record {
  are_parts = are_parts;
  came_to = came_to;
  searched = (λ some. absurd cc, λ why. elim why [ inl e ↦ absurd cc | inr e ↦ absurd cc ]);
  by_groups = tt;
}

-- What is read of the file -----------------------------------------------------------------------------------------

abbrev kept : ClosedPiece
kept = record { piece = 0x80 ∷ []; fill = 0; mark = 0 }

abbrev pub course : Course
course = course_with (kept ∷ []) (0x40 ∷ []) 35

pub is_course : IsCourse file course
is_course =
    is_column_course 2 two_lines_taken (kept ∷ []) (0x40 ∷ []) by_marker ((byte_is_piece 0x80 (lit< tt), lit< tt), tt)
    (byte_is_piece 0x40 (lit< tt))

has_shape : HasFrameOfShape shape file
has_shape = (wide course, wide_course file course is_course tt, refl)

abbrev outcomes : List PieceOutcome
outcomes = Lines ((0 ∷ []) ∷ []) ∷ Lines ((255 ∷ []) ∷ []) ∷ []

abbrev pub read : ReadCopy
read = record {
  partial = without_sources shape (set.insert_all {R = reading_cmp} set.empty (readings (pieces course) outcomes ++ []));
  pieces = take 4096 (records (pieces course) outcomes);
  piece_count = length (records (pieces course) outcomes);
  ended = Eoi 35;
}

pub reads : CopyReads file read
reads = record {
  course = course;
  is_course = is_course;
  shape = shape;
  framed = refl;
  outcomes = outcomes;
  each = (outcomes_read.zero_read, (outcomes_read.largest_read, tt));
  head = [];
  head_is = refl;
  partial_is = refl;
  pieces_are = refl;
  count_is = refl;
  ended_is = refl;
}

-- and so by the wide profile, under which files are searched
pub reads_so : CopyReadsUnder Wide file read
reads_so = wide_reading file read reads tt

pub file_bytes : AllByRecursion (λ b. b < 256) file
file_bytes = bytes_of_test file refl

other_has_no_frame : HasNoFrame other
other_has_no_frame = (without_units_under Wide 0 (Header fault.NoSoi 0), no_soi tail, refl)

-- What is made of it -----------------------------------------------------------------------------------------------

-- a new station took the file, which is the first copy and the splice
abbrev pub station : PartialPicture
station = union (union (nothing_known shape) read.partial) read.partial

takes : TakesFiles None (file ∷ other ∷ file ∷ []) (nothing_known shape) station
takes = record {
  given = read.partial ∷ read.partial ∷ [];
  give = gives file read (other ∷ file ∷ []) (read.partial ∷ []) file_bytes reads_so refl
      (gives_nothing other (file ∷ []) (read.partial ∷ []) (no_shape shape other other_has_no_frame)
      (gives file read [] [] file_bytes reads_so refl no_file));
  union_is = refl;
}

shape_is : IsShapeTaken (file ∷ other ∷ []) (file ∷ []) shape
shape_is = record { of_faultless = by; of_first = λ none. inl has_shape }
  where
    as_file : (f : List ℕ) → file ≡ f → HasFrameOfShape shape f
    as_file f e = subst (HasFrameOfShape shape) e has_shape

    by : (f : List ℕ) → Contains (file ∷ other ∷ file ∷ []) f → IsFaultless f → HasFrameOfShape shape f
    by f c faultless =
        elim (first_or_rest f file (other ∷ file ∷ []) c) [
          | inl e ↦ as_file f e
          | inr later ↦ elim (first_or_rest f other (file ∷ []) later) [
            | inl e ↦ absurd (has_fault_there tail (subst IsFaultless (sym e) faultless))
            | inr last ↦ elim (first_or_rest f file [] last) [ inl e ↦ as_file f e | inr none ↦ absurd (none_in f none) ]
          ]
        ]

abbrev taken : List SourcedCopy
taken = sourced_copy None file ∷ sourced_copy None file ∷ []

collected : CollectedFrom station taken
collected = (
  [],
  partial_taken (union (nothing_known shape) read.partial) station read.partial (sourced_copy None file ∷ []) []
      (sourced_copy None file ∷ []) []
      (partial_taken (nothing_known shape) (union (nothing_known shape) read.partial) read.partial [] [] (sourced_copy None file ∷ []) []
      (new_station shape (nothing_known shape) refl) (reader_finished None file read read.partial file_bytes reads refl)
      (shape_itself shape) refl)
      (reader_finished None file read read.partial file_bytes reads refl) (shape_itself shape) refl,
  λ copy c. absurd (none_in copy c),
)

pub holds : HoldsExactly station (file ∷ file ∷ [])
holds = collected_holds station taken collected

-- each reading that the file gives is the picture's line
pub only_the_line : (r : Reading) → ReadingsOf (file ∷ file ∷ []) r → IsLineOf pic r
only_the_line r (bytes, c, g) =
    (file_reads.reads.readings r).0 (elim (first_or_rest bytes file (file ∷ []) c) [
      | inl e ↦ subst (λ b. GivesReading b r) (sym e) g
      | inr later ↦ elim (first_or_rest bytes file [] later) [
        | inl e ↦ subst (λ b. GivesReading b r) (sym e) g
        | inr none ↦ absurd (none_in bytes none)
      ]
    ])

pub same_line : (component line : ℕ) (r : Reading) → IsLineOf pic r → r.component ≡ component → r.line ≡ line
    → r ≡ picture_reading pic component line
same_line component line r is c l =
    let moved : line_of pic r.component r.line ≡ line_of pic component line = λ i. line_of pic (c i) (l i) in
    let samples : r.samples ≡ line_of pic component line = is.2 ∙ moved in
    λ i. record { component = c i; line = l i; samples = samples i }

pub one_line : (component line : ℕ) → component < 1 → line < 2 → readings_at station component line ≡ line_of pic component line ∷ []
one_line component line c l =
    one_reading station component line (line_of pic component line)
    ((holds.readings (picture_reading pic component line)).1
    (file, is_first file (file ∷ []), (file_reads.reads.readings (picture_reading pic component line)).1 (c, l, refl)))
    (λ r held at_component at_line. same_line component line r (only_the_line r ((holds.readings r).0 held)) at_component at_line)

pub is_the_picture : GivesPicture station pic
is_the_picture = gives_picture station pic is_picture refl one_line

-- The run ----------------------------------------------------------------------------------------------------------

-- `jls-splice o a b`
abbrev pub words : List Text
words = codes "jls-splice" ∷ codes "o" ∷ codes "a" ∷ codes "b" ∷ []

abbrev pub asked : Asked
asked = record {
  options = record { source = None; tries = 4096; ceiling = None; progress = false; file = None; files = None };
  out = codes "o";
  copies = codes "a" ∷ codes "b" ∷ [];
  bad = [];
  witnesses = [];
}

pub asks : AskFor words asked
unfolding clap_on_literals
asks = record { taken = refl; asks = refl }

-- each copy is read at once, and a second read meets its end
abbrev pub copy_read : List ℕ → CopyBytes
copy_read bytes = record { bytes = bytes; stop = Whole }

read_of : List ℕ → List ℕ → List Event
read_of name bytes = opened name ∷ gave 4096 bytes ∷ gave 4096 [] ∷ []

pub is_read : (name bytes : List ℕ) → 0 < length bytes → AllByRecursion (λ b. b < 256) bytes → (IsTextPrefix bytes → ⊥)
    → IsCopyRead name (copy_read bytes) (opened name ∷ gave 4096 bytes ∷ gave 4096 [] ∷ [])
is_read name bytes some low none = record {
  reads = gave 4096 bytes ∷ gave 4096 [] ∷ [];
  events_are = refl;
  is_read = record {
    on = gave 4096 bytes ∷ [];
    last = gave 4096 [] ∷ [];
    reads_are = refl;
    goes_on = (lit≤ tt, some, λ text. absurd cc, tt);
    bytes_are = sym (append-nil bytes);
    are_bytes = low;
    stops = (lit< tt, lit≤ tt, none);
    at_most = lit≤ tt;
    used_up = λ turns. absurd cc;
  };
  no_text = none;
}

abbrev copies : List CopyBytes
copies = copy_read file ∷ copy_read other ∷ []

abbrev reading : List Event
reading =
    (opened (codes "a") ∷ gave 4096 file ∷ gave 4096 [] ∷ []) ++ (opened (codes "b") ∷ gave 4096 other ∷ gave 4096 [] ∷ []) ++ []

are_read : AreCopiesRead (codes "a" ∷ codes "b" ∷ []) copies reading
are_read = (
  opened (codes "a") ∷ gave 4096 file ∷ gave 4096 [] ∷ [],
  (opened (codes "b") ∷ gave 4096 other ∷ gave 4096 [] ∷ []) ++ [],
  refl,
  is_read (codes "a") file (lit< tt) file_bytes (λ text. absurd cc),
  (
    opened (codes "b") ∷ gave 4096 other ∷ gave 4096 [] ∷ [],
    [],
    refl,
    is_read (codes "b") other (lit< tt) (bytes_of_test other refl) (λ text. absurd cc),
    refl,
  ),
)

-- without lists of bad places, the copies are searched; there is no witness
are_inputs : AreInputs asked copies copies reading
are_inputs = record {
  reading = reading;
  listing = [];
  witnesses = [];
  witnessing = [];
  events_are = refl;
  copies_read = are_read;
  are_searched = (refl, refl);
  witnesses_read = refl;
}

abbrev what_was_made : Made
what_was_made = record {
  ceiling = None;
  found = found;
  cut_ceiling = None;
  lone = None;
  cut = None;
  given = station;
  carried = None;
  picture = station;
  is_settled = true;
  single = None;
  files = [];
}

is_made : IsMade asked (file ∷ other ∷ []) what_was_made
is_made = record {
  is_found_for = record { ceiling_is = tt; is_found = is_found; of_groups = tt };
  cut_ceiling_is = tt;
  is_lone = tt;
  is_cut = inl refl;
  is_given = record { shape_is = shape_is; union_is = takes };
  is_carried = tt;
  picture_is = refl;
  settled = (λ is. is_the_picture.0, λ is. refl);
  is_single = refl;
  are_named = refl;
}

-- an output takes bytes one by one
pub one_by_one : List ℕ → List Event
one_by_one [] = []
one_by_one (b ∷ bs) = took (b ∷ []) ∷ one_by_one bs

pub wrote_one_by_one : (bytes : List ℕ) → Wrote bytes (one_by_one bytes)
unfolding one_by_one
wrote_one_by_one [] = record { are_writes = tt; they_took = refl }
wrote_one_by_one (b ∷ bs) =
    let more = wrote_one_by_one bs in
    record { are_writes = (lit< tt, more.are_writes); they_took = ap (λ (xs : List ℕ). b ∷ xs) more.they_took }

abbrev writing : List Event
writing = created (codes "o") ∷ one_by_one (text station)

abbrev report : List Event
report = one_by_one (lines asked (file ∷ other ∷ []) what_was_made)

handed : HandsAll (texts asked copies what_was_made) ((writing ++ []) ++ []) report
handed = record {
  printed = wrote_one_by_one (lines asked (file ∷ other ∷ []) what_was_made);
  writing = writing;
  more = [];
  rest = [];
  desk_is = refl;
  handed = record { writes = one_by_one (text station); events_are = refl; wrote = wrote_one_by_one (text station) };
  file_handed = refl;
  files_handed = none_handed;
}

pub nothing_printed : Printed [] []
nothing_printed = inl (record { are_writes = tt; they_took = refl })

pub did_make : DidMake words asked (reading ++ ((writing ++ []) ++ [])) report ([] ++ [])
did_make = record {
  asks = asks;
  copies_read = copies;
  copies = copies;
  made = what_was_made;
  reading = reading;
  writing = (writing ++ []) ++ [];
  telling = [];
  noting = [];
  desk_is = refl;
  faults_are = refl;
  read = are_inputs;
  is_made = is_made;
  told = refl;
  noted = nothing_printed;
  handed = handed;
}

-- the status is 0
performs_with_0 : Performs asked 0 (reading ++ ((writing ++ []) ++ [])) report (([] ++ []) ++ [])
performs_with_0 =
    came_of (finished true true) (reading ++ ((writing ++ []) ++ [])) report ([] ++ []) []
    (done copies copies what_was_made true reading ((writing ++ []) ++ []) report [] [] are_inputs is_made refl nothing_printed handed
    (λ is. (refl, (refl, tt)), λ are. refl))
    nothing_printed

pub runs_with_0 : Run words 0 (reading ++ ((writing ++ []) ++ [])) report (([] ++ []) ++ [])
runs_with_0 =
    performed asked 0 (reading ++ ((writing ++ []) ++ [])) report (([] ++ []) ++ []) asks (λ is. absurd cc)
    (λ is. (let e = is.1 in absurd cc)) refl performs_with_0
