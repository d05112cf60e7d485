-- A run of `jls-splice` that prints the promise of held lines. It is over two copies of the file of two lines. In both the marker DRI has
-- become EOI, so they give no line. Mended of them is the file, all of whose bytes but one they hold.
use Rattle.std.proofs.Common.{◌≡◌, ℕ, zero, suc, ◌+◌, ◌<◌, Bool, true, false, List, [], ◌∷◌, ◌++◌, Some, None, length, take, refl}
use Rattle.std.proofs.Common.{sym, ap, ◌∙◌, ◌||◌, subst, lit<, lit≤, arith, inl, inr}
use Rattle.std.specs.Prelude.{codes, get_or, slice_get}
use Rattle.std.specs.List.{AllByRecursion, Contains}
use Rattle.std.proofs.lemmas.List.Sorted.{IsPermutation-refl}
use Rattle.jls_values.specs.OrderedSet as set
use Rattle.jls_values.specs.OrderedSetLaws.{contains-empty, contains-union, same_set}
use Rattle.jls_partial.specs.Marks.{mark_cmp}
use Rattle.jls_marker.specs.ComponentIndex.{index_of}
use Rattle.jls_marker.specs.MarkerCodes.{has_segment}
use Rattle.jls_marker.specs.Headers.{headers_after}
use Rattle.jls_partial.specs.Partial.{PartialPicture, nothing_known, readings_at, union, without_sources}
use Rattle.jls_partial.specs.Reading.{Reading, reading_cmp}
use Rattle.jls_partial.specs.ReadingOrder.{marks_exact, marks_total, reading_total}
use Rattle.jls_partial.specs.Text.{text}
use Rattle.jls_partial.proofs.Marked.{got_held}
use Rattle.jls_io.specs.Event.{Event, opened, gave, created}
use Rattle.jls_copy.specs.Course.{Course, IsCourse, IsCourseUnder, segment, with_soi, for_good, at_eoi}
use Rattle.jls_marker.specs.declared.profile.Profile.TheVariants.{Wide}
use Rattle.jls_copy.specs.CopyReads.{CopyReads, CopyReadsUnder}
use Rattle.jls_copy.specs.Numbers.{Interval}
use Rattle.jls_copy.specs.Pieces.{pieces, readings, records}
use Rattle.jls_copy.specs.ReadCopy.{ReadCopy}
use Rattle.jls_copy.specs.declared.end.End.TheVariants.{Eoi}
use Rattle.jls_copy.proofs.OneCourse.{one_course}
use Rattle.jls_copy_laws.proofs.Members.{none_in, first_or_rest, all_at, bytes_of_test}
use Rattle.jls_write.specs.Picture.{line_of}
use Rattle.jls_station.specs.CopyFiles.{CopyBytes, AreCopiesRead}
use Rattle.jls_diff.specs.Parts.{Part, Same, made, AreParts}
use Rattle.jls_held.specs.MendedFiles.{MendedFile, IsHeldByte}
use Rattle.jls_held.specs.Edits.{Edit, edited}
use Rattle.jls_held.specs.Judging.{EditedCopy, AreMendedOf}
use Rattle.jls_held.specs.HeldLines.{PieceOf, IsHeld, in_piece}
use Rattle.jls_held.specs.HeldPictures.{AreReadingsHeld}
use Rattle.jls_carry_laws.specs.TrueFiles.{PictureLines, IsTruePiece, HasTruePieces, HasHead, HasSkeleton, IsTrueFile}
use Rattle.jls_carry_laws.specs.TrueFiles.{HaveTrueFilesOfTheirSkeletons}
use Rattle.jls_search.specs.Faultless.{IsFaultless, IsSought}
use Rattle.jls_search.specs.Found.{Found, ByGroups, IsByGroups, IsFound, IsGroupSearch}
use Rattle.jls_search.specs.Search.{CameTo}
use Rattle.jls_search.specs.Shapes.{HasFrameOfShape, IsShapeTaken}
use Rattle.jls_search.specs.Stations.{TakesFiles, gives, no_file}
use Rattle.jls_headline.proofs.ColumnFiles.{column_frame, framed}
use Rattle.jls_headline.proofs.FileExamples.{file}
use Rattle.jls_headline.proofs.Held.{one_reading}
use Rattle.jls_headline.proofs.TwoLineCopies.{shape, pic, plan, outcomes_read}
use Rattle.jls_headline.specs.Damaged.{picture_reading}
use Rattle.jls_splice_run.specs.Carrying.{Carried, IsCarried}
use Rattle.jls_splice_run.specs.Handing.{HandsAll, none_handed}
use Rattle.jls_splice_run.specs.Making.{Made, IsMade, lines}
use Rattle.jls_splice_run.specs.ReadsAs.{EachReadsAs}
use Rattle.jls_cli.specs.Outcomes.{finished}
use Rattle.jls_splice_run.specs.Inputs.{AreInputs}
use Rattle.jls_splice_run.specs.Runs.{Performs, Run, came_of, done, performed, texts}
use Rattle.jls_splice_laws.proofs.StrictCourses.{wide, wide_course, wide_reading}
use Rattle.jls_splice_laws.specs.CarryLaws.{AreCodingsOf, PromisesHeld}
use Rattle.jls_splice_laws.specs.RunLaws.{DidMake}
use Rattle.jls_splice_laws.proofs.FaultlessExamples.{bare, file_is_faultless, no_line_is_read}
use Rattle.jls_splice_laws.proofs.MadeExamples.{course, is_course, station, holds, only_the_line, one_line, same_line}
use Rattle.jls_splice_laws.proofs.MadeExamples.{file_bytes, is_the_picture}
use Rattle.jls_splice_laws.proofs.MadeExamples.{read as file_read, reads as file_reads_so}
use Rattle.jls_splice_laws.proofs.MadeExamples.{words, asked, asks, copy_read, is_read, one_by_one, wrote_one_by_one, nothing_printed}

-- The copies -------------------------------------------------------------------------------------------------------

-- what stands behind the damaged marker
abbrev rest : List ℕ
rest = 0 ∷ 4 ∷ 0 ∷ 1 ∷ 0xFF ∷ 0xDA ∷ 0 ∷ 8 ∷ 1 ∷ 1 ∷ 0 ∷ 0 ∷ 0 ∷ 0 ∷ 0x80 ∷ 0xFF ∷ 0xD0 ∷ 0x40 ∷ 0xFF ∷ 0xD9 ∷ []

abbrev damaged : List ℕ
damaged = 0xFF ∷ 0xD8 ∷ 0xFF ∷ 0xF7 ∷ 0 ∷ 0x0B ∷ 8 ∷ 0 ∷ 2 ∷ 0 ∷ 1 ∷ 1 ∷ 1 ∷ 0x11 ∷ 0 ∷ 0xFF ∷ 0xD9 ∷ rest

-- its course has a frame and no scan
is_bare : IsCourse damaged bare
unfolding headers_after index_of has_segment
is_bare =
    with_soi 0 _ (segment 0 0xF7 (column_frame 2) ∷ []) (framed 2) (Eoi 15) (
      framed 2,
      _,
      refl,
      ((refl, lit< tt), refl),
      (refl, for_good (framed 2) 15 (0xFF ∷ 0xD9 ∷ rest) (Eoi 15) (at_eoi (framed 2) 15 0 rest refl)),
    )

damaged_bytes : AllByRecursion (λ b. b < 256) damaged
damaged_bytes = bytes_of_test damaged refl

abbrev copies : List (List ℕ)
copies = damaged ∷ damaged ∷ []

none_faultless : (bytes : List ℕ) → Contains copies bytes → IsFaultless bytes → ⊥
none_faultless bytes among faultless =
    elim (first_or_rest bytes damaged (damaged ∷ []) among) [
      | inl e ↦ no_line_is_read damaged is_bare (subst IsFaultless (sym e) faultless)
      | inr later ↦ elim (first_or_rest bytes damaged [] later) [
        | inl e ↦ no_line_is_read damaged is_bare (subst IsFaultless (sym e) faultless)
        | inr none ↦ none_in bytes none
      ]
    ]

-- What was found: nothing ------------------------------------------------------------------------------------------

abbrev parts : List Part
parts = Same damaged ∷ []

abbrev no_groups : ByGroups
no_groups = record { groups = 0; tries = 0; choices = []; is_used_up = false }

abbrev found : Found
found = record { parts = parts; choices = []; is_used_up = true; by_groups = Some no_groups }

are_parts : AreParts copies parts
are_parts = record { ways = (tt, tt); make = by }
  where
    by : (j : ℕ) → j < 2 → made j parts ≡ get_or copies j []
    by zero l = refl
    by (suc zero) l = refl
    by (suc (suc j)) l = absurd (omega (arith, l))

came_to : CameTo (IsSought None) parts [] true
came_to = record { files = tt; all = λ e. absurd cc }

by_groups : IsByGroups parts no_groups
by_groups = record {
  groups = [];
  are_groups = tt;
  cover = λ some place within differs. absurd (omega (arith, some));
  count_is = refl;
  each = tt;
}

is_found : IsFound None copies found
is_found = record { are_parts = are_parts; came_to = came_to; searched = (λ some. inl refl, λ why. refl); by_groups = by_groups }

of_groups : IsGroupSearch 4096 2 parts no_groups
of_groups = record {
  groups = [];
  are_groups = tt;
  cover = λ some place within differs. absurd (omega (arith, some));
  count_is = refl;
  once = tt;
  searched = record {
    searched = [];
    in_some_order = IsPermutation-refl [];
    each = tt;
    tries_are = refl;
    found_are = refl;
    few = lit≤ tt;
    used_up = refl;
  };
}

-- What the copies give ---------------------------------------------------------------------------------------------

abbrev read : ReadCopy
read = record {
  partial = without_sources shape (set.insert_all {R = reading_cmp} set.empty (readings (pieces bare) [] ++ []));
  pieces = take 4096 (records (pieces bare) []);
  piece_count = length (records (pieces bare) []);
  ended = Eoi 15;
}

reads : CopyReads damaged read
reads = record {
  course = bare;
  is_course = is_bare;
  shape = shape;
  framed = refl;
  outcomes = [];
  each = tt;
  head = [];
  head_is = refl;
  partial_is = refl;
  pieces_are = refl;
  count_is = refl;
  ended_is = refl;
}

reads_so : CopyReadsUnder Wide damaged read
reads_so = wide_reading damaged read reads tt

abbrev given : PartialPicture
given = union (union (nothing_known shape) read.partial) read.partial

takes : TakesFiles None copies (nothing_known shape) given
takes = record {
  given = read.partial ∷ read.partial ∷ [];
  give = gives damaged read (damaged ∷ []) (read.partial ∷ []) damaged_bytes reads_so refl
      (gives damaged read [] [] damaged_bytes reads_so refl no_file);
  union_is = refl;
}

has_shape : HasFrameOfShape shape damaged
has_shape = (wide bare, wide_course damaged bare is_bare tt, refl)

shape_is : IsShapeTaken copies [] shape
shape_is = record {
  of_faultless = λ bytes among faultless. absurd (none_faultless bytes among faultless);
  of_first = λ none. inl has_shape;
}

-- What they gave each other ----------------------------------------------------------------------------------------

abbrev edits : List Edit
edits = record { offset = 16; count = 1; bytes = 0xDD ∷ [] } ∷ []

abbrev codings : List (List EditedCopy)
codings = (record { number = 0; edits = edits } ∷ record { number = 1; edits = edits } ∷ []) ∷ []

abbrev mended : MendedFile
mended = edited 0 damaged edits

abbrev files : List MendedFile
files = mended ∷ []

mended_is_file : mended.bytes ≡ file
mended_is_file = refl

are_mended : AreMendedOf copies codings files
are_mended = (
  record {
    some_copy = lit< tt;
    each = (
      record { fits = record { within = lit< tt; are_edits = (lit≤ tt, lit≤ tt) }; makes = refl },
      (record { fits = record { within = lit< tt; are_edits = (lit≤ tt, lit≤ tt) }; makes = refl }, tt),
    );
    held_is = refl;
  },
  tt,
)

-- the file's course under the wide profile
abbrev own_course : Course
own_course = wide course

own_course_is : IsCourseUnder Wide mended.bytes own_course
own_course_is = wide_course mended.bytes course is_course tt

-- both pieces have one byte, which is held
in_first : PieceOf mended
in_first = record {
  course = own_course;
  is_course = own_course_is;
  piece = record { scan = 0; plan = plan; number = Interval 0; offset = 31; bytes = 0x80 ∷ [] };
  among = (0, lit< tt, refl);
  number = 0;
  number_is = refl;
}

in_second : PieceOf mended
in_second = record {
  course = own_course;
  is_course = own_course_is;
  piece = record { scan = 0; plan = plan; number = Interval 1; offset = 34; bytes = 0x40 ∷ [] };
  among = (1, lit< tt, refl);
  number = 1;
  number_is = refl;
}

held_at_31 : (place : ℕ) → place < 1 → IsHeldByte mended (31 + place)
held_at_31 zero l = refl
held_at_31 (suc place) l = absurd (omega (arith, l))

held_at_34 : (place : ℕ) → place < 1 → IsHeldByte mended (34 + place)
held_at_34 zero l = refl
held_at_34 (suc place) l = absurd (omega (arith, l))

line_held : (component line : ℕ) → component < 1 → line < 2 → IsHeld files (picture_reading pic component line)
unfolding in_first in_second
line_held zero zero k l =
    in_piece (record {
      file = mended;
      among = (0, lit< tt, refl);
      piece = in_first;
      before = [];
      lines = (0 ∷ []) ∷ [];
      together = refl;
      begins = record { at_most = lit≤ tt; unread = outcomes_read.zero_read.unread; begins = outcomes_read.zero_read.begins };
      held = λ place b. held_at_31 place b.within;
    })
    (λ s among. absurd (none_in s among)) (picture_reading pic 0 0) (0, lit< tt, refl)
line_held zero (suc zero) k l =
    in_piece (record {
      file = mended;
      among = (0, lit< tt, refl);
      piece = in_second;
      before = [];
      lines = (255 ∷ []) ∷ [];
      together = refl;
      begins = record { at_most = lit≤ tt; unread = outcomes_read.largest_read.unread; begins = outcomes_read.largest_read.begins };
      held = λ place b. held_at_34 place b.within;
    })
    (λ s among. absurd (none_in s among)) (picture_reading pic 0 1) (0, lit< tt, refl)
line_held zero (suc (suc line)) k l = absurd (omega (arith, l))
line_held (suc component) line k l = absurd (omega (arith, k))

are_held : AreReadingsHeld files station
are_held r among =
    let is = only_the_line r ((holds.readings r).0 among) in
    subst (IsHeld files) (sym (same_line r.component r.line r is refl refl)) (line_held r.component r.line is.0 is.1)

-- What the mended file reads as --------------------------------------------------------------------------------------

same : (b : Bool) → (b || b) ≡ b
same true = refl
same false = refl

-- the station of the run over the file itself holds what the file gives
in_file : (r : Reading) → set.contains station.readings r ≡ set.contains file_read.partial.readings r
in_file r =
    let b = set.contains file_read.partial.readings r in
    contains-union reading_total (union (nothing_known shape) file_read.partial).readings file_read.partial.readings r
    ∙ ap (λ x. x || b) (contains-union reading_total set.empty file_read.partial.readings r)
    ∙ ap (λ x. (x || b) || b) (contains-empty reading_cmp r) ∙ same b

one_of_file : (component line : ℕ) → component < 1 → line < 2
    → readings_at file_read.partial component line ≡ line_of pic component line ∷ []
one_of_file component line c l =
    one_reading file_read.partial component line (line_of pic component line)
    (sym (in_file (picture_reading pic component line))
    ∙ got_held station component line 0 (line_of pic component line) (ap (λ xs. slice_get xs 0) (one_line component line c l)))
    (λ r held at_component at_line.
    same_line component line r (only_the_line r ((holds.readings r).0 (in_file r ∙ held))) at_component at_line)

each_reads : EachReadsAs station files
each_reads = (
  record {
    are_bytes = file_bytes;
    faultless = file_is_faultless;
    read = file_read;
    reads = wide_reading file file_read file_reads_so tt;
    ends = tt;
    same_size = record { width_is = refl; height_is = refl; components_are = refl };
    each_alike = λ component c line l. (line_of pic component line, one_of_file component line c l, one_line component line c l);
  },
  tt,
)

-- What the copies gave each other -----------------------------------------------------------------------------------

abbrev carried : Carried
carried = record {
  codings = codings;
  files = files;
  strangers = [];
  held = station;
  is_alone = true;
  is_held = true;
  are_read = true;
}

-- no held line has a source
no_marks : station.marks ≡ set.empty
no_marks =
    same_set marks_total marks_exact station.marks set.empty (λ q.
    let e = contains-empty (mark_cmp reading_cmp) q in
    contains-union marks_total (union (nothing_known shape) read.partial).marks read.partial.marks q
    ∙ ap (λ b. b || set.contains read.partial.marks q) (contains-union marks_total set.empty read.partial.marks q)
    ∙ ap (λ b. (b || b) || b) e ∙ sym e)

is_carried : IsCarried copies copies shape carried
is_carried = record {
  alone = (λ t. none_faultless, λ none. refl);
  are_mended = are_mended;
  shape_is = refl;
  marks_are = no_marks;
  are_held = are_held;
  all_held = (λ is. is_the_picture.0, λ is. refl);
  each_reads = λ are. each_reads;
}

-- The run ----------------------------------------------------------------------------------------------------------

abbrev what_was_made : Made
what_was_made = record {
  ceiling = None;
  found = found;
  cut_ceiling = None;
  lone = None;
  cut = None;
  given = given;
  carried = Some carried;
  picture = station;
  is_settled = true;
  single = None;
  files = [];
}

is_made : IsMade asked copies what_was_made
is_made = record {
  is_found_for = record { ceiling_is = tt; is_found = is_found; of_groups = of_groups };
  cut_ceiling_is = tt;
  is_lone = tt;
  is_cut = inl refl;
  is_given = record { shape_is = shape_is; union_is = takes };
  is_carried = (is_carried, refl);
  picture_is = refl;
  settled = (λ is. is_the_picture.0, λ is. refl);
  is_single = (λ t. refl, λ no. absurd cc);
  are_named = (λ t. tt, λ no. absurd cc);
}

abbrev copies_given : List CopyBytes
copies_given = copy_read damaged ∷ copy_read damaged ∷ []

abbrev reading : List Event
reading =
    (opened (codes "a") ∷ gave 4096 damaged ∷ gave 4096 [] ∷ []) ++ (opened (codes "b") ∷ gave 4096 damaged ∷ gave 4096 [] ∷ []) ++ []

are_read : AreCopiesRead (codes "a" ∷ codes "b" ∷ []) copies_given reading
are_read = (
  opened (codes "a") ∷ gave 4096 damaged ∷ gave 4096 [] ∷ [],
  (opened (codes "b") ∷ gave 4096 damaged ∷ gave 4096 [] ∷ []) ++ [],
  refl,
  is_read (codes "a") damaged (lit< tt) damaged_bytes (λ text. absurd cc),
  (
    opened (codes "b") ∷ gave 4096 damaged ∷ gave 4096 [] ∷ [],
    [],
    refl,
    is_read (codes "b") damaged (lit< tt) damaged_bytes (λ text. absurd cc),
    refl,
  ),
)

-- without lists of bad places, the copies are searched; there is no witness
are_inputs : AreInputs asked copies_given copies_given reading
are_inputs = record {
  reading = reading;
  listing = [];
  witnesses = [];
  witnessing = [];
  events_are = refl;
  copies_read = are_read;
  are_searched = (refl, refl);
  witnesses_read = refl;
}

abbrev writing : List Event
writing = created (codes "o") ∷ one_by_one (text what_was_made.picture)

abbrev report : List Event
report = one_by_one (lines asked copies what_was_made)

handed : HandsAll (texts asked copies_given what_was_made) ((writing ++ []) ++ []) report
handed = record {
  printed = wrote_one_by_one (lines asked copies what_was_made);
  writing = writing;
  more = [];
  rest = [];
  desk_is = refl;
  handed = record {
    writes = one_by_one (text what_was_made.picture);
    events_are = refl;
    wrote = wrote_one_by_one (text what_was_made.picture);
  };
  file_handed = refl;
  files_handed = none_handed;
}

did_make : DidMake words asked (reading ++ ((writing ++ []) ++ [])) report ([] ++ [])
did_make = record {
  asks = asks;
  copies_read = copies_given;
  copies = copies_given;
  made = what_was_made;
  reading = reading;
  writing = (writing ++ []) ++ [];
  telling = [];
  noting = [];
  desk_is = refl;
  faults_are = refl;
  read = are_inputs;
  is_made = is_made;
  told = refl;
  noted = nothing_printed;
  handed = handed;
}

promises_held : PromisesHeld what_was_made
promises_held = refl

-- the status is 0
performs_with_0 : Performs asked 0 (reading ++ ((writing ++ []) ++ [])) report (([] ++ []) ++ [])
performs_with_0 =
    came_of (finished true true) (reading ++ ((writing ++ []) ++ [])) report ([] ++ []) []
    (done copies_given copies_given what_was_made true reading ((writing ++ []) ++ []) report [] [] are_inputs is_made refl nothing_printed handed
    (λ is. (refl, (refl, tt)), λ are. refl))
    nothing_printed

runs_with_0 : Run words 0 (reading ++ ((writing ++ []) ++ [])) report (([] ++ []) ++ [])
runs_with_0 =
    performed asked 0 (reading ++ ((writing ++ []) ++ [])) report (([] ++ []) ++ []) asks (λ is. absurd cc)
    (λ is. (let e = is.1 in absurd cc)) refl performs_with_0

-- What the promise asks for ----------------------------------------------------------------------------------------

abbrev picture : PictureLines
picture = line_of pic

true_pieces : HasTruePieces picture own_course
true_pieces q among = all_at (λ q. (k : ℕ) × IsTruePiece picture q k) (pieces own_course) q (
  (0, record { number_is = refl; lines = (0 ∷ []) ∷ []; reads = outcomes_read.zero_read; each = (refl, tt) }),
  ((1, record { number_is = refl; lines = (255 ∷ []) ∷ []; reads = outcomes_read.largest_read; each = (refl, tt) }), tt),
) among

own_head : (p : PieceOf mended) → HasHead own_course mended p
own_head p = record {
  piece = p.piece;
  among = subst (λ c. Contains (pieces c) p.piece) (one_course mended.bytes p.course own_course p.is_course own_course_is) p.among;
  number = p.number;
  number_is = p.number_is;
  head_is = refl;
}

-- the copies of the coding are of the file, which has the skeleton of the mended one
are_of_the_picture : AreCodingsOf picture copies codings files
are_of_the_picture = (
  record {
    truth = file;
    are_bytes = file_bytes;
    each_copy = (
      record { edits = edits; are_refilled = (refl, refl, refl, tt); makes = refl },
      (record { edits = edits; are_refilled = (refl, refl, refl, tt); makes = refl }, tt),
    );
    course = own_course;
    is_course = own_course_is;
    each_piece = true_pieces;
    skeleton = own_head;
  },
  tt,
)

-- and it is a true file of itself
only : (P : MendedFile → Type 0) → P mended → (f : MendedFile) → Contains files f → P f
only P h f among =
    elim (first_or_rest f mended [] among) [
      | inl e ↦ subst P e h
      | inr later ↦ absurd (none_in f later)
    ]

have_true_files : HaveTrueFilesOfTheirSkeletons picture files
have_true_files =
    only (λ f. (bytes : List ℕ) × (t : IsTrueFile picture f bytes) × HasSkeleton t.course f) (
      file,
      record {
        are_bytes = file_bytes;
        has_held = λ offset own. refl;
        course = own_course;
        is_course = own_course_is;
        each = true_pieces;
      },
      own_head,
    )
