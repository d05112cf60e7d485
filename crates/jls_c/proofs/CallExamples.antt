-- Calls and runs over two texts of a picture of which nothing is known, and over a copy that ends after its frame. What the laws
-- of calls ask is met. The bytes are by hand.
use Rattle.std.proofs.Common.{◌≡◌, ℕ, ◌<◌, ◌^◌, true, false, List, [], ◌∷◌, ◌++◌, length, map, drop, None, Some, refl, sym, ap}
use Rattle.std.proofs.Common.{◌∙◌}
use Rattle.std.proofs.Common.{subst, lit<, lit≤, arith, inr}
use Rattle.std.specs.Prelude.{All, filter, ◌==◌, ◌&&◌}
use Rattle.std.specs.List.Sorted.{IsStrictlySortedBy}
use Rattle.std.proofs.lemmas.List.{append-nil}
use Rattle.std.proofs.lemmas.List.Elements.{All-cons, All-nil}
use Rattle.jls_values.specs.OrderedSet as set
use Rattle.jls_values.specs.OrderedSetLaws.{items-from_list, contains-empty}
use Rattle.jls_values.specs.Shape.{PictureShape, IsShape}
use Rattle.jls_partial.specs.LinePlace.{place_cmp, place_of}
use Rattle.jls_partial.specs.Marks.{mark_cmp}
use Rattle.jls_partial.specs.Partial.{PartialPicture, nothing_known, readings_at, union, with_source}
use Rattle.jls_partial.specs.PartialLaws.{partial_laws, shape_itself}
use Rattle.jls_partial.specs.Reading.{Reading, reading_of, reading_cmp}
use Rattle.jls_partial.specs.ReadingOrder.{place_total, reading_total}
use Rattle.jls_partial.specs.Status.{IsSettled, status_of}
use Rattle.jls_partial.specs.Text.{text, text_of, entries, with_own_sources, IsPartial, IsTextOf}
use Rattle.jls_partial.specs.declared.status.Status.TheVariants.{Missing, Settled}
use Rattle.jls_partial.specs.declared.version.Version.TheVariants.{One, Two}
use Rattle.jls_marker.specs.HeaderState.{HeaderState}
use Rattle.jls_marker.specs.Headers.{headers_after}
use Rattle.jls_marker.specs.MarkerCodes.{has_segment}
use Rattle.jls_marker.specs.SegmentLaws.{AreBytes}
use Rattle.jls_marker.specs.declared.profile.Profile.TheVariants.{Strict}
use Rattle.jls_values.specs.PresetParameters.{no_presets}
use Rattle.jls_copy.specs.Course.{Course, IsCourse, segment, with_soi, at_eoi, for_good}
use Rattle.jls_copy.specs.CopyReads.{CopyReads}
use Rattle.jls_copy.specs.ReadCopy.{ReadCopy}
use Rattle.jls_copy.specs.declared.end.End.TheVariants.{Eoi}
use Rattle.jls_copy.proofs.FinalEnds.{final_ends_stay}
use Rattle.jls_copy.proofs.OneCourse.{one_course}
use Rattle.jls_io.specs.Event.{Event, opened, gave, created, took}
use Rattle.jls_station.specs.Given.{Given, given_by_text, given_by_copy, by_text, by_copy}
use Rattle.jls_station.specs.Inputs.{IsEnough, IsCopyDone}
use Rattle.jls_station.specs.Texts.{is_text}
use Rattle.jls_station.specs.declared.input.ReadStop.TheVariants.{Whole}
use Rattle.jls_station.proofs.OneInput.{empty_goes_on}
use Rattle.jls_salvage_run.specs.AllInputs.{IsTaken}
use Rattle.jls_salvage_run.specs.CommandLaws.{output_bytes}
use Rattle.jls_c.specs.CallLaws.{JoinCall, PartialCall, bytes_written, RunIsDone, IsReadOf, MadeByCalls, as_given, of_copy}
use Rattle.jls_c.specs.CallLaws.{of_two}
use Rattle.jls_c.specs.Info.{info_of, info_of_partial, with_bytes}
use Rattle.jls_c.specs.PartialAnswers.{IsTextPut}
use Rattle.jls_c.specs.declared.info.JlsInfo.{JlsInfo}
use Rattle.jls_c.proofs.CallLaws.{calls_and_runs_join_alike, calls_and_runs_read_alike, many_calls_and_runs_join_alike}

-- A picture of one sample of which nothing is known --------------------------------------------------------------

abbrev shape : PictureShape
shape = record { precision = 8; width = 1; height = 1; ids = 1 ∷ [] }

abbrev unknown : PartialPicture
unknown = nothing_known shape

is_shape : IsShape shape
is_shape = record {
  precision_at_least = lit≤ tt;
  precision_at_most = lit≤ tt;
  width_at_least = lit≤ tt;
  width_below = lit< tt;
  height_at_least = lit≤ tt;
  height_below = lit< tt;
  ids_at_least = lit≤ tt;
  ids_at_most = lit≤ tt;
  ids_are_bytes = (lit< tt, tt);
  ids_differ = refl;
}

no_items : set.items (set.empty {R = reading_cmp}) ≡ []
unfolding IsStrictlySortedBy
no_items = items-from_list reading_total [] tt

not_both : {P : Type 0} → false ≡ true → P
not_both e = absurd cc

no_readings : (component line : ℕ) → readings_at unknown component line ≡ []
no_readings component line =
    ap (λ (rs : List Reading). map (λ (r : Reading). r.samples)
    (filter (λ (r : Reading). r.component == component && r.line == line) rs)) no_items

few : (n : ℕ) → n ≡ 0 → n < 2 ^ 64
few n e = omega (arith, e)

is_partial : IsPartial unknown
is_partial = record {
  shape = is_shape;
  fitting = λ component line samples h. not_both (sym (contains-empty reading_cmp (reading_of component line samples)) ∙ h);
  countable = λ component line. few (length (readings_at unknown component line)) (ap length (no_readings component line));
  marks_held = λ r source h. not_both (sym (contains-empty (mark_cmp reading_cmp) (r, source)) ∙ h);
  sources_small = λ r source h. not_both (sym (contains-empty (mark_cmp reading_cmp) (r, source)) ∙ h);
}

-- Its texts ------------------------------------------------------------------------------------------------------

no_entries : entries unknown ≡ []
unfolding IsStrictlySortedBy
no_entries =
    ap (λ (rs : List Reading). map (with_own_sources unknown)
    (map (λ at. (at, readings_at unknown at.component at.line)) (set.items (set.from_list {R = place_cmp} (map place_of rs))))) no_items
    ∙ ap (λ places. map (with_own_sources unknown) (map (λ at. (at, readings_at unknown at.component at.line)) places))
    (items-from_list place_total [] tt)

-- `JLSP`, the version, the shape, and no entry
abbrev text_with : ℕ → List ℕ
text_with version = 0x4A ∷ 0x4C ∷ 0x53 ∷ 0x50 ∷ version ∷ 8 ∷ 0 ∷ 1 ∷ 0 ∷ 1 ∷ 1 ∷ 1 ∷ 0 ∷ 0 ∷ 0 ∷ 0 ∷ []

text_1 : IsTextOf (text_with 1) unknown
text_1 = record { partial = is_partial; version = One; says_all = refl; bytes_are = sym (ap (text_of One shape) no_entries) }

text_2 : IsTextOf (text_with 2) unknown
text_2 = record { partial = is_partial; version = Two; says_all = tt; bytes_are = sym (ap (text_of Two shape) no_entries) }

-- A call that joins them -----------------------------------------------------------------------------------------

abbrev both : PartialPicture
both = union unknown unknown

both_unknown : both ≡ unknown
both_unknown = partial_laws.idempotent unknown

-- a text fits into room of its length
put : (p : PartialPicture) (reported : JlsInfo) → IsPartial p
    → IsTextPut p reported (with_bytes reported (length (text p))) (text p) (text p ++ drop (length (text p)) (text p))
put p reported is = record { is_partial = is; info_is = refl; fits = omega arith; bytes_are = refl }

abbrev call : JoinCall
call = record {
  first = text_with 1;
  second = text_with 2;
  info = with_bytes (info_of_partial both) (length (text both));
  old = text both;
  new = text both ++ drop (length (text both)) (text both);
  joined = record {
    p = unknown;
    q = unknown;
    texts = record { first_is = text_1; second_is = text_2; one_shape = shape_itself shape };
    put = put both (info_of_partial both) (subst IsPartial (sym both_unknown) is_partial);
  };
}

-- `join o a b` over them -----------------------------------------------------------------------------------------

not_begun : IsEnough [] → ⊥
not_begun e = empty_goes_on one_course e.1

-- a text is read to its end
taken : (name bytes : List ℕ) → IsTextOf bytes unknown → AreBytes bytes → 0 < length bytes
    → IsTaken None name (given_by_text unknown) (opened name ∷ gave 4096 bytes ∷ gave 4096 [] ∷ [])
taken name bytes is low some = record {
  reads = gave 4096 bytes ∷ gave 4096 [] ∷ [];
  events_are = refl;
  give = record {
    bytes = bytes;
    is_read = record {
      on = gave 4096 bytes ∷ [];
      last = gave 4096 [] ∷ [];
      reads_are = refl;
      goes_on = (lit≤ tt, some, not_begun, tt);
      bytes_are = sym (append-nil bytes);
      are_bytes = low;
      stops = (lit< tt, lit≤ tt, λ e. not_both (sym e.0 ∙ ap is_text is.bytes_are));
      at_most = lit≤ tt;
      used_up = λ e. absurd cc;
    };
    gives = by_text None bytes unknown is;
  };
}

low_with : (version : ℕ) → version < 256 → AreBytes (text_with version)
low_with version low = (
  lit< tt,
  (
    lit< tt,
    (
      lit< tt,
      (
        lit< tt,
        (
          low,
          (
            lit< tt,
            (
              lit< tt,
              (
                lit< tt,
                (
                  lit< tt,
                  (
                    lit< tt,
                    (
                      lit< tt,
                      (
                        lit< tt,
                        (
                          lit< tt,
                          (
                            lit< tt,
                            (
                              lit< tt,
                              (lit< tt, tt),
                            ),
                          ),
                        ),
                      ),
                    ),
                  ),
                ),
              ),
            ),
          ),
        ),
      ),
    ),
  ),
)

abbrev reading : List Event
reading =
    (opened (97 ∷ []) ∷ gave 4096 (text_with 1) ∷ gave 4096 [] ∷ []) ++ (opened (98 ∷ []) ∷ gave 4096 (text_with 2) ∷ gave 4096 [] ∷ [])

abbrev writing : List Event
writing = created (111 ∷ []) ∷ took (text both) ∷ []

abbrev givens : List Given
givens = given_by_text unknown ∷ given_by_text unknown ∷ []

read_whole : All (λ (g : Given). g.stop ≡ Whole) givens
read_whole =
    All-cons (λ (g : Given). g.stop ≡ Whole) (given_by_text unknown) (given_by_text unknown ∷ []) refl
    (All-cons (λ (g : Given). g.stop ≡ Whole) (given_by_text unknown) [] refl (All-nil (λ (g : Given). g.stop ≡ Whole)))

-- its line is missing
not_settled : (p : PartialPicture) → p ≡ unknown → IsSettled p → ⊥
not_settled p e settled =
    let is : IsSettled unknown = subst IsSettled e settled in
    let none : Missing ≡ Settled = ap status_of (sym (no_readings 0 0)) ∙ is 0 (lit< tt) 0 (lit< tt) in cc

run : RunIsDone None (reading ++ writing)
run = record {
  out = 111 ∷ [];
  names = (97 ∷ []) ∷ (98 ∷ []) ∷ [];
  joined = both;
  settled = false;
  whole = true;
  is_done = record {
    reading = reading;
    writing = writing;
    events_are = refl;
    taken = record {
      givens = givens;
      taken = record {
        in_turn = (
          opened (97 ∷ []) ∷ gave 4096 (text_with 1) ∷ gave 4096 [] ∷ [],
          opened (98 ∷ []) ∷ gave 4096 (text_with 2) ∷ gave 4096 [] ∷ [],
          refl,
          taken (97 ∷ []) (text_with 1) text_1 (low_with 1 (lit< tt)) (lit< tt),
          (
            opened (98 ∷ []) ∷ gave 4096 (text_with 2) ∷ gave 4096 [] ∷ [],
            [],
            refl,
            taken (98 ∷ []) (text_with 2) text_2 (low_with 2 (lit< tt)) (lit< tt),
            refl,
          ),
        );
        one_shape = (shape_itself shape, tt);
      };
      union_is = refl;
      whole_is = (λ _. read_whole, λ _. refl);
    };
    handed = record {
      writes = took (text both) ∷ [];
      events_are = refl;
      wrote = record { are_writes = (omega arith, tt); they_took = append-nil (text both) };
    };
    settled_is = (λ e. not_both e, λ s. absurd (not_settled both both_unknown s));
  };
}

-- its inputs are the texts of the call, and it handed out what the call wrote
joined_alike : output_bytes (reading ++ writing) ≡ bytes_written call.info call.new ∷ []
joined_alike = calls_and_runs_join_alike call None (reading ++ writing) run (λ bytes. (λ c. c, λ c. c))

-- A copy that ends after its frame -------------------------------------------------------------------------------

-- 8 bits, one line of one sample, and component 1
abbrev frame : List ℕ
frame = 8 ∷ 0 ∷ 1 ∷ 0 ∷ 1 ∷ 1 ∷ 1 ∷ 0x11 ∷ 0 ∷ []

-- SOI, SOF55 and EOI
abbrev copy : List ℕ
copy = 0xFF ∷ 0xD8 ∷ 0xFF ∷ 0xF7 ∷ 0x00 ∷ 0x0B ∷ frame ++ 0xFF ∷ 0xD9 ∷ []

abbrev framed : HeaderState
framed = record { profile = Strict; frame = Some shape; preset = no_presets; restart_interval = 0; scans = 0 }

abbrev course : Course
course = record { begin = 2; units = segment 0 0xF7 frame ∷ []; headers = framed; end = Eoi 15 }

has_course : IsCourse copy course
unfolding headers_after has_segment
has_course = with_soi 0 (0xFF ∷ 0xF7 ∷ 0x00 ∷ 0x0B ∷ frame ++ 0xFF ∷ 0xD9 ∷ []) (segment 0 0xF7 frame ∷ []) framed (Eoi 15) (
  framed,
  0xFF ∷ 0xD9 ∷ [],
  refl,
  ((refl, lit< tt), refl),
  (refl, for_good framed 15 (0xFF ∷ 0xD9 ∷ []) (Eoi 15) (at_eoi framed 15 0 [] refl)),
)

-- a byte follows it
abbrev longer : List ℕ
longer = copy ++ 0 ∷ []

abbrev read : ReadCopy
read = record { partial = unknown; pieces = []; piece_count = 0; ended = Eoi 15 }

reads_with : (bytes : List ℕ) → IsCourse bytes course → CopyReads bytes read
reads_with bytes is = record {
  course = course;
  is_course = is;
  shape = shape;
  framed = refl;
  outcomes = [];
  each = tt;
  head = [];
  head_is = refl;
  partial_is = refl;
  pieces_are = refl;
  count_is = refl;
  ended_is = refl;
}

is_done : IsCopyDone copy
is_done = (course, has_course, refl)

is_front : IsReadOf copy longer
is_front = inr (is_done, 0 ∷ [], refl)

-- under the source 7 nothing is known of it either
abbrev sourced : PartialPicture
sourced = with_source unknown 7

sourced_unknown : sourced ≡ unknown
sourced_unknown =
    ap (λ (rs : List Reading). record {
      shape = shape;
      readings = set.empty;
      marks = set.insert_all {R = mark_cmp reading_cmp} set.empty (map (λ (r : Reading). (r, 7)) rs);
    }) no_items

abbrev partial_call : PartialCall
partial_call = record {
  copy = longer;
  source = 7;
  info = with_bytes (info_of read) (length (text sourced));
  old = text sourced;
  new = text sourced ++ drop (length (text sourced)) (text sourced);
  made = record {
    read = read;
    reads = reads_with longer (final_ends_stay copy (0 ∷ []) course has_course refl);
    put = put sourced (info_of read) (subst IsPartial (sym sourced_unknown) is_partial);
  };
}

-- `join --source 7 o a` reads it up to EOI
abbrev copy_reading : List Event
copy_reading = opened (97 ∷ []) ∷ gave 4096 copy ∷ []

abbrev copy_writing : List Event
copy_writing = created (111 ∷ []) ∷ took (text sourced) ∷ []

copy_taken : IsTaken (Some 7) (97 ∷ []) (given_by_copy (Some 7) copy read Whole) copy_reading
copy_taken = record {
  reads = gave 4096 copy ∷ [];
  events_are = refl;
  give = record {
    bytes = copy;
    is_read = record {
      on = gave 4096 copy ∷ [];
      last = [];
      reads_are = refl;
      goes_on = (lit≤ tt, lit< tt, not_begun, tt);
      bytes_are = refl;
      are_bytes = (
        lit< tt,
        (
          lit< tt,
          (
            lit< tt,
            (
              lit< tt,
              (
                lit< tt,
                (
                  lit< tt,
                  (
                    lit< tt,
                    (
                      lit< tt,
                      (
                        lit< tt,
                        (
                          lit< tt,
                          (
                            lit< tt,
                            (
                              lit< tt,
                              (
                                lit< tt,
                                (
                                  lit< tt,
                                  (lit< tt, (lit< tt, (lit< tt, tt))),
                                ),
                              ),
                            ),
                          ),
                        ),
                      ),
                    ),
                  ),
                ),
              ),
            ),
          ),
        ),
      );
      stops = (refl, is_done);
      at_most = lit≤ tt;
      used_up = λ e. absurd cc;
    };
    gives = by_copy (Some 7) copy read Whole refl (reads_with copy has_course);
  };
}

copy_run : RunIsDone (Some 7) (copy_reading ++ copy_writing)
copy_run = record {
  out = 111 ∷ [];
  names = (97 ∷ []) ∷ [];
  joined = sourced;
  settled = false;
  whole = true;
  is_done = record {
    reading = copy_reading;
    writing = copy_writing;
    events_are = refl;
    taken = record {
      givens = given_by_copy (Some 7) copy read Whole ∷ [];
      taken = record { in_turn = (copy_reading, [], refl, copy_taken, refl); one_shape = tt };
      union_is = refl;
      whole_is = (
        λ _. All-cons (λ (g : Given). g.stop ≡ Whole) (given_by_copy (Some 7) copy read Whole) [] refl
            (All-nil (λ (g : Given). g.stop ≡ Whole)),
        λ _. refl,
      );
    };
    handed = record {
      writes = took (text sourced) ∷ [];
      events_are = refl;
      wrote = record { are_writes = (omega arith, tt); they_took = append-nil (text sourced) };
    };
    settled_is = (λ e. not_both e, λ s. absurd (not_settled sourced sourced_unknown s));
  };
}

read_alike : output_bytes (copy_reading ++ copy_writing) ≡ bytes_written partial_call.info partial_call.new ∷ []
read_alike = calls_and_runs_read_alike partial_call (copy_reading ++ copy_writing) copy_run copy refl is_front

-- that call made it of what the run read, and the call above of its two texts
made_of_copy : MadeByCalls (Some 7) (copy ∷ []) (bytes_written partial_call.info partial_call.new)
made_of_copy = of_copy partial_call copy refl is_front

made_of_texts : MadeByCalls None (text_with 1 ∷ text_with 2 ∷ []) (bytes_written call.info call.new)
made_of_texts = of_two call (text_with 1 ∷ []) (text_with 2 ∷ []) (as_given (text_with 1)) (as_given (text_with 2))

many_alike : output_bytes (reading ++ writing) ≡ bytes_written call.info call.new ∷ []
many_alike =
    many_calls_and_runs_join_alike None (text_with 1 ∷ text_with 2 ∷ []) call made_of_texts (reading ++ writing) run
    (λ bytes. (λ c. c, λ c. c))
