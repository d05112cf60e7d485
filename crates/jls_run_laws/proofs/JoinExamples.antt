-- A run of `join` over the two copies, and one of `write` after it, event by event: the premises of the laws on written joins are met, and
-- the text of the join stands for both copies. So does a run of `join` over that text.
use Rattle.std.proofs.Common.{◌≡◌, ℕ, zero, suc, ◌<◌, true, false, List, [], ◌∷◌, ◌++◌, length, Option, None, refl, sym, ap, ◌∙◌, subst}
use Rattle.std.proofs.Common.{lit<, lit≤, arith, inr}
use Rattle.std.specs.Prelude.{All}
use Rattle.std.specs.List.{Contains}
use Rattle.std.proofs.lemmas.List.{append-nil}
use Rattle.std.proofs.lemmas.List.Elements.{All-cons, All-nil}
use Rattle.std.proofs.lemmas.Bool.{or_left, or_right}
use Rattle.jls_values.specs.OrderedSetLaws.{contains-union}
use Rattle.jls_values.specs.Shape.{PictureShape}
use Rattle.jls_values.specs.SameShape.{same_shape}
use Rattle.jls_partial.specs.Partial.{PartialPicture, has_same_shape, holds, readings_at, union}
use Rattle.jls_partial.specs.Parts.{IsPartOf, EachLineIsHeld}
use Rattle.jls_partial.specs.Reading.{reading_of}
use Rattle.jls_partial.specs.ReadingOrder.{reading_total}
use Rattle.jls_partial.specs.PartialLaws.{shape_itself}
use Rattle.jls_partial.specs.Text.{text, IsTextOf}
use Rattle.jls_copy.specs.CopyReads.{CopyReads, IsDone}
use Rattle.jls_copy.specs.ReadCopy.{ReadCopy}
use Rattle.jls_copy.proofs.OneCourse.{one_course}
use Rattle.jls_io.specs.Event.{Event, opened, gave, created, took}
use Rattle.jls_write.specs.Picture.{WholePicture, line_of, picture_of}
use Rattle.jls_write.specs.Pnm.{pnm}
use Rattle.jls_station.specs.Texts.{is_text}
use Rattle.jls_station.specs.Given.{Given, given_by_text, given_by_copy, by_text, by_copy}
use Rattle.jls_station.specs.Inputs.{IsEnough}
use Rattle.jls_salvage_run.specs.AllInputs.{IsTaken}
use Rattle.jls_salvage_run.specs.Joining.{JoinIsDone}
use Rattle.jls_salvage_run.specs.CommandLaws.{AreInputsOf, input_bytes}
use Rattle.jls_station.specs.Reading.{IsRead}
use Rattle.jls_station.specs.declared.input.ReadStop.TheVariants.{Whole}
use Rattle.jls_cli.specs.Outcomes.{finished}
use Rattle.jls_station.proofs.OneInput.{empty_goes_on}
use Rattle.jls_salvage_run.specs.WritingFiles.{WritesFile, done}
use Rattle.jls_salvage_run.specs.declared.writing.Format.TheVariants.{Pnm}
use Rattle.jls_run_laws.specs.JoinThenWrite.{JoinsDamagedCopies, JoinsForDamagedCopies, WritesWhatWasJoined}
use Rattle.jls_run_laws.specs.NoOtherLaws.{SomeInputHasEachLine}
use Rattle.jls_headline.specs.Damaged.{picture_reading, Survives}
use Rattle.jls_headline.specs.ReadsAs.{GivesPicture}
use Rattle.jls_run_laws.specs.RunLaws.{DoneJoin, InputStandsFor, InputStandsUnder}
use Rattle.jls_headline.specs.Sources.{sourced_copy}
use Rattle.jls_headline.specs.Sources.{SourcedCopy}
use Rattle.jls_headline.specs.Stations.{HoldsExactly}
use Rattle.jls_headline.specs.Collected.{reader_finished, CollectedUnder}
use Rattle.jls_headline.proofs.Collected.{collected_holds, collected_aside}
use Rattle.jls_run_laws.proofs.CollectedRuns.{union_under}
use Rattle.jls_run_laws.proofs.JoinThenWrite.{text_of_copies}
use Rattle.jls_headline.proofs.LostIntervals.{surviving_lines_are_given}
use Rattle.jls_headline.proofs.Held.{is_at_line}
use Rattle.jls_copy_laws.proofs.Members.{in_rest, is_first, none_in, bytes_of_test}
use Rattle.jls_headline.proofs.StationPictures.{exactly_gives_the_picture}
use Rattle.jls_headline.proofs.Stations.{copy_holds}
use Rattle.jls_headline.proofs.TwoLineCopies.{shape, pic, is_picture, first, second, first_course, second_course, course_with, lost_first}
use Rattle.jls_headline.proofs.TwoLineCopies.{first_data, second_data, first_scans, second_scans}
use Rattle.jls_headline.proofs.TwoLineExamples.{shape_read, both_are_damaged, line_0, line_1, each_line_survives}
use Rattle.jls_marker.specs.SegmentLaws.{AreBytes}

-- One input that is a copy ---------------------------------------------------------------------------------------

first_is_done : IsDone first true
first_is_done = (course_with [] (0x80 ∷ []) 32, first_course, refl)

second_is_done : IsDone second true
second_is_done = (course_with (lost_first ∷ []) (0x40 ∷ []) 34, second_course, refl)

not_begun : IsEnough [] → ⊥
not_begun e = empty_goes_on one_course e.1

-- one read gives all of it
read_at_once : (bytes : List ℕ) → 0 < length bytes → AreBytes bytes → is_text bytes ≡ false → IsDone bytes true
    → IsRead IsEnough (gave 4096 bytes ∷ []) bytes Whole
read_at_once bytes some low none is_done = record {
  on = gave 4096 bytes ∷ [];
  last = [];
  reads_are = refl;
  goes_on = (lit≤ tt, some, not_begun, tt);
  bytes_are = sym (append-nil bytes);
  are_bytes = low;
  stops = (none, is_done);
  at_most = lit≤ tt;
  used_up = λ e. absurd cc;
}

taken_at_once : (name bytes : List ℕ) (read : ReadCopy) → 0 < length bytes → AreBytes bytes → is_text bytes ≡ false → IsDone bytes true
    → CopyReads bytes read → IsTaken None name (given_by_copy None bytes read Whole) (opened name ∷ gave 4096 bytes ∷ [])
taken_at_once name bytes read some low none is_done reads = record {
  reads = gave 4096 bytes ∷ [];
  events_are = refl;
  give = record { bytes = bytes; is_read = read_at_once bytes some low none is_done; gives = by_copy None bytes read Whole none reads };
}

-- The two runs ---------------------------------------------------------------------------------------------------

-- `join o a b` and `write --as pnm p o`: the names are one letter each
abbrev reading : List Event
reading = opened (97 ∷ []) ∷ gave 4096 first ∷ opened (98 ∷ []) ∷ gave 4096 second ∷ []

module _ (a b : ReadCopy) (ra : CopyReads first a) (rb : CopyReads second b) where
  -- what is joined
  abbrev pub both : PartialPicture
  both = union a.partial b.partial

  first_shape : a.partial.shape ≡ shape
  first_shape = shape_read first (first_data ∷ []) a first_scans ra

  second_shape : b.partial.shape ≡ shape
  second_shape = shape_read second (second_data ∷ []) b second_scans rb

  one_shape : has_same_shape a.partial b.partial ≡ true
  one_shape =
      subst (λ (s : PictureShape). same_shape a.partial.shape s ≡ true) (first_shape ∙ sym second_shape) (shape_itself a.partial.shape)

  -- what `finish` gave of both copies was joined
  abbrev both_copies : List SourcedCopy
  both_copies = sourced_copy None first ∷ sourced_copy None second ∷ []

  collected_both : CollectedUnder both both_copies
  collected_both =
      union_under a.partial b.partial (sourced_copy None first ∷ []) (sourced_copy None second ∷ [])
      ([], reader_finished None first a a.partial (bytes_of_test first refl) ra refl, λ copy c. absurd (none_in copy c))
      ([], reader_finished None second b b.partial (bytes_of_test second refl) rb refl, λ copy c. absurd (none_in copy c))
      (second_shape ∙ sym first_shape)

  holds_both : HoldsExactly both (first ∷ second ∷ [])
  holds_both = collected_holds both both_copies (collected_aside both both_copies collected_both)

  pub gives : GivesPicture both pic
  gives =
      (exactly_gives_the_picture pic is_picture both (first ∷ second ∷ []) holds_both (both_are_damaged []) (each_line_survives [])).0

  abbrev pub joining : List Event
  joining = reading ++ (created (111 ∷ []) ∷ took (text both) ∷ [])

  abbrev givens : List Given
  givens = given_by_copy None first a Whole ∷ given_by_copy None second b Whole ∷ []

  whole : All (λ (g : Given). g.stop ≡ Whole) givens
  whole =
      All-cons (λ (g : Given). g.stop ≡ Whole) (given_by_copy None first a Whole) (given_by_copy None second b Whole ∷ []) refl
      (All-cons (λ (g : Given). g.stop ≡ Whole) (given_by_copy None second b Whole) [] refl (All-nil (λ (g : Given). g.stop ≡ Whole)))

  pub is_done : JoinIsDone None (111 ∷ []) ((97 ∷ []) ∷ (98 ∷ []) ∷ []) both true true joining
  is_done = record {
    reading = reading;
    writing = created (111 ∷ []) ∷ took (text both) ∷ [];
    events_are = refl;
    taken = record {
      givens = givens;
      taken = record {
        in_turn = (
          opened (97 ∷ []) ∷ gave 4096 first ∷ [],
          opened (98 ∷ []) ∷ gave 4096 second ∷ [],
          refl,
          taken_at_once (97 ∷ []) first a (lit< tt) (bytes_of_test first refl) refl first_is_done ra,
          (
            opened (98 ∷ []) ∷ gave 4096 second ∷ [],
            [],
            refl,
            taken_at_once (98 ∷ []) second b (lit< tt) (bytes_of_test second refl) refl second_is_done rb,
            refl,
          ),
        );
        one_shape = (one_shape, tt);
      };
      union_is = refl;
      whole_is = (λ _. whole, λ _. refl);
    };
    settled_is = (λ _. gives.0, λ _. refl);
    handed = record {
      writes = took (text both) ∷ [];
      events_are = refl;
      wrote = record { are_writes = (omega arith, tt); they_took = append-nil (text both) };
    };
  }

  abbrev pub run : DoneJoin
  run = record {
    source = None;
    out = 111 ∷ [];
    names = (97 ∷ []) ∷ (98 ∷ []) ∷ [];
    joined = both;
    settled = true;
    whole = true;
    events = joining;
    is_done = is_done;
  }

  pub joins : JoinsDamagedCopies pic run
  joins = record {
    is_picture = is_picture;
    small = λ number e. absurd cc;
    damaged = both_are_damaged [];
    each_line = each_line_survives [];
  }

  text_is : IsTextOf (text both) both
  text_is = (text_of_copies pic run joins).1

  -- the text that was handed out stands for both copies
  stands_for_both : (source : Option ℕ) → InputStandsFor source (text both) both_copies
  stands_for_both source = inr (both, text_is, collected_aside both both_copies collected_both)

  -- and under their sources, of which there are none
  stands_under_none : (source : Option ℕ) → InputStandsUnder source (text both) both_copies
  stands_under_none source = inr (both, text_is, collected_both)

  -- and it has each line
  text_has_each_line : SomeInputHasEachLine pic (text both ∷ [])
  text_has_each_line component line c l =
      let s = each_line_survives [] component line c l in (
        text both,
        is_first (text both) [],
        inr (
          both,
          text_is,
          first_shape,
          (holds_both.readings (picture_reading pic component line)).1 (s.0, s.1, surviving_lines_are_given pic s.0 component line s.2),
        ),
      )

  -- the copies give parts of what was joined, and one of these has each line
  parts : All (IsPartOf both) (a.partial ∷ b.partial ∷ [])
  parts =
      All-cons (IsPartOf both) a.partial (b.partial ∷ []) (record {
        shape = refl;
        readings = λ component line samples h. contains-union reading_total a.partial.readings b.partial.readings
            (reading_of component line samples)
            ∙ or_left (holds a.partial component line samples) (holds b.partial component line samples) h;
      }) (All-cons (IsPartOf both) b.partial [] (record {
        shape = second_shape ∙ sym first_shape;
        readings = λ component line samples h. contains-union reading_total a.partial.readings b.partial.readings
            (reading_of component line samples)
            ∙ or_right (holds a.partial component line samples) (holds b.partial component line samples) h;
      }) (All-nil (IsPartOf both)))

  has_line : (p : PartialPicture) (copy : List ℕ) (line : ℕ) → HoldsExactly p (copy ∷ []) → Survives pic copy 0 line
      → readings_at p 0 line ≡ [] → ⊥
  has_line p copy line holds survives none =
      let held = (holds.readings (picture_reading pic 0 line)).1
      (copy, is_first copy [], surviving_lines_are_given pic copy 0 line survives) in
      none_in (line_of pic 0 line)
      (subst (λ (xs : List (List ℕ)). Contains xs (line_of pic 0 line)) none (is_at_line p 0 line (line_of pic 0 line) held))

  each_is_held : EachLineIsHeld both.shape (a.partial ∷ b.partial ∷ [])
  each_is_held zero c zero l = (
    a.partial,
    is_first a.partial (b.partial ∷ []),
    has_line a.partial first 0 (copy_holds a.partial first a (bytes_of_test first refl) ra refl refl) (line_0 []),
  )
  each_is_held zero c (suc zero) l = (
    b.partial,
    in_rest b.partial a.partial (b.partial ∷ []) (is_first b.partial []),
    has_line b.partial second 1 (copy_holds b.partial second b (bytes_of_test second refl) rb refl refl) (line_1 []),
  )
  each_is_held zero c (suc (suc line)) l = (let h = ap (λ (s : PictureShape). s.height) first_shape in absurd (omega (arith, h, l)))
  each_is_held (suc component) c line l = (let h = ap (λ (s : PictureShape). length s.ids) first_shape in absurd (omega (arith, h, c)))

  inputs_give : AreInputsOf None (input_bytes joining) (a.partial ∷ b.partial ∷ [])
  inputs_give = (
    (given_by_copy None first a Whole, by_copy None first a Whole refl ra, refl),
    ((given_by_copy None second b Whole, by_copy None second b Whole refl rb, refl), tt),
  )

  -- a `write` reads it and hands out the file
  module _ (low : AreBytes (text both)) where
    text_read : IsRead IsEnough (gave 4096 (text both) ∷ gave 4096 [] ∷ []) (text both) Whole
    text_read = record {
      on = gave 4096 (text both) ∷ [];
      last = gave 4096 [] ∷ [];
      reads_are = refl;
      goes_on = (lit≤ tt, omega arith, not_begun, tt);
      bytes_are = sym (append-nil (text both));
      are_bytes = low;
      stops = (lit< tt, lit≤ tt, λ e. (let f : true ≡ false = e.0 in absurd cc));
      at_most = lit≤ tt;
      used_up = λ e. absurd cc;
    }

    abbrev pub text_reading : List Event
    text_reading = opened (111 ∷ []) ∷ gave 4096 (text both) ∷ gave 4096 [] ∷ []

    pub text_taken : IsTaken None (111 ∷ []) (given_by_text both) text_reading
    text_taken = record {
      reads = gave 4096 (text both) ∷ gave 4096 [] ∷ [];
      events_are = refl;
      give = record { bytes = text both; is_read = text_read; gives = by_text None (text both) both text_is };
    }

    abbrev pub handing : List Event
    handing = created (112 ∷ []) ∷ took (pnm (picture_of both)) ∷ []

    some_bytes : 0 < length (pnm (picture_of both))
    some_bytes = subst (λ (p : WholePicture). 0 < length (pnm p)) (sym gives.1) (omega arith)

    pub writes_file : WritesFile Pnm (112 ∷ []) (111 ∷ []) (finished true true) (text_reading ++ handing)
    writes_file = done Pnm (112 ∷ []) (111 ∷ []) (given_by_text both) true text_reading handing text_taken gives.0
        (record { settled_is = (λ _. gives.0, λ _. refl); whole_is = (λ _. refl, λ _. refl) })
        tt
        (record {
          writes = took (pnm (picture_of both)) ∷ [];
          events_are = refl;
          wrote = record { are_writes = (some_bytes, tt); they_took = append-nil (pnm (picture_of both)) };
        })

    pub writes : WritesWhatWasJoined joining Pnm (finished true true) (text_reading ++ handing)
    writes = record {
      out = 112 ∷ [];
      name = 111 ∷ [];
      writes = writes_file;
      same_bytes = ap (λ (bytes : List ℕ). bytes ∷ []) refl;
    }

    -- and a `join` reads it alone, and hands out the same text
    abbrev pub joined_again : List Event
    joined_again = text_reading ++ (created (113 ∷ []) ∷ took (text both) ∷ [])

    abbrev pub run_again : DoneJoin
    run_again = record {
      source = None;
      out = 113 ∷ [];
      names = (111 ∷ []) ∷ [];
      joined = both;
      settled = true;
      whole = true;
      events = joined_again;
      is_done = record {
        reading = text_reading;
        writing = created (113 ∷ []) ∷ took (text both) ∷ [];
        events_are = refl;
        taken = record {
          givens = given_by_text both ∷ [];
          taken = record { in_turn = (text_reading, [], refl, text_taken, refl); one_shape = tt };
          union_is = refl;
          whole_is = (
            λ _. All-cons (λ (g : Given). g.stop ≡ Whole) (given_by_text both) [] refl (All-nil (λ (g : Given). g.stop ≡ Whole)),
            λ _. refl,
          );
        };
        settled_is = (λ _. gives.0, λ _. refl);
        handed = record {
          writes = took (text both) ∷ [];
          events_are = refl;
          wrote = record { are_writes = (omega arith, tt); they_took = append-nil (text both) };
        };
      };
    }

    pub joins_the_text : JoinsForDamagedCopies pic run_again
    joins_the_text = record {
      is_picture = is_picture;
      small = λ number e. absurd cc;
      copies = both_copies;
      stand = (
        both_copies,
        [],
        refl,
        subst (λ (bytes : List ℕ). InputStandsFor None bytes both_copies) (sym (append-nil (text both))) (stands_for_both None),
        refl,
      );
      damaged = both_are_damaged [];
      each_line = each_line_survives [];
    }
