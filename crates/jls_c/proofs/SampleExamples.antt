-- What callers in C are shown of a copy by sample, of one pixel of three components. A caller who asks for the wide profile gets its three
-- lines. Under the strict one the scan ends the copy, and no line is known.
use Rattle.std.proofs.Common.{◌≡◌, ℕ, true, ◌||◌, List, [], ◌∷◌, ◌++◌, length, map, drop, refl, sym, ap, ◌∙◌, lit≤}
use Rattle.std.specs.Prelude.{◌==◌, ◌&&◌, count_by}
use Rattle.std.specs.List.{filter, flat_map, range_with_len, list_any}
use Rattle.std.specs.Ordering.{eq_by_cmp}
use Rattle.std.specs.List.Sorted.{IsStrictlySortedBy}
use Rattle.jls_values.specs.OrderedSet as set
use Rattle.jls_values.specs.OrderedSetLaws.{items-from_list, same_set, contains-insert_all, contains-from_list, contains-empty}
use Rattle.jls_marker.specs.declared.profile.Profile.TheVariants.{Strict, Wide}
use Rattle.jls_partial.specs.Reading.{Reading, reading_cmp}
use Rattle.jls_partial.specs.ReadingOrder.{reading_total, reading_exact}
use Rattle.jls_partial.specs.Status.{status_of}
use Rattle.jls_copy_laws.proofs.SampleExamples.{copy, held, partial_of, wide_read, wide_reads, read, reads}
use Rattle.jls_c.specs.Answers.{IsCopyShown, IsCopyShownUnder, profile_of}
use Rattle.jls_c.specs.Info.{info_of}
use Rattle.jls_c.specs.Lines.{status_number, line_statuses, shown, shown_picture}
use Rattle.jls_c.specs.declared.info.JlsInfo.{JlsInfo}

-- What callers ask for -------------------------------------------------------------------------------------------

strictly : profile_of 0 ≡ Strict
strictly = refl

widely : profile_of 1 ≡ Wide
widely = refl

widely_too : profile_of 255 ≡ Wide
widely_too = refl

-- What is shown --------------------------------------------------------------------------------------------------

-- they are the same set in whatever order they are put in
its_set : set.insert_all (set.empty {R = reading_cmp}) held ≡ set.from_list {R = reading_cmp} held
its_set =
    same_set reading_total reading_exact (set.insert_all set.empty held) (set.from_list held) (λ q. contains-insert_all reading_total set.empty held q
    ∙ ap (λ b. b || list_any (eq_by_cmp reading_cmp q) held) (contains-empty reading_cmp q)
    ∙ sym (contains-from_list reading_total held q))

its_items : set.items (partial_of held).readings ≡ held
unfolding IsStrictlySortedBy
its_items = ap set.items its_set ∙ items-from_list reading_total held ((refl, (refl, tt)), ((refl, tt), (tt, tt)))

no_items : set.items (partial_of []).readings ≡ []
unfolding IsStrictlySortedBy
no_items = items-from_list reading_total [] tt

-- of each component its line, by the readings that are held: its samples, its status, and what is shown
abbrev samples_at : List Reading → ℕ → ℕ → List (List ℕ)
samples_at rs component line =
    map (λ (r : Reading). r.samples) (filter (λ (r : Reading). r.component == component && r.line == line) rs)

abbrev statuses_in : List Reading → List ℕ
statuses_in rs = flat_map (λ c. map (λ l. status_number (status_of (samples_at rs c l))) (range_with_len 0 1)) (range_with_len 0 3)

abbrev samples_in : List Reading → List ℕ
samples_in rs = flat_map (λ c. flat_map (λ l. shown 1 (samples_at rs c l)) (range_with_len 0 1)) (range_with_len 0 3)

wide_statuses : line_statuses wide_read.partial ≡ 1 ∷ 1 ∷ 1 ∷ []
wide_statuses = ap statuses_in its_items

wide_samples : shown_picture wide_read.partial ≡ 0 ∷ 7 ∷ 0 ∷ []
wide_samples = ap samples_in its_items

its_statuses : line_statuses read.partial ≡ 0 ∷ 0 ∷ 0 ∷ []
its_statuses = ap statuses_in no_items

its_samples : shown_picture read.partial ≡ 0 ∷ 0 ∷ 0 ∷ []
its_samples = ap samples_in no_items

-- three samples and three statuses go over what stands in the buffers
pub shown_widely : IsCopyShownUnder Wide copy (info_of wide_read) (9 ∷ 9 ∷ 9 ∷ 8 ∷ []) (0 ∷ 7 ∷ 0 ∷ 8 ∷ []) (9 ∷ 9 ∷ 9 ∷ []) (1 ∷ 1 ∷ 1 ∷ [])
shown_widely = record {
  read = wide_read;
  reads = wide_reads;
  shown = record {
    info_is = refl;
    samples_fit = lit≤ tt;
    statuses_fit = lit≤ tt;
    samples_are = ap (λ (xs : List ℕ). xs ++ drop (length xs) (9 ∷ 9 ∷ 9 ∷ 8 ∷ [])) (sym wide_samples);
    statuses_are = ap (λ (xs : List ℕ). xs ++ drop (length xs) (9 ∷ 9 ∷ 9 ∷ [])) (sym wide_statuses);
  };
}

pub shown_strictly : IsCopyShown copy (info_of read) (9 ∷ 9 ∷ 9 ∷ 8 ∷ []) (0 ∷ 0 ∷ 0 ∷ 8 ∷ []) (9 ∷ 9 ∷ 9 ∷ []) (0 ∷ 0 ∷ 0 ∷ [])
shown_strictly = record {
  read = read;
  reads = reads;
  shown = record {
    info_is = refl;
    samples_fit = lit≤ tt;
    statuses_fit = lit≤ tt;
    samples_are = ap (λ (xs : List ℕ). xs ++ drop (length xs) (9 ∷ 9 ∷ 9 ∷ 8 ∷ [])) (sym its_samples);
    statuses_are = ap (λ (xs : List ℕ). xs ++ drop (length xs) (9 ∷ 9 ∷ 9 ∷ [])) (sym its_statuses);
  };
}

-- what is reported, by the statuses, of a copy that ends like this
abbrev reported : List ℕ → ℕ → ℕ → ℕ → JlsInfo
reported statuses offset end fault = record {
  samples = 3;
  bytes = 0;
  faulty_pieces = 0;
  end_offset = offset;
  lines = 3;
  missing = count_by (λ s. s == 0) statuses;
  settled = count_by (λ s. s == 1) statuses;
  disputed = count_by (λ s. s == 2) statuses;
  width = 1;
  height = 1;
  precision = 8;
  components = 3;
  end = end;
  fault = fault;
}

-- all three lines are settled, and the copy ends at EOI
wide_info : info_of wide_read ≡ record (reported [] 37 0 0) { settled = 3 }
wide_info = ap (λ (statuses : List ℕ). reported statuses 37 0 0) wide_statuses

-- all three are missing, and the copy ends at SOS with JLS_FAULT_INTERLEAVE
its_info : info_of read ≡ record (reported [] 21 2 7) { missing = 3 }
its_info = ap (λ (statuses : List ℕ). reported statuses 21 2 7) its_statuses
