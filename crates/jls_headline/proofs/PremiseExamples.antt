-- What there is where a premise of the laws on stations and files is not met. `TwoLineExamples` has those on marks, refusal and survival.
use Rattle.std.proofs.Common.{◌≡◌, ℕ, zero, suc, ◌<◌, true, false, List, [], None, ◌∷◌, length, map, refl, sym}
use Rattle.std.proofs.Common.{ap, subst, ◌∙◌, lit<, arith, inl, inr}
use Rattle.std.specs.Prelude.{get_or}
use Rattle.std.specs.List.{range_with_len}
use Rattle.std.proofs.lemmas.List.FromFn.{length-map-range_with_len}
use Rattle.jls_values.specs.OrderedSet as set
use Rattle.jls_values.specs.OrderedSetLaws.{contains-empty}
use Rattle.jls_values.specs.Join.{IsBetween}
use Rattle.jls_values.specs.SameShape.{same_shape}
use Rattle.jls_interval.specs.Heads.{IsHeadOfPiece}
use Rattle.jls_interval.specs.Reads.{Reads}
use Rattle.jls_interval.proofs.HeadLines.{read_has_none}
use Rattle.jls_values.specs.Shape.{PictureShape}
use Rattle.jls_partial.specs.Partial.{PartialPicture, nothing_known, has_same_shape, union}
use Rattle.jls_partial.specs.PartialLaws.{partial_laws, shape_itself}
use Rattle.jls_partial.specs.Reading.{reading_cmp}
use Rattle.jls_marker.specs.Scan.{Scan}
use Rattle.jls_copy.specs.CopyReads.{CopyReads}
use Rattle.jls_copy.specs.ReadCopy.{ReadCopy}
use Rattle.jls_write.specs.Picture.{WholePicture, line_of, settled_line, picture_of}
use Rattle.jls_headline.specs.Damaged.{HasPictureLines, picture_reading}
use Rattle.jls_headline.specs.Stations.{HoldsExactly}
use Rattle.jls_headline.specs.Sources.{sourced_copy}
use Rattle.jls_headline.specs.Collected.{no_knowledge, Collected, new_station, reader_finished, partial_ran_out, CollectedFrom}
use Rattle.jls_headline.specs.ReadsAs.{GivesPicture, ReadsAs}
use Rattle.jls_copy_laws.specs.Gives.{line_interval}
use Rattle.jls_copy_laws.proofs.FileExamples.{is_head}
use Rattle.jls_copy_laws.proofs.Members.{none_in, bytes_of_test}
use Rattle.jls_headline.proofs.CopyGives.{copy_gives}
use Rattle.jls_headline.proofs.LostIntervals.{surviving_lines_are_given}
use Rattle.jls_headline.proofs.TwoLineCopies.{shape, bits_8, parameters_8, pic_and, pic, first, piece_of, first_data}
use Rattle.jls_headline.proofs.TwoLineCopies.{first_scans, small_samples, pieces_read}
use Rattle.jls_headline.proofs.TwoLineExamples.{shape_read, line_0}

-- A picture has no more lines than its shape ---------------------------------------------------------------------

-- with a component that its shape doesn't have; the two copies are damaged copies of it too, and each line survives in one of them
-- (`both_are_damaged`, `each_line_survives`)
abbrev pub longer : WholePicture
longer = pic_and ([] ∷ [])

-- no station gives it
longer_is_never_given : (p : PartialPicture) → GivesPicture p longer → ⊥
longer_is_never_given p g =
    let ids : length p.shape.ids ≡ 1 = ap (λ (x : WholePicture). length x.shape.ids) g.1 in
    let lines : length (map (λ c. map (settled_line p c) (range_with_len 0 p.shape.height)) (range_with_len 0 (length p.shape.ids))) ≡ 2 =
    ap (λ (x : WholePicture). length x.lines) g.1 in
    let same = length-map-range_with_len (λ c. map (settled_line p c) (range_with_len 0 p.shape.height)) 0 (length p.shape.ids) in
    omega (arith, ids, lines, same)

-- and a file that reads as the picture reads as this one too
pub same_lines : (component line : ℕ) → component < 1 → line_of longer component line ≡ line_of pic component line
same_lines zero line l = refl
same_lines (suc component) line l = absurd (omega (arith, l))

reads_as_longer : (file : List ℕ) → ReadsAs file pic → ReadsAs file longer
reads_as_longer file reads = record {
  shape = reads.shape;
  readings = λ r. (
    λ g. (let is = (reads.readings r).0 g in (is.0, is.1, is.2 ∙ sym (same_lines r.component r.line is.0))),
    λ is. (reads.readings r).1 (is.0, is.1, is.2 ∙ same_lines r.component r.line is.0),
  );
}

pub longer_is_another : pic ≡ longer → ⊥
longer_is_another e = (let n : 1 ≡ 2 = ap (λ (x : WholePicture). length x.lines) e in omega (arith, n))

-- Stations of two shapes -----------------------------------------------------------------------------------------

abbrev pub taller : PictureShape
taller = record { precision = 8; width = 1; height = 3; ids = 1 ∷ [] }

-- for both the same copies were read, which are none
pub new_read_none : (s : PictureShape) → CollectedFrom (nothing_known s) []
new_read_none s = ([], new_station s (nothing_known s) refl, λ copy c. absurd (none_in copy c))

pub shapes_differ : picture_of (nothing_known shape) ≡ picture_of (nothing_known taller) → ⊥
shapes_differ e = (let n : 2 ≡ 3 = ap (λ (p : WholePicture). p.shape.height) e in omega (arith, n))

-- Stations of other copies, and such as ran out of memory -------------------------------------------------

-- what was read of the first copy has its line 0
read_of_first : (a : ReadCopy) → CopyReads first a → set.contains a.partial.readings (picture_reading pic 0 0) ≡ true
read_of_first a reads =
    (copy_gives first (bytes_of_test first refl) a reads (picture_reading pic 0 0)).1 (surviving_lines_are_given pic first 0 0 (line_0 []))

-- so a station of it holds what a new one doesn't
first_is_not_none : (a : ReadCopy) → CopyReads first a → a.partial.readings ≡ set.empty → ⊥
first_is_not_none a reads e =
    (let held = read_of_first a reads in
    let none : false ≡ true = sym (contains-empty reading_cmp (picture_reading pic 0 0))
    ∙ subst (λ rs. set.contains rs (picture_reading pic 0 0) ≡ true) e held in cc)

-- a station that ran out of memory for the first copy, which was not read again, can hold all of it, and no copy counts as read
abbrev pub known : PartialPicture
known = nothing_known shape

between : (p q : PartialPicture) → p.shape ≡ q.shape → IsBetween union p (union p q) (union p q)
between p q e =
    let same : has_same_shape p q ≡ true = subst (λ (s : PictureShape). same_shape p.shape s ≡ true) e (shape_itself p.shape) in (
      sym (partial_laws.associative p p q (shape_itself p.shape) same)
          ∙ ap (λ (x : PartialPicture). union x q) (partial_laws.idempotent p),
      partial_laws.idempotent (union p q),
    )

pub ran_out_over_first : (a : ReadCopy) → CopyReads first a → Collected no_knowledge (union known a.partial) [] (sourced_copy None first ∷ [])
ran_out_over_first a reads =
    partial_ran_out known (union known a.partial) a.partial [] [] (sourced_copy None first ∷ []) [] (new_station shape known refl)
    (reader_finished None first a a.partial (bytes_of_test first refl) reads refl)
    (between known a.partial (sym (shape_read first (first_data ∷ []) a first_scans reads)))

holds_more : (p : PartialPicture) → set.contains p.readings (picture_reading pic 0 0) ≡ true → HoldsExactly p [] → ⊥
holds_more p held h = (let from = (h.readings (picture_reading pic 0 0)).0 held in none_in from.0 from.1)

-- A piece that the input's end cuts off, with another line at its start -------------------------------------------

-- both lines in one interval
abbrev pub both_lines : Scan
both_lines = record { components = 0 ∷ []; params = bits_8; width = 1; height = 2; restart_interval = 0; by_sample = false }

-- 0x50 is the sample 1, and then what the code of a 9 below it begins with. So its head is another line than the picture's
pub another_head : IsHeadOfPiece (line_interval both_lines 0) (0x50 ∷ []) ((1 ∷ []) ∷ [])
another_head = is_head

no_lines_of_the_picture : HasPictureLines pic both_lines (0, record { bytes = 0x50 ∷ []; ended_by_input = true }) → ⊥
no_lines_of_the_picture h =
    (let e = ap (λ (lines : List (List ℕ)). get_or (get_or lines 0 []) 0 0) (h ((1 ∷ []) ∷ []) (inr (refl, another_head))) in
    omega (arith, e))

-- though it reads as no lines
reads_as_none : (lines : List (List ℕ)) → Reads (line_interval both_lines 0) (0x50 ∷ []) lines → ⊥
reads_as_none lines reads =
    (let e = ap length (read_has_none bits_8 1 1 2 parameters_8 (lit< tt) (0x50 ∷ []) lines ((1 ∷ []) ∷ []) reads another_head) in
    omega (arith, e))

-- and would give no reading if the input went on
none_if_not_cut : HasPictureLines pic both_lines (0, record { bytes = 0x50 ∷ []; ended_by_input = false })
none_if_not_cut lines (inl reads) = absurd (reads_as_none lines reads)
none_if_not_cut lines (inr (cut, head)) = absurd cc

-- A whole piece after a changed header --------------------------------------------------------------------------

-- MAXVAL is 15, where the picture was written with 255
abbrev changed : Scan
changed = record { components = 0 ∷ []; params = small_samples; width = 1; height = 2; restart_interval = 1; by_sample = false }

-- so 0x40, which nothing has damaged, reads as the sample 15, which is no line of the picture
another_line_read : HasPictureLines pic changed (1, piece_of (0x40 ∷ [])) → ⊥
another_line_read h =
    (let e = ap (λ (lines : List (List ℕ)). get_or (get_or lines 0 []) 0 0) (h ((15 ∷ []) ∷ []) (inl pieces_read.fifteen_read)) in
    omega (arith, e))
