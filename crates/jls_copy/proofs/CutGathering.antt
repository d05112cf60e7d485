-- The input ends, over what a reader holds.
use Rattle.std.proofs.Common.{◌≡◌, ℕ, ◌+◌, List, [], ◌∷◌, ◌++◌, take, length, Option, Some, refl, sym, ap, ◌∙◌, subst, append_assoc}
use Rattle.std.proofs.Common.{length-append}
use Rattle.std.proofs.lemmas.List.{append-nil}
use Rattle.jls_values.specs.OrderedSet as set
use Rattle.jls_values.specs.OrderedSetLaws.{insert_all-append}
use Rattle.jls_values.specs.Shape.{PictureShape}
use Rattle.jls_partial.specs.Reading as partial
use Rattle.jls_copy.specs.Pieces.{FoundPiece, PieceOutcome, Lines, AreOutcomes, readings, records, readings_of, records_of}
use Rattle.jls_copy.specs.CutPieces.{IsHeadOfCut, head_readings}
use Rattle.jls_copy.specs.Findings.{AddsCut, with_readings, picture_of, kept_with}
use Rattle.jls_copy.specs.Gathers.{Gathers}
use Rattle.jls_copy.specs.Conclusion.{Concludes}
use Rattle.jls_copy.specs.ReadCopy.{ReadCopy}
use Rattle.jls_copy.specs.Reader.{IsReadingCopy}
use Rattle.jls_copy.specs.ReaderState.{reading, end_at, closed_at_end}
use Rattle.jls_copy.specs.declared.end.End.{End}
use Rattle.jls_copy.specs.declared.findings.Findings.{Findings}
use Rattle.jls_copy.specs.declared.machine.Machine.{Machine}
use Rattle.jls_copy.proofs.Gathering.{are_more, readings_more, records_more, kept_more, some_is}
use Rattle.jls_partial.specs.Partial.{without_sources}
use Rattle.jls_marker.specs.declared.profile.Profile.{Profile}

-- what is kept is what the pieces give, with the readings of the head of the last one
record CutGathers (frame : Option PictureShape) (ps qs : List FoundPiece) (f : Findings) : Type 0 where
  outcomes : List PieceOutcome
  each : AreOutcomes (ps ++ qs) outcomes
  head : List (List ℕ)
  head_is : IsHeadOfCut qs head
  picture_is : (shape : PictureShape) → frame ≡ Some shape
      → picture_of shape f.partial ≡ without_sources shape
      (set.insert_all set.empty (readings (ps ++ qs) outcomes ++ head_readings qs head))
  records_are : f.records.items ≡ take 4096 (records (ps ++ qs) outcomes)
  count_is : f.record_count ≡ length (records (ps ++ qs) outcomes)

-- what was gathered of the pieces before, with what the last one adds at the input's end, is gathered of all
cut_gathers : (frame : Option PictureShape) (ps qs : List FoundPiece) (old new : Findings) → Gathers frame ps old → AddsCut frame qs old new
    → CutGathers frame ps qs new
cut_gathers frame ps [] old new g e =
    let all : ps ++ [] ≡ ps = append-nil ps in
    record {
      outcomes = g.outcomes;
      each = subst (λ xs. AreOutcomes xs g.outcomes) (sym all) g.each;
      head = [];
      head_is = refl;
      picture_is = λ shape framed.
          ap (λ (f : Findings). picture_of shape f.partial) e ∙ g.picture_is shape framed
          ∙ ap (λ xs. without_sources shape (set.insert_all set.empty xs))
          (sym (append-nil (readings (ps ++ []) g.outcomes) ∙ ap (λ xs. readings xs g.outcomes) all));
      records_are = ap (λ (f : Findings). f.records.items) e ∙ g.records_are ∙ ap (λ xs. take 4096 (records xs g.outcomes)) (sym all);
      count_is = ap (λ (f : Findings). f.record_count) e ∙ g.count_is ∙ ap (λ xs. length (records xs g.outcomes)) (sym all);
    }
cut_gathers frame ps (p ∷ q ∷ more) old new g a = absurd a
cut_gathers frame ps (p ∷ []) old new g (shape, framed, adds) =
    let o = adds.outcome in
    record {
      outcomes = g.outcomes ++ o ∷ [];
      each = are_more ps g.outcomes p o g.each adds.is_outcome;
      head = adds.head;
      head_is = adds.is_head;
      picture_is = λ s e.
          let same : shape ≡ s = some_is shape s (sym framed ∙ e) in
          let more : List partial.Reading = readings_of p o ++ readings_of p (Lines adds.head) in
          let parts : readings ps g.outcomes ++ more ≡ readings (ps ++ p ∷ []) (g.outcomes ++ o ∷ []) ++ readings_of p (Lines adds.head) =
          sym (append_assoc (readings ps g.outcomes) (readings_of p o) (readings_of p (Lines adds.head)))
          ∙ ap (λ xs. xs ++ readings_of p (Lines adds.head)) (sym (readings_more ps g.outcomes p o g.each)) in
          subst (λ t. picture_of t new.partial
          ≡ without_sources t (set.insert_all set.empty
          (readings (ps ++ p ∷ []) (g.outcomes ++ o ∷ []) ++ readings_of p (Lines adds.head)))) same
          (adds.picture_is ∙ ap (λ q. with_readings q more) (g.picture_is shape framed)
          ∙ ap (λ t. without_sources shape t)
          (sym (insert_all-append set.empty (readings ps g.outcomes) more) ∙ ap (set.insert_all set.empty) parts));
      records_are = adds.records_are ∙ ap (λ xs. kept_with xs (records_of p o)) g.records_are ∙ kept_more (records ps g.outcomes) p o
          ∙ ap (take 4096) (sym (records_more ps g.outcomes p o g.each));
      count_is = adds.count_is ∙ ap (λ n. n + length (records_of p o)) g.count_is
          ∙ sym (length-append (records ps g.outcomes) (records_of p o)) ∙ ap length (sym (records_more ps g.outcomes p o g.each));
    }

-- the input ends
pub concluding : (profile : Profile) (m n : Machine) (bytes : List ℕ) (e : End) (read : ReadCopy) → IsReadingCopy profile m bytes
    → e ≡ end_at m.place m.count
    → AddsCut m.headers.frame (closed_at_end m.place) m.findings n.findings → n.headers ≡ m.headers
    → ((shape : PictureShape) × (n.headers.frame ≡ Some shape) × (read.partial ≡ picture_of shape n.findings.partial)
    × (read.pieces ≡ n.findings.records.items) × (read.piece_count ≡ n.findings.record_count) × (read.ended ≡ e))
    → Concludes (reading profile bytes) read
concluding profile m n bytes e read h end_is a same (shape, framed, p, q, r, s) =
    let all : CutGathers m.headers.frame (reading profile bytes).pieces (closed_at_end m.place) n.findings =
    cut_gathers m.headers.frame (reading profile bytes).pieces (closed_at_end m.place) m.findings n.findings h.gathers a in
    let place_is : m.place ≡ (reading profile bytes).state.place = ap (λ t. t.place) h.state_is in
    let now : CutGathers m.headers.frame (reading profile bytes).pieces (closed_at_end (reading profile bytes).state.place) n.findings =
    subst (λ t. CutGathers m.headers.frame (reading profile bytes).pieces (closed_at_end t) n.findings) place_is all in
    let frame : m.headers.frame ≡ Some shape = ap (λ t. t.frame) (sym same) ∙ framed in
    record {
      shape = shape;
      framed = ap (λ t. t.headers.frame) (sym h.state_is) ∙ frame;
      outcomes = now.outcomes;
      each = now.each;
      head = now.head;
      head_is = now.head_is;
      partial_is = p ∙ now.picture_is shape frame;
      pieces_are = q ∙ now.records_are;
      count_is = r ∙ now.count_is;
      ended_is = s ∙ end_is ∙ ap (λ t. end_at t.place t.count) h.state_is;
    }
