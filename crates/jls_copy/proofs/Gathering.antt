-- One byte more, over what a reader holds.
use Rattle.std.proofs.Common.{◌≡◌, ℕ, zero, suc, get_or, ◌+◌, ◌-◌, ◌^◌, ◌<◌, ◌≤◌, Bool, true, false, List, [], ◌∷◌, ◌++◌, take, drop}
use Rattle.std.proofs.Common.{length, Option, Some, None, refl, sym, ap, ◌∙◌, subst, append_assoc, arith, length-append, ◌⊎◌, inl, inr}
use Rattle.std.proofs.lemmas.List.{append-nil, take_all, take-append-le, length-take, length-take-le}
use Rattle.std.proofs.lemmas.Bool.{cases_lt}
use Rattle.std.proofs.lemmas.Bool.Decides.{nat_tests}
use Rattle.std.specs.Prelude.{nat_lt, ◌==◌, ◌*◌, cond, Result, Ok, Err, IfSome, IfOk, IfErr}
use Rattle.jls_copy.specs.Conclusion.{SaysNone}
use Rattle.jls_copy.specs.CopyReads.{no_picture}
use Rattle.jls_copy.specs.ReaderState.{end_at}
use Rattle.jls_copy.specs.declared.end.End.{End}
use Rattle.jls_copy.specs.declared.reader.CopyFault.{CopyFault}
use Rattle.jls_copy.specs.declared.reader.CopyFault.TheVariants.{NoPicture, OutOfMemory}
use Rattle.jls_marker.specs.declared.fault.MarkerFault.{MarkerFault}
use Rattle.std.specs.List.{AllByRecursion}
use Rattle.jls_values.specs.OrderedSet as set
use Rattle.jls_values.specs.OrderedSetLaws.{insert_all-append}
use Rattle.jls_values.specs.Shape.{PictureShape}
use Rattle.jls_values.proofs.Lists.{all_bytes}
use Rattle.jls_partial.specs.Partial.{PartialPicture, without_sources}
use Rattle.jls_marker.specs.HeaderState.{HeaderState}
use Rattle.jls_marker.specs.Scan.{Scan}
use Rattle.jls_marker.specs.Headers.{headers_after}
use Rattle.jls_marker.proofs.HeaderSteps.{frame_stays as frame_kept}
use Rattle.jls_copy.specs.Pieces.{FoundPiece, PieceOutcome, Lines, Fault, IsOutcome, readings_of, records_of}
use Rattle.jls_copy.specs.Findings.{Adds, HoldsShape, with_readings, picture_of, kept_with}
use Rattle.jls_copy.specs.Gathers.{Gathers}
use Rattle.jls_copy.specs.Pieces.{AreOutcomes, readings, records}
use Rattle.jls_copy.specs.ReaderState.{ReaderState, Step, StateWithPieces, reading, reading_with, reading_from, step_from, closed_at}
use Rattle.jls_copy.specs.ReaderState.{segment_taken}
use Rattle.jls_copy.specs.Machine.{IsMachine, state_of, Takes}
use Rattle.jls_copy.specs.Reader.{IsReadingCopy}
use Rattle.jls_copy.specs.declared.machine.Machine.{Machine}
use Rattle.jls_copy.specs.declared.findings.Findings.{Findings}
use Rattle.jls_copy.specs.declared.piece.PieceRecord.{PieceRecord}
use Rattle.jls_copy.specs.declared.place.CopyPosition.{CopyPosition}
use Rattle.jls_copy.specs.declared.place.CopyPosition.TheVariants.{Start, AtMarker, AtLength, InLength, InPayload, InScan, Done}
use Rattle.jls_copy.proofs.Kept.{after_some}
use Rattle.jls_marker.specs.declared.profile.Profile.{Profile}

-- the outcomes of pieces and one more
pub are_more : (ps : List FoundPiece) (os : List PieceOutcome) (p : FoundPiece) (o : PieceOutcome) → AreOutcomes ps os → IsOutcome p o
    → AreOutcomes (ps ++ p ∷ []) (os ++ o ∷ [])
are_more [] [] p o h i = (i, tt)
are_more [] (x ∷ os) p o h i = absurd h
are_more (x ∷ ps) [] p o h i = absurd h
are_more (x ∷ ps) (y ∷ os) p o h i = (h.0, are_more ps os p o h.1 i)

-- what pieces give by their outcomes, one piece after the other
more_given : {A : Type 0} (one : FoundPiece → PieceOutcome → List A) (all : List FoundPiece → List PieceOutcome → List A) → all [] [] ≡ []
    → ((p : FoundPiece) (o : PieceOutcome) (ps : List FoundPiece) (os : List PieceOutcome)
    → all (p ∷ ps) (o ∷ os) ≡ one p o ++ all ps os)
    → (ps : List FoundPiece) (os : List PieceOutcome) (p : FoundPiece) (o : PieceOutcome) → AreOutcomes ps os
    → all (ps ++ p ∷ []) (os ++ o ∷ []) ≡ all ps os ++ one p o
more_given one all none first [] [] p o h = rw (first, none) (append-nil (one p o))
more_given one all none first [] (x ∷ os) p o h = absurd h
more_given one all none first (x ∷ ps) [] p o h = absurd h
more_given one all none first (x ∷ ps) (y ∷ os) p o h =
    first x y (ps ++ p ∷ []) (os ++ o ∷ []) ∙ ap (λ t. one x y ++ t) (more_given one all none first ps os p o h.1)
    ∙ sym (append_assoc (one x y) (all ps os) (one p o)) ∙ ap (λ t. t ++ one p o) (sym (first x y ps os))

pub readings_more : (ps : List FoundPiece) (os : List PieceOutcome) (p : FoundPiece) (o : PieceOutcome) → AreOutcomes ps os
    → readings (ps ++ p ∷ []) (os ++ o ∷ []) ≡ readings ps os ++ readings_of p o
readings_more ps os p o h = more_given readings_of readings refl (λ p o ps os. refl) ps os p o h

pub records_more : (ps : List FoundPiece) (os : List PieceOutcome) (p : FoundPiece) (o : PieceOutcome) → AreOutcomes ps os
    → records (ps ++ p ∷ []) (os ++ o ∷ []) ≡ records ps os ++ records_of p o
records_more ps os p o h = more_given records_of records refl (λ p o ps os. refl) ps os p o h

-- the first 4,096 records are kept
kept_one : (xs : List PieceRecord) (r : PieceRecord) → kept_with (take 4096 xs) (r ∷ []) ≡ take 4096 (xs ++ r ∷ [])
kept_one xs r = by (cases_lt (length xs) 4096)
  where
    by : (length xs < 4096) ⊎ (4096 ≤ length xs) → kept_with (take 4096 xs) (r ∷ []) ≡ take 4096 (xs ++ r ∷ [])
    by (inl h) =
        let all : take 4096 xs ≡ xs = take_all 4096 xs (omega arith) in
        let low : nat_lt (length xs) 4096 ≡ true = grind (arith, nat_tests) in
        let more : take 4096 (xs ++ r ∷ []) ≡ xs ++ r ∷ [] = take_all 4096 (xs ++ r ∷ []) (omega (arith, length-append xs (r ∷ []))) in
        rw (all, low, more) refl
    by (inr h) =
        let size : length (take 4096 xs) ≡ 4096 = omega (arith, length-take 4096 xs) in
        let same : take 4096 (xs ++ r ∷ []) ≡ take 4096 xs = take-append-le 4096 xs (r ∷ []) h in
        rw (size, same) refl

pub kept_more : (xs : List PieceRecord) (p : FoundPiece) (o : PieceOutcome)
    → kept_with (take 4096 xs) (records_of p o) ≡ take 4096 (xs ++ records_of p o)
kept_more xs p (Lines lines) = sym (ap (take 4096) (append-nil xs))
kept_more xs p (Fault f) = kept_one xs _

pub none_some : {A : Type 0} (x : A) → ◌≡◌ {A = Option A} None (Some x) → ⊥
none_some x e = cc

-- one picture
pub some_is : (x y : PictureShape) → ◌≡◌ {A = Option PictureShape} (Some x) (Some y) → x ≡ y
some_is x y e = cc

-- one piece more
gathers_piece : (frame : Option PictureShape) (ps : List FoundPiece) (p : FoundPiece) (old new : Findings) → Gathers frame ps old
    → Adds frame (p ∷ []) old new → Gathers frame (ps ++ p ∷ []) new
gathers_piece frame ps p old new g (shape, framed, o, is, adds) = record {
  outcomes = g.outcomes ++ o ∷ [];
  each = are_more ps g.outcomes p o g.each is;
  picture_is = λ s e.
      let same : shape ≡ s = some_is shape s (sym framed ∙ e) in
      subst (λ t. picture_of t new.partial ≡ without_sources t (set.insert_all set.empty (readings (ps ++ p ∷ []) (g.outcomes ++ o ∷ []))))
      same
      (adds.picture_is ∙ ap (λ q. with_readings q (readings_of p o)) (g.picture_is shape framed)
      ∙ ap (λ t. without_sources shape t)
      (sym (insert_all-append set.empty (readings ps g.outcomes) (readings_of p o))
      ∙ ap (set.insert_all set.empty) (sym (readings_more ps g.outcomes p o g.each))));
  unframed = λ e. absurd (none_some shape (sym e ∙ framed));
  records_are = adds.records_are ∙ ap (λ xs. kept_with xs (records_of p o)) g.records_are ∙ kept_more (records ps g.outcomes) p o
      ∙ ap (take 4096) (sym (records_more ps g.outcomes p o g.each));
  count_is = adds.count_is ∙ ap (λ n. n + length (records_of p o)) g.count_is ∙ sym (length-append (records ps g.outcomes) (records_of p o))
      ∙ ap length (sym (records_more ps g.outcomes p o g.each));
}

-- no piece or one
gathers_pieces : (frame : Option PictureShape) (ps qs : List FoundPiece) (old new : Findings) → Gathers frame ps old → Adds frame qs old new
    → Gathers frame (ps ++ qs) new
gathers_pieces frame ps [] old new g e = rw (append-nil, e) g
gathers_pieces frame ps (q ∷ []) old new g a = gathers_piece frame ps q old new g a
gathers_pieces frame ps (q ∷ r ∷ more) old new g a = absurd a

-- the frame came, or stays
gathers_frame : (before now : Option PictureShape) (ps : List FoundPiece) (f : Findings)
    → ((s : PictureShape) → before ≡ Some s → now ≡ Some s) → Gathers before ps f → Gathers now ps f
gathers_frame before now ps f stays g = record {
  outcomes = g.outcomes;
  each = g.each;
  picture_is = λ s e. picture before stays g s e;
  unframed = λ e. none before stays g e;
  records_are = g.records_are;
  count_is = g.count_is;
}
  where
    fresh : (s : PictureShape) (os : List PieceOutcome) (p : Option PartialPicture) → (ps ≡ []) × (p ≡ None)
        → picture_of s p ≡ without_sources s (set.insert_all set.empty (readings ps os))
    fresh s os p (e, i) = rw (e, i) refl

    picture : (b : Option PictureShape) → ((s : PictureShape) → b ≡ Some s → now ≡ Some s) → (h : Gathers b ps f) → (s : PictureShape)
        → now ≡ Some s
        → picture_of s f.partial ≡ without_sources s (set.insert_all set.empty (readings ps h.outcomes))
    picture None st h s e = fresh s h.outcomes f.partial (h.unframed refl)
    picture (Some t) st h s e = h.picture_is s (ap Some (some_is t s (sym (st t refl) ∙ e)))

    none : (b : Option PictureShape) → ((s : PictureShape) → b ≡ Some s → now ≡ Some s) → Gathers b ps f → now ≡ None
        → (ps ≡ []) × (f.partial ≡ None)
    none None st h e = h.unframed refl
    none (Some t) st h e = absurd (none_some t (sym e ∙ st t refl))

-- a segment that is taken leaves the frame
taken_frame : (count : ℕ) (h : HeaderState) (payload : List ℕ) (marker code : ℕ) (s : PictureShape) → h.frame ≡ Some s
    → (r : Result (HeaderState × Option Scan) MarkerFault) → headers_after h code payload ≡ r
    → (segment_taken count h payload marker r).headers.frame ≡ Some s
taken_frame count h payload marker code s f (Ok r) e = frame_kept h r.0 code payload r.1 s e f
taken_frame count h payload marker code s f (Err x) e = f

cond_frame : (b : Bool) (x y : Step) (s : PictureShape) → x.headers.frame ≡ Some s → y.headers.frame ≡ Some s
    → (cond b x y).headers.frame ≡ Some s
cond_frame true x y s p q = p
cond_frame false x y s p q = q

-- a byte leaves the frame as it is, once there is one
frame_stays : (p : CopyPosition) (count : ℕ) (h : HeaderState) (payload : List ℕ) (b : ℕ) (s : PictureShape) → h.frame ≡ Some s
    → (step_from p count h payload b).headers.frame ≡ Some s
frame_stays (Start fill) count h payload b s f = f
frame_stays (AtMarker fill) count h payload b s f = f
frame_stays (AtLength marker code) count h payload b s f = f
frame_stays (InLength marker code high) count h payload b s f =
    cond_frame (nat_lt (256 * high + b) 2) _ _ s f
    (cond_frame (256 * high + b == 2) _ _ s (taken_frame count h [] marker code s f (headers_after h code []) refl) f)
frame_stays (InPayload marker code size) count h payload b s f =
    cond_frame (length (payload ++ b ∷ []) + 2 == size) _ _ s
    (taken_frame count h (payload ++ b ∷ []) marker code s f (headers_after h code (payload ++ b ∷ [])) refl) f
frame_stays (InScan scan) count h payload b s f = f
frame_stays (Done e) count h payload b s f = f

-- a piece adds one record at most
one_at_most : (p : FoundPiece) (o : PieceOutcome) → length (records_of p o) ≤ 1
one_at_most p (Lines lines) = omega arith
one_at_most p (Fault f) = omega arith

-- a piece adds one record at most
adds_one : (frame : Option PictureShape) (qs : List FoundPiece) (old new : Findings) → Adds frame qs old new
    → new.record_count ≤ old.record_count + 1
adds_one frame [] old new e = rw e (omega arith)
adds_one frame (q ∷ []) old new (shape, framed, o, is, adds) = rw adds.count_is (omega (arith, one_at_most q o))
adds_one frame (q ∷ r ∷ more) old new a = absurd a

-- what a reader that wasn't refused was fed
pub of_fed : (failed : Bool) (bytes : List ℕ) (v : Option (List ℕ)) (P : List ℕ → Type 0) → cond failed None (Some bytes) ≡ v
    → failed ≡ false → IfSome v P → P bytes
of_fed true bytes v P e f h = absurd cc
of_fed false bytes v P e f h = subst (λ o. IfSome o P) (sym e) h

pub to_fed : (failed : Bool) (bytes : List ℕ) (v : Option (List ℕ)) (P : List ℕ → Type 0) → cond failed None (Some bytes) ≡ v
    → failed ≡ false → P bytes → IfSome v P
to_fed true bytes v P e f h = absurd cc
to_fed false bytes v P e f h = subst (λ o. IfSome o P) e h

pub if_ok : {A B : Type 0} {P Q : A → Type 0} (r : Result A B) → ((x : A) → P x → Q x) → IfOk r P → IfOk r Q
if_ok (Ok x) f p = f x p
if_ok (Err e) f p = tt

pub if_err : {A B : Type 0} {P Q : B → Type 0} (r : Result A B) → ((x : B) → P x → Q x) → IfErr r P → IfErr r Q
if_err (Ok x) f p = tt
if_err (Err e) f p = f e p

-- a machine without a frame says that the bytes give no picture, and why
pub saying_none : (profile : Profile) (m n : Machine) (bytes : List ℕ) (e : End) (f : CopyFault) → IsReadingCopy profile m bytes
    → e ≡ end_at m.place m.count
    → n.headers ≡ m.headers
    → (n.headers.frame ≡ None) × (f ≡ no_picture e) → SaysNone (reading profile bytes) f
saying_none profile m n bytes e OutOfMemory h end_is same k = tt
saying_none profile m n bytes e (NoPicture f offset) h end_is same (none, is) = (
  ap (λ t. t.headers.frame) (sym h.state_is) ∙ ap (λ t. t.frame) (sym same) ∙ none,
  is
      ∙ ap no_picture (end_is ∙ ap (λ t. end_at t.place t.count) h.state_is),
)

pub fed_or_failed : (failed : Bool) (bytes : List ℕ) (v : Option (List ℕ)) (P : List ℕ → Type 0) → cond failed None (Some bytes) ≡ v
    → (failed ≡ false → P bytes) → IfSome v P
fed_or_failed true bytes v P e f = subst (λ o. IfSome o P) e tt
fed_or_failed false bytes v P e f = subst (λ o. IfSome o P) e (f refl)

-- the picture that is held has the frame's shape
pub held_shape : (frame : Option PictureShape) (ps : List FoundPiece) (f : Findings) → Gathers frame ps f → (shape : PictureShape)
    → frame ≡ Some shape → HoldsShape f.partial shape
held_shape frame ps f g shape framed p e = ap (λ q. q.shape) (ap (picture_of shape) (sym e) ∙ g.picture_is shape framed)

-- bytes that close no piece
pub from_append : (r : StateWithPieces) (xs ys : List ℕ) → reading_from r (xs ++ ys) ≡ reading_from (reading_from r xs) ys
from_append r [] ys = refl
from_append r (x ∷ xs) ys = from_append (reading_with r x) xs ys

-- bytes and more bytes are bytes
low_all : (xs ys : List ℕ) → AllByRecursion (λ x. x < 256) xs → AllByRecursion (λ x. x < 256) ys → AllByRecursion (λ x. x < 256) (xs ++ ys)
low_all [] ys h l = l
low_all (x ∷ xs) ys h l = (h.0, low_all xs ys h.1 l)

-- a state with another count, and pieces
abbrev counted : ReaderState → List FoundPiece → ℕ → StateWithPieces
counted s ps k = record { state = record s { count = k }; pieces = ps }

-- more bytes leave the frame as it is, once there is one
frame_stays_on : (more : List ℕ) (r : StateWithPieces) (s : PictureShape) → r.state.headers.frame ≡ Some s
    → (reading_from r more).state.headers.frame ≡ Some s
frame_stays_on [] r s f = f
frame_stays_on (b ∷ more) r s f =
    frame_stays_on more (reading_with r b) s (frame_stays r.state.place r.state.count r.state.headers r.state.payload b s f)

-- some bytes more, which a machine took, and which were counted then
pub reading_on : (profile : Profile) (m n : Machine) (bytes xs : List ℕ) (count : ℕ) → IsReadingCopy profile m bytes → Takes m xs n count
    → length bytes + length xs ≤ 2 ^ 63 - 1 → AllByRecursion (λ x. x < 256) (take count xs)
    → IsReadingCopy profile (record n { count = n.count + count }) (bytes ++ take count xs)
reading_on profile m n bytes xs count h t small low =
    let closed : List FoundPiece = closed_at m.place (get_or xs 0 0) in
    let size : length (take count xs) ≡ count = length-take-le count xs t.within in
    let before : reading profile bytes ≡ record { state = state_of m; pieces = (reading profile bytes).pieces } =
    ap (λ s. record { state = s; pieces = (reading profile bytes).pieces }) (sym h.state_is) in
    let total : m.count + length (take count xs) ≡ n.count + count = omega (arith, size, t.count_is) in
    let fed : reading profile (bytes ++ take count xs)
    ≡ record { state = record (state_of n) { count = n.count + count }; pieces = (reading profile bytes).pieces ++ closed } =
    from_append _ bytes (take count xs) ∙ ap (λ r. reading_from r (take count xs)) before ∙ t.leads (reading profile bytes).pieces
    ∙ ap (λ (k : ℕ). counted (state_of n) ((reading profile bytes).pieces ++ closed) k) total in
    let frame : (s : PictureShape) → m.headers.frame ≡ Some s → n.headers.frame ≡ Some s =
    λ s f. ap (λ r. r.state.headers.frame) (sym (t.leads []))
    ∙ frame_stays_on (take count xs) (record { state = state_of m; pieces = [] }) s f in
    let gathered : Gathers n.headers.frame ((reading profile bytes).pieces ++ closed) n.findings =
    gathers_frame m.headers.frame n.headers.frame _ n.findings frame
    (gathers_pieces m.headers.frame (reading profile bytes).pieces closed m.findings n.findings h.gathers t.found) in
    let one : n.findings.record_count ≤ m.findings.record_count + 1 = adds_one m.headers.frame closed m.findings n.findings t.found in
    record {
      state_is = sym (ap (λ r. r.state) fed);
      gathers = subst (λ ps. Gathers n.headers.frame ps n.findings) (sym (ap (λ r. r.pieces) fed)) gathered;
      count_is = omega (arith, t.count_is, h.count_is, length-append bytes (take count xs), size);
      few = omega (arith, length-append bytes (take count xs), size, t.within, small);
      are_bytes = low_all bytes (take count xs) h.are_bytes low;
      place_is = t.place_is;
      following = after_some n.place (n.count + count) (omega (arith, t.some));
      records_counted = omega (arith, t.count_is, one, h.records_counted, t.some);
      records_kept = rw gathered.records_are
          (omega (arith, length-take 4096 (records ((reading profile bytes).pieces ++ closed) gathered.outcomes)));
      header_bytes = t.header_bytes;
    }

all_after : (at : ℕ) (xs : List ℕ) → AllByRecursion (λ x. x < 256) xs → AllByRecursion (λ x. x < 256) (drop at xs)
all_after zero xs low = low
all_after (suc at) [] low = tt
all_after (suc at) (x ∷ xs) low = all_after at xs low.1

all_prefix : (n : ℕ) (xs : List ℕ) → AllByRecursion (λ x. x < 256) xs → AllByRecursion (λ x. x < 256) (take n xs)
all_prefix zero xs low = tt
all_prefix (suc n) [] low = tt
all_prefix (suc n) (x ∷ xs) low = (low.0, all_prefix n xs low.1)

-- bytes from the middle of a slice
pub bytes_between : (n m at : ℕ) (xs : List ℕ) → ((k : ℕ) → get_or xs k 0 < 256)
    → AllByRecursion (λ x. x < 256) (take n (take m (drop at xs)))
bytes_between n m at xs each =
    all_prefix n (take m (drop at xs)) (all_prefix m (drop at xs) (all_after at xs (all_bytes xs each)))

-- the machine of a reader can take a step
pub is_machine : (profile : Profile) (m : Machine) (bytes : List ℕ) → IsReadingCopy profile m bytes → IsMachine m
is_machine profile m bytes h = record {
  count_below = omega (arith, h.count_is, h.few);
  records_below = omega (arith, h.records_counted, h.count_is, h.few);
  following = h.following;
  place_is = h.place_is;
  shape_is = held_shape _ _ _ h.gathers;
  header_bytes = h.header_bytes;
}
