-- What a copy gives is determined by its bytes.
use Rattle.std.proofs.Common.{◌≡◌, ℕ, ◌<◌, inl, inr, Bool, true, false, List, [], ◌∷◌, ◌++◌, length, take, Option, Some, None, refl}
use Rattle.std.proofs.Common.{sym, ap, ◌∙◌, subst, arith}
use Rattle.std.specs.List.{AllByRecursion}
use Rattle.jls_values.specs.OrderedSet as set
use Rattle.jls_values.specs.Shape.{PictureShape}
use Rattle.jls_partial.specs.Partial.{PartialPicture, without_sources}
use Rattle.jls_piece.specs.Reads.{Reads, IsLong}
use Rattle.jls_bits.specs.Bits.{bits_read, is_whole}
use Rattle.jls_piece.proofs.PieceHeads.{one_head}
use Rattle.jls_piece.proofs.PieceReads.{reads_once, read_not_long}
use Rattle.jls_copy.specs.IntervalOf.{interval_of}
use Rattle.jls_interval.proofs.EventsApart.{true_false}
use Rattle.jls_marker.specs.Scan.{Scan, IsScan}
use Rattle.jls_marker.specs.declared.fault.MarkerFault.{MarkerFault}
use Rattle.jls_copy.specs.Numbers.{PieceNumber, Interval, BeyondLast}
use Rattle.jls_copy.specs.Pieces.{FoundPiece, pieces, PieceOutcome, Lines, Fault, IsOutcomeAt, AreOutcomes, readings, records}
use Rattle.jls_copy.specs.Course.{Course}
use Rattle.jls_copy.specs.CutPieces.{closed_by_input, last_piece, cut_pieces, IsHeadAt, IsHeadOfCut, head_readings}
use Rattle.std.specs.Prelude.{if◌then◌else◌}
use Rattle.jls_copy.specs.ReadCopy.{ReadCopy}
use Rattle.jls_copy.specs.CopyReads.{CopyReadsUnder, no_picture}
use Rattle.jls_copy.specs.CopyLaws.{BytesDecide, BytesDecideUnder}
use Rattle.jls_copy.specs.declared.piece.PieceKind.TheVariants as kind
use Rattle.jls_copy.specs.declared.reader.CopyFault.TheVariants.{NoPicture}
use Rattle.jls_copy.proofs.OneCourse.{one_course}
use Rattle.jls_copy.proofs.ScansOfCourse.{HasScan, course_has}
use Rattle.jls_copy.proofs.Gathering.{some_is}
use Rattle.jls_marker.specs.declared.profile.Profile.{Profile}
use Rattle.jls_marker.specs.declared.profile.Profile.TheVariants.{Strict}

-- One outcome --------------------------------------------------------------------------------

module _ (s : Scan) (ok : IsScan s) (k : ℕ) (bytes : List ℕ) where
  one_list : (a b : List (List ℕ)) → Reads (interval_of s k) bytes a → Reads (interval_of s k) bytes b → a ≡ b
  one_list a b h r = reads_once (interval_of s k) ok.params (let w = ok.width_at_least in omega arith) bytes a b h r

  not_long : (a : List (List ℕ)) → Reads (interval_of s k) bytes a → IsLong (interval_of s k) bytes → ⊥
  not_long a h l = read_not_long (interval_of s k) ok.params (let w = ok.width_at_least in omega arith) bytes a h l

  -- two outcomes of the same bytes, as a piece of one interval, are one
  within : (o p : PieceOutcome) → IsOutcomeAt s (Interval k) bytes o → IsOutcomeAt s (Interval k) bytes p → o ≡ p
  within (Lines a) (Lines b) h r = ap Lines (one_list a b h r)
  within (Lines a) (Fault kind.Long) h r = absurd (not_long a h r)
  within (Lines a) (Fault kind.Broken) h r = absurd (r.not_read a h)
  within (Lines a) (Fault kind.Beyond) h r = absurd r
  within (Fault kind.Long) (Lines b) h r = absurd (not_long b r h)
  within (Fault kind.Long) (Fault kind.Long) h r = refl
  within (Fault kind.Long) (Fault kind.Broken) h r = absurd (r.not_long h)
  within (Fault kind.Long) (Fault kind.Beyond) h r = absurd r
  within (Fault kind.Broken) (Lines b) h r = absurd (h.not_read b r)
  within (Fault kind.Broken) (Fault kind.Long) h r = absurd (h.not_long r)
  within (Fault kind.Broken) (Fault kind.Broken) h r = refl
  within (Fault kind.Broken) (Fault kind.Beyond) h r = absurd r
  within (Fault kind.Beyond) p h r = absurd h

  -- two outcomes of a piece beyond the last interval are one
  beyond : (o p : PieceOutcome) → IsOutcomeAt s (BeyondLast k) bytes o → IsOutcomeAt s (BeyondLast k) bytes p → o ≡ p
  beyond (Lines a) p h r = absurd h
  beyond (Fault kind.Long) p h r = absurd h
  beyond (Fault kind.Broken) p h r = absurd h
  beyond (Fault kind.Beyond) (Lines b) h r = absurd r
  beyond (Fault kind.Beyond) (Fault kind.Long) h r = absurd r
  beyond (Fault kind.Beyond) (Fault kind.Broken) h r = absurd r
  beyond (Fault kind.Beyond) (Fault kind.Beyond) h r = refl

pub one_outcome : (s : Scan) (n : PieceNumber) (bytes : List ℕ) (o p : PieceOutcome) → IsScan s → IsOutcomeAt s n bytes o
    → IsOutcomeAt s n bytes p → o ≡ p
one_outcome s (Interval k) bytes o p ok h r = within s ok k bytes o p h r
one_outcome s (BeyondLast k) bytes o p ok h r = beyond s ok k bytes o p h r

-- two lists of outcomes of the same pieces are one
pub one_outcomes : (ps : List FoundPiece) (os qs : List PieceOutcome) → AllByRecursion HasScan ps → AreOutcomes ps os → AreOutcomes ps qs
    → os ≡ qs
one_outcomes [] [] [] ok h r = refl
one_outcomes [] [] (q ∷ qs) ok h r = absurd r
one_outcomes [] (o ∷ os) qs ok h r = absurd h
one_outcomes (p ∷ ps) [] qs ok h r = absurd h
one_outcomes (p ∷ ps) (o ∷ os) [] ok h r = absurd r
one_outcomes (p ∷ ps) (o ∷ os) (q ∷ qs) ok h r =
    ap (λ x. x ∷ os) (one_outcome p.plan p.number p.bytes o q ok.0 h.0 r.0) ∙ ap (λ xs. q ∷ xs) (one_outcomes ps os qs ok.1 h.1 r.1)

-- One reading --------------------------------------------------------------------------------

read_eq : (r s : ReadCopy) → r.partial ≡ s.partial → r.pieces ≡ s.pieces → r.piece_count ≡ s.piece_count → r.ended ≡ s.ended → r ≡ s
read_eq r s e f g h =
    let x : r ≡ record { partial = s.partial; pieces = s.pieces; piece_count = s.piece_count; ended = s.ended } =
    rw (sym e, sym f, sym g, sym h) refl in x

-- One head
one_head_at : (s : Scan) (n : PieceNumber) (bytes : List ℕ) (a b : List (List ℕ)) → IsScan s → IsHeadAt s n bytes a → IsHeadAt s n bytes b
    → a ≡ b
one_head_at s (Interval k) bytes a b ok (inl h) (inl r) =
    one_head (interval_of s k) ok.params (let w = ok.width_at_least in omega arith) (bits_read bytes) a b h.1 r.1
one_head_at s (Interval k) bytes a b ok (inl h) (inr r) = absurd (true_false (is_whole bytes) h.0 r.0)
one_head_at s (Interval k) bytes a b ok (inr h) (inl r) = absurd (true_false (is_whole bytes) r.0 h.0)
one_head_at s (Interval k) bytes a b ok (inr h) (inr r) = h.1 ∙ sym r.1
one_head_at s (BeyondLast k) bytes a b ok h r = h ∙ sym r

pub one_head_of_cut : (ps : List FoundPiece) (a b : List (List ℕ)) → AllByRecursion HasScan ps → IsHeadOfCut ps a → IsHeadOfCut ps b → a ≡ b
one_head_of_cut [] a b ok h r = h ∙ sym r
one_head_of_cut (p ∷ ps) a b ok h r = one_head_at p.plan p.number p.bytes a b ok.0 h r

last_has : (ps : List FoundPiece) → AllByRecursion HasScan ps → AllByRecursion HasScan (last_piece ps)
last_has [] ok = tt
last_has (p ∷ []) ok = ok
last_has (p ∷ q ∷ ps) ok = last_has (q ∷ ps) ok.1

pub cut_has : (c : Course) → AllByRecursion HasScan (pieces c) → AllByRecursion HasScan (cut_pieces c)
cut_has c ok = by (closed_by_input c.units)
  where
    by : (b : Bool) → AllByRecursion HasScan (if b then last_piece (pieces c) else [])
    by true = last_has (pieces c) ok
    by false = tt

abbrev given : Course → PictureShape → List PieceOutcome → List (List ℕ) → PartialPicture
given c shape os head =
    without_sources shape (set.insert_all set.empty (readings (pieces c) os ++ head_readings (cut_pieces c) head))

-- what is read of the same bytes is the same
one_reading : (profile : Profile) (bytes : List ℕ) → AllByRecursion (λ b. b < 256) bytes → (r s : ReadCopy)
    → CopyReadsUnder profile bytes r → CopyReadsUnder profile bytes s → r ≡ s
one_reading profile bytes low r s k l =
    let same = one_course bytes k.course l.course k.is_course l.is_course in
    let shape = some_is k.shape l.shape (sym k.framed ∙ ap (λ (c : Course). c.headers.frame) same ∙ l.framed) in
    let each = subst (λ c. AreOutcomes (pieces c) l.outcomes) (sym same) l.each in
    let outcomes = one_outcomes (pieces k.course) k.outcomes l.outcomes (course_has bytes k.course low k.is_course) k.each each in
    let heads = one_head_of_cut (cut_pieces k.course) k.head l.head (cut_has k.course (course_has bytes k.course low k.is_course)) k.head_is
    (subst (λ c. IsHeadOfCut (cut_pieces c) l.head) (sym same) l.head_is) in
    let fed = ap (λ c. records (pieces c) k.outcomes) same ∙ ap (records (pieces l.course)) outcomes in
    read_eq r s
    (k.partial_is ∙ ap (λ c. given c k.shape k.outcomes k.head) same ∙ ap (λ x. given l.course x k.outcomes k.head) shape
    ∙ ap (λ os. given l.course l.shape os k.head) outcomes ∙ ap (given l.course l.shape l.outcomes) heads ∙ sym l.partial_is)
    (k.pieces_are ∙ ap (take 4096) fed ∙ sym l.pieces_are)
    (k.count_is ∙ ap length fed ∙ sym l.count_is)
    (k.ended_is ∙ ap (λ (c : Course). c.end) same ∙ sym l.ended_is)

fault_is : (f g : MarkerFault) (m n : ℕ) → NoPicture f m ≡ NoPicture g n → (f ≡ g) × (m ≡ n)
fault_is f g m n e = (cc, cc)

none_is_some : (o : Option PictureShape) (shape : PictureShape) → o ≡ None → o ≡ Some shape → ⊥
none_is_some o shape e f = cc

-- the law: what is read of the same bytes is the same, or they give no picture for the same reason
pub bytes_decide_under : (profile : Profile) → BytesDecideUnder profile
bytes_decide_under profile bytes low = record {
  one_reading = one_reading profile bytes low;
  one_fault = λ f g m n h k.
      fault_is f g m n (h.3 ∙ ap (λ (c : Course). no_picture c.end) (one_course bytes h.0 k.0 h.1 k.1) ∙ sym k.3);
  not_both = λ r f n h k.
      none_is_some k.0.headers.frame h.shape k.2
      (ap (λ (c : Course). c.headers.frame) (one_course bytes k.0 h.course k.1 h.is_course) ∙ h.framed);
}

pub bytes_decide : BytesDecide
bytes_decide = bytes_decide_under Strict
