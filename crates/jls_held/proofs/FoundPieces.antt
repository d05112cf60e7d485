-- Pieces of a file that were in hand while it was read.
use Rattle.std.proofs.Common.{◌≡◌, ◌≢◌, ℕ, ◌+◌, ◌<◌, ◌≤◌, ◌⊎◌, Bool, true, false, cond, Option, Some, None, List, [], ◌∷◌, ◌++◌, ◌-◌, drop}
use Rattle.std.proofs.Common.{length, refl, sym, ap, ◌∙◌, subst, arith, inl, inr, take}
use Rattle.std.specs.Prelude.{IfSome}
use Rattle.std.specs.Option.{option_to_list}
use Rattle.std.specs.List.{All, AllByRecursion, Contains}
use Rattle.std.proofs.lemmas.List.{length-take, take_all, take-append-drop}
use Rattle.std.proofs.lemmas.List.Elements.{All-contains, All-same, All-push, All-pop}
use Rattle.std.proofs.Math.Seq.{take-add}
use Rattle.jls_values.proofs.Lists.{none_in, first_or_rest, is_first, in_rest}
use Rattle.jls_bits.specs.Bits.{is_whole}
use Rattle.jls_marker.specs.declared.profile.Profile.TheVariants.{Wide}
use Rattle.jls_copy.specs.Course.{Course, IsCourseUnder}
use Rattle.jls_copy.specs.Numbers.{Interval}
use Rattle.jls_copy.specs.Pieces.{FoundPiece, Lines, IsOutcome, IsOutcomeAt, pieces}
use Rattle.jls_copy.specs.CutPieces.{closed_by_input, last_piece, cut_pieces}
use Rattle.jls_copy.specs.ReadCopy.{ReadCopy}
use Rattle.jls_copy.specs.CopyReads.{CopyReadsUnder}
use Rattle.jls_copy.specs.InHand.{IsInHandUnder, PrefixesGoOnUnder}
use Rattle.jls_copy.specs.TellingLaws.{AreRecordsOf, of_none, reads, faulty, RecordsAreOfFaultyPiecesUnder}
use Rattle.jls_copy.specs.declared.piece.PieceRecord.{PieceRecord}
use Rattle.jls_copy.specs.declared.piece_in_hand.PieceInHand.{PieceInHand}
use Rattle.jls_held.specs.MendedFiles.{MendedFile}
use Rattle.jls_held.specs.FilePieces.{lines_of, IsPieceOf, IsTold, HasNoRecord}

-- the piece that the input's end closes is one of the pieces
in_last : (ps : List FoundPiece) (p : FoundPiece) → Contains (last_piece ps) p → Contains ps p
in_last [] p c = c
in_last (q ∷ []) p c = c
in_last (q ∷ (r ∷ ps)) p c = in_rest p q (r ∷ ps) (in_last (r ∷ ps) p c)

-- the piece that the input's end closes is one of all pieces
in_cut : (c : Course) (p : FoundPiece) → Contains (cut_pieces c) p → Contains (pieces c) p
in_cut c p among = cases (closed_by_input c.units) among
  where
    cases : (b : Bool) → Contains (cond b (last_piece (pieces c)) []) p → Contains (pieces c) p
    cases true h = in_last (pieces c) p h
    cases false h = absurd (none_in p h)

-- a piece reads as lines, or it has a record with its offset
reads_or_recorded : (ps : List FoundPiece) (rs : List PieceRecord) (p : FoundPiece) → AreRecordsOf ps rs → Contains ps p
    → ((lines : List (List ℕ)) × IsOutcome p (Lines lines)) ⊎ ((r : PieceRecord) × Contains rs r × (r.offset ≡ p.offset))
reads_or_recorded _ _ p of_none c = absurd (none_in p c)
reads_or_recorded _ _ p (reads q ps rs lines o are) c =
    elim (first_or_rest p q ps c) [
      | inl e ↦ inl (lines, subst (λ z. IsOutcome z (Lines lines)) e o)
      | inr later ↦ reads_or_recorded ps rs p are later
    ]
reads_or_recorded _ _ p (faulty q ps r rs is are) c =
    elim (first_or_rest p q ps c) [
      | inl e ↦ inr (r, is_first r rs, is.offset ∙ ap (λ (z : FoundPiece). z.offset) e)
      | inr later ↦ (
          elim (reads_or_recorded ps rs p are later) [
            | inl o ↦ inl o
            | inr k ↦ inr (k.0, in_rest k.0 r rs k.1, k.2)
          ])
    ]

-- bytes that read as lines have data bits
whole_of : (p : FoundPiece) (k : ℕ) → p.number ≡ Interval k → (lines : List (List ℕ)) → IsOutcome p (Lines lines) → is_whole p.bytes ≡ true
whole_of p k is lines o =
    let at = subst (λ n. IsOutcomeAt p.plan n p.bytes (Lines lines)) is o in at.begins.data_bits.whole

-- a piece that was in hand, and has no record
pub told_piece : PrefixesGoOnUnder Wide → RecordsAreOfFaultyPiecesUnder Wide → (f : MendedFile) → AllByRecursion (λ b. b < 256) f.bytes → (read : ReadCopy)
    → CopyReadsUnder Wide f.bytes read → (p : PieceInHand) → IsTold f.bytes p → HasNoRecord read p → IsPieceOf f p
told_piece go_on records f low read is p told unrecorded =
    let all = records f.bytes read is in let rs = all.0 in
    let kept : take 4096 rs ≡ rs = (
    let a = length-take 4096 rs in let b = ap length all.2 in let d = all.3 in let e = unrecorded.all_kept in
    take_all 4096 rs (omega (arith, a, b, d, e))) in
    let course = subst (λ z. IsCourseUnder Wide z is.course) told.bytes_are is.is_course in
    let low' = subst (AllByRecursion (λ b. b < 256)) told.bytes_are low in
    let q = go_on told.prefix told.more low' p.plan p.interval p.offset (lines_of p) told.in_hand
    is.course course in
    let whole : is_whole (q.0).bytes ≡ true =
    elim (reads_or_recorded (pieces is.course) rs q.0 all.1 q.1) [
      | inl o ↦ whole_of q.0 p.interval q.3 o.0 o.1
      | inr k ↦ absurd (All-contains (λ r. r.offset ≢ p.offset) read.pieces k.0 unrecorded.none
          (subst (λ z. Contains z k.0) (sym (all.2 ∙ kept)) k.1) (k.2 ∙ q.4))
    ] in
    record {
      found = record {
        course = is.course;
        is_course = is.is_course;
        piece = q.0;
        among = q.1;
        number = p.interval;
        number_is = q.3;
      };
      plan_is = q.2;
      number_is = refl;
      offset_is = q.4;
      begins = q.5 whole;
    }

-- the piece in hand at a file's end
pub last_piece_of : (f : MendedFile) (p : PieceInHand)
    → IsInHandUnder Wide f.bytes p.plan p.interval p.offset (lines_of p) → IsPieceOf f p
last_piece_of f p h = record {
  found = record {
    course = h.course;
    is_course = h.is_course;
    piece = h.piece;
    among = in_cut h.course h.piece h.in_hand;
    number = p.interval;
    number_is = h.number_is;
  };
  plan_is = h.plan_is;
  number_is = refl;
  offset_is = h.offset_is;
  begins = h.begins;
}

-- a piece in hand now is kept in the place of the last one, or beside it
pub note_more : (reader : Option (List ℕ)) (p : PieceInHand) (old kept out : List PieceInHand)
    → IfSome reader (λ fed. IsInHandUnder Wide fed p.plan p.interval p.offset (lines_of p)) → out ≡ kept ++ p ∷ []
    → ((bytes : List ℕ) → All (IsTold bytes) old → All (IsTold bytes) kept)
    → IfSome reader (λ fed. (more : List ℕ) → All (IsTold (fed ++ more)) old → All (IsTold (fed ++ more)) out)
note_more None p old kept out hand out_is less = tt
note_more (Some fed) p old kept out hand out_is less = λ more all.
    let P : PieceInHand → Type 0 = IsTold (fed ++ more) in
    All-same P out (kept ++ p ∷ []) out_is (All-push P kept p (less (fed ++ more) all)
    (record { prefix = fed; more = more; bytes_are = refl; in_hand = hand }))

-- one that was taken away is gone
pub less_one : (old kept : List PieceInHand) (r : Option PieceInHand) → old ≡ kept ++ option_to_list r → (bytes : List ℕ)
    → All (IsTold bytes) old → All (IsTold bytes) kept
less_one old kept r is bytes all = (All-pop (IsTold bytes) old kept r is all).0

-- what was fed, and the pieces told of it, with the bytes up to the next place
pub fed_more : (reader : Option (List ℕ)) (bytes : List ℕ) (at cut : ℕ) → at ≤ cut
    → reader ≡ Some (take at bytes ++ take (cut - at) (drop at bytes)) → reader ≡ Some (take cut bytes)
fed_more reader bytes at cut low is =
    let sum : at + (cut - at) ≡ cut = omega (arith, low) in
    is ∙ ap (λ z. Some z) (sym (take-add at (cut - at) bytes)) ∙ ap (λ n. Some (take n bytes)) sum

-- pieces that were told of the first bytes of a file are told of all
pub told_all : (reader : Option (List ℕ)) (bytes : List ℕ) (cut : ℕ) (old out : List PieceInHand) → reader ≡ Some (take cut bytes)
    → IfSome reader (λ fed. (more : List ℕ) → All (IsTold (fed ++ more)) old → All (IsTold (fed ++ more)) out)
    → All (IsTold bytes) old → All (IsTold bytes) out
told_all reader bytes cut old out is step all =
    let whole : take cut bytes ++ drop cut bytes ≡ bytes = take-append-drop cut bytes in
    let go = subst (λ o. IfSome o (λ fed. (more : List ℕ) → All (IsTold (fed ++ more)) old → All (IsTold (fed ++ more)) out)) is step in
    subst (λ z. All (IsTold z) out) whole (go (drop cut bytes) (subst (λ z. All (IsTold z) old) (sym whole) all))
