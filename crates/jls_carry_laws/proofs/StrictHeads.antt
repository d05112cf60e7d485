-- Where all lines before a piece are the picture's, and all bytes before it outside of pieces are held, each true file that is as long has its
-- head. So strictly held lines need no premise on skeletons.
use Rattle.std.proofs.Common.{◌≡◌, ℕ, zero, suc, ◌+◌, ◌≤◌, ◌≢◌, List, [], ◌∷◌, ◌++◌, length, refl, sym, ap, ◌∙◌, subst, arith}
use Rattle.std.proofs.Common.{append_assoc, length-append}
use Rattle.std.specs.List.{AllByRecursion, Contains}
use Rattle.std.proofs.lemmas.List.Elements.{Contains-append_left, Contains-append_right}
use Rattle.jls_values.proofs.Lists.{is_first, all_at}
use Rattle.jls_marker.specs.HeaderState.{no_headers_under}
use Rattle.jls_marker.specs.declared.profile.Profile.TheVariants.{Wide}
use Rattle.jls_marker.specs.Scan.{Scan, first_row}
use Rattle.jls_copy.specs.ScanData.{fill_bytes}
use Rattle.jls_copy.specs.IntervalOf.{interval_of}
use Rattle.jls_copy.specs.Course.{AreUnits, Course, IsCourseUnder, with_soi, with_another_marker, with_no_marker, with_fill_alone}
use Rattle.jls_copy.specs.Pieces.{FoundPiece, pieces, pieces_in}
use Rattle.jls_copy.specs.TellingLaws.{StandsAt, PiecesStandAtTheirOffsetsUnder}
use Rattle.jls_copy.proofs.OneCut.{no_mark}
use Rattle.jls_carry_laws.specs.StrictlyHeld.{IsIn}
use Rattle.jls_carry_laws.specs.TrueFiles.{PictureLines, PieceHead}
use Rattle.jls_carry_laws.specs.Laws.{StrictlyHeldLinesAreThePicture}
use Rattle.jls_carry_laws.proofs.SameHeads.{IsTrue, all_true, all_of, Agree, first_bytes, agree_on, one_mark}
use Rattle.jls_carry_laws.proofs.UnitsWalk.{Ended, in_offset, units_walk}
use Rattle.jls_carry_laws.proofs.HeldLines.{StrictPiecesHaveHeads, strictly_held_from_heads}

fills_length : (n : ℕ) → length (fill_bytes n) ≡ n
fills_length zero = refl
fills_length (suc n) = ap suc (fills_length n)

pub no_first : (n b : ℕ) (more rest : List ℕ) → b ≢ 255 → b ∷ more ≡ fill_bytes n ++ (255 ∷ rest) → ⊥
no_first zero b more rest ne e = let f : b ≡ 255 = cc in ne f
no_first (suc n) b more rest ne e = let f : b ≡ 255 = cc in ne f

pub not_soi : (code : ℕ) → code ≡ 216 → code ≢ 255
not_soi code is e = omega (arith, is, e)

zero_more : (k : ℕ) → k ≡ 0 + k
zero_more k = omega arith

module _ (picture : PictureLines) where
  none : (earlier later : List FoundPiece) (p : FoundPiece) → [] ≡ earlier ++ p ∷ later → ⊥
  none earlier later p e = let n = ap length e in let m = length-append earlier (p ∷ later) in omega (arith, n, m)

  -- the second file, where it begins with SOI as the first does
  second : (n : ℕ) (zs ys : List ℕ) (d : Course) → ys ≡ fill_bytes n ++ (255 ∷ 216 ∷ zs) → IsCourseUnder Wide ys d
      → (AreUnits (no_headers_under Wide) (n + 2) zs d.units d.headers d.end) × (d.begin ≡ n + 2)
  second n zs _ _ is (with_soi m bytes units final e h) =
      let r = one_mark m n 216 216 bytes zs (not_soi 216 refl) (not_soi 216 refl) is in (
        subst (λ z. AreUnits (no_headers_under Wide) (n + 2) z units final e) r.2 (subst (λ k. AreUnits (no_headers_under Wide) (k + 2) bytes units final e) r.0 h),
        ap (λ k. k + 2) r.0,
      )
  second n zs _ _ is (with_another_marker m code bytes p q) = absurd (q (one_mark m n code 216 bytes zs p (not_soi 216 refl) is).1)
  second n zs _ _ is (with_no_marker b bytes p) = absurd (no_first n b bytes (216 ∷ zs) p is)
  second n zs _ _ is (with_fill_alone m) = absurd (no_mark m n 216 zs (not_soi 216 refl) is)

  files_walk : (xs ys : List ℕ) (c d : Course) → IsCourseUnder Wide xs c → IsCourseUnder Wide ys d → (earlier later : List FoundPiece) (p : FoundPiece)
      → pieces c ≡ earlier ++ p ∷ later → AllByRecursion (IsTrue picture) earlier → AllByRecursion (IsTrue picture) (pieces d)
      → Agree earlier 0 p.offset xs ys → Ended picture (pieces d) p
  files_walk _ ys _ d (with_soi n bytes units final e h) other earlier later p is good theirs agree =
      let us = fill_bytes n ++ (255 ∷ 216 ∷ []) in
      let size : length us ≡ n + 2 = (let a = length-append (fill_bytes n) (255 ∷ 216 ∷ []) in let b = fills_length n in omega (arith, a, b)) in
      let whole : fill_bytes n ++ (255 ∷ 216 ∷ bytes) ≡ us ++ bytes = sym (append_assoc (fill_bytes n) (255 ∷ 216 ∷ []) bytes) in
      let agree0 : Agree earlier 0 p.offset (us ++ bytes) ys = subst (λ z. Agree earlier 0 p.offset z ys) whole agree in
      let low : (q : FoundPiece) → Contains (pieces_in 0 (n + 2) units) q → 0 + length us ≤ q.offset = λ q m.
      let l = in_offset 0 (n + 2) units q m in omega (arith, l, size) in
      let r = first_bytes earlier 0 p.offset us bytes ys agree0
      (low p (subst (λ z. Contains z p) (sym is) (Contains-append_right earlier (p ∷ later) p (is_first p later))))
      (λ q m. low q (subst (λ z. Contains z q) (sym is) (Contains-append_left earlier (p ∷ later) q m))) in
      let s = second n r.0 ys d (r.1 ∙ append_assoc (fill_bytes n) (255 ∷ 216 ∷ []) r.0) other in
      let on = agree_on earlier 0 p.offset us us bytes r.0 refl (subst (λ z. Agree earlier 0 p.offset (us ++ bytes) z) r.1 agree0) in
      let place : 0 + length us ≡ n + 2 = omega (arith, size) in
      let w = units_walk picture (no_headers_under Wide) (n + 2) 0 bytes r.0 units d.units final d.headers e d.end earlier later p h s.0 is good
      (subst (λ k. AllByRecursion (IsTrue picture) (pieces_in 0 k d.units)) s.1 theirs)
      (subst (λ k. Agree earlier k p.offset bytes r.0) place on) in
      (w.0, subst (λ k. Contains (pieces_in 0 k d.units) w.0) (sym s.1) w.1, w.2)
  files_walk _ ys _ d (with_another_marker n code bytes a b) other earlier later p is good theirs agree = absurd (none earlier later p is)
  files_walk _ ys _ d (with_no_marker b bytes a) other earlier later p is good theirs agree = absurd (none earlier later p is)
  files_walk _ ys _ d (with_fill_alone n) other earlier later p is good theirs agree = absurd (none earlier later p is)

  abbrev head_at : ℕ → Scan → ℕ → PieceHead
  head_at offset s k = record { offset = offset; components = s.components; shape = interval_of s k; row = first_row s k }

  pub strict_heads : PiecesStandAtTheirOffsetsUnder Wide → StrictPiecesHaveHeads picture
  strict_heads stand f bytes low is long p w known =
      let s = all_at (λ piece. StandsAt f.bytes piece.offset piece.bytes) (pieces p.course) p.piece
      (stand f.bytes p.course p.is_course) p.among in
      let size = ap length s.copy_is ∙ length-append s.prefix (p.piece.bytes ++ s.back) in let at = s.offset_is in
      let r = files_walk f.bytes bytes p.course is.course p.is_course is.is_course w.earlier w.later p.piece w.pieces_are
      (all_true picture w.earlier w.outcomes w.are_outcomes w.none_faulty known) (all_of (IsTrue picture) (pieces is.course) is.each)
      (λ k before outside. (
        omega (arith, before, size, at, long),
        is.has_held k (w.outside k (omega (arith, before)) (λ q among inside.
            outside q among (subst (IsIn q) (zero_more k) inside))),
      )) in
      record {
        piece = r.0;
        among = r.1;
        number = p.number;
        number_is = r.2.number ∙ p.number_is;
        head_is = ap (λ o. head_at o r.0.plan p.number) r.2.offset ∙ ap (λ v. head_at p.piece.offset v p.number) r.2.plan;
      }

pub strictly_held_lines_are_the_picture : PiecesStandAtTheirOffsetsUnder Wide → StrictlyHeldLinesAreThePicture
strictly_held_lines_are_the_picture stand = strictly_held_from_heads stand (λ picture. strict_heads picture stand)
