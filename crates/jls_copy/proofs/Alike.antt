-- Two FF bytes stand for any longer run: a piece with two FF in a row has no data bits, whatever stands round them.
use Rattle.std.proofs.Common.{◌≡◌, ℕ, Bool, true, false, not, ◌&&◌, List, [], ◌∷◌, ◌++◌, refl, ap, ◌∙◌, subst, inl, inr}
use Rattle.jls_bits.specs.Bits.{is_whole, is_whole_after, ends_data}
use Rattle.jls_marker.specs.Scan.{Scan}
use Rattle.jls_copy.specs.Numbers.{Interval}
use Rattle.jls_copy.specs.ScanData.{fill_bytes}
use Rattle.jls_copy.specs.Pieces.{PieceOutcome, Lines, Fault, IsOutcomeAt}
use Rattle.jls_copy.specs.CutPieces.{IsHeadAt}
use Rattle.jls_copy.specs.ReaderState.{held_bytes}
use Rattle.jls_copy.specs.Tells.{SameBytes, HeldIs}
use Rattle.jls_copy.specs.declared.piece.PieceKind.TheVariants as kind
use Rattle.jls_copy.specs.declared.scan.Held.{Held}
use Rattle.jls_copy.specs.declared.scan.Held.TheVariants.{Nothing, One, More}
use Rattle.jls_interval.proofs.EventsApart.{true_false}

and_false : (b : Bool) → (b && false) ≡ false
and_false true = refl
and_false false = refl

and_prefix : (b c d : Bool) → (c ≡ false → d ≡ false) → (b && c) ≡ false → (b && d) ≡ false
and_prefix true c d f e = f e
and_prefix false c d f e = refl

-- bytes that are not whole are not whole with more bytes
unwhole_append : (before : ℕ) (xs ys : List ℕ) → is_whole_after before xs ≡ false → is_whole_after before (xs ++ ys) ≡ false
unfolding is_whole_after
unwhole_append before [] ys e = cc
unwhole_append before (x ∷ xs) ys e =
    and_prefix (not (ends_data before x)) (is_whole_after x xs) (is_whole_after x (xs ++ ys)) (unwhole_append x xs ys) e

two_break : (before : ℕ) (xs ys : List ℕ) → is_whole_after before (xs ++ (255 ∷ 255 ∷ ys)) ≡ false
unfolding is_whole_after ends_data
two_break before [] ys = and_false (not (ends_data before 255))
two_break before (x ∷ xs) ys = ap (λ t. not (ends_data before x) && t) (two_break x xs ys) ∙ and_false (not (ends_data before x))

-- equal pieces stay the same with equal bytes after them
same_equal : (fed piece : List ℕ) (n b : ℕ) → fed ≡ piece → (held : Held) → HeldIs held n
    → SameBytes (fed ++ (held_bytes held ++ b ∷ [])) (piece ++ (fill_bytes n ++ b ∷ []))
same_equal fed piece n b e Nothing h = inl (rw (h, e) refl)
same_equal fed piece n b e One h = inl (rw (h, e) refl)
same_equal fed piece n b e More (m, h) = inr (two_break 0 fed (b ∷ []), rw h (two_break 0 piece (fill_bytes m ++ b ∷ [])))

-- what is fed goes on as the piece does
pub same_more : (fed piece : List ℕ) (held : Held) (n b : ℕ) → HeldIs held n → SameBytes fed piece
    → SameBytes (fed ++ (held_bytes held ++ b ∷ [])) (piece ++ (fill_bytes n ++ b ∷ []))
same_more fed piece held n b h (inl e) = same_equal fed piece n b e held h
same_more fed piece held n b h (inr e) =
    inr (unwhole_append 0 fed (held_bytes held ++ b ∷ []) e.0, unwhole_append 0 piece (fill_bytes n ++ b ∷ []) e.1)

-- what was fed of a piece has the outcome of the piece
pub same_outcome : (s : Scan) (k : ℕ) (fed piece : List ℕ) (o : PieceOutcome) → SameBytes fed piece → IsOutcomeAt s (Interval k) fed o
    → IsOutcomeAt s (Interval k) piece o
same_outcome s k fed piece o (inl e) h = subst (λ bytes. IsOutcomeAt s (Interval k) bytes o) e h
same_outcome s k fed piece (Lines lines) (inr e) h = absurd (true_false (is_whole fed) h.begins.data_bits.whole e.0)
same_outcome s k fed piece (Fault kind.Long) (inr e) h = absurd (true_false (is_whole fed) h.begins.data_bits.whole e.0)
same_outcome s k fed piece (Fault kind.Broken) (inr e) h = record {
  not_read = λ lines r. true_false (is_whole piece) r.begins.data_bits.whole e.1;
  not_long = λ r. true_false (is_whole piece) r.begins.data_bits.whole e.1;
}
same_outcome s k fed piece (Fault kind.Beyond) (inr e) h = h

-- what was fed of a piece has the head of the piece
pub same_head : (s : Scan) (k : ℕ) (fed piece : List ℕ) (head : List (List ℕ)) → SameBytes fed piece → IsHeadAt s (Interval k) fed head
    → IsHeadAt s (Interval k) piece head
same_head s k fed piece head (inl e) h = subst (λ bytes. IsHeadAt s (Interval k) bytes head) e h
same_head s k fed piece head (inr e) (inl h) = absurd (true_false (is_whole fed) h.0 e.0)
same_head s k fed piece head (inr e) (inr h) = inr (e.1, h.1)
