-- Pieces that begin with the code of the same lines, and agree on the bytes of the code of the next ones, have those in common.
use Rattle.std.proofs.Common.{◌≡◌, ℕ, zero, suc, ◌+◌, ◌*◌, ◌<◌, Bool, List, [], ◌∷◌, ◌++◌, length, sym, ap, ◌∙◌, subst, arith}
use Rattle.std.proofs.Common.{append_assoc, length-append}
use Rattle.std.specs.Prelude.{if◌then◌else◌}
use Rattle.std.proofs.Math.Nat.{suc-mul}
use Rattle.std.proofs.lemmas.List.{append_cancel_left}
use Rattle.jls_values.specs.Params.{AreCodingParameters}
use Rattle.jls_interval.specs.Lines.{AreLines}
use Rattle.jls_interval.proofs.HeadLines.{prefix_lines}
use Rattle.jls_piece.specs.Lines.{PieceShape, AreOfWholeRows}
use Rattle.jls_piece.specs.Code.{piece_code}
use Rattle.jls_piece.specs.Reads.{BeginsWithCode}
use Rattle.jls_piece.proofs.PieceCodes.{code_parts, codes_apart}
use Rattle.jls_copy.specs.InHand.{BeginsWithLines, first_lines}
use Rattle.jls_held.specs.LineCode.{AreCodedTogether, code_length}
use Rattle.jls_carry_laws.proofs.Walk.{AgreeFrom, walk}

-- the rows before the last of some rows
fewer_rows : (c many n : ℕ) → 0 < c → many + c ≡ n * c → (m : ℕ) × (many ≡ m * c)
fewer_rows c many zero some e = absurd (omega (arith, e, some))
fewer_rows c many (suc m) some e = let d = suc-mul m c in (m, omega (arith, d, e))

-- where lines that are coded together stand behind others, these are of whole rows too
pub rows_before : (i : PieceShape) → 0 < i.components → (before lines : List (List ℕ)) → AreCodedTogether i lines
    → AreOfWholeRows i (before ++ lines) → AreOfWholeRows i before
rows_before i some before lines together rows = λ e.
    let r = rows e in let n = length-append before lines in
    let one : length lines ≡ i.components = together ∙ ap (λ (b : Bool). if b then i.components else 1) e in
    fewer_rows i.components (length before) r.0 some (ap (λ k. length before + k) (sym one) ∙ sym n ∙ r.1)

pub one_code : (i : PieceShape) → AreCodingParameters i.params → 0 < i.width → (xs ys : List ℕ) (before lines others later : List (List ℕ))
    (unread : List Bool) → AreOfWholeRows i before → length lines ≡ length others → BeginsWithLines i xs (before ++ lines)
    → BeginsWithCode i ys (before ++ (others ++ later)) unread
    → AgreeFrom 0 (code_length i before) (code_length i (before ++ lines)) xs ys → lines ≡ others
one_code i ok some xs ys before lines others later unread rows many b a same =
    let p = i.params in let w = i.width in
    let as_long : length (before ++ others) ≡ length (before ++ lines) =
    length-append before others ∙ ap (λ k. length before + k) (sym many) ∙ sym (length-append before lines) in
    let own_rows = b.begins.whole_rows in
    let their_rows : AreOfWholeRows i (before ++ others) = λ e. (let r = own_rows e in (r.0, as_long ∙ r.1)) in
    let own = code_parts i before lines rows in let theirs = code_parts i before (others ++ later) rows in
    let first : before ++ (others ++ later) ≡ (before ++ others) ++ later = sym (append_assoc before others later) in
    let rest = code_parts i (before ++ others) later their_rows in
    let start = piece_code i before in
    let x_is = b.begins.data_bits.read ∙ ap (λ z. z ++ b.unread) own.1 ∙ append_assoc start own.0 b.unread in
    let y_is = a.data_bits.read ∙ ap (λ z. z ++ unread) theirs.1 ∙ append_assoc start theirs.0 unread in
    let size : code_length i (before ++ lines) ≡ length start + length own.0 = ap length own.1 ∙ length-append start own.0 in
    let m = walk 0 xs ys start own.0 b.unread (theirs.0 ++ unread) b.begins.are_bytes a.are_bytes b.begins.data_bits.whole
    a.data_bits.whole x_is y_is (subst (λ z. AgreeFrom 0 (length start) z xs ys) size same) in
    let n = length (before ++ lines) in
    let e : piece_code i (before ++ lines) ++ m.more ≡ piece_code i (before ++ others) ++ (rest.0 ++ (unread ++ m.others)) =
    ap (λ z. z ++ m.more) own.1 ∙ append_assoc start own.0 m.more ∙ ap (λ z. start ++ z) m.meet
    ∙ ap (λ z. start ++ z) (append_assoc theirs.0 unread m.others) ∙ sym (append_assoc start theirs.0 (unread ++ m.others))
    ∙ ap (λ z. z ++ (unread ++ m.others)) (sym theirs.1 ∙ ap (piece_code i) first ∙ rest.1)
    ∙ append_assoc (piece_code i (before ++ others)) rest.0 (unread ++ m.others) in
    let r = codes_apart (first_lines i n) ok some (before ++ lines) (before ++ others) m.more (rest.0 ++ (unread ++ m.others))
    b.begins.are_lines own_rows (subst (λ k. AreLines p w k (before ++ others)) as_long
    (prefix_lines p w i.line_count (before ++ (others ++ later)) (before ++ others) later a.are_lines first)) their_rows e in
    append_cancel_left before lines others r.0
