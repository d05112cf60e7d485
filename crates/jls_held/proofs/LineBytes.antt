-- Which bytes of a piece carry bits of a line, by the places where its code and that of the lines before it end.
use Rattle.std.proofs.Common.{◌≡◌, ℕ, zero, suc, ◌+◌, ◌<◌, ◌≤◌, Bool, true, false, List, [], ◌∷◌, ◌++◌, length, sym, ap, ◌∙◌}
use Rattle.std.proofs.Common.{subst, arith, inl, inr, take, length-append}
use Rattle.std.proofs.lemmas.List.{take_at}
use Rattle.std.proofs.lemmas.Bool.{cases_lt, cases_Bool}
use Rattle.jls_bits.specs.Bits.{AreDataBits, width_after, ends_data, bits_read, bits_read_after, is_whole_after}
use Rattle.jls_bits.specs.Appending.{last_after}
use Rattle.jls_bits.specs.Front.{EndsAt}
use Rattle.jls_bits.specs.declared.writer.BitPlace.{BitPlace}
use Rattle.jls_bits.proofs.DataBits.{data_end, data_stop, length_more}
use Rattle.jls_bits.proofs.Appending.{whole_parts}
use Rattle.jls_interval.specs.Lines.{IntervalShape, interval_shape}
use Rattle.jls_interval.specs.Code.{code}
use Rattle.jls_interval.specs.Reads as line
use Rattle.jls_interval.specs.Fronts.{FrontsBeginPieces}
use Rattle.jls_piece.specs.Lines.{PieceShape, AreOfWholeRows}
use Rattle.jls_piece.specs.Reads.{BeginsWithCode}
use Rattle.jls_piece.proofs.PieceCodes.{line_code}
use Rattle.jls_held.specs.LineCode.{code_length, bits_before}
use Rattle.jls_held.specs.Chains.{EndAround}

-- more bytes carry no fewer bits
pub more_bits : (before : ℕ) (xs : List ℕ) (m n : ℕ) → m ≤ n
    → length (bits_read_after before (take m xs)) ≤ length (bits_read_after before (take n xs))
more_bits before xs zero n l = let e = ap length (data_end before) in omega (arith, e)
more_bits before [] (suc m) (suc n) l = omega arith
more_bits before xs (suc m) zero l = absurd (omega (arith, l))
more_bits before (x ∷ xs) (suc m) (suc n) l =
    elim (cases_Bool (ends_data before x)) [
      | inl stop ↦ (
          let a = ap length (data_stop before x (take m xs) stop) in let b = ap length (data_stop before x (take n xs) stop) in
          omega (arith, a, b))
      | inr free ↦ (
          let a = length_more before x (take m xs) free in let b = length_more before x (take n xs) free in
          let r = more_bits x xs m n (omega (arith, l)) in omega (arith, a, b, r))
    ]

-- one byte more carries as many as its width
one_more : (before : ℕ) (xs : List ℕ) (n : ℕ) → is_whole_after before xs ≡ true → n < length xs
    → length (bits_read_after before (take (suc n) xs))
    ≡ length (bits_read_after before (take n xs)) + width_after (last_after before (take n xs))
one_more before [] n w l = absurd (omega (arith, l))
one_more before (x ∷ xs) zero w l =
    let p = whole_parts before x xs w in let a = length_more before x [] p.0 in
    let b = ap length (data_end before) in let c = ap length (data_end x) in omega (arith, a, b, c)
one_more before (x ∷ xs) (suc n) w l =
    let p = whole_parts before x xs w in
    let a = length_more before x (take (suc n) xs) p.0 in let b = length_more before x (take n xs) p.0 in
    let r = one_more x xs n p.1 (omega (arith, l)) in omega (arith, a, b, r)

-- Pieces by line --------------------------------------------------------------------------------------

-- by line, lines may end inside a row
pub any_rows : (i : PieceShape) → i.by_sample ≡ false → (lines : List (List ℕ)) → AreOfWholeRows i lines
any_rows i by_line lines = λ h. absurd (let e : false ≡ true = sym by_line ∙ h in cc)

-- the interval that a piece by line is
abbrev interval_of_piece : PieceShape → IntervalShape
interval_of_piece i = interval_shape i.params i.width i.components i.line_count

-- a piece by line that begins with the code of lines does so as an interval
begins_as_interval : (i : PieceShape) (piece : List ℕ) (lines : List (List ℕ)) (unread : List Bool) → i.by_sample ≡ false
    → BeginsWithCode i piece lines unread → line.BeginsWithCode (interval_of_piece i) piece lines unread
begins_as_interval i piece lines unread by_line b = record {
  are_bytes = b.are_bytes;
  are_lines = b.are_lines;
  data_bits = subst (λ z. AreDataBits piece (z ++ unread)) (line_code i lines by_line) b.data_bits;
}

-- where bits end at a place, and the piece begins with them
pub record Ends (piece : List ℕ) (size : ℕ) (place : BitPlace) : Type 0 where
  pub size_is : size ≡ bits_before piece place.bytes + place.bits
  pub few : place.bits < width_after (last_after 0 (take place.bytes piece))

-- where the code of first lines ends is the place at which their bits end in the piece
pub ends_of : FrontsBeginPieces → (i : PieceShape) (piece : List ℕ) (first others : List (List ℕ)) (unread : List Bool)
    (place : BitPlace) → i.by_sample ≡ false → BeginsWithCode i piece (first ++ others) unread
    → EndsAt (code i.params i.width i.components first) place → Ends piece (code_length i first) place
ends_of law i piece first others unread place by_line b e =
    let begins = law (interval_of_piece i) piece first others unread e.bytes
    (begins_as_interval i piece (first ++ others) unread by_line b) e.front in
    let coded = ap length (line_code i first by_line) in
    let own : take place.bytes piece ≡ e.bytes =
    ap (take place.bytes) begins.1 ∙ take_at e.bytes begins.0 place.bytes e.bytes_are in
    let size = ap length e.front.given_is ∙ length-append (bits_read e.bytes) e.front.over in
    let bits = e.bits_are in
    let count : bits_before piece place.bytes ≡ length (bits_read e.bytes) = ap (λ z. length (bits_read z)) own in
    let few = e.front.few in
    let width : width_after (last_after 0 (take place.bytes piece)) ≡ width_after (last_after 0 e.bytes) =
    ap (λ z. width_after (last_after 0 z)) own in
    record { size_is = omega (arith, coded, size, bits, count); few = omega (arith, few, bits, width) }

-- a byte that carries a bit after so many stands at their end or after it
from_start : (piece : List ℕ) (size : ℕ) (start : BitPlace) (place : ℕ) → Ends piece size start
    → size < bits_before piece (place + 1) → start.bytes ≤ place
from_start piece size start place e above =
    elim (cases_lt place start.bytes) [
      | inl early ↦ (
          let m = more_bits 0 piece (place + 1) start.bytes (omega (arith, early)) in let s = e.size_is in
          absurd (omega (arith, m, s, above)))
      | inr late ↦ late
    ]

-- a byte that carries one of so many first bits stands before their end, or carries the last of them
to_end : (piece : List ℕ) (size : ℕ) (end : BitPlace) (place : ℕ) → is_whole_after 0 piece ≡ true → place < length piece
    → Ends piece size end → bits_before piece place < size → (place ≤ end.bytes) × (place ≡ end.bytes → 0 < end.bits)
to_end piece size end place whole inside e below = (
  elim (cases_lt end.bytes place) [
    | inl late ↦ (
        let o = one_more 0 piece end.bytes whole (omega (arith, late, inside)) in
        let m = more_bits 0 piece (suc end.bytes) place (omega (arith, late)) in
        let s = e.size_is in let f = e.few in absurd (omega (arith, o, m, s, f, below)))
    | inr early ↦ early
  ],
  (λ is. let s = e.size_is in let c = ap (bits_before piece) is in omega (arith, s, c, below)),
)

-- so each of these ends is one of that many first bits
pub end_is_around : (piece : List ℕ) (size : ℕ) (place : BitPlace) → is_whole_after 0 piece ≡ true → Ends piece size place
    → EndAround piece size place
end_is_around piece size place whole e = record {
  carried = λ k inside below. to_end piece size place k whole inside e below;
  behind = λ k inside above. from_start piece size place k e above;
}
