-- What is known of bytes that were read as partial pictures, or that are none.
use Rattle.std.proofs.Common.{◌≡◌, ℕ, ◌≤◌, List, subst, arith}
use Rattle.jls_partial.specs.Partial.{PartialPicture}
use Rattle.jls_partial.specs.Text.{IsTextOf}
use Rattle.jls_partial.specs.TextReading.{Fails, read_text}
use Rattle.jls_partial.specs.TextMerging.{MergesText, HasOtherShape}
use Rattle.jls_partial.specs.declared.text_fault.TextFault.{TextFault}
use Rattle.jls_partial.specs.declared.text_fault.TextFault.TheVariants.{Magic, BadShape, Truncated, Place, Count, Order, Sample, Trailing}
use Rattle.jls_partial.specs.declared.text_fault.TextFault.TheVariants.{OutOfMemory}
use Rattle.jls_c.specs.Info.{info_of_partial}
use Rattle.jls_c.specs.PartialAnswers.{IsTextPut, IsTextLonger, IsJoined, IsJoinLonger, AreOfTwoShapes, HasNoPartial, HasNoSecond}
use Rattle.jls_c.specs.PartialAnswers.{AreLinesShown, AreLinesMore, AreLinesOfText, AreLinesOfTextMore}
use Rattle.jls_c.specs.TextFaults.{info_of_no_partial, text_answer}
use Rattle.jls_c.specs.declared.info.JlsInfo.{JlsInfo}
use Rattle.jls_c.specs.declared.lines.JlsLine.{JlsLine}

-- ---- a text in a buffer

pub put_as : (p q : PartialPicture) (one reported info : JlsInfo) (old new : List ℕ) → p ≡ q → one ≡ reported → IsTextPut p one info old new
    → IsTextPut q reported info old new
put_as p q one reported info old new same same_reported is =
    subst (λ (t : JlsInfo). IsTextPut q t info old new) same_reported (subst (λ (z : PartialPicture). IsTextPut z one info old new) same is)

pub longer_as : (p q : PartialPicture) (one reported info : JlsInfo) (room : ℕ) → p ≡ q → one ≡ reported → IsTextLonger p one info room
    → IsTextLonger q reported info room
longer_as p q one reported info room same same_reported is =
    subst (λ (t : JlsInfo). IsTextLonger q t info room) same_reported (subst (λ (z : PartialPicture). IsTextLonger z one info room) same is)

-- ---- two texts

pub joined : (first : PartialPicture) (second : List ℕ) (held : PartialPicture) (info : JlsInfo) (old new bytes : List ℕ)
    → MergesText first second held → IsTextPut held (info_of_partial held) info old new → IsTextOf bytes first
    → IsJoined bytes second info old new
joined first second held info old new bytes merges put is_text = record {
  p = first;
  q = merges.said;
  texts = record { first_is = is_text; second_is = merges.is_text; one_shape = merges.one_shape };
  put = subst (λ (z : PartialPicture). IsTextPut z (info_of_partial z) info old new) merges.union_is put;
}

pub join_longer : (first : PartialPicture) (second : List ℕ) (held : PartialPicture) (info : JlsInfo) (room : ℕ) (bytes : List ℕ)
    → MergesText first second held → IsTextLonger held (info_of_partial held) info room → IsTextOf bytes first
    → IsJoinLonger bytes second info room
join_longer first second held info room bytes merges longer is_text = record {
  p = first;
  q = merges.said;
  texts = record { first_is = is_text; second_is = merges.is_text; one_shape = merges.one_shape };
  longer = subst (λ (z : PartialPicture). IsTextLonger z (info_of_partial z) info room) merges.union_is longer;
}

pub two_shapes : (first : PartialPicture) (second bytes : List ℕ) → HasOtherShape first second → IsTextOf bytes first
    → AreOfTwoShapes bytes second
two_shapes first second bytes other is_text =
    record { p = first; q = other.said; first_is = is_text; second_is = other.is_text; two_shapes = other.other_shape }

pub second_none : (first second : List ℕ) (p : PartialPicture) (info : JlsInfo) → IsTextOf first p → HasNoPartial second info
    → HasNoSecond first second info
second_none first second p info is_text none = record { p = p; first_is = is_text; none = none }

-- ---- bytes that are no text

pub no_partial : (fault : TextFault) (bytes : List ℕ) (info : JlsInfo) (number : ℕ) → 4 ≤ number → text_answer fault number ≡ number
    → info ≡ info_of_no_partial fault → Fails fault (read_text bytes) → HasNoPartial bytes info
no_partial (Magic o) bytes info number four answer is fails = record { fault = Magic o; found = fails; info_is = is }
no_partial (BadShape o) bytes info number four answer is fails = record { fault = BadShape o; found = fails; info_is = is }
no_partial (Truncated o) bytes info number four answer is fails = record { fault = Truncated o; found = fails; info_is = is }
no_partial (Place o) bytes info number four answer is fails = record { fault = Place o; found = fails; info_is = is }
no_partial (Count o) bytes info number four answer is fails = record { fault = Count o; found = fails; info_is = is }
no_partial (Order o) bytes info number four answer is fails = record { fault = Order o; found = fails; info_is = is }
no_partial (Sample o) bytes info number four answer is fails = record { fault = Sample o; found = fails; info_is = is }
no_partial (Trailing o) bytes info number four answer is fails = record { fault = Trailing o; found = fails; info_is = is }
no_partial OutOfMemory bytes info number four answer is fails = absurd (omega (arith, four, answer))

-- ---- the lines of a text

pub lines_of_text : (bytes : List ℕ) (p : PartialPicture) (info : JlsInfo) (old_samples new_samples : List ℕ)
    (old_lines new_lines : List JlsLine)
    → IsTextOf bytes p → AreLinesShown p info old_samples new_samples old_lines new_lines
    → AreLinesOfText bytes info old_samples new_samples old_lines new_lines
lines_of_text bytes p info old_samples new_samples old_lines new_lines is_text shown = record { p = p; is_text = is_text; shown = shown }

pub lines_more : (bytes : List ℕ) (p : PartialPicture) (info : JlsInfo) (samples lines : ℕ) → IsTextOf bytes p
    → AreLinesMore p info samples lines
    → AreLinesOfTextMore bytes info samples lines
lines_more bytes p info samples lines is_text more = record { p = p; is_text = is_text; more = more }
