-- The places where the code of lines ends in a piece by line of a mended file.
use Rattle.std.proofs.Common.{◌≡◌, ◌+◌, ◌*◌, Bool, false, List, ◌++◌, length, take, drop, get_or, sym, ap, ◌∙◌, subst, arith}
use Rattle.std.specs.Prelude.{if◌then◌else◌}
use Rattle.std.proofs.lemmas.List.{take-append-drop}
use Rattle.jls_bits.specs.declared.writer.BitPlace.{BitPlace}
use Rattle.jls_interval.specs.Fronts.{FrontsBeginPieces, LinesEndAt, nowhere}
use Rattle.jls_piece.specs.Reads.{BeginsWithCode}
use Rattle.jls_copy.specs.InHand.{first_lines}
use Rattle.jls_copy.specs.IntervalOf.{interval_of}
use Rattle.jls_copy.specs.declared.piece_in_hand.PieceInHand.{PieceInHand}
use Rattle.jls_held.specs.MendedFiles.{MendedFile}
use Rattle.jls_held.specs.LineCode.{code_length}
use Rattle.jls_held.specs.FilePieces.{lines_of, IsPieceOf}
use Rattle.jls_held.specs.Chains.{EndAround, AreCodeEnds, together}
use Rattle.jls_held.proofs.LineBytes.{ends_of, end_is_around}

pub line_places_are : FrontsBeginPieces → (f : MendedFile) (p : PieceInHand) → p.plan.by_sample ≡ false → (ends : List BitPlace)
    → LinesEndAt p.plan.params p.plan.width (length p.plan.components) (lines_of p) ends
    → (is : IsPieceOf f p) → AreCodeEnds (interval_of p.plan p.interval) is.found.piece.bytes (lines_of p) ends
line_places_are law f p by_line ends at is = λ k inside.
    let i = interval_of p.plan p.interval in let all = lines_of p in let bytes = is.found.piece.bytes in
    let first = take (k + 1) all in let others = drop (k + 1) all in
    let all_are : all ≡ first ++ others = sym (take-append-drop (k + 1) all) in
    let count = at.count_is in
    let e = ends_of law (first_lines i (length all)) bytes first others is.begins.unread (get_or ends k nowhere) by_line
    (subst (λ z. BeginsWithCode (first_lines i (length all)) bytes z is.begins.unread) all_are is.begins.begins)
    (at.each k (omega (arith, inside, count))) in
    let one : (k + 1) * 1 ≡ k + 1 = omega arith in
    let own : (k + 1) * together i ≡ k + 1 = ap (λ (b : Bool). (k + 1) * (if b then length p.plan.components else 1)) by_line ∙ one in
    subst (λ n. EndAround bytes (code_length i (take n all)) (get_or ends k nowhere)) (sym own)
    (end_is_around bytes (code_length i first) (get_or ends k nowhere) is.begins.begins.data_bits.whole e)
