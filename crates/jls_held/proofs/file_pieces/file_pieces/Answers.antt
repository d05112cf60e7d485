use Rattle.std.proofs.Common.{◌<◌, get_or, Vec, Global, sym, subst}
use Rattle.std.specs.Prelude.{IfSome}
use Rattle.std.specs.List.{All, AllByRecursion}
use Rattle.std.proofs.lemmas.List.Elements.{All-same, All-push}
use Rattle.jls_marker.specs.declared.profile.Profile.TheVariants.{Wide}
use Rattle.jls_copy.specs.CopyReads.{CopyReadsUnder}
use Rattle.jls_copy.specs.InHand.{IsInHandUnder}
use Rattle.jls_copy.specs.declared.piece_in_hand.PieceInHand.{PieceInHand}
use Rattle.jls_held.specs.Mending.{file_of}
use Rattle.jls_held.specs.FilePieces.{lines_of, IsPieceOf, IsTold}
use Rattle.jls_held.proofs.FoundPieces.{told_piece, last_piece_of}
use Rattle.jls_held.proofs.file_pieces.file_pieces.Goals as goal
use Rattle.jls_held.proofs.file_pieces.file_pieces.Goals.{in-Some+in_ok-push, in_default}

-- the pieces kept are those of the file, and so is the last one
pub returns : goal.returns
returns c =
    let f = file_of c.args.file.now in let P = IsPieceOf f in
    let whole = c.deref.ensures.value in
    let low : AllByRecursion (λ b. b < 256) f.bytes = subst (AllByRecursion (λ b. b < 256)) whole c.read_pieces.ensures.bytes in
    let read : CopyReadsUnder Wide f.bytes c.in-Ok.read =
    subst (λ bytes. CopyReadsUnder Wide bytes c.in-Ok.read) whole
    (subst (λ o. IfSome o (λ bytes. CopyReadsUnder Wide bytes c.in-Ok.read)) c.in_ok-read_pieces.ensures.reader c.in-Ok.ensures.read) in
    let told = subst (λ z. All (IsTold z) c.read_pieces.new.told.items) whole c.in_ok-read_pieces.ensures.told in
    let kept : All P c.in_ok-pieces.pieces.items = λ k d inside.
    told_piece (c.prefixes_go_on_under.ensures Wide) (c.records_are_of_faulty_pieces_under.ensures Wide) f low c.in-Ok.read read
    (get_or c.in_ok-pieces.pieces.items k d)
    (c.in_ok-pieces.ensures.told f.bytes told k d inside) (c.in_ok-pieces.ensures.none k d inside) in
    elim c.match-last-4.branch [
      | in-Some+in_ok-push w ↦ (
          let last = w.in-Some.piece in
          let hand = subst (λ o. IfSome o (λ bytes. IsInHandUnder Wide bytes last.plan last.interval last.offset (lines_of last)))
          c.in_ok-read_pieces.ensures.reader (rw w.in-Some.is at c.in_ok-last.ensures) in
          subst (λ (v : Vec PieceInHand Global). All P v.items) (sym w.pieces-is)
          (All-same P _ _ w.in_ok-push.ensures.items (All-push P c.in_ok-pieces.pieces.items last kept
          (last_piece_of f last (subst (λ z. IsInHandUnder Wide z last.plan last.interval last.offset (lines_of last)) whole hand)))))
      | in_default w ↦ subst (λ (v : Vec PieceInHand Global). All P v.items) (sym w.pieces-is) kept
    ]
