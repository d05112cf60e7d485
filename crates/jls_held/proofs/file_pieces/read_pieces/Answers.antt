use Rattle.std.proofs.Common.{◌≤◌, ◌-◌, take, drop, ap, ◌∙◌, arith}
use Rattle.jls_copy.specs.ReadCopy.{after}
use Rattle.jls_held.proofs.FoundPieces.{fed_more, told_all}
use Rattle.jls_held.proofs.file_pieces.read_pieces.Goals as goal

-- the bytes up to the next cut are fed, and the piece in hand is kept
pub loop-cut-preserved : goal.loop-cut-preserved
loop-cut-preserved c =
    let bytes = c.args.bytes.now in let at = c.loop-cut.at in let cut = c.in-Some.cut in let found = c.in-Some.ensures.found in
    let inside = found.1.within in let low : at ≤ cut = omega (arith, found.0) in
    let fed = fed_more c.feed.new.self bytes at cut low
    (c.in_ok-feed.ensures.ok ∙ ap (λ o. after o (take (cut - at) (drop at bytes))) c.loop-cut.invariant.fed) in
    record {
      within = omega (arith, inside);
      fed = fed;
      told = told_all c.feed.new.self bytes cut c.loop-cut.told.items c.note.new.told.items fed c.in_ok-note.ensures
          c.loop-cut.invariant.told;
    }
