use Rattle.std.proofs.Common.{map, take, List, ℕ}
use Rattle.std.specs.Borrow.{Bor}
use Rattle.jls_io.specs.Event.{GrewBy}
use Rattle.jls_station.specs.CopyFiles.{AreCopiesRead, copies_of}
use Rattle.jls_station.proofs.copies.read_copies.Given as goal

-- the copies so far are read
abbrev pub invariant-loop-name : goal.invariant-loop-name
invariant-loop-name g l =
    let history = g.D.Device.history in
    GrewBy (AreCopiesRead (map (λ (n : Bor (List ℕ)). n.now) (take l.name-index l.names)) (copies_of l.copies.items)) (history l.fn.desk)
    (history l.desk)
