use Rattle.std.proofs.Common.{List, ℕ, ◌++◌, ◌∷◌, [], subst, sym}
use Rattle.jls_io.specs.Handing.{HandedBut}
use Rattle.jls_io.proofs.Handed.{pushed}
use Rattle.jls_io.proofs.pending.put_byte.Goals as goal

-- the byte waits after the others
pub returns : goal.returns
returns g c = λ line before h.
    let now = g.E.Device.history c.make_room.new.faults in
    subst (λ (b : List ℕ). HandedBut (line ++ c.args.byte ∷ []) c.make_room.new.pending.went b before now) (sym c.push.ensures.items)
    (pushed line c.make_room.new.pending.bytes.items (c.args.byte ∷ []) c.make_room.new.pending.went before now
    (c.make_room.ensures.same_line line before h))
