-- A line that is handed out in parts.
use Rattle.std.specs.Prelude.{◌≡◌, ℕ, Bool, true, false, List, ◌++◌}
use Rattle.jls_io.specs.Event.{History, GrewBy}
use Rattle.jls_io.specs.Writing.{Wrote, WrotePrefix}
use Rattle.jls_io.specs.declared.pending.Pending.{Pending}

-- from the first history to the second the line was handed out but for these bytes at its end; or a write of it failed
abbrev pub HandedBut : List ℕ → Bool → List ℕ → History → History → Type 0
HandedBut line true pending old new = (out : List ℕ) × GrewBy (Wrote out) old new × (line ≡ out ++ pending)
HandedBut line false pending old new = (count : ℕ) × GrewBy (WrotePrefix line count) old new

-- whatever line was begun goes on by these bytes
abbrev pub GoesOnBy : List ℕ → Pending → Pending → History → History → Type 0
GoesOnBy bytes p q old new =
    (line : List ℕ) (before : History) → HandedBut line p.went p.bytes.items before old
    → HandedBut (line ++ bytes) q.went q.bytes.items before new
