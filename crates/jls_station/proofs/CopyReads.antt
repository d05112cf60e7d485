-- Reads of a copy, as its bytes stand in the room that they are put into.
use Rattle.std.proofs.Common.{◌≡◌, ℕ, List, [], Option, sym, subst}
use Rattle.std.specs.Io.KnownBytes.{Consumes}
use Rattle.jls_io.specs.Event.{History, GrewBy}
use Rattle.jls_station.specs.Reading.{ReadSoFar}
use Rattle.jls_station.proofs.OneInput.{nothing_read, consumes_nothing}
use Rattle.jls_station.specs.CopyFiles.{IsTextPrefix}

-- no read was made
pub none_yet : (now : History) (items : List ℕ) → items ≡ [] → GrewBy (ReadSoFar IsTextPrefix 0 items) now now
none_yet now items is = subst (λ (t : List ℕ). GrewBy (ReadSoFar IsTextPrefix 0 t) now now) (sym is)
    (nothing_read IsTextPrefix 0 now now now [])

pub none_known_yet : (left : Option (List ℕ)) (items : List ℕ) → items ≡ [] → Consumes left left items
none_known_yet left items is = subst (Consumes left left) (sym is) (consumes_nothing left)
