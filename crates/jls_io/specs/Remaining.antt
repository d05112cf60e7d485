-- What is known of the bytes of a device.
use Rattle.std.specs.Prelude.{◌≡◌, ℕ, Bool, List, [], ◌++◌, Option, Some, None, if◌then◌else◌}
use Rattle.jls_io.specs.Event.{History, bytes_given, bytes_taken}

-- what reads of a device will give, where the stream after it has these bytes left: none where no input is open
abbrev pub remaining_after : Bool → Option (List ℕ) → Option (List ℕ)
remaining_after is_open left = if is_open then left else Some []

-- reads gave the first bytes of a content, in order, and reads will give the rest
abbrev pub HasGiven : List ℕ → History → Option (List ℕ) → Type 0
HasGiven content h (Some left) = content ≡ bytes_given h ++ left
HasGiven content h None = ⊥

-- what was held before, and then what writes took, is what is held now
abbrev pub HasTaken : List ℕ → History → Option (List ℕ) → Type 0
HasTaken before h (Some held) = held ≡ before ++ bytes_taken h
HasTaken before h None = ⊥
