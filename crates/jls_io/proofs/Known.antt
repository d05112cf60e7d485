-- Known bytes of a device.
use Rattle.std.proofs.Common.{ℕ, List, [], ◌++◌, Option, Some, None, sym, ap, ◌∙◌, append_assoc}
use Rattle.std.proofs.lemmas.List.{append-nil}
use Rattle.std.specs.Io.KnownBytes.{Appends}

-- nothing more is no change
pub appends_nothing : (o : Option (List ℕ)) → Appends o o []
appends_nothing None = tt
appends_nothing (Some xs) = sym (append-nil xs)

-- some bytes that were added, and then others, are all of them
pub appends_on : (old mid new : Option (List ℕ)) (bs cs : List ℕ) → Appends old mid bs → Appends mid new cs → Appends old new (bs ++ cs)
appends_on None mid new bs cs h k = tt
appends_on (Some xs) None new bs cs h k = absurd h
appends_on (Some xs) (Some ys) None bs cs h k = k
appends_on (Some xs) (Some ys) (Some zs) bs cs h k = k ∙ (ap (λ (b : List ℕ). b ++ cs) h ∙ append_assoc xs bs cs)
