-- A mending without lists.
use Rattle.std.specs.Prelude.{◌≡◌, ℕ, List, []}
use Rattle.jls_mend.specs.Asking.{inputs_of, inputs_with}
use Rattle.jls_mend.specs.Mending.{IsMendedAlone, IsMendedOf}
use Rattle.jls_mend.specs.declared.asking.MendOptions.{MendOptions}
use Rattle.jls_mend.specs.declared.mending.Mended.{Mended}

-- without lists what was read of the copies is searched, and they are all inputs
abbrev pub CopiesWithoutListsAreSearched : Type 0
CopiesWithoutListsAreSearched =
    (o : MendOptions) (copies : List (List ℕ)) (v : Mended) → IsMendedOf o copies [] v
    → IsMendedAlone o copies v × (inputs_with copies [] ≡ inputs_of copies)
