-- Copies that stand one behind the other, lists of their bad places, and what is asked of them.
use Rattle.std.specs.Prelude.{◌≡◌, ◌≤◌, ◌==◌, not, ℕ, List, [], ◌∷◌, Some, None, length, map, take, drop, if◌then◌else◌}
use Rattle.std.specs.List.{AllByRecursion, sum}
use Rattle.jls_mend.specs.Asking.{BadPlaces, IsNumberOf}
use Rattle.jls_mend.specs.declared.asking.MendOptions.{MendOptions}
use Rattle.jls_c.specs.declared.copies.JlsBadList.{JlsBadList}
use Rattle.jls_c.specs.declared.copies.JlsMendOptions.{JlsMendOptions}

-- bytes parted by sizes: the first copy has as many bytes as the first size says, the next begins behind it, and so on
abbrev pub parted : List ℕ → List ℕ → List (List ℕ)
parted [] bytes = []
parted (size ∷ sizes) bytes = take size bytes ∷ parted sizes (drop size bytes)

-- what a caller asks for
abbrev pub options_of : JlsMendOptions → MendOptions
options_of o = record {
  source = if o.has_source == 0 then None else Some o.source;
  tries = o.tries;
  ceiling = if o.has_ceiling == 0 then None else Some o.ceiling;
  files = not (o.files == 0);
}

-- these are copies that can be mended: two at least, and with a list one. Their sizes add up to the bytes that there are, and each search
-- may try something
pub record AreCopies (o : JlsMendOptions) (sizes bytes : List ℕ) (lists : List JlsBadList) : Type 0 where
  pub sizes_add_up : sum sizes ≡ length bytes
  pub some : 1 ≤ length sizes
  pub without_lists : length lists ≡ 0 → 2 ≤ length sizes
  pub tries : 1 ≤ o.tries

-- texts parted by the sizes of lists: each list is of its copy
abbrev pub listed : List JlsBadList → List ℕ → List BadPlaces
listed [] texts = []
listed (l ∷ ls) texts = record { copy = l.copy; text = take l.size texts } ∷ listed ls (drop l.size texts)

-- these are lists of so many copies: each is of one of them, and their sizes add up to the bytes that there are
pub record AreLists (count : ℕ) (lists : List JlsBadList) (texts : List ℕ) : Type 0 where
  pub sizes_add_up : sum (map (λ l. l.size) lists) ≡ length texts
  pub of_copies : AllByRecursion (λ l. IsNumberOf count l.copy) lists
