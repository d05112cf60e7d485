-- Merging: readings with their sources that are taken one after the other.
use Rattle.std.specs.Prelude.{◌≡◌, ℕ, List, ◌++◌}
use Rattle.jls_partial.specs.LineSet.{PictureLines, with_lines}
use Rattle.jls_partial.specs.Partial.{PartialPicture, with_all}
use Rattle.jls_partial.specs.Reading.{Reading}

-- of some readings those of a prefix were taken, each with all of its sources
pub record TakesPrefix (old new : PartialPicture) (ks : List (Reading × List ℕ)) : Type 0 where
  pub taken : List (Reading × List ℕ)
  pub left : List (Reading × List ℕ)
  pub parts : ks ≡ taken ++ left
  pub new_is : new ≡ with_all old taken

-- a part of these lines was taken whole, with all of their sources, and of the others nothing
pub record TakesPrefixOfLines (old new : PictureLines) (ks : List (List ℕ × List ℕ)) : Type 0 where
  pub taken : List (List ℕ × List ℕ)
  pub left : List (List ℕ × List ℕ)
  pub parts : ks ≡ taken ++ left
  pub new_is : new ≡ with_lines old taken
