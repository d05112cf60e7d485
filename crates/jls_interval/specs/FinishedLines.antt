-- Finished lines that stand in blocks, and lines after them.
use Rattle.std.specs.Prelude.{◌≡◌, ℕ, ◌≤◌, ◌⊎◌, ◌^◌, List, [], ◌++◌, length, map, Vec}
use Rattle.std.specs.List.{flat_map}
use Rattle.std.specs.declared.alloc.Global.{Global}
use Rattle.std.specs.declared.rc.Rc.{Rc}

-- the lines of blocks, in order
abbrev pub in_order : List (Rc (Vec (Vec ℕ Global) Global) Global) → List (List ℕ)
in_order blocks = flat_map (λ block. map (λ v. v.items) block.value.items) blocks

-- all lines
abbrev pub finished : List (Rc (Vec (Vec ℕ Global) Global) Global) → List (Vec ℕ Global) → List (List ℕ)
finished blocks lines = in_order blocks ++ map (λ v. v.items) lines

-- so many lines stand in the blocks. Where there are some, the neighbours of the next line stand after them
pub record AreFinished (blocks : List (Rc (Vec (Vec ℕ Global) Global) Global)) (in_blocks : ℕ) (lines : List (Vec ℕ Global)) : Type 0 where
  pub count_is : in_blocks ≡ length (in_order blocks)
  pub at_most : in_blocks ≤ 2 ^ 62
  pub kept : (in_order blocks ≡ []) ⊎ (8 ≤ length lines)
