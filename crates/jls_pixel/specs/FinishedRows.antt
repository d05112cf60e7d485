-- Finished rows, which clones share.
use Rattle.std.specs.Prelude.{ℕ, List, map, Vec}
use Rattle.std.specs.declared.alloc.Global.{Global}
use Rattle.std.specs.declared.rc.Rc.{Rc}

-- the rows behind these handles, in order
abbrev pub rows_of : List (Rc (Vec (List ℕ) Global) Global) → List (List (List ℕ))
rows_of rows = map (λ row. row.value.items) rows
