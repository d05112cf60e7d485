-- What contracts see of a reader.
use Rattle.std.specs.Prelude.{Bool, List}

-- what contracts see of a reader: the bits that are left, and whether all its bytes are whole
pub record Unread : Type 0 where
  -- the data bits that can still be read
  pub left : List Bool
  -- whether no byte of 0x80 or more follows 0xFF, in what was read and in what wasn't
  pub whole : Bool
