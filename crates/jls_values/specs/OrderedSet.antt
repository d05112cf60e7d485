-- A finite set of items in a total order: a finite map with nothing at its keys, which are known to rise. Where only
-- equal items tie, two sets that contain the same are equal (`same_set` of OrderedSetLaws), so a set has one spelling.
use Rattle.std.specs.Prelude.{Bool, List, [], ◌∷◌}
use Rattle.std.specs.declared.cmp.Ordering.{Ordering}
use Rattle.std.specs.Coded.{Coded}
use base.Stored.{coded_unit}
use Rattle.std.specs.FinMap as map

-- a finite set of K in the order R, kept as its items in ascending order
abbrev pub OrderedSet : {K : Type 0} → (K → K → Ordering) → Type 0
OrderedSet R = map.FinMap R (Unit {0})

module _ {K : Type 0} {R : K → K → Ordering} where
  -- how the checker's logic stores a set, given how it stores an item
  abbrev pub code : Coded K → Coded (OrderedSet R)
  code k = map.code k coded_unit

  -- the set with no item
  abbrev pub empty : OrderedSet R
  empty = map.empty

  -- whether the item is in the set
  abbrev pub contains : OrderedSet R → K → Bool
  contains s k = map.contains_key s k

  -- the set with the item in it
  abbrev pub insert : OrderedSet R → K → OrderedSet R
  insert s k = map.insert s k tt

  -- the items in ascending order, each once
  abbrev pub items : OrderedSet R → List K
  items s = map.keys s

  -- the set with each of the list in it
  abbrev pub insert_all : OrderedSet R → List K → OrderedSet R
  insert_all s [] = s
  insert_all s (k ∷ ks) = insert_all (insert s k) ks

  -- the set of what the list contains
  abbrev pub from_list : List K → OrderedSet R
  from_list [] = empty
  from_list (k ∷ ks) = insert (from_list ks) k

  -- the set of what either contains
  abbrev pub union : OrderedSet R → OrderedSet R → OrderedSet R
  union s t = insert_all s (items t)
