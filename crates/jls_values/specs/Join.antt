-- Joins: what a merge holds in the end, and the laws that make it independent of order and repeats.
use Rattle.std.specs.Prelude.{◌≡◌, ℕ, ◌<◌, ◌+◌, Bool, true, false, List, [], ◌∷◌, length, take, IfSome, slice_get}

-- The laws of `Merge`, for which `same_shape x y` says that x and y can be joined. Having the same shape is an equivalence, which a join
-- keeps. A join of values of the same shape is idempotent, commutative and associative
pub record JoinLaws {V : Type 0} (same_shape : V → V → Bool) (join : V → V → V) : Type 0 where
  pub reflexive : (x : V) → same_shape x x ≡ true
  pub symmetric : (x y : V) → same_shape x y ≡ same_shape y x
  pub transitive : (x y z : V) → same_shape x y ≡ true → same_shape y z ≡ true → same_shape x z ≡ true
  pub join_same_shape : (x y : V) → same_shape x y ≡ true → same_shape x (join x y) ≡ true
  pub idempotent : (x : V) → join x x ≡ x
  pub commutative : (x y : V) → same_shape x y ≡ true → join x y ≡ join y x
  pub associative : (x y z : V) → same_shape x y ≡ true → same_shape y z ≡ true → join (join x y) z ≡ join x (join y z)

module _ {V : Type 0} where
  -- y holds all that x holds
  abbrev pub IsBelow : (V → V → V) → V → V → Type 0
  IsBelow join x y = join x y ≡ y

  -- x holds all that low holds, and nothing that high does not hold
  abbrev pub IsBetween : (V → V → V) → V → V → V → Type 0
  IsBetween join low x high = IsBelow join low x × IsBelow join x high

  -- x joined with each member of the list, in order
  abbrev pub join_all : (V → V → V) → V → List V → V
  join_all join x [] = x
  join_all join x (y ∷ ys) = join_all join (join x y) ys

  -- each member has the shape of x
  abbrev pub AllOfShape : (V → V → Bool) → V → List V → Type 0
  AllOfShape same_shape x [] = Unit {0}
  AllOfShape same_shape x (y ∷ ys) = (same_shape x y ≡ true) × AllOfShape same_shape x ys

  -- the member at k has another shape: those before it have the shape and are merged whole, and nothing else has changed
  pub record StopsAtShapeAt (same_shape : V → V → Bool) (join : V → V → V) (old : V) (list : List V) (new : V) (k : ℕ) : Type 0 where
    pub within : k < length list
    pub before : AllOfShape same_shape old (take k list)
    pub differs : IfSome (slice_get list k) (λ member. same_shape old member ≡ false)
    pub merged : new ≡ join_all join old (take k list)

  -- `StopsAtShapeAt` for some member of the list
  abbrev pub StopsAtShape : (V → V → Bool) → (V → V → V) → V → List V → V → Type 0
  StopsAtShape same_shape join old list new = (k : ℕ) × StopsAtShapeAt same_shape join old list new k

  -- memory ran out inside the member at k. Members up to k have the shape, and those before k are merged whole. Of the one at k nothing, a
  -- part or all is merged
  pub record StopsInsideAt (same_shape : V → V → Bool) (join : V → V → V) (old : V) (list : List V) (new : V) (k : ℕ) : Type 0 where
    pub within : k < length list
    pub upto : AllOfShape same_shape old (take (k + 1) list)
    pub between : IsBetween join (join_all join old (take k list)) new (join_all join old (take (k + 1) list))

  -- `StopsInsideAt` for some member of the list
  abbrev pub StopsInside : (V → V → Bool) → (V → V → V) → V → List V → V → Type 0
  StopsInside same_shape join old list new = (k : ℕ) × StopsInsideAt same_shape join old list new k
