-- What the laws of a join give: lists with the same members have the same join.
use Rattle.std.proofs.Common.{◌≡◌, ℕ, Option, zero, suc, ◌+◌, ◌<◌, Bool, true, false, List, [], ◌∷◌, ◌++◌, length, take, get_or, refl, sym}
use Rattle.std.proofs.Common.{ap, ◌∙◌, subst, arith}
use Rattle.std.specs.Prelude.{Contains, IfSome}
use Rattle.std.proofs.lemmas.Option.{slice_get_read}
use Rattle.std.proofs.lemmas.List.{take_more}
use Rattle.jls_values.specs.Join.{JoinLaws, IsBelow, IsBetween, join_all, AllOfShape, StopsAtShape, StopsInside}

module _ {V : Type 0} {same_shape : V → V → Bool} {join : V → V → V} (laws : JoinLaws same_shape join) where
  pub below_join : (x y : V) → same_shape x y ≡ true → IsBelow join x (join x y)
  below_join x y f = sym (laws.associative x x y (laws.reflexive x) f) ∙ ap (λ z. join z y) (laws.idempotent x)

  pub turned : (x y : V) → same_shape x y ≡ true → same_shape y x ≡ true
  turned x y f = sym (laws.symmetric x y) ∙ f

  pub below_join_right : (x y : V) → same_shape x y ≡ true → IsBelow join y (join x y)
  below_join_right x y f = subst (λ (z : V). join y z ≡ z) (laws.commutative y x (turned x y f)) (below_join y x (turned x y f))

  pub below_along : (x y z : V) → same_shape x y ≡ true → same_shape y z ≡ true → IsBelow join x y → IsBelow join y z → IsBelow join x z
  below_along x y z f g p q = ap (λ w. join x w) (sym q) ∙ sym (laws.associative x y z f g) ∙ ap (λ w. join w z) p ∙ q

  pub join_least : (x y z : V) → same_shape x y ≡ true → same_shape y z ≡ true → IsBelow join x z → IsBelow join y z
      → IsBelow join (join x y) z
  join_least x y z f g p q = laws.associative x y z f g ∙ ap (λ w. join x w) q ∙ p

  pub below_both : (x y : V) → same_shape x y ≡ true → IsBelow join x y → IsBelow join y x → x ≡ y
  below_both x y f p q = sym q ∙ laws.commutative y x (turned x y f) ∙ p

  -- what does not fit a value of x's shape does not fit x
  pub unfit_along : (x y z : V) → same_shape x y ≡ true → same_shape y z ≡ false → same_shape x z ≡ false
  unfit_along x y z f g =
      elim (same_shape x z) as (λ b. same_shape x z ≡ b → b ≡ false) [
        | true ↦ λ e. absurd (bad e)
        | false ↦ λ e. refl
      ] refl
    where
      bad : same_shape x z ≡ true → ⊥
      bad e = let t : true ≡ false = sym (laws.transitive y x z (turned x y f) e) ∙ g in absurd cc

  -- the merge stopped at the member at k, which has another shape than what was held
  pub stops_at_shape : (x z y : V) (ys : List V) (k : ℕ) → k < length ys → y ≡ get_or ys k y → AllOfShape same_shape x (take k ys)
      → same_shape x z ≡ true → same_shape z y ≡ false → (new : V) → new ≡ join_all join x (take k ys)
      → StopsAtShape same_shape join x ys new
  stops_at_shape x z y ys k lt is before f g new e = (
    k,
    record {
      within = lt;
      before = before;
      differs = subst (λ (o : Option V). IfSome o (λ m. same_shape x m ≡ false)) (sym (slice_get_read ys (length ys) k y refl lt is))
          (unfit_along x z y f g);
      merged = e;
    },
  )

  pub moved : (x z : V) (ys : List V) → same_shape z x ≡ true → AllOfShape same_shape x ys → AllOfShape same_shape z ys
  moved x z [] f h = tt
  moved x z (y ∷ ys) f h = (laws.transitive z x y f h.0, moved x z ys f h.1)

  joined_fit : (x y : V) (ys : List V) → same_shape x y ≡ true → AllOfShape same_shape x ys → AllOfShape same_shape (join x y) ys
  joined_fit x y ys f h = moved x (join x y) ys (turned x (join x y) (laws.join_same_shape x y f)) h

  -- the first of a join has the shape of the join
  pub fits_all : (x : V) (ys : List V) → AllOfShape same_shape x ys → same_shape x (join_all join x ys) ≡ true
  fits_all x [] h = laws.reflexive x
  fits_all x (y ∷ ys) h =
      laws.transitive x (join x y) (join_all join (join x y) ys) (laws.join_same_shape x y h.0)
      (fits_all (join x y) ys (joined_fit x y ys h.0 h.1))

  -- the first of a join is below the join
  pub below_all : (x : V) (ys : List V) → AllOfShape same_shape x ys → IsBelow join x (join_all join x ys)
  below_all x [] h = laws.idempotent x
  below_all x (y ∷ ys) h =
      let h' = joined_fit x y ys h.0 h.1 in
      below_along x (join x y) (join_all join (join x y) ys) (laws.join_same_shape x y h.0) (fits_all (join x y) ys h') (below_join x y h.0)
      (below_all (join x y) ys h')

  -- each member of a join is below the join
  pub member_below : (x : V) (ys : List V) (k : ℕ) (d : V) → k < length ys → AllOfShape same_shape x ys
      → IsBelow join (get_or ys k d) (join_all join x ys)
  member_below x [] k d lt h = absurd (omega arith)
  member_below x (y ∷ ys) zero d lt h =
      let h' = joined_fit x y ys h.0 h.1 in
      let f = laws.transitive y x (join x y) (turned x y h.0) (laws.join_same_shape x y h.0) in
      below_along y (join x y) (join_all join (join x y) ys) f (fits_all (join x y) ys h') (below_join_right x y h.0)
      (below_all (join x y) ys h')
  member_below x (y ∷ ys) (suc k) d lt h = member_below (join x y) ys k d (omega arith) (joined_fit x y ys h.0 h.1)

  pub contained_below : (x : V) (ys : List V) (y : V) → AllOfShape same_shape x ys → Contains ys y → IsBelow join y (join_all join x ys)
  contained_below x ys y h c = subst (λ (z : V). IsBelow join z (join_all join x ys)) c.2 (member_below x ys c.0 y c.1 h)

  -- what each member of a join is below, the join is below
  pub all_least : (x z : V) (ys : List V) → AllOfShape same_shape x ys → same_shape x z ≡ true → IsBelow join x z
      → ((k : ℕ) (d : V) → k < length ys → IsBelow join (get_or ys k d) z) → IsBelow join (join_all join x ys) z
  all_least x z [] h f p each = p
  all_least x z (y ∷ ys) h f p each =
      let g = laws.transitive y x z (turned x y h.0) f in
      all_least (join x y) z ys (joined_fit x y ys h.0 h.1)
      (laws.transitive (join x y) x z (turned x (join x y) (laws.join_same_shape x y h.0)) f)
      (join_least x y z h.0 g p (each 0 z (omega arith)))
      (λ k d lt. each (suc k) d (omega arith))

  -- what is read at a place of a list does not depend on what stands for a place outside
  same_place : (xs : List V) (k : ℕ) (d e : V) → k < length xs → get_or xs k e ≡ get_or xs k d
  same_place [] k d e lt = absurd (omega arith)
  same_place (x ∷ xs) zero d e lt = refl
  same_place (x ∷ xs) (suc k) d e lt = same_place xs k d e (omega arith)

  -- each member of a list is below its join
  pub whole_below : (x : V) (xs : List V) (y : V) → AllOfShape same_shape x xs → Contains (x ∷ xs) y → IsBelow join y (join_all join x xs)
  whole_below x xs y h (zero, lt, e) = subst (λ (z : V). IsBelow join z (join_all join x xs)) e (below_all x xs h)
  whole_below x xs y h (suc k, lt, e) = contained_below x xs y h (k, omega (arith, lt), e)

  -- each member has the shape of the first
  member_fits : (x : V) (xs : List V) (k : ℕ) (d : V) → k < length xs → AllOfShape same_shape x xs → same_shape x (get_or xs k d) ≡ true
  member_fits x [] k d lt h = absurd (omega arith)
  member_fits x (y ∷ ys) zero d lt h = h.0
  member_fits x (y ∷ ys) (suc k) d lt h = member_fits x ys k d (omega arith) h.1

  -- each member of a list has the shape of the first
  contained_fits : (x : V) (xs : List V) (y : V) → AllOfShape same_shape x xs → Contains (x ∷ xs) y → same_shape x y ≡ true
  contained_fits x xs y h (zero, lt, e) = subst (λ (z : V). same_shape x z ≡ true) e (laws.reflexive x)
  contained_fits x xs y h (suc k, lt, e) = subst (λ (z : V). same_shape x z ≡ true) e (member_fits x xs k y (omega (arith, lt)) h)

  -- a join whose members are all members of another is below that other
  half : (x : V) (xs : List V) (y : V) (ys : List V) → AllOfShape same_shape x xs → AllOfShape same_shape y ys
      → ((z : V) → Contains (x ∷ xs) z → Contains (y ∷ ys) z) → IsBelow join (join_all join x xs) (join_all join y ys)
  half x xs y ys h g inside =
      let first = inside x (0, omega arith, refl) in
      all_least x (join_all join y ys) xs h
      (laws.transitive x y (join_all join y ys) (turned y x (contained_fits y ys x g first)) (fits_all y ys g))
      (whole_below y ys x g first)
      (λ k d lt. whole_below y ys (get_or xs k d) g
      (inside (get_or xs k d) (suc k, omega (arith, lt), same_place xs k d (get_or xs k d) lt)))

  -- lists with the same members have the same join, whichever member is the first
  pub same_lists : (x : V) (xs : List V) (y : V) (ys : List V) → AllOfShape same_shape x xs → AllOfShape same_shape y ys
      → ((z : V) → Contains (x ∷ xs) z → Contains (y ∷ ys) z) → ((z : V) → Contains (y ∷ ys) z → Contains (x ∷ xs) z)
      → join_all join x xs ≡ join_all join y ys
  same_lists x xs y ys h g there back =
      let f = turned y x (contained_fits y ys x g (there x (0, omega arith, refl))) in
      below_both (join_all join x xs) (join_all join y ys)
      (laws.transitive (join_all join x xs) x (join_all join y ys) (turned x (join_all join x xs) (fits_all x xs h))
      (laws.transitive x y (join_all join y ys) f (fits_all y ys g)))
      (half x xs y ys h g there) (half y ys x xs g h back)

  following : (x : V) (xs ys : List V) → ((z : V) → Contains xs z → Contains ys z) → (z : V) → Contains (x ∷ xs) z → Contains (x ∷ ys) z
  following x xs ys inside z (zero, lt, e) = (0, omega arith, e)
  following x xs ys inside z (suc k, lt, e) = let c = inside z (k, omega (arith, lt), e) in (suc c.0, omega (arith, c.1), c.2)

  -- lists with the same members have the same join with a value
  pub same_members : (x : V) (xs ys : List V) → AllOfShape same_shape x xs → AllOfShape same_shape x ys
      → ((y : V) → Contains xs y → Contains ys y) → ((y : V) → Contains ys y → Contains xs y) → join_all join x xs ≡ join_all join x ys
  same_members x xs ys h g there back = same_lists x xs x ys h g (following x xs ys there) (following x ys xs back)

module _ {V : Type 0} (join : V → V → V) where
  pub join_all-push : (x : V) (ys : List V) (y : V) → join_all join x (ys ++ y ∷ []) ≡ join (join_all join x ys) y
  join_all-push x [] y = refl
  join_all-push x (z ∷ ys) y = join_all-push (join x z) ys y

  -- the join of one member more is the join so far, joined with that member
  pub join_all-take_more : (x : V) (ys : List V) (k : ℕ) (y : V) → k < length ys → y ≡ get_or ys k y
      → join_all join x (take (k + 1) ys) ≡ join (join_all join x (take k ys)) y
  join_all-take_more x ys k y lt is =
      ap (join_all join x) (take_more ys k y lt ∙ ap (λ z. take k ys ++ (z ∷ [])) (sym is)) ∙ join_all-push x (take k ys) y

module _ {V : Type 0} (same_shape : V → V → Bool) where
  pub AllOfShape-push : (x : V) (ys : List V) (y : V) → AllOfShape same_shape x ys → same_shape x y ≡ true
      → AllOfShape same_shape x (ys ++ y ∷ [])
  AllOfShape-push x [] y h f = (f, tt)
  AllOfShape-push x (z ∷ ys) y h f = (h.0, AllOfShape-push x ys y h.1 f)

  pub AllOfShape-take_more : (x : V) (ys : List V) (k : ℕ) (y : V) → k < length ys → y ≡ get_or ys k y → AllOfShape same_shape x (take k ys)
      → same_shape x y ≡ true → AllOfShape same_shape x (take (k + 1) ys)
  AllOfShape-take_more x ys k y lt is h f =
      subst (AllOfShape same_shape x) (sym (take_more ys k y lt ∙ ap (λ z. take k ys ++ (z ∷ [])) (sym is)))
      (AllOfShape-push x (take k ys) y h f)

module _ {V : Type 0} {same_shape : V → V → Bool} {join : V → V → V} (laws : JoinLaws same_shape join) where
  -- memory ran out inside the member at k, when z was held
  pub stops_inside : (x z y : V) (ys : List V) (k : ℕ) → k < length ys → y ≡ get_or ys k y → AllOfShape same_shape x (take k ys)
      → z ≡ join_all join x (take k ys) → same_shape x z ≡ true → same_shape z y ≡ true → (new : V) → IsBetween join z new (join z y)
      → StopsInside same_shape join x ys new
  stops_inside x z y ys k lt is before e f g new between = (
    k,
    record {
      within = lt;
      upto = AllOfShape-take_more same_shape x ys k y lt is before (laws.transitive x z y f g);
      between = subst (λ w. IsBetween join (join_all join x (take k ys)) new w) (sym (join_all-take_more join x ys k y lt is))
          (subst (λ w. IsBetween join w new (join w y)) e between);
    },
  )

-- what is refused for another reason than its shape has the shape
pub not_false-true : (b : Bool) → (b ≡ false → ⊥) → b ≡ true
not_false-true true h = refl
not_false-true false h = absurd (h refl)
