-- The laws of ordered sets: what each operation contains, that sets with the same items are equal, and that union is a join.
use Rattle.std.proofs.Common.{◌≡◌, Bool, true, false, cond, ◌||◌, List, [], ◌∷◌, ◌++◌, map, length, Option, Some, None, refl, ap, sym}
use Rattle.std.proofs.Common.{subst, ◌∙◌, arith}
use Rattle.std.specs.Prelude.{is_some}
use Rattle.std.specs.declared.cmp.Ordering.{Ordering}
use Rattle.std.specs.declared.cmp.Ordering.TheVariants.{Less}
use Rattle.std.specs.Ordering.{eq_by_cmp}
use Rattle.std.specs.Cmp.{IsTotalOrder}
use Rattle.std.specs.List.{list_any, AllByRecursion}
use Rattle.std.specs.List.Sorted.{IsStrictlySortedBy}
use Rattle.std.specs.FinMap as fin
use Rattle.std.specs.FinMap.{IsAntisymmetric}
use Rattle.std.specs.FinMap.Entries.{put}
use Rattle.jls_values.specs.OrderedSet.{OrderedSet, contains, insert, items, insert_all, from_list, union, empty}

-- laws of `||`
or_turn : (a b c : Bool) → ((a || b) || c) ≡ (b || (a || c))
or_turn true true c = refl
or_turn true false c = refl
or_turn false b c = refl

-- `false` is neutral for `||`
pub or_false : (b : Bool) → (b || false) ≡ b
or_false true = refl
or_false false = refl

-- `||` is commutative
pub or_comm : (a b : Bool) → (a || b) ≡ (b || a)
or_comm true true = refl
or_comm true false = refl
or_comm false true = refl
or_comm false false = refl

-- `||` is associative
pub or_assoc : (a b c : Bool) → ((a || b) || c) ≡ (a || (b || c))
or_assoc true b c = refl
or_assoc false b c = refl

-- `||` is idempotent
pub or_itself : (a : Bool) → (a || a) ≡ a
or_itself true = refl
or_itself false = refl

-- an entry is there where it was just put or was before
some_or : (b : Bool) (x : Option (Unit {0})) → is_some (cond b (Some tt) x) ≡ (b || is_some x)
some_or true x = refl
some_or false x = refl

-- nothing is determined by an entry but that it is there
marks : (x y : Option (Unit {0})) → is_some x ≡ is_some y → x ≡ y
marks None None e = refl
marks None (Some v) e = absurd cc
marks (Some u) None e = absurd cc
marks (Some u) (Some v) e = refl

-- the items are what the set contains
pub contains-items : {K : Type 0} {R : K → K → Ordering} (s : OrderedSet R) (q : K) → contains s q ≡ list_any (eq_by_cmp R q) (items s)
contains-items s q = fin.contains_key-keys s q

-- the empty set contains nothing
pub contains-empty : {K : Type 0} (R : K → K → Ordering) (q : K) → contains {R = R} empty q ≡ false
contains-empty R q = ap is_some (fin.get-empty R q)

module _ {K : Type 0} {R : K → K → Ordering} (o : IsTotalOrder R) where
  -- what is contained after an insertion
  pub contains-insert : (s : OrderedSet R) (k q : K) → contains (insert s k) q ≡ (eq_by_cmp R q k || contains s q)
  contains-insert s k q = ap is_some (fin.get-insert o s k tt q) ∙ some_or _ _

  -- what is contained after the insertion of a list
  pub contains-insert_all : (s : OrderedSet R) (ks : List K) (q : K) → contains (insert_all s ks) q
      ≡ (contains s q || list_any (eq_by_cmp R q) ks)
  contains-insert_all s [] q = sym (or_false (contains s q))
  contains-insert_all s (k ∷ ks) q = contains-insert_all (insert s k) ks q
      ∙ ap (λ b. b || list_any (eq_by_cmp R q) ks) (contains-insert s k q)
      ∙ or_turn (eq_by_cmp R q k) (contains s q) (list_any (eq_by_cmp R q) ks)

  -- what the set of a list contains
  pub contains-from_list : (ks : List K) (q : K) → contains (from_list {R = R} ks) q ≡ list_any (eq_by_cmp R q) ks
  contains-from_list [] q = contains-empty R q
  contains-from_list (k ∷ ks) q = contains-insert (from_list ks) k q ∙ ap (λ b. eq_by_cmp R q k || b) (contains-from_list ks q)

  -- what a union contains
  pub contains-union : (s t : OrderedSet R) (q : K) → contains (union s t) q ≡ (contains s q || contains t q)
  contains-union s t q = contains-insert_all s (items t) q ∙ ap (λ b. contains s q || b) (sym (contains-items t q))

  -- sets that contain the same are equal
  pub same_set : IsAntisymmetric R → (s t : OrderedSet R) → ((q : K) → contains s q ≡ contains t q) → s ≡ t
  same_set exact s t h = fin.same_map o exact s t (λ q. marks _ _ (h q))

  -- what is below all keys comes first
  put_first : (k : K) (es : List (K × Unit {0})) → AllByRecursion (λ y. R k y ≡ Less) (map (λ e. e.0) es) → put R k tt es ≡ (k, tt) ∷ es
  put_first k [] h = refl
  put_first k (e ∷ es) h = rw h.0 refl

  -- no entries, no keys
  no_entries : (es : List (K × Unit {0})) → length es ≡ 0 → map (λ e. e.0) es ≡ []
  no_entries [] e = refl
  no_entries (k ∷ ks) e = absurd (omega arith)

  -- the set of a list in order has that list as its items
  pub items-from_list : (ks : List K) → IsStrictlySortedBy R ks → items (from_list {R = R} ks) ≡ ks
  unfolding IsStrictlySortedBy
  items-from_list [] h = no_entries (fin.entries (fin.empty {R = R}))
      (sym (fin.len-entries (fin.empty {R = R})) ∙ fin.len-empty R (Unit {0}))
  items-from_list (k ∷ ks) h =
      let rest = items-from_list ks h.1 in
      ap (map (λ e. e.0)) (fin.entries-insert o (from_list ks) k tt
      ∙ put_first k (fin.entries (from_list {R = R} ks)) (subst (AllByRecursion (λ y. R k y ≡ Less)) (sym rest) h.0))
      ∙ ap (λ (t : List K). k ∷ t) rest

  -- a fact of the items of both lists
  all-append : (P : K → Type 0) (xs ys : List K) → AllByRecursion P xs → AllByRecursion P ys → AllByRecursion P (xs ++ ys)
  all-append P [] ys p q = q
  all-append P (x ∷ xs) ys p q = (p.0, all-append P xs ys p.1 q)

  -- two lists in order, of which the first is below the second, are one list in order
  pub sorted-append : (xs ys : List K) → IsStrictlySortedBy R xs → IsStrictlySortedBy R ys
      → AllByRecursion (λ x. AllByRecursion (λ y. R x y ≡ Less) ys) xs → IsStrictlySortedBy R (xs ++ ys)
  unfolding IsStrictlySortedBy
  sorted-append [] ys h k a = k
  sorted-append (x ∷ xs) ys h k a = (all-append (λ y. R x y ≡ Less) xs ys h.0 a.0, sorted-append xs ys h.1 k a.1)

  -- union is a join
  module _ (exact : IsAntisymmetric R) where
    pub union-idempotent : (s : OrderedSet R) → union s s ≡ s
    union-idempotent s = same_set exact _ _ (λ q. contains-union s s q ∙ or_itself (contains s q))

    pub union-commutative : (s t : OrderedSet R) → union s t ≡ union t s
    union-commutative s t = same_set exact _ _
        (λ q. contains-union s t q ∙ or_comm (contains s q) (contains t q) ∙ sym (contains-union t s q))

    pub union-associative : (s t u : OrderedSet R) → union (union s t) u ≡ union s (union t u)
    union-associative s t u = same_set exact _ _
        (λ q. contains-union (union s t) u q ∙ ap (λ b. b || contains u q) (contains-union s t q)
        ∙ or_assoc (contains s q) (contains t q) (contains u q) ∙ ap (λ b. contains s q || b) (sym (contains-union t u q))
        ∙ sym (contains-union s (union t u) q))

-- to insert two lists is to insert one after the other
pub insert_all-append : {K : Type 0} {R : K → K → Ordering} (s : OrderedSet R) (xs ys : List K) → insert_all s (xs ++ ys)
    ≡ insert_all (insert_all s xs) ys
insert_all-append s [] ys = refl
insert_all-append s (x ∷ xs) ys = insert_all-append (insert s x) xs ys
