-- What is found, over one part more, and where the parts end.
use Rattle.std.proofs.Common.{◌≡◌, ℕ, zero, suc, ◌+◌, ◌<◌, ◌≤◌, Bool, true, false, List, [], ◌∷◌, ◌++◌, length, Option, Some, None, refl}
use Rattle.std.proofs.Common.{sym, ap, ◌∙◌, subst, arith, ◌⊎◌, inl, inr}
use Rattle.std.specs.Prelude.{get_or, IfSome, if◌then◌else◌}
use Rattle.std.specs.List.{AllByRecursion}
use Rattle.std.proofs.lemmas.List.Elements.{Contains-append_left, Contains-append_right}
use Rattle.jls_diff.specs.Parts.{Part, Same, Differ}
use Rattle.jls_diff.specs.Borders.{IsBorder, IsBorderOf}
use Rattle.jls_diff.specs.Parts.{Differs}
use Rattle.jls_diff.specs.Groups.{IsGroup, IsInSome, CoverParts, closed_groups, IsClosed, AreGroupsFound}
use Rattle.jls_diff.specs.declared.border.Border.{Border}
use Rattle.jls_diff.specs.declared.group.Group.{Group}
use Rattle.jls_diff.specs.declared.grouping.Found.{Found}

-- of the numbers below one more
last_or_before : (a n : ℕ) → a < n + 1 → (a < n) ⊎ (a ≡ n)
last_or_before zero zero l = inr refl
last_or_before zero (suc n) l = inl (omega arith)
last_or_before (suc a) zero l = absurd (omega (arith, l))
last_or_before (suc a) (suc n) l = elim (last_or_before a n (omega (arith, l))) [ inl h ↦ inl (omega (arith, h)) | inr e ↦ inr (ap suc e) ]

all_more : (P : Group → Type 0) (xs : List Group) (x : Group) → AllByRecursion P xs → P x → AllByRecursion P (xs ++ x ∷ [])
all_more P [] x h p = (p, tt)
all_more P (y ∷ ys) x h p = (h.0, all_more P ys x h.1 p)

all_of : (P Q : Group → Type 0) (xs : List Group) → ((x : Group) → P x → Q x) → AllByRecursion P xs → AllByRecursion Q xs
all_of P Q [] f h = tt
all_of P Q (x ∷ xs) f h = (f x h.0, all_of P Q xs f h.1)

-- The group that is open, as it ends ----------------------------------------------------------------------------------

-- a group that ends at the end of the parts, or at the border of this part, after the one where it begins
abbrev IsEnd : List Part → ℕ → Option Border → Type 0
IsEnd ps count end = IfSome end (λ border. IsBorder ps border × (border.part ≡ count))

end_is_later : (ps : List Part) (count begin : ℕ) (end : Option Border) → begin < count → IsEnd ps count end
    → IfSome end (λ border. IsBorder ps border × (begin < border.part))
end_is_later ps count begin None l h = tt
end_is_later ps count begin (Some border) l h = (h.0, (let e = h.1 in omega (arith, l, e)))

place_is_before : (ps : List Part) (count place : ℕ) (end : Option Border) → place < count → IsEnd ps count end
    → IfSome end (λ border. place < border.part)
place_is_before ps count place None l h = tt
place_is_before ps count place (Some border) l h = let e = h.1 in omega (arith, l, e)

module _ (ps : List Part) (count : ℕ) (found : Found) (end : Option Border) (is : AreGroupsFound ps count found)
    (is_end : IsEnd ps count end)
  where
    abbrev The : Group
    The = record { head = found.head; begin = found.begin; end = end }

    the_group : IsGroup ps The × (The.head ≡ found.head)
    the_group = ((is.begin, is.head, end_is_later ps count found.begin.part end is.following is_end), refl)

    groups_if : (was_open : Bool) → AllByRecursion (λ (group : Group). IsGroup ps group × (group.head ≡ found.head))
        (if was_open then found.groups.items ++ The ∷ [] else found.groups.items)
    groups_if true = all_more (λ (group : Group). IsGroup ps group × (group.head ≡ found.head)) found.groups.items The is.groups the_group
    groups_if false = is.groups

    in_more : (place : ℕ) → IsInSome found.groups.items place → IsInSome (found.groups.items ++ The ∷ []) place
    in_more place (group, among, inside) = (group, Contains-append_left found.groups.items (The ∷ []) group among, inside)

    in_the_group : (place : ℕ) → place < count → found.begin.part < place → IsInSome (found.groups.items ++ The ∷ []) place
    in_the_group place l following = (
      The,
      Contains-append_right found.groups.items (The ∷ []) The (0, omega arith, refl),
      inr (following, place_is_before ps count place end l is_end),
    )

    -- what is covered stands in the head or in one of the groups then
    covered_if : (was_open : Bool) (place : ℕ) → place < count
        → (place < found.head) ⊎ (IsInSome found.groups.items place ⊎ ((was_open ≡ true) × (found.begin.part < place)))
        → (place < found.head) ⊎ IsInSome (if was_open then found.groups.items ++ The ∷ [] else found.groups.items) place
    covered_if true place l (inl h) = inl h
    covered_if true place l (inr (inl h)) = inr (in_more place h)
    covered_if true place l (inr (inr h)) = inr (in_the_group place l h.1)
    covered_if false place l (inl h) = inl h
    covered_if false place l (inr (inl h)) = inr h
    covered_if false place l (inr (inr h)) = let e : false ≡ true = h.0 in absurd cc

    pub closed_groups_are : AllByRecursion (λ (group : Group). IsGroup ps group × (group.head ≡ found.head)) (closed_groups found end)
    closed_groups_are = groups_if found.is_open

    pub closed_groups_cover : (place : ℕ) → place < count → Differs (get_or ps place (Same [])) → (place < found.head)
        ⊎ IsInSome (closed_groups found end) place
    closed_groups_cover place l differs = covered_if found.is_open place l (is.covered place l differs)

-- Steps ------------------------------------------------------------------------------------------------------------

module _ (ps : List Part) (count : ℕ) (found : Found) (is : AreGroupsFound ps count found) where
  -- a part in which copies differ
  pub pass_differ : (after : Found) → after ≡ record found { is_open = true } → AreGroupsFound ps (count + 1) after
  pass_differ after e = subst (AreGroupsFound ps (count + 1)) (sym e) (record {
    begin = is.begin;
    following = (let l = is.following in let g : found.begin.part < count + 1 = omega (arith, l) in g);
    head = is.head;
    groups = is.groups;
    covered = λ place l differs. elim (last_or_before place count l) [
      | inl before ↦ elim (is.covered place before differs) [
        | inl h ↦ inl h
        | inr r ↦ elim r [ inl h ↦ inr (inl h) | inr h ↦ inr (inr (refl, h.1)) ]
      ]
      | inr here ↦ inr (inr (refl, (let l = is.following in omega (arith, l, here))))
    ];
  })

  not_here : (Differs (get_or ps count (Same [])) → ⊥) → (place : ℕ) → place < count + 1 → Differs (get_or ps place (Same [])) → place
      < count
  not_here same place l differs =
      elim (last_or_before place count l) [
        | inl before ↦ before
        | inr here ↦ absurd (same (subst (λ n. Differs (get_or ps n (Same []))) here differs))
      ]

  -- a part that all have alike, without a border
  pub pass_same : (Differs (get_or ps count (Same [])) → ⊥) → AreGroupsFound ps (count + 1) found
  pass_same same = record {
    begin = is.begin;
    following = (let l = is.following in let g : found.begin.part < count + 1 = omega (arith, l) in g);
    head = is.head;
    groups = is.groups;
    covered = λ place l differs. is.covered place (not_here same place l differs) differs;
  }

  -- and with borders
  pub pass_border : (Differs (get_or ps count (Same [])) → ⊥) → (closed after : Found) (end next : Border) → IsBorder ps end
      → IsBorder ps next
      → end.part ≡ count → next.part ≡ count → IsClosed found (Some end) closed → after ≡ record closed { begin = next }
      → AreGroupsFound ps (count + 1) after
  pass_border same closed after end next is_end is_next at_end at_next c e =
      let heads : closed.head ≡ found.head = c.head in
      subst (AreGroupsFound ps (count + 1)) (sym e) (record {
        begin = is_next;
        following = (let g : next.part < count + 1 = omega (arith, at_next) in g);
        head = (let h = is.head in let b = is.following in let g : closed.head ≤ next.part = omega (arith, h, b, at_next, heads) in g);
        groups =
            subst (λ gs. AllByRecursion (λ (group : Group). IsGroup ps group × (group.head ≡ closed.head)) gs) (sym c.groups)
            (subst (λ n. AllByRecursion (λ (group : Group). IsGroup ps group × (group.head ≡ n)) (closed_groups found (Some end)))
            (sym heads)
            (closed_groups_are ps count found (Some end) is (is_end, at_end)));
        covered = λ place l differs.
            elim (closed_groups_cover ps count found (Some end) is (is_end, at_end) place (not_here same place l differs) differs) [
              | inl h ↦ inl (subst (λ n. place < n) (sym heads) h)
              | inr h ↦ inr (inl (subst (λ gs. IsInSome gs place) (sym c.groups) h))
            ];
      })

-- before the first part after the first border
pub found_first : (ps : List Part) (first : Border) (found : Found) → IsBorder ps first → found.head ≡ first.part → found.begin ≡ first
    → found.groups.items ≡ [] → ((place : ℕ) → place < first.part + 1 → Differs (get_or ps place (Same [])) → place < first.part)
    → AreGroupsFound ps (first.part + 1) found
found_first ps first found is head_is begin_is none before = record {
  begin = subst (IsBorder ps) (sym begin_is) is;
  following = (let e : found.begin.part ≡ first.part = ap (λ (b : Border). b.part) begin_is in omega (arith, e));
  head = (let e : found.begin.part ≡ first.part = ap (λ (b : Border). b.part) begin_is in omega (arith, e, head_is));
  groups = subst (AllByRecursion (λ (group : Group). IsGroup ps group × (group.head ≡ found.head))) (sym none) tt;
  covered = λ place l differs. inl (subst (λ n. place < n) (sym head_is) (before place l differs));
}

-- what is found of all parts, however many were gone over
pub found_all : (ps : List Part) (count : ℕ) (found : Found) → length ps ≤ count → AreGroupsFound ps count found
    → AreGroupsFound ps (length ps) found
found_all ps count found l is = record {
  begin = is.begin;
  following = is.begin.0;
  head = is.head;
  groups = is.groups;
  covered = λ place less differs. is.covered place (omega (arith, less, l)) differs;
}

-- a border is in a part that all have alike
pub border_is_same : (ps : List Part) (border : Border) → IsBorder ps border → Differs (get_or ps border.part (Same [])) → ⊥
border_is_same ps border is differs = by (get_or ps border.part (Same [])) is.1 differs
  where
    by : (p : Part) → IsBorderOf p border.at → Differs p → ⊥
    by (Same bytes) h d = d
    by (Differ ways) h d = h

pub is_before : (ps : List Part) (first : Border) → IsBorder ps first → (place : ℕ) → place < first.part + 1
    → Differs (get_or ps place (Same [])) → place < first.part
is_before ps first is place l differs =
    elim (last_or_before place first.part l) [
      | inl before ↦ before
      | inr here ↦ absurd (border_is_same ps first is (subst (λ n. Differs (get_or ps n (Same []))) here differs))
    ]

-- The end ----------------------------------------------------------------------------------------------------------

-- what is in the head is in each group
in_head : (ps : List Part) (head place : ℕ) (groups : List Group)
    → AllByRecursion (λ (group : Group). IsGroup ps group × (group.head ≡ head)) groups
    → 0 < length groups → place < head → IsInSome groups place
in_head ps head place [] h some l = absurd (omega (arith, some))
in_head ps head place (group ∷ groups) h some l = (group, (0, omega arith, refl), inl (subst (λ n. place < n) (sym h.0.1) l))

module _ (ps : List Part) (found after : Found) (is : AreGroupsFound ps (length ps) found) (closed : IsClosed found None after) where
  all_groups : AllByRecursion (λ (group : Group). IsGroup ps group × (group.head ≡ found.head)) after.groups.items
  all_groups = subst (λ gs. AllByRecursion (λ (group : Group). IsGroup ps group × (group.head ≡ found.head)) gs) (sym closed.groups)
      (closed_groups_are ps (length ps) found None is tt)

  pub are_groups : AllByRecursion (IsGroup ps) after.groups.items
  are_groups = all_of (λ (group : Group). IsGroup ps group × (group.head ≡ found.head)) (IsGroup ps) after.groups.items (λ group h. h.0)
      all_groups

  pub groups_cover : CoverParts ps after.groups.items
  groups_cover some place l differs =
      elim (closed_groups_cover ps (length ps) found None is tt place l differs) [
        | inl h ↦ in_head ps found.head place after.groups.items all_groups some h
        | inr h ↦ subst (λ gs. IsInSome gs place) (sym closed.groups) h
      ]

-- Closing ----------------------------------------------------------------------------------------------------------

pub closed_before : (found : Found) (end : Option Border) → found.is_open ≡ false → IsClosed found end found
closed_before found end e = record {
  head = refl;
  begin = refl;
  is_open = e;
  groups = sym (ap (λ (was_open : Bool). if was_open then found.groups.items
      ++ (record { head = found.head; begin = found.begin; end = end }) ∷ [] else found.groups.items) e);
}

pub closed_now : (found after : Found) (end : Option Border) → found.is_open ≡ true → after.head ≡ found.head → after.begin ≡ found.begin
    → after.is_open ≡ false
    → after.groups.items ≡ found.groups.items ++ (record { head = found.head; begin = found.begin; end = end }) ∷ []
    → IsClosed found end after
closed_now found after end e head_is begin_is over added = record {
  head = head_is;
  begin = begin_is;
  is_open = over;
  groups = added
      ∙ sym (ap (λ (was_open : Bool). if was_open then found.groups.items ++ (record { head = found.head; begin = found.begin; end = end })
      ∷ [] else found.groups.items) e);
}
