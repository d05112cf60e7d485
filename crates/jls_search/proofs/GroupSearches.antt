-- A search by groups, one try more, one copy more outside of a group and one group more.
use Rattle.std.proofs.Common.{◌≡◌, ℕ, zero, suc, ◌+◌, ◌-◌, ◌^◌, ◌<◌, ◌≤◌, ◌⊎◌, ◌||◌, Bool, true, false, List, [], ◌∷◌, ◌++◌, length, map}
use Rattle.std.proofs.Common.{min, take}
use Rattle.std.proofs.Common.{get_or, refl, sym, ap, ◌∙◌, subst, arith, inl, inr, length-append, append_assoc, Some, None}
use Rattle.std.specs.Prelude.{slice_get}
use Rattle.std.specs.List.{AllByRecursion, Contains, flat_map, list_any}
use Rattle.std.specs.List.Sorted.{IsPermutation}
use Rattle.std.proofs.lemmas.Grind.{flat_map-append}
use Rattle.std.proofs.lemmas.List.{append-nil, map-append, take_more}
use Rattle.std.proofs.lemmas.List.Elements.{Contains-append_left}
use Rattle.std.proofs.lemmas.List.Folds.{list_any-append}
use Rattle.std.proofs.lemmas.List.Sorted.{IsPermutation-append_left, IsPermutation-refl, IsPermutation-trans}
use Rattle.std.proofs.lemmas.List.Sums.{sum_by_push}
use Rattle.jls_diff.specs.Parts.{Part}
use Rattle.jls_diff.specs.declared.group.Group.{Group}
use Rattle.jls_search.specs.GroupTries.{SettingSearched, GroupSearched, tries_in, given_in, is_cut_in, IsSettingSearched, IsGroupSearched}
use Rattle.jls_search.specs.GroupTries.{AreGroupsSearched, GoesThrough, GoesThroughCopies}
use Rattle.jls_search.specs.Goals.{IsSettledFor, IsSoughtFor}
use Rattle.jls_search.specs.declared.setting.Goal.TheVariants.{Group as ForGroup}
use Rattle.jls_search.specs.declared.setting.Setting.{Setting}
use Rattle.jls_search.specs.declared.whole_search.Searched.{Searched}
use Rattle.jls_search.specs.Search.{lists_of}
use Rattle.jls_values.proofs.Lists.{all_more}
use Rattle.jls_values.specs.OrderedSetLaws.{or_false, or_comm}
use Rattle.jls_search.proofs.FoundChoices.{Added}
use Rattle.jls_search.proofs.FoundMore.{count_of}
use Rattle.jls_search.proofs.Paths.{order}

or_after : (a b c : Bool) → (a || (b || c)) ≡ ((b || a) || c)
or_after true true c = refl
or_after true false c = refl
or_after false true c = refl
or_after false false c = refl

module _ {X : Type 0} where
  any_push : (p : X → Bool) (xs : List X) (x : X) → list_any p (xs ++ x ∷ []) ≡ (list_any p xs || p x)
  any_push p xs x = list_any-append p xs (x ∷ []) ∙ ap (λ (b : Bool). list_any p xs || b) (or_false (p x))

  flat_push : (f : X → List (List ℕ)) (xs : List X) (x : X) → flat_map f (xs ++ x ∷ []) ≡ flat_map f xs ++ f x
  flat_push f xs x = flat_map-append f xs (x ∷ []) ∙ ap (λ z. flat_map f xs ++ z) (append-nil (f x))

  -- what holds of each and its number, with one more
  numbered_push : (P : ℕ → X → Type 0) (xs : List X) (x : X) → ((i : ℕ) (y : X) → slice_get xs i ≡ Some y → P i y) → P (length xs) x
      → (i : ℕ) (y : X) → slice_get (xs ++ x ∷ []) i ≡ Some y → P i y
  numbered_push P [] x each last zero y e = (let same : x ≡ y = cc in subst (P 0) same last)
  numbered_push P [] x each last (suc i) y e = absurd cc
  numbered_push P (z ∷ xs) x each last zero y e = each zero y e
  numbered_push P (z ∷ xs) x each last (suc i) y e = numbered_push (λ k. P (suc k)) xs x (λ k w at. each (suc k) w at) last i y e

-- Settings ---------------------------------------------------------------------------------------------------------

-- more tries of the group, and more splices
module _ (most_tries t u : ℕ) (ps : List Part) (m n more : List (List ℕ)) (tried : t ≤ u) (within : u ≤ most_tries) (on : n ≡ m ++ more)
    (few : length n ≤ 4096) where
  setting_later : (group : Group) (copy : ℕ) (s : SettingSearched) → IsSettingSearched most_tries t ps m group copy s
      → IsSettingSearched most_tries u ps n group copy s
  setting_later group copy s is = record {
    few = is.few;
    each = is.each;
    some = is.some;
    cut_off = λ e. elim (is.cut_off e) [
      | inl all ↦ inl (omega (arith, all, tried, within))
      | inr r ↦ elim r [
        | inl full ↦ inr (inl full)
        | inr most ↦ inr (inr (let l = ap length on ∙ length-append m more in omega (arith, most, l, few)))
      ]
    ];
    all = λ e choices reads low. elim (is.all e choices reads low) [
      | inl was ↦ inl (subst (λ xs. Contains xs choices) (sym on) (Contains-append_left m more choices was))
      | inr passed ↦ inr passed
    ];
  }

module _ (most_tries copies : ℕ) (ps : List Part) (m n more : List (List ℕ)) (on : n ≡ m ++ more) (few : length n ≤ 4096) where
  group_later : (g : GroupSearched) → IsGroupSearched most_tries copies ps m g → IsGroupSearched most_tries copies ps n g
  group_later g is = record {
    each_copy = is.each_copy;
    within = is.within;
    each = λ copy s at. setting_later most_tries (tries_in g.settings) (tries_in g.settings) ps m n more (omega arith) is.within on few
        g.group copy s (is.each copy s at);
  }

  groups_later : (gs : List GroupSearched) → AllByRecursion (IsGroupSearched most_tries copies ps m) gs
      → AllByRecursion (IsGroupSearched most_tries copies ps n) gs
  groups_later [] each = tt
  groups_later (g ∷ gs) each = (group_later g each.0, groups_later gs each.1)

-- a setting that was gone through
pub went : (most_tries : ℕ) (ps : List Part) (s : Setting) (before more : Searched) (cut : Bool) → before.tries ≤ more.tries
    → more.tries ≤ most_tries
    → Added ps s (lists_of before.splices.items) (lists_of more.splices.items)
    → length more.splices.items ≤ min (length before.splices.items + 64) 4096 → (cut ≡ false → before.tries < more.tries)
    → (cut ≡ true → (more.tries ≡ most_tries) ⊎ (min (length before.splices.items + 64) 4096 ≤ length more.splices.items))
    → more.is_used_up ≡ (cut || before.is_used_up)
    → (cut ≡ false → (choices : List ℕ) → IsSoughtFor None ps (ForGroup s) choices
    → IsSettledFor ps (ForGroup s) (lists_of more.splices.items) choices)
    → GoesThrough most_tries ps s before more
went most_tries ps s before more cut tried within (added, on, each) few some full used settled = record {
  came_to = record { tries = more.tries - before.tries; splices = added; is_cut_off = cut };
  is = record {
    few = omega (arith, all, old, new, few);
    each = each;
    some = λ e. let l : before.tries < more.tries = some e in omega (arith, l);
    cut_off = λ e. elim (full e) [ inl spent ↦ inl spent | inr most ↦ inr (end most) ];
    all = λ e choices reads low. settled e choices ((((reads.whole.0, reads.outside), reads.whole.1), reads.reads), low);
  };
  tries = omega (arith, tried);
  within = within;
  found = on;
  few = omega (arith, new, few);
  used_up = used;
}
  where
    all : length (lists_of more.splices.items) ≡ length (lists_of before.splices.items) + length added
    all = ap length on ∙ length-append (lists_of before.splices.items) added

    old : length (lists_of before.splices.items) ≡ length before.splices.items
    old = count_of before.splices.items

    new : length (lists_of more.splices.items) ≡ length more.splices.items
    new = count_of more.splices.items

    end : min (length before.splices.items + 64) 4096 ≤ length more.splices.items
        → (length added ≡ 64) ⊎ (length (lists_of more.splices.items) ≡ 4096)
    end most =
        elim (order (length before.splices.items + 64) 4096) [
          | inl small ↦ inl (omega (arith, small, most, few, all, old, new))
          | inr r ↦ elim r [
            | inl same ↦ inl (omega (arith, same, most, few, all, old, new))
            | inr large ↦ inr (omega (arith, large, most, few, new))
          ]
        ]

-- Copies -----------------------------------------------------------------------------------------------------------

-- no copy yet
pub goes_first : (most_tries : ℕ) (ps : List Part) (group : Group) (s : Searched) → s.tries ≡ 0 → length s.splices.items ≤ 4096
    → GoesThroughCopies most_tries 0 ps group s s
goes_first most_tries ps group s untried few = record {
  settings = [];
  is = record { each_copy = refl; within = omega arith; each = λ copy t at. absurd cc };
  tries = untried;
  found = sym (append-nil (lists_of s.splices.items));
  few = (let a = count_of s.splices.items in omega (arith, a, few));
  used_up = refl;
}

-- one copy more
pub goes_more : (most_tries copies : ℕ) (ps : List Part) (group : Group) (before mid more : Searched)
    → GoesThroughCopies most_tries copies ps group before mid
    → GoesThrough most_tries ps (record { group = group; copy = copies }) mid more
    → GoesThroughCopies most_tries (copies + 1) ps group before more
goes_more most_tries copies ps group before mid more h g =
    let ss : List SettingSearched = h.settings in
    let s : SettingSearched = g.came_to in
    let sum : tries_in (ss ++ s ∷ []) ≡ tries_in ss + s.tries = sum_by_push (λ (x : SettingSearched). x.tries) ss s in
    let tries : more.tries ≡ tries_in (ss ++ s ∷ []) = (let b = h.tries in let e = g.tries in omega (arith, sum, b, e)) in
    let within : tries_in (ss ++ s ∷ []) ≤ most_tries = (let w = g.within in omega (arith, tries, w)) in
    let rose : tries_in ss ≤ tries_in (ss ++ s ∷ []) = omega (arith, sum) in
    record {
      settings = ss ++ s ∷ [];
      is = record {
        each_copy = (let a = length-append ss (s ∷ []) in let b = h.is.each_copy in omega (arith, a, b));
        within = within;
        each =
            numbered_push (IsSettingSearched most_tries (tries_in (ss ++ s ∷ [])) ps (lists_of more.splices.items) group) ss s
            (λ copy t at. setting_later most_tries (tries_in ss) (tries_in (ss ++ s ∷ [])) ps (lists_of mid.splices.items)
            (lists_of more.splices.items)
            s.splices rose within g.found g.few group copy t (h.is.each copy t at))
            (subst (λ n. IsSettingSearched most_tries (tries_in (ss ++ s ∷ [])) ps (lists_of more.splices.items) group n s)
            (sym h.is.each_copy)
            (subst (λ t. IsSettingSearched most_tries t ps (lists_of more.splices.items) group copies s) tries g.is));
      };
      tries = tries;
      found =
          g.found ∙ ap (λ z. z ++ s.splices) h.found ∙ append_assoc (lists_of before.splices.items) (given_in ss) s.splices
          ∙ ap (λ z. lists_of before.splices.items ++ z) (sym (flat_push (λ (x : SettingSearched). x.splices) ss s));
      few = g.few;
      used_up =
          g.used_up ∙ ap (λ (b : Bool). s.is_cut_off || b) h.used_up ∙ or_after s.is_cut_off (is_cut_in ss) before.is_used_up
          ∙ ap (λ (b : Bool). b || before.is_used_up) (sym (any_push (λ (x : SettingSearched). x.is_cut_off) ss s));
    }

-- Groups -----------------------------------------------------------------------------------------------------------

-- no group yet
pub none_searched : (most_tries copies : ℕ) (ps : List Part) (groups : List Group)
    → AreGroupsSearched most_tries copies ps (take 0 groups) 0 [] false
none_searched most_tries copies ps groups = record {
  searched = [];
  in_some_order = IsPermutation-refl [];
  each = tt;
  tries_are = refl;
  found_are = refl;
  few = omega arith;
  used_up = refl;
}

-- the same groups in another order
pub reordered : (most_tries copies : ℕ) (ps : List Part) (groups ordered : List Group) (tries : ℕ) (found : List (List ℕ)) (used : Bool)
    → IsPermutation groups ordered → AreGroupsSearched most_tries copies ps ordered tries found used
    → AreGroupsSearched most_tries copies ps groups tries found used
reordered most_tries copies ps groups ordered tries found used same h = record {
  searched = h.searched;
  in_some_order = IsPermutation-trans groups ordered (map (λ (x : GroupSearched). x.group) h.searched) same h.in_some_order;
  each = h.each;
  tries_are = h.tries_are;
  found_are = h.found_are;
  few = h.few;
  used_up = h.used_up;
}

-- one group more
pub one_more_group : (most_tries copies : ℕ) (ps : List Part) (groups : List Group) (i : ℕ) (d : Group) (tries sum : ℕ)
    (begun more : Searched) → i < length groups
    → AreGroupsSearched most_tries copies ps (take i groups) tries (lists_of begun.splices.items) begun.is_used_up
    → GoesThroughCopies most_tries copies ps (get_or groups i d) begun more → sum ≡ min (tries + more.tries) (2 ^ 32 - 1)
    → AreGroupsSearched most_tries copies ps (take (i + 1) groups) sum (lists_of more.splices.items) more.is_used_up
one_more_group most_tries copies ps groups i d tries sum begun more within h g sum_is =
    let gs : List GroupSearched = h.searched in
    let group : Group = get_or groups i d in
    let one : GroupSearched = record { group = group; settings = g.settings } in
    let a = sum_by_push (λ (x : GroupSearched). tries_in x.settings) gs one in
    let b = h.tries_are in
    let e = g.tries in
    record {
      searched = gs ++ one ∷ [];
      in_some_order =
          subst (λ xs. IsPermutation xs (map (λ (x : GroupSearched). x.group) (gs ++ one ∷ []))) (sym (take_more groups i d within))
          (subst (IsPermutation (take i groups ++ group ∷ [])) (sym (map-append (λ (x : GroupSearched). x.group) gs (one ∷ [])))
          (IsPermutation-append_left (group ∷ []) (take i groups) (map (λ (x : GroupSearched). x.group) gs) h.in_some_order));
      each =
          all_more (IsGroupSearched most_tries copies ps (lists_of more.splices.items)) gs one
          (groups_later most_tries copies ps (lists_of begun.splices.items) (lists_of more.splices.items) (given_in g.settings) g.found
          g.few gs h.each)
          g.is;
      tries_are = omega (arith, a, b, e, sum_is);
      found_are =
          g.found ∙ ap (λ z. z ++ given_in g.settings) h.found_are ∙ sym (flat_push (λ (x : GroupSearched). given_in x.settings) gs one);
      few = g.few;
      used_up =
          g.used_up ∙ ap (λ (b : Bool). is_cut_in g.settings || b) h.used_up
          ∙ or_comm (is_cut_in g.settings) (list_any (λ (x : GroupSearched). is_cut_in x.settings) gs)
          ∙ sym (any_push (λ (x : GroupSearched). is_cut_in x.settings) gs one);
    }
