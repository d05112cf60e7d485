-- The splices of both searches, in one list.
use Rattle.std.proofs.Common.{◌≡◌, ℕ, Bool, true, false, List, [], ◌∷◌, Option, ◌++◌, length, take, drop, Vec, Global, Some, None}
use Rattle.std.proofs.Common.{refl, sym, ap, ◌∙◌, subst, arith, inl, inr, ◌⊎◌}
use Rattle.std.specs.List.{AllByRecursion}
use Rattle.std.proofs.lemmas.List.{append-nil, map-append, take-append-drop}
use Rattle.std.proofs.Math.Seq.{take-append_seam, drop-append_seam, take-length}
use Rattle.jls_diff.specs.Parts.{Part, AreParts}
use Rattle.jls_search.specs.Choices.{IsWhole}
use Rattle.jls_search.specs.Faultless.{IsSought}
use Rattle.jls_search.specs.Search.{CameTo, MakeFiles, lists_of, files_of}
use Rattle.jls_search.proofs.Paths.{length-map}
use Rattle.jls_diff.specs.Groups.{CoverParts, IsGroup}
use Rattle.jls_diff.specs.declared.group.Group.{Group}
use Rattle.jls_search.specs.OfGroups.{IsOfGroup, IsOnce}
use Rattle.jls_search.specs.GroupTries.{AreGroupsSearched}
use Rattle.jls_search.specs.Found.{IsFound, IsGroupSearch, by_groups_of}
use Rattle.jls_search.specs.declared.found.GroupsReported.{GroupsReported}

abbrev items_of : Vec ℕ Global → List ℕ
items_of v = v.items

pub count_of : (vs : List (Vec ℕ Global)) → length (lists_of vs) ≡ length vs
count_of vs = length-map items_of vs

lists_append : (vs more : List (Vec ℕ Global)) → lists_of (vs ++ more) ≡ lists_of vs ++ lists_of more
lists_append vs more = map-append items_of vs more

module _ (vs more : List (Vec ℕ Global)) (n : ℕ) (at : n ≡ length vs) where
  pub prefix_is : take n (lists_of (vs ++ more)) ≡ lists_of vs
  prefix_is =
      ap (λ (k : ℕ). take k (lists_of (vs ++ more))) (at ∙ sym (count_of vs)) ∙ ap (take (length (lists_of vs))) (lists_append vs more)
      ∙ take-append_seam (lists_of vs) (lists_of more)

  back_is : drop n (lists_of (vs ++ more)) ≡ lists_of more
  back_is =
      ap (λ (k : ℕ). drop k (lists_of (vs ++ more))) (at ∙ sym (count_of vs)) ∙ ap (drop (length (lists_of vs))) (lists_append vs more)
      ∙ drop-append_seam (lists_of vs) (lists_of more)

  -- a search by groups that found those after them
  pub group_search : (most_tries copies : ℕ) (ps : List Part) (gs : List Group) (reported : GroupsReported) → AllByRecursion (IsGroup ps) gs
      → CoverParts ps gs
      → reported.groups ≡ length gs → IsOnce (lists_of more)
      → AreGroupsSearched most_tries copies ps gs reported.tries (lists_of more) reported.is_used_up
      → IsGroupSearch most_tries copies ps (by_groups_of (drop n (lists_of (vs ++ more))) reported)
  group_search most_tries copies ps gs reported groups cover count once searched = record {
    groups = gs;
    are_groups = groups;
    cover = cover;
    count_is = count;
    once = subst IsOnce (sym back_is) once;
    searched = subst (λ found. AreGroupsSearched most_tries copies ps gs reported.tries found reported.is_used_up) (sym back_is) searched;
  }

pub all_is : (vs : List (Vec ℕ Global)) (n : ℕ) → n ≡ length vs → take n (lists_of vs) ≡ lists_of vs
all_is vs n at = ap (λ (k : ℕ). take k (lists_of vs)) (at ∙ sym (count_of vs)) ∙ take-length (lists_of vs)

empty_is : (vs : List (Vec ℕ Global)) → length vs ≡ 0 → lists_of vs ≡ []
empty_is [] e = refl
empty_is (v ∷ vs) e = absurd (omega (arith, e))

none_is : (vs : List (Vec ℕ Global)) → lists_of vs ≡ [] → length vs ≡ 0
none_is [] e = refl
none_is (v ∷ vs) e = absurd cc

module _ (ceiling : Option ℕ) (copies : List (List ℕ)) (ps : List Part) (vs : List (Vec ℕ Global)) (n : ℕ) (used : Bool)
    (are : AreParts copies ps)
    (came : CameTo (IsSought ceiling) ps (lists_of vs) used) (at : n ≡ length vs) where
  pub found_whole : used ≡ false → (n ≡ 0 → ⊥)
      → IsFound ceiling copies (record { parts = ps; choices = take n (lists_of vs); is_used_up = used; by_groups = None })
  found_whole done some = record {
    are_parts = are;
    came_to = subst (λ (cs : List (List ℕ)). CameTo (IsSought ceiling) ps cs used) (sym (all_is vs n at)) came;
    searched = (
      λ is. absurd cc,
      λ e. elim e [ inl u ↦ absurd cc | inr none ↦ absurd (some (at ∙ none_is vs (sym (all_is vs n at) ∙ none))) ],
    );
    by_groups = tt;
  }

  pub found_groups : (more : List (Vec ℕ Global)) (gs : List Group) (reported : GroupsReported) → (used ≡ false → n ≡ 0)
      → AllByRecursion (IsGroup ps) gs → CoverParts ps gs → reported.groups ≡ length gs → AllByRecursion (IsOfGroup ps) (lists_of more)
      → IsFound ceiling copies (record {
        parts = ps;
        choices = take n (lists_of (vs ++ more));
        is_used_up = used;
        by_groups = Some (by_groups_of (drop n (lists_of (vs ++ more))) reported);
      })
  found_groups more gs reported where_needed groups cover count each = record {
    are_parts = are;
    came_to = subst (λ (cs : List (List ℕ)). CameTo (IsSought ceiling) ps cs used) (sym (prefix_is vs more n at)) came;
    searched = (λ is. needed used refl, λ e. refl);
    by_groups = record {
      groups = gs;
      are_groups = groups;
      cover = cover;
      count_is = count;
      each = subst (AllByRecursion (IsOfGroup ps)) (sym (back_is vs more n at)) each;
    };
  }
    where
      needed : (was : Bool) → used ≡ was → (used ≡ true) ⊎ (take n (lists_of (vs ++ more)) ≡ [])
      needed true e = inl e
      needed false e = inr (prefix_is vs more n at ∙ empty_is vs (sym at ∙ where_needed e))

-- the files that they make
pub files_whole : (ps : List Part) (vs : List (Vec ℕ Global)) (n : ℕ) → n ≡ length vs
    → files_of ps (lists_of vs) ≡ files_of ps (take n (lists_of vs) ++ [])
files_whole ps vs n at = ap (files_of ps) (sym (append-nil (take n (lists_of vs)) ∙ all_is vs n at))

pub files_groups : (ps : List Part) (cs : List (List ℕ)) (n : ℕ) → files_of ps cs ≡ files_of ps (take n cs ++ drop n cs)
files_groups ps cs n = ap (files_of ps) (sym (take-append-drop n cs))

-- a choice for each part
module _ (ps : List Part) where
  pub whole_of_found : (Sought : List ℕ → Type 0) (found : List (List ℕ)) → MakeFiles Sought ps found → AllByRecursion (IsWhole ps) found
  whole_of_found Sought [] files = tt
  whole_of_found Sought (choices ∷ found) files = (files.0.0, whole_of_found Sought found files.1)

  whole_of_groups : (found : List (List ℕ)) → AllByRecursion (IsOfGroup ps) found → AllByRecursion (IsWhole ps) found
  whole_of_groups [] each = tt
  whole_of_groups (choices ∷ found) each = (each.0.is.whole, whole_of_groups found each.1)

  all_append : (xs ys : List (List ℕ)) → AllByRecursion (IsWhole ps) xs → AllByRecursion (IsWhole ps) ys
      → AllByRecursion (IsWhole ps) (xs ++ ys)
  all_append [] ys h j = j
  all_append (x ∷ xs) ys h j = (h.0, all_append xs ys h.1 j)

  pub whole_of_both : (Sought : List ℕ → Type 0) (vs more : List (Vec ℕ Global)) → MakeFiles Sought ps (lists_of vs)
      → AllByRecursion (IsOfGroup ps) (lists_of more)
      → AllByRecursion (IsWhole ps) (lists_of (vs ++ more))
  whole_of_both Sought vs more files each =
      subst (AllByRecursion (IsWhole ps)) (sym (lists_append vs more))
      (all_append (lists_of vs) (lists_of more) (whole_of_found Sought (lists_of vs) files) (whole_of_groups (lists_of more) each))
