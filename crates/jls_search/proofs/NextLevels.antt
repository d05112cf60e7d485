-- Levels, and the paths that live there.
use Rattle.std.proofs.Common.{◌≡◌, ℕ, zero, suc, ◌+◌, ◌<◌, List, [], ◌∷◌, ◌++◌, length, take, refl, sym, ap, ◌∙◌, subst, arith, inl, inr}
use Rattle.std.proofs.Common.{Option, Some, None, Vec, Global, length-append}
use Rattle.std.specs.Prelude.{get_or, IfNone, IsSome}
use Rattle.std.specs.List.{AllByRecursion, Contains}
use Rattle.std.proofs.lemmas.List.{length-take-le}
use Rattle.jls_diff.specs.Parts.{Part, Same}
use Rattle.jls_search.specs.Choices.{IsFirstWay}
use Rattle.jls_search.specs.Levels.{AreJudged, IsFirstDead, IsLevel, IsLone, IsNextPath, IsOfLevel, IsPathTaken, LivesOrIsDead}
use Rattle.jls_search.specs.Search.{lists_of}
use Rattle.jls_search.proofs.LevelPaths.{also_next, dead_on, each_taken, first_choices, judged_more, judged_taken, one_length, still_lives}
use Rattle.jls_search.proofs.Lists.{all_at as all_from}
use Rattle.jls_values.proofs.Lists.{first_or_rest, none_in, all_at, all_weaker}
use Rattle.jls_search.proofs.Members.{all_one_more}
use Rattle.jls_search.proofs.Paths.{order}

-- where nothing is there, what follows
pub none_then : {X : Type 0} {P Q : Type 0} (o : Option X) → IfNone o P → (P → Q) → IfNone o Q
none_then None h f = f h
none_then (Some x) h f = h

pub some_not_none : {X : Type 0} (P : Type 0) (o : Option X) → IsSome o → IfNone o P
some_not_none P None is = absurd cc
some_not_none P (Some x) is = tt

-- what holds of each that the code holds
pub of_lists_at : (P : List ℕ → Type 0) (vs : List (Vec ℕ Global)) (i : ℕ) (v d : Vec ℕ Global) → AllByRecursion P (lists_of vs) → i
    < length vs
    → v ≡ get_or vs i d → P v.items
of_lists_at P [] i v d h l e = absurd (omega (arith, l))
of_lists_at P (w ∷ vs) zero v d h l e = subst (λ (x : Vec ℕ Global). P x.items) (sym e) h.0
of_lists_at P (w ∷ vs) (suc i) v d h l e = of_lists_at P vs i v d h.1 (omega (arith, l)) e

pub of_lists : (P : List ℕ → Type 0) (vs : List (Vec ℕ Global)) → AllByRecursion (λ (v : Vec ℕ Global). P v.items) vs
    → AllByRecursion P (lists_of vs)
of_lists P [] h = tt
of_lists P (v ∷ vs) h = (h.0, of_lists P vs h.1)

-- Items of a level ------------------------------------------------------------------------------------------------

-- each path that the code goes through is of the level
module _ (vs xs : List (Vec ℕ Global)) (i : ℕ) (v : Vec ℕ Global) (path : List ℕ) (are : xs ≡ vs) (within : i < length xs)
    (item : v ≡ get_or xs i v)
    (items : path ≡ v.items) where
  in_vs : i < length vs
  in_vs = subst (λ (ws : List (Vec ℕ Global)). i < length ws) are within

  item_of_vs : v ≡ get_or vs i v
  item_of_vs = subst (λ (ws : List (Vec ℕ Global)). v ≡ get_or ws i v) are item

  pub item_of_level : (ps : List Part) (count : ℕ) → AllByRecursion (IsOfLevel ps count) (lists_of vs) → IsOfLevel ps count path
  item_of_level ps count each = subst (IsOfLevel ps count) (sym items) (of_lists_at (IsOfLevel ps count) vs i v v each in_vs item_of_vs)

  -- and one more of them was judged
  pub judged_one_more : (Sought : List ℕ → Type 0) (ps : List Part) (from : ℕ) (old new : List (List ℕ))
      → ((other : List ℕ) → Contains old other → Contains new other)
      → AllByRecursion (λ (w : Vec ℕ Global). AreJudged Sought ps from old w.items) (take i vs) → AreJudged Sought ps from new path
      → AllByRecursion (λ (w : Vec ℕ Global). AreJudged Sought ps from new w.items) (take (i + 1) vs)
  judged_one_more Sought ps from old new still so_far judged =
      all_one_more (λ (w : Vec ℕ Global). AreJudged Sought ps from new w.items) vs i v
      (all_weaker (λ (w : Vec ℕ Global). AreJudged Sought ps from old w.items) (λ (w : Vec ℕ Global). AreJudged Sought ps from new w.items)
      (take i vs)
      (λ w h. judged_more Sought ps from w.items old new still h) so_far)
      in_vs
      (subst (λ (w : Vec ℕ Global). AreJudged Sought ps from new w.items) item_of_vs (subst (AreJudged Sought ps from new) items judged))

-- Ways -------------------------------------------------------------------------------------------------------------

-- a path was taken that begins with these choices and one more
module _ (Sought : List ℕ → Type 0) (ps : List Part) (path : List ℕ) (choice : ℕ) (begin : List ℕ) (is : begin ≡ path ++ choice ∷ [])
    (old new : List (List ℕ)) (taken : IsPathTaken Sought ps begin old new) where
  longer : length begin ≡ length path + 1
  longer = ap length is ∙ length-append path (choice ∷ [])

  pub each_way : AllByRecursion (IsNextPath ps (length path + 1)) old → AllByRecursion (IsNextPath ps (length path + 1)) new
  each_way each =
      subst (λ n. AllByRecursion (IsNextPath ps n) new) longer
      (each_taken Sought ps begin old new taken (subst (λ n. AllByRecursion (IsNextPath ps n) old) (sym longer) each))

  here : AreJudged Sought ps (length path + 1) new (path ++ choice ∷ [])
  here =
      subst (λ n. AreJudged Sought ps n new (path ++ choice ∷ [])) longer
      (subst (AreJudged Sought ps (length begin) new) is (judged_taken Sought ps begin old new taken))

  -- ways before it were taken too
  pub ways_up_to : ((c : ℕ) → c < choice → IsFirstWay (get_or ps (length path) (Same [])) c
      → AreJudged Sought ps (length path + 1) old (path ++ c ∷ []))
      → (c : ℕ) → IsFirstWay (get_or ps (length path) (Same [])) c → (choice < c → ⊥)
      → AreJudged Sought ps (length path + 1) new (path ++ c ∷ [])
  ways_up_to before c first not =
      elim (order c choice) [
        | inl less ↦ judged_more Sought ps (length path + 1) (path ++ c ∷ []) old new (still_lives Sought ps begin old new taken)
            (before c less first)
        | inr r ↦ elim r [
          | inl e ↦ subst (λ k. AreJudged Sought ps (length path + 1) new (path ++ k ∷ [])) (sym e) here
          | inr more ↦ absurd (not more)
        ]
      ]

-- Levels -----------------------------------------------------------------------------------------------------------

module _ (Sought : List ℕ → Type 0) (ps : List Part) where
  -- paths that go on from so many choices, where each other such path is dead
  level_is : (from count : ℕ) (living : List (List ℕ)) → AllByRecursion (IsNextPath ps from) living → 0 < length living
      → count ≡ length (get_or living 0 []) → ((path : List ℕ) → IsNextPath ps from path → LivesOrIsDead Sought ps living path)
      → IsLevel Sought ps count living
  level_is from count living each some count_is all =
      let first = all_from (IsNextPath ps from) living [] 0 some each in record {
        each = all_weaker (IsNextPath ps from) (IsOfLevel ps count) living
            (λ path next. (next.is_path, next.prefix, one_length ps from path (get_or living 0 []) next first ∙ sym count_is)) each;
        others = λ path is len. all path (also_next ps from (get_or living 0 []) path first is (len ∙ count_is));
      }

  -- the first level
  pub first_level_is : (count : ℕ) (living : List (List ℕ)) → IsPathTaken Sought ps [] [] living → 0 < length living
      → count ≡ length (get_or living 0 []) → IsLevel Sought ps count living
  first_level_is count living taken some count_is =
      level_is 0 count living (each_taken Sought ps [] [] living taken tt) some count_is
      (λ path next. judged_taken Sought ps [] [] living taken path next refl)

  -- it has one path, or that is dead
  pub first_is_one : (living : List (List ℕ)) → IsPathTaken Sought ps [] [] living → 0 < length living → length living ≡ 1
  first_is_one living taken some =
      elim taken.added [ inl e ↦ ap length e | inr r ↦ absurd (let none = ap length r.0 in omega (arith, none, some)) ]

  pub first_is_dead : (living : List (List ℕ)) → IsPathTaken Sought ps [] [] living → length living ≡ 0 → IsFirstDead Sought ps
  first_is_dead living taken none =
      elim taken.added [
        | inl e ↦ absurd (let one = ap length e in omega (arith, none, one))
        | inr r ↦ (taken.path, taken.is_next, r.1)
      ]

  -- the level after one, each of whose paths was gone on from
  pub next_level_is : (count : ℕ) (old : List (List ℕ)) (next_count : ℕ) (living : List (List ℕ)) → IsLevel Sought ps count old
      → AllByRecursion (AreJudged Sought ps (count + 1) living) old → AllByRecursion (IsNextPath ps (count + 1)) living → 0 < length living
      → next_count ≡ length (get_or living 0 []) → IsLevel Sought ps next_count living
  next_level_is count old next_count living level judged each some count_is =
      level_is (count + 1) next_count living each some count_is by
    where
      by : (path : List ℕ) → IsNextPath ps (count + 1) path → LivesOrIsDead Sought ps living path
      by path next =
          let least = next.from_on in
          let l : length (take count path) ≡ count = length-take-le count path (omega (arith, least)) in
          elim (level.others (take count path) (first_choices ps path count next.is_path) l) [
            | inl lives ↦ all_at (AreJudged Sought ps (count + 1) living) old (take count path) judged lives path next
                (ap (λ k. take k path) l)
            | inr dead ↦ inr (dead_on Sought ps path count next.is_path dead)
          ]

  -- a level where one path lives
  lone_is : (count : ℕ) (path : List ℕ) → IsLevel Sought ps count (path ∷ []) → IsLone Sought ps path
  lone_is count path level = record {
    is_path = level.each.0.0;
    prefix = level.each.0.1;
    others = λ other is len not. elim (level.others other is (len ∙ level.each.0.2)) [
      | inl lives ↦ elim (first_or_rest other path [] lives) [ inl e ↦ absurd (not (sym e)) | inr rest ↦ absurd (none_in other rest) ]
      | inr dead ↦ dead
    ];
  }

  pub lone_of_one : (count : ℕ) (vs : List (Vec ℕ Global)) (v : Vec ℕ Global) → IsLevel Sought ps count (lists_of vs) → length vs ≡ 1
      → v ≡ get_or vs 0 v → IsLone Sought ps v.items
  lone_of_one count [] v level one e = absurd (omega (arith, one))
  lone_of_one count (w ∷ []) v level one e = subst (λ (x : Vec ℕ Global). IsLone Sought ps x.items) (sym e) (lone_is count w.items level)
  lone_of_one count (w ∷ x ∷ vs) v level one e = absurd (omega (arith, one))
