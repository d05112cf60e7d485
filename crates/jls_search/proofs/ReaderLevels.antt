-- Levels whose living paths have readers, and what a search over them comes to.
use Rattle.std.proofs.Common.{◌≡◌, ℕ, zero, suc, ◌+◌, ◌<◌, List, [], ◌∷◌, ◌++◌, length, take, drop, refl, sym, ap, ◌∙◌, subst}
use Rattle.std.proofs.Common.{arith, ◌⊎◌, inl, inr, length-append, Option, Some}
use Rattle.std.specs.Prelude.{get_or}
use Rattle.std.specs.List.{AllByRecursion, Contains, insert, remove}
use Rattle.std.proofs.lemmas.List.{append-nil, length-take-le, take-append-drop}
use Rattle.std.proofs.lemmas.List.Elements.{Contains-append_cases, Contains-append_left, Contains-append_right}
use Rattle.jls_values.proofs.Lists.{all_append, all_at, all_weaker, in_map, in_rest, is_first, of_map}
use Rattle.jls_diff.specs.Parts.{Part, Same, Differs}
use Rattle.jls_search.specs.Choices.{IsFirstWay, IsPath, prefix_of}
use Rattle.jls_search.specs.Faultless.{IsSought}
use Rattle.jls_search.specs.Levels.{AreJudged, IsNextPath, LivesOrIsDead, NoPartDiffers}
use Rattle.jls_search.specs.LevelSearches.{AreGoneOn, IsFoundOrNot, IsLiving, IsNextStop, IsReadTo, IsTaken, paths_of}
use Rattle.jls_search.specs.Search.{HasEachSplice, files_of}
use Rattle.jls_search.specs.declared.next_level.LivingPath.{LivingPath}
use Rattle.jls_search.specs.Tried.{AreFixed, IsSetFor, IsStop}
use Rattle.jls_search.specs.declared.setting.Goal.TheVariants.{Whole}
use Rattle.jls_search.proofs.LevelPaths.{begins_so, dead_on, first_choices, followed, judged_more, one_next}
use Rattle.jls_search.proofs.Sets.{prefix_of_stop, same_of_fixed}
use Rattle.jls_search.proofs.Members.{all_one_more}
use Rattle.jls_search.proofs.Paths.{order, path_len}
use Rattle.jls_search.proofs.WholeSplices.{has_each_splice}

-- Lists ------------------------------------------------------------------------------------------------------------

module _ {X : Type 0} (P : X → Type 0) where
  all_front : (n : ℕ) (xs : List X) → AllByRecursion P xs → AllByRecursion P (take n xs)
  all_front zero xs h = tt
  all_front (suc n) [] h = tt
  all_front (suc n) (x ∷ xs) h = (h.0, all_front n xs h.1)

  all_back : (n : ℕ) (xs : List X) → AllByRecursion P xs → AllByRecursion P (drop n xs)
  all_back zero xs h = h
  all_back (suc n) [] h = tt
  all_back (suc n) (x ∷ xs) h = all_back n xs h.1

  -- with one more among them, and with one less
  pub all_insert : (xs : List X) (i : ℕ) (x : X) → AllByRecursion P xs → P x → AllByRecursion P (insert xs i x)
  all_insert xs i x h p = all_append P (take i xs) (x ∷ drop i xs) (all_front i xs h) (p, all_back i xs h)

  pub all_remove : (xs : List X) (i : ℕ) → AllByRecursion P xs → AllByRecursion P (remove xs i)
  all_remove xs i h = all_append P (take i xs) (drop (suc i) xs) (all_front i xs h) (all_back (suc i) xs h)

in_insert : {X : Type 0} (xs : List X) (i : ℕ) (x : X) → Contains (insert xs i x) x
in_insert xs i x = Contains-append_right (take i xs) (x ∷ drop i xs) x (is_first x (drop i xs))

still_in : {X : Type 0} (xs : List X) (i : ℕ) (x y : X) → Contains xs y → Contains (insert xs i x) y
still_in xs i x y h =
    elim (Contains-append_cases (take i xs) (drop i xs) y (subst (λ ys. Contains ys y) (sym (take-append-drop i xs)) h)) [
      | inl front ↦ Contains-append_left (take i xs) (x ∷ drop i xs) y front
      | inr back ↦ Contains-append_right (take i xs) (x ∷ drop i xs) y (in_rest y x (drop i xs) back)
    ]

-- Paths among others -----------------------------------------------------------------------------------------------

module _ (old new : List LivingPath) (i : ℕ) (p : LivingPath) (are : new ≡ insert old i p) where
  pub added : Contains (paths_of new) p.kept.choices.items
  added =
      subst (λ (ps : List LivingPath). Contains (paths_of ps) p.kept.choices.items) (sym are)
      (in_map (λ (q : LivingPath). q.kept.choices.items) (insert old i p) p (in_insert old i p))

  pub still_added : (other : List ℕ) → Contains (paths_of old) other → Contains (paths_of new) other
  still_added other h =
      let from = of_map (λ (q : LivingPath). q.kept.choices.items) old other h in
      subst (λ (ps : List LivingPath). Contains (paths_of ps) other) (sym are)
      (subst (Contains (paths_of (insert old i p))) from.2
      (in_map (λ (q : LivingPath). q.kept.choices.items) (insert old i p) from.0 (still_in old i p from.0 from.1)))

-- The stop of a level ----------------------------------------------------------------------------------------------

-- one part more in which copies don't differ
pub none_more : (ps : List Part) (from stop : ℕ) → NoPartDiffers ps from stop → (Differs (get_or ps stop (Same [])) → ⊥)
    → NoPartDiffers ps from (stop + 1)
none_more ps from stop same here place least less differ =
    elim (order place stop) [
      | inl earlier ↦ same place least earlier differ
      | inr r ↦ elim r [
        | inl at ↦ here (subst (λ n. Differs (get_or ps n (Same []))) at differ)
        | inr later ↦ omega (arith, less, later)
      ]
    ]

module _ (ps : List Part) (from stop : ℕ) (s : IsNextStop ps from stop) where
  -- paths that go on to it have so many choices
  pub stop_len : (cs : List ℕ) → IsNextPath ps from cs → length cs ≡ stop
  stop_len cs next =
      elim (order (length cs) stop) [
        | inl less ↦ absurd (elim next.prefix [
          | inl differ ↦ s.same (length cs) next.from_on less differ
          | inr end ↦ (let w = s.within in omega (arith, less, end, w))
        ])
        | inr r ↦ elim r [
          | inl e ↦ e
          | inr more ↦ absurd (elim s.stops [
            | inl differ ↦ next.same stop s.from_on more differ
            | inr end ↦ (let l = path_len ps cs next.is_path in omega (arith, l, more, end))
          ])
        ]
      ]

  pub next_of_len : (cs : List ℕ) → IsPath ps cs → length cs ≡ stop → IsNextPath ps from cs
  next_of_len cs is e = record {
    is_path = is;
    prefix = subst (λ n. Differs (get_or ps n (Same [])) ⊎ (n ≡ length ps)) (sym e) s.stops;
    from_on = (let f = s.from_on in omega (arith, f, e));
    same = λ place least less. s.same place least (omega (arith, less, e));
  }

  pub read_to : (living : List LivingPath) → AllByRecursion (IsLiving ps from) living → AllByRecursion (IsReadTo ps stop) living
  read_to living h =
      all_weaker (IsLiving ps from) (IsReadTo ps stop) living (λ p is. (is.0, is.1.is_path, stop_len p.kept.choices.items is.1)) h

-- Ways that were taken ---------------------------------------------------------------------------------------------

-- a path that goes on from a begin was judged
pub taken_on : (Sought : List ℕ → Type 0) (ps : List Part) (begin path : List ℕ) (old new : List (List ℕ)) → IsSetFor ps Whole path
    → IsStop ps Whole path → ((more : List ℕ) × (path ≡ begin ++ more)) → AreFixed ps Whole (length begin) (length path)
    → LivesOrIsDead Sought ps new path → ((other : List ℕ) → Contains old other → Contains new other) → IsTaken Sought ps begin old new
taken_on Sought ps begin path old new set stop grew fixed judged still = record {
  path = path;
  is_next = followed ps begin path set.0 (prefix_of_stop ps path stop) grew (same_of_fixed ps (length begin) (length path) fixed);
  begins = begins_so begin path grew;
  judged = judged;
  still = still;
}

pub living_on : (ps : List Part) (begin path : List ℕ) (p : LivingPath) → IsSetFor ps Whole path → IsStop ps Whole path
    → ((more : List ℕ) × (path ≡ begin ++ more)) → AreFixed ps Whole (length begin) (length path)
    → p.kept.reader ≡ Some (prefix_of ps path) → p.kept.choices.items ≡ path → IsLiving ps (length begin) p
living_on ps begin path p set stop grew fixed fed is = (
  fed ∙ ap (λ cs. Some (prefix_of ps cs)) (sym is),
  subst (IsNextPath ps (length begin)) (sym is)
      (followed ps begin path set.0 (prefix_of_stop ps path stop) grew (same_of_fixed ps (length begin) (length path) fixed)),
)

module _ (Sought : List ℕ → Type 0) (ps : List Part) where
  taken_judged : (begin : List ℕ) (old new : List (List ℕ)) → IsTaken Sought ps begin old new → AreJudged Sought ps (length begin) new begin
  taken_judged begin old new t other next e =
      let same : t.path ≡ other = one_next ps (length begin) t.path other t.is_next next (t.begins ∙ sym e) in
      subst (LivesOrIsDead Sought ps new) same t.judged

  -- the first level
  pub first_all : (old new : List (List ℕ)) (stop : ℕ) → IsTaken Sought ps [] old new → IsNextStop ps 0 stop
      → (path : List ℕ) → IsPath ps path → length path ≡ stop → LivesOrIsDead Sought ps new path
  first_all old new stop t s path is e = taken_judged [] old new t path (next_of_len ps 0 stop s path is e) refl

  module _ (path : List ℕ) (choice : ℕ) (old new : List (List ℕ)) (t : IsTaken Sought ps (path ++ choice ∷ []) old new) where
    here : AreJudged Sought ps (length path + 1) new (path ++ choice ∷ [])
    here =
        subst (λ n. AreJudged Sought ps n new (path ++ choice ∷ [])) (length-append path (choice ∷ []))
        (taken_judged (path ++ choice ∷ []) old new t)

    -- those before it too
    pub ways_so_far : ((c : ℕ) → c < choice → IsFirstWay (get_or ps (length path) (Same [])) c
        → AreJudged Sought ps (length path + 1) old (path ++ c ∷ []))
        → (c : ℕ) → IsFirstWay (get_or ps (length path) (Same [])) c → (choice < c → ⊥)
        → AreJudged Sought ps (length path + 1) new (path ++ c ∷ [])
    ways_so_far before c first not =
        elim (order c choice) [
          | inl less ↦ judged_more Sought ps (length path + 1) (path ++ c ∷ []) old new t.still (before c less first)
          | inr r ↦ elim r [
            | inl e ↦ subst (λ k. AreJudged Sought ps (length path + 1) new (path ++ k ∷ [])) (sym e) here
            | inr more ↦ absurd (not more)
          ]
        ]

  -- one more path was gone on from
  pub gone_on_more : (from : ℕ) (vs : List LivingPath) (i : ℕ) (v : LivingPath) (old new : List (List ℕ)) → i < length vs
      → v ≡ get_or vs i v → ((other : List ℕ) → Contains old other → Contains new other)
      → AreGoneOn Sought ps from (take i vs) old → AreJudged Sought ps from new v.kept.choices.items
      → AreGoneOn Sought ps from (take (i + 1) vs) new
  gone_on_more from vs i v old new l item still so_far judged =
      all_one_more (λ (p : LivingPath). AreJudged Sought ps from new p.kept.choices.items) vs i v
      (all_weaker (λ (p : LivingPath). AreJudged Sought ps from old p.kept.choices.items)
      (λ (p : LivingPath). AreJudged Sought ps from new p.kept.choices.items) (take i vs)
      (λ p h. judged_more Sought ps from p.kept.choices.items old new still h) so_far)
      l (subst (λ (p : LivingPath). AreJudged Sought ps from new p.kept.choices.items) item judged)

  -- the next level
  pub next_all : (count stop : ℕ) (living : List LivingPath) (new : List (List ℕ))
      → ((path : List ℕ) → IsPath ps path → length path ≡ count → LivesOrIsDead Sought ps (paths_of living) path)
      → AreGoneOn Sought ps (count + 1) living new → IsNextStop ps (count + 1) stop
      → (path : List ℕ) → IsPath ps path → length path ≡ stop → LivesOrIsDead Sought ps new path
  next_all count stop living new all gone s path is e =
      let next = next_of_len ps (count + 1) stop s path is e in
      let least = next.from_on in
      let l : length (take count path) ≡ count = length-take-le count path (omega (arith, least)) in
      elim (all (take count path) (first_choices ps path count is) l) [
        | inl lives ↦ (
            let from = of_map (λ (p : LivingPath). p.kept.choices.items) living (take count path) lives in
            let judged = all_at (λ (p : LivingPath). AreJudged Sought ps (count + 1) new p.kept.choices.items) living from.0 gone from.1 in
            subst (AreJudged Sought ps (count + 1) new) from.2 judged path next (ap (λ k. take k path) l))
        | inr dead ↦ inr (dead_on Sought ps path count is dead)
      ]

-- Files ------------------------------------------------------------------------------------------------------------

abbrev IsAmongOrNot : (List ℕ → Type 0) → List Part → List (List ℕ) → List ℕ → Type 0
IsAmongOrNot Sought ps found path =
    Contains found path ⊎ (AllByRecursion (λ b. b < 256) (prefix_of ps path) → Sought (prefix_of ps path) → ⊥)

pub each_splice : (ceiling : Option ℕ) (ps : List Part) (living : List LivingPath) (found : List (List ℕ))
    → ((path : List ℕ) → IsPath ps path → length path ≡ length ps → LivesOrIsDead (IsSought ceiling) ps (paths_of living) path)
    → AllByRecursion (IsFoundOrNot (IsSought ceiling) ps found) living → HasEachSplice (IsSought ceiling) ps (files_of ps found)
each_splice ceiling ps living found all judged =
    has_each_splice ceiling ps found (λ choices made.
    elim (all choices made.0.0.0.0 made.0.0.1) [
      | inl lives ↦ (
          let from = of_map (λ (p : LivingPath). p.kept.choices.items) living choices lives in
          elim (subst (IsAmongOrNot (IsSought ceiling) ps found) from.2
          (all_at (IsFoundOrNot (IsSought ceiling) ps found) living from.0 judged from.1)) [
            | inl was ↦ inl was
            | inr not ↦ absurd (not made.1 made.0.1)
          ])
      | inr dead ↦ absurd (
          let e = sym (append-nil (prefix_of ps choices)) in
          dead [] (subst (AllByRecursion (λ b. b < 256)) e made.1) (subst (IsSought ceiling) e made.0.1))
    ])
