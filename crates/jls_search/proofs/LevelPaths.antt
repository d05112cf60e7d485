-- Paths of one level.
use Rattle.std.proofs.Common.{◌≡◌, ℕ, zero, suc, ◌+◌, ◌<◌, ◌≤◌, List, [], ◌∷◌, ◌++◌, length, take, refl, sym, ap, ◌∙◌, subst}
use Rattle.std.proofs.Common.{arith, ◌⊎◌, inl, inr, length-append}
use Rattle.std.specs.Prelude.{get_or}
use Rattle.std.specs.List.{AllByRecursion, Contains}
use Rattle.std.proofs.lemmas.List.Elements.{Contains-append_left, Contains-append_right}
use Rattle.std.proofs.lemmas.List.{take_at, take_more}
use Rattle.jls_values.proofs.Lists.{all_more}
use Rattle.jls_diff.specs.Parts.{Part, Same, Differ}
use Rattle.jls_search.specs.Choices.{IsFirstWay, IsPrefix, IsPath, prefix_of}
use Rattle.jls_diff.specs.Parts.{Differs}
use Rattle.jls_search.specs.Faultless.{IsDead}
use Rattle.jls_search.specs.Levels.{AreJudged, NoPartDiffers, IsNextPath, IsPathTaken}
use Rattle.jls_search.proofs.KeptReaders.{prefix_and_rest}
use Rattle.jls_search.proofs.Paths.{order, path_at, path_len}
use Rattle.jls_search.proofs.Prefixes.{dead_longer}

-- Parts that all copies have alike ---------------------------------------------------------------------------------

only_way : (part : Part) (choice : ℕ) → (Differs part → ⊥) → IsFirstWay part choice → choice ≡ 0
only_way (Same bytes) choice same first = first
only_way (Differ ways) choice same first = absurd (same tt)

-- paths of one length that begin alike, and differ in no part after that, are one
one_path : (ps : List Part) (cs ds : List ℕ) (from : ℕ) → IsPath ps cs → IsPath ps ds → length cs ≡ length ds → take from cs ≡ take from ds
    → NoPartDiffers ps from (length cs) → cs ≡ ds
one_path ps [] [] from pa pb l e same = refl
one_path ps [] (d ∷ ds) from pa pb l e same = absurd (omega (arith, l))
one_path ps (c ∷ cs) [] from pa pb l e same = absurd (omega (arith, l))
one_path [] (c ∷ cs) (d ∷ ds) from pa pb l e same = absurd pa
one_path (p ∷ ps) (c ∷ cs) (d ∷ ds) zero pa pb l e same =
    let here : Differs p → ⊥ = same zero (omega arith) (omega arith) in
    let first : c ≡ d = only_way p c here pa.0 ∙ sym (only_way p d here pb.0) in
    let rest = one_path ps cs ds zero pa.1 pb.1 (omega (arith, l)) refl
    (λ place least less. same (suc place) (omega arith) (omega (arith, less))) in
    ap (λ x. x ∷ cs) first ∙ ap (λ xs. d ∷ xs) rest
one_path (p ∷ ps) (c ∷ cs) (d ∷ ds) (suc from) pa pb l e same =
    let first : c ≡ d = cc in
    let begin : take from cs ≡ take from ds = cc in
    let rest = one_path ps cs ds from pa.1 pb.1 (omega (arith, l)) begin
    (λ place least less. same (suc place) (omega (arith, least)) (omega (arith, less))) in
    ap (λ x. x ∷ cs) first ∙ ap (λ xs. d ∷ xs) rest

-- Paths that go on from so many choices ----------------------------------------------------------------------------

module _ (ps : List Part) (from : ℕ) where
  not_shorter : (cs ds : List ℕ) → IsNextPath ps from cs → IsNextPath ps from ds → length cs < length ds → ⊥
  not_shorter cs ds a b less =
      elim a.prefix [
        | inl differ ↦ b.same (length cs) a.from_on less differ
        | inr end ↦ (let l = path_len ps ds b.is_path in omega (arith, end, l, less))
      ]

  -- they have one length
  pub one_length : (cs ds : List ℕ) → IsNextPath ps from cs → IsNextPath ps from ds → length cs ≡ length ds
  one_length cs ds a b =
      elim (order (length cs) (length ds)) [
        | inl less ↦ absurd (not_shorter cs ds a b less)
        | inr r ↦ elim r [ inl e ↦ e | inr more ↦ absurd (not_shorter ds cs b a more) ]
      ]

  -- and are one if they begin alike
  pub one_next : (cs ds : List ℕ) → IsNextPath ps from cs → IsNextPath ps from ds → take from cs ≡ take from ds → cs ≡ ds
  one_next cs ds a b e = one_path ps cs ds from a.is_path b.is_path (one_length cs ds a b) e a.same

  -- another path of that length does so too
  pub also_next : (cs ds : List ℕ) → IsNextPath ps from cs → IsPath ps ds → length ds ≡ length cs → IsNextPath ps from ds
  also_next cs ds a is e = record {
    is_path = is;
    prefix = subst (λ n. Differs (get_or ps n (Same [])) ⊎ (n ≡ length ps)) (sym e) a.prefix;
    from_on = subst (λ n. from ≤ n) (sym e) a.from_on;
    same = subst (NoPartDiffers ps from) (sym e) a.same;
  }

-- what was gone on from the first choices of a path
pub followed : (ps : List Part) (begin path : List ℕ) → IsPath ps path → IsPrefix ps path → (more : List ℕ) × (path ≡ begin ++ more)
    → NoPartDiffers ps (length begin) (length path) → IsNextPath ps (length begin) path
followed ps begin path is prefix (more, e) same =
    let l = ap length e ∙ length-append begin more in record { is_path = is; prefix = prefix; from_on = omega (arith, l); same = same }

pub begins_so : (begin path : List ℕ) → (more : List ℕ) × (path ≡ begin ++ more) → take (length begin) path ≡ begin
begins_so begin path (more, e) = ap (take (length begin)) e ∙ take_at begin more (length begin) refl

-- Paths that begin alike -------------------------------------------------------------------------------------------

-- the first choices of a path
pub first_choices : (ps : List Part) (cs : List ℕ) (n : ℕ) → IsPath ps cs → IsPath ps (take n cs)
first_choices ps cs zero h = tt
first_choices ps [] (suc n) h = tt
first_choices [] (c ∷ cs) (suc n) h = absurd h
first_choices (p ∷ ps) (c ∷ cs) (suc n) h = (h.0, first_choices ps cs n h.1)

module _ (Sought : List ℕ → Type 0) (ps : List Part) where
  -- a path that begins with a dead one is dead
  pub dead_on : (cs : List ℕ) (n : ℕ) → IsPath ps cs → IsDead Sought (prefix_of ps (take n cs)) → IsDead Sought (prefix_of ps cs)
  dead_on cs n is dead = subst (IsDead Sought) (sym (prefix_and_rest ps cs n is)) (dead_longer Sought (prefix_of ps (take n cs)) _ dead)

  -- A path that was taken ------------------------------------------------------------------------------------------

  module _ (begin : List ℕ) (old new : List (List ℕ)) (t : IsPathTaken Sought ps begin old new) where
    pub still_lives : (other : List ℕ) → Contains old other → Contains new other
    still_lives other lives =
        elim t.added [
          | inl e ↦ subst (λ xs. Contains xs other) (sym e) (Contains-append_left old (t.path ∷ []) other lives)
          | inr r ↦ subst (λ xs. Contains xs other) (sym r.0) lives
        ]

    pub one_at_most : length new ≤ length old + 1
    one_at_most =
        elim t.added [
          | inl e ↦ (let a = ap length e ∙ length-append old (t.path ∷ []) in omega (arith, a))
          | inr r ↦ (let a = ap length r.0 in omega (arith, a))
        ]

    pub each_taken : AllByRecursion (IsNextPath ps (length begin)) old → AllByRecursion (IsNextPath ps (length begin)) new
    each_taken each =
        elim t.added [
          | inl e ↦ subst (AllByRecursion (IsNextPath ps (length begin))) (sym e)
              (all_more (IsNextPath ps (length begin)) old t.path each t.is_next)
          | inr r ↦ subst (AllByRecursion (IsNextPath ps (length begin))) (sym r.0) each
        ]

    pub judged_taken : AreJudged Sought ps (length begin) new begin
    judged_taken other next e =
        let same : t.path ≡ other = one_next ps (length begin) t.path other t.is_next next (t.begins ∙ sym e) in
        elim t.added [
          | inl f ↦ inl (subst (λ xs. Contains xs other) (sym f) (Contains-append_right old (t.path ∷ []) other (0, omega arith, same)))
          | inr r ↦ inr (subst (λ p. IsDead Sought (prefix_of ps p)) same r.1)
        ]

  -- more paths that live
  pub judged_more : (from : ℕ) (begin : List ℕ) (old new : List (List ℕ)) → ((other : List ℕ) → Contains old other → Contains new other)
      → AreJudged Sought ps from old begin → AreJudged Sought ps from new begin
  judged_more from begin old new still judged path next e =
      elim (judged path next e) [ inl lives ↦ inl (still path lives) | inr dead ↦ inr dead ]

  -- each way of the next part
  module _ (path : List ℕ) (living : List (List ℕ)) where
    pub all_ways : ((choice : ℕ) → IsFirstWay (get_or ps (length path) (Same [])) choice
        → AreJudged Sought ps (length path + 1) living (path ++ choice ∷ [])) → AreJudged Sought ps (length path + 1) living path
    all_ways each other next e =
        let n = length path in
        let least = next.from_on in
        let l : n < length other = omega (arith, least) in
        let choice = get_or other n 0 in
        let first = path_at ps other n next.is_path l in
        let longer : length (path ++ choice ∷ []) ≡ n + 1 = length-append path (choice ∷ []) in
        each choice first.1 other next
        (subst (λ k. take k other ≡ path ++ choice ∷ []) (sym longer) (take_more other n 0 l ∙ ap (λ xs. xs ++ choice ∷ []) e))
