-- Paths that take what a copy has where a search doesn't try the ways, one choice longer and shorter.
use Rattle.std.proofs.Common.{◌≡◌, ℕ, ◌<◌, List, [], ◌∷◌, ◌++◌, length, sym, ap, subst, arith, inl, inr, length-append, ◌∙◌}
use Rattle.std.specs.Prelude.{get_or}
use Rattle.std.proofs.Math.ListN.{get_or-append}
use Rattle.std.proofs.Math.Seq.{get_or-append_seam}
use Rattle.jls_diff.specs.Parts.{Part, Same, Differ, way}
use Rattle.jls_search.specs.Choices.{IsFirstWay, IsPath, IsPrefix, IsWhole}
use Rattle.jls_diff.specs.Parts.{Differs}
use Rattle.jls_search.specs.Order.{IsToCome, IsLater}
use Rattle.jls_search.proofs.Paths.{order, path_at, path_back, path_more}
use Rattle.jls_search.specs.Levels.{NoPartDiffers}
use Rattle.jls_search.specs.Tried.{AreFixed, IsCopyElsewhere, IsFree, IsSetFor, IsSetWholeFor, IsStop, IsTried, copy_of}
use Rattle.jls_search.specs.declared.setting.Goal.{Goal}
use Rattle.jls_search.specs.declared.setting.Goal.TheVariants.{Whole}

-- at the part of this number the choice takes what the copy has
abbrev pub TakesCopy : List Part → ℕ → ℕ → ℕ → Type 0
TakesCopy ps copy place choice = way choice (get_or ps place (Same [])) ≡ way copy (get_or ps place (Same []))

module _ (ps : List Part) (g : Goal) (cs : List ℕ) (c : ℕ) where
  outside_more : IsCopyElsewhere ps g cs → ((IsTried g (length cs) → ⊥) → TakesCopy ps (copy_of g) (length cs) c)
      → IsCopyElsewhere ps g (cs ++ c ∷ [])
  outside_more h here = λ place l out.
      elim (order place (length cs)) [
        | inl less ↦ subst (TakesCopy ps (copy_of g) place) (sym (get_or-append cs (c ∷ []) 0 place less)) (h place less out)
        | inr r ↦ elim r [
          | inl e ↦ subst (λ n. TakesCopy ps (copy_of g) n (get_or (cs ++ c ∷ []) n 0)) (sym e)
              (subst (TakesCopy ps (copy_of g) (length cs)) (sym (get_or-append_seam cs c [] 0))
              (here (subst (λ n. IsTried g n → ⊥) e out)))
          | inr more ↦ absurd (let a = length-append cs (c ∷ []) in omega (arith, l, more, a))
        ]
      ]

  outside_back : IsCopyElsewhere ps g (cs ++ c ∷ []) → IsCopyElsewhere ps g cs
  outside_back h = λ place l out.
      subst (TakesCopy ps (copy_of g) place) (get_or-append cs (c ∷ []) 0 place l)
      (h place (let a = length-append cs (c ∷ []) in omega (arith, l, a)) out)

pub set_first : (ps : List Part) (g : Goal) (cs : List ℕ) → cs ≡ [] → IsSetFor ps g cs
set_first ps g cs e = subst (IsSetFor ps g) (sym e) (tt, λ place l out. absurd (omega (arith, l)))

pub set_more : (ps : List Part) (g : Goal) (cs : List ℕ) (c : ℕ) → IsSetFor ps g cs → length cs < length ps
    → IsFirstWay (get_or ps (length cs) (Same [])) c → ((IsTried g (length cs) → ⊥) → TakesCopy ps (copy_of g) (length cs) c)
    → IsSetFor ps g (cs ++ c ∷ [])
set_more ps g cs c h l first here = (path_more ps cs c h.0 l first, outside_more ps g cs c h.1 here)

pub set_back : (ps : List Part) (g : Goal) (cs : List ℕ) (c : ℕ) → IsSetFor ps g (cs ++ c ∷ [])
    → IsSetFor ps g cs × (length cs < length ps) × IsFirstWay (get_or ps (length cs) (Same [])) c
set_back ps g cs c h = let r = path_back ps cs c h.0 in ((r.0, outside_back ps g cs c h.1), r.1, r.2)

-- one part more that is fixed
pub fixed_more : (ps : List Part) (g : Goal) (from : ℕ) (path next : List ℕ) (choice : ℕ) → next ≡ path ++ choice ∷ []
    → (IsFree ps g (length path) → ⊥) → AreFixed ps g from (length path) → AreFixed ps g from (length next)
fixed_more ps g from path next choice e here before place least less =
    let l = ap length e ∙ length-append path (choice ∷ []) in
    elim (order place (length path)) [
      | inl earlier ↦ before place least earlier
      | inr r ↦ elim r [
        | inl at ↦ subst (λ n. IsFree ps g n → ⊥) (sym at) here
        | inr later ↦ absurd (omega (arith, l, less, later))
      ]
    ]

-- A search that tries the ways of all parts ------------------------------------------------------------------------

pub set_of_all : (ps : List Part) (path : List ℕ) → IsPath ps path → IsSetFor ps Whole path
set_of_all ps path is = (is, λ place l out. absurd (out tt))

pub set_whole_of_all : (ps : List Part) (choices : List ℕ) → IsWhole ps choices → IsSetWholeFor ps Whole choices
set_whole_of_all ps choices whole = (set_of_all ps choices whole.0, whole.1)

pub prefix_of_stop : (ps : List Part) (path : List ℕ) → IsStop ps Whole path → IsPrefix ps path
prefix_of_stop ps path (inl free) = inl free.1
prefix_of_stop ps path (inr all) = inr all

pub same_of_fixed : (ps : List Part) (from to : ℕ) → AreFixed ps Whole from to → NoPartDiffers ps from to
same_of_fixed ps from to fixed place least less differ = fixed place least less (tt, differ)

-- Choices to come --------------------------------------------------------------------------------------------------

-- first ways of a part that take the same, where copies differ in it, are one
one_way : (p : Part) (c d : ℕ) → IsFirstWay p c → IsFirstWay p d → (Differs p → way c p ≡ way d p) → c ≡ d
one_way (Same bytes) c d f g same = f ∙ sym g
one_way (Differ ways) c d f g same =
    elim (order c d) [
      | inl less ↦ absurd (g.1 c less (same tt))
      | inr r ↦ elim r [ inl e ↦ e | inr less ↦ absurd (f.1 d less (sym (same tt))) ]
    ]

module _ (ps : List Part) (g : Goal) (ds : List ℕ) (set : IsSetFor ps g ds) (n c : ℕ) (l : n < length ds)
    (first : IsFirstWay (get_or ps n (Same [])) c) where
  -- each choice there is the copy's, if the part isn't one of the group
  pub same_choice : TakesCopy ps (copy_of g) n c → (IsFree ps g n → ⊥) → get_or ds n 0 ≡ c
  same_choice takes out =
      one_way (get_or ps n (Same [])) (get_or ds n 0) c (path_at ps ds n set.0 l).1 first
      (λ differ. set.1 n l (λ tried. out (tried, differ)) ∙ sym takes)

  -- none is before the first
  pub none_before : ((IsTried g n → ⊥) → TakesCopy ps (copy_of g) n c) → (IsTried g n → c ≡ 0) → get_or ds n 0 < c → ⊥
  none_before takes least less =
      let out : IsTried g n → ⊥ = λ inside. let z = least inside in omega (arith, z, less) in
      let e = same_choice (takes out) (λ free. out free.0) in omega (arith, e, less)

  -- none is after the last
  pub none_after : ((IsTried g n → ⊥) → TakesCopy ps (copy_of g) n c)
      → (IsTried g n → (other : ℕ) → c < other → IsFirstWay (get_or ps n (Same [])) other → ⊥) → c < get_or ds n 0 → ⊥
  none_after takes last less =
      let out : IsTried g n → ⊥ = λ inside. last inside (get_or ds n 0) less (path_at ps ds n set.0 l).1 in
      let e = same_choice (takes out) (λ free. out free.0) in omega (arith, e, less)

pub last_takes : (ps : List Part) (g : Goal) (cs : List ℕ) (c : ℕ) → IsSetFor ps g (cs ++ c ∷ []) → (IsTried g (length cs) → ⊥)
    → TakesCopy ps (copy_of g) (length cs) c
last_takes ps g cs c set out =
    subst (TakesCopy ps (copy_of g) (length cs)) (get_or-append_seam cs c [] 0)
    (set.1 (length cs) (let a = length-append cs (c ∷ []) in omega (arith, a)) out)

pub to_come_least : (cs ds : List ℕ) (c : ℕ) → IsToCome cs ds → length cs < length ds → (get_or ds (length cs) 0 < c → ⊥)
    → IsToCome (cs ++ c ∷ []) ds
to_come_least [] [] c h l least = absurd (omega (arith, l))
to_come_least [] (d ∷ ds) c h l least =
    elim (order c d) [
      | inl less ↦ inl less
      | inr r ↦ elim r [ inl e ↦ inr (e, tt) | inr more ↦ absurd (least more) ]
    ]
to_come_least (x ∷ cs) [] c h l least = absurd h
to_come_least (x ∷ cs) (d ∷ ds) c (inl less) l least = inl less
to_come_least (x ∷ cs) (d ∷ ds) c (inr (e, h)) l least = inr (e, to_come_least cs ds c h (omega (arith, l)) least)

pub after_last : (cs ds : List ℕ) (c : ℕ) → (length cs < length ds → c < get_or ds (length cs) 0 → ⊥) → IsLater (cs ++ c ∷ []) ds
    → IsLater cs ds
after_last [] [] c last h = absurd h
after_last [] (d ∷ ds) c last (inl less) = absurd (last (omega arith) less)
after_last [] (d ∷ ds) c last (inr (e, h)) = absurd h
after_last (x ∷ cs) [] c last h = absurd h
after_last (x ∷ cs) (d ∷ ds) c last (inl less) = inl less
after_last (x ∷ cs) (d ∷ ds) c last (inr (e, h)) = inr (e, after_last cs ds c (λ l. last (omega (arith, l))) h)
