-- Paths, one choice longer and shorter, and the choices after them.
use Rattle.std.proofs.Common.{◌≡◌, ℕ, zero, suc, ◌<◌, ◌≤◌, List, [], ◌∷◌, ◌++◌, map, length, refl, sym, ap, ◌∙◌, arith, ◌⊎◌, inl, inr, Bor}
use Rattle.std.proofs.Common.{true, false, nat_eq}
use Rattle.std.specs.Prelude.{get_or}
use Rattle.std.specs.List.{AllByRecursion}
use Rattle.std.specs.Cmp.Lexicographic.{pointwise, same_text, other_text}
use Rattle.jls_diff.specs.Parts.{Part, Same, Differ}
use Rattle.jls_search.specs.Choices.{IsFirstWay, IsPath, HasSomeWay}
use Rattle.jls_search.specs.Order.{IsToCome, IsLater}

pub get_or-map : {X Y : Type 0} (f : X → Y) (d : X) (e : Y) (xs : List X) (i : ℕ) → i < length xs → get_or (map f xs) i e
    ≡ f (get_or xs i d)
get_or-map f d e [] i l = absurd (omega (arith, l))
get_or-map f d e (x ∷ xs) zero l = refl
get_or-map f d e (x ∷ xs) (suc i) l = get_or-map f d e xs i (omega (arith, l))

pub length-map : {X Y : Type 0} (f : X → Y) (xs : List X) → length (map f xs) ≡ length xs
length-map f [] = refl
length-map f (x ∷ xs) = ap suc (length-map f xs)

pub order : (a b : ℕ) → (a < b) ⊎ ((a ≡ b) ⊎ (b < a))
order zero zero = inr (inl refl)
order zero (suc b) = inl (omega arith)
order (suc a) zero = inr (inr (omega arith))
order (suc a) (suc b) =
    elim (order a b) [
      | inl l ↦ inl (omega (arith, l))
      | inr r ↦ elim r [ inl e ↦ inr (inl (ap suc e)) | inr l ↦ inr (inr (omega (arith, l))) ]
    ]

pub path_len : (ps : List Part) (cs : List ℕ) → IsPath ps cs → length cs ≤ length ps
path_len ps [] h = omega arith
path_len [] (c ∷ cs) h = absurd h
path_len (p ∷ ps) (c ∷ cs) h = let r = path_len ps cs h.1 in omega (arith, r)

pub path_back : (ps : List Part) (cs : List ℕ) (c : ℕ) → IsPath ps (cs ++ c ∷ [])
    → IsPath ps cs × (length cs < length ps) × IsFirstWay (get_or ps (length cs) (Same [])) c
path_back [] [] c h = absurd h
path_back (p ∷ ps) [] c h = (tt, omega arith, h.0)
path_back [] (d ∷ cs) c h = absurd h
path_back (p ∷ ps) (d ∷ cs) c h = let r = path_back ps cs c h.1 in ((h.0, r.0), omega (arith, r.1), r.2)

pub path_more : (ps : List Part) (cs : List ℕ) (c : ℕ) → IsPath ps cs → length cs < length ps
    → IsFirstWay (get_or ps (length cs) (Same [])) c
    → IsPath ps (cs ++ c ∷ [])
path_more [] cs c h l f = absurd (omega (arith, l))
path_more (p ∷ ps) [] c h l f = (f, tt)
path_more (p ∷ ps) (d ∷ cs) c h l f = (h.0, path_more ps cs c h.1 (omega (arith, l)) f)

pub to_come_more : (cs ds : List ℕ) → IsToCome cs ds → length cs < length ds → IsToCome (cs ++ 0 ∷ []) ds
to_come_more [] [] h l = absurd (omega (arith, l))
to_come_more [] (zero ∷ ds) h l = inr (refl, tt)
to_come_more [] (suc d ∷ ds) h l = inl (omega arith)
to_come_more (c ∷ cs) [] h l = absurd h
to_come_more (c ∷ cs) (d ∷ ds) (inl less) l = inl less
to_come_more (c ∷ cs) (d ∷ ds) (inr (e, h)) l = inr (e, to_come_more cs ds h (omega (arith, l)))

-- the next way of the part after the path
pub turned : (ps : List Part) (cs ds : List ℕ) (p q : ℕ)
    → ((other : ℕ) → p < other → other < q → IsFirstWay (get_or ps (length cs) (Same [])) other → ⊥)
    → IsPath ps ds → IsLater (cs ++ p ∷ []) ds → IsToCome (cs ++ q ∷ []) ds
turned ps [] [] p q none path h = absurd h
turned [] [] (d ∷ ds) p q none path h = absurd path
turned (part ∷ ps) [] (d ∷ ds) p q none path (inl less) =
    elim (order q d) [
      | inl l ↦ inl l
      | inr r ↦ elim r [ inl e ↦ inr (e, tt) | inr l ↦ absurd (none d less l path.0) ]
    ]
turned (part ∷ ps) [] (d ∷ ds) p q none path (inr (e, h)) = absurd h
turned ps (c ∷ cs) [] p q none path h = absurd h
turned [] (c ∷ cs) (d ∷ ds) p q none path h = absurd path
turned (part ∷ ps) (c ∷ cs) (d ∷ ds) p q none path (inl less) = inl less
turned (part ∷ ps) (c ∷ cs) (d ∷ ds) p q none path (inr (e, h)) = inr (e, turned ps cs ds p q none path.1 h)

-- or there is none
pub passed : (ps : List Part) (cs ds : List ℕ) (p : ℕ)
    → ((other : ℕ) → p < other → IsFirstWay (get_or ps (length cs) (Same [])) other → ⊥)
    → IsPath ps ds → IsLater (cs ++ p ∷ []) ds → IsLater cs ds
passed ps [] [] p none path h = absurd h
passed [] [] (d ∷ ds) p none path h = absurd path
passed (part ∷ ps) [] (d ∷ ds) p none path (inl less) = absurd (none d less path.0)
passed (part ∷ ps) [] (d ∷ ds) p none path (inr (e, h)) = absurd h
passed ps (c ∷ cs) [] p none path h = absurd h
passed [] (c ∷ cs) (d ∷ ds) p none path h = absurd path
passed (part ∷ ps) (c ∷ cs) (d ∷ ds) p none path (inl less) = inl less
passed (part ∷ ps) (c ∷ cs) (d ∷ ds) p none path (inr (e, h)) = inr (e, passed ps cs ds p none path.1 h)

pub none_after : (ds : List ℕ) → IsLater [] ds → ⊥
none_after ds h = h

-- the first way of a part
pub zero_is_first : (p : Part) → HasSomeWay p → IsFirstWay p 0
zero_is_first (Same bytes) h = refl
zero_is_first (Differ ways) h = (h, λ other l e. omega (arith, l))

pub some_way_at : (ps : List Part) (i : ℕ) → i < length ps → AllByRecursion HasSomeWay ps → HasSomeWay (get_or ps i (Same []))
some_way_at [] i l h = absurd (omega (arith, l))
some_way_at (p ∷ ps) zero l h = h.0
some_way_at (p ∷ ps) (suc i) l h = some_way_at ps i (omega (arith, l)) h.1

-- what a test of two ways has said
module _ (ways : List (Bor (List ℕ))) (i j : ℕ) (d : Bor (List ℕ)) (l : i < length ways) (k : j < length ways) where
  way_at : (n : ℕ) → n < length ways → get_or (map (λ way. way.now) ways) n [] ≡ (get_or ways n d).now
  way_at n h = get_or-map (λ (way : Bor (List ℕ)). way.now) d [] ways n h

  pub same_ways : true ≡ pointwise nat_eq (get_or ways i d).now (get_or ways j d).now
      → get_or (map (λ way. way.now) ways) i [] ≡ get_or (map (λ way. way.now) ways) j []
  same_ways t = way_at i l ∙ same_text _ _ t ∙ sym (way_at j k)

  pub other_ways : false ≡ pointwise nat_eq (get_or ways i d).now (get_or ways j d).now
      → get_or (map (λ way. way.now) ways) i [] ≡ get_or (map (λ way. way.now) ways) j [] → ⊥
  other_ways f e = other_text _ _ f (sym (way_at i l) ∙ e ∙ way_at j k)

-- each choice of a path
pub path_at : (ps : List Part) (cs : List ℕ) (i : ℕ) → IsPath ps cs → i < length cs
    → (i < length ps) × IsFirstWay (get_or ps i (Same [])) (get_or cs i 0)
path_at ps [] i h l = absurd (omega (arith, l))
path_at [] (c ∷ cs) i h l = absurd h
path_at (p ∷ ps) (c ∷ cs) zero h l = (omega arith, h.0)
path_at (p ∷ ps) (c ∷ cs) (suc i) h l = let r = path_at ps cs i h.1 (omega (arith, l)) in (omega (arith, r.0), r.1)

-- what stands after a path stands after the path and one choice more
pub after_longer : (cs : List ℕ) (c : ℕ) (ds : List ℕ) → IsLater cs ds → IsLater (cs ++ c ∷ []) ds
after_longer [] c ds h = absurd h
after_longer (p ∷ cs) c [] h = absurd h
after_longer (p ∷ cs) c (d ∷ ds) (inl less) = inl less
after_longer (p ∷ cs) c (d ∷ ds) (inr (e, h)) = inr (e, after_longer cs c ds h)

-- what stands after a path does so with more choices
pub after_more : (cs ds more : List ℕ) → IsLater cs ds → IsLater cs (ds ++ more)
after_more [] ds more h = absurd h
after_more (p ∷ cs) [] more h = absurd h
after_more (p ∷ cs) (d ∷ ds) more (inl less) = inl less
after_more (p ∷ cs) (d ∷ ds) more (inr (e, h)) = inr (e, after_more cs ds more h)

-- a later choice in the place of the last
pub next_after : (cs : List ℕ) (p q : ℕ) → p < q → IsLater (cs ++ p ∷ []) (cs ++ q ∷ [])
next_after [] p q less = inl less
next_after (c ∷ cs) p q less = inr (refl, next_after cs p q less)
