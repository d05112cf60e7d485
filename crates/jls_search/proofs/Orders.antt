-- A list parted into two, each in its order: one element more.
use Rattle.std.proofs.Common.{ℕ, ◌+◌, ◌<◌, List, [], ◌∷◌, ◌++◌, length, take, get_or, sym, subst, append_assoc}
use Rattle.std.specs.List.Sorted.{IsPermutation}
use Rattle.std.proofs.lemmas.List.{take_more}
use Rattle.std.proofs.lemmas.List.Sorted.{IsPermutation-append_comm, IsPermutation-append_left, IsPermutation-append_right}
use Rattle.std.proofs.lemmas.List.Sorted.{IsPermutation-trans}

module _ {X : Type 0} (xs firsts others : List X) (i : ℕ) (d : X) (within : i < length xs)
    (same : IsPermutation (take i xs) (firsts ++ others)) where
  pub one_other : IsPermutation (take (i + 1) xs) (firsts ++ (others ++ get_or xs i d ∷ []))
  one_other =
      subst (λ ys. IsPermutation ys (firsts ++ (others ++ get_or xs i d ∷ []))) (sym (take_more xs i d within))
      (subst (IsPermutation (take i xs ++ get_or xs i d ∷ [])) (append_assoc firsts others (get_or xs i d ∷ []))
      (IsPermutation-append_left (get_or xs i d ∷ []) (take i xs) (firsts ++ others) same))

  pub one_first : IsPermutation (take (i + 1) xs) ((firsts ++ get_or xs i d ∷ []) ++ others)
  one_first =
      subst (IsPermutation (take (i + 1) xs)) (sym (append_assoc firsts (get_or xs i d ∷ []) others))
      (IsPermutation-trans (take (i + 1) xs) (firsts ++ (others ++ get_or xs i d ∷ [])) (firsts ++ (get_or xs i d ∷ [] ++ others)) one_other
      (IsPermutation-append_right firsts (others ++ get_or xs i d ∷ []) (get_or xs i d ∷ [] ++ others)
      (IsPermutation-append_comm others (get_or xs i d ∷ []))))
