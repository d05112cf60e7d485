-- What the making of a picture needs.
use Rattle.std.proofs.Common.{◌≡◌, ℕ, zero, suc, ◌<◌, ◌≤◌, ◌+◌, Bool, true, false, Bor, Vec, Global, List, [], ◌∷◌, ◌++◌, length, map, take}
use Rattle.std.proofs.Common.{get_or, Option, Some, None, refl, sym, ap, ◌∙◌, subst, arith, inl, inr}
use Rattle.std.specs.Prelude.{◌^◌, ◌⊎◌, IfSome, option_map, if◌then◌else◌}
use Rattle.std.specs.List.{sum_by}
use Rattle.std.proofs.lemmas.List.{length-map}
use Rattle.std.proofs.lemmas.List.Sums.{sum_by-cons}
use Rattle.jls_diff.proofs.Slices.{count_of_slices}
use Rattle.jls_diff.specs.PartsOf.{bytes_of}
use Rattle.jls_diff.specs.Parts.{AreParts, Part, made}
use Rattle.jls_search.specs.SearchLaws.{AreShort}
use Rattle.jls_search.specs.Found.{Found}
use Rattle.jls_splice_run.specs.Ceilings.{has_some}
use Rattle.jls_splice_run.specs.Making.{files_reported, lacks_single, promise_of}
use Rattle.jls_splice_run.specs.declared.found.Promise.TheVariants.{Picture, Lines}
use Rattle.jls_splice_run.specs.Single.{IsSingleAsked}

-- the first copy of short ones is short
first_within : (copies : List (List ℕ)) → length (get_or copies 0 []) ≤ sum_by length copies
first_within [] = omega arith
first_within (c ∷ cs) = let s = sum_by-cons length c cs in omega (arith, s)

-- there is a copy
pub some_copy : (copies : List (Bor (List ℕ))) → 0 < length copies → 0 < length (bytes_of copies)
some_copy copies some = subst (λ n. 0 < n) (sym (count_of_slices copies)) some

pub first_is_short : (copies : List (List ℕ)) (parts : List Part) → AreParts copies parts → 0 < length copies → AreShort copies
    → length (made 0 parts) < 2 ^ 64
first_is_short copies parts are some short =
    let l = ap length (are.make 0 some) in
    let w = first_within copies in
    omega (arith, l, w, short)

-- a single file that is lacked, as the code has it
pub lacks_maps : {A B C D : Type 0} (f : A → C) (g : B → D) (x : Option A) (y : Option B)
    → lacks_single (option_map f x) (option_map g y) ≡ lacks_single x y
lacks_maps f g None y = refl
lacks_maps f g (Some x) None = refl
lacks_maps f g (Some x) (Some y) = refl

-- how many files have a name, as the code has it
pub reported_maps : {A B C D : Type 0} (f : A → C) (g : B → D) (x : Option A) (ys : List B)
    → files_reported (option_map f x) (map g ys) ≡ files_reported x ys
reported_maps f g None ys = refl
reported_maps f g (Some x) ys = ap Some (length-map ys g)

-- a single file that is asked for by a name, as the code has the name
pub single_maps : {A B : Type 0} (f : A → B) (o : Option A) (files : List (List ℕ)) (single : Option (List ℕ))
    → IsSingleAsked o files single → IsSingleAsked (option_map f o) files single
single_maps f None files single h = h
single_maps f (Some name) files single h = h

-- what is mapped twice
pub mapped_twice : {A B C : Type 0} (f : B → C) (g : A → B) (x : Option A) → option_map f (option_map g x) ≡ option_map (λ a. f (g a)) x
mapped_twice f g None = refl
mapped_twice f g (Some x) = refl

-- the promise that holds, as the code finds it
none_taken : (xs : List (List ℕ)) (n : ℕ) → n ≡ 0 → has_some (take n xs) ≡ false
none_taken xs n e = rw e refl

some_taken : (xs : List (List ℕ)) (n : ℕ) → (n ≡ 0 → ⊥) → n ≤ length xs → has_some (take n xs) ≡ true
some_taken xs zero some within = absurd (some refl)
some_taken [] (suc n) some within = absurd (omega (arith, within))
some_taken (x ∷ xs) (suc n) some within = refl

module _ (ceiling : Option ℕ) (f : Found) (is_settled : Bool) where
  pub promised : f.is_used_up ≡ false → has_some f.choices ≡ true → is_settled ≡ true → promise_of ceiling f is_settled ≡ Picture ceiling
  promised used some all = rw (used, some, all) refl

  pub not_promised : (f.is_used_up ≡ true) ⊎ ((has_some f.choices ≡ false) ⊎ (is_settled ≡ false)) → promise_of ceiling f is_settled ≡ Lines
  not_promised = by f.is_used_up (has_some f.choices) is_settled
    where
      by : (used some all : Bool) → (used ≡ true) ⊎ ((some ≡ false) ⊎ (all ≡ false))
          → (if used then Lines else (if some then (if all then Picture ceiling else Lines) else Lines)) ≡ Lines
      by true some all h = refl
      by false false all h = refl
      by false true false h = refl
      by false true true (inl e) = absurd cc
      by false true true (inr (inl e)) = absurd cc
      by false true true (inr (inr e)) = absurd cc

-- the cut file that is taken, as the code has it
pub cut_mapped : (P : List ℕ → Type 0) (taken cut : Option (Vec ℕ Global)) → (taken ≡ cut)
    ⊎ ((taken ≡ None) × IfSome cut (λ path. P path.items))
    → (option_map (λ (v : Vec ℕ Global). v.items) taken ≡ option_map (λ (v : Vec ℕ Global). v.items) cut)
    ⊎ ((option_map (λ (v : Vec ℕ Global). v.items) taken ≡ None) × IfSome (option_map (λ (v : Vec ℕ Global). v.items) cut) P)
cut_mapped P taken cut (inl same) = inl (ap (option_map (λ (v : Vec ℕ Global). v.items)) same)
cut_mapped P taken None (inr (none, h)) = inr (ap (option_map (λ (v : Vec ℕ Global). v.items)) none, tt)
cut_mapped P taken (Some path) (inr (none, h)) = inr (ap (option_map (λ (v : Vec ℕ Global). v.items)) none, h)

-- and what holds of the one that was found
pub found_mapped : (P : List ℕ → Type 0) (cut : Option (Vec ℕ Global)) → IfSome cut (λ path. P path.items)
    → IfSome (option_map (λ (v : Vec ℕ Global). v.items) cut) P
found_mapped P None h = tt
found_mapped P (Some path) h = h

-- the choices of the one that is taken are a path
pub path_taken : (P : List ℕ → Type 0) (Q : Vec ℕ Global → Type 0) (taken cut : Option (Vec ℕ Global))
    → (taken ≡ cut) ⊎ ((taken ≡ None) × IfSome cut Q) → IfSome cut (λ path. P path.items) → IfSome taken (λ path. P path.items)
path_taken P Q taken cut (inl same) h = subst (λ (o : Option (Vec ℕ Global)). IfSome o (λ path. P path.items)) (sym same) h
path_taken P Q taken cut (inr (none, why)) h = subst (λ (o : Option (Vec ℕ Global)). IfSome o (λ path. P path.items)) (sym none) tt
