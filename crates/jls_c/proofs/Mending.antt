-- Copies and lists that stand one behind the other, and what came of a mending.
use Rattle.std.proofs.Common.{◌≡◌, ℕ, suc, List, [], ◌∷◌, length, drop, refl, ap, sym, ◌∙◌, subst, inl, inr, arith}
use Rattle.std.specs.List.{AllByRecursion}
use Rattle.jls_c.specs.Causes.{mend_answer}
use Rattle.jls_c.specs.Copies.{AreCopies, AreLists, listed, parted}
use Rattle.jls_c.specs.declared.copies.JlsBadList.{JlsBadList}
use Rattle.jls_c.specs.declared.copies.JlsMendOptions.{JlsMendOptions}
use Rattle.jls_mend.specs.Asking.{AreMendable, BadPlaces, IsNumberOf}
use Rattle.jls_mend.specs.Mending.{IsRefusedOf, Stops}
use Rattle.jls_mend.specs.declared.asking.MendOptions.{MendOptions}
use Rattle.jls_mend.specs.declared.mending.MendRefusal.{MendRefusal}

-- there are as many copies as sizes
length_parted : (sizes bytes : List ℕ) → length (parted sizes bytes) ≡ length sizes
length_parted [] bytes = refl
length_parted (size ∷ sizes) bytes = ap suc (length_parted sizes (drop size bytes))

-- and as many lists, each of its copy
length_listed : (lists : List JlsBadList) (texts : List ℕ) → length (listed lists texts) ≡ length lists
length_listed [] texts = refl
length_listed (l ∷ lists) texts = ap suc (length_listed lists (drop l.size texts))

of_listed : (count : ℕ) (lists : List JlsBadList) (texts : List ℕ)
    → AllByRecursion (λ (l : JlsBadList). IsNumberOf count l.copy) lists
    → AllByRecursion (λ (l : BadPlaces). IsNumberOf count l.copy) (listed lists texts)
of_listed count [] texts all = tt
of_listed count (l ∷ lists) texts all = (all.0, of_listed count lists (drop l.size texts) all.1)

-- so they can be mended
pub can_be_mended : (o : JlsMendOptions) (sizes bytes : List ℕ) (lists : List JlsBadList) (texts : List ℕ) → AreCopies o sizes bytes lists
    → AreLists (length sizes) lists texts → AreMendable (parted sizes bytes) (listed lists texts)
can_be_mended o sizes bytes lists texts are of =
    let count = length_parted sizes bytes in
    let many = length_listed lists texts in
    let some = are.some in
    record {
      some = omega (arith, count, some);
      without_lists = λ none. let two = are.without_lists (sym many ∙ none) in omega (arith, count, two);
      of_copies = subst (λ (n : ℕ). AllByRecursion (λ (l : BadPlaces). IsNumberOf n l.copy) (listed lists texts)) (sym count)
          (of_listed (length sizes) lists texts of.of_copies);
    }

-- what is no want of memory stops the program
pub stops_of : (o : MendOptions) (copies : List (List ℕ)) (bad : List BadPlaces) (v : MendRefusal) → IsRefusedOf o copies bad v
    → mend_answer v.cause ≡ 15 → Stops o copies bad v
stops_of o copies bad v (inl memory) e = let one : 1 ≡ 15 = sym (ap mend_answer memory.0) ∙ e in absurd (omega (arith, one))
stops_of o copies bad v (inr stops) e = stops
