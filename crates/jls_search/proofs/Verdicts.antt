-- The verdicts on files: by what is seen of each, on one of them, and on the copies and splices apart.
use Rattle.std.proofs.Common.{◌≡◌, ℕ, zero, suc, ◌<◌, ◌≤◌, Bool, List, [], ◌∷◌, ◌++◌, Vec, Global, Bor, length, take, drop, map, get_or}
use Rattle.std.proofs.Common.{refl, sym, ap, subst, arith}
use Rattle.std.specs.Prelude.{◌↔◌, IsTrue}
use Rattle.jls_diff.specs.Parts.{Part}
use Rattle.jls_diff.specs.PartsOf.{bytes_of}
use Rattle.jls_search.specs.Choices.{prefix_of}
use Rattle.jls_search.specs.Faultless.{IsFaultless}
use Rattle.jls_search.specs.Files.{AreVerdicts}
use Rattle.jls_search.specs.Search.{files_of, lists_of}
use Rattle.jls_search.specs.Seen.{AreSeen, IsSeen, verdict_of}
use Rattle.jls_search.specs.declared.seen.Seen.{Seen}
use Rattle.jls_search.specs.declared.seen.Seen.TheVariants.{Faultless, Faulty, NoFrame}
use Rattle.jls_search.proofs.OneFile.{no_shape, faultless_shape}

-- what is seen of a file tells it
verdict_on : (file : List ℕ) (s : Seen) → IsSeen file s → IsTrue (verdict_of s) ↔ IsFaultless file
verdict_on file (Faultless shape) is = (λ yes. is.1, λ f. refl)
verdict_on file (Faulty shape) is = (λ yes. absurd cc, λ f. absurd (is.1 f))
verdict_on file (NoFrame fault offset) is =
    (λ yes. absurd cc, λ f. absurd (no_shape f.shape file (is.0, is.1, is.2) (faultless_shape file f)))

pub verdicts_seen : (files : List (List ℕ)) (seen : List Seen) → AreSeen files seen → AreVerdicts files (map verdict_of seen)
verdicts_seen [] [] are = tt
verdicts_seen [] (s ∷ seen) are = absurd are
verdicts_seen (f ∷ files) [] are = absurd are
verdicts_seen (f ∷ files) (s ∷ seen) are = (verdict_on f s are.0, verdicts_seen files seen are.1)

-- those on copies
pub one_a_copy : (copies : List (Bor (List ℕ))) (vs : List Bool) → AreVerdicts (bytes_of copies) vs → length vs ≡ length copies
one_a_copy [] [] are = refl
one_a_copy [] (v ∷ vs) are = absurd are
one_a_copy (c ∷ copies) [] are = absurd are
one_a_copy (c ∷ copies) (v ∷ vs) are = ap suc (one_a_copy copies vs are.1)

pub on_copy : (copies : List (Bor (List ℕ))) (vs : List Bool) (i : ℕ) (d : Bor (List ℕ)) (b : Bool) → AreVerdicts (bytes_of copies) vs
    → i < length copies → IsTrue (get_or vs i b) ↔ IsFaultless (get_or copies i d).now
on_copy [] vs i d b are l = absurd (omega (arith, l))
on_copy (c ∷ copies) [] i d b are l = absurd are
on_copy (c ∷ copies) (v ∷ vs) zero d b are l = are.0
on_copy (c ∷ copies) (v ∷ vs) (suc i) d b are l = on_copy copies vs i d b are.1 (omega (arith, l))

-- those on splices
module _ (ps : List Part) where
  pub one_a_splice : (splices : List (Vec ℕ Global)) (vs : List Bool) → AreVerdicts (files_of ps (lists_of splices)) vs
      → length vs ≡ length splices
  one_a_splice [] [] are = refl
  one_a_splice [] (v ∷ vs) are = absurd are
  one_a_splice (s ∷ splices) [] are = absurd are
  one_a_splice (s ∷ splices) (v ∷ vs) are = ap suc (one_a_splice splices vs are.1)

  pub on_splice : (splices : List (Vec ℕ Global)) (vs : List Bool) (i : ℕ) (splice : Vec ℕ Global) (b : Bool)
      → AreVerdicts (files_of ps (lists_of splices)) vs → i < length splices → splice ≡ get_or splices i splice
      → IsTrue (get_or vs i b) ↔ IsFaultless (prefix_of ps splice.items)
  on_splice [] vs i splice b are l e = absurd (omega (arith, l))
  on_splice (s ∷ splices) [] i splice b are l e = absurd are
  on_splice (s ∷ splices) (v ∷ vs) zero splice b are l e =
      subst (λ (x : Vec ℕ Global). IsTrue v ↔ IsFaultless (prefix_of ps x.items)) (sym e) are.0
  on_splice (s ∷ splices) (v ∷ vs) (suc i) splice b are l e = on_splice splices vs i splice b are.1 (omega (arith, l)) e

-- both, where they stand one after the other
module _ (more : List (List ℕ)) where
  pub of_copies : (copies : List (Bor (List ℕ))) (vs : List Bool) → AreVerdicts (bytes_of copies ++ more) vs
      → AreVerdicts (bytes_of copies) (take (length copies) vs)
  of_copies [] vs are = tt
  of_copies (c ∷ copies) [] are = absurd are
  of_copies (c ∷ copies) (v ∷ vs) are = (are.0, of_copies copies vs are.1)

  pub after_copies : (copies : List (Bor (List ℕ))) (vs : List Bool) → AreVerdicts (bytes_of copies ++ more) vs
      → AreVerdicts more (drop (length copies) vs)
  after_copies [] vs are = are
  after_copies (c ∷ copies) [] are = absurd are
  after_copies (c ∷ copies) (v ∷ vs) are = after_copies copies vs are.1

  pub enough : (copies : List (Bor (List ℕ))) (vs : List Bool) → AreVerdicts (bytes_of copies ++ more) vs → length copies ≤ length vs
  enough [] vs are = omega arith
  enough (c ∷ copies) [] are = absurd are
  enough (c ∷ copies) (v ∷ vs) are = let rest = enough copies vs are.1 in omega (arith, rest)
