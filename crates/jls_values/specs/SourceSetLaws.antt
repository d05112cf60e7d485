-- The union of sets of source numbers is a join, and any two can be joined.
use Rattle.std.specs.Prelude.{true, refl}
use Rattle.std.specs.Ordering.{nat_cmp}
use Rattle.std.proofs.lemmas.Cmp.{nat_cmp_total}
use Rattle.std.proofs.lemmas.Map.Lookups.{exact_unsigned}
use Rattle.jls_values.specs.Join.{JoinLaws}
use Rattle.jls_values.specs.OrderedSet as set
use Rattle.jls_values.specs.OrderedSetLaws.{union-idempotent, union-commutative, union-associative}

-- sets of source numbers meet the laws of a join, all of them having one shape
pub source_set_laws : JoinLaws {V = set.OrderedSet nat_cmp} (λ _ _. true) set.union
source_set_laws = record {
  reflexive = λ _. refl;
  symmetric = λ _ _. refl;
  transitive = λ _ _ _ _ _. refl;
  join_same_shape = λ _ _ _. refl;
  idempotent = λ x. union-idempotent nat_cmp_total exact_unsigned x;
  commutative = λ x y _. union-commutative nat_cmp_total exact_unsigned x y;
  associative = λ x y z _ _. union-associative nat_cmp_total exact_unsigned x y z;
}
