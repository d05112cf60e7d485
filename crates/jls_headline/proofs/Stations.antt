-- What is read of a copy holds exactly its readings, and what holds those of the same copies has the same.
use Rattle.std.proofs.Common.{◌≡◌, ℕ, ◌<◌, true, Bool, List, [], ◌∷◌, sym, subst}
use Rattle.std.specs.Prelude.{◌||◌}
use Rattle.std.specs.List.{AllByRecursion}
use Rattle.std.specs.Cmp.{both_ways}
use Rattle.jls_values.specs.OrderedSet as set
use Rattle.jls_values.specs.OrderedSetLaws.{contains-union, same_set}
use Rattle.jls_partial.specs.Reading.{Reading}
use Rattle.jls_partial.specs.ReadingOrder.{reading_total, reading_exact}
use Rattle.jls_partial.specs.Partial.{PartialPicture, union}
use Rattle.jls_copy.specs.CopyReads.{CopyReads}
use Rattle.jls_copy.specs.ReadCopy.{ReadCopy}
use Rattle.jls_copy_laws.specs.Gives.{GivesReading}
use Rattle.jls_headline.specs.Stations.{HasShape, HoldsExactly, AreAmong, IsSameCopy}
use Rattle.jls_headline.proofs.CopyGives.{copy_gives, copy_has_shape}
use Rattle.jls_headline.proofs.SameCopies.{among_gives}
use Rattle.jls_headline.proofs.Unions.{one_exactly}

abbrev pub is_read : PartialPicture → Reading → Bool
is_read p r = set.contains p.readings r

pub union_read : (p q : PartialPicture) (r : Reading) → is_read (union p q) r ≡ (is_read p r || is_read q r)
union_read p q r = contains-union reading_total p.readings q.readings r

-- what was read of a copy, from whatever source, holds exactly the copy's readings
pub copy_holds : (taken : PartialPicture) (copy : List ℕ) (read : ReadCopy) → AllByRecursion (λ b. b < 256) copy → CopyReads copy read
    → taken.shape ≡ read.partial.shape → taken.readings ≡ read.partial.readings → HoldsExactly taken (copy ∷ [])
copy_holds taken copy read low reads shape readings = record {
  are_copies = (subst (λ s. HasShape s copy) (sym shape) (copy_has_shape copy low read reads), tt);
  readings = one_exactly GivesReading is_read union_read taken copy (λ r. (
    λ m. (copy_gives copy low read reads r).0 (subst (λ rs. set.contains rs r ≡ true) readings m),
    λ g. subst (λ rs. set.contains rs r ≡ true) (sym readings) ((copy_gives copy low read reads r).1 g),
  ));
}

-- two that hold the readings of the same copies have the same readings
pub same_readings : (station other : PartialPicture) (copies others : List (List ℕ)) → HoldsExactly station copies
    → HoldsExactly other others
    → AreAmong IsSameCopy copies others → AreAmong IsSameCopy others copies → station.readings ≡ other.readings
same_readings station other copies others h k among back =
    same_set reading_total reading_exact station.readings other.readings
    (λ r. both_ways (set.contains station.readings r) (set.contains other.readings r)
    (λ m. (k.readings r).1 (among_gives copies others r among ((h.readings r).0 m)))
    (λ m. (h.readings r).1 (among_gives others copies r back ((k.readings r).0 m))))
