-- The same copies give the same.
use Rattle.std.proofs.Common.{ℕ, ◌<◌, List, ◌++◌, sym, subst, inl, inr}
use Rattle.jls_values.specs.Shape.{PictureShape}
use Rattle.jls_partial.specs.Reading.{Reading}
use Rattle.jls_copy_laws.specs.CopyScans.{HasScans}
use Rattle.jls_copy_laws.specs.Gives.{GivesReading}
use Rattle.jls_copy.proofs.FinalEnds.{final_ends_stay}
use Rattle.jls_copy_laws.proofs.CopyScans.{course_has_scans, scans_of_course, one_list_of_scans}
use Rattle.jls_copy_laws.proofs.Members.{all_append, all_prefix}
use Rattle.jls_headline.specs.Stations.{ReadingsOf, HasShape, IsSameCopy, AreAmong}
use Rattle.jls_headline.specs.HeadlineLaws.{BytesAfterTheEndChangeNothing}
use Rattle.jls_headline.proofs.LostIntervals.{given_by_scan}

pub same_copy_gives : (copy other : List ℕ) (r : Reading) → IsSameCopy copy other → GivesReading copy r → GivesReading other r
same_copy_gives copy other r (inl e) g = subst (λ x. GivesReading x r) e g
same_copy_gives copy other r (inr (shape, scans, has, has')) g =
    let own = given_by_scan copy shape scans has r g in (shape, scans, has', own.0, own.1, own.2)

-- bytes after the end of a copy change nothing
pub bytes_after_the_end_change_nothing : BytesAfterTheEndChangeNothing
bytes_after_the_end_change_nothing prefix following following' shape (c, is, done) (scans, has) low =
    let own = scans_of_course (prefix ++ following) c shape scans (final_ends_stay prefix following c is (sym done)) has in
    let bytes = all_append (λ b. b < 256) prefix following' (all_prefix (λ b. b < 256) prefix following has.are_bytes) low in
    let there = course_has_scans (prefix ++ following') c shape bytes (final_ends_stay prefix following' c is (sym done)) own.0 in
    inr (shape, scans, has, subst (HasScans (prefix ++ following') shape) (sym own.1) there)

-- the same copy has the same shape
pub same_copy_has_shape : (copy other : List ℕ) (s : PictureShape) → IsSameCopy copy other → HasShape s copy → HasShape s other
same_copy_has_shape copy other s (inl e) h = subst (λ x. HasShape s x) e h
same_copy_has_shape copy other s (inr (shape, scans, has, has')) (scans', own) =
    (scans, subst (λ t. HasScans other t scans) (one_list_of_scans copy shape s scans scans' has own).0 has')

-- what copies give, the same copies give
pub among_gives : (copies others : List (List ℕ)) (r : Reading) → AreAmong IsSameCopy copies others → ReadingsOf copies r
    → ReadingsOf others r
among_gives copies others r among (copy, c, g) = let m = among copy c in (m.0, m.1, same_copy_gives copy m.0 r m.2 g)
