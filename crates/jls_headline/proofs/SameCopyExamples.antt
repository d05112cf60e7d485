-- The same copies: in another order, one of them twice, and one with bytes after its end.
use Rattle.std.proofs.Common.{ℕ, zero, suc, List, [], ◌∷◌, ◌++◌, Some, refl, sym, ap, subst, lit<, arith, inl, inr}
use Rattle.jls_copy.specs.Course.{IsCourse}
use Rattle.jls_copy.proofs.FinalEnds.{final_ends_stay}
use Rattle.jls_copy_laws.specs.CopyScans.{HasScans}
use Rattle.jls_copy_laws.proofs.CopyScans.{course_has_scans}
use Rattle.jls_copy_laws.proofs.Members.{bytes_of_test}
use Rattle.jls_headline.specs.Stations.{IsSameCopy, AreAmong, SameCopies}
use Rattle.jls_headline.specs.Sources.{SourcedCopy, IsSameUnder, SameCopiesUnder}
use Rattle.jls_headline.specs.Sources.{sourced_copy}
use Rattle.jls_headline.proofs.TwoLineCopies.{shape, first, second, lost_first, course_with, second_course, second_data}
use Rattle.jls_headline.proofs.TwoLineCopies.{second_scans}

-- the second copy, with bytes after EOI
abbrev second_and_more : List ℕ
second_and_more = second ++ (1 ∷ 2 ∷ [])

-- its course is that of the second copy
more_course : IsCourse second_and_more (course_with (lost_first ∷ []) (0x40 ∷ []) 34)
more_course = final_ends_stay second (1 ∷ 2 ∷ []) (course_with (lost_first ∷ []) (0x40 ∷ []) 34) second_course refl

-- they are one copy, though other bytes
more_scans : HasScans second_and_more shape (second_data ∷ [])
more_scans =
    course_has_scans second_and_more (course_with (lost_first ∷ []) (0x40 ∷ []) 34) shape
    (bytes_of_test second_and_more refl) more_course refl

one_copy : IsSameCopy second second_and_more
one_copy = inr (shape, second_data ∷ [], second_scans, more_scans)

back_again : IsSameCopy second_and_more second
back_again = inr (shape, second_data ∷ [], more_scans, second_scans)

abbrev pub taken : List (List ℕ)
taken = first ∷ second ∷ []

abbrev also_taken : List (List ℕ)
also_taken = second_and_more ∷ first ∷ first ∷ []

among : AreAmong IsSameCopy taken also_taken
among copy (zero, l, e) = (first, (1, lit< tt, refl), inl (sym e))
among copy (suc zero, l, e) = (second_and_more, (0, lit< tt, refl), subst (λ (c : List ℕ). IsSameCopy c second_and_more) e one_copy)
among copy (suc (suc k), l, e) = absurd (omega (arith, l))

among_back : AreAmong IsSameCopy also_taken taken
among_back copy (zero, l, e) = (second, (1, lit< tt, refl), subst (λ (c : List ℕ). IsSameCopy c second) e back_again)
among_back copy (suc zero, l, e) = (first, (0, lit< tt, refl), inl (sym e))
among_back copy (suc (suc zero), l, e) = (first, (0, lit< tt, refl), inl (sym e))
among_back copy (suc (suc (suc k)), l, e) = absurd (omega (arith, l))

same_copies : SameCopies taken also_taken
same_copies = (among, among_back)

-- Under sources --------------------------------------------------------------------------------------------------

abbrev pub taken_under : List SourcedCopy
taken_under = sourced_copy (Some 1) first ∷ sourced_copy (Some 2) second ∷ []

abbrev also_taken_under : List SourcedCopy
also_taken_under = sourced_copy (Some 2) second_and_more ∷ sourced_copy (Some 1) first ∷ sourced_copy (Some 1) first ∷ []

among_under : AreAmong IsSameUnder taken_under also_taken_under
among_under copy (zero, l, e) = (
  sourced_copy (Some 1) first,
  (1, lit< tt, refl),
  (ap (λ (c : SourcedCopy). c.source) (sym e), inl (ap (λ (c : SourcedCopy). c.bytes) (sym e))),
)
among_under copy (suc zero, l, e) = (
  sourced_copy (Some 2) second_and_more,
  (0, lit< tt, refl),
  (ap (λ (c : SourcedCopy). c.source) (sym e), subst (λ (c : SourcedCopy). IsSameCopy c.bytes second_and_more) e one_copy),
)
among_under copy (suc (suc k), l, e) = absurd (omega (arith, l))

among_back_under : AreAmong IsSameUnder also_taken_under taken_under
among_back_under copy (zero, l, e) = (
  sourced_copy (Some 2) second,
  (1, lit< tt, refl),
  (ap (λ (c : SourcedCopy). c.source) (sym e), subst (λ (c : SourcedCopy). IsSameCopy c.bytes second) e back_again),
)
among_back_under copy (suc zero, l, e) = (
  sourced_copy (Some 1) first,
  (0, lit< tt, refl),
  (ap (λ (c : SourcedCopy). c.source) (sym e), inl (ap (λ (c : SourcedCopy). c.bytes) (sym e))),
)
among_back_under copy (suc (suc zero), l, e) = (
  sourced_copy (Some 1) first,
  (0, lit< tt, refl),
  (ap (λ (c : SourcedCopy). c.source) (sym e), inl (ap (λ (c : SourcedCopy). c.bytes) (sym e))),
)
among_back_under copy (suc (suc (suc k)), l, e) = absurd (omega (arith, l))

same_copies_under : SameCopiesUnder taken_under also_taken_under
same_copies_under = (among_under, among_back_under)
