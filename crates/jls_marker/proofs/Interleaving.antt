-- The values of ILV that a profile takes, and what a selection says of them.
use Rattle.std.proofs.Common.{◌≡◌, ℕ, ◌<◌, ◌≤◌, Bool, true, false, List, ◌⊎◌, inl, inr, refl, sym, subst, arith}
use Rattle.std.specs.Prelude.{◌||◌, ◌==◌, nat_le, nat_lt, if◌then◌else◌}
use Rattle.std.proofs.lemmas.Bool.{and_parts, cases_Bool, cases_eq, cases_lt, eqb-true, leb-true, le-leb, lt-leb, lt-ltb, ltb-true}
use Rattle.std.proofs.Math.Bool.{or-true}
use Rattle.jls_marker.specs.Profiles.{takes_interleave, IsOfProfile}
use Rattle.jls_marker.specs.ScanSelection.{ScanSelection, interleave_of}
use Rattle.jls_marker.specs.declared.profile.Profile.{Profile}
use Rattle.jls_marker.specs.declared.profile.Profile.TheVariants.{Strict, Wide}

abbrev selecting : List ℕ → Bool → Bool → ScanSelection
selecting ids line by_sample = record { ids = ids; line = line; by_sample = by_sample }

-- a selection that is not by sample is one of each profile
pub of_each : (profile : Profile) (s : ScanSelection) → s.by_sample ≡ false → IsOfProfile profile s
of_each Strict s e = e
of_each Wide s e = tt

-- ---- what a value that is taken says

-- of a header of so many components
pub record HasInterleave (profile : Profile) (count k : ℕ) : Type 0 where
  pub again : k ≡ (if k == 2 then 2 else if k == 1 then 1 else 0)
  pub interleaved : 1 < count → (k == 2) ≡ false → (k == 1) ≡ true
  pub not_both : (k == 2) ≡ true → (k == 1) ≡ false
  pub several : (k == 2) ≡ true → 1 < count
  pub of_profile : (ids : List ℕ) → IsOfProfile profile (selecting ids (k == 1) (k == 2))

-- a scan of one component can have ILV 0
none : (profile : Profile) (count : ℕ) → count ≤ 1 → HasInterleave profile count 0
none profile count one = record {
  again = refl;
  interleaved = λ more e. absurd (omega (arith, one, more));
  not_both = λ e. refl;
  several = λ e. absurd cc;
  of_profile = λ ids. of_each profile (selecting ids false false) refl;
}

-- each scan can have ILV 1
by_line : (profile : Profile) (count : ℕ) → HasInterleave profile count 1
by_line profile count = record {
  again = refl;
  interleaved = λ more e. refl;
  not_both = λ e. absurd cc;
  several = λ e. absurd cc;
  of_profile = λ ids. of_each profile (selecting ids true false) refl;
}

-- a scan of several components can have ILV 2 under the wide profile
by_sample : (count : ℕ) → 1 < count → HasInterleave Wide count 2
by_sample count more = record {
  again = refl;
  interleaved = λ more e. absurd cc;
  not_both = λ e. refl;
  several = λ e. more;
  of_profile = λ ids. tt;
}

-- more than one component has 1
line_of_several : (count k : ℕ) → (nat_le count 1 || (k == 1)) ≡ true → 1 < count → (k == 1) ≡ true
line_of_several count k e more = let m : nat_le count 1 ≡ false = lt-leb count 1 more in rw m at e

-- what the strict profile takes is one component with ILV 0, or ILV 1
strict_kinds : (count k : ℕ) → takes_interleave Strict count k ≡ true → ((k ≡ 0) × (count ≤ 1)) ⊎ (k ≡ 1)
strict_kinds count k e =
    let both = and_parts (nat_le k 1) (nat_le count 1 || (k == 1)) e in
    elim (cases_lt 1 count) [
      | inl more ↦ inr (eqb-true k 1 (line_of_several count k both.1 more))
      | inr one ↦
          elim (cases_eq k 1) [
            | inl is ↦ inr is
            | inr other ↦ let low : k ≤ 1 = leb-true k 1 both.0 in inl (omega arith, one)
          ]
    ]

-- what the strict profile takes is an interleaving of each profile
strict_has : (profile : Profile) (count k : ℕ) → takes_interleave Strict count k ≡ true → HasInterleave profile count k
strict_has profile count k e =
    elim (strict_kinds count k e) [
      | inl z ↦ subst (HasInterleave profile count) (sym z.0) (none profile count z.1)
      | inr one ↦ subst (HasInterleave profile count) (sym one) (by_line profile count)
    ]

-- what the wide profile takes more
pub sample_kind : (count k : ℕ) → takes_interleave Strict count k ≡ false → takes_interleave Wide count k ≡ true
    → (1 < count) × (k ≡ 2)
sample_kind count k f e =
    let both = and_parts (nat_lt 1 count) (k == 2) (rw f at e) in (ltb-true 1 count both.0, eqb-true k 2 both.1)

-- what a profile takes is an interleaving of it
pub has_interleave : (profile : Profile) (count k : ℕ) → takes_interleave profile count k ≡ true → HasInterleave profile count k
has_interleave Strict count k e = strict_has Strict count k e
has_interleave Wide count k e =
    elim (cases_Bool (takes_interleave Strict count k)) [
      | inl t ↦ strict_has Wide count k t
      | inr f ↦ let s = sample_kind count k f e in subst (HasInterleave Wide count) (sym s.1) (by_sample count s.0)
    ]

-- ---- the value of a selection

-- a scan that is not by sample is taken by the strict profile
strict_taken : (count : ℕ) (line : Bool) → (1 < count → line ≡ true) → takes_interleave Strict count (if line then 1 else 0) ≡ true
strict_taken count true h = or-true (nat_le count 1)
strict_taken count false h =
    elim (cases_lt 1 count) [
      | inl lt ↦ let e : false ≡ true = h lt in absurd cc
      | inr le ↦ let e : nat_le count 1 ≡ true = le-leb count 1 le in rw e refl
    ]

-- what the strict profile takes, the wide one takes
pub wide_takes : (count k : ℕ) → takes_interleave Strict count k ≡ true → takes_interleave Wide count k ≡ true
wide_takes count k e = rw e refl

-- it is taken
pub is_taken : (profile : Profile) (count : ℕ) (ids : List ℕ) (line by_sample : Bool)
    → (1 < count → by_sample ≡ false → line ≡ true) → (by_sample ≡ true → 1 < count)
    → IsOfProfile profile (selecting ids line by_sample)
    → takes_interleave profile count (interleave_of (selecting ids line by_sample)) ≡ true
is_taken Strict count ids line true interleaved several of_profile = absurd cc
is_taken Strict count ids line false interleaved several of_profile = strict_taken count line (λ more. interleaved more refl)
is_taken Wide count ids line true interleaved several of_profile =
    let m : nat_lt 1 count ≡ true = lt-ltb 1 count (several refl) in rw m refl
is_taken Wide count ids line false interleaved several of_profile =
    wide_takes count (if line then 1 else 0) (strict_taken count line (λ more. interleaved more refl))

-- the value of ILV tells whether a scan is by line
pub line_again : (line by_sample : Bool) → (by_sample ≡ true → line ≡ false)
    → ((if by_sample then 2 else if line then 1 else 0) == 1) ≡ line
line_again line true not_both = sym (not_both refl)
line_again true false not_both = refl
line_again false false not_both = refl

-- the value of ILV tells whether a scan is by sample
pub sample_again : (line by_sample : Bool) → ((if by_sample then 2 else if line then 1 else 0) == 2) ≡ by_sample
sample_again line true = refl
sample_again true false = refl
sample_again false false = refl
