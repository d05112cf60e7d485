-- The laws of what a copy gives, of which each is the contract of a function with an empty body.
use Rattle.std.specs.Prelude.{◌≡◌, ℕ, ◌<◌, ◌≢◌, true, false, List, ◌++◌, length}
use Rattle.std.specs.List.{AllByRecursion}
use Rattle.jls_marker.specs.declared.profile.Profile.{Profile}
use Rattle.jls_marker.specs.declared.profile.Profile.TheVariants.{Strict}
use Rattle.jls_copy.specs.Course.{Course, IsCourseUnder}
use Rattle.jls_copy.specs.ReadCopy.{ReadCopy}
use Rattle.jls_copy.specs.CopyReads.{CopyReadsUnder, CopyGivesNoneUnder, is_final_end}
use Rattle.jls_marker.specs.declared.fault.MarkerFault.{MarkerFault}
use Rattle.jls_copy.specs.declared.reader.CopyFault.TheVariants.{NoPicture}

-- a list of bytes, as a whole copy, gives one thing or one fault under a profile, and not both
pub record CopiesGiveOneUnder (profile : Profile) (bytes : List ℕ) : Type 0 where
  pub one_reading : (r s : ReadCopy) → CopyReadsUnder profile bytes r → CopyReadsUnder profile bytes s → r ≡ s
  pub one_fault : (f g : MarkerFault) (m n : ℕ) → CopyGivesNoneUnder profile bytes (NoPicture f m)
      → CopyGivesNoneUnder profile bytes (NoPicture g n) → (f ≡ g) × (m ≡ n)
  pub not_both : (r : ReadCopy) (f : MarkerFault) (n : ℕ) → CopyReadsUnder profile bytes r
      → CopyGivesNoneUnder profile bytes (NoPicture f n) → ⊥

-- the same under the strict profile
abbrev pub CopiesGiveOne : List ℕ → Type 0
CopiesGiveOne bytes = CopiesGiveOneUnder Strict bytes

-- under a profile, bytes give one reading as a whole copy, or no picture with one fault and offset, and not both
abbrev pub BytesDecideUnder : Profile → Type 0
BytesDecideUnder profile = (bytes : List ℕ) → AllByRecursion (λ b. b < 256) bytes → CopiesGiveOneUnder profile bytes

-- the same under the strict profile
abbrev pub BytesDecide : Type 0
BytesDecide = BytesDecideUnder Strict

-- under a profile, a course whose end is final is that of every longer list of bytes too: the same units, headers and end
abbrev pub FinalEndsStayUnder : Profile → Type 0
FinalEndsStayUnder profile = (prefix more : List ℕ) (c : Course) → IsCourseUnder profile prefix c → is_final_end c.end ≡ true
    → IsCourseUnder profile (prefix ++ more) c

-- the same under the strict profile
abbrev pub FinalEndsStay : Type 0
FinalEndsStay = FinalEndsStayUnder Strict

-- under a profile, if the end isn't final, any bytes after the copy change it
abbrev pub OtherEndsChangeUnder : Profile → Type 0
OtherEndsChangeUnder profile = (prefix more : List ℕ) (c d : Course) → IsCourseUnder profile prefix c → is_final_end c.end ≡ false
    → 0 < length more → IsCourseUnder profile (prefix ++ more) d → d.end ≢ c.end

-- the same under the strict profile
abbrev pub OtherEndsChange : Type 0
OtherEndsChange = OtherEndsChangeUnder Strict
