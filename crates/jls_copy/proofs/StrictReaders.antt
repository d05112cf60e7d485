-- What a reader under the strict profile says.
use Rattle.std.proofs.Common.{◌≡◌, ℕ, List, Option, subst}
use Rattle.std.specs.Prelude.{IfSome}
use Rattle.jls_copy.specs.ReadCopy.{ReaderBytes}
use Rattle.jls_marker.specs.declared.profile.Profile.{Profile}
use Rattle.jls_marker.specs.declared.profile.Profile.TheVariants.{Strict}

-- what is said of the bytes under the profile of a reader is said under the strict one
pub strictly : (r : ReaderBytes) (fed : Option (List ℕ)) (P : Profile → List ℕ → Type 0) → r.profile ≡ Strict → r.bytes ≡ fed
    → IfSome r.bytes (λ bytes. P r.profile bytes) → IfSome fed (λ bytes. P Strict bytes)
strictly r fed P strict same said =
    subst (λ o. IfSome o (λ bytes. P Strict bytes)) same (subst (λ p. IfSome r.bytes (λ bytes. P p bytes)) strict said)
