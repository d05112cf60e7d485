-- What a reader under the wide profile says.
use Rattle.std.proofs.Common.{◌≡◌, ℕ, List, Option, subst}
use Rattle.std.specs.Prelude.{IfSome}
use Rattle.jls_copy.specs.ReadCopy.{ReaderBytes}
use Rattle.jls_marker.specs.declared.profile.Profile.{Profile}
use Rattle.jls_marker.specs.declared.profile.Profile.TheVariants.{Wide}

-- what is said of the bytes under the profile of a reader is said under the wide one
pub widely : (r : ReaderBytes) (fed : Option (List ℕ)) (P : Profile → List ℕ → Type 0) → r.profile ≡ Wide → r.bytes ≡ fed
    → IfSome r.bytes (λ bytes. P r.profile bytes) → IfSome fed (λ bytes. P Wide bytes)
widely r fed P wide same said =
    subst (λ o. IfSome o (λ bytes. P Wide bytes)) same (subst (λ p. IfSome r.bytes (λ bytes. P p bytes)) wide said)
