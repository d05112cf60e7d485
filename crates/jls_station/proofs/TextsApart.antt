-- Which inputs are read as texts, and which as copies.
use Rattle.std.proofs.Common.{◌≡◌, ℕ, zero, suc, true, false, List, ◌∷◌, ◌++◌, refl, sym, ap, ◌∙◌}
use Rattle.jls_partial.specs.Partial.{PartialPicture}
use Rattle.jls_copy.specs.ScanData.{fill_bytes}
use Rattle.jls_station.specs.Texts.{is_text, IsTextOf}

-- a text begins as one
pub text_begins : (bytes : List ℕ) (p : PartialPicture) → IsTextOf bytes p → is_text bytes ≡ true
text_begins bytes p is = ap is_text is.bytes_are

pub no_text : {P : Type 0} (bytes : List ℕ) → is_text bytes ≡ false → is_text bytes ≡ true → P
no_text bytes e f = (let d : false ≡ true = sym e ∙ f in absurd cc)

-- the first marker of a copy is SOI, with fill before it
pub filled_is_no_text : (fill : ℕ) (bytes : List ℕ) → is_text (fill_bytes fill ++ 0xFF ∷ 0xD8 ∷ bytes) ≡ false
filled_is_no_text zero bytes = refl
filled_is_no_text (suc fill) bytes = refl
