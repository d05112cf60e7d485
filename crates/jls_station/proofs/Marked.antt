-- A picture with a source at each reading, or as it is where there is none.
use Rattle.std.proofs.Common.{◌≡◌, ℕ, Option, Some, None, refl}
use Rattle.jls_partial.specs.Partial.{PartialPicture}
use Rattle.jls_station.specs.Given.{marked}

-- a source changes neither the shape nor the readings
pub marked_shape : (source : Option ℕ) (p : PartialPicture) → (marked source p).shape ≡ p.shape
marked_shape None p = refl
marked_shape (Some source) p = refl

pub marked_readings : (source : Option ℕ) (p : PartialPicture) → (marked source p).readings ≡ p.readings
marked_readings None p = refl
marked_readings (Some source) p = refl
