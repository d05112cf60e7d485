-- What comes of a copy whose source has known bytes left.
use Rattle.std.specs.Prelude.{◌≡◌, ◌⊎◌, ℕ, false, true, List, [], ◌++◌, length, Option}
use Rattle.jls_partial.specs.Partial.{PartialPicture, has_same_shape, union}
use Rattle.jls_copy.specs.CopyReads.{CopyReads, CopyGivesNone}
use Rattle.jls_copy.specs.ReadCopy.{ReadCopy}
use Rattle.jls_copy.specs.declared.reader.CopyFault.TheVariants as copy
use Rattle.jls_station.specs.Given.{marked}
use Rattle.jls_station.specs.Inputs.{IsCopyDone}
use Rattle.jls_station.specs.declared.input.ReadStop.{ReadStop}
use Rattle.jls_station.specs.declared.input.ReadStop.TheVariants.{Whole}
use Rattle.jls_station.specs.declared.take_copy.TakeFault.{TakeFault}
use Rattle.jls_station.specs.declared.take_copy.TakeFault.TheVariants as fault

-- Of these bytes, `prefix` was read until the reading stopped so. If it stopped as whole, no byte more changes what the prefix gives, or
-- the prefix is all there is
pub record IsPrefixOf (bytes prefix : List ℕ) (stop : ReadStop) : Type 0 where
  pub following : List ℕ
  pub bytes_are : bytes ≡ prefix ++ following
  pub enough : stop ≡ Whole → IsCopyDone prefix ⊎ (following ≡ [])

-- a copy of these bytes, whose reading stopped so, gives this partial picture
pub record BytesGive (source : Option ℕ) (p : PartialPicture) (stop : ReadStop) (bytes : List ℕ) : Type 0 where
  pub prefix : List ℕ
  pub is_prefix : IsPrefixOf bytes prefix stop
  pub read : ReadCopy
  pub reads_as : CopyReads prefix read
  pub partial_is : p ≡ marked source read.partial

-- a station that held `old` took a copy of these bytes, whose reading stopped so, and holds `new`
pub record TakesBytes (source : Option ℕ) (old new : PartialPicture) (stop : ReadStop) (bytes : List ℕ) : Type 0 where
  pub given : PartialPicture
  pub gives : BytesGive source given stop bytes
  pub one_shape : has_same_shape old given ≡ true
  pub union_is : new ≡ union old given

-- a station that holds `old` refuses a copy of these bytes for this
abbrev pub RefusesBytes : Option ℕ → PartialPicture → List ℕ → TakeFault → Type 0
RefusesBytes source old bytes (fault.NoPicture f offset) =
    (prefix : List ℕ) × IsPrefixOf bytes prefix Whole × CopyGivesNone prefix (copy.NoPicture f offset)
RefusesBytes source old bytes (fault.Read stop count) =
    (prefix : List ℕ) × IsPrefixOf bytes prefix stop × (count ≡ length prefix) × (stop ≡ Whole → ⊥)
RefusesBytes source old bytes fault.ShapeDiffers =
    (p : PartialPicture) × (stop : ReadStop) × BytesGive source p stop bytes × (has_same_shape old p ≡ false)
RefusesBytes source old bytes fault.OutOfMemory = Unit {0}
