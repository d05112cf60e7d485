-- The first line of a partial picture that isn't settled, by component in the order of the frame, and then by line.
use Rattle.std.specs.Prelude.{◌≡◌, ◌≢◌, ℕ, ◌<◌, length}
use Rattle.jls_partial.specs.declared.status.Status.TheVariants.{Settled}
use Rattle.jls_partial.specs.Partial.{PartialPicture, readings_at}
use Rattle.jls_partial.specs.Status.{status_of, IsComponentSettled}
use Rattle.jls_write.specs.declared.picture.PictureFault.{PictureFault}
use Rattle.jls_write.specs.declared.picture.PictureFault.TheVariants.{Unsettled}

-- the first line of a component that is not settled
pub record IsFirstUnsettledLine (p : PartialPicture) (component line : ℕ) : Type 0 where
  pub component_in : component < length p.shape.ids
  pub line_in : line < p.shape.height
  pub unsettled : status_of (readings_at p component line) ≢ Settled
  pub lines_before : (l : ℕ) → l < line → status_of (readings_at p component l) ≡ Settled

-- the first line of all components that is not settled
pub record IsFirstUnsettled (p : PartialPicture) (component line : ℕ) : Type 0 where
  pub first_line : IsFirstUnsettledLine p component line
  pub components_before : (c : ℕ) → c < component → IsComponentSettled p c

-- a fault names the first line that is not settled
abbrev pub NamesFirstUnsettled : PartialPicture → PictureFault → Type 0
NamesFirstUnsettled p (Unsettled component line) = IsFirstUnsettled p component line
