-- Rows that a decoder has read, from the start of its interval.
use Rattle.std.specs.Prelude.{◌≡◌, ℕ, Bool, List, ◌++◌}
use Rattle.jls_values.specs.Params.{CodingParameters}
use Rattle.jls_context.specs.Variables.{Variables}
use Rattle.jls_interval.specs.Stepwise.{Leads, bits_of_steps}
use Rattle.jls_pixel.specs.Pixels.{AreRows}
use Rattle.jls_pixel.specs.Events.{Event}
use Rattle.jls_pixel.specs.Code.{pixel_code}
use Rattle.jls_pixel.specs.Growth.{grown, pixel_steps, start}
use Rattle.jls_pixel.specs.After.{IsAfter}

-- whole first events were read, which lead to these finished rows and this begun one, and these bits are left
pub record RowBegun (p : CodingParameters) (width components count : ℕ) (given : List Bool) (rows : List (List (List ℕ)))
    (row : List (List ℕ)) (cells : Variables) (run_index : ℕ) (unread : List Bool) : Type 0 where
  pub earlier : List Event
  pub leads : Leads (pixel_steps p width components count) start earlier (grown width rows row earlier)
  pub bits_are : given ≡ bits_of_steps (pixel_steps p width components count) start earlier ++ unread
  pub is_after : IsAfter p cells run_index earlier

-- no rows' code stands at the start of the bits
abbrev pub NoRows : CodingParameters → ℕ → ℕ → ℕ → List Bool → Type 0
NoRows p width components count given =
    (rows : List (List (List ℕ))) (rest : List Bool) → AreRows p width components count rows
    → given ≡ pixel_code p width components rows ++ rest → ⊥
