-- How many bytes parts of a raster have, and how many samples an interval.
use Rattle.std.proofs.Common.{◌≡◌, ℕ, ◌*◌, ◌≤◌, ◌<◌, ◌^◌, Bool, true, false, length, get_or, refl, arith}
use Rattle.std.proofs.Math.Nat.{mul-le-mul}
use Rattle.std.specs.Int.{w16, to_be_bytes}
use Rattle.jls_write.specs.Picture.{WholePicture, line_of}
use Rattle.jls_write.specs.Pnm.{is_wide, sample_bytes, pixel_bytes, row_bytes}
use Rattle.jls_write.proofs.OneMore.{length-flat_map-le}

sample_at_most : (wide : Bool) (sample : ℕ) → length (sample_bytes wide sample) ≤ 2
sample_at_most true sample = let two : length (to_be_bytes w16 sample) ≡ 2 = refl in omega (arith, two)
sample_at_most false sample = omega arith

-- a pixel has at most 8 bytes
pub pixel_at_most : (pic : WholePicture) (line column : ℕ) → length pic.shape.ids ≤ 4 → length (pixel_bytes pic line column) ≤ 8
pixel_at_most pic line column few =
    let all = length-flat_map-le (λ component. sample_bytes (is_wide pic.shape) (get_or (line_of pic component line) column 0)) 2
    (λ component. sample_at_most (is_wide pic.shape) (get_or (line_of pic component line) column 0)) 0 (length pic.shape.ids) in
    omega (arith, all)

-- a row has at most 524,280 bytes
pub row_at_most : (pic : WholePicture) (line : ℕ) → length pic.shape.ids ≤ 4 → pic.shape.width < 2 ^ 16
    → length (row_bytes pic line) ≤ 524280
row_at_most pic line few narrow =
    let all = length-flat_map-le (pixel_bytes pic line) 8 (λ column. pixel_at_most pic line column few) 0 pic.shape.width in
    omega (arith, all)

pub product_at_most : (a b m n : ℕ) → a ≤ m → b ≤ n → a * b ≤ m * n
product_at_most a b m n first second = mul-le-mul first second
