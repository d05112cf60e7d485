-- The PNM file of a picture, in Netpbm's raw formats: PGM for one component, PPM for three, PAM for two and four. Which one is taken is
-- this project's choice.
use Rattle.std.specs.Prelude.{ℕ, ◌-◌, ◌^◌, Bool, ◌==◌, nat_le, List, [], ◌∷◌, ◌++◌, length, get_or, codes, decimal, if◌then◌else◌}
use Rattle.std.specs.List.{flat_map, range_with_len}
use Rattle.std.specs.Int.{w16, to_be_bytes}
use Rattle.jls_values.specs.Shape.{PictureShape}
use Rattle.jls_write.specs.Picture.{WholePicture, line_of}

-- Maxval: the largest sample of the precision (Netpbm)
abbrev pub largest_sample : PictureShape → ℕ
largest_sample shape = 2 ^ shape.precision - 1

-- ---- the header

-- the text before a number, the number in decimal, and a newline (Netpbm)
abbrev pub number_line : List ℕ → ℕ → List ℕ
number_line name n = name ++ decimal n ++ codes "\n"

-- PGM and PPM: the width, a space and the height, and Maxval (Netpbm)
abbrev pub plain_header : List ℕ → PictureShape → List ℕ
plain_header magic shape = magic ++ decimal shape.width ++ number_line (codes " ") shape.height ++ number_line [] (largest_sample shape)

-- PAM: a line for each value (Netpbm)
abbrev pub pam_header : PictureShape → List ℕ
pam_header shape =
    codes "P7\n" ++ number_line (codes "WIDTH ") shape.width ++ number_line (codes "HEIGHT ") shape.height
    ++ number_line (codes "DEPTH ") (length shape.ids) ++ number_line (codes "MAXVAL ") (largest_sample shape) ++ codes "ENDHDR\n"

-- the header of the PNM file: P5 for one component, P6 for three, and P7 for two and four (Netpbm)
abbrev pub pnm_header : PictureShape → List ℕ
pnm_header shape =
    if length shape.ids == 1 then plain_header (codes "P5\n") shape
    else if length shape.ids == 3 then plain_header (codes "P6\n") shape
    else pam_header shape

-- ---- the raster: line by line, column by column, component by component

-- whether a sample has two bytes (Netpbm)
abbrev pub is_wide : PictureShape → Bool
is_wide shape = nat_le 256 (largest_sample shape)

-- the more significant byte first (Netpbm)
abbrev pub sample_bytes : Bool → ℕ → List ℕ
sample_bytes wide sample = if wide then to_be_bytes w16 sample else sample ∷ []

-- the bytes of the samples of all components in one column of a row: one a sample up to 8 bits, else two (Netpbm)
abbrev pub pixel_bytes : WholePicture → ℕ → ℕ → List ℕ
pixel_bytes pic line column =
    flat_map (λ component. sample_bytes (is_wide pic.shape) (get_or (line_of pic component line) column 0))
    (range_with_len 0 (length pic.shape.ids))

-- the bytes of a row, column by column (Netpbm)
abbrev pub row_bytes : WholePicture → ℕ → List ℕ
row_bytes pic line = flat_map (pixel_bytes pic line) (range_with_len 0 pic.shape.width)

-- the bytes of all rows (Netpbm)
abbrev pub raster : WholePicture → List ℕ
raster pic = flat_map (row_bytes pic) (range_with_len 0 pic.shape.height)

-- the PNM file of a picture: its header and its raster (Netpbm)
abbrev pub pnm : WholePicture → List ℕ
pnm pic = pnm_header pic.shape ++ raster pic
