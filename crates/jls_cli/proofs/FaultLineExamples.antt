-- Fault lines of worked refusals, as both programs print them. The offsets of bad texts were counted by hand, each in a change of the text
-- of a picture of 1x2 samples that ends at byte 31.
use Rattle.std.proofs.Common.{◌≡◌, ◌∷◌, ◌++◌, ℕ, List, [], true, false, refl}
use Rattle.std.specs.Prelude.{codes}
use Rattle.std.specs.Char.{encode_utf8}
use Rattle.std.specs.Str.{chars}
use Rattle.jls_marker.specs.declared.fault.MarkerFault.TheVariants.{NoSoi, Ended}
use Rattle.jls_partial.specs.declared.text_fault.TextFault.{TextFault}
use Rattle.jls_partial.specs.declared.text_fault.TextFault.TheVariants as text_fault
use Rattle.jls_station.specs.declared.input.InputFault.TheVariants as fault
use Rattle.jls_station.specs.declared.input.ReadStop.TheVariants.{Failed}
use Rattle.jls_cli.specs.declared.outcome.Cause.{Cause}
use Rattle.jls_cli.specs.declared.outcome.Cause.TheVariants as cause
use Rattle.jls_cli.specs.FaultLines.{cause_line}
use Rattle.jls_report.proofs.PrintedNumbers.{d0, d1, d3, d4, d5, d6, d16, d18, d19, d29, d30, d31, d33, d60}

-- for this cause at this name a program prints this after its own name
abbrev Prints : List ℕ → List ℕ → Cause → List ℕ → Type 0
Prints program name why said = cause_line program name why ≡ program ++ (codes ": " ++ said)

abbrev Salvage : List ℕ → Cause → List ℕ → Type 0
Salvage = Prints (codes "jls-salvage")

-- inputs that are not read
inputs : Salvage (codes "N") cause.NotOpened (codes "N: cannot be opened\n")
    × Salvage (codes "N") (cause.Input (fault.Read Failed 45)) (codes "N: read failed\n")
unfolding chars encode_utf8
inputs = (refl, refl)

-- copies without a picture
copies : Salvage (codes "N") (cause.Input (fault.NoPicture NoSoi 0)) (codes "N: no picture, fault 18 at 0\n")
    × Salvage (codes "N") (cause.Input (fault.NoPicture Ended 33)) (codes "N: no picture, fault 19 at 33\n")
unfolding chars encode_utf8
copies = (rw (d18, d0) refl, rw (d19, d33) refl)

-- bad texts: another byte 4, a precision of 1, the last byte cut, line 1 before line 0, no reading, readings that do not ascend, a sample
-- above the greatest, one byte more
abbrev BadText : TextFault → List ℕ → Type 0
BadText f said = Salvage (codes "T") (cause.Input (fault.Text f)) (codes "T: bad text, " ++ (said ++ codes "\n"))

texts : BadText (text_fault.Magic 4) (codes "magic at 4") × BadText (text_fault.BadShape 5) (codes "shape at 5")
    × BadText (text_fault.Truncated 30) (codes "truncated at 30") × BadText (text_fault.Place 16) (codes "place at 16")
    × BadText (text_fault.Count 19) (codes "count at 19") × BadText (text_fault.Order 29) (codes "order at 29")
    × BadText (text_fault.Sample 29) (codes "sample at 29") × BadText (text_fault.Trailing 31) (codes "trailing at 31")
unfolding chars encode_utf8
texts = (rw d4 refl, rw d5 refl, rw d30 refl, rw d16 refl, rw d19 refl, rw d29 refl, rw d29 refl, rw d31 refl)

-- a picture of another shape, and files that are not written
pictures : Salvage (codes "U") cause.ShapeDiffers (codes "U: shape differs\n")
    × Salvage (codes "OUT") (cause.Unsettled 1 6 true) (codes "line 6 of component 1 is disputed\n")
    × Salvage (codes "OUT") (cause.Unsettled 1 5 false) (codes "line 5 of component 1 is missing\n")
    × Salvage (codes "OUT") cause.TooLarge (codes "interval too large, give --ri\n")
unfolding chars encode_utf8
pictures = (refl, rw (d6, d1) refl, rw (d5, d1) refl, refl)

-- outputs
outputs : Salvage (codes "OUT") cause.NotCreated (codes "OUT: cannot be created\n")
    × Salvage (codes "OUT") (cause.NotWritten 60) (codes "OUT: write failed after 60 bytes\n")
    × Salvage (codes "-") (cause.NotWritten 0) (codes "-: write failed after 0 bytes\n")
unfolding chars encode_utf8
outputs = (refl, rw d60 refl, rw d0 refl)

-- copies of `jls-splice`, and its outputs with numbers
abbrev Splice : List ℕ → Cause → List ℕ → Type 0
Splice = Prints (codes "jls-splice")

splices : Splice (codes "P") cause.PartialPicture (codes "P: is a partial picture\n")
    × Splice (codes "N") cause.NotRead (codes "N: read failed\n")
    × Splice (codes "N") (cause.NoPicture NoSoi 0) (codes "N: no picture, fault 18 at 0\n")
    × Splice (codes "L") (cause.NoList 18) (codes "L: is no list of bad places, by line 18\n")
    × Splice (codes "A") (cause.FileNotCreated 3) (codes "A-3: cannot be created\n")
    × Splice (codes "A") (cause.FileNotWritten 18 60) (codes "A-18: write failed after 60 bytes\n")
unfolding chars encode_utf8
splices = (refl, refl, rw (d18, d0) refl, rw d18 refl, rw d3 refl, rw (d18, d60) refl)

-- want of memory, in whatever was done
memory : Salvage (codes "OUT") cause.OutOfMemory (codes "out of memory\n")
    × Salvage (codes "N") (cause.Input fault.OutOfMemory) (codes "out of memory\n")
    × Salvage (codes "T") (cause.Input (fault.Text text_fault.OutOfMemory)) (codes "out of memory\n")
unfolding chars encode_utf8
memory = (refl, refl, refl)

-- names with ESC, with LINE FEED, with RIGHT-TO-LEFT OVERRIDE (U+202E) and with a backslash
names : Salvage (0x1B ∷ codes "[2J") cause.NotOpened (codes "\\u{1b}[2J: cannot be opened\n")
    × Salvage (codes "a\njls-salvage: b") cause.NotOpened (codes "a\\u{a}jls-salvage: b: cannot be opened\n")
    × Salvage (97 ∷ 0xE2 ∷ 0x80 ∷ 0xAE ∷ 98 ∷ []) cause.NotOpened (codes "a\\u{202e}b: cannot be opened\n")
    × Salvage (codes "a\\b") cause.NotOpened (codes "a\\\\b: cannot be opened\n")
unfolding chars encode_utf8
names = (refl, refl, refl, refl)
