-- How an output is made, and what becomes of it and of the file that had its name.
use Rattle.std.specs.Prelude.{◌==◌, ◌&&◌, ◌||◌, ℕ, Bool, true, false, if◌then◌else◌, not, List, get_or}
use Rattle.jls_host.specs.declared.choice.Guard.{Guard}
use Rattle.jls_host.specs.declared.choice.Guard.TheVariants as guard
use Rattle.jls_host.specs.declared.choice.Kind.{Kind}
use Rattle.jls_host.specs.declared.choice.Kind.TheVariants as kind
use Rattle.jls_host.specs.declared.choice.Standing.{Standing}
use Rattle.jls_host.specs.declared.choice.Standing.TheVariants.{Absent, Regular, Other}
use Rattle.jls_host.specs.declared.choice.Way.{Way}
use Rattle.jls_host.specs.declared.choice.Way.TheVariants.{Beside, InPlace, Over, Refused}
use Rattle.jls_host.specs.declared.choice.Ending.{Ending}
use Rattle.jls_host.specs.declared.choice.Ending.TheVariants.{Keep, Drop}

-- how an output is made. A protected file is left alone. If nothing has the name, or a regular file that opens for writing, a file beside
-- it is made. A regular file that does not open is left alone. All else is written at its name; where that leads to a precious file, if it
-- opens, and when the file beside it is whole
abbrev pub way_of : Standing → Bool → Bool → Bool → Way
way_of standing opens true is_precious = Refused
way_of Absent opens false is_precious = Beside
way_of (Regular mode) true false is_precious = Beside
way_of (Regular mode) false false is_precious = Refused
way_of Other opens false false = InPlace
way_of Other true false true = Over
way_of Other false false true = Refused

-- which files are left alone: those whose first bytes can't be read, and JPEG files where they are guarded
abbrev pub protects : Guard → Kind → Bool
protects g kind.Unknown = true
protects guard.Jpeg kind.Jpeg = true
protects guard.Nothing kind.Jpeg = false
protects g kind.NoFile = false
protects g kind.Partial = false
protects g kind.Other = false

-- which files are kept under another name: partial pictures that are no inputs
abbrev pub is_precious : Kind → Bool → Bool
is_precious kind.Partial is_input = not is_input
is_precious _ is_input = false

-- what gives way to a file that is kept: nothing, or a regular file that is a partial picture and no input
abbrev pub can_go : Standing → Kind → Bool → Bool
can_go Absent k is_input = true
can_go (Regular mode) k is_input = is_precious k is_input
can_go Other k is_input = false

-- what becomes of a file beside an output: it is kept if no write failed and the status is not 5, which says that memory ran out. Else it
-- is removed
abbrev pub ending_of : ℕ → ℕ → Ending
ending_of status write_failures = if (write_failures == 0) && not (status == 5) then Keep else Drop

-- two bytes are FF D8, or FF FF (T.81 B.1.1.2, B.2.1)
abbrev pub is_jpeg_prefix : ℕ → ℕ → Bool
is_jpeg_prefix first second = (first == 0xFF) && ((second == 0xD8) || (second == 0xFF))

-- four bytes are JLSP, in ASCII: the first of a partial picture
abbrev pub is_magic : ℕ → ℕ → ℕ → ℕ → Bool
is_magic first second third fourth = (first == 0x4A) && ((second == 0x4C) && ((third == 0x53) && (fourth == 0x50)))

-- the kind of a regular file by its first four bytes
abbrev pub kind_of : ℕ → ℕ → ℕ → ℕ → Kind
kind_of first second third fourth =
    if is_jpeg_prefix first second then kind.Jpeg else (if is_magic first second third fourth then kind.Partial else kind.Other)

-- the kind of a regular file of these bytes: a byte that it doesn't have counts as zero
abbrev pub kind_of_bytes : List ℕ → Kind
kind_of_bytes bytes = kind_of (get_or bytes 0 0) (get_or bytes 1 0) (get_or bytes 2 0) (get_or bytes 3 0)
