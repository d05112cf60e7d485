-- A line of each kind of part, as it is printed: a text, a name with ESC in it, and a number.
use Rattle.std.proofs.Common.{◌≡◌, ℕ, List, [], ◌∷◌, refl, lit<}
use Rattle.std.specs.Borrow.{Bor}
use Rattle.std.specs.Prelude.{codes, decimal}
use Rattle.std.specs.Char.{encode_utf8}
use Rattle.std.specs.Str.{chars}
use Rattle.std.proofs.lemmas.Fmt.{decimal-digits_of}
use Rattle.jls_io.specs.Lines.{line_of}
use Rattle.jls_io.specs.declared.line.LinePart.TheVariants.{Text, Name, Number}

-- a text or a name
abbrev given : List ℕ → Bor (List ℕ)
given text = record { ref_ptr = (0, 0); now = text }

d18 : decimal 18 ≡ codes "18"
d18 = decimal-digits_of 18 (lit< tt) (lit< tt)

-- the newline is added
each_part : line_of (Text (given (codes "of ")) ∷ Name (given (0x1B ∷ codes "N")) ∷ Text (given (codes "\\: ")) ∷ Number 18 ∷ [])
    ≡ codes "of \\u{1b}N\\: 18\n"
unfolding chars encode_utf8
each_part = rw d18 refl

no_part : line_of [] ≡ codes "\n"
no_part = refl
