-- Members of the lists that the code holds.
use Rattle.std.proofs.Common.{◌≡◌, ℕ, zero, suc, ◌<◌, ◌||◌, Bool, true, false, List, [], ◌∷◌, length, get_or, Bor, refl, ap, ◌∙◌, arith}
use Rattle.std.proofs.Common.{inl, inr}
use Rattle.std.specs.Str.{bytes_eq}
use Rattle.jls_station.specs.CopyFiles.{copies_of}
use Rattle.jls_station.specs.declared.copy.CopyFile.{CopyFile}
use Rattle.jls_diff.specs.PartsOf.{bytes_of}
use Rattle.jls_station.specs.declared.input.ReadStop.TheVariants.{Whole}
use Rattle.jls_search.specs.Shapes.{IsCopyNamed}
use Rattle.jls_splice_run.specs.Copies.{AreWhole, bytes_read, stops_read}
use Rattle.jls_splice_run.specs.Files.{is_copy}
use Rattle.jls_splice_run.specs.Tasks.{texts_of}

or_true : (b : Bool) → true ≡ (b || true)
or_true true = refl
or_true false = refl

-- a copy with the bytes of the file
pub is_copy_at : (slices : List (Bor (List ℕ))) (file : List ℕ) (i : ℕ) (d : Bor (List ℕ)) → i < length slices
    → true ≡ bytes_eq (get_or slices i d).now file → true ≡ is_copy (bytes_of slices) file
is_copy_at [] file i d l e = absurd (omega (arith, l))
is_copy_at (s ∷ ss) file zero d l e = ap (λ b. b || is_copy (bytes_of ss) file) e
is_copy_at (s ∷ ss) file (suc i) d l e =
    or_true (bytes_eq s.now file) ∙ ap (λ b. bytes_eq s.now file || b) (is_copy_at ss file i d (omega (arith, l)) e)

-- each of whole copies is whole
pub whole_at : (copies : List CopyFile) (i : ℕ) (v d : CopyFile) → i < length copies → v ≡ get_or copies i d → AreWhole (copies_of copies)
    → v.stop ≡ Whole
whole_at [] i v d l e w = absurd (omega (arith, l))
whole_at (c ∷ cs) zero v d l e w = ap (λ (x : CopyFile). x.stop) e ∙ w.0
whole_at (c ∷ cs) (suc i) v d l e w = whole_at cs i v d (omega (arith, l)) e w.1

-- the first copy, and the first name
pub first_stop : (copies : List CopyFile) (d : CopyFile) → 0 < length copies
    → (get_or copies 0 d).stop ≡ get_or (stops_read (copies_of copies)) 0 Whole
first_stop [] d l = absurd (omega (arith, l))
first_stop (c ∷ cs) d l = refl

pub name_at : (names : List (Bor (List ℕ))) (i : ℕ) (d : Bor (List ℕ)) → i < length names → (get_or names i d).now
    ≡ get_or (texts_of names) i []
name_at [] i d l = absurd (omega (arith, l))
name_at (n ∷ ns) zero d l = refl
name_at (n ∷ ns) (suc i) d l = name_at ns i d (omega (arith, l))

-- as many are read as there are copies
pub count_read : (copies : List CopyFile) → length (bytes_read (copies_of copies)) ≡ length copies
count_read [] = refl
count_read (c ∷ cs) = ap suc (count_read cs)

-- a copy that is named is one of those that were read
pub named_within : (copies : List CopyFile) (read : List (List ℕ)) (copy : ℕ) → read ≡ bytes_read (copies_of copies) → 0 < length copies
    → IsCopyNamed read copy → copy < length copies
named_within copies read copy e some (inl other) = omega (arith, other.within, ap length e, count_read copies)
named_within copies read copy e some (inr (none, zero_is)) = omega (arith, zero_is, some)
