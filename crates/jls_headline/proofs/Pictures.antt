-- The picture that a station gives, and that a file reads as one picture at most.
use Rattle.std.proofs.Common.{◌≡◌, ℕ, zero, suc, ◌+◌, ◌<◌, List, [], ◌∷◌, map, length, refl, sym, ap, ◌∙◌, subst, arith}
use Rattle.std.specs.Prelude.{get_or}
use Rattle.std.specs.List.{AllByRecursion, range_with_len}
use Rattle.jls_values.specs.Shape.{PictureShape}
use Rattle.jls_partial.specs.Partial.{PartialPicture, readings_at}
use Rattle.jls_partial.specs.Status.{status_of, IsSettled}
use Rattle.jls_write.specs.Picture.{WholePicture, line_of, settled_line}
use Rattle.jls_write.specs.WholePictures.{IsComponentIn, IsPicture}
use Rattle.jls_copy_laws.proofs.CopyScans.{one_list_of_scans}
use Rattle.jls_headline.specs.Damaged.{picture_reading}
use Rattle.jls_headline.specs.ReadsAs.{GivesPicture}
use Rattle.jls_headline.specs.HeadlineLaws.{FilesReadAsOne}

-- a list is determined by its items
listed_by : {A : Type 0} (d : A) (f : ℕ → A) (xs : List A) (from : ℕ) → ((i : ℕ) → i < length xs → f (from + i) ≡ get_or xs i d)
    → map f (range_with_len from (length xs)) ≡ xs
listed_by d f [] from h = refl
listed_by d f (x ∷ xs) from h =
    let here : f from ≡ x = ap f (first from) ∙ h 0 (omega arith) in
    let rest : map f (range_with_len (from + 1) (length xs)) ≡ xs =
    listed_by d f xs (from + 1) (λ i l. ap f (later from i) ∙ h (suc i) (omega (arith, l))) in
    ap (λ y. y ∷ map f (range_with_len (from + 1) (length xs))) here ∙ ap (λ ys. x ∷ ys) rest
  where
    first : (n : ℕ) → n ≡ n + 0
    first n = omega arith

    later : (n i : ℕ) → n + 1 + i ≡ n + suc i
    later n i = omega arith

pub heights : (s : PictureShape) (planes : List (List (List ℕ))) → AllByRecursion (IsComponentIn s) planes → (c : ℕ) → c < length planes
    → length (get_or planes c []) ≡ s.height
heights s [] a c l = absurd (omega (arith, l))
heights s (p ∷ ps) a zero l = a.0.0
heights s (p ∷ ps) a (suc c) l = heights s ps a.1 c (omega (arith, l))

abbrev with_lines : PictureShape → List (List (List ℕ)) → WholePicture
with_lines s lines = record { shape = s; lines = lines }

-- the picture with these lines
pub is_picture_of : (pic : WholePicture) (s : PictureShape) (line : ℕ → ℕ → List ℕ) → IsPicture pic → s ≡ pic.shape
    → ((c y : ℕ) → c < length pic.shape.ids → y < pic.shape.height → line c y ≡ line_of pic c y)
    → with_lines s (map (λ c. map (line c) (range_with_len 0 s.height)) (range_with_len 0 (length s.ids))) ≡ pic
is_picture_of pic s line is e same =
    ap (λ (t : PictureShape). with_lines t (map (λ c. map (line c) (range_with_len 0 t.height)) (range_with_len 0 (length t.ids)))) e
    ∙ ap (with_lines pic.shape)
    (ap (λ n. map (λ c. map (line c) (range_with_len 0 pic.shape.height)) (range_with_len 0 n)) (sym is.components)
    ∙ listed_by [] (λ c. map (line c) (range_with_len 0 pic.shape.height)) pic.lines 0 plane)
  where
    none : (n : ℕ) → 0 + n ≡ n
    none n = omega arith

    plane : (c : ℕ) → c < length pic.lines → map (line (0 + c)) (range_with_len 0 pic.shape.height) ≡ get_or pic.lines c []
    plane c l =
        let high : length (get_or pic.lines c []) ≡ pic.shape.height = heights pic.shape pic.lines is.each c l in
        let inside : c < length pic.shape.ids = subst (λ n. c < n) is.components l in
        ap (λ k. map (line k) (range_with_len 0 pic.shape.height)) (none c)
        ∙ ap (λ n. map (line c) (range_with_len 0 n)) (sym high)
        ∙ listed_by [] (line c) (get_or pic.lines c []) 0 (λ y k. ap (line c) (none y) ∙ same c y inside (subst (λ n. y < n) high k))

-- where each line has the picture's line as its one reading
pub gives_picture : (station : PartialPicture) (pic : WholePicture) → IsPicture pic → station.shape ≡ pic.shape
    → ((c y : ℕ) → c < length pic.shape.ids → y < pic.shape.height → readings_at station c y ≡ line_of pic c y ∷ [])
    → GivesPicture station pic
gives_picture station pic is e one =
    (settled, is_picture_of pic station.shape (settled_line station) is e (λ c y l k. ap (λ xs. get_or xs 0 []) (one c y l k)))
  where
    settled : IsSettled station
    settled c l y k =
        ap status_of (one c y (subst (λ (s : PictureShape). c < length s.ids) e l) (subst (λ (s : PictureShape). y < s.height) e k))

-- a picture is determined by its lines
pub one_picture : (pic other : WholePicture) → IsPicture pic → IsPicture other → pic.shape ≡ other.shape
    → ((c y : ℕ) → c < length pic.shape.ids → y < pic.shape.height → line_of pic c y ≡ line_of other c y) → pic ≡ other
one_picture pic other is is' e same =
    sym (is_picture_of pic pic.shape (line_of pic) is refl (λ c y l k. refl))
    ∙ is_picture_of other pic.shape (line_of pic) is' e
    (λ c y l k. same c y (subst (λ (s : PictureShape). c < length s.ids) (sym e) l) (subst (λ (s : PictureShape). y < s.height) (sym e) k))

pub files_read_as_one : FilesReadAsOne
files_read_as_one file pic other is is' r s =
    one_picture pic other is is' e
    (λ c y l k. ((s.readings (picture_reading pic c y)).0 ((r.readings (picture_reading pic c y)).1 (l, k, refl))).2)
  where
    e : pic.shape ≡ other.shape
    e = (one_list_of_scans file pic.shape other.shape r.shape.0 s.shape.0 r.shape.1 s.shape.1).0
