-- Known copies that are made one by one.
use Rattle.std.proofs.Common.{◌≡◌, ℕ, ◌+◌, ◌<◌, ◌∙◌, Bool, eqb, cond, List, [], ◌∷◌, ◌++◌, length, get_or, map, take, None, refl, sym, ap, subst, arith, Vec, Global}
use Rattle.std.specs.List.{AllZip}
use Rattle.std.specs.Option.{option_or}
use Rattle.std.proofs.lemmas.List.{take_more, take_all, length-map, get_or-map}
use Rattle.jls_bad.specs.Known.{Copy, known_byte, byte_beside, first_there, byte_for, IsKnownCopy}
use Rattle.jls_bad.specs.Copies.{copy_of, copies_of, bytes_in}
use Rattle.jls_bad.specs.Inside.{AreMarked, IsFilled, IsChosen, marked_byte, byte_if_as_long, first_as_long, marked_byte_for}
use Rattle.jls_bad.specs.declared.known.Listed.{Listed}
use Rattle.jls_bad.specs.declared.filling.Marked.{Marked}
use Rattle.jls_bad.proofs.Knowing.{known_from_chosen, filled_as, all_zip_push}

abbrev no_copy : Copy
no_copy = record { bytes = []; places = [] }

as_many : (listed : List Listed) (marked : List Marked) → AreMarked listed marked → length marked ≡ length (copies_of listed)
as_many listed marked are =
    sym (length-map marked (λ (m : Marked). m.bytes.now)) ∙ (ap length are.bytes ∙ (length-map listed (λ (copy : Listed). copy.bytes.now) ∙ sym (length-map listed copy_of)))

same_bytes : (listed : List Listed) (marked : List Marked) (at : ℕ) (m : Marked) → AreMarked listed marked → at < length marked → m ≡ get_or marked at m → m.bytes.now ≡ (get_or (copies_of listed) at no_copy).bytes
same_bytes listed marked at m are h e =
    let count : length marked ≡ length (copies_of listed) = as_many listed marked are in
    ap (λ (x : Marked). x.bytes.now) e
    ∙ (sym (get_or-map (λ (x : Marked). x.bytes.now) marked at m [] h)
    ∙ (ap (λ xs. get_or xs at []) are.bytes
    ∙ (ap (λ xs. get_or xs at []) (map_twice listed)
    ∙ get_or-map (λ (copy : Copy). copy.bytes) (copies_of listed) at no_copy [] (omega (arith, h, count)))))
  where
    map_twice : (xs : List Listed) → map (λ copy. copy.bytes.now) xs ≡ map (λ copy. copy.bytes) (copies_of xs)
    map_twice [] = refl
    map_twice (x ∷ xs) = ap (λ rest. x.bytes.now ∷ rest) (map_twice xs)

same_known : (listed : List Listed) (marked : List Marked) (at : ℕ) (m : Marked) → AreMarked listed marked → at < length marked → m ≡ get_or marked at m → (offset : ℕ) → marked_byte m offset ≡ known_byte (get_or (copies_of listed) at no_copy) offset
same_known listed marked at m are h e offset =
    let count : length marked ≡ length (copies_of listed) = as_many listed marked are in
    ap (λ (x : Marked). marked_byte x offset) e
    ∙ (sym (get_or-map (λ (x : Marked). marked_byte x offset) marked at m None h)
    ∙ (ap (λ xs. get_or xs at None) (are.marks offset)
    ∙ get_or-map (λ (copy : Copy). known_byte copy offset) (copies_of listed) at no_copy None (omega (arith, h, count))))

-- what the marks say of the copies that are as long
same_beside : (copy : Copy) (offset : ℕ) (marked : List Marked) (listed : List Listed) → map (λ m. m.bytes.now) marked ≡ map (λ l. l.bytes.now) listed
    → map (λ m. marked_byte m offset) marked ≡ map (λ other. known_byte other offset) (copies_of listed)
    → map (λ m. byte_if_as_long (length copy.bytes) m offset) marked ≡ map (λ other. byte_beside copy other offset) (copies_of listed)
same_beside copy offset [] [] e f = refl
same_beside copy offset [] (l ∷ listed) e f = absurd (omega (arith, ap length e))
same_beside copy offset (m ∷ marked) [] e f = absurd (omega (arith, ap length e))
same_beside copy offset (m ∷ marked) (l ∷ listed) e f =
    let bytes : m.bytes.now ≡ l.bytes.now = cc in
    let known : marked_byte m offset ≡ known_byte (copy_of l) offset = cc in
    let bytes_behind : map (λ x. x.bytes.now) marked ≡ map (λ x. x.bytes.now) listed = cc in
    let known_behind : map (λ x. marked_byte x offset) marked ≡ map (λ other. known_byte other offset) (copies_of listed) = cc in
    let here : byte_if_as_long (length copy.bytes) m offset ≡ byte_beside copy (copy_of l) offset =
    ap (λ bs. cond (eqb (length bs) (length copy.bytes)) (marked_byte m offset) None) bytes ∙ ap (λ byte. cond (eqb (length l.bytes.now) (length copy.bytes)) byte None) known in
    ap (λ byte. byte ∷ map (λ x. byte_if_as_long (length copy.bytes) x offset) marked) here
    ∙ ap (λ rest. byte_beside copy (copy_of l) offset ∷ rest) (same_beside copy offset marked listed bytes_behind known_behind)

byte_is : (listed : List Listed) (marked : List Marked) (at : ℕ) (m : Marked) → AreMarked listed marked → at < length marked → m ≡ get_or marked at m → (offset : ℕ)
    → marked_byte_for marked m offset ≡ byte_for (copies_of listed) (get_or (copies_of listed) at no_copy) offset
byte_is listed marked at m are h e offset =
    let copy : Copy = get_or (copies_of listed) at no_copy in
    ap (λ byte. option_or byte (first_as_long marked (length m.bytes.now) offset)) (same_known listed marked at m are h e offset)
    ∙ (ap (λ bytes. option_or (known_byte copy offset) (first_as_long marked (length bytes) offset)) (same_bytes listed marked at m are h e)
    ∙ ap (λ bytes. option_or (known_byte copy offset) (first_there bytes)) (same_beside copy offset marked listed are.bytes (are.marks offset)))

-- one known copy more
pub known_more : (listed : List Listed) (marked : List Marked) (at : ℕ) (m : Marked) (bytes : List ℕ) (marks : List Bool) (file : List ℕ) (files : List (List ℕ)) → AreMarked listed marked → at < length marked → m ≡ get_or marked at m
    → IsFilled (marked_byte_for marked m) (length m.bytes.now) bytes marks → IsChosen bytes marks file
    → AllZip (IsKnownCopy (copies_of listed)) (take at (copies_of listed)) files → AllZip (IsKnownCopy (copies_of listed)) (take (at + 1) (copies_of listed)) (files ++ file ∷ [])
known_more listed marked at m bytes marks file files are h e filled chosen before =
    let count : length marked ≡ length (copies_of listed) = as_many listed marked are in
    let copy : Copy = get_or (copies_of listed) at no_copy in
    let here : IsFilled (byte_for (copies_of listed) copy) (length m.bytes.now) bytes marks = filled_as (marked_byte_for marked m) (byte_for (copies_of listed) copy) (length m.bytes.now) bytes marks (byte_is listed marked at m are h e) filled in
    let sized : IsFilled (byte_for (copies_of listed) copy) (length copy.bytes) bytes marks = subst (λ n. IsFilled (byte_for (copies_of listed) copy) n bytes marks) (ap length (same_bytes listed marked at m are h e)) here in
    let P : List Copy → Type 0 = λ copies. AllZip (IsKnownCopy (copies_of listed)) copies (files ++ file ∷ []) in
    subst P (sym (take_more (copies_of listed) at no_copy (omega (arith, h, count))))
    (all_zip_push (IsKnownCopy (copies_of listed)) (take at (copies_of listed)) files copy file before (known_from_chosen (copies_of listed) copy bytes marks file sized chosen))

-- all are made
pub known_all : (listed : List Listed) (marked : List Marked) (at : ℕ) (files : List (List ℕ)) → AreMarked listed marked → at ≡ length marked
    → AllZip (IsKnownCopy (copies_of listed)) (take at (copies_of listed)) files → AllZip (IsKnownCopy (copies_of listed)) (copies_of listed) files
known_all listed marked at files are e all =
    let P : List Copy → Type 0 = λ copies. AllZip (IsKnownCopy (copies_of listed)) copies files in
    subst P (take_all at (copies_of listed) (omega (arith, e, as_many listed marked are))) all

pub bytes_push : (files : List (Vec ℕ Global)) (file : Vec ℕ Global) → bytes_in (files ++ file ∷ []) ≡ bytes_in files ++ file.items ∷ []
bytes_push [] file = refl
bytes_push (f ∷ files) file = ap (λ rest. f.items ∷ rest) (bytes_push files file)
