-- A field that is read is the field that was written, and what was written is read again.
use Rattle.std.proofs.Common.{◌≡◌, ℕ, suc, ◌+◌, ◌^◌, ◌<◌, ◌≤◌, Bool, true, false, cond, ltb, eqb, List, [], ◌∷◌, ◌++◌, length, get_or}
use Rattle.std.proofs.Common.{take, drop, Option, Some, None, Result, Ok, Err, refl, sym, ap, subst, ◌∙◌, append_assoc, arith, inl, inr}
use Rattle.std.specs.Int.{Width, w16, w32, w64, byte_len, from_be_bytes, to_be_bytes}
use Rattle.std.specs.List.{AllByRecursion}
use Rattle.std.proofs.lemmas.Bool.{cases_lt, ltb-false, eqb-true, eq-eqb, le-ltb}
use Rattle.std.proofs.lemmas.List.{take_at, drop_at, take-append-drop, length-append, length-take, get_or-drop, get_or-take, get_or_past}
use Rattle.std.proofs.lemmas.Nat.{be_bytes_2, be_bytes_4, be_bytes_8, from_be_bytes-to_be_bytes_2, from_be_bytes-to_be_bytes_4}
use Rattle.std.proofs.lemmas.Nat.{from_be_bytes-to_be_bytes_8}
use Rattle.jls_values.specs.Shape.{PictureShape, IsShape, has_repeat}
use Rattle.jls_values.specs.ShapeOf.{size_fault, unless_fault, shape_of}
use Rattle.jls_values.specs.declared.shape.ShapeFault.{ShapeFault}
use Rattle.jls_values.specs.declared.shape.ShapeFault.TheVariants.{RepeatedId}
use Rattle.jls_values.proofs.ShapeRanges.{sizes_in_range, no_size_fault}
use Rattle.jls_partial.specs.declared.text_fault.TextFault.{TextFault}
use Rattle.jls_partial.specs.declared.text_fault.TextFault.TheVariants as fault
use Rattle.jls_partial.specs.declared.version.Version.{Version}
use Rattle.jls_partial.specs.declared.version.Version.TheVariants.{One, Two}
use Rattle.jls_partial.specs.Text.{version_byte, shape_text}
use Rattle.jls_partial.specs.TextReading.{◌>>=◌, offset, byte_field, bytes_field, number_field, magic_field, version_field}
use Rattle.jls_partial.specs.TextReading.{unless_bad_shape, shape_or_fault, shape_fields}

abbrev pub IsBytes : List ℕ → Type 0
IsBytes bytes = (i : ℕ) → get_or bytes i 0 < 256

IsBytes-drop : (n : ℕ) (bytes : List ℕ) → IsBytes bytes → IsBytes (drop n bytes)
IsBytes-drop n bytes h i = rw get_or-drop (h (n + i))

IsBytes-take : (n : ℕ) (bytes : List ℕ) → IsBytes bytes → IsBytes (take n bytes)
IsBytes-take n bytes h i =
    elim (cases_lt i n) [
      | inl lt ↦ rw (get_or-take n bytes i 0 lt) (h i)
      | inr le ↦ rw (get_or_past (take n bytes) i 0 (omega (arith, length-take n bytes))) (omega arith)
    ]

IsBytes-rest : (b : ℕ) (bytes : List ℕ) → IsBytes (b ∷ bytes) → IsBytes bytes
IsBytes-rest b bytes h i = h (suc i)

each_byte : (bytes : List ℕ) → IsBytes bytes → AllByRecursion (λ b. b < 256) bytes
each_byte [] h = tt
each_byte (b ∷ bytes) h = (h 0, each_byte bytes (IsBytes-rest b bytes h))

-- the value of a step that did not fail
pub bind_ok : {A B : Type 0} (r : Result A TextFault) (f : A → Result B TextFault) (y : B) → (r >>= f) ≡ Ok y
    → (x : A) × (r ≡ Ok x) × (f x ≡ Ok y)
bind_ok (Ok x) f y e = (x, refl, e)
bind_ok (Err d) f y e = absurd cc

-- a test that did not fail
pub guard_ok : {A : Type 0} (b : Bool) (d : TextFault) (x y : A) → cond b (Err d) (Ok x) ≡ Ok y → (b ≡ false) × (x ≡ y)
guard_ok true d x y e = absurd cc
guard_ok false d x y e = (refl, cc)

-- a test that had to pass
pub passed_ok : {A : Type 0} (b : Bool) (d : TextFault) (x y : A) → cond b (Ok x) (Err d) ≡ Ok y → (b ≡ true) × (x ≡ y)
passed_ok true d x y e = (refl, cc)
passed_ok false d x y e = absurd cc

abbrev done : {A : Type 0} → A → Result A TextFault
done x = Ok x

pub ok_is : {A : Type 0} (x y : A) → done x ≡ done y → x ≡ y
ok_is x y e = cc

-- what a reader took from the start
pub record Takes (bytes text rest : List ℕ) : Type 0 where
  pub parts : bytes ≡ text ++ rest
  -- what is left of bytes is bytes
  pub rest_fits : IsBytes rest

pub Takes-then : (a x b y c : List ℕ) → Takes a x b → Takes b y c → Takes a (x ++ y) c
Takes-then a x b y c p q = record {
  parts = p.parts ∙ ap (λ (t : List ℕ). x ++ t) q.parts ∙ sym (append_assoc x y c);
  rest_fits =
      q.rest_fits;
}

-- ---- numbers

pub record IsWide (w : Width) (limit : ℕ) : Type 0 where
  pub len : (n : ℕ) → length (to_be_bytes w n) ≡ byte_len w
  pub back : (bytes : List ℕ) → length bytes ≡ byte_len w → IsBytes bytes → to_be_bytes w (from_be_bytes w bytes) ≡ bytes
  pub again : (n : ℕ) → n < limit → from_be_bytes w (to_be_bytes w n) ≡ n
  pub below : (bytes : List ℕ) → IsBytes bytes → from_be_bytes w bytes < limit

pub wide16 : IsWide w16 (2 ^ 16)
wide16 = record {
  len = λ n. refl;
  back = λ bytes len fits. be_bytes_2 bytes _ len fits refl;
  again = λ n lt. from_be_bytes-to_be_bytes_2 n lt;
  below = λ bytes fits. omega (arith, fits 0, fits 1);
}

pub wide32 : IsWide w32 (2 ^ 32)
wide32 = record {
  len = λ n. refl;
  back = λ bytes len fits. be_bytes_4 bytes _ len fits refl;
  again = λ n lt. from_be_bytes-to_be_bytes_4 n lt;
  below = λ bytes fits. omega (arith, fits 0, fits 1, fits 2, fits 3);
}

pub wide64 : IsWide w64 (2 ^ 64)
wide64 = record {
  len = λ n. refl;
  back = λ bytes len fits. be_bytes_8 bytes _ len fits refl;
  again = λ n lt. from_be_bytes-to_be_bytes_8 n lt;
  below = λ bytes fits. omega (arith, fits 0, fits 1, fits 2, fits 3, fits 4, fits 5, fits 6, fits 7);
}

-- a number that is read has its bytes as its text, and is below its limit
pub number_takes : (size : ℕ) (w : Width) (limit : ℕ) (wide : IsWide w limit) (bytes : List ℕ) (n : ℕ) (rest : List ℕ) → IsBytes bytes
    → number_field size w bytes ≡ Ok (n, rest) → Takes bytes (to_be_bytes w n) rest × (n < limit)
number_takes size w limit wide bytes n rest fits e =
    let g = guard_ok (ltb (length bytes) (byte_len w)) (fault.Truncated size)
    (from_be_bytes w (take (byte_len w) bytes), drop (byte_len w) bytes) (n, rest) e in
    let long : byte_len w ≤ length bytes = ltb-false _ _ g.0 in
    let n-is : from_be_bytes w (take (byte_len w) bytes) ≡ n = ap (λ (p : ℕ × List ℕ). p.0) g.1 in
    let rest-is : drop (byte_len w) bytes ≡ rest = ap (λ (p : ℕ × List ℕ). p.1) g.1 in
    let prefix : to_be_bytes w n ≡ take (byte_len w) bytes =
    rw (← n-is) (wide.back (take (byte_len w) bytes) (omega (arith, length-take (byte_len w) bytes))
    (IsBytes-take (byte_len w) bytes fits)) in (
      record {
        parts = rw (prefix, ← rest-is) (sym (take-append-drop (byte_len w) bytes));
        rest_fits =
            rw (← rest-is) (IsBytes-drop (byte_len w) bytes fits);
      },
      rw (← n-is) (wide.below (take (byte_len w) bytes) (IsBytes-take (byte_len w) bytes fits)),
    )

-- a number that was written is read again, whatever follows
pub number_again : (size : ℕ) (w : Width) (limit : ℕ) (wide : IsWide w limit) (n : ℕ) (rest : List ℕ) → n < limit
    → number_field size w (to_be_bytes w n ++ rest) ≡ Ok (n, rest)
number_again size w limit wide n rest lt =
    let len = wide.len n in
    let long : ltb (length (to_be_bytes w n ++ rest)) (byte_len w) ≡ false =
    le-ltb _ _ (omega (arith, length-append (to_be_bytes w n) rest)) in
    rw (long, take_at (to_be_bytes w n) rest (byte_len w) len, drop_at (to_be_bytes w n) rest (byte_len w) len, wide.again n lt) refl

-- ---- bytes

-- a byte that is read stands there
pub byte_takes : (size : ℕ) (bytes : List ℕ) (b : ℕ) (rest : List ℕ) → IsBytes bytes → byte_field size bytes ≡ Ok (b, rest)
    → Takes bytes (b ∷ []) rest × (b < 256)
unfolding byte_field
byte_takes size [] b rest fits e = absurd cc
byte_takes size (x ∷ bytes) b rest fits e =
    subst (λ (y : ℕ × List ℕ). Takes (x ∷ bytes) (y.0 ∷ []) y.1 × (y.0 < 256)) (ok_is (x, bytes) (b, rest) e)
    (record { parts = refl; rest_fits = IsBytes-rest x bytes fits }, fits 0)

pub byte_again : (size b : ℕ) (rest : List ℕ) → byte_field size (b ∷ rest) ≡ Ok (b, rest)
unfolding byte_field
byte_again size b rest = refl

-- bytes that are read are those that stand there, as many as were asked for
pub bytes_take : (size n : ℕ) (bytes xs rest : List ℕ) → IsBytes bytes → bytes_field size n bytes ≡ Ok (xs, rest)
    → Takes bytes xs rest × (length xs ≡ n) × AllByRecursion (λ b. b < 256) xs
unfolding bytes_field
bytes_take size n bytes xs rest fits e =
    let g = guard_ok (ltb (length bytes) n) (fault.Truncated size) (take n bytes, drop n bytes) (xs, rest) e in
    let long : n ≤ length bytes = ltb-false _ _ g.0 in
    let len : length (take n bytes) ≡ n = omega (arith, length-take n bytes) in
    subst (λ (y : List ℕ × List ℕ). Takes bytes y.0 y.1 × (length y.0 ≡ n) × AllByRecursion (λ b. b < 256) y.0) g.1 (
      record { parts = sym (take-append-drop n bytes); rest_fits = IsBytes-drop n bytes fits },
      len,
      each_byte (take n bytes) (IsBytes-take n bytes fits),
    )

pub bytes_again : (size : ℕ) (xs rest : List ℕ) → bytes_field size (length xs) (xs ++ rest) ≡ Ok (xs, rest)
unfolding bytes_field
bytes_again size xs rest =
    let long : ltb (length (xs ++ rest)) (length xs) ≡ false = le-ltb _ _ (omega (arith, length-append xs rest)) in
    rw (long, take_at xs rest (length xs) refl, drop_at xs rest (length xs) refl) refl

-- what is read after a byte of the magic
abbrev pub magic_then : ℕ → ℕ → List ℕ → List ℕ → ℕ × List ℕ → Result (List ℕ) TextFault
magic_then size wanted others bytes first =
    cond (eqb first.0 wanted) (magic_field size others first.1) (Err (fault.Magic (offset size bytes)))

-- the test of a byte of the magic did not fail
wanted_ok : (b : Bool) (read : Result (List ℕ) TextFault) (d : TextFault) (rest : List ℕ) → cond b read (Err d) ≡ Ok rest
    → (b ≡ true) × (read ≡ Ok rest)
wanted_ok true read d rest e = (refl, e)
wanted_ok false read d rest e = absurd cc

-- where the magic is read, these bytes stand there
pub magic_takes : (size : ℕ) (wanted bytes rest : List ℕ) → IsBytes bytes → magic_field size wanted bytes ≡ Ok rest
    → Takes bytes wanted rest
unfolding magic_field
magic_takes size [] bytes rest fits e =
    subst (λ (y : List ℕ). Takes bytes [] y) (ok_is bytes rest e) (record { parts = refl; rest_fits = fits })
magic_takes size (wanted ∷ others) bytes rest fits e =
    let a = bind_ok (byte_field size bytes) (magic_then size wanted others bytes) rest e in
    let g = wanted_ok (eqb a.0.0 wanted) (magic_field size others a.0.1) (fault.Magic (offset size bytes)) rest a.2 in
    let first = byte_takes size bytes a.0.0 a.0.1 fits a.1 in
    let second = magic_takes size others a.0.1 rest first.0.rest_fits g.1 in
    subst (λ (b : ℕ). Takes bytes (b ∷ others) rest) (eqb-true a.0.0 wanted g.0)
    (Takes-then bytes (a.0.0 ∷ []) a.0.1 others rest first.0 second)

pub magic_again : (size : ℕ) (wanted rest : List ℕ) → magic_field size wanted (wanted ++ rest) ≡ Ok rest
unfolding magic_field
magic_again size [] rest = refl
magic_again size (first ∷ others) rest = rw (byte_again size first (others ++ rest), eq-eqb first first refl) (magic_again size others rest)

-- ---- the version

-- where the version is told by two tests, its byte is the one that was read
version_takes_one : (n : ℕ) (a b : Bool) (d : TextFault) (rest : List ℕ) (x : Version × List ℕ) → eqb n 1 ≡ a → eqb n 2 ≡ b
    → cond a (Ok (One, rest)) (cond b (Ok (Two, rest)) (Err d)) ≡ Ok x → (version_byte x.0 ≡ n) × (rest ≡ x.1)
version_takes_one n true b d rest x e f h =
    let same = ok_is (One, rest) x h in
    (sym (ap (λ (y : Version × List ℕ). version_byte y.0) same) ∙ sym (eqb-true n 1 e), ap (λ (y : Version × List ℕ). y.1) same)
version_takes_one n false true d rest x e f h =
    let same = ok_is (Two, rest) x h in
    (sym (ap (λ (y : Version × List ℕ). version_byte y.0) same) ∙ sym (eqb-true n 2 f), ap (λ (y : Version × List ℕ). y.1) same)
version_takes_one n false false d rest x e f h = absurd cc

-- a version that is read has its byte there
pub version_takes : (size : ℕ) (bytes : List ℕ) (x : Version × List ℕ) → IsBytes bytes → version_field size bytes ≡ Ok x
    → Takes bytes (version_byte x.0 ∷ []) x.1
unfolding version_field
version_takes size bytes x fits e =
    let b = bind_ok (byte_field size bytes)
    (λ byte. cond (eqb byte.0 1) (Ok (One, byte.1)) (cond (eqb byte.0 2) (Ok (Two, byte.1)) (Err (fault.Magic (offset size bytes))))) x
    e in
    let t = byte_takes size bytes b.0.0 b.0.1 fits b.1 in
    let v = version_takes_one b.0.0 (eqb b.0.0 1) (eqb b.0.0 2) (fault.Magic (offset size bytes)) b.0.1 x refl refl b.2 in
    subst (λ (n : ℕ). Takes bytes (n ∷ []) x.1) (sym v.0) (subst (λ (r : List ℕ). Takes bytes (b.0.0 ∷ []) r) v.1 t.0)

pub version_again : (size : ℕ) (version : Version) (rest : List ℕ) → version_field size (version_byte version ∷ rest) ≡ Ok (version, rest)
unfolding version_field byte_field
version_again size One rest = refl
version_again size Two rest = refl

-- ---- the shape

judged_ok : {A : Type 0} (o : Option ShapeFault) (x y : A) → unless_bad_shape o x ≡ Ok y → (o ≡ None) × (x ≡ y)
judged_ok None x y e = (refl, cc)
judged_ok (Some f) x y e = absurd cc

-- a shape that is no fault of the text was made
made_ok : (r : Result PictureShape ShapeFault) (s : PictureShape) → shape_or_fault r ≡ Ok s → r ≡ Ok s
made_ok (Ok t) s e = ap (λ (s : PictureShape). Ok s) (ok_is t s e)
made_ok (Err f) s e = absurd cc

abbrev four : ℕ → ℕ → ℕ → List ℕ → PictureShape
four p x y ids = record { precision = p; width = x; height = y; ids = ids }

-- a shape that is made has no identifier twice, and is of the given values
shape_made : (p x y : ℕ) (ids : List ℕ) (s : PictureShape) → shape_of p x y ids ≡ Ok s → (has_repeat ids ≡ false) × (four p x y ids ≡ s)
shape_made p x y ids s e =
    elim (size_fault p x y (length ids)) as (λ (o : Option ShapeFault). unless_fault o
    (cond (has_repeat ids) (Err RepeatedId) (Ok (four p x y ids))) ≡ Ok s → (has_repeat ids ≡ false) × (four p x y ids ≡ s)) [
      | None ↦ λ h. no_repeat (has_repeat ids) h
      | Some f ↦ λ h. absurd cc
    ] e
  where
    no_repeat : (b : Bool) → cond b (Err RepeatedId) (Ok (four p x y ids)) ≡ Ok s → (b ≡ false) × (four p x y ids ≡ s)
    no_repeat true h = absurd cc
    no_repeat false h = (refl, cc)

abbrev after_ids : ℕ → ℕ → ℕ → List ℕ × List ℕ → Result (PictureShape × List ℕ) TextFault
after_ids p x y ids = shape_or_fault (shape_of p x y ids.0) >>= λ shape. Ok (shape, ids.1)

abbrev after_sizes : ℕ → ℕ → ℕ → ℕ → ℕ → List ℕ → Result (PictureShape × List ℕ) TextFault
after_sizes size p x y n bytes = bytes_field size n bytes >>= after_ids p x y

abbrev after_count : ℕ → ℕ → ℕ → ℕ → ℕ × List ℕ → Result (PictureShape × List ℕ) TextFault
after_count size p x y n = unless_bad_shape (size_fault p x y n.0) n.1 >>= after_sizes size p x y n.0

abbrev after_height : ℕ → ℕ → ℕ → ℕ × List ℕ → Result (PictureShape × List ℕ) TextFault
after_height size p x y = byte_field size y.1 >>= after_count size p x y.0

abbrev after_width : ℕ → ℕ → ℕ × List ℕ → Result (PictureShape × List ℕ) TextFault
after_width size p x = number_field size w16 x.1 >>= after_height size p x.0

abbrev after_precision : ℕ → ℕ × List ℕ → Result (PictureShape × List ℕ) TextFault
after_precision size p = number_field size w16 p.1 >>= after_width size p.0

-- a shape that is read has its bytes as its text, and is in its ranges
pub shape_takes : (size : ℕ) (bytes : List ℕ) (shape : PictureShape) (rest : List ℕ) → IsBytes bytes
    → shape_fields size bytes ≡ Ok (shape, rest) → Takes bytes (shape_text shape) rest × IsShape shape
unfolding shape_fields
shape_takes size bytes shape rest fits e =
    let p = bind_ok (byte_field size bytes) (after_precision size) (shape, rest) e in
    let x = bind_ok (number_field size w16 p.0.1) (after_width size p.0.0) (shape, rest) p.2 in
    let y = bind_ok (number_field size w16 x.0.1) (after_height size p.0.0 x.0.0) (shape, rest) x.2 in
    let n = bind_ok (byte_field size y.0.1) (after_count size p.0.0 x.0.0 y.0.0) (shape, rest) y.2 in
    let j = bind_ok (unless_bad_shape (size_fault p.0.0 x.0.0 y.0.0 n.0.0) n.0.1) (after_sizes size p.0.0 x.0.0 y.0.0 n.0.0) (shape, rest)
    n.2 in
    let g = judged_ok (size_fault p.0.0 x.0.0 y.0.0 n.0.0) n.0.1 j.0 j.1 in
    let i = bind_ok (bytes_field size n.0.0 j.0) (after_ids p.0.0 x.0.0 y.0.0) (shape, rest) j.2 in
    let s = bind_ok (shape_or_fault (shape_of p.0.0 x.0.0 y.0.0 i.0.0)) (λ shape. Ok (shape, i.0.1)) (shape, rest) i.2 in
    let t0 = byte_takes size bytes p.0.0 p.0.1 fits p.1 in
    let t1 = number_takes size w16 (2 ^ 16) wide16 p.0.1 x.0.0 x.0.1 t0.0.rest_fits x.1 in
    let t2 = number_takes size w16 (2 ^ 16) wide16 x.0.1 y.0.0 y.0.1 t1.0.rest_fits y.1 in
    let t3 = byte_takes size y.0.1 n.0.0 n.0.1 t2.0.rest_fits n.1 in
    let t4 = bytes_take size n.0.0 j.0 i.0.0 i.0.1 (subst IsBytes {x = n.0.1} {y = j.0} g.1 t3.0.rest_fits) i.1 in
    let made = shape_made p.0.0 x.0.0 y.0.0 i.0.0 s.0 (made_ok (shape_of p.0.0 x.0.0 y.0.0 i.0.0) s.0 s.1) in
    let sizes = sizes_in_range p.0.0 x.0.0 y.0.0 n.0.0 g.0 in
    let count : length i.0.0 ≡ n.0.0 = t4.1 in
    let e34 = Takes-then y.0.1 (n.0.0 ∷ []) n.0.1 i.0.0 i.0.1 t3.0
    (subst (λ (b : List ℕ). Takes b i.0.0 i.0.1) {x = j.0} {y = n.0.1} (sym g.1) t4.0) in
    let e24 = Takes-then x.0.1 (to_be_bytes w16 y.0.0) y.0.1 (n.0.0 ∷ i.0.0) i.0.1 t2.0 e34 in
    let e14 = Takes-then p.0.1 (to_be_bytes w16 x.0.0) x.0.1 (to_be_bytes w16 y.0.0 ++ n.0.0 ∷ i.0.0) i.0.1 t1.0 e24 in
    let e04 = Takes-then bytes (p.0.0 ∷ []) p.0.1 (to_be_bytes w16 x.0.0 ++ to_be_bytes w16 y.0.0 ++ n.0.0 ∷ i.0.0) i.0.1 t0.0 e14 in
    let whole : Takes bytes (shape_text (four p.0.0 x.0.0 y.0.0 i.0.0)) i.0.1 =
    subst (λ (k : ℕ). Takes bytes (p.0.0 ∷ to_be_bytes w16 x.0.0 ++ to_be_bytes w16 y.0.0 ++ k ∷ i.0.0) i.0.1) {x = n.0.0}
    {y = length i.0.0} (sym count) e04 in
    let is : IsShape (four p.0.0 x.0.0 y.0.0 i.0.0) = record {
      precision_at_least = sizes.0.0;
      precision_at_most = sizes.0.1;
      width_at_least = sizes.1.0;
      width_below = t1.1;
      height_at_least = sizes.1.1;
      height_below = t2.1;
      ids_at_least = let k = sizes.2.0 in omega (arith, count, k);
      ids_at_most = let k = sizes.2.1 in omega (arith, count, k);
      ids_are_bytes = t4.2;
      ids_differ = made.0;
    } in
    subst (λ (y : PictureShape × List ℕ). Takes bytes (shape_text y.0) y.1 × IsShape y.0) {x = (s.0, i.0.1)}
    (ok_is (s.0, i.0.1) (shape, rest) s.2)
    (subst (λ (z : PictureShape). Takes bytes (shape_text z) i.0.1 × IsShape z) {x = four p.0.0 x.0.0 y.0.0 i.0.0} {y = s.0} made.1
    (whole, is))

-- a shape that was written is read again, whatever follows
pub shape_again : (size : ℕ) (shape : PictureShape) (rest : List ℕ) → IsShape shape
    → shape_fields size (shape_text shape ++ rest) ≡ Ok (shape, rest)
unfolding shape_fields
shape_again size shape rest is =
    let x = to_be_bytes w16 shape.width in
    let y = to_be_bytes w16 shape.height in
    let ids = length shape.ids ∷ shape.ids in
    let regrouped : shape_text shape ++ rest ≡ shape.precision ∷ (x ++ (y ++ (length shape.ids ∷ (shape.ids ++ rest)))) =
    ap (λ (t : List ℕ). shape.precision ∷ t) (append_assoc (x ++ y) ids rest ∙ append_assoc x y (ids ++ rest)) in
    let none = no_size_fault shape.precision shape.width shape.height (length shape.ids) is.precision_at_least is.precision_at_most
    is.width_at_least is.height_at_least is.ids_at_least is.ids_at_most in
    let differ = is.ids_differ in
    ap (shape_fields size) regrouped
    ∙ rw (
      byte_again size shape.precision (x ++ (y ++ (length shape.ids ∷ (shape.ids ++ rest)))),
      number_again size w16 (2 ^ 16) wide16 shape.width (y ++ (length shape.ids ∷ (shape.ids ++ rest))) is.width_below,
      number_again size w16 (2 ^ 16) wide16 shape.height (length shape.ids ∷ (shape.ids ++ rest)) is.height_below,
      byte_again size (length shape.ids) (shape.ids ++ rest),
      none,
      bytes_again size shape.ids rest,
      none,
      differ,
    ) refl
