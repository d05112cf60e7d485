-- Texts as their heads and what stands after these, and what reading one into a partial picture gives.
use Rattle.std.proofs.Common.{◌≡◌, ℕ, Bool, true, false, cond, eqb, List, ◌∷◌, ◌++◌, None, Result, Ok, Err, refl, ap, sym, subst, ◌∙◌}
use Rattle.std.proofs.Common.{length, append_assoc}
use Rattle.std.specs.Int.{w32}
use Rattle.jls_values.specs.Join.{IsBetween}
use Rattle.jls_values.specs.SameShape.{same_shape}
use Rattle.jls_values.specs.Shape.{PictureShape, IsShape}
use Rattle.jls_partial.specs.declared.text_fault.TextFault.{TextFault}
use Rattle.jls_partial.specs.declared.text_fault.TextFault.TheVariants as fault
use Rattle.jls_partial.specs.declared.version.Version.{Version}
use Rattle.jls_partial.specs.Entries.{Entry, kept_readings, partial_of}
use Rattle.jls_partial.specs.Merging.{TakesPrefix}
use Rattle.jls_partial.specs.Partial.{PartialPicture, nothing_known, union, with_all}
use Rattle.jls_partial.specs.PartialLaws.{shape_itself}
use Rattle.jls_partial.specs.Text.{magic, version_byte, shape_text, head_text, IsTextOf}
use Rattle.jls_partial.specs.TextPrefix.{unless_fault, entries_prefix, text_prefix}
use Rattle.jls_partial.specs.TextInto.{head_fields, with_entries, with_rest}
use Rattle.jls_partial.specs.TextMerging.{MergesText, HasOtherShape, HasOtherHead}
use Rattle.jls_partial.specs.TextReading.{◌>>=◌, Fails, offset, number_field, magic_field, version_field, shape_fields, entries_fields}
use Rattle.jls_partial.specs.TextReading.{text_fields, read_text}
use Rattle.jls_partial.proofs.Growth.{entries_union, between_of}
use Rattle.jls_partial.proofs.TextFields.{IsBytes, bind_ok, passed_ok, ok_is, magic_again, version_again, shape_again}
use Rattle.jls_partial.proofs.TextPrefixes.{all_taken, whole_entries}
use Rattle.jls_partial.proofs.TextLaws.{read_takes, read_again}
use Rattle.jls_partial.proofs.TextLoops.{entries_given, fails_then, fault_given}

-- ---- the head, and what stands after it

abbrev Head : Type 0
Head = ℕ × Version × PictureShape × ℕ × List ℕ

abbrev said : Head → Result (List Entry × List ℕ) TextFault
said h = entries_fields h.0 h.1 h.2 None h.3 h.4

abbrev following : Head → Result PartialPicture TextFault
following h = with_rest h.0 (nothing_known h.2) (said h)

abbrev finish : ℕ → PictureShape × List Entry × List ℕ → Result PartialPicture TextFault
finish size x = cond (eqb (length x.2) 0) (Ok (partial_of x.0 x.1)) (Err (fault.Trailing (offset size x.2)))

abbrev entries_then : ℕ → Version → PictureShape → ℕ × List ℕ → Result (PictureShape × List Entry × List ℕ) TextFault
entries_then size version shape count = entries_fields size version shape None count.0 count.1 >>= λ es. Ok (shape, es.0, es.1)

abbrev head_then : ℕ → Version → PictureShape → ℕ × List ℕ → Result Head TextFault
head_then size version shape count = Ok (size, version, shape, count.0, count.1)

last_stage : (size : ℕ) (shape : PictureShape) (r : Result (List Entry × List ℕ) TextFault)
    → ((r >>= λ es. Ok (shape, es.0, es.1)) >>= finish size) ≡ with_rest size (nothing_known shape) r
last_stage size shape (Ok es) = refl
last_stage size shape (Err e) = refl

count_stage : (size : ℕ) (version : Version) (shape : PictureShape) (r : Result (ℕ × List ℕ) TextFault)
    → ((r >>= entries_then size version shape) >>= finish size) ≡ ((r >>= head_then size version shape) >>= following)
count_stage size version shape (Ok count) = last_stage size shape (entries_fields size version shape None count.0 count.1)
count_stage size version shape (Err e) = refl

-- from the shape on, reading a text is reading its head, and then what follows
shape_stage : (size : ℕ) (version : Version) (r : Result (PictureShape × List ℕ) TextFault)
    → ((r >>= λ shape. number_field size w32 shape.1 >>= entries_then size version shape.0) >>= finish size)
    ≡ ((r >>= λ shape. number_field size w32 shape.1 >>= head_then size version shape.0) >>= following)
shape_stage size version (Ok shape) = count_stage size version shape.0 (number_field size w32 shape.1)
shape_stage size version (Err e) = refl

-- from the version on, reading a text is reading its head, and then what follows
version_stage : (size : ℕ) (r : Result (Version × List ℕ) TextFault)
    → ((r >>= λ version. shape_fields size version.1 >>= λ shape. number_field size w32 shape.1 >>= entries_then size version.0 shape.0) >>=
    finish size)
    ≡ ((r >>= λ version. shape_fields size version.1 >>= λ shape. number_field size w32 shape.1 >>= head_then size version.0 shape.0) >>=
    following)
version_stage size (Ok version) = shape_stage size version.0 (shape_fields size version.1)
version_stage size (Err e) = refl

-- from the magic on, reading a text is reading its head, and then what follows
magic_stage : (size : ℕ) (r : Result (List ℕ) TextFault)
    → ((r >>= λ version_bytes. version_field size version_bytes >>= λ version. shape_fields size version.1 >>= λ shape. number_field size
    w32 shape.1 >>= entries_then size version.0 shape.0) >>= finish size)
    ≡ ((r >>= λ version_bytes. version_field size version_bytes >>= λ version. shape_fields size version.1 >>= λ shape. number_field size
    w32 shape.1 >>= head_then size version.0 shape.0) >>= following)
magic_stage size (Ok version_bytes) = version_stage size (version_field size version_bytes)
magic_stage size (Err e) = refl

pub text_is : (bytes : List ℕ) → read_text bytes
    ≡ (head_fields bytes >>= λ h. with_rest h.0 (nothing_known h.2) (entries_fields h.0 h.1 h.2 None h.3 h.4))
unfolding read_text text_fields head_fields
text_is bytes = magic_stage (length bytes) (magic_field (length bytes) magic bytes)

-- where the head is read
pub text_after : (bytes : List ℕ) (h : ℕ × Version × PictureShape × ℕ × List ℕ) → head_fields bytes ≡ Ok h
    → read_text bytes ≡ with_rest h.0 (nothing_known h.2) (entries_fields h.0 h.1 h.2 None h.3 h.4)
text_after bytes h e = text_is bytes ∙ ap (λ r. r >>= following) e

pub head_fault : (e : TextFault) (bytes : List ℕ) → Fails e (head_fields bytes) → Fails e (read_text bytes)
head_fault e bytes h = subst (Fails e) (sym (text_is bytes)) (fails_then e (head_fields bytes) following h)

-- ---- all entries

-- all readings were taken where bytes stand after the last entry
pub rest_taken : (size : ℕ) (version : Version) (shape : PictureShape) (count : ℕ) (bytes : List ℕ) (p q : PartialPicture) (rest : List ℕ)
    → with_entries p (entries_fields size version shape None count bytes) ≡ Ok (q, rest)
    → TakesPrefix p q (entries_prefix size version shape None count bytes)
rest_taken size version shape count bytes p q rest e =
    let given = entries_given p q rest (entries_fields size version shape None count bytes) e in
    all_taken p q (entries_prefix size version shape None count bytes) (kept_readings given.0)
    (whole_entries size version shape None count bytes (given.0, rest) given.1) (sym given.2)

-- what is read has the shape of the picture that it is read into
keeps_shape : (size : ℕ) (p q : PartialPicture) (read : Result (List Entry × List ℕ) TextFault) → with_rest size p read ≡ Ok q → q.shape
    ≡ p.shape
keeps_shape size p q (Ok es) e =
    let g = passed_ok (eqb (length es.1) 0) (fault.Trailing (offset size es.1)) (with_all p (kept_readings es.0)) q e in
    ap (λ (z : PartialPicture). z.shape) (sym g.1)
keeps_shape size p q (Err d) e = absurd cc

-- reading into a picture gives the union with what is read into none
into_union : (size : ℕ) (p : PartialPicture) (shape : PictureShape) (read : Result (List Entry × List ℕ) TextFault)
    → with_rest size p read ≡ (with_rest size (nothing_known shape) read >>= λ q. Ok (union p q))
into_union size p shape (Ok es) = by_test (eqb (length es.1) 0)
  where
    by_test : (b : Bool) → cond b (Ok (with_all p (kept_readings es.0))) (Err (fault.Trailing (offset size es.1)))
        ≡ (cond b (Ok (partial_of shape es.0)) (Err (fault.Trailing (offset size es.1))) >>= λ q. Ok (union p q))
    by_test true = ap (λ (z : PartialPicture). Ok z) (entries_union p shape es.0)
    by_test false = refl
into_union size p shape (Err e) = refl

-- ---- a text that is merged

module _ (bytes : List ℕ) (h : ℕ × Version × PictureShape × ℕ × List ℕ) (head : head_fields bytes ≡ Ok h) where
  pub fault_after : (e : TextFault) → Fails e (with_rest h.0 (nothing_known h.2) (entries_fields h.0 h.1 h.2 None h.3 h.4))
      → Fails e (read_text bytes)
  fault_after e f = subst (Fails e) (sym (text_after bytes h head)) f

  -- a text that reads, and whose head has another shape, is the text of a picture of another shape
  pub differs : (old p : PartialPicture) → IsBytes bytes → same_shape old.shape h.2 ≡ false
      → with_rest h.0 (nothing_known h.2) (entries_fields h.0 h.1 h.2 None h.3 h.4) ≡ Ok p → HasOtherShape old bytes
  differs old p fits other read = record {
    said = p;
    is_text = read_takes bytes p fits (text_after bytes h head ∙ read);
    other_shape = ap (same_shape old.shape) (keeps_shape h.0 (nothing_known h.2) p (said h) read) ∙ other;
  }

  module _ (old : PartialPicture) (one_shape : h.2 ≡ old.shape) where
    same_read : with_rest h.0 old (entries_fields h.0 h.1 old.shape None h.3 h.4) ≡ (following h >>= λ q. Ok (union old q))
    same_read = ap (λ (s : PictureShape). with_rest h.0 old (entries_fields h.0 h.1 s None h.3 h.4)) (sym one_shape)
        ∙ into_union h.0 old h.2 (said h)

    pub fault_merged : (e : TextFault) → Fails e (with_rest h.0 old (entries_fields h.0 h.1 old.shape None h.3 h.4))
        → Fails e (read_text bytes)
    fault_merged e f = fault_after e (fault_given e (following h) (union old) (subst (Fails e) same_read f))

    pub merged : (new : PartialPicture) → IsBytes bytes → with_rest h.0 old (entries_fields h.0 h.1 old.shape None h.3 h.4) ≡ Ok new
        → MergesText old bytes new
    merged new fits read =
        let q = bind_ok (following h) (λ (z : PartialPicture). Ok (union old z)) new (sym same_read ∙ read) in
        let shape : q.0.shape ≡ old.shape = keeps_shape h.0 (nothing_known h.2) q.0 (said h) q.1 ∙ one_shape in
        record {
          said = q.0;
          is_text = read_takes bytes q.0 fits (text_after bytes h head ∙ q.1);
          one_shape = ap (same_shape old.shape) shape ∙ shape_itself old.shape;
          union_is = sym (ok_is (union old q.0) new q.2);
        }

    pub prefix_merged : (new : PartialPicture) → TakesPrefix old new (entries_prefix h.0 h.1 old.shape None h.3 h.4)
        → TakesPrefix old new (text_prefix bytes)
    unfolding text_prefix
    prefix_merged new f = subst (TakesPrefix old new)
        (ap (λ (s : PictureShape). entries_prefix h.0 h.1 s None h.3 h.4) (sym one_shape)
        ∙ sym (ap (λ r. unless_fault r (λ (x : Head). entries_prefix x.0 x.1 x.2 None x.3 x.4)) head)) f

-- ---- what is held after a fault

-- the readings before the first fault of a text are all of its readings
prefix_union : (old p : PartialPicture) (bytes : List ℕ) → read_text bytes ≡ Ok p → with_all old (text_prefix bytes) ≡ union old p
unfolding text_prefix
prefix_union old p bytes e =
    let a = bind_ok (head_fields bytes) following p (sym (text_is bytes) ∙ e) in
    let h = a.0 in
    let b = bind_ok (with_entries (nothing_known h.2) (said h))
    (λ x. cond (eqb (length x.1) 0) (Ok x.0) (Err (fault.Trailing (offset h.0 x.1)))) p a.2 in
    let x = b.0 in
    let g = passed_ok (eqb (length x.1) 0) (fault.Trailing (offset h.0 x.1)) x.0 p b.2 in
    let given = entries_given (nothing_known h.2) x.0 x.1 (said h) b.1 in
    let prefix : text_prefix bytes ≡ kept_readings given.0 =
    ap (λ r. unless_fault r (λ (z : Head). entries_prefix z.0 z.1 z.2 None z.3 z.4)) a.1
    ∙ whole_entries h.0 h.1 h.2 None h.3 h.4 (given.0, x.1) given.1 in
    ap (with_all old) prefix ∙ entries_union old h.2 given.0 ∙ ap (union old) (given.2 ∙ g.1)

pub text_between : (old new : PartialPicture) (bytes : List ℕ) → TakesPrefix old new (text_prefix bytes)
    → (p : PartialPicture) → IsTextOf bytes p → IsBetween union old new (union old p)
text_between old new bytes f p is =
    between_of old new (union old p) (text_prefix bytes) (prefix_union old p bytes (read_again bytes p is)) f

-- ---- a text of another shape

-- the shape of a head is the one with whose text the bytes begin
head_shape : (bytes : List ℕ) (version : Version) (shape : PictureShape) (rest : List ℕ) (h : ℕ × Version × PictureShape × ℕ × List ℕ)
    → IsShape shape → bytes ≡ head_text version shape ++ rest → head_fields bytes ≡ Ok h → shape ≡ h.2
unfolding head_fields
head_shape bytes version shape rest h is bytes_are e =
    let size = length bytes in
    let parted : bytes ≡ magic ++ (version_byte version ∷ (shape_text shape ++ rest)) = bytes_are
    ∙ append_assoc magic (version_byte version ∷ shape_text shape) rest in
    let read : head_fields bytes ≡ (number_field size w32 rest >>= head_then size version shape) =
    ap (λ (bs : List ℕ). magic_field size magic bs >>= λ version_bytes. version_field size version_bytes >>= λ v. shape_fields size v.1 >>=
    λ s. number_field size w32 s.1 >>= head_then size v.0 s.0) parted
    ∙ rw (
      magic_again size magic (version_byte version ∷ (shape_text shape ++ rest)),
      version_again size version (shape_text shape ++ rest),
      shape_again size shape rest is,
    ) refl
    in
    let count = bind_ok (number_field size w32 rest) (head_then size version shape) h (sym read ∙ e) in
    let made : Head = (size, version, shape, count.0.0, count.0.1) in
    ap (λ (x : Head). x.2) (ok_is made h count.2)

-- a text whose head has the picture's shape is not one of another shape
pub no_other_head : (old : PartialPicture) (bytes : List ℕ) (h : ℕ × Version × PictureShape × ℕ × List ℕ) → head_fields bytes ≡ Ok h → h.2
    ≡ old.shape
    → HasOtherHead old bytes → ⊥
no_other_head old bytes h head one_shape o =
    let same : o.shape ≡ old.shape = head_shape bytes o.version o.shape o.rest h o.is_shape o.bytes_are head ∙ one_shape in
    let bad : true ≡ false = sym (shape_itself old.shape) ∙ ap (same_shape old.shape) (sym same) ∙ o.other_shape in
    absurd cc
