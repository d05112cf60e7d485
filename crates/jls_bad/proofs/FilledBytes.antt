-- Bytes for a copy that are found one by one.
use Rattle.std.proofs.Common.{◌≡◌, ℕ, ◌+◌, ◌<◌, ◌∙◌, Bool, true, false, cond, eqb, List, [], ◌∷◌, ◌++◌, length, get_or, map, take, Option, Some, None, slice_get, unwrap_or, is_some, not, refl, sym, ap, subst, arith, below_more, ⊎_elim}
use Rattle.std.specs.Option.{option_or}
use Rattle.std.proofs.lemmas.List.{length_push, get_or_append_left, get_or_push, take_more}
use Rattle.std.proofs.lemmas.Option.{slice_get-get_or, slice_get_past}
use Rattle.std.proofs.lemmas.Bool.{false≢true, cases_lt}
use Rattle.std.proofs.lemmas.Bool.Decides.{nat_tests}
use Rattle.jls_bad.specs.Known.{Copy, is_bad, known_byte}
use Rattle.jls_bad.specs.Inside.{IsFilled, AreMarked, marked_byte, marked_byte_for, first_as_long}
use Rattle.jls_bad.specs.Copies.{copy_of, copies_of}
use Rattle.jls_bad.specs.declared.known.Listed.{Listed}
use Rattle.jls_bad.specs.declared.filling.Marked.{Marked}

none_of : (byte : Option ℕ) (mark : Bool) → is_some byte ≡ not mark → mark ≡ true → byte ≡ None
none_of None mark e f = refl
none_of (Some x) mark e f = absurd (false≢true (sym (e ∙ ap not f)))

some_of : (byte : Option ℕ) (mark : Bool) → is_some byte ≡ not mark → mark ≡ false → byte ≡ Some (unwrap_or byte 0)
some_of None mark e f = absurd (false≢true (e ∙ ap not f))
some_of (Some x) mark e f = refl

get_front : (xs : List ℕ) (y : ℕ) (offset : ℕ) → offset < length xs → slice_get xs offset ≡ slice_get (xs ++ y ∷ []) offset
get_front xs y offset h =
    slice_get-get_or xs offset 0 h ∙ (ap Some (sym (get_or_append_left xs (y ∷ []) 0 offset h)) ∙ sym (slice_get-get_or (xs ++ y ∷ []) offset 0 (omega (arith, length_push xs y, h))))

get_last : (xs : List ℕ) (y : ℕ) (offset : ℕ) → length xs ≡ offset → Some y ≡ slice_get (xs ++ y ∷ []) offset
get_last xs y offset e =
    ap Some (sym (get_or_push xs y 0 offset e)) ∙ sym (slice_get-get_or (xs ++ y ∷ []) offset 0 (omega (arith, length_push xs y, e)))

-- one byte more, or one lost byte
pub byte_filled : (f : ℕ → Option ℕ) (n : ℕ) (bytes : List ℕ) (lost : List Bool) (byte : Option ℕ) (mark : Bool) → IsFilled f n bytes lost → length lost ≡ n → byte ≡ f n → is_some byte ≡ not mark
    → IsFilled f (n + 1) (bytes ++ unwrap_or byte 0 ∷ []) (lost ++ mark ∷ [])
byte_filled f n bytes lost byte mark filled count e m =
    let size : length bytes ≡ n = filled.size in
    record {
      size = omega (arith, length_push bytes (unwrap_or byte 0));
      lost = below_more (λ offset. get_or (lost ++ mark ∷ []) offset false ≡ true → f offset ≡ None) n
          (λ offset h l. filled.lost offset h (sym (get_or_append_left lost (mark ∷ []) false offset (omega (arith, h, count))) ∙ l))
          (λ l. sym e ∙ none_of byte mark m (sym (get_or_push lost mark false n count) ∙ l));
      there = below_more (λ offset. get_or (lost ++ mark ∷ []) offset false ≡ false → f offset ≡ slice_get (bytes ++ unwrap_or byte 0 ∷ []) offset) n
          (λ offset h l. filled.there offset h (sym (get_or_append_left lost (mark ∷ []) false offset (omega (arith, h, count))) ∙ l) ∙ get_front bytes (unwrap_or byte 0) offset (omega (arith, h, size)))
          (λ l. sym e ∙ (some_of byte mark m (sym (get_or_push lost mark false n count) ∙ l) ∙ get_last bytes (unwrap_or byte 0) n size));
    }

-- a copy without marks is itself
pub own_filled : (copy : Marked) (copies : List Marked) (bytes : List ℕ) → copy.is_bad.items ≡ [] → bytes ≡ copy.bytes.now
    → IsFilled (marked_byte_for copies copy) (length copy.bytes.now) bytes []
own_filled copy copies bytes none same = record {
  size = ap length same;
  lost = λ offset h e. absurd (false≢true e);
  there = λ offset h e.
      ap (λ bad. option_or (cond (get_or bad offset false) None (slice_get copy.bytes.now offset)) (first_as_long copies (length copy.bytes.now) offset)) none
      ∙ (ap (λ byte. option_or byte (first_as_long copies (length copy.bytes.now) offset)) (slice_get-get_or copy.bytes.now offset 0 h)
      ∙ (sym (slice_get-get_or copy.bytes.now offset 0 h) ∙ ap (λ bs. slice_get bs offset) (sym same)));
}

none_either : (b : Bool) (byte : Option ℕ) → byte ≡ None → cond b None byte ≡ None
none_either true byte e = refl
none_either false byte e = e

-- what marks say of a copy's bytes
pub known_by_marks : (copy : Copy) (marks : List Bool) → ((offset : ℕ) → offset < length copy.bytes → get_or marks offset false ≡ is_bad copy.places offset) → (offset : ℕ) → cond (get_or marks offset false) None (slice_get copy.bytes offset) ≡ known_byte copy offset
known_by_marks copy marks same offset =
    ⊎_elim (λ h. ap (λ b. cond b None (slice_get copy.bytes offset)) (same offset h))
    (λ h. none_either (get_or marks offset false) (slice_get copy.bytes offset) (slice_get_past copy.bytes offset h) ∙ sym (none_either (is_bad copy.places offset) (slice_get copy.bytes offset) (slice_get_past copy.bytes offset h)))
    (cases_lt offset (length copy.bytes))

-- one copy with its marks more
pub marked_more : (listed : List Listed) (marked : List Marked) (at : ℕ) (copy : Listed) (m : Marked) → AreMarked (take at listed) marked → at < length listed → copy ≡ get_or listed at copy
    → m.bytes.now ≡ copy.bytes.now → ((offset : ℕ) → marked_byte m offset ≡ known_byte (copy_of copy) offset) → AreMarked (take (at + 1) listed) (marked ++ m ∷ [])
marked_more listed marked at copy m are h e bytes marks =
    let P : List Listed → Type 0 = λ front. AreMarked front (marked ++ m ∷ []) in
    subst P (sym (take_more listed at copy h ∙ ap (λ c. take at listed ++ c ∷ []) (sym e))) (record {
      bytes = map_push (λ (x : Marked). x.bytes.now) marked m ∙ (ap (λ front. front ++ m.bytes.now ∷ []) are.bytes ∙ (ap (λ b. map (λ c. c.bytes.now) (take at listed) ++ b ∷ []) bytes ∙ sym (map_push (λ (x : Listed). x.bytes.now) (take at listed) copy)));
      marks = λ offset. map_push (λ (x : Marked). marked_byte x offset) marked m ∙ (ap (λ front. front ++ marked_byte m offset ∷ []) (are.marks offset)
          ∙ (ap (λ b. map (λ c. known_byte c offset) (copies_of (take at listed)) ++ b ∷ []) (marks offset) ∙ sym (known_push (take at listed) copy offset)));
    })
  where
    map_push : {A B : Type 0} (f : A → B) (xs : List A) (y : A) → map f (xs ++ y ∷ []) ≡ map f xs ++ f y ∷ []
    map_push f [] y = refl
    map_push f (x ∷ xs) y = ap (λ rest. f x ∷ rest) (map_push f xs y)

    known_push : (xs : List Listed) (y : Listed) (offset : ℕ) → map (λ c. known_byte c offset) (copies_of (xs ++ y ∷ [])) ≡ map (λ c. known_byte c offset) (copies_of xs) ++ known_byte (copy_of y) offset ∷ []
    known_push [] y offset = refl
    known_push (x ∷ xs) y offset = ap (λ rest. known_byte (copy_of x) offset ∷ rest) (known_push xs y offset)

pub zero_by_test : (n : ℕ) (is_zero : Bool) → is_zero ≡ eqb n 0 → is_zero ≡ true → n ≡ 0
zero_by_test n is_zero e f = grind (arith, nat_tests)
