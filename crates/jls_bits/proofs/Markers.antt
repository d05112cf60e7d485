-- Where the data bits of bytes end: at the first byte of 0x80 or more after 0xFF.
use Rattle.std.proofs.Common.{◌≡◌, ℕ, ◌<◌, ◌≤◌, true, false, eqb, leb, List, [], ◌∷◌, ◌++◌, get_or, refl, sym, ap, subst, ◌∙◌, arith, inl}
use Rattle.std.proofs.Common.{inr, append_assoc}
use Rattle.std.proofs.lemmas.List.{append-nil}
use Rattle.std.proofs.lemmas.Bool.{cases_Bool, leb-false, lt-leb, le-leb, eqb-true}
use Rattle.jls_bits.specs.Bits.{ends_data, bits_read_after, is_whole_after, bits_read, is_whole, BelowMarkers}
use Rattle.jls_bits.specs.Appending.{last_after}
use Rattle.jls_bits.proofs.DataBits.{data_stop, whole_end, whole_more}
use Rattle.jls_bits.proofs.Appending.{data_append, whole_prefix, whole_parts, last_append}

-- after 0xFF a byte ends the data or is below 0x80
below_after_ff : (x : ℕ) → ends_data 255 x ≡ false → x < 128
unfolding ends_data
below_after_ff x h = leb-false 128 x h

ends_after_ff : (x : ℕ) → 128 ≤ x → ends_data 255 x ≡ true
unfolding ends_data
ends_after_ff x h = le-leb 128 x h

-- a byte below 0x80 after FF, and any byte after another, does not end the data
goes_on_below : (before x : ℕ) → (before ≡ 255 → x < 128) → ends_data before x ≡ false
unfolding ends_data
goes_on_below before x h =
    elim (cases_Bool (eqb before 255))
    [ inl e ↦ (let f : leb 128 x ≡ false = lt-leb 128 x (h (eqb-true before 255 e)) in rw (e, f) refl) | inr e ↦ rw e refl ]

-- in whole bytes each byte after FF is below 0x80
pub below_markers : (bytes : List ℕ) → is_whole bytes ≡ true → BelowMarkers bytes
below_markers bytes h prefix back x e =
    let w = whole_prefix 0 prefix (255 ∷ (x ∷ back)) (subst (λ z. is_whole_after 0 z ≡ true) e h) in
    let p = whole_parts (last_after 0 prefix) 255 (x ∷ back) w.1 in
    let q = whole_parts 255 x back p.1 in below_after_ff x q.0

-- bytes of which each after FF is below 0x80 are whole
whole_from : (before : ℕ) (bytes : List ℕ) → BelowMarkers (before ∷ bytes) → is_whole_after before bytes ≡ true
whole_from before [] h = whole_end before
whole_from before (x ∷ xs) h =
    let e = goes_on_below before x (λ s. h [] xs x (ap (λ z. z ∷ (x ∷ xs)) s)) in
    whole_more before x xs e ∙ whole_from x xs (λ prefix back y d. h (before ∷ prefix) back y (ap (λ z. before ∷ z) d))

not_both : (n : ℕ) → n ≡ 0 → n ≡ 255 → ⊥
not_both n h e = omega arith

after_zero : (bytes : List ℕ) → BelowMarkers bytes → BelowMarkers (0 ∷ bytes)
after_zero bytes h [] back x e = absurd (not_both 0 refl (ap (λ z. get_or z 0 0) e))
after_zero bytes h (f ∷ prefix) back x e = h prefix back x (cc)

pub whole_below : (bytes : List ℕ) → BelowMarkers bytes → is_whole bytes ≡ true
whole_below bytes h = whole_from 0 bytes (after_zero bytes h)

-- what follows FF and a byte of 0x80 or more is not read
pub read_before : (prefix back : List ℕ) (x : ℕ) → is_whole (prefix ++ 255 ∷ []) ≡ true → 128 ≤ x
    → bits_read (prefix ++ 255 ∷ (x ∷ back)) ≡ bits_read (prefix ++ 255 ∷ [])
read_before prefix back x h l =
    let all = prefix ++ 255 ∷ [] in let e = last_append 0 prefix 255 in
    ap (bits_read_after 0) (sym (append_assoc prefix (255 ∷ []) (x ∷ back))) ∙ data_append 0 all (x ∷ back) h
    ∙ ap (λ z. bits_read_after 0 all ++ z) (ap (λ z. bits_read_after z (x ∷ back)) e ∙ data_stop 255 x back (ends_after_ff x l))
    ∙ append-nil (bits_read_after 0 all)
