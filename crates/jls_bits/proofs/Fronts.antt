-- The bytes that bits fill.
use Rattle.std.proofs.Common.{◌≡◌, ℕ, ◌<◌, Bool, true, List, [], ◌∷◌, ◌++◌, length, sym, ap, ◌∙◌, subst, arith}
use Rattle.std.proofs.Common.{inl, inr, append_assoc, length-append}
use Rattle.std.proofs.lemmas.List.{append-nil}
use Rattle.std.proofs.lemmas.Bool.{cases_lt}
use Rattle.jls_bits.specs.Bits.{width_after, bits_read, bits_read_after, is_whole_after}
use Rattle.jls_bits.specs.Appending.{last_after, AreFilled}
use Rattle.jls_bits.specs.Front.{FrontsBeginBytes, FrontsGrow, FrontsAreOne}
use Rattle.jls_bits.proofs.DataBits.{width_bounds, length_more}
use Rattle.jls_bits.proofs.Appending.{whole_parts, whole_prefix, data_append, same_stream}

-- no more bytes than the others have, where fewer bits follow the others than a byte carries
not_shorter : (xs ys : List ℕ) (u v : List Bool) → AreFilled xs → AreFilled ys → bits_read xs ++ u ≡ bits_read ys ++ v
    → length u < width_after (last_after 0 xs) → length xs < length ys → ⊥
not_shorter xs ys u v f g e few l =
    let r = same_stream 0 xs ys u v f.are_bytes g.are_bytes f.whole g.whole e (omega arith) in
    longer r.0 r.1
  where
    longer : (rest : List ℕ) → ys ≡ xs ++ rest → ⊥
    longer [] is = let n = ap length (is ∙ append-nil xs) in omega (arith, n, l)
    longer (y ∷ rest) is =
        let w = whole_prefix 0 xs (y ∷ rest) (subst (λ z. is_whole_after 0 z ≡ true) is g.whole) in
        let p = whole_parts (last_after 0 xs) y rest w.1 in
        let d : bits_read ys ≡ bits_read xs ++ bits_read_after (last_after 0 xs) (y ∷ rest) = ap bits_read is
        ∙ data_append 0 xs (y ∷ rest) f.whole in
        let n = ap length e in let a = length-append (bits_read xs) u in let b = length-append (bits_read ys) v in
        let c = ap length d ∙ length-append (bits_read xs) (bits_read_after (last_after 0 xs) (y ∷ rest)) in
        let m = length_more (last_after 0 xs) y rest p.0 in omega (arith, n, a, b, c, m, few)

-- the others begin with them
pub begins : (xs ys : List ℕ) (u v : List Bool) → AreFilled xs → AreFilled ys → bits_read xs ++ u ≡ bits_read ys ++ v
    → length u < width_after (last_after 0 xs) → (rest : List ℕ) × (xs ≡ ys ++ rest)
begins xs ys u v f g e few =
    elim (cases_lt (length xs) (length ys)) [
      | inl shorter ↦ absurd (not_shorter xs ys u v f g e few shorter)
      | inr longer ↦ same_stream 0 ys xs v u g.are_bytes f.are_bytes g.whole f.whole (sym e) longer
    ]

-- bytes begin with the front of their first data bits
pub fronts_begin_bytes : FrontsBeginBytes
fronts_begin_bytes given more bytes front f e h =
    let w = width_bounds (last_after 0 bytes) in
    begins bytes front [] (h.over ++ more) f h.filled
    (append-nil (bits_read bytes) ∙ e ∙ ap (λ z. z ++ more) h.given_is ∙ append_assoc (bits_read front) h.over more) (omega (arith, w))

pub fronts_grow : FrontsGrow
fronts_grow given more front longer h k =
    begins longer front k.over (h.over ++ more) k.filled h.filled
    (sym k.given_is ∙ ap (λ z. z ++ more) h.given_is ∙ append_assoc (bits_read front) h.over more) k.few

-- two lists of which each begins with the other are one
none_left : (xs ys m n : List ℕ) → xs ≡ ys ++ m → ys ≡ xs ++ n → xs ≡ ys
none_left xs ys [] n e f = e ∙ append-nil ys
none_left xs ys (x ∷ m) n e f =
    let a = ap length e in let b = length-append ys (x ∷ m) in let c = ap length f in let d = length-append xs n in
    absurd (omega (arith, a, b, c, d))

-- bits have one front
pub fronts_are_one : FrontsAreOne
fronts_are_one given front other h k =
    let a = begins front other h.over k.over h.filled k.filled (sym h.given_is ∙ k.given_is) h.few in
    let b = begins other front k.over h.over k.filled h.filled (sym k.given_is ∙ h.given_is) k.few in
    none_left front other a.0 b.0 a.1 b.1
