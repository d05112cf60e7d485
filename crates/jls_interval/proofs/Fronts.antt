-- Fronts of first lines: one line more, and what begins with them.
use Rattle.std.proofs.Common.{◌≡◌, ℕ, ◌+◌, ◌<◌, List, [], ◌∷◌, ◌++◌, length, take, get_or, sym, ap, ◌∙◌, subst, arith, inl, inr}
use Rattle.std.proofs.Common.{append_assoc}
use Rattle.std.proofs.lemmas.List.{get_or_append_left, get_or-append-add}
use Rattle.std.proofs.lemmas.Bool.{cases_lt}
use Rattle.jls_values.specs.Params.{CodingParameters}
use Rattle.jls_bits.specs.declared.writer.BitPlace.{BitPlace}
use Rattle.jls_bits.specs.Front.{EndsAt, FrontsBeginBytes}
use Rattle.jls_interval.specs.Code.{code}
use Rattle.jls_interval.specs.Fronts.{nowhere, FrontsBeginPieces}
use Rattle.jls_interval.proofs.HeadLines.{code_parts}

-- where the first j lines end
abbrev pub EndBefore : CodingParameters → ℕ → ℕ → List (List ℕ) → ℕ → List BitPlace → Type 0
EndBefore p w c lines j ends = (t : ℕ) → t < j → EndsAt (code p w c (take (t + 1) lines)) (get_or ends t nowhere)

-- where the first j lines and one more end
pub one_more : (p : CodingParameters) (w c : ℕ) (lines : List (List ℕ)) (j : ℕ) (ends : List BitPlace) (end : BitPlace) (more : List BitPlace)
    → length ends ≡ j → more ≡ ends ++ end ∷ [] → EndsAt (code p w c (take (j + 1) lines)) end → EndBefore p w c lines j ends
    → EndBefore p w c lines (j + 1) more
one_more p w c lines j ends end more n is own before t l =
    elim (cases_lt t j) [
      | inl earlier ↦
          subst (EndsAt (code p w c (take (t + 1) lines)))
          (sym (ap (λ z. get_or z t nowhere) is ∙ get_or_append_left ends (end ∷ []) nowhere t (omega (arith, n, earlier)))) (before t earlier)
      | inr last ↦ (
          let same : t ≡ j = omega (arith, l, last) in let place : t ≡ length ends + 0 = omega (arith, n, same) in
          let here : get_or more t nowhere ≡ end = ap (λ z. get_or z t nowhere) is ∙ ap (λ z. get_or (ends ++ end ∷ []) z nowhere) place
          ∙ get_or-append-add ends (end ∷ []) 0 nowhere in
          subst (EndsAt (code p w c (take (t + 1) lines))) (sym here)
          (subst (λ z. EndsAt (code p w c (take (z + 1) lines)) end) (sym same) own))
    ]

-- pieces begin with the front of their first lines
pub fronts_begin : FrontsBeginBytes → FrontsBeginPieces
fronts_begin law i piece first others unread front b h =
    let parts = code_parts i.params i.width i.components first others in
    law (code i.params i.width i.components first) (parts.0 ++ unread) piece front
    (record { are_bytes = b.are_bytes; whole = b.data_bits.whole })
    (b.data_bits.read ∙ ap (λ z. z ++ unread) parts.1 ∙ append_assoc (code i.params i.width i.components first) parts.0 unread) h
