-- A segment that stands whole at the start leads, taken at once, where its bytes do one after another.
use Rattle.std.proofs.Common.{◌≡◌, ℕ, suc, ◌+◌, ◌-◌, ◌*◌, ◌<◌, ◌≤◌, ◌≢◌, Bool, true, false, List, [], ◌∷◌, take, drop, length, get_or, refl}
use Rattle.std.proofs.Common.{sym, ap, ◌∙◌, subst, arith}
use Rattle.std.specs.Prelude.{◌==◌, nat_lt}
use Rattle.std.proofs.lemmas.List.{append-nil, length-take-le}
use Rattle.std.proofs.lemmas.Bool.Decides.{nat_tests}
use Rattle.jls_marker.specs.HeaderState.{HeaderState}
use Rattle.jls_marker.specs.MarkerCodes.{has_segment}
use Rattle.jls_copy.specs.Pieces.{FoundPiece}
use Rattle.jls_copy.specs.ReaderState.{StateWithPieces, ReaderState, reading_from, reading_with, with_segment}
use Rattle.jls_copy.specs.Stretch.{BytesLead}
use Rattle.jls_copy.specs.Machine.{IsWholeSegment}
use Rattle.jls_copy.specs.declared.place.CopyPosition.{CopyPosition}
use Rattle.jls_copy.specs.declared.place.CopyPosition.TheVariants.{AtMarker, AtLength, InLength, InPayload}
use Rattle.jls_copy.proofs.PayloadStretch.{segment_state, whole_from}

no_fill : (code : ℕ) → has_segment code ≡ true → code ≢ 0xFF
unfolding has_segment
no_fill code known e = let now : has_segment 0xFF ≡ true = subst (λ c. has_segment c ≡ true) e known in absurd cc

-- a code with a segment is not that of EOI
no_eoi : (code : ℕ) → has_segment code ≡ true → code ≢ 0xD9
unfolding has_segment
no_eoi code known e = let now : has_segment 0xD9 ≡ true = subst (λ c. has_segment c ≡ true) e known in absurd cc

module _ (h : HeaderState) (ps : List FoundPiece) where
  abbrev at : ℕ → CopyPosition → List ℕ → StateWithPieces
  at count place payload = record { state = record { count = count; place = place; headers = h; payload = payload }; pieces = ps }

  fill_step : (fill : Bool) (count : ℕ) (old : List ℕ) → reading_with (at count (AtMarker fill) old) 0xFF
      ≡ at (count + 1) (AtMarker true) old
  fill_step fill count old = rw (append-nil ps) refl

  -- the code of a segment leads to its length
  code_step : (count code : ℕ) (old : List ℕ) → has_segment code ≡ true
      → reading_with (at (count + 1) (AtMarker true) old) code ≡ at (count + 1 + 1) (AtLength count code) old
  code_step count code old known =
      let one : (code == 0xFF) ≡ false = grind (arith, nat_tests, no_fill code known) in
      let two : (code == 0xD9) ≡ false = grind (arith, nat_tests, no_eoi code known) in
      let marker : count + 1 - 1 ≡ count = omega arith in
      rw (one, two, known, marker, append-nil ps) refl

  high_step : (count marker code high : ℕ) (old : List ℕ)
      → reading_with (at count (AtLength marker code) old) high ≡ at (count + 1) (InLength marker code high) old
  high_step count marker code high old = rw (append-nil ps) refl

  -- the length of a segment that has a payload, or none
  low_step : (count marker code high low : ℕ) (old : List ℕ) → 2 < 256 * high + low
      → reading_with (at count (InLength marker code high) old) low ≡ at (count + 1) (InPayload marker code (256 * high + low)) []
  low_step count marker code high low old long =
      let one : nat_lt (256 * high + low) 2 ≡ false = grind (arith, nat_tests, long) in
      let two : (256 * high + low == 2) ≡ false = grind (arith, nat_tests, long) in
      rw (one, two, append-nil ps) refl

  empty_step : (count marker code high low : ℕ) (old : List ℕ) → 256 * high + low ≡ 2
      → reading_with (at count (InLength marker code high) old) low
      ≡ record { state = segment_state (count + 1) (with_segment count h [] marker code); pieces = ps }
  empty_step count marker code high low old two = rw (two, append-nil ps) refl

  -- FF, the code and the first byte of the length lead to its second
  header_steps : (fill : Bool) (count code high : ℕ) (old more : List ℕ) → has_segment code ≡ true
      → reading_from (at count (AtMarker fill) old) (0xFF ∷ code ∷ high ∷ more)
      ≡ reading_from (at (count + 1 + 1 + 1) (InLength count code high) old) more
  header_steps fill count code high old more known =
      ap (λ r. reading_from r (code ∷ high ∷ more)) (fill_step fill count old)
      ∙ ap (λ r. reading_from r (high ∷ more)) (code_step count code old known)
      ∙ ap (λ r. reading_from r more) (high_step (count + 1 + 1) count code high old)

  -- the bytes of a whole segment lead, one after another, to where it is taken
  segment_steps : (fill : Bool) (count code high low : ℕ) (old payload : List ℕ) → has_segment code ≡ true
      → length payload + 2 ≡ 256 * high + low
      → reading_from (at count (AtMarker fill) old) (0xFF ∷ code ∷ high ∷ low ∷ payload)
      ≡ record {
        state = segment_state (count + length (0xFF ∷ code ∷ high ∷ low ∷ payload))
            (with_segment (count + length payload + 3) h payload count code);
        pieces = ps;
      }
  segment_steps fill count code high low old [] known size =
      let total : count + 1 + 1 + 1 + 1 ≡ count + length (0xFF ∷ code ∷ high ∷ low ∷ []) = omega arith in
      let last : count + 1 + 1 + 1 ≡ count + length {A = ℕ} [] + 3 = omega arith in
      header_steps fill count code high old (low ∷ []) known
      ∙ empty_step (count + 1 + 1 + 1) count code high low old (sym size)
      ∙ rw (total, last) refl
  segment_steps fill count code high low old (b ∷ more) known size =
      let total : count + 1 + 1 + 1 + 1 + length (b ∷ more) ≡ count + length (0xFF ∷ code ∷ high ∷ low ∷ b ∷ more) = omega arith in
      header_steps fill count code high old (low ∷ b ∷ more) known
      ∙ ap (λ r. reading_from r (b ∷ more)) (low_step (count + 1 + 1 + 1) count code high low old (omega (arith, size)))
      ∙ whole_from h count code (256 * high + low) ps (b ∷ more) (count + 1 + 1 + 1 + 1) (count + length (b ∷ more) + 3) [] (omega arith)
      (omega (arith, size)) (omega arith)
      ∙ rw total refl

abbrev made : ReaderState → List FoundPiece → StateWithPieces
made s ps = record { state = s; pieces = ps }

-- taking a whole segment at once leads where its bytes lead one after another
pub segment_leads : (fill : Bool) (bytes : List ℕ) (size : ℕ) → IsWholeSegment bytes size
    → (count : ℕ) (h : HeaderState) (old payload : List ℕ)
    → payload ≡ take (size - 2) (drop 4 bytes)
    → BytesLead (record { count = count; place = AtMarker fill; headers = h; payload = old }) (take (size + 2) bytes)
    (segment_state count (with_segment (count + size + 1) h payload count (get_or bytes 1 0))) []
segment_leads fill [] size w count h old payload is = absurd (omega (arith, w.within, w.some))
segment_leads fill (a ∷ []) size w count h old payload is = absurd (omega (arith, w.within, w.some))
segment_leads fill (a ∷ code ∷ []) size w count h old payload is = absurd (omega (arith, w.within, w.some))
segment_leads fill (a ∷ code ∷ high ∷ []) size w count h old payload is = absurd (omega (arith, w.within, w.some))
segment_leads fill (a ∷ code ∷ high ∷ low ∷ rest) size w count h old payload is =
    let some : 2 ≤ size = w.some in
    let within : size + 2 ≤ length (a ∷ code ∷ high ∷ low ∷ rest) = w.within in
    let sized : 256 * high + low ≡ size = w.size_is in
    let first : a ≡ 0xFF = w.is_ff in
    let known : has_segment code ≡ true = w.known in
    let end_is : size + 2 ≡ suc (suc (suc (suc (size - 2)))) = omega (arith, some) in
    let bytes_are : take (size + 2) (a ∷ code ∷ high ∷ low ∷ rest) ≡ 0xFF ∷ code ∷ high ∷ low ∷ payload =
    ap (λ (n : ℕ). take n (a ∷ code ∷ high ∷ low ∷ rest)) end_is ∙ ap (λ (b : ℕ). b ∷ code ∷ high ∷ low ∷ take (size - 2) rest) first
    ∙ ap (λ (xs : List ℕ). 0xFF ∷ code ∷ high ∷ low ∷ xs) (sym is) in
    let length_is : length payload ≡ size - 2 = ap length is ∙ length-take-le (size - 2) rest (omega (arith, within, some)) in
    let whole : length payload + 2 ≡ 256 * high + low = omega (arith, length_is, some, sized) in
    let count_is : count + length (0xFF ∷ code ∷ high ∷ low ∷ payload) ≡ count + length (take (size + 2) (a ∷ code ∷ high ∷ low ∷ rest)) =
    ap (λ (xs : List ℕ). count + length xs) (sym bytes_are) in
    let last_is : count + length payload + 3 ≡ count + size + 1 = omega (arith, length_is, some) in
    λ ps. ap (λ (xs : List ℕ). reading_from (at h ps count (AtMarker fill) old) xs) bytes_are
    ∙ segment_steps h ps fill count code high low old payload known whole
    ∙ ap (λ (n : ℕ). made (segment_state n (with_segment (count + length payload + 3) h payload count code)) ps) count_is
    ∙ ap (λ (n : ℕ). made (segment_state (count + length (take (size + 2) (a ∷ code ∷ high ∷ low ∷ rest)))
    (with_segment n h payload count code)) ps) last_is
    ∙ ap (made (segment_state (count + length (take (size + 2) (a ∷ code ∷ high ∷ low ∷ rest)))
    (with_segment (count + size + 1) h payload count code))) (sym (append-nil ps))
