-- Bits that break off in the code of a sample.
use Rattle.std.proofs.Common.{◌≡◌, ℕ, ◌-◌, ◌^◌, ◌≤◌, Bool, true, false, List, [], ◌∷◌, ◌++◌, refl, sym, ap, ◌∙◌, append_assoc}
use Rattle.std.proofs.lemmas.List.{append-nil}
use Rattle.jls_values.specs.Params.{CodingParameters, AreCodingParameters, qbpp, limit}
use Rattle.jls_values.proofs.Lists.{not_empty}
use Rattle.jls_bits.specs.Golomb.{golomb, has_golomb, BeginsCodeOf}
use Rattle.jls_bits.specs.CodeState.{RefusesCode}
use Rattle.jls_bits.proofs.Codes.{small_has_code}
use Rattle.jls_context.specs.declared.mode.Neighbours.{Neighbours}
use Rattle.jls_context.specs.declared.regular.Cell.{Cell}
use Rattle.jls_context.specs.Mode.{context}
use Rattle.jls_context.specs.Regular.{regular_k, regular_mapped}
use Rattle.jls_context.specs.Interruption.{run_k, interruption_mapped}
use Rattle.jls_context.specs.Variables.{Variables, cell_at, run_cell_at}
use Rattle.jls_interval.specs.Cells.{regular_error, interruption_error}
use Rattle.jls_interval.specs.CutEvents.{IsProperPrefix}
use Rattle.jls_interval.proofs.Golomb.{golomb_same}
use Rattle.jls_interval.proofs.CutSamples.{proper, sample_small, room_of}
use Rattle.jls_pixel.specs.Cells.{CodedSample}
use Rattle.jls_pixel.specs.Code.{sample_bits}
use Rattle.jls_pixel.specs.After.{CellsAfter}
use Rattle.jls_pixel.specs.Reading.{coded_as, order_of, IsKind}
use Rattle.jls_pixel.specs.OpenEvents.{CutsNoCode, k_of, limit_of, CodesSample}
use Rattle.jls_pixel.specs.OpenSamples.{first_bits, IsOpenSample}
use Rattle.jls_pixel.specs.declared.sample.SampleKind.{SampleKind}
use Rattle.jls_pixel.specs.declared.sample.SampleKind.TheVariants.{Regular, Interrupting}
use Rattle.jls_pixel.specs.declared.cut_sample.OpenSample.{OpenSample}
use Rattle.jls_pixel.proofs.SampleSteps.{regular_is, interrupting_is, run_has}

-- Codes ---------------------------------------------------------------------------------------------

module _ (k g q : ℕ) (given : List Bool) where
  -- a whole code stands at the start
  pub whole_cuts_none : (n : ℕ) (unread : List Bool) → has_golomb k g q n ≡ true → given ≡ golomb k g q n ++ unread
      → CutsNoCode k g q given
  whole_cuts_none n unread has is m has' cut =
      let more = cut.missing ∷ cut.more_missing in
      let e : golomb k g q m ++ [] ≡ golomb k g q n ++ (unread ++ more) =
      append-nil (golomb k g q m) ∙ cut.whole_is ∙ ap (λ z. z ++ more) is ∙ append_assoc (golomb k g q n) unread more in
      not_empty unread cut.missing cut.more_missing (sym (golomb_same k g q m n [] (unread ++ more) has' has e).1)

  -- a bit that no code has there
  pub refused_cuts_none : (fed after : List Bool) (bit : Bool) → (fed ++ bit ∷ []) ++ after ≡ given → RefusesCode k g q (fed ++ bit ∷ [])
      → CutsNoCode k g q given
  refused_cuts_none fed after bit is none m has cut =
      let more = cut.missing ∷ cut.more_missing in
      none m (after ++ more) [] has
      (sym (append_assoc (fed ++ bit ∷ []) after more) ∙ ap (λ z. z ++ more) is ∙ sym cut.whole_is ∙ sym (append-nil (golomb k g q m)))

-- Numbers -------------------------------------------------------------------------------------------

module _ (p : CodingParameters) (ok : AreCodingParameters p) (cells : Variables) (near : Neighbours) (sample : ℕ) where
  pub regular_codes : (cell : ℕ) (number : ℕ) → cell ≡ context p near
      → number ≡ regular_mapped (cell_at cells cell) (regular_error p (cell_at cells cell) near sample)
      → CodesSample p Regular near cells sample number
  regular_codes cell number cell_is is = λ earlier t.
      let c : Cell = cell_at cells (context p near) in
      let n_is : number ≡ regular_mapped c (regular_error p c near sample) =
      is ∙ ap (λ z. regular_mapped (cell_at cells z) (regular_error p (cell_at cells z) near sample)) cell_is in
      ap (golomb (regular_k c) (limit p) (qbpp p)) n_is ∙ sym (regular_is p ok cells near [] (context p near) refl earlier t 0 sample)

  pub interrupting_codes : (order : ℕ) → order ≤ 15 → (number : ℕ)
      → number ≡ interruption_mapped false (run_cell_at cells false) (interruption_error p near sample)
      → CodesSample p (Interrupting order) near cells sample number
  interrupting_codes order few number is = λ earlier t.
      ap (golomb (run_k false (run_cell_at cells false)) (limit p - order - 1) (qbpp p)) is
      ∙ sym (interrupting_is p ok cells near [] order few earlier t sample)

  -- every sample has a code
  pub has_number : (kind : SampleKind) → IsKind kind
      → (number : ℕ) × (has_golomb (k_of p kind near cells) (limit_of p kind) (qbpp p) number ≡ true)
      × CodesSample p kind near cells sample number
  has_number Regular is =
      let c : Cell = cell_at cells (context p near) in let m = regular_mapped c (regular_error p c near sample) in (
        m,
        small_has_code (regular_k c) (limit p) (qbpp p) m (room_of p ok) (sample_small p ok c near sample),
        regular_codes (context p near) m refl refl,
      )
  has_number (Interrupting order) is =
      let m = interruption_mapped false (run_cell_at cells false) (interruption_error p near sample) in
      (m, run_has p ok cells near [] order is sample, interrupting_codes order is m refl)

-- no code is cut, and so no sample is
pub no_code_no_sample : (p : CodingParameters) → AreCodingParameters p → (cells : Variables) (near : Neighbours) (kind : SampleKind)
    → IsKind kind → (given : List Bool) → CutsNoCode (k_of p kind near cells) (limit_of p kind) (qbpp p) given
    → (earlier : List CodedSample) → CellsAfter p cells earlier → (sample : ℕ)
    → IsProperPrefix given (sample_bits p (order_of kind) earlier (coded_as kind near sample)) → ⊥
no_code_no_sample p ok cells near kind is given none earlier t sample cut =
    let n = has_number p ok cells near sample kind is in
    none n.0 n.1 (record {
      missing = cut.missing;
      more_missing = cut.more_missing;
      whole_is = n.2 earlier t ∙ cut.whole_is;
    })

-- First bits ----------------------------------------------------------------------------------------

module _ (cells : Variables) (o : OpenSample) (h : IsOpenSample cells o) where
  abbrev p : CodingParameters
  p = cells.parameters

  same_code : (k g k' g' q m : ℕ) → k ≡ k' → g ≡ g' → golomb k g q m ≡ golomb k' g' q m
  same_code k g k' g' q m a b = cc

  module _ (sample number : ℕ) (codes : CodesSample p o.kind o.near cells sample number) (earlier : List CodedSample)
      (t : CellsAfter p cells earlier) where
    code_is : golomb o.shape.k o.shape.limit (qbpp p) number ≡ sample_bits p (order_of o.kind) earlier (coded_as o.kind o.near sample)
    code_is =
        same_code o.shape.k o.shape.limit (k_of p o.kind o.near cells) (limit_of p o.kind) (qbpp p) number h.k_is h.limit_is
        ∙ codes earlier t

    pub begins_sample : number ≤ 2 ^ qbpp p → BeginsCodeOf o.shape.k o.shape.limit (qbpp p) (first_bits cells o) number
        → IsProperPrefix (first_bits cells o) (sample_bits p (order_of o.kind) earlier (coded_as o.kind o.near sample))
    begins_sample small b =
        let has = small_has_code o.shape.k o.shape.limit (qbpp p) number h.room small in
        let cut = proper o.shape.k o.shape.limit (qbpp p) h.room o.code h.opened number has b in
        record { missing = cut.missing; more_missing = cut.more_missing; whole_is = sym code_is ∙ cut.whole_is }

    pub begins_not : (BeginsCodeOf o.shape.k o.shape.limit (qbpp p) (first_bits cells o) number → ⊥)
        → IsProperPrefix (first_bits cells o) (sample_bits p (order_of o.kind) earlier (coded_as o.kind o.near sample)) → ⊥
    begins_not none cut = none (record { rest = cut.missing ∷ cut.more_missing; code = code_is ∙ cut.whole_is })
