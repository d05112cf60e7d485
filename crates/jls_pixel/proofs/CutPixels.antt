-- Bits that break off in the samples of a pixel.
use Rattle.std.proofs.Common.{◌≡◌, ℕ, zero, suc, ◌+◌, ◌-◌, ◌<◌, ◌≤◌, Bool, List, [], ◌∷◌, ◌++◌, length, get_or, map, replicate}
use Rattle.std.proofs.Common.{refl, sym, ap, ◌∙◌, arith, inl, inr, append_assoc, length-append}
use Rattle.std.specs.Prelude.{Option, Some, None}
use Rattle.std.specs.List.{AllByRecursion, range_with_len}
use Rattle.std.proofs.lemmas.Bool.{cases_lt, cases_eq}
use Rattle.std.proofs.lemmas.List.{append-nil, length-map, get_or-map, length-replicate, nil_from_length}
use Rattle.std.proofs.lemmas.List.FromFn.{length-map-range_with_len, get_or-map-range_with_len}
use Rattle.jls_values.specs.Params.{CodingParameters, AreCodingParameters}
use Rattle.jls_context.specs.declared.mode.Neighbours.{Neighbours}
use Rattle.jls_context.specs.Variables.{Variables}
use Rattle.jls_interval.proofs.StepwiseCodes.{one_begins}
use Rattle.jls_pixel.specs.Pixels.{run_value}
use Rattle.jls_pixel.specs.Cells.{CodedSample, coded_with}
use Rattle.jls_pixel.specs.Code.{sample_bits, bits_of_samples}
use Rattle.jls_pixel.specs.Reading.{coded_as, order_of}
use Rattle.jls_pixel.specs.OpenEvents.{IsNot, CutsSample, MayCome, IsExcepted, CutsPixel}
use Rattle.jls_pixel.specs.declared.sample.SampleKind.{SampleKind}
use Rattle.jls_pixel.specs.declared.sample.SampleKind.TheVariants.{Regular, Interrupting}
use Rattle.jls_pixel.proofs.PixelLists.{all_append, all_replicate}
use Rattle.jls_pixel.proofs.PixelBegun.{PixelBegun, others, samples_append, samples_first, others_first, next, begun_whole}

-- another sample than this one: there are at least two
pub another : (p : CodingParameters) → AreCodingParameters p → (v : ℕ) → (s : ℕ) × (s ≤ p.maxval) × (s ≡ v → ⊥)
another p ok v = let one = ok.maxval_at_least in
    elim (cases_eq v 0) [ inl e ↦ (1, one, λ q. omega arith) | inr e ↦ (0, omega arith, λ q. e (sym q)) ]

-- Lists ---------------------------------------------------------------------------------------------

at_end : (xs : List ℕ) (y : ℕ) (ys : List ℕ) → get_or (xs ++ y ∷ ys) (length xs) 0 ≡ y
at_end [] y ys = refl
at_end (x ∷ xs) y ys = at_end xs y ys

after_end : (xs : List ℕ) (y z : ℕ) (zs : List ℕ) → get_or (xs ++ y ∷ z ∷ zs) (suc (length xs)) 0 ≡ z
after_end [] y z zs = refl
after_end (x ∷ xs) y z zs = after_end xs y z zs

some_more : (n x : ℕ) → 0 < n → (m : ℕ) × (replicate n x ≡ x ∷ replicate m x)
some_more zero x h = absurd (omega arith)
some_more (suc n) x h = (n, refl)

-- Ra of a component in a run's value
pub value_at : (f : ℕ → Neighbours) (c k : ℕ) → k < c → get_or (run_value (map f (range_with_len 0 c))) k 0 ≡ (f k).ra
value_at f c k h =
    let l = length-map-range_with_len f 0 c in
    get_or-map (λ (near : Neighbours). near.ra) (map f (range_with_len 0 c)) k (f k) 0 (omega arith)
    ∙ ap (λ (near : Neighbours). near.ra) (get_or-map-range_with_len f 0 c k k (f k) h (omega arith))

value_long : (f : ℕ → Neighbours) (c : ℕ) → length (run_value (map f (range_with_len 0 c))) ≡ c
value_long f c = length-map (map f (range_with_len 0 c)) (λ (near : Neighbours). near.ra) ∙ length-map-range_with_len f 0 c

-- Which pixels may come -----------------------------------------------------------------------------

module _ (f : ℕ → Neighbours) (c k : ℕ) (pixel : List ℕ) (l : length pixel ≡ k) (within : k < c) where
  abbrev value : List ℕ
  value = run_value (map f (range_with_len 0 c))

  -- a pixel that goes on with this sample, and then with others than Ra of the next component
  differs : (o : Option ℕ) (order s x : ℕ) → (x ≡ (f (k + 1)).ra → ⊥) → IsExcepted (Interrupting order) value pixel (f k).ra o → IsNot o s
      → pixel ++ s ∷ replicate (c - k - 1) x ≡ value → ⊥
  differs None order s x other none allowed e =
      elim (cases_lt (k + 1) c) [
        | inl more ↦ (let r = some_more (c - k - 1) x (omega arith) in
            let a : get_or (pixel ++ s ∷ replicate (c - k - 1) x) (suc (length pixel)) 0 ≡ x =
            ap (λ z. get_or (pixel ++ s ∷ z) (suc (length pixel)) 0) r.1 ∙ after_end pixel s x (replicate r.0 x) in
            let at : suc (length pixel) ≡ k + 1 = omega arith in
            other (sym a ∙ ap (λ z. get_or z (suc (length pixel)) 0) e ∙ ap (λ z. get_or value z 0) at ∙ value_at f c (k + 1) more))
        | inr last ↦
            (let zero : c - k - 1 ≡ 0 = omega arith in
            let e' : pixel ++ s ∷ [] ≡ value = ap (λ z. pixel ++ s ∷ replicate z x) (sym zero) ∙ e in
            let s_is : s ≡ (f k).ra = sym (at_end pixel s []) ∙ ap (λ z. get_or z (length pixel) 0) e'
            ∙ ap (λ z. get_or value z 0) l ∙ value_at f c k within in
            none (ap (λ z. pixel ++ z ∷ []) (sym s_is) ∙ e'))
      ]
  differs (Some y) order s x other is allowed e =
      let a = ap length e in let b = ap length is in let d = length-append pixel (s ∷ replicate (c - k - 1) x) in
      let g = length-append pixel (y ∷ []) in
      let zero : c - k - 1 ≡ 0 = (let v = value_long f c in omega (arith, b, g, v, l)) in
      let e' : pixel ++ s ∷ [] ≡ value = ap (λ z. pixel ++ s ∷ replicate z x) (sym zero) ∙ e in
      allowed (sym (at_end pixel s []) ∙ ap (λ z. get_or z (length pixel) 0) (e' ∙ sym is) ∙ at_end pixel y [])

  may_come : (kind : SampleKind) (o : Option ℕ) (s x : ℕ) → (x ≡ (f (k + 1)).ra → ⊥) → IsExcepted kind value pixel (f k).ra o → IsNot o s
      → MayCome kind value (pixel ++ s ∷ replicate (c - k - 1) x)
  may_come Regular o s x other is allowed = tt
  may_come (Interrupting order) o s x other is allowed = differs o order s x other is allowed

  -- the next sample of a pixel that may come is not the one that is excepted
  not_excepted : (kind : SampleKind) (o : Option ℕ) (s : ℕ) (more xs : List ℕ) → length xs ≡ c → xs ≡ pixel ++ s ∷ more
      → IsExcepted kind value pixel (f k).ra o → MayCome kind value xs → IsNot o s
  not_excepted kind None s more xs lx e is may = tt
  not_excepted Regular (Some y) s more xs lx e is may = absurd is
  not_excepted (Interrupting order) (Some y) s more xs lx e is may = λ q.
      let a = ap length e in let b = length-append pixel (s ∷ more) in let d = ap length is in let g = length-append pixel (y ∷ []) in
      let none : more ≡ [] = nil_from_length more (let v = value_long f c in omega (arith, a, b, d, g, v, l)) in
      may (e ∙ ap (λ z. pixel ++ s ∷ z) none ∙ ap (λ z. pixel ++ z ∷ []) q ∙ is)

-- Bits that break off -------------------------------------------------------------------------------

module _ (p : CodingParameters) (ok : AreCodingParameters p) (kind : SampleKind) (f : ℕ → Neighbours) (c : ℕ) (given : List Bool)
    (earlier : List CodedSample) (pixel : List ℕ) (k : ℕ) (cells : Variables) (left : List Bool)
    (t : PixelBegun p kind f c given earlier pixel k cells left) (l : length pixel ≡ k) where
  abbrev nears : List Neighbours
  nears = map f (range_with_len 0 c)

  abbrev o : ℕ
  o = order_of kind

  module _ (within : k < c) (except : Option ℕ) (is : IsExcepted kind (run_value nears) pixel (f k).ra except) where
    -- the bits of a pixel that goes on with a sample whose bits are cut
    goes_on : (s : ℕ) (fill : List ℕ) (b : Bool) (bs : List Bool)
        → sample_bits p o (earlier ++ t.done) (coded_as kind (f k) s) ≡ left ++ b ∷ bs
        → (rest : List Bool)
        × (bits_of_samples p o earlier (coded_with (coded_as kind) nears (pixel ++ s ∷ fill)) ≡ given ++ b ∷ (bs ++ rest))
    goes_on s fill b bs e =
        let here = coded_as kind (f k) s in let later = others p kind f c given earlier (k + 1) fill in
        let rest = bits_of_samples p o ((earlier ++ t.done) ++ here ∷ []) later in
        let done = bits_of_samples p o earlier t.done in let more = b ∷ bs in (
          rest,
          ap (bits_of_samples p o earlier)
              (t.whole (s ∷ fill)
              ∙ ap (λ z. t.done ++ z) (others_first p kind f c given earlier pixel k cells left t l within s fill))
              ∙ samples_append p o earlier t.done (here ∷ later)
              ∙ ap (λ z. done ++ z) (samples_first p o (earlier ++ t.done) here later)
              ∙ ap (λ z. done ++ (z ++ rest)) e ∙ ap (λ z. done ++ z) (append_assoc left more rest)
              ∙ sym (append_assoc done left (more ++ rest)) ∙ ap (λ z. z ++ (more ++ rest)) (sym t.bits_are),
        )

    -- in the next sample
    pub pixel_cut : AllByRecursion (λ s. s ≤ p.maxval) pixel → CutsSample p kind (f k) except left (earlier ++ t.done)
        → CutsPixel p kind nears given earlier
    pixel_cut small x =
        let other = another p ok (f (k + 1)).ra in let fill = replicate (c - k - 1) other.0 in
        let bits = goes_on x.sample fill x.cut.missing x.cut.more_missing x.cut.whole_is in
        record {
          pixel = pixel ++ x.sample ∷ fill;
          samples = (let a = length-append pixel (x.sample ∷ fill) in let b = length-replicate (c - k - 1) other.0 in
              let d = length-map-range_with_len f 0 c in omega (arith, a, b, d, l));
          at_most = all_append (λ s. s ≤ p.maxval) pixel (x.sample ∷ fill) small
              (x.at_most, all_replicate (λ s. s ≤ p.maxval) (c - k - 1) other.0 other.1);
          may_come = may_come f c k pixel l within kind except x.sample other.0 other.2 is x.allowed;
          cut = record { missing = x.cut.missing; more_missing = x.cut.more_missing ++ bits.0; whole_is = bits.1 };
        }

    -- neither in the next sample nor after it
    pub pixel_uncut : ((s : ℕ) (rest : List Bool) → s ≤ p.maxval
        → left ≡ sample_bits p o (earlier ++ t.done) (coded_as kind (f k) s) ++ rest → ⊥)
        → (CutsSample p kind (f k) except left (earlier ++ t.done) → ⊥) → CutsPixel p kind nears given earlier → ⊥
    pixel_uncut none uncut x =
        let more = x.cut.missing ∷ x.cut.more_missing in
        let lx : length x.pixel ≡ c = x.samples ∙ length-map-range_with_len f 0 c in
        let n = next p kind f c given earlier pixel k cells left t l within x.pixel more [] lx x.at_most
        (sym x.cut.whole_is ∙ sym (append-nil (bits_of_samples p o earlier (coded_with (coded_as kind) nears x.pixel)))) in
        elim (one_begins left more (sample_bits p o (earlier ++ t.done) (coded_as kind (f k) n.s)) n.after n.left_is) [
          | inl r ↦ none n.s r.0 n.small r.1
          | inr r ↦
              uncut (record {
                sample = n.s;
                at_most = n.small;
                allowed = not_excepted f c k pixel l within kind except n.s n.more x.pixel lx n.xs_is is x.may_come;
                cut = record { missing = r.1; more_missing = r.0; whole_is = r.2 };
              })
        ]

  -- the pixel stands whole
  pub whole_uncut : c ≤ k → CutsPixel p kind nears given earlier → ⊥
  whole_uncut all x =
      let more = x.cut.missing ∷ x.cut.more_missing in
      let lx : length x.pixel ≡ c = x.samples ∙ length-map-range_with_len f 0 c in
      let n = t.forced x.pixel more [] lx x.at_most
      (sym x.cut.whole_is ∙ sym (append-nil (bits_of_samples p o earlier (coded_with (coded_as kind) nears x.pixel)))) in
      let a = ap length n.1 in let b = length-append pixel n.0 in
      let none : n.0 ≡ [] = nil_from_length n.0 (omega (arith, a, b, lx, l, all)) in
      let same : x.pixel ≡ pixel = n.1 ∙ ap (λ z. pixel ++ z) none ∙ append-nil pixel in
      let whole = begun_whole p kind f c given earlier pixel k cells left t all in
      let bits = bits_of_samples p o earlier (coded_with (coded_as kind) nears pixel) in
      let d = ap length (ap (λ z. bits_of_samples p o earlier (coded_with (coded_as kind) nears z)) (sym same) ∙ x.cut.whole_is) in
      let e = ap length whole.bits_are in let g = length-append given more in let h = length-append bits left in
      omega (arith, d, e, g, h)
