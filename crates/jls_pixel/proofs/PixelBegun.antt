-- A pixel that is read, sample by sample.
use Rattle.std.proofs.Common.{◌≡◌, ℕ, ◌+◌, ◌-◌, ◌<◌, ◌≤◌, Bool, List, [], ◌∷◌, ◌++◌, length, map, refl, sym, ap, ◌∙◌, subst, arith}
use Rattle.std.proofs.Common.{append_assoc, length-append}
use Rattle.std.specs.List.{AllByRecursion, range_with_len}
use Rattle.std.proofs.lemmas.List.{append-nil, append_cancel_left}
use Rattle.jls_values.specs.Params.{CodingParameters, AreCodingParameters}
use Rattle.jls_context.specs.declared.mode.Neighbours.{Neighbours}
use Rattle.jls_context.specs.Variables.{Variables}
use Rattle.jls_interval.proofs.SamplesRead.{wide}
use Rattle.jls_pixel.specs.Cells.{CodedSample, coded_with}
use Rattle.jls_pixel.specs.Code.{sample_bits, bits_of_samples}
use Rattle.jls_pixel.specs.After.{CellsAfter}
use Rattle.jls_pixel.specs.Reading.{coded_as, order_of, IsKind, SampleRead, PixelRead}
use Rattle.jls_pixel.specs.declared.sample.SampleKind.{SampleKind}
use Rattle.jls_pixel.specs.declared.sample.SampleKind.TheVariants.{Regular, Interrupting}
use Rattle.jls_pixel.proofs.PixelLists.{SmallNear}
use Rattle.jls_pixel.proofs.EventsApart.{CanBeTold, told_regular, told_interrupting}
use Rattle.jls_pixel.proofs.PixelSteps.{range_first, range_none}

-- the bits of samples, and of more samples after them
pub samples_append : (p : CodingParameters) (order : ℕ) (earlier xs ys : List CodedSample)
    → bits_of_samples p order earlier (xs ++ ys) ≡ bits_of_samples p order earlier xs ++ bits_of_samples p order (earlier ++ xs) ys
unfolding bits_of_samples
samples_append p order earlier [] ys = ap (λ z. bits_of_samples p order z ys) (sym (append-nil earlier))
samples_append p order earlier (x ∷ xs) ys =
    ap (λ z. sample_bits p order earlier x ++ z)
    (samples_append p order (earlier ++ x ∷ []) xs ys
    ∙ ap (λ z. bits_of_samples p order (earlier ++ x ∷ []) xs ++ bits_of_samples p order z ys) (append_assoc earlier (x ∷ []) xs))
    ∙ sym (append_assoc (sample_bits p order earlier x) (bits_of_samples p order (earlier ++ x ∷ []) xs)
    (bits_of_samples p order (earlier ++ x ∷ xs) ys))

pub samples_first : (p : CodingParameters) (order : ℕ) (earlier : List CodedSample) (x : CodedSample) (ys : List CodedSample)
    → bits_of_samples p order earlier (x ∷ ys) ≡ sample_bits p order earlier x ++ bits_of_samples p order (earlier ++ x ∷ []) ys
unfolding bits_of_samples
samples_first p order earlier x ys = refl

pub samples_none : (p : CodingParameters) (order : ℕ) (earlier : List CodedSample) → bits_of_samples p order earlier [] ≡ []
unfolding bits_of_samples
samples_none p order earlier = refl

-- a sample of each kind can be told from its bits
pub told : (p : CodingParameters) (kind : SampleKind) → AreCodingParameters p → IsKind kind → CanBeTold p (order_of kind) (coded_as kind)
told p Regular ok is = told_regular p 0 (wide p ok)
told p (Interrupting order) ok is = told_interrupting p order (wide p ok) is

module _ (p : CodingParameters) (kind : SampleKind) (f : ℕ → Neighbours) (c : ℕ) (given : List Bool) (earlier : List CodedSample) where
  abbrev nears : List Neighbours
  nears = map f (range_with_len 0 c)

  -- the samples of the components from k on
  abbrev pub others : ℕ → List ℕ → List CodedSample
  others k samples = coded_with (coded_as kind) (map f (range_with_len k (c - k))) samples

  -- the first samples of a pixel were read
  pub record PixelBegun (pixel : List ℕ) (k : ℕ) (cells : Variables) (left : List Bool) : Type 0 where
    pub done : List CodedSample
    pub cells_after : CellsAfter p cells (earlier ++ done)
    pub bits_are : given ≡ bits_of_samples p (order_of kind) earlier done ++ left
    pub whole : (more : List ℕ) → coded_with (coded_as kind) nears (pixel ++ more) ≡ done ++ others k more
    -- whatever pixel stands at the start of the bits, with any bits after them, begins so
    pub forced : (xs : List ℕ) (on rest : List Bool) → length xs ≡ c → AllByRecursion (λ s. s ≤ p.maxval) xs
        → given ++ on ≡ bits_of_samples p (order_of kind) earlier (coded_with (coded_as kind) nears xs) ++ rest
        → (more : List ℕ) × (xs ≡ pixel ++ more)

  pub begun_none : (cells : Variables) → CellsAfter p cells earlier → PixelBegun [] 0 cells given
  begun_none cells t = record {
    done = [];
    cells_after = subst (CellsAfter p cells) (sym (append-nil earlier)) t;
    bits_are = ap (λ z. z ++ given) (sym (samples_none p (order_of kind) earlier));
    whole = λ more. (let e : c - 0 ≡ c = omega arith in ap (λ z. coded_with (coded_as kind) (map f (range_with_len 0 z)) more) (sym e));
    forced = λ xs on rest l a e. (xs, refl);
  }

  module _ (pixel : List ℕ) (k : ℕ) (cells : Variables) (left : List Bool) (t : PixelBegun pixel k cells left) (l : length pixel ≡ k)
      (within : k < c) where
    pub others_first : (s : ℕ) (more : List ℕ) → others k (s ∷ more) ≡ coded_as kind (f k) s ∷ others (k + 1) more
    others_first s more = ap (λ z. coded_with (coded_as kind) z (s ∷ more)) (range_first f k c within)

    -- the next sample of a pixel that stands at the start of the bits, with any bits after them
    pub record Next (xs : List ℕ) (on : List Bool) : Type 0 where
      pub s : ℕ
      pub more : List ℕ
      pub xs_is : xs ≡ pixel ++ s ∷ more
      pub small : s ≤ p.maxval
      pub after : List Bool
      pub left_is : left ++ on ≡ sample_bits p (order_of kind) (earlier ++ t.done) (coded_as kind (f k) s) ++ after

    all_right : (xs ys : List ℕ) → AllByRecursion (λ s. s ≤ p.maxval) (xs ++ ys) → AllByRecursion (λ s. s ≤ p.maxval) ys
    all_right [] ys h = h
    all_right (x ∷ xs) ys h = all_right xs ys h.1

    pub next : (xs : List ℕ) (on rest : List Bool) → length xs ≡ c → AllByRecursion (λ s. s ≤ p.maxval) xs
        → given ++ on ≡ bits_of_samples p (order_of kind) earlier (coded_with (coded_as kind) nears xs) ++ rest → Next xs on
    next xs on rest lx small e = go (t.forced xs on rest lx small e).0 (t.forced xs on rest lx small e).1
      where
        go : (more : List ℕ) → xs ≡ pixel ++ more → Next xs on
        go [] is = let la = ap length is in let lb = length-append pixel [] in absurd (omega arith)
        go (s ∷ more) is =
            let o = order_of kind in let here = coded_as kind (f k) s in
            let after = bits_of_samples p o ((earlier ++ t.done) ++ here ∷ []) (others (k + 1) more) ++ rest in
            let split : coded_with (coded_as kind) nears xs ≡ t.done ++ here ∷ others (k + 1) more =
            ap (coded_with (coded_as kind) nears) is ∙ t.whole (s ∷ more) ∙ ap (λ z. t.done ++ z) (others_first s more) in
            let bits_split : given ++ on ≡ bits_of_samples p o earlier t.done
            ++ (sample_bits p o (earlier ++ t.done) here ++ after) =
            e ∙ ap (λ z. bits_of_samples p o earlier z ++ rest) split
            ∙ ap (λ z. z ++ rest) (samples_append p o earlier t.done (here ∷ others (k + 1) more)
            ∙ ap (λ z. bits_of_samples p o earlier t.done ++ z) (samples_first p o (earlier ++ t.done) here (others (k + 1) more)))
            ∙ append_assoc (bits_of_samples p o earlier t.done)
            (sample_bits p o (earlier ++ t.done) here ++ bits_of_samples p o ((earlier ++ t.done) ++ here ∷ []) (others (k + 1) more)) rest
            ∙ ap (λ z. bits_of_samples p o earlier t.done ++ z)
            (append_assoc (sample_bits p o (earlier ++ t.done) here)
            (bits_of_samples p o ((earlier ++ t.done) ++ here ∷ []) (others (k + 1) more)) rest) in
            record {
              s = s;
              more = more;
              xs_is = is;
              small = (all_right pixel (s ∷ more) (subst (AllByRecursion (λ x. x ≤ p.maxval)) is small)).0;
              after = after;
              left_is = append_cancel_left (bits_of_samples p o earlier t.done) (left ++ on)
                  (sample_bits p o (earlier ++ t.done) here ++ after)
                  (sym (append_assoc (bits_of_samples p o earlier t.done) left on) ∙ ap (λ z. z ++ on) (sym t.bits_are) ∙ bits_split);
            }

    -- no sample stands where the next one is to come
    pub begun_refused : ((s : ℕ) (rest : List Bool) → s ≤ p.maxval
        → left ≡ sample_bits p (order_of kind) (earlier ++ t.done) (coded_as kind (f k) s) ++ rest → ⊥)
        → (xs : List ℕ) (rest : List Bool) → length xs ≡ c → AllByRecursion (λ s. s ≤ p.maxval) xs
        → given ≡ bits_of_samples p (order_of kind) earlier (coded_with (coded_as kind) nears xs) ++ rest → ⊥
    begun_refused none xs rest lx small e =
        let n = next xs [] rest lx small (append-nil given ∙ e) in none n.s n.after n.small (sym (append-nil left) ∙ n.left_is)

    -- a sample more
    pub begun_more : AreCodingParameters p → IsKind kind → SmallNear p (f k) → (s : ℕ) → s ≤ p.maxval → (cells' : Variables)
        → (left' : List Bool)
        → SampleRead p kind (f k) s cells' left left' (earlier ++ t.done) → PixelBegun (pixel ++ s ∷ []) (k + 1) cells' left'
    begun_more ok is near s small cells' left' r =
        let o = order_of kind in let here = coded_as kind (f k) s in
        record {
          done = t.done ++ here ∷ [];
          cells_after = subst (CellsAfter p cells') (append_assoc earlier t.done (here ∷ [])) r.cells_after;
          bits_are = t.bits_are ∙ ap (λ z. bits_of_samples p o earlier t.done ++ z) r.bits_are
              ∙ sym (append_assoc (bits_of_samples p o earlier t.done) (sample_bits p o (earlier ++ t.done) here) left')
              ∙ ap (λ z. z ++ left') (sym (one_more o here));
          whole = λ more. ap (coded_with (coded_as kind) nears) (append_assoc pixel (s ∷ []) more) ∙ t.whole (s ∷ more)
              ∙ ap (λ z. t.done ++ z) (others_first s more) ∙ sym (append_assoc t.done (here ∷ []) (others (k + 1) more));
          forced = λ xs on rest lx a e. (let n = next xs on rest lx a e in
              let same : s ≡ n.s = told p kind ok is (earlier ++ t.done) (f k) s n.s (left' ++ on) n.after near small n.small
              (sym (append_assoc (sample_bits p o (earlier ++ t.done) here) left' on) ∙ ap (λ z. z ++ on) (sym r.bits_are)
              ∙ n.left_is) in
              (n.more, n.xs_is ∙ ap (λ z. pixel ++ z ∷ n.more) (sym same) ∙ sym (append_assoc pixel (s ∷ []) n.more)));
        }
      where
        one_more : (o : ℕ) (x : CodedSample) → bits_of_samples p o earlier (t.done ++ x ∷ [])
            ≡ bits_of_samples p o earlier t.done ++ sample_bits p o (earlier ++ t.done) x
        one_more o x =
            samples_append p o earlier t.done (x ∷ [])
            ∙ ap (λ z. bits_of_samples p o earlier t.done ++ z) (samples_first p o (earlier ++ t.done) x []
            ∙ ap (λ z. sample_bits p o (earlier ++ t.done) x ++ z) (samples_none p o ((earlier ++ t.done) ++ x ∷ []))
            ∙ append-nil (sample_bits p o (earlier ++ t.done) x))

  -- all samples were read
  pub begun_whole : (pixel : List ℕ) (k : ℕ) (cells : Variables) (left : List Bool) → PixelBegun pixel k cells left → c ≤ k
      → PixelRead p kind nears pixel cells given left earlier
  begun_whole pixel k cells left t h =
      let all : coded_with (coded_as kind) nears pixel ≡ t.done =
      ap (coded_with (coded_as kind) nears) (sym (append-nil pixel)) ∙ t.whole []
      ∙ ap (λ z. t.done ++ coded_with (coded_as kind) z []) (range_none f k c h) ∙ append-nil t.done in
      record {
        cells_after = subst (λ z. CellsAfter p cells (earlier ++ z)) (sym all) t.cells_after;
        bits_are = t.bits_are ∙ ap (λ z. bits_of_samples p (order_of kind) earlier z ++ left) (sym all);
      }
