-- Bits that break off in an event.
use Rattle.std.proofs.Common.{◌≡◌, ℕ, zero, suc, ◌+◌, ◌<◌, ◌≤◌, Bool, true, false, List, [], ◌∷◌, ◌++◌, length, get_or, replicate}
use Rattle.std.proofs.Common.{refl, sym, ap, ◌∙◌, arith, append_assoc, length-append}
use Rattle.std.specs.List.{AllByRecursion}
use Rattle.std.proofs.lemmas.List.{append-nil, length-replicate, nil_from_length}
use Rattle.jls_values.specs.Params.{CodingParameters, AreCodingParameters}
use Rattle.jls_context.specs.declared.mode.Neighbours.{Neighbours}
use Rattle.jls_context.specs.Variables.{Variables}
use Rattle.jls_interval.specs.Runs.{run_order, blocks}
use Rattle.jls_interval.specs.Code.{run_to_end_bits, interrupted_run_bits}
use Rattle.jls_interval.specs.Reading.{NoRun}
use Rattle.jls_interval.specs.CutEvents.{IsProperPrefix}
use Rattle.jls_interval.specs.CutEventsOpen.{BeginsRun}
use Rattle.jls_interval.proofs.EventsApart.{true_false}
use Rattle.jls_interval.proofs.OpenEventBits.{broken_with}
use Rattle.jls_interval.proofs.Runs.{run_apart, run_same}
use Rattle.jls_interval.proofs.SamplesRead.{wide}
use Rattle.jls_pixel.specs.Pixels.{IsPixel, RowsAbove, component_neighbours, pixel_neighbours, is_run_pixel, run_value}
use Rattle.jls_pixel.specs.Events.{Event, regular_pixel, run_to_end, interrupted_run}
use Rattle.jls_pixel.specs.Cells.{interrupting, coded_with, coded_samples}
use Rattle.jls_pixel.specs.Code.{bits_of_samples, event_bits}
use Rattle.jls_pixel.specs.Growth.{Fits}
use Rattle.jls_pixel.specs.After.{IsAfter}
use Rattle.jls_pixel.specs.RunRead.{RunIs}
use Rattle.jls_pixel.specs.EventRead.{NoEvent}
use Rattle.jls_pixel.specs.OpenEvents.{CutsPixel, NoRunToEnd, CutsEvent}
use Rattle.jls_pixel.specs.declared.sample.SampleKind.TheVariants.{Regular, Interrupting}
use Rattle.jls_pixel.specs.declared.run.Run.TheVariants.{ToEnd, Interrupted}
use Rattle.jls_pixel.proofs.PixelLists.{nears_length, all_replicate, value_length, run_keeps}
use Rattle.jls_pixel.proofs.EventsApart.{cases as same_event}
use Rattle.jls_pixel.proofs.EventSteps.{regular_is, end_is, interrupted_is, no_run_event}
use Rattle.jls_pixel.proofs.CutPixels.{another, value_at}

module _ (p : CodingParameters) (ok : AreCodingParameters p) (w c : ℕ) (up : RowsAbove)
    (above_small : AllByRecursion (IsPixel p c) up.row_above) (row : List (List ℕ)) (row_small : AllByRecursion (IsPixel p c) row)
    (cells : Variables) (r : ℕ) (small : r ≤ 31) (earlier : List Event) (t : IsAfter p cells r earlier) (given : List Bool) where
  abbrev now : List Neighbours
  now = pixel_neighbours w up row c

  abbrev value : List ℕ
  value = run_value now

  abbrev there : ℕ → List Neighbours
  there n = pixel_neighbours w up (row ++ replicate n value) c

  -- no event comes, whatever bits follow
  pub none_cuts_none : ((more : List Bool) → NoEvent p w c up row (given ++ more) earlier) → CutsEvent p w c up row given earlier → ⊥
  none_cuts_none none x =
      none (x.cut.missing ∷ x.cut.more_missing) x.event [] x.fits (sym x.cut.whole_is ∙ sym (append-nil (event_bits p earlier x.event)))

  -- an event stands whole
  pub whole_cuts_none : (e : Event) (unread : List Bool) → Fits p w c up row now e → given ≡ event_bits p earlier e ++ unread
      → CutsEvent p w c up row given earlier → ⊥
  whole_cuts_none e unread fits is x =
      let more = x.cut.missing ∷ x.cut.more_missing in
      let flat : event_bits p earlier x.event ++ [] ≡ event_bits p earlier e ++ (unread ++ more) =
      append-nil (event_bits p earlier x.event) ∙ x.cut.whole_is ∙ ap (λ z. z ++ more) is
      ∙ append_assoc (event_bits p earlier e) unread more in
      let same = same_event p (wide p ok) w c up above_small row row_small earlier x.event e [] (unread ++ more) x.fits fits flat in
      let a = ap length (ap (event_bits p earlier) same) in let b = ap length x.cut.whole_is in let d = ap length is in
      let g = length-append given more in let h = length-append (event_bits p earlier e) unread in
      omega (arith, a, b, d, g, h)

  -- Regular mode ------------------------------------------------------------------------------------

  pub regular_cut : is_run_pixel now ≡ false → CutsPixel p Regular now given (coded_samples earlier) → CutsEvent p w c up row given earlier
  regular_cut mode x = record {
    event = regular_pixel now x.pixel;
    fits = (mode, refl, (x.samples ∙ nears_length w up row c, x.at_most));
    cut = record {
      missing = x.cut.missing;
      more_missing = x.cut.more_missing;
      whole_is = regular_is p ok w c up above_small row row_small cells r small earlier t given x.pixel ∙ x.cut.whole_is;
    };
  }

  pub regular_uncut : is_run_pixel now ≡ false → (CutsPixel p Regular now given (coded_samples earlier) → ⊥)
      → CutsEvent p w c up row given earlier → ⊥
  regular_uncut mode none x = cases x.event x.fits x.cut
    where
      cases : (e : Event) → Fits p w c up row now e → IsProperPrefix given (event_bits p earlier e) → ⊥
      cases (regular_pixel nears pixel) fits cut =
          none (record {
            pixel = pixel;
            samples = fits.2.0 ∙ sym (nears_length w up row c);
            at_most = fits.2.1;
            may_come = tt;
            cut = record {
              missing = cut.missing;
              more_missing = cut.more_missing;
              whole_is = sym (regular_is p ok w c up above_small row row_small cells r small earlier t given pixel)
                  ∙ ap (λ z. event_bits p earlier (regular_pixel z pixel)) (sym fits.1) ∙ cut.whole_is;
            };
          })
      cases (run_to_end n) fits cut = true_false (is_run_pixel now) fits.0 mode
      cases (interrupted_run n nears pixel) fits cut = true_false (is_run_pixel now) fits.0 mode

  -- Runs --------------------------------------------------------------------------------------------

  module _ (w0 : ℕ) (w0_is : length row + w0 ≡ w) (mode : is_run_pixel now ≡ true) where
    abbrev to_end_is : (n : ℕ) → event_bits p earlier (run_to_end n) ≡ run_to_end_bits (blocks r n)
    to_end_is n = end_is p ok w c up above_small row row_small cells r small earlier t given w0 w0_is mode n

    abbrev broken_is : (n : ℕ) (nears : List Neighbours) (pixel : List ℕ) (rest : List Bool)
        → event_bits p earlier (interrupted_run n nears pixel) ++ rest
        ≡ interrupted_run_bits (blocks r n)
        (bits_of_samples p (run_order (blocks r n).run_index) (coded_samples earlier) (coded_with interrupting nears pixel) ++ rest)
    broken_is n nears pixel rest =
        interrupted_is p ok w c up above_small row row_small cells r small earlier t given w0 w0_is mode n nears pixel rest

    pub blocks_cut : IsProperPrefix given (run_to_end_bits (blocks r w0)) → CutsEvent p w c up row given earlier
    blocks_cut cut = record {
      event = run_to_end w0;
      fits = (mode, w0_is);
      cut = record {
        missing = cut.missing;
        more_missing = cut.more_missing;
        whole_is = to_end_is w0 ∙ cut.whole_is;
      };
    }

    pub to_end_uncut : (r' : ℕ) (unread : List Bool) → RunIs r w0 given unread (ToEnd r') → CutsEvent p w c up row given earlier → ⊥
    to_end_uncut r' unread is =
        whole_cuts_none (run_to_end w0) unread (mode, w0_is) (is.0 ∙ ap (λ z. z ++ unread) (sym (to_end_is w0)))

    pub run_refused : ((more : List Bool) → NoRun r w0 (given ++ more)) → CutsEvent p w c up row given earlier → ⊥
    run_refused none =
        none_cuts_none (λ more. no_run_event p ok w c up above_small row row_small cells r small earlier t (given ++ more) w0 w0_is mode
        (none more))

    -- a run of so many pixels, with a pixel after it
    with_pixel : (n : ℕ) → n < w0 → (pixel : List ℕ) → IsPixel p c pixel → (pixel ≡ value → ⊥)
        → IsProperPrefix given (interrupted_run_bits (blocks r n)
        (bits_of_samples p (run_order (blocks r n).run_index) (coded_samples earlier) (coded_with interrupting (there n) pixel)))
        → CutsEvent p w c up row given earlier
    with_pixel n within pixel is_pixel other cut =
        let samples = bits_of_samples p (run_order (blocks r n).run_index) (coded_samples earlier)
        (coded_with interrupting (there n) pixel) in
        record {
          event = interrupted_run n (there n) pixel;
          fits = (mode, omega arith, refl, is_pixel, other);
          cut = record {
            missing = cut.missing;
            more_missing = cut.more_missing;
            whole_is = sym (append-nil (event_bits p earlier (interrupted_run n (there n) pixel))) ∙ broken_is n (there n) pixel []
                ∙ ap (interrupted_run_bits (blocks r n)) (append-nil samples) ∙ cut.whole_is;
          };
        }

    -- the count breaks off: some pixel differs from the run's value, if it has a component
    pub count_cut : 0 < c → BeginsRun r w0 given → CutsEvent p w c up row given earlier
    count_cut some b =
        let f : ℕ → Neighbours = component_neighbours w up row in let x = another p ok (f 0).ra in
        with_pixel b.count b.short (replicate c x.0)
        (length-replicate c x.0, all_replicate (λ s. s ≤ p.maxval) c x.0 x.1)
        (λ e. x.2 (sym (first c x.0 some) ∙ ap (λ z. get_or z 0 0) e ∙ value_at f c 0 some))
        (b.cut (bits_of_samples p (run_order (blocks r b.count).run_index) (coded_samples earlier)
        (coded_with interrupting (there b.count) (replicate c x.0))))
      where
        first : (n x : ℕ) → 0 < n → get_or (replicate n x) 0 0 ≡ x
        first zero x h = absurd (omega arith)
        first (suc n) x h = refl

    -- without components no pixel interrupts a run
    pub count_uncut : c ≤ 0 → NoRunToEnd r w0 given → CutsEvent p w c up row given earlier → ⊥
    count_uncut none no_end x = cases x.event x.fits x.cut
      where
        cases : (e : Event) → Fits p w c up row now e → IsProperPrefix given (event_bits p earlier e) → ⊥
        cases (regular_pixel nears pixel) fits cut = true_false (is_run_pixel now) mode fits.0
        cases (run_to_end n) fits cut =
            let f = fits.1 in let n_is : n ≡ w0 = omega arith in
            no_end (cut.missing ∷ cut.more_missing) []
            (sym cut.whole_is ∙ to_end_is n ∙ ap (λ z. run_to_end_bits (blocks r z)) n_is
            ∙ sym (append-nil (run_to_end_bits (blocks r w0))))
        cases (interrupted_run n nears pixel) fits cut =
            let a = fits.3.0 in let b = value_length w up row c in
            fits.4 (nil_from_length pixel (omega (arith, a, none)) ∙ sym (nil_from_length value (omega (arith, b, none))))

    module _ (n : ℕ) (within : n < w0) (r' : ℕ) (left : List Bool) (is : RunIs r w0 given left (Interrupted n r')) where
      order_is : (m : ℕ) → n ≡ m → run_order (blocks r m).run_index ≡ run_order r'
      order_is m e = ap (λ z. run_order (blocks r z).run_index) (sym e) ∙ ap run_order is.1

      -- the bits after the count, and more
      with_more : (more : List Bool) → given ++ more ≡ interrupted_run_bits (blocks r n) (left ++ more)
      with_more more = ap (λ z. z ++ more) is.0 ∙ broken_with (blocks r n) left more

      pub interruption_cut : CutsPixel p (Interrupting (run_order r')) (there n) left (coded_samples earlier)
          → CutsEvent p w c up row given earlier
      interruption_cut x =
          let l = nears_length w up (row ++ replicate n value) c in
          with_pixel n within x.pixel (x.samples ∙ l, x.at_most) (λ e. x.may_come (e ∙ sym (run_keeps w up row c n)))
          (record {
            missing = x.cut.missing;
            more_missing = x.cut.more_missing;
            whole_is = ap (λ z. interrupted_run_bits (blocks r n)
                (bits_of_samples p z (coded_samples earlier) (coded_with interrupting (there n) x.pixel))) (order_is n refl)
                ∙ ap (interrupted_run_bits (blocks r n)) x.cut.whole_is ∙ sym (with_more (x.cut.missing ∷ x.cut.more_missing));
          })

      pub interruption_uncut : (CutsPixel p (Interrupting (run_order r')) (there n) left (coded_samples earlier) → ⊥)
          → CutsEvent p w c up row given earlier → ⊥
      interruption_uncut none x = cases x.event x.fits x.cut
        where
          cases : (e : Event) → Fits p w c up row now e → IsProperPrefix given (event_bits p earlier e) → ⊥
          cases (regular_pixel nears pixel) fits cut = true_false (is_run_pixel now) mode fits.0
          cases (run_to_end m) fits cut =
              let f = fits.1 in let more = cut.missing ∷ cut.more_missing in
              run_apart n r n m (left ++ more) [] small (omega arith) (omega arith)
              (sym (with_more more) ∙ sym cut.whole_is ∙ to_end_is m ∙ sym (append-nil (run_to_end_bits (blocks r m))))
          cases (interrupted_run m nears pixel) fits cut =
              let more = cut.missing ∷ cut.more_missing in
              let samples = bits_of_samples p (run_order (blocks r m).run_index) (coded_samples earlier)
              (coded_with interrupting nears pixel) in
              let s = run_same n r n m (left ++ more) (samples ++ []) small (omega arith)
              (sym (with_more more) ∙ sym cut.whole_is ∙ sym (append-nil (event_bits p earlier (interrupted_run m nears pixel)))
              ∙ broken_is m nears pixel []) in
              let nears_are : nears ≡ there n = fits.2 ∙ ap there (sym s.0) in
              let bits_are : bits_of_samples p (run_order r') (coded_samples earlier) (coded_with interrupting (there n) pixel)
              ≡ left ++ more =
              ap (λ z. bits_of_samples p z (coded_samples earlier) (coded_with interrupting (there n) pixel)) (sym (order_is m s.0))
              ∙ ap (λ z. bits_of_samples p (run_order (blocks r m).run_index) (coded_samples earlier) (coded_with interrupting z pixel))
              (sym nears_are) ∙ sym (append-nil samples) ∙ sym s.1 in
              none (record {
                pixel = pixel;
                samples = fits.3.0 ∙ sym (nears_length w up (row ++ replicate n value) c);
                at_most = fits.3.1;
                may_come = λ e. fits.4 (e ∙ run_keeps w up row c n);
                cut = record { missing = cut.missing; more_missing = cut.more_missing; whole_is = bits_are };
              })
