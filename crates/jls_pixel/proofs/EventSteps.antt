-- An event that is read: what its parts, or their want, say of the bits.
use Rattle.std.proofs.Common.{◌≡◌, ℕ, ◌+◌, ◌<◌, ◌≤◌, Bool, true, false, List, [], ◌∷◌, ◌++◌, length, replicate, refl, sym, ap, ◌∙◌}
use Rattle.std.proofs.Common.{subst, arith}
use Rattle.std.proofs.Common.{append_assoc}
use Rattle.std.specs.Prelude.{Option, Some, None, Result, Ok, Err, IfOk, IfSome, IfNone}
use Rattle.std.specs.List.{AllByRecursion}
use Rattle.jls_values.specs.Params.{CodingParameters, AreCodingParameters}
use Rattle.jls_context.specs.declared.mode.Neighbours.{Neighbours}
use Rattle.jls_context.specs.Variables.{Variables}
use Rattle.jls_interval.specs.Runs.{run_order, blocks, run_index_lowered}
use Rattle.jls_interval.specs.Code.{run_to_end_bits, interrupted_run_bits}
use Rattle.jls_interval.specs.Reading.{NoRun}
use Rattle.jls_interval.proofs.EventsApart.{true_false, j_small}
use Rattle.jls_interval.proofs.SamplesRead.{wide}
use Rattle.jls_interval.proofs.Runs.{run_apart, run_same}
use Rattle.std.proofs.lemmas.List.{append-nil}
use Rattle.jls_pixel.specs.Pixels.{IsPixel, RowsAbove, pixel_neighbours, is_run_pixel, run_value}
use Rattle.jls_pixel.specs.Events.{Event, regular_pixel, run_to_end, interrupted_run}
use Rattle.jls_pixel.specs.Cells.{regular, interrupting, coded_with, coded_samples}
use Rattle.jls_pixel.specs.Code.{bits_of_samples, event_bits}
use Rattle.jls_pixel.specs.After.{CellsAfter, IsAfter}
use Rattle.jls_pixel.specs.Reading.{ReadsPixel, RefusesPixel}
use Rattle.jls_pixel.specs.RunRead.{RunIs}
use Rattle.jls_pixel.specs.EventRead.{EventRead, NoEvent}
use Rattle.jls_pixel.specs.InterruptionRead.{InterruptionRead, NoInterruption}
use Rattle.jls_pixel.specs.declared.sample.SampleKind.TheVariants.{Regular, Interrupting}
use Rattle.jls_pixel.specs.declared.run.Run.TheVariants.{ToEnd, Interrupted}
use Rattle.jls_pixel.proofs.PixelLists.{nears_length, nears_small, all_append, all_replicate, value_is_pixel, run_keeps}
use Rattle.jls_pixel.proofs.EventsApart.{samples_same, told_interrupting, interrupted_then}
use Rattle.jls_pixel.proofs.CellSteps.{after_event}

module _ (p : CodingParameters) (ok : AreCodingParameters p) (w c : ℕ) (up : RowsAbove)
    (above_small : AllByRecursion (IsPixel p c) up.row_above) (row : List (List ℕ)) (row_small : AllByRecursion (IsPixel p c) row)
    (cells : Variables) (r : ℕ) (small : r ≤ 31) (earlier : List Event) (t : IsAfter p cells r earlier) (given : List Bool) where
  abbrev now : List Neighbours
  now = pixel_neighbours w up row c

  abbrev value : List ℕ
  value = run_value now

  -- the neighbours of the pixel after a run of so many
  abbrev there : ℕ → List Neighbours
  there n = pixel_neighbours w up (row ++ replicate n value) c

  -- Regular mode ------------------------------------------------------------------------------------

  pub regular_event : (pixel : List ℕ) (row' : List (List ℕ)) (cells' : Variables) (left : List Bool) → is_run_pixel now ≡ false
      → IsPixel p c pixel → row' ≡ row ++ pixel ∷ [] → ReadsPixel p Regular now pixel cells cells' given left
      → EventRead p w c up row row' cells' r given left earlier
  unfolding event_bits
  regular_event pixel row' cells' left mode is row'_is reads =
      let x = reads (coded_samples earlier) t.cells_after in
      record {
        event = regular_pixel now pixel;
        fits = (mode, refl, is);
        row_is = row'_is;
        is_after = after_event p cells' r r earlier (regular_pixel now pixel) t.run_index_is x.cells_after refl;
        bits_are = x.bits_are;
      }

  pub regular_is : (pixel : List ℕ) → event_bits p earlier (regular_pixel now pixel)
      ≡ bits_of_samples p 0 (coded_samples earlier) (coded_with regular now pixel)
  unfolding event_bits
  regular_is pixel = refl

  pub no_regular_event : is_run_pixel now ≡ false → RefusesPixel p Regular now cells given → NoEvent p w c up row given earlier
  no_regular_event mode none = cases
    where
      cases : NoEvent p w c up row given earlier
      cases (regular_pixel nears pixel) rest fits e =
          none (coded_samples earlier) t.cells_after pixel rest (fits.2.0 ∙ sym (nears_length w up row c)) fits.2.1
          (e ∙ ap (λ z. event_bits p earlier (regular_pixel z pixel) ++ rest) fits.1 ∙ ap (λ z. z ++ rest) (regular_is pixel))
      cases (run_to_end n) rest fits e = true_false (is_run_pixel now) fits.0 mode
      cases (interrupted_run n nears pixel) rest fits e = true_false (is_run_pixel now) fits.0 mode

  -- Runs --------------------------------------------------------------------------------------------

  module _ (w0 : ℕ) (w0_is : length row + w0 ≡ w) (mode : is_run_pixel now ≡ true) where
    pub end_is : (n : ℕ) → event_bits p earlier (run_to_end n) ≡ run_to_end_bits (blocks r n)
    unfolding event_bits
    end_is n = ap (λ z. run_to_end_bits (blocks z n)) (sym t.run_index_is)

    pub interrupted_is : (n : ℕ) (nears : List Neighbours) (pixel : List ℕ) (rest : List Bool)
        → event_bits p earlier (interrupted_run n nears pixel) ++ rest
        ≡ interrupted_run_bits (blocks r n)
        (bits_of_samples p (run_order (blocks r n).run_index) (coded_samples earlier) (coded_with interrupting nears pixel) ++ rest)
    interrupted_is n nears pixel rest =
        interrupted_then p earlier n nears pixel rest
        ∙ ap (λ z. interrupted_run_bits (blocks z n)
        (bits_of_samples p (run_order (blocks z n).run_index) (coded_samples earlier) (coded_with interrupting nears pixel) ++ rest))
        (sym t.run_index_is)

    pub no_run_event : NoRun r w0 given → NoEvent p w c up row given earlier
    no_run_event none (regular_pixel nears pixel) rest fits e = true_false (is_run_pixel now) mode fits.0
    no_run_event none (run_to_end n) rest fits e =
        let f = fits.1 in let n_is : n ≡ w0 = omega arith in
        none.0 rest (e ∙ ap (λ z. z ++ rest) (end_is n) ∙ ap (λ z. run_to_end_bits (blocks r z) ++ rest) n_is)
    no_run_event none (interrupted_run n nears pixel) rest fits e =
        let f = fits.1 in none.1 n _ (omega arith) (e ∙ interrupted_is n nears pixel rest)

    pub to_end_event : (r' : ℕ) (row' : List (List ℕ)) (left : List Bool) → row' ≡ row ++ replicate w0 value
        → RunIs r w0 given left (ToEnd r')
        → EventRead p w c up row row' cells r' given left earlier
    to_end_event r' row' left row'_is is = record {
      event = run_to_end w0;
      fits = (mode, w0_is);
      row_is = row'_is;
      is_after = after_event p cells r r' earlier (run_to_end w0) t.run_index_is
          (subst (CellsAfter p cells) (sym (append-nil (coded_samples earlier))) t.cells_after) (sym is.1);
      bits_are = is.0 ∙ ap (λ z. z ++ left) (sym (end_is w0));
    }

    module _ (n : ℕ) (within : n < w0) (r' : ℕ) (left : List Bool) (is : RunIs r w0 given left (Interrupted n r')) where
      abbrev order : ℕ
      order = run_order r'

      order_is : (m : ℕ) → n ≡ m → run_order (blocks r m).run_index ≡ order
      order_is m e = ap (λ z. run_order (blocks r z).run_index) (sym e) ∙ ap run_order is.1

      -- an event at the start of the bits is a run of as many pixels, and the bits of a pixel follow it
      pub interrupted_only : ((pixel : List ℕ) (rest : List Bool) → IsPixel p c pixel → (pixel ≡ value → ⊥)
          → left ≡ bits_of_samples p order (coded_samples earlier) (coded_with interrupting (there n) pixel) ++ rest → ⊥)
          → NoEvent p w c up row given earlier
      interrupted_only none (regular_pixel nears pixel) rest fits e = true_false (is_run_pixel now) mode fits.0
      interrupted_only none (run_to_end m) rest fits e =
          let f = fits.1 in
          run_apart n r n m left rest small (omega arith) (omega arith) (sym is.0 ∙ e ∙ ap (λ z. z ++ rest) (end_is m))
      interrupted_only none (interrupted_run m nears pixel) rest fits e =
          let s = run_same n r n m left _ small (omega arith) (sym is.0 ∙ e ∙ interrupted_is m nears pixel rest) in
          let nears_are : nears ≡ there n = fits.2 ∙ ap there (sym s.0) in
          none pixel rest fits.3 fits.4
          (s.1 ∙ ap (λ z. bits_of_samples p z (coded_samples earlier) (coded_with interrupting nears pixel) ++ rest) (order_is m s.0)
          ∙ ap (λ z. bits_of_samples p order (coded_samples earlier) (coded_with interrupting z pixel) ++ rest) nears_are)

      pub no_interruption : RefusesPixel p (Interrupting order) (there n) cells left → NoEvent p w c up row given earlier
      no_interruption none =
          interrupted_only (λ pixel rest a b e. none (coded_samples earlier) t.cells_after pixel rest
          (a.0 ∙ sym (nears_length w up (row ++ replicate n value) c)) a.1 e)

      module _ (pixel : List ℕ) (is_pixel : IsPixel p c pixel) (cells' : Variables) (left' : List Bool)
          (reads : ReadsPixel p (Interrupting order) (there n) pixel cells cells' left left') where
        -- the run's own value
        pub same_value : pixel ≡ value → NoEvent p w c up row given earlier
        same_value own =
            interrupted_only (λ other rest a b e.
            let l = nears_length w up (row ++ replicate n value) c in
            let there_small = nears_small p c w up above_small (row ++ replicate n value)
            (all_append (IsPixel p c) row (replicate n value) row_small
            (all_replicate (IsPixel p c) n value (value_is_pixel p c w up above_small row row_small))) in
            b (sym (samples_same p order interrupting (told_interrupting p order (wide p ok) (j_small r')) (there n) pixel other
            (coded_samples earlier) left' rest there_small (is_pixel.0 ∙ sym l) (a.0 ∙ sym l) is_pixel.1 a.1
            (sym (reads (coded_samples earlier) t.cells_after).bits_are ∙ e)).0 ∙ own))

        pub interrupted_event : (r'' : ℕ) (row' : List (List ℕ)) → (pixel ≡ value → ⊥) → r'' ≡ run_index_lowered r'
            → row' ≡ (row ++ replicate n value) ++ pixel ∷ []
            → EventRead p w c up row row' cells' r'' given left' earlier
        interrupted_event r'' row' another r''_is row'_is =
            let x = reads (coded_samples earlier) t.cells_after in
            record {
              event = interrupted_run n (there n) pixel;
              fits = (mode, omega arith, refl, is_pixel, another);
              row_is = row'_is ∙ append_assoc row (replicate n value) (pixel ∷ []);
              is_after = after_event p cells' r r'' earlier (interrupted_run n (there n) pixel) t.run_index_is x.cells_after
                  (r''_is ∙ ap run_index_lowered (sym is.1));
              bits_are = is.0 ∙ ap (interrupted_run_bits (blocks r n)) x.bits_are
                  ∙ ap (λ z. interrupted_run_bits (blocks r n)
                  (bits_of_samples p z (coded_samples earlier) (coded_with interrupting (there n) pixel) ++ left')) (sym (order_is n refl))
                  ∙ sym (interrupted_is n (there n) pixel left');
            }

      -- the same of a pixel that was added to a row in which the run's other pixels are already
      pub interruption_event : (row1 row2 : List (List ℕ)) (cells' : Variables) (r'' : ℕ) (left' : List Bool)
          → row1 ≡ row ++ replicate n value → InterruptionRead p w c up row1 row2 cells cells' r' r'' left left'
          → EventRead p w c up row row2 cells' r'' given left' earlier
      interruption_event row1 row2 cells' r'' left' row1_is x =
          let keeps = run_keeps w up row c n in
          let there_is : pixel_neighbours w up row1 c ≡ there n = ap (λ z. pixel_neighbours w up z c) row1_is in
          interrupted_event x.pixel x.is_pixel cells' left'
          (subst (λ z. ReadsPixel p (Interrupting order) z x.pixel cells cells' left left') there_is x.reads) r'' row2
          (λ q. x.another (q ∙ sym keeps ∙ ap run_value (sym there_is))) x.run_index_is (x.row_is ∙ ap (λ z. z ++ x.pixel ∷ []) row1_is)

      pub no_interruption_event : (row1 : List (List ℕ)) → row1 ≡ row ++ replicate n value → NoInterruption p w c up row1 cells r' left
          → NoEvent p w c up row given earlier
      no_interruption_event row1 row1_is none =
          let keeps = run_keeps w up row c n in
          let there_is : pixel_neighbours w up row1 c ≡ there n = ap (λ z. pixel_neighbours w up z c) row1_is in
          interrupted_only (λ pixel rest a b e. none (coded_samples earlier) t.cells_after pixel rest a
          (λ q. b (q ∙ ap run_value there_is ∙ keeps))
          (e ∙ ap (λ z. bits_of_samples p order (coded_samples earlier) (coded_with interrupting z pixel) ++ rest) (sym there_is)))

-- the same of a pixel that interrupts a run, where the run's other pixels are in the row already ------

module _ (p : CodingParameters) (ok : AreCodingParameters p) (w c : ℕ) (up : RowsAbove)
    (above_small : AllByRecursion (IsPixel p c) up.row_above) (row : List (List ℕ)) (row_small : AllByRecursion (IsPixel p c) row)
    (cells cells' : Variables) (r : ℕ) (given left' : List Bool) where
  pub refused_interruption : RefusesPixel p (Interrupting (run_order r)) (pixel_neighbours w up row c) cells given
      → NoInterruption p w c up row cells r given
  refused_interruption none = λ earlier t pixel rest a b e.
      none earlier t pixel rest (a.0 ∙ sym (nears_length w up row c)) a.1 e

  pub own_interruption : (pixel : List ℕ) → IsPixel p c pixel
      → ReadsPixel p (Interrupting (run_order r)) (pixel_neighbours w up row c) pixel cells cells' given left'
      → pixel ≡ run_value (pixel_neighbours w up row c) → NoInterruption p w c up row cells r given
  own_interruption pixel is_pixel reads own = λ earlier t other rest a b e.
      let l = nears_length w up row c in
      b (sym (samples_same p (run_order r) interrupting (told_interrupting p (run_order r) (wide p ok) (j_small r))
      (pixel_neighbours w up row c) pixel other earlier left' rest (nears_small p c w up above_small row row_small) (is_pixel.0 ∙ sym l)
      (a.0 ∙ sym l) is_pixel.1 a.1 (sym (reads earlier t).bits_are ∙ e)).0 ∙ own)

-- Under an answer -----------------------------------------------------------------------------------

pub if_ok : {T E : Type 0} (r : Result T E) (P Q : T → Type 0) → ((x : T) → P x → Q x) → IfOk r P → IfOk r Q
if_ok (Ok x) P Q f h = f x h
if_ok (Err e) P Q f h = tt

pub if_some : {T : Type 0} (o : Option T) (P Q : T → Type 0) → ((x : T) → P x → Q x) → IfSome o P → IfSome o Q
if_some (Some x) P Q f h = f x h
if_some None P Q f h = tt

pub if_none : {T : Type 0} (o : Option T) (P Q : Type 0) → (P → Q) → IfNone o P → IfNone o Q
if_none (Some x) P Q f h = tt
if_none None P Q f h = f h

-- the pixels of a run are pixels
pub run_pixels_of : (p : CodingParameters) (w c : ℕ) (up : RowsAbove) → AllByRecursion (IsPixel p c) up.row_above
    → (row : List (List ℕ)) → AllByRecursion (IsPixel p c) row
    → (n : ℕ) → AllByRecursion (IsPixel p c) (row ++ replicate n (run_value (pixel_neighbours w up row c)))
run_pixels_of p w c up above_small row row_small n =
    all_append (IsPixel p c) row (replicate n (run_value (pixel_neighbours w up row c))) row_small
    (all_replicate (IsPixel p c) n (run_value (pixel_neighbours w up row c)) (value_is_pixel p c w up above_small row row_small))
