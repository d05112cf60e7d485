-- A row that is read, event by event.
use Rattle.std.proofs.Common.{◌≡◌, ℕ, ◌<◌, ◌≤◌, Bool, List, [], ◌∷◌, ◌++◌, length, refl, sym, ap, ◌∙◌, subst, append_assoc}
use Rattle.std.specs.List.{AllByRecursion}
use Rattle.jls_values.specs.Params.{CodingParameters, AreCodingParameters}
use Rattle.jls_context.specs.Variables.{Variables, initial_variables}
use Rattle.jls_interval.specs.Stepwise.{StepwiseCode, Leads, bits_of_steps}
use Rattle.jls_interval.proofs.StepwiseCodes.{leads_more, refused, bits_more}
use Rattle.jls_pixel.specs.Pixels.{IsPixel, AreRows, RowsAbove, rows_above, row_back, pixel_neighbours}
use Rattle.jls_pixel.specs.Events.{Event, events}
use Rattle.jls_pixel.specs.Code.{event_bits, pixel_code}
use Rattle.jls_pixel.specs.After.{IsAfter}
use Rattle.jls_pixel.specs.Growth.{Position, Fits, grown, pixel_steps, start, finish}
use Rattle.jls_pixel.specs.EventRead.{EventRead, NoEvent}
use Rattle.jls_pixel.specs.RowRead.{RowBegun, NoRows}
use Rattle.jls_pixel.proofs.PixelLists.{back_small}
use Rattle.jls_pixel.proofs.EventsApart.{events_apart}
use Rattle.jls_pixel.proofs.RowsGrow.{grown_full, grown_part, rows_grow}
use Rattle.jls_pixel.proofs.CodesApart.{kept, code_is, finished}
use Rattle.jls_pixel.proofs.GrowthEnds.{parted_from, parted_pixels, some_next, all_rows}
use Rattle.jls_pixel.proofs.CellSteps.{after_start}

module _ (p : CodingParameters) (w c n : ℕ) (some : 0 < w) (given : List Bool) where
  abbrev m : StepwiseCode
  m = pixel_steps p w c n

  abbrev at : List (List (List ℕ)) → List (List ℕ) → List Event → Position
  at rows row earlier = record { rows = rows; row = row; earlier = earlier }

  -- nothing is read
  pub nothing_begun : (cells : Variables) → cells ≡ initial_variables p → RowBegun p w c n given [] [] cells 0 given
  nothing_begun cells is = record {
    earlier = [];
    leads = sym (grown_part w [] [] [] some);
    bits_are = refl;
    is_after = subst (λ (z : Variables). IsAfter p z 0 []) (sym is) (after_start p);
  }

  module _ (rows : List (List (List ℕ))) (row : List (List ℕ)) (cells : Variables) (r : ℕ) (left : List Bool)
      (t : RowBegun p w c n given rows row cells r left) (short : length row < w) where
    leads_here : Leads m start t.earlier (at rows row t.earlier)
    leads_here = subst (Leads m start t.earlier) (grown_part w rows row t.earlier short) t.leads

    -- the rows' pixels are pixels
    pub begun_above : AllByRecursion (IsPixel p c) (row_back rows 1)
    begun_above = let h = parted_pixels p w c n some t.earlier (at rows row t.earlier) (parted_from p w c n some t.earlier (at rows row
        t.earlier) leads_here) in
        back_small p c rows 1 h.0

    module _ (unfinished : length rows < n) (up : RowsAbove) (up_is : up ≡ rows_above rows) where
      -- an event more
      pub begun_event : (row' : List (List ℕ)) (cells' : Variables) (r' : ℕ) (left' : List Bool)
          → EventRead p w c up row row' cells' r' left left' t.earlier → RowBegun p w c n given rows row' cells' r' left'
      begun_event row' cells' r' left' x =
          let y : EventRead p w c (rows_above rows) row row' cells' r' left left' t.earlier =
          subst (λ (z : RowsAbove). EventRead p w c z row row' cells' r' left left' t.earlier) up_is x in
          record {
            earlier = t.earlier ++ y.event ∷ [];
            leads = subst (λ z. Leads m start (t.earlier ++ y.event ∷ []) (grown w rows z (t.earlier ++ y.event ∷ []))) (sym y.row_is)
                (leads_more m start (at rows row t.earlier) t.earlier y.event leads_here (unfinished, y.fits));
            bits_are = t.bits_are ∙ ap (λ z. bits_of_steps m start t.earlier ++ z) y.bits_are
                ∙ sym (append_assoc (bits_of_steps m start t.earlier) (event_bits p t.earlier y.event) left')
                ∙ ap (λ z. z ++ left') (sym (bits_more m start (at rows row t.earlier) t.earlier y.event leads_here));
            is_after = y.is_after;
          }

      -- no event can come
      pub begun_stuck : AreCodingParameters p → NoEvent p w c up row left t.earlier → NoRows p w c n given
      begun_stuck ok none = λ rs rest are e.
          let x = some_next p w c n some (at rows row t.earlier) short unfinished in
          refused m (events_apart p w c n ok) (kept p w c n) start (at rows row t.earlier) (finish w c rs) t.earlier (events w c rs)
          left rest
          (tt, tt) leads_here (rows_grow p w c n some rs are) (finished p w c n rs are.count_is) x.0 x.1
          (λ f more next h. none f more (subst (λ (z : RowsAbove). Fits p w c z row (pixel_neighbours w z row c) f) (sym up_is) next.1) h)
          (sym t.bits_are ∙ e ∙ ap (λ z. z ++ rest) (code_is p w c n rs))

  -- the row is whole
  pub begun_row : (rows : List (List (List ℕ))) (row : List (List ℕ)) (cells : Variables) (r : ℕ) (left : List Bool)
      → RowBegun p w c n given rows row cells r left → length row ≡ w → RowBegun p w c n given (rows ++ row ∷ []) [] cells r left
  begun_row rows row cells r left t full = record {
    earlier = t.earlier;
    leads = subst (Leads m start t.earlier)
        (grown_full w rows row t.earlier full ∙ sym (grown_part w (rows ++ row ∷ []) [] t.earlier some)) t.leads;
    bits_are = t.bits_are;
    is_after = t.is_after;
  }

  -- all rows are there
  pub begun_rows : (rows : List (List (List ℕ))) (cells : Variables) (r : ℕ) (left : List Bool)
      → RowBegun p w c n given rows [] cells r left → n ≤ length rows
      → AreRows p w c n rows × (given ≡ pixel_code p w c rows ++ left)
  begun_rows rows cells r left t h =
      let l : Leads m start t.earlier (at rows [] t.earlier) =
      subst (Leads m start t.earlier) (grown_part w rows [] t.earlier some) t.leads in
      let a = all_rows p w c n some t.earlier (at rows [] t.earlier) (parted_from p w c n some t.earlier (at rows [] t.earlier) l) h in
      (a.0, t.bits_are ∙ ap (λ z. bits_of_steps m start z ++ left) a.2 ∙ ap (λ z. z ++ left) (sym (code_is p w c n rows)))
