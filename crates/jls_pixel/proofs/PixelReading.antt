-- A reader that is given bits: what each of its steps says.
use Rattle.std.proofs.Common.{◌≡◌, ℕ, ◌+◌, ◌^◌, ◌<◌, ◌≤◌, Bool, List, [], ◌∷◌, ◌++◌, length, refl, sym, ap, ◌∙◌}
use Rattle.std.proofs.Common.{subst, arith}
use Rattle.std.proofs.Common.{append_assoc, length-append, min, inl, inr}
use Rattle.std.proofs.lemmas.Bool.{cases_lt}
use Rattle.std.specs.List.{AllByRecursion}
use Rattle.std.proofs.lemmas.List.{append-nil}
use Rattle.jls_values.specs.Params.{CodingParameters, AreCodingParameters}
use Rattle.jls_context.specs.Variables.{Variables, initial_variables}
use Rattle.jls_interval.specs.Stepwise.{bits_of_steps}
use Rattle.jls_pixel.specs.Pixels.{IsPixel, AreRows, RowsAbove, rows_above, pixel_shape}
use Rattle.jls_pixel.specs.Code.{pixel_code}
use Rattle.jls_pixel.specs.Growth.{pixel_steps, start}
use Rattle.jls_pixel.specs.EventRead.{ReadsEvent, RefusesEvent}
use Rattle.jls_pixel.specs.RowRead.{RowBegun, NoRows}
use Rattle.jls_pixel.specs.PixelReading.{IsBegun, IsWorking, IsComplete, BeginsNoCode, StateIs, IsReading, HasShape, HasTaken}
use Rattle.jls_pixel.specs.PixelReading.{KeepsShape, longest_event}
use Rattle.jls_pixel.specs.Place.{above_of}
use Rattle.jls_pixel.specs.declared.place.Place.{Place}
use Rattle.jls_pixel.specs.declared.pixel_reader.State.{State}
use Rattle.jls_pixel.specs.declared.pixel_reader.State.TheVariants.{Working, Complete}
use Rattle.jls_pixel.specs.declared.pixel_reader.PixelReader.{PixelReader}
use Rattle.jls_pixel.proofs.RowSteps.{nothing_begun, begun_event, begun_stuck, begun_row, begun_rows}
use Rattle.jls_pixel.proofs.LongestEvents.{no_event_more}

-- The state that a reading has
module _ (p : CodingParameters) (d : PixelReader) (given : List Bool) (reading : IsReading p given d) where
  pub state_of : (s : State) → d.state ≡ s
      → StateIs p d.width d.components d.count given d.rows d.row.items d.coder.cells d.run_index d.pending s
  state_of s e =
      subst (λ (z : State). StateIs p d.width d.components d.count given d.rows d.row.items d.coder.cells d.run_index d.pending z) e
      reading.state_is

  pub working : d.state ≡ Working
      → IsWorking p d.width d.components d.count given d.rows d.row.items d.coder.cells d.run_index d.pending
  working e = state_of Working e

-- what holds at the place of the row in work holds of the reader
pub same_place : (d : PixelReader) (place : Place) → place.width ≡ d.width → place.components ≡ d.components
    → above_of place ≡ rows_above d.rows → (p : CodingParameters) → d.coder.cells.parameters ≡ p
    → (P : CodingParameters → ℕ → ℕ → RowsAbove → Type 0)
    → P d.coder.cells.parameters place.width place.components (above_of place) → P p d.width d.components (rows_above d.rows)
same_place d place width components above p is P x =
    subst (λ (z : RowsAbove). P p d.width d.components z) above
    (subst (λ z. P p d.width z (above_of place)) components
    (subst (λ z. P p z place.components (above_of place)) width
    (subst (λ (z : CodingParameters). P z place.width place.components (above_of place)) is x)))

module _ (p : CodingParameters) (w c n : ℕ) (some : 0 < w) where
  -- more bits come
  pub begun_with : (given : List Bool) (rows : List (List (List ℕ))) (row : List (List ℕ)) (cells : Variables) (r : ℕ) (left : List Bool)
      → RowBegun p w c n given rows row cells r left → (more : List Bool)
      → RowBegun p w c n (given ++ more) rows row cells r (left ++ more)
  begun_with given rows row cells r left t more = record {
    earlier = t.earlier;
    leads = t.leads;
    bits_are = ap (λ z. z ++ more) t.bits_are ∙ append_assoc (bits_of_steps (pixel_steps p w c n) start t.earlier) left more;
    is_after = t.is_after;
  }

  pub working_with : (given : List Bool) (rows : List (List (List ℕ))) (row : List (List ℕ)) (cells : Variables) (r : ℕ)
      (left : List Bool) → IsWorking p w c n given rows row cells r left → (more : List Bool)
      → IsWorking p w c n (given ++ more) rows row cells r (left ++ more)
  working_with given rows row cells r left t more = record {
    begun = record {
      begun = begun_with given rows row cells r left t.begun.begun more;
      few = t.begun.few;
      columns = t.begun.columns;
      pixels = t.begun.pixels;
      run_index_at_most = t.begun.run_index_at_most;
    };
    unfinished = t.unfinished;
  }

  module _ (ok : AreCodingParameters p) (narrow : w < 2 ^ 16) (four : c ≤ 4) (given : List Bool) (rows : List (List (List ℕ)))
      (row : List (List ℕ)) (cells : Variables) (r : ℕ) (left : List Bool) (t : IsWorking p w c n given rows row cells r left)
      (up : RowsAbove) (up_is : up ≡ rows_above rows) where
    -- an event stands at the start of the bits that wait
    pub event_taken : (row' : List (List ℕ)) (cells' : Variables) (r' : ℕ) (left' : List Bool)
        → ReadsEvent p w c up row row' cells cells' r r' left left' → length row' ≤ w → AllByRecursion (IsPixel p c) row' → r' ≤ 31
        → IsBegun p w c n given rows row' cells' r' left'
    event_taken row' cells' r' left' reads columns pixels small = record {
      begun =
          (let b = t.begun.begun in
          begun_event p w c n some given rows row cells r left b t.unfinished t.begun.few up up_is row' cells' r' left'
          (reads b.earlier b.is_after));
      few = t.begun.few;
      columns = columns;
      pixels = pixels;
      run_index_at_most = small;
    }

    -- none does
    pub none_stands : RefusesEvent p w c up row cells r left → NoRows p w c n given
    none_stands none =
        let b = t.begun.begun in
        begun_stuck p w c n some given rows row cells r left b t.unfinished t.begun.few up up_is ok (none b.earlier b.is_after)

    pub none_comes : RefusesEvent p w c up row cells r left → longest_event ≤ length left → BeginsNoCode p w c n given
    unfolding begun_with
    none_comes none many more =
        let b = t.begun.begun in
        begun_stuck p w c n some (given ++ more) rows row cells r (left ++ more) (begun_with given rows row cells r left b more)
        t.unfinished
        t.begun.few up up_is ok
        (no_event_more p ok w c narrow four up row b.earlier left more many (none b.earlier b.is_after))

  -- a whole row gets among the finished ones, and rows are still to come
  pub row_ended : (given : List Bool) (rows : List (List (List ℕ))) (row : List (List ℕ)) (cells : Variables) (r : ℕ) (left : List Bool)
      → IsBegun p w c n given rows row cells r left → length row ≡ w → length rows + 1 < n
      → IsWorking p w c n given (rows ++ row ∷ []) [] cells r left
  row_ended given rows row cells r left t full more = record {
    begun = record {
      begun = begun_row p w c n some given rows row cells r left t.begun full;
      few = (let a = length-append rows (row ∷ []) in omega arith);
      columns = omega arith;
      pixels = tt;
      run_index_at_most = t.run_index_at_most;
    };
    unfinished = some;
  }

  -- it is the last one
  pub rows_ended : (given : List Bool) (rows : List (List (List ℕ))) (row : List (List ℕ)) (cells : Variables) (r : ℕ) (left : List Bool)
      → IsBegun p w c n given rows row cells r left → length row ≡ w → length rows + 1 ≡ n
      → AreRows p w c n (rows ++ row ∷ []) × (given ≡ pixel_code p w c (rows ++ row ∷ []) ++ left)
  rows_ended given rows row cells r left t full all =
      begun_rows p w c n some given (rows ++ row ∷ []) cells r left (begun_row p w c n some given rows row cells r left t.begun full)
      (let a = length-append rows (row ∷ []) in omega arith)

-- A shape that stays
pub shape_none : (d : PixelReader) → KeepsShape d d
shape_none d = record { width = refl; components = refl; count = refl }

pub shape_then : (d e f : PixelReader) → KeepsShape d e → KeepsShape e f → KeepsShape d f
shape_then d e f s t = record {
  width = t.width ∙ s.width;
  components = t.components ∙ s.components;
  count = t.count ∙ s.count;
}

-- Bits that come after the last row, or after no code ------------------------------------------------

module _ (p : CodingParameters) (w c n : ℕ) (given : List Bool) where
  pub complete_with : (rows : List (List (List ℕ))) (extra : ℕ) → IsComplete p w c n given rows extra → (chunk : List Bool) (extra' : ℕ)
      → extra' ≡ min 8 (extra + length chunk) → IsComplete p w c n (given ++ chunk) rows extra'
  complete_with rows extra t chunk extra' is = record {
    unread = t.unread ++ chunk;
    are_rows = t.are_rows;
    begins = ap (λ z. z ++ chunk) t.begins ∙ append_assoc (pixel_code p w c rows) t.unread chunk;
    counted = (let a = t.counted in let b = length-append t.unread chunk in omega (arith, a, b, is));
  }

  pub no_code_with : BeginsNoCode p w c n given → (chunk : List Bool) → BeginsNoCode p w c n (given ++ chunk)
  no_code_with none chunk more = subst (NoRows p w c n) (sym (append_assoc given chunk more)) (none (chunk ++ more))

  pub no_code_here : BeginsNoCode p w c n given → NoRows p w c n given
  no_code_here none = subst (NoRows p w c n) (append-nil given) (none [])

-- before the first bit
module _ (p : CodingParameters) (w c n : ℕ) (some : 0 < w) (cells : Variables) (is : cells ≡ initial_variables p) where
  pub state_start : (s : State) → (n ≡ 0 → s ≡ Complete 0) → (0 < n → s ≡ Working) → StateIs p w c n [] [] [] cells 0 [] s
  state_start s none any =
      elim (cases_lt 0 n) [
        | inl more ↦
            (let t : IsWorking p w c n [] [] [] cells 0 [] = record {
              begun = record {
                begun = nothing_begun p w c n some [] cells is;
                few = more;
                columns = omega arith;
                pixels = tt;
                run_index_at_most = omega arith;
              };
              unfinished = some;
            } in
            subst (λ (z : State). StateIs p w c n [] [] [] cells 0 [] z) (sym (any more)) t)
        | inr last ↦
            (let b = begun_rows p w c n some [] [] cells 0 [] (nothing_begun p w c n some [] cells is) last in
            let t : IsComplete p w c n [] [] 0 = record { unread = []; are_rows = b.0; begins = b.1; counted = refl } in
            subst (λ (z : State). StateIs p w c n [] [] [] cells 0 [] z) (sym (none (omega arith))) t)
      ]

-- the same where the lists are known to be empty
pub state_at_start : (p : CodingParameters) (w c n : ℕ) (some : 0 < w) (cells : Variables) → cells ≡ initial_variables p
    → (s : State) → (n ≡ 0 → s ≡ Complete 0) → (0 < n → s ≡ Working)
    → (given : List Bool) (rows : List (List (List ℕ))) (row : List (List ℕ)) (pending : List Bool) → given ≡ [] → rows ≡ [] → row ≡ []
    → pending ≡ [] → StateIs p w c n given rows row cells 0 pending s
state_at_start p w c n some cells is s none any given rows row pending g r l b =
    subst (λ z. StateIs p w c n z rows row cells 0 pending s) (sym g)
    (subst (λ z. StateIs p w c n [] z row cells 0 pending s) (sym r)
    (subst (λ z. StateIs p w c n [] [] z cells 0 pending s) (sym l)
    (subst (λ z. StateIs p w c n [] [] [] cells 0 z s) (sym b) (state_start p w c n some cells is s none any))))

-- A reader that found no code ------------------------------------------------------------------------

pub stopped : (p : CodingParameters) (given : List Bool) (d e : PixelReader) → IsReading p given d → KeepsShape d e
    → e.coder.cells.parameters ≡ d.coder.cells.parameters → BeginsNoCode p d.width d.components d.count given
    → HasShape p e × BeginsNoCode p e.width e.components e.count given
stopped p given d e r k same none = (
  record {
    parameters = same ∙ r.shape.parameters;
    width_at_least = (let a = r.shape.width_at_least in let b = k.width in omega arith);
    width_below = (let a = r.shape.width_below in let b = k.width in omega arith);
    components_at_most = (let a = r.shape.components_at_most in let b = k.components in omega arith);
  },
  subst (λ z. BeginsNoCode p z e.components e.count given) (sym k.width)
      (subst (λ z. BeginsNoCode p d.width z e.count given) (sym k.components)
      (subst (λ z. BeginsNoCode p d.width d.components z given) (sym k.count) none)),
)

-- what is said of a reader's shape, said of the first one's
pub no_rows_back : (p : CodingParameters) (given : List Bool) (d e : PixelReader) → KeepsShape d e
    → NoRows p e.width e.components e.count given → NoRows p d.width d.components d.count given
no_rows_back p given d e k none =
    subst (λ z. NoRows p z d.components d.count given) k.width
    (subst (λ z. NoRows p e.width z d.count given) k.components
    (subst (λ z. NoRows p e.width e.components z given) k.count none))

-- A row that ends ------------------------------------------------------------------------------------

module _ (p : CodingParameters) (given : List Bool) (d : PixelReader) (t : HasTaken p given d) (state : d.state ≡ Working) where
  -- it is not whole yet
  pub row_goes_on : length d.row.items < d.width → IsReading p given d
  row_goes_on short =
      let work : IsWorking p d.width d.components d.count given d.rows d.row.items d.coder.cells d.run_index d.pending =
      record { begun = t.begun; unfinished = short } in
      record {
        shape = t.shape;
        state_is =
            subst (λ (z : State). StateIs p d.width d.components d.count given d.rows d.row.items d.coder.cells d.run_index d.pending z)
            (sym state) work;
      }

  module _ (full : length d.row.items ≡ d.width) (rows : List (List (List ℕ))) (rows_are : rows ≡ d.rows ++ d.row.items ∷ []) where
    -- rows are still to come
    pub row_done : (row : List (List ℕ)) → row ≡ [] → length d.rows + 1 < d.count
        → StateIs p d.width d.components d.count given rows row d.coder.cells d.run_index d.pending d.state
    row_done row none more =
        let work = row_ended p d.width d.components d.count t.shape.width_at_least given d.rows d.row.items d.coder.cells d.run_index
        d.pending t.begun full more in
        subst (λ (z : State). StateIs p d.width d.components d.count given rows row d.coder.cells d.run_index d.pending z) (sym state)
        (subst (λ z. IsWorking p d.width d.components d.count given z row d.coder.cells d.run_index d.pending) (sym rows_are)
        (subst (λ z. IsWorking p d.width d.components d.count given (d.rows ++ d.row.items ∷ []) z d.coder.cells d.run_index d.pending)
        (sym none) work))

    -- it was the last one
    pub rows_done : (extra : ℕ) → extra ≡ min 8 (length d.pending) → length d.rows + 1 ≡ d.count
        → IsComplete p d.width d.components d.count given rows extra
    rows_done extra counted all =
        let done = rows_ended p d.width d.components d.count t.shape.width_at_least given d.rows d.row.items d.coder.cells d.run_index
        d.pending t.begun full all in
        record {
          unread = d.pending;
          are_rows = subst (AreRows p d.width d.components d.count) (sym rows_are) done.0;
          begins = done.1 ∙ ap (λ z. pixel_code p d.width d.components z ++ d.pending) (sym rows_are);
          counted = counted;
        }

-- the same interval
pub shape_same : (p : CodingParameters) (d e : PixelReader) → KeepsShape d e
    → pixel_shape p e.width e.components e.count ≡ pixel_shape p d.width d.components d.count
shape_same p d e k =
    ap (λ z. pixel_shape p z e.components e.count) k.width ∙ ap (λ z. pixel_shape p d.width z e.count) k.components
    ∙ ap (λ z. pixel_shape p d.width d.components z) k.count
