-- Lists of pixels, and of the neighbours of each component.
use Rattle.std.proofs.Common.{◌≡◌, ℕ, zero, suc, ◌+◌, ◌-◌, ◌<◌, ◌≤◌, ltb, List, [], ◌∷◌, ◌++◌, length, get_or, map, replicate, refl}
use Rattle.std.proofs.Common.{sym, ap}
use Rattle.std.proofs.Common.{◌∙◌, arith, inl, inr, length-append}
use Rattle.std.specs.List.{AllByRecursion, range_with_len}
use Rattle.std.proofs.lemmas.Bool.{cases_Bool}
use Rattle.std.proofs.lemmas.List.{map-append, length-map, get_or-map, length-replicate}
use Rattle.std.proofs.lemmas.List.FromFn.{length-map-range_with_len, get_or-map-range_with_len}
use Rattle.jls_values.specs.Params.{CodingParameters}
use Rattle.jls_context.specs.declared.mode.Neighbours.{Neighbours}
use Rattle.jls_interval.specs.Events.{Above, neighbours}
use Rattle.jls_interval.proofs.EventsApart.{small_get, b_small, run_value as run_value_of_line}
use Rattle.jls_interval.proofs.CodesApart.{a_small}
use Rattle.jls_pixel.specs.Pixels.{IsPixel, samples_of, RowsAbove, row_back, component_neighbours, pixel_neighbours, run_value}

-- Lists ---------------------------------------------------------------------------------------------

pub all_append : {X : Type 0} (P : X → Type 0) (xs ys : List X) → AllByRecursion P xs → AllByRecursion P ys → AllByRecursion P (xs ++ ys)
all_append P [] ys h j = j
all_append P (x ∷ xs) ys h j = (h.0, all_append P xs ys h.1 j)

pub all_replicate : {X : Type 0} (P : X → Type 0) (n : ℕ) (x : X) → P x → AllByRecursion P (replicate n x)
all_replicate P zero x h = tt
all_replicate P (suc n) x h = (h, all_replicate P n x h)

pub all_map : {X Y : Type 0} (P : Y → Type 0) (f : X → Y) → ((x : X) → P (f x)) → (xs : List X) → AllByRecursion P (map f xs)
all_map P f h [] = tt
all_map P f h (x ∷ xs) = (h x, all_map P f h xs)

map_replicate : {X Y : Type 0} (f : X → Y) (n : ℕ) (x : X) → map f (replicate n x) ≡ replicate n (f x)
map_replicate f zero x = refl
map_replicate f (suc n) x = ap (λ z. f x ∷ z) (map_replicate f n x)

map_map : {X Y Z : Type 0} (g : Y → Z) (f : X → Y) (xs : List X) → map g (map f xs) ≡ map (λ x. g (f x)) xs
map_map g f [] = refl
map_map g f (x ∷ xs) = ap (λ z. g (f x) ∷ z) (map_map g f xs)

map_range : {X : Type 0} (f g : ℕ → X) (a n : ℕ) → ((k : ℕ) → k < a + n → f k ≡ g k) → map f (range_with_len a n)
    ≡ map g (range_with_len a n)
map_range f g a zero h = refl
map_range f g a (suc n) h =
    let e = h a (omega arith) in let r = map_range f g (a + 1) n (λ k l. h k (omega arith)) in cc

-- Samples -------------------------------------------------------------------------------------------

module _ (p : CodingParameters) (c : ℕ) where
  pub pixel_small : (k : ℕ) (pixels : List (List ℕ)) → AllByRecursion (IsPixel p c) pixels
      → AllByRecursion (λ s. s ≤ p.maxval) (samples_of k pixels)
  pixel_small k [] h = tt
  pixel_small k (x ∷ xs) h = (small_get x k p.maxval h.0.1, pixel_small k xs h.1)

  get_row : (rows : List (List (List ℕ))) (i : ℕ) → AllByRecursion (AllByRecursion (IsPixel p c)) rows
      → AllByRecursion (IsPixel p c) (get_or rows i [])
  get_row [] i h = tt
  get_row (r ∷ rs) zero h = h.0
  get_row (r ∷ rs) (suc i) h = get_row rs i h.1

  pub back_small : (rows : List (List (List ℕ))) (back : ℕ) → AllByRecursion (AllByRecursion (IsPixel p c)) rows
      → AllByRecursion (IsPixel p c) (row_back rows back)
  back_small rows back h =
      elim (cases_Bool (ltb (length rows) back)) [ inl e ↦ rw e tt | inr e ↦ rw e (get_row rows (length rows - back) h) ]

-- the lines of a component above
abbrev pub lines_above : RowsAbove → ℕ → Above
lines_above up k = record { line_above = samples_of k up.row_above; line_two_above = samples_of k up.row_two_above }

-- The neighbours of a pixel -------------------------------------------------------------------------

module _ (w : ℕ) (up : RowsAbove) where
  pub nears_length : (row : List (List ℕ)) (c : ℕ) → length (pixel_neighbours w up row c) ≡ c
  nears_length row c = length-map-range_with_len (component_neighbours w up row) 0 c

  pub value_length : (row : List (List ℕ)) (c : ℕ) → length (run_value (pixel_neighbours w up row c)) ≡ c
  value_length row c = length-map (pixel_neighbours w up row c) (λ (near : Neighbours). near.ra) ∙ nears_length row c

  -- Ra of a component in the value of a run
  value_at : (row : List (List ℕ)) (c k : ℕ) → k < c
      → get_or (run_value (pixel_neighbours w up row c)) k 0 ≡ (component_neighbours w up row k).ra
  value_at row c k h =
      let l = nears_length row c in
      get_or-map (λ (near : Neighbours). near.ra) (pixel_neighbours w up row c) k (component_neighbours w up row k) 0 (omega arith)
      ∙ ap (λ (near : Neighbours). near.ra) (get_or-map-range_with_len (component_neighbours w up row) 0 c k k (component_neighbours w
      up row k) h (omega arith))

  -- the value of a run stays along it
  pub run_keeps : (row : List (List ℕ)) (c n : ℕ)
      → run_value (pixel_neighbours w up (row ++ replicate n (run_value (pixel_neighbours w up row c))) c)
      ≡ run_value (pixel_neighbours w up row c)
  run_keeps row c n =
      let v = run_value (pixel_neighbours w up row c) in
      map_map (λ (near : Neighbours). near.ra) (component_neighbours w up (row ++ replicate n v)) (range_with_len 0 c)
      ∙ map_range (λ k. (component_neighbours w up (row ++ replicate n v) k).ra) (λ k. (component_neighbours w up row k).ra) 0 c (each
      v refl)
      ∙ sym (map_map (λ (near : Neighbours). near.ra) (component_neighbours w up row) (range_with_len 0 c))
    where
      each : (v : List ℕ) → v ≡ run_value (pixel_neighbours w up row c) → (k : ℕ) → k < 0 + c
          → (component_neighbours w up (row ++ replicate n v) k).ra ≡ (component_neighbours w up row k).ra
      each v v_is k h =
          let above = lines_above up k in let line = samples_of k row in
          let ll : length line ≡ length row = length-map row (λ pixel. get_or pixel k 0) in
          let g : get_or v k 0 ≡ (neighbours w above line (length line)).ra =
          ap (λ z. get_or z k 0) v_is ∙ value_at row c k (omega arith) ∙ ap (λ z. (neighbours w above line z).ra) (sym ll) in
          let s : samples_of k (row ++ replicate n v) ≡ line ++ replicate n (neighbours w above line (length line)).ra =
          map-append (λ pixel. get_or pixel k 0) row (replicate n v)
          ∙ ap (λ z. line ++ z) (map_replicate (λ pixel. get_or pixel k 0) n v ∙ ap (replicate n) g) in
          let len : length (row ++ replicate n v) ≡ length line + n =
          omega (arith, ll, length-append row (replicate n v), length-replicate n v) in
          ap (λ z. (neighbours w above (samples_of k (row ++ replicate n v)) z).ra) len
          ∙ ap (λ z. (neighbours w above z (length line + n)).ra) s ∙ run_value_of_line w above line n
          ∙ ap (λ z. (neighbours w above line z).ra) ll

-- Samples round a pixel are at most MAXVAL ----------------------------------------------------------

pub record SmallNear (p : CodingParameters) (near : Neighbours) : Type 0 where
  pub ra : near.ra ≤ p.maxval
  pub rb : near.rb ≤ p.maxval

module _ (p : CodingParameters) (c w : ℕ) (up : RowsAbove) (above_small : AllByRecursion (IsPixel p c) up.row_above) where
  pub near_small : (row : List (List ℕ)) → AllByRecursion (IsPixel p c) row → (k : ℕ) → SmallNear p (component_neighbours w up row k)
  near_small row h k = record {
    ra = a_small p w (lines_above up k) (samples_of k row) (length row) (pixel_small p c k up.row_above above_small) (pixel_small p c k
        row h);
    rb = b_small p w (lines_above up k) (samples_of k row) (length row) (pixel_small p c k up.row_above above_small);
  }

  pub nears_small : (row : List (List ℕ)) → AllByRecursion (IsPixel p c) row → AllByRecursion (SmallNear p) (pixel_neighbours w up row c)
  nears_small row h = all_map (SmallNear p) (component_neighbours w up row) (near_small row h) (range_with_len 0 c)

  -- the value of a run is a pixel
  pub value_is_pixel : (row : List (List ℕ)) → AllByRecursion (IsPixel p c) row → IsPixel p c (run_value (pixel_neighbours w up row c))
  value_is_pixel row h = (value_length w up row c, values (pixel_neighbours w up row c) (nears_small row h))
    where
      values : (nears : List Neighbours) → AllByRecursion (SmallNear p) nears → AllByRecursion (λ s. s ≤ p.maxval) (run_value nears)
      values [] j = tt
      values (near ∷ nears) j = (j.0.ra, values nears j.1)
