-- No code of rows begins another's of the same number and width, and a piece reads as one list of rows at most.
use Rattle.std.proofs.Common.{◌≡◌, ℕ, ◌<◌, Bool, eqb, List, [], ◌∷◌, ◌++◌, length, replicate, refl, sym, ap, ◌∙◌, subst}
use Rattle.std.proofs.Common.{arith, inl, inr}
use Rattle.std.specs.List.{AllByRecursion}
use Rattle.std.proofs.lemmas.Bool.{cases_Bool, cases_lt}
use Rattle.jls_values.specs.Params.{CodingParameters, AreCodingParameters}
use Rattle.jls_interval.specs.Stepwise.{StepwiseCode, Leads, bits_of_steps, IsEnd, IsKept}
use Rattle.jls_interval.proofs.StepwiseCodes.{one_code, one_place}
use Rattle.jls_pixel.specs.Pixels.{PixelShape, IsPixel, AreRows, rows_above, run_value}
use Rattle.jls_pixel.specs.Events.{Event, regular_pixel, run_to_end, interrupted_run, events}
use Rattle.jls_pixel.specs.Code.{event_bits, bits_of_events, pixel_code}
use Rattle.jls_pixel.specs.Reads.{BeginsWithCode, Reads, IsLong, IsBroken}
use Rattle.jls_pixel.specs.Growth.{Position, here, added, Fits, grown, moved, HasPixels, pixel_steps, start, finish}
use Rattle.jls_pixel.proofs.PixelLists.{all_append, all_replicate, back_small, value_is_pixel}
use Rattle.jls_pixel.proofs.EventsApart.{events_apart}
use Rattle.jls_pixel.proofs.RowsGrow.{rows_grow}

pub grown_earlier : (w : ℕ) (rows : List (List (List ℕ))) (row : List (List ℕ)) (earlier : List Event)
    → (grown w rows row earlier).earlier ≡ earlier
grown_earlier w rows row earlier = elim (cases_Bool (eqb (length row) w)) [ inl h ↦ rw h refl | inr h ↦ rw h refl ]

grown_pixels : (p : CodingParameters) (c w : ℕ) (rows : List (List (List ℕ))) (row : List (List ℕ)) (earlier : List Event)
    → AllByRecursion (AllByRecursion (IsPixel p c)) rows → AllByRecursion (IsPixel p c) row → HasPixels p c (grown w rows row earlier)
grown_pixels p c w rows row earlier h j =
    elim (cases_Bool (eqb (length row) w)) [
      | inl e ↦ rw e (all_append (AllByRecursion (IsPixel p c)) rows (row ∷ []) h (j, tt), tt)
      | inr e ↦ rw e (h, j)
    ]

module _ (p : CodingParameters) (w c n : ℕ) where
  abbrev m : StepwiseCode
  m = pixel_steps p w c n

  pub added_pixels : (s : Position) (e : Event) → IsPixel p c (run_value (here w c s))
      → Fits p w c (rows_above s.rows) s.row (here w c s) e → AllByRecursion (IsPixel p c) (added (run_value (here w c s)) e)
  added_pixels s (regular_pixel nears pixel) v fits = (fits.2, tt)
  added_pixels s (run_to_end count) v fits = all_replicate (IsPixel p c) count (run_value (here w c s)) v
  added_pixels s (interrupted_run count nears pixel) v fits =
      all_append (IsPixel p c) (replicate count (run_value (here w c s))) (pixel ∷ [])
      (all_replicate (IsPixel p c) count (run_value (here w c s)) v) (fits.3, tt)

  pub kept : IsKept m
  kept s e sound next =
      let v = value_is_pixel p c w (rows_above s.rows) (back_small p c s.rows 1 sound.0) s.row sound.1 in
      grown_pixels p c w s.rows (s.row ++ added (run_value (here w c s)) e) (s.earlier ++ e ∷ []) sound.0
      (all_append (IsPixel p c) s.row (added (run_value (here w c s)) e) sound.1 (added_pixels s e v next.1))

  bits_is : (es : List Event) (s : Position) → bits_of_steps m s es ≡ bits_of_events p s.earlier es
  unfolding bits_of_events
  bits_is [] s = refl
  bits_is (e ∷ es) s =
      ap (λ z. event_bits p s.earlier e ++ z)
      (bits_is es (moved w c s e)
      ∙ ap (λ z. bits_of_events p z es) (grown_earlier w s.rows (s.row ++ added (run_value (here w c s)) e) (s.earlier ++ e ∷ [])))

  pub code_is : (rows : List (List (List ℕ))) → pixel_code p w c rows ≡ bits_of_steps m start (events w c rows)
  unfolding pixel_code
  code_is rows = sym (bits_is (events w c rows) start)

  pub finished : (rows : List (List (List ℕ))) → length rows ≡ n → IsEnd m (finish w c rows)
  finished rows h e next = let l : length rows < n = next.0 in omega arith

pub codes_apart : (p : CodingParameters) (w c n : ℕ) → AreCodingParameters p → 0 < w → (xs ys : List (List (List ℕ))) (s t : List Bool)
    → AreRows p w c n xs → AreRows p w c n ys
    → pixel_code p w c xs ++ s ≡ pixel_code p w c ys ++ t → (xs ≡ ys) × (s ≡ t)
codes_apart p w c n ok some xs ys s t a b e =
    let r = one_code (pixel_steps p w c n) (events_apart p w c n ok) (kept p w c n) start (finish w c xs) (finish w c ys) (events w c xs)
    (events w c ys) s t (tt, tt) (rows_grow p w c n some xs a) (rows_grow p w c n some ys b) (finished p w c n xs a.count_is)
    (finished p w c n ys b.count_is) (ap (λ z. z ++ s) (sym (code_is p w c n xs)) ∙ e ∙ ap (λ z. z ++ t) (code_is p w c n ys)) in
    (same_rows r.0, r.1)
  where
    same_rows : events w c xs ≡ events w c ys → xs ≡ ys
    same_rows h =
        ap (λ (z : Position). z.rows)
        (one_place (pixel_steps p w c n) (events w c ys) start (finish w c xs) (finish w c ys)
        (subst (λ z. Leads (pixel_steps p w c n) start z (finish w c xs)) h (rows_grow p w c n some xs a))
        (rows_grow p w c n some ys b))

-- Pieces --------------------------------------------------------------------------------------------

module _ (i : PixelShape) (piece : List ℕ) where
  -- what follows the code of rows is determined too
  begins_once : AreCodingParameters i.params → 0 < i.width → (xs ys : List (List (List ℕ))) (s t : List Bool) → BeginsWithCode i piece xs s
      → BeginsWithCode i piece ys t → (xs ≡ ys) × (s ≡ t)
  begins_once ok some xs ys s t a b =
      codes_apart i.params i.width i.components i.row_count ok some xs ys s t a.are_rows b.are_rows
      (sym a.data_bits.read ∙ b.data_bits.read)

  pub reads_once : AreCodingParameters i.params → 0 < i.width → (xs ys : List (List (List ℕ))) → Reads i piece xs → Reads i piece ys
      → xs ≡ ys
  reads_once ok some xs ys a b = (begins_once ok some xs ys a.unread b.unread a.begins b.begins).0

  pub read_not_long : AreCodingParameters i.params → 0 < i.width → (xs : List (List (List ℕ))) → Reads i piece xs → IsLong i piece → ⊥
  read_not_long ok some xs a b =
      let e = ap length (begins_once ok some xs b.rows a.unread b.unread a.begins b.begins).1 in
      let l = a.at_most_seven in let m = b.more_than_seven in absurd (omega arith)

  pub broken_begins_with_none : IsBroken i piece → (rows : List (List (List ℕ))) (unread : List Bool) → BeginsWithCode i piece rows unread
      → ⊥
  broken_begins_with_none h rows unread b =
      elim (cases_lt 7 (length unread)) [
        | inl many ↦ h.not_long (record { rows = rows; unread = unread; begins = b; more_than_seven = many })
        | inr few ↦ h.not_read rows (record { unread = unread; begins = b; at_most_seven = few })
      ]

  pub none_is_broken : ((rows : List (List (List ℕ))) (unread : List Bool) → BeginsWithCode i piece rows unread → ⊥) → IsBroken i piece
  none_is_broken h = record { not_read = λ rows r. h rows r.unread r.begins; not_long = λ l. h l.rows l.unread l.begins }
