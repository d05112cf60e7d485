-- The head, from what a reader keeps.
use Rattle.std.proofs.Common.{◌≡◌, ℕ, ◌<◌, Bool, List, [], ◌∷◌, ◌++◌, refl, sym, ap, ◌∙◌, subst, inl, inr, append_assoc}
use Rattle.std.proofs.lemmas.List.{append-nil}
use Rattle.jls_values.specs.Params.{CodingParameters, AreCodingParameters}
use Rattle.jls_values.proofs.Lists.{not_empty}
use Rattle.jls_context.specs.Variables.{Variables}
use Rattle.jls_interval.specs.Stepwise.{Leads, bits_of_steps}
use Rattle.jls_interval.proofs.StepwiseCodes.{one_begins}
use Rattle.jls_pixel.specs.Pixels.{PixelShape, AreRows, rows_above, pixel_shape}
use Rattle.jls_pixel.specs.Code.{event_bits, pixel_code}
use Rattle.jls_pixel.specs.Growth.{pixel_steps, start}
use Rattle.jls_pixel.specs.EventRead.{RefusesEvent}
use Rattle.jls_pixel.specs.RowRead.{RowBegun, NoRows}
use Rattle.jls_pixel.specs.PixelReading.{shape_of, IsWorking, IsComplete, BeginsNoCode, IsReading, KeepsShape}
use Rattle.jls_pixel.specs.Heads.{IsCutCode, IsHead}
use Rattle.jls_pixel.specs.OpenEvents.{CutsEvents}
use Rattle.jls_pixel.specs.CutRows.{IsCut, CutsNothing}
use Rattle.jls_pixel.specs.declared.pixel_reader.State.TheVariants.{Working}
use Rattle.jls_pixel.specs.declared.pixel_reader.PixelReader.{PixelReader}
use Rattle.jls_pixel.proofs.RowsGrow.{grown_part}
use Rattle.jls_pixel.proofs.CodesApart.{codes_apart}
use Rattle.jls_pixel.proofs.RowSteps.{begun_stuck}
use Rattle.jls_pixel.proofs.PixelReading.{working, shape_same}
use Rattle.jls_pixel.proofs.HeadRows.{cut_code, head_is}

module _ (p : CodingParameters) (w c n : ℕ) (given : List Bool) where
  -- bits that begin no rows' code, whatever comes
  pub no_code_head : BeginsNoCode p w c n given → IsHead (pixel_shape p w c n) given []
  no_code_head no_code = inr (
    λ cut. no_code (cut.missing ∷ cut.more_missing) cut.rows [] cut.are_rows
        (cut.code_is ∙ sym (append-nil (pixel_code p w c cut.rows))),
    refl,
  )

  module _ (ok : AreCodingParameters p) (some : 0 < w) where
    -- bits that begin with the code of some rows are no proper prefix of one
    pub read_not_cut : (rows : List (List (List ℕ))) (unread : List Bool) → AreRows p w c n rows → given ≡ pixel_code p w c rows ++ unread
        → IsCutCode (pixel_shape p w c n) given → ⊥
    read_not_cut rows unread are is cut =
        let more = cut.missing ∷ cut.more_missing in
        let e : pixel_code p w c rows ++ (unread ++ more) ≡ pixel_code p w c cut.rows ++ [] =
        sym (append_assoc (pixel_code p w c rows) unread more)
        ∙ ap (λ z. z ++ more) (sym is) ∙ cut.code_is ∙ sym (append-nil (pixel_code p w c cut.rows)) in
        not_empty unread cut.missing cut.more_missing
        (codes_apart p w c n ok some rows cut.rows (unread ++ more) [] are cut.are_rows e).1

    -- bits after the last row
    pub over_head : (rows : List (List (List ℕ))) (extra : ℕ) → IsComplete p w c n given rows extra → IsHead (pixel_shape p w c n) given []
    over_head rows extra o = inr (λ cut. read_not_cut rows o.unread o.are_rows o.begins cut, refl)

    -- bits that break off in a code begin with none
    pub cut_reads_nothing : IsCutCode (pixel_shape p w c n) given → NoRows p w c n given
    cut_reads_nothing cut = λ rows rest are e. read_not_cut rows rest are e cut

module _ (p : CodingParameters) (d : PixelReader) (given : List Bool) (r : IsReading p given d) where
  open d use {width as w, components as c, count as n}

  abbrev rows : List (List (List ℕ))
  rows = d.rows

  abbrev row : List (List ℕ)
  row = d.row.items

  abbrev cells : Variables
  cells = d.coder.cells

  abbrev left : List Bool
  left = d.pending

  pub in_range : AreCodingParameters p
  in_range = subst AreCodingParameters r.shape.parameters d.coder.in_range

  module _ (state : d.state ≡ Working) where
    abbrev work : IsWorking p w c n given rows row cells d.run_index left
    work = working p d given r state

    -- the bits that wait cut an event
    pub reading_cut : CutsEvents p w c (rows_above rows) row cells d.run_index left → IsCut p given d
    reading_cut cuts =
        let t = work.begun.begun in let x = cuts t.earlier t.is_after in
        record {
          cut = record {
            whole = t.earlier;
            position = record { rows = rows; row = row; earlier = t.earlier };
            leads = subst (Leads (pixel_steps p w c n) start t.earlier) (grown_part w rows row t.earlier work.unfinished) t.leads;
            cut = x.event;
            is_next = (work.begun.few, x.fits);
            begun = left;
            given_is = t.bits_are;
            missing = x.cut.missing;
            more_missing = x.cut.more_missing;
            bits_are = x.cut.whole_is;
          };
          rows_are = refl;
        }

    -- neither does an event stand there, nor do they cut one
    pub reading_broken : RefusesEvent p w c (rows_above rows) row cells d.run_index left → CutsNothing p d
        → IsCutCode (shape_of p d) given → ⊥
    reading_broken none uncut cut =
        let t = work.begun.begun in let more = cut.missing ∷ cut.more_missing in
        let longer : RowBegun p w c n (given ++ more) rows row cells d.run_index (left ++ more) = record {
          earlier = t.earlier;
          leads = t.leads;
          bits_are = ap (λ z. z ++ more) t.bits_are ∙ append_assoc (bits_of_steps (pixel_steps p w c n) start t.earlier) left more;
          is_after = t.is_after;
        } in
        begun_stuck p w c n r.shape.width_at_least (given ++ more) rows row cells d.run_index (left ++ more) longer work.unfinished
        work.begun.few (rows_above rows) refl in_range
        (λ event rest fits e. elim (one_begins left more (event_bits p t.earlier event) rest e) [
          | inl q ↦ none t.earlier t.is_after event q.0 fits q.1
          | inr q ↦
              uncut t.earlier t.is_after (record {
                event = event;
                fits = fits;
                cut = record { missing = q.1; more_missing = q.0; whole_is = q.2 };
              })
        ]) cut.rows [] cut.are_rows (cut.code_is ∙ sym (append-nil (pixel_code p w c cut.rows)))

-- The head and the want of rows, from bits that cut an event
module _ (p : CodingParameters) (ok : AreCodingParameters p) (given : List Bool) (d : PixelReader) (some : 0 < d.width)
    (h : IsCut p given d) where
  abbrev rows_now : List (List (List ℕ))
  rows_now = d.rows

  pub cut_head : IsHead (shape_of p d) given rows_now
  cut_head = subst (IsHead (shape_of p d) given) h.rows_are (head_is p d.width d.components some d.count given h.cut)

  pub cut_no_rows : NoRows p d.width d.components d.count given
  cut_no_rows =
      cut_reads_nothing p d.width d.components d.count given ok some (cut_code p d.width d.components some d.count given h.cut)

-- the same of a reader of the same interval
pub broken_on : (p : CodingParameters) (given : List Bool) (d e : PixelReader) → KeepsShape d e
    → NoRows p d.width d.components d.count given → (IsCutCode (shape_of p d) given → ⊥)
    → NoRows p e.width e.components e.count given × (IsCutCode (shape_of p e) given → ⊥)
broken_on p given d e k none uncut =
    subst (λ (i : PixelShape). NoRows i.params i.width i.components i.row_count given × (IsCutCode i given → ⊥)) (sym (shape_same p d e k))
    (none, uncut)
