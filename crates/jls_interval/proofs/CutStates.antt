-- The head, from what a reader of an interval keeps.
use Rattle.std.proofs.Common.{◌≡◌, ℕ, ◌%◌, ◌<◌, Bool, List, [], ◌∷◌, ◌++◌, length, get_or, refl, sym, ap, ◌∙◌, subst, inr, append_assoc}
use Rattle.std.proofs.lemmas.List.{append-nil}
use Rattle.jls_values.specs.Params.{CodingParameters, AreCodingParameters}
use Rattle.jls_values.proofs.Lists.{not_empty}
use Rattle.jls_context.specs.Variables.{Variables}
use Rattle.jls_interval.specs.Lines.{interval_shape}
use Rattle.jls_interval.specs.Events.{Event, above}
use Rattle.jls_interval.specs.Code.{code}
use Rattle.jls_interval.specs.Events.{Above}
use Rattle.jls_interval.specs.Code.{event_bits}
use Rattle.jls_interval.specs.Growth.{Fits}
use Rattle.jls_interval.specs.After.{IsAfter}
use Rattle.jls_interval.specs.OpenEvents.{now_at, OpenEventAt, NoEvent}
use Rattle.jls_interval.specs.Laws.{IsCutCode}
use Rattle.jls_interval.specs.Heads.{IsHead}
use Rattle.jls_interval.specs.Decoding.{IsWorking, IsComplete, BeginsNoCode, StateIs, IsReading}
use Rattle.jls_interval.specs.CutEventsOpen.{BeginsEvent}
use Rattle.jls_interval.specs.declared.line_reader.OpenEvent.{OpenEvent}
use Rattle.jls_interval.specs.declared.interval_reader.IntervalReader.{IntervalReader}
use Rattle.jls_interval.specs.declared.interval_reader.State.{State}
use Rattle.jls_interval.specs.declared.interval_reader.State.TheVariants.{Working, Complete, NoCode}
use Rattle.jls_interval.proofs.CodesApart.{codes_apart}
use Rattle.jls_interval.proofs.Decoding.{working_refused}
use Rattle.jls_interval.proofs.HeadLines.{head_is}
use Rattle.jls_interval.proofs.CutEvents.{event_some}
use Rattle.jls_interval.proofs.IntervalReading.{working, in_range}

module _ (p : CodingParameters) (ok : AreCodingParameters p) (w c n : ℕ) (some : 0 < w) (given : List Bool) where
  -- bits that begin no lines' code, whatever comes
  pub no_code_head : BeginsNoCode p w c n given → IsHead (interval_shape p w c n) given []
  no_code_head no_code = inr (
    λ cut. no_code (cut.missing ∷ cut.more_missing) cut.lines [] cut.are_lines
        (cut.code_is ∙ sym (append-nil (code p w c cut.lines))),
    refl,
  )

  -- bits after the last line
  pub over_head : (lines : List (List ℕ)) (extra : ℕ) → IsComplete p w c n given lines extra → IsHead (interval_shape p w c n) given []
  over_head lines extra o = inr (λ cut. not_cut cut, refl)
    where
      not_cut : IsCutCode (interval_shape p w c n) given → ⊥
      not_cut cut =
          let more = cut.missing ∷ cut.more_missing in
          let e : code p w c lines ++ (o.unread ++ more) ≡ code p w c cut.lines ++ [] = sym (append_assoc (code p w c lines) o.unread more)
          ∙ ap (λ z. z ++ more) (sym o.begins) ∙ cut.code_is ∙ sym (append-nil (code p w c cut.lines)) in
          not_empty o.unread cut.missing cut.more_missing
          (codes_apart p w c n ok some lines cut.lines (o.unread ++ more) [] o.are_lines cut.are_lines e).1

  module _ (lines : List (List ℕ)) (line : List ℕ) (cells : Variables) (run_indices : List ℕ) (open_event : OpenEvent)
      (h : IsWorking p w c n given lines line cells run_indices open_event) where
    pub cut_head : BeginsEvent p w (length lines % c) (above c lines) line h.fed h.earlier → IsHead (interval_shape p w c n) given lines
    cut_head b = head_is p w c some n given (record {
      whole = h.earlier;
      position = record { lines = lines; line = line; earlier = h.earlier };
      leads = h.leads;
      cut = b.event;
      is_next = (h.few, b.fits);
      begun = h.fed;
      given_is = h.bits_are;
      missing = b.cut.missing;
      more_missing = b.cut.more_missing;
      bits_are = b.cut.whole_is;
    })

    pub stuck_head : ((more : List Bool) → NoEvent p w (length lines % c) (above c lines) line (h.fed ++ more) h.earlier)
        → IsHead (interval_shape p w c n) given []
    stuck_head none =
        no_code_head (subst (BeginsNoCode p w c n) (append-nil given)
        (working_refused p ok w c n some given lines line cells run_indices open_event h []
        (λ more. subst (λ z. NoEvent p w (length lines % c) (above c lines) line (z ++ more) h.earlier) (sym (append-nil h.fed))
        (none more))))

  -- where no lines are to come, or none can
  pub idle_head : (lines : List (List ℕ)) (line : List ℕ) (cells : Variables) (run_indices : List ℕ) (open_event : OpenEvent) (s : State)
      → (s ≡ Working → ⊥)
      → StateIs p w c n given lines line cells run_indices open_event s → IsHead (interval_shape p w c n) given []
  idle_head lines line cells run_indices open_event Working none h = absurd (none refl)
  idle_head lines line cells run_indices open_event (Complete extra) none h = over_head lines extra h
  idle_head lines line cells run_indices open_event NoCode none h = no_code_head h

module _ (p : CodingParameters) (d : IntervalReader) (given : List Bool) (h : IsReading p given d) where
  open d use {components as n, reader.{width as w, line.{items as line}, coder.{cells, run_indices as ri}}}

  abbrev lines : List (List ℕ)
  lines = d.lines

  -- bits after which a reader is not at work any more have an empty head
  pub reading_idle : (d.state ≡ Working → ⊥) → IsHead (interval_shape p w n d.count) given []
  reading_idle none =
      idle_head p (subst AreCodingParameters h.parameters d.reader.coder.in_range) w n d.count h.width_at_least given lines line cells ri
      d.reader.open_event d.state none h.state_is

  module _ (is : d.state ≡ Working) (k : ℕ) (k_is : k ≡ length lines % n) (up : Above) (up_is : up ≡ above n lines) where
    -- what is answered of the event in hand, in a line of this component below these lines
    abbrev Yes : CodingParameters → ℕ → Above → Type 0
    Yes q k up = (fed : List Bool) (earlier : List Event) → IsAfter q cells ri earlier
        → ((e : Event) → Fits q w k up line (now_at w up line) e → event_bits q earlier e ≡ [] → ⊥)
        → OpenEventAt q w up line cells (get_or ri k 0) d.reader.open_event fed → BeginsEvent q w k up line fed earlier

    abbrev No : CodingParameters → ℕ → Above → Type 0
    No q k up = (fed : List Bool) (earlier : List Event) → IsAfter q cells ri earlier
        → OpenEventAt q w up line cells (get_or ri k 0) d.reader.open_event fed → (more : List Bool)
        → NoEvent q w k up line (fed ++ more) earlier

    abbrev work : IsWorking p w n d.count given lines line cells ri d.reader.open_event
    work = working p d given h is

    pub reading_cut : Yes cells.parameters k up → IsHead (interval_shape p w n d.count) given lines
    reading_cut all =
        let a : Yes p (length lines % n) (above n lines) =
        subst (λ q. Yes q (length lines % n) (above n lines)) h.parameters
        (subst (λ z. Yes cells.parameters z (above n lines)) k_is (subst (λ (z : Above). Yes cells.parameters k z) up_is all)) in
        cut_head p (in_range p d given h is) w n d.count h.width_at_least given lines line cells ri d.reader.open_event work
        (a work.fed work.earlier work.is_after
        (λ e fits. event_some p w n d.count (record { lines = lines; line = line; earlier = work.earlier }) e work.unfinished
        (work.few, fits)) work.open_event_at)

    pub reading_stuck : No cells.parameters k up → IsHead (interval_shape p w n d.count) given []
    reading_stuck all =
        let a : No p (length lines % n) (above n lines) =
        subst (λ q. No q (length lines % n) (above n lines)) h.parameters
        (subst (λ z. No cells.parameters z (above n lines)) k_is (subst (λ (z : Above). No cells.parameters k z) up_is all)) in
        stuck_head p (in_range p d given h is) w n d.count h.width_at_least given lines line cells ri d.reader.open_event work
        (a work.fed work.earlier work.is_after work.open_event_at)
