-- Bits that are a proper prefix of a code, and bits that cut an event.
use Rattle.std.proofs.Common.{ℕ, ◌<◌, Bool, List, ◌∷◌, ◌++◌, ap, ◌∙◌, arith}
use Rattle.jls_values.specs.Params.{CodingParameters}
use Rattle.jls_interval.specs.Lines.{interval_shape}
use Rattle.jls_interval.specs.Events.{events}
use Rattle.jls_interval.specs.Stepwise.{bits_of_steps}
use Rattle.jls_interval.specs.Growth.{interval_steps, start, finish}
use Rattle.jls_interval.specs.Laws.{IsCutCode, IsCutEvent}
use Rattle.jls_interval.proofs.StepwiseCodes.{cut_steps}
use Rattle.jls_interval.proofs.LinesGrow.{lines_grow}
use Rattle.jls_interval.proofs.CodesApart.{code_is}
use Rattle.jls_interval.proofs.CutEvents.{cut_converse}
use Rattle.jls_interval.proofs.GrowthEnds.{decoded_from}

module _ (p : CodingParameters) (w c n : ℕ) (some : 0 < w) (given : List Bool) where
  -- a proper prefix of the code of some lines is whole events and then a cut event
  pub cut_code_cuts : IsCutCode (interval_shape p w c n) given → IsCutEvent (interval_shape p w c n) given
  cut_code_cuts h =
      let r = cut_steps (interval_steps p w c n) start (finish w c h.lines) (events w c h.lines) given h.missing h.more_missing
      (lines_grow p w c n some h.lines h.are_lines) (h.code_is ∙ code_is p w c n h.lines) in
      record {
        whole = r.whole;
        position = r.state;
        leads = r.leads;
        cut = r.cut;
        is_next = r.next;
        begun = r.begun;
        given_is = r.given_is;
        missing = r.missing;
        more_missing = r.more_missing;
        bits_are = r.bits_are;
      }

  -- whole events and then a cut event are a proper prefix of the code of some lines
  pub cut_event_cuts : IsCutEvent (interval_shape p w c n) given → IsCutCode (interval_shape p w c n) given
  cut_event_cuts h =
      let any : 0 < n = (let q = h.is_next.0 in omega arith) in
      let r = cut_converse p w c n some (bits_of_steps (interval_steps p w c n) start h.whole ++ h.begun) h.position h.begun any
      (decoded_from p w c n some h.whole h.begun h.position h.leads) h.cut h.missing h.more_missing h.is_next h.bits_are in
      record {
        lines = r.0;
        are_lines = r.2;
        missing = h.missing;
        more_missing = r.1;
        code_is = ap (λ v. v ++ h.missing ∷ r.1) h.given_is
            ∙ r.3;
      }
