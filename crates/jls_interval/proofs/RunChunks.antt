-- The bits of a run that are taken from a chunk, one after another.
use Rattle.std.proofs.Common.{◌≡◌, ℕ, ◌+◌, ◌-◌, ◌^◌, ◌<◌, ◌≤◌, Bool, false, List, [], ◌∷◌, ◌++◌, refl, sym, ap, ◌∙◌, subst, append_assoc}
use Rattle.std.proofs.lemmas.List.{append-nil}
use Rattle.jls_bits.specs.Bits.{bits}
use Rattle.jls_interval.specs.Runs.{run_order}
use Rattle.jls_interval.specs.Reading.{Taken}
use Rattle.jls_interval.specs.RunState.{IsRunState, RunAt, RunStepIs}
use Rattle.jls_interval.specs.RunChunks.{HasTakenAll, RunPushed}
use Rattle.jls_interval.specs.declared.run_reader.RunState.{RunState}
use Rattle.jls_interval.specs.declared.run_reader.RunState.TheVariants.{Count}
use Rattle.jls_interval.specs.declared.run_reader.Run.TheVariants.{Interrupted}
use Rattle.jls_interval.specs.declared.run_reader.RunStep.{RunStep}
use Rattle.jls_interval.specs.declared.run_reader.RunStep.TheVariants.{More, Done, Refused}
use Rattle.jls_interval.proofs.RunSteps.{count_taken, counted, counted_long}

-- a step that asks for no more bits can end the taking
has_taken : (step : RunStep) (unread : List Bool) → ((next : RunState) → step ≡ More next → ⊥) → HasTakenAll step unread
has_taken (More next) unread n = absurd (n next refl)
has_taken (Done run) unread n = tt
has_taken Refused unread n = tt

module _ (w0 : ℕ) (first : RunState) (chunk : List Bool) where
  -- bits were taken that led to this state
  pub record Taking (state : RunState) (unread : List Bool) : Type 0 where
    pub taken : List Bool
    pub chunk_is : chunk ≡ taken ++ unread
    pub at : (r0 : ℕ) (fed : List Bool) → RunAt r0 w0 fed first → RunAt r0 w0 (fed ++ taken) state

  -- before a bit of the chunk is taken, the run is as it was at first
  pub taking_none : Taking first chunk
  taking_none = record { taken = []; chunk_is = refl; at = λ r0 fed h. subst (λ z. RunAt r0 w0 z first) (sym (append-nil fed)) h }

  module _ (state : RunState) (left left' : List Bool) (b : Bool) (t : Taking state left) (e : left ≡ b ∷ left') where
    one_more : chunk ≡ (t.taken ++ b ∷ []) ++ left'
    one_more = t.chunk_is ∙ ap (λ z. t.taken ++ z) e ∙ sym (append_assoc t.taken (b ∷ []) left')

    step_at : (step : RunStep) → ((r0 : ℕ) (fed : List Bool) → RunAt r0 w0 fed state → RunStepIs r0 w0 (fed ++ b ∷ []) step)
        → (r0 : ℕ) (fed : List Bool) → RunAt r0 w0 fed first → RunStepIs r0 w0 (fed ++ (t.taken ++ b ∷ [])) step
    step_at step s r0 fed h = subst (λ z. RunStepIs r0 w0 z step) (append_assoc fed t.taken (b ∷ []))
        (s r0 (fed ++ t.taken) (t.at r0 fed h))

    pub taking_more : (next : RunState)
        → ((r0 : ℕ) (fed : List Bool) → RunAt r0 w0 fed state → RunStepIs r0 w0 (fed ++ b ∷ []) (More next)) → Taking next left'
    taking_more next s = record { taken = t.taken ++ b ∷ []; chunk_is = one_more; at = step_at (More next) s }

    pub taking_end : (step : RunStep) → ((r0 : ℕ) (fed : List Bool) → RunAt r0 w0 fed state → RunStepIs r0 w0 (fed ++ b ∷ []) step)
        → ((next : RunState) → step ≡ More next → ⊥) → RunPushed w0 first chunk left' step
    taking_end step s n = record { taken = t.taken ++ b ∷ []; chunk_is = one_more; step_is = step_at step s; all = has_taken step left' n }

  pub taking_all : (state : RunState) (left left' : List Bool) → Taking state left → (left ≡ []) × (left' ≡ [])
      → RunPushed w0 first chunk left' (More state)
  taking_all state left left' t e =
      record { taken = t.taken; chunk_is = t.chunk_is ∙ ap (λ z. t.taken ++ z) (e.0 ∙ sym e.1); step_is = t.at; all = e.1 }

  -- several more bits of the chunk are taken at once
  pub taking_then : (state : RunState) (left left' : List Bool) (step : RunStep) → Taking state left → RunPushed w0 state left left' step
      → RunPushed w0 first chunk left' step
  taking_then state left left' step t p = record {
    taken = t.taken ++ p.taken;
    chunk_is = t.chunk_is ∙ ap (λ z. t.taken ++ z) p.chunk_is ∙ sym (append_assoc t.taken p.taken left');
    step_is = λ r0 fed h. subst (λ z. RunStepIs r0 w0 z step) (append_assoc fed t.taken p.taken)
        (p.step_is r0 (fed ++ t.taken) (t.at r0 fed h));
    all = p.all;
  }

-- The count of columns that remain, whose bits are taken at once --------------------------------------------

module _ (w0 : ℕ) (state : RunState) (r w have x j n : ℕ) (chunk unread : List Bool) (is : state ≡ Count r w have x) (none : have ≡ 0)
    (holds : IsRunState w0 state) (order : j ≡ run_order r) (bits_are : chunk ≡ bits j n ++ unread) (fits : n < 2 ^ j) where
  numbers : IsRunState w0 (Count r w have x)
  numbers = subst (IsRunState w0) is holds

  whole : (r0 : ℕ) (fed : List Bool) → RunAt r0 w0 fed state → Taken r0 w0 (fed ++ bits j n) r w (false ∷ bits j n)
  whole r0 fed h = count_taken r0 w0 fed r w x j n
      (subst (λ z. Taken r0 w0 fed r w (false ∷ bits z x)) none (subst (RunAt r0 w0 fed) is h))

  -- a count below the columns left, taken at once, ends the run there
  pub count_at_once : n < w → RunPushed w0 state chunk unread (Done (Interrupted (w0 - w + n) r))
  count_at_once less = record {
    taken = bits j n;
    chunk_is = bits_are;
    step_is = λ r0 fed h. counted r0 w0 (fed ++ bits j n) r w j n (whole r0 fed h) order fits numbers.2 less;
    all = tt;
  }

  -- a count that is not below the columns left, taken at once, is refused
  pub no_count_at_once : w ≤ n → RunPushed w0 state chunk unread Refused
  no_count_at_once more = record {
    taken = bits j n;
    chunk_is = bits_are;
    step_is = λ r0 fed h. counted_long r0 w0 (fed ++ bits j n) r w j n (whole r0 fed h) order fits numbers.1 more;
    all = tt;
  }
