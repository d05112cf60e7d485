use Rattle.std.proofs.Common.{Option, ℕ, sym, ◌∙◌, subst}
use Rattle.jls_splice_run.specs.Ceilings.{KeepsCeiling}
use Rattle.jls_splice_run.proofs.KeptCeilings.{keeps_own}
use Rattle.jls_splice_run.proofs.Told.{tells_none}
use Rattle.jls_splice_run.proofs.stages.find_or_let_go.Goals as goal

pub returns-clause-counts : goal.returns-clause-counts
returns-clause-counts g c =
    let given = c.args.options.ceiling in
    let e = c.in_ok-searched.ensures in
    record {
      is_search = record { came_to = e.came_to; reader = e.reader };
      ceiling_is = subst (λ (ceiling : Option ℕ). KeepsCeiling given ceiling) (sym (e.ceiling ∙ c.rules_of.ensures)) (keeps_own given);
      cut_ceiling_is = c.requires.counts.cut_ceiling_is;
    }

pub returns-then-not-is_empty-clause-told : goal.returns-then-not-is_empty-clause-told
returns-then-not-is_empty-clause-told g c = tells_none c.args.options.tells (g.E.Device.history c.args.faults.now)
