use Rattle.std.proofs.Common.{Option, ℕ, sym, ◌∙◌, subst}
use Rattle.jls_splice_run.specs.Ceilings.{KeepsCeiling}
use Rattle.jls_splice_run.proofs.KeptCeilings.{keeps_any, keeps_own}
use Rattle.jls_splice_run.proofs.Told.{tells_none}
use Rattle.jls_splice_run.proofs.stages.count_within_ceilings.Goals as goal

pub returns-then-is_some-clause-counts : goal.returns-then-is_some-clause-counts
returns-then-is_some-clause-counts g c =
    let given = c.args.options.ceiling in
    record {
      is_search = c.requires.first;
      ceiling_is = subst (λ (ceiling : Option ℕ). KeepsCeiling given ceiling) (sym c.requires.ceiling) (keeps_own given);
      cut_ceiling_is = keeps_own given;
    }

pub returns-then-is_some-clause-told : goal.returns-then-is_some-clause-told
returns-then-is_some-clause-told g c = tells_none c.args.options.tells (g.E.Device.history c.args.faults.now)

pub returns-clause-counts : goal.returns-clause-counts
returns-clause-counts g c =
    let given = c.args.options.ceiling in
    let none = sym c.is_some.ensures ∙ c.if-is_some.false in
    record {
      is_search = c.chosen.ensures c.args.parts.now c.in_ok-turned.ensures.found c.requires.first;
      ceiling_is = keeps_any given c.chosen.result.searched.ceiling none;
      cut_ceiling_is = keeps_any given c.chosen.result.cut_ceiling none;
    }
