use Rattle.std.proofs.Common.{Option, ℕ, sym, ◌∙◌, subst}
use Rattle.jls_splice_run.specs.Ceilings.{KeepsCeiling}
use Rattle.jls_splice_run.proofs.KeptCeilings.{keeps_own}
use Rattle.jls_splice_run.proofs.Told.{tells_on}
use Rattle.jls_splice_run.proofs.stages.search_all.Goals as goal

pub returns-then-not-first-clause-counts : goal.returns-then-not-first-clause-counts
returns-then-not-first-clause-counts g c =
    let given = c.args.options.ceiling in
    let e = c.in_ok-first.ensures in
    record {
      is_search = record { came_to = e.came_to; reader = e.reader };
      ceiling_is = subst (λ (ceiling : Option ℕ). KeepsCeiling given ceiling) (sym (e.ceiling ∙ c.rules_of.ensures)) (keeps_own given);
      cut_ceiling_is = keeps_own given;
    }

pub count_within_ceilings-requires-clause-first : goal.count_within_ceilings-requires-clause-first
count_within_ceilings-requires-clause-first g c =
    let e = c.in_ok-first.ensures in record { came_to = e.came_to; reader = e.reader }

pub count_within_ceilings-requires-clause-ceiling : goal.count_within_ceilings-requires-clause-ceiling
count_within_ceilings-requires-clause-ceiling g c = c.in_ok-first.ensures.ceiling ∙ c.rules_of.ensures

pub returns-in_err-all-clause-told : goal.returns-in_err-all-clause-told
returns-in_err-all-clause-told g c = tells_on c.args.options.tells c.in_ok-first.ensures.told c.in_err-all.ensures.told

pub returns-clause-told : goal.returns-clause-told
returns-clause-told g c =
    tells_on c.args.options.tells (tells_on c.args.options.tells c.in_ok-first.ensures.told c.in_ok-all.ensures.told)
    c.find_or_let_go.ensures.told
