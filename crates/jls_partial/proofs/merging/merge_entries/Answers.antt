use Rattle.std.proofs.Common.{◌≡◌, ◌∙◌, ◌∷◌, ◌++◌, List, ℕ, map, ap, subst}
use Rattle.std.specs.List.{AllByRecursion}
use Rattle.std.proofs.lemmas.Result.{err_from_is_err_and}
use Rattle.jls_partial.specs.Entries.{kept_at_place, kept_readings}
use Rattle.jls_partial.specs.Held.{IsLineEntry, kept_entry}
use Rattle.jls_partial.specs.LineEntries.{LineEntry}
use Rattle.jls_partial.specs.LineSet.{kept_lines}
use Rattle.jls_partial.specs.Partial.{PartialPicture}
use Rattle.jls_partial.specs.Reading.{Reading}
use Rattle.jls_partial.specs.Text.{entries}
use Rattle.jls_partial.proofs.Growth.{IsSoFar, more_so_far, prefix_so_far, next_entry}
use Rattle.jls_partial.proofs.merging.merge_entries.Goals as goal

-- the readings of this line come next
next : (old now : PartialPicture) (all : List (Reading × List ℕ)) (e : LineEntry) (it es : List LineEntry) → it ≡ e ∷ es
    → IsSoFar old now all (kept_readings (map kept_entry it))
    → IsSoFar old now all (map (kept_at_place e.0) (kept_lines e.1) ++ kept_readings (map kept_entry es))
next old now all e it es is h = subst (IsSoFar old now all) (ap (λ ls. kept_readings (map kept_entry ls)) is ∙ next_entry e es) h

-- the readings of one line more are taken
pub loop-at-preserved : goal.loop-at-preserved
loop-at-preserved c =
    let e : LineEntry = (c.in-Some.at, c.in-Some.lines) in
    let all = kept_readings (entries c.args.other.now) in
    let es = c.next.new.self in
    let so_far = next c.args.into.now c.loop-at.into all e c.loop-at.at-iterator es c.in-Some.ensures.steps c.loop-at.invariant.so_far in
    record {
      so_far = more_so_far c.args.into.now c.loop-at.into c.merge_line.new.into all (map (kept_at_place e.0) (kept_lines e.1))
          (kept_readings (map kept_entry es)) so_far c.in_ok-merge_line.ensures.ok;
      each = (subst (AllByRecursion (IsLineEntry c.args.other.now.shape)) c.in-Some.ensures.steps c.loop-at.invariant.each).1;
    }

-- memory was refused: all that was held is held
pub returns-in_err-merge_line-clause-err : goal.returns-in_err-merge_line-clause-err
returns-in_err-merge_line-clause-err c =
    let p = err_from_is_err_and c.from_residual.result c.from_residual.ensures.1 in
    let e : LineEntry = (c.in-Some.at, c.in-Some.lines) in
    let all = kept_readings (entries c.args.other.now) in
    let es = c.next.new.self in
    let so_far = next c.args.into.now c.loop-at.into all e c.loop-at.at-iterator es c.in-Some.ensures.steps c.loop-at.invariant.so_far in
    rw p.1 (prefix_so_far c.args.into.now c.loop-at.into c.merge_line.new.into all (map (kept_at_place e.0) (kept_lines e.1))
    (kept_readings (map kept_entry es)) so_far c.in_err-merge_line.ensures.err)
