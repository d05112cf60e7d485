use Rattle.std.proofs.Common.{◌≡◌, map, ap}
use Rattle.jls_partial.specs.Entries.{Entry}
use Rattle.jls_partial.specs.Held.{kept_entry}
use Rattle.jls_partial.specs.LineEntries.{LineEntry}
use Rattle.jls_partial.specs.Text.{entries}
use Rattle.jls_partial.proofs.SameEntries.{one_done, same_next, along_end, places_from_test, places_apart}
use Rattle.jls_partial.proofs.equality.same_entries.Goals.{In-Some-next}
use Rattle.jls_partial.proofs.equality.same_entries.Goals as goal

-- where all entries are one, so are the two that are compared
pair_is_one : (c : In-Some-next) → entries c.args.one.now ≡ entries c.args.other.now → kept_entry (c.in-Some.at, c.in-Some.lines)
    ≡ kept_entry (c.in-Some-next.other_at, c.in-Some-next.others)
pair_is_one c =
    same_next (entries c.args.one.now) (entries c.args.other.now) (map kept_entry c.loop-at.at-iterator) (map kept_entry c.loop-at.left)
    (kept_entry (c.in-Some.at, c.in-Some.lines)) (kept_entry (c.in-Some-next.other_at, c.in-Some-next.others))
    (map kept_entry c.next.new.self) (map kept_entry c.next-in-loop-at.new.self) c.loop-at.invariant
    (ap (map kept_entry) c.in-Some.ensures.steps) (ap (map kept_entry) c.in-Some-next.ensures.steps)

-- an entry is at another place
pub returns-then-not-same_place : goal.returns-then-not-same_place
returns-then-not-same_place c = (
  λ e. absurd cc,
  λ same. absurd (places_apart c.in-Some.at c.in-Some-next.other_at c.eq-same_place.result c.eq-same_place.ensures c.if-not-same_place.true
      (ap (λ (e : Entry). e.0) (pair_is_one (goal.at.returns-then-not-same_place c).In-Some-next same))),
)

-- an entry has other readings
pub returns-then-not-same_lines : goal.returns-then-not-same_lines
returns-then-not-same_lines c = (
  λ e. absurd cc,
  λ same.
      let t = c.same_line-same_lines.ensures.1
      (ap (λ (e : Entry). e.1) (pair_is_one (goal.at.returns-then-not-same_lines c).In-Some-next same)) in
      let f = c.if-not-same_lines.true in
      absurd cc,
)

-- one entry more is the same in both
pub loop-at-preserved : goal.loop-at-preserved
loop-at-preserved c =
    let at = places_from_test c.in-Some.at c.in-Some-next.other_at c.eq-same_place.result c.eq-same_place.ensures
    c.if-not-same_place.false in
    let lines = c.same_line-same_lines.ensures.0 c.if-not-same_lines.false in
    one_done (entries c.args.one.now) (entries c.args.other.now) (map kept_entry c.loop-at.at-iterator) (map kept_entry c.loop-at.left)
    (kept_entry (c.in-Some.at, c.in-Some.lines)) (kept_entry (c.in-Some-next.other_at, c.in-Some-next.others))
    (map kept_entry c.next.new.self) (map kept_entry c.next-in-loop-at.new.self) c.loop-at.invariant
    (ap (map kept_entry) c.in-Some.ensures.steps) (ap (map kept_entry) c.in-Some-next.ensures.steps) (λ i. (at i, lines i))

pub returns : goal.returns
returns c =
    along_end (λ (e : LineEntry). e) kept_entry (entries c.args.one.now) (entries c.args.other.now) (map kept_entry c.loop-at.at-iterator)
    c.next-2.result c.loop-at.left c.next-2.new.self c.is_none.result c.is_none.ensures c.next-2.ensures.steps
    (ap (map kept_entry) c.in-None.ensures.steps.0) c.loop-at.invariant
