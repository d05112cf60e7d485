use Rattle.std.proofs.Common.{None, sym, subst, arith, inl, inr}
use Rattle.std.specs.Prelude.{IfOk}
use Rattle.jls_search.specs.Goals.{IsGoal, IsSeenFor}
use Rattle.jls_search.specs.Tried.{IsStop}
use Rattle.jls_search.specs.declared.looking.PathVerdict.TheVariants.{Dead, Found}
use Rattle.jls_search.proofs.GroupSights.{unread}
use Rattle.jls_search.proofs.Paths.{path_len}
use Rattle.jls_search.proofs.looking.judge_path.Goals as goal

pub reader_on-requires-clause-kept : goal.reader_on-requires-clause-kept
reader_on-requires-clause-kept c = c.nearest-kept.ensures c.args.parts.now c.requires.kept

pub look_at_prefix_in_group-requires-clause-setting : goal.look_at_prefix_in_group-requires-clause-setting
look_at_prefix_in_group-requires-clause-setting c = subst (IsGoal c.args.parts.now) c.in-Group.is c.requires.goal

pub look_at_prefix_in_group-requires-clause-stop : goal.look_at_prefix_in_group-requires-clause-stop
look_at_prefix_in_group-requires-clause-stop c =
    let less = c.if-path-len.true in
    elim (subst (λ g. IsStop c.args.parts.now g c.args.path.now) c.in-Group.is c.requires.stop) [
      | inl free ↦ free.0
      | inr end ↦ absurd (omega (arith, less, end))
    ]

pub returns-then-path-len : goal.returns-then-path-len
returns-then-path-len c =
    subst (λ g. IfOk c.look_at_prefix_in_group.result
    (λ sight. IsSeenFor c.args.judge.now.ceiling c.args.parts.now g c.args.path.now sight))
    (sym c.in-Group.is)
    (c.look_at_prefix_in_group.ensures c.args.judge.now.ceiling)

pub reads_in_group-requires-clause-group : goal.reads_in_group-requires-clause-group
reads_in_group-requires-clause-group c = (subst (IsGoal c.args.parts.now) c.in-Group.is c.requires.goal).0

pub reads_in_group-requires-clause-kept : goal.reads_in_group-requires-clause-kept
reads_in_group-requires-clause-kept c = c.nearest-kept.ensures c.args.parts.now c.requires.kept

pub reads_in_group-requires-clause-whole : goal.reads_in_group-requires-clause-whole
reads_in_group-requires-clause-whole c = let l = path_len c.args.parts.now c.args.path.now c.requires.path in omega (arith, l)

pub returns-then-reads : goal.returns-then-reads
returns-then-reads c =
    let l = path_len c.args.parts.now c.args.path.now c.requires.path in
    subst (λ g. IsSeenFor c.args.judge.now.ceiling c.args.parts.now g c.args.path.now (Found None)) (sym c.in-Group.is)
    (omega (arith, l), c.in_ok-reads-in-Group.ensures.reads c.if-reads.true, tt)

pub returns-else-reads : goal.returns-else-reads
returns-else-reads c =
    let l = path_len c.args.parts.now c.args.path.now c.requires.path in
    subst (λ g. IsSeenFor c.args.judge.now.ceiling c.args.parts.now g c.args.path.now Dead) (sym c.in-Group.is)
    (unread c.args.judge.now.ceiling c.args.parts.now c.in-Group.setting c.args.path.now (omega (arith, l))
    (c.in_ok-reads-in-Group.ensures.unread c.if-reads.false))
