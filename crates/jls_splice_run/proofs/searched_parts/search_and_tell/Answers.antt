use Rattle.std.proofs.Common.{ℕ, Option, sym, subst}
use Rattle.std.specs.Prelude.{IfSome}
use Rattle.jls_diff.specs.PartsOf.{bytes_of}
use Rattle.jls_search.specs.Search.{IsKeptReader}
use Rattle.jls_search.specs.declared.kept.KeptReader.{KeptReader}
use Rattle.jls_splice_run.specs.Ceilings.{KeepsCeiling}
use Rattle.jls_splice_run.proofs.KeptCeilings.{keeps_on}
use Rattle.jls_splice_run.proofs.MakingLemmas.{first_is_short, some_copy}
use Rattle.jls_splice_run.proofs.Told.{tells_none}
use Rattle.jls_splice_run.proofs.searched_parts.search_and_tell.Goals as goal

pub returns-then-not-are_short-clause-told : goal.returns-then-not-are_short-clause-told
returns-then-not-are_short-clause-told g c = tells_none c.args.options.tells (g.E.Device.history c.args.faults.now)

pub ceiling_of_cut-requires-clause-short : goal.ceiling_of_cut-requires-clause-short
ceiling_of_cut-requires-clause-short g c =
    (c.parts_can_be_searched.ensures (bytes_of c.args.copies.now) c.in_ok-found.found.parts c.in_ok-found.ensures.parts
    (some_copy c.args.copies.now c.requires) (c.are_short.ensures.0 c.if-not-are_short.false)).1

pub complete_by_groups-requires-clause-searched : goal.complete_by_groups-requires-clause-searched
complete_by_groups-requires-clause-searched g c = c.in_ok-found.ensures.counts.is_search.came_to

pub returns-clause-short : goal.returns-clause-short
returns-clause-short g c =
    (c.parts_can_be_searched.ensures (bytes_of c.args.copies.now) c.in_ok-splices.splices.parts c.in_ok-splices.ensures.found.are_parts
    (some_copy c.args.copies.now c.requires) (c.are_short.ensures.0 c.if-not-are_short.false)).1

pub returns-clause-some_way : goal.returns-clause-some_way
returns-clause-some_way g c =
    (c.parts_can_be_searched.ensures (bytes_of c.args.copies.now) c.in_ok-splices.splices.parts c.in_ok-splices.ensures.found.are_parts
    (some_copy c.args.copies.now c.requires) (c.are_short.ensures.0 c.if-not-are_short.false)).0

pub returns-clause-small : goal.returns-clause-small
returns-clause-small g c =
    first_is_short (bytes_of c.args.copies.now) c.in_ok-splices.splices.parts c.in_ok-splices.ensures.found.are_parts
    (some_copy c.args.copies.now c.requires) (c.are_short.ensures.0 c.if-not-are_short.false)

pub returns-clause-ceiling : goal.returns-clause-ceiling
returns-clause-ceiling g c =
    subst (λ (ceiling : Option ℕ). KeepsCeiling c.args.options.ceiling ceiling) (sym c.in_ok-splices.ensures.ceiling)
    c.in_ok-found.ensures.counts.ceiling_is

pub returns-clause-cut : goal.returns-clause-cut
returns-clause-cut g c =
    keeps_on c.args.options.ceiling c.in_ok-found.found.all.cut_ceiling c.in_ok-cut_ceiling.cut_ceiling c.in_ok-found.ensures.counts.cut_ceiling_is
    c.in_ok-cut_ceiling.ensures

pub returns-clause-reader : goal.returns-clause-reader
returns-clause-reader g c =
    let e = c.in_ok-splices.ensures in
    subst (λ (k : Option KeptReader). IfSome k (IsKeptReader c.in_ok-splices.splices.parts)) (sym e.reader)
    (subst (λ ps. IfSome c.in_ok-found.found.all.searched.reader (IsKeptReader ps)) (sym e.parts_kept)
    c.in_ok-found.ensures.counts.is_search.reader)
