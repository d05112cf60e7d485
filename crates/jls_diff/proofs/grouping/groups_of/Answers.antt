use Rattle.std.proofs.Common.{◌≤◌, length, arith}
use Rattle.std.proofs.lemmas.List.{length-map}
use Rattle.jls_diff.specs.PartsOf.{part_of, parts_of}
use Rattle.jls_diff.proofs.GroupSteps.{found_all, are_groups, groups_cover}
use Rattle.jls_diff.proofs.grouping.groups_of.Goals as goal

pub returns : goal.returns
returns c =
    let ps = parts_of c.args.parts.now in
    let l : length ps ≤ length c.args.parts.now = (let e = length-map c.args.parts.now part_of in omega (arith, e)) in
    let is = found_all ps (length c.args.parts.now) c.in_ok-found.found l c.in_ok-found.ensures in
    record {
      groups = are_groups ps c.in_ok-found.found c.close.new.found is c.in_ok-close.ensures;
      cover = groups_cover ps c.in_ok-found.found c.close.new.found is c.in_ok-close.ensures;
    }
