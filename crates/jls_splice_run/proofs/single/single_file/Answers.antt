use Rattle.std.proofs.Common.{◌≡◌, [], arith, rules}
use Rattle.jls_search.specs.Files.{files_taken}
use Rattle.jls_splice_run.proofs.Seen.{none_is_single, only_one, several}
use Rattle.jls_splice_run.proofs.single.single_file.Goals as goal

pub returns-then-len-gt1 : goal.returns-then-len-gt1
returns-then-len-gt1 c =
    several (files_taken c.args.files.now) c.in_ok-listed.listed.items (omega arith) c.in_ok-listed.ensures

pub returns-in-Some : goal.returns-in-Some
returns-in-Some c =
    only_one (files_taken c.args.files.now) c.in_ok-listed.listed.items _ c.pop.new.self.items c.in-Some.ensures.items (omega arith)
    c.in_ok-listed.ensures

pub returns : goal.returns
returns c =
    let is : c.in_ok-listed.listed.items ≡ [] = search rules in
    none_is_single (files_taken c.args.files.now) c.in_ok-listed.listed.items is c.in_ok-listed.ensures
