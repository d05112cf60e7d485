use Rattle.std.proofs.Common.{◌<◌, arith}
use Rattle.std.specs.List.{AllByRecursion}
use Rattle.jls_values.proofs.Lists.{all_bytes}
use Rattle.jls_search.proofs.Prefixes.{on_ok}
use Rattle.jls_search.proofs.feeding.feed_way.Goals as goal

pub returns-clause-bytes : goal.returns-clause-bytes
returns-clause-bytes c =
    on_ok c.feed.result (AllByRecursion (λ b. b < 256) c.args.way.now) (all_bytes c.args.way.now (λ k. omega (arith, c.type_inv.way k)))
