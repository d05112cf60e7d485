use Rattle.jls_search.proofs.FaultlessFiles.{dead_if_broken, dead_if_faulty}
use Rattle.jls_marker.specs.declared.profile.Profile.TheVariants.{Wide}
use Rattle.jls_search.proofs.faultless.is_broken.Goals as goal

pub returns-then-faulty : goal.returns-then-faulty
returns-then-faulty c = λ _. dead_if_faulty c.args.reader.now (c.has_faulty_piece-faulty.ensures c.if-faulty.true)

pub returns-then-broken : goal.returns-then-broken
returns-then-broken c = λ _.
    dead_if_broken (c.prefixes_stay_broken_under.ensures Wide) c.args.reader.now (c.is_piece_broken-broken.ensures c.if-broken.true)
