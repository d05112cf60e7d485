use Rattle.std.proofs.Common.{refl}
use Rattle.jls_station.proofs.CopyReads.{none_yet, none_known_yet}
use Rattle.jls_station.proofs.whole_reading.read_to_end.Goals as goal

-- the reads begin with none, and nothing is held
pub returns-clause-read : goal.returns-clause-read
returns-clause-read g c =
    let items = c.clear.new.self.items in
    let history = g.S.Device.history c.args.device.now in
    c.read_on.ensures.read history items refl (none_yet history items c.clear.ensures.items)

-- memory ran out after reads that began with none
pub returns-clause-refused : goal.returns-clause-refused
returns-clause-refused g c =
    let items = c.clear.new.self.items in
    let history = g.S.Device.history c.args.device.now in
    c.read_on.ensures.refused history items refl (none_yet history items c.clear.ensures.items)

-- the known bytes begin with what was read, since nothing was held
pub returns-clause-known : goal.returns-clause-known
returns-clause-known g c =
    let items = c.clear.new.self.items in
    let left = g.S.Source.remaining c.args.device.now in
    c.read_on.ensures.known left items refl (none_known_yet left items c.clear.ensures.items)
