use Rattle.std.specs.Io.KnownBytes.{Consumes}
use Rattle.jls_io.specs.Event.{GrewBy}
use Rattle.jls_station.specs.Inputs.{IsEnough}
use Rattle.jls_station.specs.Reading.{IsRead}
use Rattle.jls_station.proofs.CopySteps.{text_held}
use Rattle.jls_station.proofs.ReadingOn.{text_few, still_a_text, so_of_text, text_at_end}
use Rattle.jls_station.proofs.intakes.read_text_on.Goals as goal

pub read_on-requires-clause-fed_few : goal.read_on-requires-clause-fed_few
read_on-requires-clause-fed_few g c = text_few c.args.bytes.now.items c.requires.text c.requires.few

-- a text that is read on is still a text
pub returns-clause-text : goal.returns-clause-text
returns-clause-text g c =
    let bytes = c.args.bytes.now.items in
    still_a_text c.read_on.result c.read_on.new.held.items _ (c.read_on.ensures.longer bytes (text_held bytes c.requires.text))

-- the reads that read on are those of a text
pub returns-clause-read : goal.returns-clause-read
returns-clause-read g c before h =
    let bytes = c.args.bytes.now.items in
    so_of_text c.read_on.result c.read_on.new.held.items
    (λ stop t. GrewBy (λ reads. IsRead IsEnough reads t stop) before (g.S.Device.history c.read_on.new.device))
    (c.read_on.ensures.read before bytes (text_held bytes c.requires.text) h)

-- memory ran out after reads of a text
pub returns-clause-refused : goal.returns-clause-refused
returns-clause-refused g c before h =
    let bytes = c.args.bytes.now.items in c.read_on.ensures.refused before bytes (text_held bytes c.requires.text) h

-- the known bytes begin with what was read
pub returns-clause-known : goal.returns-clause-known
returns-clause-known g c before h =
    let bytes = c.args.bytes.now.items in
    so_of_text c.read_on.result c.read_on.new.held.items (λ stop t. Consumes before (g.S.Source.remaining c.read_on.new.device) t)
    (c.read_on.ensures.known before bytes (text_held bytes c.requires.text) h)

-- at the end no known byte is left
pub returns-clause-end : goal.returns-clause-end
returns-clause-end g c = text_at_end c.read_on.result c.read_on.new.held.items (g.S.Source.remaining c.read_on.new.device)
    c.read_on.ensures.end
