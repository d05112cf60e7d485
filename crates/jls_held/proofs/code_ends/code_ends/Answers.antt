use Rattle.std.proofs.Common.{sym, ◌∙◌}
use Rattle.jls_held.specs.Mending.{file_of}
use Rattle.jls_held.proofs.LinePlaces.{line_places_are}
use Rattle.jls_held.proofs.code_ends.code_ends.Goals as goal

-- by line, the ends of lines
pub returns-in_ok-ends-2-clause-ends : goal.returns-in_ok-ends-2-clause-ends
returns-in_ok-ends-2-clause-ends c =
    line_places_are c.fronts_begin_pieces.ensures (file_of c.args.file.now) c.args.piece.now (sym c.by_sample.ensures.value ∙ c.if-by_sample.false)
    c.in_ok-ends-2.ends.items c.in_ok-ends-2.ensures
