use Rattle.std.proofs.Common.{ℕ, ◌+◌, List, map, Bor, sym, ◌∙◌, subst}
use Rattle.std.specs.List.{AllByRecursion}
use Rattle.jls_interval.specs.Lines.{IsLine}
use Rattle.jls_interval.specs.Encoding.{written_by, AreWritten}
use Rattle.jls_interval.proofs.encode.write_lines.Goals as goal

abbrev items : List (Bor (List ℕ)) → List (List ℕ)
items lines = map (λ l. l.now) lines

pub write_next_line-requires-clause-each : goal.write_next_line-requires-clause-each
write_next_line-requires-clause-each c =
    subst (λ q. AllByRecursion (IsLine q c.args.width) (items c.args.lines.now)) (sym c.loop-j.invariant.parameters) c.requires.lines.each

pub write_next_line-requires-clause-before : goal.write_next_line-requires-clause-before
write_next_line-requires-clause-before c =
    subst (λ q. AreWritten q c.args.width c.args.components (items c.args.lines.now) c.loop-j.j (written_by c.loop-j.encoder))
    (sym c.loop-j.invariant.parameters) c.loop-j.invariant.are

-- one line more is written
pub loop-j-preserved : goal.loop-j-preserved
loop-j-preserved c = record {
  parameters = c.write_next_line.ensures.parameters ∙ c.loop-j.invariant.parameters;
  are = subst (λ q. AreWritten q c.args.width c.args.components (items c.args.lines.now) (c.loop-j.j + 1)
      (written_by c.write_next_line.new.encoder)) c.loop-j.invariant.parameters c.in_ok-write_next_line.ensures.written;
}
