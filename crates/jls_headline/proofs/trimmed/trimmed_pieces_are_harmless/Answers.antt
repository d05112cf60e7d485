use Rattle.jls_headline.proofs.Trims.{trimmed_pieces_are_harmless, trimmed_pieces_have_heads, trimmed_pieces_have_picture_lines}
use Rattle.jls_headline.proofs.trimmed.trimmed_pieces_are_harmless.Goals as goal

pub returns-clause-lines : goal.returns-clause-lines
returns-clause-lines c = trimmed_pieces_are_harmless

pub returns-clause-heads : goal.returns-clause-heads
returns-clause-heads c = trimmed_pieces_have_heads

pub returns-clause-first_lines : goal.returns-clause-first_lines
returns-clause-first_lines c = trimmed_pieces_have_picture_lines
