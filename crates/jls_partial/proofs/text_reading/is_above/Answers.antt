use Rattle.jls_partial.proofs.text_reading.is_above.Goals as goal

pub returns-in-Some : goal.returns-in-Some
returns-in-Some c = rw c.in-Some.is cc
