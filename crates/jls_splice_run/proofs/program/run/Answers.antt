use Rattle.std.proofs.Common.{◌≡◌, List, Some, ◌∙◌, map, sym, ap}
use Rattle.std.specs.String.{string_bytes}
use Rattle.clap.specs.Words.{Row, Text, matches_of}
use Rattle.jls_io.specs.FaultLines.{out_of_memory_line}
use Rattle.jls_io.specs.Writing.{Printed}
use Rattle.jls_cli.specs.SpliceAsking.{Asked, AskFor, asked_by, asked_of}
use Rattle.jls_cli.specs.SpliceWords.{splice_app}
use Rattle.jls_cli.specs.Words.{TakesWords}
use Rattle.jls_splice_run.specs.FaultLines.{bad_value_line, named_twice_line, not_understood_line, numbered_out_line, program}
use Rattle.jls_splice_run.specs.Runs.{Run, named_twice, no_list, nothing_asked, nothing_begun, numbered_out}
use Rattle.jls_splice_run.proofs.Running.{faults_alone, ran, ran_refused}
use Rattle.jls_splice_run.proofs.program.run.Goals as goal

-- the words are taken and ask for this
asks : {words : List Text} {rows : List Row} {a : Asked} → TakesWords splice_app words → rows ≡ matches_of splice_app words
    → Some a ≡ asked_by rows → AskFor words a
asks taken rows asked = record { taken = taken; asks = sym (ap asked_by rows) ∙ sym asked }

pub returns-in-Err : goal.returns-in-Err
returns-in-Err g c = ran_refused (map string_bytes c.args.words.now) _ c.answer.result c.in-Err.ensures.refused c.answer.ensures

pub returns-in-None : goal.returns-in-None
returns-in-None g c =
    faults_alone (Run (map string_bytes c.args.words.now) 2) (Printed not_understood_line)
    (λ events line. nothing_asked events
    (record { taken = c.in-Ok.ensures.taken; asks = sym (ap asked_by c.in-Ok.ensures.rows) ∙ sym c.in-None.ensures }) line)
    c.print_not_understood.ensures

pub returns-then-is_file_out : goal.returns-then-is_file_out
returns-then-is_file_out g c =
    let asked = asked_of c.in-Some.asked in
    faults_alone (Run (map string_bytes c.args.words.now) 2) (Printed (named_twice_line asked.out))
    (λ events line. named_twice asked events (asks c.in-Ok.ensures.taken c.in-Ok.ensures.rows c.in-Some.ensures)
    (c.is_file_out.ensures.0 c.if-is_file_out.true) line)
    c.print_named_twice.ensures

pub returns-in-Err-is_numbered_out : goal.returns-in-Err-is_numbered_out
returns-in-Err-is_numbered_out g c =
    faults_alone (Run (map string_bytes c.args.words.now) 5) (Printed (out_of_memory_line program))
    (λ events line. nothing_begun events line) c.print_out_of_memory.ensures

pub returns-then-numbered : goal.returns-then-numbered
returns-then-numbered g c =
    let asked = asked_of c.in-Some.asked in
    faults_alone (Run (map string_bytes c.args.words.now) 2) (Printed (numbered_out_line asked.out))
    (λ events line. numbered_out asked events (asks c.in-Ok.ensures.taken c.in-Ok.ensures.rows c.in-Some.ensures)
    (λ same. (let yes = c.is_file_out.ensures.1 same in let no = c.if-is_file_out.false in absurd cc))
    (c.in-Ok-is_numbered_out.ensures.0 c.if-numbered.true) line)
    c.print_numbered_out.ensures

pub returns-in-Some-bad_value_in : goal.returns-in-Some-bad_value_in
returns-in-Some-bad_value_in g c =
    let asked = asked_of c.in-Some.asked in
    let value = c.in-Some-bad_value_in.value.now in
    faults_alone (Run (map string_bytes c.args.words.now) 2) (Printed (bad_value_line value))
    (λ events line. no_list asked value events (asks c.in-Ok.ensures.taken c.in-Ok.ensures.rows c.in-Some.ensures)
    (λ same. (let yes = c.is_file_out.ensures.1 same in let no = c.if-is_file_out.false in absurd cc))
    (λ same. (let yes = c.in-Ok-is_numbered_out.ensures.1 same in let no = c.if-numbered.false in absurd cc))
    (sym c.in-Some-bad_value_in.ensures) line)
    c.print_bad_value.ensures

pub returns : goal.returns
returns g c =
    ran (map string_bytes c.args.words.now) (asked_of c.in-Some.asked) c.perform.result
    (asks c.in-Ok.ensures.taken c.in-Ok.ensures.rows c.in-Some.ensures)
    (λ same. (let yes = c.is_file_out.ensures.1 same in let no = c.if-is_file_out.false in absurd cc))
    (λ same. (let yes = c.in-Ok-is_numbered_out.ensures.1 same in let no = c.if-numbered.false in absurd cc))
    (sym c.in-None-bad_value_in.ensures) c.perform.ensures
