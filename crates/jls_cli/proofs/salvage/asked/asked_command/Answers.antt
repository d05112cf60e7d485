use Rattle.std.proofs.Common.{◌≡◌, ◌∙◌, Option, sym, codes}
use Rattle.std.specs.Prelude.{option_and_then}
use Rattle.clap.specs.Words.{found_of, rows_of, subcommand_rows_of}
use Rattle.clap.proofs.WalkLemmas.{first_value-rows, raw_values-rows}
use Rattle.jls_cli.specs.SalvageAsking as spec
use Rattle.jls_cli.specs.SalvageAsking.{Asked, asked_by}
use Rattle.jls_cli.proofs.SalvageWordsRead.{asked_entered, asks_check, asks_join, asks_show, asks_write, entered_rows}
use Rattle.jls_cli.proofs.salvage.asked.asked_command.Goals.{In-Some}
use Rattle.jls_cli.proofs.salvage.asked.asked_command.Goals as goal

-- the words ask for what the command asks for that was entered
asks : (c : In-Some) (a : Option Asked) → asked_by c.in-Some.name.now (rows_of (found_of c.in-Some.given.now)) ≡ a
    → a ≡ option_and_then (λ p. asked_by p.0 p.1) (subcommand_rows_of c.args.matches.now)
asks c a named =
    let name = c.in-Some.name.now in
    let rows = rows_of (found_of c.in-Some.given.now) in
    let entered = entered_rows c.args.matches.now name rows (sym c.in-Some.ensures.name) (sym c.in-Some.ensures.rows) in
    sym (asked_entered c.args.matches.now name rows a entered named)

pub returns-then-eq : goal.returns-then-eq
returns-then-eq c =
    let found = found_of c.in-Some.given.now in
    let file = c.get_str.ensures ∙ first_value-rows found (codes "FILE") in
    let named = asks_check c.in-Some.name.now (rows_of found) (sym c.eq.ensures ∙ c.if-eq.true) in
    c.asked_check.ensures ∙ ((λ i. spec.asked_check (file i)) ∙ asks (goal.at.returns-then-eq c).In-Some _ named)

pub returns-then-eq-2 : goal.returns-then-eq-2
returns-then-eq-2 c =
    let found = found_of c.in-Some.given.now in
    let source = c.get_str-then-eq-2.ensures ∙ first_value-rows found (codes "source") in
    let out = c.get_str-then-eq-2-2.ensures ∙ first_value-rows found (codes "OUT") in
    let files = c.get_strs.ensures ∙ raw_values-rows found (codes "FILE") in
    let named = asks_join c.in-Some.name.now (rows_of found) (sym c.eq.ensures ∙ c.if-eq.false)
    (sym c.eq-else-eq.ensures ∙ c.if-eq-2.true) in
    c.asked_join.ensures ∙ ((λ i. spec.asked_join (source i) (out i) (files i)) ∙ asks (goal.at.returns-then-eq-2 c).In-Some _ named)

pub returns-then-eq-3 : goal.returns-then-eq-3
returns-then-eq-3 c =
    let found = found_of c.in-Some.given.now in
    let file = c.get_str-then-eq-3.ensures ∙ first_value-rows found (codes "FILE") in
    let named = asks_show c.in-Some.name.now (rows_of found) (sym c.eq.ensures ∙ c.if-eq.false) (sym c.eq-else-eq.ensures ∙ c.if-eq-2.false)
    (sym c.eq-else-eq-2.ensures ∙ c.if-eq-3.true) in
    c.asked_show.ensures ∙ ((λ i. spec.asked_show (file i)) ∙ asks (goal.at.returns-then-eq-3 c).In-Some _ named)

pub returns-then-eq-4 : goal.returns-then-eq-4
returns-then-eq-4 c =
    let found = found_of c.in-Some.given.now in
    let format = c.get_str-format.ensures ∙ first_value-rows found (codes "as") in
    let ilv = c.get_str-then-eq-4.ensures ∙ first_value-rows found (codes "ilv") in
    let ri = c.get_str-then-eq-4-2.ensures ∙ first_value-rows found (codes "ri") in
    let out = c.get_str-then-eq-4-3.ensures ∙ first_value-rows found (codes "OUT") in
    let file = c.get_str-then-eq-4-4.ensures ∙ first_value-rows found (codes "FILE") in
    let options = c.options_of-options.ensures ∙ (λ i. spec.options_of (ilv i) (ri i)) in
    let named = asks_write c.in-Some.name.now (rows_of found) (sym c.eq.ensures ∙ c.if-eq.false)
    (sym c.eq-else-eq.ensures ∙ c.if-eq-2.false)
    (sym c.eq-else-eq-2.ensures ∙ c.if-eq-3.false) (sym c.eq-else-eq-3.ensures ∙ c.if-eq-4.true) in
    c.asked_write.ensures ∙ ((λ i. spec.asked_write (format i) (options i) (out i) (file i))
    ∙ asks (goal.at.returns-then-eq-4 c).In-Some _ named)
