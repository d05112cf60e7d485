use Rattle.std.proofs.Common.{◌≡◌, ◌∙◌, ap, codes, true}
use Rattle.std.proofs.lemmas.Result.{IfOk-weaker}
use Rattle.clap.specs.Words.{App, Shape, app_of, new_app, shape_of, with_subcommand}
use Rattle.clap.specs.Simple.{app_of_fields}
use Rattle.jls_cli.specs.SalvageWords.{bare_app, check_app, join_app, show_app, write_app}
use Rattle.jls_cli.proofs.salvage.command.command.Goals as goal

-- `version`
abbrev versioned : App → App
versioned a = record a { top = record a.top { has_version = true } }

-- `propagate_version(true)`
passed_on : App → App
passed_on a = record a { top = record a.top { propagate_version = true } }

-- `subcommand_required(true)`
abbrev must_name : App → App
must_name a = record a { top = record a.top { subcommand_required = true } }

-- a command more
one_more : (app after a : App) (sub s : Shape) → after ≡ with_subcommand app sub → app ≡ a → sub ≡ s → after ≡ with_subcommand a s
one_more app after a sub s f d e = f ∙ (ap (λ (x : App). with_subcommand x sub) d ∙ ap (with_subcommand a) e)

abbrev top_of : App → Shape
top_of a = a.top

pub returns : goal.returns
unfolding passed_on
returns c =
    let named : app_of c.version.result ≡ versioned (new_app (codes "jls-salvage")) = ap app_of_fields c.version.ensures
    ∙ ap versioned c.bare-bare.ensures.app in
    let telling : app_of c.propagate_version-versioned.result ≡ passed_on (versioned (new_app (codes "jls-salvage"))) =
    ap app_of_fields c.propagate_version-versioned.ensures ∙ ap passed_on named in
    let bare : app_of c.subcommand_required-salvage.result ≡ bare_app = ap app_of_fields c.subcommand_required-salvage.ensures
    ∙ ap must_name telling in
    let check : shape_of c.in_ok-check_command.field-0 ≡ check_app.top = ap top_of c.in_ok-check_command.ensures.app in
    let show : shape_of c.in_ok-show_command.field-0 ≡ show_app.top = ap top_of c.in_ok-show_command.ensures.app in
    let join : shape_of c.in_ok-join_command.field-0 ≡ join_app.top = ap top_of c.in_ok-join_command.ensures.app in
    let write : shape_of c.in_ok-write_command.field-0 ≡ write_app.top = ap top_of c.in_ok-write_command.ensures.app in
    let checks = one_more _ _ _ _ _ (c.in_ok-checks.ensures.shape c.in_ok-check_command.ensures.local) bare check in
    let shows = one_more _ _ _ _ _ (c.in_ok-shows.ensures.shape c.in_ok-show_command.ensures.local) checks show in
    let joins = one_more _ _ _ _ _ (c.in_ok-joins.ensures.shape c.in_ok-join_command.ensures.local) shows join in
    IfOk-weaker c.subcommand-4.result _ _ (λ r added. one_more _ _ _ _ _ (added.shape c.in_ok-write_command.ensures.local) joins write)
    c.subcommand-4.ensures
