-- What a caller of clap reads of the rows of a command.
use Rattle.std.proofs.Common.{◌≡◌, ◌∙◌, ap, true, refl, List, Option, None, Some}
use Rattle.std.specs.Prelude.{codes, false, option_map, option_and_then}
use Rattle.std.specs.Str.{bytes_eq}
use Rattle.clap.specs.Words.{Row, Text, all_of, first_of}
use Rattle.clap.specs.Matches.{subcommand_name_of}
use Rattle.clap.specs.Simple.{subcommand_rows, subcommand_rows_of}
use Rattle.clap.specs.declared.parser.matches.ArgMatches.{ArgMatches}
use Rattle.clap.specs.declared.parser.matches.ArgMatches.TheViews.{out-ArgMatches}
use Rattle.jls_cli.specs.SalvageAsking.{Asked, asked_by, asked_check, asked_join, asked_show, asked_write, options_of}

-- the name and the rows, from both
both_parts : {X : Type 0} (name_of : X → Text) (rows_in : X → List Row) (o : Option X) (name : Text) (rows : List Row)
    → option_map name_of o ≡ Some name
    → option_map (λ (p : Text × List Row). p.1) (option_map {U = Text × List Row} (λ x. (name_of x, rows_in x)) o) ≡ Some rows
    → option_map {U = Text × List Row} (λ x. (name_of x, rows_in x)) o ≡ Some (name, rows)
both_parts name_of rows_in None name rows e h = absurd cc
both_parts name_of rows_in (Some x) name rows e h =
    let a : name_of x ≡ name = cc in
    let b : rows_in x ≡ rows = cc in
    (λ i. Some (a i, b i))

-- the subcommand that was entered, with its rows
pub entered_rows : (m : ArgMatches) (name : Text) (rows : List Row) → subcommand_name_of m ≡ Some name
    → option_map (λ p. p.1) (subcommand_rows (out-ArgMatches m).subcommand) ≡ Some rows → subcommand_rows_of m ≡ Some (name, rows)
entered_rows m name rows e h = both_parts _ _ (out-ArgMatches m).subcommand name rows e h

-- what a command asks for, by its name
module _ (name : Text) (rows : List Row) where
  pub asks_check : bytes_eq name (codes "check") ≡ true → asked_by name rows ≡ asked_check (first_of (codes "FILE") rows)
  asks_check e = rw e refl

  module _ (not_check : bytes_eq name (codes "check") ≡ false) where
    pub asks_join : bytes_eq name (codes "join") ≡ true
        → asked_by name rows ≡ asked_join (first_of (codes "source") rows) (first_of (codes "OUT") rows) (all_of (codes "FILE") rows)
    asks_join e = rw (not_check, e) refl

    module _ (not_join : bytes_eq name (codes "join") ≡ false) where
      pub asks_show : bytes_eq name (codes "show") ≡ true → asked_by name rows ≡ asked_show (first_of (codes "FILE") rows)
      asks_show e = rw (not_check, not_join, e) refl

      pub asks_write : bytes_eq name (codes "show") ≡ false → bytes_eq name (codes "write") ≡ true
          → asked_by name rows ≡ asked_write (first_of (codes "as") rows)
          (options_of (first_of (codes "ilv") rows) (first_of (codes "ri") rows)) (first_of (codes "OUT") rows)
          (first_of (codes "FILE") rows)
      asks_write d e = rw (not_check, not_join, d, e) refl

      pub asks_nothing : bytes_eq name (codes "show") ≡ false → bytes_eq name (codes "write") ≡ false → asked_by name rows ≡ None
      asks_nothing d e = rw (not_check, not_join, d, e) refl

-- and so what the words ask for
pub asked_entered : (m : ArgMatches) (name : Text) (rows : List Row) (a : Option Asked) → subcommand_rows_of m ≡ Some (name, rows)
    → asked_by name rows ≡ a
    → option_and_then (λ p. asked_by p.0 p.1) (subcommand_rows_of m) ≡ a
asked_entered m name rows a e is = ap (option_and_then (λ (p : Text × List Row). asked_by p.0 p.1)) e ∙ is
