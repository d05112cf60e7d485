-- Words that ask for what a mending of two copies asks for, as clap reads them: the premise of `IsOfRun` holds of them.
use Rattle.std.proofs.Common.{◌≡◌, ℕ, true, false, List, [], ◌∷◌, Some, None, refl, subst, sym, lit<}
use Rattle.std.specs.Prelude.{codes, decimal}
use Rattle.std.proofs.lemmas.Fmt.{decimal-digits_of}
use Rattle.clap.specs.Words.{Text}
use Rattle.clap.proofs.OnLiterals.{clap_on_literals}
use Rattle.jls_cli.specs.SpliceAsking.{AskFor}
use Rattle.jls_mend.specs.Asking.{asked_for}

d1 : decimal 1 ≡ codes "1"
d1 = decimal-digits_of 1 (lit< tt) (lit< tt)

d2 : decimal 2 ≡ codes "2"
d2 = decimal-digits_of 2 (lit< tt) (lit< tt)

names_are : codes "1" ∷ codes "2" ∷ [] ≡ decimal 1 ∷ decimal 2 ∷ []
names_are = λ i. sym d1 i ∷ sym d2 i ∷ []

-- `jls-splice --file FILE --files ALL --source 7 --tries 40 --max 255 OUT 1 2`
abbrev all_options : List Text
all_options =
    codes "jls-splice" ∷ codes "--file" ∷ codes "FILE" ∷ codes "--files" ∷ codes "ALL" ∷ codes "--source" ∷ codes "7"
    ∷ codes "--tries" ∷ codes "40" ∷ codes "--max" ∷ codes "255" ∷ codes "OUT" ∷ codes "1" ∷ codes "2" ∷ []

all_asked : (first second : List ℕ)
    → AskFor all_options (asked_for (record { source = Some 7; tries = 40; ceiling = Some 255; files = true }) (first ∷ second ∷ []) [])
unfolding clap_on_literals
all_asked first second =
    subst (λ (names : List Text). AskFor all_options (record {
      options = record {
        source = Some 7;
        tries = 40;
        ceiling = Some 255;
        progress = false;
        file = Some (codes "FILE");
        files = Some (codes "ALL");
      };
      out = codes "OUT";
      copies = names;
      bad = [];
      witnesses = [];
    })) names_are (record { taken = refl; asks = refl })

-- `jls-splice --file FILE --tries 4096 OUT 1 2`
abbrev file_alone : List Text
file_alone =
    codes "jls-splice" ∷ codes "--file" ∷ codes "FILE" ∷ codes "--tries" ∷ codes "4096" ∷ codes "OUT" ∷ codes "1" ∷ codes "2" ∷ []

file_asked : (first second : List ℕ)
    → AskFor file_alone (asked_for (record { source = None; tries = 4096; ceiling = None; files = false }) (first ∷ second ∷ []) [])
unfolding clap_on_literals
file_asked first second =
    subst (λ (names : List Text). AskFor file_alone (record {
      options = record {
        source = None;
        tries = 4096;
        ceiling = None;
        progress = false;
        file = Some (codes "FILE");
        files = None;
      };
      out = codes "OUT";
      copies = names;
      bad = [];
      witnesses = [];
    })) names_are (record { taken = refl; asks = refl })
