-- Words that clap reads, and words that it refuses: the premises of the theorems on `run` hold of them.
use Rattle.std.proofs.Common.{◌≡◌, ℕ, true, false, List, [], ◌∷◌, ◌++◌, Some, None, refl}
use Rattle.std.specs.Prelude.{codes}
use Rattle.clap.specs.Words.{Text, Kinds, fault_of}
use Rattle.clap.specs.declared.error.kind.ErrorKind.TheVariants as kind
use Rattle.clap.proofs.OnLiterals.{clap_on_literals}
use Rattle.jls_cli.specs.SpliceAsking.{Asked, AskFor, AskForNothing, Options}
use Rattle.jls_cli.specs.SpliceWords.{splice_app}

-- `jls-splice WORDS.. OUT A B`
abbrev with_words : List Text → List Text
with_words words = codes "jls-splice" ∷ (words ++ codes "OUT" ∷ codes "A" ∷ codes "B" ∷ [])

-- these options, OUT, and the copies A and B
abbrev two_copies : Options → Asked
two_copies options = record { options = options; out = codes "OUT"; copies = codes "A" ∷ codes "B" ∷ []; bad = []; witnesses = [] }

-- 4096 tries, where there is no option
abbrev default : Options
default = record { source = None; tries = 4096; ceiling = None; progress = false; file = None; files = None }

no_option-asked : AskFor (with_words []) (two_copies default)
unfolding clap_on_literals
no_option-asked = record { taken = refl; asks = refl }

-- `jls-splice - A B C`
three_copies-asked : AskFor (codes "jls-splice" ∷ codes "-" ∷ codes "A" ∷ codes "B" ∷ codes "C" ∷ [])
    (record { options = default; out = codes "-"; copies = codes "A" ∷ codes "B" ∷ codes "C" ∷ []; bad = []; witnesses = [] })
unfolding clap_on_literals
three_copies-asked = record { taken = refl; asks = refl }

-- `jls-splice --tries 4294967295 OUT A B`
most_tries-asked : AskFor (with_words (codes "--tries" ∷ codes "4294967295" ∷ [])) (two_copies (record default { tries = 4294967295 }))
unfolding clap_on_literals
most_tries-asked = record { taken = refl; asks = refl }

-- `jls-splice --max N OUT A B`
abbrev AsksForCeiling : Text → ℕ → Type 0
AsksForCeiling text n = AskFor (with_words (codes "--max" ∷ text ∷ [])) (two_copies (record default { ceiling = Some n }))

ceilings-asked : AsksForCeiling (codes "4095") 4095 × AsksForCeiling (codes "0") 0 × AsksForCeiling (codes "65535") 65535
unfolding clap_on_literals
ceilings-asked =
    (record { taken = refl; asks = refl }, record { taken = refl; asks = refl }, record { taken = refl; asks = refl })

-- all options
all_options-asked : AskFor
    (with_words (codes "--source" ∷ codes "7" ∷ codes "--progress" ∷ codes "--file" ∷ codes "M" ∷ codes "--files" ∷ codes "P"
    ∷ codes "--tries=1" ∷ codes "--max=255" ∷ []))
    (two_copies (record {
      source = Some 7;
      tries = 1;
      ceiling = Some 255;
      progress = true;
      file = Some (codes "M");
      files = Some (codes "P");
    }))
unfolding clap_on_literals
all_options-asked = record { taken = refl; asks = refl }

-- `jls-splice --bad 1:L --bad 1:M OUT A`: one copy, with two lists of its bad places
one_copy_and_lists-asked : AskFor
    (codes "jls-splice" ∷ codes "--bad" ∷ codes "1:L" ∷ codes "--bad" ∷ codes "1:M" ∷ codes "OUT" ∷ codes "A" ∷ [])
    (record { options = default; out = codes "OUT"; copies = codes "A" ∷ []; bad = codes "1:L" ∷ codes "1:M" ∷ []; witnesses = [] })
unfolding clap_on_literals
one_copy_and_lists-asked = record { taken = refl; asks = refl }

-- `jls-splice --bad=2:L OUT A --bad 1:M B`: the values are in the order of the words, and may stand among the copies
lists_among_copies-asked : AskFor
    (codes "jls-splice" ∷ codes "--bad=2:L" ∷ codes "OUT" ∷ codes "A" ∷ codes "--bad" ∷ codes "1:M" ∷ codes "B" ∷ [])
    (record (two_copies default) { bad = codes "2:L" ∷ codes "1:M" ∷ [] })
unfolding clap_on_literals
lists_among_copies-asked = record { taken = refl; asks = refl }

-- `jls-splice --bad x OUT A`: clap takes any value, and what it names is judged later
any_list-asked : AskFor (codes "jls-splice" ∷ codes "--bad" ∷ codes "x" ∷ codes "OUT" ∷ codes "A" ∷ [])
    (record { options = default; out = codes "OUT"; copies = codes "A" ∷ []; bad = codes "x" ∷ []; witnesses = [] })
unfolding clap_on_literals
any_list-asked = record { taken = refl; asks = refl }

-- `jls-splice OUT A --witness W --witness=V`: one copy, and two witnesses
one_copy_and_witnesses-asked : AskFor
    (codes "jls-splice" ∷ codes "OUT" ∷ codes "A" ∷ codes "--witness" ∷ codes "W" ∷ codes "--witness=V" ∷ [])
    (record { options = default; out = codes "OUT"; copies = codes "A" ∷ []; bad = []; witnesses = codes "W" ∷ codes "V" ∷ [] })
unfolding clap_on_literals
one_copy_and_witnesses-asked = record { taken = refl; asks = refl }

-- `jls-splice OUT A`: one copy alone, no list of its bad places, and no witness
one_copy-nothing_asked : AskForNothing (codes "jls-splice" ∷ codes "OUT" ∷ codes "A" ∷ [])
unfolding clap_on_literals
one_copy-nothing_asked = record { taken = refl; asks = refl }

-- clap finds these faults alone
abbrev finds : List Text → Kinds → Type 0
finds words kinds = fault_of splice_app words ≡ kinds

-- `jls-splice --tries 0 OUT A B`
no_tries-refused : finds (with_words (codes "--tries" ∷ codes "0" ∷ [])) (kind.ValueValidation ∷ [])
unfolding clap_on_literals
no_tries-refused = refl

-- `jls-splice --tries 4294967296 OUT A B`
too_many_tries-refused : finds (with_words (codes "--tries" ∷ codes "4294967296" ∷ [])) (kind.ValueValidation ∷ [])
unfolding clap_on_literals
too_many_tries-refused = refl

-- `jls-splice --max 65536 OUT A B`
too_large_ceiling-refused : finds (with_words (codes "--max" ∷ codes "65536" ∷ [])) (kind.ValueValidation ∷ [])
unfolding clap_on_literals
too_large_ceiling-refused = refl

-- `jls-splice --max x OUT A B`
no_number-refused : finds (with_words (codes "--max" ∷ codes "x" ∷ [])) (kind.ValueValidation ∷ [])
unfolding clap_on_literals
no_number-refused = refl

-- `jls-splice --max 1 --max 2 OUT A B`
two_ceilings-refused : finds (with_words (codes "--max" ∷ codes "1" ∷ codes "--max" ∷ codes "2" ∷ [])) (kind.ArgumentConflict ∷ [])
unfolding clap_on_literals
two_ceilings-refused = refl

-- `jls-splice --bad 1:L OUT`
no_copy-refused : finds (codes "jls-splice" ∷ codes "--bad" ∷ codes "1:L" ∷ codes "OUT" ∷ []) (kind.MissingRequiredArgument ∷ [])
unfolding clap_on_literals
no_copy-refused = refl

-- `jls-splice OUT A --bad`: a value is wanted
no_list-refused : finds (codes "jls-splice" ∷ codes "OUT" ∷ codes "A" ∷ codes "--bad" ∷ []) (kind.InvalidValue ∷ [])
unfolding clap_on_literals
no_list-refused = refl

-- `jls-splice`
no_word-refused : finds (codes "jls-splice" ∷ []) (kind.MissingRequiredArgument ∷ [])
unfolding clap_on_literals
no_word-refused = refl

-- `jls-splice --best OUT A B`: there is no such option
other_option-refused : finds (with_words (codes "--best" ∷ [])) (kind.UnknownArgument ∷ [])
unfolding clap_on_literals
other_option-refused = refl

-- `jls-splice --help`
help-refused : finds (codes "jls-splice" ∷ codes "--help" ∷ []) (kind.DisplayHelp ∷ [])
unfolding clap_on_literals
help-refused = refl
