-- Lists of bad places of two copies, worked by hand.
use Rattle.std.proofs.Common.{◌≡◌, false, List, [], ◌∷◌, Some, None, map, refl}
use Rattle.std.specs.Prelude.{codes}
use Rattle.clap.proofs.OnLiterals.{clap_on_literals}
use Rattle.jls_bad.specs.Known.{Copy}
use Rattle.jls_bad.specs.declared.place.Place.{Place}
use Rattle.jls_cli.specs.BadValues.{BadList, bad_list_of}
use Rattle.jls_cli.specs.SpliceAsking.{Asked}
use Rattle.jls_splice_run.specs.BadLists.{copies_with, list_names, places_for}
use Rattle.jls_splice_run.specs.Runs.{bad_value_among}

-- what values say
number_and_name : bad_list_of (codes "12:a:b") ≡ Some (record { copy = 12; name = codes "a:b" })
unfolding clap_on_literals
number_and_name = refl

no_number : bad_list_of (codes "x:a") ≡ None
unfolding clap_on_literals
no_number = refl

number_0 : bad_list_of (codes "0:a") ≡ None
unfolding clap_on_literals
number_0 = refl

no_colon : bad_list_of (codes "1") ≡ None
no_colon = refl

names : list_names (codes "2:m" ∷ codes "m" ∷ codes "1:n" ∷ []) ≡ codes "m" ∷ codes "n" ∷ []
unfolding clap_on_literals
names = refl

-- one list of the first copy, and two of the second
abbrev lists : List BadList
lists = record { copy = 2; name = codes "m" } ∷ record { copy = 1; name = codes "n" } ∷ record { copy = 2; name = codes "o" } ∷ []

abbrev fifth : Place
fifth = record { offset = 5; length = 1 }

abbrev seventh : Place
seventh = record { offset = 7; length = 1 }

abbrev ninth : Place
ninth = record { offset = 9; length = 2 }

abbrev places : List (List Place)
places = (fifth ∷ []) ∷ (ninth ∷ []) ∷ (seventh ∷ []) ∷ []

of_the_third : places_for 3 lists places ≡ []
of_the_third = refl

of_both : copies_with lists places ((10 ∷ []) ∷ (20 ∷ 21 ∷ []) ∷ [])
    ≡ record { bytes = 10 ∷ []; places = ninth ∷ [] } ∷ record { bytes = 20 ∷ 21 ∷ []; places = fifth ∷ seventh ∷ [] } ∷ []
of_both = refl

-- two copies, where OUT, the mended file and files with numbers are asked for
abbrev asked : Asked
asked = record {
  options = record { source = None; tries = 4096; ceiling = None; progress = false; file = Some (codes "f"); files = Some (codes "n") };
  out = codes "o";
  copies = codes "a" ∷ codes "b" ∷ [];
  bad = [];
  witnesses = [];
}

all_are_lists : bad_value_among asked (codes "2:m" ∷ codes "1:n" ∷ codes "1:n1" ∷ []) ≡ None
unfolding clap_on_literals
all_are_lists = refl

of_a_third_copy : bad_value_among asked (codes "2:m" ∷ codes "3:l" ∷ codes "x" ∷ []) ≡ Some (codes "3:l")
unfolding clap_on_literals
of_a_third_copy = refl

under_taken_names : map (λ value. bad_value_among asked (value ∷ [])) (codes "1:o" ∷ codes "1:f" ∷ codes "1:n-2" ∷ codes "1:-" ∷ [])
    ≡ Some (codes "1:o") ∷ Some (codes "1:f") ∷ Some (codes "1:n-2") ∷ Some (codes "1:-") ∷ []
unfolding clap_on_literals
under_taken_names = refl
