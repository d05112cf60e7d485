-- A desk of one input, and what comes of its life, worked by hand.
use Rattle.std.proofs.Common.{◌≡◌, ℕ, List, [], ◌∷◌, Some, None, refl}
use Rattle.std.specs.Prelude.{codes}
use Rattle.jls_io.specs.Event.{Event, opened, not_opened, gave, created, not_created, took, write_failed}
use Rattle.jls_memory.specs.Desks.{history_of}
use Rattle.jls_memory.specs.Files.{File, bytes_named}
use Rattle.jls_memory.specs.Inputs.{ReadsComeFrom}
use Rattle.jls_memory.specs.Outputs.{outputs_of}

abbrev file : List ℕ → List ℕ → File
file name bytes = record { name = name; bytes = bytes }

abbrev inputs : List File
inputs = file (codes "1") (codes "abc") ∷ []

-- The input is read in three reads with room for two bytes. Another is not there. Two outputs are created, and a write fails. An output of
-- the first name is created again
abbrev life : List Event
life =
    opened (codes "1") ∷ gave 2 (codes "ab") ∷ gave 2 (codes "c") ∷ gave 2 [] ∷ not_opened (codes "2")
    ∷ created (codes "OUT") ∷ took (codes "x") ∷ took (codes "yz") ∷ created (codes "ALL") ∷ write_failed ∷ took (codes "w")
    ∷ not_created (codes "-") ∷ took (codes "v") ∷ created (codes "OUT") ∷ []

reads_are : ReadsComeFrom inputs life
reads_are = ([], (codes "abc", refl, (refl, (refl, (refl, (refl, refl))))))

outputs_are : outputs_of life ≡ file (codes "OUT") (codes "xyz") ∷ file (codes "ALL") (codes "wv") ∷ file (codes "OUT") [] ∷ []
outputs_are = refl

found : bytes_named (codes "ALL") (outputs_of life) ≡ Some (codes "wv")
found = refl

not_found : bytes_named (codes "A") (outputs_of life) ≡ None
not_found = refl

-- the event that stands for the inputs, and then the life
history_is : history_of (record { inputs = inputs; events = life }) ≡ took (1 ∷ 49 ∷ 3 ∷ 97 ∷ 98 ∷ 99 ∷ []) ∷ life
history_is = refl
