-- Edits of six bytes, and which bytes they leave to the copy, by hand.
use Rattle.std.proofs.Common.{◌≡◌, ℕ, true, false, List, [], ◌∷◌, refl, arith}
use Rattle.jls_held.specs.Edits.{Edit, edited, AreRefilled, held_by_either}

abbrev copy : List ℕ
copy = 10 ∷ 20 ∷ 30 ∷ 40 ∷ 50 ∷ 60 ∷ []

-- in place of 20 and 30 stand three bytes, and before 60 stands one more
abbrev two_edits : List ℕ → List ℕ → List Edit
two_edits xs ys = record { offset = 1; count = 2; bytes = xs } ∷ record { offset = 5; count = 0; bytes = ys } ∷ []

replaced_and_added : edited 0 copy (two_edits (7 ∷ 8 ∷ 9 ∷ []) (1 ∷ [])) ≡ record {
  bytes = 10 ∷ 7 ∷ 8 ∷ 9 ∷ 40 ∷ 50 ∷ 1 ∷ 60 ∷ [];
  held = true ∷ false ∷ false ∷ false ∷ true ∷ true ∷ false ∷ true ∷ [];
}
replaced_and_added = refl

-- bytes at both ends that do not belong there are taken out: all that is left is the copy's
taken_out : edited 0 copy (record { offset = 0; count = 1; bytes = [] } ∷ record { offset = 4; count = 2; bytes = [] } ∷ []) ≡ record {
  bytes = 20 ∷ 30 ∷ 40 ∷ [];
  held = true ∷ true ∷ true ∷ [];
}
taken_out = refl

without_edits : edited 0 (10 ∷ 20 ∷ []) [] ≡ record { bytes = 10 ∷ 20 ∷ []; held = true ∷ true ∷ [] }
without_edits = refl

-- an edit behind the copy's end adds what a cut took away
added_behind : edited 0 (10 ∷ []) (record { offset = 1; count = 0; bytes = 5 ∷ 6 ∷ [] } ∷ []) ≡ record {
  bytes = 10 ∷ 5 ∷ 6 ∷ [];
  held = true ∷ false ∷ false ∷ [];
}
added_behind = refl

refilled : AreRefilled (two_edits (7 ∷ 8 ∷ 9 ∷ []) (1 ∷ [])) (two_edits (0 ∷ 0 ∷ 0 ∷ []) (0 ∷ []))
refilled = (refl, refl, refl, (refl, refl, refl, tt))

-- with a byte less they are other edits
not_refilled : AreRefilled (two_edits (7 ∷ 8 ∷ 9 ∷ []) (1 ∷ [])) (two_edits (0 ∷ 0 ∷ []) (0 ∷ [])) → ⊥
not_refilled r = let e = r.2 in omega (arith, e)

-- what one of two copies has, also behind the other's end
of_two_copies : held_by_either (true ∷ false ∷ false ∷ []) (false ∷ false ∷ true ∷ true ∷ []) ≡ true ∷ false ∷ true ∷ true ∷ []
of_two_copies = refl
