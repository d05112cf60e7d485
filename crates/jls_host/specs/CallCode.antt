-- How the checker's logic stores calls, which a ghost field of that type asks for.
use Rattle.std.specs.Prelude.{◌≡◌, ◌⊎◌, ℕ, List, refl}
use Rattle.std.specs.Coded.{Coded, code_by, coded×, coded⊎, coded_ℕ, coded_list, coded_bool}
use Rattle.std.proofs.Common.{inl, inr}
use Rattle.jls_host.specs.Disk.{Act, Call, asks_plain, asks_partial, asks_input, looks, asks_one, asks_equal, makes, empties, links}
use Rattle.jls_host.specs.Disk.{copies, writes, syncs, renames, removes}

-- one name; two names; a text and a number
abbrev Text : Type 0
Text = List ℕ

abbrev OneName : Type 0
OneName = (Text ⊎ Text) ⊎ (Text ⊎ (Text ⊎ Text))

abbrev TwoNames : Type 0
TwoNames = ((Text × Text) ⊎ (Text × Text)) ⊎ ((Text × Text) ⊎ (Text × Text))

abbrev WithNumber : Type 0
WithNumber = ((Text × ℕ) ⊎ (Text × ℕ)) ⊎ ((Text × ℕ) ⊎ ((Text × ℕ) ⊎ ℕ))

abbrev Stored : Type 0
Stored = OneName ⊎ (TwoNames ⊎ WithNumber)

abbrev stored : Act → Stored
stored (asks_plain name) = inl (inl (inl name))
stored (asks_partial name) = inl (inl (inr name))
stored (asks_input name) = inl (inr (inl name))
stored (looks name) = inl (inr (inr (inl name)))
stored (removes name) = inl (inr (inr (inr name)))
stored (asks_one name other) = inr (inl (inl (inl (name, other))))
stored (asks_equal name other) = inr (inl (inl (inr (name, other))))
stored (links name second) = inr (inl (inr (inl (name, second))))
stored (renames name second) = inr (inl (inr (inr (name, second))))
stored (makes name i) = inr (inr (inl (inl (name, i))))
stored (empties name i) = inr (inr (inl (inr (name, i))))
stored (copies name i) = inr (inr (inr (inl (name, i))))
stored (writes i bytes) = inr (inr (inr (inr (inl (bytes, i)))))
stored (syncs i) = inr (inr (inr (inr (inr i))))

abbrev restored : Stored → Act
restored (inl (inl (inl name))) = asks_plain name
restored (inl (inl (inr name))) = asks_partial name
restored (inl (inr (inl name))) = asks_input name
restored (inl (inr (inr (inl name)))) = looks name
restored (inl (inr (inr (inr name)))) = removes name
restored (inr (inl (inl (inl (name, other))))) = asks_one name other
restored (inr (inl (inl (inr (name, other))))) = asks_equal name other
restored (inr (inl (inr (inl (name, second))))) = links name second
restored (inr (inl (inr (inr (name, second))))) = renames name second
restored (inr (inr (inl (inl (name, i))))) = makes name i
restored (inr (inr (inl (inr (name, i))))) = empties name i
restored (inr (inr (inr (inl (name, i))))) = copies name i
restored (inr (inr (inr (inr (inl (bytes, i)))))) = writes i bytes
restored (inr (inr (inr (inr (inr i))))) = syncs i

-- an act is restored from what is stored of it
pub restored_again : (a : Act) → restored (stored a) ≡ a
restored_again (asks_plain name) = refl
restored_again (asks_partial name) = refl
restored_again (asks_input name) = refl
restored_again (looks name) = refl
restored_again (removes name) = refl
restored_again (asks_one name other) = refl
restored_again (asks_equal name other) = refl
restored_again (links name second) = refl
restored_again (renames name second) = refl
restored_again (makes name i) = refl
restored_again (empties name i) = refl
restored_again (copies name i) = refl
restored_again (writes i bytes) = refl
restored_again (syncs i) = refl

abbrev coded_text : Coded Text
coded_text = coded_list coded_ℕ

abbrev coded_two : Coded (Text × Text)
coded_two = coded× coded_text coded_text

abbrev coded_with : Coded (Text × ℕ)
coded_with = coded× coded_text coded_ℕ

abbrev coded_one_name : Coded OneName
coded_one_name = coded⊎ (coded⊎ coded_text coded_text) (coded⊎ coded_text (coded⊎ coded_text coded_text))

abbrev coded_two_names : Coded TwoNames
coded_two_names = coded⊎ (coded⊎ coded_two coded_two) (coded⊎ coded_two coded_two)

abbrev coded_with_number : Coded WithNumber
coded_with_number = coded⊎ (coded⊎ coded_with coded_with) (coded⊎ coded_with (coded⊎ coded_with coded_ℕ))

-- how an act is stored
abbrev pub coded_act : Coded Act
coded_act = code_by Stored (coded⊎ coded_one_name (coded⊎ coded_two_names coded_with_number)) stored restored restored_again

-- how calls are stored
abbrev pub coded_calls : Coded (List Call)
coded_calls = coded_list (coded× coded_act coded_bool)
