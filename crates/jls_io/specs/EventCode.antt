-- How the checker's logic stores a history, which a ghost field of that type asks for: each event as a case of a sum.
use Rattle.std.specs.Prelude.{◌≡◌, ◌⊎◌, ℕ, List, refl}
use Rattle.std.specs.Coded.{Coded, code_by, coded×, coded⊎, coded_ℕ, coded_list, coded_bool}
use Rattle.std.proofs.Common.{inl, inr, Bool, true, false}
use Rattle.jls_io.specs.Event.{Event, History, opened, not_opened, gave, read_failed, created, not_created, took, write_failed}

-- a name or bytes; then room and bytes; then one of two failures
abbrev StoredTexts : Type 0
StoredTexts = (List ℕ ⊎ List ℕ) ⊎ ((List ℕ ⊎ List ℕ) ⊎ List ℕ)

abbrev Stored : Type 0
Stored = StoredTexts ⊎ ((ℕ × List ℕ) ⊎ Bool)

abbrev stored : Event → Stored
stored (opened name) = inl (inl (inl name))
stored (not_opened name) = inl (inl (inr name))
stored (created name) = inl (inr (inl (inl name)))
stored (not_created name) = inl (inr (inl (inr name)))
stored (took bytes) = inl (inr (inr bytes))
stored (gave room bytes) = inr (inl (room, bytes))
stored read_failed = inr (inr true)
stored write_failed = inr (inr false)

abbrev restored : Stored → Event
restored (inl (inl (inl name))) = opened name
restored (inl (inl (inr name))) = not_opened name
restored (inl (inr (inl (inl name)))) = created name
restored (inl (inr (inl (inr name)))) = not_created name
restored (inl (inr (inr bytes))) = took bytes
restored (inr (inl (room, bytes))) = gave room bytes
restored (inr (inr true)) = read_failed
restored (inr (inr false)) = write_failed

-- an event is restored from what is stored of it
pub restored_again : (e : Event) → restored (stored e) ≡ e
restored_again (opened name) = refl
restored_again (not_opened name) = refl
restored_again (gave room bytes) = refl
restored_again read_failed = refl
restored_again (created name) = refl
restored_again (not_created name) = refl
restored_again (took bytes) = refl
restored_again write_failed = refl

abbrev coded_text : Coded (List ℕ)
coded_text = coded_list coded_ℕ

abbrev coded_texts : Coded StoredTexts
coded_texts = coded⊎ (coded⊎ coded_text coded_text) (coded⊎ (coded⊎ coded_text coded_text) coded_text)

-- how an event is stored
abbrev pub coded_event : Coded Event
coded_event = code_by Stored (coded⊎ coded_texts (coded⊎ (coded× coded_ℕ coded_text) coded_bool)) stored restored restored_again

-- how a history is stored
abbrev pub coded_history : Coded History
coded_history = coded_list coded_event
