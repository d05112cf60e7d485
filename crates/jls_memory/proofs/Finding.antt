-- The first of some files that has a name.
use Rattle.std.proofs.Common.{◌≡◌, ℕ, ◌+◌, ◌<◌, Bool, true, false, List, [], ◌∷◌, ◌++◌, Some, None, cond, drop, get_or, length, map}
use Rattle.std.proofs.Common.{option_map, take, refl, sym, ap, ◌∙◌}
use Rattle.std.specs.List.{find}
use Rattle.std.specs.Str.{bytes_eq}
use Rattle.std.proofs.lemmas.List.{drop_more, map-append, map_more, take-append-drop}
use Rattle.jls_memory.specs.Files.{File, bytes_named}
use Rattle.jls_memory.specs.Held.{input_file}
use Rattle.jls_memory.specs.declared.files.Input.{Input}

module _ (name : List ℕ) where
  -- a file of another name comes first
  other_first : (f : File) (files : List File) → bytes_eq f.name name ≡ false → bytes_named name (f ∷ files) ≡ bytes_named name files
  other_first f files e = ap (λ (b : Bool). option_map (λ f. f.bytes) (cond b (Some f) (find (λ f. bytes_eq f.name name) files))) e

  its_own : (f : File) (files : List File) → bytes_eq f.name name ≡ true → bytes_named name (f ∷ files) ≡ Some f.bytes
  its_own f files e = ap (λ (b : Bool). option_map (λ f. f.bytes) (cond b (Some f) (find (λ f. bytes_eq f.name name) files))) e

  none_is : (bytes : List ℕ) → Some bytes ≡ None → ⊥
  none_is bytes k = cc

  past_one : (f : File) (files more : List File) (b : Bool) → bytes_eq f.name name ≡ b → bytes_named name (f ∷ files) ≡ None
      → (bytes_named name files ≡ None → bytes_named name (files ++ more) ≡ bytes_named name more)
      → bytes_named name (f ∷ (files ++ more)) ≡ bytes_named name more
  past_one f files more true is e rest = absurd (none_is f.bytes (sym (its_own f files is) ∙ e))
  past_one f files more false is e rest = other_first f (files ++ more) is ∙ rest (sym (other_first f files is) ∙ e)

  -- after files of other names
  passed : (files more : List File) → bytes_named name files ≡ None → bytes_named name (files ++ more) ≡ bytes_named name more
  passed [] more e = refl
  passed (f ∷ files) more e = past_one f files more (bytes_eq f.name name) refl e (passed files more)

  module _ (inputs : List Input) (i : ℕ) (d : Input) (within : i < length inputs)
      (none : bytes_named name (map input_file (take i inputs)) ≡ None) where
    abbrev here : File
    here = input_file (get_or inputs i d)

    pub found_here : bytes_eq here.name name ≡ true → Some here.bytes ≡ bytes_named name (map input_file inputs)
    found_here e =
        sym (
        ap (λ (xs : List Input). bytes_named name (map input_file xs))
        (sym (take-append-drop i inputs) ∙ ap (λ (xs : List Input). take i inputs ++ xs) (drop_more inputs i d within))
        ∙ (ap (bytes_named name) (map-append input_file (take i inputs) (get_or inputs i d ∷ drop (i + 1) inputs))
        ∙ (passed (map input_file (take i inputs)) (here ∷ map input_file (drop (i + 1) inputs)) none
        ∙ its_own here (map input_file (drop (i + 1) inputs)) e)))

    pub not_here : bytes_eq here.name name ≡ false → bytes_named name (map input_file (take (i + 1) inputs)) ≡ None
    not_here e =
        ap (bytes_named name) (map_more input_file inputs i d within)
        ∙ (passed (map input_file (take i inputs)) (here ∷ []) none ∙ other_first here [] e)
