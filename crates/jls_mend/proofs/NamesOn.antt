-- Names and inputs, one after the other.
use Rattle.std.proofs.Common.{◌≡◌, ℕ, ◌+◌, ◌<◌, Bool, List, [], ◌∷◌, ◌++◌, Some, None, cond, get_or, length, map, take, refl, sym, ap, ◌∙◌}
use Rattle.std.proofs.Common.{arith, not}
use Rattle.std.specs.Borrow.{Bor}
use Rattle.std.specs.Prelude.{decimal, nat_lt, position}
use Rattle.std.specs.List.{prefix_len}
use Rattle.std.specs.String.{string_bytes}
use Rattle.std.specs.declared.string.String.{String}
use Rattle.std.specs.declared.alloc.Global.{Global}
use Rattle.std.proofs.lemmas.List.{length-map, map_push, get_or-map}
use Rattle.jls_memory.specs.Files.{File}
use Rattle.jls_memory.specs.Held.{input_file}
use Rattle.jls_memory.specs.declared.files.Input.{Input}
use Rattle.jls_mend.specs.Asking.{inputs_from, inputs_of, names_in}
use Rattle.jls_mend.proofs.Numbers.{inputs_more, length_inputs, name_at, names_more}

abbrev pub given : List (Bor (List ℕ)) → List (List ℕ)
given copies = map (λ (copy : Bor (List ℕ)). copy.now) copies

module _ (copies : List (Bor (List ℕ))) (i : ℕ) (within : i < length copies) where
  there : i < length (given copies)
  there = let n = length-map copies (λ (copy : Bor (List ℕ)). copy.now) in omega (arith, n, within)

  pub number_more : (names : List (String Global)) (name : String Global)
      → map string_bytes names ≡ names_in (inputs_from 1 (take i (given copies))) → string_bytes name ≡ decimal (i + 1)
      → map string_bytes (names ++ name ∷ []) ≡ names_in (inputs_from 1 (take (i + 1) (given copies)))
  number_more names name so_far is =
      map_push string_bytes names name
      ∙ (ap (λ (ns : List (List ℕ)). ns ++ string_bytes name ∷ []) so_far
      ∙ (ap (λ (n : List ℕ). names_in (inputs_from 1 (take i (given copies))) ++ n ∷ []) is
      ∙ sym (names_more (given copies) i there)))

  pub input_more : (inputs : List Input) (input : Input)
      → map input_file inputs ≡ inputs_from 1 (take i (given copies)) → input.name.now ≡ decimal (1 + i)
      → input.bytes.now ≡ get_or (given copies) i []
      → map input_file (inputs ++ input ∷ []) ≡ inputs_from 1 (take (i + 1) (given copies))
  input_more inputs input so_far named holds =
      map_push input_file inputs input
      ∙ (ap (λ (fs : List File). fs ++ input_file input ∷ []) so_far
      ∙ (ap (λ (n : List ℕ). inputs_from 1 (take i (given copies)) ++ record { name = n; bytes = input.bytes.now } ∷ []) named
      ∙ (ap (λ (b : List ℕ). inputs_from 1 (take i (given copies)) ++ record { name = decimal (1 + i); bytes = b } ∷ []) holds
      ∙ sym (inputs_more 1 (given copies) i there))))

  module _ (names : List (String Global)) (are : map string_bytes names ≡ names_in (inputs_of (given copies))) where
    pub in_names : i < length names
    in_names =
        let a = length-map names string_bytes in
        let b : length (map string_bytes names) ≡ length (names_in (inputs_of (given copies))) = ap length are in
        let c = length-map (inputs_of (given copies)) (λ (f : File). f.name) in
        let d = length_inputs 1 (given copies) in
        omega (arith, a, b, c, d, there)

    pub named_there : (d : String Global) → string_bytes (get_or names i d) ≡ decimal (1 + i)
    named_there d =
        sym (get_or-map string_bytes names i d [] in_names)
        ∙ (ap (λ (ns : List (List ℕ)). get_or ns i []) are ∙ name_at 1 (given copies) i there)

    pub held_there : (d : Bor (List ℕ)) → (get_or copies i d).now ≡ get_or (given copies) i []
    held_there d = sym (get_or-map (λ (copy : Bor (List ℕ)). copy.now) copies i d [] within)

-- ---- a place in a list that is mapped

prefix_len-map : {X Y : Type 0} (p : Y → Bool) (f : X → Y) (xs : List X) → prefix_len p (map f xs) ≡ prefix_len (λ x. p (f x)) xs
prefix_len-map p f [] = refl
prefix_len-map p f (x ∷ xs) = ap (λ (n : ℕ). cond (p (f x)) (1 + n) 0) (prefix_len-map p f xs)

pub position-map : {X Y : Type 0} (p : Y → Bool) (f : X → Y) (xs : List X) → position (λ x. p (f x)) xs ≡ position p (map f xs)
position-map p f xs =
    sym (
    ap (λ (n : ℕ). cond (nat_lt n (length (map f xs))) (Some n) None) (prefix_len-map (λ y. not (p y)) f xs)
    ∙ ap (λ (n : ℕ). cond (nat_lt (prefix_len (λ x. not (p (f x))) xs) n) (Some (prefix_len (λ x. not (p (f x))) xs)) None)
    (length-map xs f))
