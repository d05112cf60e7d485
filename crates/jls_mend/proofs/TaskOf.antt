-- What a run is asked for, over inputs that are copies and lists under their names.
use Rattle.std.proofs.Common.{◌≡◌, ℕ, ◌<◌, List, [], length, map, ap, ◌∙◌, subst, arith}
use Rattle.std.specs.Borrow.{Bor}
use Rattle.std.specs.Prelude.{Option, codes, position}
use Rattle.std.specs.Str.{bytes_eq}
use Rattle.std.specs.String.{string_bytes}
use Rattle.std.specs.declared.string.String.{String}
use Rattle.std.specs.declared.alloc.Global.{Global}
use Rattle.std.proofs.lemmas.List.{length-map}
use Rattle.jls_memory.specs.Files.{File}
use Rattle.jls_cli.specs.SpliceAsking.{Asked}
use Rattle.jls_splice_run.specs.Tasks.{texts_of}
use Rattle.jls_mend.specs.Asking.{AreMendable, BadPlaces, asked_for, inputs_of, inputs_with, names_in, values_of}
use Rattle.jls_mend.specs.Running.{IsRun}
use Rattle.jls_mend.specs.declared.asking.MendOptions.{MendOptions}
use Rattle.jls_mend.specs.declared.running.Ran.{Ran}
use Rattle.jls_mend.proofs.NamesOn.{position-map}
use Rattle.jls_mend.proofs.Numbers.{length_inputs}

-- strings that are shown, by slices of them
pub shown : (strings slice : List (String Global)) (texts shows : List (Bor (List ℕ))) (all : List (List ℕ)) → map string_bytes strings ≡ all
    → slice ≡ strings → texts_of texts ≡ map string_bytes slice → shows ≡ texts → texts_of shows ≡ all
shown strings slice texts shows all are same show also =
    ap texts_of also ∙ (show ∙ (ap (λ (ss : List (String Global)). map string_bytes ss) same ∙ are))

pub some_name : (copies : List (List ℕ)) (bad : List BadPlaces) (names : List (Bor (List ℕ))) → AreMendable copies bad
    → texts_of names ≡ names_in (inputs_of copies) → 0 < length names
some_name copies bad names can are =
    let some = can.some in
    let a = length-map names (λ (s : Bor (List ℕ)). s.now) in
    let b : length (texts_of names) ≡ length (names_in (inputs_of copies)) = ap length are in
    let c = length-map (inputs_of copies) (λ (f : File). f.name) in
    let d = length_inputs 1 copies in
    omega (arith, a, b, c, d, some)

-- so the run is of what the options ask for
pub is_run_of : (o : MendOptions) (copies : List (List ℕ)) (bad : List BadPlaces) (a : Asked) (fs : List File) (ran : Ran)
    → a.options ≡ (asked_for o [] []).options → a.out ≡ codes "OUT" → a.copies ≡ names_in (inputs_of copies) → a.bad ≡ values_of bad
    → a.witnesses ≡ [] → fs ≡ inputs_with copies bad → IsRun a fs ran → IsRun (asked_for o copies bad) (inputs_with copies bad) ran
is_run_of o copies bad a fs ran options out named values none inputs run =
    let asked : a ≡ asked_for o copies bad =
    λ i. record { options = options i; out = out i; copies = named i; bad = values i; witnesses = none i } in
    subst (λ (fs : List File). IsRun (asked_for o copies bad) fs ran) inputs (subst (λ (a : Asked). IsRun a fs ran) asked run)

-- the place of a name
pub place_is : (strings slice : List (String Global)) (names : List (List ℕ)) (name : List ℕ) (place : Option ℕ)
    → map string_bytes strings ≡ names → slice ≡ strings → place ≡ position (λ (s : String Global). bytes_eq (string_bytes s) name) slice
    → place ≡ position (λ (n : List ℕ). bytes_eq n name) names
place_is strings slice names name place are same e =
    e ∙ (ap (λ (ss : List (String Global)). position (λ (s : String Global). bytes_eq (string_bytes s) name) ss) same
    ∙ (position-map (λ (n : List ℕ). bytes_eq n name) string_bytes strings
    ∙ ap (λ (ns : List (List ℕ)). position (λ (n : List ℕ). bytes_eq n name) ns) are))
