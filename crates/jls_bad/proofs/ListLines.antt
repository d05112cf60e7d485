-- Lines of a list that are read one by one.
use Rattle.std.proofs.Common.{◌≡◌, ◌==◌, ℕ, ◌+◌, ◌<◌, ◌∙◌, true, false, cond, ltb, zero, suc, Bool, ◌&&◌, List, [], ◌∷◌, ◌++◌, length, get_or, map, take, Some, None, refl, sym, ap, arith, below_more, Bor}
use Rattle.std.specs.List.{slice_split, filter_map, list_all, position_or_len}
use Rattle.std.proofs.lemmas.List.{take_more, take_all, length-map, get_or-map}
use Rattle.std.proofs.lemmas.List.Elements.{filter_map-append}
use Rattle.std.proofs.lemmas.List.Sums.{position_or_len_is}
use Rattle.std.proofs.lemmas.List.Folds.{list_all-append}
use Rattle.std.proofs.lemmas.Bool.Decides.{nat_tests}
use Rattle.std.proofs.Math.Bool.{and-true, and_assoc}
use Rattle.jls_bad.specs.ListText.{lines, meanings, meanings_of, meaning, words, is_empty, is_fault, named_place, AreNamed, IsFirstFault}
use Rattle.jls_bad.specs.declared.place.Place.{Place}
use Rattle.jls_bad.specs.declared.lines.Line.{Line}
use Rattle.jls_bad.specs.declared.lines.Line.TheVariants.{Bad, Nothing, Fault}

-- words that are neither none nor two nor three
pub fault_by_length : (is_first : Bool) (words : List (List ℕ)) → (length words ≡ 0 → ⊥) → (length words ≡ 2 → ⊥) → (length words ≡ 3 → ⊥) → Fault ≡ meaning is_first words
fault_by_length is_first [] none two three = absurd (none refl)
fault_by_length is_first (a ∷ []) none two three = refl
fault_by_length is_first (a ∷ b ∷ []) none two three = absurd (two refl)
fault_by_length is_first (a ∷ b ∷ c ∷ []) none two three = absurd (three refl)
fault_by_length is_first (a ∷ b ∷ c ∷ d ∷ more) none two three = refl

-- so many lines are understood, and these are the places that they name
pub record AreRead (text : List ℕ) (found : List Place) (at : ℕ) : Type 0 where
  pub named : found ≡ filter_map named_place (take at (meanings text))
  pub understood : (k : ℕ) → k < at → is_fault (get_or (meanings text) k Fault) ≡ false

pub none_read : (text : List ℕ) → AreRead text [] 0
none_read text = record { named = refl; understood = λ k h. absurd (omega (arith, h)) }

named_more : (text : List ℕ) (at : ℕ) → at < length (meanings text)
    → filter_map named_place (take (at + 1) (meanings text)) ≡ filter_map named_place (take at (meanings text)) ++ filter_map named_place (get_or (meanings text) at Fault ∷ [])
named_more text at h =
    ap (filter_map named_place) (take_more (meanings text) at Fault h) ∙ filter_map-append named_place (take at (meanings text)) (get_or (meanings text) at Fault ∷ [])

understood_more : (text : List ℕ) (at : ℕ) (said : Line) → get_or (meanings text) at Fault ≡ said → is_fault said ≡ false → ((k : ℕ) → k < at → is_fault (get_or (meanings text) k Fault) ≡ false)
    → (k : ℕ) → k < at + 1 → is_fault (get_or (meanings text) k Fault) ≡ false
understood_more text at said e well before = below_more (λ k. is_fault (get_or (meanings text) k Fault) ≡ false) at before (ap is_fault e ∙ well)

pub place_read : (text : List ℕ) (found : List Place) (at : ℕ) (place : Place) → AreRead text found at → at < length (meanings text) → get_or (meanings text) at Fault ≡ Bad place → AreRead text (found ++ place ∷ []) (at + 1)
place_read text found at place read h e = record {
  named = ap (λ places. places ++ place ∷ []) read.named ∙ sym (named_more text at h ∙ ap (λ said. filter_map named_place (take at (meanings text)) ++ filter_map named_place (said ∷ [])) e);
  understood = understood_more text at (Bad place) e refl read.understood;
}

nothing_more : (places : List Place) → places ≡ places ++ []
nothing_more [] = refl
nothing_more (place ∷ places) = ap (λ rest. place ∷ rest) (nothing_more places)

pub nothing_read : (text : List ℕ) (found : List Place) (at : ℕ) → AreRead text found at → at < length (meanings text) → get_or (meanings text) at Fault ≡ Nothing → AreRead text found (at + 1)
nothing_read text found at read h e = record {
  named = read.named ∙ (nothing_more _ ∙ sym (named_more text at h ∙ ap (λ said. filter_map named_place (take at (meanings text)) ++ filter_map named_place (said ∷ [])) e));
  understood = understood_more text at Nothing e refl read.understood;
}

pub all_read : (text : List ℕ) (found : List Place) (at : ℕ) → AreRead text found at → at ≡ length (meanings text) → AreNamed text found
all_read text found at read h =
    let first : position_or_len is_fault (meanings text) ≡ length (meanings text) = position_or_len_is is_fault (meanings text) (length (meanings text)) Fault (omega arith) (λ k l. read.understood k (omega (arith, l))) (λ l. absurd (omega (arith, l))) in
    let past : ltb (position_or_len is_fault (meanings text)) (length (meanings text)) ≡ false = grind (arith, nat_tests) in
    record {
      understood = ap (λ b. cond b (Some (position_or_len is_fault (meanings text))) None) past;
      named = read.named ∙ ap (filter_map named_place) (take_all at (meanings text) (omega arith));
    }

pub fault_read : (text : List ℕ) (found : List Place) (at : ℕ) → AreRead text found at → at < length (meanings text) → get_or (meanings text) at Fault ≡ Fault → IsFirstFault text (at + 1)
fault_read text found at read h e =
    let first : position_or_len is_fault (meanings text) ≡ at = position_or_len_is is_fault (meanings text) at Fault (omega arith) read.understood (λ l. ap is_fault e) in
    let within : ltb (position_or_len is_fault (meanings text)) (length (meanings text)) ≡ true = grind (arith, nat_tests) in
    record {
      counted = omega arith;
      first = ap (λ b. cond b (Some (position_or_len is_fault (meanings text))) None) within ∙ ap Some (first ∙ omega arith);
    }

-- whether none of the first lines has words
abbrev pub are_empty : ℕ → List (List (List ℕ)) → Bool
are_empty at lines = list_all is_empty (take at lines)

-- there are as many
pub as_many : (is_first : Bool) (lines : List (List (List ℕ))) → length (meanings_of is_first lines) ≡ length lines
as_many is_first [] = refl
as_many is_first (line ∷ lines) = ap suc (as_many (is_first && is_empty line) lines)

-- what the line of a number says
pub said_at : (is_first : Bool) (lines : List (List (List ℕ))) (at : ℕ) → at < length lines
    → get_or (meanings_of is_first lines) at Fault ≡ meaning (is_first && are_empty at lines) (get_or lines at [])
said_at is_first [] at h = absurd (omega (arith, h))
said_at is_first (line ∷ lines) zero h = ap (λ first. meaning first line) (sym (and-true is_first))
said_at is_first (line ∷ lines) (suc at) h =
    said_at (is_first && is_empty line) lines at (omega (arith, h))
    ∙ ap (λ first. meaning first (get_or lines at [])) (and_assoc is_first (is_empty line) (are_empty at lines))

-- whether they have none, with the next of them
pub empty_more : (lines : List (List (List ℕ))) (at : ℕ) → at < length lines
    → are_empty (at + 1) lines ≡ (are_empty at lines && is_empty (get_or lines at []))
empty_more lines at h =
    ap (list_all is_empty) (take_more lines at [] h) ∙ list_all-append is_empty (take at lines) (get_or lines at [] ∷ [])
    ∙ ap (λ b. are_empty at lines && b) (and-true (is_empty (get_or lines at [])))

-- the words of the line of a number
pub words_at : (text : List ℕ) (found : List (Bor (List ℕ))) (at : ℕ) (d : Bor (List ℕ)) → map (λ l. l.now) found ≡ slice_split (λ byte. byte == 10) text
    → at < length found → get_or (lines text) at [] ≡ words (get_or found at d).now
words_at text found at d all h =
    ap (λ ls. get_or (map words ls) at []) (sym all)
    ∙ (get_or-map words (map (λ l. l.now) found) at d.now [] (rw length-map h) ∙ ap words (get_or-map (λ (l : Bor (List ℕ)). l.now) found at d d.now h))

-- there are as many lines as were found
pub as_many_lines : (text : List ℕ) (found : List (Bor (List ℕ))) → map (λ l. l.now) found ≡ slice_split (λ byte. byte == 10) text
    → length found ≡ length (lines text)
as_many_lines text found all = sym (length-map found (λ l. l.now)) ∙ (ap length all ∙ sym (length-map (slice_split (λ byte. byte == 10) text) words))

-- what the line of a number says, by the words that were found in it
pub line_said : (text : List ℕ) (found : List (Bor (List ℕ))) (at : ℕ) (d : Bor (List ℕ)) (is_first : Bool) (line : List (List ℕ)) (said : Line)
    → map (λ l. l.now) found ≡ slice_split (λ byte. byte == 10) text → at < length found → is_first ≡ are_empty at (lines text) → line ≡ words (get_or found at d).now
    → said ≡ meaning is_first line → get_or (meanings text) at Fault ≡ said
line_said text found at d is_first line said all h first is_line is =
    said_at true (lines text) at (omega (arith, h, as_many_lines text found all))
    ∙ (ap (λ b. meaning b (get_or (lines text) at [])) (sym first) ∙ (ap (meaning is_first) (words_at text found at d all h ∙ sym is_line) ∙ sym is))

-- there are as many lines that say something as were found
pub as_many_said : (text : List ℕ) (found : List (Bor (List ℕ))) → map (λ l. l.now) found ≡ slice_split (λ byte. byte == 10) text
    → length found ≡ length (meanings text)
as_many_said text found all = as_many_lines text found all ∙ sym (as_many true (lines text))

-- whether the lines up to this one have no words, by the words that were found in it
pub first_more : (text : List ℕ) (found : List (Bor (List ℕ))) (at : ℕ) (d : Bor (List ℕ)) (is_first is_next : Bool) (line : List (List ℕ))
    → map (λ l. l.now) found ≡ slice_split (λ byte. byte == 10) text → at < length found → is_first ≡ are_empty at (lines text) → line ≡ words (get_or found at d).now
    → is_next ≡ (is_first && is_empty line) → is_next ≡ are_empty (at + 1) (lines text)
first_more text found at d is_first is_next line all h first is_line is =
    is ∙ (ap (λ b. b && is_empty line) first
    ∙ (ap (λ l. are_empty at (lines text) && is_empty l) (is_line ∙ sym (words_at text found at d all h)) ∙ sym (empty_more (lines text) at (omega (arith, h, as_many_lines text found all)))))
