-- How far a search has come down a tree of slots.
use Rattle.std.proofs.Common.{◌≡◌, ℕ, suc, ◌+◌, ◌<◌, ◌≤◌, List, [], ◌∷◌, ◌++◌, length, get_or, take, drop, refl, ap, sym, subst, ◌∙◌}
use Rattle.std.proofs.Common.{append_assoc, arith}
use Rattle.std.specs.Cmp.Lexicographic.{slice_cmp}
use Rattle.std.specs.declared.cmp.Ordering.{Ordering}
use Rattle.std.specs.declared.cmp.Ordering.TheVariants.{Less, Equal, Greater}
use Rattle.std.specs.List.{AllByRecursion}
use Rattle.std.specs.List.Sorted.{IsStrictlySortedBy}
use Rattle.std.specs.Ordering.{nat_cmp}
use Rattle.std.proofs.Math.Seq.{get_or-append_seam}
use Rattle.std.proofs.lemmas.Cmp.{nat_list_cmp_total}
use Rattle.std.proofs.lemmas.List.{append-nil, get_or-append-add, length-append, length-map}
use Rattle.jls_partial.specs.declared.slots.Slot.{Slot}
use Rattle.jls_partial.specs.LineSetLaws.{lines_exact}
use Rattle.jls_partial.specs.Packed.{lines_of, IsGap}
use Rattle.jls_partial.proofs.PackedLines.{turned_greater, all_below, all_above, inside_at, line_at}

abbrev S : List ℕ → List ℕ → Ordering
S = slice_cmp nat_cmp

-- the rest stands in the whole, with so many slots before it, all of which are below what is looked for; those after it are above
pub record IsLeft (width : ℕ) (packed : List ℕ) (whole rest : List Slot) (before : ℕ) (x : List ℕ) : Type 0 where
  pub prefix : List Slot
  pub back : List Slot
  pub parts : whole ≡ prefix ++ (rest ++ back)
  pub many : length prefix ≡ before
  pub below : (k : ℕ) → k < before → S (get_or (lines_of width packed whole) k x) x ≡ Less
  pub above : (k : ℕ) → before + length rest ≤ k → k < length whole → S x (get_or (lines_of width packed whole) k x) ≡ Less

-- at first all of it is left
pub all_left : (width : ℕ) (packed : List ℕ) (whole : List Slot) (x : List ℕ) → IsLeft width packed whole whole 0 x
all_left width packed whole x = record {
  prefix = [];
  back = [];
  parts = sym (append-nil whole);
  many = refl;
  below = λ k lt. absurd (omega arith);
  above = λ k le lt. absurd (omega arith);
}

module _ (width : ℕ) (packed : List ℕ) (whole rest : List Slot) (before : ℕ) (x : List ℕ) (is : IsLeft width packed whole rest before x)
  where
    many_lines : length (lines_of width packed whole) ≡ length whole
    many_lines = length-map whole (λ (t : Slot). take width (drop t.start packed))

    many_slots : length whole ≡ before + (length rest + length is.back)
    many_slots = ap length is.parts ∙ length-append is.prefix (rest ++ is.back) ∙ (λ i. is.many i + length-append rest is.back i)

    -- where nothing is left, what is looked for belongs there
    pub none_left : rest ≡ [] → IsGap S (lines_of width packed whole) before x
    none_left none =
        let lines = many_lines in
        let slots = many_slots in
        let empty : length rest ≡ 0 = ap length none in
        record {
          within = omega (arith, lines, slots, empty);
          below = is.below;
          above = λ k le lt. is.above k (omega (arith, empty, le)) (omega (arith, lines, lt));
        }

    module _ (l : List Slot) (m : Slot) (r : List Slot) (fork : rest ≡ l ++ m ∷ r) where
      many_rest : length rest ≡ length l + suc (length r)
      many_rest = ap length fork ∙ length-append l (m ∷ r)

      -- the slot in the middle
      pub middle_in : before + length l < length whole
      middle_in = let rests = many_rest in let slots = many_slots in omega (arith, rests, slots)

      pub middle_is : m ≡ get_or whole (before + length l) m
      middle_is = sym (
          ap (λ (z : List Slot). get_or z (before + length l) m)
          (is.parts ∙ ap (λ (z : List Slot). is.prefix ++ (z ++ is.back)) fork
          ∙ ap (λ (z : List Slot). is.prefix ++ z) (append_assoc l (m ∷ r) is.back))
          ∙ ap (λ (n : ℕ). get_or (is.prefix ++ (l ++ m ∷ (r ++ is.back))) (n + length l) m) (sym is.many)
          ∙ get_or-append-add is.prefix (l ++ m ∷ (r ++ is.back)) (length l) m
          ∙ get_or-append_seam l m (r ++ is.back) m)

      pub middle_inside : AllByRecursion (λ (s : Slot). s.start + width ≤ length packed) whole → m.start + width ≤ length packed
      middle_inside inside = inside_at width packed whole (before + length l) m inside middle_in middle_is

      module _ (sorted : IsStrictlySortedBy S (lines_of width packed whole)) (line : List ℕ)
          (read : line ≡ take width (drop m.start packed))
        where
          at_middle : (o : Ordering) → S line x ≡ o → S (get_or (lines_of width packed whole) (before + length l) x) x ≡ o
          at_middle o test = ap (λ (z : List ℕ). S z x) (line_at width packed whole (before + length l) m x middle_in middle_is ∙ sym read)
              ∙ test

          in_lines : before + length l < length (lines_of width packed whole)
          in_lines = let lines = many_lines in let inside = middle_in in omega (arith, lines, inside)

          -- it may be what is looked for
          pub found : S line x ≡ Equal → get_or (lines_of width packed whole) (before + length l) x ≡ x
          found test = lines_exact _ _ (at_middle Equal test)

          -- or be below it, and then those after the middle are left
          pub right_left : S line x ≡ Less → IsLeft width packed whole r (before + length l + 1) x
          right_left test =
              let rests = many_rest in
              record {
                prefix = is.prefix ++ (l ++ m ∷ []);
                back = is.back;
                parts = is.parts ∙ ap (λ (z : List Slot). is.prefix ++ (z ++ is.back)) fork
                    ∙ ap (λ (z : List Slot). is.prefix ++ z) (append_assoc l (m ∷ r) is.back ∙ sym (append_assoc l (m ∷ []) (r ++ is.back)))
                    ∙ sym (append_assoc is.prefix (l ++ m ∷ []) (r ++ is.back));
                many = let a = length-append is.prefix (l ++ m ∷ []) in let b = length-append l (m ∷ []) in let c = is.many in
                    omega (arith, a, b, c);
                below = all_below (lines_of width packed whole) sorted x (before + length l) in_lines (at_middle Less test);
                above = λ k le lt. is.above k (omega (arith, rests, le)) lt;
              }

          -- or above it, and then those before the middle
          pub left_left : S line x ≡ Greater → IsLeft width packed whole l before x
          left_left test =
              let lines = many_lines in
              record {
                prefix = is.prefix;
                back = (m ∷ r) ++ is.back;
                parts = is.parts ∙ ap (λ (z : List Slot). is.prefix ++ (z ++ is.back)) fork
                    ∙ ap (λ (z : List Slot). is.prefix ++ z) (append_assoc l (m ∷ r) is.back);
                many = is.many;
                below = is.below;
                above = λ k le lt. all_above (lines_of width packed whole) sorted x (before + length l) in_lines
                    (at_middle Greater test) k le
                    (omega (arith, lines, lt));
              }

-- ---- where there is one line alone

module _ (width : ℕ) (packed : List ℕ) (slots : List Slot) (s : Slot) (is : slots ≡ s ∷ []) where
  -- the one line of the slots lies inside the packed samples
  pub one_inside : AllByRecursion (λ (t : Slot). t.start + width ≤ length packed) slots → s.start + width ≤ length packed
  one_inside inside = (subst (AllByRecursion (λ (t : Slot). t.start + width ≤ length packed)) is inside).0

  module _ (line x : List ℕ) (read : line ≡ take width (drop s.start packed)) where
    compared : (o : Ordering) → S line x ≡ o → S (take width (drop s.start packed)) x ≡ o
    compared o test = ap (λ (z : List ℕ). S z x) (sym read) ∙ test

    pub one_found : S line x ≡ Equal → get_or (lines_of width packed slots) 0 x ≡ x
    one_found test = ap (λ (ts : List Slot). get_or (lines_of width packed ts) 0 x) is
        ∙ lines_exact (take width (drop s.start packed)) x (compared Equal test)

    pub one_above : S line x ≡ Greater → IsGap S (lines_of width packed slots) 0 x
    one_above test = subst (λ (ts : List Slot). IsGap S (lines_of width packed ts) 0 x) (sym is) (record {
      within = omega arith;
      below = λ k lt. absurd (omega (arith, lt));
      above = λ k le lt. let first : k ≡ 0 = omega (arith, lt) in
          subst (λ (j : ℕ). S x (get_or (take width (drop s.start packed) ∷ []) j x) ≡ Less) (sym first)
          (turned_greater nat_list_cmp_total (take width (drop s.start packed)) x (compared Greater test));
    })
