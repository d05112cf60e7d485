-- Each copy is a splice; splices are those that are listed, and those that choices make.
use Rattle.std.proofs.Common.{◌≡◌, ℕ, suc, ◌<◌, List, [], ◌∷◌, ◌++◌, map, length, refl, sym, ap, ◌∙◌, subst, inl, inr}
use Rattle.std.specs.Prelude.{get_or}
use Rattle.std.specs.List.{AllByRecursion, Contains}
use Rattle.std.proofs.lemmas.List.Elements.{Contains-get_or, at_from_Contains}
use Rattle.jls_values.proofs.Lists.{is_first, none_in, first_or_rest, in_map, of_map, in_flat_map, of_flat_map}
use Rattle.jls_diff.specs.Parts.{Part, Same, Differ, way, made, HasWays, IsSplice, splice_of, splices}
use Rattle.jls_diff.specs.SpliceLaws.{CopiesAreSplices, SplicesAreListed, ChoicesMakeSplices}

-- Each copy --------------------------------------------------------------------------------------------------------

each_way : (count j : ℕ) → j < count → (parts : List Part) → IsSplice count parts (made j parts)
each_way count j l [] = refl
each_way count j l (part ∷ parts) = (j, l, made j parts, refl, each_way count j l parts)

pub copies_are_splices : CopiesAreSplices
copies_are_splices copies parts are j l = subst (IsSplice (length copies) parts) (are.make j l) (each_way (length copies) j l parts)

-- Listed -----------------------------------------------------------------------------------------------------------

pub listed : (count : ℕ) (parts : List Part) (bytes : List ℕ) → AllByRecursion (HasWays count) parts → IsSplice count parts bytes
    → Contains (splices parts) bytes
listed count [] bytes h e = subst (Contains ([] ∷ [])) (sym e) (is_first [] [])
listed count (Same b ∷ parts) bytes h (j, l, rest, e, more) =
    subst (Contains (splices (Same b ∷ parts))) (sym e) (in_map (λ r. b ++ r) (splices parts) rest (listed count parts rest h.1 more))
listed count (Differ ways ∷ parts) bytes h (j, l, rest, e, more) =
    let inside : j < length ways = subst (λ n. j < n) (sym h.0) l in
    subst (Contains (splices (Differ ways ∷ parts))) (sym e)
    (in_flat_map (λ here. map (λ r. here ++ r) (splices parts)) ways (get_or ways j []) (get_or ways j [] ++ rest)
    (Contains-get_or ways j [] inside)
    (in_map (λ r. get_or ways j [] ++ r) (splices parts) rest (listed count parts rest h.1 more)))

of_listed : (count : ℕ) (parts : List Part) (bytes : List ℕ) → 0 < count → AllByRecursion (HasWays count) parts
    → Contains (splices parts) bytes → IsSplice count parts bytes
of_listed count [] bytes some h c = elim (first_or_rest bytes [] [] c) [ inl e ↦ sym e | inr later ↦ absurd (none_in bytes later) ]
of_listed count (Same b ∷ parts) bytes some h c =
    let r = of_map (λ r. b ++ r) (splices parts) bytes c in (0, some, r.0, sym r.2, of_listed count parts r.0 some h.1 r.1)
of_listed count (Differ ways ∷ parts) bytes some h c =
    let f = of_flat_map (λ here. map (λ r. here ++ r) (splices parts)) ways bytes c in
    let j = at_from_Contains ways f.0 f.1 in
    let r = of_map (λ r. f.0 ++ r) (splices parts) bytes f.2 in
    (j.0, subst (λ n. j.0 < n) h.0 j.1, r.0, sym r.2 ∙ ap (λ w. w ++ r.0) (sym (j.2 [])), of_listed count parts r.0 some h.1 r.1)

pub splices_are_listed : SplicesAreListed
splices_are_listed copies parts are some bytes =
    (listed (length copies) parts bytes are.ways, of_listed (length copies) parts bytes some are.ways)

-- Choices ----------------------------------------------------------------------------------------------------------

made_splices : (count : ℕ) (parts : List Part) (choices : List ℕ) → 0 < count → AllByRecursion (λ j. j < count) choices
    → IsSplice count parts (splice_of parts choices)
made_splices count [] choices some low = refl
made_splices count (part ∷ parts) [] some low = (0, some, splice_of parts [], refl, made_splices count parts [] some tt)
made_splices count (part ∷ parts) (c ∷ cs) some low = (c, low.0, splice_of parts cs, refl, made_splices count parts cs some low.1)

have_choices : (count : ℕ) (parts : List Part) (bytes : List ℕ) → IsSplice count parts bytes
    → (choices : List ℕ) × (length choices ≡ length parts) × AllByRecursion (λ j. j < count) choices × (bytes ≡ splice_of parts choices)
have_choices count [] bytes e = ([], refl, tt, e)
have_choices count (part ∷ parts) bytes (j, l, rest, e, more) =
    let r = have_choices count parts rest more in
    (j ∷ r.0, ap suc r.1, (l, r.2), e ∙ ap (λ z. way j part ++ z) r.3)

pub choices_make_splices : ChoicesMakeSplices
choices_make_splices count parts some = (λ choices low. made_splices count parts choices some low, have_choices count parts)
