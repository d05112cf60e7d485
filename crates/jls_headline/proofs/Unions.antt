-- What stations hold that are built by unions: exactly what copies give, be it readings or readings with their sources.
use Rattle.std.proofs.Common.{◌≡◌, Bool, true, false, List, [], ◌∷◌, ◌++◌, sym, ◌∙◌, subst, ◌⊎◌, inl, inr}
use Rattle.std.specs.Prelude.{◌||◌, ◌↔◌}
use Rattle.std.specs.List.{Contains}
use Rattle.std.proofs.lemmas.List.Elements.{Contains-append_left, Contains-append_right, Contains-append_cases}
use Rattle.std.proofs.lemmas.Bool.{or_left, or_right}
use Rattle.jls_values.specs.Join.{IsBetween}
use Rattle.jls_values.proofs.Tests.{either}
use Rattle.jls_partial.specs.Partial.{PartialPicture, union}
use Rattle.jls_copy_laws.proofs.Members.{is_first, first_or_rest, none_in}

-- copies give items of this kind, and this tells which of them a partial picture holds; a union holds those of both
module _ {C M : Type 0} (Gives : C → M → Type 0) (contains : PartialPicture → M → Bool)
    (union_contains : (p q : PartialPicture) (m : M) → contains (union p q) m ≡ (contains p m || contains q m)) where
  -- what one of these copies gives
  abbrev pub GivenBy : List C → M → Type 0
  GivenBy copies m = (copy : C) × Contains copies copy × Gives copy m

  abbrev has : PartialPicture → M → Type 0
  has p m = contains p m ≡ true

  -- exactly that is held
  abbrev pub Exactly : PartialPicture → List C → Type 0
  Exactly p copies = (m : M) → has p m ↔ GivenBy copies m

  -- what a union has
  left_has : (p q : PartialPicture) (m : M) → has p m → has (union p q) m
  left_has p q m h = union_contains p q m ∙ or_left (contains p m) (contains q m) h

  right_has : (p q : PartialPicture) (m : M) → has q m → has (union p q) m
  right_has p q m h = union_contains p q m ∙ or_right (contains p m) (contains q m) h

  one_has : (Claim : Type 0) (p q : PartialPicture) (m : M) → (has p m → Claim) → (has q m → Claim) → has (union p q) m → Claim
  one_has Claim p q m f g h = either Claim (contains p m) (contains q m) f g (sym (union_contains p q m) ∙ h)

  -- what more copies give
  of_first : (copies more : List C) (m : M) → GivenBy copies m → GivenBy (copies ++ more) m
  of_first copies more m (copy, c, g) = (copy, Contains-append_left copies more copy c, g)

  of_second : (more copies : List C) (m : M) → GivenBy copies m → GivenBy (more ++ copies) m
  of_second more copies m (copy, c, g) = (copy, Contains-append_right more copies copy c, g)

  of_one : (Claim : Type 0) (more copies : List C) (m : M) → (GivenBy more m → Claim) → (GivenBy copies m → Claim)
      → GivenBy (more ++ copies) m → Claim
  of_one Claim more copies m f g (copy, c, h) =
      elim (Contains-append_cases more copies copy c) [ inl x ↦ f (copy, x, h) | inr x ↦ g (copy, x, h) ]

  -- what holds exactly what one copy gives
  pub one_exactly : (p : PartialPicture) (copy : C) → ((m : M) → has p m ↔ Gives copy m) → Exactly p (copy ∷ [])
  one_exactly p copy same m = (λ h. (copy, is_first copy [], (same m).0 h), λ g. (same m).1 (of_this g))
    where
      of_this : GivenBy (copy ∷ []) m → Gives copy m
      of_this (other, c, g) =
          elim (first_or_rest other copy [] c) [ inl e ↦ subst (λ x. Gives x m) (sym e) g | inr later ↦ absurd (none_in other later) ]

  -- what no copy gives, and what both give
  pub none_exactly : (p : PartialPicture) → ((m : M) → contains p m ≡ false) → Exactly p []
  none_exactly p empty m = (λ h. (let none : false ≡ true = sym (empty m) ∙ h in absurd cc), λ g. absurd (none_in g.0 g.1))

  pub both_exactly : (p q : PartialPicture) (copies more : List C) → Exactly p copies → Exactly q more → Exactly (union p q) (copies ++ more)
  both_exactly p q copies more h k m = (
    one_has (GivenBy (copies ++ more) m) p q m (λ x. of_first copies more m ((h m).0 x)) (λ x. of_second copies more m ((k m).0 x)),
    of_one (has (union p q) m) copies more m (λ g. left_has p q m ((h m).1 g)) (λ g. right_has p q m ((k m).1 g)),
  )

  -- what holds after each call: all that these copies give is held, and nothing else but what those can have left
  abbrev pub Holds : PartialPicture → List C → List C → Type 0
  Holds station copies over = ((m : M) → GivenBy copies m → has station m) × ((m : M) → has station m → GivenBy copies m ⊎ GivenBy over m)

  pub at_first : (p : PartialPicture) (copies : List C) → Exactly p copies → Holds p copies []
  at_first p copies h = (λ m. (h m).1, λ m x. inl ((h m).0 x))

  pub in_the_end : (station : PartialPicture) (copies over : List C) → Holds station copies over
      → ((m : M) → GivenBy over m → GivenBy copies m)
      → Exactly station copies
  in_the_end station copies over h among m = (λ x. elim (h.1 m x) [ inl y ↦ y | inr y ↦ among m y ], h.0 m)

  -- a union holds all that the copies of both give, and nothing else but what those of either can have left
  pub both_collected : (p q : PartialPicture) (copies over more further : List C) → Holds p copies over → Holds q more further
      → Holds (union p q) (copies ++ more) (over ++ further)
  both_collected p q copies over more further h k = (
    λ m. of_one (has (union p q) m) copies more m (λ x. left_has p q m (h.0 m x)) (λ x. right_has p q m (k.0 m x)),
    λ m. one_has (GivenBy (copies ++ more) m ⊎ GivenBy (over ++ further) m) p q m
        (λ s. elim (h.1 m s) [ inl x ↦ inl (of_first copies more m x) | inr x ↦ inr (of_first over further m x) ])
        (λ t. elim (k.1 m t) [ inl x ↦ inl (of_second copies more m x) | inr x ↦ inr (of_second over further m x) ]),
  )

  -- what holds all that the first does, and nothing else but what either does
  pub part_collected : (p q new : PartialPicture) (copies over more further : List C) → Holds p copies over → Holds q more further
      → ((m : M) → has p m → has new m) → ((m : M) → has new m → has p m ⊎ has q m) → Holds new copies (over ++ (more ++ further))
  part_collected p q new copies over more further h k keeps only = (
    λ m x. keeps m (h.0 m x),
    λ m x. elim (only m x) [
      | inl s ↦ elim (h.1 m s) [ inl y ↦ inl y | inr y ↦ inr (of_first over (more ++ further) m y) ]
      | inr t ↦ elim (k.1 m t) [
        | inl y ↦ inr (of_second over (more ++ further) m (of_first more further m y))
        | inr y ↦ inr (of_second over (more ++ further) m (of_second more further m y))
      ]
    ],
  )

  pub between_keeps : (p q new : PartialPicture) → IsBetween union p new (union p q) → (m : M) → has p m → has new m
  between_keeps p q new between m x = subst (λ (z : PartialPicture). has z m) between.0 (left_has p new m x)

  pub between_only : (p q new : PartialPicture) → IsBetween union p new (union p q) → (m : M) → has new m → has p m ⊎ has q m
  between_only p q new between m x =
      one_has (has p m ⊎ has q m) p q m (λ s. inl s) (λ t. inr t)
      (subst (λ (z : PartialPicture). has z m) between.1 (left_has new (union p q) m x))

  -- memory may have run out over more
  pub over_more : (p : PartialPicture) (copies over more : List C) → Holds p copies over → Holds p copies (over ++ more)
  over_more p copies over more h = (h.0, λ m x. elim (h.1 m x) [ inl y ↦ inl y | inr y ↦ inr (of_first over more m y) ])
