-- What sets of readings hold, and lines with one reading.
use Rattle.std.proofs.Common.{◌≡◌, ℕ, Bool, true, false, ◌&&◌, ◌||◌, List, [], ◌∷◌, map, refl, sym, ap, ◌∙◌, subst, arith, inl, inr}
use Rattle.std.specs.Prelude.{filter, ◌==◌, ◌↔◌}
use Rattle.std.specs.declared.cmp.Ordering.{Ordering}
use Rattle.std.specs.declared.cmp.Ordering.TheVariants.{Less, Equal}
use Rattle.std.specs.Ordering.{eq_by_cmp}
use Rattle.std.specs.Cmp.{IsTotalOrder}
use Rattle.std.specs.List.{list_any, AllByRecursion, Contains}
use Rattle.std.specs.List.Sorted.{IsStrictlySortedBy}
use Rattle.std.proofs.lemmas.Bool.{and_parts, eqb-true, cases_Bool}
use Rattle.std.proofs.lemmas.Cmp.{tied_itself}
use Rattle.std.proofs.lemmas.Map.Lookups.{CmpEqualImpliesEq}
use Rattle.jls_values.specs.OrderedSet as set
use Rattle.jls_values.specs.OrderedSetLaws.{contains-items, contains-insert_all, contains-empty}
use Rattle.jls_partial.specs.Partial.{PartialPicture, readings_at}
use Rattle.jls_partial.specs.Reading.{Reading, reading_cmp, reading_of}
use Rattle.jls_partial.specs.ReadingOrder.{reading_total, reading_exact}
use Rattle.jls_partial.proofs.BareEntries.{items_rise}
use Rattle.jls_partial.proofs.HeldItems.{any_of_item, item_of_any, any_of_member, member_of_any}
use Rattle.jls_partial.specs.PartialLaws.{eqb_itself}
use Rattle.jls_copy_laws.proofs.Members.{is_first, in_rest, none_in, first_or_rest, in_map}

module _ {K : Type 0} {R : K → K → Ordering} (total : IsTotalOrder R) (exact : CmpEqualImpliesEq R) where
  -- a set made of a list holds the members of the list
  pub set_of_list_holds : (ks : List K) (k : K) → (set.contains (set.insert_all {R = R} set.empty ks) k ≡ true) ↔ Contains ks k
  set_of_list_holds ks k =
      let reported : set.contains (set.insert_all {R = R} set.empty ks) k ≡ list_any (eq_by_cmp R k) ks =
      contains-insert_all total set.empty ks k ∙ ap (λ b. b || list_any (eq_by_cmp R k) ks) (contains-empty R k) in
      (λ h. item_of_any total exact ks k (sym reported ∙ h), λ c. reported ∙ any_of_item total exact ks k c)

  -- what a set holds are its items
  pub set_holds_items : (s : set.OrderedSet R) (k : K) → (set.contains s k ≡ true) ↔ Contains (set.items s) k
  set_holds_items s k = (
    λ h. item_of_any total exact (set.items s) k (sym (contains-items s k) ∙ h),
    λ c. contains-items s k
        ∙ any_of_item total exact (set.items s) k c,
  )

pub made_holds : (rs : List Reading) (r : Reading) → (set.contains (set.insert_all {R = reading_cmp} set.empty rs) r ≡ true) ↔ Contains rs r
made_holds = set_of_list_holds reading_total reading_exact

-- Lines with one reading -----------------------------------------------------------------------------------------

not_below_itself : (r : Reading) → reading_cmp r r ≡ Less → ⊥
not_below_itself r e = (let same : Less ≡ Equal = sym e ∙ tied_itself reading_total r in cc)

abbrev pub is_there : ℕ → ℕ → Reading → Bool
is_there component line r = r.component == component && r.line == line

pub there_is : (component line : ℕ) (r : Reading) → is_there component line r ≡ true → (r.component ≡ component) × (r.line ≡ line)
there_is component line r e =
    let p = and_parts (r.component == component) (r.line == line) e in (eqb-true r.component component p.0, eqb-true r.line line p.1)

is_itself : (component line : ℕ) (samples : List ℕ) → is_there component line (reading_of component line samples) ≡ true
is_itself component line samples = rw (eqb_itself component, eqb_itself line) refl

-- where all that stands above a reading and passes the test is that reading, nothing does
none_passes : (pass : Reading → Bool) (r : Reading) (rs : List Reading) → AllByRecursion (λ y. reading_cmp r y ≡ Less) rs
    → ((q : Reading) → Contains rs q → pass q ≡ true → q ≡ r) → filter pass rs ≡ []
none_passes pass r [] above same = refl
none_passes pass r (q ∷ qs) above same =
    elim (cases_Bool (pass q)) [
      | inl e ↦ absurd (not_below_itself r (subst (λ x. reading_cmp r x ≡ Less) (same q (is_first q qs) e) above.0))
      | inr e ↦ rw e (none_passes pass r qs above.1 (λ x c. same x (in_rest x q qs c)))
    ]

-- of items in order of which one passes the test, and no other
one_passes : (pass : Reading → Bool) (r : Reading) (rs : List Reading) → IsStrictlySortedBy reading_cmp rs → pass r ≡ true → Contains rs r
    → ((q : Reading) → Contains rs q → pass q ≡ true → q ≡ r) → filter pass rs ≡ r ∷ []
unfolding IsStrictlySortedBy
one_passes pass r [] rise passes c same = absurd (none_in r c)
one_passes pass r (q ∷ qs) rise passes c same =
    elim (cases_Bool (pass q)) [
      | inl e ↦ (
          let is : q ≡ r = same q (is_first q qs) e in
          let rest : filter pass qs ≡ [] =
          none_passes pass r qs (subst (λ x. AllByRecursion (λ y. reading_cmp x y ≡ Less) qs) is rise.0)
          (λ x m. same x (in_rest x q qs m)) in
          rw (e, rest) (ap (λ x. x ∷ []) is))
      | inr e ↦ (
          elim (first_or_rest r q qs c) [
            | inl is ↦ (let f : false ≡ true = sym e ∙ ap pass is ∙ passes in absurd cc)
            | inr later ↦ rw e (one_passes pass r qs rise.1 passes later (λ x m. same x (in_rest x q qs m)))
          ])
    ]

-- where a reading of a line is held, and no other, it is the one reading of the line
pub one_reading : (p : PartialPicture) (component line : ℕ) (samples : List ℕ)
    → set.contains p.readings (reading_of component line samples) ≡ true
    → ((r : Reading) → set.contains p.readings r ≡ true → r.component ≡ component → r.line ≡ line → r ≡ reading_of component line samples)
    → readings_at p component line ≡ samples ∷ []
one_reading p component line samples held same =
    let r = reading_of component line samples in
    let among : Contains (set.items p.readings) r = member_of_any (set.items p.readings) r (sym (contains-items p.readings r) ∙ held) in
    let one = one_passes (is_there component line) r (set.items p.readings) (items_rise p.readings) (is_itself component line samples) among
    (λ q c e. same q (contains-items p.readings q ∙ any_of_member (set.items p.readings) q c) (there_is component line q e).0
    (there_is component line q e).1) in
    ap (map (λ (x : Reading). x.samples)) one

-- what is held is among the readings of its line
pub held_among : (pass : Reading → Bool) (r : Reading) (rs : List Reading) → pass r ≡ true → Contains rs r → Contains (filter pass rs) r
held_among pass r [] e c = absurd (none_in r c)
held_among pass r (q ∷ qs) e c =
    elim (cases_Bool (pass q)) [
      | inl t ↦
          rw t
          (elim (first_or_rest r q qs c) [
            | inl is ↦ (0, omega arith, is)
            | inr later ↦ in_rest r q (filter pass qs)
                (held_among pass r qs e later)
          ])
      | inr t ↦ rw t (elim (first_or_rest r q qs c) [
        | inl is ↦ (let f : false ≡ true = sym t ∙ ap pass is ∙ e in absurd cc)
        | inr later ↦ held_among pass r qs e later
      ])
    ]

pub is_at_line : (p : PartialPicture) (component line : ℕ) (samples : List ℕ)
    → set.contains p.readings (reading_of component line samples) ≡ true
    → Contains (readings_at p component line) samples
is_at_line p component line samples held =
    let r = reading_of component line samples in
    let among : Contains (set.items p.readings) r = member_of_any (set.items p.readings) r (sym (contains-items p.readings r) ∙ held) in
    in_map (λ (x : Reading). x.samples) (filter (is_there component line) (set.items p.readings)) r
    (held_among (is_there component line) r (set.items p.readings) (is_itself component line samples) among)
