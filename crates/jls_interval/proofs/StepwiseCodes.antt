-- The laws of codes that are read step by step.
use Rattle.std.proofs.Common.{◌≡◌, Bool, List, [], ◌∷◌, ◌++◌, refl, sym, ap, ◌∙◌, subst, append_assoc, ◌⊎◌, inl, inr}
use Rattle.std.proofs.lemmas.List.{append-nil, append_cancel_left}
use Rattle.jls_values.proofs.Lists.{not_empty}
use Rattle.jls_interval.specs.Stepwise.{StepwiseCode, Leads, bits_of_steps, IsEnd, IsPrefixFree, IsKept}

-- of two prefixes of one list, one begins the other
pub one_begins : {A : Type 0} → (a b c d : List A) → a ++ b ≡ c ++ d
    → ((x : List A) × (a ≡ c ++ x) × (x ++ b ≡ d)) ⊎ ((x : List A) × (y : A) × (c ≡ a ++ (y ∷ x)) × (b ≡ (y ∷ x) ++ d))
one_begins [] b [] d e = inl ([], refl, e)
one_begins [] b (y ∷ c) d e = inr (c, y, refl, e)
one_begins (x ∷ a) b [] d e = inl (x ∷ a, refl, e)
one_begins (x ∷ a) b (y ∷ c) d e =
    let h : x ≡ y = cc in let r = one_begins a b c d (cc) in
    elim r [ inl p ↦ inl (p.0, (let q = p.1 in cc), p.2) | inr p ↦ inr (p.0, p.1, (let q = p.2 in cc), p.3) ]

pub regroup : {A : Type 0} → (a b t c d u : List A) → (a ++ b) ++ t ≡ (c ++ d) ++ u → a ++ (b ++ t) ≡ c ++ (d ++ u)
regroup a b t c d u e = sym (append_assoc a b t) ∙ e ∙ append_assoc c d u

cons_same : {A : Type 0} → (x y : A) (xs ys : List A) → x ≡ y → xs ≡ ys → x ∷ xs ≡ y ∷ ys
cons_same x y xs ys e f = cc

-- events lead to a sound state
pub sound_after : (m : StepwiseCode) → IsKept m → (es : List m.Event) (s z : m.State) → m.Sound s → Leads m s es z → m.Sound z
sound_after m kept [] s z ok l = subst m.Sound l ok
sound_after m kept (e ∷ es) s z ok l = sound_after m kept es (m.after s e) z (kept s e ok l.0) l.1

-- one event more
pub leads_more : (m : StepwiseCode) (s z : m.State) (es : List m.Event) (e : m.Event) → Leads m s es z → m.Next z e
    → Leads m s (es ++ e ∷ []) (m.after z e)
leads_more m s z [] e l a = (subst (λ v. m.Next v e) (sym l) a, ap (λ v. m.after v e) l)
leads_more m s z (f ∷ es) e l a = (l.0, leads_more m (m.after s f) z es e l.1 a)

module _ (m : StepwiseCode) (free : IsPrefixFree m) (kept : IsKept m) where
  -- what a whole code begins is one code, and its bits are all read
  pub one_code : (s z y : m.State) (es fs : List m.Event) (t u : List Bool) → m.Sound s → Leads m s es z → Leads m s fs y → IsEnd m z
      → IsEnd m y
      → bits_of_steps m s es ++ t ≡ bits_of_steps m s fs ++ u → (es ≡ fs) × (t ≡ u)
  one_code s z y [] [] t u ok p q a b e = (refl, e)
  one_code s z y [] (f ∷ fs) t u ok p q a b e = absurd (a f (subst (λ v. m.Next v f) p q.0))
  one_code s z y (g ∷ es) [] t u ok p q a b e = absurd (b g (subst (λ v. m.Next v g) q p.0))
  one_code s z y (g ∷ es) (f ∷ fs) t u ok p q a b e =
      let flat : m.step_bits s g ++ (bits_of_steps m (m.after s g) es ++ t) ≡ m.step_bits s f ++ (bits_of_steps m (m.after s f) fs ++ u) =
      regroup (m.step_bits s g) (bits_of_steps m (m.after s g) es) t (m.step_bits s f) (bits_of_steps m (m.after s f) fs) u e in
      let h : g ≡ f = free s g f (bits_of_steps m (m.after s g) es ++ t) (bits_of_steps m (m.after s f) fs ++ u) ok p.0 q.0 flat in
      let onto : m.step_bits s f ++ (bits_of_steps m (m.after s f) es ++ t) ≡ m.step_bits s f ++ (bits_of_steps m (m.after s f) fs ++ u) =
      subst (λ k. m.step_bits s k ++ (bits_of_steps m (m.after s k) es ++ t) ≡ m.step_bits s f ++ (bits_of_steps m (m.after s f) fs ++ u))
      h flat in
      let rest : bits_of_steps m (m.after s f) es ++ t ≡ bits_of_steps m (m.after s f) fs ++ u =
      append_cancel_left (m.step_bits s f) _ _ onto in
      let r : (es ≡ fs) × (t ≡ u) = one_code (m.after s f) z y es fs t u (kept s f ok q.0) (subst (λ k. Leads m (m.after s k) es z) h p.1)
      q.1 a b rest in
      (cons_same g f es fs h r.0, r.1)

  -- where no event's bits stand after those of some first events, no whole code does
  pub refused : (s z y : m.State) (es fs : List m.Event) (left rest : List Bool) → m.Sound s → Leads m s es z → Leads m s fs y → IsEnd m y
      → (x : m.Event) → m.Next z x → ((e : m.Event) (more : List Bool) → m.Next z e → left ≡ m.step_bits z e ++ more → ⊥)
      → bits_of_steps m s es ++ left ≡ bits_of_steps m s fs ++ rest → ⊥
  refused s z y [] [] left rest ok l k end x a stuck e = end x (subst (λ v. m.Next v x) (sym l ∙ k) a)
  refused s z y [] (f ∷ fs) left rest ok l k end x a stuck e =
      stuck f (bits_of_steps m (m.after s f) fs ++ rest) (subst (λ v. m.Next v f) l k.0)
      (e ∙ append_assoc (m.step_bits s f) (bits_of_steps m (m.after s f) fs) rest
      ∙ ap (λ v. m.step_bits v f ++ (bits_of_steps m (m.after s f) fs ++ rest)) l)
  refused s z y (g ∷ es) [] left rest ok l k end x a stuck e = end g (subst (λ v. m.Next v g) k l.0)
  refused s z y (g ∷ es) (f ∷ fs) left rest ok l k end x a stuck e =
      let flat : m.step_bits s g ++ (bits_of_steps m (m.after s g) es ++ left) ≡ m.step_bits s f
      ++ (bits_of_steps m (m.after s f) fs ++ rest) =
      regroup (m.step_bits s g) (bits_of_steps m (m.after s g) es) left (m.step_bits s f) (bits_of_steps m (m.after s f) fs) rest e in
      let h : g ≡ f = free s g f (bits_of_steps m (m.after s g) es ++ left) (bits_of_steps m (m.after s f) fs ++ rest) ok l.0 k.0 flat in
      let onto : m.step_bits s f ++ (bits_of_steps m (m.after s f) es ++ left) ≡ m.step_bits s f
      ++ (bits_of_steps m (m.after s f) fs ++ rest) =
      subst (λ v. m.step_bits s v ++ (bits_of_steps m (m.after s v) es ++ left) ≡ m.step_bits s f
      ++ (bits_of_steps m (m.after s f) fs ++ rest)) h flat in
      refused (m.after s f) z y es fs left rest (kept s f ok k.0) (subst (λ v. Leads m (m.after s v) es z) h l.1) k.1 end x a stuck
      (append_cancel_left (m.step_bits s f) (bits_of_steps m (m.after s f) es ++ left) (bits_of_steps m (m.after s f) fs ++ rest) onto)

-- Steps one after another -------------------------------------------------------------------------

-- the first of some events, and those after them
pub leads_apart : (m : StepwiseCode) (a b : List m.Event) (s z : m.State) → Leads m s (a ++ b) z
    → (y : m.State) × (Leads m s a y × Leads m y b z)
leads_apart m [] b s z l = (s, (refl, l))
leads_apart m (e ∷ a) b s z l =
    let r = leads_apart m a b (m.after s e) z l.1 in (r.0, ((l.0, r.1.0), r.1.1))

pub leads_join : (m : StepwiseCode) (a b : List m.Event) (s y z : m.State) → Leads m s a y → Leads m y b z → Leads m s (a ++ b) z
leads_join m [] b s y z l k = subst (λ v. Leads m v b z) (sym l) k
leads_join m (e ∷ a) b s y z l k = (l.0, leads_join m a b (m.after s e) y z l.1 k)

-- events lead to one state
pub one_place : (m : StepwiseCode) (a : List m.Event) (s y z : m.State) → Leads m s a y → Leads m s a z → y ≡ z
one_place m [] s y z l k = sym l ∙ k
one_place m (e ∷ a) s y z l k = one_place m a (m.after s e) y z l.1 k.1

-- the bits of steps in two parts
pub bits_join : (m : StepwiseCode) (a b : List m.Event) (s y : m.State) → Leads m s a y
    → bits_of_steps m s (a ++ b) ≡ bits_of_steps m s a ++ bits_of_steps m y b
bits_join m [] b s y l = ap (λ v. bits_of_steps m v b) l
bits_join m (e ∷ a) b s y l =
    ap (λ v. m.step_bits s e ++ v) (bits_join m a b (m.after s e) y l.1)
    ∙ sym (append_assoc (m.step_bits s e) (bits_of_steps m (m.after s e) a) (bits_of_steps m y b))

-- the bits of steps and one more are those of the steps, and then of that one
pub bits_more : (m : StepwiseCode) (s z : m.State) (es : List m.Event) (e : m.Event) → Leads m s es z
    → bits_of_steps m s (es ++ e ∷ []) ≡ bits_of_steps m s es ++ m.step_bits z e
bits_more m s z [] e l = append-nil (m.step_bits s e) ∙ ap (λ v. m.step_bits v e) l
bits_more m s z (f ∷ es) e l = ap (λ v. m.step_bits s f ++ v) (bits_more m (m.after s f) z es e l.1)
    ∙ sym (append_assoc (m.step_bits s f) (bits_of_steps m (m.after s f) es) (m.step_bits z e))

-- whole first events, and a proper prefix of the bits of the one after them
pub record CutSteps (m : StepwiseCode) (s : m.State) (given : List Bool) : Type 0 where
  pub whole : List m.Event
  pub state : m.State
  pub leads : Leads m s whole state
  pub cut : m.Event
  pub next : m.Next state cut
  pub begun : List Bool
  pub given_is : given ≡ bits_of_steps m s whole ++ begun
  pub missing : Bool
  pub more_missing : List Bool
  pub bits_are : m.step_bits state cut ≡ begun ++ missing ∷ more_missing

-- a proper prefix of the bits of some events cuts one of them
pub cut_steps : (m : StepwiseCode) (s y : m.State) (fs : List m.Event) (given : List Bool) (b : Bool) (more : List Bool) → Leads m s fs y
    → given ++ b ∷ more ≡ bits_of_steps m s fs → CutSteps m s given
cut_steps m s y [] given b more l e = absurd (not_empty given b more e)
cut_steps m s y (f ∷ fs) given b more l e =
    elim (one_begins given (b ∷ more) (m.step_bits s f) (bits_of_steps m (m.after s f) fs) e) [
      | inl q ↦ (let r = cut_steps m (m.after s f) y fs q.0 b more l.1 q.2 in
          record {
            whole = f ∷ r.whole;
            state = r.state;
            leads = (l.0, r.leads);
            cut = r.cut;
            next = r.next;
            begun = r.begun;
            given_is = q.1
                ∙ ap (λ v. m.step_bits s f ++ v) r.given_is
                ∙ sym (append_assoc (m.step_bits s f) (bits_of_steps m (m.after s f) r.whole) r.begun);
            missing = r.missing;
            more_missing = r.more_missing;
            bits_are = r.bits_are;
          })
      | inr q ↦
          record {
            whole = [];
            state = s;
            leads = refl;
            cut = f;
            next = l.0;
            begun = given;
            given_is = refl;
            missing = q.1;
            more_missing = q.0;
            bits_are = q.2;
          }
    ]
