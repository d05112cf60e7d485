-- The head of bits that cut an event: the rows that were finished before it.
use Rattle.std.proofs.Common.{◌≡◌, ℕ, zero, suc, ◌+◌, ◌*◌, ◌<◌, ◌≤◌, ◌⊎◌, Bool, List, [], ◌∷◌, ◌++◌, length, refl, sym, ap, ◌∙◌, subst}
use Rattle.std.proofs.Common.{false, arith, inl, inr, append_assoc, length-append}
use Rattle.std.specs.List.{AllByRecursion}
use Rattle.std.proofs.lemmas.List.{append-nil, append_cancel_left}
use Rattle.std.proofs.lemmas.Bool.{cases_lt}
use Rattle.std.proofs.lemmas.Nat.{mul-le}
use Rattle.std.proofs.Math.Nat.{suc-mul}
use Rattle.jls_values.specs.Params.{CodingParameters, AreCodingParameters}
use Rattle.jls_values.proofs.Lists.{all_prefix, first_items, not_empty}
use Rattle.jls_bits.specs.Bits.{bits_read}
use Rattle.jls_interval.specs.Stepwise.{StepwiseCode, Leads, bits_of_steps, IsEnd}
use Rattle.jls_interval.proofs.StepwiseCodes.{one_begins, leads_apart, one_place, bits_join, cut_steps}
use Rattle.jls_pixel.specs.Pixels.{IsRow, AreRows, rows_above, run_value, pixel_shape}
use Rattle.jls_pixel.specs.Events.{Event, events_from, events, events_after}
use Rattle.jls_pixel.specs.Code.{event_bits, bits_of_events, pixel_code}
use Rattle.jls_pixel.specs.Growth.{added, Position, here, IsNext, moved, pixel_steps, start, finish}
use Rattle.jls_pixel.specs.Reads.{Reads}
use Rattle.jls_pixel.specs.Heads.{IsCutCode, IsCutEvent, BeginsWithFirst, IsHead, IsHeadOfPiece}
use Rattle.jls_pixel.proofs.RowsGrow.{grown_full, grown_part, leads_append, rows_grow}
use Rattle.jls_pixel.proofs.CodesApart.{code_is, codes_apart}
use Rattle.jls_pixel.proofs.GrowthEnds.{added_within, some_next, growth_ends}

prefix_rows : (p : CodingParameters) (w c n : ℕ) (rows xs ys : List (List (List ℕ))) → AreRows p w c n rows → rows ≡ xs ++ ys
    → AreRows p w c (length xs) xs
prefix_rows p w c n rows xs ys a e =
    record { count_is = refl; each = all_prefix (IsRow p w c) xs ys (subst (AllByRecursion (IsRow p w c)) e a.each) }

-- the events of rows, and of those after them
events_append : (w c : ℕ) (before xs ys : List (List (List ℕ)))
    → events_after w c before (xs ++ ys) ≡ events_after w c before xs ++ events_after w c (before ++ xs) ys
unfolding events_after
events_append w c before [] ys = ap (λ z. events_after w c z ys) (sym (append-nil before))
events_append w c before (x ∷ xs) ys =
    let own = events_from w c (rows_above before) [] false 0 x in let on = before ++ x ∷ [] in
    ap (λ z. own ++ z) (events_append w c on xs ys
    ∙ ap (λ z. events_after w c on xs ++ events_after w c z ys) (append_assoc before (x ∷ []) xs))
    ∙ sym (append_assoc own (events_after w c on xs) (events_after w c (before ++ x ∷ xs) ys))

bits_append : (p : CodingParameters) (earlier xs ys : List Event)
    → bits_of_events p earlier (xs ++ ys) ≡ bits_of_events p earlier xs ++ bits_of_events p (earlier ++ xs) ys
unfolding bits_of_events
bits_append p earlier [] ys = ap (λ z. bits_of_events p z ys) (sym (append-nil earlier))
bits_append p earlier (x ∷ xs) ys =
    ap (λ z. event_bits p earlier x ++ z)
    (bits_append p (earlier ++ x ∷ []) xs ys
    ∙ ap (λ z. bits_of_events p (earlier ++ x ∷ []) xs ++ bits_of_events p z ys) (append_assoc earlier (x ∷ []) xs))
    ∙ sym (append_assoc (event_bits p earlier x) (bits_of_events p (earlier ++ x ∷ []) xs) (bits_of_events p (earlier ++ x ∷ xs) ys))

-- the code of first rows begins the code
pub code_parts : (p : CodingParameters) (w c : ℕ) (xs ys : List (List (List ℕ)))
    → (tail : List Bool) × (pixel_code p w c (xs ++ ys) ≡ pixel_code p w c xs ++ tail)
unfolding pixel_code
code_parts p w c xs ys =
    let later = events_after w c xs ys in (
      bits_of_events p (events w c xs) later,
      ap (bits_of_events p []) (events_append w c [] xs ys) ∙ bits_append p [] (events w c xs) later,
    )

-- Rows as they grow ---------------------------------------------------------------------------------

module _ (p : CodingParameters) (w c : ℕ) (some : 0 < w) where
  -- how many pixels there are
  abbrev size : Position → ℕ
  size z = length z.rows * w + length z.row

  one_more : (k : ℕ) → (k + 1) * w ≡ k * w + w
  one_more k = let a : k + 1 ≡ suc k = omega arith in ap (λ z. z * w) a ∙ suc-mul k w

  module _ (n : ℕ) where
    abbrev m : StepwiseCode
    m = pixel_steps p w c n

    -- bits that break off in a code cut an event
    pub cut_code_cuts : (given : List Bool) → IsCutCode (pixel_shape p w c n) given → IsCutEvent (pixel_shape p w c n) given
    cut_code_cuts given h =
        let r = cut_steps m start (finish w c h.rows) (events w c h.rows) given h.missing h.more_missing
        (rows_grow p w c n some h.rows h.are_rows) (h.code_is ∙ code_is p w c n h.rows) in
        record {
          whole = r.whole;
          position = r.state;
          leads = r.leads;
          cut = r.cut;
          is_next = r.next;
          begun = r.begun;
          given_is = r.given_is;
          missing = r.missing;
          more_missing = r.more_missing;
          bits_are = r.bits_are;
        }

    ended : (s : Position) → n ≤ length s.rows → (es : List Event) × (z : Position) × (Leads m s es z × IsEnd m z)
    ended s l = ([], s, (refl, λ e a. (let b : length s.rows < n = a.0 in omega arith)))

    Grows : Position → Position → Type 0
    Grows z y = (size z < size y) × (length y.row < w) × ((ext : List (List (List ℕ))) × (y.rows ≡ z.rows ++ ext))

    event_grows : (z : Position) (e : Event) → length z.row < w → IsNext p w c n z e → Grows z (moved w c z e)
    unfolding Grows
    event_grows z e o a =
        let row = z.row ++ added (run_value (here w c z)) e in let es = z.earlier ++ e ∷ [] in
        let f = added_within w c (rows_above z.rows) p z.row e o a.1 in
        elim (cases_lt (length row) w) [
          | inl h ↦ subst (λ (v : Position). Grows z v) (sym (grown_part w z.rows row es h))
              (omega (arith, f), h, ([], sym (append-nil z.rows)))
          | inr h ↦ (
              let q : length row ≡ w = omega (arith, f) in let l = length-append z.rows (row ∷ []) in
              let more : length (z.rows ++ row ∷ []) * w ≡ length z.rows * w + w = ap (λ v. v * w) l ∙ one_more (length z.rows) in
              subst (λ (v : Position). Grows z v) (sym (grown_full w z.rows row es q))
              (omega (arith, f, q, more), some, (row ∷ [], refl)))
        ]

    steps_grow : (es : List Event) (s z : Position) → length s.row < w → Leads m s es z
        → (size s ≤ size z) × (length z.row < w) × ((ext : List (List (List ℕ))) × (z.rows ≡ s.rows ++ ext))
    unfolding Grows
    steps_grow [] s z o l =
        subst (λ (v : Position). (size s ≤ size v) × (length v.row < w) × ((ext : List (List (List ℕ))) × (v.rows ≡ s.rows ++ ext))) l
        (omega arith, o, ([], sym (append-nil s.rows)))
    steps_grow (e ∷ es) s z o l =
        let g = event_grows s e o l.0 in let r = steps_grow es (moved w c s e) z g.1 l.1 in
        (omega (arith, g.0, r.0), r.1, (g.2.0 ++ r.2.0, r.2.1 ∙ ap (λ v. v ++ r.2.0) g.2.1 ∙ append_assoc s.rows g.2.0 r.2.0))

    -- every place leads to an end
    to_end : (fuel : ℕ) (s : Position) → length s.row < w → n * w ≤ fuel + size s
        → (es : List Event) × (z : Position) × (Leads m s es z × IsEnd m z)
    unfolding Grows
    to_end zero s o h =
        elim (cases_lt (length s.rows) n) [
          | inl l ↦ (let q : (length s.rows + 1) * w ≤ n * w = mul-le (length s.rows + 1) w n w (omega arith) (omega arith) in
              let d : (length s.rows + 1) * w ≡ length s.rows * w + w = one_more (length s.rows) in absurd (omega (arith, q, d)))
          | inr l ↦ ended s l
        ]
    to_end (suc fuel) s o h =
        elim (cases_lt (length s.rows) n) [
          | inl l ↦ (
              let e = some_next p w c n some s o l in
              let g = event_grows s e.0 o e.1 in
              let r = to_end fuel (moved w c s e.0) g.1 (omega (arith, g.0)) in
              (e.0 ∷ r.0, r.1, ((e.1, r.2.0), r.2.1)))
          | inr l ↦ ended s l
        ]

  -- with more rows to come
  leads_wider : (k n : ℕ) (es : List Event) (s z : Position) → k ≤ n → Leads (pixel_steps p w c k) s es z
      → Leads (pixel_steps p w c n) s es z
  leads_wider k n [] s z h l = l
  leads_wider k n (e ∷ es) s z h l =
      let a : length s.rows < k = l.0.0 in ((omega arith, l.0.1), leads_wider k n es (moved w c s e) z h l.1)

  -- The head --------------------------------------------------------------------------------------

  module _ (n : ℕ) (given : List Bool) (cut : IsCutEvent (pixel_shape p w c n) given) where
    abbrev steps : StepwiseCode
    steps = pixel_steps p w c n

    abbrev z : Position
    z = cut.position

    abbrev e : Event
    e = cut.cut

    open_row : length z.row < w
    open_row = (steps_grow n cut.whole start z some cut.leads).1

    -- rows in whose code the bits are cut
    later : (es : List Event) × (y : Position) × (Leads steps (moved w c z e) es y × IsEnd steps y)
    unfolding Grows
    later = (let g = event_grows n z e open_row cut.is_next in to_end n (n * w) (moved w c z e) g.1 (omega arith))

    all_events : List Event
    all_events = cut.whole ++ e ∷ later.0

    all_lead : Leads steps start all_events later.1
    unfolding all_events
    all_lead = leads_append steps start z later.1 cut.whole (e ∷ later.0) cut.leads (cut.is_next, later.2.0)

    rows : List (List (List ℕ))
    rows = later.1.rows

    are_rows : AreRows p w c n rows
    unfolding rows
    are_rows = (growth_ends p w c n some all_events later.1 all_lead later.2.1).0

    events_are : cut.whole ++ e ∷ later.0 ≡ events w c rows
    unfolding rows all_events
    events_are = (growth_ends p w c n some all_events later.1 all_lead later.2.1).2

    bits_all : pixel_code p w c rows ≡ bits_of_steps steps start cut.whole
        ++ (event_bits p z.earlier e ++ bits_of_steps steps (moved w c z e) later.0)
    bits_all =
        code_is p w c n rows ∙ ap (bits_of_steps steps start) (sym events_are) ∙ bits_join steps cut.whole (e ∷ later.0) start z cut.leads

    pub cut_code : IsCutCode (pixel_shape p w c n) given
    cut_code =
        let whole = bits_of_steps steps start cut.whole in let rest = bits_of_steps steps (moved w c z e) later.0 in
        record {
          rows = rows;
          are_rows = are_rows;
          missing = cut.missing;
          more_missing = cut.more_missing ++ rest;
          code_is = ap (λ v. v ++ cut.missing ∷ (cut.more_missing ++ rest)) cut.given_is
              ∙ append_assoc whole cut.begun (cut.missing ∷ (cut.more_missing ++ rest))
              ∙ ap (λ v. whole ++ v) (sym (append_assoc cut.begun (cut.missing ∷ cut.more_missing) rest)
              ∙ ap (λ v. v ++ rest) (sym cut.bits_are)) ∙ sym bits_all;
        }

    extends : (ext : List (List (List ℕ))) × (rows ≡ z.rows ++ ext)
    unfolding rows Grows
    extends =
        let g = event_grows n z e open_row cut.is_next in let r = steps_grow n later.0 (moved w c z e) later.1 g.1 later.2.0 in
        (g.2.0 ++ r.2.0, r.2.1 ∙ ap (λ v. v ++ r.2.0) g.2.1 ∙ append_assoc z.rows g.2.0 r.2.0)

    -- first rows, and the events that lead to them
    module _ (xs ys : List (List (List ℕ))) (parts : rows ≡ xs ++ ys) where
      xs_lead : length xs ≤ n → Leads steps start (events w c xs) (finish w c xs)
      xs_lead few = leads_wider (length xs) n (events w c xs) start (finish w c xs) few
          (rows_grow p w c (length xs) some xs (prefix_rows p w c n rows xs ys are_rows parts))

      few_rows : length xs ≤ n
      few_rows = let a = length-append xs ys in let b = ap length parts in let d = are_rows.count_is in omega (arith, a, b, d)

      split : ((x : List Event) × (cut.whole ≡ events w c xs ++ x)) ⊎ ((x : List Event) × (events w c xs ≡ cut.whole ++ e ∷ x))
      split =
          elim (one_begins cut.whole (e ∷ later.0) (events w c xs) (events_after w c xs ys)
          (events_are ∙ ap (events w c) parts ∙ events_append w c [] xs ys)) [
            | inl r ↦ inl (r.0, r.1)
            | inr r ↦ inr (r.0, (let q = r.3 in let h : e ≡ r.1 = cc in r.2 ∙ ap (λ v. cut.whole ++ v ∷ r.0) (sym h)))
          ]

      -- where they are finished before the cut event, their code stands whole
      before_cut : (x : List Event) → cut.whole ≡ events w c xs ++ x → BeginsWithFirst (pixel_shape p w c n) given rows xs
      before_cut x is = record {
        others = ys;
        rows_are = parts;
        unread = bits_of_steps steps (finish w c xs) x ++ cut.begun;
        given_is = cut.given_is ∙ ap (λ v. bits_of_steps steps start v ++ cut.begun) is
            ∙ ap (λ v. v ++ cut.begun) (bits_join steps (events w c xs) x start (finish w c xs) (xs_lead few_rows))
            ∙ append_assoc (bits_of_steps steps start (events w c xs)) (bits_of_steps steps (finish w c xs) x) cut.begun
            ∙ ap (λ v. v ++ (bits_of_steps steps (finish w c xs) x ++ cut.begun)) (sym (code_is p w c n xs));
      }

      size_before : (x : List Event) → cut.whole ≡ events w c xs ++ x → length xs * w ≤ size z
      size_before x is =
          let l = leads_apart steps (events w c xs) x start z (subst (λ v. Leads steps start v z) is cut.leads) in
          let same = one_place steps (events w c xs) start l.0 (finish w c xs) l.1.0 (xs_lead few_rows) in
          let on : Leads steps (finish w c xs) x z = subst (λ v. Leads steps v x z) same l.1.1 in
          let g = steps_grow n x (finish w c xs) z some on in omega (arith, g.0)

      -- where the cut event is one of theirs, they have more pixels than were there before it, and their code has the event's bits
      size_after : (x : List Event) → events w c xs ≡ cut.whole ++ e ∷ x → size z < length xs * w
      unfolding Grows
      size_after x is =
          let l = leads_apart steps cut.whole (e ∷ x) start (finish w c xs)
          (subst (λ v. Leads steps start v (finish w c xs)) is (xs_lead few_rows)) in
          let same = one_place steps cut.whole start l.0 z l.1.0 cut.leads in
          let on : Leads steps z (e ∷ x) (finish w c xs) = subst (λ v. Leads steps v (e ∷ x) (finish w c xs)) same l.1.1 in
          let g = event_grows n z e open_row on.0 in let r = steps_grow n x (moved w c z e) (finish w c xs) g.1 on.1 in
          omega (arith, g.0, r.0)

      not_after : (x : List Event) → events w c xs ≡ cut.whole ++ e ∷ x → BeginsWithFirst (pixel_shape p w c n) given rows xs → ⊥
      not_after x is b =
          let whole = bits_of_steps steps start cut.whole in let rest = bits_of_steps steps (moved w c z e) x in
          let a : pixel_code p w c xs ≡ whole ++ (event_bits p z.earlier e ++ rest) = code_is p w c n xs
          ∙ ap (bits_of_steps steps start) is ∙ bits_join steps cut.whole (e ∷ x) start z cut.leads in
          let d : cut.begun ≡ (event_bits p z.earlier e ++ rest) ++ b.unread =
          append_cancel_left whole cut.begun ((event_bits p z.earlier e ++ rest) ++ b.unread)
          (sym cut.given_is ∙ b.given_is ∙ ap (λ v. v ++ b.unread) a ∙ append_assoc whole (event_bits p z.earlier e ++ rest) b.unread) in
          let l = ap length d in let l1 = length-append (event_bits p z.earlier e ++ rest) b.unread in
          let l2 = length-append (event_bits p z.earlier e) rest in
          let l3 = ap length cut.bits_are in let l4 = length-append cut.begun (cut.missing ∷ cut.more_missing) in
          omega (arith, l, l1, l2, l3, l4)

    begins : BeginsWithFirst (pixel_shape p w c n) given rows z.rows
    begins =
        elim (split z.rows extends.0 extends.1) [
          | inl r ↦ before_cut z.rows extends.0 extends.1 r.0 r.1
          | inr r ↦ (let s = size_after z.rows extends.0 extends.1 r.0 r.1 in absurd (omega arith))
        ]

    longest : (xs : List (List (List ℕ))) → BeginsWithFirst (pixel_shape p w c n) given rows xs → length xs ≤ length z.rows
    longest xs b =
        elim (split xs b.others b.rows_are) [
          | inl r ↦ elim (cases_lt (length z.rows) (length xs)) [
            | inl l ↦ (let s = size_before xs b.others b.rows_are r.0 r.1 in
                let q : (length z.rows + 1) * w ≤ length xs * w =
                mul-le (length z.rows + 1) w (length xs) w (omega arith) (omega arith) in
                let o = open_row in let d = one_more (length z.rows) in absurd (omega (arith, s, q, o, d)))
            | inr l ↦ l
          ]
          | inr r ↦ absurd (not_after xs b.others b.rows_are r.0 r.1 b)
        ]

    pub head_is : IsHead (pixel_shape p w c n) given z.rows
    unfolding cut_code rows
    head_is = inl (cut_code, record { begins = begins; longest = longest })

-- One head ------------------------------------------------------------------------------------------

module _ (p : CodingParameters) (w c n : ℕ) (ok : AreCodingParameters p) (some : 0 < w) (given : List Bool) where
  -- the rows that stand whole are the first of all rows in whose code the bits are cut
  first_of_others : (a b : IsCutCode (pixel_shape p w c n) given) (xs : List (List (List ℕ)))
      → BeginsWithFirst (pixel_shape p w c n) given b.rows xs
      → BeginsWithFirst (pixel_shape p w c n) given a.rows xs
  first_of_others a b xs f =
      let l = length-append xs f.others in let l1 = ap length f.rows_are in let l2 = b.are_rows.count_is in
      let l3 = a.are_rows.count_is in
      let t = first_items (length xs) a.rows (omega (arith, l, l1, l2, l3)) in
      let more = a.missing ∷ a.more_missing in
      let parts = code_parts p w c t.0 t.1 in
      let bits_are : pixel_code p w c xs ++ (f.unread ++ more) ≡ pixel_code p w c t.0 ++ parts.0 =
      sym (append_assoc (pixel_code p w c xs) f.unread more)
      ∙ ap (λ v. v ++ more) (sym f.given_is) ∙ a.code_is ∙ ap (pixel_code p w c) t.2 ∙ parts.1 in
      let wide : AreRows p w c (length xs) t.0 =
      subst (λ k. AreRows p w c k t.0) t.3 (prefix_rows p w c n a.rows t.0 t.1 a.are_rows t.2) in
      let same = codes_apart p w c (length xs) ok some xs t.0 (f.unread ++ more) parts.0
      (prefix_rows p w c n b.rows xs f.others b.are_rows f.rows_are) wide bits_are in
      record { others = t.1; rows_are = t.2 ∙ ap (λ v. v ++ t.1) (sym same.0); unread = f.unread; given_is = f.given_is }

  pub one_head : (xs ys : List (List (List ℕ))) → IsHead (pixel_shape p w c n) given xs → IsHead (pixel_shape p w c n) given ys
      → xs ≡ ys
  one_head xs ys (inl (a, f)) (inl (b, g)) =
      let l = f.longest ys (first_of_others a b ys g.begins) in let k = g.longest xs (first_of_others b a xs f.begins) in
      let e : length ys ≡ length xs = omega arith in
      let x = prefix_rows p w c n a.rows xs f.begins.others a.are_rows f.begins.rows_are in
      let y = subst (λ v. AreRows p w c v ys) e (prefix_rows p w c n b.rows ys g.begins.others b.are_rows g.begins.rows_are) in
      (codes_apart p w c (length xs) ok some xs ys f.begins.unread g.begins.unread x y (sym f.begins.given_is ∙ g.begins.given_is)).0
  one_head xs ys (inl (a, f)) (inr (none, e)) = absurd (none a)
  one_head xs ys (inr (none, e)) (inl (b, g)) = absurd (none b)
  one_head xs ys (inr (none, e)) (inr (none', e')) = e ∙ sym e'

-- a piece that reads is no proper prefix of a code
pub read_has_none : (p : CodingParameters) (w c n : ℕ) → AreCodingParameters p → 0 < w → (piece : List ℕ)
    (xs head : List (List (List ℕ))) → Reads (pixel_shape p w c n) piece xs → IsHeadOfPiece (pixel_shape p w c n) piece head → head ≡ []
read_has_none p w c n ok some piece xs head r (inl (whole, inl (cut, f))) =
    let more = cut.missing ∷ cut.more_missing in let given = bits_read piece in
    let e : pixel_code p w c xs ++ (r.unread ++ more) ≡ pixel_code p w c cut.rows ++ [] =
    sym (append_assoc (pixel_code p w c xs) r.unread more)
    ∙ ap (λ v. v ++ more) (sym r.begins.data_bits.read) ∙ cut.code_is ∙ sym (append-nil (pixel_code p w c cut.rows)) in
    let same = codes_apart p w c n ok some xs cut.rows (r.unread ++ more) [] r.begins.are_rows cut.are_rows e in
    absurd (not_empty r.unread cut.missing cut.more_missing same.1)
read_has_none p w c n ok some piece xs head r (inl (whole, inr (none, e))) = e
read_has_none p w c n ok some piece xs head r (inr (none, e)) = e
