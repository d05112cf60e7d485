-- Bits that cut an event that can come next, case by case.
use Rattle.std.proofs.Common.{◌≡◌, ◌↔◌, ℕ, ◌+◌, ◌-◌, ◌*◌, ◌/◌, ◌%◌, ◌^◌, ◌<◌, ◌≤◌, Bool, true, false, eqb, ltb, List}
use Rattle.std.proofs.Common.{◌∷◌, ◌++◌, length, replicate, refl, sym, ap, ◌∙◌, subst, arith, inl, inr, append_assoc}
use Rattle.std.specs.Prelude.{ℤ, pos, negsuc, ◌+ℤ◌, ◌≤ℤ◌, neg_ℤ}
use Rattle.std.specs.List.{AllByRecursion}
use Rattle.std.proofs.lemmas.Int.{ints}
use Rattle.std.proofs.lemmas.Bool.{cases_lt, cases_eq}
use Rattle.std.proofs.lemmas.Nat.{pow_pos, shl_below, shl-shr}
use Rattle.jls_values.specs.Params.{CodingParameters, AreCodingParameters, range, qbpp, limit}
use Rattle.jls_bits.specs.Bits.{bits}
use Rattle.jls_bits.specs.Golomb.{golomb}
use Rattle.jls_bits.proofs.NumberBits.{bits_more, bits_split}
use Rattle.jls_context.specs.declared.mode.Neighbours.{Neighbours}
use Rattle.jls_context.specs.declared.regular.Cell.{Cell}
use Rattle.jls_context.specs.Mode.{context, is_run_mode, is_negative, with_sign}
use Rattle.jls_context.specs.Errors.{IsError, prediction_error}
use Rattle.jls_context.specs.Regular.{regular_k, regular_mapped}
use Rattle.jls_context.specs.Interruption.{run_k, interruption_mapped}
use Rattle.jls_context.proofs.Samples.{error_range, sample_same, restored}
use Rattle.jls_interval.specs.Events.{Event, regular, run_to_end, interrupted_run, Above, above}
use Rattle.jls_interval.specs.Cells.{is_same, cell_before, run_cell_before, regular_prediction, interruption_error}
use Rattle.jls_interval.specs.Runs.{run_order, run_index_raised, block_columns, Blocks, blocks, run_index_before}
use Rattle.jls_interval.specs.Code.{event_bits, run_to_end_bits, interrupting_bits}
use Rattle.jls_interval.specs.Growth.{Position, here, IsNext, HasSamples}
use Rattle.jls_interval.specs.CutEvents.{IsProperPrefix, CutsNextEvent, CutsSample, CutsBlocks, CutsCount, after_run, CutsInterruption}
use Rattle.jls_interval.specs.CutEvents.{CutsByCases}
use Rattle.jls_interval.proofs.RunPrefixes.{blocks_are, parts_of, to_end_cut, interrupted_bits, interrupted_cut}
use Rattle.jls_interval.proofs.EventsApart.{predicted_small, b_small, small_back}
use Rattle.jls_interval.proofs.CodesApart.{a_small}

-- a sample that has an error against a prediction
sample_with : (p : CodingParameters) (negative : Bool) (x : ℕ) (e f : ℤ) → x ≤ p.maxval → IsError p e → f ≡ with_sign negative e
    → (s : ℕ) × (s ≤ p.maxval) × (prediction_error p negative s x ≡ e)
sample_with p negative x e f small err sign = pick (pos x +ℤ f) refl
  where
    bounds : (b : Bool) → f ≡ with_sign b e → (neg_ℤ (pos (range p)) ≤ℤ f) × (f ≤ℤ pos (range p))
    bounds true h = (omega (arith, ints), omega (arith, ints))
    bounds false h = (omega (arith, ints), omega (arith, ints))

    pick : (z : ℤ) → z ≡ pos x +ℤ f → (s : ℕ) × (s ≤ p.maxval) × (prediction_error p negative s x ≡ e)
    pick (pos m) h =
        let b = bounds negative sign in
        elim (cases_lt p.maxval m) [
          | inl l ↦ (
              let s = m - range p in let small_s : s ≤ p.maxval = omega (arith, ints) in
              (s, small_s, restored p negative s x e f small_s small err sign (inr (inr (omega (arith, ints))))))
          | inr l ↦ (m, l, restored p negative m x e f l small err sign (inl (omega (arith, ints))))
        ]
    pick (negsuc m) h =
        let b = bounds negative sign in
        let s = range p - (m + 1) in let small_s : s ≤ p.maxval = omega (arith, ints) in
        (s, small_s, restored p negative s x e f small_s small err sign (inr (inl (omega (arith, ints)))))

module _ (p : CodingParameters) (ok : AreCodingParameters p) (w c n : ℕ) (z : Position) (small : HasSamples p z)
    (unfinished : length z.line < w) where
  abbrev near : Neighbours
  near = here w c z

  abbrev up : Above
  up = above c z.lines

  abbrev k : ℕ
  k = length z.lines % c

  abbrev r : ℕ
  r = run_index_before z.earlier k

  abbrev there : ℕ → Neighbours
  there count = after_run w up z.line count

  abbrev cell : Cell
  cell = cell_before p z.earlier (context p near)

  -- the code of a sample after a run of so many, and after J bits of its count
  abbrev code_there : ℕ → ℕ → ℕ → List Bool
  code_there count order s = interrupting_bits p (run_cell_before p z.earlier (is_same (there count))) (there count) order s

  above_small : AllByRecursion (λ s. s ≤ p.maxval) up.line_above
  above_small = small_back p z.lines c small.0

  own_small : near.ra ≤ p.maxval
  own_small = a_small p w up z.line (length z.line) above_small small.1

  prediction_small : (count : ℕ) → (there count).rb ≤ p.maxval
  prediction_small count = b_small p w up (z.line ++ replicate count near.ra) (length z.line + count) above_small

  -- the bits of an interrupted run
  run_bits_are : (full rest count : ℕ) (i : Neighbours) (s : ℕ)
      → blocks r count ≡ record { full_blocks = full; run_index = run_index_raised r full; remaining = rest }
      → event_bits p z.earlier (interrupted_run k count i s)
      ≡ interrupted_bits r full rest
      (interrupting_bits p (run_cell_before p z.earlier (is_same i)) i (run_order (run_index_raised r full)) s)
  unfolding event_bits
  run_bits_are full rest count i s e =
      ap (λ (b : Blocks). (replicate b.full_blocks true ++ false ∷ bits (run_order b.run_index) b.remaining)
      ++ interrupting_bits p (run_cell_before p z.earlier (is_same i)) i (run_order b.run_index) s) e

  same_cut : {a b : List Bool} (begun : List Bool) → a ≡ b → IsProperPrefix begun a → IsProperPrefix begun b
  same_cut begun e h = record { missing = h.missing; more_missing = h.more_missing; whole_is = sym e ∙ h.whole_is }

  -- a proper prefix of the bits of an event that can come next, by the kind of the event
  cases : (begun : List Bool) (e : Event) → IsNext p w c n z e → IsProperPrefix begun (event_bits p z.earlier e) → CutsByCases p w c z begun
  unfolding event_bits
  cases begun (regular i s) a h =
      let i_is : i ≡ near = a.1.1 in
      let h' : IsProperPrefix begun (event_bits p z.earlier (regular near s)) =
      subst (λ v. IsProperPrefix begun (event_bits p z.earlier (regular v s))) i_is h in
      inl (
        a.1.0,
        record {
          error = prediction_error p (is_negative p near) s (regular_prediction p cell near);
          is_error = error_range p (is_negative p near) s (regular_prediction p cell near);
          cut = h';
        },
      )
  cases begun (run_to_end k' count) a h =
      let k_is : k' ≡ k = a.1.1 in let all : length z.line + count ≡ w = a.1.2 in let left : count ≡ w - length z.line = omega arith in
      let h' : IsProperPrefix begun (run_to_end_bits (blocks r (w - length z.line))) =
      subst (λ v. IsProperPrefix begun (run_to_end_bits (blocks r v))) left
      (subst (λ v. IsProperPrefix begun (run_to_end_bits (blocks (run_index_before z.earlier v) count))) k_is h) in
      inr (a.1.0, inl (to_end_cut r (w - length z.line) begun h'))
  cases begun (interrupted_run k' count i s) a h =
      let k_is : k' ≡ k = a.1.1 in let within : length z.line + count < w = a.1.2 in let i_is : i ≡ there count = a.1.3 in
      let h1 = subst (λ v. IsProperPrefix begun (event_bits p z.earlier (interrupted_run v count i s))) k_is h in
      let h2 = subst (λ v. IsProperPrefix begun (event_bits p z.earlier (interrupted_run k count v s))) i_is h1 in
      let t = parts_of r count in
      let code = code_there count (run_order (run_index_raised r t.full)) s in
      let h3 = same_cut begun (run_bits_are t.full t.rest count (there count) s t.is) h2 in
      let m = interrupted_cut r t.full t.rest (w - length z.line) code begun t.fits (let q = t.count_is in omega arith) h3 in
      inr (
        a.1.0,
        elim m [
          | inl b ↦ inl b
          | inr q ↦ elim q [
            | inl b ↦ inr (inl b)
            | inr b ↦ inr (inr (record {
              full = t.full;
              remaining = t.rest;
              remaining_fits = t.fits;
              count = count;
              count_is = t.count_is;
              within = within;
              error = interruption_error p (there count) s;
              is_error = error_range p (ltb (there count).rb (there count).ra) s (there count).rb;
              not_own = λ e. a.1.5
                  (sample_same p (ltb (there count).rb (there count).ra) s near.ra (there count).rb a.1.4 own_small
                  (prediction_small count) e);
              code_begun = b.0;
              begun_is = b.1;
              cut = b.2;
            }))
          ]
        ],
      )

  -- an event that can come next, for each case
  abbrev Next : List Bool → Type 0
  Next begun = CutsNextEvent p w c n z begun

  module _ (begun : List Bool) (more : length z.lines < n) where
    from_sample : is_run_mode near ≡ false → CutsSample p cell begun → Next begun
    unfolding event_bits
    from_sample mode h =
        let t = sample_with p (is_negative p near) (regular_prediction p cell near) h.error (with_sign (is_negative p near) h.error)
        (predicted_small p cell near) h.is_error refl in
        record {
          event = regular near t.0;
          is_next = (more, (mode, refl, t.1));
          cut = same_cut begun (ap (λ v. golomb (regular_k cell) (limit p) (qbpp p) (regular_mapped cell v)) (sym t.2)) h.cut;
        }

    module _ (mode : is_run_mode near ≡ true) where
      -- a run that is interrupted by a sample
      interrupted : (full rest count s : ℕ) → rest < 2 ^ run_order (run_index_raised r full) → count ≡ block_columns r full + rest
          → length z.line + count < w → s ≤ p.maxval → (s ≡ near.ra → ⊥)
          → IsProperPrefix begun (interrupted_bits r full rest (code_there count (run_order (run_index_raised r full)) s)) → Next begun
      interrupted full rest count s fits count_is within s_small other h =
          record {
            event = interrupted_run k count (there count) s;
            is_next = (more, (mode, refl, within, refl, s_small, other));
            cut = same_cut begun
                (sym (run_bits_are full rest count (there count) s (ap (blocks r) count_is ∙ blocks_are r full rest fits))) h;
          }

      -- another value than the run's
      another : (s : ℕ) × (s ≤ p.maxval) × (s ≡ near.ra → ⊥)
      another =
          let one = ok.maxval_at_least in
          elim (cases_eq near.ra 0) [ inl e ↦ (1, one, λ q. omega arith) | inr e ↦ (0, omega arith, λ q. e (sym q)) ]

      from_blocks : CutsBlocks r (w - length z.line) begun → Next begun
      from_blocks h =
          let q = pow_pos (run_order (run_index_raised r h.full)) in
          let count = block_columns r h.full in let s = another in
          let order = run_order (run_index_raised r h.full) in let code = code_there count order s.0 in
          interrupted h.full 0 count s.0 (omega arith) (omega arith) (let l = h.columns_left in omega arith) s.1 s.2 (record {
            missing = false;
            more_missing = bits order 0 ++ code;
            whole_is = append_assoc (replicate h.full true) (false ∷ bits order 0) code
                ∙ ap (λ v. v ++ false ∷ (bits order 0 ++ code)) (sym h.begun_is);
          })

      from_count : CutsCount r (w - length z.line) begun → Next begun
      from_count h =
          let order = run_order (run_index_raised r h.full) in let d = order - h.read in let s = another in
          let rest = h.value * 2 ^ d in let count = block_columns r h.full + rest in
          let whole : h.read + d ≡ order = (let l = h.not_whole in omega arith) in
          let fits : rest < 2 ^ order = subst (λ v. rest < 2 ^ v) whole (shl_below h.value h.read d h.value_fits) in
          let code = code_there count order s.0 in
          let parts : bits order rest ≡ bits h.read h.value ++ bits d rest =
          ap (λ v. bits v rest) (sym whole) ∙ bits_split h.read d rest
          ∙ ap (λ v. bits h.read v ++ bits d rest) (shl-shr h.value d) in
          let b = eqb (rest / 2 ^ (d - 1) % 2) 1 in
          let first : bits d rest ≡ b ∷ bits (d - 1) rest = bits_more d rest (let l = h.not_whole in omega arith) in
          let ones = replicate h.full true in
          interrupted h.full rest count s.0 fits refl (let l = h.least_fits in omega arith) s.1 s.2 (record {
            missing = b;
            more_missing = bits (d - 1) rest ++ code;
            whole_is = ap (λ v. (ones ++ false ∷ v) ++ code) (parts ∙ ap (λ v. bits h.read h.value ++ v) first)
                ∙ regrouped ones (bits h.read h.value) b (bits (d - 1) rest) code
                ∙ ap (λ v. v ++ b ∷ (bits (d - 1) rest ++ code)) (sym h.begun_is);
          })
        where
          regrouped : (ones a : List Bool) (x : Bool) (b code : List Bool)
              → (ones ++ false ∷ (a ++ x ∷ b)) ++ code ≡ (ones ++ false ∷ a) ++ x ∷ (b ++ code)
          regrouped ones a x b code =
              append_assoc ones (false ∷ (a ++ x ∷ b)) code ∙ ap (λ v. ones ++ false ∷ v) (append_assoc a (x ∷ b) code)
              ∙ sym (append_assoc ones (false ∷ a) (x ∷ (b ++ code)))

      from_interruption : CutsInterruption p w up z.line z.earlier r begun → Next begun
      from_interruption h =
          let i = there h.count in let negative = ltb i.rb i.ra in
          let t = sample_with p negative i.rb h.error (with_sign negative h.error) (prediction_small h.count) h.is_error refl in
          let order = run_order (run_index_raised r h.full) in let run_cell = run_cell_before p z.earlier (is_same i) in
          let prefix = replicate h.full true ++ false ∷ bits order h.remaining in
          let code_is : interrupting_bits p run_cell i order t.0 ≡ h.code_begun ++ h.cut.missing ∷ h.cut.more_missing =
          ap (λ v. golomb (run_k (is_same i) run_cell) (limit p - order - 1) (qbpp p) (interruption_mapped (is_same i) run_cell v)) t.2
          ∙ h.cut.whole_is in
          interrupted h.full h.remaining h.count t.0 h.remaining_fits h.count_is h.within t.1
          (λ e. h.not_own (sym t.2 ∙ ap (λ v. interruption_error p i v) e)) (record {
            missing = h.cut.missing;
            more_missing = h.cut.more_missing;
            whole_is = ap (λ v. prefix ++ v) code_is
                ∙ sym (append_assoc prefix h.code_begun (h.cut.missing ∷ h.cut.more_missing))
                ∙ ap (λ v. v ++ h.cut.missing ∷ h.cut.more_missing) (sym h.begun_is);
          })

    from_cases : CutsByCases p w c z begun → Next begun
    from_cases (inl (mode, h)) = from_sample mode h
    from_cases (inr (mode, inl h)) = from_blocks mode h
    from_cases (inr (mode, inr (inl h))) = from_count mode h
    from_cases (inr (mode, inr (inr h))) = from_interruption mode h

  pub cut_is : (begun : List Bool) → CutsNextEvent p w c n z begun ↔ ((length z.lines < n) × CutsByCases p w c z begun)
  cut_is begun =
      (λ h. (h.is_next.0, cases begun h.event h.is_next h.cut), λ h. from_cases begun h.0 h.1)
