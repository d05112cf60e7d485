-- The columns of a finished line are parted in one way, by the events that can come next.
use Rattle.std.proofs.Common.{◌≡◌, ℕ, zero, suc, ◌+◌, ◌-◌, ◌<◌, ◌≤◌, true, false, eqb, ltb, List, [], ◌∷◌, ◌++◌, length, replicate, drop}
use Rattle.std.proofs.Common.{get_or, refl, sym, ap, ◌∙◌, arith, append_assoc, length-append}
use Rattle.std.specs.List.{prefix_len}
use Rattle.std.proofs.lemmas.List.{append-nil, drop_at, get_or_at, get_or_append_left, length-replicate, nil_from_length}
use Rattle.std.proofs.Math.Numerals.{one-add}
use Rattle.std.proofs.lemmas.Bool.{lt-ltb, le-ltb, eq-eqb, ne_eqb}
use Rattle.jls_values.specs.Params.{CodingParameters}
use Rattle.jls_context.specs.Mode.{is_run_mode}
use Rattle.jls_context.specs.declared.mode.Neighbours.{Neighbours}
use Rattle.jls_interval.specs.Events.{Event, regular, run_to_end, interrupted_run, Above, neighbours, events_from, run_stop, Stretch}
use Rattle.jls_interval.specs.Events.{stretch}
use Rattle.jls_interval.specs.Growth.{Fits, added}

-- an event, and the column after it
abbrev pub to : Event → ℕ → Stretch
to event next = record { event = event; next = next }

pub stretch_same : (a b : Event) (m n : ℕ) → a ≡ b → m ≡ n → to a m ≡ to b n
stretch_same a b m n e f = cc

-- three lists, grouped anew
pub regroup : (a b : List ℕ) (x : ℕ) (c : List ℕ) → a ++ ((b ++ x ∷ []) ++ c) ≡ (a ++ b) ++ x ∷ c
regroup a b x c = ap (λ z. a ++ z) (append_assoc b (x ∷ []) c) ∙ sym (append_assoc a b (x ∷ c))

module _ (w k : ℕ) (up : Above) where
  abbrev pub at : List ℕ → ℕ → Neighbours
  at line x = neighbours w up line x

  pub past : (f : ℕ) (line : List ℕ) (x : ℕ) → w ≤ x → events_from (stretch w k up line) w f x ≡ []
  unfolding events_from
  past zero line x h = refl
  past (suc f) line x h = let t : ltb x w ≡ false = le-ltb x w h in rw t

  -- the events from a column on are the stretch there, and then those from its end on
  pub more : (f : ℕ) (line : List ℕ) (x : ℕ) → x < w
      → events_from (stretch w k up line) w (suc f) x ≡ (stretch w k up line x).event
      ∷ events_from (stretch w k up line) w f (stretch w k up line x).next
  unfolding events_from
  more f line x h = let t : ltb x w ≡ true = lt-ltb x w h in rw t

  pub at_regular : (line : List ℕ) (x : ℕ) → is_run_mode (at line x) ≡ false
      → stretch w k up line x ≡ to (regular (at line x) (get_or line x 0)) (suc x)
  at_regular line x r = rw r

  pub at_end : (line : List ℕ) (x : ℕ) → is_run_mode (at line x) ≡ true → w ≤ run_stop line (at line x).ra x
      → stretch w k up line x ≡ to (run_to_end k (w - x)) w
  at_end line x r s = let u : ltb (run_stop line (at line x).ra x) w ≡ false = le-ltb _ w s in rw (r, u)

  pub at_stop : (line : List ℕ) (x stop : ℕ) → is_run_mode (at line x) ≡ true → run_stop line (at line x).ra x ≡ stop → stop < w
      → stretch w k up line x ≡ to (interrupted_run k (stop - x) (at line stop) (get_or line stop 0)) (suc stop)
  at_stop line x stop r e s = let u : ltb stop w ≡ true = lt-ltb _ w s in rw (r, e, u)

  -- the neighbours of a place need only the samples before it
  pub at_prefix : (line more : List ℕ) (x : ℕ) → x ≤ length line → at (line ++ more) x ≡ at line x
  at_prefix line more zero h = refl
  at_prefix line more (suc x) h = let e : get_or (line ++ more) x 0 ≡ get_or line x 0 = get_or_append_left line more 0 x (omega arith) in
      rw e

  pub run_long : (v n : ℕ) → prefix_len (λ s. eqb s v) (replicate n v) ≡ n
  run_long v zero = refl
  run_long v (suc n) = let t : eqb v v ≡ true = eq-eqb v v refl in rw (t, run_long v n, one-add)

  pub run_short : (v n s : ℕ) (more : List ℕ) → (s ≡ v → ⊥) → prefix_len (λ s. eqb s v) (replicate n v ++ s ∷ more) ≡ n
  run_short v zero s more h = let t : eqb s v ≡ false = ne_eqb s v h in rw t
  run_short v (suc n) s more h = let t : eqb v v ≡ true = eq-eqb v v refl in rw (t, run_short v n s more h, one-add)

  -- an event that fits where the line begins with what it adds is the stretch there
  pub fits_stretch : (p : CodingParameters) (line rest : List ℕ) (e : Event)
      → length line + length (added (at line (length line)).ra e) + length rest ≡ w
      → Fits p w k up line (at line (length line)) e
      → stretch w k up (line ++ (added (at line (length line)).ra e ++ rest)) (length line)
      ≡ to e (length line + length (added (at line (length line)).ra e))
  fits_stretch p line rest (regular near sample) l h =
      let x = length line in let whole = line ++ sample ∷ rest in
      let e1 : at whole x ≡ at line x = at_prefix line (sample ∷ rest) x (omega arith) in
      let e2 : get_or whole x 0 ≡ sample = get_or_at line sample rest 0 x refl in
      let e3 : suc x ≡ x + 1 = omega arith in
      let r : is_run_mode (at whole x) ≡ false = ap is_run_mode e1 ∙ h.0 in
      let s : stretch w k up whole x ≡ to (regular (at whole x) (get_or whole x 0)) (suc x) = at_regular whole x r in
      s ∙ stretch_same (regular (at whole x) (get_or whole x 0)) (regular near sample) (suc x) (x + 1) (let n = h.1 in cc) e3
  fits_stretch p line rest (run_to_end c count) l h =
      let x = length line in let v = (at line x).ra in let whole = line ++ (replicate count v ++ rest) in
      let lr : length (replicate count v) ≡ count = length-replicate count v in
      let hc : x + count ≡ w = h.2 in
      let none : rest ≡ [] = nil_from_length rest (omega arith) in
      let e1 : at whole x ≡ at line x = at_prefix line (replicate count v ++ rest) x (omega arith) in
      let d : drop x whole ≡ replicate count v ++ rest = drop_at line (replicate count v ++ rest) x refl in
      let d' : drop x whole ≡ replicate count v = d ∙ ap (λ z. replicate count v ++ z) none ∙ append-nil (replicate count v) in
      let len : prefix_len (λ s. eqb s v) (drop x whole) ≡ count = ap (prefix_len (λ s. eqb s v)) d' ∙ run_long v count in
      let r : is_run_mode (at whole x) ≡ true = ap is_run_mode e1 ∙ h.0 in
      let st : run_stop whole v x ≡ w = ap (λ z. x + z) len ∙ hc in
      let st' : run_stop whole (at whole x).ra x ≡ w = ap (λ z. run_stop whole z.ra x) e1 ∙ st in
      let s : stretch w k up whole x ≡ to (run_to_end k (w - x)) w = at_end whole x r (omega (arith, st')) in
      let sub : w - x ≡ count = omega arith in
      s ∙ stretch_same (run_to_end k (w - x)) (run_to_end c count) w (x + length (replicate count v)) (let n = h.1 in cc) (omega arith)
  fits_stretch p line rest (interrupted_run c count near sample) l h =
      let x = length line in let v = (at line x).ra in let prefix = line ++ replicate count v in
      let whole = line ++ ((replicate count v ++ sample ∷ []) ++ rest) in
      let lr : length (replicate count v) ≡ count = length-replicate count v in
      let lf : length prefix ≡ x + count = length-append line (replicate count v) ∙ ap (λ z. x + z) lr in
      let hc : x + count < w = h.2 in
      let shape : whole ≡ prefix ++ sample ∷ rest = regroup line (replicate count v) sample rest in
      let e1 : at whole x ≡ at line x = at_prefix line ((replicate count v ++ sample ∷ []) ++ rest) x (omega arith) in
      let e2 : at whole (x + count) ≡ at prefix (x + count) = ap (λ z. at z (x + count)) shape
      ∙ at_prefix prefix (sample ∷ rest) (x + count) (omega arith) in
      let e3 : get_or whole (x + count) 0 ≡ sample = ap (λ z. get_or z (x + count) 0) shape
      ∙ get_or_at prefix sample rest 0 (x + count) lf in
      let d : drop x whole ≡ (replicate count v ++ sample ∷ []) ++ rest =
      drop_at line ((replicate count v ++ sample ∷ []) ++ rest) x refl in
      let d' : drop x whole ≡ replicate count v ++ sample ∷ rest = d ∙ append_assoc (replicate count v) (sample ∷ []) rest in
      let len : prefix_len (λ s. eqb s v) (drop x whole) ≡ count = ap (prefix_len (λ s. eqb s v)) d' ∙ run_short v count sample rest h.5 in
      let r : is_run_mode (at whole x) ≡ true = ap is_run_mode e1 ∙ h.0 in
      let st : run_stop whole v x ≡ x + count = ap (λ z. x + z) len in
      let st' : run_stop whole (at whole x).ra x ≡ x + count = ap (λ z. run_stop whole z.ra x) e1 ∙ st in
      let s : stretch w k up whole x
      ≡ to (interrupted_run k (x + count - x) (at whole (x + count)) (get_or whole (x + count) 0)) (suc (x + count)) =
      at_stop whole x (x + count) r st' hc in
      let sub : x + count - x ≡ count = omega arith in
      let la : length (replicate count v ++ sample ∷ []) ≡ count + 1 = length-append (replicate count v) (sample ∷ [])
      ∙ ap (λ z. z + 1) lr in
      s ∙ stretch_same (interrupted_run k (x + count - x) (at whole (x + count)) (get_or whole (x + count) 0))
      (interrupted_run c count near sample) (suc (x + count)) (x + length (replicate count v ++ sample ∷ []))
      (let n = h.1 in let m = h.3 in cc) (omega arith)
