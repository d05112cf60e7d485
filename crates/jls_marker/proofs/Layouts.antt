-- The layouts of LSE and DRI agree with what reads them, and numbers of two and four bytes with their bytes.
use Rattle.std.proofs.Common.{◌≡◌, ℕ, zero, suc, ◌/◌, ◌%◌, ◌<◌, ◌^◌, Bool, true, false, cond, List, [], ◌∷◌, ◌++◌}
use Rattle.std.proofs.Common.{drop, get_or, Option, Some, None, Ok, inl, inr, refl, sym, ap, subst, ◌∙◌, arith}
use Rattle.std.specs.Prelude.{nat_lt}
use Rattle.std.specs.Int.{w16, w32, to_be_bytes, from_be_bytes}
use Rattle.std.proofs.lemmas.Bool.{le-ltb, lt-ltb, cases_lt}
use Rattle.std.proofs.lemmas.Nat.{be_bytes_2, be_bytes_4, from_be_bytes-to_be_bytes_2, from_be_bytes-to_be_bytes_4}
use Rattle.jls_values.specs.PresetParameters.{PresetParameters, ArePresetParameters}
use Rattle.jls_marker.specs.Layouts.{preset_bytes, HasPresetLayout, preset_parameters}
use Rattle.jls_marker.specs.Layouts.{HasRestartLayout, restart_interval}
use Rattle.jls_marker.specs.MarkerCodes.{lse, dri}
use Rattle.jls_marker.specs.SegmentLaws.{AreBytes}
use Rattle.jls_marker.specs.Segments.{preset_of, restart_of, segment_of}
use Rattle.jls_marker.specs.Written.{payload_of, restart_payload}
use Rattle.jls_marker.specs.declared.segment.Segment.TheVariants.{Preset, Restart}

abbrev some : {A : Type 0} → A → Option A
some x = Some x

pub some_is : {A : Type 0} (x y : A) → some x ≡ some y → x ≡ y
some_is x y e = cc

-- a value that a test lets through
pub if_some : {A : Type 0} (b : Bool) (x y : A) → cond b (Some x) None ≡ Some y → (b ≡ true) × (x ≡ y)
if_some true x y e = (refl, some_is x y e)
if_some false x y e = absurd cc

pub if_true : {A : Type 0} (b : Bool) (x y : A) → b ≡ true → cond b x y ≡ x
if_true true x y e = refl
if_true false x y e = absurd cc

-- ---- numbers of two and four bytes

-- each of two bytes is below 256
pub two_fit : (a b : ℕ) → a < 256 → b < 256 → (i : ℕ) → get_or (a ∷ b ∷ []) i 0 < 256
two_fit a b p q zero = p
two_fit a b p q (suc zero) = q
two_fit a b p q (suc (suc i)) = omega arith

-- each of four bytes is below 256
four_fit : (a b c d : ℕ) → a < 256 → b < 256 → c < 256 → d < 256 → (i : ℕ) → get_or (a ∷ b ∷ c ∷ d ∷ []) i 0 < 256
four_fit a b c d p q r s zero = p
four_fit a b c d p q r s (suc zero) = q
four_fit a b c d p q r s (suc (suc zero)) = r
four_fit a b c d p q r s (suc (suc (suc zero))) = s
four_fit a b c d p q r s (suc (suc (suc (suc i)))) = omega arith

abbrev pub u16_of : ℕ → ℕ → ℕ
u16_of a b = from_be_bytes w16 (a ∷ b ∷ [])

pub word_again : (a b : ℕ) → a < 256 → b < 256 → to_be_bytes w16 (u16_of a b) ≡ a ∷ b ∷ []
word_again a b p q = be_bytes_2 (a ∷ b ∷ []) (u16_of a b) refl (two_fit a b p q) refl

-- a number of two bytes has 16 bits
pub word_below : (a b : ℕ) → a < 256 → b < 256 → u16_of a b < 2 ^ 16
word_below a b p q = omega arith

-- ---- LSE

abbrev preset_made : ℕ → ℕ → ℕ → ℕ → ℕ → Option PresetParameters
preset_made a b c d e = Some (record { maxval = a; t1 = b; t2 = c; t3 = d; reset = e })

-- the bytes of preset parameters are read as these parameters
preset_again : (p : PresetParameters) → ArePresetParameters p → preset_parameters (preset_bytes p) ≡ Some p
preset_again p h =
    let word = λ (n : ℕ). from_be_bytes w16 (to_be_bytes w16 n) in
    ap (λ (x : ℕ). preset_made x (word p.t1) (word p.t2) (word p.t3) (word p.reset)) (from_be_bytes-to_be_bytes_2 p.maxval h.maxval_below)
    ∙ ap (λ (x : ℕ). preset_made p.maxval x (word p.t2) (word p.t3) (word p.reset)) (from_be_bytes-to_be_bytes_2 p.t1 h.t1_below)
    ∙ ap (λ (x : ℕ). preset_made p.maxval p.t1 x (word p.t3) (word p.reset)) (from_be_bytes-to_be_bytes_2 p.t2 h.t2_below)
    ∙ ap (λ (x : ℕ). preset_made p.maxval p.t1 p.t2 x (word p.reset)) (from_be_bytes-to_be_bytes_2 p.t3 h.t3_below)
    ∙ ap (λ (x : ℕ). preset_made p.maxval p.t1 p.t2 p.t3 x) (from_be_bytes-to_be_bytes_2 p.reset h.reset_below)

pub preset_of_layout : (values : List ℕ) (p : PresetParameters) → HasPresetLayout values p → preset_parameters values ≡ Some p
preset_of_layout values p l = ap preset_parameters l.bytes ∙ preset_again p l.in_range

-- bytes that are read as the values of an LSE have its layout, with these values
pub preset_there : (values : List ℕ) (p : PresetParameters) → AreBytes values → preset_parameters values ≡ Some p → HasPresetLayout values p
preset_there [] p b e = absurd cc
preset_there (a1 ∷ []) p b e = absurd cc
preset_there (a1 ∷ a0 ∷ []) p b e = absurd cc
preset_there (a1 ∷ a0 ∷ b1 ∷ []) p b e = absurd cc
preset_there (a1 ∷ a0 ∷ b1 ∷ b0 ∷ []) p b e = absurd cc
preset_there (a1 ∷ a0 ∷ b1 ∷ b0 ∷ c1 ∷ []) p b e = absurd cc
preset_there (a1 ∷ a0 ∷ b1 ∷ b0 ∷ c1 ∷ c0 ∷ []) p b e = absurd cc
preset_there (a1 ∷ a0 ∷ b1 ∷ b0 ∷ c1 ∷ c0 ∷ d1 ∷ []) p b e = absurd cc
preset_there (a1 ∷ a0 ∷ b1 ∷ b0 ∷ c1 ∷ c0 ∷ d1 ∷ d0 ∷ []) p b e = absurd cc
preset_there (a1 ∷ a0 ∷ b1 ∷ b0 ∷ c1 ∷ c0 ∷ d1 ∷ d0 ∷ e1 ∷ []) p b e = absurd cc
preset_there (a1 ∷ a0 ∷ b1 ∷ b0 ∷ c1 ∷ c0 ∷ d1 ∷ d0 ∷ e1 ∷ e0 ∷ x ∷ more) p b e = absurd cc
preset_there (a1 ∷ a0 ∷ b1 ∷ b0 ∷ c1 ∷ c0 ∷ d1 ∷ d0 ∷ e1 ∷ e0 ∷ []) p b e =
    let q : PresetParameters = record
    { maxval = u16_of a1 a0; t1 = u16_of b1 b0; t2 = u16_of c1 c0; t3 = u16_of d1 d0; reset = u16_of e1 e0 } in
    let fa1 = b.0 in
    let fa0 = b.1.0 in
    let fb1 = b.1.1.0 in
    let fb0 = b.1.1.1.0 in
    let fc1 = b.1.1.1.1.0 in
    let fc0 = b.1.1.1.1.1.0 in
    let fd1 = b.1.1.1.1.1.1.0 in
    let fd0 = b.1.1.1.1.1.1.1.0 in
    let fe1 = b.1.1.1.1.1.1.1.1.0 in
    let fe0 = b.1.1.1.1.1.1.1.1.1.0 in
    let w = λ (n : ℕ). to_be_bytes w16 n in
    let layout : HasPresetLayout (a1 ∷ a0 ∷ b1 ∷ b0 ∷ c1 ∷ c0 ∷ d1 ∷ d0 ∷ e1 ∷ e0 ∷ []) q = record {
      bytes =
          sym (ap (λ (t : List ℕ). t ++ (w q.t1 ++ (w q.t2 ++ (w q.t3 ++ w q.reset)))) (word_again a1 a0 fa1 fa0)
          ∙ ap (λ (t : List ℕ). a1 ∷ a0 ∷ (t ++ (w q.t2 ++ (w q.t3 ++ w q.reset)))) (word_again b1 b0 fb1 fb0)
          ∙ ap (λ (t : List ℕ). a1 ∷ a0 ∷ b1 ∷ b0 ∷ (t ++ (w q.t3 ++ w q.reset))) (word_again c1 c0 fc1 fc0)
          ∙ ap (λ (t : List ℕ). a1 ∷ a0 ∷ b1 ∷ b0 ∷ c1 ∷ c0 ∷ (t ++ w q.reset)) (word_again d1 d0 fd1 fd0)
          ∙ ap (λ (t : List ℕ). a1 ∷ a0 ∷ b1 ∷ b0 ∷ c1 ∷ c0 ∷ d1 ∷ d0 ∷ t) (word_again e1 e0 fe1 fe0));
      in_range = record {
        maxval_below = word_below a1 a0 fa1 fa0;
        t1_below = word_below b1 b0 fb1 fb0;
        t2_below = word_below c1 c0 fc1 fc0;
        t3_below = word_below d1 d0 fd1 fd0;
        reset_below = word_below e1 e0 fe1 fe0;
      };
    } in
    subst (HasPresetLayout (a1 ∷ a0 ∷ b1 ∷ b0 ∷ c1 ∷ c0 ∷ d1 ∷ d0 ∷ e1 ∷ e0 ∷ [])) (some_is q p e) layout

-- ---- DRI

abbrev u32_of : ℕ → ℕ → ℕ → ℕ → ℕ
u32_of a b c d = from_be_bytes w32 (a ∷ b ∷ c ∷ d ∷ [])

four_again : (a b c d : ℕ) → a < 256 → b < 256 → c < 256 → d < 256 → to_be_bytes w32 (u32_of a b c d) ≡ a ∷ b ∷ c ∷ d ∷ []
four_again a b c d p q r s = be_bytes_4 (a ∷ b ∷ c ∷ d ∷ []) (u32_of a b c d) refl (four_fit a b c d p q r s) refl

-- bytes that are read as the interval of a DRI have its layout, with this interval
pub restart_there : (payload : List ℕ) (n : ℕ) → AreBytes payload → restart_interval payload ≡ Some n → HasRestartLayout payload n
restart_there [] n h e = absurd cc
restart_there (a ∷ []) n h e = absurd cc
restart_there (a ∷ b ∷ []) n h e =
    let f = h.0 in
    let g = h.1.0 in
    subst (HasRestartLayout (a ∷ b ∷ [])) (some_is (u32_of 0 0 a b) n e)
    (record {
      length_at_least = omega arith;
      length_at_most = omega arith;
      bytes =
          sym (ap (drop 2) (four_again 0 0 a b (omega arith) (omega arith) f g));
      below = omega arith;
    })
restart_there (a ∷ b ∷ c ∷ []) n h e =
    let f = h.0 in
    let g = h.1.0 in
    let k = h.1.1.0 in
    subst (HasRestartLayout (a ∷ b ∷ c ∷ [])) (some_is (u32_of 0 a b c) n e)
    (record {
      length_at_least = omega arith;
      length_at_most = omega arith;
      bytes =
          sym (ap (drop 1) (four_again 0 a b c (omega arith) f g k));
      below = omega arith;
    })
restart_there (a ∷ b ∷ c ∷ d ∷ []) n h e =
    let f = h.0 in
    let g = h.1.0 in
    let k = h.1.1.0 in
    let m = h.1.1.1.0 in
    subst (HasRestartLayout (a ∷ b ∷ c ∷ d ∷ [])) (some_is (u32_of a b c d) n e)
    (record { length_at_least = omega arith; length_at_most = omega arith; bytes = sym (four_again a b c d f g k m); below = omega arith })
restart_there (a ∷ b ∷ c ∷ d ∷ x ∷ more) n h e = absurd cc

-- the highest bytes of a number that needs fewer
pub restart_of_layout : (payload : List ℕ) (n : ℕ) → HasRestartLayout payload n → restart_interval payload ≡ Some n
restart_of_layout [] n l = absurd (let a = l.length_at_least in omega arith)
restart_of_layout (a ∷ []) n l = absurd (let b = l.length_at_least in omega arith)
restart_of_layout (a ∷ b ∷ []) n l =
    let below : n < 65536 = l.below in
    let x : n / 16777216 % 256 ≡ 0 = omega arith in
    let y : n / 65536 % 256 ≡ 0 = omega arith in
    let following = drop 2 (to_be_bytes w32 n) in
    ap (λ (t : List ℕ). some (from_be_bytes w32 (0 ∷ 0 ∷ t))) l.bytes
    ∙ ap (λ (k : ℕ). some (from_be_bytes w32 (k ∷ 0 ∷ following))) (sym x)
    ∙ ap (λ (k : ℕ). some (from_be_bytes w32 (n / 16777216 % 256 ∷ k ∷ following))) (sym y)
    ∙ ap (λ (k : ℕ). some k) (from_be_bytes-to_be_bytes_4 n (omega arith))
restart_of_layout (a ∷ b ∷ c ∷ []) n l =
    let below : n < 16777216 = l.below in
    let x : n / 16777216 % 256 ≡ 0 = omega arith in
    let following = drop 1 (to_be_bytes w32 n) in
    ap (λ (t : List ℕ). some (from_be_bytes w32 (0 ∷ t))) l.bytes
    ∙ ap (λ (k : ℕ). some (from_be_bytes w32 (k ∷ following))) (sym x)
    ∙ ap (λ (k : ℕ). some k) (from_be_bytes-to_be_bytes_4 n (omega arith))
restart_of_layout (a ∷ b ∷ c ∷ d ∷ []) n l =
    let below : n < 4294967296 = l.below in
    ap (λ (t : List ℕ). some (from_be_bytes w32 t)) l.bytes ∙ ap (λ (k : ℕ). some k) (from_be_bytes-to_be_bytes_4 n below)
restart_of_layout (a ∷ b ∷ c ∷ d ∷ x ∷ more) n l = absurd (let e = l.length_at_most in omega arith)

-- ---- what is written of them

-- what is written of preset parameters is read as these
pub preset_reads_back : (maxval t1 t2 t3 reset : ℕ)
    → ArePresetParameters (record { maxval = maxval; t1 = t1; t2 = t2; t3 = t3; reset = reset })
    → segment_of lse (payload_of (Preset maxval t1 t2 t3 reset)) ≡ Ok (Preset maxval t1 t2 t3 reset)
preset_reads_back maxval t1 t2 t3 reset is =
    let p : PresetParameters = record { maxval = maxval; t1 = t1; t2 = t2; t3 = t3; reset = reset } in ap preset_of (preset_again p is)

-- what is written of a restart interval has the layout of a DRI
restart_layout : (n : ℕ) → n < 2 ^ 32 → HasRestartLayout (restart_payload n) n
restart_layout n lt =
    elim (cases_lt n 65536) [
      | inl a ↦
          let t : nat_lt n 65536 ≡ true = lt-ltb n 65536 a in
          let e : restart_payload n ≡ drop 2 (to_be_bytes w32 n) = rw t refl in
          subst (λ (xs : List ℕ). HasRestartLayout xs n) (sym e)
          (record { length_at_least = omega arith; length_at_most = omega arith; bytes = refl; below = a })
      | inr b ↦
          let f : nat_lt n 65536 ≡ false = le-ltb n 65536 b in
          elim (cases_lt n 16777216) [
            | inl a ↦
                let t : nat_lt n 16777216 ≡ true = lt-ltb n 16777216 a in
                let e : restart_payload n ≡ drop 1 (to_be_bytes w32 n) = rw (f, t) refl in
                subst (λ (xs : List ℕ). HasRestartLayout xs n) (sym e)
                (record { length_at_least = omega arith; length_at_most = omega arith; bytes = refl; below = a })
            | inr c ↦
                let t : nat_lt n 16777216 ≡ false = le-ltb n 16777216 c in
                let e : restart_payload n ≡ to_be_bytes w32 n = rw (f, t) refl in
                subst (λ (xs : List ℕ). HasRestartLayout xs n) (sym e)
                (record { length_at_least = omega arith; length_at_most = omega arith; bytes = refl; below = lt })
          ]
    ]

pub restart_reads_back : (n : ℕ) → n < 2 ^ 32 → segment_of dri (payload_of (Restart n)) ≡ Ok (Restart n)
restart_reads_back n lt = ap restart_of (restart_of_layout (restart_payload n) n (restart_layout n lt))
