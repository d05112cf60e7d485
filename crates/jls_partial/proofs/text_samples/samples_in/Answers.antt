use Rattle.std.proofs.Common.{◌≡◌, ℕ, zero, suc, ◌+◌, ◌<◌, ◌≤◌, List, [], ◌∷◌, ◌++◌, length, get_or, take, drop, refl, sym, ap, subst, ◌∙◌}
use Rattle.std.proofs.Common.{append_assoc, length-append, arith}
use Rattle.std.specs.Int.{w16, from_be_bytes, to_be_bytes}
use Rattle.std.proofs.lemmas.List.Concat.{flat_map-append}
use Rattle.std.proofs.lemmas.List.{append-nil, get_or-drop}
use Rattle.std.proofs.lemmas.Nat.{be_bytes_2}
use Rattle.jls_partial.specs.Text.{samples_text}
use Rattle.jls_partial.proofs.TextFields.{IsBytes}
use Rattle.jls_partial.proofs.text_samples.samples_in.Goals as goal

two_bytes : (a b : ℕ) → a < 256 → b < 256 → IsBytes (a ∷ b ∷ [])
two_bytes a b p q zero = p
two_bytes a b p q (suc zero) = q
two_bytes a b p q (suc (suc i)) = omega arith

bytes_after : (n : ℕ) (rest after : List ℕ) → after ≡ drop n rest → IsBytes rest → IsBytes after
bytes_after n rest after is bytes i = rw (is, get_or-drop) (bytes (n + i))

-- one sample more is read
one_more : (xs rest total prefix after : List ℕ) (x : ℕ) → samples_text xs ++ rest ≡ total → 2 ≤ length rest → IsBytes rest
    → prefix ≡ take 2 rest → after ≡ drop 2 rest → x ≡ from_be_bytes w16 (get_or prefix 0 0 ∷ get_or prefix 1 0 ∷ [])
    → samples_text (xs ++ x ∷ []) ++ after ≡ total
one_more xs [] total prefix after x so_far long bytes prefix_is after_is is = absurd (omega arith)
one_more xs (a ∷ []) total prefix after x so_far long bytes prefix_is after_is is = absurd (omega arith)
one_more xs (a ∷ b ∷ rest) total prefix after x so_far long bytes prefix_is after_is is =
    let pair : x ≡ from_be_bytes w16 (a ∷ b ∷ []) =
    subst (λ (t : List ℕ). x ≡ from_be_bytes w16 (get_or t 0 0 ∷ get_or t 1 0 ∷ [])) prefix_is is in
    let again : to_be_bytes w16 x ≡ a ∷ b ∷ [] = be_bytes_2 (a ∷ b ∷ []) x refl (two_bytes a b (bytes 0) (bytes 1)) pair in
    let text : samples_text (xs ++ x ∷ []) ≡ samples_text xs ++ a ∷ b ∷ [] =
    flat_map-append (to_be_bytes w16) xs (x ∷ []) ∙ ap (λ (t : List ℕ). samples_text xs ++ t) (append-nil (to_be_bytes w16 x) ∙ again) in
    ap (λ (t : List ℕ). samples_text (xs ++ x ∷ []) ++ t) after_is ∙ ap (λ (t : List ℕ). t ++ rest) text
    ∙ append_assoc (samples_text xs) (a ∷ b ∷ []) rest ∙ so_far

-- two bytes more make one sample more
pub loop-preserved : goal.loop-preserved
loop-preserved c =
    let xs = c.loop.samples.items in
    let x = c.from_be_bytes.result in
    let rest = c.loop.rest.now in
    let after = c.split_at.result.1.now in
    let long : 2 ≤ length rest = omega (arith, c.loop.invariant.left, c.loop-test.true) in
    let same : samples_text (xs ++ x ∷ []) ++ after ≡ c.args.bytes.now =
    one_more xs rest c.args.bytes.now c.split_at.result.0.now after x c.loop.invariant.same long c.loop.invariant.bytes
    c.split_at.ensures.front c.split_at.ensures.back c.from_be_bytes.ensures in
    record {
      room = omega (arith, c.loop.invariant.room, c.loop-test.true, c.push_reserved.ensures.len, c.push_reserved.ensures.capacity);
      read = ap (λ (t : List ℕ). length t) c.push_reserved.ensures.items ∙ omega (arith, length-append xs (x ∷ []), c.loop.invariant.read);
      left = omega (arith, c.split_at.ensures.back_len, c.loop.invariant.left, c.loop-test.true);
      bytes = bytes_after 2 rest after c.split_at.ensures.back c.loop.invariant.bytes;
      same = subst (λ (t : List ℕ). samples_text t ++ after ≡ c.args.bytes.now) (sym c.push_reserved.ensures.items) same;
    }
