use Rattle.std.proofs.Common.{◌≡◌, ℕ, ◌^◌, ◌<◌, ◌≤◌, List, [], ◌∷◌, ◌++◌, length, refl, sym, ap, subst, ◌∙◌, append_assoc, arith}
use Rattle.std.specs.Prelude.{All, Ok}
use Rattle.std.specs.Int.{w16, to_be_bytes}
use Rattle.std.proofs.lemmas.Bool.{lt-leb}
use Rattle.std.proofs.lemmas.List.Concat.{flat_map-cons}
use Rattle.std.proofs.lemmas.List.Elements.{All-head, All-tail}
use Rattle.jls_partial.specs.Text.{samples_text}
use Rattle.jls_partial.specs.TextReading.{sample_field, samples_fields}
use Rattle.jls_partial.proofs.TextFields.{wide16, number_again}
use Rattle.jls_partial.proofs.text_samples.read_samples_below.Goals as goal

small_again : (size limit x : ℕ) (rest : List ℕ) → x < 2 ^ 16 → x < limit → sample_field size limit (to_be_bytes w16 x ++ rest)
    ≡ Ok (x, rest)
unfolding sample_field
small_again size limit x rest lt below = rw (number_again size w16 (2 ^ 16) wide16 x rest lt, lt-leb limit x below) refl

-- samples that are below the limit are read again, whatever follows
all_again : (size limit most : ℕ) (xs rest : List ℕ) → most < 2 ^ 16 → most < limit → All (λ x. x ≤ most) xs
    → samples_fields size limit (length xs) (samples_text xs ++ rest) ≡ Ok (xs, rest)
unfolding samples_fields
all_again size limit most [] rest lt below all = refl
all_again size limit most (x ∷ xs) rest lt below all =
    let le : x ≤ most = All-head (λ y. y ≤ most) x xs all in
    let first : sample_field size limit (to_be_bytes w16 x ++ (samples_text xs ++ rest)) ≡ Ok (x, samples_text xs ++ rest) =
    small_again size limit x (samples_text xs ++ rest) (omega arith) (omega arith) in
    let others = all_again size limit most xs rest lt below (All-tail (λ y. y ≤ most) x xs all) in
    let regrouped : samples_text (x ∷ xs) ++ rest ≡ to_be_bytes w16 x ++ (samples_text xs ++ rest) =
    ap (λ (t : List ℕ). t ++ rest) (flat_map-cons (to_be_bytes w16) x xs) ∙ append_assoc (to_be_bytes w16 x) (samples_text xs) rest in
    ap (samples_fields size limit (length (x ∷ xs))) regrouped ∙ rw (first, others) refl

-- all samples are there and below the limit, so that they are those of the text
pub returns : goal.returns
returns c size =
    let xs = c.in_ok-samples.samples.items in
    let rest = c.split_at.result.1.now in
    let most = c.largest.result in
    let all : All (λ x. x ≤ most) xs = subst (All (λ x. x ≤ most)) c.deref.ensures.value c.largest.ensures in
    let again = all_again size c.args.limit most xs rest (omega (arith, c.largest.type_inv)) c.if-limit-largest.false all in
    let whole : c.args.bytes.now ≡ samples_text xs ++ rest = c.split_at.ensures.by_index.0
    ∙ ap (λ (t : List ℕ). t ++ rest) (sym c.in_ok-samples.ensures.text) in
    subst (λ (t : List ℕ). samples_fields size c.args.limit c.args.count t ≡ Ok (xs, rest)) (sym whole)
    (subst (λ (n : ℕ). samples_fields size c.args.limit n (samples_text xs ++ rest) ≡ Ok (xs, rest)) c.in_ok-samples.ensures.count again)
