-- What stands at a name, on disks of which each name leads to one file.
use Rattle.std.proofs.Common.{inl, inr, ⊎_elim, ℕ, true, false, [], ◌∷◌, ◌+◌, Option, Some, None, length, cond, refl, ap, arith}
use Rattle.jls_host.specs.Disk.{Disk, Content}
use Rattle.jls_host.specs.Moments.{IsWhole}

abbrev all_lead_to : Content → Disk
all_lead_to content = record { leads = λ n. Some 1; is_plain = λ n. true; has = λ i. content; is_input = λ i. false }

abbrev old_content : Option Content
old_content = Some ([], true)

-- the new bytes, stored for good, are whole
new_is_whole : IsWhole (5 ∷ []) old_content (8 ∷ 9 ∷ []) false (all_lead_to (8 ∷ 9 ∷ [], true))
new_is_whole = record { old_or_new = inr (record { plain = refl; content_is = refl }); older = λ h. cc }

-- the old ones are
old_is_whole : IsWhole (5 ∷ []) old_content (8 ∷ 9 ∷ []) true (all_lead_to ([], true))
old_is_whole = record {
  old_or_new = inl (record { plain = refl; content_is = refl });
  older = λ h. inl
      (inl (record { plain = refl; content_is = refl }));
}

-- a number that tells these contents apart
abbrev weight : Option Content → ℕ
weight None = 0
weight (Some content) = length content.0 + cond content.1 10 0

-- a half of the new bytes is not
half_is_not : IsWhole (5 ∷ []) old_content (8 ∷ 9 ∷ []) false (all_lead_to (8 ∷ [], true)) → ⊥
half_is_not w = ⊎_elim (λ s. absurd (omega (arith, ap weight s.content_is))) (λ s. absurd (omega (arith, ap weight s.content_is))) w.old_or_new

-- nor is all of them, if that is not stored
unstored_is_not : IsWhole (5 ∷ []) old_content (8 ∷ 9 ∷ []) false (all_lead_to (8 ∷ 9 ∷ [], false)) → ⊥
unstored_is_not w =
    ⊎_elim (λ s. absurd (omega (arith, ap weight s.content_is))) (λ s. absurd (omega (arith, ap weight s.content_is))) w.old_or_new
