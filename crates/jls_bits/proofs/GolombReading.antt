-- Where the bits pushed to a `GolombReader` have come to.
use Rattle.std.proofs.Common.{◌≡◌, ℕ, ◌+◌, ◌^◌, ◌≤◌, Bool, false, [], ◌∷◌, ◌++◌, Decides, eqb, refl, sym, subst}
use Rattle.jls_bits.specs.Golomb.{golomb, BeginsCodeOf}
use Rattle.jls_bits.specs.CodeState.{BeginsCode, bits_fed}
use Rattle.jls_bits.specs.GolombReading.{bits_of, IsProgress}
use Rattle.jls_bits.specs.declared.code_state.CodeState.{CodeState}
use Rattle.jls_bits.specs.declared.golomb_reader.Progress.{Progress}
use Rattle.jls_bits.specs.declared.golomb_reader.Progress.TheVariants.{Open, Done, Refused}
use Rattle.jls_bits.proofs.CodesBegun.{begun_not_whole, begun_not_none, refused_begins_none, whole_decided, refused_decided}

module _ (k g q : ℕ) (room : q + 2 ≤ g) where
  -- bits that begin a code, and aren't all of it, have come to no end
  pub begun_is_open : (p : Progress) → IsProgress k g q p → BeginsCode k g q (bits_of k g q p) → ((s : CodeState) → p ≡ Open s → ⊥) → ⊥
  begun_is_open (Open s) i b h = h s refl
  begun_is_open (Done n) i b h = begun_not_whole k g q room (golomb k g q n) b n (record { has = i; code = refl })
  begun_is_open (Refused s x) i b h =
      let given = bits_fed g q s ++ x ∷ [] in begun_not_none k g q room given b (refused_begins_none k g q room given i)

  -- bits that are a number's code are that of no other
  pub done_allows : (p : Progress) (n m : ℕ) → p ≡ Done n → IsProgress k g q p → m ≤ 2 ^ q
      → Decides (eqb n m) (BeginsCodeOf k g q (bits_of k g q p) m)
  done_allows p n m e i few =
      subst (λ x. Decides (eqb n m) (BeginsCodeOf k g q (bits_of k g q x) m)) (sym e)
      (whole_decided k g q room n m (subst (IsProgress k g q) e i) few)

  -- bits that were refused are the first of no number's code
  pub refused_allows : (p : Progress) (s : CodeState) (x : Bool) (m : ℕ) → p ≡ Refused s x → IsProgress k g q p → m ≤ 2 ^ q
      → Decides false (BeginsCodeOf k g q (bits_of k g q p) m)
  refused_allows p s bit m e i few =
      let given = bits_fed g q s ++ bit ∷ [] in
      subst (λ x. Decides false (BeginsCodeOf k g q (bits_of k g q x) m)) (sym e)
      (refused_decided k g q room given m (subst (IsProgress k g q) e i) few)
