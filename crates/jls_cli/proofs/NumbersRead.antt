-- A number of some bits, read from a text.
use Rattle.std.proofs.Common.{◌≡◌, ◌<◌, ◌≤◌, ℕ, Bool, true, false, Some, None, Result, Ok, Err, refl, arith}
use Rattle.std.specs.Prelude.{◌^◌, ◌+◌}
use Rattle.std.specs.Str.Parse.{ParsesUnsigned}
use Rattle.clap.specs.Words.{Text}
use Rattle.clap.specs.ValueTests.{is_unsigned_in}
use Rattle.clap.specs.declared.builder.value_parser.ValueParser.TheVariants as vp
use Rattle.clap.proofs.ValueTestLemmas.{accepts-Accepts, Accepts-accepts}
use Rattle.jls_cli.specs.Words.{number_in}

module _ (bits most : ℕ) (is : 2 ^ bits ≡ most + 1) (fits : most < 2 ^ 64) (least : ℕ) {E : Type 0} (text : Text) where
  pub number_read : (r : Result ℕ E) (n : ℕ) → ParsesUnsigned bits 10 text r → r ≡ Ok n → least ≤ n → Some n ≡ number_in least most text
  number_read (Ok m) n h e low =
      let same : m ≡ n = cc in
      let passes : is_unsigned_in least most text ≡ true =
      Accepts-accepts false (vp.Unsigned least most) text
      (h.0.0, omega (arith, h.0.1, is, fits), omega (arith, h.1, same, low), omega (arith, h.0.1, is))
      in
      rw passes (rw (← same) (rw (h.1) refl))
  number_read (Err f) n h e low = absurd cc

  pub number_low : (r : Result ℕ E) (n : ℕ) → ParsesUnsigned bits 10 text r → r ≡ Ok n → n < least → None ≡ number_in least most text
  number_low (Ok m) n h e low = go (is_unsigned_in least most text) refl
    where
      go : (b : Bool) → is_unsigned_in least most text ≡ b → None ≡ number_in least most text
      go false t = rw t refl
      go true t =
          let k = accepts-Accepts false (vp.Unsigned least most) text t in
          let same : m ≡ n = cc in
          absurd (omega (arith, k.2, h.1, same, low))
  number_low (Err f) n h e low = absurd cc

  pub number_refused : (r : Result ℕ E) (f : E) → ParsesUnsigned bits 10 text r → r ≡ Err f → None ≡ number_in least most text
  number_refused (Ok m) f h e = absurd cc
  number_refused (Err g) f h e = go (is_unsigned_in least most text) refl
    where
      go : (b : Bool) → is_unsigned_in least most text ≡ b → None ≡ number_in least most text
      go false t = rw t refl
      go true t =
          let k = accepts-Accepts false (vp.Unsigned least most) text t in
          absurd (h (k.0, omega (arith, k.3, is)))
