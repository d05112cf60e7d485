-- With default parameters a picture can be written as JPEG-LS unless an interval is too large.
use Rattle.std.proofs.Common.{inl, inr, ℕ, zero, suc, ◌-◌, ◌*◌, ◌^◌, ◌<◌, ◌≤◌, Bool, List, [], ◌∷◌, length, get_or, refl, sym, subst, arith}
use Rattle.std.specs.Prelude.{All}
use Rattle.std.specs.List.{AllByRecursion}
use Rattle.std.proofs.lemmas.Bool.Decides.{leb_tells}
use Rattle.jls_values.proofs.Lists.{all_at_most}
use Rattle.jls_write.specs.Picture.{WholePicture, line_of}
use Rattle.jls_write.specs.Options.{OptionsFit, components_of_scan, rows_of_interval}
use Rattle.jls_write.specs.WholePictures.{IsLineIn, IsComponentIn, IsPicture}
use Rattle.jls_salvage_run.specs.WritingFiles.{HasTooLarge, options_for}

item_at : {X : Type 0} (P : X → Type 0) (xs : List X) → AllByRecursion P xs → (i : ℕ) (d : X) → i < length xs → P (get_or xs i d)
item_at P [] h i d l = absurd (omega (arith, l))
item_at P (x ∷ xs) h zero d l = h.0
item_at P (x ∷ xs) h (suc i) d l = item_at P xs h.1 i d (omega (arith, l))

module _ (picture : WholePicture) (is : IsPicture picture) (line : Bool) (ri : ℕ) where
  samples_at_most : (c : ℕ) → c < length picture.shape.ids → (y : ℕ) → y < picture.shape.height
      → All (λ sample. sample ≤ 2 ^ picture.shape.precision - 1) (line_of picture c y)
  samples_at_most c inside y below =
      let component = item_at (IsComponentIn picture.shape) picture.lines is.each c []
      (subst (λ (n : ℕ). c < n) (sym is.components) inside) in
      let one = item_at (IsLineIn picture.shape) (get_or picture.lines c []) component.1 y []
      (subst (λ (n : ℕ). y < n) (sym component.0) below) in
      all_at_most (2 ^ picture.shape.precision) (line_of picture c y) one.1

  pub only_too_large : (OptionsFit picture (options_for line ri picture) → ⊥) → HasTooLarge picture (options_for line ri picture)
  only_too_large never =
      let o = options_for line ri picture in
      let size : ℕ = picture.shape.width * components_of_scan picture.shape o * rows_of_interval picture.shape o in
      elim (leb_tells size (2 ^ 28)) [
        | inl w ↦ absurd (never (record { precision = refl; samples = samples_at_most; interval = w.1 }))
        | inr w ↦ w.1
      ]
