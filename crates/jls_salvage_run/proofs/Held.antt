-- What is joined to what is held, or can't be.
use Rattle.std.proofs.Common.{◌≡◌, ℕ, false, List, Option, Some, None, Result, Err, sym, subst}
use Rattle.std.specs.Borrow.{Bor}
use Rattle.jls_values.specs.declared.merge.MergeFault.{MergeFault}
use Rattle.jls_values.specs.declared.merge.MergeFault.TheVariants.{ShapeDiffers, OutOfMemory}
use Rattle.jls_partial.specs.Partial.{PartialPicture, has_same_shape}
use Rattle.jls_partial.specs.Text.{IsTextOf}
use Rattle.jls_partial.specs.TextMerging.{MergesText, HasOtherShape}
use Rattle.jls_partial.specs.TextReading.{Fails, read_text}
use Rattle.jls_partial.specs.declared.text_fault.TextFault.{TextFault}
use Rattle.jls_station.specs.InputFaults.{input_fault_of}
use Rattle.jls_station.specs.declared.input.InputFault.{InputFault}
use Rattle.jls_salvage_run.specs.AllInputs.{CantJoin, differs, runs_out, CantJoinText, refused_text, other_text, JoinsText}
use Rattle.jls_cli.specs.Outcomes.{refusal_at}
use Rattle.jls_cli.specs.declared.outcome.Cause.TheVariants as cause

-- ---- a text

pub text_first : (held : Option PartialPicture) (bytes : List ℕ) (said new : PartialPicture) → held ≡ None → IsTextOf bytes said → new
    ≡ said
    → JoinsText held bytes new
text_first held bytes said new none is_text is =
    subst (λ (h : Option PartialPicture). JoinsText h bytes new) (sym none)
    (record { said = said; is_text = is_text; joined = record { one_shape = tt; union_is = is } })

pub text_merged : (held : Option PartialPicture) (old : PartialPicture) (bytes : List ℕ) (new : PartialPicture) → held ≡ Some old
    → MergesText old bytes new → JoinsText held bytes new
text_merged held old bytes new some m =
    subst (λ (h : Option PartialPicture). JoinsText h bytes new) (sym some)
    (record { said = m.said; is_text = m.is_text; joined = record { one_shape = m.one_shape; union_is = m.union_is } })

pub text_fails : (held : Option PartialPicture) (bytes : List ℕ) (name : Bor (List ℕ)) (f : TextFault) (e : InputFault)
    → e ≡ input_fault_of f → Fails f (read_text bytes) → CantJoinText held bytes (refusal_at name (cause.Input e))
text_fails held bytes name f e is fails =
    subst (λ (x : InputFault). CantJoinText held bytes (refusal_at name (cause.Input x))) (sym is) (refused_text held bytes name f fails)

pub text_differs : (held : Option PartialPicture) (old : PartialPicture) (bytes : List ℕ) (name : Bor (List ℕ)) → held ≡ Some old
    → HasOtherShape old bytes → CantJoinText held bytes (refusal_at name cause.ShapeDiffers)
text_differs held old bytes name some h =
    subst (λ (x : Option PartialPicture). CantJoinText x bytes (refusal_at name cause.ShapeDiffers)) (sym some)
    (other_text old h.said bytes name h.is_text h.other_shape)

-- ---- what a copy gives

-- the partial picture is lent as `q`
module _ (held : Option PartialPicture) (old p q : PartialPicture) (name : Bor (List ℕ)) (some : held ≡ Some old) (lent : q ≡ p) where
  pub copy_differs : has_same_shape old q ≡ false → CantJoin held p (refusal_at name cause.ShapeDiffers)
  copy_differs other =
      subst (λ (h : Option PartialPicture). CantJoin h p (refusal_at name cause.ShapeDiffers)) (sym some)
      (subst (λ (x : PartialPicture). CantJoin (Some old) x (refusal_at name cause.ShapeDiffers)) lent (differs old q name other))

  pub copy_runs_out : (has_same_shape old q ≡ false → ⊥) → CantJoin held p (refusal_at name cause.OutOfMemory)
  copy_runs_out same =
      subst (λ (h : Option PartialPicture). CantJoin h p (refusal_at name cause.OutOfMemory)) (sym some)
      (subst (λ (x : PartialPicture). CantJoin (Some old) x (refusal_at name cause.OutOfMemory)) lent (runs_out old q name same))

-- memory that ran out is no other shape
pub not_both : (r : Result (Unit {0}) MergeFault) (e : MergeFault) → r ≡ Err e → e ≡ OutOfMemory → r ≡ Err ShapeDiffers → ⊥
not_both r e is memory other = cc
