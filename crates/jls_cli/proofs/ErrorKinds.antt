-- What a caller of clap reads of its answer, of a program that is a simple command.
use Rattle.std.proofs.Common.{◌≡◌, ◌∙◌, ap, sym, subst, true, inl, inr, refl, List, Result, Ok, Err}
use Rattle.std.specs.Prelude.{◌⊎◌, IfOk, IfErr}
use Rattle.std.proofs.lemmas.Bool.{and_parts}
use Rattle.clap.specs.declared.error.kind.ErrorKind.{ErrorKind}
use Rattle.clap.specs.Words.{App, FailsBy, HasKind, HasMatchesOf, IsAmong, Text, fault_of, found_of, is_simple_and_free, kind_of}
use Rattle.clap.specs.Words.{matches_of, rows_of, subcommand_of, subcommand_rows_of, takes}
use Rattle.clap.specs.declared.error.Error.{Error}
use Rattle.clap.specs.declared.parser.matches.ArgMatches.{ArgMatches}
use Rattle.clap.specs.declared.error.kind.ErrorKind.TheVariants as kind
use Rattle.jls_cli.specs.Words.{RefusesWords, TakesFaultless, TakesWords}

memory_or_not : (k : ErrorKind) → (k ≡ kind.OutOfMemory) ⊎ (k ≡ kind.OutOfMemory → ⊥)
memory_or_not kind.OutOfMemory = inl refl
memory_or_not other = inr (λ e. absurd cc)

-- what clap's answer to some words says of a program that is simple, and takes the words in which there is no fault
module _ (of : App) (simple : is_simple_and_free of ≡ true) (faultless : TakesFaultless of) (app : App) (words : List Text)
    (is_app : app ≡ of) where
  -- words that are read are taken, and the rows are theirs; words that are taken are refused for want of memory alone; and words that
  -- are refused have a fault of this kind, unless memory ran out
  pub answered : (r : Result ArgMatches Error) → IfErr r (λ e. takes app words ≡ true → kind_of e ≡ kind.OutOfMemory)
      → (is_simple_and_free app ≡ true → FailsBy (fault_of app words) r) → IfOk r (λ m. HasMatchesOf app words m)
      → IfOk r (λ _. TakesWords of words) × IfErr r (λ e. TakesWords of words → kind_of e ≡ kind.OutOfMemory)
      × IfErr r (λ e. (kind_of e ≡ kind.OutOfMemory) ⊎ RefusesWords of words (kind_of e))
      × IfOk r (λ m. rows_of (found_of m) ≡ matches_of of words) × IfOk r (λ m. subcommand_rows_of m ≡ subcommand_of of words)
  answered (Ok m) passes h matches =
      let rows = subst (λ (a : App). HasMatchesOf a words m) is_app matches (and_parts _ _ simple).0 in
      let no_fault = ap (λ (a : App). fault_of a words) (sym is_app) ∙ h (ap is_simple_and_free is_app ∙ simple) in
      ((faultless words).1 no_fault, tt, tt, rows.0, rows.1)
  answered (Err e) passes h matches = (tt, for_memory, by_kind (memory_or_not (kind_of e)), tt, tt)
    where
      has : HasKind (fault_of of words) e
      has = subst (λ (a : App). HasKind (fault_of a words) e) is_app (h (ap is_simple_and_free is_app ∙ simple))

      for_memory : TakesWords of words → kind_of e ≡ kind.OutOfMemory
      for_memory taken = passes (ap (λ (a : App). takes a words) is_app ∙ taken)

      among : HasKind (fault_of of words) e → (kind_of e ≡ kind.OutOfMemory → ⊥) → IsAmong (kind_of e) (fault_of of words)
      among (inl is) other = absurd (other is)
      among (inr is) other = is

      by_kind : (kind_of e ≡ kind.OutOfMemory) ⊎ (kind_of e ≡ kind.OutOfMemory → ⊥)
          → (kind_of e ≡ kind.OutOfMemory) ⊎ RefusesWords of words (kind_of e)
      by_kind (inl is) = inl is
      by_kind (inr other) = inr (record { not_taken = λ taken. other (for_memory taken); found = among has other })
