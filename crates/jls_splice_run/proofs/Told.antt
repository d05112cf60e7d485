-- What is told of searches, put together.
use Rattle.std.proofs.Common.{ℕ, Bool, true, false, List, [], ◌++◌, refl, sym, ap, ◌∙◌, subst, append_assoc}
use Rattle.std.proofs.lemmas.List.{append-nil}
use Rattle.jls_io.specs.Event.{Event, GrewBy, History}
use Rattle.jls_io.specs.Writing.{Printed}
use Rattle.jls_io.proofs.Growing.{grew_as, grew_not, grew_on}
use Rattle.jls_splice_run.specs.Lines.{progress_line}
use Rattle.jls_splice_run.specs.Telling.{AreProgressLines, IsTold, no_line, one_line}

told_none : (tells : Bool) → IsTold tells []
told_none true = no_line
told_none false = refl

lines_on : (events more : List Event) → AreProgressLines events → AreProgressLines more → AreProgressLines (events ++ more)
lines_on events _ are no_line = subst AreProgressLines (sym (append-nil events)) are
lines_on events _ are (one_line tries files before last lines printed) =
    subst AreProgressLines (append_assoc events before last)
    (one_line tries files (events ++ before) last (lines_on events before are lines) printed)

told_on : (tells : Bool) (events more : List Event) → IsTold tells events → IsTold tells more → IsTold tells (events ++ more)
told_on true events more a b = lines_on events more a b
told_on false events more a b = ap (λ (xs : List Event). xs ++ more) a ∙ b

-- nothing is told
pub tells_none : (tells : Bool) (h : History) → GrewBy (IsTold tells) h h
tells_none tells h = grew_not (IsTold tells) h (told_none tells)

-- more is told after something
pub tells_on : {old mid new : History} (tells : Bool) → GrewBy (IsTold tells) old mid → GrewBy (IsTold tells) mid new
    → GrewBy (IsTold tells) old new
tells_on {old} {mid} {new} tells h k =
    grew_on (IsTold tells) (IsTold tells) (IsTold tells) old mid new (λ events more a b. told_on tells events more a b) h k

-- one line is told
pub tells_line : {old new : History} (tries files : ℕ) → GrewBy (Printed (progress_line tries files)) old new
    → GrewBy (IsTold true) old new
tells_line {old} {new} tries files h =
    grew_as (Printed (progress_line tries files)) (IsTold true) old new (λ events printed. one_line tries files [] events no_line printed) h
