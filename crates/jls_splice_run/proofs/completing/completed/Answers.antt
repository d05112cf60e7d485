use Rattle.std.proofs.Common.{◌≡◌, [], ◌∷◌, ◌++◌, sym, subst, rules}
use Rattle.jls_splice_run.specs.Completing.{EndsAtEoi, IsCompleted, with_eoi, within_eoi, without_eoi, elsewhere}
use Rattle.jls_splice_run.proofs.Eois.{not_so}
use Rattle.jls_splice_run.proofs.completing.completed.Goals as goal

pub returns-then-ends : goal.returns-then-ends
returns-then-ends c =
    let file = c.args.file.now in
    let at : EndsAtEoi file = c.in_ok-ends.ensures.0 c.if-ends.true in
    search (rules, with_eoi at)

pub returns-in-Some : goal.returns-in-Some
returns-in-Some c =
    let file = c.args.file.now in
    let not_at : EndsAtEoi file → ⊥ = not_so c.in_ok-ends.ends (EndsAtEoi file) c.in_ok-ends.ensures c.if-ends.false in
    let there : (c.in-Some.whole.items ≡ file ++ 0xD9 ∷ []) × EndsAtEoi (file ++ 0xD9 ∷ []) = search rules in
    subst (IsCompleted file) (sym there.0) (within_eoi not_at there.1)

pub returns-in-Some-2 : goal.returns-in-Some-2
returns-in-Some-2 c =
    let file = c.args.file.now in
    let not_at : EndsAtEoi file → ⊥ = not_so c.in_ok-ends.ends (EndsAtEoi file) c.in_ok-ends.ensures c.if-ends.false in
    let not_within : EndsAtEoi (file ++ 0xD9 ∷ []) → ⊥ = search rules in
    let there : (c.in-Some-2.whole.items ≡ file ++ 0xFF ∷ 0xD9 ∷ []) × EndsAtEoi (file ++ 0xFF ∷ 0xD9 ∷ []) = search rules in
    subst (IsCompleted file) (sym there.0) (without_eoi not_at not_within there.1)

pub returns : goal.returns
returns c =
    let file = c.args.file.now in
    let not_at : EndsAtEoi file → ⊥ = not_so c.in_ok-ends.ends (EndsAtEoi file) c.in_ok-ends.ensures c.if-ends.false in
    let not_within : EndsAtEoi (file ++ 0xD9 ∷ []) → ⊥ = search rules in
    let not_without : EndsAtEoi (file ++ 0xFF ∷ 0xD9 ∷ []) → ⊥ = search rules in
    search (rules, elsewhere not_at not_within not_without)
