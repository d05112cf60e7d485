use Rattle.std.proofs.Common.{◌≡◌, ℕ, List, ◌∷◌, [], ◌++◌, ◌∙◌, ap, sym, subst, length, map, arith, append_assoc}
use Rattle.std.proofs.lemmas.List.{map_push, append-nil, nil_from_length}
use Rattle.std.specs.List.{AllZip}
use Rattle.std.specs.Vec.Iter.{into_iter_items}
use Rattle.jls_held.specs.MendedFiles.{MendedFile}
use Rattle.jls_held.specs.Mending.{file_of}
use Rattle.jls_held.specs.HeldPictures.{AreReadingsHeld, HasLinesBefore}
use Rattle.jls_held.specs.Judging.{EditedCopy, AreMendedOf, AreTaken, IsMendedOf, bytes_of, coding_of, codings_of, none, taken, left_out}
use Rattle.jls_held.proofs.judging.judge.Goals as goal

-- proposals: those before are judged, and those left are to be
one_taken : (copies : List (List ℕ)) (all before left later pushed : List (List EditedCopy)) (coding : List EditedCopy) (f : MendedFile)
    → IsMendedOf copies coding f → left ≡ coding ∷ later → pushed ≡ before ++ coding ∷ []
    → ((codings : List (List EditedCopy)) → AreTaken copies left codings → AreTaken copies all (before ++ codings))
    → (codings : List (List EditedCopy)) → AreTaken copies later codings → AreTaken copies all (pushed ++ codings)
one_taken copies all before left later pushed coding f m left_is pushed_is so_far codings t =
    subst (AreTaken copies all) (sym (ap (λ xs. xs ++ codings) pushed_is ∙ append_assoc before (coding ∷ []) codings))
    (so_far (coding ∷ codings) (subst (λ xs. AreTaken copies xs (coding ∷ codings)) (sym left_is) (taken coding f m later codings t)))

-- a proposal of which no file is mended is left out
one_left_out : (copies : List (List ℕ)) (all before left later : List (List EditedCopy)) (proposal : List EditedCopy)
    → ((f : MendedFile) → IsMendedOf copies proposal f → ⊥) → left ≡ proposal ∷ later
    → ((codings : List (List EditedCopy)) → AreTaken copies left codings → AreTaken copies all (before ++ codings))
    → (codings : List (List EditedCopy)) → AreTaken copies later codings → AreTaken copies all (before ++ codings)
one_left_out copies all before left later proposal none_is left_is so_far codings t =
    so_far codings (subst (λ xs. AreTaken copies xs codings) (sym left_is) (left_out proposal none_is later codings t))

AllZip-push : {X Y : Type 0} (R : X → Y → Type 0) (xs : List X) (ys : List Y) (x : X) (y : Y)
    → AllZip R xs ys → R x y → AllZip R (xs ++ x ∷ []) (ys ++ y ∷ [])
AllZip-push R [] [] x y all r = (r, tt)
AllZip-push R [] (b ∷ ys) x y all r = absurd all
AllZip-push R (a ∷ xs) [] x y all r = absurd all
AllZip-push R (a ∷ xs) (b ∷ ys) x y all r = (all.0, AllZip-push R xs ys x y all.1 r)

pub loop-proposal-preserved-in-Continue-branch-4 :
    goal.loop-proposal-preserved-in-Continue-branch-4
loop-proposal-preserved-in-Continue-branch-4 c =
    let l = c.loop-proposal in let copies = bytes_of c.args.copies.now in let proposal = coding_of c.in-Some.proposal.items in
    let file = file_of c.in-Some-2.file in
    let mended = subst (λ es. IsMendedOf copies (coding_of es) file) c.deref.ensures.value (rw c.in-Some-2.is at c.in_ok-file.ensures) in
    let pushed = ap codings_of c.in_ok-push.ensures.items ∙ map_push (λ v. coding_of v.items) l.codings.items c.in-Some.proposal in
    let files = ap (map file_of) c.in_ok-push-2.ensures.items ∙ map_push file_of l.files.items c.in-Some-2.file in
    let fewer = c.in-Some.ensures.steps.1 in let are = ap length c.in-Some.ensures.steps.0 in let left = l.invariant.left in
    record {
      left = omega (arith, fewer, are, left);
      taken = one_taken copies (codings_of c.args.proposals.items) (codings_of l.codings.items) _ _ _ proposal file mended
          (ap codings_of c.in-Some.ensures.steps.0) pushed l.invariant.taken;
      mended = subst (λ cs. AreMendedOf copies cs (map file_of c.push-in-Some-2.new.self.items)) (sym pushed)
          (subst (AreMendedOf copies (codings_of l.codings.items ++ proposal ∷ [])) (sym files)
          (AllZip-push (IsMendedOf copies) (codings_of l.codings.items) (map file_of l.files.items) proposal file l.invariant.mended mended));
    }

-- one proposal more is judged, and taken
pub loop-proposal-preserved : goal.loop-proposal-preserved
loop-proposal-preserved c =
    let l = c.loop-proposal in let copies = bytes_of c.args.copies.now in
    let none_is = rw c.in_default.is at c.in_ok-file.ensures in
    let fewer = c.in-Some.ensures.steps.1 in let are = ap length c.in-Some.ensures.steps.0 in let left = l.invariant.left in
    record {
      left = omega (arith, fewer, are, left);
      taken = one_left_out copies (codings_of c.args.proposals.items) (codings_of l.codings.items) _ _ (coding_of c.in-Some.proposal.items)
          (λ f m. none_is f (subst (λ es. IsMendedOf copies (coding_of es) f) (sym c.deref.ensures.value) m))
          (ap codings_of c.in-Some.ensures.steps.0) l.invariant.taken;
      mended = l.invariant.mended;
    }

-- all proposals are judged
pub returns-clause-taken : goal.returns-clause-taken
returns-clause-taken c =
    let l = c.loop-proposal in let copies = bytes_of c.args.copies.now in
    let none_left = nil_from_length (into_iter_items l.proposal-iterator) (sym l.invariant.left ∙ c.in-None.ensures.steps.0) in
    subst (AreTaken copies (codings_of c.args.proposals.items)) (append-nil (codings_of l.codings.items))
    (l.invariant.taken [] (subst (λ ps. AreTaken copies (codings_of ps) []) (sym none_left) none))

pub returns-clause-held : goal.returns-clause-held
returns-clause-held c =
    subst (λ files. AreReadingsHeld (map file_of files) c.in_ok-held.held) c.deref-2.ensures.value c.in_ok-held.ensures.held

pub returns-clause-before : goal.returns-clause-before
returns-clause-before c =
    subst (λ files. HasLinesBefore (map file_of files) c.in_ok-held.held) c.deref-2.ensures.value c.in_ok-held.ensures.before
