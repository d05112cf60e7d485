use Rattle.std.proofs.Common.{◌≡◌, ℕ, ◌++◌, List, Result, Ok, Err, OnOk, OnErr, sym, subst}
use Rattle.jls_partial.specs.Partial.{PartialPicture, with_source}
use Rattle.jls_partial.specs.Marking.{MarksSome}
use Rattle.jls_headline.specs.Collected.{CollectedFrom, CollectedUnder}
use Rattle.jls_headline.specs.CollectedLaws.{read_again}
use Rattle.jls_headline.specs.Sources.{copies_of}
use Rattle.jls_headline.specs.Stations.{HoldsExactly}
use Rattle.jls_headline.proofs.Collected.{collected_holds, known_from}
use Rattle.jls_callers.proofs.Answered.{ok_both}
use Rattle.jls_callers.proofs.marking.mark_later.Goals as goal

-- marks alone change nothing of what is held
holds_with_marks : (old new : PartialPicture) (source : ℕ) (copies : List (List ℕ)) → MarksSome old source new → HoldsExactly old copies
    → HoldsExactly new copies
holds_with_marks old new source copies some h =
    subst (λ (p : PartialPicture). HoldsExactly p copies) (sym some.new_is)
    (record { are_copies = h.are_copies; readings = h.readings })

either_way : {T E : Type 0} (r : Result T E) (A B C : Type 0) → OnOk r A → OnErr r B → (A → C) → (B → C) → C
either_way (Ok x) A B C a b f g = f a
either_way (Err e) A B C a b f g = g b

pub returns-clause-readings : goal.returns-clause-readings
returns-clause-readings c = λ copies h.
    let old = c.args.partial.now in
    let new = c.mark.new.self in
    let source = c.args.source in
    either_way c.mark.result (new ≡ with_source old source) (MarksSome old source new) (CollectedFrom new copies)
    c.mark.ensures.marked c.mark.ensures.some
    (λ is. subst (λ (p : PartialPicture). CollectedFrom p copies) (sym is) (c.marked_copies_are_held.ensures.marked old copies source h))
    (λ some. known_from new copies (holds_with_marks old new source (copies_of copies) some (collected_holds old copies h)))

pub returns-clause-sources : goal.returns-clause-sources
returns-clause-sources c = λ copies h.
    let old = c.args.partial.now in
    let new = c.mark.new.self in
    let source = c.args.source in
    ok_both c.mark.result (new ≡ with_source old source) (new ≡ with_source old source)
    (CollectedUnder new (copies ++ read_again source copies)) c.mark.ensures.marked c.mark.ensures.marked
    (λ is again. subst (λ (p : PartialPicture). CollectedUnder p (copies ++ read_again source copies)) (sym is)
    (c.marked_copies_are_held.ensures.read_again old copies source h))
