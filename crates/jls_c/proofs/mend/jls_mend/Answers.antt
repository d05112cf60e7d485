use Rattle.std.proofs.Common.{ap, arith, length, map, refl, subst, sym, ◌∙◌, ℕ, List}
use Rattle.std.specs.Borrow.{Bor}
use Rattle.jls_c.specs.Copies.{AreCopies, AreLists, parted}
use Rattle.jls_c.specs.Mended.{AreMended, AreMendedLonger, AreNotMended}
use Rattle.jls_c.proofs.Mending.{can_be_mended}
use Rattle.jls_c.proofs.mend.jls_mend.Goals as goal
use Rattle.jls_mend.specs.Asking.{AreMendable, BadPlaces, places_of}

pub returns-then-not-are_copies-clause-answers : goal.returns-then-not-are_copies-clause-answers
returns-then-not-are_copies-clause-answers c = (2, omega arith, refl)

pub returns-then-not-are_lists-clause-answers : goal.returns-then-not-are_lists-clause-answers
returns-then-not-are_lists-clause-answers c = (3, omega arith, refl)

pub mend_into-requires : goal.mend_into-requires
mend_into-requires c =
    let sizes = c.args.sizes.now in
    let bytes = c.args.bytes.now in
    let lists = c.args.lists.now in
    let texts = c.args.texts.now in
    let copies_are = ap (λ (copies : List (Bor (List ℕ))). map (λ copy. copy.now) copies) c.deref.ensures.value ∙ c.in-Ok.ensures in
    let bad_are = ap (map places_of) c.deref-2.ensures.value ∙ c.in-Ok-lists_in.ensures in
    let are : AreCopies c.args.options.now sizes bytes lists = c.are_copies.ensures.0 c.if-not-are_copies.false in
    let of : AreLists (length sizes) lists texts = c.are_lists.ensures.0 c.if-not-are_lists.false in
    subst (λ (copies : List (List ℕ)). AreMendable copies (map places_of c.deref-2.result.now)) (sym copies_are)
    (subst (λ (bad : List BadPlaces). AreMendable (parted sizes bytes) bad) (sym bad_are)
    (can_be_mended c.args.options.now sizes bytes lists texts are of))

pub returns-clause-done : goal.returns-clause-done
returns-clause-done c = λ done.
    let copies_are = ap (λ (copies : List (Bor (List ℕ))). map (λ copy. copy.now) copies) c.deref.ensures.value ∙ c.in-Ok.ensures in
    let bad_are = ap (map places_of) c.deref-2.ensures.value ∙ c.in-Ok-lists_in.ensures in
    subst (λ (bad : List BadPlaces). AreMended c.args.options.now (parted c.args.sizes.now c.args.bytes.now) bad c.mend_into.new.info
    c.args.outputs.now c.mend_into.new.outputs c.args.output_sizes.now c.mend_into.new.output_sizes) bad_are
    (subst (λ (copies : List (List ℕ)). AreMended c.args.options.now copies (map places_of c.deref-2.result.now) c.mend_into.new.info
    c.args.outputs.now c.mend_into.new.outputs c.args.output_sizes.now c.mend_into.new.output_sizes) copies_are
    (c.mend_into.ensures.done done))

pub returns-clause-short_room : goal.returns-clause-short_room
returns-clause-short_room c = λ short.
    let copies_are = ap (λ (copies : List (Bor (List ℕ))). map (λ copy. copy.now) copies) c.deref.ensures.value ∙ c.in-Ok.ensures in
    let bad_are = ap (map places_of) c.deref-2.ensures.value ∙ c.in-Ok-lists_in.ensures in
    subst (λ (bad : List BadPlaces). AreMendedLonger c.args.options.now (parted c.args.sizes.now c.args.bytes.now) bad c.mend_into.new.info
    (length c.args.outputs.now) (length c.args.output_sizes.now)) bad_are
    (subst (λ (copies : List (List ℕ)). AreMendedLonger c.args.options.now copies (map places_of c.deref-2.result.now) c.mend_into.new.info
    (length c.args.outputs.now) (length c.args.output_sizes.now)) copies_are
    (c.mend_into.ensures.short_room short))

pub returns-clause-not_mended : goal.returns-clause-not_mended
returns-clause-not_mended c = λ stopped.
    let copies_are = ap (λ (copies : List (Bor (List ℕ))). map (λ copy. copy.now) copies) c.deref.ensures.value ∙ c.in-Ok.ensures in
    let bad_are = ap (map places_of) c.deref-2.ensures.value ∙ c.in-Ok-lists_in.ensures in
    subst (λ (bad : List BadPlaces). AreNotMended c.args.options.now (parted c.args.sizes.now c.args.bytes.now) bad c.mend_into.new.info) bad_are
    (subst (λ (copies : List (List ℕ)). AreNotMended c.args.options.now copies (map places_of c.deref-2.result.now) c.mend_into.new.info)
    copies_are (c.mend_into.ensures.not_mended stopped))
