use Rattle.std.proofs.Common.{◌≡◌, List, true, map, sym, ap, ◌∙◌, subst}
use Rattle.std.specs.List.{Contains}
use Rattle.std.proofs.lemmas.Bool.{false≢true}
use Rattle.std.proofs.lemmas.List.Elements.{Contains-get_or}
use Rattle.jls_values.proofs.Lists.{in_map}
use Rattle.jls_values.specs.Shape.{PictureShape}
use Rattle.jls_values.specs.OrderedSetLaws.{contains-empty}
use Rattle.jls_partial.specs.Reading.{Reading, reading_cmp}
use Rattle.jls_partial.specs.Partial.{PartialPicture, nothing_known}
use Rattle.jls_held.specs.MendedFiles.{MendedFile}
use Rattle.jls_held.specs.HeldPictures.{is_among}
use Rattle.jls_held.specs.Mending.{file_of}
use Rattle.jls_held.specs.Chains.{AreChains, IsHeldPicture}
use Rattle.jls_held.proofs.holding.held_lines.Goals as goal

-- the chains of one file more are added
pub loop-file-preserved : goal.loop-file-preserved
loop-file-preserved c =
    let given = c.args.files.now in let l = c.loop-file in
    let among = subst (Contains given) (sym c.file-item.is) (Contains-get_or given l.file-index c.file-item.result c.loop-file-test.true) in
    c.in_ok-add_chains.ensures (map file_of given) (in_map file_of given c.file-item.result among) l.invariant

-- the readings of the files are added to none
none_yet : (files : List MendedFile) (p : PartialPicture) (shape : PictureShape) → p ≡ nothing_known shape → IsHeldPicture files p
none_yet files p shape is = record { held = λ r e. absurd (none r e); before = λ r e. absurd (none r e) }
  where
    none : (r : Reading) → is_among p r ≡ true → ⊥
    none r e = false≢true (sym (contains-empty reading_cmp r) ∙ ap (λ (q : PartialPicture). is_among q r) (sym is) ∙ e)

pub returns-clause-held : goal.returns-clause-held
returns-clause-held c =
    let files = map file_of c.args.files.now in
    (c.in_ok-take_held.ensures.held files (subst (AreChains files) (sym c.deref.ensures.value) c.loop-file.invariant)
    (none_yet files _ _ c.empty-held.ensures)).held

pub returns-clause-before : goal.returns-clause-before
returns-clause-before c =
    let files = map file_of c.args.files.now in
    (c.in_ok-take_held.ensures.held files (subst (AreChains files) (sym c.deref.ensures.value) c.loop-file.invariant)
    (none_yet files _ _ c.empty-held.ensures)).before
