use Rattle.std.proofs.Common.{List, ℕ, ◌++◌, ◌∙◌, ap, sym}
use Rattle.std.specs.List.{flat_map}
use Rattle.std.proofs.lemmas.List.{map-id}
use Rattle.std.proofs.lemmas.Iterator.{YieldsList-from_chars}
use Rattle.std.proofs.lemmas.Iterator.Consumers.{YieldsList-end}
use Rattle.jls_io.specs.Names.{shown_bytes}
use Rattle.jls_io.proofs.Handed.{none_yet, one_more, handed_as}
use Rattle.jls_io.proofs.names.put_name.Goals as goal

pub loop-c-init : goal.loop-c-init
loop-c-init g c = λ line before h. none_yet shown_bytes line _ _ before _ h

pub loop-c-preserved : goal.loop-c-preserved
loop-c-preserved g c = λ line before h.
    one_more shown_bytes line c.loop-c.yielded c.in-Some.c _ _ before _
    (c.put_shown.ensures (line ++ flat_map shown_bytes c.loop-c.yielded) before (c.loop-c.invariant line before h))

-- all characters of the name are put
pub returns : goal.returns
returns g c = λ line before h.
    let t = YieldsList-end (YieldsList-from_chars c.args.name.now c.utf8.name cc) c.loop-c.yielded _ c.loop-c.yielded_by _ _ c.in-None.is
    c.next.ensures.steps in
    handed_as _ _ _ _ before _ (ap (λ (l : List ℕ). line ++ flat_map shown_bytes l) (sym (map-id c.loop-c.yielded) ∙ t.0))
    (c.loop-c.invariant line before h)
