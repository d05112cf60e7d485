use Rattle.std.proofs.Common.{ℕ, List, ◌∷◌, [], ◌++◌, get_or, ap, append_assoc, ◌∙◌}
use Rattle.std.specs.Int.{w16, w64, to_be_bytes}
use Rattle.jls_partial.proofs.writing.put_entry_head.Goals as goal

-- the place and the number of readings are put
pub returns : goal.returns
returns c =
    let out = c.args.out.now.items in
    let at = c.args.at in
    let prefix = c.in_ok-extend_from_slice.ensures.items
    ∙ ap (λ (t : List ℕ). out ++ at.component ∷ get_or t 0 0 ∷ get_or t 1 0 ∷ []) c.to_be_bytes.ensures in
    c.in_ok-extend_from_slice-2.ensures.items
    ∙ (λ i. prefix i ++ c.to_be_bytes-2.ensures i)
    ∙ append_assoc out (at.component ∷ to_be_bytes w16 at.line) (to_be_bytes w64 c.args.count)
