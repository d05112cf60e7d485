use Rattle.std.proofs.Common.{◌∙◌, ◌++◌, List, ℕ, ap}
use Rattle.std.specs.Int.{w32, to_be_bytes}
use Rattle.std.specs.List.{flat_map}
use Rattle.jls_partial.specs.Text.{head_text, entry_text, entries}
use Rattle.jls_partial.specs.declared.version.Version.TheVariants.{Two}
use Rattle.jls_partial.proofs.partial.Partial.to_bytes_in.Goals as goal

-- the bytes are the text of the picture
pub returns : goal.returns
returns c =
    let p = c.args.self.now in
    let head = c.in_ok-put_head.ensures ∙ (λ i. c.clear.ensures.items i ++ head_text Two (c.shape.ensures.value i)) in
    let count = c.to_be_bytes.ensures ∙ ap (to_be_bytes w32) c.entry_count.ensures in
    c.in_ok-put_entries.ensures
    ∙ ap (λ (t : List ℕ). t ++ flat_map (entry_text Two) (entries p))
    (c.in_ok-reserve.ensures.items ∙ c.in_ok-extend_from_slice.ensures.items ∙ (λ i. head i ++ count i))
