use Rattle.std.proofs.Common.{ℕ, List, ◌++◌, length, ap, append_assoc, ◌∙◌}
use Rattle.std.specs.Int.{w32, w64, to_be_bytes}
use Rattle.std.specs.List.{flat_map}
use Rattle.jls_partial.proofs.writing.put_sources.Goals as goal

-- the number of sources and the sources are put
pub returns : goal.returns
returns c =
    let out = c.args.out.now.items in
    let count = to_be_bytes w64 (length c.args.sources.now) in
    let numbers = flat_map (to_be_bytes w32) c.args.sources.now in
    c.in_ok-put_numbers.ensures
    ∙ ap (λ (t : List ℕ). t ++ numbers) (c.in_ok-extend_from_slice.ensures.items ∙ ap (λ (t : List ℕ). out ++ t) c.to_be_bytes.ensures)
    ∙ append_assoc out count numbers
