use Rattle.std.proofs.Common.{◌≡◌, ℕ, ◌-◌, ◌/◌, List, length, map, take, drop, sym, ap, ◌∙◌, subst, arith}
use Rattle.std.proofs.lemmas.List.{take-append-drop, take_all, length-drop}
use Rattle.jls_marker.specs.declared.profile.Profile.TheVariants.{Wide}
use Rattle.jls_bits.specs.declared.writer.BitPlace.{BitPlace}
use Rattle.jls_copy.specs.IntervalOf.{interval_of}
use Rattle.jls_held.specs.Mending.{file_of}
use Rattle.jls_held.specs.FilePieces.{lines_of}
use Rattle.jls_held.specs.Chains.{AreCodeEnds, place_of}
use Rattle.jls_held.proofs.RowPlaces.{places_are, first_bytes}
use Rattle.jls_held.proofs.code_ends.places_of_rows.Goals as goal

-- the ends of rows
pub returns : goal.returns
returns c =
    let p = c.args.piece.now in let f = file_of c.args.file.now in let n = c.data_length.result in let bytes = c.in-Some.bytes.now in
    let placed : c.in_ok-places.places.items ≡ map place_of c.in_ok-ends.ends.items =
    c.in_ok-places.ensures ∙ ap (map place_of) c.deref-2.ensures.value in
    let count : c.len.result ≡ length p.lines.items = omega (arith, c.len.ensures) in
    let rows : c.in-Ok.rows ≡ length p.lines.items / length p.plan.components =
    c.in-Ok.ensures.1 ∙ ap (λ n. n / length c.components-components.result.now) count
    ∙ ap (λ (xs : List ℕ). length p.lines.items / length xs) c.components-components.ensures.value in
    let rest : bytes ≡ drop p.offset f.bytes =
    c.in-Some.ensures.lookup.0.2
    ∙ take_all (length c.deref.result.now - p.offset) (drop p.offset c.deref.result.now)
    (let l = length-drop p.offset c.deref.result.now in omega (arith, l))
    ∙ ap (drop p.offset) c.deref.ensures.value in
    λ is. subst (λ (z : List BitPlace). AreCodeEnds (interval_of p.plan p.interval) is.found.piece.bytes (lines_of p) z) (sym placed)
    (places_are c.broken_piece_begins_with_no_code.ensures (c.pieces_stand_at_their_offsets_under.ensures Wide) f p
    c.components-components.ensures.ranges c.requires.by_sample c.params.result c.width.result (length c.components-components.result.now) c.in-Ok.rows
    c.params.ensures.value c.width.ensures.value (ap length c.components-components.ensures.value) rows (take n bytes) (drop n bytes)
    (take-append-drop n bytes ∙ rest) (first_bytes n bytes c.data_length.ensures.bytes)
    c.data_length.ensures.whole c.in_ok-ends.ends.items c.in_ok-ends.ensures is)
