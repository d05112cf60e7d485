use Rattle.std.proofs.Common.{List, ℕ, [], ◌∷◌, Option, arith}
use Rattle.std.specs.Prelude.{IfSome}
use Rattle.jls_marker.specs.SegmentLaws.{AreBytes}
use Rattle.jls_values.proofs.Lists.{all_bytes}
use Rattle.jls_search.specs.Reading.{ReadsMore}
use Rattle.jls_search.proofs.EarlyReads.{if_ok}
use Rattle.jls_search.proofs.Prefixes.{fed_first, of_some}
use Rattle.jls_search.proofs.reading_files.read_copy.Goals as goal

pub returns : goal.returns
returns c =
    let copy : List ℕ = c.args.copy.now in
    let fed : Option (List ℕ) = c.feed.new.self in
    let bytes : AreBytes copy = all_bytes copy (λ k. omega (arith, c.type_inv.copy k)) in
    let is_fed = fed_first fed c.new-reader.result copy c.new-reader.ensures c.in_ok-feed.ensures.ok in
    if_ok c.read_file.result (λ read. IfSome fed (λ file. AreBytes file → ReadsMore c.args.source (file ∷ []) c.args.before read))
    (λ read. ReadsMore c.args.source (copy ∷ []) c.args.before read)
    (λ read said. of_some fed copy (λ file. AreBytes file → ReadsMore c.args.source (file ∷ []) c.args.before read) is_fed said bytes)
    c.read_file.ensures
