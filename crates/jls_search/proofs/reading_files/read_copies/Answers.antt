use Rattle.std.proofs.Common.{ℕ, List, [], Bor, take, sym, subst, arith}
use Rattle.std.proofs.lemmas.List.{take_all}
use Rattle.jls_diff.specs.PartsOf.{bytes_of}
use Rattle.jls_search.specs.Reading.{AreRead}
use Rattle.jls_search.specs.Seen.{AreSeen}
use Rattle.jls_search.proofs.Members.{map_one_more}
use Rattle.jls_search.proofs.reading_files.read_copies.Goals as goal

pub loop-copy-init : goal.loop-copy-init
loop-copy-init c = record { seen = subst (AreSeen []) (sym c.new.ensures.items) tt; taken = tt }

pub loop-copy-preserved : goal.loop-copy-preserved
loop-copy-preserved c =
    subst (λ (files : List (List ℕ)). AreRead c.args.source files c.in_ok-read.read)
    (sym (map_one_more (λ (slice : Bor (List ℕ)). slice.now) c.args.copies.now c.loop-copy.copy-index _ c.loop-copy-test.true))
    (c.in_ok-read.ensures (bytes_of (take c.loop-copy.copy-index c.args.copies.now)) c.loop-copy.invariant)

pub returns : goal.returns
returns c =
    subst (λ (copies : List (Bor (List ℕ))). AreRead c.args.source (bytes_of copies) c.loop-copy.read)
    (take_all c.loop-copy.copy-index c.args.copies.now (omega (arith, c.loop-copy-test.false))) c.loop-copy.invariant
