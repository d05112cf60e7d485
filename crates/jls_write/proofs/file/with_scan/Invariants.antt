use Rattle.std.proofs.Common.{◌≡◌, ◌++◌}
use Rattle.std.specs.List.{flat_map, range_with_len}
use Rattle.jls_write.specs.Parts.{scan_from}
use Rattle.jls_write.specs.WrittenFile.{marked_interval}
use Rattle.jls_write.proofs.file.with_scan.Given as goal

-- the intervals before this one are in the file
abbrev pub invariant-loop-interval : goal.invariant-loop-interval
invariant-loop-interval l =
    let pic = l.part.picture.now in
    l.file.front.items ++ l.file.back.items ≡ (l.initial.file.front.items ++ l.initial.file.back.items)
    ++ flat_map (marked_interval pic (scan_from pic l.part.options l.part.first l.part.count)) (range_with_len 0 l.interval)
