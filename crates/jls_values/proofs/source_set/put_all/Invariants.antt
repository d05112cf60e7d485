use Rattle.std.proofs.Common.{◌≡◌, ◌+◌, ◌++◌, ◌≤◌, length, take, vec_len, vec_capacity}
use Rattle.std.specs.Ordering.{nat_cmp}
use Rattle.jls_values.specs.OrderedSet as set
use Rattle.jls_values.specs.SourceList.{IsSourceList}
use Rattle.jls_values.proofs.source_set.put_all.Given as goal

-- the numbers so far and those left are a list of sources, with what was put in
abbrev pub invariant-loop-number : goal.invariant-loop-number
invariant-loop-number l = record {
  sources : IsSourceList (l.numbers.items ++ l.left);
  held : set.from_list {R = nat_cmp} (l.numbers.items ++ l.left)
      ≡ set.insert_all (set.from_list (l.fn.numbers.items ++ l.fn.above)) (take l.number-index l.others);
  room : vec_len l.numbers + length l.left + length l.others ≤ vec_capacity l.numbers + l.number-index;
}
