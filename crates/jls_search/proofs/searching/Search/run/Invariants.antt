use Rattle.std.proofs.Common.{◌≡◌, ◌-◌, ◌<◌, ◌≤◌, ◌⊎◌, length}
use Rattle.std.specs.Prelude.{max, IfSome}
use Rattle.jls_search.specs.Search.{IsAlike, IsAt, IsKeptReader, Tried, lists_of}
use Rattle.jls_search.proofs.searching.Search.run.Given as goal

abbrev pub invariant-loop-alloc : goal.invariant-loop-alloc
invariant-loop-alloc l = record {
  stands : IsAt l.parts l.self;
  alike : IsAlike l.fn.self l.self;
  tried : Tried l.parts l.fn.self l.self;
  tries : l.fn.self.tries ≤ l.self.tries;
  files : length (lists_of l.fn.self.splices.items) ≤ length (lists_of l.self.splices.items);
  within : l.self.tries ≤ max l.fn.self.tries l.most_tries;
  some : (l.fn.self.tries < l.self.tries) ⊎ (l.self ≡ l.fn.self);
  found : IfSome l.fn.self.judge.found (IsKeptReader l.parts) → IfSome l.self.judge.found (IsKeptReader l.parts);
}

abbrev pub decreases-loop-alloc : goal.decreases-loop-alloc
decreases-loop-alloc l = l.most_tries - l.self.tries
