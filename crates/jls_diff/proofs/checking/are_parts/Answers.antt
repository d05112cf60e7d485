use Rattle.std.proofs.Common.{◌≡◌, length, sym, ◌∙◌, subst, arith, below_more, [], get_or}
use Rattle.std.specs.List.{AllByRecursion}
use Rattle.jls_diff.proofs.Slices.{at_slice, count_of_slices}
use Rattle.jls_diff.specs.Parts.{HasWays, made}
use Rattle.jls_diff.specs.PartsOf.{bytes_of, parts_of}
use Rattle.jls_diff.proofs.checking.are_parts.Goals as goal

pub loop-copy-preserved : goal.loop-copy-preserved
loop-copy-preserved c =
    below_more (λ j. made j (parts_of c.args.parts.now) ≡ get_or (bytes_of c.args.copies.now) j []) c.loop-copy.copy c.loop-copy.invariant
    (c.makes.ensures c.if-not-makes.false ∙ sym (at_slice c.args.copies.now c.loop-copy.copy))

pub returns : goal.returns
returns c = λ _. record {
  ways = subst (λ n. AllByRecursion (HasWays n) (parts_of c.args.parts.now)) (sym (count_of_slices c.args.copies.now))
      (c.parts_have_ways.ensures c.if-not-parts_have_ways.false);
  make = λ j h. let count : length (bytes_of c.args.copies.now) ≡ length c.args.copies.now = count_of_slices c.args.copies.now in
      c.loop-copy.invariant j (let past = c.loop-copy-test.false in omega (arith, h, count, past));
}
