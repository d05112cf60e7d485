use Rattle.std.proofs.Common.{ℕ, List, length, take, sym, subst, inl, inr}
use Rattle.jls_values.proofs.Lists.{all_weaker}
use Rattle.jls_diff.specs.Parts.{Part}
use Rattle.jls_search.specs.Faultless.{IsSought}
use Rattle.jls_search.specs.LevelSearches.{IsFoundOrNot, IsReadTo}
use Rattle.jls_search.specs.Search.{lists_of}
use Rattle.jls_search.specs.declared.next_level.LivingPath.{LivingPath}
use Rattle.jls_search.proofs.Lists.{all_at}
use Rattle.jls_search.proofs.Members.{all_one_more}
use Rattle.jls_search.proofs.level_search.take_files.Goals as goal

pub files-preserved : goal.files-preserved
files-preserved c =
    let Sought : List ℕ → Type 0 = IsSought c.args.ceiling in
    let ps : List Part = c.args.parts.now in
    let vs : List LivingPath = c.args.living.now in
    let i = c.files.path-index in
    let v = c.path-item.result in
    let l = c.files-test.true in
    let is : IsReadTo ps (length ps) v =
    subst (IsReadTo ps (length ps)) (sym c.path-item.is) (all_at (IsReadTo ps (length ps)) vs v i l c.requires.whole) in
    let took = c.in_ok-take_file.ensures ps is in
    let old : List (List ℕ) = lists_of c.files.found.splices.items in
    let new : List (List ℕ) = lists_of c.take_file.new.found.splices.items in
    let so_far = c.files.invariant in
    record {
      files = took.files so_far.files;
      judged = all_one_more (IsFoundOrNot Sought ps new) vs i v
          (all_weaker (IsFoundOrNot Sought ps old) (IsFoundOrNot Sought ps new) (take i vs)
          (λ p h. elim h [ inl was ↦ inl (took.still p.kept.choices.items was) | inr not ↦ inr not ]) so_far.judged) l
          (subst (IsFoundOrNot Sought ps new) c.path-item.is took.judged);
      reader = took.reader so_far.reader;
    }
