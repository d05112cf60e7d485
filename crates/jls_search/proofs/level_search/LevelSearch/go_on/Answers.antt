use Rattle.std.proofs.Common.{◌+◌, List, subst}
use Rattle.jls_diff.specs.Parts.{Part}
use Rattle.jls_search.specs.Faultless.{IsSought}
use Rattle.jls_search.specs.LevelSearches.{AreGoneOn, paths_of}
use Rattle.jls_search.specs.declared.next_level.LivingPath.{LivingPath}
use Rattle.jls_search.proofs.ReaderLevels.{next_all, read_to}
use Rattle.jls_search.proofs.level_search.LevelSearch.go_on.Goals as goal

pub returns-clause-stands : goal.returns-clause-stands
returns-clause-stands c =
    let ps : List Part = c.args.parts.now in
    let s = c.args.self.now in
    let next = c.in_ok-next.next in
    let went = c.in_ok-next.ensures in
    let stop = c.next_stop-self.ensures in
    record {
      within = stop.within;
      each = read_to ps (s.count + 1) c.next_stop-self.result stop next.living.items went.each;
      all = λ e. next_all (IsSought s.rules.ceiling) ps s.count c.next_stop-self.result s.living.items (paths_of next.living.items)
          (c.requires.stands.all (went.before e))
          (subst (λ (vs : List LivingPath). AreGoneOn (IsSought s.rules.ceiling) ps (s.count + 1) vs (paths_of next.living.items))
          c.deref.ensures.value (went.judged e)) stop;
    }
