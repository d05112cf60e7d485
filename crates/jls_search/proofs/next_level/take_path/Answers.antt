use Rattle.std.proofs.Common.{◌≡◌, ℕ, List, Option, Some, None, length, refl, sym, ap, ◌∙◌, subst, rules, inl, inr}
use Rattle.std.specs.Prelude.{IfNone, IfSome}
use Rattle.std.specs.List.{AllByRecursion}
use Rattle.jls_diff.specs.Parts.{Part}
use Rattle.jls_search.specs.Choices.{IsPath, prefix_of}
use Rattle.jls_search.specs.Faultless.{IsDead, IsSought}
use Rattle.jls_search.specs.LevelSearches.{IsLiving, paths_of}
use Rattle.jls_search.specs.declared.next_level.LivingPath.{LivingPath}
use Rattle.jls_search.proofs.ReaderLevels.{added, all_insert, living_on, still_added, taken_on}
use Rattle.jls_search.proofs.Sets.{set_of_all}
use Rattle.jls_search.proofs.next_level.take_path.Goals as goal

pub follow-requires-clause-path : goal.follow-requires-clause-path
follow-requires-clause-path c = set_of_all c.args.parts.now c.args.begin.items c.requires.path

pub living_reader-requires-clause-path : goal.living_reader-requires-clause-path
living_reader-requires-clause-path c = subst (IsPath c.args.parts.now) (sym c.deref.ensures.value) c.in_ok-follow.ensures.path.0

pub living_reader-requires-clause-few : goal.living_reader-requires-clause-few
living_reader-requires-clause-few c = c.requires.short c.deref.result.now (living_reader-requires-clause-path c)

pub returns-in_default-clause-taken : goal.returns-in_default-clause-taken
returns-in_default-clause-taken c =
    let Sought : List ℕ → Type 0 = IsSought c.args.ceiling in
    let ps : List Part = c.args.parts.now in
    let on = c.in_ok-follow.ensures in
    let living : List (List ℕ) = paths_of c.args.living.now.items in
    let none : c.in_ok-fed.fed ≡ None = search rules in
    let dead : IsDead Sought (prefix_of ps c.deref.result.now) =
    subst (λ (o : Option (Option (List ℕ))). IfNone o (IsDead Sought (prefix_of ps c.deref.result.now))) none c.in_ok-fed.ensures.dead in
    taken_on Sought ps c.args.begin.items c.follow.new.path.items living living on.path on.stop on.grew on.fixed
    (inr (subst (λ p. IsDead Sought (prefix_of ps p)) c.deref.ensures.value dead)) (λ other was. was)

pub returns-clause-taken : goal.returns-clause-taken
returns-clause-taken c =
    let Sought : List ℕ → Type 0 = IsSought c.args.ceiling in
    let ps : List Part = c.args.parts.now in
    let on = c.in_ok-follow.ensures in
    let old : List LivingPath = c.args.living.now.items in
    let new : List LivingPath = c.insert.new.self.items in
    let p : LivingPath =
    record {
      kept = record { reader = c.in-Some.reader; choices = c.follow.new.path };
      backing = c.backing_on-backing.result;
      saving = c.in_ok-saving.saving;
    } in
    taken_on Sought ps c.args.begin.items c.follow.new.path.items (paths_of old) (paths_of new) on.path on.stop on.grew on.fixed
    (inl (added old new c.place_for-place.result p c.in_ok-insert.ensures.items))
    (still_added old new c.place_for-place.result p c.in_ok-insert.ensures.items)

pub returns-clause-each : goal.returns-clause-each
returns-clause-each c = λ each.
    let ps : List Part = c.args.parts.now in
    let on = c.in_ok-follow.ensures in
    let old : List LivingPath = c.args.living.now.items in
    let p : LivingPath =
    record {
      kept = record { reader = c.in-Some.reader; choices = c.follow.new.path };
      backing = c.backing_on-backing.result;
      saving = c.in_ok-saving.saving;
    } in
    let fed : c.in-Some.reader ≡ Some (prefix_of ps c.deref.result.now) =
    subst (λ (o : Option (Option (List ℕ))). IfSome o (λ r. r ≡ Some (prefix_of ps c.deref.result.now))) c.in-Some.is
    c.in_ok-fed.ensures.living in
    subst (AllByRecursion (IsLiving ps (length c.args.begin.items))) (sym c.in_ok-insert.ensures.items)
    (all_insert (IsLiving ps (length c.args.begin.items)) old c.place_for-place.result p each
    (living_on ps c.args.begin.items c.follow.new.path.items p on.path on.stop on.grew on.fixed
    (fed ∙ ap (λ cs. Some (prefix_of ps cs)) c.deref.ensures.value) refl))
