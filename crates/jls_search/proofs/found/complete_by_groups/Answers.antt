use Rattle.std.proofs.Common.{◌≡◌, ℕ, Bool, false, List, length, take, drop, Some, Vec, Global, ap, sym, ◌∙◌, ◌++◌, subst, arith}
use Rattle.std.proofs.Common.{length-append, inl, inr}
use Rattle.std.specs.List.{AllByRecursion}
use Rattle.jls_diff.specs.PartsOf.{bytes_of}
use Rattle.jls_search.specs.Choices.{IsWhole}
use Rattle.jls_search.specs.Faultless.{IsSought}
use Rattle.jls_search.specs.Search.{lists_of}
use Rattle.jls_search.specs.Found.{IsFound, IsGroupSearch, by_groups_of}
use Rattle.jls_search.specs.GroupTries.{AreGroupsSearched}
use Rattle.jls_search.specs.declared.found.GroupsReported.{GroupsReported}
use Rattle.jls_search.proofs.FoundMore.{all_is, prefix_is, group_search, found_whole, found_groups, files_whole, files_groups}
use Rattle.jls_search.proofs.FoundMore.{whole_of_found, whole_of_both}
use Rattle.jls_diff.specs.declared.group.Group.{Group}
use Rattle.jls_search.proofs.found.complete_by_groups.Goals as goal

-- what the splices are, with those after them that were given
appended : (vs : List (Vec ℕ Global)) (given by : Vec (Vec ℕ Global) Global) (all : List (Vec ℕ Global)) → all ≡ vs ++ given.items → given
    ≡ by
    → all ≡ vs ++ by.items
appended vs given by all e is = e ∙ ap (λ (v : Vec (Vec ℕ Global) Global). vs ++ v.items) is

pub returns-then-not-wants-clause-found : goal.returns-then-not-wants-clause-found
returns-then-not-wants-clause-found c =
    let vs = c.args.searched.splices.items in
    let at : c.len-whole.result ≡ length vs = c.len-whole.ensures ∙ c.args.searched.splices.ok.0 in
    let no = c.wants_groups-wants.ensures.no c.if-not-wants.true in
    found_whole c.args.searched.ceiling (bytes_of c.args.copies.now) c.args.parts vs c.len-whole.result c.args.searched.is_used_up
    c.requires.parts c.requires.searched at no.0 no.1

pub returns-then-not-wants-clause-splices : goal.returns-then-not-wants-clause-splices
returns-then-not-wants-clause-splices c =
    let vs = c.args.searched.splices.items in
    let at : c.len-whole.result ≡ length vs = c.len-whole.ensures ∙ c.args.searched.splices.ok.0 in
    files_whole c.args.parts vs c.len-whole.result at

pub returns-then-not-wants-clause-kept : goal.returns-then-not-wants-clause-kept
returns-then-not-wants-clause-kept c =
    let vs = c.args.searched.splices.items in
    all_is vs c.len-whole.result (c.len-whole.ensures ∙ c.args.searched.splices.ok.0)

pub returns-then-not-wants-clause-each : goal.returns-then-not-wants-clause-each
returns-then-not-wants-clause-each c =
    whole_of_found c.args.parts (IsSought c.args.searched.ceiling) (lists_of c.args.searched.splices.items) c.requires.searched.files

pub search_groups-requires-clause-parts : goal.search_groups-requires-clause-parts
search_groups-requires-clause-parts c =
    c.requires.parts

pub returns-clause-found : goal.returns-clause-found
returns-clause-found c =
    let ps = c.args.parts in
    let vs = c.args.searched.splices.items in
    let n = c.len-whole.result in
    let used = c.args.searched.is_used_up in
    let at : n ≡ length vs = c.len-whole.ensures ∙ c.args.searched.splices.ok.0 in
    let by = c.in_ok-by.by in
    let reported : GroupsReported = c.reported_of-reported.result in
    let count : reported.groups ≡ length by.groups.items = c.reported_of-reported.ensures.groups in
    let needed : used ≡ false → n ≡ 0 =
    λ done. elim (c.wants_groups-wants.ensures.yes c.if-not-wants.false) [ inl e ↦ absurd cc | inr z ↦ z ] in
    let e = c.in_ok-by.ensures in
    let groups = e.groups in
    let cover = e.cover in
    let each = e.splices in
    subst (λ (xs : List (Vec ℕ Global)). IsFound c.args.searched.ceiling (bytes_of c.args.copies.now) (record {
      parts = ps;
      choices = take n (lists_of xs);
      is_used_up = used;
      by_groups = Some (by_groups_of (drop n (lists_of xs)) reported);
    })) (sym (appended vs c.splices_given-given.result c.in_ok-by.by.searched.splices c.append.new.self.items c.in_ok-append.ensures.items
    c.splices_given-given.ensures))
    (found_groups c.args.searched.ceiling (bytes_of c.args.copies.now) ps vs n used c.requires.parts c.requires.searched at
    by.searched.splices.items by.groups.items reported
    needed groups cover count each)

pub returns-clause-by_groups : goal.returns-clause-by_groups
returns-clause-by_groups c =
    let ps = c.args.parts in
    let vs = c.args.searched.splices.items in
    let n = c.len-whole.result in
    let at : n ≡ length vs = c.len-whole.ensures ∙ c.args.searched.splices.ok.0 in
    let by = c.in_ok-by.by in
    let reported : GroupsReported = c.reported_of-reported.result in
    let copies : ℕ = length c.args.copies.now in
    let gs : List Group = by.groups.items in
    let more : List (List ℕ) = lists_of by.searched.splices.items in
    let is = c.reported_of-reported.ensures in
    let e = c.in_ok-by.ensures in
    let groups = e.groups in
    let cover = e.cover in
    let searched : AreGroupsSearched c.args.most_tries copies ps gs reported.tries more reported.is_used_up =
    subst (λ (k : ℕ). AreGroupsSearched c.args.most_tries copies ps gs k more reported.is_used_up) (sym is.tries)
    (subst (λ (u : Bool). AreGroupsSearched c.args.most_tries copies ps gs by.searched.tries more u) (sym is.is_used_up)
    (e.searched)) in
    subst (λ (xs : List (Vec ℕ Global)). IsGroupSearch c.args.most_tries copies ps (by_groups_of (drop n (lists_of xs)) reported))
    (sym (appended vs c.splices_given-given.result by.searched.splices c.append.new.self.items c.in_ok-append.ensures.items
    c.splices_given-given.ensures))
    (group_search vs by.searched.splices.items n at c.args.most_tries copies ps gs reported groups cover is.groups e.once searched)

pub returns-clause-splices : goal.returns-clause-splices
returns-clause-splices c =
    files_groups c.args.parts (lists_of c.append.new.self.items) c.len-whole.result

pub returns-clause-each : goal.returns-clause-each
returns-clause-each c =
    let ps = c.args.parts in
    let vs = c.args.searched.splices.items in
    let more = c.in_ok-by.by.searched.splices.items in
    let each = c.in_ok-by.ensures.splices in
    subst (λ (xs : List (Vec ℕ Global)). AllByRecursion (IsWhole ps) (lists_of xs))
    (sym (appended vs c.splices_given-given.result c.in_ok-by.by.searched.splices c.append.new.self.items c.in_ok-append.ensures.items
    c.splices_given-given.ensures))
    (whole_of_both ps (IsSought c.args.searched.ceiling) vs more c.requires.searched.files each)

pub returns-clause-kept : goal.returns-clause-kept
returns-clause-kept c =
    let vs = c.args.searched.splices.items in
    let n = c.len-whole.result in
    let at : n ≡ length vs = c.len-whole.ensures ∙ c.args.searched.splices.ok.0 in
    ap (λ (xs : List (Vec ℕ Global)). take n (lists_of xs))
    (appended vs c.splices_given-given.result c.in_ok-by.by.searched.splices c.append.new.self.items c.in_ok-append.ensures.items
    c.splices_given-given.ensures)
    ∙ prefix_is vs c.in_ok-by.by.searched.splices.items n at

pub returns-clause-whole : goal.returns-clause-whole
returns-clause-whole c =
    let vs = c.args.searched.splices.items in
    let at : c.len-whole.result ≡ length vs = c.len-whole.ensures ∙ c.args.searched.splices.ok.0 in
    let a = ap length
    (appended vs c.splices_given-given.result c.in_ok-by.by.searched.splices c.append.new.self.items c.in_ok-append.ensures.items
    c.splices_given-given.ensures) ∙ length-append vs c.in_ok-by.by.searched.splices.items in
    omega (arith, a, at)
