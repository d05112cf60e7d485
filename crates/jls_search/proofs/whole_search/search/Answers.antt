use Rattle.std.proofs.Common.{ℕ, length, Vec, Global, Option, sym, subst, ap, ◌∙◌, arith, inl, inr}
use Rattle.std.specs.Prelude.{IfSome}
use Rattle.jls_search.specs.Faultless.{IsSought}
use Rattle.jls_search.specs.Search.{HasEachSplice, IsKeptReader, MakeFiles, files_of, lists_of}
use Rattle.jls_search.specs.declared.kept.KeptReader.{KeptReader}
use Rattle.jls_search.proofs.Paths.{length-map}
use Rattle.jls_search.proofs.Walks.{at_most, used_up}
use Rattle.jls_search.proofs.whole_search.search.Goals as goal

pub returns-clause-ceiling : goal.returns-clause-ceiling
returns-clause-ceiling c =
    c.into_searched.ensures.ceiling ∙ c.in_ok-go_on.ensures.went.ceiling ∙ c.in_ok-begun.ensures.ceiling

pub returns-clause-files : goal.returns-clause-files
returns-clause-files c =
    let came = c.into_searched.ensures.came_to c.args.parts.now c.in_ok-go_on.ensures.stands in
    subst (λ ceiling. MakeFiles (IsSought ceiling) c.args.parts.now (lists_of c.into_searched.result.splices.items))
    (c.in_ok-go_on.ensures.went.ceiling ∙ c.in_ok-begun.ensures.ceiling) came.files

pub returns-clause-all : goal.returns-clause-all
returns-clause-all c = λ enough.
    let came = c.into_searched.ensures.came_to c.args.parts.now c.in_ok-go_on.ensures.stands in
    let parts = c.args.parts.now in
    subst (λ ceiling. HasEachSplice (IsSought ceiling) parts (files_of parts (lists_of c.into_searched.result.splices.items)))
    (c.in_ok-go_on.ensures.went.ceiling ∙ c.in_ok-begun.ensures.ceiling) (came.all enough)

pub returns-clause-used_up : goal.returns-clause-used_up
returns-clause-used_up c = λ yes.
    let walk = c.go_on.new.self in
    let same = c.into_searched.ensures in
    let went = c.in_ok-go_on.ensures.went.within in
    let none = c.in_ok-begun.ensures.untried.0 in
    let all = length-map (λ (v : Vec ℕ Global). v.items) walk.splices.items in
    elim (used_up c.args.parts.now walk c.args.most_tries c.in_ok-go_on.ensures.stands c.in_ok-go_on.ensures.stops
    (omega (arith, went, none)) (sym same.used_up ∙ yes)) [
      | inl made ↦ inl (same.tries ∙ made)
      | inr full ↦ inr (ap (λ (v : Vec (Vec ℕ Global) Global). length v.items) same.splices ∙ omega (arith, all, full))
    ]

pub returns-clause-few : goal.returns-clause-few
returns-clause-few c =
    let walk = c.go_on.new.self in
    let same = c.into_searched.ensures in
    let went = c.in_ok-go_on.ensures.went.within in
    let none = c.in_ok-begun.ensures.untried.0 in
    let tries = same.tries in
    let all = length-map (λ (v : Vec ℕ Global). v.items) walk.splices.items in
    let few = at_most c.args.parts.now walk c.in_ok-go_on.ensures.stands in
    let found = ap (λ (v : Vec (Vec ℕ Global) Global). length v.items) same.splices in
    (omega (arith, went, none, tries), omega (arith, all, few, found))

pub returns-clause-tried : goal.returns-clause-tried
returns-clause-tried c =
    let same = c.into_searched.ensures in
    record {
      begun = c.in_ok-begun.begun;
      ceiling_is = c.in_ok-begun.ensures.ceiling;
      is_begun = c.in_ok-begun.ensures.untried;
      stands = c.in_ok-begun.ensures.stands;
      last = c.go_on.new.self;
      tried = c.in_ok-go_on.ensures.went.tried;
      tries_are = sym same.tries;
      found_are = ap (λ (v : Vec (Vec ℕ Global) Global). lists_of v.items) (sym same.splices);
      more_is = sym same.used_up;
    }

pub returns-clause-reader : goal.returns-clause-reader
returns-clause-reader c =
    let parts = c.args.parts.now in
    subst (λ (k : Option KeptReader). IfSome k (IsKeptReader parts)) (sym c.into_searched.ensures.reader)
    (c.in_ok-go_on.ensures.found (subst (λ (k : Option KeptReader). IfSome k (IsKeptReader parts)) (sym c.in_ok-begun.ensures.found) tt))
