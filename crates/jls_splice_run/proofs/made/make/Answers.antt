use Rattle.std.proofs.Common.{◌≡◌, ℕ, Vec, Global, Option, Some, None, List, ◌++◌, length, inl, inr, ap, refl, sym, ◌∙◌, subst}
use Rattle.std.specs.Prelude.{◌⊎◌, IfSome, option_map}
use Rattle.std.proofs.lemmas.Result.{err_from_is_err_and}
use Rattle.jls_station.specs.CopyFiles.{CopyBytes, copies_of}
use Rattle.jls_io.specs.Event.{GrewBy, History}
use Rattle.jls_cli.specs.SpliceAsking.{Asked}
use Rattle.jls_search.specs.Choices.{IsPath, prefix_of}
use Rattle.jls_search.specs.Cuts.{TakesNoCut}
use Rattle.jls_diff.proofs.Slices.{count_of_slices}
use Rattle.jls_diff.specs.PartsOf.{bytes_of}
use Rattle.jls_search.specs.Search.{files_of, lists_of}
use Rattle.jls_search.specs.Found.{IsFound, IsGroupSearch, found_of, splices_in}
use Rattle.jls_splice_run.specs.Ceilings.{KeepsCeiling}
use Rattle.jls_splice_run.specs.Telling.{IsTold}
use Rattle.jls_splice_run.specs.Copies.{bytes_read}
use Rattle.jls_splice_run.specs.Making.{AreTextsOf, IsCutFile, IsCutTaken, IsFoundFor, IsPictureOf, IsUnsettled}
use Rattle.jls_splice_run.specs.Making.{AreNamedOf, IsCarriedMade, carried_made, cut_file, files_taken, made_of}
use Rattle.jls_splice_run.specs.declared.made.Made.{Made as MadeValue}
use Rattle.jls_splice_run.specs.Carrying.{IsCarried, carried_of}
use Rattle.jls_splice_run.specs.Listing.{AreNamedAsked, named_files}
use Rattle.jls_splice_run.specs.Single.{IsSingleAsked}
use Rattle.jls_splice_run.specs.Tasks.{task_of}
use Rattle.jls_splice_run.specs.declared.searched_parts.FoundInTurn.{FoundInTurn}
use Rattle.jls_splice_run.specs.declared.options.SearchOptions.{SearchOptions}
use Rattle.jls_splice_run.proofs.MakingLemmas.{cut_mapped, found_mapped, mapped_twice}
use Rattle.jls_splice_run.proofs.Told.{tells_none}
use Rattle.jls_splice_run.proofs.made.make.Goals as goal

-- how the searches of what was asked are made
abbrev options_of : Asked → SearchOptions
options_of a = record { ceiling = a.options.ceiling; tries = a.options.tries; tells = a.options.progress }

-- what they told, however the code holds what was asked
told_as : (a : Asked) (o : SearchOptions) → o ≡ options_of a → {old new : History} → GrewBy (IsTold o.tells) old new
    → GrewBy (IsTold a.options.progress) old new
told_as a o same {old} {new} h = subst (λ (o : SearchOptions). GrewBy (IsTold o.tells) old new) same h

-- what was found, so
found_for : (a : Asked) (found : FoundInTurn) (o : SearchOptions) (slices copies : List (List ℕ)) → o ≡ options_of a → slices ≡ copies
    → KeepsCeiling o.ceiling found.splices.ceiling
    → IsFound found.splices.ceiling slices (found_of found.splices)
    → IfSome (found_of found.splices).by_groups (IsGroupSearch o.tries (length slices) found.splices.parts)
    → IsFoundFor a copies found.splices.ceiling (found_of found.splices)
found_for a found o slices copies same read ceiling is groups =
    let f = found_of found.splices in
    record {
      ceiling_is = subst (λ (o : SearchOptions). KeepsCeiling o.ceiling found.splices.ceiling) same ceiling;
      is_found = subst (λ (xs : List (List ℕ)). IsFound found.splices.ceiling xs f) read is;
      of_groups = subst (λ (xs : List (List ℕ)). IfSome f.by_groups (IsGroupSearch a.options.tries (length xs) f.parts)) read
          (subst (λ (o : SearchOptions). IfSome f.by_groups (IsGroupSearch o.tries (length slices) f.parts)) same groups);
    }

-- the choices of the cut file are a path
path_of_cut : (found : FoundInTurn) (cut : Option (Vec ℕ Global))
    → IfSome cut (λ path. IsCutFile found.cut_ceiling (found_of found.splices) path.items)
    → IfSome cut (λ path. IsPath found.splices.parts path.items)
path_of_cut found None h = tt
path_of_cut found (Some path) h = h.1.is_path

pub settle-requires-clause-cut : goal.settle-requires-clause-cut
settle-requires-clause-cut g c =
    path_of_cut c.in-Ok-search_and_tell.found c.in-Ok-find_cut.cut c.in-Ok-find_cut.ensures.lone

pub texts_of-requires-clause-splices : goal.texts_of-requires-clause-splices
texts_of-requires-clause-splices g c =
    let found = c.in-Ok-search_and_tell.found.splices in
    (λ i. files_of found.parts (lists_of (c.deref-3.ensures.value i))) ∙ c.in-Ok-search_and_tell.ensures.splices

pub returns-in-Err-clause-told : goal.returns-in-Err-clause-told
returns-in-Err-clause-told g c = tells_none c.args.task.now.options.progress (g.E.Device.history c.args.faults.now)

pub returns-in-Err-search_and_tell-clause-told : goal.returns-in-Err-search_and_tell-clause-told
returns-in-Err-search_and_tell-clause-told g c =
    told_as (task_of c.args.task.now) c.search_options.result c.search_options.ensures c.in-Err-search_and_tell.ensures.told

pub returns-in-Err-find_cut-clause-told : goal.returns-in-Err-find_cut-clause-told
returns-in-Err-find_cut-clause-told g c =
    told_as (task_of c.args.task.now) c.search_options.result c.search_options.ensures c.in-Ok-search_and_tell.ensures.told

pub returns-in_err-held-clause-told : goal.returns-in_err-held-clause-told
returns-in_err-held-clause-told g c =
    told_as (task_of c.args.task.now) c.search_options.result c.search_options.ensures c.in-Ok-search_and_tell.ensures.told

pub returns-in-Ok-texts_of-clause-told : goal.returns-in-Ok-texts_of-clause-told
returns-in-Ok-texts_of-clause-told g c =
    told_as (task_of c.args.task.now) c.search_options.result c.search_options.ensures c.in-Ok-search_and_tell.ensures.told

pub returns-clause-told : goal.returns-clause-told
returns-clause-told g c =
    told_as (task_of c.args.task.now) c.search_options.result c.search_options.ensures c.in-Ok-search_and_tell.ensures.told

pub returns-in-Err-clause-stopped : goal.returns-in-Err-clause-stopped
returns-in-Err-clause-stopped g c = let want = c.want_of_memory.ensures in inl (want.name, want.cause)

pub returns-in-Err-search_and_tell-clause-stopped : goal.returns-in-Err-search_and_tell-clause-stopped
returns-in-Err-search_and_tell-clause-stopped g c =
    let want = c.want_of_memory-in-Err-search_and_tell.ensures in inl (want.name, want.cause)

pub returns-in-Err-find_cut-clause-stopped : goal.returns-in-Err-find_cut-clause-stopped
returns-in-Err-find_cut-clause-stopped g c = let want = c.want_of_memory-in-Err-find_cut.ensures in inl (want.name, want.cause)

pub returns-clause-stopped : goal.returns-clause-stopped
returns-clause-stopped g c = let want = c.want_of_memory-in-Err-texts_of.ensures in inl (want.name, want.cause)

pub returns-in_err-held-clause-stopped : goal.returns-in_err-held-clause-stopped
returns-in_err-held-clause-stopped g c =
    let a = task_of c.args.task.now in
    let copies : List CopyBytes = copies_of c.args.copies.now in
    let all = c.in-Ok-search_and_tell.found in
    let found = all.splices in
    let r = c.in_err-held.field-0.0 in
    let searched : bytes_of c.deref.result.now ≡ bytes_read copies = ap bytes_of c.deref.ensures.value ∙ c.in-Ok.ensures in
    let splices : files_of found.parts (lists_of c.deref-3.result.now) ≡ splices_in (found_of found) =
    (λ i. files_of found.parts (lists_of (c.deref-3.ensures.value i))) ∙ c.in-Ok-search_and_tell.ensures.splices in
    let e = c.in-Ok-search_and_tell.ensures in
    let groups = subst (λ (n : ℕ). IfSome (found_of found).by_groups (IsGroupSearch c.search_options.result.tries n found.parts))
    (sym (count_of_slices c.deref.result.now)) e.of_groups in
    let unsettled = subst (λ (xs : List (List ℕ)). IsUnsettled a copies xs r) splices c.in_err-held.ensures.stopped in
    let p = err_from_is_err_and c.from_residual.result c.from_residual.ensures.1 in
    rw (p.1, p.2) (inr (
      found.ceiling,
      found_of found,
      found_for a all c.search_options.result (bytes_of c.deref.result.now) (bytes_read copies) c.search_options.ensures searched e.ceiling
          e.found groups,
      unsettled,
    ))

pub returns-in-Ok-texts_of-clause-made : goal.returns-in-Ok-texts_of-clause-made
returns-in-Ok-texts_of-clause-made g c =
    let a = task_of c.args.task.now in
    let copies = bytes_read (copies_of c.args.copies.now) in
    let v = c.in-Ok-texts_of.made in
    let all = c.in-Ok-search_and_tell.found in
    let found = all.splices in
    let held = c.in_ok-held.held in
    let settled = c.in-Ok-texts_of.ensures.texts.0 in
    let parts = found.parts in
    let searched : bytes_of c.deref.result.now ≡ copies = ap bytes_of c.deref.ensures.value ∙ c.in-Ok.ensures in
    let reported : bytes_of c.deref-2.result.now ≡ copies = ap bytes_of c.deref-2.ensures.value ∙ c.in-Ok.ensures in
    let splices : files_of found.parts (lists_of c.deref-3.result.now) ≡ splices_in (found_of found) =
    (λ i. files_of found.parts (lists_of (c.deref-3.ensures.value i))) ∙ c.in-Ok-search_and_tell.ensures.splices in
    let choices = option_map (λ (path : Vec ℕ Global). path.items) held.cut in
    let cut : option_map (λ (path : Vec ℕ Global). prefix_of found.parts path.items) held.cut ≡ cut_file (found_of found) choices =
    sym (mapped_twice (prefix_of parts) (λ (path : Vec ℕ Global). path.items) held.cut) in
    let e = c.in-Ok-search_and_tell.ensures in
    let groups = subst (λ (n : ℕ). IfSome (found_of found).by_groups (IsGroupSearch c.search_options.result.tries n parts))
    (sym (count_of_slices c.deref.result.now)) e.of_groups in (
      made_of all c.in-Ok-find_cut.cut held.cut held.station settled v,
      record {
        is_found_for = found_for a all c.search_options.result (bytes_of c.deref.result.now) copies c.search_options.ensures searched e.ceiling
            e.found groups;
        cut_ceiling_is = subst (λ (o : SearchOptions). KeepsCeiling o.ceiling all.cut_ceiling) c.search_options.ensures e.cut;
        is_lone = found_mapped (IsCutFile all.cut_ceiling (found_of found)) c.in-Ok-find_cut.cut c.in-Ok-find_cut.ensures.lone;
        is_cut = cut_mapped (λ path. TakesNoCut copies (splices_in (found_of found)) (prefix_of parts path)) held.cut c.in-Ok-find_cut.cut
            (subst (λ (xs : List (List ℕ)). (held.cut ≡ c.in-Ok-find_cut.cut)
            ⊎ ((held.cut ≡ None) × IfSome c.in-Ok-find_cut.cut (λ path. TakesNoCut copies xs (prefix_of parts path.items)))) splices
            c.in_ok-held.ensures.cut);
        is_carried = tt;
        picture_is = refl;
        is_given = subst (λ (o : Option (List ℕ)). IsPictureOf a.options.source copies (splices_in (found_of found)) o held.station) cut
            (subst (λ (xs : List (List ℕ)). IsPictureOf a.options.source copies xs
            (option_map (λ (path : Vec ℕ Global). prefix_of found.parts path.items) held.cut) held.station) splices
            c.in_ok-held.ensures.settled);
        settled = c.in-Ok-texts_of.ensures.texts.1;
        is_single = subst (λ (xs : List (List ℕ)). IsSingleAsked a.options.file (files_taken xs (found_of found))
            (option_map (λ (f : Vec ℕ Global). f.items) v.file)) reported c.in-Ok-texts_of.ensures.single;
        are_named = subst (λ (xs : List (List ℕ)). AreNamedAsked a.options.files (files_taken xs (found_of found))
            (named_files v.files.items)) reported c.in-Ok-texts_of.ensures.named;
      },
      subst (λ (xs : List (List ℕ)). AreTextsOf a xs (made_of all c.in-Ok-find_cut.cut held.cut held.station settled v) v)
          reported (c.in-Ok-texts_of.ensures.texts.2 c.in-Ok-find_cut.cut),
    )

pub returns-in-Ok-Some-clause-made : goal.returns-in-Ok-Some-clause-made
returns-in-Ok-Some-clause-made g c =
    let a = task_of c.args.task.now in
    let copies = bytes_read (copies_of c.args.copies.now) in
    let v = c.in-Ok-Some.made in
    let all = c.in-Ok-search_and_tell.found in
    let found = all.splices in
    let f = found_of found in
    let held = c.in_ok-held.held in
    let lone = c.in-Ok-find_cut.cut in
    let parts = found.parts in
    let taken = bytes_of c.deref-2.result.now ++ files_of parts (lists_of c.deref-3.result.now) in
    let carrying : (held.cut ≡ None) × IsCarriedMade a (bytes_of c.deref-2.result.now) taken all held.station v =
    subst (λ (o : Option MadeValue). IfSome o (λ made. (held.cut ≡ None)
    × IsCarriedMade a (bytes_of c.deref-2.result.now) taken all held.station made)) c.in-Ok-Some.field-0-is c.in-Ok-Some.ensures in
    let cut_is : held.cut ≡ None = carrying.0 in
    let made = carrying.1 in
    let texts = made.texts in
    let carried = carried_of made.between made.is_alone texts.is_held texts.are_read in
    let searched : bytes_of c.deref.result.now ≡ copies = ap bytes_of c.deref.ensures.value ∙ c.in-Ok.ensures in
    let reported : bytes_of c.deref-2.result.now ≡ copies = ap bytes_of c.deref-2.ensures.value ∙ c.in-Ok.ensures in
    let splices : files_of found.parts (lists_of c.deref-3.result.now) ≡ splices_in f =
    (λ i. files_of found.parts (lists_of (c.deref-3.ensures.value i))) ∙ c.in-Ok-search_and_tell.ensures.splices in
    let e = c.in-Ok-search_and_tell.ensures in
    let groups = subst (λ (n : ℕ). IfSome f.by_groups (IsGroupSearch c.search_options.result.tries n parts))
    (sym (count_of_slices c.deref.result.now)) e.of_groups in
    let lone_path = option_map (λ (path : Vec ℕ Global). path.items) lone in (
      carried_made a.options.source all lone held.station carried texts.is_settled v,
      record {
        is_found_for = found_for a all c.search_options.result (bytes_of c.deref.result.now) copies c.search_options.ensures searched e.ceiling
            e.found groups;
        cut_ceiling_is = subst (λ (o : SearchOptions). KeepsCeiling o.ceiling all.cut_ceiling) c.search_options.ensures e.cut;
        is_lone = found_mapped (IsCutFile all.cut_ceiling f) lone c.in-Ok-find_cut.ensures.lone;
        is_cut = subst (λ (o : Option (Vec ℕ Global)). IsCutTaken copies f lone_path (option_map (λ (path : Vec ℕ Global). path.items) o))
            cut_is (cut_mapped (λ path. TakesNoCut copies (splices_in f) (prefix_of parts path)) held.cut lone
            (subst (λ (xs : List (List ℕ)). (held.cut ≡ lone)
            ⊎ ((held.cut ≡ None) × IfSome lone (λ path. TakesNoCut copies xs (prefix_of parts path.items)))) splices
            c.in_ok-held.ensures.cut));
        is_given = subst (λ (o : Option (Vec ℕ Global)). IsPictureOf a.options.source copies (splices_in f)
            (option_map (λ (path : Vec ℕ Global). prefix_of parts path.items) o) held.station) cut_is
            (subst (λ (xs : List (List ℕ)). IsPictureOf a.options.source copies xs
            (option_map (λ (path : Vec ℕ Global). prefix_of parts path.items) held.cut) held.station) splices
            c.in_ok-held.ensures.settled);
        is_carried = (
          subst (λ (xs : List (List ℕ)). IsCarried copies (copies ++ xs) held.station.shape carried) splices
              (subst (λ (cs : List (List ℕ)). IsCarried cs (cs ++ files_of parts (lists_of c.deref-3.result.now)) held.station.shape carried)
              reported made.is_carried),
          refl,
        );
        picture_is = refl;
        settled = texts.settled;
        is_single = texts.single;
        are_named = subst (λ (xs : List (List ℕ)). AreNamedOf a xs (Some carried) (named_files v.files.items))
            (λ i. reported i ++ splices i) texts.named;
      },
      subst (λ (xs : List (List ℕ)). AreTextsOf a xs (carried_made a.options.source all lone held.station carried texts.is_settled v) v)
          reported (texts.texts lone),
    )
