-- What is made of the copies.
use Rattle.std.specs.Prelude.{◌≡◌, ◌↔◌, ◌⊎◌, ℕ, Bool, true, false, IsTrue, List, [], ◌++◌, Option, Some, None, IfSome, codes}
use Rattle.std.specs.Prelude.{get_or, length, map, option_map, if◌then◌else◌}
use Rattle.jls_held.specs.Mending.{file_of}
use Rattle.jls_held.specs.MendedFiles.{MendedFile}
use Rattle.std.specs.Str.{bytes_eq}
use Rattle.std.specs.declared.vec.Vec.{Vec}
use Rattle.std.specs.declared.alloc.Global.{Global}
use Rattle.jls_marker.specs.declared.fault.MarkerFault.{MarkerFault}
use Rattle.jls_partial.specs.Partial.{PartialPicture, nothing_known}
use Rattle.jls_partial.specs.Status.{IsSettled}
use Rattle.jls_partial.specs.Text.{text}
use Rattle.jls_diff.specs.Parts.{Part}
use Rattle.jls_search.specs.Found.{ByGroups, Found, IsGroupSearch, IsFound, found_of, splices_in}
use Rattle.jls_report.specs.Report.{report_of}
use Rattle.jls_report.specs.ReportText.{report_text}
use Rattle.jls_splice_run.specs.Carrying.{Carried, IsCarried, carried_file, carried_files, carried_of, carried_promise, files_beside}
use Rattle.jls_splice_run.specs.Carrying.{joined}
use Rattle.jls_carried.specs.declared.carrying.Between.{Between}
use Rattle.jls_splice_run.specs.CodingLines.{carried_noted_text, carried_text}
use Rattle.jls_splice_run.specs.Differences.{differences, offset_at}
use Rattle.jls_splice_run.specs.Lines.{found_text, noted_text}
use Rattle.jls_splice_run.specs.declared.found.CutFileEnd.{CutFileEnd}
use Rattle.jls_splice_run.specs.declared.found.GroupSearch.{GroupSearch}
use Rattle.jls_splice_run.specs.declared.found.Promise.{Promise}
use Rattle.jls_splice_run.specs.declared.found.Promise.TheVariants.{Held, Picture, Lines}
use Rattle.jls_splice_run.specs.declared.differences.Difference.{Difference}
use Rattle.jls_splice_run.specs.declared.found.SearchReport.{SearchReport}
use Rattle.jls_splice_run.specs.Ceilings.{KeepsCeiling, has_some}
use Rattle.jls_station.specs.declared.input.ReadStop.{ReadStop}
use Rattle.jls_station.specs.declared.input.ReadStop.TheVariants.{Whole}
use Rattle.jls_station.specs.CopyFiles.{CopyBytes}
use Rattle.jls_search.specs.Shapes.{IsShapeFound, IsShapeTaken}
use Rattle.jls_search.specs.Stations.{TakesFiles}
use Rattle.jls_search.specs.Cuts.{TakesCut, TakesNoCut}
use Rattle.jls_search.specs.Levels.{IsLone}
use Rattle.jls_search.specs.Choices.{prefix_of}
use Rattle.jls_search.specs.Faultless.{IsSought}
use Rattle.jls_search.specs.declared.shape_found.ShapeFound.{ShapeFound}
use Rattle.jls_search.specs.declared.shape_found.ShapeFound.TheVariants.{Taken, Differ, NoFrame}
use Rattle.jls_cli.specs.SpliceAsking.{Asked}
use Rattle.jls_cli.specs.declared.outcome.Cause.{Cause}
use Rattle.jls_cli.specs.declared.outcome.Cause.TheVariants as cause
use Rattle.jls_cli.specs.declared.outcome.Refusal.{Refusal}
use Rattle.jls_splice_run.specs.Copies.{bytes_read, stops_read}
use Rattle.jls_splice_run.specs.Completing.{IsCompletedIn}
use Rattle.jls_splice_run.specs.Files.{count_new, is_eoi_added}
use Rattle.jls_splice_run.specs.Listing.{AreCompleted, AreNamedAsked, NamedFile, named_files}
use Rattle.jls_splice_run.specs.ReadsAs.{EachReadsAs}
use Rattle.jls_splice_run.specs.Single.{IsSingleAsked}
use Rattle.jls_splice_run.specs.declared.searched_parts.FoundInTurn.{FoundInTurn}
use Rattle.jls_splice_run.specs.declared.made.Made.{Made as MadeValue}

-- ---- what was found and made

-- the files taken: the copies in their order, then the splices
abbrev pub files_taken : List (List ℕ) → Found → List (List ℕ)
files_taken copies f = copies ++ splices_in f

-- the picture is the union of what the files taken give under the source, and has the shape that is taken
pub record IsPictureOfFiles (source : Option ℕ) (copies splices : List (List ℕ)) (p : PartialPicture) : Type 0 where
  pub shape_is : IsShapeTaken copies splices p.shape
  pub union_is : TakesFiles source (copies ++ splices) (nothing_known p.shape) p

-- The picture is of the files taken. If a cut file was taken, it is the union of what they and the cut file give, and has its shape
abbrev pub IsPictureOf : Option ℕ → List (List ℕ) → List (List ℕ) → Option (List ℕ) → PartialPicture → Type 0
IsPictureOf source copies splices None p = IsPictureOfFiles source copies splices p
IsPictureOf source copies splices (Some cut) p = TakesCut source copies splices cut p

-- the cut file that choices make, if one was taken
abbrev pub cut_file : Found → Option (List ℕ) → Option (List ℕ)
cut_file f cut = option_map (prefix_of f.parts) cut

-- The cut file is what the first choices make, where the search of all splices found nothing. Each other path of as many choices makes
-- bytes with which no file begins that is sought
abbrev pub IsCutFile : Option ℕ → Found → List ℕ → Type 0
IsCutFile ceiling f path = (f.choices ≡ []) × IsLone (IsSought ceiling) f.parts path

-- The cut file that was found is taken, if one was found. Or none is, where a copy or splice has no fault or the cut file no frame
abbrev pub IsCutTaken : List (List ℕ) → Found → Option (List ℕ) → Option (List ℕ) → Type 0
IsCutTaken copies f lone cut =
    (cut ≡ lone) ⊎ ((cut ≡ None) × IfSome lone (λ path. TakesNoCut copies (splices_in f) (prefix_of f.parts path)))

-- What is made of copies: the ceiling of the search that counts, if it had one, and what was found. Of a cut file come the ceiling under
-- which it was sought, and the choices of the one found and of the one taken. Each may be missing. Then come what the files taken give,
-- and what copies in several codings gave each other, if that was looked for. Then come the picture, and whether each line of it is
-- settled. Last come the single file, and the files that have numbers
pub record Made : Type 0 where
  pub ceiling : Option ℕ
  pub found : Found
  pub cut_ceiling : Option ℕ
  pub lone : Option (List ℕ)
  pub cut : Option (List ℕ)
  pub given : PartialPicture
  pub carried : Option Carried
  pub picture : PartialPicture
  pub is_settled : Bool
  pub single : Option (List ℕ)
  pub files : List NamedFile

-- What was found was sought in these copies as it was asked for. The search that counts keeps the ceiling that is given. If groups were
-- searched, each was with each of the copies outside of it, and has tries of its own
pub record IsFoundFor (a : Asked) (copies : List (List ℕ)) (ceiling : Option ℕ) (f : Found) : Type 0 where
  pub ceiling_is : KeepsCeiling a.options.ceiling ceiling
  pub is_found : IsFound ceiling copies f
  pub of_groups : IfSome f.by_groups (IsGroupSearch a.options.tries (length copies) f.parts)

-- what copies in several codings gave each other, if that was looked for, is so where these files are taken. Then no cut file was taken
abbrev pub IsCarriedFor : List (List ℕ) → Made → Type 0
IsCarriedFor copies m =
    IfSome m.carried (λ c. IsCarried copies (files_taken copies m.found) m.given.shape c × (m.cut ≡ None))

-- The single file, if it is asked for: the one of the files taken that has no fault. Of copies in several codings it is the first mended
-- file where each file taken has a fault, and else there is none. It is completed by EOI
abbrev pub IsSingleOf : Asked → List (List ℕ) → Option Carried → Option (List ℕ) → Type 0
IsSingleOf a taken None single = IsSingleAsked a.options.file taken single
IsSingleOf a taken (Some c) single =
    (IsTrue c.is_alone → IsCompletedIn (carried_file a.options.file (carried_promise c) c.files) single)
    × (c.is_alone ≡ false → single ≡ None)

-- The files that have numbers, if they are asked for. They are the mended files where each file taken has a fault. Else they are those of
-- the files taken that have none, and before them the mended files of a promised picture. Each is completed by EOI
abbrev pub AreNamedOf : Asked → List (List ℕ) → Option Carried → List NamedFile → Type 0
AreNamedOf a taken None named = AreNamedAsked a.options.files taken named
AreNamedOf a taken (Some c) named =
    (IsTrue c.is_alone → AreCompleted (carried_files a.options.files c.files) named)
    × (c.is_alone ≡ false → AreNamedAsked a.options.files (files_beside (carried_promise c) c.files taken) named)

-- all of it is made of these copies
pub record IsMade (a : Asked) (copies : List (List ℕ)) (m : Made) : Type 0 where
  pub is_found_for : IsFoundFor a copies m.ceiling m.found
  pub cut_ceiling_is : KeepsCeiling a.options.ceiling m.cut_ceiling
  pub is_lone : IfSome m.lone (IsCutFile m.cut_ceiling m.found)
  pub is_cut : IsCutTaken copies m.found m.lone m.cut
  pub is_given : IsPictureOf a.options.source copies (splices_in m.found) (cut_file m.found m.cut) m.given
  pub is_carried : IsCarriedFor copies m
  pub picture_is : m.picture ≡ joined a.options.source m.carried m.given
  pub settled : IsTrue m.is_settled ↔ IsSettled m.picture
  pub is_single : IsSingleOf a (files_taken copies m.found) m.carried m.single
  pub are_named : AreNamedOf a (files_taken copies m.found) m.carried m.files

-- ---- what is reported of it

-- a single file is asked for, and there is none
abbrev pub lacks_single : {A B : Type 0} → Option A → Option B → Bool
lacks_single None single = false
lacks_single (Some name) (Some file) = false
lacks_single (Some name) None = true

-- how many files have numbers, where they are asked for
abbrev pub files_reported : {A B : Type 0} → Option A → List B → Option ℕ
files_reported None files = None
files_reported (Some prefix) files = Some (length files)

-- what is reported of a search by groups, where there was one
abbrev pub groups_reported : Option ByGroups → Option GroupSearch
groups_reported None = None
groups_reported (Some b) = Some (record { groups = b.groups; is_used_up = b.is_used_up })

-- where the cut file ends
abbrev pub cut_end : List Part → Option ℕ → List ℕ → CutFileEnd
cut_end parts ceiling path = record { offset = offset_at parts (length path); ceiling = ceiling }

-- the ceiling of the search that counts, where none was given
abbrev pub ceiling_reported : Option ℕ → Option ℕ → Option ℕ
ceiling_reported None ceiling = ceiling
ceiling_reported (Some given) ceiling = None

-- The promise that holds. It is of the picture if the search of all splices was not cut off and found a file, and each line is settled
abbrev pub promise_of : Option ℕ → Found → Bool → Promise
promise_of ceiling f is_settled =
    if f.is_used_up then Lines else (if has_some f.choices then (if is_settled then Picture ceiling else Lines) else Lines)

-- the promise that holds where copies in several codings may have given each other something
abbrev pub promise_with : Option Carried → Option ℕ → Found → Bool → Promise
promise_with None ceiling f is_settled = promise_of ceiling f is_settled
promise_with (Some c) ceiling f is_settled = carried_promise c

-- the promise of what was made, which is printed
abbrev pub promise_on : Made → Promise
promise_on m = promise_with m.carried m.ceiling m.found m.is_settled

-- whether a promise is of the picture
abbrev pub is_of_picture : Promise → Bool
is_of_picture (Picture ceiling) = true
is_of_picture Held = true
is_of_picture Lines = false

-- The files of which those that are handed out were made. They are the mended files. If a file taken may have no fault, they are the files
-- taken, with the mended files of a promised picture
abbrev pub files_held : Bool → Promise → List MendedFile → List (List ℕ) → List (List ℕ)
files_held is_alone promise mended taken = if is_alone then map (λ f. f.bytes) mended else files_beside promise mended taken

-- and so where copies in several codings may have given each other something
abbrev pub files_made_of : Option Carried → List (List ℕ) → List (List ℕ)
files_made_of None taken = taken
files_made_of (Some c) taken = files_held c.is_alone (carried_promise c) c.files taken

-- what is reported of the search
abbrev pub report_on : Asked → List (List ℕ) → Made → SearchReport
report_on a copies m = record {
  splices = count_new copies (splices_in m.found);
  is_used_up = m.found.is_used_up;
  ceiling = ceiling_reported a.options.ceiling m.ceiling;
  by_groups = groups_reported m.found.by_groups;
  before = option_map (cut_end m.found.parts m.cut_ceiling) m.cut;
  files = files_reported a.options.files m.files;
  is_eoi_added = is_eoi_added (files_made_of m.carried (files_taken copies m.found)) m.single m.files;
  lacks_single_file = lacks_single a.options.file m.single;
  has_lists = has_some a.bad;
  promise = promise_on m;
}

-- the lines of what was found in so many copies, and of what they gave each other if they are in several codings
abbrev pub text_with : Option Carried → List Difference → ℕ → SearchReport → List ℕ
text_with None ds count report = found_text ds report
text_with (Some c) ds count report = carried_text ds count c.codings c.strangers report

-- what is printed: the lines of what was found and the report. Nothing, if the output is standard output
abbrev pub lines : Asked → List (List ℕ) → Made → List ℕ
lines a copies m =
    if bytes_eq a.out (codes "-") then []
    else text_with m.carried (differences m.found.parts) (length copies) (report_on a copies m) ++ report_text (report_of m.picture)

-- the lines of the search in so many copies, and those of their codings if they gave each other something
abbrev pub noted_with : Option Carried → ℕ → SearchReport → List ℕ
noted_with None count report = noted_text report
noted_with (Some c) count report = carried_noted_text count c.codings c.strangers report

-- what is printed on the fault output before anything is handed out: if the output is standard output, the lines of the search
abbrev pub notes : Asked → List (List ℕ) → Made → List ℕ
notes a copies m =
    if bytes_eq a.out (codes "-") then noted_with m.carried (length copies) (report_on a copies m) else []

-- ---- why nothing is made

-- why a run stops if no file has a frame, by how the reading of the first copy stopped
abbrev pub no_picture_cause : ReadStop → MarkerFault → ℕ → Cause
no_picture_cause Whole f offset = cause.NoPicture f offset
no_picture_cause _ f offset = cause.NotRead

-- the refusal of copies of these names, for what is found of their shape and how their readings stopped
abbrev pub IsRefusedFor : List (List ℕ) → List ReadStop → ShapeFound → Refusal → Type 0
IsRefusedFor names stops (Taken shape) r = ⊥
IsRefusedFor names stops (Differ copy) r = (r.name.now ≡ get_or names copy []) × (r.cause ≡ cause.ShapeDiffers)
IsRefusedFor names stops (NoFrame f offset) r =
    (r.name.now ≡ get_or names 0 []) × (r.cause ≡ no_picture_cause (get_or stops 0 Whole) f offset)

-- the refusal for memory that runs out
abbrev pub IsWantOfMemory : Asked → Refusal → Type 0
IsWantOfMemory a r = (r.name.now ≡ a.out) × (r.cause ≡ cause.OutOfMemory)

-- why no picture can be made from copies and splices
abbrev pub IsUnsettled : Asked → List CopyBytes → List (List ℕ) → Refusal → Type 0
IsUnsettled a copies splices r =
    IsWantOfMemory a r
    ⊎ ((found : ShapeFound) × IsShapeFound (bytes_read copies) splices found × IsRefusedFor a.copies (stops_read copies) found r)

-- why a run stops after the copies were read: for want of memory, or for what the files are that were found
abbrev pub CantMake : Asked → List CopyBytes → Refusal → Type 0
CantMake a copies r =
    IsWantOfMemory a r
    ⊎ ((ceiling : Option ℕ) × (f : Found) × IsFoundFor a (bytes_read copies) ceiling f × IsUnsettled a copies (splices_in f) r)

-- ---- as the code has it

-- What was made where copies gave each other nothing. It is told by what was found, the ceiling of a cut file, and the choices of the one
-- found and of the one taken. Besides it is told by the picture, by whether each line of it is settled, and by what the code holds
abbrev pub made_of : FoundInTurn → Option (Vec ℕ Global) → Option (Vec ℕ Global) → PartialPicture → Bool → MadeValue → Made
made_of all lone cut p is_settled v = record {
  ceiling = all.splices.ceiling;
  found = found_of all.splices;
  cut_ceiling = all.cut_ceiling;
  lone = option_map (λ path. path.items) lone;
  cut = option_map (λ path. path.items) cut;
  given = p;
  carried = None;
  picture = p;
  is_settled = is_settled;
  single = option_map (λ f. f.items) v.file;
  files = named_files v.files.items;
}

-- And what was made of copies in several codings under a source. It is told by what was found, and by the choices of the cut file found. It
-- is told by what the files taken give, and by what the copies gave each other. Besides it is told by whether each line that is handed out
-- is settled, and by what the code holds
abbrev pub carried_made : Option ℕ → FoundInTurn → Option (Vec ℕ Global) → PartialPicture → Carried → Bool → MadeValue → Made
carried_made source all lone given c is_settled v = record {
  ceiling = all.splices.ceiling;
  found = found_of all.splices;
  cut_ceiling = all.cut_ceiling;
  lone = option_map (λ path. path.items) lone;
  cut = None;
  given = given;
  carried = Some c;
  picture = joined source (Some c) given;
  is_settled = is_settled;
  single = option_map (λ f. f.items) v.file;
  files = named_files v.files.items;
}

-- the code holds what is handed out of it
pub record AreTextsOf (a : Asked) (copies : List (List ℕ)) (m : Made) (v : MadeValue) : Type 0 where
  pub lines_are : v.lines.items ≡ lines a copies m
  pub notes_are : v.notes.items ≡ notes a copies m
  pub text_is : v.text.items ≡ text m.picture
  pub file_is : option_map (λ f. f.items) v.file ≡ m.single
  pub files_are : named_files v.files.items ≡ m.files
  pub promise_is : v.promise ≡ promise_on m

-- and it was made of these copies
abbrev pub HoldsMade : Asked → List CopyBytes → MadeValue → Type 0
HoldsMade a copies v = (m : Made) × IsMade a (bytes_read copies) m × AreTextsOf a (bytes_read copies) m v

-- the code holds what is handed out of what was judged, where these files are taken, each with a fault, or one maybe with none
pub record AreTextsOfJudged (a : Asked) (copies taken : List (List ℕ)) (all : FoundInTurn) (given : PartialPicture) (b : Between)
    (is_alone : Bool) (v : MadeValue) : Type 0 where
  pub is_held : Bool
  pub is_settled : Bool
  pub are_read : Bool
  pub each_read : IsTrue are_read → EachReadsAs b.judged.held (map file_of b.judged.files.items)
  pub all_held : IsTrue is_held ↔ IsSettled b.judged.held
  pub settled : IsTrue is_settled ↔ IsSettled (joined a.options.source (Some (carried_of b is_alone is_held are_read)) given)
  pub texts : (lone : Option (Vec ℕ Global))
      → AreTextsOf a copies (carried_made a.options.source all lone given (carried_of b is_alone is_held are_read) is_settled v) v
  pub single : IsSingleOf a taken (Some (carried_of b is_alone is_held are_read)) (option_map (λ f. f.items) v.file)
  pub named : AreNamedOf a taken (Some (carried_of b is_alone is_held are_read)) (named_files v.files.items)

-- and what was judged is so for these copies, where these files are taken and give that
pub record IsCarriedMade (a : Asked) (copies taken : List (List ℕ)) (all : FoundInTurn) (given : PartialPicture) (v : MadeValue)
    : Type 0 where
  pub between : Between
  pub is_alone : Bool
  pub texts : AreTextsOfJudged a copies taken all given between is_alone v
  pub is_carried : IsCarried copies taken given.shape (carried_of between is_alone texts.is_held texts.are_read)
