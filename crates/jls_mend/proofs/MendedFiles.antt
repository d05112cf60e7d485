-- What a run over copies in memory hands out.
use Rattle.std.proofs.Common.{◌≡◌, ℕ, ◌<◌, ◌^◌, Bool, true, false, List, [], ◌∷◌, ◌++◌, Option, Some, None, length, map, refl, sym, ap, ◌∙◌}
use Rattle.std.proofs.Common.{subst}
use Rattle.std.proofs.Common.{append_assoc, arith, cond, get_or}
use Rattle.std.specs.Prelude.{◌↔◌, IsTrue, Ok, Err, codes, unwrap_or}
use Rattle.std.specs.List.{AllByRecursion, AllZip}
use Rattle.clap.specs.Words.{Text}
use Rattle.jls_io.specs.Event.{Event, created}
use Rattle.jls_station.specs.CopyFiles.{AreCopiesRead, CopyBytes}
use Rattle.jls_partial.specs.Text.{text}
use Rattle.jls_memory.specs.Files.{File}
use Rattle.jls_memory.specs.Held.{output_files}
use Rattle.jls_memory.specs.Inputs.{Reads}
use Rattle.jls_memory.specs.Laws.{OutputsHoldWhatIsHandedOut}
use Rattle.jls_memory.specs.Outputs.{outputs_of}
use Rattle.jls_cli.specs.Outcomes.{Outcome, exit_status, status_of_done}
use Rattle.jls_cli.specs.BadValues.{BadList}
use Rattle.jls_cli.specs.SpliceAsking.{Asked}
use Rattle.jls_bad.specs.Known.{AreKnownCopies}
use Rattle.jls_cli.specs.declared.outcome.Done.{Done}
use Rattle.jls_splice_run.specs.BadLists.{AreSearched, copies_with, list_names}
use Rattle.jls_splice_run.specs.Inputs.{AreInputs}
use Rattle.jls_splice_run.specs.Copies.{AreWhole, bytes_read}
use Rattle.jls_splice_run.specs.Handing.{HandsAll}
use Rattle.jls_splice_run.specs.Listing.{IsNumbered, numbered}
use Rattle.jls_splice_run.specs.Making.{IsMade, Made, is_of_picture, lines, promise_on}
use Rattle.jls_splice_run.specs.Runs.{Run, Splices, texts, came_of, performed}
use Rattle.jls_splice_run.specs.Runs.{at_inputs, not_made, not_handed, done}
use Rattle.jls_mend.specs.Asking.{AreMendable, BadPlaces, IsNumberOf, asked_for, inputs_of, inputs_with, lists_of, values_of}
use Rattle.jls_mend.specs.Mending.{AreSearchedOf, IsMendedOf, IsOfRun, IsReadOf, file_made, numbered_made}
use Rattle.jls_mend.specs.Running.{IsRun}
use Rattle.jls_mend.specs.declared.asking.MendOptions.{MendOptions}
use Rattle.jls_mend.specs.declared.mending.Mended.{Mended}
use Rattle.jls_mend.specs.declared.running.Ran.{Ran}
use Rattle.jls_mend.proofs.CopiesRead.{all_named, all_read}
use Rattle.jls_mend.proofs.HandedOut.{file_handed, holds_all, reading_without}
use Rattle.jls_mend.proofs.ListFiles.{copies_found, lists_found, reads_behind, texts_in}
use Rattle.jls_mend.proofs.ListNames.{all_names, all_said, none_refused}
use Rattle.jls_mend.proofs.Numbers.{bytes_in}

-- ---- a run that is done

pub record Finished (a : Asked) (d : Done) (desk report : List Event) : Type 0 where
  pub read : List CopyBytes
  pub searched : List CopyBytes
  pub made : Made
  pub reading : List Event
  pub writing : List Event
  pub desk_is : desk ≡ reading ++ writing
  pub inputs : AreInputs a read searched reading
  pub is_made : IsMade a (bytes_read searched) made
  pub handed : HandsAll (texts a searched made) writing report
  pub promised : d.settled ≡ is_of_picture (promise_on made)
  pub whole_is : IsTrue d.whole ↔ AreWhole read

abbrev settled_in : Outcome → Bool
settled_in (Ok d) = d.settled
settled_in (Err r) = false

abbrev whole_in : Outcome → Bool
whole_in (Ok d) = d.whole
whole_in (Err r) = false

is_finished : (a : Asked) (d : Done) (outcome : Outcome) (desk report faults : List Event) → outcome ≡ Ok d
    → Splices a outcome desk report faults → Finished a d desk report
is_finished a d _ _ _ _ e (at_inputs r desk stops) = absurd cc
is_finished a d _ _ _ _ e (not_made r read copies desk faults inputs cant tells) = absurd cc
is_finished a d _ _ _ _ e (not_handed r read copies m reading desk report faults noting inputs made tells noted stops) = absurd cc
is_finished a d _ _ _ _ e (done read copies m whole reading desk report faults noting inputs made tells noted handed is_read) = record {
  read = read;
  searched = copies;
  made = m;
  reading = reading;
  writing = desk;
  desk_is = refl;
  inputs = inputs;
  is_made = made;
  handed = handed;
  promised = ap settled_in (sym e);
  whole_is = subst (λ (w : Bool). IsTrue w ↔ AreWhole read) (ap whole_in e) is_read;
}

-- ---- what is searched

-- by the places that the texts of the lists name
searched_of : (copies : List (List ℕ)) (bad : List BadPlaces) → length copies < 2 ^ 64 → length bad < 2 ^ 64
    → AllByRecursion (λ (l : BadPlaces). IsNumberOf (length copies) l.copy) bad
    → (read searched : List CopyBytes) (left rest : List ℕ) (listing more : List Event) → AreSearched (values_of bad) read searched listing
    → Reads (inputs_with copies bad) left rest (listing ++ more) → AreSearchedOf (bytes_read read) bad (bytes_read searched)
searched_of copies [] small few are read searched left rest listing more s h = ap bytes_read s.0
searched_of copies (l ∷ bad) small few are read searched left rest listing more s h = record {
  places = s.places;
  named = all_named (l ∷ bad) s.lists s.places
      (subst (λ (ts : List (List ℕ)). AllZip IsReadOf ts s.lists) (texts_in 1 (l ∷ bad))
      (all_read (inputs_with copies (l ∷ bad)) (lists_of (l ∷ bad)) s.lists left rest listing more
      (lists_found copies (l ∷ bad) small few)
      (subst (λ (ns : List Text). AreCopiesRead ns s.lists listing) (all_names (length copies) 1 (l ∷ bad) are) s.lists_read)
      h))
      s.are_lists;
  known = subst (λ (ls : List BadList). AreKnownCopies (copies_with ls s.places (bytes_read read)) (bytes_read searched))
      (all_said (length copies) 1 (l ∷ bad) are) s.known;
}

-- reading lists creates no output, and so reading all inputs doesn't
listing_without : (values : List Text) (read searched : List CopyBytes) (listing more : List Event)
    → AreSearched values read searched listing → outputs_of (listing ++ more) ≡ outputs_of more
listing_without [] read searched listing more s = ap (λ (es : List Event). outputs_of (es ++ more)) s.1
listing_without (value ∷ values) read searched listing more s =
    reading_without (list_names (value ∷ values)) s.lists listing more s.lists_read

-- what follows the three kinds of inputs, which were read one after another
inputs_apart : (reading listing witnessing more : List Event)
    → (((reading ++ listing) ++ witnessing) ++ more) ≡ (reading ++ (listing ++ (witnessing ++ more)))
inputs_apart reading listing witnessing more =
    append_assoc (reading ++ listing) witnessing more ∙ append_assoc reading listing (witnessing ++ more)

inputs_without : (a : Asked) (read searched : List CopyBytes) (reading more : List Event) → AreInputs a read searched reading
    → outputs_of (reading ++ more) ≡ outputs_of more
inputs_without a read searched reading more h =
    ap (λ (es : List Event). outputs_of (es ++ more)) h.events_are
    ∙ (ap outputs_of (inputs_apart h.reading h.listing h.witnessing more)
    ∙ (reading_without a.copies read h.reading (h.listing ++ (h.witnessing ++ more)) h.copies_read
    ∙ (listing_without a.bad read searched h.listing (h.witnessing ++ more) h.are_searched
    ∙ reading_without a.witnesses h.witnesses h.witnessing more h.witnesses_read)))

-- ---- names that are apart

file_is : (single : Option (List ℕ)) → file_handed (Some (codes "FILE")) single ≡ file_made single
file_is None = refl
file_is (Some file) = refl

abbrev names_begin : Bool → Option Text
names_begin files = cond files (Some (codes "ALL")) None

abbrev first_in : Option Text → ℕ
first_in None = 0
first_in (Some name) = get_or name 0 0

all_begins : (number : ℕ) → numbered (codes "ALL") number ≡ codes "OUT" → ⊥
all_begins number e = let first = ap (λ (name : Text). get_or name 0 0) e in omega (arith, first)

not_numbered : (files : Bool) (prefix : Text) → names_begin files ≡ Some prefix → IsNumbered prefix (codes "OUT") → ⊥
not_numbered true prefix e h =
    all_begins h.0 (ap (λ (p : Text). numbered p h.0) (ap (λ (p : Option Text). unwrap_or p []) e) ∙ sym h.3)
not_numbered false prefix e h = absurd cc

file_apart : Some (codes "FILE") ≡ Some (codes "OUT") → ⊥
file_apart e =
    let first : 70 ≡ 79 = ap first_in e in omega (arith, first)

-- ---- runs over copies in memory

module _ (hold : OutputsHoldWhatIsHandedOut) (o : MendOptions) (copies : List (List ℕ)) (bad : List BadPlaces) (small : length copies < 2 ^ 64)
    (few : length bad < 2 ^ 64) (can : AreMendable copies bad) (ran : Ran)
    (run : IsRun (asked_for o copies bad) (inputs_with copies bad) ran) (d : Done) (is : ran.outcome ≡ Ok d) (v : Mended)
    (settled : v.is_promised ≡ d.settled) (whole : v.is_whole ≡ d.whole)
    (outputs : output_files v.outputs.items ≡ output_files ran.outputs.items)
    (printed : (before : List File) (name bytes : List ℕ)
    → output_files ran.printed.items ≡ before ++ record { name = name; bytes = bytes } ∷ [] → v.lines.items ≡ bytes)
  where
    abbrev asked : Asked
    asked = asked_for o copies bad

    f : Finished asked d run.desk run.report
    f = is_finished asked d ran.outcome run.desk run.report run.faults is run.splices

    -- what is done after the lists
    abbrev behind : List Event
    behind = f.inputs.witnessing ++ f.writing

    -- the copies are read first, and then the lists
    reads : Reads (inputs_with copies bad) [] run.reads.0 (f.inputs.reading ++ (f.inputs.listing ++ behind))
    reads =
        subst (λ (es : List Event). Reads (inputs_with copies bad) [] run.reads.0 es)
        (f.desk_is
        ∙ (ap (λ (es : List Event). es ++ f.writing) f.inputs.events_are
        ∙ inputs_apart f.inputs.reading f.inputs.listing f.inputs.witnessing f.writing)) run.reads.1

    printed_lines : v.lines.items ≡ lines asked (bytes_read f.searched) f.made
    printed_lines =
        printed [] [] (lines asked (bytes_read f.searched) f.made)
        (run.printed_are
        ∙ hold.0 [] (lines asked (bytes_read f.searched) f.made) (created [] ∷ run.report)
        (record { writes = run.report; events_are = refl; wrote = f.handed.printed }))

    pub is_mended : IsMendedOf o copies bad v
    is_mended =
        let then_lists = reads_behind (inputs_with copies bad) [] run.reads.0 f.inputs.reading (f.inputs.listing ++ behind) reads in
        record {
          read = f.read;
          read_of = subst (λ (cs : List (List ℕ)). AllZip IsReadOf cs f.read) (bytes_in 1 copies)
              (all_read (inputs_with copies bad) (inputs_of copies) f.read [] run.reads.0 f.inputs.reading (f.inputs.listing ++ behind)
              (copies_found copies bad small) f.inputs.copies_read reads);
          searched = bytes_read f.searched;
          are_searched = searched_of copies bad small few can.of_copies f.read f.searched then_lists.0 run.reads.0 f.inputs.listing behind
              f.inputs.are_searched then_lists.1;
          made = f.made;
          is_made = f.is_made;
          outputs_are = outputs
              ∙ (run.outputs_are
              ∙ (ap outputs_of f.desk_is
              ∙ (inputs_without asked f.read f.searched f.reading f.writing f.inputs
              ∙ (holds_all hold (texts asked f.searched f.made) f.writing run.report f.handed
              ∙ ap (λ (fs : List File). record { name = codes "OUT"; bytes = text f.made.picture } ∷ (fs ++ map numbered_made f.made.files))
              (file_is f.made.single)))));
          lines_are = printed_lines;
          promised = settled ∙ f.promised;
          whole = subst (λ (w : Bool). IsTrue w ↔ AreWhole f.read) (sym whole) f.whole_is;
        }

    pub is_of_run : IsOfRun o copies bad v
    is_of_run = record {
      desk = run.desk;
      report = run.report;
      faults = run.faults ++ run.line;
      runs = λ words asks.
          subst (λ (status : ℕ). Run words status run.desk run.report (run.faults ++ run.line))
          (ap exit_status is ∙ (ap (λ (s : Bool). status_of_done s d.whole) (sym settled)
          ∙ ap (λ (w : Bool). status_of_done v.is_promised w) (sym whole)))
          (performed asked (exit_status ran.outcome) run.desk run.report (run.faults ++ run.line) asks (λ e. absurd (file_apart e))
          (λ n. not_numbered o.files n.0 n.1 n.2) (none_refused o copies bad 1 bad can.of_copies)
          (came_of ran.outcome run.desk run.report run.faults run.line run.splices run.told));
      reads = run.reads;
      outputs_are = outputs ∙ run.outputs_are;
      lines_are = printed_lines ∙ sym f.handed.printed.they_took;
    }
