-- What a run of the program is.
use Rattle.std.specs.Prelude.{◌≡◌, ◌↔◌, ◌&&◌, ℕ, Bool, true, false, not, IsTrue, List, [], ◌∷◌, ◌++◌, codes, length, nat_le, option_map}
use Rattle.std.specs.Prelude.{if◌then◌else◌}
use Rattle.std.specs.Prelude.{Option, Some, None, Err}
use Rattle.std.specs.Prelude.{◌||◌, ◌==◌, get_or, nat_eq}
use Rattle.std.specs.List.{starts_with}
use Rattle.std.specs.Str.{bytes_eq}
use Rattle.clap.specs.Words.{Text}
use Rattle.clap.specs.declared.error.kind.ErrorKind.{ErrorKind}
use Rattle.jls_io.specs.Event.{Event, History}
use Rattle.jls_io.specs.Writing.{Wrote, WrotePrefix, Printed}
use Rattle.jls_partial.specs.Text.{text}
use Rattle.jls_station.specs.CopyFiles.{CopyBytes}
use Rattle.jls_cli.specs.BadValues.{BadList, bad_list_of}
use Rattle.jls_cli.specs.SpliceAsking.{Asked, AskFor, AskForNothing}
use Rattle.jls_cli.specs.SpliceWords.{AreRefused}
use Rattle.jls_cli.specs.Answers.{is_help}
use Rattle.jls_io.specs.FaultLines.{not_written_line, out_of_memory_line}
use Rattle.jls_cli.specs.FaultLines.{fault_line}
use Rattle.jls_cli.specs.Outcomes.{Outcome, exit_status, finished}
use Rattle.jls_splice_run.specs.FaultLines.{bad_value_line, named_twice_line, not_understood_line, numbered_out_line, program}
use Rattle.jls_cli.specs.declared.outcome.Refusal.{Refusal}
use Rattle.jls_splice_run.specs.Copies.{AreWhole, bytes_read}
use Rattle.jls_splice_run.specs.Handing.{HandsAll, StopsInHanding, Texts}
use Rattle.jls_splice_run.specs.Inputs.{AreInputs, StopsAtInputs}
use Rattle.jls_splice_run.specs.Listing.{IsNumbered, named_files, prefix_in}
use Rattle.jls_splice_run.specs.Making.{CantMake, IsMade, Made, is_of_picture, lines, notes, promise_on}
use Rattle.jls_splice_run.specs.Telling.{IsTold}
use Rattle.jls_splice_run.specs.declared.made.Made.{Made as MadeValue}

-- the histories of the three devices grew by events, and they are such: nothing else was done
pub record GrewAll (Are : List Event → List Event → List Event → Type 0) (desk desk' report report' faults faults' : History) : Type 0 where
  pub desk_events : List Event
  pub report_events : List Event
  pub fault_events : List Event
  pub desk_is : desk' ≡ desk ++ desk_events
  pub report_is : report' ≡ report ++ report_events
  pub faults_are : faults' ≡ faults ++ fault_events
  pub they_are : Are desk_events report_events fault_events

-- what is handed out of what was made of these copies
abbrev pub texts : Asked → List CopyBytes → Made → Texts
texts a copies m = record {
  lines = lines a (bytes_read copies) m;
  out = a.out;
  text = text m.picture;
  file_name = a.options.file;
  file = m.single;
  prefix = prefix_in a.options.files;
  files = m.files;
}

-- and as the code holds it
abbrev pub texts_held : Asked → MadeValue → Texts
texts_held a v = record {
  lines = v.lines.items;
  out = a.out;
  text = v.text.items;
  file_name = a.options.file;
  file = option_map (λ f. f.items) v.file;
  prefix = prefix_in a.options.files;
  files = named_files v.files.items;
}

-- What comes of what was asked, by the events of the desk, of the report output and of the fault output. A copy, a list of bad places or a
-- witness stops the run. Or all were read, and nothing can be made of what is searched. Or something is, and one of the outputs stops the
-- run. Or all of it is handed out. Then it is said whether the promise is of the picture, and whether each copy was read to its end. So the
-- status is 0 exactly where both are so. The searches tell how far they are, if that is asked for.
-- If the output is standard output, what was found is noted on the fault output
pub data Splices (a : Asked) : Outcome → List Event → List Event → List Event → Type 0 where
  at_inputs : (r : Refusal) (desk : List Event) → StopsAtInputs a r desk → Splices a (Err r) desk [] []
  not_made : (r : Refusal) (read copies : List CopyBytes) (desk faults : List Event) → AreInputs a read copies desk
      → CantMake a copies r → IsTold a.options.progress faults → Splices a (Err r) desk [] faults
  not_handed : (r : Refusal) (read copies : List CopyBytes) (m : Made) (reading desk report faults noting : List Event)
      → AreInputs a read copies reading → IsMade a (bytes_read copies) m → IsTold a.options.progress faults
      → Printed (notes a (bytes_read copies) m) noting
      → StopsInHanding (texts a copies m) r desk report → Splices a (Err r) (reading ++ desk) report (faults ++ noting)
  done : (read copies : List CopyBytes) (m : Made) (whole : Bool) (reading desk report faults noting : List Event)
      → AreInputs a read copies reading → IsMade a (bytes_read copies) m → IsTold a.options.progress faults
      → Printed (notes a (bytes_read copies) m) noting
      → HandsAll (texts a copies m) desk report
      → (IsTrue whole ↔ AreWhole read)
      → Splices a (finished (is_of_picture (promise_on m)) whole) (reading ++ desk) report (faults ++ noting)

-- what was asked ends with this status, and its fault line is printed last; or memory ran out before a copy was opened
pub data Performs (a : Asked) : ℕ → List Event → List Event → List Event → Type 0 where
  came_of : (outcome : Outcome) (desk report faults line : List Event)
      → Splices a outcome desk report faults → Printed (fault_line program outcome) line
      → Performs a (exit_status outcome) desk report (faults ++ line)
  no_names : (faults : List Event) → Printed (out_of_memory_line program) faults → Performs a 5 [] [] faults

-- the mended file is asked for under the name OUT
abbrev pub IsFileOut : Asked → Type 0
IsFileOut a = a.options.file ≡ Some a.out

-- OUT has the name of an output that has a number
abbrev pub IsNumberedOut : Asked → Type 0
IsNumberedOut a = (prefix : Text) × (a.options.files ≡ Some prefix) × IsNumbered prefix a.out

-- whether files whose names begin so can have this one: it goes on with `-`
abbrev pub can_be_numbered : Option Text → Text → Bool
can_be_numbered None name = false
can_be_numbered (Some prefix) name = starts_with nat_eq name prefix && (get_or name (length prefix) 0 == 45)

-- whether the mended file has this name
abbrev pub is_file_name : Option Text → Text → Bool
is_file_name None name = false
is_file_name (Some file) name = bytes_eq name file

-- whether a name is that of standard input, or of an output that is asked for
abbrev pub is_taken_name : Asked → Text → Bool
is_taken_name a name =
    bytes_eq name (codes "-")
    || (bytes_eq name a.out || (is_file_name a.options.file name || can_be_numbered a.options.files name))

-- whether it is a list of one of the copies, under a name of its own
abbrev pub is_list_of : Asked → Option BadList → Bool
is_list_of a None = false
is_list_of a (Some l) = nat_le l.copy (length a.copies) && not (is_taken_name a l.name)

-- the first of these values of `--bad` that names no such list
abbrev pub bad_value_among : Asked → List Text → Option Text
bad_value_among a [] = None
bad_value_among a (value ∷ values) = if is_list_of a (bad_list_of value) then bad_value_among a values else Some value

-- the first value of `--bad` that names no such list
abbrev pub bad_value : Asked → Option Text
bad_value a = bad_value_among a a.bad

-- a run over these words ends with this status; the events are those of the desk, of the report output and of the fault output
pub data Run (words : List Text) : ℕ → List Event → List Event → List Event → Type 0 where
  -- the words ask for something
  performed : (a : Asked) (status : ℕ) (desk report faults : List Event)
      → AskFor words a → ¬ IsFileOut a → ¬ IsNumberedOut a → bad_value a ≡ None → Performs a status desk report faults
      → Run words status desk report faults
  -- and for the mended file under the name OUT
  named_twice : (a : Asked) (faults : List Event)
      → AskFor words a → IsFileOut a → Printed (named_twice_line a.out) faults → Run words 2 [] [] faults
  -- and for files with numbers, one of which can have the name OUT
  numbered_out : (a : Asked) (faults : List Event)
      → AskFor words a → ¬ IsFileOut a → IsNumberedOut a → Printed (numbered_out_line a.out) faults → Run words 2 [] [] faults
  -- and for a list of bad places of no copy
  no_list : (a : Asked) (value : Text) (faults : List Event)
      → AskFor words a → ¬ IsFileOut a → ¬ IsNumberedOut a → bad_value a ≡ Some value → Printed (bad_value_line value) faults
      → Run words 2 [] [] faults
  -- clap refuses the words, and not to show help: some text, which may be any, goes to the fault output
  misused : (k : ErrorKind) (usage : List ℕ) (faults : List Event)
      → AreRefused words k → is_help k ≡ false → Printed usage faults → Run words 2 [] [] faults
  -- help or the version was asked for: some text, which may be any, goes to the report output
  helped : (k : ErrorKind) (help : List ℕ) (report : List Event)
      → AreRefused words k → is_help k ≡ true → Wrote help report → Run words 0 [] report []
  -- and a write failed there
  help_cut : (k : ErrorKind) (help : List ℕ) (count : ℕ) (report faults : List Event)
      → AreRefused words k → is_help k ≡ true → WrotePrefix help count report
      → Printed (not_written_line program (codes "-") count) faults
      → Run words 4 [] report faults
  -- memory ran out as the words were read
  nothing_begun : (faults : List Event) → Printed (out_of_memory_line program) faults → Run words 5 [] [] faults
  -- clap takes the words, and they ask for nothing that there is
  nothing_asked : (faults : List Event) → AskForNothing words → Printed not_understood_line faults → Run words 2 [] [] faults

-- the histories of the three devices grew by the events of such a run
abbrev pub Ran : List Text → ℕ → History → History → History → History → History → History → Type 0
Ran words status desk desk' report report' faults faults' = GrewAll (Run words status) desk desk' report report' faults faults'
