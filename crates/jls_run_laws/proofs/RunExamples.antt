-- A run of the program that joins two copies, and one that writes what was joined: what the laws on runs ask of them is met.
use Rattle.std.proofs.Common.{◌≡◌, zero, suc, true, List, [], ◌∷◌, ◌++◌, None, refl, lit<, lit≤, arith, inl}
use Rattle.std.specs.List.{Contains}
use Rattle.std.specs.Prelude.{codes}
use Rattle.clap.specs.Words.{Text}
use Rattle.clap.proofs.OnLiterals.{clap_on_literals}
use Rattle.jls_copy.specs.CopyReads.{CopyReads}
use Rattle.jls_copy.specs.ReadCopy.{ReadCopy}
use Rattle.jls_salvage_run.specs.Joining as joining
use Rattle.jls_marker.specs.SegmentLaws.{AreBytes}
use Rattle.jls_partial.specs.Text.{text}
use Rattle.jls_salvage_run.specs.CommandLaws.{HaveSameMembers, input_bytes, output_bytes}
use Rattle.jls_salvage_run.specs.declared.writing.Format.TheVariants.{Pnm}
use Rattle.jls_run_laws.proofs.ClosedRunExamples.{text_is_bytes}
use Rattle.jls_cli.specs.Outcomes.{finished}
use Rattle.jls_io.specs.Event.{Event}
use Rattle.jls_cli.specs.SalvageAsking.{AskFor, join, write_pnm}
use Rattle.jls_salvage_run.specs.Runs.{came_of}
use Rattle.jls_headline.proofs.ClosedExamples.{first_read, second_read, first_reads, second_reads}
use Rattle.jls_run_laws.proofs.JoinExamples as runs
use Rattle.jls_headline.proofs.TwoLineCopies.{pic, is_picture, first, second}
use Rattle.jls_headline.proofs.TwoLineExamples.{both_are_damaged, each_line_survives}
use Rattle.jls_run_laws.specs.RunToRun.{JoinRun, WriteRun}

-- The same inputs of two runs of `join` ---------------------------------------------------------------------------

same_inputs : HaveSameMembers (first ∷ second ∷ []) (second ∷ first ∷ first ∷ [])
same_inputs bytes = (there, back)
  where
    there : Contains (first ∷ second ∷ []) bytes → Contains (second ∷ first ∷ first ∷ []) bytes
    there (zero, l, e) = (1, lit< tt, e)
    there (suc zero, l, e) = (0, lit< tt, e)
    there (suc (suc k), l, e) = absurd (omega (arith, l))

    back : Contains (second ∷ first ∷ first ∷ []) bytes → Contains (first ∷ second ∷ []) bytes
    back (zero, l, e) = (1, lit< tt, e)
    back (suc zero, l, e) = (0, lit< tt, e)
    back (suc (suc zero), l, e) = (0, lit< tt, e)
    back (suc (suc (suc k)), l, e) = absurd (omega (arith, l))

-- A run of the program -------------------------------------------------------------------------------------------

-- `jls-salvage join o a b`
abbrev join_words : List Text
join_words = codes "jls-salvage" ∷ codes "join" ∷ codes "o" ∷ codes "a" ∷ codes "b" ∷ []

asks_join : AskFor join_words (join None (111 ∷ []) ((97 ∷ []) ∷ (98 ∷ []) ∷ []))
unfolding clap_on_literals
asks_join = record { taken = refl; asks = refl }

module _ (a b : ReadCopy) (ra : CopyReads first a) (rb : CopyReads second b) where
  join_run : JoinRun pic 0 (runs.joining a b ra rb)
  join_run = record {
    is_picture = is_picture;
    words = join_words;
    ran = record {
      desk = [];
      desk' = runs.joining a b ra rb;
      report = [];
      report' = [];
      faults = [];
      faults' = [];
      ran = record {
        desk_events = runs.joining a b ra rb;
        report_events = [];
        fault_events = [];
        desk_is = refl;
        report_is = refl;
        faults_are = refl;
        run = came_of join_words (join None (111 ∷ []) ((97 ∷ []) ∷ (98 ∷ []) ∷ [])) (finished true true)
            (runs.joining a b ra rb) [] [] asks_join (
              joining.done None (111 ∷ []) ((97 ∷ []) ∷ (98 ∷ []) ∷ []) (runs.both a b ra rb) true true (runs.joining a b ra rb)
                  (runs.is_done a b ra rb),
              refl,
            )
            (inl (record { are_writes = tt; they_took = refl }));
      };
      they_are = refl;
    };
    source = None;
    small = λ number e. absurd cc;
    out = 111 ∷ [];
    names = (97 ∷ []) ∷ (98 ∷ []) ∷ [];
    asks = asks_join;
    ended = lit≤ tt;
    damaged = both_are_damaged [];
    each_line = each_line_survives [];
  }

-- and of what is read of the two copies, with nothing assumed
run_of_both : JoinRun pic 0 (runs.joining first_read second_read first_reads second_reads)
run_of_both = join_run first_read second_read first_reads second_reads

-- A run that writes what was joined ------------------------------------------------------------------------------

-- `jls-salvage write --as pnm p o`
abbrev write_words : List Text
write_words = codes "jls-salvage" ∷ codes "write" ∷ codes "--as" ∷ codes "pnm" ∷ codes "p" ∷ codes "o" ∷ []

asks_write : AskFor write_words (write_pnm (112 ∷ []) (111 ∷ []))
unfolding clap_on_literals
asks_write = record { taken = refl; asks = refl }

module _ (a b : ReadCopy) (ra : CopyReads first a) (rb : CopyReads second b) (low : AreBytes (text (runs.both a b ra rb))) where
  abbrev writing : List Event
  writing = runs.text_reading a b ra rb low ++ runs.handing a b ra rb low

  write_run : WriteRun Pnm writing
  write_run = record {
    words = write_words;
    ran = record {
      desk = [];
      desk' = writing;
      report = [];
      report' = [];
      faults = [];
      faults' = [];
      ran = record {
        desk_events = writing;
        report_events = [];
        fault_events = [];
        desk_is = refl;
        report_is = refl;
        faults_are = refl;
        run = came_of write_words (write_pnm (112 ∷ []) (111 ∷ [])) (finished true true) writing [] [] asks_write
            (runs.writes_file a b ra rb low, refl) (inl (record { are_writes = tt; they_took = refl }));
      };
      they_are = refl;
    };
    out = 112 ∷ [];
    name = 111 ∷ [];
    asks = asks_write;
  }

  -- its one input gave what the run of `join` handed out
  reads_the_join : input_bytes writing ≡ output_bytes (runs.joining a b ra rb)
  reads_the_join = (runs.writes a b ra rb low).same_bytes

-- with nothing assumed
write_of_both : WriteRun Pnm (writing first_read second_read first_reads second_reads text_is_bytes)
write_of_both = write_run first_read second_read first_reads second_reads text_is_bytes
