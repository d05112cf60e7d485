-- Traces of worked copies, as they are printed.
use Rattle.std.proofs.Common.{◌≡◌, [], ◌∷◌, refl}
use Rattle.std.specs.Prelude.{codes}
use Rattle.jls_marker.specs.declared.fault.MarkerFault.TheVariants.{Lossy}
use Rattle.jls_copy.specs.declared.end.End.TheVariants.{Eoi, Input, Header}
use Rattle.jls_copy.specs.declared.piece.PieceKind.TheVariants.{Broken, Long, Beyond}
use Rattle.jls_station.specs.Given.{FoundCopy}
use Rattle.jls_station.specs.declared.input.ReadStop.TheVariants.{Whole, Failed, Turns}
use Rattle.jls_salvage_run.specs.Tracing.{trace, more_line}
use Rattle.jls_report.proofs.PrintedNumbers.{d0, d1, d2, d3, d6, d7, d33, d41, d45, d46, d59, d128, d153, d904}

-- three pieces, all of which were kept
abbrev three : FoundCopy
three = record {
  pieces = record { scan = 0; interval = 2; offset = 41; kind = Broken } ∷ record { scan = 1; interval = 3; offset = 59; kind = Long }
      ∷ record { scan = 2; interval = 7; offset = 128; kind = Beyond } ∷ [];
  piece_count = 3;
  ended = Eoi 153;
  count = 155;
}

-- none, of a copy that broke off
abbrev none : FoundCopy
none = record { pieces = []; piece_count = 0; ended = Input 45; count = 46 }

abbrev at_a_fault : FoundCopy
at_a_fault = record { pieces = []; piece_count = 0; ended = Header Lossy 33; count = 60 }

whole : trace three Whole ≡ codes "piece 0 2 41 broken\npiece 1 3 59 long\npiece 2 7 128 beyond\nend eoi 153\n"
whole = rw (d0, d1, d2, d3, d7, d41, d59, d128, d153) refl

failed : trace none Failed ≡ codes "end input 45\nread failed 46\n"
failed = rw (d45, d46) refl

stopped : trace none Turns ≡ codes "end input 45\nread stopped 46\n"
stopped = rw (d45, d46) refl

by_fault : trace at_a_fault Whole ≡ codes "end fault 6 33\n"
by_fault = rw (d6, d33) refl

more : more_line 4096 5000 ≡ codes "pieces more 904\n"
more = rw d904 refl

no_more : more_line 4096 4096 ≡ []
no_more = refl
