-- What a reader gives of each of the two copies, as values. So the examples that ask for what was read of them stand with nothing assumed.
use Rattle.std.proofs.Common.{ℕ, false, List, [], ◌∷◌, ◌++◌, length, take, None, refl, lit<}
use Rattle.jls_values.specs.OrderedSet as set
use Rattle.jls_piece.specs.Lines.{piece_shape}
use Rattle.jls_piece.specs.Reads.{IsBroken}
use Rattle.jls_piece.proofs.PieceReads.{empty_is_broken}
use Rattle.jls_partial.specs.Partial.{PartialPicture, without_sources, nothing_known, union, with_source}
use Rattle.jls_partial.specs.Reading.{reading_of, reading_cmp}
use Rattle.jls_copy.specs.CopyReads.{CopyReads}
use Rattle.jls_copy.specs.Course.{IsCourse}
use Rattle.jls_copy.specs.Pieces.{FoundPiece, pieces, PieceOutcome, Lines, Fault, AreOutcomes, readings, records}
use Rattle.jls_copy.specs.ReadCopy.{ReadCopy}
use Rattle.jls_copy.specs.ScanData.{ClosedPiece}
use Rattle.jls_copy.specs.declared.end.End.TheVariants.{Eoi}
use Rattle.jls_copy.specs.declared.piece.PieceKind.TheVariants as kind
use Rattle.jls_write.specs.Picture.{picture_of}
use Rattle.jls_write.specs.WrittenFile.{written_file}
use Rattle.jls_headline.specs.Collected.{no_knowledge, Collected, CollectedFrom, CollectedUnder}
use Rattle.jls_headline.specs.Headline.{WritesThePicture}
use Rattle.jls_headline.specs.ReadsAs.{ReadsAsOnly}
use Rattle.jls_headline.specs.Sources.{SourcedCopy, sourced_copy}
use Rattle.jls_headline.proofs.CollectedExamples.{with_both, collected_both, writes_both, held_and_marked}
use Rattle.jls_headline.proofs.FileExamples.{options, file_comes_back}
use Rattle.jls_headline.proofs.PremiseExamples.{ran_out_over_first}
use Rattle.jls_headline.proofs.TwoLineCopies.{shape, pic, bits_8, first, second, course_with, lost_first, first_course}
use Rattle.jls_headline.proofs.TwoLineCopies.{second_course, outcomes_read}

-- Readers --------------------------------------------------------------------------------------------------------

-- the reader of a copy of this course gives this by the outcomes of its pieces
module _ (closed : List ClosedPiece) (last : List ℕ) (end : ℕ) (outcomes : List PieceOutcome) where
  abbrev found : List FoundPiece
  found = pieces (course_with closed last end)

  abbrev read_with : ReadCopy
  read_with = record {
    partial = without_sources shape (set.insert_all {R = reading_cmp} set.empty (readings found outcomes ++ []));
    pieces = take 4096 (records found outcomes);
    piece_count = length (records found outcomes);
    ended = Eoi end;
  }

  reads_with : (copy : List ℕ) → IsCourse copy (course_with closed last end) → AreOutcomes found outcomes → CopyReads copy read_with
  reads_with copy is each = record {
    course = course_with closed last end;
    is_course = is;
    shape = shape;
    framed = refl;
    outcomes = outcomes;
    each = each;
    head = [];
    head_is = refl;
    partial_is = refl;
    pieces_are = refl;
    count_is = refl;
    ended_is = refl;
  }

-- of the first copy: line 0, and no record
abbrev pub first_read : ReadCopy
first_read = record {
  partial = without_sources shape (set.insert_all {R = reading_cmp} set.empty (reading_of 0 0 (0 ∷ []) ∷ []));
  pieces = [];
  piece_count = 0;
  ended = Eoi 32;
}

pub first_reads : CopyReads first first_read
first_reads = reads_with [] (0x80 ∷ []) 32 (Lines ((0 ∷ []) ∷ []) ∷ []) first first_course (outcomes_read.zero_read, tt)

-- of the second: line 1, and the record of the first piece, which has no byte
abbrev pub second_read : ReadCopy
second_read = record {
  partial = without_sources shape (set.insert_all {R = reading_cmp} set.empty (reading_of 0 1 (255 ∷ []) ∷ []));
  pieces = record { scan = 0; interval = 0; offset = 31; kind = kind.Broken } ∷ [];
  piece_count = 1;
  ended = Eoi 34;
}

-- no byte is the code of a line
no_byte_is_broken : IsBroken (piece_shape bits_8 1 1 1 false) []
no_byte_is_broken = empty_is_broken (piece_shape bits_8 1 1 1 false) (lit< tt) (lit< tt) (lit< tt)

pub second_reads : CopyReads second second_read
second_reads =
    reads_with (lost_first ∷ []) (0x40 ∷ []) 34 (Fault kind.Broken ∷ Lines ((255 ∷ []) ∷ []) ∷ []) second second_course
    (no_byte_is_broken, (outcomes_read.largest_read, tt))

-- Both copies ----------------------------------------------------------------------------------------------------

-- a new station that took what was read of both
abbrev pub station : PartialPicture
station = with_both first_read second_read first_reads second_reads

abbrev pub copies : List SourcedCopy
copies = sourced_copy None first ∷ sourced_copy None second ∷ []

pub station_is_collected : CollectedFrom station copies
station_is_collected = collected_both first_read second_read first_reads second_reads

pub station_writes_the_picture : WritesThePicture station pic
station_writes_the_picture = writes_both first_read second_read first_reads second_reads

-- and the file that is written of it reads as the picture
pub station_comes_back : ReadsAsOnly (written_file (picture_of station) options) pic
station_comes_back = file_comes_back first_read second_read first_reads second_reads

-- a station for which memory ran out over the first copy, and which holds its line
ran_out : Collected no_knowledge (union (nothing_known shape) first_read.partial) [] (sourced_copy None first ∷ [])
ran_out = ran_out_over_first first_read first_reads

-- no calls that took the first copy under no source came to its line with the source 7
not_under_7 : CollectedUnder (with_source first_read.partial 7) (sourced_copy None first ∷ []) → ⊥
not_under_7 = held_and_marked first_read first_reads
