-- What an input gives: a text its partial picture; a damaged copy, wherever its reading stopped, the readings of its course.
use Rattle.std.specs.Prelude.{◌≡◌, ℕ, false, List, length, Option, Some, None}
use Rattle.jls_partial.specs.Partial.{PartialPicture, with_source}
use Rattle.jls_copy.specs.CopyReads.{CopyReads}
use Rattle.jls_copy.specs.ReadCopy.{ReadCopy}
use Rattle.jls_copy.specs.declared.end.End.{End}
use Rattle.jls_copy.specs.declared.piece.PieceRecord.{PieceRecord}
use Rattle.jls_station.specs.Texts.{is_text, IsTextOf}
use Rattle.jls_station.specs.declared.input.ReadStop.{ReadStop}
use Rattle.jls_station.specs.declared.input.ReadStop.TheVariants.{Whole}

-- `source` is the number under which the readings of copies are taken, where there is one; a text has its own

-- a partial picture with the source at each reading, if there is a source
abbrev pub marked : Option ℕ → PartialPicture → PartialPicture
marked None p = p
marked (Some source) p = with_source p source

-- what was found in a copy beside its readings: the records that are kept of faulty pieces, how many faulty pieces there were, where the
-- copy ended, and how many of its bytes were read
pub record FoundCopy : Type 0 where
  pub pieces : List PieceRecord
  pub piece_count : ℕ
  pub ended : End
  pub count : ℕ

-- what is reported of a copy that was read: what was found, and how its reading stopped
pub record CopyReport : Type 0 where
  pub found : FoundCopy
  pub stop : ReadStop

-- what an input gave: its partial picture; what was found beside it, if it is a copy; and how its reading stopped
pub record Given : Type 0 where
  pub partial : PartialPicture
  pub copy : Option FoundCopy
  pub stop : ReadStop

-- what is found in a copy of these bytes that reads so
abbrev pub found_in : List ℕ → ReadCopy → FoundCopy
found_in bytes read = record { pieces = read.pieces; piece_count = read.piece_count; ended = read.ended; count = length bytes }

-- and what is reported of it, where its reading stopped so
abbrev pub report_of : List ℕ → ReadCopy → ReadStop → CopyReport
report_of bytes read stop = record { found = found_in bytes read; stop = stop }

-- what a text gives: its partial picture, and no record
abbrev pub given_by_text : PartialPicture → Given
given_by_text p = record { partial = p; copy = None; stop = Whole }

-- what a copy gives under a source or none, with how its reading stopped
abbrev pub given_by_copy : Option ℕ → List ℕ → ReadCopy → ReadStop → Given
given_by_copy source bytes read stop = record { partial = marked source read.partial; copy = Some (found_in bytes read); stop = stop }

-- what was read of an input: a partial picture, and the report of a copy
abbrev pub given_of : PartialPicture → Option CopyReport → Given
given_of p None = given_by_text p
given_of p (Some report) = record { partial = p; copy = Some report.found; stop = report.stop }

-- what an input gives, if its bytes until it stopped are these. A text that was read to its end gives its partial picture. A copy gives
-- what it reads as, wherever it stopped
pub data Gives : Option ℕ → List ℕ → Given → Type 0 where
  by_text : (source : Option ℕ) (bytes : List ℕ) (p : PartialPicture) → IsTextOf bytes p → Gives source bytes (given_by_text p)
  by_copy : (source : Option ℕ) (bytes : List ℕ) (read : ReadCopy) (stop : ReadStop) → is_text bytes ≡ false → CopyReads bytes read
      → Gives source bytes (given_by_copy source bytes read stop)

-- an input gives this partial picture
abbrev pub GivesPartial : Option ℕ → List ℕ → PartialPicture → Type 0
GivesPartial source bytes p = (g : Given) × Gives source bytes g × (g.partial ≡ p)
