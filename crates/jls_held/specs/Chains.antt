-- Inside the crate: chains, the lines of a piece in order, each with whether all bytes of its code are held.
use Rattle.std.specs.Prelude.{◌≡◌, ℕ, zero, suc, ◌+◌, ◌*◌, ◌<◌, ◌≤◌, Bool, true, false, if◌then◌else◌, List, length, take, get_or, Vec}
use Rattle.std.specs.declared.alloc.Global.{Global}
use Rattle.jls_bits.specs.declared.writer.BitPlace.{BitPlace}
use Rattle.jls_interval.specs.Fronts.{nowhere}
use Rattle.jls_piece.specs.Lines.{PieceShape}
use Rattle.jls_partial.specs.Reading.{Reading, reading_of}
use Rattle.jls_held.specs.declared.chain.ChainLine.{ChainLine}
use Rattle.jls_held.specs.MendedFiles.{MendedFile}
use Rattle.jls_held.specs.LineCode.{code_length, bits_before}
use Rattle.jls_partial.specs.Partial.{PartialPicture}
use Rattle.jls_held.specs.HeldLines.{IsHeldBehind}
use Rattle.jls_held.specs.HeldPictures.{AreReadingsHeld, HasLinesBefore, is_among}

-- all bytes of a file are held that carry bits between two places of the piece at this offset
pub record AreHeldBetween (held : List Bool) (offset : ℕ) (start end : BitPlace) : Type 0 where
  pub filled : (place : ℕ) → start.bytes ≤ place → place < end.bytes → get_or held (offset + place) false ≡ true
  pub last : 0 < end.bits → get_or held (offset + end.bytes) false ≡ true

-- So many first bits of a piece end here: each byte that carries one of them stands before this place, or has some bits before it.
-- Each byte that carries a bit behind them doesn't stand before this place
pub record EndAround (piece : List ℕ) (size : ℕ) (place : BitPlace) : Type 0 where
  pub carried : (k : ℕ) → k < length piece → bits_before piece k < size → (k ≤ place.bytes) × (k ≡ place.bytes → 0 < place.bits)
  pub behind : (k : ℕ) → k < length piece → size < bits_before piece (k + 1) → place.bytes ≤ k

-- how many lines are coded together
abbrev pub together : PieceShape → ℕ
together i = if i.by_sample then i.components else 1

-- these are the places where the code of each so many lines of a piece ends, one after another
abbrev pub AreCodeEnds : PieceShape → List ℕ → List (List ℕ) → List BitPlace → Type 0
AreCodeEnds i piece lines ends =
    (k : ℕ) → k < length ends → EndAround piece (code_length i (take ((k + 1) * together i) lines)) (get_or ends k nowhere)

-- some bits of the byte at this place, if it isn't said how many
abbrev pub place_of : ℕ → BitPlace
place_of n = record { bytes = n; bits = 1 }

-- where the code behind so many of these ends begins
abbrev pub start_of : List BitPlace → ℕ → BitPlace
start_of ends zero = nowhere
start_of ends (suc n) = get_or ends n nowhere

-- a line of a chain as a reading
abbrev pub reading_in : ChainLine → Reading
reading_in l = reading_of l.component l.row l.samples.items

-- so many first lines of a chain are known
abbrev pub AreFirstKnown : (Reading → Bool) → List ChainLine → ℕ → Type 0
AreFirstKnown known lines count =
    (k : ℕ) (d : ChainLine) → k < count → k < length lines → known (reading_in (get_or lines k d)) ≡ true

-- each line of a chain whose code is held is held by the files behind known ones, if all lines before it in the chain are known
abbrev pub IsChain : List MendedFile → List ChainLine → Type 0
IsChain files lines =
    (k : ℕ) (d : ChainLine) → k < length lines → (get_or lines k d).is_code_held ≡ true → (known : Reading → Bool)
    → AreFirstKnown known lines k → IsHeldBehind files known (reading_in (get_or lines k d))

-- each of these is a chain
abbrev pub AreChains : List MendedFile → List (Vec ChainLine Global) → Type 0
AreChains files chains = (i : ℕ) (d : Vec ChainLine Global) → i < length chains → IsChain files (get_or chains i d).items

-- of each chain, so many first lines are known
abbrev pub ArePlacesKnown : (Reading → Bool) → List (Vec ChainLine Global) → List ℕ → Type 0
ArePlacesKnown known chains places =
    (i : ℕ) (d : Vec ChainLine Global) → i < length chains → AreFirstKnown known (get_or chains i d).items (get_or places i 0)

-- the second partial picture has each reading of the first
abbrev pub AreKept : PartialPicture → PartialPicture → Type 0
AreKept p q = (r : Reading) → is_among p r ≡ true → is_among q r ≡ true

-- all readings of a partial picture are held by the files, and have the lines before them in their intervals among the readings
pub record IsHeldPicture (files : List MendedFile) (p : PartialPicture) : Type 0 where
  pub held : AreReadingsHeld files p
  pub before : HasLinesBefore files p
