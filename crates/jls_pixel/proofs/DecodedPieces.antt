-- From the bits that were read to what is said of a piece.
use Rattle.std.proofs.Common.{◌≡◌, ℕ, ◌<◌, ◌≤◌, Bool, true, false, List, ◌++◌, length, refl, sym, ◌∙◌}
use Rattle.std.specs.Prelude.{Result, Ok, Err, IfOk, IfErr, MatchResult}
use Rattle.std.specs.List.{AllByRecursion}
use Rattle.jls_values.specs.Params.{AreCodingParameters}
use Rattle.jls_bits.specs.Bits.{bits_read, is_whole}
use Rattle.jls_pixel.specs.Pixels.{PixelShape, AreRows}
use Rattle.jls_pixel.specs.Code.{pixel_code}
use Rattle.jls_pixel.specs.Reads.{BeginsWithCode, Reads, IsLong, IsBroken}
use Rattle.jls_pixel.specs.RowRead.{NoRows}
use Rattle.jls_pixel.specs.PieceFaults.{FaultIs}
use Rattle.jls_pixel.specs.declared.decode.PixelFault.{PixelFault}
use Rattle.jls_pixel.specs.declared.decode.PixelFault.TheVariants.{Long, Broken, OutOfMemory}
use Rattle.jls_pixel.proofs.CodesApart.{reads_once, read_not_long}

module _ (i : PixelShape) (piece : List ℕ) where
  -- bytes that have no data bits
  pub broken_bytes : is_whole piece ≡ false → IsBroken i piece
  broken_bytes h = record {
    not_read = λ rows r. (let a : true ≡ false = sym r.begins.data_bits.whole ∙ h in cc);
    not_long = λ l. (let a : true ≡ false = sym l.begins.data_bits.whole ∙ h in cc);
  }

  -- bits that begin with no rows' code
  pub broken_bits : NoRows i.params i.width i.components i.row_count (bits_read piece) → IsBroken i piece
  broken_bits none = record {
    not_read = λ rows r. none rows r.unread r.begins.are_rows r.begins.data_bits.read;
    not_long = λ l. none l.rows l.unread l.begins.are_rows l.begins.data_bits.read;
  }

  module _ (bytes : AllByRecursion (λ x. x < 256) piece) (whole : is_whole piece ≡ true) (rows : List (List (List ℕ)))
      (are : AreRows i.params i.width i.components i.row_count rows) (unread : List Bool)
      (read : bits_read piece ≡ pixel_code i.params i.width i.components rows ++ unread) where
    begins : BeginsWithCode i piece rows unread
    begins = record { are_bytes = bytes; are_rows = are; data_bits = record { whole = whole; read = read } }

    pub piece_reads : length unread ≤ 7 → Reads i piece rows
    piece_reads l = record { unread = unread; begins = begins; at_most_seven = l }

    pub piece_is_long : 7 < length unread → IsLong i piece
    piece_is_long l = record { rows = rows; unread = unread; begins = begins; more_than_seven = l }

  -- an answer that says what the piece is gives the rows that it reads as
  pub judged : AreCodingParameters i.params → 0 < i.width → {T : Type 0} (rows_of : T → List (List (List ℕ))) (r : Result T PixelFault)
      → IfOk r (λ v. Reads i piece (rows_of v)) → IfErr r (λ fault. FaultIs fault i piece)
      → (wanted : List (List (List ℕ))) → Reads i piece wanted
      → MatchResult r (λ v. rows_of v ≡ wanted) (λ fault. fault ≡ OutOfMemory)
  judged ok some rows_of (Ok v) a b wanted read = reads_once i piece ok some (rows_of v) wanted a read
  judged ok some rows_of (Err Long) a b wanted read = absurd (read_not_long i piece ok some wanted read b)
  judged ok some rows_of (Err Broken) a b wanted read = absurd (b.not_read wanted read)
  judged ok some rows_of (Err OutOfMemory) a b wanted read = refl
