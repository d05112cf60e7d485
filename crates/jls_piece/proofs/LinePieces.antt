-- A piece by line is an interval by line.
use Rattle.std.proofs.Common.{◌≡◌, ℕ, true, false, Bool, List, refl, inl, inr}
use Rattle.jls_interval.specs.Lines.{IntervalShape}
use Rattle.jls_interval.specs.Reads as line
use Rattle.jls_interval.specs.Laws as line_law
use Rattle.jls_interval.specs.Heads as line_head
use Rattle.jls_piece.specs.Lines.{PieceShape, line_piece, AreOfWholeRows}
use Rattle.jls_piece.specs.Reads.{BeginsWithCode, Reads, IsLong, IsBroken, ReadsNoMore}
use Rattle.jls_piece.specs.Laws.{IsCutCode}
use Rattle.jls_piece.specs.Heads.{BeginsWithFirst, AreWholeLines, IsHead, IsHeadOfPiece}
use Rattle.jls_piece.specs.Kinds.{IsInterval}

module _ (i : IntervalShape) where
  abbrev own : PieceShape
  own = line_piece i

  -- lines by line may end anywhere
  pub any_rows : (lines : List (List ℕ)) → AreOfWholeRows own lines
  any_rows lines = λ (h : false ≡ true). absurd cc

  begins_to : (piece : List ℕ) (lines : List (List ℕ)) (unread : List Bool) → BeginsWithCode own piece lines unread
      → line.BeginsWithCode i piece lines unread
  begins_to piece lines unread b = record { are_bytes = b.are_bytes; are_lines = b.are_lines; data_bits = b.data_bits }

  -- a piece that begins with the code of lines as an interval does so by line
  begins_from : (piece : List ℕ) (lines : List (List ℕ)) (unread : List Bool) → line.BeginsWithCode i piece lines unread
      → BeginsWithCode own piece lines unread
  begins_from piece lines unread b =
      record { are_bytes = b.are_bytes; are_lines = b.are_lines; whole_rows = any_rows lines; data_bits = b.data_bits }

  pub reads_to : (piece : List ℕ) (lines : List (List ℕ)) → Reads own piece lines → line.Reads i piece lines
  reads_to piece lines r =
      record { unread = r.unread; begins = begins_to piece lines r.unread r.begins; at_most_seven = r.at_most_seven }

  pub reads_from : (piece : List ℕ) (lines : List (List ℕ)) → line.Reads i piece lines → Reads own piece lines
  reads_from piece lines r =
      record { unread = r.unread; begins = begins_from piece lines r.unread r.begins; at_most_seven = r.at_most_seven }

  -- a piece by line that is too long is an interval that is
  long_to : (piece : List ℕ) → IsLong own piece → line.IsLong i piece
  long_to piece l = record {
    lines = l.lines;
    unread = l.unread;
    begins = begins_to piece l.lines l.unread l.begins;
    more_than_seven = l.more_than_seven;
  }

  -- an interval that is too long is a piece by line that is
  pub long_from : (piece : List ℕ) → line.IsLong i piece → IsLong own piece
  long_from piece l = record {
    lines = l.lines;
    unread = l.unread;
    begins = begins_from piece l.lines l.unread l.begins;
    more_than_seven = l.more_than_seven;
  }

  -- a piece by line that is broken is an interval that is
  broken_to : (piece : List ℕ) → IsBroken own piece → line.IsBroken i piece
  broken_to piece b = record {
    not_read = λ lines r. b.not_read lines (reads_from piece lines r);
    not_long = λ l. b.not_long (long_from piece l);
  }

  -- an interval that is broken is a piece by line that is
  pub broken_from : (piece : List ℕ) → line.IsBroken i piece → IsBroken own piece
  broken_from piece b = record {
    not_read = λ lines r. b.not_read lines (reads_to piece lines r);
    not_long = λ l. b.not_long (long_to piece l);
  }

  no_more_to : (bytes : List ℕ) → ReadsNoMore own bytes → line.ReadsNoMore i bytes
  no_more_to bytes h = λ more lines r. h more lines (reads_from _ lines r)

  -- bytes that read as no lines of the interval, whatever follows, read as none of the piece
  pub no_more_from : (bytes : List ℕ) → line.ReadsNoMore i bytes → ReadsNoMore own bytes
  no_more_from bytes h = λ more lines r. h more lines (reads_to _ lines r)

  -- Heads -------------------------------------------------------------------------------------------

  module _ (given : List Bool) where
    cut_to : IsCutCode own given → line_law.IsCutCode i given
    cut_to c =
        record { lines = c.lines; are_lines = c.are_lines; missing = c.missing; more_missing = c.more_missing; code_is = c.code_is }

    cut_from : line_law.IsCutCode i given → IsCutCode own given
    cut_from c = record {
      lines = c.lines;
      are_lines = c.are_lines;
      whole_rows = any_rows c.lines;
      missing = c.missing;
      more_missing = c.more_missing;
      code_is = c.code_is;
    }

    first_to : (lines first : List (List ℕ)) → BeginsWithFirst own given lines first → line_head.BeginsWithFirst i given lines first
    first_to lines first b = record { others = b.others; lines_are = b.lines_are; unread = b.unread; given_is = b.given_is }

    first_from : (lines first : List (List ℕ)) → line_head.BeginsWithFirst i given lines first → BeginsWithFirst own given lines first
    first_from lines first b = record {
      others = b.others;
      lines_are = b.lines_are;
      whole_rows = any_rows first;
      unread = b.unread;
      given_is = b.given_is;
    }

    whole_to : (lines whole : List (List ℕ)) → AreWholeLines own given lines whole → line_head.AreWholeLines i given lines whole
    whole_to lines whole a =
        record { begins = first_to lines whole a.begins; longest = λ first b. a.longest first (first_from lines first b) }

    whole_from : (lines whole : List (List ℕ)) → line_head.AreWholeLines i given lines whole → AreWholeLines own given lines whole
    whole_from lines whole a =
        record { begins = first_from lines whole a.begins; longest = λ first b. a.longest first (first_to lines first b) }

    head_to : (head : List (List ℕ)) → IsHead own given head → line_head.IsHead i given head
    unfolding cut_to
    head_to head (inl (cut, a)) = inl (cut_to cut, whole_to cut.lines head a)
    head_to head (inr (none, e)) = inr (λ cut. none (cut_from cut), e)

    head_from : (head : List (List ℕ)) → line_head.IsHead i given head → IsHead own given head
    unfolding cut_from
    head_from head (inl (cut, a)) = inl (cut_from cut, whole_from cut.lines head a)
    head_from head (inr (none, e)) = inr (λ cut. none (cut_to cut), e)

  piece_head_to : (piece : List ℕ) (head : List (List ℕ)) → IsHeadOfPiece own piece head → line_head.IsHeadOfPiece i piece head
  piece_head_to piece head (inl (whole, h)) = inl (whole, head_to _ head h)
  piece_head_to piece head (inr (broken, e)) = inr (broken, e)

  pub piece_head_from : (piece : List ℕ) (head : List (List ℕ)) → line_head.IsHeadOfPiece i piece head → IsHeadOfPiece own piece head
  piece_head_from piece head (inl (whole, h)) = inl (whole, head_from _ head h)
  piece_head_from piece head (inr (broken, e)) = inr (broken, e)

  -- a piece by line is the interval of the same shape, in each of its words
  pub is_interval : IsInterval i
  is_interval = record {
    code_is = λ lines. refl;
    begins = λ piece lines unread. (begins_to piece lines unread, begins_from piece lines unread);
    reads = λ piece lines. (reads_to piece lines, reads_from piece lines);
    is_long = λ piece. (long_to piece, long_from piece);
    is_broken = λ piece. (broken_to piece, broken_from piece);
    reads_no_more = λ bytes. (no_more_to bytes, no_more_from bytes);
    is_cut = λ given. (cut_to given, cut_from given);
    begins_with_first = λ given lines first. (first_to given lines first, first_from given lines first);
    are_whole = λ given lines whole. (whole_to given lines whole, whole_from given lines whole);
    is_head = λ given head. (head_to given head, head_from given head);
    is_head_of_piece = λ piece head. (piece_head_to piece head, piece_head_from piece head);
  }
