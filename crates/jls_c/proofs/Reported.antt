-- What is known of a copy that was read, and of what is reported of it.
use Rattle.std.proofs.Common.{◌≡◌, ℕ, ◌≤◌, List, length, map, take, arith}
use Rattle.jls_copy.specs.CopyReads.{CopyReadsUnder, CopyGivesNoneUnder}
use Rattle.jls_copy.specs.ReadCopy.{ReadCopy}
use Rattle.jls_copy.specs.declared.reader.CopyFault.{CopyFault}
use Rattle.jls_copy.specs.declared.reader.CopyFault.TheVariants.{NoPicture, OutOfMemory}
use Rattle.jls_marker.specs.declared.profile.Profile.{Profile}
use Rattle.jls_partial.specs.Partial.{with_source}
use Rattle.jls_c.specs.Answers.{BeginsWith, IsShown, IsRoomShort, IsCheckedUnder, IsCopyShownUnder, IsRoomShortForCopyUnder}
use Rattle.jls_c.specs.Answers.{HasNoPictureUnder}
use Rattle.jls_c.specs.Info.{info_of, piece_of, answer_of, refused_info}
use Rattle.jls_c.specs.PartialAnswers.{IsTextPut, IsTextLonger, IsPartialMadeUnder, IsPartialLongerUnder}
use Rattle.jls_c.specs.declared.info.JlsInfo.{JlsInfo}
use Rattle.jls_c.specs.declared.info.JlsPiece.{JlsPiece}

pub copy_shown : {profile : Profile} (copy : List ℕ) (read : ReadCopy) (info : JlsInfo) (old new before after : List ℕ)
    → CopyReadsUnder profile copy read → IsShown read info old new before after → IsCopyShownUnder profile copy info old new before after
copy_shown copy read info old new before after reads shown = record { read = read; reads = reads; shown = shown }

pub room_short : {profile : Profile} (copy : List ℕ) (read : ReadCopy) (info : JlsInfo) (samples statuses : ℕ)
    → CopyReadsUnder profile copy read → IsRoomShort read info samples statuses
    → IsRoomShortForCopyUnder profile copy info samples statuses
room_short copy read info samples statuses reads short = record { read = read; reads = reads; short = short }

pub ruleset shows = (copy_shown, room_short)

pub checked : {profile : Profile} (copy : List ℕ) (read : ReadCopy) (info : JlsInfo) (old new : List JlsPiece)
    → CopyReadsUnder profile copy read → info ≡ info_of read
    → BeginsWith (map piece_of (take (length old) read.pieces)) old new → IsCheckedUnder profile copy info old new
checked copy read info old new reads is pieces = record { read = read; reads = reads; info_is = is; pieces_are = pieces }

pub partial_made : {profile : Profile} (copy : List ℕ) (source : ℕ) (read : ReadCopy) (info : JlsInfo) (old new : List ℕ)
    → CopyReadsUnder profile copy read → IsTextPut (with_source read.partial source) (info_of read) info old new
    → IsPartialMadeUnder profile copy source info old new
partial_made copy source read info old new reads put = record { read = read; reads = reads; put = put }

pub partial_longer : {profile : Profile} (copy : List ℕ) (source : ℕ) (read : ReadCopy) (info : JlsInfo) (room : ℕ)
    → CopyReadsUnder profile copy read → IsTextLonger (with_source read.partial source) (info_of read) info room
    → IsPartialLongerUnder profile copy source info room
partial_longer copy source read info room reads longer = record { read = read; reads = reads; longer = longer }

pub ruleset makes = (partial_made, partial_longer)

-- ---- refusals

pub no_picture : {profile : Profile} (copy : List ℕ) (fault : CopyFault) (old new : JlsInfo) (answer : ℕ)
    → CopyGivesNoneUnder profile copy fault → answer ≡ answer_of fault → new ≡ refused_info fault old → answer ≡ 2
    → HasNoPictureUnder profile copy new
no_picture copy OutOfMemory old new answer none is info two = absurd (omega (arith, is, two))
no_picture copy (NoPicture f offset) old new answer none is info two =
    record { fault = f; offset = offset; gives_none = none; info_is = info }

pub kept : (fault : CopyFault) (old new : JlsInfo) (answer : ℕ) → answer ≡ answer_of fault → new ≡ refused_info fault old → answer ≡ 1
    → new ≡ old
kept OutOfMemory old new answer is info one = info
kept (NoPicture f offset) old new answer is info one = absurd (omega (arith, is, one))

pub refused : (fault : CopyFault) (answer : ℕ) → answer ≡ answer_of fault → (1 ≤ answer) × (answer ≤ 2)
refused OutOfMemory answer is = (omega (arith, is), omega (arith, is))
refused (NoPicture f offset) answer is = (omega (arith, is), omega (arith, is))

pub ruleset refusals = (no_picture, kept, refused)
