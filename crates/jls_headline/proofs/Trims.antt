-- A trimmed piece reads as the picture's lines or as none, and its head is the picture's first lines.
use Rattle.std.proofs.Common.{◌≡◌, ℕ, suc, ◌+◌, ◌*◌, ◌<◌, Bool, true, List, [], ◌∷◌, ◌++◌, length, take, drop, refl, sym, ap, subst, ◌∙◌}
use Rattle.std.proofs.Common.{append_assoc, length-append, arith, ◌⊎◌, inl, inr}
use Rattle.std.specs.List.{AllByRecursion}
use Rattle.std.proofs.lemmas.List.{append-nil, take-append-drop, length-take-le}
use Rattle.jls_values.specs.Params.{CodingParameters, AreCodingParameters}
use Rattle.jls_bits.specs.Bits.{bits_read, bits_read_after, is_whole}
use Rattle.jls_bits.specs.Appending.{last_after}
use Rattle.jls_bits.proofs.Appending.{data_append, whole_prefix}
use Rattle.jls_interval.specs.Code.{code}
use Rattle.jls_interval.specs.Lines.{AreLines, interval_shape}
use Rattle.jls_interval.specs.Reads.{Reads}
use Rattle.jls_interval.specs.Laws.{IsCutCode}
use Rattle.jls_interval.specs.Heads.{BeginsWithFirst, AreWholeLines, IsHead, IsHeadOfPiece}
use Rattle.jls_interval.proofs.CodesApart.{codes_apart}
use Rattle.jls_interval.proofs.PiecesReadOnce.{reads_once}
use Rattle.jls_interval.proofs.HeadLines.{prefix_lines, code_parts}
use Rattle.jls_interval.proofs.StepwiseCodes.{one_begins}
use Rattle.jls_marker.specs.Scan.{row_count}
use Rattle.jls_write.specs.Picture.{WholePicture}
use Rattle.jls_write.specs.WrittenFile.{interval_lines}
use Rattle.jls_copy_laws.specs.CopyScans.{ScanPiece, ScanWithData}
use Rattle.jls_copy_laws.proofs.Members.{all_weaker}
use Rattle.jls_headline.specs.Damaged.{numbered_pieces, HasPictureLines, DamagedScan}
use Rattle.jls_headline.specs.Trimmed.{Trimmed, whole, prefix, longer, IsTrimmed, TrimmedScan}
use Rattle.jls_headline.specs.ScanLaws.{IsScanUnder}
use Rattle.jls_headline.specs.LostIntervalLaws.{TrimmedPiecesAreHarmless, TrimmedPiecesHaveHeads, TrimmedPiecesHavePictureLines}
use Rattle.jls_headline.specs.LostIntervalLaws.{TrimmedCopiesAreDamaged}
use Rattle.jls_headline.proofs.ScansInRange.{scans_are_of_the_frame}

own_prefix : (ys zs : List (List ℕ)) → take (length ys) (ys ++ zs) ≡ ys
own_prefix [] zs = refl
own_prefix (y ∷ ys) zs = ap (λ t. y ∷ t) (own_prefix ys zs)

module _ (p : CodingParameters) (ok : AreCodingParameters p) (w c n : ℕ) (some : 0 < w) where
  -- bytes, and the same with more after them, read as the same lines
  same_prefix : (bytes more : List ℕ) (xs ys : List (List ℕ)) → Reads (interval_shape p w c n) bytes xs
      → Reads (interval_shape p w c n) (bytes ++ more) ys → xs ≡ ys
  same_prefix bytes more xs ys a b =
      let rest : List Bool = bits_read_after (last_after 0 bytes) more in
      let e : code p w c ys ++ b.unread ≡ (code p w c xs ++ a.unread) ++ rest =
      sym b.begins.data_bits.read ∙ data_append 0 bytes more a.begins.data_bits.whole ∙ ap (λ z. z ++ rest) a.begins.data_bits.read in
      sym
      (codes_apart p w c n ok some ys xs b.unread (a.unread ++ rest) b.begins.are_lines a.begins.are_lines
      (e ∙ append_assoc (code p w c xs) a.unread rest)).0

  trimmed_reads : (bytes piece : List ℕ) (xs ys : List (List ℕ)) → Trimmed bytes piece → Reads (interval_shape p w c n) bytes xs
      → Reads (interval_shape p w c n) piece ys
      → ys ≡ xs
  trimmed_reads _ _ xs ys (whole bytes) a b = reads_once p ok w c n some bytes ys xs b a
  trimmed_reads _ _ xs ys (prefix piece lost) a b = same_prefix piece lost ys xs b a
  trimmed_reads _ _ xs ys (longer bytes first more) a b = sym (same_prefix bytes (first ∷ more) xs ys a b)

  -- Bits that are a whole code, and perhaps more, lack none of any code
  none_missing : (given t : List Bool) (xs : List (List ℕ)) → AreLines p w n xs → given ≡ code p w c xs ++ t
      → IsCutCode (interval_shape p w c n) given → ⊥
  none_missing given t xs are e cut =
      let more = cut.missing ∷ cut.more_missing in
      let both : code p w c xs ++ (t ++ more) ≡ code p w c cut.lines ++ [] = sym (append_assoc (code p w c xs) t more)
      ∙ ap (λ z. z ++ more) (sym e) ∙ cut.code_is ∙ sym (append-nil (code p w c cut.lines)) in
      let none : length (t ++ more) ≡ 0 = ap length (codes_apart p w c n ok some xs cut.lines (t ++ more) [] are cut.are_lines both).1 in
      let some_more : length (t ++ more) ≡ length t + suc (length cut.more_missing) = length-append t more in
      absurd (omega (arith, none, some_more))

  abbrev Lacks : List Bool → List (List ℕ) → Type 0
  Lacks given xs = (missing : Bool) × (more : List Bool) × (given ++ missing ∷ more ≡ code p w c xs)

  -- a trimmed piece whose bits are cut in some code lacks a bit of the code of these lines
  cut_in_own : (bytes piece : List ℕ) (xs : List (List ℕ)) → Trimmed bytes piece → Reads (interval_shape p w c n) bytes xs
      → IsCutCode (interval_shape p w c n) (bits_read piece) → Lacks (bits_read piece) xs
  cut_in_own _ _ xs (whole bytes) a cut = absurd (none_missing (bits_read bytes) a.unread xs a.begins.are_lines a.begins.data_bits.read cut)
  cut_in_own _ _ xs (longer bytes first more) a cut =
      let rest = bits_read_after (last_after 0 bytes) (first ∷ more) in
      absurd (none_missing (bits_read (bytes ++ first ∷ more)) (a.unread ++ rest) xs a.begins.are_lines
      (data_append 0 bytes (first ∷ more) a.begins.data_bits.whole ∙ ap (λ z. z ++ rest) a.begins.data_bits.read
      ∙ append_assoc (code p w c xs) a.unread rest) cut)
  cut_in_own _ _ xs (prefix piece lost) a cut =
      let rest = bits_read_after (last_after 0 piece) lost in
      let own = (whole_prefix 0 piece lost a.begins.data_bits.whole).0 in
      let both : bits_read piece ++ rest ≡ code p w c xs ++ a.unread = sym (data_append 0 piece lost own) ∙ a.begins.data_bits.read in
      by_length rest (one_begins (bits_read piece) rest (code p w c xs) a.unread both)
    where
      by_length : (rest : List Bool) → ((t : List Bool) × (bits_read piece ≡ code p w c xs ++ t) × (t ++ rest ≡ a.unread))
          ⊎ ((t : List Bool) × (b : Bool) × (code p w c xs ≡ bits_read piece ++ (b ∷ t)) × (rest ≡ (b ∷ t) ++ a.unread))
          → Lacks (bits_read piece) xs
      by_length rest (inl t) = absurd (none_missing (bits_read piece) t.0 xs a.begins.are_lines t.1 cut)
      by_length rest (inr t) = (t.1, t.0, sym t.2)

  -- and then it is no more than a prefix, so its bits are all there
  own_cut : (given : List Bool) (xs : List (List ℕ)) → AreLines p w n xs → Lacks given xs → IsCutCode (interval_shape p w c n) given
  own_cut given xs are l = record { lines = xs; are_lines = are; missing = l.0; more_missing = l.1; code_is = l.2 }

  -- the first of lines in whose code bits are cut are the first of all such lines
  first_of_others : (given : List Bool) (a b : IsCutCode (interval_shape p w c n) given) (xs : List (List ℕ))
      → BeginsWithFirst (interval_shape p w c n) given b.lines xs
      → BeginsWithFirst (interval_shape p w c n) given a.lines xs
  first_of_others given a b xs f =
      let l = length-append xs f.others in let l1 = ap length f.lines_are in let l2 = b.are_lines.count_is in
      let l3 = a.are_lines.count_is in
      let first = take (length xs) a.lines in
      let back = drop (length xs) a.lines in
      let parted : a.lines ≡ first ++ back = sym (take-append-drop (length xs) a.lines) in
      let count : length first ≡ length xs = length-take-le (length xs) a.lines (omega (arith, l, l1, l2, l3)) in
      let more = a.missing ∷ a.more_missing in
      let parts = code_parts p w c first back in
      let bits_are : code p w c xs ++ (f.unread ++ more) ≡ code p w c first ++ parts.0 = sym (append_assoc (code p w c xs) f.unread more)
      ∙ ap (λ v. v ++ more) (sym f.given_is) ∙ a.code_is ∙ ap (code p w c) parted ∙ parts.1 in
      let wide : AreLines p w (length xs) first =
      subst (λ k. AreLines p w k first) count (prefix_lines p w n a.lines first back a.are_lines parted) in
      let same = codes_apart p w c (length xs) ok some xs first (f.unread ++ more) parts.0
      (prefix_lines p w n b.lines xs f.others b.are_lines f.lines_are) wide bits_are in
      record { others = back; lines_are = parted ∙ ap (λ v. v ++ back) (sym same.0); unread = f.unread; given_is = f.given_is }

  -- the head of bits that lack a bit of these lines' code is those of them that stand whole
  whole_lines : (given : List Bool) (xs head : List (List ℕ)) → AreLines p w n xs → Lacks given xs
      → IsHead (interval_shape p w c n) given head
      → AreWholeLines (interval_shape p w c n) given xs head
  unfolding own_cut
  whole_lines given xs head are l (inl (cut, f)) = record {
    begins = first_of_others given (own_cut given xs are l) cut head f.begins;
    longest = λ first b. f.longest first (first_of_others given cut (own_cut given xs are l) first b);
  }
  whole_lines given xs head are l (inr (none, e)) = absurd (none (own_cut given xs are l))

  -- a trimmed piece that lacks a bit has data bits
  lacking_is_whole : (bytes piece : List ℕ) (xs : List (List ℕ)) → Trimmed bytes piece → Reads (interval_shape p w c n) bytes xs
      → Lacks (bits_read piece) xs → is_whole piece ≡ true
  lacking_is_whole _ _ xs (whole bytes) a l = a.begins.data_bits.whole
  lacking_is_whole _ _ xs (prefix piece lost) a l = (whole_prefix 0 piece lost a.begins.data_bits.whole).0
  lacking_is_whole _ _ xs (longer bytes first more) a l =
      let rest = bits_read_after (last_after 0 bytes) (first ∷ more) in
      absurd (none_missing (bits_read (bytes ++ first ∷ more)) (a.unread ++ rest) xs a.begins.are_lines
      (data_append 0 bytes (first ∷ more) a.begins.data_bits.whole ∙ ap (λ z. z ++ rest) a.begins.data_bits.read
      ∙ append_assoc (code p w c xs) a.unread rest)
      (own_cut (bits_read (bytes ++ first ∷ more)) xs a.begins.are_lines l))

  module _ (bytes piece : List ℕ) (xs : List (List ℕ)) (trim : Trimmed bytes piece) (a : Reads (interval_shape p w c n) bytes xs) where
    head_there : (head : List (List ℕ)) → IsHeadOfPiece (interval_shape p w c n) piece head → Lacks (bits_read piece) xs
        → AreWholeLines (interval_shape p w c n) (bits_read piece) xs head
    head_there head (inl (is, h)) l = whole_lines (bits_read piece) xs head a.begins.are_lines l h
    head_there head (inr (broken, e)) l = (let is = lacking_is_whole bytes piece xs trim a l in absurd cc)

    head_none : (head : List (List ℕ)) → IsHeadOfPiece (interval_shape p w c n) piece head → (Lacks (bits_read piece) xs → ⊥) → head ≡ []
    head_none head (inl (is, inl (cut, f))) lacks_none = absurd (lacks_none (cut_in_own bytes piece xs trim a cut))
    head_none head (inl (is, inr (none, e))) lacks_none = e
    head_none head (inr (broken, e)) lacks_none = e

    head_of_these : (head : List (List ℕ)) → IsHeadOfPiece (interval_shape p w c n) piece head → head ≡ take (length head) xs
    head_of_these head (inl (is, inl (cut, f))) =
        let lines = whole_lines (bits_read piece) xs head a.begins.are_lines (cut_in_own bytes piece xs trim a cut) (inl (cut, f)) in
        sym (ap (take (length head)) lines.begins.lines_are ∙ own_prefix head lines.begins.others)
    head_of_these head (inl (is, inr (none, e))) = subst (λ h. h ≡ take (length h) xs) (sym e) refl
    head_of_these head (inr (broken, e)) = subst (λ h. h ≡ take (length h) xs) (sym e) refl

-- The laws of trimmed pieces -------------------------------------------------------------------------------------

pub trimmed_pieces_are_harmless : TrimmedPiecesAreHarmless
trimmed_pieces_are_harmless pic s k piece is t lines reads =
    trimmed_reads s.params is.params s.width (length s.components) (row_count s k * length s.components) is.width_at_least t.bytes piece
    (interval_lines pic s k) lines t.trimmed t.reads reads

pub trimmed_pieces_have_heads : TrimmedPiecesHaveHeads
trimmed_pieces_have_heads pic s k piece is t head h = (
  λ l. head_there s.params is.params s.width (length s.components) (row_count s k * length s.components) is.width_at_least t.bytes piece
      (interval_lines pic s k) t.trimmed t.reads head h (l.missing, l.more_missing, l.code_is),
  λ lacks_none. head_none s.params is.params s.width (length s.components)
      (row_count s k * length s.components) is.width_at_least t.bytes piece (interval_lines pic s k) t.trimmed t.reads head h
      (λ l. lacks_none (record { missing = l.0; more_missing = l.1; code_is = l.2 })),
)

all_taken : (xs : List (List ℕ)) → take (length xs) xs ≡ xs
all_taken [] = refl
all_taken (x ∷ xs) = ap (λ t. x ∷ t) (all_taken xs)

pub trimmed_pieces_have_picture_lines : TrimmedPiecesHavePictureLines
trimmed_pieces_have_picture_lines pic s k piece is t lines (inl reads) =
    let e : lines ≡ interval_lines pic s k = trimmed_pieces_are_harmless pic s k piece.bytes is t lines reads in
    sym (all_taken lines) ∙ ap (take (length lines)) e
trimmed_pieces_have_picture_lines pic s k piece is t lines (inr (cut, head)) =
    head_of_these s.params is.params s.width (length s.components)
    (row_count s k * length s.components) is.width_at_least t.bytes piece.bytes (interval_lines pic s k) t.trimmed t.reads lines head

-- Copies ---------------------------------------------------------------------------------------------------------

both_hold : {X : Type 0} (P Q : X → Type 0) (xs : List X) → AllByRecursion P xs → AllByRecursion Q xs
    → AllByRecursion (λ x. P x × Q x) xs
both_hold P Q [] h k = tt
both_hold P Q (x ∷ xs) h k = ((h.0, k.0), both_hold P Q xs h.1 k.1)

module _ (pic : WholePicture) where
  abbrev IsUnder : ScanWithData → Type 0
  IsUnder d = IsScanUnder pic.shape d.scan

  abbrev TrimmedHere : ScanWithData → Type 0
  TrimmedHere d = TrimmedScan pic d × IsUnder d

  scan_is_damaged : (d : ScanWithData) → TrimmedHere d → DamagedScan pic d
  scan_is_damaged d ((numbers, are, each), under) = (
    numbers,
    are,
    all_weaker (λ (p : ℕ × ScanPiece). IsTrimmed pic d.scan p.0 p.1.bytes) (HasPictureLines pic d.scan) (numbered_pieces d numbers)
        (λ p t. trimmed_pieces_have_picture_lines pic d.scan p.0 p.1 under.0 t) each,
  )

pub trimmed_copies_are_damaged : TrimmedCopiesAreDamaged
trimmed_copies_are_damaged pic copy (scans, has, trimmed) = (
  scans,
  has,
  all_weaker (TrimmedHere pic) (DamagedScan pic) scans (scan_is_damaged pic)
      (both_hold (TrimmedScan pic) (IsUnder pic) scans trimmed (scans_are_of_the_frame copy pic.shape scans has).1),
)
