-- What a scan takes, from how it changes.
use Rattle.std.proofs.Common.{◌≡◌, ℕ, ◌<◌, ◌≤◌, Bool, true, false, cond, List, [], ◌∷◌, take, length, get_or, refl, sym, ap, ◌∙◌, subst}
use Rattle.std.proofs.Common.{arith}
use Rattle.std.specs.Prelude.{◌==◌}
use Rattle.std.proofs.lemmas.List.{append-nil}
use Rattle.jls_piece.specs.PieceBytes.{PieceBytes}
use Rattle.jls_copy.specs.ReaderState.{class_of, closed_by, piece_with, scan_with, with_bytes}
use Rattle.jls_copy.specs.Sound.{IsOfFrame}
use Rattle.jls_copy.specs.Stretch.{IsStretch, LeadsTo, TakesData}
use Rattle.jls_copy.specs.declared.piece.OpenPiece.{OpenPiece}
use Rattle.jls_copy.specs.declared.piece.OpenPiece.TheVariants.{Within, Beyond}
use Rattle.jls_copy.specs.declared.place.CopyPosition.TheVariants.{InScan}
use Rattle.jls_copy.specs.declared.scan.ByteClass.{ByteClass}
use Rattle.jls_copy.specs.declared.scan.ByteClass.TheVariants.{Fill, Data}
use Rattle.jls_copy.specs.declared.scan.Held.{Held}
use Rattle.jls_copy.specs.declared.scan.Held.TheVariants.{Nothing, One, More}
use Rattle.jls_copy.specs.declared.scan.OpenScan.{OpenScan}
use Rattle.jls_copy.proofs.Outcomes.{fed_sound_scan}
use Rattle.jls_copy.proofs.Stretches.{stretch_leads, stretch_sound}

fill_or_data : (scan : OpenScan) (t : Bool) → closed_by (cond t Fill Data) scan ≡ []
fill_or_data scan true = refl
fill_or_data scan false = refl

-- where nothing is held, no byte closes a piece
free_closes_none : (held : Held) (scan : OpenScan) (b : ℕ) → held ≡ Nothing → closed_by (class_of held b) scan ≡ []
free_closes_none Nothing scan b free = fill_or_data scan (b == 0xFF)
free_closes_none One scan b free = absurd cc
free_closes_none More scan b free = absurd cc

-- a stretch that is fed to the piece is taken as data
pub takes_fed : (old new : OpenScan) (bytes : List ℕ) (count : ℕ) → old.held ≡ Nothing → 0 < count → count ≤ length bytes
    → IsStretch (take count bytes) → new ≡ record old { piece = piece_with old.piece (take count bytes) } → TakesData old bytes new count
takes_fed old new bytes count free some within ok fed = record {
  some = some;
  within = within;
  leads = stretch_leads old new (take count bytes) free ok fed;
  closes_none = free_closes_none old.held old (get_or bytes 0 0) free;
  sound = stretch_sound old new (take count bytes) fed;
}

data_leads : (old new : OpenScan) (bytes : List ℕ) → 0 < length bytes → class_of old.held (get_or bytes 0 0) ≡ Data
    → new ≡ scan_with old (get_or bytes 0 0) → LeadsTo (InScan old) (take 1 bytes) (InScan new)
data_leads old new [] some is fed = absurd (omega (arith, some))
data_leads old new (b ∷ bytes) some is fed = λ payload count h ps. rw (is, fed, append-nil ps) refl

-- a byte that belongs to the piece is taken as data
pub takes_data : (old new : OpenScan) (bytes : List ℕ) → 0 < length bytes → class_of old.held (get_or bytes 0 0) ≡ Data
    → new ≡ scan_with old (get_or bytes 0 0) → TakesData old bytes new 1
takes_data old new bytes some is fed = record {
  some = omega arith;
  within = omega (arith, some);
  leads = data_leads old new bytes some is fed;
  closes_none = rw is refl;
  sound = λ frame payload h. (
    fed_sound_scan old (get_or bytes 0 0) new fed h.0,
    subst (IsOfFrame frame) (sym (ap (λ (scan : OpenScan). scan.plan) fed)) h.1,
  );
}

-- after FF bytes it is all one how many there are
pub class_one : (held : Held) (b : ℕ) (class : ByteClass) → (held ≡ Nothing → ⊥) → class ≡ class_of One b → class_of held b ≡ class
class_one Nothing b class some is = absurd (some refl)
class_one One b class some is = sym is
class_one More b class some is = sym is

-- a piece that was fed more
pub within_fed : (piece : OpenPiece) (k : ℕ) (d d' : PieceBytes) (more : List ℕ) → piece ≡ Within k d → d' ≡ with_bytes d more
    → Within k d' ≡ piece_with piece more
within_fed piece k d d' more is fed = ap (Within k) fed ∙ ap (λ (p : OpenPiece). piece_with p more) (sym is)

pub beyond_fed : (piece : OpenPiece) (k : ℕ) (more : List ℕ) → piece ≡ Beyond k → piece ≡ piece_with piece more
beyond_fed piece k more is = is ∙ ap (λ (p : OpenPiece). piece_with p more) (sym is)
