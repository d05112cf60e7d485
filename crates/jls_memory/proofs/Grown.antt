-- A desk whose history grew.
use Rattle.std.proofs.Common.{◌≡◌, ℕ, List, [], ◌∷◌, ◌++◌, drop, get_or, length, take, refl, sym, ap, ◌∙◌, append_assoc}
use Rattle.std.specs.List.{flat_map}
use Rattle.std.proofs.lemmas.List.{drop_at, take_at}
use Rattle.jls_io.specs.Event.{Event, History, bytes_taken_by, took}
use Rattle.jls_memory.specs.Files.{File}
use Rattle.jls_memory.specs.Desks.{AtDesk, history_of, measured}

-- a list behind its length is parted from what follows it in one way
parted : (a b r s : List ℕ) → measured a ++ r ≡ measured b ++ s → (a ≡ b) × (r ≡ s)
parted a b r s e =
    let same : length a ≡ length b = ap (λ (xs : List ℕ). get_or xs 0 0) e in
    let rest : a ++ r ≡ b ++ s = ap (drop 1) e in (
      sym (take_at a r (length a) refl) ∙ (ap (take (length a)) rest ∙ take_at b s (length a) (sym same)),
      sym (drop_at a r (length a) refl) ∙ (ap (drop (length a)) rest ∙ drop_at b s (length a) (sym same)),
    )

abbrev whole : File → List ℕ
whole f = measured f.name ++ measured f.bytes

-- different files are different lists
same_files : (a b : List File) → flat_map whole a ≡ flat_map whole b → a ≡ b
same_files [] [] e = refl
same_files [] (g ∷ b) e = absurd cc
same_files (f ∷ a) [] e = absurd cc
same_files (f ∷ a) (g ∷ b) e =
    let names = parted f.name g.name (measured f.bytes ++ flat_map whole a) (measured g.bytes ++ flat_map whole b)
    (sym (append_assoc (measured f.name) (measured f.bytes) (flat_map whole a))
    ∙ (e ∙ append_assoc (measured g.name) (measured g.bytes) (flat_map whole b))) in
    let contents = parted f.bytes g.bytes (flat_map whole a) (flat_map whole b) names.1 in
    ap (λ (n : List ℕ). record { name = n; bytes = f.bytes } ∷ a) names.0
    ∙ (ap (λ (c : List ℕ). record { name = g.name; bytes = c } ∷ a) contents.0
    ∙ ap (λ (fs : List File). g ∷ fs) (same_files a b contents.1))

-- its inputs are those that it had, and these are the events that were added
pub grown : (d d' : AtDesk) (events : List Event) → history_of d' ≡ history_of d ++ events
    → (d'.inputs ≡ d.inputs) × (d'.events ≡ d.events ++ events)
grown d d' events e = (
  same_files d'.inputs d.inputs (ap (λ (h : History). bytes_taken_by (get_or h 0 (took []))) e),
  ap (drop 1) e,
)
