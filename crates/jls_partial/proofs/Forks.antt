-- Lists in the order of a fork: those before the middle, the middle, and those after it.
use Rattle.std.proofs.Common.{◌≡◌, ℕ, zero, suc, ◌+◌, ◌<◌, List, [], ◌∷◌, ◌++◌, length, get_or, set, refl, ap, sym, arith}
use Rattle.std.specs.List.{insert}
use Rattle.std.proofs.lemmas.List.{get_or_append_left}
use Rattle.std.proofs.lemmas.List.Edits.{insert-append_left}
use Rattle.jls_values.specs.OrderedSet as sets
use Rattle.jls_partial.specs.declared.slots.Slot.{Slot}
use Rattle.jls_partial.specs.Tree.{with_sources_at}

module _ {X : Type 0} where
  -- the middle
  pub read_middle : (l : List X) (m : X) (r : List X) (i : ℕ) (d : X) → i ≡ length l → get_or (l ++ m ∷ r) i d ≡ m
  read_middle [] m r zero d e = refl
  read_middle [] m r (suc i) d e = absurd (omega arith)
  read_middle (y ∷ l) m r zero d e = absurd (omega arith)
  read_middle (y ∷ l) m r (suc i) d e = read_middle l m r i d (omega arith)

  -- what is read after the middle
  pub read_right : (l : List X) (m : X) (r : List X) (i k : ℕ) (d : X) → i ≡ length l + 1 + k → get_or (l ++ m ∷ r) i d ≡ get_or r k d
  read_right [] m r zero k d e = absurd (omega arith)
  read_right [] m r (suc i) k d e = let same : i ≡ k = omega arith in ap (λ (n : ℕ). get_or r n d) same
  read_right (y ∷ l) m r zero k d e = absurd (omega arith)
  read_right (y ∷ l) m r (suc i) k d e = read_right l m r i k d (omega arith)

  -- what is put after the middle
  pub insert_right : (l : List X) (m : X) (r : List X) (i k : ℕ) (x : X) → i ≡ length l + 1 + k → insert (l ++ m ∷ r) i x ≡ l ++ m
      ∷ insert r k x
  insert_right [] m r zero k x e = absurd (omega arith)
  insert_right [] m r (suc i) k x e = let same : i ≡ k = omega arith in ap (λ (n : ℕ). m ∷ insert r n x) same
  insert_right (y ∷ l) m r zero k x e = absurd (omega arith)
  insert_right (y ∷ l) m r (suc i) k x e = ap (λ t. y ∷ t) (insert_right l m r i k x (omega arith))

-- sources that are added before the middle, to it, and after it
pub sources_left : (l : List Slot) (m : Slot) (r : List Slot) (i : ℕ) (ss : List ℕ) → i < length l
    → with_sources_at (l ++ m ∷ r) i ss ≡ with_sources_at l i ss ++ m ∷ r
sources_left [] m r i ss lt = absurd (omega arith)
sources_left (s ∷ l) m r zero ss lt = refl
sources_left (s ∷ l) m r (suc i) ss lt = ap (λ t. s ∷ t) (sources_left l m r i ss (omega arith))

-- sources added to the middle slot
pub sources_middle : (l : List Slot) (m : Slot) (r : List Slot) (i : ℕ) (ss : List ℕ) → i ≡ length l
    → with_sources_at (l ++ m ∷ r) i ss ≡ l ++ (record { start = m.start; sources = sets.insert_all m.sources ss }) ∷ r
sources_middle [] m r zero ss e = refl
sources_middle [] m r (suc i) ss e = absurd (omega arith)
sources_middle (s ∷ l) m r zero ss e = absurd (omega arith)
sources_middle (s ∷ l) m r (suc i) ss e = ap (λ t. s ∷ t) (sources_middle l m r i ss (omega arith))

-- sources added to a slot after the middle one
pub sources_right : (l : List Slot) (m : Slot) (r : List Slot) (i k : ℕ) (ss : List ℕ) → i ≡ length l + 1 + k
    → with_sources_at (l ++ m ∷ r) i ss ≡ l ++ m ∷ with_sources_at r k ss
sources_right [] m r zero k ss e = absurd (omega arith)
sources_right [] m r (suc i) k ss e = let same : i ≡ k = omega arith in ap (λ (n : ℕ). m ∷ with_sources_at r n ss) same
sources_right (s ∷ l) m r zero k ss e = absurd (omega arith)
sources_right (s ∷ l) m r (suc i) k ss e = ap (λ t. s ∷ t) (sources_right l m r i k ss (omega arith))

pub length_sources : (slots : List Slot) (i : ℕ) (ss : List ℕ) → length (with_sources_at slots i ss) ≡ length slots
length_sources [] i ss = refl
length_sources (s ∷ slots) zero ss = refl
length_sources (s ∷ slots) (suc i) ss = ap suc (length_sources slots i ss)

-- the slot that gets them, alone
pub sources_set : (slots : List Slot) (i : ℕ) (s : Slot) (ss : List ℕ) → i < length slots → s ≡ get_or slots i s
    → with_sources_at slots i ss ≡ set slots i (record { start = s.start; sources = sets.insert_all s.sources ss })
sources_set [] i s ss lt is = absurd (omega arith)
sources_set (t ∷ slots) zero s ss lt is = λ j. (record { start = (sym is j).start; sources = sets.insert_all (sym is j).sources ss })
    ∷ slots
sources_set (t ∷ slots) (suc i) s ss lt is = ap (λ u. t ∷ u) (sources_set slots i s ss (omega arith) is)

pub ruleset fork_reads = (get_or_append_left, read_middle, read_right)

pub ruleset fork_inserts = (insert-append_left, insert_right)

pub ruleset fork_sources = (sources_left, sources_middle, sources_right, length_sources)
