-- A line that is handed out in parts: what flushes and more bytes do to it.
use Rattle.std.proofs.Common.{◌≡◌, ℕ, ◌+◌, Bool, true, false, List, [], ◌∷◌, ◌++◌, length, sym, subst, ap, ◌∙◌, append_assoc, refl, inl}
use Rattle.std.proofs.Common.{inr}
use Rattle.std.specs.Prelude.{codes}
use Rattle.std.specs.List.{flat_map}
use Rattle.std.proofs.lemmas.List.{append-nil, flat_map_more}
use Rattle.jls_io.specs.Event.{History, GrewBy}
use Rattle.jls_io.specs.Writing.{Wrote, WrotePrefix, Printed}
use Rattle.jls_io.proofs.Growing.{grew_as}
use Rattle.jls_io.proofs.Writes.{written_on, cut_after, prefix_before, nothing_written}
use Rattle.jls_io.specs.Handing.{HandedBut}
use Rattle.jls_io.specs.Lines.{line_of, part_bytes}
use Rattle.jls_io.specs.declared.line.LinePart.{LinePart}

-- ---- flushes

module _ (line bytes : List ℕ) (before old new : History) where
  pub flushed_not : (went : Bool) → went ≡ false → HandedBut line went bytes before old → HandedBut line false [] before old
  flushed_not true e h = absurd cc
  flushed_not false e h = h

  -- what waited went out, and nothing waits
  pub flushed_whole : (went : Bool) → went ≡ true → GrewBy (Wrote bytes) old new → HandedBut line went bytes before old
      → HandedBut line true [] before new
  flushed_whole true e k h =
      (h.0 ++ bytes, written_on before old new h.0 bytes h.1 k, h.2 ∙ sym (append-nil (h.0 ++ bytes)))
  flushed_whole false e k h = absurd cc

  -- where writing what waits failed, the line ends there
  pub flushed_prefix : (went : Bool) (count : ℕ) → went ≡ true → GrewBy (WrotePrefix bytes count) old new
      → HandedBut line went bytes before old
      → HandedBut line false [] before new
  flushed_prefix true count e k h = (
    length h.0 + count,
    subst (λ (l : List ℕ). GrewBy (WrotePrefix l (length h.0 + count)) before new) (sym h.2)
        (cut_after before old new h.0 bytes count h.1 k),
  )
  flushed_prefix false count e k h = absurd cc

-- ---- more bytes

-- more bytes of the line wait after those that did
pub pushed : (line bytes more : List ℕ) (went : Bool) (before now : History) → HandedBut line went bytes before now
    → HandedBut (line ++ more) went (bytes ++ more) before now
pushed line bytes more true before now h =
    (h.0, h.1, ap (λ (l : List ℕ). l ++ more) h.2 ∙ append_assoc h.0 bytes more)
pushed line bytes more false before now h =
    (h.0, grew_as (WrotePrefix line h.0) (WrotePrefix (line ++ more) h.0) before now (λ events w. prefix_before line more h.0 events w) h.1)

-- ---- the whole line

begun : (h : History) → HandedBut [] true [] h h
begun h = ([], nothing_written h, refl)

-- a fresh buffer
pub fresh : (bytes : List ℕ) (went : Bool) (h : History) → bytes ≡ [] → went ≡ true → HandedBut [] went bytes h h
fresh bytes went h e w =
    subst (λ (b : List ℕ). HandedBut [] went b h h) (sym e) (subst (λ (w : Bool). HandedBut [] w [] h h) (sym w) (begun h))

-- a line of which nothing waits any more is printed
pub printed : (line bytes : List ℕ) (went : Bool) (old new : History) → bytes ≡ [] → HandedBut line went bytes old new
    → GrewBy (Printed line) old new
printed line bytes true old new e h =
    let whole : line ≡ h.0 = h.2 ∙ (ap (λ (b : List ℕ). h.0 ++ b) e ∙ append-nil h.0) in
    grew_as (Wrote line) (Printed line) old new (λ events w. inl w)
    (subst (λ (l : List ℕ). GrewBy (Wrote l) old new) (sym whole) h.1)
printed line bytes false old new e h = grew_as (WrotePrefix line h.0) (Printed line) old new (λ events w. inr (h.0, w)) h.1

-- ---- items of a list, one after the other

pub none_yet : (f : ℕ → List ℕ) (line bytes : List ℕ) (went : Bool) (before now : History) → HandedBut line went bytes before now
    → HandedBut (line ++ flat_map f []) went bytes before now
none_yet f line bytes went before now h = subst (λ (l : List ℕ). HandedBut l went bytes before now) (sym (append-nil line)) h

-- the line with one item more
pub one_more : (f : ℕ → List ℕ) (line items : List ℕ) (item : ℕ) (bytes : List ℕ) (went : Bool) (before now : History)
    → HandedBut ((line ++ flat_map f items) ++ f item) went bytes before now
    → HandedBut (line ++ flat_map f (items ++ item ∷ [])) went bytes before now
one_more f line items item bytes went before now h =
    subst (λ (l : List ℕ). HandedBut l went bytes before now) (flat_map_more f line items item) h

pub handed_as : (line line' bytes : List ℕ) (went : Bool) (before now : History) → line ≡ line' → HandedBut line went bytes before now
    → HandedBut line' went bytes before now
handed_as line line' bytes went before now e h = subst (λ (l : List ℕ). HandedBut l went bytes before now) e h

-- ---- parts of a line

-- the parts and the newline are the line
pub line_ends : (parts : List LinePart) → flat_map part_bytes parts ++ codes "\n" ≡ line_of parts
line_ends [] = refl
line_ends (part ∷ parts) = append_assoc (part_bytes part) (flat_map part_bytes parts) (codes "\n")
    ∙ ap (λ (t : List ℕ). part_bytes part ++ t) (line_ends parts)
