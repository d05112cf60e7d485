-- Lines that were written, column by column and line by line.
use Rattle.std.proofs.Common.{◌≡◌, ℕ, zero, suc, ◌+◌, ◌-◌, ◌%◌, ◌<◌, ◌≤◌, Bool, true, false, ltb, List, [], ◌∷◌, ◌++◌, length, take, drop}
use Rattle.std.proofs.Common.{get_or, refl, sym, ap, ◌∙◌, subst, arith, inl, inr, append_assoc, add-one}
use Rattle.std.specs.List.{AllByRecursion}
use Rattle.std.proofs.lemmas.List.{append-nil, take_more, take_all, length-take-le, get_or-take, take-append-drop}
use Rattle.std.proofs.lemmas.Bool.{cases_lt, lt-ltb, le-ltb}
use Rattle.jls_values.specs.Params.{CodingParameters}
use Rattle.jls_context.specs.declared.mode.Neighbours.{Neighbours}
use Rattle.jls_context.specs.Mode.{is_run_mode}
use Rattle.jls_context.specs.Variables.{Variables, initial_variables}
use Rattle.jls_interval.specs.Lines.{IsLine}
use Rattle.jls_interval.specs.Events.{Above, above, line_back, neighbours, regular, Stretch, stretch, events_from, line_events}
use Rattle.jls_interval.specs.Events.{events_after, events}
use Rattle.jls_interval.specs.Code.{bits_of_events, code}
use Rattle.jls_interval.specs.After.{IsAfter}
use Rattle.jls_interval.specs.Encoding.{Written, Writes, WritesColumns, AreWritten}
use Rattle.jls_interval.proofs.AfterEvents.{after_none}
use Rattle.jls_interval.proofs.Stretches.{past, more, at_regular, at_prefix}
use Rattle.jls_interval.proofs.GrownLines.{fuel_same}
use Rattle.jls_interval.proofs.EncodedEvents.{bits_append, bits_none, writes_none, writes_then}

-- The columns of a line ------------------------------------------------------------------

module _ (p : CodingParameters) (component : ℕ) (up : Above) (line : List ℕ) where
  abbrev width : ℕ
  width = length line

  pub columns_none : (x : ℕ) (old : Written) → WritesColumns p component up line x x old old
  columns_none x old = record { first = []; writes = writes_none p old; parted = refl }

  -- writing columns up to one, and then from it on, is writing all of them
  pub columns_then : (x y z : ℕ) (old middle new : Written) → WritesColumns p component up line x y old middle
      → WritesColumns p component up line y z middle new → WritesColumns p component up line x z old new
  columns_then x y z old middle new a b = record {
    first = a.first ++ b.first;
    writes = writes_then p old middle new a.first b.first a.writes b.writes;
    parted = a.parted ∙ ap (λ u. a.first ++ u) b.parted
        ∙ sym (append_assoc a.first b.first (events_from (stretch width component up line) width width z));
  }

  -- one stretch
  pub columns_one : (x next : ℕ) (old new : Written) → x < width → Writes p old new ((stretch width component up line x).event ∷ [])
      → next ≡ (stretch width component up line x).next
      → WritesColumns p component up line x next old new
  columns_one x next old new l w e =
      let s = stretch width component up line x in
      record {
        first = s.event ∷ [];
        writes = w;
        parted = fuel_same width component up width (suc width) line x (omega arith) (omega arith) ∙ more width component up width line x l
            ∙ ap (λ z. s.event ∷ events_from (stretch width component up line) width width z) (sym e);
      }

  -- writing all columns is writing the events of the line
  pub columns_end : (x : ℕ) (old new : Written) → width ≤ x → WritesColumns p component up line 0 x old new
      → Writes p old new (line_events width component up line)
  columns_end x old new l b =
      subst (Writes p old new) (sym (b.parted ∙ ap (λ z. b.first ++ z) (past width component up width line x l) ∙ append-nil b.first))
      b.writes

  -- a sample of regular mode
  pub columns_sample : (x y : ℕ) (old middle new : Written) (near : Neighbours) (sample : ℕ) → y < width → near ≡ neighbours width up line y
      → is_run_mode near ≡ false → sample ≡ get_or line y 0 → WritesColumns p component up line x y old middle
      → Writes p middle new (regular near sample ∷ []) → WritesColumns p component up line x (y + 1) old new
  columns_sample x y old middle new near sample l near_is not_run sample_is b w =
      let s = at_regular width component up line y (subst (λ (z : Neighbours). is_run_mode z ≡ false) near_is not_run) in
      let e : regular near sample ≡ (stretch width component up line y).event = ap (λ z. regular z sample) near_is
      ∙ ap (regular (neighbours width up line y)) sample_is ∙ ap (λ (z : Stretch). z.event) (sym s) in
      let n : y + 1 ≡ (stretch width component up line y).next = add-one y ∙ ap (λ (z : Stretch). z.next) (sym s) in
      columns_then x y (y + 1) old middle new b (columns_one y (y + 1) middle new l (subst (λ z. Writes p middle new (z ∷ [])) e w) n)

-- The neighbours of a column in a line that is there to its end ------------------------------

module _ (w : ℕ) (up : Above) (line : List ℕ) where
  pub neighbours_taken : (x : ℕ) → x ≤ length line → neighbours w up (take x line) x ≡ neighbours w up line x
  neighbours_taken x l =
      sym (at_prefix w 0 up (take x line) (drop x line) x (omega (arith, length-take-le x line l)))
      ∙ ap (λ z. neighbours w up z x) (take-append-drop x line)

  -- those of the next column, as they move along
  pub neighbours_next : (x value : ℕ) (near next : Neighbours) → x < length line → value ≡ get_or line x 0 → near ≡ neighbours w up line x
      → ((before : List ℕ) → x ≡ length before → near ≡ neighbours w up before x → next ≡ neighbours w up (before ++ value ∷ []) (x + 1))
      → next ≡ neighbours w up line (x + 1)
  neighbours_next x value near next l value_is near_is moves =
      let grown : take x line ++ value ∷ [] ≡ take (x + 1) line = ap (λ z. take x line ++ z ∷ []) value_is ∙ sym (take_more line x 0 l) in
      moves (take x line) (sym (length-take-le x line (omega arith))) (near_is ∙ sym (neighbours_taken x (omega arith)))
      ∙ ap (λ z. neighbours w up z (x + 1)) grown ∙ neighbours_taken (x + 1) (omega arith)

-- The lines of an interval -----------------------------------------------------------------

-- the events of some lines with one more are those of the lines, and then those of that line
pub events_line : (w c : ℕ) (before xs : List (List ℕ)) (line : List ℕ)
    → events_after w c before (xs ++ line ∷ []) ≡ events_after w c before xs
    ++ line_events w (length (before ++ xs) % c) (above c (before ++ xs)) line
unfolding events_after
events_line w c before [] line =
    append-nil (line_events w (length before % c) (above c before) line)
    ∙ ap (λ z. line_events w (length z % c) (above c z) line) (sym (append-nil before))
events_line w c before (x ∷ xs) line =
    let first = line_events w (length before % c) (above c before) x in
    ap (λ z. first ++ z) (events_line w c (before ++ x ∷ []) xs line) ∙ sym (append_assoc first (events_after w c (before ++ x ∷ []) xs) _)
    ∙ ap (λ z. (first ++ events_after w c (before ++ x ∷ []) xs) ++ line_events w (length z % c) (above c z) line)
    (append_assoc before (x ∷ []) xs)

module _ (w c : ℕ) (lines : List (List ℕ)) (j : ℕ) (within : j < length lines) where
  -- the events of one line more are those of the lines before, and then its own
  events_taken : events w c (take (j + 1) lines) ≡ events w c (take j lines)
      ++ line_events w (j % c) (above c (take j lines)) (get_or lines j [])
  events_taken =
      let n : length (take j lines) ≡ j = length-take-le j lines (omega arith) in
      ap (events w c) (take_more lines j [] within) ∙ events_line w c [] (take j lines) (get_or lines j [])
      ∙ ap (λ z. events w c (take j lines) ++ line_events w (z % c) (above c (take j lines)) (get_or lines j [])) n

pub no_events : (w c : ℕ) → events w c [] ≡ []
unfolding events_after
no_events w c = refl

pub code_is : (p : CodingParameters) (w c : ℕ) (lines : List (List ℕ)) → code p w c lines ≡ bits_of_events p [] (events w c lines)
unfolding code
code_is p w c lines = refl

module _ (p : CodingParameters) where
  -- before the first line nothing is written, and each cell and RUNindex is as at the start
  pub written_start : (w c : ℕ) (lines : List (List ℕ)) (cells : Variables) (run_indices : List ℕ) (written : List Bool)
      → cells ≡ initial_variables p → ((component : ℕ) → get_or run_indices component 0 ≡ 0) → written ≡ []
      → AreWritten p w c lines 0 (record { cells = cells; run_indices = run_indices; written = written })
  written_start w c lines cells run_indices written a b e =
      let none : [] ≡ events w c [] = sym (no_events w c) in
      record {
        is_after = subst (IsAfter p cells run_indices) none (after_none p cells run_indices a b);
        bits_are = e ∙ sym (bits_none p []) ∙ ap (bits_of_events p []) none ∙ sym (code_is p w c []);
      }

  module _ (w c : ℕ) (lines : List (List ℕ)) (j : ℕ) (old : Written) (are : AreWritten p w c lines j old) where
    pub written_end : length lines ≤ j → old.written ≡ code p w c lines
    written_end l = are.bits_are ∙ ap (code p w c) (take_all j lines l)

    pub written_more : (k : ℕ) (up : Above) (line : List ℕ) (new : Written) → j < length lines → k ≡ j % c → up ≡ above c (take j lines)
        → line ≡ get_or lines j [] → length line ≡ w
        → Writes p old new (line_events (length line) k up line) → AreWritten p w c lines (j + 1) new
    written_more k up line new l k_is up_is line_is wide ws =
        let earlier = events w c (take j lines) in let own = line_events (length line) k up line in
        let own_is : earlier ++ own ≡ events w c (take (j + 1) lines) = ap (λ z. earlier ++ line_events z k up line) wide
        ∙ ap (λ z. earlier ++ line_events w z up line) k_is ∙ ap (λ z. earlier ++ line_events w (j % c) z line) up_is
        ∙ ap (λ z. earlier ++ line_events w (j % c) (above c (take j lines)) z) line_is ∙ sym (events_taken w c lines j l) in
        record {
          is_after = subst (IsAfter p new.cells new.run_indices) own_is (ws.is_after earlier are.is_after);
          bits_are = ws.bits_are earlier are.is_after
              ∙ ap (λ z. z ++ bits_of_events p earlier own) (are.bits_are ∙ code_is p w c (take j lines))
              ∙ sym (bits_append p [] earlier own)
              ∙ ap (bits_of_events p []) own_is ∙ sym (code_is p w c (take (j + 1) lines));
        }

-- What stands above a line -------------------------------------------------------------------

pub none_back : (lines : List (List ℕ)) (j back : ℕ) → j ≤ length lines → j < back → line_back (take j lines) back ≡ []
none_back lines j back l h = let n = length-take-le j lines l in
    let t : ltb (length (take j lines)) back ≡ true = lt-ltb _ _ (omega arith) in rw t refl

-- a line so many places back is there, if that many are
pub some_back : (lines : List (List ℕ)) (j back : ℕ) → j ≤ length lines → 0 < back → back ≤ j
    → line_back (take j lines) back ≡ get_or lines (j - back) []
some_back lines j back l some h =
    let n = length-take-le j lines l in let t : ltb (length (take j lines)) back ≡ false = le-ltb _ _ (omega arith) in
    rw t (ap (λ z. get_or (take j lines) (z - back) []) n ∙ get_or-take j lines (j - back) [] (omega arith))

module _ (p : CodingParameters) (w : ℕ) where
  pub line_in : (lines : List (List ℕ)) (i : ℕ) → AllByRecursion (IsLine p w) lines → i < length lines → IsLine p w (get_or lines i [])
  line_in [] i h l = absurd (omega arith)
  line_in (x ∷ xs) zero h l = h.0
  line_in (x ∷ xs) (suc i) h l = line_in xs i h.1 (omega arith)

  -- the samples above are at most MAXVAL
  pub back_small : (lines : List (List ℕ)) (j back : ℕ) → AllByRecursion (IsLine p w) lines → j ≤ length lines → 0 < back
      → AllByRecursion (λ sample. sample ≤ p.maxval) (line_back (take j lines) back)
  back_small lines j back h l some =
      elim (cases_lt j back) [
        | inl a ↦ subst (AllByRecursion (λ sample. sample ≤ p.maxval)) (sym (none_back lines j back l a)) tt
        | inr a ↦
            subst (AllByRecursion (λ sample. sample ≤ p.maxval)) (sym (some_back lines j back l some a))
            (line_in lines (j - back) h (omega arith)).1
      ]
