-- What one call does to an output that is made, between two states of it.
use Rattle.std.proofs.Common.{◌≡◌, ℕ, Bool, true, false, List, [], ◌∷◌, ◌++◌, Option, sym, subst}
use Rattle.jls_host.specs.Disk.{Disk, Content, Call, Went, all_bytes, makes, links, copies, writes, syncs, renames, removes}
use Rattle.jls_host.specs.Disk.{looks, asks_plain, asks_partial, asks_input, asks_one, asks_equal}
use Rattle.jls_host.specs.Moments.{Shows, FirstShows, Anything, Has, IsGoingOn, IsWhole, IsReady, older_name}
use Rattle.jls_host.specs.Steps.{Beside, Steady, IsNew, IsOpened, IsSecond, IsUnkept, IsKept, IsStored, IsTold, MayTake, IsTaken}
use Rattle.jls_host.specs.Steps.{IsLeft, IsSeen}
use Rattle.jls_host.proofs.Runs.{called, asked, plain_same, partial_same, input_same, one_same, equal_same}
use Rattle.jls_host.proofs.Runs.{looks_same}
use Rattle.jls_host.proofs.Makes.{IsNamedBeside, made_new, not_made, copied_new, not_copied, synced_second, not_synced, linked_second}
use Rattle.jls_host.proofs.Makes.{not_linked, removed_beside, kept_second, not_kept}
use Rattle.jls_host.proofs.Takes.{write_going, write_has, whole_old, synced_stored, not_stored, told_partial, told_input, equal_takes}
use Rattle.jls_host.proofs.Takes.{taken, not_taken, removed_left, removed_going, seen, IsSeenToo, seen_too, one_kept}

module _ {old new : List Call} where
  -- a second name was given
  pub link_went : (name second : List ℕ) → IsNamedBeside name second → new ≡ old ++ (links name second, true) ∷ [] →
      (x : Option Content) (held : Option Beside) → Went (Steady name x held) (Shows name x) (IsSecond name second x held) old new
  link_went name second named e x held =
      called (links name second) true e (λ d s. s.shows) (λ d s. s.steady.shows)
      (λ d c s did. (not_linked name second x held named d c s did).shows) (λ d c s did. linked_second name second x held named d c s did)

  -- a second name was not given
  pub link_failed : (name second : List ℕ) → IsNamedBeside name second → new ≡ old ++ (links name second, false) ∷ [] →
      (x : Option Content) (held : Option Beside) → Went (Steady name x held) (Shows name x) (Steady name x held) old new
  link_failed name second named e x held =
      called (links name second) false e (λ d s. s.shows) (λ d s. s.shows)
      (λ d c s did. (not_linked name second x held named d c s did).shows) (λ d c s did. not_linked name second x held named d c s did)

  -- a file was made
  pub make_went : (name second : List ℕ) (j : ℕ) → IsNamedBeside name second → new ≡ old ++ (makes second j, true) ∷ [] →
      (x : Option Content) (held : Option Beside) → Went (Steady name x held) (Shows name x) (IsNew name second j [] x held) old new
  make_went name second j named e x held =
      called (makes second j) true e (λ d s. s.shows) (λ d s. s.steady.shows)
      (λ d c s did. (not_made name second j x held named d c s did).shows) (λ d c s did. made_new name second j x held named d c s did)

  -- a file was not made
  pub make_failed : (name second : List ℕ) (j : ℕ) → IsNamedBeside name second → new ≡ old ++ (makes second j, false) ∷ [] →
      (x : Option Content) (held : Option Beside) → Went (Steady name x held) (Shows name x) (Steady name x held) old new
  make_failed name second j named e x held =
      called (makes second j) false e (λ d s. s.shows) (λ d s. s.shows)
      (λ d c s did. (not_made name second j x held named d c s did).shows) (λ d c s did. not_made name second j x held named d c s did)

  -- the file was copied
  pub copy_went : (name second : List ℕ) (j : ℕ) → new ≡ old ++ (copies name j, true) ∷ [] → (x : Option Content) (held : Option Beside) →
      Went (IsNew name second j [] x held) (Shows name x) (IsNew name second j (all_bytes x) x held) old new
  copy_went name second j e x held =
      called (copies name j) true e (λ d n. n.steady.shows) (λ d n. n.steady.shows)
      (λ d c n did. (not_copied name second j x held d c n did).1.steady.shows) (λ d c n did. copied_new name second j x held d c n did)

  -- a copy that failed leaves the file opened, with any bytes
  pub copy_failed : (name second : List ℕ) (j : ℕ) → new ≡ old ++ (copies name j, false) ∷ [] →
      (x : Option Content) (held : Option Beside) → Went (IsNew name second j [] x held) (Shows name x) (IsOpened name second j x held)
      old new
  copy_failed name second j e x held =
      called (copies name j) false e (λ d n. n.steady.shows) (λ d n. n.1.steady.shows)
      (λ d c n did. (not_copied name second j x held d c n did).1.steady.shows) (λ d c n did. not_copied name second j x held d c n did)

  -- a sync that went well leaves a second file
  pub sync_went : (name second : List ℕ) (j : ℕ) → new ≡ old ++ (syncs j, true) ∷ [] → (x : Option Content) (held : Option Beside) →
      Went (IsNew name second j (all_bytes x) x held) (Shows name x) (IsSecond name second x held) old new
  sync_went name second j e x held =
      called (syncs j) true e (λ d n. n.steady.shows) (λ d n. n.steady.shows)
      (λ d c n did. (not_synced name second j (all_bytes x) x held d c n did).steady.shows)
      (λ d c n did. synced_second name second j x held d c n did)

  -- a sync that failed leaves the file opened, with any bytes
  pub sync_failed : (name second : List ℕ) (j : ℕ) → new ≡ old ++ (syncs j, false) ∷ [] → (x : Option Content) (held : Option Beside) →
      Went (IsNew name second j (all_bytes x) x held) (Shows name x) (IsOpened name second j x held) old new
  sync_failed name second j e x held =
      called (syncs j) false e (λ d n. n.steady.shows) (λ d n. n.1.steady.shows)
      (λ d c n did. (not_synced name second j (all_bytes x) x held d c n did).steady.shows)
      (λ d c n did. (_, not_synced name second j (all_bytes x) x held d c n did))

  -- removing the opened file leaves the name steady, whatever the answer
  pub opened_removed : (name second : List ℕ) (j : ℕ) (answer : Bool) → new ≡ old ++ (removes second, answer) ∷ [] →
      (x : Option Content) (held : Option Beside) → Went (IsOpened name second j x held) (Shows name x) (Steady name x held) old new
  opened_removed name second j answer e x held =
      called (removes second) answer e (λ d n. n.1.steady.shows) (λ d s. s.shows)
      (λ d c n did. (removed_beside name second x held n.1.beside.named n.1.other false d c n.1.steady did).shows)
      (λ d c n did. removed_beside name second x held n.1.beside.named n.1.other answer d c n.1.steady did)

  -- the second file got the name for older files
  pub kept_went : (name second : List ℕ) → new ≡ old ++ (renames second (older_name name), true) ∷ [] →
      (x : Option Content) (held : Option Beside) → Went (IsSecond name second x held) (Shows name x) (IsKept name x held) old new
  kept_went name second e x held =
      called (renames second (older_name name)) true e (λ d s. s.steady.shows) (λ d k. k.steady.shows)
      (λ d c s did. (not_kept name second x held d c s did).steady.shows) (λ d c s did. kept_second name second x held d c s did)

  -- a rename that failed may have been done
  pub kept_failed : (name second : List ℕ) → new ≡ old ++ (renames second (older_name name), false) ∷ [] →
      (x : Option Content) (held : Option Beside) → Went (IsSecond name second x held) (Shows name x) (IsUnkept name second x held) old
      new
  kept_failed name second e x held =
      called (renames second (older_name name)) false e (λ d s. s.steady.shows) (λ d s. s.steady.shows)
      (λ d c s did. (not_kept name second x held d c s did).steady.shows) (λ d c s did. not_kept name second x held d c s did)

  -- removing the second file leaves the name steady, whatever the answer
  pub unkept_removed : (name second : List ℕ) (answer : Bool) → new ≡ old ++ (removes second, answer) ∷ [] →
      (x : Option Content) (held : Option Beside) → Went (IsUnkept name second x held) (Shows name x) (Steady name x held) old new
  unkept_removed name second answer e x held =
      called (removes second) answer e (λ d s. s.steady.shows) (λ d s. s.shows)
      (λ d c s did. (removed_beside name second x held s.named s.other false d c s.steady did).shows)
      (λ d c s did. removed_beside name second x held s.named s.other answer d c s.steady did)

  -- what is looked at changes nothing
  pub looked : {First Always : Disk → Type 0} (name : List ℕ) (answer : Bool) → new ≡ old ++ (looks name, answer) ∷ [] →
      ((d : Disk) → First d → Always d) → Went First Always First old new
  looked name answer e now = asked (looks name) answer e (looks_same name) now

  pub asked_plain : {First Always : Disk → Type 0} (name : List ℕ) (answer : Bool) → new ≡ old ++ (asks_plain name, answer) ∷ [] →
      ((d : Disk) → First d → Always d) → Went First Always First old new
  asked_plain name answer e now = asked (asks_plain name) answer e (plain_same name) now

  pub asked_partial : {First Always : Disk → Type 0} (name : List ℕ) (answer : Bool) → new ≡ old ++ (asks_partial name, answer) ∷ [] →
      ((d : Disk) → First d → Always d) → Went First Always First old new
  asked_partial name answer e now = asked (asks_partial name) answer e (partial_same name) now

  pub asked_input : {First Always : Disk → Type 0} (name : List ℕ) (answer : Bool) → new ≡ old ++ (asks_input name, answer) ∷ [] →
      ((d : Disk) → First d → Always d) → Went First Always First old new
  asked_input name answer e now = asked (asks_input name) answer e (input_same name) now

  pub asked_one : {First Always : Disk → Type 0} (name other : List ℕ) (answer : Bool) → new ≡ old ++ (asks_one name other, answer) ∷ [] →
      ((d : Disk) → First d → Always d) → Went First Always First old new
  asked_one name other answer e now = asked (asks_one name other) answer e (one_same name other) now

  pub asked_equal : {First Always : Disk → Type 0} (name other : List ℕ) (answer : Bool) →
      new ≡ old ++ (asks_equal name other, answer) ∷ [] → ((d : Disk) → First d → Always d) → Went First Always First old new
  asked_equal name other answer e now = asked (asks_equal name other) answer e (equal_same name other) now

  -- the older file
  pub partial_told : (name : List ℕ) (x : Option Content) (held : Beside) (p answer : Bool) →
      new ≡ old ++ (asks_partial name, answer) ∷ [] → Went (IsStored name x held p) (Shows name x) (IsTold name x held p answer false) old
      new
  partial_told name x held p answer e =
      called (asks_partial name) answer e (λ d s. s.steady.shows) (λ d t. t.stored.steady.shows)
      (λ d c s did. (told_partial name x held p false d c s did).stored.steady.shows)
      (λ d c s did. told_partial name x held p answer d c s did)

  -- asking whether the name leads to an input tells it
  pub input_told : (name : List ℕ) (x : Option Content) (held : Beside) (p may answer : Bool) →
      new ≡ old ++ (asks_input name, answer) ∷ [] → Went (IsTold name x held p may false) (Shows name x) (IsTold name x held p may answer)
      old new
  input_told name x held p may answer e =
      called (asks_input name) answer e (λ d t. t.stored.steady.shows) (λ d t. t.stored.steady.shows)
      (λ d c t did. (told_input name x held p may false d c t did).stored.steady.shows)
      (λ d c t did. told_input name x held p may answer d c t did)

  -- where both have the same bytes, the file may take the name
  pub equal_told : (name own : List ℕ) (x : Option Content) (i : ℕ) (bytes : List ℕ) (p may b : Bool) →
      new ≡ old ++ (asks_equal own name, true) ∷ [] → Went (IsTold name x (own, i, bytes) p may b) (Shows name x)
      (MayTake name x (own, i, bytes) p) old new
  equal_told name own x i bytes p may b e =
      called (asks_equal own name) true e (λ d t. t.stored.steady.shows) (λ d m. m.steady.shows)
      (λ d c t did. subst (Shows name x) (sym did) t.stored.steady.shows)
      (λ d c t did. equal_takes name x (own, i, bytes) p may b d c t did)

  -- the name
  pub take_went : (name own : List ℕ) (x : Option Content) (i : ℕ) (bytes : List ℕ) (p : Bool) →
      new ≡ old ++ (renames own name, true) ∷ [] → Went (MayTake name x (own, i, bytes) p) (IsWhole name x bytes p)
      (IsTaken name x bytes p) old new
  take_went name own x i bytes p e =
      called (renames own name) true e (λ d m. whole_old name x bytes p d m.steady.shows) (λ d t. t.whole)
      (λ d c m did. (not_taken name x (own, i, bytes) p d c m did).whole) (λ d c m did. taken name x (own, i, bytes) p d c m did)

  -- a rename that failed leaves the name whole, and the file under its own
  pub take_failed : (name own : List ℕ) (x : Option Content) (i : ℕ) (bytes : List ℕ) (p : Bool) →
      new ≡ old ++ (renames own name, false) ∷ [] → Went (MayTake name x (own, i, bytes) p) (IsWhole name x bytes p)
      (IsLeft name own x bytes p) old new
  take_failed name own x i bytes p e =
      called (renames own name) false e (λ d m. whole_old name x bytes p d m.steady.shows) (λ d l. l.whole)
      (λ d c m did. (not_taken name x (own, i, bytes) p d c m did).whole) (λ d c m did. not_taken name x (own, i, bytes) p d c m did)

  -- the file was stored
  pub store_went : (name own : List ℕ) (i : ℕ) (x : Option Content) (bytes : List ℕ) (p : Bool) → new ≡ old ++ (syncs i, true) ∷ [] →
      Went (IsReady name own i x bytes p) (IsWhole name x bytes p) (IsStored name x (own, i, bytes) p) old new
  store_went name own i x bytes p e =
      called (syncs i) true e (λ d r. whole_old name x bytes p d r.going.shows) (λ d s. whole_old name x bytes p d s.steady.shows)
      (λ d c r did. (not_stored name own i x bytes p d c r did).whole) (λ d c r did. synced_stored name own i x bytes p d c r did)

  -- the file was not stored
  pub store_failed : (name own : List ℕ) (i : ℕ) (x : Option Content) (bytes : List ℕ) (p : Bool) → new ≡ old ++ (syncs i, false) ∷ [] →
      Went (IsReady name own i x bytes p) (IsWhole name x bytes p) (IsLeft name own x bytes p) old new
  store_failed name own i x bytes p e =
      called (syncs i) false e (λ d r. whole_old name x bytes p d r.going.shows) (λ d l. l.whole)
      (λ d c r did. (not_stored name own i x bytes p d c r did).whole) (λ d c r did. not_stored name own i x bytes p d c r did)

  -- the file of an ended output is removed, whatever the answer
  pub left_removed : (name own : List ℕ) (x : Option Content) (bytes : List ℕ) (p answer : Bool) →
      new ≡ old ++ (removes own, answer) ∷ [] → Went (IsLeft name own x bytes p) (IsWhole name x bytes p) (IsWhole name x bytes p) old new
  left_removed name own x bytes p answer e =
      called (removes own) answer e (λ d l. l.whole) (λ d w. w)
      (λ d c l did. removed_left name own x bytes p false d c l did) (λ d c l did. removed_left name own x bytes p answer d c l did)

  -- the file of an output that goes on is removed, whatever the answer
  pub going_removed : (name own : List ℕ) (i : ℕ) (x : Option Content) (answer : Bool) → new ≡ old ++ (removes own, answer) ∷ [] →
      Went (IsGoingOn name own i x) (Shows name x) (Shows name x) old new
  going_removed name own i x answer e =
      called (removes own) answer e (λ d g. g.shows) (λ d s. s)
      (λ d c g did. removed_going name own i x false d c g did) (λ d c g did. removed_going name own i x answer d c g did)

  -- bytes written to the file leave what the name shows
  pub written_stays : (name own : List ℕ) (i : ℕ) (x : Option Content) (bytes : List ℕ) (answer : Bool) →
      new ≡ old ++ (writes i bytes, answer) ∷ [] → Went (IsGoingOn name own i x) (Shows name x) (IsGoingOn name own i x) old new
  written_stays name own i x bytes answer e =
      called (writes i bytes) answer e (λ d g. g.shows) (λ d g. g.shows)
      (λ d c g did. (write_going name own i x bytes false d c g did).shows) (λ d c g did. write_going name own i x bytes answer d c g did)

  -- bytes written are after those that the file had
  pub written_has : (i : ℕ) (had bytes : List ℕ) → new ≡ old ++ (writes i bytes, true) ∷ [] →
      Went (Has i had) Anything (Has i (had ++ bytes)) old new
  written_has i had bytes e =
      called (writes i bytes) true e (λ d h. tt) (λ d h. tt) (λ d c h did. tt) (λ d c h did. write_has i had bytes d c h did)

  -- what stands at the name is looked at
  pub plain_told : (name : List ℕ) (x : Option Content) (answer : Bool) → new ≡ old ++ (asks_plain name, answer) ∷ [] →
      Went (FirstShows name x) (FirstShows name x) (IsSeen name x answer) old new
  plain_told name x answer e =
      called (asks_plain name) answer e (λ d s. s) (λ d s. s.content_is)
      (λ d c s did. (seen name x false d c s did).content_is) (λ d c s did. seen name x answer d c s did)

  -- what has the name for older files is looked at
  pub plain_seen : (name : List ℕ) (answer : Bool) → new ≡ old ++ (asks_plain (older_name name), answer) ∷ [] →
      (x : Option Content) (held : Option Beside) → Went (Steady name x held) (Shows name x) (IsSeenToo name x held answer) old new
  plain_seen name answer e x held =
      called (asks_plain (older_name name)) answer e (λ d s. s.shows) (λ d s. s.steady.shows)
      (λ d c s did. (seen_too name x held false d c s did).steady.shows) (λ d c s did. seen_too name x held answer d c s did)

  -- both names lead to one file, which is kept already
  pub one_seen : (name : List ℕ) (told : Bool) → told ≡ true → new ≡ old ++ (asks_one name (older_name name), true) ∷ [] →
      (x : Option Content) (held : Option Beside) → Went (IsSeenToo name x held told) (Shows name x) (IsKept name x held) old new
  one_seen name told is e x held =
      called (asks_one name (older_name name)) true e (λ d s. s.steady.shows) (λ d k. k.steady.shows)
      (λ d c s did. subst (Shows name x) (sym did) s.steady.shows) (λ d c s did. one_kept name x held told is d c s did)
