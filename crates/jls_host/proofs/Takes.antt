-- An output that is ended: its file takes the name, or is removed.
use Rattle.std.proofs.Common.{◌≡◌, ◌⊎◌, inl, inr, ℕ, Bool, true, false, List, [], ◌∷◌, ◌++◌, Option, Some, None, cond}
use Rattle.std.proofs.Common.{sym, ◌∙◌, ap, subst, refl}
use Rattle.jls_host.specs.Disk.{Disk, Content, Did, content_of, shown, all_bytes, FileAlone, IsNone, NamesAlone, Named, Removed}
use Rattle.jls_host.specs.Disk.{IsPartial, asks_partial, asks_input, asks_plain, asks_one, asks_equal, writes, syncs, renames, removes}
use Rattle.jls_host.specs.Choices.{protects, is_precious, can_go, way_of}
use Rattle.jls_host.specs.Standings.{plainly, maybe_partial}
use Rattle.jls_host.specs.declared.choice.Guard.{Guard}
use Rattle.jls_host.specs.declared.choice.Kind.{Kind}
use Rattle.jls_host.specs.declared.choice.Kind.TheVariants as kind
use Rattle.jls_host.specs.declared.choice.Standing.{Standing}
use Rattle.jls_host.specs.declared.choice.Way.TheVariants as way
use Rattle.jls_host.specs.declared.choice.Standing.TheVariants as standing
use Rattle.jls_host.specs.Moments.{Shows, FirstShows, IsGoingOn, IsBegun, StandsAt, Has, IsPrecious, IsWhole, IsReady}
use Rattle.jls_host.specs.Moments.{older_name}
use Rattle.jls_host.specs.Steps.{Beside, Steady, IsNew, IsKept, IsStored, IsTold, MayTake, IsTaken, IsLeft, IsSeen}
use Rattle.jls_host.proofs.Disks.{shows_left}
use Rattle.jls_host.proofs.Disks.{older_is_other, beside_is_not_older}
use Rattle.jls_host.proofs.Makes.{IsNamedBeside, named_other, beside_stays, shows_stays, moved}

-- ---- writing

-- an output that goes on does so where its own file alone changes
pub going_stays : (name own : List ℕ) (i : ℕ) (x : Option Content) (d e : Disk) → FileAlone i d e → IsGoingOn name own i x d →
    IsGoingOn name own i x e
going_stays name own i x d e alone g = record {
  shows = shows_stays name i x d e alone g.beside.apart g.shows;
  beside = beside_stays name own i i d e alone g.beside;
}

-- an output goes on when bytes are written to its file
pub write_going : (name own : List ℕ) (i : ℕ) (x : Option Content) (bytes : List ℕ) (answer : Bool) (d e : Disk) →
    IsGoingOn name own i x d → Did (writes i bytes) answer d e → IsGoingOn name own i x e
write_going name own i x bytes true d e g did = going_stays name own i x d e did.alone g
write_going name own i x bytes false d e g did = going_stays name own i x d e did.1.alone g

pub write_has : (i : ℕ) (had bytes : List ℕ) (d e : Disk) → Has i had d → Did (writes i bytes) true d e → Has i (had ++ bytes) e
write_has i had bytes d e h did = did.bytes_are ∙ ap (λ (l : List ℕ). l ++ bytes) h

-- ---- what stands

pub stands_now : (x : Option Content) (name : List ℕ) (d : Disk) → Shows name x d → StandsAt x name d
stands_now None name d s = tt
stands_now (Some old) name d s = inl s

pub whole_old : (name : List ℕ) (x : Option Content) (bytes : List ℕ) (p : Bool) (d : Disk) → Shows name x d → IsWhole name x bytes p d
whole_old name x bytes p d s = record { old_or_new = inl s; older = λ _. inl (stands_now x name d s) }

-- what stands at a name stays where other names alone change
pub stands_left : (names : List (List ℕ)) (x : Option Content) (n : List ℕ) (d e : Disk) → NamesAlone names d e → e.has ≡ d.has →
    IsNone n names → StandsAt x n d → StandsAt x n e
stands_left names None n d e alone files far s = tt
stands_left names (Some old) n d e alone files far (inl s) = inl (shows_left names n (Some old) d e alone files far s)
stands_left names (Some old) n d e alone files far (inr s) = inr (shows_left names n (Some (old.0, true)) d e alone files far s)

-- ---- all is stored

-- a precious file stays precious where a file alone changes
precious_stays : (j : ℕ) (name : List ℕ) (x : Option Content) (d e : Disk) → FileAlone j d e → IsPrecious name x d → IsPrecious name x e
precious_stays j name x d e alone p = record {
  partial = p.partial;
  no_input = λ k h. ap (λ (f : ℕ → Bool). f k) alone.is_input ∙ p.no_input k (sym (ap (λ (f : List ℕ → Option ℕ). f name) alone.leads) ∙ h);
}

-- a file that is ready to take the name is stored after a sync
pub synced_stored : (name own : List ℕ) (i : ℕ) (x : Option Content) (bytes : List ℕ) (p : Bool) (d e : Disk) →
    IsReady name own i x bytes p d → Did (syncs i) true d e → IsStored name x (own, i, bytes) p e
synced_stored name own i x bytes p d e r did =
    let g = going_stays name own i x d e did.1 r.going in
    record {
      steady = record {
        shows = g.shows;
        holds = record { beside = g.beside; stored = did.0 ∙ ap (λ (l : List ℕ). (l, true)) r.has };
      };
      precious_is = λ is. precious_stays i name x d e did.1 (r.precious_is is);
    }

-- a sync that failed leaves the output ended
pub not_stored : (name own : List ℕ) (i : ℕ) (x : Option Content) (bytes : List ℕ) (p : Bool) (d e : Disk) →
    IsReady name own i x bytes p d → Did (syncs i) false d e → IsLeft name own x bytes p e
not_stored name own i x bytes p d e r did =
    let g = going_stays name own i x d e did.alone r.going in
    record { whole = whole_old name x bytes p e g.shows; named = g.beside.named }

-- ---- the older file

-- asking whether the name may lead to a partial picture tells it
pub told_partial : (name : List ℕ) (x : Option Content) (held : Beside) (p answer : Bool) (d e : Disk) → IsStored name x held p d →
    Did (asks_partial name) answer d e → IsTold name x held p answer false e
told_partial name x held p true d e s did = subst (IsTold name x held p true false) (sym did)
    (record { stored = s; partial = λ _. refl; no_input = λ _. refl })
told_partial name x held p false d e s did = subst (IsTold name x held p false false) (sym did.0) (record {
  stored = s;
  partial = λ is. absurd (did.1 (subst IsPartial (sym s.steady.shows.content_is) (s.precious_is is).partial));
  no_input = λ _. refl;
})

-- asking whether the name leads to an input tells it
pub told_input : (name : List ℕ) (x : Option Content) (held : Beside) (p may answer : Bool) (d e : Disk) →
    IsTold name x held p may false d → Did (asks_input name) answer d e → IsTold name x held p may answer e
told_input name x held p may true d e t did = subst (IsTold name x held p may true) (sym did.0) (record {
  stored = t.stored;
  partial = t.partial;
  no_input = λ is. sym did.1.2 ∙ (t.stored.precious_is is).no_input did.1.0 did.1.1;
})
told_input name x held p may false d e t did = subst (IsTold name x held p may false) (sym did) t

-- what may be replaced and is not kept is no partial picture, or an input
pub not_precious : (g : Guard) (k : Kind) (b : Bool) → protects g k ≡ false → is_precious k b ≡ false → maybe_partial k ≡ true →
    b ≡ false → ⊥
not_precious g kind.Unknown b e f h u = cc
not_precious g kind.Partial true e f h u = cc
not_precious g kind.Partial false e f h u = cc
not_precious g kind.NoFile b e f h u = cc
not_precious g kind.Jpeg b e f h u = cc
not_precious g kind.Other b e f h u = cc

-- a file may take the name where nothing protected or precious stands there
pub may_take : (g : Guard) (k : Kind) (b : Bool) (name : List ℕ) (x : Option Content) (held : Beside) (p : Bool) (d : Disk) →
    protects g k ≡ false → is_precious k b ≡ false → IsTold name x held p (maybe_partial k) b d → MayTake name x held p d
may_take g k b name x held p d e f t = record {
  steady = t.stored.steady;
  older = λ is. absurd (not_precious g k b e f (t.partial is) (t.no_input is));
}

-- a file may take the name if it has the same bytes as what stands there
pub equal_takes : (name : List ℕ) (x : Option Content) (held : Beside) (p may b : Bool) (d e : Disk) → IsTold name x held p may b d →
    Did (asks_equal held.0 name) true d e → MayTake name x held p e
equal_takes name x held p may b d e t did =
    let s = t.stored.steady in
    let own : shown d held.0 ≡ Some (held.2, true) = ap (λ (to : Option ℕ). content_of d.has to) s.holds.beside.leads ∙ ap
    (λ (c : Content). Some c) s.holds.stored in
    subst (MayTake name x held p) (sym did.0) (record {
      steady = s;
      older = λ _. inr (sym (ap all_bytes own) ∙ (did.1 ∙ ap all_bytes s.shows.content_is));
    })

pub kept_takes : (name : List ℕ) (x : Option Content) (held : Beside) (p : Bool) (d : Disk) → IsKept name x (Some held) d →
    MayTake name x held p d
kept_takes name x held p d k = record { steady = k.steady; older = λ _. inl k.stands }

-- ---- the name is taken

-- new bytes that are those of the older file stand at the name
stands_taken : (name : List ℕ) (x : Option Content) (bytes : List ℕ) (d : Disk) → bytes ≡ all_bytes x →
    Shows name (Some (bytes, true)) d → StandsAt x name d
stands_taken name None bytes d e s = tt
stands_taken name (Some old) bytes d e s = inr (subst (λ (l : List ℕ). Shows name (Some (l, true)) d) e s)

-- after the rename the older file stands at the name, or at the name for older files
older_taken : (name : List ℕ) (x : Option Content) (held : Beside) (d e : Disk) → IsNamedBeside name held.0 →
    Named held.0 name (held.0 ∷ name ∷ []) d e → Shows name (Some (held.2, true)) e
    → StandsAt x (older_name name) d ⊎ (held.2 ≡ all_bytes x) → StandsAt x name e ⊎ StandsAt x (older_name name) e
older_taken name x held d e named n s (inl stands) = inr (stands_left (held.0 ∷ name ∷ []) x (older_name name) d e n.others n.files
    ((λ h. beside_is_not_older name named.0 (sym named.1 ∙ sym h)), ((λ h. older_is_other name (sym h)), tt)) stands)
older_taken name x held d e named n s (inr same) = inl (stands_taken name x held.2 e same s)

-- a file that may take the name has taken it after the rename
pub taken : (name : List ℕ) (x : Option Content) (held : Beside) (p : Bool) (d e : Disk) → MayTake name x held p d →
    Did (renames held.0 name) true d e → IsTaken name x held.2 p e
taken name x held p d e m n =
    let b = m.steady.holds.beside in
    let shows : Shows name (Some (held.2, true)) e = record {
      plain = n.plain b.plain;
      content_is = moved held.0 name (held.0 ∷ name ∷ []) d e b.plain n ∙
          (ap (λ (to : Option ℕ). content_of d.has to) b.leads ∙ ap (λ (c : Content). Some c) m.steady.holds.stored);
    } in
    record {
      shows = shows;
      whole = record {
        old_or_new = inr shows;
        older = λ is. older_taken name x held d e b.named n shows (m.older is);
      };
    }

-- a rename that failed leaves the output ended
pub not_taken : (name : List ℕ) (x : Option Content) (held : Beside) (p : Bool) (d e : Disk) → MayTake name x held p d →
    Did (renames held.0 name) false d e → IsLeft name held.0 x held.2 p e
not_taken name x held p d e m (inl same) = subst (IsLeft name held.0 x held.2 p) (sym same)
    (record { whole = whole_old name x held.2 p d m.steady.shows; named = m.steady.holds.beside.named })
not_taken name x held p d e m (inr n) = record { whole = (taken name x held p d e m n).whole; named = m.steady.holds.beside.named }

-- ---- what is left is removed

-- what stands at one of two names stays where other names alone change
stands_or : (names : List (List ℕ)) (name kept : List ℕ) (x : Option Content) (d e : Disk) → NamesAlone names d e → e.has ≡ d.has →
    IsNone name names → IsNone kept names → StandsAt x name d ⊎ StandsAt x kept d → StandsAt x name e ⊎ StandsAt x kept e
stands_or names name kept x d e alone files far far' (inl s) = inl (stands_left names x name d e alone files far s)
stands_or names name kept x d e alone files far far' (inr s) = inr (stands_left names x kept d e alone files far' s)

-- what a name shows, of two, stays where other names alone change
shows_or : (names : List (List ℕ)) (name : List ℕ) (x y : Option Content) (d e : Disk) → NamesAlone names d e → e.has ≡ d.has →
    IsNone name names → Shows name x d ⊎ Shows name y d → Shows name x e ⊎ Shows name y e
shows_or names name x y d e alone files far (inl s) = inl (shows_left names name x d e alone files far s)
shows_or names name x y d e alone files far (inr s) = inr (shows_left names name y d e alone files far s)

-- after a rename that failed, removing the file leaves the name whole
whole_left : (name own : List ℕ) (x : Option Content) (bytes : List ℕ) (p : Bool) (d e : Disk) → IsLeft name own x bytes p d →
    Removed own d e → IsWhole name x bytes p e
whole_left name own x bytes p d e l r =
    let far : IsNone name (own ∷ []) = (named_other name own l.named, tt) in
    let far' : IsNone (older_name name) (own ∷ []) = ((λ h. beside_is_not_older name l.named.0 (sym l.named.1 ∙ sym h)), tt) in
    record {
      old_or_new = shows_or (own ∷ []) name x (Some (bytes, true)) d e r.others r.files far l.whole.old_or_new;
      older = λ is. stands_or (own ∷ []) name (older_name name) x d e r.others r.files far far' (l.whole.older is);
    }

-- removing the file of an ended output leaves the name whole
pub removed_left : (name own : List ℕ) (x : Option Content) (bytes : List ℕ) (p answer : Bool) (d e : Disk) →
    IsLeft name own x bytes p d → Did (removes own) answer d e → IsWhole name x bytes p e
removed_left name own x bytes p true d e l r = whole_left name own x bytes p d e l r
removed_left name own x bytes p false d e l (inl same) = subst (IsWhole name x bytes p) (sym same) l.whole
removed_left name own x bytes p false d e l (inr r) = whole_left name own x bytes p d e l r

-- removing the file of an output that goes on leaves what the name showed
pub removed_going : (name own : List ℕ) (i : ℕ) (x : Option Content) (answer : Bool) (d e : Disk) → IsGoingOn name own i x d →
    Did (removes own) answer d e → Shows name x e
removed_going name own i x true d e g r = shows_left (own ∷ []) name x d e r.others r.files (named_other name own g.beside.named, tt)
    g.shows
removed_going name own i x false d e g (inl same) = subst (Shows name x) (sym same) g.shows
removed_going name own i x false d e g (inr r) = shows_left (own ∷ []) name x d e r.others r.files
    (named_other name own g.beside.named, tt) g.shows

-- ---- an output begins

pub begun : (name own : List ℕ) (i : ℕ) (x : Option Content) (d : Disk) → IsNew name own i [] x None d → IsBegun name own i x d
begun name own i x d n = record { going = record { shows = n.steady.shows; beside = n.beside }; empty = n.has }

-- looking at the name tells what stands there
pub seen : (name : List ℕ) (x : Option Content) (answer : Bool) (d e : Disk) → FirstShows name x d → Did (asks_plain name) answer d e →
    IsSeen name x answer e
seen name x true d e s did = subst (IsSeen name x true) (sym did.0) (record { content_is = s; plain = λ _. did.1 })
seen name x false d e s did = subst (IsSeen name x false) (sym did) (record { content_is = s; plain = λ h. cc })

pub steady_seen : (name : List ℕ) (x : Option Content) (told : Bool) → told ≡ true → (d : Disk) → IsSeen name x told d →
    Steady name x None d
steady_seen name x told is d s = record { shows = record { plain = s.plain is; content_is = s.content_is }; holds = tt }

-- ---- an older file that is kept already

-- what may go is nothing or a regular file
pub can_go_plain : (s : Standing) (k : Kind) (b : Bool) → can_go s k b ≡ true → plainly s ≡ true
can_go_plain standing.Absent k b h = refl
can_go_plain (standing.Regular mode) k b h = refl
can_go_plain standing.Other k b h = cc

-- the name for older files is no link, where it was told so
pub record IsSeenToo (name : List ℕ) (x : Option Content) (held : Option Beside) (told : Bool) (d : Disk) : Type 0 where
  pub steady : Steady name x held d
  pub plain : told ≡ true → d.is_plain (older_name name) ≡ true

-- looking at the name for older files tells what stands there
pub seen_too : (name : List ℕ) (x : Option Content) (held : Option Beside) (answer : Bool) (d e : Disk) → Steady name x held d →
    Did (asks_plain (older_name name)) answer d e → IsSeenToo name x held answer e
seen_too name x held true d e s did = subst (IsSeenToo name x held true) (sym did.0) (record { steady = s; plain = λ _. did.1 })
seen_too name x held false d e s did = subst (IsSeenToo name x held false) (sym did) (record { steady = s; plain = λ h. cc })

-- where both names lead to one file, the older one stands at the second
stands_one : (name kept : List ℕ) (x : Option Content) (d : Disk) → Shows name x d → d.is_plain kept ≡ true →
    d.leads name ≡ d.leads kept → StandsAt x kept d
stands_one name kept None d s plain one = tt
stands_one name kept (Some old) d s plain one = inl (record {
  plain = plain;
  content_is = ap (λ (to : Option ℕ). content_of d.has to)
      (sym one) ∙ s.content_is;
})

-- where both names lead to one file, it is kept already
pub one_kept : (name : List ℕ) (x : Option Content) (held : Option Beside) (told : Bool) → told ≡ true → (d e : Disk) →
    IsSeenToo name x held told d → Did (asks_one name (older_name name)) true d e → IsKept name x held e
one_kept name x held told is d e s did = subst (IsKept name x held) (sym did.0) (record {
  steady = s.steady;
  stands = stands_one name (older_name name) x d s.steady.shows (s.plain is) did.1;
})

-- ---- how an output is made

-- a file beside the name is made only where nothing or a regular file stands there
pub way_plain : (s : Standing) (o p q : Bool) → way_of s o p q ≡ way.Beside → plainly s ≡ true
way_plain s o true q h = cc
way_plain standing.Absent o false q h = refl
way_plain (standing.Regular mode) o false q h = refl
way_plain standing.Other o false false h = cc
way_plain standing.Other true false true h = cc
way_plain standing.Other false false true h = cc

-- a file that is to take the name
pub cond_none : {P : Type 0} (b : Bool) (x y : P) → cond b None (Some x) ≡ Some y → (b ≡ false) × (x ≡ y)
cond_none true x y h = cc
cond_none false x y h = (refl, cc)
