-- Files that are made beside a name, written, and given other names.
use Rattle.std.proofs.Common.{◌≡◌, ◌≢◌, inl, inr, ℕ, Bool, true, false, List, [], ◌∷◌, ◌++◌, Option, Some, None, codes, sym}
use Rattle.std.proofs.Common.{◌∙◌, ap, subst}
use Rattle.std.proofs.lemmas.List.{append-nil}
use Rattle.jls_host.specs.Disk.{Disk, Content, Did, content_of, shown, all_bytes, FileAlone, NamesAlone, Made, Wrote, Named}
use Rattle.jls_host.specs.Disk.{makes, links, copies, syncs, renames, removes}
use Rattle.jls_host.specs.Moments.{Shows, IsBeside, StandsAt, older_name}
use Rattle.jls_host.specs.Steps.{Beside, Steady, IsOther, IsOtherNumber, IsNew, IsOpened, IsSecond, IsUnkept, IsKept}
use Rattle.jls_host.proofs.Disks.{IsFar, shown_apart, beside_left, steady_left, beside_is_other}
use Rattle.jls_host.proofs.Disks.{older_is_other, beside_is_not_older}

-- another file changes
steady_apart : (j : ℕ) (name : List ℕ) (x : Option Content) (held : Option Beside) (d e : Disk) → ((k : ℕ) → k ≢ j → e.has k ≡ d.has k) →
    d.leads name ≢ Some j → IsOtherNumber j held
    → (n : List ℕ) → NamesAlone (n ∷ []) d e → IsFar name held (n ∷ []) → Steady name x held d → Steady name x held e
steady_apart j name x None d e files apart other n alone far s = record {
  shows = record {
    plain = alone.is_plain name far ∙ s.shows.plain;
    content_is = shown_apart j d e name files apart (alone.leads name far (inl s.shows.plain)) ∙ s.shows.content_is;
  };
  holds = tt;
}
steady_apart j name x (Some held) d e files apart other n alone far s = record {
  shows = record {
    plain = alone.is_plain name far.0 ∙ s.shows.plain;
    content_is = shown_apart j d e name files apart (alone.leads name far.0 (inl s.shows.plain)) ∙ s.shows.content_is;
  };
  holds = record {
    beside = beside_left (n ∷ []) name held.0 held.1 d e alone far.0 far.1 s.shows.plain s.holds.beside;
    stored = files held.1 other ∙ s.holds.stored;
  };
}

-- nothing leads where a name leads that was free
abbrev nothing : Option ℕ
nothing = None

some_not_none : (i : ℕ) → Some i ≢ nothing
some_not_none i e = cc

-- a name that leads nowhere is not that of the file beside
other_than_free : (name second : List ℕ) (x : Option Content) (held : Option Beside) (d : Disk) → d.leads second ≡ None →
    Steady name x held d → IsOther second held
other_than_free name second x None d free s = tt
other_than_free name second x (Some held) d free s = λ e. some_not_none held.1 (sym s.holds.beside.leads ∙ (ap d.leads e ∙ free))

far_from : (name second : List ℕ) (held : Option Beside) → name ≢ second → IsOther second held → IsFar name held (second ∷ [])
far_from name second None a b = (a, tt)
far_from name second (Some held) a b = ((a, tt), (b, tt))

-- a number that no name leads to is not that of the file beside
number_unused : (name : List ℕ) (j : ℕ) (x : Option Content) (held : Option Beside) (d : Disk) → ((n : List ℕ) → d.leads n ≢ Some j) →
    Steady name x held d → IsOtherNumber j held
number_unused name j x None d unused s = tt
number_unused name j x (Some held) d unused s = λ e. unused held.0 (s.holds.beside.leads ∙ ap (λ (i : ℕ). Some i) e)

-- a name beside the output's
abbrev pub IsNamedBeside : List ℕ → List ℕ → Type 0
IsNamedBeside name second = (rest : List ℕ) × (second ≡ name ++ (codes ".jls-salvage-" ++ rest))

pub named_other : (name second : List ℕ) → IsNamedBeside name second → name ≢ second
named_other name second named e = beside_is_other name named.0 (e ∙ named.1)

-- a file that is made beside a steady name is a new, empty one beside it
pub made_new : (name second : List ℕ) (j : ℕ) (x : Option Content) (held : Option Beside) → IsNamedBeside name second → (d e : Disk) →
    Steady name x held d → Made second j d e → IsNew name second j [] x held e
made_new name second j x held named d e s m =
    let other = other_than_free name second x held d m.free s in
    let number = number_unused name j x held d m.opened.unused s in
    let apart = m.opened.unused name in
    let away = named_other name second named in
    record {
      steady = steady_apart j name x held d e m.opened.files apart number second m.opened.names (far_from name second held away other) s;
      beside = record {
        named = named;
        leads = m.opened.leads;
        plain = m.plain;
        apart = λ h. apart (sym (m.opened.names.leads name (away, tt) (inl s.shows.plain)) ∙ h);
      };
      has = m.opened.empty;
      other = other;
      number = number;
    }

-- a file that was not made leaves the name steady
pub not_made : (name second : List ℕ) (j : ℕ) (x : Option Content) (held : Option Beside) → IsNamedBeside name second → (d e : Disk) →
    Steady name x held d → Did (makes second j) false d e → Steady name x held e
not_made name second j x held named d e s (inl same) = subst (Steady name x held) (sym same) s
not_made name second j x held named d e s (inr made) = (made_new name second j x held named d e s made).steady

-- a file beside the name, and the other one, where a file changes
pub beside_stays : (name own : List ℕ) (i j : ℕ) (d e : Disk) → FileAlone j d e → IsBeside name own i d → IsBeside name own i e
beside_stays name own i j d e alone b = record {
  named = b.named;
  leads = ap (λ (f : List ℕ → Option ℕ). f own) alone.leads ∙ b.leads;
  plain = ap (λ (f : List ℕ → Bool). f own) alone.is_plain ∙ b.plain;
  apart = λ h. b.apart (sym (ap (λ (f : List ℕ → Option ℕ). f name) alone.leads) ∙ h);
}

-- a name shows the same where a file alone changes that it does not lead to
pub shows_stays : (name : List ℕ) (j : ℕ) (x : Option Content) (d e : Disk) → FileAlone j d e → d.leads name ≢ Some j → Shows name x d →
    Shows name x e
shows_stays name j x d e alone apart s = record {
  plain = ap (λ (f : List ℕ → Bool). f name) alone.is_plain ∙ s.plain;
  content_is = shown_apart j d e name alone.files apart (ap (λ (f : List ℕ → Option ℕ). f name) alone.leads) ∙ s.content_is;
}

-- a name stays steady where a file alone changes that it does not lead to
pub steady_stays : (name : List ℕ) (j : ℕ) (x : Option Content) (held : Option Beside) (d e : Disk) → FileAlone j d e →
    d.leads name ≢ Some j → IsOtherNumber j held → Steady name x held d → Steady name x held e
steady_stays name j x None d e alone apart other s = record {
  shows = shows_stays name j x d e alone apart s.shows;
  holds = tt;
}
steady_stays name j x (Some held) d e alone apart other s = record {
  shows = shows_stays name j x d e alone apart s.shows;
  holds = record {
    beside = beside_stays name held.0 held.1 j d e alone s.holds.beside;
    stored = alone.files held.1 other ∙ s.holds.stored;
  };
}

-- the new file is written
pub wrote_new : (name second : List ℕ) (j : ℕ) (bytes more : List ℕ) (x : Option Content) (held : Option Beside) (d e : Disk) →
    IsNew name second j bytes x held d → Wrote j more d e → IsNew name second j (bytes ++ more) x held e
wrote_new name second j bytes more x held d e n w = record {
  steady = steady_stays name j x held d e w.alone n.beside.apart n.number n.steady;
  beside = beside_stays name second j j d e w.alone n.beside;
  has = w.bytes_are ∙ ap (λ (l : List ℕ). l ++ more) n.has;
  other = n.other;
  number = n.number;
}

-- a copy that went well has all bytes of the name's file
pub copied_new : (name second : List ℕ) (j : ℕ) (x : Option Content) (held : Option Beside) (d e : Disk) →
    IsNew name second j [] x held d → Did (copies name j) true d e → IsNew name second j (all_bytes x) x held e
copied_new name second j x held d e n did =
    subst (λ (bytes : List ℕ). IsNew name second j bytes x held e) (ap all_bytes n.steady.shows.content_is)
    (wrote_new name second j [] (all_bytes (shown d name)) x held d e n did)

pub not_copied : (name second : List ℕ) (j : ℕ) (x : Option Content) (held : Option Beside) (d e : Disk) →
    IsNew name second j [] x held d → Did (copies name j) false d e → IsOpened name second j x held e
not_copied name second j x held d e n did = (_, wrote_new name second j [] _ x held d e n did.1)

-- a stored copy of all bytes stands at its name
stands_copied : (x : Option Content) (second : List ℕ) (j : ℕ) (e : Disk) → e.is_plain second ≡ true → e.leads second ≡ Some j →
    e.has j ≡ (all_bytes x, true) → StandsAt x second e
stands_copied None second j e plain leads has = tt
stands_copied (Some old) second j e plain leads has = inr (record {
  plain = plain;
  content_is = ap (λ (to : Option ℕ). content_of e.has to) leads ∙ ap (λ (c : Content). Some c) has;
})

-- a copy of the name's file that is stored is a second file of it
pub synced_second : (name second : List ℕ) (j : ℕ) (x : Option Content) (held : Option Beside) (d e : Disk) →
    IsNew name second j (all_bytes x) x held d → Did (syncs j) true d e → IsSecond name second x held e
synced_second name second j x held d e n did =
    let b = beside_stays name second j j d e did.1 n.beside in
    record {
      steady = steady_stays name j x held d e did.1 n.beside.apart n.number n.steady;
      named = b.named;
      plain = b.plain;
      stands = stands_copied x second j e b.plain b.leads (did.0 ∙ ap (λ (l : List ℕ). (l, true)) n.has);
      other = n.other;
    }

-- a sync that failed leaves the new file
pub not_synced : (name second : List ℕ) (j : ℕ) (bytes : List ℕ) (x : Option Content) (held : Option Beside) (d e : Disk) →
    IsNew name second j bytes x held d → Did (syncs j) false d e → IsNew name second j bytes x held e
not_synced name second j bytes x held d e n did =
    subst (λ (l : List ℕ). IsNew name second j l x held e) (append-nil bytes) (wrote_new name second j bytes [] x held d e n did)

-- the older file gets a second name
stands_linked : (name second : List ℕ) (x : Option Content) (d e : Disk) → Shows name x d → e.is_plain second ≡ true →
    e.leads second ≡ d.leads name → e.has ≡ d.has → StandsAt x second e
stands_linked name second None d e s plain leads files = tt
stands_linked name second (Some old) d e s plain leads files = inl (record {
  plain = plain;
  content_is = ap (λ (to : Option ℕ). content_of e.has to) leads ∙
      (ap (λ (has : ℕ → Content). content_of has (d.leads name)) files ∙ s.content_is);
})

-- a second name that is given to the name's file is a second file of it
pub linked_second : (name second : List ℕ) (x : Option Content) (held : Option Beside) → IsNamedBeside name second → (d e : Disk) →
    Steady name x held d → Did (links name second) true d e → IsSecond name second x held e
linked_second name second x held named d e s did =
    let other = other_than_free name second x held d did.0 s in
    let n = did.1 in
    record {
      steady = steady_left (second ∷ []) name x held d e n.others n.files
          (far_from name second held (named_other name second named) other) s;
      named = named;
      plain = n.plain s.shows.plain;
      stands = stands_linked name second x d e s.shows (n.plain s.shows.plain) (n.leads s.shows.plain) n.files;
      other = other;
    }

-- a second name that was not given leaves the name steady
pub not_linked : (name second : List ℕ) (x : Option Content) (held : Option Beside) → IsNamedBeside name second → (d e : Disk) →
    Steady name x held d → Did (links name second) false d e → Steady name x held e
not_linked name second x held named d e s (inl same) = subst (Steady name x held) (sym same) s
not_linked name second x held named d e s (inr did) = (linked_second name second x held named d e s did).steady

-- a name beside is removed
pub removed_beside : (name second : List ℕ) (x : Option Content) (held : Option Beside) → IsNamedBeside name second →
    IsOther second held → (answer : Bool) (d e : Disk) → Steady name x held d → Did (removes second) answer d e → Steady name x held e
removed_beside name second x held named other true d e s did =
    steady_left (second ∷ []) name x held d e did.others did.files (far_from name second held (named_other name second named) other) s
removed_beside name second x held named other false d e s (inl same) = subst (Steady name x held) (sym same) s
removed_beside name second x held named other false d e s (inr did) =
    steady_left (second ∷ []) name x held d e did.others did.files (far_from name second held (named_other name second named) other) s

-- what has a second name gets the name for older files
far_from_both : (name second : List ℕ) (x : Option Content) (held : Option Beside) (d : Disk) → IsNamedBeside name second →
    IsOther second held → Steady name x held d → IsFar name held (second ∷ older_name name ∷ [])
far_from_both name second x None d named other s = (named_other name second named, (older_is_other name, tt))
far_from_both name second x (Some held) d named other s =
    let own = s.holds.beside.named in
    ((named_other name second named, (older_is_other name, tt)), (other, (λ e. beside_is_not_older name own.0 (sym own.1 ∙ e), tt)))

-- what a plain name shows, it shows under the name that it gets
pub moved : (second kept : List ℕ) (names : List (List ℕ)) (d e : Disk) → d.is_plain second ≡ true → Named second kept names d e →
    shown e kept ≡ shown d second
moved second kept names d e plain n =
    ap (λ (to : Option ℕ). content_of e.has to) (n.leads plain) ∙ ap (λ (has : ℕ → Content). content_of has (d.leads second)) n.files

-- what stands at a name stands at the other one after the rename
stands_renamed : (x : Option Content) (second kept : List ℕ) (names : List (List ℕ)) (d e : Disk) → d.is_plain second ≡ true →
    StandsAt x second d → Named second kept names d e → StandsAt x kept e
stands_renamed None second kept names d e plain s n = tt
stands_renamed (Some old) second kept names d e plain (inl s) n = inl
    (record { plain = n.plain plain; content_is = moved second kept names d e plain n ∙ s.content_is })
stands_renamed (Some old) second kept names d e plain (inr s) n = inr
    (record { plain = n.plain plain; content_is = moved second kept names d e plain n ∙ s.content_is })

-- after the rename the older file is kept
pub kept_second : (name second : List ℕ) (x : Option Content) (held : Option Beside) (d e : Disk) → IsSecond name second x held d →
    Did (renames second (older_name name)) true d e → IsKept name x held e
kept_second name second x held d e s n = record {
  steady = steady_left (second ∷ older_name name ∷ []) name x held d e n.others n.files
      (far_from_both name second x held d s.named s.other s.steady) s.steady;
  stands = stands_renamed x second (older_name name) (second ∷ older_name name ∷ []) d e s.plain s.stands n;
}

-- where a second file does not get the name for older files, it is left unkept
pub not_kept : (name second : List ℕ) (x : Option Content) (held : Option Beside) (d e : Disk) → IsSecond name second x held d →
    Did (renames second (older_name name)) false d e → IsUnkept name second x held e
not_kept name second x held d e s (inl same) = record {
  steady = subst (Steady name x held) (sym same) s.steady;
  named = s.named;
  other =
      s.other;
}
not_kept name second x held d e s (inr n) = record {
  steady = (kept_second name second x held d e s n).steady;
  named = s.named;
  other =
      s.other;
}
