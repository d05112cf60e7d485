-- What stays on a disk when names or files change.
use Rattle.std.proofs.Common.{◌≡◌, ◌≢◌, inl, ℕ, true, List, ◌++◌, ◌<◌, Option, Some, None, length, get_or, codes}
use Rattle.std.proofs.Common.{sym, ◌∙◌, ap, refl, arith, length-append}
use Rattle.std.proofs.lemmas.List.{append_cancel_left}
use Rattle.jls_host.specs.Disk.{Disk, Content, shown, content_of, IsNone, NamesAlone}
use Rattle.jls_host.specs.Moments.{Shows, IsBeside, older_name}
use Rattle.jls_host.specs.Steps.{Beside, Steady}

-- ---- names

longer : (name end : List ℕ) → 0 < length end → name ≢ name ++ end
longer name end h e = omega (arith, h, length-append name end, ap length e)

pub beside_is_other : (name rest : List ℕ) → name ≢ name ++ (codes ".jls-salvage-" ++ rest)
beside_is_other name rest = longer name (codes ".jls-salvage-" ++ rest) (omega (arith, length-append (codes ".jls-salvage-") rest))

pub older_is_other : (name : List ℕ) → name ≢ older_name name
older_is_other name = longer name (codes "~") (omega arith)

-- a name beside another is not its name for older files
pub beside_is_not_older : (name rest : List ℕ) → name ++ (codes ".jls-salvage-" ++ rest) ≢ older_name name
beside_is_not_older name rest e =
    let heads : 46 ≡ 126 = ap (λ (l : List ℕ). get_or l 0 0) (append_cancel_left name (codes ".jls-salvage-" ++ rest) (codes "~") e) in
    absurd (omega (arith, heads))

-- ---- contents

pub shown_same : (d e : Disk) (n : List ℕ) → e.has ≡ d.has → e.leads n ≡ d.leads n → shown e n ≡ shown d n
shown_same d e n h l = ap (λ (to : Option ℕ). content_of e.has to) l ∙ ap (λ (has : ℕ → Content). content_of has (d.leads n)) h

-- what a name leads to has the same where another file alone changes
content_apart : (j : ℕ) (d e : Disk) → ((k : ℕ) → k ≢ j → e.has k ≡ d.has k) → (to : Option ℕ) → to ≢ Some j →
    content_of e.has to ≡ content_of d.has to
content_apart j d e files None apart = refl
content_apart j d e files (Some k) apart = ap (λ (c : Content). Some c) (files k (λ is. apart (ap (λ (i : ℕ). Some i) is)))

-- a name shows the same where another file alone changes
pub shown_apart : (j : ℕ) (d e : Disk) (n : List ℕ) → ((k : ℕ) → k ≢ j → e.has k ≡ d.has k) → d.leads n ≢ Some j → e.leads n ≡ d.leads n →
    shown e n ≡ shown d n
shown_apart j d e n files apart l = ap (λ (to : Option ℕ). content_of e.has to) l ∙ content_apart j d e files (d.leads n) apart

-- ---- names change, and no file

-- none of the names that change is the output's, or that of the file beside it
abbrev pub IsFar : List ℕ → Option Beside → List (List ℕ) → Type 0
IsFar name None names = IsNone name names
IsFar name (Some held) names = IsNone name names × IsNone held.0 names

-- a name shows the same where other names alone change
pub shows_left : (names : List (List ℕ)) (name : List ℕ) (x : Option Content) (d e : Disk) → NamesAlone names d e → e.has ≡ d.has →
    IsNone name names → Shows name x d → Shows name x e
shows_left names name x d e alone files far s = record {
  plain = alone.is_plain name far ∙ s.plain;
  content_is = shown_same d e name files (alone.leads name far (inl s.plain)) ∙ s.content_is;
}

-- a file stays beside a name where other names alone change
pub beside_left : (names : List (List ℕ)) (name own : List ℕ) (i : ℕ) (d e : Disk) → NamesAlone names d e → IsNone name names →
    IsNone own names → d.is_plain name ≡ true → IsBeside name own i d → IsBeside name own i e
beside_left names name own i d e alone far far' plain b = record {
  named = b.named;
  leads = alone.leads own far' (inl b.plain) ∙ b.leads;
  plain = alone.is_plain own far' ∙ b.plain;
  apart = λ h. b.apart (sym (alone.leads name far (inl plain)) ∙ h);
}

-- a name stays steady where other names alone change
pub steady_left : (names : List (List ℕ)) (name : List ℕ) (x : Option Content) (held : Option Beside) (d e : Disk) →
    NamesAlone names d e → e.has ≡ d.has → IsFar name held names → Steady name x held d → Steady name x held e
steady_left names name x None d e alone files far s = record { shows = shows_left names name x d e alone files far s.shows; holds = tt }
steady_left names name x (Some held) d e alone files far s = record {
  shows = shows_left names name x d e alone files far.0 s.shows;
  holds = record {
    beside = beside_left names name held.0 held.1 d e alone far.0 far.1 s.shows.plain s.holds.beside;
    stored = ap (λ (has : ℕ → Content). has held.1) files ∙ s.holds.stored;
  };
}
