-- Parts of a file, handed out one after the other.
use Rattle.std.proofs.Common.{◌≡◌, Result, Ok, Err, ℕ, ◌+◌, ◌≤◌, List, ◌++◌, length, take, Option, [], ap, sym, ◌∙◌, subst, arith}
use Rattle.std.proofs.Math.Seq.{take-append-add}
use Rattle.std.proofs.lemmas.List.{append-nil, append_assoc, length-append, take-append-le}
use Rattle.std.specs.Io.KnownBytes.{Appends}
use Rattle.std.specs.Result.{IfErr}
use Rattle.jls_io.specs.Event.{History}
use Rattle.jls_io.specs.Writing.{WrotePrefix}
use Rattle.jls_io.proofs.Growing.{grew_as}
use Rattle.jls_io.proofs.Known.{appends_on}
use Rattle.jls_io.proofs.Writes.{written_on, cut_after, prefix_before}
use Rattle.jls_write.specs.declared.output.OutputFault.{OutputFault}
use Rattle.jls_write.specs.declared.output.OutputFault.TheVariants.{Write, OutOfMemory}
use Rattle.jls_write.specs.Outcomes.{HandedOut, HandedPrefix, StoppedBy}
use Rattle.jls_write.specs.Waiting.{PutAfter}

-- a prefix of some bytes that went out is one of these with more after them
prefix_of : (old new : History) (held holds : Option (List ℕ)) (a b : List ℕ) (count : ℕ) → HandedPrefix old new held holds a count
    → HandedPrefix old new held holds (a ++ b) count
prefix_of old new held holds a b count h =
    let less = h.wrote.they_are.not_all in
    record {
      wrote = grew_as (WrotePrefix a count) (WrotePrefix (a ++ b) count) old new (prefix_before a b count) h.wrote;
      holds_them = subst (λ (t : List ℕ). Appends held holds t) (sym (take-append-le count a b (omega (arith, less)))) h.holds_them;
    }

-- bytes that went out, as equal ones
pub handed_as : {old new : History} {held holds : Option (List ℕ)} (a b : List ℕ) → a ≡ b → HandedOut old new held holds a
    → HandedOut old new held holds b
handed_as a b e h = rw e at h

module _ (old mid new : History) (held keeps holds : Option (List ℕ)) where
  -- some bytes that went out, and then others, are all of them
  pub handed_on : (a b : List ℕ) → HandedOut old mid held keeps a → HandedOut mid new keeps holds b → HandedOut old new held holds (a ++ b)
  handed_on a b h k = record {
    wrote = written_on old mid new a b h.wrote k.wrote;
    holds_them =
        appends_on held keeps holds a b h.holds_them k.holds_them;
  }

  -- some bytes that went out, and then a prefix of others, are a prefix of all of them
  prefix_on : (a b : List ℕ) (count : ℕ) → HandedOut old mid held keeps a → HandedPrefix mid new keeps holds b count
      → HandedPrefix old new held holds (a ++ b) (length a + count)
  prefix_on a b count h k = record {
    wrote = cut_after old mid new a b count h.wrote k.wrote;
    holds_them = subst (λ (t : List ℕ). Appends held holds t) (sym (take-append-add a b count))
        (appends_on held keeps holds a (take count b) h.holds_them k.holds_them);
  }

  -- the first part went out, and a write failed in the second, after which the rest was to come
  pub stopped_on : (fault : OutputFault) (before now : ℕ) (a b rest all : List ℕ) → now ≡ before + length a → all ≡ a ++ b ++ rest
      → HandedOut old mid held keeps a
      → StoppedBy fault now (HandedPrefix mid new keeps holds b) → StoppedBy fault before (HandedPrefix old new held holds all)
  stopped_on (Write count) before now a b rest all now_is all_is h (n, count_is, prefix) = (
    length a + n,
    omega (arith, now_is, count_is),
    subst (λ (t : List ℕ). HandedPrefix old new held holds t (length a + n)) (sym all_is)
        (prefix_of old new held holds (a ++ b) rest (length a + n) (prefix_on a b n h prefix)),
  )
  stopped_on (OutOfMemory count) before now a b rest all now_is all_is h stopped = stopped

  -- bytes after bytes
  pub put_on : (w : List ℕ) (m : ℕ) (v : List ℕ) (n : ℕ) (u : List ℕ) (o : ℕ) (x y : List ℕ)
      → PutAfter old mid held keeps w m v n x → PutAfter mid new keeps holds v n u o y → PutAfter old new held holds w m u o (x ++ y)
  put_on w m v n u o x y p q =
      let sizes = length-append p.out q.out in
      let first = p.counted in
      let second = q.counted in
      record {
        out = p.out ++ q.out;
        all = sym (append_assoc w x y) ∙ ap (λ (t : List ℕ). t ++ y) p.all ∙ append_assoc p.out v y
            ∙ ap (λ (t : List ℕ). p.out ++ t) q.all ∙ sym (append_assoc p.out q.out u);
        counted = omega (arith, sizes, first, second);
        handed = handed_on p.out q.out p.handed q.handed;
      }

  -- a write failed in what waited and the part after it, after which the rest was to come
  pub stopped_after : (fault : OutputFault) (w : List ℕ) (m : ℕ) (v : List ℕ) (n : ℕ) (x part rest whole : List ℕ) → whole ≡ x ++ part
      ++ rest
      → PutAfter old mid held keeps w m v n x
      → StoppedBy fault n (HandedPrefix mid new keeps holds (v ++ part)) → StoppedBy fault m (HandedPrefix old new held holds (w ++ whole))
  stopped_after fault w m v n x part rest whole whole_is p stopped =
      stopped_on fault m n p.out (v ++ part) rest (w ++ whole) p.counted
      (ap (λ (t : List ℕ). w ++ t) whole_is ∙ sym (append_assoc w (x ++ part) rest) ∙ ap (λ (t : List ℕ). t ++ rest)
      (sym (append_assoc w x part) ∙ ap (λ (t : List ℕ). t ++ part) p.all ∙ append_assoc p.out v part))
      p.handed stopped

-- no more went out than waited and was put after
pub gone_at_most : (old new : History) (held holds : Option (List ℕ)) (w : List ℕ) (m : ℕ) (u : List ℕ) (n : ℕ) (x : List ℕ)
    → PutAfter old new held holds w m u n x
    → n ≤ m + length w + length x
gone_at_most old new held holds w m u n x p =
    let count = p.counted in
    let sizes = sym (length-append w x) ∙ ap (λ (t : List ℕ). length t) p.all ∙ length-append p.out u in
    omega (arith, count, sizes)

-- bytes that are put first, and then handed out as far as there is no room for them
pub put_first : (old new : History) (held holds : Option (List ℕ)) (w v : List ℕ) (m : ℕ) (u : List ℕ) (n : ℕ) (part : List ℕ) → v ≡ w
    ++ part
    → PutAfter old new held holds v m u n [] → PutAfter old new held holds w m u n part
put_first old new held holds w v m u n part v_is p =
    record { out = p.out; all = sym v_is ∙ sym (append-nil v) ∙ p.all; counted = p.counted; handed = p.handed }

-- a write failed in the first part
pub stopped_first : (old new : History) (held holds : Option (List ℕ)) (fault : OutputFault) (before : ℕ) (a rest : List ℕ)
    → StoppedBy fault before (HandedPrefix old new held holds a) → StoppedBy fault before (HandedPrefix old new held holds (a ++ rest))
stopped_first old new held holds (Write count) before a rest (n, count_is, prefix) =
    (n, count_is, prefix_of old new held holds a rest n prefix)
stopped_first old new held holds (OutOfMemory count) before a rest stopped = stopped

pub if_err_weaker : {X Y : Type 0} (r : Result X Y) (P Q : Y → Type 0) → ((y : Y) → P y → Q y) → IfErr r P → IfErr r Q
if_err_weaker (Ok x) P Q weaker h = h
if_err_weaker (Err y) P Q weaker h = weaker y h
