-- Runs of calls, joined.
use Rattle.std.proofs.Common.{◌≡◌, ℕ, Bool, true, false, List, [], ◌∷◌, ◌++◌, Option, Some, None, IfSome, IfNone, Result, Ok, Err}
use Rattle.std.proofs.Common.{IfOk, OnOk, OnErr, take, sym, ◌∙◌, ap, subst, append_assoc}
use Rattle.std.proofs.lemmas.List.{append-nil}
use Rattle.jls_host.specs.Disk.{Disk, Act, Call, Did, Through, Went, asks_plain, asks_partial, asks_input, asks_one, asks_equal, looks}
use Rattle.jls_host.specs.Disk.{writes}

-- calls that lead to a state, and others that lead on from there, are one run
joined : (Always Mid Then : Disk → Type 0) (xs ys : List Call) (d : Disk) → Through Always Mid xs d →
    ((c : Disk) → Mid c → Through Always Then ys c) → Through Always Then (xs ++ ys) d
joined Always Mid Then [] ys d t next = next d t.1
joined Always Mid Then (x ∷ xs) ys d t next = (t.0, t.1, λ c did. joined Always Mid Then xs ys c (t.2 c did) next)

-- one run after another
pub and_then : {First Always Mid Then : Disk → Type 0} {old mid new : List Call} → Went First Always Mid old mid →
    Went Mid Always Then mid new → Went First Always Then old new
and_then {First} {Always} {Mid} {Then} {old} p q = record {
  calls = p.calls ++ q.calls;
  made = q.made ∙ (ap (λ (l : List Call). l ++ q.calls) p.made ∙ append_assoc old p.calls q.calls);
  through = λ d f. joined Always Mid Then p.calls q.calls d (p.through d f) q.through;
}

-- a run leads to what follows from where it leads
weakened : (Always Then Always' Then' : Disk → Type 0) → ((d : Disk) → Always d → Always' d) → ((d : Disk) → Then d → Then' d) →
    (xs : List Call) (d : Disk) → Through Always Then xs d → Through Always' Then' xs d
weakened A T A' T' a b [] d t = (a d t.0, b d t.1)
weakened A T A' T' a b (x ∷ xs) d t = (a d t.0, λ c did. a c (t.1 c did), λ c did. weakened A T A' T' a b xs c (t.2 c did))

-- what a run says, said with less
pub with_less : {First Always Then First' Always' Then' : Disk → Type 0} {old new : List Call} → ((d : Disk) → First' d → First d) →
    ((d : Disk) → Always d → Always' d) → ((d : Disk) → Then d → Then' d) → Went First Always Then old new →
    Went First' Always' Then' old new
with_less {First} {Always} {Then} {First'} {Always'} {Then'} f a b p = record {
  calls = p.calls;
  made = p.made;
  through = λ d h. weakened Always Then Always' Then' a b p.calls d (p.through d (f d h));
}

-- no call was made
pub unasked : {First Always : Disk → Type 0} {old new : List Call} → ((d : Disk) → First d → Always d) → new ≡ old →
    Went First Always First old new
unasked {First} {Always} {old} {new} a e = record {
  calls = [];
  made = e ∙ sym (append-nil old);
  through = λ d h. (a d h, h);
}

-- one call was made
pub called : {First Always Then : Disk → Type 0} (act : Act) (answer : Bool) {old new : List Call} → new ≡ old ++ (act, answer) ∷ [] →
    ((d : Disk) → First d → Always d) → ((d : Disk) → Then d → Always d)
    → ((d c : Disk) → First d → Did act false d c → Always c) → ((d c : Disk) → First d → Did act answer d c → Then c) →
    Went First Always Then old new
called act answer e now after cut done = record {
  calls = (act, answer) ∷ [];
  made = e;
  through = λ d h. (now d h, λ c did. cut d c h did, λ c did. (after c (done d c h did), done d c h did));
}

-- a call that changes nothing
pub asked : {First Always : Disk → Type 0} (act : Act) (answer : Bool) {old new : List Call} → new ≡ old ++ (act, answer) ∷ [] →
    ((answer : Bool) (d c : Disk) → Did act answer d c → c ≡ d) → ((d : Disk) → First d → Always d) → Went First Always First old new
asked {First} {Always} act answer e same now =
    called act answer e now now (λ d c h did. subst Always (sym (same false d c did)) (now d h))
    (λ d c h did. subst First (sym (same answer d c did)) h)

pub plain_same : (name : List ℕ) (answer : Bool) (d c : Disk) → Did (asks_plain name) answer d c → c ≡ d
plain_same name true d c did = did.0
plain_same name false d c did = did

pub partial_same : (name : List ℕ) (answer : Bool) (d c : Disk) → Did (asks_partial name) answer d c → c ≡ d
partial_same name true d c did = did
partial_same name false d c did = did.0

pub input_same : (name : List ℕ) (answer : Bool) (d c : Disk) → Did (asks_input name) answer d c → c ≡ d
input_same name true d c did = did.0
input_same name false d c did = did

pub one_same : (name other : List ℕ) (answer : Bool) (d c : Disk) → Did (asks_one name other) answer d c → c ≡ d
one_same name other true d c did = did.0
one_same name other false d c did = did

pub equal_same : (name other : List ℕ) (answer : Bool) (d c : Disk) → Did (asks_equal name other) answer d c → c ≡ d
equal_same name other true d c did = did.0
equal_same name other false d c did = did

pub looks_same : (name : List ℕ) (answer : Bool) (d c : Disk) → Did (looks name) answer d c → c ≡ d
looks_same name answer d c did = did

-- ---- what is said of a result

pub some_weaker : {T : Type 0} {P Q : T → Type 0} (r : Option T) → ((x : T) → P x → Q x) → IfSome r P → IfSome r Q
some_weaker None f h = tt
some_weaker (Some x) f h = f x h

pub none_weaker : {T P Q : Type 0} (r : Option T) → (P → Q) → IfNone r P → IfNone r Q
none_weaker None f h = f h
none_weaker (Some x) f h = tt

-- a call whose answer is not looked at
pub either : {T E : Type 0} (r : Result T E) (act : Act) (old new : List Call) → OnOk r (new ≡ old ++ (act, true) ∷ []) →
    OnErr r (new ≡ old ++ (act, false) ∷ []) → (answer : Bool) × (new ≡ old ++ (act, answer) ∷ [])
either (Ok x) act old new p q = (true, p)
either (Err e) act old new p q = (false, q)

-- one name is another
pub at_name : (Of : List ℕ → Disk → Type 0) {First Always : Disk → Type 0} {old new : List Call} (s t : List ℕ) → s ≡ t →
    Went First Always (Of s) old new → Went First Always (Of t) old new
at_name Of {First} {Always} {old} {new} s t e w = subst (λ (n : List ℕ). Went First Always (Of n) old new) e w

pub all_ok : {T E Q : Type 0} (r : Result T E) → Q → OnOk r Q
all_ok (Ok x) q = q
all_ok (Err e) q = tt

pub all_err : {T E Q : Type 0} (r : Result T E) → Q → OnErr r Q
all_err (Ok x) q = tt
all_err (Err e) q = q

-- nothing is both true and false
pub not_both : {Q : Type 0} (b : Bool) → b ≡ true → b ≡ false → Q
not_both b e f = absurd (true_is_not (sym e ∙ f))
  where
    true_is_not : true ≡ false → ⊥
    true_is_not h = cc

-- two names are others
pub at_both : (Of : List ℕ → List ℕ → Type 0) (s t u v : List ℕ) → s ≡ t → u ≡ v → Of s u → Of t v
at_both Of s t u v e f h = subst (λ (n : List ℕ). Of n v) e (subst (λ (n : List ℕ). Of s n) f h)

-- some bytes were written, or it failed
pub written : {E : Type 0} (r : Result ℕ E) (i : ℕ) (bytes : List ℕ) (old new : List Call) →
    IfOk r (λ n. new ≡ old ++ (writes i (take n bytes), true) ∷ []) → OnErr r (new ≡ old ++ (writes i bytes, false) ∷ [])
    → (some : List ℕ) × (answer : Bool) × (new ≡ old ++ (writes i some, answer) ∷ [])
written (Ok n) i bytes old new p q = (take n bytes, true, p)
written (Err e) i bytes old new p q = (bytes, false, q)
