-- Sources of a reading that are read are those that were written, and sources that were written are read again.
use Rattle.std.proofs.Common.{◌≡◌, ℕ, zero, suc, ◌+◌, ◌^◌, ◌<◌, ◌≤◌, true, cond, List, [], ◌∷◌, ◌++◌, length}
use Rattle.std.proofs.Common.{Option, Some, None, Ok, Err, refl, sym, ap, subst, ◌∙◌, append_assoc, arith}
use Rattle.std.specs.Prelude.{nat_lt}
use Rattle.std.specs.Cmp.{nat_cmp_is}
use Rattle.std.specs.Int.{w32, w64, to_be_bytes}
use Rattle.std.specs.Ordering.{nat_cmp}
use Rattle.std.specs.declared.cmp.Ordering.TheVariants.{Less}
use Rattle.std.specs.List.{flat_map, AllByRecursion}
use Rattle.std.specs.List.Sorted.{IsStrictlySortedBy}
use Rattle.std.proofs.lemmas.Bool.{ltb-true, lt-ltb}
use Rattle.std.proofs.lemmas.Cmp.{nat_cmp_total, ranked}
use Rattle.std.proofs.lemmas.List.Concat.{flat_map-cons}
use Rattle.jls_values.specs.SourceList.{IsSourceList}
use Rattle.jls_values.proofs.SourceLists.{sources-none}
use Rattle.jls_partial.specs.declared.version.Version.{Version}
use Rattle.jls_partial.specs.declared.version.Version.TheVariants.{One, Two}
use Rattle.jls_partial.specs.declared.text_fault.TextFault.TheVariants as fault
use Rattle.jls_partial.specs.Text.{sources_text}
use Rattle.jls_partial.specs.TextReading.{◌>>=◌, offset, number_field}
use Rattle.jls_partial.specs.TextReading.{is_source_above, source_field, sources_fields, own_sources_fields}
use Rattle.jls_partial.proofs.TextFields.{IsBytes, bind_ok, passed_ok, ok_is, Takes, Takes-then, wide32, wide64}
use Rattle.jls_partial.proofs.TextFields.{number_takes, number_again}

-- each is above the one before
abbrev SourcesRise : Option ℕ → List ℕ → Type 0
SourcesRise before [] = Unit {0}
SourcesRise before (n ∷ ns) = (is_source_above before n ≡ true) × SourcesRise (Some n) ns

less_from_lower : (b n : ℕ) → nat_lt b n ≡ true → nat_cmp b n ≡ Less
less_from_lower b n e = sym (nat_cmp_is b n Less (ltb-true b n e))

lower_from_less : (b n : ℕ) → nat_cmp b n ≡ Less → nat_lt b n ≡ true
lower_from_less b n e = lt-ltb b n (ranked b n Less (sym e))

sources_further : (b n : ℕ) (ns : List ℕ) → nat_cmp b n ≡ Less → AllByRecursion (λ m. nat_cmp n m ≡ Less) ns
    → AllByRecursion (λ m. nat_cmp b m ≡ Less) ns
sources_further b n [] e h = tt
sources_further b n (m ∷ ns) e h = (nat_cmp_total.trans b n m e h.0, sources_further b n ns e h.1)

-- sources that rise above one are above it, and rise
sources_above : (b : ℕ) (ns : List ℕ) → SourcesRise (Some b) ns
    → AllByRecursion (λ n. nat_cmp b n ≡ Less) ns × IsStrictlySortedBy nat_cmp ns
unfolding IsStrictlySortedBy
sources_above b [] h = (tt, tt)
sources_above b (n ∷ ns) h =
    let others = sources_above n ns h.1 in
    let first = less_from_lower b n h.0 in
    ((first, sources_further b n ns first others.0), others)

sources_sorted : (ns : List ℕ) → SourcesRise None ns → IsStrictlySortedBy nat_cmp ns
unfolding IsStrictlySortedBy
sources_sorted [] h = tt
sources_sorted (n ∷ ns) h = sources_above n ns h.1

-- sources that rise from one on rise as a text says them
sources_rise_above : (b : ℕ) (ns : List ℕ) → AllByRecursion (λ n. nat_cmp b n ≡ Less) ns → IsStrictlySortedBy nat_cmp ns
    → SourcesRise (Some b) ns
unfolding IsStrictlySortedBy
sources_rise_above b [] h s = tt
sources_rise_above b (n ∷ ns) h s = (lower_from_less b n h.0, sources_rise_above n ns s.0 s.1)

sources_rise : (ns : List ℕ) → IsStrictlySortedBy nat_cmp ns → SourcesRise None ns
unfolding IsStrictlySortedBy
sources_rise [] s = tt
sources_rise (n ∷ ns) s = (refl, sources_rise_above n ns s.0 s.1)

-- numbers that rise below a limit are few
few_above : (low limit : ℕ) (ns : List ℕ) → low ≤ limit → IsStrictlySortedBy nat_cmp ns → AllByRecursion (λ n. low ≤ n) ns
    → AllByRecursion (λ n. n < limit) ns → length ns + low ≤ limit
unfolding IsStrictlySortedBy
few_above low limit [] le s h k = omega arith
few_above low limit (n ∷ ns) le s h k =
    let first : low ≤ n = h.0 in
    let below : n < limit = k.0 in
    let rest : length ns + (n + 1) ≤ limit = few_above (n + 1) limit ns (omega (arith, below)) s.1 (all_above n ns s.0) k.1 in
    omega (arith, rest, first)
  where
    all_above : (n : ℕ) (ns : List ℕ) → AllByRecursion (λ m. nat_cmp n m ≡ Less) ns → AllByRecursion (λ m. n + 1 ≤ m) ns
    all_above n [] h = tt
    all_above n (m ∷ ns) h = (let lt = ranked n m Less (sym h.0) in omega (arith, lt), all_above n ns h.1)

all_from_zero : (ns : List ℕ) → AllByRecursion (λ n. 0 ≤ n) ns
all_from_zero [] = tt
all_from_zero (n ∷ ns) = (omega arith, all_from_zero ns)

few_sources : (ns : List ℕ) → IsSourceList ns → length ns < 2 ^ 64
few_sources ns is =
    let few : length ns + 0 ≤ 2 ^ 32 = few_above 0 (2 ^ 32) ns (omega arith) is.sorted (all_from_zero ns) is.small in
    omega (arith, few)

-- a source that is read has its bytes as its text, and is above the one before
source_takes : (size : ℕ) (before : Option ℕ) (bytes : List ℕ) (x : ℕ × List ℕ) → IsBytes bytes → source_field size before bytes ≡ Ok x
    → Takes bytes (to_be_bytes w32 x.0) x.1 × (is_source_above before x.0 ≡ true) × (x.0 < 2 ^ 32)
unfolding source_field
source_takes size before bytes x fits e =
    let a = bind_ok (number_field size w32 bytes) (λ s. cond (is_source_above before s.0) (Ok s) (Err (fault.Order (offset size bytes)))) x
    e in
    let g = passed_ok (is_source_above before a.0.0) (fault.Order (offset size bytes)) a.0 x a.2 in
    let t = number_takes size w32 (2 ^ 32) wide32 bytes a.0.0 a.0.1 fits a.1 in
    subst (λ (y : ℕ × List ℕ). Takes bytes (to_be_bytes w32 y.0) y.1 × (is_source_above before y.0 ≡ true) × (y.0 < 2 ^ 32)) g.1
    (t.0, g.0, t.1)

source_again : (size : ℕ) (before : Option ℕ) (n : ℕ) (rest : List ℕ) → is_source_above before n ≡ true → n < 2 ^ 32
    → source_field size before (to_be_bytes w32 n ++ rest) ≡ Ok (n, rest)
unfolding source_field
source_again size before n rest above lt = rw (number_again size w32 (2 ^ 32) wide32 n rest lt, above) refl

-- sources that are read have their bytes as their text, and rise
sources_take : (size : ℕ) (before : Option ℕ) (n : ℕ) (bytes : List ℕ) (x : List ℕ × List ℕ) → IsBytes bytes
    → sources_fields size before n bytes ≡ Ok x
    → Takes bytes (flat_map (to_be_bytes w32) x.0) x.1 × (length x.0 ≡ n) × SourcesRise before x.0 × AllByRecursion (λ s. s < 2 ^ 32) x.0
unfolding sources_fields
sources_take size before zero bytes x fits e =
    subst (λ (y : List ℕ × List ℕ). Takes bytes (flat_map (to_be_bytes w32) y.0) y.1 × (length y.0 ≡ 0) × SourcesRise before y.0
    × AllByRecursion (λ s. s < 2 ^ 32) y.0) (ok_is ([], bytes) x e)
    (record { parts = refl; rest_fits = fits }, refl, tt, tt)
sources_take size before (suc n) bytes x fits e =
    let a = bind_ok (source_field size before bytes)
    (λ first. sources_fields size (Some first.0) n first.1 >>= λ others. Ok (first.0 ∷ others.0, others.1)) x e in
    let b = bind_ok (sources_fields size (Some a.0.0) n a.0.1) (λ others. Ok (a.0.0 ∷ others.0, others.1)) x a.2 in
    let first = source_takes size before bytes a.0 fits a.1 in
    let second = sources_take size (Some a.0.0) n a.0.1 b.0 first.0.rest_fits b.1 in
    let both = Takes-then bytes (to_be_bytes w32 a.0.0) a.0.1 (flat_map (to_be_bytes w32) b.0.0) b.0.1 first.0 second.0 in
    let made : List ℕ × List ℕ = (a.0.0 ∷ b.0.0, b.0.1) in
    subst (λ (y : List ℕ × List ℕ). Takes bytes (flat_map (to_be_bytes w32) y.0) y.1 × (length y.0 ≡ suc n) × SourcesRise before y.0
    × AllByRecursion (λ s. s < 2 ^ 32) y.0) (ok_is made x b.2) (
      subst (λ (t : List ℕ). Takes bytes t b.0.1) (sym (flat_map-cons (to_be_bytes w32) a.0.0 b.0.0)) both,
      ap suc second.1,
      (first.1, second.2),
      (first.2, second.3),
    )

-- sources that were written are read again, whatever follows
sources_again : (size : ℕ) (before : Option ℕ) (ns rest : List ℕ) → SourcesRise before ns → AllByRecursion (λ s. s < 2 ^ 32) ns
    → sources_fields size before (length ns) (flat_map (to_be_bytes w32) ns ++ rest) ≡ Ok (ns, rest)
unfolding sources_fields
sources_again size before [] rest rise small = refl
sources_again size before (n ∷ ns) rest rise small =
    let regrouped : flat_map (to_be_bytes w32) (n ∷ ns) ++ rest ≡ to_be_bytes w32 n ++ (flat_map (to_be_bytes w32) ns ++ rest) =
    ap (λ (t : List ℕ). t ++ rest) (flat_map-cons (to_be_bytes w32) n ns)
    ∙ append_assoc (to_be_bytes w32 n) (flat_map (to_be_bytes w32) ns) rest in
    ap (sources_fields size before (suc (length ns))) regrouped
    ∙ rw (
      source_again size before n (flat_map (to_be_bytes w32) ns ++ rest) rise.0 small.0,
      sources_again size (Some n) ns rest rise.1
          small.1,
    ) refl

-- whether a text of this version says all of these sources
abbrev pub SaysSources : Version → List ℕ → Type 0
SaysSources One sources = sources ≡ []
SaysSources Two sources = Unit {0}

-- the sources of a reading that are read have their bytes as their text in this version
pub own_take : (size : ℕ) (version : Version) (bytes : List ℕ) (x : List ℕ × List ℕ) → IsBytes bytes
    → own_sources_fields size version bytes ≡ Ok x → Takes bytes (sources_text version x.0) x.1 × IsSourceList x.0 × SaysSources version x.0
unfolding own_sources_fields
own_take size One bytes x fits e =
    subst (λ (y : List ℕ × List ℕ). Takes bytes [] y.1 × IsSourceList y.0 × (y.0 ≡ [])) (ok_is ([], bytes) x e)
    (record { parts = refl; rest_fits = fits }, sources-none, refl)
own_take size Two bytes x fits e =
    let c = bind_ok (number_field size w64 bytes) (λ count. sources_fields size None count.0 count.1) x e in
    let t = number_takes size w64 (2 ^ 64) wide64 bytes c.0.0 c.0.1 fits c.1 in
    let s = sources_take size None c.0.0 c.0.1 x t.0.rest_fits c.2 in
    let both = Takes-then bytes (to_be_bytes w64 c.0.0) c.0.1 (flat_map (to_be_bytes w32) x.0) x.1 t.0 s.0 in (
      subst (λ (n : ℕ). Takes bytes (to_be_bytes w64 n ++ flat_map (to_be_bytes w32) x.0) x.1) (sym s.1) both,
      record
          { sorted = sources_sorted x.0 s.2; small = s.3 },
      tt,
    )

-- the sources of a reading that were written are read again, whatever follows
pub own_again : (size : ℕ) (version : Version) (ns rest : List ℕ) → IsSourceList ns → SaysSources version ns
    → own_sources_fields size version (sources_text version ns ++ rest) ≡ Ok (ns, rest)
unfolding own_sources_fields
own_again size One ns rest is says = ap (λ (t : List ℕ). Ok (t, rest)) (sym says)
own_again size Two ns rest is says =
    let body = flat_map (to_be_bytes w32) ns in
    ap (own_sources_fields size Two) (append_assoc (to_be_bytes w64 (length ns)) body rest)
    ∙ rw (number_again size w64 (2 ^ 64) wide64 (length ns) (body ++ rest) (few_sources ns is))
    (sources_again size None ns rest (sources_rise ns is.sorted) is.small)
