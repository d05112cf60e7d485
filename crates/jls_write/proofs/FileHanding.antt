-- Parts of a file, handed out one after the other, where there can be no memory for one.
use Rattle.std.proofs.Common.{◌≡◌, ℕ, ◌+◌, ◌-◌, ◌<◌, List, [], ◌++◌, length, take, Option, ap, sym, ◌∙◌, arith}
use Rattle.std.specs.List.{flat_map, range_with_len}
use Rattle.std.proofs.Math.Seq.{take-append-add}
use Rattle.std.proofs.lemmas.List.{take-append-le, length-append}
use Rattle.jls_values.proofs.Lists.{flat_map_more}
use Rattle.jls_io.specs.Event.{History}
use Rattle.jls_io.proofs.Known.{appends_nothing}
use Rattle.jls_io.proofs.Writes.{nothing_written}
use Rattle.jls_write.specs.declared.output.OutputFault.{OutputFault}
use Rattle.jls_write.specs.declared.output.OutputFault.TheVariants.{Write, OutOfMemory}
use Rattle.jls_write.specs.Outcomes.{HandedOut, HandedPrefix, StoppedBy}
use Rattle.jls_write.proofs.Handing.{handed_as, handed_on, stopped_on, stopped_first}
use Rattle.jls_write.proofs.OneMore.{flat_map_one, three_parts}
use Rattle.jls_write.specs.Stops.{StopsIn}

pub none_out : (h : History) (held : Option (List ℕ)) → HandedOut h h held held []
none_out h held = record { wrote = nothing_written h; holds_them = appends_nothing held }

-- no memory for the first part
pub stops_at_once : (h : History) (held : Option (List ℕ)) (before : ℕ) (bytes : List ℕ) → 0 < length bytes
    → StopsIn (OutOfMemory before) before h h held held bytes
stops_at_once h held before bytes some = (0, omega arith, record { out = none_out h held; not_all = some })

-- a failed write
pub stops_by : (old new : History) (held holds : Option (List ℕ)) (fault : OutputFault) (before : ℕ) (bytes : List ℕ)
    → StoppedBy fault before (HandedPrefix old new held holds bytes) → StopsIn fault before old new held holds bytes
stops_by old new held holds (Write count) before bytes stopped = stopped
stops_by old new held holds (OutOfMemory count) before bytes stopped = absurd stopped

-- in the first part
pub stops_first : (old new : History) (held holds : Option (List ℕ)) (fault : OutputFault) (before : ℕ) (a rest all : List ℕ)
    → all ≡ a ++ rest → StopsIn fault before old new held holds a → StopsIn fault before old new held holds all
stops_first old new held holds (Write count) before a rest all all_is stopped =
    rw all_is (stopped_first old new held holds (Write count) before a rest stopped)
stops_first old new held holds (OutOfMemory count) before a rest all all_is (n, count_is, part) =
    rw all_is (
      n,
      count_is,
      record {
        out = handed_as _ _ (sym (take-append-le n a rest (let less = part.not_all in omega (arith, less)))) part.out;
        not_all = let less = part.not_all in let both = length-append a rest in omega (arith, less, both);
      },
    )

-- in a later part, after which the rest was to come
pub stops_on : (old mid new : History) (held keeps holds : Option (List ℕ)) (fault : OutputFault) (before now : ℕ) (a b rest all : List ℕ)
    → now ≡ before + length a → all ≡ a ++ b ++ rest
    → HandedOut old mid held keeps a → StopsIn fault now mid new keeps holds b → StopsIn fault before old new held holds all
stops_on old mid new held keeps holds (Write count) before now a b rest all now_is all_is h stopped =
    stopped_on old mid new held keeps holds (Write count) before now a b rest all now_is all_is h stopped
stops_on old mid new held keeps holds (OutOfMemory count) before now a b rest all now_is all_is h (n, count_is, part) =
    let less = part.not_all in
    let two = length-append a b in
    let three = length-append (a ++ b) rest in
    let size = ap length all_is in
    let prefix : take (length a + n) all ≡ a ++ take n b =
    ap (take (length a + n)) all_is ∙ take-append-le (length a + n) (a ++ b) rest (omega (arith, less, two)) ∙ take-append-add a b n in (
      length a + n,
      omega (arith, now_is, count_is),
      record {
        out = handed_as _ _ (sym prefix) (handed_on old mid new held keeps holds a (take n b) h part.out);
        not_all = omega (arith, less, two, three, size);
      },
    )

-- Parts that go out one after the other: those before part k did, and then this one does
pub part_out : {old mid new : History} {held keeps holds : Option (List ℕ)} (f : ℕ → List ℕ) (k : ℕ)
    → HandedOut old mid held keeps (flat_map f (range_with_len 0 k)) → HandedOut mid new keeps holds (f k)
    → HandedOut old new held holds (flat_map f (range_with_len 0 (k + 1)))
part_out f k out part = handed_as _ _ (sym (flat_map_more f k)) (handed_on _ _ _ _ _ _ _ (f k) out part)

-- how many bytes have gone out after one part more
pub part_counted : (f : ℕ → List ℕ) (k before now after : ℕ) → now ≡ before + length (flat_map f (range_with_len 0 k))
    → after ≡ now + length (f k) → after ≡ before + length (flat_map f (range_with_len 0 (k + 1)))
part_counted f k before now after counted more =
    let both = ap length (flat_map_more f k) in
    let sizes = length-append (flat_map f (range_with_len 0 k)) (f k) in
    omega (arith, both, sizes, counted, more)

-- or the file stops in it
pub part_stops : (f : ℕ → List ℕ) (k : ℕ) (old mid new : History) (held keeps holds : Option (List ℕ)) (fault : OutputFault)
    (before now all : ℕ) (whole : List ℕ) → now ≡ before + length (flat_map f (range_with_len 0 k))
    → HandedOut old mid held keeps (flat_map f (range_with_len 0 k)) → StopsIn fault now mid new keeps holds (f k) → k < all
    → whole ≡ flat_map f (range_with_len 0 all) → StopsIn fault before old new held holds whole
part_stops f k old mid new held keeps holds fault before now all whole counted out stopped below is =
    stops_on old mid new held keeps holds fault before now (flat_map f (range_with_len 0 k)) (f k)
    (flat_map f (range_with_len (k + 1) (all - (k + 1)))) whole counted
    (is ∙ three_parts f k (k + 1) all (f k) (omega arith) (omega arith) (sym (flat_map_one f k))) out stopped
