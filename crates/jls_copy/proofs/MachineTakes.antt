-- What a machine takes, from how its place and its payload change.
use Rattle.std.proofs.Common.{◌≡◌, ℕ, ◌+◌, ◌-◌, ◌<◌, ◌≤◌, ◌^◌, Bool, List, [], ◌++◌, take, drop, length, get_or, refl, ap, ◌∙◌, subst}
use Rattle.std.proofs.Common.{arith, length-append}
use Rattle.std.proofs.lemmas.List.{append-nil, length-take, length-take-le}
use Rattle.jls_copy.specs.ReaderState.{closed_at, with_segment}
use Rattle.jls_copy.specs.Sound.{IsPlace}
use Rattle.jls_copy.specs.Stretch.{LeadsTo, TakesData}
use Rattle.jls_copy.specs.Machine.{Takes, IsWholeSegment}
use Rattle.jls_copy.specs.declared.machine.Machine.{Machine}
use Rattle.jls_copy.specs.declared.place.CopyPosition.{CopyPosition}
use Rattle.jls_copy.specs.declared.place.CopyPosition.TheVariants.{AtMarker, InPayload, InScan}
use Rattle.jls_copy.specs.declared.scan.OpenScan.{OpenScan}
use Rattle.jls_copy.proofs.Kept.{taken_payload}
use Rattle.jls_copy.proofs.PayloadStretch.{payload_from, whole_from}
use Rattle.jls_copy.proofs.SegmentStretch.{segment_leads}

-- bytes that change the place alone
pub takes_stretch : (m n : Machine) (bytes : List ℕ) (count : ℕ) (p q : CopyPosition) → m.place ≡ p → n.place ≡ q → 0 < count → count
    ≤ length bytes
    → LeadsTo p (take count bytes) q → closed_at p (get_or bytes 0 0) ≡ [] → n.headers ≡ m.headers → n.payload.items ≡ m.payload.items
    → n.findings ≡ m.findings → n.count ≡ m.count → IsPlace n.headers.frame q n.payload.items → length n.payload.items ≤ 65535
    → Takes m bytes n count
takes_stretch m n bytes count p q is there some within leads none headers payload kept same sound small = record {
  some = some;
  within = within;
  leads = λ ps. rw (is, none, there, headers, payload, append-nil ps) (leads m.payload.items m.count m.headers ps);
  found = rw (is, none) kept;
  count_is = same;
  place_is = rw there sound;
  header_bytes = small;
}

-- bytes that leave the machine as it is
pub takes_fill : (m : Machine) (bytes : List ℕ) (count : ℕ) (p : CopyPosition) → m.place ≡ p → 0 < count → count ≤ length bytes
    → LeadsTo p (take count bytes) p → closed_at p (get_or bytes 0 0) ≡ [] → IsPlace m.headers.frame p m.payload.items
    → length m.payload.items ≤ 65535 → Takes m bytes m count
takes_fill m bytes count p is some within leads none sound small =
    takes_stretch m m bytes count p p is is some within leads none refl refl refl refl sound small

-- how long a payload is with more bytes
grown : {count : ℕ} (bytes old new : List ℕ) → new ≡ old ++ take count bytes → length (take count bytes) ≡ count
    → length new ≡ length old + count
grown bytes old new is taken = ap length is ∙ length-append old (take _ bytes) ∙ ap (λ k. length old + k) taken

-- a part of a payload
pub takes_part : (m n : Machine) (bytes : List ℕ) (count marker code size : ℕ) → m.place ≡ InPayload marker code size → n.place ≡ m.place
    → 0 < count → count ≤ length bytes → n.payload.items ≡ m.payload.items ++ take count bytes
    → length m.payload.items + count + 2 < size → size < 2 ^ 16
    → n.headers ≡ m.headers → n.findings ≡ m.findings → n.count ≡ m.count → Takes m bytes n count
takes_part m n bytes count marker code size is there some within payload open_ small headers kept same =
    let taken : length (take count bytes) ≡ count = length-take-le count bytes within in
    record {
      some = some;
      within = within;
      leads = λ ps. rw (there, is, headers, payload, append-nil ps)
          (payload_from m.headers marker code size ps (take count bytes) m.count m.payload.items (omega (arith, open_, taken)));
      found = rw is kept;
      count_is = same;
      place_is = rw (there, is) (omega (arith, open_, grown bytes _ _ payload taken));
      header_bytes = omega (arith, open_, grown bytes _ _ payload taken, small);
    }

-- the rest of a payload
pub takes_rest : (m n : Machine) (bytes : List ℕ) (count marker code size : ℕ) → m.place ≡ InPayload marker code size
    → 0 < count → count ≤ length bytes → n.payload.items ≡ m.payload.items ++ take count bytes
    → length m.payload.items + count + 2 ≡ size → size < 2 ^ 16
    → n.place ≡ (with_segment (m.count + count - 1) m.headers n.payload.items marker code).place
    → n.headers ≡ (with_segment (m.count + count - 1) m.headers n.payload.items marker code).headers
    → n.findings ≡ m.findings → n.count ≡ m.count → IsPlace n.headers.frame n.place n.payload.items → Takes m bytes n count
takes_rest m n bytes count marker code size is some within payload whole small place headers kept same sound =
    let taken : length (take count bytes) ≡ count = length-take-le count bytes within in
    record {
      some = some;
      within = within;
      leads = λ ps. rw (is, place, headers, append-nil ps, payload)
          (whole_from m.headers marker code size ps (take count bytes) m.count (m.count + count - 1) m.payload.items
          (omega (arith, taken, some)) (omega (arith, whole, taken)) (omega (arith, some, taken))
          ∙ rw (taken_payload (m.count + count - 1) m.headers (m.payload.items ++ take count bytes) marker _) refl);
      found = rw is kept;
      count_is = same;
      place_is = sound;
      header_bytes = omega (arith, whole, grown bytes _ _ payload taken, small);
    }

-- a whole segment
pub takes_segment : (m n : Machine) (bytes : List ℕ) (fill : Bool) (size end : ℕ) → m.place ≡ AtMarker fill → IsWholeSegment bytes size
    → end ≡ size + 2 → size < 2 ^ 16
    → n.payload.items ≡ take (size - 2) (drop 4 bytes)
    → n.place ≡ (with_segment (m.count + end - 1) m.headers n.payload.items m.count (get_or bytes 1 0)).place
    → n.headers ≡ (with_segment (m.count + end - 1) m.headers n.payload.items m.count (get_or bytes 1 0)).headers
    → n.findings ≡ m.findings → n.count ≡ m.count → IsPlace n.headers.frame n.place n.payload.items → Takes m bytes n end
takes_segment m n bytes fill size end is w ends small payload place headers kept same sound =
    let last : m.count + end - 1 ≡ m.count + size + 1 = omega (arith, ends) in
    let length_is : length n.payload.items ≤ size = omega (arith, ap length payload, length-take (size - 2) (drop 4 bytes)) in
    record {
      some = omega (arith, ends);
      within = omega (arith, ends, w.within);
      leads = λ ps. rw (is, place, headers, last, ends)
          (segment_leads fill bytes size w m.count m.headers m.payload.items n.payload.items payload ps
          ∙ rw (taken_payload (m.count + size + 1) m.headers n.payload.items m.count _) refl);
      found = rw is kept;
      count_is = same;
      place_is = sound;
      header_bytes = omega (arith, length_is, small);
    }

-- data of a scan, or what may be fill
pub takes_of_scan : (m n : Machine) (bytes : List ℕ) (count : ℕ) (scan next : OpenScan) → m.place ≡ InScan scan → n.place ≡ InScan next
    → TakesData scan bytes next count → n.headers ≡ m.headers → n.payload.items ≡ m.payload.items → n.findings ≡ m.findings
    → n.count ≡ m.count → IsPlace m.headers.frame m.place m.payload.items → length m.payload.items ≤ 65535 → Takes m bytes n count
takes_of_scan m n bytes count scan next is there t headers payload kept same sound small =
    takes_stretch m n bytes count (InScan scan) (InScan next) is there t.some t.within t.leads t.closes_none headers payload kept same
    (rw headers (t.sound m.headers.frame m.payload.items (subst (λ p. IsPlace m.headers.frame p m.payload.items) is sound)))
    (rw payload small)
