-- Steps of the loop that reads an input.
use Rattle.std.proofs.Common.{◌≡◌, ◌⊎◌, ◌<◌, ◌≤◌, ℕ, ◌+◌, ◌*◌, Bool, true, false, List, [], ◌∷◌, ◌++◌, Option, Some, None, length, sym}
use Rattle.std.proofs.Common.{subst, ap}
use Rattle.std.proofs.Common.{◌∙◌, arith, refl}
use Rattle.std.specs.Prelude.{◌↔◌, IsTrue, IfSome, IsSomeAnd, if◌then◌else◌, ◌-◌, ◌^◌}
use Rattle.std.specs.Io.KnownBytes.{Consumes, IsAtEnd}
use Rattle.std.proofs.lemmas.Bool.{false≢true}
use Rattle.std.proofs.lemmas.List.{append-nil, append_assoc, length-append}
use Rattle.jls_io.specs.Event.{History, GrewBy, gave}
use Rattle.jls_station.specs.Inputs.{IsCopyDone}
use Rattle.jls_station.specs.KnownCopies.{IsPrefixOf}
use Rattle.jls_station.specs.Reading.{IsRead, ReadSoFar}
use Rattle.jls_station.specs.Texts.{is_text}
use Rattle.jls_station.specs.declared.input.ReadStop.{ReadStop}
use Rattle.jls_station.specs.declared.input.ReadStop.TheVariants.{Whole}
use Rattle.jls_station.proofs.OneInput.{one_read_more, read_enough, consumes_on}
use Rattle.jls_marker.specs.SegmentLaws.{AreBytes}

-- What an intake, which was fed as `first` says and is fed as `held` says now, got by so many reads. `left` is what its source had left
-- before them and has left now, where that is known
pub record SoFar (E : List ℕ → Type 0) (first held : Option (List ℕ)) (made count : ℕ) (old new : History)
    (left left' : Option (List ℕ)) : Type 0 where
  pub bytes : List ℕ
  pub is : held ≡ Some bytes
  pub few : length bytes ≤ 4096 * count
  pub longer : (fed : List ℕ) → first ≡ Some fed → (more : List ℕ) × (bytes ≡ fed ++ more)
  pub so_far : (before : History) (fed : List ℕ) → first ≡ Some fed → GrewBy (ReadSoFar E made fed) before old
      → GrewBy (ReadSoFar E count bytes) before new
  pub known : (before : Option (List ℕ)) (fed : List ℕ) → first ≡ Some fed → Consumes before left fed → Consumes before left' bytes

-- what was read of known bytes
pub prefix_of : (before left : Option (List ℕ)) (prefix : List ℕ) (stop : ReadStop) → Consumes before left prefix
    → (stop ≡ Whole → IsCopyDone prefix ⊎ IsAtEnd left) → IfSome before (λ bytes. IsPrefixOf bytes prefix stop)
prefix_of None left prefix stop h e = tt
prefix_of (Some bytes) None prefix stop h e = absurd h
prefix_of (Some bytes) (Some following) prefix stop h e = record { following = following; bytes_are = h; enough = e }

-- a read that gives nothing consumes nothing
pub consumes_no_more : (before mid left : Option (List ℕ)) (prefix : List ℕ) → Consumes before mid prefix → Consumes mid left []
    → Consumes before left prefix
consumes_no_more before mid left prefix h k =
    subst (λ (t : List ℕ). Consumes before left t) (append-nil prefix) (consumes_on before mid left prefix [] h k)

-- what a reader that was fed some bytes answers is about these
pub about : (Q : List ℕ → Type 0) (reader : Option (List ℕ)) (bytes : List ℕ) → reader ≡ Some bytes → IfSome reader Q → Q bytes
about Q reader bytes is h = subst (λ (o : Option (List ℕ)). IfSome o Q) is h

-- what holds of the bytes that a reader was fed holds of the reader
pub of_reader : (Q : List ℕ → Type 0) (reader : Option (List ℕ)) (bytes : List ℕ) → reader ≡ Some bytes → Q bytes → IsSomeAnd reader Q
of_reader Q reader bytes is h = subst (λ (o : Option (List ℕ)). IsSomeAnd o Q) (sym is) h

-- no read was made yet
pub none_more : (E : List ℕ → Type 0) (held : Option (List ℕ)) (made : ℕ) (now : History) (left : Option (List ℕ))
    → IsSomeAnd held (λ fed. length fed ≤ 4096 * made) → SoFar E held held made made now now left left
none_more E None made now left few = absurd few
none_more E (Some bytes) made now left few = record {
  bytes = bytes;
  is = refl;
  few = few;
  longer = λ fed was. ([], (let same : bytes ≡ fed = cc in same) ∙ sym (append-nil fed));
  so_far = λ before fed was h. subst (λ (t : List ℕ). GrewBy (ReadSoFar E made t) before now) (sym (let same : bytes ≡ fed = cc in same)) h;
  known = λ before fed was h. subst (λ (t : List ℕ). Consumes before left t) (sym (let same : bytes ≡ fed = cc in same)) h;
}

-- whether more bytes are wanted
module _ (E : List ℕ → Type 0) (enough : Bool) (held : Option (List ℕ)) (bytes : List ℕ) (is : held ≡ Some bytes)
    (h : IfSome held (λ b. IsTrue enough ↔ E b)) where
  pub goes_on : enough ≡ false → E bytes → ⊥
  goes_on no_more done = false≢true (sym no_more ∙ (about (λ b. IsTrue enough ↔ E b) held bytes is h).1 done)

  -- where the code says that the bytes are enough, they are
  pub is_over : enough ≡ true → E bytes
  is_over over = (about (λ b. IsTrue enough ↔ E b) held bytes is h).0 over

-- what is so where the reading stops
module _ {E : List ℕ → Type 0} {first held : Option (List ℕ)} {made count : ℕ} {old new : History} {left left' : Option (List ℕ)}
    (i : SoFar E first held made count old new left left') where
  pub stops_longer : (fed : List ℕ) → first ≡ Some fed → IsSomeAnd held (λ bytes. (more : List ℕ) × (bytes ≡ fed ++ more))
  stops_longer fed was = of_reader (λ bytes. (more : List ℕ) × (bytes ≡ fed ++ more)) held i.bytes i.is (i.longer fed was)

  pub stops_known : (before : Option (List ℕ)) (fed : List ℕ) → first ≡ Some fed → Consumes before left fed
      → IsSomeAnd held (λ bytes. Consumes before left' bytes)
  stops_known before fed was h = of_reader (λ bytes. Consumes before left' bytes) held i.bytes i.is (i.known before fed was h)

  -- all of it, where the bytes are enough
  pub stops_enough : (enough : Bool) → IfSome held (λ b. IsTrue enough ↔ E b) → enough ≡ true → count ≤ 4294967295
      → ((fed : List ℕ) → first ≡ Some fed → IsSomeAnd held (λ bytes. (more : List ℕ) × (bytes ≡ fed ++ more)))
      × ((before : History) (fed : List ℕ) → first ≡ Some fed → GrewBy (ReadSoFar E made fed) before old
      → IsSomeAnd held (λ bytes. GrewBy (λ reads. IsRead E reads bytes Whole) before new))
      × ((before : Option (List ℕ)) (fed : List ℕ) → first ≡ Some fed → Consumes before left fed
      → IsSomeAnd held (λ bytes. Consumes before left' bytes)) × IsSomeAnd held E
  stops_enough enough tells over le =
      let done = is_over E enough held i.bytes i.is tells over in (
        stops_longer,
        λ before fed was h. of_reader (λ bytes. GrewBy (λ reads. IsRead E reads bytes Whole) before new) held i.bytes i.is
            (read_enough E count before new new i.bytes (i.so_far before fed was h) done le),
        stops_known,
        of_reader E held i.bytes i.is done,
      )

-- a slice that fits the count of bytes
pub put_fits : (held : Option (List ℕ)) (bytes more : List ℕ) → held ≡ Some bytes → length bytes + length more ≤ 2 ^ 63 - 1
    → IfSome held (λ b. length b + length more ≤ 2 ^ 63 - 1)
put_fits held bytes more is le = subst (λ (o : Option (List ℕ)). IfSome o (λ b. length b + length more ≤ 2 ^ 63 - 1)) (sym is) le

-- one read more, which gave some bytes
pub one_more : (E : List ℕ → Type 0) (first held held' : Option (List ℕ)) (made count : ℕ) (old mid new : History) (room : ℕ)
    (more : List ℕ) (left mid_left left' : Option (List ℕ))
    (h : SoFar E first held made count old mid left mid_left)
    → held' ≡ Some (h.bytes ++ more) → new ≡ mid ++ gave room more ∷ [] → (E h.bytes → ⊥) → room ≤ 4096 → 0 < length more → length more
    ≤ 4096 → AreBytes more
    → Consumes mid_left left' more → SoFar E first held' made (count + 1) old new left left'
one_more E first held held' made count old mid new room more left mid_left left' h is e not fits some few low consumed = record {
  bytes = h.bytes ++ more;
  is = is;
  few = omega (arith, length-append h.bytes more, h.few, few);
  longer = λ fed was.
      let b = h.longer fed was in
      (b.0 ++ more, ap (λ (t : List ℕ). t ++ more) b.1 ∙ append_assoc fed b.0 more);
  so_far = λ before fed was so. one_read_more E count before mid new h.bytes room more (h.so_far before fed was so) e not fits some low;
  known = λ before fed was so. consumes_on before mid_left left' h.bytes more (h.known before fed was so) consumed;
}

-- the bytes of a text, and nothing where they are no text
abbrev pub text_in : List ℕ → Option (List ℕ)
text_in bytes = if is_text bytes then Some bytes else None

pub text_held : (bytes : List ℕ) → is_text bytes ≡ true → text_in bytes ≡ Some bytes
text_held bytes text = ap (λ (b : Bool). if b then Some bytes else None) text
