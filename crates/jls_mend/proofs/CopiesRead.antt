-- What was read of copies that are inputs in memory.
use Rattle.std.proofs.Common.{◌≡◌, ℕ, ◌<◌, ◌≤◌, List, [], ◌∷◌, ◌++◌, Some, drop, length, map, take, refl, sym, ap, ◌∙◌, subst, arith}
use Rattle.std.proofs.Common.{append_assoc, suc, zero}
use Rattle.std.specs.Prelude.{unwrap_or}
use Rattle.std.specs.List.{AllByRecursion, AllZip}
use Rattle.std.proofs.lemmas.List.{append-nil, length-append, take-append-drop}
use Rattle.jls_io.specs.Event.{Event, opened, not_opened, gave, read_failed, created, not_created, took, write_failed, bytes_given}
use Rattle.jls_station.specs.CopyFiles.{AreCopiesRead, CopyBytes, IsCopyRead, IsTextPrefix}
use Rattle.jls_station.specs.Reading.{GoesOn, StopsWith}
use Rattle.jls_station.specs.declared.input.ReadStop.{ReadStop}
use Rattle.jls_station.specs.declared.input.ReadStop.TheVariants.{Whole, Failed, Turns}
use Rattle.jls_memory.specs.Files.{File, bytes_named}
use Rattle.jls_memory.specs.Inputs.{Reads}
use Rattle.jls_bad.specs.ListText.{AreNamed}
use Rattle.jls_bad.specs.declared.place.Place.{Place}
use Rattle.jls_splice_run.specs.BadLists.{IsList}
use Rattle.jls_mend.specs.Asking.{BadPlaces}
use Rattle.jls_mend.specs.Mending.{IsReadOf}

-- ---- the reads of one input that each gave some bytes

pub record Went (inputs : List File) (left rest : List ℕ) (on more : List Event) : Type 0 where
  pub then_left : List ℕ
  pub left_is : left ≡ bytes_given on ++ then_left
  pub after : Reads inputs then_left rest more
  pub at_least : length on ≤ length (bytes_given on)

went : (E : List ℕ → Type 0) (inputs : List File) (left rest fed : List ℕ) (on more : List Event) → GoesOn E fed on
    → Reads inputs left rest (on ++ more) → Went inputs left rest on more
went E inputs left rest fed [] more g h = record { then_left = left; left_is = refl; after = h; at_least = omega arith }
went E inputs left rest fed (gave room bytes ∷ on) more g h =
    let w = went E inputs (drop room left) rest (fed ++ bytes) on more g.3 h.1 in
    let len = length-append bytes (bytes_given on) in
    record {
      then_left = w.then_left;
      left_is = sym (take-append-drop room left)
          ∙ (ap (λ (t : List ℕ). t ++ drop room left) (sym h.0)
          ∙ (ap (λ (t : List ℕ). bytes ++ t) w.left_is ∙ sym (append_assoc bytes (bytes_given on) w.then_left)));
      after = w.after;
      at_least = let some = g.1 in let fewer = w.at_least in omega (arith, len, some, fewer);
    }
went E inputs left rest fed (opened name ∷ on) more g h = absurd g
went E inputs left rest fed (not_opened name ∷ on) more g h = absurd g
went E inputs left rest fed (read_failed ∷ on) more g h = absurd g
went E inputs left rest fed (created name ∷ on) more g h = absurd g
went E inputs left rest fed (not_created name ∷ on) more g h = absurd g
went E inputs left rest fed (took bytes ∷ on) more g h = absurd g
went E inputs left rest fed (write_failed ∷ on) more g h = absurd g

-- ---- the last of them

pub record Ended (inputs : List File) (left rest : List ℕ) (last more : List Event) (stop : ReadStop) : Type 0 where
  pub if_whole : stop ≡ Whole → left ≡ []
  pub if_not : (stop ≡ Whole → ⊥) → (last ≡ []) × (stop ≡ Turns)
  pub then_left : List ℕ
  pub after : Reads inputs then_left rest more

nothing_taken : (room : ℕ) (left : List ℕ) → 0 < room → [] ≡ take room left → left ≡ []
nothing_taken zero left some e = absurd (omega (arith, some))
nothing_taken (suc room) [] some e = refl
nothing_taken (suc room) (b ∷ left) some e = absurd cc

ended : (E : List ℕ → Type 0) (inputs : List File) (left rest bytes : List ℕ) (last more : List Event) (stop : ReadStop)
    → StopsWith E bytes last stop → (E bytes → ⊥) → Reads inputs left rest (last ++ more) → Ended inputs left rest last more stop
ended E inputs left rest bytes [] more Whole s lacks h = absurd (lacks s)
ended E inputs left rest bytes [] more Failed s lacks h = absurd s
ended E inputs left rest bytes [] more Turns s lacks h =
    record { if_whole = λ e. absurd cc; if_not = λ _. (refl, refl); then_left = left; after = h }
ended E inputs left rest bytes (gave room [] ∷ []) more Whole s lacks h = record {
  if_whole = λ _. nothing_taken room left s.0 h.0;
  if_not = λ is. absurd (is refl);
  then_left = drop room left;
  after = h.1;
}
ended E inputs left rest bytes (gave room [] ∷ []) more Failed s lacks h = absurd s
ended E inputs left rest bytes (gave room [] ∷ []) more Turns s lacks h = absurd s
ended E inputs left rest bytes (gave room (b ∷ bs) ∷ []) more stop s lacks h = absurd s
ended E inputs left rest bytes (gave room [] ∷ e ∷ last) more stop s lacks h = absurd s
ended E inputs left rest bytes (gave room (b ∷ bs) ∷ e ∷ last) more stop s lacks h = absurd s
ended E inputs left rest bytes (read_failed ∷ last) more stop s lacks h = absurd h
ended E inputs left rest bytes (opened name ∷ last) more stop s lacks h = absurd s
ended E inputs left rest bytes (not_opened name ∷ last) more stop s lacks h = absurd s
ended E inputs left rest bytes (created name ∷ last) more stop s lacks h = absurd s
ended E inputs left rest bytes (not_created name ∷ last) more stop s lacks h = absurd s
ended E inputs left rest bytes (took x ∷ last) more stop s lacks h = absurd s
ended E inputs left rest bytes (write_failed ∷ last) more stop s lacks h = absurd s

-- ---- one copy

pub record Taken (inputs : List File) (rest copy : List ℕ) (read : CopyBytes) (more : List Event) : Type 0 where
  pub is_read_of : IsReadOf copy read
  pub then_left : List ℕ
  pub after : Reads inputs then_left rest more

taken : (inputs : List File) (left rest name copy : List ℕ) (read : CopyBytes) (events more : List Event)
    → bytes_named name inputs ≡ Some copy → IsCopyRead name read events → Reads inputs left rest (events ++ more)
    → Taken inputs rest copy read more
taken inputs left rest name copy read events more found c h =
    let r = c.is_read in
    let opens : Reads inputs left rest (opened name ∷ (r.on ++ (r.last ++ more))) =
    subst (λ (es : List Event). Reads inputs left rest es)
    (ap (λ (es : List Event). es ++ more) c.events_are
    ∙ (ap (λ (es : List Event). opened name ∷ (es ++ more)) r.reads_are
    ∙ ap (λ (es : List Event). opened name ∷ es) (append_assoc r.on r.last more)))
    h in
    let same : opens.0 ≡ copy = ap (λ o. unwrap_or o []) (sym opens.1 ∙ found) in
    let w = went IsTextPrefix inputs opens.0 rest [] r.on (r.last ++ more) r.goes_on opens.2 in
    let e = ended IsTextPrefix inputs w.then_left rest read.bytes r.last more read.stop r.stops c.no_text w.after in
    let copy_is : copy ≡ read.bytes ++ w.then_left =
    sym same ∙ (w.left_is ∙ ap (λ (b : List ℕ). b ++ w.then_left) (sym r.bytes_are)) in
    record {
      is_read_of = record {
        following = w.then_left;
        copy_is = copy_is;
        if_whole = e.if_whole;
        if_not = λ not_whole.
            let none = (e.if_not not_whole).0 in
            let used = r.used_up (e.if_not not_whole).1 in
            let all : length r.on ≡ 4294967295 =
            ap length (sym (append-nil r.on) ∙ (ap (λ (es : List Event). r.on ++ es) (sym none) ∙ sym r.reads_are)) ∙ used in
            let given : length (bytes_given r.on) ≡ length read.bytes = ap length (sym r.bytes_are) in
            let len : length copy ≡ length (read.bytes ++ w.then_left) = ap length copy_is in
            let parts = length-append read.bytes w.then_left in
            let fewer = w.at_least in
            omega (arith, all, given, len, parts, fewer);
      };
      then_left = e.then_left;
      after = e.after;
    }

-- ---- all copies

pub all_read : (all fs : List File) (read : List CopyBytes) (left rest : List ℕ) (reading more : List Event)
    → AllByRecursion (λ (f : File). bytes_named f.name all ≡ Some f.bytes) fs
    → AreCopiesRead (map (λ (f : File). f.name) fs) read reading → Reads all left rest (reading ++ more)
    → AllZip IsReadOf (map (λ (f : File). f.bytes) fs) read
all_read all [] [] left rest reading more found are h = tt
all_read all [] (c ∷ read) left rest reading more found are h = absurd are
all_read all (f ∷ fs) [] left rest reading more found are h = absurd are
all_read all (f ∷ fs) (c ∷ read) left rest reading more found are h =
    let here : Reads all left rest (are.0 ++ (are.1 ++ more)) =
    subst (λ (es : List Event). Reads all left rest es)
    (ap (λ (es : List Event). es ++ more) are.2 ∙ append_assoc are.0 are.1 more) h in
    let t = taken all left rest f.name f.bytes c are.0 (are.1 ++ more) found.0 are.3 here in
    (t.is_read_of, all_read all fs read t.then_left rest are.1 more found.1 are.4 t.after)

-- ---- lists

named_one : (text : List ℕ) (file : CopyBytes) (own : List Place) → IsReadOf text file → IsList file own → AreNamed text own
named_one text file own r l =
    let all : text ≡ file.bytes =
    r.copy_is ∙ (ap (λ (more : List ℕ). file.bytes ++ more) (r.if_whole l.whole) ∙ append-nil file.bytes) in
    subst (λ (bytes : List ℕ). AreNamed bytes own) (sym all) l.named

-- a list that was read to its end names what its text does
pub all_named : (bad : List BadPlaces) (lists : List CopyBytes) (places : List (List Place))
    → AllZip IsReadOf (map (λ (l : BadPlaces). l.text) bad) lists → AllZip IsList lists places
    → AllZip (λ (l : BadPlaces) (own : List Place). AreNamed l.text own) bad places
all_named [] [] [] r l = tt
all_named [] [] (own ∷ places) r l = absurd l
all_named [] (file ∷ lists) places r l = absurd r
all_named (b ∷ bad) [] places r l = absurd r
all_named (b ∷ bad) (file ∷ lists) [] r l = absurd l
all_named (b ∷ bad) (file ∷ lists) (own ∷ places) r l = (named_one b.text file own r.0 l.0, all_named bad lists places r.1 l.1)
