-- Lists of bad places, and copies, that are taken one by one.
use Rattle.std.proofs.Common.{◌≡◌, ◌==◌, ℕ, zero, suc, ◌+◌, ◌<◌, ◌∙◌, Bool, true, false, List, [], ◌∷◌, ◌++◌, length, get_or, map}
use Rattle.std.proofs.Common.{take, refl, sym, ap, subst, arith, append_assoc, Bor, Vec, Global, ⊎_elim}
use Rattle.std.specs.Prelude.{◌⊎◌, if◌then◌else◌, Option, Some, None, option_map}
use Rattle.std.specs.List.{AllByRecursion, AllZip, cons_option}
use Rattle.std.proofs.lemmas.Bool.{eq-eqb, eqb-true}
use Rattle.std.proofs.lemmas.List.{append-nil, get_or-map, length-map, length-take-le, map-append, map_more, take-map}
use Rattle.std.proofs.lemmas.List.Elements.{filter_map-append}
use Rattle.std.proofs.lemmas.Option.{slice_get-map, slice_get_read}
use Rattle.std.proofs.lemmas.Slice.Zip.{AllZip-long}
use Rattle.clap.specs.Words.{Text}
use Rattle.jls_bad.specs.declared.known.Listed.{Listed}
use Rattle.jls_bad.specs.declared.place.Place.{Place}
use Rattle.jls_bad.specs.Copies.{bytes_in}
use Rattle.jls_bad.specs.Copies.{copy_of as listed_copy}
use Rattle.jls_bad.specs.Known.{AreKnownCopies, Copy}
use Rattle.jls_bad.specs.WholeLaw.{AreAsMany}
use Rattle.jls_io.specs.Event.{Event, GrewBy, History}
use Rattle.jls_io.proofs.Growing.{grew_as}
use Rattle.jls_station.specs.CopyFiles.{AreCopiesRead, CopyBytes, copies_of, copy_of}
use Rattle.jls_station.specs.declared.copy.CopyFile.{CopyFile}
use Rattle.jls_cli.specs.BadValues.{BadList, bad_list_of, list_of}
use Rattle.jls_cli.specs.SpliceAsking.{Asked}
use Rattle.jls_cli.specs.declared.splice.bad.BadList.{BadList as BadListValue}
use Rattle.jls_cli.specs.declared.outcome.Cause.{Cause}
use Rattle.jls_cli.specs.declared.outcome.Cause.TheVariants as cause
use Rattle.jls_cli.specs.declared.outcome.Refusal.{Refusal}
use Rattle.jls_splice_run.specs.BadLists.{AreKnownBy, AreSearched, IsList, IsListRefused, IsStoppedBy, StopsAtLists, copies_with}
use Rattle.jls_splice_run.specs.BadLists.{list_names, lists_in}
use Rattle.jls_splice_run.specs.BadLists.{not_whole, not_understood, not_taken, no_memory, places_for, places_from, places_held, with_places}
use Rattle.jls_splice_run.specs.Copies.{bytes_read, stops_read}
use Rattle.jls_splice_run.specs.Making.{IsWantOfMemory}
use Rattle.jls_splice_run.specs.Tasks.{texts_of}
use Rattle.jls_carried.proofs.MappedLists.{mapped_one_more}
use Rattle.jls_splice_run.proofs.Done.{read_count}
use Rattle.jls_splice_run.proofs.Members.{count_read}

-- as many are taken as there are so many
count_taken : {A X : Type 0} (g : A → X) (xs : List A) (i : ℕ) → i < length xs → length (map g (take i xs)) ≡ i
count_taken g xs i within = length-map (take i xs) g ∙ length-take-le i xs (omega (arith, within))

-- ---- the lists that values name

-- one value more, by what it says
listed_more : (values : List (Bor (List ℕ))) (i : ℕ) (d : Bor (List ℕ)) (lists : List BadListValue) (found : Option BadList)
    → i < length values
    → found ≡ bad_list_of (get_or values i d).now → map list_of lists ≡ lists_in (texts_of (take i values))
    → map list_of lists ++ cons_option found [] ≡ lists_in (texts_of (take (i + 1) values))
listed_more values i d lists found within is before =
    ap (λ (ls : List BadList). ls ++ cons_option found []) before
    ∙ ap (λ (o : Option BadList). lists_in (texts_of (take i values)) ++ cons_option o []) is
    ∙ sym (ap lists_in (map_more (λ (s : Bor (List ℕ)). s.now) values i d within)
    ∙ filter_map-append bad_list_of (texts_of (take i values)) ((get_or values i d).now ∷ []))

-- it names a list
pub list_more : (d : Bor (List ℕ)) (values : List (Bor (List ℕ))) (i : ℕ) (lists : List BadListValue) (list : BadListValue)
    (found : Option BadListValue) → i < length values → option_map list_of found ≡ bad_list_of (get_or values i d).now → found ≡ Some list
    → map list_of lists ≡ lists_in (texts_of (take i values)) → map list_of (lists ++ list ∷ []) ≡ lists_in (texts_of (take (i + 1) values))
list_more d values i lists list found within is some before =
    map-append list_of lists (list ∷ [])
    ∙ listed_more values i d lists (Some (list_of list)) within (sym (ap (option_map list_of) some) ∙ is) before

-- it names none
pub no_list_more : (d : Bor (List ℕ)) (values : List (Bor (List ℕ))) (i : ℕ) (lists : List BadListValue) (found : Option BadListValue)
    → i < length values → option_map list_of found ≡ bad_list_of (get_or values i d).now → found ≡ None
    → map list_of lists ≡ lists_in (texts_of (take i values)) → map list_of lists ≡ lists_in (texts_of (take (i + 1) values))
no_list_more d values i lists found within is none before =
    sym (append-nil (map list_of lists)) ∙ listed_more values i d lists None within (sym (ap (option_map list_of) none) ∙ is) before

map_names : (lists : List BadListValue) → map (λ l. l.name.now) lists ≡ map (λ (l : BadList). l.name) (map list_of lists)
map_names [] = refl
map_names (l ∷ lists) = ap (λ (rest : List Text). l.name.now ∷ rest) (map_names lists)

-- the names of the lists that values name
pub names_are : (values : List (Bor (List ℕ))) (lists : List BadListValue) (names : List (Bor (List ℕ)))
    → map list_of lists ≡ lists_in (texts_of values) → texts_of names ≡ map (λ l. l.name.now) lists
    → texts_of names ≡ list_names (texts_of values)
names_are values lists names is named = named ∙ map_names lists ∙ ap (map (λ (l : BadList). l.name)) is

-- ---- the places of one copy

places_for_push : (number : ℕ) (ls : List BadList) (ps : List (List Place)) (l : BadList) (p : List Place) → length ls ≡ length ps
    → places_for number (ls ++ l ∷ []) (ps ++ p ∷ []) ≡ places_for number ls ps ++ (if l.copy == number then p else [])
places_for_push number [] [] l p e = append-nil (if l.copy == number then p else [])
places_for_push number [] (q ∷ ps) l p e = absurd (omega (arith, e))
places_for_push number (k ∷ ls) [] l p e = absurd (omega (arith, e))
places_for_push number (k ∷ ls) (q ∷ ps) l p e =
    let mine : List Place = if k.copy == number then q else [] in
    ap (λ (rest : List Place). mine ++ rest) (places_for_push number ls ps l p (omega (arith, e)))
    ∙ sym (append_assoc mine (places_for number ls ps) (if l.copy == number then p else []))

-- one list more
places_for_more : (number : ℕ) (lists : List BadListValue) (places : List (Vec Place Global)) (i : ℕ) (d : BadListValue)
    (e : Vec Place Global)
    → length lists ≡ length places → i < length lists
    → places_for number (map list_of (take (i + 1) lists)) (places_held (take (i + 1) places))
    ≡ places_for number (map list_of (take i lists)) (places_held (take i places))
    ++ (if (get_or lists i d).copy == number then (get_or places i e).items else [])
places_for_more number lists places i d e many within =
    let before : List BadList = map list_of (take i lists) in
    let held : List (List Place) = places_held (take i places) in
    let l : BadListValue = get_or lists i d in
    let own : Vec Place Global = get_or places i e in
    let within' : i < length places = omega (arith, within, many) in
    let count = count_taken list_of lists i within in
    let count_held = count_taken (λ (o : Vec Place Global). o.items) places i within' in
    ap (λ (ls : List BadList). places_for number ls (places_held (take (i + 1) places))) (map_more list_of lists i d within)
    ∙ ap (λ (ps : List (List Place)). places_for number (before ++ list_of l ∷ []) ps)
    (map_more (λ (o : Vec Place Global). o.items) places i e within')
    ∙ places_for_push number before held (list_of l) own.items (count ∙ sym count_held)

-- it is one of the copy
pub own_more : (d : BadListValue) (number : ℕ) (lists : List BadListValue) (places : List (Vec Place Global)) (i copy : ℕ)
    (own : Vec Place Global)
    → length lists ≡ length places → i < length lists → copy ≡ (get_or lists i d).copy → own ≡ get_or places i own → copy ≡ number
    → places_for number (map list_of (take (i + 1) lists)) (places_held (take (i + 1) places))
    ≡ places_for number (map list_of (take i lists)) (places_held (take i places)) ++ own.items
own_more d number lists places i copy own many within copy_is is same =
    let before : List Place = places_for number (map list_of (take i lists)) (places_held (take i places)) in
    let test : ((get_or lists i d).copy == number) ≡ true = eq-eqb (get_or lists i d).copy number (sym copy_is ∙ same) in
    places_for_more number lists places i d own many within
    ∙ ap (λ (b : Bool). before ++ (if b then (get_or places i own).items else [])) test
    ∙ ap (λ (o : Vec Place Global). before ++ o.items) (sym is)

-- it is one of another
pub other_more : (d : BadListValue) (number : ℕ) (lists : List BadListValue) (places : List (Vec Place Global)) (i copy : ℕ)
    (e : Vec Place Global)
    → length lists ≡ length places → i < length lists → copy ≡ (get_or lists i d).copy → (copy ≡ number → ⊥)
    → places_for number (map list_of (take (i + 1) lists)) (places_held (take (i + 1) places))
    ≡ places_for number (map list_of (take i lists)) (places_held (take i places))
other_more d number lists places i copy e many within copy_is other =
    let before : List Place = places_for number (map list_of (take i lists)) (places_held (take i places)) in
    let l : ℕ = (get_or lists i d).copy in
    let apart : l ≡ number → ⊥ = λ same. other (copy_is ∙ same) in
    let test : (l == number) ≡ false = false_unless l number apart in
    places_for_more number lists places i d e many within
    ∙ ap (λ (b : Bool). before ++ (if b then (get_or places i e).items else [])) test ∙ append-nil before
  where
    by_test : (b : Bool) → (b ≡ true → ⊥) → b ≡ false
    by_test true h = absurd (h refl)
    by_test false h = refl

    false_unless : (m n : ℕ) → (m ≡ n → ⊥) → (m == n) ≡ false
    false_unless m n h = by_test (m == n) (λ t. h (eqb-true m n t))

-- ---- the places of all copies

from_suc : (number : ℕ) (lists : List BadList) (places : List (List Place)) (count : ℕ)
    → places_from number lists places (suc count) ≡ places_from number lists places count ++ places_for (number + count) lists places ∷ []
from_suc number lists places zero =
    let same : number ≡ number + zero = omega arith in ap (λ (n : ℕ). places_for n lists places ∷ []) same
from_suc number lists places (suc count) =
    let first : List Place = places_for number lists places in
    let same : (number + 1) + count ≡ number + suc count = omega arith in
    ap (λ (rest : List (List Place)). first ∷ rest) (from_suc (number + 1) lists places count)
    ∙ ap (λ (n : ℕ). first ∷ (places_from (number + 1) lists places count ++ places_for n lists places ∷ [])) same

-- one copy more
pub places_from_more : (lists : List BadList) (places : List (List Place)) (count : ℕ)
    → places_from 1 lists places (count + 1) ≡ places_from 1 lists places count ++ places_for (count + 1) lists places ∷ []
places_from_more lists places count =
    let next : count + 1 ≡ suc count = omega arith in
    let first : 1 + count ≡ count + 1 = omega arith in
    ap (λ (n : ℕ). places_from 1 lists places n) next ∙ from_suc 1 lists places count
    ∙ ap (λ (n : ℕ). places_from 1 lists places count ++ places_for n lists places ∷ []) first

held_push : (all : List (Vec Place Global)) (own : Vec Place Global) → places_held (all ++ own ∷ []) ≡ places_held all ++ own.items ∷ []
held_push all own = map-append (λ (o : Vec Place Global). o.items) all (own ∷ [])

-- one copy's places more, as the code holds them
pub held_more : (lists : List BadList) (places : List (List Place)) (count : ℕ) (all : List (Vec Place Global)) (own : Vec Place Global)
    → places_held all ≡ places_from 1 lists places count → own.items ≡ places_for (count + 1) lists places
    → places_held (all ++ own ∷ []) ≡ places_from 1 lists places (count + 1)
held_more lists places count all own before is =
    held_push all own ∙ ap (λ (ps : List (List Place)). ps ++ own.items ∷ []) before
    ∙ ap (λ (ps : List Place). places_from 1 lists places count ++ ps ∷ []) is ∙ sym (places_from_more lists places count)

count_from : (number : ℕ) (lists : List BadList) (places : List (List Place)) (count : ℕ)
    → length (places_from number lists places count) ≡ count
count_from number lists places zero = refl
count_from number lists places (suc count) = ap suc (count_from (number + 1) lists places count)

-- as many have places as there are copies
pub own_count : (lists : List BadList) (places : List (List Place)) (count : ℕ) (own : List (Vec Place Global))
    → places_held own ≡ places_from 1 lists places count → length own ≡ count
own_count lists places count own is =
    sym (length-map own (λ (o : Vec Place Global). o.items)) ∙ ap length is ∙ count_from 1 lists places count

-- ---- copies with places

with_places_push : (copies : List (List ℕ)) (places : List (List Place)) (bytes : List ℕ) (own : List Place) → length copies ≡ length places
    → with_places (copies ++ bytes ∷ []) (places ++ own ∷ []) ≡ with_places copies places ++ record { bytes = bytes; places = own } ∷ []
with_places_push [] [] bytes own e = refl
with_places_push [] (p ∷ ps) bytes own e = absurd (omega (arith, e))
with_places_push (c ∷ cs) [] bytes own e = absurd (omega (arith, e))
with_places_push (c ∷ cs) (p ∷ ps) bytes own e =
    let first : Copy = record { bytes = c; places = p } in
    ap (λ (rest : List Copy). first ∷ rest) (with_places_push cs ps bytes own (omega (arith, e)))

bytes_more : (read : List CopyFile) (i : ℕ) (file : CopyFile) → i < length read → file ≡ get_or read i file
    → bytes_read (copies_of (take (i + 1) read)) ≡ bytes_read (copies_of (take i read)) ++ file.bytes.items ∷ []
bytes_more read i file within is =
    ap bytes_read (mapped_one_more copy_of read i file within is)
    ∙ map-append (λ (c : CopyBytes). c.bytes) (copies_of (take i read)) (copy_of file ∷ [])

-- one copy more
pub with_places_more : (read : List CopyFile) (own : List (Vec Place Global)) (i : ℕ) (file : CopyFile) (places : Vec Place Global)
    → length own ≡ length read → i < length read → file ≡ get_or read i file → places ≡ get_or own i places
    → with_places (bytes_read (copies_of (take (i + 1) read))) (places_held (take (i + 1) own))
    ≡ with_places (bytes_read (copies_of (take i read))) (places_held (take i own))
    ++ record { bytes = file.bytes.items; places = places.items } ∷ []
with_places_more read own i file places many within is own_is =
    let before : List (List ℕ) = bytes_read (copies_of (take i read)) in
    let held : List (List Place) = places_held (take i own) in
    let count = count_read (take i read) ∙ length-take-le i read (omega (arith, within)) in
    let count_held = count_taken (λ (o : Vec Place Global). o.items) own i (omega (arith, within, many)) in
    ap (λ (cs : List (List ℕ)). with_places cs (places_held (take (i + 1) own))) (bytes_more read i file within is)
    ∙ ap (λ (ps : List (List Place)). with_places (before ++ file.bytes.items ∷ []) ps)
    (mapped_one_more (λ (o : Vec Place Global). o.items) own i places (omega (arith, within, many)) own_is)
    ∙ with_places_push before held file.bytes.items places.items (count ∙ sym count_held)

pub with_places_count : (copies : List (List ℕ)) (places : List (List Place)) → length places ≡ length copies
    → length (with_places copies places) ≡ length copies
with_places_count [] [] e = refl
with_places_count [] (p ∷ ps) e = refl
with_places_count (c ∷ cs) [] e = absurd (omega (arith, e))
with_places_count (c ∷ cs) (p ∷ ps) e = ap suc (with_places_count cs ps (omega (arith, e)))

-- ---- lists that were read

all_zip_push : {A B : Type 0} (R : A → B → Type 0) (xs : List A) (ys : List B) (x : A) (y : B) → AllZip R xs ys → R x y
    → AllZip R (xs ++ x ∷ []) (ys ++ y ∷ [])
all_zip_push R [] [] x y h r = (r, tt)
all_zip_push R [] (b ∷ ys) x y h r = absurd h
all_zip_push R (a ∷ xs) [] x y h r = absurd h
all_zip_push R (a ∷ xs) (b ∷ ys) x y h r = (h.0, all_zip_push R xs ys x y h.1 r)

all_zip_firsts : {A B : Type 0} (R : A → B → Type 0) (xs : List A) (ys : List B) → AllZip R xs ys → AllByRecursion (λ x. (y : B) × R x y) xs
all_zip_firsts R [] ys h = tt
all_zip_firsts R (a ∷ xs) [] h = absurd h
all_zip_firsts R (a ∷ xs) (b ∷ ys) h = ((b, h.0), all_zip_firsts R xs ys h.1)

-- one list more
pub lists_more : (files : List CopyFile) (i : ℕ) (file : CopyFile) (all : List (Vec Place Global)) (own : Vec Place Global)
    → i < length files
    → file ≡ get_or files i file → IsList (copy_of file) own.items → AllZip IsList (copies_of (take i files)) (places_held all)
    → AllZip IsList (copies_of (take (i + 1) files)) (places_held (all ++ own ∷ []))
lists_more files i file all own within is list before =
    let Q : List CopyBytes → Type 0 = λ fs. AllZip IsList fs (places_held (all ++ own ∷ [])) in
    let P : List (List Place) → Type 0 = λ ps. AllZip IsList (copies_of (take i files) ++ copy_of file ∷ []) ps in
    subst Q (sym (mapped_one_more copy_of files i file within is))
    (subst P (sym (held_push all own)) (all_zip_push IsList (copies_of (take i files)) (places_held all)
    (copy_of file) own.items before list))

-- a list that is refused is no want of memory
pub refused_for_list : (file : CopyBytes) (c : Cause) → IsListRefused file c → c ≡ cause.OutOfMemory → ⊥
refused_for_list file _ (not_whole w) e = absurd cc
refused_for_list file _ (not_understood line w f) e = absurd cc

-- one list stops a run
pub stopped_at : (d : Bor (List ℕ)) (names : List (Bor (List ℕ))) (files : List CopyFile) (i : ℕ) (file : CopyFile) (places : List
    (List Place))
    (r : Refusal) → length names ≡ length files → i < length files → file ≡ get_or files i file
    → AllZip IsList (copies_of (take i files)) places → IsListRefused (copy_of file) r.cause → r.name.now ≡ (get_or names i d).now
    → IsStoppedBy (texts_of names) (copies_of files) r
stopped_at d names files i file places r many within is before refused named =
    let P : List CopyBytes → Type 0 = λ fs. AllByRecursion (λ f. (ps : List Place) × IsList f ps) fs in
    record {
      number = i;
      before = subst P (sym (take-map copy_of i files)) (all_zip_firsts IsList (copies_of (take i files)) places before);
      file = copy_of file;
      file_is = slice_get-map copy_of files i ∙ ap (option_map copy_of) (slice_get_read files (length files) i file refl within is);
      refused = refused;
      name_is = named ∙ sym (get_or-map (λ (n : Bor (List ℕ)). n.now) names i d [] (omega (arith, many, within)));
    }

-- ---- as many of each

-- as many lists are read as have names
pub as_many_read : (names : List (Bor (List ℕ))) (files : List CopyFile) (events : List Event)
    → AreCopiesRead (texts_of names) (copies_of files) events → length names ≡ length files
as_many_read names files events read =
    sym (length-map names (λ (n : Bor (List ℕ)). n.now)) ∙ read_count (texts_of names) (copies_of files) events read
    ∙ length-map files copy_of

-- as many places were read as there are lists
pub places_count : (lists : List BadListValue) (names : List (Bor (List ℕ))) (files : List CopyFile) (places : List (Vec Place Global))
    → texts_of names ≡ map (λ l. l.name.now) lists → length names ≡ length files → AllZip IsList (copies_of files) (places_held places)
    → length lists ≡ length places
places_count lists names files places named many zip =
    sym (length-map lists (λ (l : BadListValue). l.name.now)) ∙ ap length (sym named) ∙ length-map names (λ (n : Bor (List ℕ)). n.now)
    ∙ many
    ∙ sym (length-map files copy_of) ∙ sym (AllZip-long IsList (copies_of files) (places_held places) zip)
    ∙ length-map places (λ (o : Vec Place Global). o.items)

-- as many are known as were read
pub known_count : (law : AreAsMany) (read : List CopyFile) (own : List (Vec Place Global)) (listed : List Copy) (known : List
    (Vec ℕ Global))
    → length own ≡ length read → listed ≡ with_places (bytes_read (copies_of read)) (places_held own)
    → AreKnownCopies listed (bytes_in known)
    → length known ≡ length read
known_count law read own listed known many is are =
    sym (length-map known (λ (file : Vec ℕ Global). file.items)) ∙ law listed (bytes_in known) are ∙ ap length is
    ∙ with_places_count (bytes_read (copies_of read)) (places_held own)
    (length-map own (λ (o : Vec Place Global). o.items) ∙ many ∙ sym (count_read read))
    ∙ count_read read

-- ---- known copies, and what is searched

-- they are those of the copies that were read
pub known_as : (lists : List BadList) (places : List (List Place)) (read : List CopyFile) (own : List (List Place)) (listed : List Copy)
    (known files : List (List ℕ)) → own ≡ places_from 1 lists places (length read) → listed ≡ with_places (bytes_read (copies_of read)) own
    → AreKnownCopies listed known → files ≡ known → AreKnownCopies (copies_with lists places (bytes_read (copies_of read))) files
known_as lists places read own listed known files own_is listed_is are files_are =
    let bytes : List (List ℕ) = bytes_read (copies_of read) in
    let is : listed ≡ copies_with lists places bytes = listed_is
    ∙ ap (with_places bytes) (own_is ∙ ap (places_from 1 lists places) (sym (count_read read))) in
    let P : List Copy → Type 0 = λ cs. AreKnownCopies cs known in
    let Q : List (List ℕ) → Type 0 = λ fs. AreKnownCopies (copies_with lists places bytes) fs in
    subst Q (sym files_are) (subst P is are)

-- a copy more that has its places
pub listed_push : (listed : List Listed) (one : Listed) (before : List Copy) (bytes : List ℕ) (places : List Place)
    → map listed_copy listed ≡ before → one.bytes.now ≡ bytes → one.places.now ≡ places
    → map listed_copy (listed ++ one ∷ []) ≡ before ++ record { bytes = bytes; places = places } ∷ []
listed_push listed one before bytes places is bytes_are places_are =
    map-append listed_copy listed (one ∷ [])
    ∙ (λ i. is i ++ record { bytes = bytes_are i; places = places_are i } ∷ [])

-- a run that stops after the lists were read
pub stopped_after : (a : Asked) (r : Refusal) (names : List Text) (lists : List CopyBytes) (old new : History) → names ≡ list_names a.bad
    → IsWantOfMemory a r ⊎ IsStoppedBy names lists r → GrewBy (AreCopiesRead names lists) old new → GrewBy (StopsAtLists a r) old new
stopped_after a r names lists old new named why read =
    let P : List Text → Type 0 = λ ns. IsStoppedBy ns lists r in
    grew_as (AreCopiesRead names lists) (StopsAtLists a r) old new
    (λ events mine.
    let Q : List Text → Type 0 = λ ns. AreCopiesRead ns lists events in
    let all : AreCopiesRead (list_names a.bad) lists events = subst Q named mine in
    ⊎_elim (λ want. no_memory lists events all want) (λ stopped. not_taken lists events all (subst P named stopped)) why)
    read

-- what is searched by the lists that were read
pub searched_by : (values : List Text) (read searched : List CopyBytes) (names : List Text) (lists : List CopyBytes) (places : List
    (List Place))
    (old new : History) → (length values == 0) ≡ false → names ≡ list_names values → AllZip IsList lists places
    → AreKnownCopies (copies_with (lists_in values) places (bytes_read read)) (bytes_read searched) → stops_read searched ≡ stops_read read
    → GrewBy (AreCopiesRead names lists) old new → GrewBy (AreSearched values read searched) old new
searched_by [] read searched names lists places old new some named are known stops all =
    let is_empty : true ≡ false = some in absurd cc
searched_by (v ∷ vs) read searched names lists places old new some named are known stops all =
    grew_as (AreCopiesRead names lists) (AreKnownBy (v ∷ vs) read searched) old new
    (λ events mine.
    let Q : List Text → Type 0 = λ ns. AreCopiesRead ns lists events in
    record {
      lists = lists;
      lists_read = subst Q named mine;
      places = places;
      are_lists = are;
      known = known;
      stops_are = stops;
    })
    all
