-- Copies that are read one after the other.
use Rattle.std.proofs.Common.{◌≡◌, ℕ, ◌+◌, ◌<◌, List, [], ◌∷◌, ◌++◌, length, map, take, drop, get_or, refl, sym, subst, ap, ◌∙◌}
use Rattle.std.proofs.Common.{append_assoc}
use Rattle.std.specs.Borrow.{Bor}
use Rattle.std.proofs.lemmas.List.{append-nil, drop_more, map-append, take_more, take-append-drop}
use Rattle.jls_io.specs.Event.{Event, History, GrewBy, opened}
use Rattle.jls_io.proofs.Growing.{grew_twice, grew_on}
use Rattle.jls_station.specs.CopyFiles.{AreCopiesRead, CopyBytes, IsCopyRead, StopsAmongCopies, StopsAtCopy, copies_of, copy_of}
use Rattle.jls_station.specs.declared.copy.CopyFile.{CopyFile}
use Rattle.jls_station.specs.declared.copy.CopyRefusal.{CopyRefusal}

-- names as the code has them, one more
abbrev pub name_of : Bor (List ℕ) → List ℕ
name_of name = name.now

pub names_one_more : (names : List (Bor (List ℕ))) (i : ℕ) (d : Bor (List ℕ)) → i < length names
    → map name_of (take (i + 1) names) ≡ map name_of (take i names) ++ (get_or names i d).now ∷ []
names_one_more names i d within = ap (map name_of) (take_more names i d within) ∙ map-append name_of (take i names) (get_or names i d ∷ [])

-- the names are those before one, that one, and those after it
pub names_split : (names : List (Bor (List ℕ))) (i : ℕ) (d : Bor (List ℕ)) → i < length names
    → map name_of names ≡ map name_of (take i names) ++ (get_or names i d).now ∷ map name_of (drop (i + 1) names)
names_split names i d within =
    ap (map name_of) (sym (take-append-drop i names)) ∙ (map-append name_of (take i names) (drop i names)
    ∙ ap (λ (rest : List (Bor (List ℕ))). map name_of (take i names) ++ map name_of rest) (drop_more names i d within))

-- a copy that was opened, and then read
pub opened_then : (Are Will : List Event → Type 0) (name : List ℕ) (old mid new : History) → mid ≡ old ++ opened name ∷ []
    → ((reads : List Event) → Are reads → Will (opened name ∷ reads)) → GrewBy Are mid new → GrewBy Will old new
opened_then Are Will name old mid new first see h = record {
  events = opened name ∷ h.events;
  grew = grew_twice old mid new (opened name ∷ []) h.events first h.grew;
  they_are = see h.events h.they_are;
}

-- one copy more
read_one_more : (names : List (List ℕ)) (copies : List CopyBytes) (a b : List Event) (name : List ℕ) (copy : CopyBytes)
    → AreCopiesRead names copies a → IsCopyRead name copy b → AreCopiesRead (names ++ name ∷ []) (copies ++ copy ∷ []) (a ++ b)
read_one_more [] [] a b name copy h t = (b, [], ap (λ (x : List Event). x ++ b) h ∙ sym (append-nil b), t, refl)
read_one_more [] (x ∷ copies) a b name copy h t = absurd h
read_one_more (n ∷ names) [] a b name copy h t = absurd h
read_one_more (n ∷ names) (x ∷ copies) a b name copy h t =
    (h.0, h.1 ++ b, ap (λ (y : List Event). y ++ b) h.2 ∙ append_assoc h.0 h.1 b, h.3, read_one_more names copies h.1 b name copy h.4 t)

module _ (names : List (List ℕ)) (copies : List CopyBytes) (old mid new : History) (so_far : GrewBy (AreCopiesRead names copies) old mid)
  where
    pub reads_next : (name : List ℕ) (copy : CopyBytes) → GrewBy (IsCopyRead name copy) mid new
        → GrewBy (AreCopiesRead (names ++ name ∷ []) (copies ++ copy ∷ [])) old new
    reads_next name copy h =
        grew_on (AreCopiesRead names copies) (IsCopyRead name copy) (AreCopiesRead (names ++ name ∷ []) (copies ++ copy ∷ [])) old mid new
        (λ a b s t. read_one_more names copies a b name copy s t) so_far h

    pub stops_next : (all after : List (List ℕ)) (r : CopyRefusal) → all ≡ names ++ r.name.now ∷ after
        → GrewBy (StopsAtCopy r.name.now r.cause) mid new → GrewBy (StopsAmongCopies all r) old new
    stops_next all after r among h = record {
      events = so_far.events ++ h.events;
      grew = grew_twice old mid new so_far.events h.events so_far.grew h.grew;
      they_are = record {
        before = names;
        after = after;
        among = among;
        copies = copies;
        reading = so_far.events;
        read = so_far.they_are;
        last = h.events;
        stops = h.they_are;
        events_are = refl;
      };
    }

-- one name more of those that the code has, and the copy that was read under it
pub reads_on : (names : List (Bor (List ℕ))) (i : ℕ) (d : Bor (List ℕ)) → i < length names
    → (before after : List CopyFile) (copy : CopyFile)
    → after ≡ before ++ copy ∷ [] → (old mid new : History) → GrewBy (AreCopiesRead (map name_of (take i names)) (copies_of before)) old mid
    → GrewBy (IsCopyRead (get_or names i d).now (copy_of copy)) mid new
    → GrewBy (AreCopiesRead (map name_of (take (i + 1) names)) (copies_of after)) old new
reads_on names i d within before after copy is old mid new so_far h =
    let copied : copies_of after ≡ copies_of before ++ copy_of copy ∷ [] = ap copies_of is ∙ map-append copy_of before (copy ∷ []) in
    subst (λ (copies : List CopyBytes). GrewBy (AreCopiesRead (map name_of (take (i + 1) names)) copies) old new) (sym copied)
    (subst (λ (read : List (List ℕ)). GrewBy (AreCopiesRead read (copies_of before ++ copy_of copy ∷ [])) old new)
    (sym (names_one_more names i d within))
    (reads_next (map name_of (take i names)) (copies_of before) old mid new so_far (get_or names i d).now (copy_of copy) h))
