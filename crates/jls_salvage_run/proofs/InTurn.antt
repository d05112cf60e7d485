-- Inputs taken one after the other.
use Rattle.std.proofs.Common.{◌≡◌, ℕ, ◌+◌, ◌<◌, Bool, true, false, List, [], ◌∷◌, ◌++◌, Option, length, get_or, map, take, drop, refl, sym}
use Rattle.std.proofs.Common.{None, subst, ap, ◌∙◌, append_assoc, arith}
use Rattle.std.specs.Borrow.{Bor}
use Rattle.std.specs.Prelude.{◌↔◌, ◌&&◌, IsTrue, All}
use Rattle.std.proofs.Math.Seq.{get_or-append_seam}
use Rattle.std.proofs.lemmas.List.{append-nil, drop_more, get_or_append_left, length-append, map-append, take_more, take-append-drop}
use Rattle.std.proofs.lemmas.List.Elements.{All-append, All-cons, All-nil}
use Rattle.std.proofs.lemmas.Bool.{and_parts, and_from}
use Rattle.jls_values.specs.Join.{join_all, AllOfShape}
use Rattle.jls_values.specs.Shape.{PictureShape}
use Rattle.jls_values.specs.SameShape.{same_shape}
use Rattle.jls_partial.specs.Partial.{PartialPicture, has_same_shape, union}
use Rattle.jls_partial.proofs.Parts.{shape_of_join}
use Rattle.jls_io.specs.Event.{Event, History, GrewBy, opened, not_opened}
use Rattle.jls_io.proofs.Growing.{grew_twice}
use Rattle.jls_cli.proofs.OutputSteps.{grew_after}
use Rattle.jls_station.specs.Given.{Given}
use Rattle.jls_station.specs.Inputs.{ReadsGive, ReadsRefuse}
use Rattle.jls_salvage_run.specs.AllInputs.{partials, AreOfOneShape, IsOfOtherShape, IsUnionOf, IsTaken, TakesInTurn, TakesUnion, StopsAt}
use Rattle.jls_salvage_run.specs.AllInputs.{not_there, refused, EndsAt, StopsAtInput}
use Rattle.jls_station.specs.declared.input.ReadStop.TheVariants.{Whole}
use Rattle.jls_station.specs.declared.input.InputFault.{InputFault}
use Rattle.jls_cli.specs.Outcomes.{refusal_at}
use Rattle.jls_cli.specs.declared.outcome.Refusal.{Refusal}
use Rattle.jls_cli.specs.declared.outcome.Cause.TheVariants as cause

-- ---- one input

module _ (source : Option ℕ) (old mid new : History) (name : List ℕ) where
  pub opened_and_given : (g : Given) → mid ≡ old ++ opened name ∷ [] → GrewBy (ReadsGive source g) mid new
      → GrewBy (IsTaken source name g) old new
  opened_and_given g = grew_after (ReadsGive source g) (IsTaken source name g) old mid new (opened name)
      (λ reads h. record { reads = reads; events_are = refl; give = h })

module _ (source : Option ℕ) (old mid new : History) (name : Bor (List ℕ)) where
  pub opened_and_refused : (f : InputFault) (before : List Given) → mid ≡ old ++ opened name.now ∷ [] → GrewBy (ReadsRefuse f) mid new
      → GrewBy (StopsAt source before (refusal_at name (cause.Input f))) old new
  opened_and_refused f before =
      grew_after (ReadsRefuse f) (StopsAt source before (refusal_at name (cause.Input f))) old mid new (opened name.now)
      (λ reads h. refused source before name f reads h)

  pub not_opened_at_all : (before : List Given) (r : Refusal) → r ≡ refusal_at name cause.NotOpened → new ≡ old ++ not_opened name.now ∷ []
      → GrewBy (StopsAt source before r) old new
  not_opened_at_all before r is grew =
      subst (λ (x : Refusal). GrewBy (StopsAt source before x) old new) (sym is)
      (record { events = not_opened name.now ∷ []; grew = grew; they_are = not_there source before name })

-- ---- unions

-- the union of some and one more
join_one_more : (p : PartialPicture) (ps : List PartialPicture) (q : PartialPicture)
    → join_all union p (ps ++ q ∷ []) ≡ union (join_all union p ps) q
join_one_more p [] q = refl
join_one_more p (x ∷ xs) q = join_one_more (union p x) xs q

union_of_more : (ps : List PartialPicture) (joined q : PartialPicture) → IsUnionOf ps joined → IsUnionOf (ps ++ q ∷ []) (union joined q)
union_of_more [] joined q h = absurd h
union_of_more (p ∷ ps) joined q h = ap (λ (x : PartialPicture). union x q) h ∙ sym (join_one_more p ps q)

-- what has the shape of the union has that of the first
shape_of_union : (p : PartialPicture) (ps : List PartialPicture) (joined q : PartialPicture) → IsUnionOf (p ∷ ps) joined
    → has_same_shape joined q ≡ has_same_shape p q
shape_of_union p ps joined q h =
    ap (λ (s : PictureShape). same_shape s q.shape) (ap (λ (x : PartialPicture). x.shape) h ∙ shape_of_join p ps)

shapes_one_more : (p : PartialPicture) (ps : List PartialPicture) (q : PartialPicture) → AllOfShape has_same_shape p ps
    → has_same_shape p q ≡ true → AllOfShape has_same_shape p (ps ++ q ∷ [])
shapes_one_more p [] q h e = (e, tt)
shapes_one_more p (x ∷ xs) q h e = (h.0, shapes_one_more p xs q h.1 e)

one_shape_more : (ps : List PartialPicture) (joined q : PartialPicture) → IsUnionOf ps joined → AreOfOneShape ps
    → has_same_shape joined q ≡ true → AreOfOneShape (ps ++ q ∷ [])
one_shape_more [] joined q u h e = absurd u
one_shape_more (p ∷ ps) joined q u h e = shapes_one_more p ps q h (sym (shape_of_union p ps joined q u) ∙ e)

pub other_shape_than_union : (ps : List PartialPicture) (joined q : PartialPicture) → IsUnionOf ps joined → has_same_shape joined q ≡ false
    → IsOfOtherShape ps q
other_shape_than_union [] joined q u e = absurd u
other_shape_than_union (p ∷ ps) joined q u e = sym (shape_of_union p ps joined q u) ∙ e

pub same_shape_as_union : (ps : List PartialPicture) (joined q : PartialPicture) → IsUnionOf ps joined
    → (has_same_shape joined q ≡ false → ⊥)
    → IsOfOtherShape ps q → ⊥
same_shape_as_union [] joined q u same other = other
same_shape_as_union (p ∷ ps) joined q u same other = same (shape_of_union p ps joined q u ∙ other)

-- ---- read whole

module _ {X : Type 0} (P : X → Type 0) where
  All-left : (xs ys : List X) → All P (xs ++ ys) → All P xs
  All-left xs ys h k d lt =
      subst P (get_or_append_left xs ys d k lt) (h k d (omega (arith, lt, length-append xs ys)))

  All-last : (xs : List X) (y : X) → All P (xs ++ y ∷ []) → P y
  All-last xs y h = subst P (get_or-append_seam xs y [] y) (h (length xs) y (omega (arith, length-append xs (y ∷ []))))

-- ---- inputs in turn

in_turn_more : (source : Option ℕ) (names : List (List ℕ)) (givens : List Given) (a b : List Event) (name : List ℕ) (g : Given)
    → TakesInTurn source names givens a → IsTaken source name g b → TakesInTurn source (names ++ name ∷ []) (givens ++ g ∷ []) (a ++ b)
in_turn_more source [] [] a b name g h t = (b, [], ap (λ (x : List Event). x ++ b) h ∙ sym (append-nil b), t, refl)
in_turn_more source [] (x ∷ givens) a b name g h t = absurd h
in_turn_more source (n ∷ names) [] a b name g h t = absurd h
in_turn_more source (n ∷ names) (x ∷ givens) a b name g h t =
    (h.0, h.1 ++ b, ap (λ (y : List Event). y ++ b) h.2 ∙ append_assoc h.0 h.1 b, h.3, in_turn_more source names givens h.1 b name g h.4 t)

-- whether one more was read whole too
whole_one_more : (givens : List Given) (g : Given) (whole also both : Bool) → IsTrue whole ↔ All (λ x. x.stop ≡ Whole) givens
    → IsTrue also ↔ (g.stop ≡ Whole)
    → both ≡ (whole && also) → IsTrue both ↔ All (λ x. x.stop ≡ Whole) (givens ++ g ∷ [])
whole_one_more givens g whole also both h k is = (
  λ t. let parts = and_parts whole also (sym is ∙ t) in
      All-append (λ (x : Given). x.stop ≡ Whole) givens (g ∷ []) (h.0 parts.0)
      (All-cons (λ (x : Given). x.stop ≡ Whole) g [] (k.0 parts.1) (All-nil (λ (x : Given). x.stop ≡ Whole))),
  λ all. is ∙ and_from whole also (h.1 (All-left (λ (x : Given). x.stop ≡ Whole) givens (g ∷ []) all))
      (k.1 (All-last (λ (x : Given). x.stop ≡ Whole) givens g all)),
)

module _ (source : Option ℕ) (names : List (List ℕ)) (name : List ℕ) (g : Given) (also : Bool) (also_is : IsTrue also ↔ (g.stop ≡ Whole))
  where
    first_taken : (events : List Event) → IsTaken source name g events → TakesUnion source (name ∷ []) g.partial also events
    first_taken events h = record {
      givens = g ∷ [];
      taken = record { in_turn = (events, [], sym (append-nil events), h, refl); one_shape = tt };
      union_is = refl;
      whole_is = whole_one_more [] g true also also (λ _. All-nil (λ (x : Given). x.stop ≡ Whole), λ _. refl) also_is refl;
    }

    next_taken : (joined : PartialPicture) (whole both : Bool) → both ≡ (whole && also) → has_same_shape joined g.partial ≡ true
        → (a b : List Event)
        → TakesUnion source names joined whole a → IsTaken source name g b
        → TakesUnion source (names ++ name ∷ []) (union joined g.partial) both (a ++ b)
    next_taken joined whole both is e a b h t =
        let more : partials (h.givens ++ g ∷ []) ≡ partials h.givens ++ g.partial ∷ [] =
        map-append (λ (x : Given). x.partial) h.givens (g ∷ []) in
        record {
          givens = h.givens ++ g ∷ [];
          taken = record {
            in_turn = in_turn_more source names h.givens a b name g h.taken.in_turn t;
            one_shape = subst AreOfOneShape (sym more) (one_shape_more (partials h.givens) joined g.partial h.union_is h.taken.one_shape e);
          };
          union_is = subst (λ (ps : List PartialPicture). IsUnionOf ps (union joined g.partial)) (sym more)
              (union_of_more (partials h.givens) joined g.partial h.union_is);
          whole_is = whole_one_more h.givens g whole also both h.whole_is also_is is;
        }

pub union_of_first : (source : Option ℕ) (old new : History) (name : List ℕ) (g : Given) (also : Bool) (held : PartialPicture)
    → IsTrue also ↔ (g.stop ≡ Whole) → held ≡ g.partial
    → GrewBy (IsTaken source name g) old new → GrewBy (TakesUnion source (name ∷ []) held also) old new
union_of_first source old new name g also held w is h = record {
  events = h.events;
  grew = h.grew;
  they_are = subst (λ (p : PartialPicture). TakesUnion source (name ∷ []) p also h.events) (sym is)
      (first_taken source [] name g also w h.events h.they_are);
}

module _ (source : Option ℕ) (old mid new : History) (names : List (List ℕ)) (joined : PartialPicture) (whole : Bool)
    (taken : GrewBy (TakesUnion source names joined whole) old mid) where
  pub union_of_next : (name : List ℕ) (g : Given) (also both : Bool) (new_union : PartialPicture) → IsTrue also ↔ (g.stop ≡ Whole)
      → both ≡ (whole && also)
      → GrewBy (IsTaken source name g) mid new → has_same_shape joined g.partial ≡ true → new_union ≡ union joined g.partial
      → GrewBy (TakesUnion source (names ++ name ∷ []) new_union both) old new
  union_of_next name g also both new_union w b h e is = record {
    events = taken.events ++ h.events;
    grew = grew_twice old mid new taken.events h.events taken.grew h.grew;
    they_are = subst (λ (u : PartialPicture). TakesUnion source (names ++ name ∷ []) u both (taken.events ++ h.events)) (sym is)
        (next_taken source names name g also w joined whole both b e taken.events h.events taken.they_are h.they_are);
  }

  module _ (all after : List (List ℕ)) (r : Refusal) (among : all ≡ names ++ r.name.now ∷ after) where
    pub stops_next : ((before : List Given) → IsUnionOf (partials before) joined → GrewBy (StopsAt source before r) mid new)
        → GrewBy (StopsAtInput source all r) old new
    stops_next h =
        let s = h taken.they_are.givens taken.they_are.union_is in
        record {
          events = taken.events ++ s.events;
          grew = grew_twice old mid new taken.events s.events taken.grew s.grew;
          they_are = record {
            before = names;
            after = after;
            among = among;
            givens = taken.they_are.givens;
            reading = taken.events;
            taken = taken.they_are.taken;
            last = s.events;
            stops = s.they_are;
            events_are = refl;
          };
        }

-- the first input stops the command
pub stops_first : (source : Option ℕ) (old new : History) (first : List ℕ) (others : List (List ℕ)) (r : Refusal) → r.name.now ≡ first
    → GrewBy (StopsAt source [] r) old new → GrewBy (StopsAtInput source (first ∷ others) r) old new
stops_first source old new first others r named s =
    record {
      events = s.events;
      grew = s.grew;
      they_are = record {
        before = [];
        after = others;
        among = λ i. sym named i ∷ others;
        givens = [];
        reading = [];
        taken = record { in_turn = refl; one_shape = tt };
        last = s.events;
        stops = s.they_are;
        events_are = refl;
      };
    }

-- ---- names

module _ {X : Type 0} (f : X → List ℕ) where
  pub names_one_more : (xs : List X) (i : ℕ) (d : X) → i < length xs
      → map f (take (i + 1) xs) ≡ map f (take i xs) ++ f (get_or xs i d) ∷ []
  names_one_more xs i d lt = ap (map f) (take_more xs i d lt) ∙ map-append f (take i xs) (get_or xs i d ∷ [])

  pub names_split : (xs : List X) (i : ℕ) (d : X) → i < length xs
      → map f xs ≡ map f (take i xs) ++ f (get_or xs i d) ∷ map f (drop (i + 1) xs)
  names_split xs i d lt =
      ap (map f) (sym (take-append-drop i xs)) ∙ (map-append f (take i xs) (drop i xs)
      ∙ ap (λ (ys : List X). map f (take i xs) ++ map f ys) (drop_more xs i d lt))

-- inputs of which the only one is so, and the one that stops a join
module _ (IsLast : List Given → List ℕ → List Event → Type 0) where
  pub ends_at_first : (name : List ℕ) (events : List Event) → IsLast [] name events → EndsAt IsLast None (name ∷ []) events
  ends_at_first name events h = record {
    before = [];
    name = name;
    after = [];
    among = refl;
    givens = [];
    reading = [];
    taken = record { in_turn = refl; one_shape = tt };
    last = events;
    is_last = h;
    events_are = refl;
  }

  pub ends_at_stop : (source : Option ℕ) (names : List (List ℕ)) (r : Refusal) (events : List Event)
      (h : StopsAtInput source names r events) → IsLast h.givens r.name.now h.last → EndsAt IsLast source names events
  ends_at_stop source names r events h is = record {
    before = h.before;
    name = r.name.now;
    after = h.after;
    among = h.among;
    givens = h.givens;
    reading = h.reading;
    taken = h.taken;
    last = h.last;
    is_last = is;
    events_are = h.events_are;
  }
