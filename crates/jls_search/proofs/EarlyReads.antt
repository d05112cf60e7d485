-- Files of which the first bytes tell whether they read between two offsets.
use Rattle.std.proofs.Common.{◌≡◌, ℕ, suc, zero, ◌+◌, ◌<◌, ◌≤◌, false, true, List, [], ◌∷◌, ◌++◌, length, take, drop, Option, Some, None}
use Rattle.std.proofs.Common.{Result, Ok, Err, Bool}
use Rattle.std.proofs.Common.{refl, sym, ap, ◌∙◌, subst, arith, append_assoc, length-append, inl, inr}
use Rattle.std.specs.Prelude.{get_or, IfNone, IfOk, IfSome, ◌==◌}
use Rattle.std.specs.List.{AllByRecursion, Contains}
use Rattle.std.proofs.lemmas.Bool.{cases_Bool, eqb-true}
use Rattle.std.proofs.lemmas.List.{append-nil, take_all}
use Rattle.jls_copy.specs.Course.{Course, IsCourseUnder}
use Rattle.jls_copy.specs.CourseLaws.{SomeCourseUnder}
use Rattle.jls_copy.specs.Pieces.{FoundPiece, pieces}
use Rattle.jls_copy.specs.Prefixes.{AgreeBefore, AreAlsoIn, HasLines, IsPastUnder, PrefixesSettlePiecesUnder}
use Rattle.jls_copy.specs.ReadCopy.{after}
use Rattle.jls_copy.specs.declared.end.End.{End}
use Rattle.jls_copy.specs.declared.end.End.TheVariants.{Eoi, Input, Header}
use Rattle.jls_diff.specs.Parts.{Part, Same, way}
use Rattle.jls_search.specs.Choices.{IsPath, prefix_of}
use Rattle.jls_search.specs.Faultless.{IsDead, IsFaultless}
use Rattle.jls_search.specs.ReadsBetween.{IsOffsetBetween, Reaches, ReadsBetween}
use Rattle.jls_search.specs.Search.{IsFedUntil}
use Rattle.jls_copy.specs.Prefixes.{offset_of_end}
use Rattle.jls_marker.specs.declared.profile.Profile.TheVariants.{Wide}
use Rattle.jls_values.proofs.Lists.{in_rest, is_first, all_at, all_prefix}
use Rattle.jls_search.proofs.KeptReaders.{one_fed_on, prefix_and_rest}
use Rattle.jls_search.proofs.Prefixes.{after_then, dead_longer, prefix_more}

-- What is fed ------------------------------------------------------------------------------------------------------

pub after_nothing : (o : Option (List ℕ)) → o ≡ after o []
after_nothing None = refl
after_nothing (Some bytes) = ap Some (sym (append-nil bytes))

pub take_and_drop : (n : ℕ) (xs : List ℕ) → take n xs ++ drop n xs ≡ xs
take_and_drop zero xs = refl
take_and_drop (suc n) [] = refl
take_and_drop (suc n) (x ∷ xs) = ap (λ ys. x ∷ ys) (take_and_drop n xs)

pub parted : (n : ℕ) (rest slice later : List ℕ) → slice ≡ take n rest → later ≡ drop n rest → slice ++ later ≡ rest
parted n rest slice later f b = ap (λ xs. xs ++ later) f ∙ ap (λ xs. take n rest ++ xs) b ∙ take_and_drop n rest

pub if_ok : {T E : Type 0} (r : Result T E) (P Q : T → Type 0) → ((x : T) → P x → Q x) → IfOk r P → IfOk r Q
if_ok (Ok x) P Q f h = f x h
if_ok (Err e) P Q f h = tt

pub none_left : (xs : List ℕ) → (length xs == 0) ≡ true → xs ≡ []
none_left [] e = refl
none_left (x ∷ xs) e = absurd (let f = eqb-true (length (x ∷ xs)) 0 e in omega (arith, f))

-- there is room for the first of the bytes that are left
pub room_for_slice : (start reader : Option (List ℕ)) (way begin rest slice : List ℕ) (most : ℕ) → reader ≡ after start begin
    → way ≡ begin ++ rest → length slice ≤ length rest → IfSome start (λ before. length before + length way ≤ most)
    → IfSome reader (λ before. length before + length slice ≤ most)
room_for_slice start reader way begin rest slice most fed is l h =
    subst (λ o. IfSome o (λ before. length before + length slice ≤ most)) (sym fed) (by start h)
  where
    by : (o : Option (List ℕ)) → IfSome o (λ before. length before + length way ≤ most)
        → IfSome (after o begin) (λ before. length before + length slice ≤ most)
    by None h = tt
    by (Some before) h =
        let size = ap length is ∙ length-append begin rest in let more = length-append before begin in omega (arith, size, more, l, h)

pub longer_begin : (way begin rest slice later : List ℕ) → way ≡ begin ++ rest → slice ++ later ≡ rest → way ≡ (begin ++ slice) ++ later
longer_begin way begin rest slice later is cut = is ∙ ap (λ xs. begin ++ xs) (sym cut) ∙ sym (append_assoc begin slice later)

pub fed_longer : (start reader fed : Option (List ℕ)) (begin slice : List ℕ) → reader ≡ after start begin → fed ≡ after reader slice
    → fed ≡ after start (begin ++ slice)
fed_longer start reader fed begin slice is more = more ∙ ap (λ o. after o slice) is ∙ after_then start begin slice

-- what was fed so far, and one slice more of what is left
pub fed_slice : (start reader fed : Option (List ℕ)) (way rest slice later : List ℕ) (n : ℕ)
    → ((begin : List ℕ) × (way ≡ begin ++ rest) × (reader ≡ after start begin)) → slice ≡ take n rest → later ≡ drop n rest
    → fed ≡ after reader slice → (begin : List ℕ) × (way ≡ begin ++ later) × (fed ≡ after start begin)
fed_slice start reader fed way rest slice later n (begin, is, so_far) front back more = (
  begin ++ slice,
  longer_begin way begin rest slice later is (parted n rest slice later front back),
  fed_longer start reader fed begin slice so_far more,
)

-- what one choice more takes was fed, all of it or up to where that is enough
module _ (Enough : List ℕ → Type 0) (ps : List Part) (path : List ℕ) (i : ℕ) (is : IsPath ps path) (l : i < length path)
    (reader new : Option (List ℕ)) (bytes : List ℕ) (here : bytes ≡ way (get_or path i 0) (get_or ps i (Same [])))
    (fed : reader ≡ Some (prefix_of ps (take i path))) (past : Bool) (u : IsFedUntil Enough bytes reader new past) where
  pub fed_enough : past ≡ true → IsFedUntil Enough (prefix_of ps path) (Some []) new true
  fed_enough e = record {
    begin = prefix_of ps (take i path) ++ u.begin;
    rest = u.rest ++ prefix_of (drop (suc i) ps) (drop (suc i) path);
    way_is =
        let first = prefix_of ps (take i path) in
        let others = prefix_of (drop (suc i) ps) (drop (suc i) path) in
        prefix_and_rest ps path (suc i) is ∙ ap (λ xs. xs ++ others) (prefix_more ps path i is l ∙ ap (λ xs. first ++ xs) (sym here
        ∙ u.way_is))
        ∙ append_assoc first (u.begin ++ u.rest) others ∙ ap (λ xs. first ++ xs) (append_assoc u.begin u.rest others)
        ∙ sym (append_assoc first u.begin (u.rest ++ others));
    fed = u.fed ∙ ap (λ o. after o u.begin) fed;
    all = λ f. absurd cc;
    past_it = λ _. u.past_it e;
  }

  pub fed_all : past ≡ false → new ≡ Some (prefix_of ps (take (i + 1) path))
  fed_all e =
      let all : u.begin ≡ bytes = sym (u.way_is ∙ ap (λ xs. u.begin ++ xs) (u.all e) ∙ append-nil u.begin) in
      u.fed ∙ ap (after reader) all ∙ one_fed_on ps path i is l reader bytes here fed

-- all choices were fed, and nothing was enough
pub fed_whole : (Enough : List ℕ → Type 0) (ps : List Part) (path : List ℕ) (i : ℕ) (reader : Option (List ℕ)) → length path ≤ i
    → reader ≡ Some (prefix_of ps (take i path)) → IsFedUntil Enough (prefix_of ps path) (Some []) reader false
fed_whole Enough ps path i reader l fed = record {
  begin = prefix_of ps path;
  rest = [];
  way_is = sym (append-nil (prefix_of ps path));
  fed = fed ∙ ap (λ p. Some (prefix_of ps p)) (take_all i path l);
  all = λ _. refl;
  past_it = λ e. absurd cc;
}

-- a file of which the first bytes were fed to a reader, up to some that are enough, or all of them
module _ (Enough : List ℕ → Type 0) (file : List ℕ) (reader : Option (List ℕ)) (past : Bool)
    (u : IsFedUntil Enough file (Some []) reader past) where
  pub enough_here : past ≡ true → Enough u.begin
  enough_here e = subst (λ o. IfSome o Enough) u.fed (u.past_it e)

  pub all_here : past ≡ false → u.begin ≡ file
  all_here e = sym (u.way_is ∙ ap (λ xs. u.begin ++ xs) (u.all e) ∙ append-nil u.begin)

  pub fed_to_end : past ≡ false → reader ≡ Some file
  fed_to_end e = u.fed ∙ ap Some (all_here e)

-- nothing is enough
pub fed_never : (file : List ℕ) (reader : Option (List ℕ)) (past : Bool) → IsFedUntil (λ prefix. ⊥) file (Some []) reader past
    → reader ≡ Some file
fed_never file reader true u = absurd (enough_here (λ prefix. ⊥) file reader true u refl)
fed_never file reader false u = fed_to_end (λ prefix. ⊥) file reader false u refl

-- they are dead
pub dead_early : (Sought : List ℕ → Type 0) (file : List ℕ) (reader : Option (List ℕ)) (past : Bool)
    (u : IsFedUntil (IsDead Sought) file (Some []) reader past) → past ≡ true → IsDead Sought file
dead_early Sought file reader past u e =
    subst (IsDead Sought) (sym u.way_is) (dead_longer Sought u.begin u.rest (enough_here (IsDead Sought) file reader past u e))

-- a reader that was fed all of it, if there is one
pub fed_some : (ps : List Part) (path : List ℕ) (fed : Option (Option (List ℕ))) (reader : Option (List ℕ)) → fed ≡ Some reader
    → IfSome fed (λ r. r ≡ Some (prefix_of ps path)) → reader ≡ Some (prefix_of ps path)
fed_some ps path fed reader is h = subst (λ o. IfSome o (λ r. r ≡ Some (prefix_of ps path))) is h

pub fed_none : (ps : List Part) (path : List ℕ) (fed : Option (Option (List ℕ))) → fed ≡ None
    → IfNone fed (IsDead IsFaultless (prefix_of ps path))
    → IsDead IsFaultless (prefix_of ps path)
fed_none ps path fed is h = subst (λ o. IfNone o (IsDead IsFaultless (prefix_of ps path))) is h

-- What it tells ----------------------------------------------------------------------------------------------------

reaches_far : (from to : ℕ) (e : End) → from ≤ offset_of_end e → to ≤ offset_of_end e → Reaches from (Some to) e
reaches_far from to (Eoi offset) f t = f
reaches_far from to (Input offset) f t = f
reaches_far from to (Header fault offset) f t = t

each_of : (P : FoundPiece → Type 0) (ps : List FoundPiece) → ((p : FoundPiece) → Contains ps p → P p) → AllByRecursion P ps
each_of P [] h = tt
each_of P (p ∷ ps) h = (h p (is_first p ps), each_of P ps (λ q m. h q (in_rest q p ps m)))

-- the pieces between are those of the other course, and read as they do
each_between : (from to at : ℕ) (c d : Course) → to ≤ at → AreAlsoIn at d c
    → AllByRecursion (λ p. IsOffsetBetween from (Some to) p.offset → HasLines p) (pieces c)
    → AllByRecursion (λ p. IsOffsetBetween from (Some to) p.offset → HasLines p) (pieces d)
each_between from to at c d low also each =
    each_of (λ p. IsOffsetBetween from (Some to) p.offset → HasLines p) (pieces d) (λ q m here.
    let p = also q m (let l = here.1 in omega (arith, l, low)) in
    p.2.reads.1 (all_at (λ x. IsOffsetBetween from (Some to) x.offset → HasLines x) (pieces c) p.0 each p.1 (subst (IsOffsetBetween from
    (Some to)) p.2.offset here)))

module _ (law : PrefixesSettlePiecesUnder Wide) (some : SomeCourseUnder Wide) (from to at : ℕ) (from_low : from ≤ at) (to_low : to ≤ at)
    (file : List ℕ) (low : AllByRecursion (λ b. b < 256) file) where
  settled : (begin rest : List ℕ) → file ≡ begin ++ rest → IsPastUnder Wide at begin → (c d : Course)
      → IsCourseUnder Wide begin c → IsCourseUnder Wide file d → AgreeBefore at c d
  settled begin rest e past c d is_c is_d =
      law at begin rest (subst (AllByRecursion (λ b. b < 256)) e low) past c d is_c (subst (λ xs. IsCourseUnder Wide xs d) e is_d)

  reads_then : (begin rest : List ℕ) → file ≡ begin ++ rest → IsPastUnder Wide at begin → ReadsBetween from (Some to) begin
      → ReadsBetween from (Some to) file
  reads_then begin rest e past between =
      let d = some file low in
      let a = settled begin rest e past between.course d.0 between.is_course d.1 in
      let end = a.second_end in
      record {
        course = d.0;
        is_course = d.1;
        shape = a.second_framed.0;
        framed = a.second_framed.1;
        reaches = reaches_far from to d.0.end (omega (arith, from_low, end)) (omega (arith, to_low, end));
        each = each_between from to at between.course d.0 to_low a.second_in_first between.each;
      }

  reads_before : (begin rest : List ℕ) → file ≡ begin ++ rest → IsPastUnder Wide at begin → ReadsBetween from (Some to) file
      → ReadsBetween from (Some to) begin
  reads_before begin rest e past between =
      let a = settled begin rest e past past.course between.course past.is_course between.is_course in
      let end = a.first_end in
      record {
        course = past.course;
        is_course = past.is_course;
        shape = a.first_framed.0;
        framed = a.first_framed.1;
        reaches = reaches_far from to past.course.end (omega (arith, from_low, end)) (omega (arith, to_low, end));
        each = each_between from to at between.course past.course to_low a.first_in_second between.each;
      }

  module _ (reader : Option (List ℕ)) (past : Bool) (u : IsFedUntil (IsPastUnder Wide at) file (Some []) reader past) where
    begin_bytes : AllByRecursion (λ b. b < 256) u.begin
    begin_bytes = all_prefix (λ b. b < 256) u.begin u.rest (subst (AllByRecursion (λ b. b < 256)) u.way_is low)

    pub read_early : IfSome reader (λ begin. ReadsBetween from (Some to) begin) → ReadsBetween from (Some to) file
    read_early h =
        let begun : ReadsBetween from (Some to) u.begin = subst (λ o. IfSome o (λ begin. ReadsBetween from (Some to) begin)) u.fed h in
        elim (cases_Bool past) [
          | inl e ↦ reads_then u.begin u.rest u.way_is (enough_here (IsPastUnder Wide at) file reader past u e) begun
          | inr e ↦ subst (ReadsBetween from (Some to)) (all_here (IsPastUnder Wide at) file reader past u e) begun
        ]

    pub unread_early : IfSome reader (λ begin. AllByRecursion (λ b. b < 256) begin → ReadsBetween from (Some to) begin → ⊥)
        → ReadsBetween from (Some to) file → ⊥
    unread_early h between =
        let not : AllByRecursion (λ b. b < 256) u.begin → ReadsBetween from (Some to) u.begin → ⊥ =
        subst (λ o. IfSome o (λ begin. AllByRecursion (λ b. b < 256) begin → ReadsBetween from (Some to) begin → ⊥)) u.fed h in
        not begin_bytes (elim (cases_Bool past) [
          | inl e ↦ reads_before u.begin u.rest u.way_is (enough_here (IsPastUnder Wide at) file reader past u e) between
          | inr e ↦ subst (ReadsBetween from (Some to)) (sym (all_here (IsPastUnder Wide at) file reader past u e)) between
        ])
