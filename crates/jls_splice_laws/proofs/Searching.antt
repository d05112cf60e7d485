-- A search finds splices without a fault, and loses none of them.
use Rattle.std.proofs.Common.{◌≡◌, ℕ, ◌<◌, List, [], ◌∷◌, ◌++◌, map, length, Some, sym, ap, ◌∙◌, subst, append_assoc, inl, inr}
use Rattle.std.specs.List.{AllByRecursion, Contains, flat_map}
use Rattle.std.proofs.lemmas.List.{append-nil}
use Rattle.std.proofs.lemmas.List.Elements.{Contains-append_left, Contains-append_right, Contains-append_cases}
use Rattle.jls_marker.specs.declared.profile.Profile.TheVariants.{Wide}
use Rattle.jls_copy.specs.Course.{Course, IsCourseUnder}
use Rattle.jls_copy.specs.CopyLaws.{FinalEndsStayUnder}
use Rattle.jls_copy.specs.Prefixes.{PrefixesStayBrokenUnder}
use Rattle.jls_copy.specs.Pieces.{pieces}
use Rattle.jls_copy.proofs.OneCourse.{one_course}
use Rattle.jls_copy_laws.proofs.Members.{is_first, none_in, first_or_rest, all_at, all_append, all_weaker}
use Rattle.jls_values.proofs.Lists.{in_map, of_map, in_flat_map, of_flat_map}
use Rattle.jls_diff.specs.Parts.{Part, Same, Differ, HasWays, IsSplice, splices}
use Rattle.jls_diff.specs.SpliceLaws.{SplicesAreListed}
use Rattle.jls_copy.specs.Prefixes.{HasLines}
use Rattle.jls_search.specs.Faultless.{GivesEachLine, EndsWell, IsFaultless}
use Rattle.jls_splice_laws.specs.Searches.{CanBeGivenUp, broken, done, Searched, found, has_fault, along, no_way, last_way, way_again}
use Rattle.jls_splice_laws.specs.Searches.{given_up}
use Rattle.jls_splice_laws.specs.Searches.{SearchesFindSplices, SearchesLoseNothing}

-- the bytes of a way, and after them those of a splice of the parts after it
abbrev going_on : List Part → List ℕ → List (List ℕ)
going_on parts here = map (λ rest. here ++ rest) (splices parts)

-- what goes on by one of these ways goes on by one of more
by_more_ways : (parts : List Part) (ways : List (List ℕ)) (here bytes : List ℕ) → Contains (flat_map (going_on parts) ways) bytes
    → Contains (flat_map (going_on parts) (ways ++ here ∷ [])) bytes
by_more_ways parts ways here bytes c =
    let w = of_flat_map (going_on parts) ways bytes c in
    in_flat_map (going_on parts) (ways ++ here ∷ []) w.0 bytes (Contains-append_left ways (here ∷ []) w.0 w.1) w.2

-- What is found ----------------------------------------------------------------------------------------------------

-- a file without a fault that goes on from the start by a splice of the parts
abbrev GoesOn : List ℕ → List Part → List ℕ → Type 0
GoesOn prefix parts file = (rest : List ℕ) × (file ≡ prefix ++ rest) × Contains (splices parts) rest × IsFaultless file

by_more : (prefix here : List ℕ) (ways : List (List ℕ)) (parts : List Part) (files : List (List ℕ))
    → AllByRecursion (GoesOn prefix (Differ ways ∷ parts)) files
    → AllByRecursion (GoesOn prefix (Differ (ways ++ here ∷ []) ∷ parts)) files
by_more prefix here ways parts files h =
    all_weaker (GoesOn prefix (Differ ways ∷ parts)) (GoesOn prefix (Differ (ways ++ here ∷ []) ∷ parts)) files
    (λ file g. (g.0, g.1, by_more_ways parts ways here g.0 g.2, g.3)) h

all_go_on : (prefix : List ℕ) (parts : List Part) (files : List (List ℕ)) → Searched prefix parts files
    → AllByRecursion (GoesOn prefix parts) files
all_go_on _ _ _ (found file is) = (([], sym (append-nil file), is_first [] [], is), tt)
all_go_on _ _ _ (has_fault file not) = tt
all_go_on _ _ _ (along prefix bytes parts files s) =
    all_weaker (GoesOn (prefix ++ bytes) parts) (GoesOn prefix (Same bytes ∷ parts)) files
    (λ file g. (bytes ++ g.0, g.1 ∙ append_assoc prefix bytes g.0, in_map (λ rest. bytes ++ rest) (splices parts) g.0 g.2, g.3))
    (all_go_on (prefix ++ bytes) parts files s)
all_go_on _ _ _ (no_way prefix parts) = tt
all_go_on _ _ _ (last_way prefix here ways parts files more s t) =
    all_append (GoesOn prefix (Differ (ways ++ here ∷ []) ∷ parts)) files more
    (by_more prefix here ways parts files (all_go_on prefix (Differ ways ∷ parts) files s))
    (all_weaker (GoesOn (prefix ++ here) parts) (GoesOn prefix (Differ (ways ++ here ∷ []) ∷ parts)) more
    (λ file g. (
      here ++ g.0,
      g.1 ∙ append_assoc prefix here g.0,
      in_flat_map (going_on parts) (ways ++ here ∷ []) here (here ++ g.0) (Contains-append_right ways (here ∷ []) here (is_first here []))
          (in_map (λ rest. here ++ rest) (splices parts) g.0 g.2),
      g.3,
    )) (all_go_on (prefix ++ here) parts more t))
all_go_on _ _ _ (way_again prefix here ways parts files again s) =
    by_more prefix here ways parts files (all_go_on prefix (Differ ways ∷ parts) files s)
all_go_on _ _ _ (given_up prefix parts dead) = tt

pub searches_find_splices : SplicesAreListed → SearchesFindSplices
searches_find_splices listed copies parts are some files s =
    all_weaker (GoesOn [] parts) (λ file. IsSplice (length copies) parts file × IsFaultless file) files
    (λ file g. ((listed copies parts are some file).1 (subst (Contains (splices parts)) (sym g.1) g.2), g.3)) (all_go_on [] parts files s)

-- What is lost -----------------------------------------------------------------------------------------------------

-- a list of bytes without a fault
abbrev IsSound : List ℕ → Type 0
IsSound file = AllByRecursion (λ b. b < 256) file × IsFaultless file

-- what is found after a way is found after the prefix
following : (prefix here : List ℕ) (parts : List Part) (files : List (List ℕ))
    → ((rest : List ℕ) → Contains (splices parts) rest → IsSound ((prefix ++ here) ++ rest) → Contains files ((prefix ++ here) ++ rest))
    → (bytes : List ℕ) → Contains (going_on parts here) bytes → IsSound (prefix ++ bytes) → Contains files (prefix ++ bytes)
following prefix here parts files finds bytes c h =
    let r = of_map (λ rest. here ++ rest) (splices parts) bytes c in
    let e : prefix ++ bytes ≡ (prefix ++ here) ++ r.0 = ap (λ b. prefix ++ b) (sym r.2) ∙ sym (append_assoc prefix here r.0) in
    subst (Contains files) (sym e) (finds r.0 r.1 (subst IsSound e h))

module _ (stay : PrefixesStayBrokenUnder Wide) (ends_stay : FinalEndsStayUnder Wide) where
  never_sound : (prefix more : List ℕ) → CanBeGivenUp prefix → IsSound (prefix ++ more) → ⊥
  never_sound _ more (broken prefix is) sound =
      let f = sound.1 in
      let p = stay prefix more sound.0 is f.course f.is_course in
      let reads = all_at HasLines (pieces f.course) p.0 f.each p.1 in
      p.5 reads.0 reads.1
  never_sound _ more (done prefix is not) sound =
      let f = sound.1 in
      let longer : IsCourseUnder Wide (prefix ++ more) is.0 = ends_stay prefix more is.0 is.1 (sym is.2) in
      let e : f.course ≡ is.0 = one_course (prefix ++ more) f.course is.0 f.is_course longer in
      not
      (record {
        course = is.0;
        is_course = is.1;
        shape = f.shape;
        framed = subst (λ (c : Course). c.headers.frame ≡ Some f.shape) e f.framed;
        ends = subst (λ (c : Course). EndsWell c.end) e f.ends;
        each = subst (λ (c : Course). AllByRecursion HasLines (pieces c)) e f.each;
        whole = subst (GivesEachLine f.shape) e f.whole;
      })

  is_found : (prefix : List ℕ) (parts : List Part) (files : List (List ℕ)) → Searched prefix parts files → (bytes : List ℕ)
      → Contains (splices parts) bytes → IsSound (prefix ++ bytes) → Contains files (prefix ++ bytes)
  is_found _ _ _ (found file is) bytes c h =
      elim (first_or_rest bytes [] [] c) [
        | inl e ↦ subst (λ b. Contains (file ∷ []) (file ++ b)) e (subst (Contains (file ∷ [])) (sym (append-nil file)) (is_first file []))
        | inr later ↦ absurd (none_in bytes later)
      ]
  is_found _ _ _ (has_fault file not) bytes c h =
      elim (first_or_rest bytes [] [] c) [
        | inl e ↦ absurd (not (subst IsFaultless (append-nil file) (subst (λ b. IsFaultless (file ++ b)) (sym e) h.1)))
        | inr later ↦ absurd (none_in bytes later)
      ]
  is_found _ _ _ (along prefix here parts files s) bytes c h =
      following prefix here parts files (λ rest m sound. is_found (prefix ++ here) parts files s rest m sound) bytes c h
  is_found _ _ _ (no_way prefix parts) bytes c h = absurd (none_in bytes c)
  is_found _ _ _ (last_way prefix here ways parts files more s t) bytes c h =
      let w = of_flat_map (going_on parts) (ways ++ here ∷ []) bytes c in
      elim (Contains-append_cases ways (here ∷ []) w.0 w.1) [
        | inl before ↦
            Contains-append_left files more (prefix ++ bytes)
            (is_found prefix (Differ ways ∷ parts) files s bytes (in_flat_map (going_on parts) ways w.0 bytes before w.2) h)
        | inr last ↦ elim (first_or_rest w.0 here [] last) [
          | inl e ↦
              Contains-append_right files more (prefix ++ bytes)
              (following prefix here parts more (λ rest m sound. is_found (prefix ++ here) parts more t rest m sound) bytes
              (subst (λ way. Contains (going_on parts way) bytes) (sym e) w.2) h)
          | inr later ↦ absurd (none_in w.0 later)
        ]
      ]
  is_found _ _ _ (way_again prefix here ways parts files again s) bytes c h =
      let w = of_flat_map (going_on parts) (ways ++ here ∷ []) bytes c in
      let before : Contains ways w.0 =
      elim (Contains-append_cases ways (here ∷ []) w.0 w.1) [
        | inl before ↦ before
        | inr last ↦
            elim (first_or_rest w.0 here [] last) [ inl e ↦ subst (Contains ways) e again | inr later ↦ absurd (none_in w.0 later) ]
      ] in
      is_found prefix (Differ ways ∷ parts) files s bytes (in_flat_map (going_on parts) ways w.0 bytes before w.2) h
  is_found _ _ _ (given_up prefix parts dead) bytes c h = absurd (never_sound prefix bytes dead h)

-- parts tell of how many copies they are, but where all have them alike
of_other_count : (n m : ℕ) (parts : List Part) (bytes : List ℕ) → 0 < m → AllByRecursion (HasWays n) parts
    → AllByRecursion (HasWays m) parts
    → IsSplice n parts bytes → IsSplice m parts bytes
of_other_count n m [] bytes some h k is = is
of_other_count n m (Same b ∷ parts) bytes some h k (j, l, rest, e, more) =
    (0, some, rest, e, of_other_count n m parts rest some h.1 k.1 more)
of_other_count n m (Differ ws ∷ parts) bytes some h k (j, l, rest, e, more) =
    (j, subst (λ c. j < c) (sym h.0 ∙ k.0) l, rest, e, of_other_count n m parts rest some h.1 k.1 more)

pub searches_lose_nothing : SplicesAreListed → PrefixesStayBrokenUnder Wide → FinalEndsStayUnder Wide → SearchesLoseNothing
searches_lose_nothing listed stay ends_stay copies parts are some files s count any ways bytes low is faultless =
    let here = of_other_count count (length copies) parts bytes some ways are.ways is in
    is_found stay ends_stay [] parts files s bytes ((listed copies parts are some bytes).0 here) (low, faultless)
