-- What several calls come to, and what calls and a run of `jls-salvage join` come to over the same bytes.
use Rattle.std.proofs.Common.{◌≡◌, ℕ, zero, suc, true, false, List, [], ◌∷◌, ◌++◌, length, take, drop, Option, Some, refl, sym}
use Rattle.std.proofs.Common.{ap, ◌∙◌}
use Rattle.std.proofs.Common.{subst, arith, inl, inr}
use Rattle.std.specs.List.{AllByRecursion}
use Rattle.std.specs.Prelude.{Contains}
use Rattle.std.proofs.lemmas.List.{take_at}
use Rattle.jls_values.specs.Join.{join_all, AllOfShape}
use Rattle.jls_values.specs.SameShape.{same_shape}
use Rattle.jls_values.proofs.Joins.{same_lists, moved}
use Rattle.jls_values.proofs.Lists.{all_at}
use Rattle.jls_values.specs.Shape.{PictureShape}
use Rattle.jls_partial.specs.Partial.{PartialPicture, has_same_shape, union, with_source}
use Rattle.jls_partial.specs.PartialLaws.{partial_laws, shape_itself}
use Rattle.jls_partial.specs.Text.{text, IsTextOf}
use Rattle.jls_partial.specs.declared.version.Version.TheVariants.{Two}
use Rattle.jls_partial.proofs.Parts.{shape_of_join}
use Rattle.jls_partial.proofs.TextLaws.{one_text, read_again}
use Rattle.jls_copy.specs.Course.{Course, IsCourse, with_soi, with_another_marker, with_no_marker, with_fill_alone}
use Rattle.jls_copy.specs.CopyReads.{CopyReads}
use Rattle.jls_copy.specs.ReadCopy.{ReadCopy}
use Rattle.jls_copy.proofs.BytesDecide.{bytes_decide}
use Rattle.jls_copy.proofs.FinalEnds.{final_ends_stay}
use Rattle.jls_copy.proofs.OneCourse.{one_course}
use Rattle.jls_marker.specs.SegmentLaws.{AreBytes}
use Rattle.jls_io.specs.Event.{Event}
use Rattle.jls_station.specs.Given.{Given, given_by_text, given_by_copy, Gives, by_text, by_copy, GivesPartial}
use Rattle.jls_station.specs.Texts.{is_text}
use Rattle.jls_station.specs.declared.input.ReadStop.TheVariants.{Whole}
use Rattle.jls_station.proofs.TextsApart.{text_begins, no_text, filled_is_no_text}
use Rattle.jls_salvage_run.specs.AllInputs.{partials, AreOfOneShape, IsUnionOf}
use Rattle.jls_salvage_run.specs.CommandLaws.{HaveSameMembers, input_bytes, output_bytes}
use Rattle.jls_salvage_run.proofs.InputBytes.{AreGiven, bytes_of_join}
use Rattle.jls_c.specs.CallLaws.{JoinCall, bytes_written, RunIsDone, IsReadOf, CallsJoinInAnyOrder, CallsAndRunsJoinAlike}
use Rattle.jls_c.specs.CallLaws.{CallsAndRunsReadAlike}
use Rattle.jls_c.specs.CallLaws.{CallsReadWhatCallsWrote, MadeByCalls, as_given, of_copy, of_two, ManyCallsAndRunsJoinAlike}
use Rattle.jls_c.specs.CallLaws.{ManyCallsJoinAlike}
use Rattle.jls_c.specs.Info.{info_of, info_of_partial, with_bytes}
use Rattle.jls_c.specs.PartialAnswers.{IsTextPut, HasNoPartial}
use Rattle.jls_c.specs.declared.info.JlsInfo.{JlsInfo}

-- What was written -----------------------------------------------------------------------------------------------

text_written : (p : PartialPicture) (reported info : JlsInfo) (old new : List ℕ) → IsTextPut p reported info old new
    → bytes_written info new ≡ text p
text_written p reported info old new put =
    ap (λ (i : JlsInfo). take i.bytes new) put.info_is ∙ ap (take (length (text p))) put.bytes_are
    ∙ take_at (text p) (drop (length (text p)) old) (length (text p)) refl

-- it is a text of the partial picture
text_is : (p : PartialPicture) (reported info : JlsInfo) (old new : List ℕ) → IsTextPut p reported info old new
    → IsTextOf (bytes_written info new) p
text_is p reported info old new put =
    record { partial = put.is_partial; version = Two; says_all = tt; bytes_are = text_written p reported info old new put }

-- Two calls ------------------------------------------------------------------------------------------------------

pub calls_join_in_any_order : CallsJoinInAnyOrder
calls_join_in_any_order call again e f =
    let one = call.joined in
    let other = again.joined in
    let first : other.p ≡ one.q =
    one_text again.first other.p one.q other.texts.first_is (subst (λ b. IsTextOf b one.q) (sym e) one.texts.second_is) in
    let second : other.q ≡ one.p =
    one_text again.second other.q one.p other.texts.second_is (subst (λ b. IsTextOf b one.p) (sym f) one.texts.first_is) in
    let same : union other.p other.q ≡ union one.p one.q =
    ap (λ (p : PartialPicture). union p other.q) first ∙ ap (union one.q) second
    ∙ sym (partial_laws.commutative one.p one.q one.texts.one_shape) in (
      text_written (union other.p other.q) (info_of_partial (union other.p other.q)) again.info again.old again.new other.put ∙ ap text same
          ∙ sym (text_written (union one.p one.q) (info_of_partial (union one.p one.q)) call.info call.old call.new one.put),
      other.put.info_is ∙ ap (λ (p : PartialPicture). with_bytes (info_of_partial p) (length (text p))) same ∙ sym one.put.info_is,
    )

-- What an input gives --------------------------------------------------------------------------------------------

framed_is_no_text : (bytes : List ℕ) (c : Course) (shape : PictureShape) → IsCourse bytes c → c.headers.frame ≡ Some shape
    → is_text bytes ≡ false
framed_is_no_text _ _ shape (with_soi n bytes units final e are) framed = filled_is_no_text n bytes
framed_is_no_text _ _ shape (with_another_marker n code bytes other soi) framed = absurd cc
framed_is_no_text _ _ shape (with_no_marker b bytes other) framed = absurd cc
framed_is_no_text _ _ shape (with_fill_alone n) framed = absurd cc

copy_is_no_text : (bytes : List ℕ) (read : ReadCopy) → CopyReads bytes read → is_text bytes ≡ false
copy_is_no_text bytes read reads = framed_is_no_text bytes reads.course reads.shape reads.is_course reads.framed

-- the front of a copy after which no byte more changes what it gives reads as the copy
front_reads : (bytes copy : List ℕ) (read : ReadCopy) → IsReadOf bytes copy → CopyReads copy read → CopyReads bytes read
front_reads bytes copy read (inl e) reads = subst (λ b. CopyReads b read) (sym e) reads
front_reads bytes copy read (inr (is_done, more, e)) reads =
    let there : IsCourse copy is_done.0 =
    subst (λ b. IsCourse b is_done.0) (sym e) (final_ends_stay bytes more is_done.0 is_done.1 (sym is_done.2)) in
    let same : is_done.0 ≡ reads.course = one_course copy is_done.0 reads.course there reads.is_course in
    record {
      course = reads.course;
      is_course = subst (IsCourse bytes) same is_done.1;
      shape = reads.shape;
      framed = reads.framed;
      outcomes = reads.outcomes;
      each = reads.each;
      head = reads.head;
      head_is = reads.head_is;
      partial_is = reads.partial_is;
      pieces_are = reads.pieces_are;
      count_is = reads.count_is;
      ended_is = reads.ended_is;
    }

-- bytes give this partial picture and no other
abbrev Decides : Option ℕ → List ℕ → PartialPicture → Type 0
Decides source bytes p = (g : Given) → AreBytes bytes → Gives source bytes g → g.partial ≡ p

text_decides : (source : Option ℕ) (bytes : List ℕ) (p : PartialPicture) → IsTextOf bytes p → Decides source bytes p
text_decides source bytes p is _ low (by_text _ _ q is') = one_text bytes q p is' is
text_decides source bytes p is _ low (by_copy _ _ read stop copied reads) = no_text bytes copied (text_begins bytes p is)

copy_decides : (source : ℕ) (bytes copy : List ℕ) (read : ReadCopy) → IsReadOf bytes copy → CopyReads copy read
    → Decides (Some source) bytes (with_source read.partial source)
copy_decides source bytes copy read read_of reads _ low (by_text _ _ q is) =
    no_text bytes (copy_is_no_text bytes read (front_reads bytes copy read read_of reads)) (text_begins bytes q is)
copy_decides source bytes copy read read_of reads _ low (by_copy _ _ again stop copied reads') =
    ap (λ (r : ReadCopy). with_source r.partial source)
    ((bytes_decide bytes low).one_reading again read reads' (front_reads bytes copy read read_of reads))

-- they give it
abbrev Only : Option ℕ → List ℕ → PartialPicture → Type 0
Only source bytes p = GivesPartial source bytes p × Decides source bytes p

text_only : (source : Option ℕ) (bytes : List ℕ) (p : PartialPicture) → IsTextOf bytes p → Only source bytes p
text_only source bytes p is = ((given_by_text p, by_text source bytes p is, refl), text_decides source bytes p is)

copy_only : (source : ℕ) (bytes copy : List ℕ) (read : ReadCopy) → IsReadOf bytes copy → CopyReads copy read
    → Only (Some source) bytes (with_source read.partial source)
copy_only source bytes copy read read_of reads =
    let there = front_reads bytes copy read read_of reads in (
      (
        given_by_copy (Some source) bytes read Whole,
        by_copy (Some source) bytes read Whole (copy_is_no_text bytes read there) there,
        refl,
      ),
      copy_decides source bytes copy read read_of reads,
    )

-- Lists side by side ---------------------------------------------------------------------------------------------

module _ {X Y : Type 0} (P : X → Y → Type 0) where
  -- the lists are as long, and at each place this holds
  abbrev Each : List X → List Y → Type 0
  Each [] [] = Unit {0}
  Each (x ∷ xs) (y ∷ ys) = P x y × Each xs ys
  Each _ _ = ⊥

  -- beside a member of one stands a member of the other
  beside_second : (xs : List X) (ys : List Y) (y : Y) → Each xs ys → Contains ys y → (x : X) × Contains xs x × P x y
  beside_second [] [] y h (k, lt, e) = absurd (omega (arith, lt))
  beside_second [] (z ∷ ys) y h c = absurd h
  beside_second (x ∷ xs) [] y h c = absurd h
  beside_second (x ∷ xs) (z ∷ ys) y h (zero, lt, e) = (x, (0, omega arith, refl), subst (P x) e h.0)
  beside_second (x ∷ xs) (z ∷ ys) y h (suc k, lt, e) =
      let m = beside_second xs ys y h.1 (k, omega (arith, lt), e) in (m.0, (suc m.1.0, omega (arith, m.1.1), m.1.2), m.2)

  beside_first : (xs : List X) (ys : List Y) (x : X) → Each xs ys → Contains xs x → (y : Y) × Contains ys y × P x y
  beside_first [] [] x h (k, lt, e) = absurd (omega (arith, lt))
  beside_first [] (y ∷ ys) x h c = absurd h
  beside_first (z ∷ xs) [] x h c = absurd h
  beside_first (z ∷ xs) (y ∷ ys) x h (zero, lt, e) = (y, (0, omega arith, refl), subst (λ w. P w y) e h.0)
  beside_first (z ∷ xs) (y ∷ ys) x h (suc k, lt, e) =
      let m = beside_first xs ys x h.1 (k, omega (arith, lt), e) in (m.0, (suc m.1.0, omega (arith, m.1.1), m.1.2), m.2)

each_append : {X Y : Type 0} (P : X → Y → Type 0) (xs : List X) (ys : List Y) (us : List X) (vs : List Y) → Each P xs ys → Each P us vs
    → Each P (xs ++ us) (ys ++ vs)
each_append P [] [] us vs h k = k
each_append P [] (y ∷ ys) us vs h k = absurd h
each_append P (x ∷ xs) [] us vs h k = absurd h
each_append P (x ∷ xs) (y ∷ ys) us vs h k = (h.0, each_append P xs ys us vs h.1 k)

-- What a run hands out -------------------------------------------------------------------------------------------

abbrev GivesBytes : Option ℕ → List ℕ → PartialPicture → Type 0
GivesBytes source bytes p = AreBytes bytes × GivesPartial source bytes p

each_given : (source : Option ℕ) (inputs : List (List ℕ)) (ps : List PartialPicture) → AreGiven source inputs ps
    → Each (GivesBytes source) inputs ps
each_given source [] [] h = tt
each_given source [] (p ∷ ps) h = absurd h
each_given source (bytes ∷ inputs) [] h = absurd h
each_given source (bytes ∷ inputs) (p ∷ ps) h = ((h.0, h.1), each_given source inputs ps h.2)

one_given : (source : Option ℕ) (bytes : List ℕ) (p q : PartialPicture) → GivesBytes source bytes p → Only source bytes q → p ≡ q
one_given source bytes p q h only = sym h.1.2 ∙ only.1 h.1.0 h.0 h.1.1

-- lists of partial pictures with the same members have the same union
one_union : (ps qs : List PartialPicture) (p q : PartialPicture) → AreOfOneShape ps → AreOfOneShape qs → IsUnionOf ps p → IsUnionOf qs q
    → ((z : PartialPicture) → Contains ps z → Contains qs z) → ((z : PartialPicture) → Contains qs z → Contains ps z) → p ≡ q
one_union [] qs p q a b u v there back = absurd u
one_union (x ∷ xs) [] p q a b u v there back = absurd v
one_union (x ∷ xs) (y ∷ ys) p q a b u v there back = u ∙ same_lists partial_laws x xs y ys a b there back ∙ sym v

-- a run of `join` hands out the text of the union of what its inputs must give
union_handed_out : (source : Option ℕ) (events : List Event) → RunIsDone source events
    → (inputs : List (List ℕ)) → HaveSameMembers (input_bytes events) inputs
    → (ps : List PartialPicture) → Each (Only source) inputs ps → AreOfOneShape ps → (p : PartialPicture) → IsUnionOf ps p
    → output_bytes events ≡ text p ∷ []
union_handed_out source events run inputs same ps decide shapes p u =
    let taken = run.is_done.taken in
    let own = partials taken.givens in
    let bytes = bytes_of_join source run.out run.names run.joined run.settled run.whole events run.is_done in
    let given = each_given source (input_bytes events) own bytes.0 in
    bytes.1 ∙ ap (λ (z : PartialPicture). text z ∷ []) (one_union own ps run.joined p taken.taken.one_shape shapes taken.union_is u
    (λ z c.
    let m = beside_second (GivesBytes source) (input_bytes events) own z given c in
    let k = beside_first (Only source) inputs ps m.0 decide ((same m.0).0 m.1) in
    subst (Contains ps) (sym (one_given source m.0 z k.0 m.2 k.2)) k.1)
    (λ z c.
    let k = beside_second (Only source) inputs ps z decide c in
    let m = beside_first (GivesBytes source) (input_bytes events) own k.0 given ((same k.0).1 k.1) in
    subst (Contains own) (one_given source k.0 m.0 z m.2 k.2) m.1))

-- The laws -------------------------------------------------------------------------------------------------------

pub calls_and_runs_join_alike : CallsAndRunsJoinAlike
calls_and_runs_join_alike call source events run same =
    let one = call.joined in
    union_handed_out source events run (call.first ∷ call.second ∷ []) same (one.p ∷ one.q ∷ [])
    (text_only source call.first one.p one.texts.first_is, (text_only source call.second one.q one.texts.second_is, tt))
    (one.texts.one_shape, tt) (union one.p one.q) refl
    ∙ ap (λ bytes. bytes ∷ [])
    (sym (text_written (union one.p one.q) (info_of_partial (union one.p one.q)) call.info call.old call.new one.put))

pub calls_and_runs_read_alike : CallsAndRunsReadAlike
calls_and_runs_read_alike call events run bytes e read_of =
    let made = call.made in
    let p = with_source made.read.partial call.source in
    union_handed_out (Some call.source) events run (bytes ∷ [])
    (subst (λ inputs. HaveSameMembers inputs (bytes ∷ [])) (sym e) (λ b. (λ c. c, λ c. c)))
    (p ∷ []) (copy_only call.source bytes call.copy made.read read_of made.reads, tt) tt p refl
    ∙ ap (λ written. written ∷ []) (sym (text_written p (info_of made.read) call.info call.old call.new made.put))

-- Any number of calls --------------------------------------------------------------------------------------------

not_refused : (bytes : List ℕ) (p : PartialPicture) (info : JlsInfo) → IsTextOf bytes p → HasNoPartial bytes info → ⊥
not_refused bytes p info is none = (let e = sym (read_again bytes p is) ∙ none.found in cc)

pub calls_read_what_calls_wrote : CallsReadWhatCallsWrote
calls_read_what_calls_wrote = (
  λ profile call info none. let p = with_source call.made.read.partial call.source in
      not_refused (bytes_written call.info call.new) p info
      (text_is p (info_of call.made.read) call.info call.old call.new call.made.put) none,
  λ call info none. let p = union call.joined.p call.joined.q in
      not_refused (bytes_written call.info call.new) p info
      (text_is p (info_of_partial p) call.info call.old call.new call.joined.put) none,
)

-- joining one after the other is joining what the later ones are joined to
join_later : (x y : PartialPicture) (ys : List PartialPicture) → has_same_shape x y ≡ true → AllOfShape has_same_shape y ys
    → join_all union (union x y) ys ≡ union x (join_all union y ys)
join_later x y [] f g = refl
join_later x y (z ∷ zs) f g =
    ap (λ (w : PartialPicture). join_all union w zs) (partial_laws.associative x y z f g.0)
    ∙ join_later x (union y z) zs f (moved partial_laws y (union y z) zs (shape_itself y.shape) g.1)

join_lists : (x : PartialPicture) (xs : List PartialPicture) (y : PartialPicture) (ys : List PartialPicture)
    → AllOfShape has_same_shape x xs → has_same_shape x y ≡ true → AllOfShape has_same_shape y ys
    → join_all union x (xs ++ y ∷ ys) ≡ union (join_all union x xs) (join_all union y ys)
join_lists x [] y ys h f g = join_later x y ys f g
join_lists x (w ∷ ws) y ys h f g = join_lists (union x w) ws y ys (moved partial_laws x (union x w) ws (shape_itself x.shape) h.1) f g

shapes_of_lists : (x : PartialPicture) (xs : List PartialPicture) (y : PartialPicture) (ys : List PartialPicture)
    → AllOfShape has_same_shape x xs → has_same_shape x y ≡ true → AllOfShape has_same_shape y ys
    → AllOfShape has_same_shape x (xs ++ y ∷ ys)
shapes_of_lists x [] y ys h f g = (f, moved partial_laws y x ys f g)
shapes_of_lists x (w ∷ ws) y ys h f g = (h.0, shapes_of_lists x ws y ys h.1 f g)

union_of_lists : (ps qs : List PartialPicture) (p q : PartialPicture) → AreOfOneShape ps → AreOfOneShape qs → IsUnionOf ps p
    → IsUnionOf qs q → has_same_shape p q ≡ true → AreOfOneShape (ps ++ qs) × IsUnionOf (ps ++ qs) (union p q)
union_of_lists [] qs p q a b u v f = absurd u
union_of_lists (x ∷ xs) [] p q a b u v f = absurd v
union_of_lists (x ∷ xs) (y ∷ ys) p q a b u v f =
    let first : p.shape ≡ x.shape = ap (λ (z : PartialPicture). z.shape) u ∙ shape_of_join x xs in
    let second : q.shape ≡ y.shape = ap (λ (z : PartialPicture). z.shape) v ∙ shape_of_join y ys in
    let g : has_same_shape x y ≡ true =
    subst (λ (s : PictureShape). same_shape x.shape s ≡ true) second (subst (λ (s : PictureShape). same_shape s q.shape ≡ true) first f) in (
      shapes_of_lists x xs y ys a g b,
      (λ i. union (u i) (v i)) ∙ sym (join_lists x xs y ys a g b),
    )

-- what calls made is the union of what the inputs must give
record IsMadeOf (source : Option ℕ) (inputs : List (List ℕ)) (p : PartialPicture) : Type 0 where
  ps : List PartialPicture
  decide : Each (Only source) inputs ps
  shapes : AreOfOneShape ps
  union_is : IsUnionOf ps p

made_of_both : (source : Option ℕ) (inputs others : List (List ℕ)) (p q : PartialPicture) → IsMadeOf source inputs p
    → IsMadeOf source others q → has_same_shape p q ≡ true → IsMadeOf source (inputs ++ others) (union p q)
made_of_both source inputs others p q a b f =
    let both = union_of_lists a.ps b.ps p q a.shapes b.shapes a.union_is b.union_is f in
    record {
      ps = a.ps ++ b.ps;
      decide = each_append (Only source) inputs a.ps others b.ps a.decide b.decide;
      shapes = both.0;
      union_is = both.1;
    }

made_of : (source : Option ℕ) (inputs : List (List ℕ)) (bytes : List ℕ) (p : PartialPicture) → MadeByCalls source inputs bytes
    → IsTextOf bytes p → IsMadeOf source inputs p
made_of source _ _ p (as_given written) is =
    record { ps = p ∷ []; decide = (text_only source written p is, tt); shapes = tt; union_is = refl }
made_of source _ _ p (of_copy call bytes e read_of) is =
    let made = call.made in
    let q = with_source made.read.partial call.source in
    record {
      ps = q ∷ [];
      decide = (subst (λ s. Only s bytes q) (sym e) (copy_only call.source bytes call.copy made.read read_of made.reads), tt);
      shapes = tt;
      union_is = one_text (bytes_written call.info call.new) p q is (text_is q (info_of made.read) call.info call.old call.new made.put);
    }
made_of source _ _ p (of_two call inputs others a b) is =
    let one = call.joined in
    let q = union one.p one.q in
    let first = made_of source inputs call.first one.p a one.texts.first_is in
    let second = made_of source others call.second one.q b one.texts.second_is in
    let written = text_is q (info_of_partial q) call.info call.old call.new one.put in
    subst (IsMadeOf source (inputs ++ others)) (one_text (bytes_written call.info call.new) q p written is)
    (made_of_both source inputs others one.p one.q first second one.texts.one_shape)

-- what a call of `jls_join` wrote is the union of what the inputs must give that it was made of
made_by : (source : Option ℕ) (inputs : List (List ℕ)) (call : JoinCall) → MadeByCalls source inputs (bytes_written call.info call.new)
    → IsMadeOf source inputs (union call.joined.p call.joined.q)
made_by source inputs call made =
    let p = union call.joined.p call.joined.q in
    made_of source inputs (bytes_written call.info call.new) p made
    (text_is p (info_of_partial p) call.info call.old call.new call.joined.put)

pub many_calls_and_runs_join_alike : ManyCallsAndRunsJoinAlike
many_calls_and_runs_join_alike source inputs call made events run same =
    let p = union call.joined.p call.joined.q in
    let is = made_by source inputs call made in
    union_handed_out source events run inputs same is.ps is.decide is.shapes p is.union_is
    ∙ ap (λ bytes. bytes ∷ []) (sym (text_written p (info_of_partial p) call.info call.old call.new call.joined.put))

-- two that were made of the same inputs are one
one_made : (source : Option ℕ) (inputs others : List (List ℕ)) (p q : PartialPicture) → AllByRecursion AreBytes inputs
    → HaveSameMembers inputs others → IsMadeOf source inputs p → IsMadeOf source others q → p ≡ q
one_made source inputs others p q low same a b =
    one_union a.ps b.ps p q a.shapes b.shapes a.union_is b.union_is
    (λ z c.
    let m = beside_second (Only source) inputs a.ps z a.decide c in
    let k = beside_first (Only source) others b.ps m.0 b.decide ((same m.0).0 m.1) in
    subst (Contains b.ps) (sym (one_given source m.0 z k.0 (all_at AreBytes inputs m.0 low m.1, m.2.0) k.2)) k.1)
    (λ z c.
    let k = beside_second (Only source) others b.ps z b.decide c in
    let there = (same k.0).1 k.1 in
    let m = beside_first (Only source) inputs a.ps k.0 a.decide there in
    subst (Contains a.ps) (one_given source k.0 m.0 z (all_at AreBytes inputs k.0 low there, m.2.0) k.2) m.1)

pub many_calls_join_alike : ManyCallsJoinAlike
many_calls_join_alike source inputs others low same call again made made' =
    let p = union call.joined.p call.joined.q in
    let q = union again.joined.p again.joined.q in
    let one : p ≡ q = one_made source inputs others p q low same (made_by source inputs call made) (made_by source others again made') in (
      text_written q (info_of_partial q) again.info again.old again.new again.joined.put ∙ ap text (sym one)
          ∙ sym (text_written p (info_of_partial p) call.info call.old call.new call.joined.put),
      again.joined.put.info_is ∙ ap (λ (r : PartialPicture). with_bytes (info_of_partial r) (length (text r))) (sym one)
          ∙ sym call.joined.put.info_is,
    )
