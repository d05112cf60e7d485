-- A text that is cut short: the readings that stand in it are those of its partial picture.
use Rattle.std.proofs.Common.{◌≡◌, ℕ, zero, suc, ◌≤◌, Bool, true, false, cond, ltb, eqb, List, [], ◌∷◌, ◌++◌, map, length, take, drop}
use Rattle.std.proofs.Common.{Option, Some, None, Result, Ok, Err, refl, sym, subst, ◌∙◌, arith, length-append, inl, inr}
use Rattle.std.specs.Int.{Width, w16, w32, w64, byte_len, from_be_bytes}
use Rattle.std.specs.List.{Contains}
use Rattle.std.proofs.lemmas.Bool.{cases_Bool, ltb-false, le-ltb, or_left, or_right}
use Rattle.std.proofs.lemmas.List.{take-append-le, drop-append-le, append-nil}
use Rattle.std.proofs.lemmas.List.Elements.{Contains-append_left, Contains-append_right, Contains-append_cases}
use Rattle.jls_values.specs.OrderedSet as set
use Rattle.jls_values.specs.OrderedSetLaws.{contains-empty, contains-union, contains-insert_all}
use Rattle.jls_values.specs.Shape.{PictureShape}
use Rattle.jls_values.specs.ShapeOf.{size_fault, shape_of}
use Rattle.jls_values.proofs.Tests.{either}
use Rattle.jls_partial.specs.declared.line_place.LinePlace.{LinePlace}
use Rattle.jls_partial.specs.declared.text_fault.TextFault.{TextFault}
use Rattle.jls_partial.specs.declared.text_fault.TextFault.TheVariants as fault
use Rattle.jls_partial.specs.declared.version.Version.{Version}
use Rattle.jls_partial.specs.declared.version.Version.TheVariants.{One, Two}
use Rattle.jls_partial.specs.Entries.{kept_at_place}
use Rattle.jls_partial.specs.Marks.{mark_cmp, marks_of}
use Rattle.jls_partial.specs.Partial.{PartialPicture, nothing_known, union, with_all}
use Rattle.jls_partial.specs.Reading.{Reading, reading_cmp}
use Rattle.jls_partial.specs.ReadingOrder.{reading_total, reading_exact, marks_total, marks_exact}
use Rattle.jls_partial.specs.Text.{IsTextOf, magic}
use Rattle.jls_partial.specs.TextPrefix.{unless_fault, readings_prefix, entry_prefix, entries_prefix, text_prefix}
use Rattle.jls_partial.specs.TextInto.{head_fields}
use Rattle.jls_partial.specs.TextReading.{◌>>=◌, offset, byte_field, bytes_field, number_field, magic_field, version_field}
use Rattle.jls_partial.specs.TextReading.{unless_bad_shape, shape_or_fault, shape_fields, sample_field, samples_fields, is_above}
use Rattle.jls_partial.specs.TextReading.{reading_fields, is_source_above, source_field, sources_fields, own_sources_fields, kept_fields}
use Rattle.jls_partial.specs.TextReading.{readings_fields, place_fields, count_field, entry_fields}
use Rattle.jls_partial.proofs.TextMerges.{text_between}
use Rattle.jls_partial.proofs.HeldItems.{any_of_item}
use Rattle.jls_copy_laws.proofs.Members.{in_rest, none_in, first_or_rest, in_map, of_map, all_from}
use Rattle.jls_headline.specs.Collected.{HoldsEntry}
use Rattle.jls_headline.specs.CollectedLaws.{CutTextsAreHeld}
use Rattle.jls_headline.proofs.Stations.{is_read}
use Rattle.jls_headline.proofs.SourcedStations.{Mark, is_marked}

-- All readings of a text -----------------------------------------------------------------------------------------

abbrev mark : Reading → ℕ → Mark
mark r source = (r, source)

in_marks : (ks : List (Reading × List ℕ)) (k : Reading × List ℕ) (source : ℕ) → Contains ks k → Contains k.1 source
    → Contains (marks_of ks) (mark k.0 source)
in_marks [] k source c d = absurd (none_in k c)
in_marks (x ∷ xs) k source c d =
    elim (first_or_rest k x xs c) [
      | inl e ↦ Contains-append_left (map (mark x.0) x.1) (marks_of xs) (mark k.0 source)
          (subst (λ (z : Reading × List ℕ). Contains (map (mark z.0) z.1) (mark k.0 source)) (sym e) (in_map (mark k.0) k.1 source d))
      | inr later ↦ Contains-append_right (map (mark x.0) x.1) (marks_of xs) (mark k.0 source) (in_marks xs k source later d)
    ]

-- what is held after all were taken into nothing is held by the picture
module _ (p : PartialPicture) (bytes : List ℕ) (is : IsTextOf bytes p) where
  abbrev all_of_it : PartialPicture
  all_of_it = with_all (nothing_known p.shape) (text_prefix bytes)

  below : union all_of_it (union (nothing_known p.shape) p) ≡ union (nothing_known p.shape) p
  below = (text_between (nothing_known p.shape) all_of_it bytes
      (record { taken = text_prefix bytes; left = []; parts = sym (append-nil (text_prefix bytes)); new_is = refl }) p is).1

  read_there : (r : Reading) → is_read all_of_it r ≡ true → is_read p r ≡ true
  read_there r h =
      either (is_read p r ≡ true) (is_read (nothing_known p.shape) r) (is_read p r) (λ n. none n) (λ x. x)
      (sym (contains-union reading_total (nothing_known p.shape).readings p.readings r)
      ∙ subst (λ (q : PartialPicture). is_read q r ≡ true) below
      (contains-union reading_total all_of_it.readings (union (nothing_known p.shape) p).readings r
      ∙ or_left (is_read all_of_it r) (is_read (union (nothing_known p.shape) p) r) h))
    where
      none : is_read (nothing_known p.shape) r ≡ true → is_read p r ≡ true
      none n = (let bad : false ≡ true = sym (contains-empty reading_cmp r) ∙ n in absurd cc)

  mark_there : (m : Mark) → is_marked all_of_it m ≡ true → is_marked p m ≡ true
  mark_there m h =
      either (is_marked p m ≡ true) (is_marked (nothing_known p.shape) m) (is_marked p m) (λ n. none n) (λ x. x)
      (sym (contains-union marks_total (nothing_known p.shape).marks p.marks m)
      ∙ subst (λ (q : PartialPicture). is_marked q m ≡ true) below
      (contains-union marks_total all_of_it.marks (union (nothing_known p.shape) p).marks m
      ∙ or_left (is_marked all_of_it m) (is_marked (union (nothing_known p.shape) p) m) h))
    where
      none : is_marked (nothing_known p.shape) m ≡ true → is_marked p m ≡ true
      none n = (let bad : false ≡ true = sym (contains-empty (mark_cmp reading_cmp) m) ∙ n in absurd cc)

  each_held : (k : Reading × List ℕ) → Contains (text_prefix bytes) k → HoldsEntry p k
  each_held k c = (
    read_there k.0 (contains-insert_all reading_total set.empty (map (λ k. k.0) (text_prefix bytes)) k.0
        ∙ or_right (set.contains {R = reading_cmp} set.empty k.0) _
        (any_of_item reading_total reading_exact (map (λ k. k.0) (text_prefix bytes)) k.0
        (in_map (λ (k : Reading × List ℕ). k.0) (text_prefix bytes) k c))),
    all_from _ k.1
        (λ source d. mark_there (k.0, source) (contains-insert_all marks_total set.empty (marks_of (text_prefix bytes)) (k.0, source)
        ∙ or_right (set.contains {R = mark_cmp reading_cmp} set.empty (k.0, source)) _
        (any_of_item marks_total marks_exact (marks_of (text_prefix bytes)) (k.0, source) (in_marks (text_prefix bytes) k source c d)))),
  )

-- Fields of the prefix --------------------------------------------------------------------------------------------

module _ (following : List ℕ) where
  -- what is read of the prefix is read of the whole, with more bytes after it
  Prefix : {X : Type 0} → Result (X × List ℕ) TextFault → Result (X × List ℕ) TextFault → Type 0
  Prefix (Ok x) whole = whole ≡ Ok (x.0, x.1 ++ following)
  Prefix (Err e) whole = Unit {0}

  then : {X Y : Type 0} (r whole : Result (X × List ℕ) TextFault) (f g : X × List ℕ → Result (Y × List ℕ) TextFault) → Prefix r whole
      → ((x : X) (rest : List ℕ) → Prefix (f (x, rest)) (g (x, rest ++ following))) → Prefix (r >>= f) (whole >>= g)
  unfolding Prefix
  then {X = X} (Ok x) whole f g h k = subst (λ (z : Result (X × List ℕ) TextFault). Prefix (f x) (z >>= g)) (sym h) (k x.0 x.1)
  then (Err e) whole f g h k = tt

  passes : {X : Type 0} (b : Bool) (x : X) (rest : List ℕ) (d e : TextFault)
      → Prefix (cond b (Ok (x, rest)) (Err d)) (cond b (Ok (x, rest ++ following)) (Err e))
  unfolding Prefix
  passes true x rest d e = refl
  passes false x rest d e = tt

  fails : {X : Type 0} (b : Bool) (x : X) (rest : List ℕ) (d e : TextFault)
      → Prefix (cond b (Err d) (Ok (x, rest))) (cond b (Err e) (Ok (x, rest ++ following)))
  unfolding Prefix
  fails true x rest d e = tt
  fails false x rest d e = refl

  module _ (size full : ℕ) where
    byte_prefix : (bytes : List ℕ) → Prefix (byte_field size bytes) (byte_field full (bytes ++ following))
    unfolding Prefix byte_field
    byte_prefix [] = tt
    byte_prefix (b ∷ rest) = refl

    -- enough bytes of the prefix are enough of the whole
    parted : {X : Type 0} (f : List ℕ → X) (n : ℕ) (bytes : List ℕ)
        → Prefix (cond (ltb (length bytes) n) (Err (fault.Truncated size)) (Ok (f (take n bytes), drop n bytes)))
        (cond (ltb (length (bytes ++ following)) n) (Err (fault.Truncated full))
        (Ok (f (take n (bytes ++ following)), drop n (bytes ++ following))))
    unfolding Prefix
    parted f n bytes =
        elim (cases_Bool (ltb (length bytes) n)) [
          | inl e ↦ rw e tt
          | inr e ↦ (
              let long : n ≤ length bytes = ltb-false (length bytes) n e in
              let more : ltb (length (bytes ++ following)) n ≡ false = le-ltb _ _ (omega (arith, long, length-append bytes following)) in
              rw (e, more, take-append-le n bytes following long, drop-append-le n bytes following long) refl)
        ]

    bytes_prefix : (n : ℕ) (bytes : List ℕ) → Prefix (bytes_field size n bytes) (bytes_field full n (bytes ++ following))
    unfolding bytes_field
    bytes_prefix n bytes = parted (λ xs. xs) n bytes

    number_prefix : (w : Width) (bytes : List ℕ) → Prefix (number_field size w bytes) (number_field full w (bytes ++ following))
    number_prefix w bytes = parted (from_be_bytes w) (byte_len w) bytes

    shape_at_last : {E : Type 0} (s : Result PictureShape E) (rest : List ℕ)
        → Prefix (shape_or_fault s >>= λ shape. Ok (shape, rest)) (shape_or_fault s >>= λ shape. Ok (shape, rest ++ following))
    unfolding Prefix
    shape_at_last (Ok s) rest = refl
    shape_at_last (Err e) rest = tt

    ids_prefix : {E G : Type 0} (o : Option G) (s : List ℕ → Result PictureShape E) (n : ℕ) (rest : List ℕ)
        → Prefix
        (unless_bad_shape o rest >>= λ id_bytes. bytes_field size n id_bytes >>= λ ids. shape_or_fault (s ids.0) >>= λ shape.
        Ok (shape, ids.1))
        (unless_bad_shape o (rest ++ following) >>= λ id_bytes. bytes_field full n id_bytes >>= λ ids. shape_or_fault (s ids.0) >>= λ shape.
        Ok (shape, ids.1))
    unfolding Prefix
    ids_prefix None s n rest =
        then (bytes_field size n rest) (bytes_field full n (rest ++ following)) _ _ (bytes_prefix n rest)
        (λ ids rest. shape_at_last (s ids) rest)
    ids_prefix (Some e) s n rest = tt

    shape_prefix : (bytes : List ℕ) → Prefix (shape_fields size bytes) (shape_fields full (bytes ++ following))
    unfolding shape_fields
    shape_prefix bytes =
        then (byte_field size bytes) (byte_field full (bytes ++ following)) _ _ (byte_prefix bytes)
        (λ precision rest. then (number_field size w16 rest) (number_field full w16 (rest ++ following)) _ _ (number_prefix w16 rest)
        (λ width rest. then (number_field size w16 rest) (number_field full w16 (rest ++ following)) _ _ (number_prefix w16 rest)
        (λ height rest. then (byte_field size rest) (byte_field full (rest ++ following)) _ _ (byte_prefix rest)
        (λ count rest. ids_prefix (size_fault precision width height count) (λ ids. shape_of precision width height ids) count rest))))

    version_prefix : (bytes : List ℕ) → Prefix (version_field size bytes) (version_field full (bytes ++ following))
    unfolding Prefix version_field
    version_prefix bytes =
        then (byte_field size bytes) (byte_field full (bytes ++ following)) _ _ (byte_prefix bytes)
        (λ byte rest. by (eqb byte 1) (eqb byte 2) rest)
      where
        by : (b c : Bool) (rest : List ℕ)
            → Prefix (cond b (Ok (One, rest)) (cond c (Ok (Two, rest)) (Err (fault.Magic (offset size bytes)))))
            (cond b (Ok (One, rest ++ following))
            (cond c (Ok (Two, rest ++ following)) (Err (fault.Magic (offset full (bytes ++ following))))))
        by true c rest = refl
        by false true rest = refl
        by false false rest = tt

    sample_prefix : (limit : ℕ) (bytes : List ℕ) → Prefix (sample_field size limit bytes) (sample_field full limit (bytes ++ following))
    unfolding sample_field
    sample_prefix limit bytes =
        then (number_field size w16 bytes) (number_field full w16 (bytes ++ following)) _ _ (number_prefix w16 bytes)
        (λ sample rest. fails _ sample rest _ _)

    samples_prefix : (limit n : ℕ) (bytes : List ℕ)
        → Prefix (samples_fields size limit n bytes) (samples_fields full limit n (bytes ++ following))
    unfolding Prefix samples_fields
    samples_prefix limit zero bytes = refl
    samples_prefix limit (suc n) bytes =
        then (sample_field size limit bytes) (sample_field full limit (bytes ++ following)) _ _ (sample_prefix limit bytes)
        (λ first rest. then (samples_fields size limit n rest) (samples_fields full limit n (rest ++ following)) _ _
        (samples_prefix limit n rest) (λ others rest. refl))

    reading_prefix : (shape : PictureShape) (before : Option (List ℕ)) (bytes : List ℕ)
        → Prefix (reading_fields size shape before bytes) (reading_fields full shape before (bytes ++ following))
    unfolding reading_fields
    reading_prefix shape before bytes =
        then (samples_fields size _ shape.width bytes) (samples_fields full _ shape.width (bytes ++ following)) _ _
        (samples_prefix _ shape.width bytes)
        (λ samples rest. passes (is_above before samples) samples rest _ _)

    source_prefix : (before : Option ℕ) (bytes : List ℕ)
        → Prefix (source_field size before bytes) (source_field full before (bytes ++ following))
    unfolding source_field
    source_prefix before bytes =
        then (number_field size w32 bytes) (number_field full w32 (bytes ++ following)) _ _ (number_prefix w32 bytes)
        (λ source rest. passes (is_source_above before source) source rest _ _)

    sources_prefix : (before : Option ℕ) (n : ℕ) (bytes : List ℕ)
        → Prefix (sources_fields size before n bytes) (sources_fields full before n (bytes ++ following))
    unfolding Prefix sources_fields
    sources_prefix before zero bytes = refl
    sources_prefix before (suc n) bytes =
        then (source_field size before bytes) (source_field full before (bytes ++ following)) _ _ (source_prefix before bytes)
        (λ first rest. then (sources_fields size (Some first) n rest) (sources_fields full (Some first) n (rest ++ following)) _ _
        (sources_prefix (Some first) n rest) (λ others rest. refl))

    own_prefix : (version : Version) (bytes : List ℕ)
        → Prefix (own_sources_fields size version bytes) (own_sources_fields full version (bytes ++ following))
    unfolding Prefix own_sources_fields
    own_prefix One bytes = refl
    own_prefix Two bytes =
        then (number_field size w64 bytes) (number_field full w64 (bytes ++ following)) _ _ (number_prefix w64 bytes)
        (λ count rest. sources_prefix None count rest)

    kept_prefix : (version : Version) (shape : PictureShape) (before : Option (List ℕ)) (bytes : List ℕ)
        → Prefix (kept_fields size version shape before bytes) (kept_fields full version shape before (bytes ++ following))
    unfolding Prefix kept_fields
    kept_prefix version shape before bytes =
        then (reading_fields size shape before bytes) (reading_fields full shape before (bytes ++ following)) _ _
        (reading_prefix shape before bytes)
        (λ samples rest. then (own_sources_fields size version rest) (own_sources_fields full version (rest ++ following)) _ _
        (own_prefix version rest) (λ sources rest. refl))

    kepts_prefix : (version : Version) (shape : PictureShape) (before : Option (List ℕ)) (n : ℕ) (bytes : List ℕ)
        → Prefix (readings_fields size version shape before n bytes) (readings_fields full version shape before n (bytes ++ following))
    unfolding Prefix readings_fields
    kepts_prefix version shape before zero bytes = refl
    kepts_prefix version shape before (suc n) bytes =
        then (kept_fields size version shape before bytes) (kept_fields full version shape before (bytes ++ following)) _ _
        (kept_prefix version shape before bytes)
        (λ first rest. then (readings_fields size version shape (Some first.0) n rest)
        (readings_fields full version shape (Some first.0) n (rest ++ following)) _ _ (kepts_prefix version shape (Some first.0) n rest)
        (λ others rest. refl))

    place_prefix : (shape : PictureShape) (before : Option LinePlace) (bytes : List ℕ)
        → Prefix (place_fields size shape before bytes) (place_fields full shape before (bytes ++ following))
    unfolding place_fields
    place_prefix shape before bytes =
        then (byte_field size bytes) (byte_field full (bytes ++ following)) _ _ (byte_prefix bytes)
        (λ component rest. then (number_field size w16 rest) (number_field full w16 (rest ++ following)) _ _ (number_prefix w16 rest)
        (λ line rest. passes _ _ rest _ _))

    count_prefix : (bytes : List ℕ) → Prefix (count_field size bytes) (count_field full (bytes ++ following))
    unfolding count_field
    count_prefix bytes =
        then (number_field size w64 bytes) (number_field full w64 (bytes ++ following)) _ _ (number_prefix w64 bytes)
        (λ count rest. fails _ count rest _ _)

    entry_fields_prefix : (version : Version) (shape : PictureShape) (before : Option LinePlace) (bytes : List ℕ)
        → Prefix (entry_fields size version shape before bytes) (entry_fields full version shape before (bytes ++ following))
    unfolding Prefix entry_fields
    entry_fields_prefix version shape before bytes =
        then (place_fields size shape before bytes) (place_fields full shape before (bytes ++ following)) _ _
        (place_prefix shape before bytes)
        (λ place rest. then (count_field size rest) (count_field full (rest ++ following)) _ _ (count_prefix rest)
        (λ count rest. then (readings_fields size version shape None count rest)
        (readings_fields full version shape None count (rest ++ following)) _ _ (kepts_prefix version shape None count rest)
        (λ readings rest. refl)))

  -- Readings of the prefix ----------------------------------------------------------------------------------------

  Among : {B : Type 0} → List B → List B → Type 0
  Among {B} xs ys = (b : B) → Contains xs b → Contains ys b

  among_unless : {X B : Type 0} (r whole : Result (X × List ℕ) TextFault) (f g : X × List ℕ → List B) → Prefix r whole
      → ((x : X) (rest : List ℕ) → Among (f (x, rest)) (g (x, rest ++ following))) → Among (unless_fault r f) (unless_fault whole g)
  unfolding Prefix Among
  among_unless {X = X} (Ok x) whole f g h k =
      subst (λ (z : Result (X × List ℕ) TextFault). Among (f x) (unless_fault z g)) (sym h) (k x.0 x.1)
  among_unless (Err e) whole f g h k = λ b c. absurd (none_in b c)

  among_more : {B : Type 0} (x : B) (xs ys : List B) → Among xs ys → Among (x ∷ xs) (x ∷ ys)
  unfolding Among
  among_more x xs ys h = λ b c. elim (first_or_rest b x xs c) [ inl e ↦ (0, omega arith, e) | inr later ↦ in_rest b x ys (h b later) ]

  among_both : {B : Type 0} (xs ys us vs : List B) → Among xs us → Among ys vs → Among (xs ++ ys) (us ++ vs)
  unfolding Among
  among_both xs ys us vs h k = λ b c. elim (Contains-append_cases xs ys b c) [
    | inl x ↦ Contains-append_left us vs b (h b x)
    | inr y ↦ Contains-append_right us vs b (k b y)
  ]

  among_map : {A B : Type 0} (f : A → B) (xs ys : List A) → Among xs ys → Among (map f xs) (map f ys)
  unfolding Among
  among_map f xs ys h = λ b c.
      (let from = of_map f xs b c in subst (λ z. Contains (map f ys) z) from.2 (in_map f ys from.0 (h from.0 from.1)))

  module _ (size full : ℕ) where
    readings_among : (version : Version) (shape : PictureShape) (before : Option (List ℕ)) (n : ℕ) (bytes : List ℕ)
        → Among (readings_prefix size version shape before n bytes) (readings_prefix full version shape before n (bytes ++ following))
    unfolding Among readings_prefix
    readings_among version shape before zero bytes = λ b c. absurd (none_in b c)
    readings_among version shape before (suc n) bytes =
        among_unless (kept_fields size version shape before bytes) (kept_fields full version shape before (bytes ++ following)) _ _
        (kept_prefix size full version shape before bytes)
        (λ first rest. among_more first _ _ (readings_among version shape (Some first.0) n rest))

    entry_among : (version : Version) (shape : PictureShape) (before : Option LinePlace) (bytes : List ℕ)
        → Among (entry_prefix size version shape before bytes) (entry_prefix full version shape before (bytes ++ following))
    unfolding entry_prefix
    entry_among version shape before bytes =
        among_unless (place_fields size shape before bytes) (place_fields full shape before (bytes ++ following)) _ _
        (place_prefix size full shape before bytes)
        (λ place rest. among_unless (count_field size rest) (count_field full (rest ++ following)) _ _ (count_prefix size full rest)
        (λ count rest. among_map (kept_at_place place) _ _ (readings_among version shape None count rest)))

    entries_among : (version : Version) (shape : PictureShape) (before : Option LinePlace) (n : ℕ) (bytes : List ℕ)
        → Among (entries_prefix size version shape before n bytes) (entries_prefix full version shape before n (bytes ++ following))
    unfolding Among entries_prefix
    entries_among version shape before zero bytes = λ b c. absurd (none_in b c)
    entries_among version shape before (suc n) bytes =
        among_both (entry_prefix size version shape before bytes) _ (entry_prefix full version shape before (bytes ++ following)) _
        (entry_among version shape before bytes)
        (among_unless (entry_fields size version shape before bytes) (entry_fields full version shape before (bytes ++ following)) _ _
        (entry_fields_prefix size full version shape before bytes)
        (λ first rest. entries_among version shape (Some first.0) n rest))

    among_then : {X Y B : Type 0} (r whole : Result (X × List ℕ) TextFault) (f g : X × List ℕ → Result Y TextFault) (reported : Y → List B)
        → Prefix r whole
        → ((x : X) (rest : List ℕ) → Among (unless_fault (f (x, rest)) reported) (unless_fault (g (x, rest ++ following)) reported))
        → Among (unless_fault (r >>= f) reported) (unless_fault (whole >>= g) reported)
    unfolding Prefix Among
    among_then {X = X} (Ok x) whole f g reported h k =
        subst (λ (z : Result (X × List ℕ) TextFault). Among (unless_fault (f x) reported) (unless_fault (z >>= g) reported)) (sym h)
        (k x.0 x.1)
    among_then (Err e) whole f g reported h k = λ b c. absurd (none_in b c)

    -- the magic has no value
    magic_among : {Y B : Type 0} (wanted bytes : List ℕ) (f g : List ℕ → Result Y TextFault) (reported : Y → List B)
        → ((rest : List ℕ) → Among (unless_fault (f rest) reported) (unless_fault (g (rest ++ following)) reported))
        → Among (unless_fault (magic_field size wanted bytes >>= f) reported)
        (unless_fault (magic_field full wanted (bytes ++ following) >>= g) reported)
    unfolding Among magic_field byte_field
    magic_among [] bytes f g reported k = k bytes
    magic_among (wanted ∷ others) [] f g reported k = λ b c. absurd (none_in b c)
    magic_among (wanted ∷ others) (x ∷ rest) f g reported k = test (eqb x wanted) (magic_among others rest f g reported k)
      where
        test : (b : Bool)
            → Among (unless_fault (magic_field size others rest >>= f) reported)
            (unless_fault (magic_field full others (rest ++ following) >>= g) reported)
            → Among (unless_fault (cond b (magic_field size others rest) (Err (fault.Magic (offset size (x ∷ rest)))) >>= f) reported)
            (unless_fault
            (cond b (magic_field full others (rest ++ following)) (Err (fault.Magic (offset full (x ∷ (rest ++ following))))) >>= g)
            reported)
        test true h = h
        test false h = λ b c. absurd (none_in b c)

abbrev Head : Type 0
Head = ℕ × Version × PictureShape × ℕ × List ℕ

abbrev reported : Head → List (Reading × List ℕ)
reported h = entries_prefix h.0 h.1 h.2 None h.3 h.4

prefix_among : (prefix following : List ℕ) → Among following (text_prefix prefix) (text_prefix (prefix ++ following))
unfolding text_prefix head_fields
prefix_among prefix following =
    let size = length prefix in
    let full = length (prefix ++ following) in
    magic_among following size full magic prefix _ _ reported
    (λ rest. among_then following size full (version_field size rest) (version_field full (rest ++ following)) _ _ reported
    (version_prefix following size full rest)
    (λ version rest. among_then following size full (shape_fields size rest) (shape_fields full (rest ++ following)) _ _ reported
    (shape_prefix following size full rest)
    (λ shape rest. among_then following size full (number_field size w32 rest) (number_field full w32 (rest ++ following)) _ _ reported
    (number_prefix following size full w32 rest)
    (λ count rest. entries_among following size full version shape None count rest))))

pub cut_texts_are_held : CutTextsAreHeld
unfolding Among
cut_texts_are_held p prefix following is =
    all_from (HoldsEntry p) (text_prefix prefix) (λ k c. each_held p (prefix ++ following) is k (prefix_among prefix following k c))
