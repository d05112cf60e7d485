-- Readings with sources that are taken one after the other.
use Rattle.std.proofs.Common.{◌≡◌, ℕ, zero, suc, ◌+◌, ◌<◌, ◌||◌, List, [], ◌∷◌, ◌++◌, length, get_or, take, drop, map, Option, Some, ap}
use Rattle.std.proofs.Common.{sym, subst, ◌∙◌, append_assoc, arith}
use Rattle.std.specs.Prelude.{IfSome, slice_get}
use Rattle.std.proofs.lemmas.List.{map-append, append-nil, length-map, get_or-map, take_at, take_more, drop_more}
use Rattle.std.proofs.lemmas.List.Concat.{flat_map-cons}
use Rattle.jls_values.specs.Join.{IsBelow, IsBetween}
use Rattle.jls_values.specs.OrderedSet as set
use Rattle.jls_values.specs.Shape.{PictureShape}
use Rattle.jls_values.specs.OrderedSetLaws.{same_set, contains-insert_all, contains-union, insert_all-append}
use Rattle.jls_partial.specs.Entries.{Entry, kept_at_place, kept_readings, partial_of}
use Rattle.jls_partial.specs.Held.{kept_entry}
use Rattle.jls_partial.specs.LineEntries.{LineEntry}
use Rattle.jls_partial.specs.LineSet.{PictureLines, kept_lines, line_sources}
use Rattle.jls_partial.specs.Marks.{marks_of}
use Rattle.jls_partial.specs.Merging.{TakesPrefix}
use Rattle.jls_partial.specs.Packed.{Kept}
use Rattle.jls_partial.specs.Partial.{PartialPicture, with_all, union, AreMarksHeld}
use Rattle.jls_partial.specs.Reading.{Reading, reading_cmp}
use Rattle.jls_partial.specs.ReadingOrder.{reading_total, reading_exact, marks_total, marks_exact}
use Rattle.jls_partial.specs.Text.{entries}
use Rattle.jls_partial.proofs.KeptEntries.{holds_reading, holds_mark, partial_again}
use Rattle.jls_partial.proofs.MarkSets.{any_items, any_marks, prefix_above, marks_of-append}

-- two lists, one after the other
pub with_all-append : (p : PartialPicture) (xs ys : List (Reading × List ℕ)) → with_all p (xs ++ ys) ≡ with_all (with_all p xs) ys
with_all-append p xs ys = λ i. record {
  shape = p.shape;
  readings = (ap (set.insert_all p.readings) (map-append (λ (k : Reading × List ℕ). k.0) xs ys)
      ∙ insert_all-append p.readings (map (λ (k : Reading × List ℕ). k.0) xs) (map (λ (k : Reading × List ℕ). k.0) ys)) i;
  marks = (ap (set.insert_all p.marks) (marks_of-append xs ys) ∙ insert_all-append p.marks (marks_of xs) (marks_of ys)) i;
}

-- ---- the readings of a line

-- the next of them
module _ (L : PictureLines) (i : ℕ) (x ss : List ℕ) (lt : i < length (set.items L.lines)) (value : slice_get (set.items L.lines) i ≡ Some x)
    (own : IfSome (slice_get (set.items L.lines) i) (λ samples. ss ≡ line_sources L samples)) where
  abbrev kept : List ℕ → Kept
  kept y = (y, line_sources L y)

  read : (xs : List (List ℕ)) (i : ℕ) → slice_get xs i ≡ Some x → get_or xs i x ≡ x
  read [] i e = absurd cc
  read (y ∷ xs) zero e = cc
  read (y ∷ xs) (suc i) e = read xs i e

  here : get_or (kept_lines L) i (kept x) ≡ (x, ss)
  here =
      let sources : ss ≡ line_sources L x = subst (λ (o : Option (List ℕ)). IfSome o (λ samples. ss ≡ line_sources L samples)) value own in
      get_or-map kept (set.items L.lines) i x (kept x) lt ∙ ap kept (read (set.items L.lines) i value)
      ∙ ap (λ (ts : List ℕ). (x, ts)) (sym sources)

  below : i < length (kept_lines L)
  below = omega (arith, lt, length-map (set.items L.lines) kept)

  pub kept_more : take (i + 1) (kept_lines L) ≡ take i (kept_lines L) ++ (x, ss) ∷ []
  kept_more = take_more (kept_lines L) i (kept x) below ∙ ap (λ (k : Kept). take i (kept_lines L) ++ k ∷ []) here

  pub kept_next : drop i (kept_lines L) ≡ (x, ss) ∷ drop (i + 1) (kept_lines L)
  kept_next = drop_more (kept_lines L) i (kept x) below ∙ ap (λ (k : Kept). k ∷ drop (i + 1) (kept_lines L)) here

-- all of them
pub kept_whole : (L : PictureLines) (i : ℕ) → length (set.items L.lines) ≡ i → take i (kept_lines L) ≡ kept_lines L
kept_whole L i end =
    let f = λ (y : List ℕ). let k : Kept = (y, line_sources L y) in k in
    let many : length (kept_lines L) ≡ length (set.items L.lines) = length-map (set.items L.lines) f in
    ap (take i) (sym (append-nil (kept_lines L))) ∙ take_at (kept_lines L) [] i (omega (arith, many, end))

-- ---- a prefix of all readings

-- of all readings those before the ones that are left were taken
pub record IsSoFar (old new : PartialPicture) (all left : List (Reading × List ℕ)) : Type 0 where
  pub taken : List (Reading × List ℕ)
  pub parts : all ≡ taken ++ left
  pub new_is : new ≡ with_all old taken

-- some more are taken
pub more_so_far : (p q r : PartialPicture) (all ks left : List (Reading × List ℕ)) → IsSoFar p q all (ks ++ left) → r ≡ with_all q ks
    → IsSoFar p r all left
more_so_far p q r all ks left h is = record {
  taken = h.taken ++ ks;
  parts = h.parts ∙ sym (append_assoc h.taken ks left);
  new_is = is ∙ ap (λ (z : PartialPicture). with_all z ks) h.new_is ∙ sym (with_all-append p h.taken ks);
}

-- of the next a prefix is taken
pub prefix_so_far : (p q r : PartialPicture) (all ks left : List (Reading × List ℕ)) → IsSoFar p q all (ks ++ left) → TakesPrefix q r ks
    → TakesPrefix p r all
prefix_so_far p q r all ks left h f = record {
  taken = h.taken ++ f.taken;
  left = f.left ++ left;
  parts = h.parts ∙ ap (λ t. h.taken ++ t) (ap (λ t. t ++ left) f.parts ∙ append_assoc f.taken f.left left)
      ∙ sym (append_assoc h.taken f.taken (f.left ++ left));
  new_is = f.new_is ∙ ap (λ (z : PartialPicture). with_all z f.taken) h.new_is ∙ sym (with_all-append p h.taken f.taken);
}

-- the readings of the next entry come first
pub next_entry : (e : LineEntry) (es : List LineEntry)
    → kept_readings (map kept_entry (e ∷ es)) ≡ map (kept_at_place e.0) (kept_lines e.1) ++ kept_readings (map kept_entry es)
next_entry e es = flat_map-cons (λ (e : Entry). map (kept_at_place e.0) e.1) (kept_entry e) (map kept_entry es)

-- ---- the union

-- the readings of entries make the union with their picture
pub entries_union : (p : PartialPicture) (shape : PictureShape) (es : List Entry) → with_all p (kept_readings es)
    ≡ union p (partial_of shape es)
entries_union p shape es = λ i. record {
  shape = p.shape;
  readings = same_set reading_total reading_exact (set.insert_all p.readings (map (λ k. k.0) ks))
      (set.union p.readings (partial_of shape es).readings) (λ r.
      contains-insert_all reading_total p.readings (map (λ k. k.0) ks) r
      ∙ ap (λ b. set.contains p.readings r || b) (any_items reading_cmp r ks ∙ sym (holds_reading shape es r))
      ∙ sym (contains-union reading_total p.readings (partial_of shape es).readings r)) i;
  marks = same_set marks_total marks_exact (set.insert_all p.marks (marks_of ks)) (set.union p.marks (partial_of shape es).marks) (λ m.
      contains-insert_all marks_total p.marks (marks_of ks) m
      ∙ ap (λ b. set.contains p.marks m || b) (any_marks reading_cmp m.0 m.1 ks ∙ sym (holds_mark shape es m.0 m.1))
      ∙ sym (contains-union marks_total p.marks (partial_of shape es).marks m)) i;
}
  where
    ks : List (Reading × List ℕ)
    ks = kept_readings es

-- all readings of another picture make the union with it
pub all_is_union : (p q : PartialPicture) → AreMarksHeld q → with_all p (kept_readings (entries q)) ≡ union p q
all_is_union p q held = entries_union p q.shape (entries q) ∙ ap (union p) (partial_again q held)

-- what is taken is above what was there
above_old : (p : PartialPicture) (ks : List (Reading × List ℕ)) → IsBelow union p (with_all p ks)
above_old p ks = λ i. record {
  shape = p.shape;
  readings = prefix_above reading_total reading_exact p.readings (map (λ k. k.0) ks) i;
  marks = prefix_above marks_total marks_exact p.marks (marks_of ks) i;
}

-- a prefix of what makes the union is between what was there and that
pub between_of : (p r high : PartialPicture) (all : List (Reading × List ℕ)) → with_all p all ≡ high → TakesPrefix p r all
    → IsBetween union p r high
between_of p r high all is f =
    let whole : with_all (with_all p f.taken) f.left ≡ high = sym (with_all-append p f.taken f.left) ∙ ap (with_all p) (sym f.parts) ∙ is in
    subst (λ (z : PartialPicture). IsBetween union p z high) (sym f.new_is) (
      above_old p f.taken,
      subst (λ (z : PartialPicture). IsBelow union (with_all p f.taken) z) whole (above_old (with_all p f.taken) f.left),
    )

pub prefix_between : (p q r : PartialPicture) → AreMarksHeld q → TakesPrefix p r (kept_readings (entries q))
    → IsBetween union p r (union p q)
prefix_between p q r held f = between_of p r (union p q) (kept_readings (entries q)) (all_is_union p q held) f
