-- The files that get a name, and outputs that are handed their files.
use Rattle.std.proofs.Common.{◌≡◌, ℕ, zero, suc, ◌+◌, ◌<◌, ◌≤◌, ◌||◌, true, false, List, [], ◌∷◌, ◌++◌, length, take, drop, get_or, refl}
use Rattle.std.proofs.Common.{sym, ap, ◌∙◌, subst, arith}
use Rattle.std.specs.Str.{bytes_eq}
use Rattle.std.specs.String.{string_bytes}
use Rattle.std.proofs.lemmas.List.{map-append, take_more, take-append-drop}
use Rattle.jls_io.specs.Event.{History, GrewBy}
use Rattle.jls_io.proofs.Growing.{grew_on}
use Rattle.jls_io.specs.Outputs.{HandsOut}
use Rattle.jls_cli.specs.declared.outcome.Refusal.{Refusal}
use Rattle.jls_splice_run.specs.Handing.{HandsFiles, StopsAtFiles, StopsAtNumber, one_handed}
use Rattle.jls_splice_run.specs.Listing.{NamedFile, is_named, named_file, named_files, numbered}
use Rattle.jls_splice_run.specs.declared.listing.NumberedFile.{NumberedFile}
use Rattle.std.proofs.lemmas.List.{length-map}

or_true : (b : _) → true ≡ (b || true)
or_true true = refl
or_true false = refl

-- a file that has a name
pub is_named_at : (files : List NumberedFile) (file : List ℕ) (i : ℕ) (d : NumberedFile) → i < length files
    → true ≡ bytes_eq (get_or files i d).bytes.items file → true ≡ is_named (named_files files) file
is_named_at [] file i d l e = absurd (omega (arith, l))
is_named_at (s ∷ ss) file zero d l e = ap (λ b. b || is_named (named_files ss) file) e
is_named_at (s ∷ ss) file (suc i) d l e =
    or_true (bytes_eq s.bytes.items file) ∙ ap (λ b. bytes_eq s.bytes.items file || b) (is_named_at ss file i d (omega (arith, l)) e)

-- the files up to a place, that one, and those after it
one_after : {X : Type 0} (xs : List X) (i : ℕ) (d : X) → i < length xs → drop i xs ≡ get_or xs i d ∷ drop (suc i) xs
one_after [] i d l = absurd (omega (arith, l))
one_after (x ∷ xs) zero d l = refl
one_after (x ∷ xs) (suc i) d l = one_after xs i d (omega (arith, l))

named_one_more : (files : List NumberedFile) (i : ℕ) (x : NumberedFile) → i < length files → x ≡ get_or files i x
    → named_files (take (i + 1) files) ≡ named_files (take i files) ++ named_file x ∷ []
named_one_more files i x l is =
    ap named_files (take_more files i x l) ∙ map-append named_file (take i files) (get_or files i x ∷ [])
    ∙ ap (λ (y : NumberedFile). named_files (take i files) ++ named_file y ∷ []) (sym is)

named_split : (files : List NumberedFile) (i : ℕ) (x : NumberedFile) → i < length files → x ≡ get_or files i x
    → named_files files ≡ named_files (take i files) ++ named_file x ∷ named_files (drop (suc i) files)
named_split files i x l is =
    ap named_files (sym (take-append-drop i files)) ∙ map-append named_file (take i files) (drop i files)
    ∙ ap (λ (ys : List NumberedFile). named_files (take i files) ++ named_files ys)
    (one_after files i x l ∙ ap (λ (y : NumberedFile). y ∷ drop (suc i) files) (sym is))

named_count : (files : List NumberedFile) (i : ℕ) → i ≤ length files → length (named_files (take i files)) ≡ i
named_count files zero l = refl
named_count [] (suc i) l = absurd (omega (arith, l))
named_count (f ∷ files) (suc i) l = ap suc (named_count files i (omega (arith, l)))

-- one more that has a name
pub named_with : (named : List NumberedFile) (file start : List ℕ) (f : NumberedFile) (new : List NumberedFile)
    → new ≡ named ++ f ∷ [] → string_bytes f.name ≡ numbered start (length named + 1) → f.bytes.items ≡ file
    → named_files named ++ record { name = numbered start (length (named_files named) + 1); bytes = file } ∷ [] ≡ named_files new
named_with named file start f new pushed called made =
    (λ i. named_files named ++ record { name = numbered start (length-map named named_file i + 1); bytes = file } ∷ [])
    ∙ (λ i. named_files named ++ record { name = sym called i; bytes = sym made i } ∷ [])
    ∙ sym (map-append named_file named (f ∷ [])) ∙ ap named_files (sym pushed)

module _ (files : List NumberedFile) (i : ℕ) (x : NumberedFile) (within : i < length files) (is : x ≡ get_or files i x)
    (old mid new : History) where
  module _ (handed : GrewBy (HandsFiles (named_files (take i files))) old mid) where
    -- one more was handed its file
    pub one_more_handed : GrewBy (HandsOut (named_file x).name (named_file x).bytes) mid new
        → GrewBy (HandsFiles (named_files (take (i + 1) files))) old new
    one_more_handed h =
        grew_on (HandsFiles (named_files (take i files))) (HandsOut (named_file x).name (named_file x).bytes)
        (HandsFiles (named_files (take (i + 1) files)))
        old mid new
        (λ a b before here. subst (λ (fs : List NamedFile). HandsFiles fs (a ++ b)) (sym (named_one_more files i x within is))
        (one_handed (named_files (take i files)) (named_file x) a b before here))
        handed h

    -- and one stops the run
    pub stops_at_one : (prefix : List ℕ) (r : Refusal) → GrewBy (StopsAtNumber prefix (i + 1) (named_file x) r) mid new
        → GrewBy (StopsAtFiles prefix (named_files files) r) old new
    stops_at_one prefix r h =
        grew_on (HandsFiles (named_files (take i files))) (StopsAtNumber prefix (i + 1) (named_file x) r)
        (StopsAtFiles prefix (named_files files) r)
        old mid new
        (λ a b before here. record {
          before = named_files (take i files);
          file = named_file x;
          after = named_files (drop (suc i) files);
          files_are = named_split files i x within is;
          handing = a;
          stop = b;
          events_are = refl;
          handed = before;
          stops = subst (λ (n : ℕ). StopsAtNumber prefix (n + 1) (named_file x) r b) (sym (named_count files i (omega (arith, within))))
              here;
        })
        handed h
