-- One line more of a chain: it follows those before it as in its piece.
use Rattle.std.proofs.Common.{◌≡◌, ℕ, zero, suc, ◌+◌, ◌-◌, ◌*◌, ◌/◌, ◌<◌, ◌≤◌, Bool, true, false, List, [], ◌∷◌, ◌++◌, length, refl, sym, ap, ◌∙◌}
use Rattle.std.proofs.Common.{subst, arith, inl, inr, take, drop, get_or, map, length-append, append_assoc, add-one}
use Rattle.std.specs.Prelude.{if◌then◌else◌, ◌==◌}
use Rattle.std.specs.List.{Contains}
use Rattle.std.proofs.lemmas.List.{append-nil, take-append-le, take-append-drop, length-take-le, length-map, map-append}
use Rattle.std.proofs.lemmas.List.{get_or_append_left, get_or_push, length_push}
use Rattle.std.proofs.lemmas.List.Elements.{Contains-append_right}
use Rattle.std.proofs.lemmas.Bool.{cases_lt}
use Rattle.std.proofs.lemmas.Nat.{mul-le}
use Rattle.std.proofs.Math.Nat.{div-mul-le_self, lt-div-mul-add, div-lt_iff_lt-mul}
use Rattle.std.proofs.Math.Seq.{take-append-add}
use Rattle.jls_values.proofs.Lists.{of_map, none_in, is_first, in_rest, first_or_rest}
use Rattle.jls_bits.specs.declared.writer.BitPlace.{BitPlace}
use Rattle.jls_interval.specs.Fronts.{nowhere}
use Rattle.jls_interval.proofs.HeadLines.{prefix_lines}
use Rattle.jls_piece.specs.Lines.{PieceShape, AreOfWholeRows}
use Rattle.jls_piece.specs.Code.{piece_code}
use Rattle.jls_piece.proofs.PieceCodes.{code_parts}
use Rattle.jls_marker.specs.Scan.{Scan, first_row}
use Rattle.jls_partial.specs.Reading.{Reading, reading_of}
use Rattle.jls_copy.specs.IntervalOf.{interval_of}
use Rattle.jls_copy.specs.Pieces.{placed}
use Rattle.jls_held.specs.declared.chain.ChainLine.{ChainLine}
use Rattle.jls_copy.specs.declared.piece_in_hand.PieceInHand.{PieceInHand}
use Rattle.jls_held.specs.MendedFiles.{MendedFile, IsHeldByte}
use Rattle.jls_copy.specs.InHand.{BeginsWithLines}
use Rattle.jls_held.specs.LineCode.{AreCodedTogether, IsByteOf, code_length, bits_before}
use Rattle.jls_held.specs.HeldLines.{placed_at, IsHeldBehind}
use Rattle.jls_held.specs.FilePieces.{lines_of, IsPieceOf}
use Rattle.jls_held.specs.Chains.{AreHeldBetween, AreCodeEnds, start_of, together, reading_in, IsChain}

-- a piece that begins with the code of lines begins with that of the first of them. By sample these are to be of whole rows
pub begins_with_first : (i : PieceShape) (piece : List ℕ) (xs ys : List (List ℕ)) → AreOfWholeRows i xs
    → BeginsWithLines i piece (xs ++ ys) → BeginsWithLines i piece xs
begins_with_first i piece xs ys rows b =
    let n = length-append xs ys in let most = b.at_most in
    let own = code_parts i xs ys rows in
    let read = b.begins.data_bits.read in
    record {
      at_most = omega (arith, n, most);
      unread = own.0 ++ b.unread;
      begins = record {
        are_bytes = b.begins.are_bytes;
        are_lines = prefix_lines i.params i.width (length (xs ++ ys)) (xs ++ ys) xs ys b.begins.are_lines refl;
        whole_rows = rows;
        data_bits = record {
          whole = b.begins.data_bits.whole;
          read = read ∙ ap (λ z. z ++ b.unread) own.1 ∙ append_assoc (piece_code i xs) own.0 b.unread;
        };
      };
    }

-- lines of a piece that are coded together are held behind known ones, if the bytes of their code are, and the lines before them are known
lines_held : (files : List MendedFile) (known : Reading → Bool) (f : MendedFile) (p : PieceInHand) → Contains files f → (is : IsPieceOf f p)
    → (before lines later : List (List ℕ)) → lines_of p ≡ (before ++ lines) ++ later
    → AreOfWholeRows (interval_of p.plan p.interval) (before ++ lines) → AreCodedTogether (interval_of p.plan p.interval) lines
    → ((place : ℕ) → IsByteOf (interval_of p.plan p.interval) is.found.piece.bytes before lines place → IsHeldByte f (p.offset + place))
    → ((s : Reading) → Contains (placed p.plan.components (first_row p.plan p.interval) 0 before) s → known s ≡ true)
    → (r : Reading) → Contains (placed p.plan.components (first_row p.plan p.interval) 0 (before ++ lines)) r → IsHeldBehind files known r
lines_held files known f p among is before lines later lines_are rows as_one own are_known r within =
    let q = is.found in
    let interval : interval_of q.piece.plan q.number ≡ interval_of p.plan p.interval =
    ap (λ (s : Scan). interval_of s q.number) is.plan_is ∙ ap (interval_of p.plan) is.number_is in
    let same : (all : List (List ℕ)) → placed_at f q all ≡ placed p.plan.components (first_row p.plan p.interval) 0 all = λ all.
    ap (λ (s : Scan). placed s.components (first_row s q.number) 0 all) is.plan_is
    ∙ ap (λ n. placed p.plan.components (first_row p.plan n) 0 all) is.number_is in
    let begins = begins_with_first (interval_of p.plan p.interval) q.piece.bytes (before ++ lines) later rows
    (subst (λ z. BeginsWithLines (interval_of p.plan p.interval) q.piece.bytes z) lines_are is.begins) in
    record {
      code = record {
        file = f;
        among = among;
        piece = q;
        before = before;
        lines = lines;
        together = subst (λ i. AreCodedTogether i lines) (sym interval) as_one;
        begins = subst (λ i. BeginsWithLines i q.piece.bytes (before ++ lines)) (sym interval) begins;
        held = λ place b. subst (λ n. IsHeldByte f (n + place)) (sym is.offset_is)
            (own place (subst (λ i. IsByteOf i q.piece.bytes before lines place) interval b));
      };
      behind = λ s inside. are_known s (subst (λ z. Contains z s) (same before) inside);
      own = subst (λ z. Contains z r) (sym (same (before ++ lines))) within;
    }

-- readings of first lines are readings of all
pub placed_more : (cs : List ℕ) (row place : ℕ) (xs ys : List (List ℕ)) (r : Reading) → Contains (placed cs row place xs) r
    → Contains (placed cs row place (xs ++ ys)) r
placed_more cs row place [] ys r c = absurd (none_in r c)
placed_more cs row place (x ∷ xs) ys r c =
    let next_row = if (place + 1 == length cs) then row + 1 else row in let next_place = if (place + 1 == length cs) then 0 else place + 1 in
    let q = reading_of (get_or cs place 0) row x in
    elim (first_or_rest r q (placed cs next_row next_place xs) c) [
      | inl e ↦ subst (Contains (q ∷ placed cs next_row next_place (xs ++ ys))) e (is_first q (placed cs next_row next_place (xs ++ ys)))
      | inr later ↦ in_rest r q (placed cs next_row next_place (xs ++ ys)) (placed_more cs next_row next_place xs ys r later)
    ]

-- A chain so far --------------------------------------------------------------------------------------

abbrev pub samples_in : ChainLine → List ℕ
samples_in l = l.samples.items

-- the chain has the first of these lines, and the line after it belongs to this row and this place among the components
pub record IsSoFar (plan : Scan) (k : ℕ) (lines : List (List ℕ)) (chain : List ChainLine) (rest : List (List ℕ)) (row place : ℕ) : Type 0 where
  pub lines_are : lines ≡ map samples_in chain ++ rest
  pub readings_are : (more : List (List ℕ)) → placed plan.components (first_row plan k) 0 (map samples_in chain ++ more)
      ≡ map reading_in chain ++ placed plan.components row place more

module _ (f : MendedFile) (p : PieceInHand) (is : IsPieceOf f p) (some : 0 < length p.plan.components) (ends : List BitPlace)
    (at : AreCodeEnds (interval_of p.plan p.interval) is.found.piece.bytes (lines_of p) ends) where
  abbrev interval : PieceShape
  interval = interval_of p.plan p.interval

  abbrev bytes : List ℕ
  bytes = is.found.piece.bytes

  abbrev size : ℕ
  size = together interval

  some_size : 0 < size
  some_size = by p.plan.by_sample
    where
      by : (b : Bool) → 0 < (if b then length p.plan.components else 1)
      by true = some
      by false = omega arith

  -- lines that are coded together stand whole in the piece, if one of them does
  whole_together : (k : ℕ) → k < length (lines_of p) → (k / size + 1) * size ≤ length (lines_of p)
  whole_together k inside = by p.plan.by_sample refl
    where
      by : (b : Bool) → p.plan.by_sample ≡ b
          → (k / (if b then length p.plan.components else 1) + 1) * (if b then length p.plan.components else 1) ≤ length (lines_of p)
      by true e =
          let c = length p.plan.components in let w = is.begins.begins.whole_rows e in
          let row : k / c < w.0 = (div-lt_iff_lt-mul some).1 (subst (λ n. k < n) w.1 inside) in
          let m = mul-le (k / c + 1) c w.0 c (omega (arith, row)) (omega arith) in let n = w.1 in omega (arith, m, n)
      by false e = let d = div-mul-le_self k 1 in omega (arith, d, inside)

  -- and they are of whole rows
  whole_rows : (n : ℕ) (xs : List (List ℕ)) → length xs ≡ n * size → AreOfWholeRows interval xs
  whole_rows n xs count = λ e. (n, count ∙ ap (λ (b : Bool). n * (if b then length p.plan.components else 1)) e)

  -- a byte that carries bits behind so many lines coded together is not before the end of those
  starts_there : (n place : ℕ) → n ≤ length ends → place < length bytes
      → code_length interval (take (n * size) (lines_of p)) < bits_before bytes (place + 1) → (start_of ends n).bytes ≤ place
  starts_there zero place listed inside above = omega arith
  starts_there (suc n) place listed inside above =
      (at n (omega (arith, listed))).behind place inside
      (subst (λ m. code_length interval (take (m * size) (lines_of p)) < bits_before bytes (place + 1)) (sym (add-one n)) above)

  -- the bytes of the code of lines that are coded together are held
  bytes_held : (n : ℕ) → n < length ends → AreHeldBetween f.held p.offset (start_of ends n) (get_or ends n nowhere)
      → (before lines : List (List ℕ)) → before ≡ take (n * size) (lines_of p) → before ++ lines ≡ take ((n + 1) * size) (lines_of p)
      → (place : ℕ) → IsByteOf interval bytes before lines place → IsHeldByte f (p.offset + place)
  bytes_held n listed h before lines before_are lines_are place b =
      let end = get_or ends n nowhere in
      let low = starts_there n place (omega (arith, listed)) b.within
      (subst (λ z. code_length interval z < bits_before bytes (place + 1)) before_are b.ends_after_its_begin) in
      let high = (at n listed).carried place b.within
      (subst (λ z. bits_before bytes place < code_length interval z) lines_are b.begins_before_its_end) in
      elim (cases_lt place end.bytes) [
        | inl inside ↦ h.filled place low inside
        | inr last ↦ (
            let most = high.0 in let same : place ≡ end.bytes = omega (arith, most, last) in
            subst (λ k. IsHeldByte f (p.offset + k)) (sym same) (h.last (high.1 same)))
      ]

  -- the line behind a chain so far is held behind known ones, if the bytes of its code are, and the chain's lines are known
  next_held : (chain : List ChainLine) (l : ChainLine) (rest : List (List ℕ)) (place : ℕ)
      → IsSoFar p.plan p.interval (lines_of p) chain (samples_in l ∷ rest) l.row place
      → l.component ≡ get_or p.plan.components place 0 → length chain / size < length ends
      → AreHeldBetween f.held p.offset (start_of ends (length chain / size)) (get_or ends (length chain / size) nowhere)
      → (files : List MendedFile) → Contains files f → (known : Reading → Bool)
      → ((s : Reading) → Contains (map reading_in chain) s → known s ≡ true) → IsHeldBehind files known (reading_in l)
  next_held chain l rest place so component listed held files among known are_known =
      let all = lines_of p in let past = map samples_in chain in let n = length chain / size in let start = n * size in
      let stop = (n + 1) * size in
      let cs = p.plan.components in let first = first_row p.plan p.interval in
      let count : length past ≡ length chain = length-map chain samples_in in
      let whole = ap length so.lines_are ∙ length-append past (samples_in l ∷ rest) in
      let enough : stop ≤ length all = whole_together (length chain) (omega (arith, whole, count)) in
      let low : start ≤ length chain = div-mul-le_self (length chain) size in
      let high : length chain < start + size = lt-div-mul-add some_size in
      let sum : stop ≡ start + size = omega arith in
      let both = take stop all in let later = drop stop all in
      let all_are : all ≡ both ++ later = sym (take-append-drop stop all) in
      let both_count : length both ≡ stop = length-take-le stop all enough in
      let before = take start both in let lines = drop start both in
      let both_are : before ++ lines ≡ both = take-append-drop start both in
      let before_is : before ≡ take start all =
      sym (take-append-le start both later (omega (arith, both_count, sum))) ∙ ap (take start) (sym all_are) in
      let before_count : length before ≡ start = length-take-le start both (omega (arith, both_count, sum)) in
      let own_count : length lines ≡ size = (
      let a = ap length both_are in let b = length-append before lines in omega (arith, a, b, both_count, before_count, sum)) in
      let past_is : before ≡ take start past =
      before_is ∙ ap (take start) so.lines_are ∙ take-append-le start past (samples_in l ∷ rest) (omega (arith, low, count)) in
      let chain_readings : placed cs first 0 past ≡ map reading_in chain =
      ap (placed cs first 0) (sym (append-nil past)) ∙ so.readings_are [] ∙ append-nil (map reading_in chain) in
      let with_l = past ++ samples_in l ∷ [] in
      let with_count : length with_l ≡ length chain + 1 = length-append past (samples_in l ∷ []) ∙ ap (λ z. z + 1) count in
      let over = stop - length with_l in
      let fits : stop ≡ length with_l + over = omega (arith, with_count, high, sum) in
      let both_begin : both ≡ with_l ++ take over rest =
      ap (λ z. take z all) fits ∙ ap (take (length with_l + over)) (so.lines_are ∙ sym (append_assoc past (samples_in l ∷ []) rest))
      ∙ take-append-add with_l rest over in
      let own : Contains (placed cs first 0 with_l) (reading_in l) =
      subst (λ z. Contains z (reading_in l)) (sym (so.readings_are (samples_in l ∷ [])))
      (Contains-append_right (map reading_in chain) (placed cs l.row place (samples_in l ∷ [])) (reading_in l)
      (subst (λ c. Contains (reading_of (get_or cs place 0) l.row (samples_in l) ∷ []) (reading_of c l.row (samples_in l))) (sym component)
      (is_first (reading_of (get_or cs place 0) l.row (samples_in l)) []))) in
      lines_held files known f p among is before lines later (all_are ∙ ap (λ z. z ++ later) (sym both_are))
      (whole_rows (n + 1) (before ++ lines) (ap length both_are ∙ both_count)) own_count
      (bytes_held n listed held before lines before_is both_are)
      (λ s inside. are_known s (subst (λ z. Contains z s) chain_readings
      (subst (λ z. Contains (placed cs first 0 z) s) (ap (λ z. z ++ drop start past) past_is ∙ take-append-drop start past)
      (placed_more cs first 0 before (drop start past) s inside))))
      (reading_in l)
      (subst (λ z. Contains (placed cs first 0 z) (reading_in l)) (sym (both_are ∙ both_begin))
      (placed_more cs first 0 with_l (take over rest) (reading_in l) own))

  -- one line more
  chain_more : (chain : List ChainLine) (l : ChainLine) (rest : List (List ℕ)) (place : ℕ)
      → IsSoFar p.plan p.interval (lines_of p) chain (samples_in l ∷ rest) l.row place
      → l.component ≡ get_or p.plan.components place 0
      → (l.is_code_held ≡ true → length chain / size < length ends)
      → (l.is_code_held ≡ true
      → AreHeldBetween f.held p.offset (start_of ends (length chain / size)) (get_or ends (length chain / size) nowhere))
      → (files : List MendedFile) → Contains files f → IsChain files chain → IsChain files (chain ++ l ∷ [])
  chain_more chain l rest place so component listed code files among are k d inside marked known first =
      let n = length_push chain l in
      elim (cases_lt k (length chain)) [
        | inl early ↦ (
            let same = get_or_append_left chain (l ∷ []) d k early in
            subst (λ z. IsHeldBehind files known (reading_in z)) (sym same)
            (are k d early (ap (λ (z : ChainLine). z.is_code_held) (sym same) ∙ marked) known
            (λ j e low within. subst (λ z. known (reading_in z) ≡ true) (get_or_append_left chain (l ∷ []) e j within)
            (first j e low (omega (arith, n, within))))))
        | inr late ↦ (
            let at_end : k ≡ length chain = omega (arith, n, inside, late) in
            let same = get_or_push chain l d k (sym at_end) in
            let is_marked = ap (λ (z : ChainLine). z.is_code_held) (sym same) ∙ marked in
            subst (λ z. IsHeldBehind files known (reading_in z)) (sym same)
            (next_held chain l rest place so component (listed is_marked) (code is_marked) files among known
            (λ s inside. let from = of_map reading_in chain s inside in let j = from.1.0 in let x = from.0 in
            let low = from.1.1 in
            subst (λ z. known z ≡ true) (ap reading_in (get_or_append_left chain (l ∷ []) x j low ∙ from.1.2) ∙ from.2)
            (first j x (omega (arith, at_end, low)) (omega (arith, n, low))))))
      ]

  -- one line more, of the chain that comes out, where this many lines were said to be coded together, and to stand before it
  pub chain_step : (chain : List ChainLine) (l : ChainLine) (rest : List (List ℕ)) (place many number : ℕ) (held : List Bool)
      → IsSoFar p.plan p.interval (lines_of p) chain (samples_in l ∷ rest) l.row place
      → l.component ≡ get_or p.plan.components place 0 → many ≡ size → number ≡ length chain → held ≡ f.held
      → (l.is_code_held ≡ true → number / many < length ends)
      → (l.is_code_held ≡ true
      → AreHeldBetween held p.offset (start_of ends (number / many)) (get_or ends (number / many) nowhere))
      → ((files : List MendedFile) → Contains files f → IsChain files chain)
      → (out : List ChainLine) → out ≡ chain ++ l ∷ [] → (files : List MendedFile) → Contains files f → IsChain files out
  chain_step chain l rest place many number held so component many_is number_is held_is listed code are out out_is files among =
      let quotient : number / many ≡ length chain / size = ap (λ m. number / m) many_is ∙ ap (λ m. m / size) number_is in
      subst (IsChain files) (sym out_is)
      (chain_more chain l rest place so component (λ known. subst (λ q. q < length ends) quotient (listed known))
      (λ known. subst (λ h. AreHeldBetween h p.offset (start_of ends (length chain / size)) (get_or ends (length chain / size) nowhere)) held_is
      (subst (λ q. AreHeldBetween held p.offset (start_of ends q) (get_or ends q nowhere)) quotient (code known)))
      files among (are files among))

-- Its rows ---------------------------------------------------------------------------------------------

module _ (plan : Scan) (k : ℕ) (lines : List (List ℕ)) (chain : List ChainLine) (l : ChainLine) (rest : List (List ℕ)) (place : ℕ)
    (so : IsSoFar plan k lines chain (samples_in l ∷ rest) l.row place) (component : l.component ≡ get_or plan.components place 0)
    (out : List ChainLine) (out_is : out ≡ chain ++ l ∷ []) where
  -- a chain with its next line is a chain so far, from the next row and place on
  line_more : (next_row next_place : ℕ)
      → ((more : List (List ℕ)) → placed plan.components l.row place (samples_in l ∷ more)
      ≡ reading_of (get_or plan.components place 0) l.row (samples_in l) ∷ placed plan.components next_row next_place more)
      → IsSoFar plan k lines out rest next_row next_place
  line_more next_row next_place step =
      let samples : map samples_in out ≡ map samples_in chain ++ samples_in l ∷ [] =
      ap (map samples_in) out_is ∙ map-append samples_in chain (l ∷ []) in
      let readings : map reading_in out ≡ map reading_in chain ++ reading_in l ∷ [] =
      ap (map reading_in) out_is ∙ map-append reading_in chain (l ∷ []) in
      record {
        lines_are = so.lines_are ∙ sym (append_assoc (map samples_in chain) (samples_in l ∷ []) rest) ∙ ap (λ z. z ++ rest) (sym samples);
        readings_are = λ more.
            ap (λ z. placed plan.components (first_row plan k) 0 (z ++ more)) samples
            ∙ ap (placed plan.components (first_row plan k) 0) (append_assoc (map samples_in chain) (samples_in l ∷ []) more)
            ∙ so.readings_are (samples_in l ∷ more) ∙ ap (λ z. map reading_in chain ++ z) (step more)
            ∙ ap (λ c. map reading_in chain ++ (reading_of c l.row (samples_in l) ∷ placed plan.components next_row next_place more))
            (sym component)
            ∙ sym (append_assoc (map reading_in chain) (reading_in l ∷ []) (placed plan.components next_row next_place more))
            ∙ ap (λ z. z ++ placed plan.components next_row next_place more) (sym readings);
      }

  -- the next line is of the same row
  pub same_row : (place + 1 == length plan.components) ≡ false → IsSoFar plan k lines out rest l.row (place + 1)
  same_row e = line_more l.row (place + 1) (λ more. ap (λ b. reading_of (get_or plan.components place 0) l.row (samples_in l)
      ∷ placed plan.components (if b then l.row + 1 else l.row) (if b then 0 else place + 1) more) e)

  -- or of the next one
  pub next_row : (place + 1 == length plan.components) ≡ true → IsSoFar plan k lines out rest (l.row + 1) 0
  next_row e = line_more (l.row + 1) 0 (λ more. ap (λ b. reading_of (get_or plan.components place 0) l.row (samples_in l)
      ∷ placed plan.components (if b then l.row + 1 else l.row) (if b then 0 else place + 1) more) e)
