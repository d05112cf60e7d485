-- A list of bytes has one cut at most.
use Rattle.std.proofs.Common.{◌≡◌, ℕ, zero, suc, ◌+◌, ◌-◌, ◌<◌, true, false, ◌≢◌, List, [], ◌∷◌, ◌++◌, refl, sym, ◌∙◌, ap, subst}
use Rattle.std.proofs.Common.{append_assoc, arith, ◌⊎◌, inl, inr}
use Rattle.std.proofs.lemmas.List.{append-nil}
use Rattle.std.proofs.lemmas.Bool.{cases_eq, cases_Bool}
use Rattle.std.proofs.lemmas.Bool.Decides.{nat_tests}
use Rattle.std.specs.List.{flat_map, AllByRecursion}
use Rattle.jls_copy.specs.ScanData.{is_restart_code, ends_scan_data, closes_piece, IsPiece, ClosedPiece, ScanEnd, at_input, at_marker}
use Rattle.jls_copy.specs.ScanData.{ScanCut, fill_bytes, closed_bytes, end_bytes, IsClosedPiece, IsScanEnd, IsCut}
use Rattle.jls_copy.proofs.OneMoreByte.{open_cut, ended_cut, cut_none, cut_fill, cut_more, cut_mark, cut_end, cut_after}
use Rattle.jls_copy.specs.CutLaws.{OneCut}

-- after an FF: the end, a closing code, or one more FF of that kind
abbrev IsBreakTail : List ℕ → Type 0
IsBreakTail [] = Unit {0}
IsBreakTail (c ∷ x) = (closes_piece c ≡ true) ⊎ ((c ≡ 255) × IsBreakTail x)

-- what stands after a piece
abbrev IsBreak : List ℕ → Type 0
IsBreak [] = Unit {0}
IsBreak (b ∷ x) = (b ≡ 255) × IsBreakTail x

not_piece : (b : ℕ) (w y : List ℕ) → IsPiece (b ∷ w) → IsBreak (b ∷ w ++ y) → ⊥
not_piece b [] y p k = p k.0
not_piece b (c ∷ w) y p (e, inl shut) = let open_ : closes_piece c ≡ false = p.0 e in cc
not_piece b (c ∷ w) y p (e, inr k) = not_piece c w y p.1 k

piece_tail : (b : ℕ) (w : List ℕ) → IsPiece (b ∷ w) → IsPiece w
piece_tail b [] p = tt
piece_tail b (c ∷ w) p = p.1

-- two pieces that begin the same bytes, each before a break, are one
pub same_piece : (w v x y : List ℕ) → IsPiece w → IsPiece v → IsBreak x → IsBreak y → w ++ x ≡ v ++ y → (w ≡ v) × (x ≡ y)
same_piece [] [] x y p q j k e = (refl, e)
same_piece [] (b ∷ v) x y p q j k e = absurd (not_piece b v y q (subst IsBreak e j))
same_piece (a ∷ w) [] x y p q j k e = absurd (not_piece a w x p (subst IsBreak (sym e) k))
same_piece (a ∷ w) (b ∷ v) x y p q j k e =
    let h : a ≡ b = cc in let t : w ++ x ≡ v ++ y = cc in
    let r = same_piece w v x y (piece_tail a w p) (piece_tail b v q) j k t in
    let r0 : w ≡ v = r.0 in (cc, r.1)

-- two marks that begin the same bytes are one, with the same fill
same_mark : (k l c d : ℕ) (x y : List ℕ) → c ≢ 255 → d ≢ 255 → fill_bytes k ++ (255 ∷ c ∷ x) ≡ fill_bytes l ++ (255 ∷ d ∷ y)
    → (k ≡ l) × (c ≡ d) × (x ≡ y)
same_mark zero zero c d x y p q e = (refl, cc, cc)
same_mark zero (suc zero) c d x y p q e = let f : c ≡ 255 = cc in absurd (p f)
same_mark zero (suc (suc l)) c d x y p q e = let f : c ≡ 255 = cc in absurd (p f)
same_mark (suc zero) zero c d x y p q e = let f : d ≡ 255 = cc in absurd (q f)
same_mark (suc (suc k)) zero c d x y p q e = let f : d ≡ 255 = cc in absurd (q f)
same_mark (suc k) (suc l) c d x y p q e =
    let t : fill_bytes k ++ (255 ∷ c ∷ x) ≡ fill_bytes l ++ (255 ∷ d ∷ y) = cc in
    let r = same_mark k l c d x y p q t in (ap suc r.0, r.1, r.2)

-- fill bytes alone hold no mark
pub no_mark : (n k c : ℕ) (x : List ℕ) → c ≢ 255 → fill_bytes n ≡ fill_bytes k ++ (255 ∷ c ∷ x) → ⊥
no_mark zero zero c x p e = cc
no_mark zero (suc k) c x p e = cc
no_mark (suc zero) zero c x p e = cc
no_mark (suc (suc n)) zero c x p e = let f : 255 ≡ c = cc in p (sym f)
no_mark (suc n) (suc k) c x p e = no_mark n k c x p (let t : fill_bytes n ≡ fill_bytes k ++ (255 ∷ c ∷ x) = cc in t)

-- equal fill bytes are as many
same_fills : (n k : ℕ) → fill_bytes n ≡ fill_bytes k → n ≡ k
same_fills zero zero e = refl
same_fills zero (suc k) e = cc
same_fills (suc n) zero e = cc
same_fills (suc n) (suc k) e = ap suc (same_fills n k (let t : fill_bytes n ≡ fill_bytes k = cc in t))

-- the code of a mark closes a piece, and ends no scan data
of_mark : (m : ℕ) → m < 8 → (ends_scan_data (208 + m) ≡ false) × (closes_piece (208 + m) ≡ true)
of_mark zero h = (refl, refl)
of_mark (suc zero) h = (refl, refl)
of_mark (suc (suc zero)) h = (refl, refl)
of_mark (suc (suc (suc zero))) h = (refl, refl)
of_mark (suc (suc (suc (suc zero)))) h = (refl, refl)
of_mark (suc (suc (suc (suc (suc zero))))) h = (refl, refl)
of_mark (suc (suc (suc (suc (suc (suc zero)))))) h = (refl, refl)
of_mark (suc (suc (suc (suc (suc (suc (suc zero))))))) h = (refl, refl)
of_mark (suc (suc (suc (suc (suc (suc (suc (suc m)))))))) h = absurd (omega arith)

end_closes : (c : ℕ) → ends_scan_data c ≡ true → closes_piece c ≡ true
end_closes c h = grind (arith, nat_tests)

end_not_fill : (c : ℕ) → ends_scan_data c ≡ true → c ≢ 255
end_not_fill c h e = let f : ends_scan_data 255 ≡ true = rw e at h in cc

tail_fills : (n : ℕ) → IsBreakTail (fill_bytes n)
tail_fills zero = tt
tail_fills (suc n) = inr (refl, tail_fills n)

tail_mark : (n c : ℕ) (x : List ℕ) → closes_piece c ≡ true → IsBreakTail (fill_bytes n ++ (255 ∷ c ∷ x))
tail_mark zero c x h = inr (refl, inl h)
tail_mark (suc n) c x h = inr (refl, tail_mark n c x h)

break_fills : (n : ℕ) → IsBreak (fill_bytes n)
break_fills zero = tt
break_fills (suc n) = (refl, tail_fills n)

pub break_mark : (n c : ℕ) (x : List ℕ) → closes_piece c ≡ true → IsBreak (fill_bytes n ++ (255 ∷ c ∷ x))
break_mark zero c x h = (refl, inl h)
break_mark (suc n) c x h = (refl, tail_mark n c x h)

break_stop : (s : ScanEnd) → IsScanEnd s → IsBreak (end_bytes s)
break_stop (at_input n) h = break_fills n
break_stop (at_marker n c more) h = break_mark n c more (end_closes c h)

-- two ends of scan data with the same bytes are one
same_stop : (s t : ScanEnd) → IsScanEnd s → IsScanEnd t → end_bytes s ≡ end_bytes t → s ≡ t
same_stop (at_input n) (at_input k) p q e = ap at_input (same_fills n k e)
same_stop (at_input n) (at_marker k c x) p q e = absurd (no_mark n k c x (end_not_fill c q) e)
same_stop (at_marker k c x) (at_input n) p q e = absurd (no_mark n k c x (end_not_fill c p) (sym e))
same_stop (at_marker k c x) (at_marker l d y) p q e =
    let r = same_mark k l c d x y (end_not_fill c p) (end_not_fill d q) e in
    let r0 : k ≡ l = r.0 in let r1 : c ≡ d = r.1 in let r2 : x ≡ y = r.2 in cc

-- what ends scan data does not begin with a restart marker
no_more_marks : (s : ScanEnd) (k m : ℕ) (x : List ℕ) → IsScanEnd s → m < 8 → end_bytes s ≡ fill_bytes k ++ (255 ∷ (208 + m) ∷ x) → ⊥
no_more_marks (at_input n) k m x p low e = no_mark n k (208 + m) x (λ f. omega arith) e
no_more_marks (at_marker n c y) k m x p low e =
    let r = same_mark n k c (208 + m) y x (end_not_fill c p) (λ f. omega arith) e in
    let r1 : c ≡ 208 + m = r.1 in let never : ends_scan_data (208 + m) ≡ false = (of_mark m low).0 in
    let ends : ends_scan_data (208 + m) ≡ true = rw r1 at p in cc

-- a closed piece before some bytes
prefix : (w : List ℕ) (k m : ℕ) (x : List ℕ)
    → (w ++ (fill_bytes k ++ (255 ∷ (208 + m) ∷ []))) ++ x ≡ w ++ (fill_bytes k ++ (255 ∷ (208 + m) ∷ x))
prefix w k m x = simp append_assoc refl

abbrev closed_of : List ℕ → ℕ → ℕ → ClosedPiece
closed_of w k m = record { piece = w; fill = k; mark = m }

closed_eq : (c d : ClosedPiece) → c.piece ≡ d.piece → c.fill ≡ d.fill → c.mark ≡ d.mark → c ≡ d
closed_eq c d e f g =
    ap (λ w. closed_of w c.fill c.mark) e ∙ ap (λ k. closed_of d.piece k c.mark) f ∙ ap (λ m. closed_of d.piece d.fill m) g

-- two cuts of the same bytes are one, mark by mark
same : (cs ds : List ClosedPiece) (u v : List ℕ) (s t : ScanEnd)
    → AllByRecursion IsClosedPiece cs → AllByRecursion IsClosedPiece ds → IsPiece u → IsPiece v → IsScanEnd s → IsScanEnd t
    → flat_map closed_bytes cs ++ (u ++ end_bytes s) ≡ flat_map closed_bytes ds ++ (v ++ end_bytes t)
    → (cs ≡ ds) × (u ≡ v) × (s ≡ t)
same [] [] u v s t pc pd pu pv ps pt e =
    let r = same_piece u v (end_bytes s) (end_bytes t) pu pv (break_stop s ps) (break_stop t pt) e in
    (refl, r.0, same_stop s t ps pt r.1)
same [] (d ∷ ds) u v s t pc pd pu pv ps pt e =
    let rest : List ℕ = flat_map closed_bytes ds ++ (v ++ end_bytes t) in
    let f : u ++ end_bytes s ≡ d.piece ++ (fill_bytes d.fill ++ (255 ∷ (208 + d.mark) ∷ rest)) = e ∙ simp append_assoc refl in
    let r = same_piece u d.piece _ _ pu pd.0.0 (break_stop s ps) (break_mark d.fill (208 + d.mark) rest (of_mark d.mark pd.0.1).1) f in
    absurd (no_more_marks s d.fill d.mark rest ps pd.0.1 r.1)
same (c ∷ cs) [] u v s t pc pd pu pv ps pt e =
    let rest : List ℕ = flat_map closed_bytes cs ++ (u ++ end_bytes s) in
    let f : v ++ end_bytes t ≡ c.piece ++ (fill_bytes c.fill ++ (255 ∷ (208 + c.mark) ∷ rest)) = sym e ∙ simp append_assoc refl in
    let r = same_piece v c.piece _ _ pv pc.0.0 (break_stop t pt) (break_mark c.fill (208 + c.mark) rest (of_mark c.mark pc.0.1).1) f in
    absurd (no_more_marks t c.fill c.mark rest pt pc.0.1 r.1)
same (c ∷ cs) (d ∷ ds) u v s t pc pd pu pv ps pt e =
    let x : List ℕ = flat_map closed_bytes cs ++ (u ++ end_bytes s) in
    let y : List ℕ = flat_map closed_bytes ds ++ (v ++ end_bytes t) in
    let f : c.piece ++ (fill_bytes c.fill ++ (255 ∷ (208 + c.mark) ∷ x)) ≡ d.piece ++ (fill_bytes d.fill ++ (255 ∷ (208 + d.mark) ∷ y)) =
    simp append_assoc at e in
    let r = same_piece c.piece d.piece _ _ pc.0.0 pd.0.0 (break_mark c.fill (208 + c.mark) x (of_mark c.mark pc.0.1).1)
    (break_mark d.fill (208 + d.mark) y (of_mark d.mark pd.0.1).1) f in
    let q = same_mark c.fill d.fill (208 + c.mark) (208 + d.mark) x y (λ g. omega (arith, pc.0.1)) (λ g. omega (arith, pd.0.1)) r.1 in
    let m : c.mark ≡ d.mark = omega (arith, q.1) in
    let i = same cs ds u v s t pc.1 pd.1 pu pv ps pt q.2 in
    let here : c ≡ d = closed_eq c d r.0 q.0 m in let there : cs ≡ ds = i.0 in
    (cc, i.1, i.2)

abbrev cut_from : List ClosedPiece → List ℕ → ScanEnd → ScanCut
cut_from cs w s = record { closed = cs; last = w; end = s }

cut_eq : (c d : ScanCut) → c.closed ≡ d.closed → c.last ≡ d.last → c.end ≡ d.end → c ≡ d
cut_eq c d e f g =
    ap (λ cs. cut_from cs c.last c.end) e ∙ ap (λ w. cut_from d.closed w c.end) f ∙ ap (λ s. cut_from d.closed d.last s) g

pub same_cut : (bytes : List ℕ) (c d : ScanCut) → IsCut bytes c → IsCut bytes d → c ≡ d
same_cut bytes c d p q =
    let r = same c.closed d.closed c.last d.last c.end d.end p.each q.each p.last q.last p.end q.end (sym p.whole ∙ q.whole) in
    cut_eq c d r.0 r.1 r.2

-- the cut of one byte more, whatever it is
cut_open : (bytes : List ℕ) (closed : List ClosedPiece) (last : List ℕ) (n b : ℕ) → IsCut bytes (open_cut closed last n)
    → (d : ScanCut) × IsCut (bytes ++ b ∷ []) d
cut_open bytes closed last zero b h =
    elim (cases_eq b 255) [
      | inl e ↦ (open_cut closed last 1, rw e (cut_fill bytes closed last 0 h))
      | inr e ↦ (open_cut closed (last ++ (fill_bytes 0 ++ (b ∷ []))) 0, cut_more bytes closed last 0 b h e (λ k. absurd (omega arith)))
    ]
cut_open bytes closed last (suc n) b h = after (cases_eq b 255) (cases_Bool (is_restart_code b)) (cases_Bool (ends_scan_data b))
  where
    after : (b ≡ 255) ⊎ (b ≢ 255) → (is_restart_code b ≡ true) ⊎ (is_restart_code b ≡ false)
        → (ends_scan_data b ≡ true) ⊎ (ends_scan_data b ≡ false)
        → (d : ScanCut) × IsCut (bytes ++ b ∷ []) d
    after (inl e) r s = (open_cut closed last (suc (suc n)), rw e (cut_fill bytes closed last (suc n) h))
    after (inr e) (inl r) s =
        let low : b - 208 < 8 = grind (arith, nat_tests) in let back : 208 + (b - 208) ≡ b = grind (arith, nat_tests) in (
          _,
          subst (λ x. IsCut (bytes ++ x ∷ []) (open_cut (closed ++ (closed_of last n (b - 208)) ∷ []) [] 0)) back
              (cut_mark bytes closed last n (b - 208) h low),
        )
    after (inr e) (inr r) (inl s) = (ended_cut closed last n b [], cut_end bytes closed last n b h s)
    after (inr e) (inr r) (inr s) =
        (open_cut closed (last ++ (fill_bytes (suc n) ++ (b ∷ []))) 0, cut_more bytes closed last (suc n) b h e (λ k. rw (r, s) refl))

-- bytes that are cut are cut with one byte more
cut_step : (bytes : List ℕ) (c : ScanCut) (b : ℕ) → IsCut bytes c → (d : ScanCut) × IsCut (bytes ++ b ∷ []) d
cut_step bytes c b h = at c.closed c.last c.end h
  where
    at : (closed : List ClosedPiece) (last : List ℕ) (s : ScanEnd) → IsCut bytes (cut_from closed last s)
        → (d : ScanCut) × IsCut (bytes ++ b ∷ []) d
    at closed last (at_input n) k = cut_open bytes closed last n b k
    at closed last (at_marker n code more) k = (ended_cut closed last n code (more ++ b ∷ []), cut_after bytes closed last n code b more k)

-- bytes that are cut are cut with more bytes
cut_onward : (before bytes : List ℕ) (c : ScanCut) → IsCut before c → (d : ScanCut) × IsCut (before ++ bytes) d
cut_onward before [] c h = (c, rw append-nil h)
cut_onward before (b ∷ bytes) c h =
    let next = cut_step before c b h in
    let rest = cut_onward (before ++ b ∷ []) bytes next.0 next.1 in
    (rest.0, rw append_assoc at rest.1)

pub one_cut : OneCut
one_cut bytes = let c = cut_onward [] bytes (open_cut [] [] 0) cut_none in (c.0, c.1, λ d k. same_cut bytes d c.0 k c.1)
