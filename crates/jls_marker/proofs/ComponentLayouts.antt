-- The layouts of SOF55 and SOS, which list components, agree with what reads them.
use Rattle.std.proofs.Common.{◌≡◌, ℕ, zero, suc, ◌+◌, ◌*◌, ◌<◌, ◌≤◌, ◌^◌, Bool, true, eqb, List, [], ◌∷◌, ◌++◌}
use Rattle.std.proofs.Common.{length, take, drop, get_or, Option, Some, refl, sym, ap, subst, ◌∙◌, arith, length-append}
use Rattle.std.proofs.Common.{length-drop}
use Rattle.std.specs.Prelude.{◌&&◌, nat_le}
use Rattle.std.specs.List.{flat_map}
use Rattle.std.specs.Int.{w16, to_be_bytes, from_be_bytes}
use Rattle.std.proofs.Math.Seq.{take-append_seam}
use Rattle.std.proofs.lemmas.Bool.{eqb-true, eq-eqb, leb-true, le-leb, and_parts, and_from}
use Rattle.std.proofs.lemmas.List.{get_or-append-add, get_or-drop, take-append-drop, length-take}
use Rattle.std.proofs.lemmas.Nat.{from_be_bytes-to_be_bytes_2}
use Rattle.jls_marker.specs.Layouts.{FrameComponent, FrameHeader, frame_component_bytes, frame_header_bytes, HasFrameLayout}
use Rattle.jls_marker.specs.Layouts.{frame_components, frame_header, ScanComponent, ScanHeader, scan_component_bytes, scan_header_bytes}
use Rattle.jls_marker.specs.Layouts.{HasScanLayout, scan_components, scan_header}
use Rattle.jls_marker.specs.SegmentLaws.{AreBytes}
use Rattle.jls_marker.proofs.Layouts.{if_some, if_true, u16_of, word_again, word_below}

-- ---- SOF55

-- from bytes of three times their number
frame_components_of : (n : ℕ) (xs : List ℕ) → length xs ≡ 3 * n
    → (length (frame_components xs) ≡ n) × (flat_map frame_component_bytes (frame_components xs) ≡ xs)
frame_components_of zero [] e = (refl, refl)
frame_components_of zero (x ∷ xs) e = absurd (omega arith)
frame_components_of (suc n) [] e = absurd (omega arith)
frame_components_of (suc n) (a ∷ []) e = absurd (omega arith)
frame_components_of (suc n) (a ∷ b ∷ []) e = absurd (omega arith)
frame_components_of (suc n) (a ∷ b ∷ c ∷ xs) e =
    let r = frame_components_of n xs (omega arith) in
    (ap suc r.0, ap (λ (t : List ℕ). a ∷ b ∷ c ∷ t) r.1)

pub frame_components_again : (cs : List FrameComponent) → frame_components (flat_map frame_component_bytes cs) ≡ cs
frame_components_again [] = refl
frame_components_again (c ∷ cs) = ap (λ (t : List FrameComponent). c ∷ t) (frame_components_again cs)

-- a component of a frame header has three bytes
length-frame_bytes : (cs : List FrameComponent) → length (flat_map frame_component_bytes cs) ≡ 3 * length cs
length-frame_bytes [] = refl
length-frame_bytes (c ∷ cs) = let r = length-frame_bytes cs in omega arith

abbrev frame_made : ℕ → ℕ → ℕ → List FrameComponent → Option FrameHeader
frame_made p y x cs = Some (record { precision = p; height = y; width = x; components = cs })

-- the bytes of a frame header are read as that header
pub frame_header_again : (h : FrameHeader) → h.height < 2 ^ 16 → h.width < 2 ^ 16 → frame_header (frame_header_bytes h) ≡ Some h
frame_header_again h p q =
    let body = flat_map frame_component_bytes h.components in
    if_true (eqb (length body) (3 * length h.components)) _ _ (eq-eqb _ _ (length-frame_bytes h.components))
    ∙ ap (λ (y : ℕ). frame_made h.precision y (from_be_bytes w16 (to_be_bytes w16 h.width)) (frame_components body))
    (from_be_bytes-to_be_bytes_2 h.height p)
    ∙ ap (λ (x : ℕ). frame_made h.precision h.height x (frame_components body)) (from_be_bytes-to_be_bytes_2 h.width q)
    ∙ ap (λ (cs : List FrameComponent). frame_made h.precision h.height h.width cs) (frame_components_again h.components)

-- bytes of a frame header's length have its layout, with the fields at their places
frame_layout : (p y1 y0 x1 x0 n : ℕ) (body : List ℕ) → AreBytes (p ∷ y1 ∷ y0 ∷ x1 ∷ x0 ∷ n ∷ body) → length body ≡ 3 * n
    → HasFrameLayout (p ∷ y1 ∷ y0 ∷ x1 ∷ x0 ∷ n ∷ body)
    (record { precision = p; height = u16_of y1 y0; width = u16_of x1 x0; components = frame_components body })
frame_layout p y1 y0 x1 x0 n body b e =
    let cs = frame_components body in
    let fy1 = b.1.0 in
    let fy0 = b.1.1.0 in
    let fx1 = b.1.1.1.0 in
    let fx0 = b.1.1.1.1.0 in
    let rest = flat_map frame_component_bytes cs in
    record {
      bytes =
          sym (ap (λ (t : List ℕ). p ∷ (t ++ (to_be_bytes w16 (u16_of x1 x0) ++ (length cs ∷ rest)))) (word_again y1 y0 fy1 fy0)
          ∙ ap (λ (t : List ℕ). p ∷ y1 ∷ y0 ∷ (t ++ (length cs ∷ rest))) (word_again x1 x0 fx1 fx0)
          ∙ ap (λ (k : ℕ). p ∷ y1 ∷ y0 ∷ x1 ∷ x0 ∷ k ∷ rest) (frame_components_of n body e).0
          ∙ ap (λ (t : List ℕ). p ∷ y1 ∷ y0 ∷ x1 ∷ x0 ∷ n ∷ t) (frame_components_of n body e).1);
      height_below = word_below y1 y0 fy1 fy0;
      width_below = word_below x1 x0 fx1 fx0;
    }

-- what is read as a frame header has its layout
pub frame_header_there : (payload : List ℕ) (h : FrameHeader) → AreBytes payload → frame_header payload ≡ Some h → HasFrameLayout payload h
frame_header_there [] h b e = absurd cc
frame_header_there (p ∷ []) h b e = absurd cc
frame_header_there (p ∷ y1 ∷ []) h b e = absurd cc
frame_header_there (p ∷ y1 ∷ y0 ∷ []) h b e = absurd cc
frame_header_there (p ∷ y1 ∷ y0 ∷ x1 ∷ []) h b e = absurd cc
frame_header_there (p ∷ y1 ∷ y0 ∷ x1 ∷ x0 ∷ []) h b e = absurd cc
frame_header_there (p ∷ y1 ∷ y0 ∷ x1 ∷ x0 ∷ n ∷ body) h b e =
    let g = if_some (eqb (length body) (3 * n)) _ h e in
    subst (HasFrameLayout (p ∷ y1 ∷ y0 ∷ x1 ∷ x0 ∷ n ∷ body)) g.1 (frame_layout p y1 y0 x1 x0 n body b (eqb-true _ _ g.0))

pub frame_header_of : (payload : List ℕ) (h : FrameHeader) → HasFrameLayout payload h → frame_header payload ≡ Some h
frame_header_of payload h l = ap frame_header l.bytes ∙ frame_header_again h l.height_below l.width_below

-- ---- SOS

-- from bytes of twice their number
scan_components_of : (n : ℕ) (xs : List ℕ) → length xs ≡ 2 * n
    → (length (scan_components xs) ≡ n) × (flat_map scan_component_bytes (scan_components xs) ≡ xs)
scan_components_of zero [] e = (refl, refl)
scan_components_of zero (x ∷ xs) e = absurd (omega arith)
scan_components_of (suc n) [] e = absurd (omega arith)
scan_components_of (suc n) (a ∷ []) e = absurd (omega arith)
scan_components_of (suc n) (a ∷ b ∷ xs) e =
    let r = scan_components_of n xs (omega arith) in
    (ap suc r.0, ap (λ (t : List ℕ). a ∷ b ∷ t) r.1)

scan_components_again : (cs : List ScanComponent) → scan_components (flat_map scan_component_bytes cs) ≡ cs
scan_components_again [] = refl
scan_components_again (c ∷ cs) = ap (λ (t : List ScanComponent). c ∷ t) (scan_components_again cs)

length-scan_bytes : (cs : List ScanComponent) → length (flat_map scan_component_bytes cs) ≡ 2 * length cs
length-scan_bytes [] = refl
length-scan_bytes (c ∷ cs) = let r = length-scan_bytes cs in omega arith

abbrev scan_made : List ℕ → ℕ → ℕ → ℕ → Option ScanHeader
scan_made xs a b c = Some (record { components = scan_components xs; near = a; interleave = b; approximation = c })

abbrev scan_test : ℕ → ℕ → Bool
scan_test n l = nat_le 1 n && (nat_le n 4 && eqb l (2 * n + 3))

-- the bytes of a scan header are read as that header
pub scan_header_again : (h : ScanHeader) → 1 ≤ length h.components → length h.components ≤ 4 → scan_header (scan_header_bytes h) ≡ Some h
scan_header_again h p q =
    let n = length h.components in
    let xs = flat_map scan_component_bytes h.components in
    let tail = h.near ∷ h.interleave ∷ h.approximation ∷ [] in
    let len : length xs ≡ 2 * n = length-scan_bytes h.components in
    let whole : length (xs ++ tail) ≡ 2 * n + 3 = length-append xs tail ∙ omega arith in
    let test : scan_test n (length (xs ++ tail)) ≡ true = and_from _ _ (le-leb _ _ p) (and_from _ _ (le-leb _ _ q) (eq-eqb _ _ whole)) in
    let prefix : take (2 * n) (xs ++ tail) ≡ xs = ap (λ (k : ℕ). take k (xs ++ tail)) (sym len) ∙ take-append_seam xs tail in
    let at0 : get_or (xs ++ tail) (2 * n) 0 ≡ h.near = ap (λ (k : ℕ). get_or (xs ++ tail) k 0) (omega (arith, len))
    ∙ get_or-append-add xs tail 0 0 in
    let at1 : get_or (xs ++ tail) (2 * n + 1) 0 ≡ h.interleave = ap (λ (k : ℕ). get_or (xs ++ tail) k 0) (omega (arith, len))
    ∙ get_or-append-add xs tail 1 0 in
    let at2 : get_or (xs ++ tail) (2 * n + 2) 0 ≡ h.approximation = ap (λ (k : ℕ). get_or (xs ++ tail) k 0) (omega (arith, len))
    ∙ get_or-append-add xs tail 2 0 in
    if_true (scan_test n (length (xs ++ tail))) _ _ test
    ∙ ap (λ (t : List ℕ). scan_made t (get_or (xs ++ tail) (2 * n) 0) (get_or (xs ++ tail) (2 * n + 1) 0)
    (get_or (xs ++ tail) (2 * n + 2) 0)) prefix
    ∙ ap (λ (a : ℕ). scan_made xs a (get_or (xs ++ tail) (2 * n + 1) 0) (get_or (xs ++ tail) (2 * n + 2) 0)) at0
    ∙ ap (λ (a : ℕ). scan_made xs h.near a (get_or (xs ++ tail) (2 * n + 2) 0)) at1
    ∙ ap (λ (a : ℕ). scan_made xs h.near h.interleave a) at2
    ∙ ap (λ (cs : List ScanComponent). scan_with cs) (scan_components_again h.components)
  where
    scan_with : List ScanComponent → Option ScanHeader
    scan_with cs = Some (record { components = cs; near = h.near; interleave = h.interleave; approximation = h.approximation })

-- three bytes are the first, the second and the third of them
three_of : (xs : List ℕ) → length xs ≡ 3 → xs ≡ get_or xs 0 0 ∷ get_or xs 1 0 ∷ get_or xs 2 0 ∷ []
three_of [] e = absurd (omega arith)
three_of (a ∷ []) e = absurd (omega arith)
three_of (a ∷ b ∷ []) e = absurd (omega arith)
three_of (a ∷ b ∷ c ∷ []) e = refl
three_of (a ∷ b ∷ c ∷ d ∷ xs) e = absurd (omega arith)

-- bytes of a scan header's length have its layout, with the fields at their places
scan_layout : (n : ℕ) (body : List ℕ) → 1 ≤ n → n ≤ 4 → length body ≡ 2 * n + 3
    → HasScanLayout (n ∷ body) (record {
      components = scan_components (take (2 * n) body);
      near = get_or body (2 * n) 0;
      interleave =
          get_or body (2 * n + 1) 0;
      approximation = get_or body (2 * n + 2) 0;
    })
scan_layout n body p q e =
    let xs = take (2 * n) body in
    let tail = drop (2 * n) body in
    let cs = scan_components xs in
    let len : length xs ≡ 2 * n = length-take (2 * n) body ∙ omega arith in
    let count : length cs ≡ n = (scan_components_of n xs len).0 in
    let last : tail ≡ get_or tail 0 0 ∷ get_or tail 1 0 ∷ get_or tail 2 0 ∷ [] = three_of tail (length-drop (2 * n) body ∙ omega arith) in
    let at0 : get_or tail 0 0 ≡ get_or body (2 * n) 0 = get_or-drop (2 * n) body 0 0 ∙ ap (λ (k : ℕ). get_or body k 0) (omega arith) in
    let at1 : get_or tail 1 0 ≡ get_or body (2 * n + 1) 0 = get_or-drop (2 * n) body 1 0 in
    let at2 : get_or tail 2 0 ≡ get_or body (2 * n + 2) 0 = get_or-drop (2 * n) body 2 0 in
    let following : tail ≡ get_or body (2 * n) 0 ∷ get_or body (2 * n + 1) 0 ∷ get_or body (2 * n + 2) 0 ∷ [] =
    last ∙ ap (λ (a : ℕ). a ∷ get_or tail 1 0 ∷ get_or tail 2 0 ∷ []) at0
    ∙ ap (λ (a : ℕ). get_or body (2 * n) 0 ∷ a ∷ get_or tail 2 0 ∷ []) at1
    ∙ ap (λ (a : ℕ). get_or body (2 * n) 0 ∷ get_or body (2 * n + 1) 0 ∷ a ∷ []) at2 in
    record {
      bytes =
          sym (ap (λ (k : ℕ). k ∷ (flat_map scan_component_bytes cs
          ++ (get_or body (2 * n) 0 ∷ get_or body (2 * n + 1) 0 ∷ get_or body (2 * n + 2) 0 ∷ []))) count
          ∙ ap (λ (t : List ℕ). n ∷ (t ++ (get_or body (2 * n) 0 ∷ get_or body (2 * n + 1) 0 ∷ get_or body (2 * n + 2) 0 ∷ [])))
          (scan_components_of n xs len).1
          ∙ ap (λ (t : List ℕ). n ∷ (xs ++ t)) (sym following)
          ∙ ap (λ (t : List ℕ). n ∷ t) (take-append-drop (2 * n) body));
      components_at_least = omega (arith, count);
      components_at_most = omega (arith, count);
    }

-- what is read as a scan header has its layout
pub scan_header_there : (payload : List ℕ) (h : ScanHeader) → scan_header payload ≡ Some h → HasScanLayout payload h
scan_header_there [] h e = absurd cc
scan_header_there (n ∷ body) h e =
    let g = if_some (scan_test n (length body)) _ h e in
    let a = and_parts _ _ g.0 in
    let b = and_parts _ _ a.1 in
    subst (HasScanLayout (n ∷ body)) g.1 (scan_layout n body (leb-true _ _ a.0) (leb-true _ _ b.0) (eqb-true _ _ b.1))

pub scan_header_of : (payload : List ℕ) (h : ScanHeader) → HasScanLayout payload h → scan_header payload ≡ Some h
scan_header_of payload h l = ap scan_header l.bytes ∙ scan_header_again h l.components_at_least l.components_at_most
