-- A segment, byte after byte, over what a reader's place tells.
use Rattle.std.proofs.Common.{◌≡◌, ℕ, ◌+◌, ◌*◌, ◌/◌, ◌%◌, ◌^◌, ◌<◌, ◌≤◌, ◌≢◌, Bool, true, false, cond, List, [], ◌∷◌, ◌++◌, length, Option}
use Rattle.std.proofs.Common.{Some, None, Result, Ok, Err, refl, sym, ◌∙◌, ap, subst, append_assoc, arith, inl, length-append}
use Rattle.std.specs.Prelude.{◌==◌, nat_lt}
use Rattle.std.proofs.lemmas.List.{append-nil}
use Rattle.std.proofs.lemmas.Bool.Decides.{nat_tests}
use Rattle.jls_copy.specs.ScanData.{fill_bytes, ends_scan_data}
use Rattle.jls_marker.specs.HeaderState.{HeaderState}
use Rattle.jls_marker.specs.Scan.{Scan}
use Rattle.jls_marker.specs.MarkerCodes.{has_segment}
use Rattle.jls_marker.specs.Headers.{headers_after}
use Rattle.jls_copy.specs.Pieces.{FoundPiece}
use Rattle.jls_copy.specs.Course.{CopyUnit, segment, segment_unit_bytes, EndsHere, at_eoi, at_eoi_before_a_frame, at_no_marker}
use Rattle.jls_copy.specs.Course.{at_unknown_code, at_short_length, at_refused_segment}
use Rattle.jls_copy.specs.ReaderState.{Step, segment_taken, length_known, payload_grown}
use Rattle.jls_copy.specs.Tells.{Passed, passed_segment, AtSegment, Follows, EndedAt, ended, without_soi, without_ff, Tells}
use Rattle.jls_marker.specs.declared.fault.MarkerFault.{MarkerFault}
use Rattle.jls_marker.specs.declared.fault.MarkerFault.TheVariants as fault
use Rattle.jls_copy.specs.declared.end.End.{End}
use Rattle.jls_copy.specs.declared.end.End.TheVariants.{Eoi, Header}
use Rattle.jls_marker.specs.declared.profile.Profile.{Profile}

abbrev TellsStep : (profile : Profile) → Step → List FoundPiece → List ℕ → Type 0
TellsStep profile s ps x = Tells profile s.place s.headers s.payload ps x

-- a step by a test tells what each of its two steps tells
cond_tells : (profile : Profile) (b : Bool) (s t : Step) (ps : List FoundPiece) (x : List ℕ) → (b ≡ true → TellsStep profile s ps x)
    → (b ≡ false → TellsStep profile t ps x)
    → TellsStep profile (cond b s t) ps x
cond_tells profile true s t ps x p q = p refl
cond_tells profile false s t ps x p q = q refl

module _ (profile : Profile) (before : List ℕ) (h : HeaderState) (us : List CopyUnit) (ps : List FoundPiece) (following : Bool)
    (passed : Passed profile before h us ps following)
    (fill code : ℕ) (known : has_segment code ≡ true) (follows : following ≡ true → ends_scan_data code ≡ true) where
  -- the place tells of a segment up to these bytes after its marker
  pub at_segment : (x tail : List ℕ) (marker : ℕ) → x ≡ before ++ (fill_bytes fill ++ (255 ∷ code ∷ tail)) → marker ≡ length before + fill
      → AtSegment profile marker code h ps x tail
  at_segment x tail marker w m = record {
    before = before;
    fill = fill;
    following = following;
    units = us;
    passed = passed;
    whole = w;
    marker_at = m;
    known = known;
    follows = follows;
  }

  -- a whole segment
  taken : (payload x : List ℕ) (count marker : ℕ) → x ≡ before ++ segment_unit_bytes fill code payload → length payload + 2 < 2 ^ 16
      → count + 1 ≡ length x → marker ≡ length before + fill
      → (r : Result (HeaderState × Option Scan) MarkerFault) → headers_after h code payload ≡ r
      → TellsStep profile (segment_taken count h payload marker r) ps x
  taken payload x count marker w small c m (Err f) e =
      rw m (ended before h us ps following (segment_unit_bytes fill code payload) x _ passed w (λ k. (fill, code, _, refl, follows k))
      (subst (λ y. EndsHere h (length before) y (Header f (length before + fill))) (append-nil (segment_unit_bytes fill code payload))
      (at_refused_segment h (length before) fill code payload [] f (known, small) e)))
  taken payload x count marker w small c m (Ok (after, None)) e = (
    us ++ segment fill code payload ∷ [],
    passed_segment before h us ps following passed fill code payload after x known small follows e w,
  )
  taken payload x count marker w small c m (Ok (after, Some s)) e =
      let at : count + 1 ≡ length before + length (segment_unit_bytes fill code payload) = c ∙ ap length w
      ∙ length-append before (segment_unit_bytes fill code payload) in
      record {
        before = before;
        old = h;
        units = us;
        earlier = ps;
        following = following;
        passed = passed;
        fill = fill;
        code = code;
        payload = payload;
        known = known;
        size = small;
        follows = follows;
        plan_is = e;
        index_is = refl;
        closed = [];
        each = tt;
        piece = [];
        piece_is = tt;
        prefix = [];
        pieces_are = λ y. rw at refl;
        given_is = refl;
        offset_is = omega (arith, at);
        here = [];
        here_alike = tt;
        fed_as = inl refl;
        fed_is = ([], refl);
        held = 0;
        held_is = refl;
        found_are = sym (append-nil ps);
        whole = w ∙ ap (λ y. before ++ y) (sym (append-nil (segment_unit_bytes fill code payload)));
      }

  -- the second byte of a length
  length_tells : (x : List ℕ) (count marker high b : ℕ) → high < 256 → b < 256
      → x ≡ before ++ (fill_bytes fill ++ (255 ∷ code ∷ high ∷ b ∷ [])) → count + 1 ≡ length x → marker ≡ length before + fill
      → TellsStep profile (length_known count h marker code (256 * high + b)) ps x
  length_tells x count marker high b lh lb w c m =
      cond_tells profile (nat_lt (256 * high + b) 2) _ _ ps x
      (λ t. let low : 256 * high + b < 2 = grind (arith, nat_tests) in
      rw m (ended before h us ps following _ x _ passed w (λ k. (fill, code, _, refl, follows k))
      (at_short_length h (length before) fill code high b [] known low)))
      (λ t. let long : 2 ≤ 256 * high + b = grind (arith, nat_tests) in
      cond_tells profile (256 * high + b == 2) _ _ ps x
      (λ u. let two : 256 * high + b ≡ 2 = grind (arith, nat_tests) in
      let hz : high ≡ 0 = omega arith in
      let bz : b ≡ 2 = omega arith in
      taken [] x count marker (rw (hz, bz) at w) (omega arith) c m (headers_after h code []) refl)
      (λ u. let more : 256 * high + b ≢ 2 = grind (arith, nat_tests) in
      let dh : (256 * high + b) / 256 ≡ high = omega arith in
      let db : (256 * high + b) % 256 ≡ b = omega arith in (omega arith, omega arith, at_segment x _ marker (rw (dh, db) w) m)))

  -- one byte more of a payload
  payload_tells : (x payload : List ℕ) (count marker size : ℕ)
      → x ≡ before ++ (fill_bytes fill ++ (255 ∷ code ∷ size / 256 ∷ size % 256 ∷ payload)) → length payload + 2 ≤ size → size < 2 ^ 16
      → count + 1 ≡ length x → marker ≡ length before + fill → TellsStep profile (payload_grown count h payload marker code size) ps x
  payload_tells x payload count marker size w within small c m =
      cond_tells profile (length payload + 2 == size) _ _ ps x
      (λ t. let e : length payload + 2 ≡ size = grind (arith, nat_tests) in
      taken payload x count marker (rw e w) (omega arith) c m (headers_after h code payload) refl)
      (λ t. let e : length payload + 2 ≢ size = grind (arith, nat_tests) in (omega arith, small, at_segment x _ marker w m))

  -- the second byte of the length
  pub length_more : (x : List ℕ) (count marker high b : ℕ) → high < 256 → b < 256
      → x ≡ before ++ (fill_bytes fill ++ (255 ∷ code ∷ high ∷ [])) → count ≡ length x → marker ≡ length before + fill
      → TellsStep profile (length_known count h marker code (256 * high + b)) ps (x ++ b ∷ [])
  length_more x count marker high b lh lb w c m =
      length_tells (x ++ b ∷ []) count marker high b lh lb (rw w (simp append_assoc refl)) (omega (arith, length-append x (b ∷ []))) m

  -- a byte more of a payload
  pub payload_more : (x payload : List ℕ) (count marker size b : ℕ)
      → x ≡ before ++ (fill_bytes fill ++ (255 ∷ code ∷ size / 256 ∷ size % 256 ∷ payload)) → length payload + 2 < size → size < 2 ^ 16
      → count ≡ length x → marker ≡ length before + fill
      → TellsStep profile (payload_grown count h (payload ++ b ∷ []) marker code size) ps (x ++ b ∷ [])
  payload_more x payload count marker size b w within small c m =
      payload_tells (x ++ b ∷ []) (payload ++ b ∷ []) count marker size (rw w (simp append_assoc refl))
      (omega (arith, length-append payload (b ∷ []))) small (omega (arith, length-append x (b ∷ []))) m

-- what ended stays ended
stops_on : (h : HeaderState) (at b : ℕ) (x : List ℕ) (e : End) → EndsHere h at x e → EndsHere h at (x ++ b ∷ []) e
stops_on _ _ b _ _ (at_eoi h at n more p) =
    subst (λ y. EndsHere h at y (Eoi (at + n))) (simp append_assoc refl) (at_eoi h at n (more ++ b ∷ []) p)
stops_on _ _ b _ _ (at_eoi_before_a_frame h at n more p) =
    subst (λ y. EndsHere h at y (Header fault.NoFrame (at + n))) (simp append_assoc refl) (at_eoi_before_a_frame h at n (more ++ b ∷ []) p)
stops_on _ _ b _ _ (at_no_marker h at c more p) = at_no_marker h at c (more ++ b ∷ []) p
stops_on _ _ b _ _ (at_unknown_code h at n code more p q r) =
    subst (λ y. EndsHere h at y (Header fault.UnknownMarker (at + n))) (simp append_assoc refl)
    (at_unknown_code h at n code (more ++ b ∷ []) p q r)
stops_on _ _ b _ _ (at_short_length h at n code u v more p q) =
    subst (λ y. EndsHere h at y (Header fault.Length (at + n))) (simp append_assoc refl)
    (at_short_length h at n code u v (more ++ b ∷ []) p q)
stops_on _ _ b _ _ (at_refused_segment h at n code payload more f p r) =
    subst (λ y. EndsHere h at y (Header f (at + n))) (sym (append_assoc (segment_unit_bytes n code payload) more (b ∷ [])))
    (at_refused_segment h at n code payload (more ++ b ∷ []) f p r)

follows_on : (following : Bool) (tail : List ℕ) (b : ℕ) → Follows following tail → Follows following (tail ++ b ∷ [])
follows_on following tail b f = λ k. let g = f k in (g.0, g.1, g.2 ++ b ∷ [], rw g.3 (simp append_assoc refl), g.4)

-- a byte more after the end
pub ended_more : (profile : Profile) (e : End) (h : HeaderState) (ps : List FoundPiece) (x : List ℕ) (b : ℕ) → EndedAt profile e h ps x
    → EndedAt profile e h ps (x ++ b ∷ [])
ended_more profile _ _ _ _ b (ended before h us ps following tail x e p w f s) =
    ended before h us ps following (tail ++ b ∷ []) (x ++ b ∷ []) e p (rw w (simp append_assoc refl)) (follows_on following tail b f)
    (stops_on h (length before) b tail e s)
ended_more profile _ _ _ _ b (without_soi n code more x p q w) =
    without_soi n code (more ++ b ∷ []) (x ++ b ∷ []) p q (rw w (simp append_assoc refl))
ended_more profile _ _ _ _ b (without_ff c more x p w) = without_ff c (more ++ b ∷ []) (x ++ b ∷ []) p (rw w refl)
