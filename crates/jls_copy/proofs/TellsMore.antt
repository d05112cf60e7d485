-- Each byte leads a reader on: its place tells the course of the bytes so far.
use Rattle.std.proofs.Common.{◌≡◌, ℕ, zero, suc, ◌+◌, ◌-◌, ◌≢◌, Bool, true, false, List, [], ◌∷◌, ◌++◌, length, refl, sym, ◌∙◌, ap, subst}
use Rattle.std.proofs.Common.{arith, ◌⊎◌, inl, inr}
use Rattle.std.specs.Prelude.{is_some, ◌==◌}
use Rattle.std.proofs.lemmas.List.{append-nil}
use Rattle.std.proofs.lemmas.Bool.Decides.{nat_tests}
use Rattle.jls_copy.specs.ScanData.{fill_bytes, ends_scan_data}
use Rattle.jls_marker.specs.HeaderState.{HeaderState, no_headers_under}
use Rattle.jls_marker.specs.MarkerCodes.{has_segment}
use Rattle.jls_copy.specs.Pieces.{FoundPiece}
use Rattle.jls_copy.specs.Course.{CopyUnit, at_eoi, at_eoi_before_a_frame, at_no_marker, at_unknown_code}
use Rattle.jls_copy.specs.ReaderState.{from_start, from_marker}
use Rattle.jls_copy.specs.Tells.{Passed, passed_soi, Follows, ended, without_soi, without_ff, Tells}
use Rattle.jls_copy.proofs.OneMoreByte.{fills_more}
use Rattle.jls_marker.specs.declared.profile.Profile.{Profile}

-- one more fill byte at the end
pub fill_snoc : (n : ℕ) → fill_bytes n ++ 255 ∷ [] ≡ fill_bytes (suc n)
fill_snoc n = fills_more n [] ∙ append-nil _

pub fill_length : (n : ℕ) → length (fill_bytes n) ≡ n
fill_length zero = refl
fill_length (suc n) = ap suc (fill_length n)

not_fill : (b : ℕ) → b ≢ 255 → (b == 255) ≡ false
not_fill b ne = grind (arith, nat_tests)

-- before SOI
pub start_more : (profile : Profile) (payload : List ℕ) (b : ℕ) → (b ≡ 255) ⊎ (b ≢ 255)
    → Tells profile (from_start false 0 b) (no_headers_under profile) payload [] (b ∷ [])
start_more profile payload b (inl e) = rw e (0, refl, refl, refl)
start_more profile payload b (inr ne) = rw (not_fill b ne) (without_ff b [] (b ∷ []) ne refl)

-- a byte more after the fill bytes at the start
pub start_fill_more : (profile : Profile) (payload : List ℕ) (n b count : ℕ) → count ≡ suc n → (b ≡ 255) ⊎ (b ≢ 255) → (b ≡ 216) ⊎ (b ≢ 216)
    → Tells profile (from_start true count b) (no_headers_under profile) payload [] (fill_bytes (suc n) ++ b ∷ [])
start_fill_more profile payload n b count c (inl e) q = rw e (suc n, fill_snoc (suc n), refl, refl)
start_fill_more profile payload n b count c (inr ne) (inl e) = rw e ([], passed_soi n _ (sym (fills_more n (216 ∷ []))))
start_fill_more profile payload n b count c (inr ne) (inr q) =
    let f : (b == 216) ≡ false = grind (arith, nat_tests) in
    let at : count - 1 ≡ n = omega arith in
    rw (not_fill b ne, f, at) (without_soi n b [] _ ne q (sym (fills_more n (b ∷ []))))

-- where a marker may begin, with no fill byte
module _ (profile : Profile) (before : List ℕ) (h : HeaderState) (us : List CopyUnit) (ps : List FoundPiece) where
  none_follows : (tail : List ℕ) → Follows false tail
  none_follows tail = λ e. cc

  -- a byte more where a marker may begin
  pub marker_more : (payload : List ℕ) (b count : ℕ) → Passed profile before h us ps false → count ≡ length before → (b ≡ 255) ⊎ (b ≢ 255)
      → Tells profile (from_marker false (is_some h.frame) count b) h payload ps (before ++ b ∷ [])
  marker_more payload b count p c (inl e) = rw e (0, before, us, p, refl)
  marker_more payload b count p c (inr ne) =
      rw (not_fill b ne, c) (ended before h us ps false (b ∷ []) _ _ p refl (none_follows (b ∷ []))
      (at_no_marker h (length before) b [] ne))

  -- after fill bytes; after scan data only a marker that ends it is there
  pub fill_marker_more : (following : Bool) (payload : List ℕ) (n b count : ℕ) → Passed profile before h us ps following
      → count ≡ length before
      + suc n
      → (following ≡ true → ends_scan_data b ≡ true)
      → (b ≡ 255) ⊎ (b ≢ 255) → (b ≡ 217) ⊎ (b ≢ 217) → (is_some h.frame ≡ true) ⊎ (is_some h.frame ≡ false) → (has_segment b ≡ true)
      ⊎ (has_segment b ≡ false) → (following ≡ true) ⊎ (following ≡ false)
      → Tells profile (from_marker true (is_some h.frame) count b) h payload ps (before ++ (fill_bytes (suc n) ++ b ∷ []))
  fill_marker_more following payload n b count p c fol (inl e) q r s (inl t) =
      absurd (let k : ends_scan_data b ≡ true = fol t in let l : ends_scan_data 255 ≡ true = rw e at k in (cc))
  fill_marker_more following payload n b count p c fol (inl e) q r s (inr t) =
      rw e (suc n, before, us, subst (Passed profile before h us ps) t p, ap (λ x. before ++ x) (fill_snoc (suc n)))
  fill_marker_more following payload n b count p c fol (inr ne) (inl e) (inl r) s t =
      let at : count - 1 ≡ length before + n = omega arith in
      rw (e, r, at, ← fills_more n (217 ∷ []))
      (ended before h us ps following (fill_bytes n ++ (255 ∷ 217 ∷ [])) _ _ p refl (λ k. (n, 217, [], refl, refl))
      (at_eoi h (length before) n [] r))
  fill_marker_more following payload n b count p c fol (inr ne) (inl e) (inr r) s t =
      let at : count - 1 ≡ length before + n = omega arith in
      rw (e, r, at, ← fills_more n (217 ∷ []))
      (ended before h us ps following (fill_bytes n ++ (255 ∷ 217 ∷ [])) _ _ p refl (λ k. (n, 217, [], refl, refl))
      (at_eoi_before_a_frame h (length before) n [] r))
  fill_marker_more following payload n b count p c fol (inr ne) (inr q) r (inl s) t =
      let at : count - 1 ≡ length before + n = omega arith in
      let f : (b == 217) ≡ false = grind (arith, nat_tests) in
      rw (not_fill b ne, f, s, at) (record {
        before = before;
        fill = n;
        following = following;
        units = us;
        passed = p;
        whole = ap (λ x. before ++ x) (sym (fills_more n (b ∷ [])));
        marker_at = refl;
        known = s;
        follows = fol;
      })
  fill_marker_more following payload n b count p c fol (inr ne) (inr q) r (inr s) t =
      let at : count - 1 ≡ length before + n = omega arith in
      let f : (b == 217) ≡ false = grind (arith, nat_tests) in
      rw (not_fill b ne, f, s, at, ← fills_more n (b ∷ []))
      (ended before h us ps following (fill_bytes n ++ (255 ∷ b ∷ [])) _ _ p refl (λ k. (n, b, [], refl, fol k))
      (at_unknown_code h (length before) n b [] ne q s))
