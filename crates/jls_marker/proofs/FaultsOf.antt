-- Which faults a segment and the headers can have.
use Rattle.std.proofs.Common.{◌≡◌, ℕ, Bool, true, false, cond, eqb, List, [], ◌∷◌, Option, Some, None, Result, Ok, Err, refl, sym, ap, ◌∙◌}
use Rattle.std.specs.Prelude.{◌||◌, ◌==◌, is_none}
use Rattle.std.proofs.lemmas.Bool.{or_parts, or_from}
use Rattle.jls_values.specs.Shape.{PictureShape}
use Rattle.jls_marker.specs.Faults.{first_failing}
use Rattle.jls_marker.specs.HeaderState.{HeaderState}
use Rattle.jls_marker.specs.Headers.{begin_tests, scan_in, scan_under, begun, accepted, taking, headers_after}
use Rattle.jls_marker.specs.Layouts.{FrameHeader, frame_header, ScanHeader, scan_header, preset_parameters, restart_interval}
use Rattle.jls_marker.specs.MarkerCodes.{sof55, sos, lse, dri, is_skipped, has_segment}
use Rattle.jls_values.specs.PresetParameters.{PresetParameters}
use Rattle.jls_marker.specs.Scan.{Scan}
use Rattle.jls_marker.specs.ScanSelection.{ScanSelection}
use Rattle.jls_marker.specs.Segments.{frame_tests, frame_of, shape_in, scan_tests, scan_of, selection_in, preset_of, lse_of, restart_of}
use Rattle.jls_marker.specs.SegmentLaws.{UnknownCodes, UnknownCodesUnder}
use Rattle.jls_marker.specs.Segments.{segment_under}
use Rattle.jls_marker.specs.declared.fault.MarkerFault.{MarkerFault}
use Rattle.jls_marker.specs.declared.fault.MarkerFault.TheVariants.{UnknownMarker, Ended}
use Rattle.jls_marker.specs.declared.fault.MarkerFault.TheVariants as fault
use Rattle.jls_marker.specs.declared.profile.Profile.{Profile}
use Rattle.jls_marker.specs.declared.profile.Profile.TheVariants.{Strict}
use Rattle.jls_marker.specs.declared.segment.Segment.{Segment}
use Rattle.jls_marker.specs.declared.segment.Segment.TheVariants as segment
use Rattle.jls_marker.proofs.FirstFailing.{a_listed_fault}

-- neither an unknown code nor the end of the input
abbrev is_other : MarkerFault → Bool
is_other UnknownMarker = false
is_other Ended = false
is_other _ = true

abbrev refused : MarkerFault → Result Segment MarkerFault
refused f = Err f

refused_is : (f g : MarkerFault) → refused f ≡ refused g → f ≡ g
refused_is f g e = cc

frame_fault : (o : Option FrameHeader) (f : MarkerFault) → frame_of o ≡ Err f → is_other f ≡ true
frame_fault None f e = ap is_other (sym (refused_is fault.Length f e))
frame_fault (Some h) f e = a_listed_fault is_other (frame_tests h) (segment.Frame (shape_in h)) f refl e

scan_fault : (profile : Profile) (o : Option ScanHeader) (f : MarkerFault) → scan_of profile o ≡ Err f → is_other f ≡ true
scan_fault profile None f e = ap is_other (sym (refused_is fault.Length f e))
scan_fault profile (Some h) f e = a_listed_fault is_other (scan_tests profile h) (segment.Scan (selection_in h)) f refl e

preset_fault : (o : Option PresetParameters) (f : MarkerFault) → preset_of o ≡ Err f → is_other f ≡ true
preset_fault None f e = ap is_other (sym (refused_is fault.Length f e))
preset_fault (Some p) f e = absurd cc

-- an LSE is refused neither as unknown nor as ended
lse_fault : (payload : List ℕ) (f : MarkerFault) → lse_of payload ≡ Err f → is_other f ≡ true
lse_fault [] f e = ap is_other (sym (refused_is fault.Length f e))
lse_fault (id ∷ values) f e = by_id (id == 1) e
  where
    by_id : (t : Bool)
        → cond t (preset_of (preset_parameters values)) (first_failing (((id == 2) || (id == 3), fault.LseId) ∷ []) (segment.Skipped lse))
        ≡ Err f
        → is_other f ≡ true
    by_id true h = preset_fault (preset_parameters values) f h
    by_id false h = a_listed_fault is_other (((id == 2) || (id == 3), fault.LseId) ∷ []) (segment.Skipped lse) f refl h

restart_fault : (o : Option ℕ) (f : MarkerFault) → restart_of o ≡ Err f → is_other f ≡ true
restart_fault None f e = ap is_other (sym (refused_is fault.Length f e))
restart_fault (Some n) f e = absurd cc

-- an unknown code is reported only of a code without a segment
module _ (profile : Profile) (code : ℕ) (payload : List ℕ) where
  abbrev from_skipped : Result Segment MarkerFault
  from_skipped = cond (is_skipped code) (Ok (segment.Skipped code)) (Err UnknownMarker)

  abbrev from_dri : Result Segment MarkerFault
  from_dri = cond (eqb code dri) (restart_of (restart_interval payload)) from_skipped

  abbrev from_lse : Result Segment MarkerFault
  from_lse = cond (eqb code lse) (lse_of payload) from_dri

  abbrev from_sos : Result Segment MarkerFault
  from_sos = cond (eqb code sos) (scan_of profile (scan_header payload)) from_lse

  -- only a code that has no segment is refused as unknown
  unknown : segment_under profile code payload ≡ Err UnknownMarker → has_segment code ≡ false
  unfolding has_segment
  unknown e = at_frame (eqb code sof55) refl e
    where
      other : is_other UnknownMarker ≡ true → ⊥
      other e = absurd cc

      at_skipped : eqb code sof55 ≡ false → eqb code sos ≡ false → eqb code lse ≡ false → eqb code dri ≡ false → (t : Bool)
          → is_skipped code ≡ t → cond t (Ok (segment.Skipped code)) (Err UnknownMarker) ≡ Err UnknownMarker → has_segment code ≡ false
      at_skipped a b c d true e h = absurd cc
      at_skipped a b c d false e h = or_from _ _ a (or_from _ _ b (or_from _ _ c (or_from _ _ d e)))

      at_dri : eqb code sof55 ≡ false → eqb code sos ≡ false → eqb code lse ≡ false → (t : Bool) → eqb code dri ≡ t
          → cond t (restart_of (restart_interval payload)) from_skipped ≡ Err UnknownMarker → has_segment code ≡ false
      at_dri a b c true e h = absurd (other (restart_fault (restart_interval payload) UnknownMarker h))
      at_dri a b c false e h = at_skipped a b c e (is_skipped code) refl h

      at_lse : eqb code sof55 ≡ false → eqb code sos ≡ false → (t : Bool) → eqb code lse ≡ t
          → cond t (lse_of payload) from_dri ≡ Err UnknownMarker → has_segment code ≡ false
      at_lse a b true e h = absurd (other (lse_fault payload UnknownMarker h))
      at_lse a b false e h = at_dri a b e (eqb code dri) refl h

      at_sos : eqb code sof55 ≡ false → (t : Bool) → eqb code sos ≡ t
          → cond t (scan_of profile (scan_header payload)) from_lse ≡ Err UnknownMarker
          → has_segment code ≡ false
      at_sos a true e h = absurd (other (scan_fault profile (scan_header payload) UnknownMarker h))
      at_sos a false e h = at_lse a e (eqb code lse) refl h

      at_frame : (t : Bool) → eqb code sof55 ≡ t → cond t (frame_of (frame_header payload)) from_sos ≡ Err UnknownMarker
          → has_segment code ≡ false
      at_frame true e h = absurd (other (frame_fault (frame_header payload) UnknownMarker h))
      at_frame false e h = at_sos e (eqb code sos) refl h

  -- a code without a segment is refused as unknown
  known_not : has_segment code ≡ false → segment_under profile code payload ≡ Err UnknownMarker
  unfolding has_segment
  known_not e =
      let a = or_parts (eqb code sof55) _ e in
      let b = or_parts (eqb code sos) _ a.1 in
      let c = or_parts (eqb code lse) _ b.1 in
      let d = or_parts (eqb code dri) (is_skipped code) c.1 in
      rw (a.0, b.0, c.0, d.0, d.1) refl

pub unknown_codes_under : (profile : Profile) → UnknownCodesUnder profile
unknown_codes_under profile code payload = (unknown profile code payload, known_not profile code payload)

-- the law: a code is unknown exactly where it has no segment
pub unknown_codes : UnknownCodes
unknown_codes = unknown_codes_under Strict

-- ---- and the end of the input is no fault of a whole segment

abbrev is_not_end : MarkerFault → Bool
is_not_end Ended = false
is_not_end _ = true

not_end : (f : MarkerFault) → is_other f ≡ true → f ≡ Ended → ⊥
not_end f e same = let g : false ≡ true = sym (ap is_other same) ∙ e in absurd cc

-- no payload is refused as one that ends too early
segment_not_ended : (profile : Profile) (code : ℕ) (payload : List ℕ) → segment_under profile code payload ≡ Err Ended → ⊥
segment_not_ended profile code payload e = at_frame (eqb code sof55) e
  where
    other : is_other Ended ≡ true → ⊥
    other e = absurd cc

    at_skipped : (t : Bool) → cond t (Ok (segment.Skipped code)) (Err UnknownMarker) ≡ Err Ended → ⊥
    at_skipped true h = absurd cc
    at_skipped false h = absurd cc

    at_dri : (t : Bool) → cond t (restart_of (restart_interval payload)) (from_skipped profile code payload) ≡ Err Ended → ⊥
    at_dri true h = other (restart_fault (restart_interval payload) Ended h)
    at_dri false h = at_skipped (is_skipped code) h

    at_lse : (t : Bool) → cond t (lse_of payload) (from_dri profile code payload) ≡ Err Ended → ⊥
    at_lse true h = other (lse_fault payload Ended h)
    at_lse false h = at_dri (eqb code dri) h

    at_sos : (t : Bool) → cond t (scan_of profile (scan_header payload)) (from_lse profile code payload) ≡ Err Ended → ⊥
    at_sos true h = other (scan_fault profile (scan_header payload) Ended h)
    at_sos false h = at_lse (eqb code lse) h

    at_frame : (t : Bool) → cond t (frame_of (frame_header payload)) (from_sos profile code payload) ≡ Err Ended → ⊥
    at_frame true h = other (frame_fault (frame_header payload) Ended h)
    at_frame false h = at_sos (eqb code sos) h

-- no scan that begins is refused as one that ends too early
begun_not_ended : (h : HeaderState) (s : ScanSelection) (o : Option PictureShape) → begun h (scan_under h s o) ≡ Err Ended → ⊥
begun_not_ended h s None e = absurd cc
begun_not_ended h s (Some f) e =
    let g : is_not_end Ended ≡ true =
    a_listed_fault is_not_end (begin_tests f h.preset h.restart_interval h.scans s) (scan_in f h.preset h.restart_interval s) Ended refl
    (unbegun (scan_under h s (Some f)) e) in
    absurd cc
  where
    unbegun : (r : Result Scan MarkerFault) → begun h r ≡ Err Ended → r ≡ Err Ended
    unbegun (Ok x) e = absurd cc
    unbegun (Err g) e = ap (λ (k : MarkerFault). failed k) (fault_of g e)
      where
        failed : MarkerFault → Result Scan MarkerFault
        failed k = Err k

        fault_of : (g : MarkerFault) → begun h (Err g) ≡ Err Ended → g ≡ Ended
        fault_of g e = cc

-- no segment is refused by the headers as one that ends too early
accepted_not_ended : (h : HeaderState) (s : Segment) → accepted h s ≡ Err Ended → ⊥
accepted_not_ended h (segment.Frame f) e =
    let g : is_not_end Ended ≡ true =
    a_listed_fault is_not_end ((is_none h.frame, fault.SecondFrame) ∷ []) (record h { frame = Some f }, None) Ended refl e in
    absurd cc
accepted_not_ended h (segment.Scan s) e = begun_not_ended h s h.frame e
accepted_not_ended h (segment.Preset a b c d f) e = absurd cc
accepted_not_ended h (segment.Restart n) e = absurd cc
accepted_not_ended h (segment.Skipped c) e = absurd cc

-- no segment is refused by the headers as one that ends too early
taking_not_ended : (h : HeaderState) (code : ℕ) (payload : List ℕ) (r : Result Segment MarkerFault)
    → segment_under h.profile code payload ≡ r
    → taking h r ≡ Err Ended → ⊥
taking_not_ended h code payload (Ok s) e g = accepted_not_ended h s g
taking_not_ended h code payload (Err f) e g = segment_not_ended h.profile code payload (e ∙ same f g)
  where
    same : (f : MarkerFault) → taking h (Err f) ≡ Err Ended → refused f ≡ Err Ended
    same f g = ap refused (fault_of f g)
      where
        fault_of : (f : MarkerFault) → taking h (Err f) ≡ Err Ended → f ≡ Ended
        fault_of f g = cc

pub never_ended : (h : HeaderState) (code : ℕ) (payload : List ℕ) → headers_after h code payload ≡ Err Ended → ⊥
unfolding headers_after
never_ended h code payload e = taking_not_ended h code payload (segment_under h.profile code payload) refl e
