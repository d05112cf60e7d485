-- What is in force after a segment, and what a scan has of it.
use Rattle.std.proofs.Common.{◌≡◌, ℕ, true, List, [], ◌∷◌, ◌+◌, Option, Some, None, Result, Ok, refl, sym, ap, subst, ◌∙◌}
use Rattle.std.specs.Prelude.{is_none, is_ok}
use Rattle.jls_values.specs.Params.{CodingParameters}
use Rattle.jls_values.specs.ParamsOf.{in_force, params_in_range, param_fault}
use Rattle.jls_values.specs.Shape.{PictureShape}
use Rattle.jls_values.specs.declared.params.ParamFault.{ParamFault}
use Rattle.jls_marker.specs.HeaderLaws.{SetsItsOwn, HasWhatIsInForce, interval_in, presets_in, frame_in, newest}
use Rattle.jls_marker.specs.HeaderState.{HeaderState}
use Rattle.jls_marker.specs.Headers.{begin_tests, scan_in, scan_under, scan_judged, accepted, taking, headers_after}
use Rattle.jls_marker.specs.Scan.{Scan}
use Rattle.jls_marker.specs.ScanSelection.{ScanSelection}
use Rattle.jls_marker.specs.Segments.{segment_under}
use Rattle.jls_marker.specs.declared.fault.MarkerFault.TheVariants as fault
use Rattle.jls_marker.specs.declared.segment.Segment.{Segment}
use Rattle.jls_marker.specs.declared.segment.Segment.TheVariants as segment
use Rattle.jls_marker.proofs.FirstFailing.{all_pass}
use Rattle.jls_marker.proofs.HeaderSteps.{After, parts, began, from_taken}

-- ---- a segment sets its own value

-- a segment that is no frame, of which this is left
other_sets : (h new after : HeaderState) (s : Segment) → frame_in s ≡ None → new.frame ≡ h.frame
    → new.restart_interval ≡ newest (interval_in s) h.restart_interval → new.preset ≡ newest (presets_in s) h.preset → new ≡ after
    → SetsItsOwn h after s
other_sets h new after s none frame interval preset left = subst (λ (z : HeaderState). SetsItsOwn h z s) left (record {
  restart_interval = interval;
  preset = preset;
  frame = λ f is. absurd cc;
  no_frame = λ is. frame;
})

-- a segment that is taken sets its own value, and leaves the others as they are
sets : (h after : HeaderState) (scan : Option Scan) (s : Segment) → accepted h s ≡ Ok (after, scan) → SetsItsOwn h after s
sets h after scan (segment.Frame g) e =
    let t = all_pass ((is_none h.frame, fault.SecondFrame) ∷ []) (record h { frame = Some g }, None) (after, scan) e in
    let left : record h { frame = Some g } ≡ after = ap (λ (z : After). z.0) t.1 in
    record {
      restart_interval = ap (λ (x : HeaderState). x.restart_interval) (sym left);
      preset = ap (λ (x : HeaderState). x.preset) (sym left);
      frame = λ f is. ap (λ (x : HeaderState). x.frame) (sym left) ∙ is;
      no_frame = λ is. absurd cc;
    }
sets h after scan (segment.Scan s) e =
    let b = began h after scan (scan_under h s h.frame) e in
    other_sets h (record h { scans = h.scans + 1 }) after (segment.Scan s) refl refl refl refl (sym b.2)
sets h after scan (segment.Preset a b c d r) e =
    let new = record h { preset = record { maxval = a; t1 = b; t2 = c; t3 = d; reset = r } } in
    other_sets h new after (segment.Preset a b c d r) refl refl refl refl (parts (new, None) (after, scan) e).0
sets h after scan (segment.Restart n) e =
    let new = record h { restart_interval = n } in
    other_sets h new after (segment.Restart n) refl refl refl refl (parts (new, None) (after, scan) e).0
sets h after scan (segment.Skipped code) e =
    other_sets h h after (segment.Skipped code) refl refl refl refl (parts (h, None) (after, scan) e).0

pub segments_set_their_own : (h after : HeaderState) (code : ℕ) (payload : List ℕ) (scan : Option Scan) (s : Segment)
    → segment_under h.profile code payload ≡ Ok s → headers_after h code payload ≡ Ok (after, scan) → SetsItsOwn h after s
unfolding headers_after
segments_set_their_own h after code payload scan s is e = sets h after scan s (sym (ap (taking h) is) ∙ e)

-- ---- a scan has what is in force

abbrev done : CodingParameters → Result CodingParameters ParamFault
done p = Ok p

none_broken : (p : CodingParameters) (o : Option ParamFault) → is_ok (params_in_range p o) ≡ true → params_in_range p o ≡ done p
none_broken p None e = refl
none_broken p (Some f) e = absurd cc

-- a scan that begins has the parameters and the restart interval that are in force
has : (h : HeaderState) (f : PictureShape) (s : ScanSelection) (scan : Scan) → scan_judged f h.preset h.restart_interval h.scans s ≡ Ok scan
    → HasWhatIsInForce h f s scan
has h f s scan e =
    let t = all_pass (begin_tests f h.preset h.restart_interval h.scans s) (scan_in f h.preset h.restart_interval s) scan e in
    record {
      components = ap (λ (x : Scan). x.components) (sym t.1);
      params = none_broken (in_force f.precision h.preset) (param_fault (in_force f.precision h.preset)) t.0.1.0
          ∙ ap (λ (x : Scan). done x.params) t.1;
      restart_interval = ap (λ (x : Scan). x.restart_interval) (sym t.1);
      by_sample = ap (λ (x : Scan). x.by_sample) (sym t.1);
    }

abbrev some : PictureShape → Option PictureShape
some f = Some f

some_same : (f g : PictureShape) → some f ≡ some g → f ≡ g
some_same f g e = cc

-- the law: a scan that an SOS begins has what its header selects and what is in force
pub scans_have_what_is_in_force : (h after : HeaderState) (code : ℕ) (payload : List ℕ) (scan : Scan) → headers_after h code payload
    ≡ Ok (after, Some scan)
    → (s : ScanSelection) × (segment_under h.profile code payload ≡ Ok (segment.Scan s))
    × ((frame : PictureShape) → h.frame ≡ Some frame → HasWhatIsInForce h frame s scan)
unfolding headers_after
scans_have_what_is_in_force h after code payload scan e =
    let t = from_taken h after scan (segment_under h.profile code payload) e in (
      t.0,
      t.1,
      λ frame framed. has h frame t.0 scan
          (ap (λ (f : PictureShape). scan_judged f h.preset h.restart_interval h.scans t.0)
          (some_same frame t.2.frame (sym framed ∙ t.2.framed)) ∙ t.2.judged),
    )
