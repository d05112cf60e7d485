-- Every event that can come next has a bit.
use Rattle.std.proofs.Common.{◌≡◌, ℕ, ◌-◌, ◌<◌, Bool, true, false, List, [], ◌∷◌, ◌++◌, length, replicate, sym, ap, ◌∙◌}
use Rattle.std.proofs.Common.{arith}
use Rattle.std.proofs.Common.{refl}
use Rattle.jls_values.specs.Params.{CodingParameters}
use Rattle.jls_values.proofs.Lists.{not_empty}
use Rattle.jls_bits.specs.Bits.{bits}
use Rattle.jls_context.specs.declared.mode.Neighbours.{Neighbours}
use Rattle.jls_interval.specs.Runs.{run_order, blocks}
use Rattle.jls_interval.specs.Stepwise.{Leads}
use Rattle.jls_interval.proofs.BlocksTaken.{end_cases}
use Rattle.jls_interval.proofs.CutEvents.{golomb_some}
use Rattle.jls_pixel.specs.Pixels.{rows_above}
use Rattle.jls_pixel.specs.Events.{Event, regular_pixel, run_to_end, interrupted_run}
use Rattle.jls_pixel.specs.Cells.{CodedSample, regular, coded_with, coded_samples, run_index_before}
use Rattle.jls_pixel.specs.Code.{sample_bits, bits_of_samples, event_bits}
use Rattle.jls_pixel.specs.Growth.{Position, IsNext, pixel_steps, start}
use Rattle.jls_pixel.proofs.PixelLists.{nears_length}
use Rattle.jls_pixel.proofs.EventsApart.{run_index_before_small}
use Rattle.jls_pixel.proofs.GrowthEnds.{parted_from}

none_left : (xs ys : List Bool) → xs ++ ys ≡ [] → xs ≡ []
none_left [] ys h = refl
none_left (x ∷ xs) ys h = cc

regular_some : (p : CodingParameters) (earlier : List CodedSample) (near : Neighbours) (s : ℕ)
    → sample_bits p 0 earlier (regular near s) ≡ [] → ⊥
unfolding sample_bits
regular_some p earlier near s h = golomb_some _ _ _ _ h

pixel_some : (p : CodingParameters) (earlier : List CodedSample) (nears : List Neighbours) (pixel : List ℕ) → 0 < length nears
    → length pixel ≡ length nears → bits_of_samples p 0 earlier (coded_with regular nears pixel) ≡ [] → ⊥
unfolding bits_of_samples
pixel_some p earlier [] pixel some l h = absurd (omega arith)
pixel_some p earlier (near ∷ nears) [] some l h = absurd (omega arith)
pixel_some p earlier (near ∷ nears) (s ∷ pixel) some l h =
    regular_some p earlier near s (none_left (sample_bits p 0 earlier (regular near s)) _ h)

event_some : (p : CodingParameters) (w c n : ℕ) → 0 < c → (z : Position) (e : Event) → length z.row < w → IsNext p w c n z e
    → event_bits p z.earlier e ≡ [] → ⊥
unfolding event_bits
event_some p w c n some z (regular_pixel nears pixel) short next h =
    let l = nears_length w (rows_above z.rows) z.row c in let ln = ap length next.1.1 in let lp = next.1.2.0 in
    pixel_some p (coded_samples z.earlier) nears pixel (omega arith) (omega arith) h
event_some p w c n some z (run_to_end count) short next h =
    let all = next.1.1 in let r = run_index_before z.earlier in
    let b = end_cases r count [] (run_index_before_small z.earlier) (omega arith) in
    let x : [] ≡ true ∷ b.0 = sym (ap (λ v. v ++ []) h) ∙ b.1 in cc
event_some p w c n some z (interrupted_run count nears pixel) short next h =
    let run = blocks (run_index_before z.earlier) count in
    not_empty (replicate run.full_blocks true) false (bits (run_order run.run_index) run.remaining)
    (none_left (replicate run.full_blocks true ++ false ∷ bits (run_order run.run_index) run.remaining) _ h)

pub events_some : (p : CodingParameters) (w c n : ℕ) → 0 < w → 0 < c → (es : List Event) (z : Position) (e : Event)
    → Leads (pixel_steps p w c n) start es z → IsNext p w c n z e → event_bits p z.earlier e ≡ [] → ⊥
events_some p w c n wide some es z e l next = event_some p w c n some z e (parted_from p w c n wide es z l).short next
