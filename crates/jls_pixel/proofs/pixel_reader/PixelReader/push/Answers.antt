use Rattle.std.proofs.Common.{◌≡◌, ◌+◌, ◌++◌, ℕ, Bool, List, min, sym, ap, ◌∙◌, subst}
use Rattle.jls_context.specs.Variables.{Variables}
use Rattle.jls_bits.specs.Bits.{bits}
use Rattle.jls_bits.proofs.NumberBits.{length-bits}
use Rattle.jls_pixel.specs.PixelReading.{IsWorking, IsComplete, StateIs}
use Rattle.jls_pixel.specs.declared.pixel_reader.State.{State}
use Rattle.jls_pixel.proofs.PixelReading.{state_of, working, working_with, complete_with}
use Rattle.jls_pixel.proofs.pixel_reader.PixelReader.push.Goals as goal

pub read_waiting-requires : goal.read_waiting-requires
read_waiting-requires c =
    let h = c.requires in let p = h.0 in let given : List Bool = h.1 in let r = h.2 in let d = c.args.self.now in
    let w = d.width in let k = d.components in let n = d.count in
    let rows : List (List (List ℕ)) = d.rows in let row : List (List ℕ) = d.row.items in let cells : Variables = d.coder.cells in
    let left : List Bool = d.pending in let left' : List Bool = c.append.new.self in
    let chunk = bits c.args.next.count c.args.next.value in
    let is : left' ≡ left ++ chunk = c.in_ok-append-in-Working.ensures in
    let work : IsWorking p w k n (given ++ chunk) rows row cells d.run_index left' =
    subst (λ z. IsWorking p w k n (given ++ chunk) rows row cells d.run_index z) (sym is)
    (working_with p w k n r.shape.width_at_least given rows row cells d.run_index left (working p d given r c.in-Working.is) chunk) in (
      p,
      given ++ chunk,
      record {
        shape = record {
          parameters = r.shape.parameters;
          width_at_least = r.shape.width_at_least;
          width_below = r.shape.width_below;
          components_at_most = r.shape.components_at_most;
        };
        state_is =
            subst (λ (z : State). StateIs p w k n (given ++ chunk) rows row cells d.run_index left' z) (sym c.in-Working.is) work;
      },
    )

pub returns-in_ok-read_waiting-in-Working-clause-reading : goal.returns-in_ok-read_waiting-in-Working-clause-reading
returns-in_ok-read_waiting-in-Working-clause-reading c = λ p given r.
    let d = c.args.self.now in let w = d.width in let k = d.components in let n = d.count in
    let rows : List (List (List ℕ)) = d.rows in let row : List (List ℕ) = d.row.items in let cells : Variables = d.coder.cells in
    let left : List Bool = d.pending in let left' : List Bool = c.append.new.self in
    let chunk = bits c.args.next.count c.args.next.value in
    let is : left' ≡ left ++ chunk = c.in_ok-append-in-Working.ensures in
    let work : IsWorking p w k n (given ++ chunk) rows row cells d.run_index left' =
    subst (λ z. IsWorking p w k n (given ++ chunk) rows row cells d.run_index z) (sym is)
    (working_with p w k n r.shape.width_at_least given rows row cells d.run_index left (working p d given r c.in-Working.is) chunk) in
    c.in_ok-read_waiting-in-Working.ensures.reading p (given ++ chunk)
    (record {
      shape = record {
        parameters = r.shape.parameters;
        width_at_least = r.shape.width_at_least;
        width_below = r.shape.width_below;
        components_at_most = r.shape.components_at_most;
      };
      state_is = subst (λ (z : State). StateIs p w k n (given ++ chunk) rows row cells d.run_index left' z) (sym c.in-Working.is) work;
    })

pub returns-in-Complete-clause-reading : goal.returns-in-Complete-clause-reading
returns-in-Complete-clause-reading c = λ p given r.
    let d = c.args.self.now in let w = d.width in let k = d.components in let n = d.count in
    let rows : List (List (List ℕ)) = d.rows in let extra : ℕ = c.in-Complete.extra in
    let count : ℕ = c.args.next.count in let value : ℕ = c.args.next.value in
    let over : IsComplete p w k n given rows extra = state_of p d given r _ c.in-Complete.is in
    record {
      shape = record {
        parameters = r.shape.parameters;
        width_at_least = r.shape.width_at_least;
        width_below = r.shape.width_below;
        components_at_most = r.shape.components_at_most;
      };
      state_is = complete_with p w k n given rows extra over (bits count value) c.counted_on.result
          (c.counted_on.ensures ∙ ap (λ z. min 8 (extra + z)) (sym (length-bits count value)));
    }
