use Rattle.std.proofs.Common.{ℕ, List, None, sym, ◌∙◌, ap}
use Rattle.jls_host.specs.Moments.{IsBegun}
use Rattle.jls_host.specs.Recorded.{number_of}
use Rattle.jls_host.proofs.Runs.{and_then, with_less, at_name}
use Rattle.jls_host.proofs.Takes.{begun, cond_none}
use Rattle.jls_host.proofs.making.create_at_own.Goals as goal

-- a file was made beside the name, which it takes at the end unless it is copied
pub returns-in-Ok-create_beside-clause-beside : goal.returns-in-Ok-create_beside-clause-beside
returns-in-Ok-create_beside-clause-beside g c = λ n own e.
    let names = cond_none c.args.is_copied (c.in-Ok.whole.bytes, c.in-Ok-create_beside.own.bytes) (n, own) e in (
      sym (ap (λ (p : List ℕ × List ℕ). p.0) names.1) ∙ c.in-Ok.ensures.ok,
      names.0,
      λ x.
          and_then (c.mode_of-mode.ensures x None)
          (at_name (λ s. IsBegun c.args.name.now s (number_of c.in-Ok-create_beside.held) x) c.in-Ok-create_beside.own.bytes own
          (ap (λ (p : List ℕ × List ℕ). p.1) names.1)
          (with_less (λ d s. s) (λ d s. s) (begun c.args.name.now c.in-Ok-create_beside.own.bytes (number_of c.in-Ok-create_beside.held)
          x) (c.in-Ok-create_beside.ensures.found x None))),
    )
