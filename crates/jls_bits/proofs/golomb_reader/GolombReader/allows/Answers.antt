use Rattle.std.proofs.Common.{Decides, eqb, false, subst}
use Rattle.jls_bits.specs.Golomb.{BeginsCodeOf}
use Rattle.jls_bits.proofs.GolombReading.{done_allows, refused_allows}
use Rattle.jls_bits.proofs.golomb_reader.GolombReader.allows.Goals as goal

-- the bits are a number's code
pub returns-in-Done : goal.returns-in-Done
returns-in-Done c =
    let r = c.self.inside in
    subst (λ v. Decides (eqb c.in-Done.number c.args.mapped) (BeginsCodeOf v.k v.g v.qbpp v.pushed c.args.mapped)) c.self.view_is
    (done_allows r.k r.g r.qbpp c.self.invariant.g_fits.0 r.progress c.in-Done.number c.args.mapped c.in-Done.is
    c.self.invariant.progress_is (rw (← c.self.view_is) at c.requires))

-- the bits begin no code
pub returns-in-Refused : goal.returns-in-Refused
returns-in-Refused c =
    let r = c.self.inside in
    subst (λ v. Decides false (BeginsCodeOf v.k v.g v.qbpp v.pushed c.args.mapped)) c.self.view_is
    (refused_allows r.k r.g r.qbpp c.self.invariant.g_fits.0 r.progress c.in-Refused.field-0 c.in-Refused.field-1 c.args.mapped
    c.in-Refused.is c.self.invariant.progress_is (rw (← c.self.view_is) at c.requires))
