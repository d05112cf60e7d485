use Rattle.std.proofs.Common.{◌∷◌, [], ◌++◌, sym, subst, refl}
use Rattle.jls_bits.specs.CodeState.{BeginsCode, bits_fed}
use Rattle.jls_bits.specs.Golomb.{golomb}
use Rattle.jls_bits.specs.declared.golomb_reader.GolombStep.TheVariants.{More, Done, Refused}
use Rattle.jls_bits.proofs.CodeSteps.{begins}
use Rattle.jls_bits.proofs.CodesBegun.{more_exactly, done_exactly, refused_exactly, refused_begins_none}
use Rattle.jls_bits.proofs.GolombReading.{begun_is_open}
use Rattle.jls_bits.proofs.golomb_reader.GolombReader.push.Goals as goal

pub unreachable-requires : goal.unreachable-requires
unreachable-requires c =
    begun_is_open c.self.inside.k c.self.inside.g c.self.inside.qbpp c.self.invariant.g_fits.0 c.self.inside.progress
    c.self.invariant.progress_is (subst (λ v. BeginsCode v.k v.g v.qbpp v.pushed) (sym c.self.view_is) c.requires) c.in_default.not-Open

pub returns-in-More-clause-done : goal.returns-in-More-clause-done
returns-in-More-clause-done c =
    let k = c.self.inside.k in let g = c.self.inside.g in let q = c.self.inside.qbpp in let r = c.self.invariant.g_fits.0 in
    done_exactly k g q r (bits_fed g q c.in-More.next) More (begins k g q r c.in-More.next c.in-More.ensures.0)

pub returns-in-Done-clause-more : goal.returns-in-Done-clause-more
returns-in-Done-clause-more c =
    let k = c.self.inside.k in let g = c.self.inside.g in let q = c.self.inside.qbpp in let n = c.in-Done.number in
    more_exactly k g q c.self.invariant.g_fits.0 (golomb k g q n) (Done n) (record { has = c.in-Done.ensures.0; code = refl })

pub returns-in-Done-clause-done : goal.returns-in-Done-clause-done
returns-in-Done-clause-done c =
    let k = c.self.inside.k in let g = c.self.inside.g in let q = c.self.inside.qbpp in let n = c.in-Done.number in
    done_exactly k g q c.self.invariant.g_fits.0 (golomb k g q n) (Done n) (record { has = c.in-Done.ensures.0; code = refl })

pub returns-in-Refused-clause-more : goal.returns-in-Refused-clause-more
returns-in-Refused-clause-more c =
    let k = c.self.inside.k in let g = c.self.inside.g in let q = c.self.inside.qbpp in let r = c.self.invariant.g_fits.0 in
    let given = bits_fed g q c.in-Open.state ++ c.args.bit ∷ [] in
    more_exactly k g q r given Refused (refused_begins_none k g q r given c.in-Refused.ensures)

pub returns-in-Refused-clause-done : goal.returns-in-Refused-clause-done
returns-in-Refused-clause-done c =
    let k = c.self.inside.k in let g = c.self.inside.g in let q = c.self.inside.qbpp in let r = c.self.invariant.g_fits.0 in
    let given = bits_fed g q c.in-Open.state ++ c.args.bit ∷ [] in
    done_exactly k g q r given Refused (refused_begins_none k g q r given c.in-Refused.ensures)

pub returns-in-Refused-clause-refused : goal.returns-in-Refused-clause-refused
returns-in-Refused-clause-refused c =
    let k = c.self.inside.k in let g = c.self.inside.g in let q = c.self.inside.qbpp in let r = c.self.invariant.g_fits.0 in
    let given = bits_fed g q c.in-Open.state ++ c.args.bit ∷ [] in
    refused_exactly k g q r given Refused (refused_begins_none k g q r given c.in-Refused.ensures)
