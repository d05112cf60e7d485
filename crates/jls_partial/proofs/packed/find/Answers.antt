use Rattle.std.proofs.Common.{ap, sym, ◌∙◌}
use Rattle.jls_values.specs.OrderedSet as set
use Rattle.jls_partial.specs.Slots.{slots_of}
use Rattle.jls_partial.proofs.Searches.{one_inside, one_found, one_above}
use Rattle.jls_partial.proofs.packed.find.Goals as goal

pub samples_at-requires : goal.samples_at-requires
samples_at-requires c = one_inside c.args.width c.args.packed.now (slots_of c.args.slots.now)
    (record { start = c.in-Lone.start; sources = set.empty }) (ap slots_of c.in-Lone.is) c.requires.inside

pub returns-in-Greater-clause-gap : goal.returns-in-Greater-clause-gap
returns-in-Greater-clause-gap c =
    one_above c.args.width c.args.packed.now (slots_of c.args.slots.now) (record { start = c.in-Lone.start; sources = set.empty })
    (ap slots_of c.in-Lone.is) c.samples_at.result.now c.args.samples.now c.samples_at.ensures (sym c.cmp.ensures ∙ c.in-Greater.is)

pub returns-in-Equal-clause-same : goal.returns-in-Equal-clause-same
returns-in-Equal-clause-same c =
    one_found c.args.width c.args.packed.now (slots_of c.args.slots.now) (record { start = c.in-Lone.start; sources = set.empty })
    (ap slots_of c.in-Lone.is) c.samples_at.result.now c.args.samples.now c.samples_at.ensures (sym c.cmp.ensures ∙ c.in-Equal.is)
