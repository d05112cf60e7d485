use Rattle.jls_partial.proofs.Store.{fitting, countable, marks_held, sources_small}
use Rattle.jls_partial.proofs.partial.Partial.shape.Goals as goal

pub returns-clause-fitting : goal.returns-clause-fitting
returns-clause-fitting c = fitting 0 0 c.self.inside.shape c.self.inside.store.entries c.self.invariant.kept c.args.self.now c.self.view_is

pub returns-clause-countable : goal.returns-clause-countable
returns-clause-countable c = countable 0 0 c.self.inside.shape c.self.inside.store.entries c.self.invariant.kept c.args.self.now
    c.self.view_is

pub returns-clause-marks_held : goal.returns-clause-marks_held
returns-clause-marks_held c = marks_held 0 0 c.self.inside.shape c.self.inside.store.entries c.self.invariant.kept c.args.self.now
    c.self.view_is

pub returns-clause-sources_small : goal.returns-clause-sources_small
returns-clause-sources_small c =
    sources_small 0 0 c.self.inside.shape c.self.inside.store.entries c.self.invariant.kept c.args.self.now c.self.view_is
