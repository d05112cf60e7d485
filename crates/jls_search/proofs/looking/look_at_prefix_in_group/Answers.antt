use Rattle.std.proofs.Common.{rules}
use Rattle.jls_search.proofs.GroupSights.{given_up}
use Rattle.jls_search.proofs.looking.look_at_prefix_in_group.Goals as goal

pub returns-then-is_done : goal.returns-then-is_done
returns-then-is_done c = λ ceiling. given_up ceiling c.args.parts.now c.args.setting c.args.path.now c.requires.stop (search rules)

pub returns-then-is_piece_broken : goal.returns-then-is_piece_broken
returns-then-is_piece_broken c = λ ceiling. given_up ceiling c.args.parts.now c.args.setting c.args.path.now c.requires.stop (search rules)

pub returns : goal.returns
returns c = λ ceiling. given_up ceiling c.args.parts.now c.args.setting c.args.path.now c.requires.stop (search rules)
