use Rattle.std.proofs.Common.{rules}
use Rattle.rules.proofs.Places.{first_place}
use Rattle.rules.proofs.least.first_least.Goals as goal

pub returns-clause-least : goal.returns-clause-least
returns-clause-least g c =
    first_place g.met.T.Ord.total g.met.T.Ord.matches_eq c.args.xs.now c.unwrap-least.result.now c.unwrap.result (search rules) (search rules) (search rules) (search rules)
