use Rattle.rules.specs.Lemmas.Firsts.{first_least_found}
use Rattle.rules.specs.Lemmas.Orders.{by_result, less_result}
use Rattle.rules.proofs.closing.smallest_result.Goals as goal

pub returns : goal.returns
returns c = first_least_found by_result _ less_result c.args.candidates.now c.first_least.result c.first_least.ensures.least
