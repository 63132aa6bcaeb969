use Rattle.std.proofs.Common.{ltb}
use Rattle.std.specs.Cmp.{nat_cmp_total}
use Rattle.rules.specs.Lemmas.Firsts.{first_least_found}
use Rattle.rules.proofs.Earliest.{less_number}
use Rattle.rules.proofs.closing.lowest_number.Goals as goal

pub returns : goal.returns
returns c = first_least_found nat_cmp_total ltb less_number c.args.numbers.now c.first_least.result c.first_least.ensures.least
