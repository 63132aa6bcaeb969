use Rattle.rules.proofs.Naming.{worst_named}
use Rattle.rules.proofs.shipped.worst_first_names_the_worst.Goals as goal

pub returns : goal.returns
returns c = worst_named
