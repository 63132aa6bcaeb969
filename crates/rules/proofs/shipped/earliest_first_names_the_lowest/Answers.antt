use Rattle.rules.proofs.Naming.{lowest_named}
use Rattle.rules.proofs.shipped.earliest_first_names_the_lowest.Goals as goal

pub returns : goal.returns
returns c = lowest_named
