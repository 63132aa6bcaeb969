use Rattle.std.proofs.Common.{◌≡◌, take}
use Rattle.fixed.specs.Items.{items}
use Rattle.positions.specs.Positions.{candidates}
use Rattle.positions.proofs.positions.Positions.candidates.Given as goal

abbrev pub invariant-loop-position : goal.invariant-loop-position
invariant-loop-position l = items l.list ≡ candidates (take l.position-index l.position-items)
