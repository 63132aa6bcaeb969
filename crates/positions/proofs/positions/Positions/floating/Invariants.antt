use Rattle.std.proofs.Common.{◌≡◌, ◌*◌, take}
use Rattle.positions.specs.Positions.{floating}
use Rattle.positions.specs.Sizes.{Within}
use Rattle.positions.proofs.positions.Positions.floating.Given as goal

abbrev pub invariant-loop-position : goal.invariant-loop-position
invariant-loop-position l = (l.sum ≡ floating (take l.position-index l.position-items)) × Within l.sum (l.position-index * 1000000000000)
