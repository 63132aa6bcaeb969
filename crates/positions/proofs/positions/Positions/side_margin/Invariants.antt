use Rattle.std.proofs.Common.{◌≡◌, ◌*◌, ◌≤◌, take}
use Rattle.positions.specs.Margins.{side_margin}
use Rattle.positions.proofs.positions.Positions.side_margin.Given as goal

abbrev pub invariant-loop-position : goal.invariant-loop-position
invariant-loop-position l = (l.sum ≡ side_margin l.instrument l.side (take l.position-index l.position-items)) × (l.sum ≤ l.position-index * 1000000000000)
