-- The positions that the struct holds.
use Rattle.std.specs.Prelude.{List}
use Rattle.fixed.specs.Items.{items}
use Rattle.positions.specs.declared.position.OpenPosition.{OpenPosition}
use Rattle.positions.specs.declared.positions.Positions.{Positions}

abbrev pub held : Positions → List OpenPosition
held p = items p.list
