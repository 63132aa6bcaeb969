-- The ticket that a closing rule names of an account's positions.
use Rattle.std.specs.Prelude.{ℕ, cond, List, length, Some, None, Option, ◌==◌}
use Rattle.rules.specs.Closing.{Picks}
use Rattle.rules.specs.Named.{at}
use Rattle.positions.specs.declared.position.OpenPosition.{OpenPosition}
use Rattle.positions.specs.Positions.{candidates}

-- none is named where there is no position
abbrev pub ticket_named : Picks → List OpenPosition → Option ℕ
ticket_named picks ps = cond (length ps == 0) None (Some (at (candidates ps) (picks (candidates ps))).ticket)
