-- A contract on a share.
use Rattle.std.specs.Prelude.{◌*◌, ◌&&◌, ◌==◌}
use Rattle.limits.specs.Bounds.{between}
use Rattle.kinds.specs.Amounts.{rounded_up}
use Rattle.kinds.specs.Laws.{Admits, Pays, Needs}
use Rattle.kinds.specs.Payments.{paid, needed, points}

-- number 0, size 1 to 100, percentage 1 to 100
abbrev pub share_admits : Admits
share_admits c = c.number == 0 && (between 1 100 c.size && between 1 100 c.percentage)

-- paid as a direct contract
abbrev pub share_pays : Pays
share_pays c = paid (share_admits c) points c

-- volume × open × size × percentage / 100, rounded up
abbrev pub share_needs : Needs
share_needs c l o v = needed (share_admits c) (rounded_up (v * o * c.size * c.percentage) 100) l o v
