-- A contract quoted in the currency of the accounts.
use Rattle.std.specs.Prelude.{◌*◌, ◌&&◌, ◌==◌}
use Rattle.limits.specs.Bounds.{between}
use Rattle.kinds.specs.Amounts.{rounded_up}
use Rattle.kinds.specs.Laws.{Admits, Pays, Needs}
use Rattle.kinds.specs.Payments.{paid, needed, points}

-- number 0, size 1 to 100, percentage 0
abbrev pub direct_admits : Admits
direct_admits c = c.number == 0 && (between 1 100 c.size && c.percentage == 0)

-- a buy is paid (close − open) × volume × size
abbrev pub direct_pays : Pays
direct_pays c = paid (direct_admits c) points c

-- volume × open × size / leverage, rounded up
abbrev pub direct_needs : Needs
direct_needs c l o v = needed (direct_admits c) (rounded_up (v * o * c.size) l) l o v
