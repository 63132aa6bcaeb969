-- A contract quoted in another currency.
use Rattle.std.specs.Prelude.{◌*◌, ◌&&◌, pos, ◌==◌, int_div}
use Rattle.limits.specs.Bounds.{between}
use Rattle.kinds.specs.Amounts.{gained, rounded_up}
use Rattle.kinds.specs.Laws.{Admits, Pays, Needs}
use Rattle.kinds.specs.Payments.{Gains, paid, needed}

-- number 0, size 1 to 100,000, percentage 0
abbrev pub indirect_admits : Admits
indirect_admits c = c.number == 0 && (between 1 100000 c.size && c.percentage == 0)

-- (close − open) × volume × size / close, its fraction dropped toward zero
abbrev pub converted : Gains
converted c o k v = int_div (gained o k (v * c.size)) (pos k)

abbrev pub indirect_pays : Pays
indirect_pays c = paid (indirect_admits c) converted c

-- volume × size / leverage, rounded up
abbrev pub indirect_needs : Needs
indirect_needs c l o v = needed (indirect_admits c) (rounded_up (v * c.size) l) l o v
