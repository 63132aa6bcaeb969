-- What the shipped kinds pay, from what a buy gains.
use Rattle.std.specs.Prelude.{ℕ, ◌*◌, Bool, cond, ◌&&◌, ℤ, pos}
use Rattle.terms.specs.declared.contract.Contract.{Contract}
use Rattle.terms.specs.declared.side.Side.{Side}
use Rattle.kinds.specs.Amounts.{gained, by_side}
use Rattle.kinds.specs.Ranges.{deal_ok, holding_ok}

-- what a buy gains, by opening price, closing price and volume
abbrev pub Gains : Type 0
Gains = Contract → ℕ → ℕ → ℕ → ℤ

-- nothing unless the contract is admitted and the numbers are inside their limits
abbrev pub paid : Bool → Gains → Contract → Side → ℕ → ℕ → ℕ → ℤ
paid admitted gains c s o k v = cond (admitted && deal_ok o k v) (by_side s (gains c o k v)) (pos 0)

abbrev pub needed : Bool → ℕ → ℕ → ℕ → ℕ → ℕ
needed admitted amount l o v = cond (admitted && holding_ok l o v) amount 0

-- each point is worth volume × size cents: (close − open) × volume × size
abbrev pub points : Gains
points c o k v = gained o k (v * c.size)
