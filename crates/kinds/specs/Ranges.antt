-- The numbers of a contract, of a deal and of a margin, inside their limits.
use Rattle.std.specs.Prelude.{ℕ, Bool, ◌&&◌}
use Rattle.limits.specs.Bounds.{kind_ok, size_ok, percentage_ok, price_ok, volume_ok, leverage_ok}
use Rattle.terms.specs.declared.contract.Contract.{Contract}

-- kind number, size and percentage
abbrev pub contract_ok : Contract → Bool
contract_ok c = kind_ok c.number && (size_ok c.size && percentage_ok c.percentage)

-- opening price, closing price and volume
abbrev pub deal_ok : ℕ → ℕ → ℕ → Bool
deal_ok o k v = price_ok o && (price_ok k && volume_ok v)

-- leverage, opening price and volume
abbrev pub holding_ok : ℕ → ℕ → ℕ → Bool
holding_ok l o v = leverage_ok l && (price_ok o && volume_ok v)
