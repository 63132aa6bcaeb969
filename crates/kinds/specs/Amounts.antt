-- How amounts are made and rounded.
use Rattle.std.specs.Prelude.{ℕ, ◌+◌, ◌/◌, ◌%◌, min, ℤ, pos, ◌-ℤ◌, ◌*ℤ◌, neg_ℤ}
use Rattle.terms.specs.declared.side.Side.{Side}
use Rattle.terms.specs.declared.side.Side.TheVariants.{Buy, Sell}

-- (close − open) × units
abbrev pub gained : ℕ → ℕ → ℕ → ℤ
gained o k units = (pos k -ℤ pos o) *ℤ pos units

-- what a buy is paid, a sell is paid with the other sign
abbrev pub by_side : Side → ℤ → ℤ
by_side Buy z = z
by_side Sell z = neg_ℤ z

-- n / d, rounded up: one more where a remainder is left
abbrev pub rounded_up : ℕ → ℕ → ℕ
rounded_up n d = n / d + min 1 (n % d)
