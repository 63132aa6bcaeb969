-- Sizes of amounts: of gains, of quotients and of what is rounded up.
use Rattle.std.specs.Prelude.{◌≡◌, ℕ, ◌+◌, ◌-◌, ◌*◌, ◌/◌, ◌<◌, ◌≤◌, ℤ, pos, int_div, unsigned_abs}
use Rattle.std.proofs.Common.{arith}
use Rattle.std.proofs.lemmas.Int.{ints, unsigned_abs-mul}
use Rattle.std.proofs.lemmas.Grind.{div_ceil_times}
use Rattle.terms.specs.declared.side.Side.{Side}
use Rattle.kinds.specs.Amounts.{gained, by_side, rounded_up}

pub nat_abs-quot : (z : ℤ) (n : ℕ) → unsigned_abs (int_div z (pos n)) ≡ unsigned_abs z / n
nat_abs-quot z n = grind (arith, ints)

pub nat_abs-side : (s : Side) (z : ℤ) → unsigned_abs (by_side s z) ≡ unsigned_abs z
nat_abs-side s z = grind (arith, ints)

-- a gain's size
pub gain_size : (o k u : ℕ) → unsigned_abs (gained o k u) ≡ ((k - o) + (o - k)) * u
gain_size o k u = grind (arith, ints, unsigned_abs-mul)

pub rounded_least : (n d : ℕ) → 0 < d → 1 ≤ n → 1 ≤ rounded_up n d
rounded_least n d h low = grind (arith, div_ceil_times n d h)

pub rounded_most : (n d m : ℕ) → 0 < d → n ≤ m * d → rounded_up n d ≤ m
rounded_most n d m h high = grind (arith, div_ceil_times n d h)

-- between equal prices nothing is gained
pub gained_flat : (o u : ℕ) → gained o o u ≡ pos 0
gained_flat o u = grind (arith, ints)

pub converted_flat : (o u : ℕ) → int_div (gained o o u) (pos o) ≡ pos 0
converted_flat o u = grind (arith, ints)
