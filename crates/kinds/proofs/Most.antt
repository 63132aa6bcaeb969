-- Sizes of amounts, for whoever sums them: of gains, and of a margin.
use Rattle.std.proofs.Common.{◌≡◌, ℕ, ◌*◌, ◌^◌, ◌<◌, ◌≤◌, ◌+◌, ◌-◌, Bool, true, ℤ, pos, negsuc, FitsSigned, unsigned_abs, arith}
use Rattle.std.specs.Int.{w64}
use Rattle.std.proofs.lemmas.Nat.{mul-le}
use Rattle.std.proofs.lemmas.Bool.Decides.{nat_tests}
use Rattle.limits.specs.Bounds.{Price, Volume, Leverage}
use Rattle.kinds.specs.Amounts.{gained, rounded_up}
use Rattle.kinds.specs.Payments.{needed}
use Rattle.kinds.specs.Lemmas.Sizes.{gain_size, rounded_least, rounded_most}

pub fits : (z : ℤ) → unsigned_abs z < 2 ^ 63 → FitsSigned w64 z
fits (pos n) h = record { sfits = h }
fits (negsuc n) h = record { sfits = omega arith }

pub gain_most : (o k u m : ℕ) → o ≤ 1000000 → k ≤ 1000000 → u ≤ m → unsigned_abs (gained o k u) ≤ 1000000 * m
gain_most o k u m ho hk hu = omega (arith, gain_size o k u, mul-le ((k - o) + (o - k)) u 1000000 m (omega arith) hu)

pub gain_fits : (o k u : ℕ) → o ≤ 1000000 → k ≤ 1000000 → u < 2 ^ 32 → FitsSigned w64 (gained o k u)
gain_fits o k u ho hk hu = fits (gained o k u) (omega (arith, gain_most o k u (2 ^ 32) ho hk (omega arith)))

-- a margin of n / d, rounded up
pub margined_needed : (admitted : Bool) (n d l o v : ℕ) → admitted ≡ true → Leverage l → Price o → Volume v → 0 < d → 1 ≤ n → n ≤ 1000000000000 * d → (1 ≤ needed admitted (rounded_up n d) l o v) × (needed admitted (rounded_up n d) l o v ≤ 1000000000000)
margined_needed admitted n d l o v h hl ho hv hd low high =
    let least = rounded_least n d hd low in
    let most = rounded_most n d 1000000000000 hd high in
    (grind (arith, nat_tests), grind (arith, nat_tests))
