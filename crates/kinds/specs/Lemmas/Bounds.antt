-- How large the gains and margins of the shipped kinds can be.
use Rattle.std.specs.Prelude.{ℕ, ◌+◌, ◌-◌, ◌*◌, ◌<◌, ◌≤◌, pos, int_div, unsigned_abs}
use Rattle.std.proofs.Common.{arith}
use Rattle.std.proofs.lemmas.Nat.{mul-le, div_below}
use Rattle.limits.specs.Bounds.{Price, Volume, Leverage}
use Rattle.kinds.specs.Amounts.{gained, rounded_up}
use Rattle.kinds.specs.Lemmas.Sizes.{nat_abs-quot, gain_size, rounded_least, rounded_most}

-- at a size of 100 at most
pub points_most : (o k v s : ℕ) → Price o → Price k → s ≤ 100 → unsigned_abs (gained o k (v * s)) ≤ v * 100000000
points_most o k v s ho hk hs =
    let m : ((k - o) + (o - k)) * (v * s) ≤ v * 100000000 = grind (arith, mul-le ((k - o) + (o - k)) (v * s) 1000000 (v * 100)) in
    omega (arith, gain_size o k (v * s))

-- a price is at most 1,000 times another, so a gain over the closing price is at most 999 times volume × size
pub converted_most : (o k v s : ℕ) → Price o → Price k → s ≤ 100000 → unsigned_abs (int_div (gained o k (v * s)) (pos k)) ≤ v * 100000000
converted_most o k v s ho hk hs =
    let d = (k - o) + (o - k) in
    let m : d * (v * s) < (v * 100000000 + 1) * k = grind (arith, mul-le d (v * s) (999 * k) (v * 100000)) in
    rw (nat_abs-quot (gained o k (v * s)) k, gain_size o k (v * s)) (omega (arith, div_below (d * (v * s)) k (v * 100000000 + 1) (omega arith) m))

-- an amount of n / d, rounded up
rounded_amount : (n d : ℕ) → 0 < d → 1 ≤ n → n ≤ 1000000000000 * d → (1 ≤ rounded_up n d) × (rounded_up n d ≤ 1000000000000)
rounded_amount n d h low high = (rounded_least n d h low, rounded_most n d 1000000000000 h high)

-- volume × open × size
pub worth_most : (v o s : ℕ) → v ≤ 10000 → o ≤ 1000000 → s ≤ 100 → v * o * s ≤ 1000000000000
worth_most v o s hv ho hs = grind arith

pub worth_least : (v o s : ℕ) → 1 ≤ v → 1 ≤ o → 1 ≤ s → 1 ≤ v * o * s
worth_least v o s hv ho hs = grind arith

-- the amounts of direct, indirect and share
pub worth_amount : (l o v s : ℕ) → Leverage l → Price o → Volume v → (1 ≤ s) × (s ≤ 100) → (1 ≤ rounded_up (v * o * s) l) × (rounded_up (v * o * s) l ≤ 1000000000000)
worth_amount l o v s hl ho hv hs =
    let most = worth_most v o s hv.1 ho.1 hs.1 in
    rounded_amount (v * o * s) l hl.0 (worth_least v o s hv.0 (omega arith) hs.0) (omega arith)

pub units_amount : (l v s : ℕ) → Leverage l → Volume v → (1 ≤ s) × (s ≤ 100000) → (1 ≤ rounded_up (v * s) l) × (rounded_up (v * s) l ≤ 1000000000000)
units_amount l v s hl hv hs = rounded_amount (v * s) l (omega arith) (grind arith) (grind arith)

pub share_amount : (o v s p : ℕ) → Price o → Volume v → (1 ≤ s) × (s ≤ 100) → (1 ≤ p) × (p ≤ 100) → (1 ≤ rounded_up (v * o * s * p) 100) × (rounded_up (v * o * s * p) 100 ≤ 1000000000000)
share_amount o v s p ho hv hs hp =
    let least = worth_least v o s hv.0 (omega arith) hs.0 in
    let most = worth_most v o s hv.1 ho.1 hs.1 in
    rounded_amount (v * o * s * p) 100 (omega arith) (mul-le 1 1 (v * o * s) p least hp.0) (mul-le (v * o * s) p 1000000000000 100 most hp.1)
