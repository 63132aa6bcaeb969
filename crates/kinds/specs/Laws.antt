-- What a contract kind answers, and what holds of the answers of every kind.
use Rattle.std.specs.Prelude.{◌≡◌, ℕ, ◌*◌, ◌≤◌, Bool, true, false, ◌&&◌, ℤ, pos, neg_ℤ, unsigned_abs}
use Rattle.terms.specs.declared.contract.Contract.{Contract}
use Rattle.terms.specs.declared.side.Side.{Side}
use Rattle.terms.specs.declared.side.Side.TheVariants.{Buy, Sell}
use Rattle.limits.specs.Bounds.{Price, Volume, Leverage}
use Rattle.kinds.specs.Ranges.{contract_ok, deal_ok, holding_ok}

-- which contracts it admits
abbrev pub Admits : Type 0
Admits = Contract → Bool

-- what a closing pays, by side, opening price, closing price and volume
abbrev pub Pays : Type 0
Pays = Contract → Side → ℕ → ℕ → ℕ → ℤ

-- what margin a position needs, by leverage, opening price and volume
abbrev pub Needs : Type 0
Needs = Contract → ℕ → ℕ → ℕ → ℕ

-- an admitted contract's numbers are inside their limits
abbrev pub Confined : Admits → Type 0
Confined admits = (c : Contract) → admits c ≡ true → contract_ok c ≡ true

-- a closing at the opening price pays nothing
abbrev pub Flat : Admits → Pays → Type 0
Flat admits pays = (c : Contract) (s : Side) (o v : ℕ) → admits c ≡ true → Price o → Volume v → pays c s o o v ≡ pos 0

-- a sell is paid the opposite of a buy
abbrev pub Opposite : Admits → Pays → Type 0
Opposite admits pays = (c : Contract) (o k v : ℕ) → admits c ≡ true → Price o → Price k → Volume v → pays c Sell o k v ≡ neg_ℤ (pays c Buy o k v)

-- a payment's size is at most 100,000,000 for each hundredth of a lot
abbrev pub Bounded : Admits → Pays → Type 0
Bounded admits pays = (c : Contract) (s : Side) (o k v : ℕ) → admits c ≡ true → Price o → Price k → Volume v → unsigned_abs (pays c s o k v) ≤ v * 100000000

-- a margin is from 1 to 10 ^ 12
abbrev pub Margined : Admits → Needs → Type 0
Margined admits needs = (c : Contract) (l o v : ℕ) → admits c ≡ true → Leverage l → Price o → Volume v → (1 ≤ needs c l o v) × (needs c l o v ≤ 1000000000000)

-- where the contract is not admitted, or a number is outside its limits, a closing pays nothing
abbrev pub Unpaid : Admits → Pays → Type 0
Unpaid admits pays = (c : Contract) (s : Side) (o k v : ℕ) → (admits c && deal_ok o k v) ≡ false → pays c s o k v ≡ pos 0

-- and a position needs no margin
abbrev pub Unmargined : Admits → Needs → Type 0
Unmargined admits needs = (c : Contract) (l o v : ℕ) → (admits c && holding_ok l o v) ≡ false → needs c l o v ≡ 0
