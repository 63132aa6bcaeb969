-- What the shipped kinds have in common, and what each of them owes of its own part.
use Rattle.std.specs.Prelude.{◌≡◌, ℕ, ◌*◌, ◌≤◌, Bool, true, ◌&&◌, ◌==◌, pos, unsigned_abs}
use Rattle.terms.specs.declared.contract.Contract.{Contract}
use Rattle.limits.specs.Bounds.{between, Price, Volume, Leverage}
use Rattle.kinds.specs.Laws.{Admits, Pays, Needs}
use Rattle.kinds.specs.Payments.{Gains, paid, needed}

-- which percentages a contract may have
abbrev pub Percentages : Type 0
Percentages = ℕ → Bool

-- number 0, a size from 1 to some largest, and a percentage that a contract may have
abbrev pub shipped_admits : ℕ → Percentages → Admits
shipped_admits largest has c = c.number == 0 && (between 1 largest c.size && has c.percentage)

-- what a buy gains, by the side
abbrev pub shipped_pays : ℕ → Percentages → Gains → Pays
shipped_pays largest has gains c = paid (shipped_admits largest has c) gains c

-- an amount inside the limits
abbrev pub shipped_needs : ℕ → Percentages → Needs → Needs
shipped_needs largest has amounts c l o v = needed (shipped_admits largest has c) (amounts c l o v) l o v

-- a kind that answers so
abbrev pub Answers : ℕ → Percentages → Gains → Needs → Admits → Pays → Needs → Type 0
Answers largest has gains amounts admits pays needs =
    (admits ≡ shipped_admits largest has) × (pays ≡ shipped_pays largest has gains) × (needs ≡ shipped_needs largest has amounts)

-- between equal prices a buy gains nothing
abbrev pub FlatGains : Gains → Type 0
FlatGains gains = (c : Contract) (o v : ℕ) → gains c o o v ≡ pos 0

-- a gain's size is at most 100,000,000 for each hundredth of a lot
abbrev pub BoundedGains : ℕ → Gains → Type 0
BoundedGains largest gains = (c : Contract) (o k v : ℕ) → Price o → Price k → c.size ≤ largest → unsigned_abs (gains c o k v) ≤ v * 100000000

-- an amount is from 1 to 10 ^ 12
abbrev pub BoundedAmounts : ℕ → Percentages → Needs → Type 0
BoundedAmounts largest has amounts =
    (c : Contract) (l o v : ℕ) → (1 ≤ c.size) × (c.size ≤ largest) → has c.percentage ≡ true → Leverage l → Price o → Volume v
    → (1 ≤ amounts c l o v) × (amounts c l o v ≤ 1000000000000)
