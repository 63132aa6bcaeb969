-- The limits of the numbers that calls bring: as tests, and as facts where a law has them for premises.
use Rattle.std.specs.Prelude.{ℕ, ◌≤◌, Bool, ◌&&◌, ℤ, pos, neg_ℤ, int_le, nat_le}

-- from low to high, both included
abbrev pub between : ℕ → ℕ → ℕ → Bool
between low high n = nat_le low n && nat_le n high

abbrev pub account_ok : ℕ → Bool
account_ok n = between 1 8 n

abbrev pub instrument_ok : ℕ → Bool
instrument_ok n = between 1 8 n

-- a price or a level, in points
abbrev pub price_ok : ℕ → Bool
price_ok n = between 1000 1000000 n

-- in hundredths of a lot
abbrev pub volume_ok : ℕ → Bool
volume_ok n = between 1 10000 n

abbrev pub leverage_ok : ℕ → Bool
leverage_ok n = between 1 500 n

-- a stop-out level, a hedge share or a contract's percentage
abbrev pub percentage_ok : ℕ → Bool
percentage_ok n = nat_le n 100

-- a near distance or a deviation, in points
abbrev pub distance_ok : ℕ → Bool
distance_ok n = nat_le n 10000

-- a swap rate, in cents for a lot and a night
abbrev pub rate_ok : ℤ → Bool
rate_ok z = int_le (neg_ℤ (pos 10000)) z && int_le z (pos 10000)

-- one payment, in cents
abbrev pub payment_ok : ℕ → Bool
payment_ok n = between 1 1000000000000 n

-- all accepted payments into one account, in cents
abbrev pub paid_in_ok : ℕ → Bool
paid_in_ok n = nat_le n 1000000000000000

-- in seconds since the unit was set up
abbrev pub time_ok : ℕ → Bool
time_ok n = nat_le n 2000000000

abbrev pub day_ok : ℕ → Bool
day_ok n = between 1 10000 n

abbrev pub ticket_ok : ℕ → Bool
ticket_ok n = between 1 9999 n

-- the number of a contract kind
abbrev pub kind_ok : ℕ → Bool
kind_ok n = nat_le n 255

abbrev pub size_ok : ℕ → Bool
size_ok n = nat_le n 1000000

-- the same limits as facts
abbrev pub Price : ℕ → Type 0
Price n = (1000 ≤ n) × (n ≤ 1000000)

abbrev pub Volume : ℕ → Type 0
Volume n = (1 ≤ n) × (n ≤ 10000)

abbrev pub Leverage : ℕ → Type 0
Leverage n = (1 ≤ n) × (n ≤ 500)
