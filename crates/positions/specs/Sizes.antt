-- Sizes of results and margins, so that sums over a table stay inside 64 bits.
use Rattle.std.specs.Prelude.{ℕ, ◌<◌, ◌≤◌, List, length, ℤ, slice_index_or, unsigned_abs}
use Rattle.positions.specs.declared.position.OpenPosition.{OpenPosition}

-- no further from 0 than n
abbrev pub Within : ℤ → ℕ → Type 0
Within z n = unsigned_abs z ≤ n

-- a result and a margin are at most 10 ^ 12
abbrev pub SizedOne : OpenPosition → Type 0
SizedOne p = Within p.result 1000000000000 × (p.margin ≤ 1000000000000)

abbrev pub Sized : List OpenPosition → Type 0
Sized ps = (k : ℕ) (d : OpenPosition) → k < length ps → SizedOne (slice_index_or ps k d)
