-- The margin of an account: buys and sells of an instrument hedge each other.
use Rattle.std.specs.Prelude.{ℕ, zero, suc, ◌+◌, ◌*◌, ◌/◌, min, max, Bool, true, false, ◌&&◌, List, sum_by, filter, ◌==◌}
use Rattle.terms.specs.declared.side.Side.{Side}
use Rattle.terms.specs.declared.side.Side.TheVariants.{Buy, Sell}
use Rattle.market.specs.declared.market.Market.{Market}
use Rattle.market.specs.Instruments.{hedge_share}
use Rattle.market.specs.Markets.{instrument}
use Rattle.positions.specs.declared.position.OpenPosition.{OpenPosition}

abbrev pub same_side : Side → Side → Bool
same_side Buy Buy = true
same_side Buy Sell = false
same_side Sell Buy = false
same_side Sell Sell = true

-- one of that instrument and side
abbrev pub is_on : ℕ → Side → OpenPosition → Bool
is_on i s p = p.instrument == i && same_side p.side s

-- the margins of an instrument's positions of one side, together
abbrev pub side_margin : ℕ → Side → List OpenPosition → ℕ
side_margin i s ps = sum_by (λ (p : OpenPosition). p.margin) (filter (is_on i s) ps)

-- a share in percent of an amount, rounded down
abbrev pub percent : ℕ → ℕ → ℕ
percent share amount = amount * share / 100

-- the larger of the two sums, and the hedge share of the smaller
abbrev pub hedged : ℕ → ℕ → ℕ → ℕ
hedged share buys sells = max buys sells + percent share (min buys sells)

-- what the positions of one instrument need
abbrev pub instrument_margin : ℕ → ℕ → List OpenPosition → ℕ
instrument_margin share i ps = hedged share (side_margin i Buy ps) (side_margin i Sell ps)

-- a sum over the instruments 1 to n
abbrev pub over_instruments : (ℕ → ℕ) → ℕ → ℕ
over_instruments f zero = 0
over_instruments f (suc n) = over_instruments f n + f (suc n)

-- what all positions need
abbrev pub account_margin : Market → List OpenPosition → ℕ
account_margin m ps = over_instruments (λ (i : ℕ). instrument_margin (hedge_share (instrument i m)) i ps) 8
