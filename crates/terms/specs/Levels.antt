-- What a level works as, from where it is struck, and which price is its market price.
use Rattle.std.specs.Prelude.{ℕ, Bool, true, false, cond}
use Rattle.terms.specs.declared.side.Side.TheVariants.{Buy, Sell}
use Rattle.terms.specs.declared.order.OrderType.TheVariants.{BuyLimit, BuyStop, SellLimit, SellStop}
use Rattle.terms.specs.declared.level.LevelKind.{LevelKind}
use Rattle.terms.specs.declared.level.LevelKind.TheVariants.{Entry, StopLoss, TakeProfit}
use Rattle.terms.specs.declared.level.WorksAs.{WorksAs}
use Rattle.terms.specs.declared.level.WorksAs.TheVariants.{Stop, Limit}
use Rattle.terms.specs.declared.quote.Prices.{Prices}

-- what a fill rule is told of the level
abbrev pub works_as : LevelKind → WorksAs
works_as (Entry BuyLimit) = Limit
works_as (Entry BuyStop) = Stop
works_as (Entry SellLimit) = Limit
works_as (Entry SellStop) = Stop
works_as (StopLoss s) = Stop
works_as (TakeProfit s) = Limit

-- the market price falls to it, and does not rise to it
abbrev pub low : LevelKind → Bool
low (Entry BuyLimit) = true
low (Entry BuyStop) = false
low (Entry SellLimit) = false
low (Entry SellStop) = true
low (StopLoss Buy) = true
low (StopLoss Sell) = false
low (TakeProfit Buy) = false
low (TakeProfit Sell) = true

-- its market price is the bid, and not the ask
abbrev pub at_bid : LevelKind → Bool
at_bid (Entry BuyLimit) = false
at_bid (Entry BuyStop) = false
at_bid (Entry SellLimit) = true
at_bid (Entry SellStop) = true
at_bid (StopLoss Buy) = true
at_bid (StopLoss Sell) = false
at_bid (TakeProfit Buy) = true
at_bid (TakeProfit Sell) = false

abbrev pub market_price : LevelKind → Prices → ℕ
market_price k p = cond (at_bid k) p.bid p.ask
