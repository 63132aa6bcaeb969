-- The two sides of a deal.
use Rattle.terms.specs.declared.side.Side.{Side}
use Rattle.terms.specs.declared.side.Side.TheVariants.{Buy, Sell}
use Rattle.terms.specs.declared.order.OrderType.{OrderType}
use Rattle.terms.specs.declared.order.OrderType.TheVariants.{BuyLimit, BuyStop, SellLimit, SellStop}

abbrev pub opposite_of : Side → Side
opposite_of Buy = Sell
opposite_of Sell = Buy

-- the side of the position that an order's fill opens
abbrev pub side_of : OrderType → Side
side_of BuyLimit = Buy
side_of BuyStop = Buy
side_of SellLimit = Sell
side_of SellStop = Sell
