-- The client's account of the print-out, and its market.
use Rattle.std.specs.Prelude.{pos, negsuc, Some, None}
use Rattle.terms.specs.declared.order.OrderType.TheVariants.{BuyLimit, BuyStop}
use Rattle.terms.specs.declared.protection.Protection.{Protection}
use Rattle.terms.specs.Protections.{unprotected}
use Rattle.terms.specs.declared.side.Side.TheVariants.{Buy, Sell}
use Rattle.tickets.specs.declared.ticket.TicketState.TheVariants.{Pending, Position}
use Rattle.market.specs.declared.listing.Listing.{Listing}
use Rattle.market.specs.declared.market.Market.{Market}
use Rattle.market.specs.Markets.{no_market, listed}
use Rattle.account.specs.Models.{Model, no_dealings, after_pay_in, added}

abbrev pub protected : Protection
protected = record { stop_loss = Some 13300; take_profit = Some 13700 }

abbrev pub newcomer : Model
newcomer = added 1 50 protected (Position Buy 13502) (added 2 1 unprotected (Position Buy 8100) (after_pay_in 100000 (no_dealings 100 60)))

abbrev pub client : Model
client =
    added 2 3 unprotected (Pending BuyLimit 8050 None)
    (added 1 10 unprotected (Pending BuyStop 13540 (Some 86400))
    (added 3 5 unprotected (Position Sell 25000) (added 1 20 unprotected (Position Sell 13500) newcomer)))

abbrev pub direct : Listing
direct = record { contract = record { number = 0; size = 10; percentage = 0 }; near = 30; hedge = 50; buy_swap = negsuc 249; sell_swap = pos 100 }

abbrev pub indirect : Listing
indirect = record { contract = record { number = 1; size = 100000; percentage = 0 }; near = 10; hedge = 0; buy_swap = pos 40; sell_swap = negsuc 89 }

abbrev pub share : Listing
share = record { contract = record { number = 3; size = 1; percentage = 5 }; near = 50; hedge = 100; buy_swap = negsuc 29; sell_swap = negsuc 29 }

-- its market before any quote
abbrev pub client_market : Market
client_market = listed 3 share (listed 2 indirect (listed 1 direct no_market))
