-- The market and the accounts of the worked figures.
use Rattle.std.specs.Prelude.{ℕ, pos, negsuc}
use Rattle.terms.specs.Protections.{unprotected}
use Rattle.terms.specs.declared.side.Side.TheVariants.{Buy, Sell}
use Rattle.tickets.specs.declared.ticket.TicketState.TheVariants.{Position}
use Rattle.market.specs.declared.listing.Listing.{Listing}
use Rattle.market.specs.declared.market.Market.{Market}
use Rattle.market.specs.Markets.{no_market, listed, priced}
use Rattle.account.specs.Models.{Model, no_dealings, after_pay_in, added}

abbrev pub listing_of_10 : Listing
listing_of_10 = record { contract = record { number = 0; size = 10; percentage = 0 }; near = 30; hedge = 50; buy_swap = negsuc 249; sell_swap = pos 100 }

-- instrument 1 with these prices, and no other
abbrev pub quoted : ℕ → ℕ → Market
quoted bid ask = priced 1 (record { bid = bid; ask = ask }) (listed 1 listing_of_10 no_market)

-- 100,000 paid in, and a buy of 50
abbrev pub buyer : Model
buyer = added 1 50 unprotected (Position Buy 13502) (after_pay_in 100000 (no_dealings 100 60))

-- and a sell of 20
abbrev pub hedger : Model
hedger = added 1 20 unprotected (Position Sell 13500) buyer
