-- One position at present prices.
use Rattle.std.specs.Prelude.{ℕ, ℤ, pos, Some, None, Option}
use Rattle.terms.specs.declared.side.Side.{Side}
use Rattle.terms.specs.declared.quote.Prices.{Prices}
use Rattle.terms.specs.Quotes.{closing_price}
use Rattle.kinds.specs.Laws.{Pays, Needs}
use Rattle.tickets.specs.declared.ticket.Ticket.{Ticket}
use Rattle.tickets.specs.declared.ticket.TicketState.{TicketState}
use Rattle.tickets.specs.declared.ticket.TicketState.TheVariants.{Pending, Position}
use Rattle.market.specs.declared.listing.Listing.{Listing}
use Rattle.market.specs.declared.instrument.Instrument.{Instrument}
use Rattle.market.specs.declared.market.Market.{Market}
use Rattle.market.specs.Instruments.{present}
use Rattle.market.specs.Markets.{instrument}
use Rattle.positions.specs.declared.position.OpenPosition.{OpenPosition}

-- the payment for a closing at these prices, a buy at the bid and a sell at the ask
abbrev pub result_at : Pays → Option Listing → Option Prices → Side → ℕ → ℕ → ℤ
result_at pays (Some l) (Some p) side price volume = pays l.contract side price (closing_price side p) volume
result_at pays (Some l) None side price volume = pos 0
result_at pays None p side price volume = pos 0

-- the payment for a closing at the present quote
abbrev pub result_now : Pays → Instrument → Side → ℕ → ℕ → ℤ
result_now pays row side price volume = result_at pays row.listing (present row) side price volume

abbrev pub listed_margin : Needs → Option Listing → ℕ → ℕ → ℕ → ℕ
listed_margin needs (Some l) leverage price volume = needs l.contract leverage price volume
listed_margin needs None leverage price volume = 0

-- what margin a position needs by itself
abbrev pub own_margin : Needs → Instrument → ℕ → ℕ → ℕ → ℕ
own_margin needs row leverage price volume = listed_margin needs row.listing leverage price volume

-- an order is no position; a position floats its result
abbrev pub valued_as : Pays → Needs → Instrument → ℕ → Ticket → TicketState → Option OpenPosition
valued_as pays needs row leverage t (Pending order level expiry) = None
valued_as pays needs row leverage t (Position side price) = Some (record {
  ticket = t.number;
  instrument = t.instrument;
  side = side;
  result = result_now pays row side price t.volume;
  margin = own_margin needs row leverage price t.volume;
})

-- a ticket at present prices, where it is a position
abbrev pub valued : Pays → Needs → Market → ℕ → Ticket → Option OpenPosition
valued pays needs m leverage t = valued_as pays needs (instrument t.instrument m) leverage t t.state
