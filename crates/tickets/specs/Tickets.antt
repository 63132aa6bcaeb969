-- When a ticket is inside its limits, and how one is changed.
use Rattle.std.specs.Prelude.{ℕ, ◌-◌, Bool, ◌&&◌, Some, None, Option}
use Rattle.limits.specs.Bounds.{instrument_ok, price_ok, volume_ok, ticket_ok, time_ok}
use Rattle.terms.specs.Protections.{optionally, protection_ok, unprotected}
use Rattle.terms.specs.declared.order.OrderType.TheVariants.{BuyLimit}
use Rattle.terms.specs.declared.protection.Protection.{Protection}
use Rattle.tickets.specs.declared.ticket.Ticket.{Ticket}
use Rattle.tickets.specs.declared.ticket.TicketState.{TicketState}
use Rattle.tickets.specs.declared.ticket.TicketState.TheVariants.{Pending, Position}

-- what stands past the end of a list of tickets
abbrev pub blank : Ticket
blank = record { number = 0; instrument = 0; volume = 0; protection = unprotected; state = Pending BuyLimit 0 None }

-- an order's level and expiry, or a position's opening price
abbrev pub state_ok : TicketState → Bool
state_ok (Pending order level expiry) = price_ok level && optionally time_ok expiry
state_ok (Position side price) = price_ok price

-- what a ticket is about, apart from its number
abbrev pub entry_ok : ℕ → ℕ → Protection → TicketState → Bool
entry_ok instrument volume protection state = instrument_ok instrument && (volume_ok volume && (protection_ok protection && state_ok state))

-- every number of the ticket is inside its limits
abbrev pub inside : Ticket → Bool
inside t = ticket_ok t.number && entry_ok t.instrument t.volume t.protection t.state

-- an order waits for another level, where one is given; a position has none
abbrev pub moved : Option ℕ → TicketState → TicketState
moved None s = s
moved (Some level) (Pending order old expiry) = Pending order level expiry
moved (Some level) (Position side price) = Position side price

-- another protection and level; expiry, volume and everything else stay
abbrev pub modified : Option ℕ → Protection → Ticket → Ticket
modified level p t = record { number = t.number; instrument = t.instrument; volume = t.volume; protection = p; state = moved level t.state }

-- that much less volume
abbrev pub reduced : ℕ → Ticket → Ticket
reduced v t = record { number = t.number; instrument = t.instrument; volume = t.volume - v; protection = t.protection; state = t.state }

abbrev pub ticket_made : ℕ → ℕ → ℕ → Protection → TicketState → Ticket
ticket_made n i v p s = record { number = n; instrument = i; volume = v; protection = p; state = s }
