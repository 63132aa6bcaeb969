-- What stays inside its limits when a ticket changes.
use Rattle.std.proofs.Common.{◌≡◌, ℕ, ◌≤◌, true, ◌&&◌, Some, None, Option}
use Rattle.std.proofs.lemmas.Bool.{and_parts, and_from}
use Rattle.limits.specs.Bounds.{instrument_ok, price_ok, volume_ok, ticket_ok, time_ok}
use Rattle.limits.proofs.Within.{between_says}
use Rattle.terms.specs.declared.protection.Protection.{Protection}
use Rattle.terms.specs.Protections.{optionally, protection_ok}
use Rattle.tickets.specs.declared.ticket.Ticket.{Ticket}
use Rattle.tickets.specs.declared.ticket.TicketState.{TicketState}
use Rattle.tickets.specs.declared.ticket.TicketState.TheVariants.{Pending, Position}
use Rattle.tickets.specs.Tickets.{inside, entry_ok, state_ok, moved, modified}

-- the parts of a ticket that is inside
parts : (t : Ticket) → inside t ≡ true → (ticket_ok t.number ≡ true) × (instrument_ok t.instrument ≡ true) × (volume_ok t.volume ≡ true) × (protection_ok t.protection ≡ true) × (state_ok t.state ≡ true)
parts t i =
    let p = and_parts (ticket_ok t.number) (entry_ok t.instrument t.volume t.protection t.state) i in
    let q = and_parts (instrument_ok t.instrument) (volume_ok t.volume && (protection_ok t.protection && state_ok t.state)) p.1 in
    let r = and_parts (volume_ok t.volume) (protection_ok t.protection && state_ok t.state) q.1 in
    let s = and_parts (protection_ok t.protection) (state_ok t.state) r.1 in
    (p.0, q.0, r.0, s.0, s.1)

-- a ticket of such parts is inside
whole : (t : Ticket) → ticket_ok t.number ≡ true → instrument_ok t.instrument ≡ true → volume_ok t.volume ≡ true → protection_ok t.protection ≡ true → state_ok t.state ≡ true → inside t ≡ true
whole t n i v p s =
    and_from (ticket_ok t.number) (entry_ok t.instrument t.volume t.protection t.state) n
    (and_from (instrument_ok t.instrument) (volume_ok t.volume && (protection_ok t.protection && state_ok t.state)) i
    (and_from (volume_ok t.volume) (protection_ok t.protection && state_ok t.state) v (and_from (protection_ok t.protection) (state_ok t.state) p s)))

-- no ticket has more than 100 lots
pub inside_volume : (t : Ticket) → inside t ≡ true → t.volume ≤ 10000
inside_volume t i = (between_says 1 10000 t.volume (parts t i).2).1

moved_inside : (level : Option ℕ) (s : TicketState) → state_ok s ≡ true → optionally price_ok level ≡ true → state_ok (moved level s) ≡ true
moved_inside None s h l = h
moved_inside (Some level) (Pending order old expiry) h l = and_from (price_ok level) (optionally time_ok expiry) l (and_parts (price_ok old) (optionally time_ok expiry) h).1
moved_inside (Some level) (Position side price) h l = h

pub modified_inside : (level : Option ℕ) (p : Protection) (t : Ticket) → inside t ≡ true → optionally price_ok level ≡ true → protection_ok p ≡ true → inside (modified level p t) ≡ true
modified_inside level p t i l h =
    let q = parts t i in
    whole (modified level p t) q.0 q.1 q.2 h (moved_inside level t.state q.4 l)
