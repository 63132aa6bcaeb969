-- An account as the rules see it, and what becomes of it.
use Rattle.std.specs.Prelude.{ℕ, ◌+◌, List, [], ◌∷◌, ◌++◌, ℤ, pos, ◌+ℤ◌, ◌-ℤ◌}
use Rattle.terms.specs.declared.protection.Protection.{Protection}
use Rattle.tickets.specs.declared.ticket.Ticket.{Ticket}
use Rattle.tickets.specs.declared.ticket.TicketState.{TicketState}
use Rattle.tickets.specs.Tickets.{ticket_made}
use Rattle.tickets.specs.Lists.{replaced, without, less}

-- `used` is the last ticket number given, and the tickets are the live ones by rising number
pub record Model : Type 0 where
  pub leverage : ℕ
  pub stop_out : ℕ
  pub balance : ℤ
  pub paid_in : ℕ
  pub nights : ℕ
  pub used : ℕ
  pub tickets : List Ticket

-- another balance, and nothing else
abbrev pub with_balance : ℤ → Model → Model
with_balance z m = record { leverage = m.leverage; stop_out = m.stop_out; balance = z; paid_in = m.paid_in; nights = m.nights; used = m.used; tickets = m.tickets }

-- other tickets, and nothing else
abbrev pub with_tickets : List Ticket → Model → Model
with_tickets ts m = record { leverage = m.leverage; stop_out = m.stop_out; balance = m.balance; paid_in = m.paid_in; nights = m.nights; used = m.used; tickets = ts }

-- as it is opened
abbrev pub no_dealings : ℕ → ℕ → Model
no_dealings leverage stop_out = record { leverage = leverage; stop_out = stop_out; balance = pos 0; paid_in = 0; nights = 0; used = 0; tickets = [] }

abbrev pub after_pay_in : ℕ → Model → Model
after_pay_in x m = record { leverage = m.leverage; stop_out = m.stop_out; balance = m.balance +ℤ pos x; paid_in = m.paid_in + x; nights = m.nights; used = m.used; tickets = m.tickets }

abbrev pub after_pay_out : ℕ → Model → Model
after_pay_out x m = with_balance (m.balance -ℤ pos x) m

-- a new ticket has the next number, and stands after the others
abbrev pub added : ℕ → ℕ → Protection → TicketState → Model → Model
added i v p s m = record {
  leverage = m.leverage;
  stop_out = m.stop_out;
  balance = m.balance;
  paid_in = m.paid_in;
  nights = m.nights;
  used = m.used + 1;
  tickets = m.tickets ++ ticket_made (m.used + 1) i v p s ∷ [];
}

abbrev pub changed : Ticket → Model → Model
changed t m = with_tickets (replaced t m.tickets) m

abbrev pub removed : ℕ → Model → Model
removed n m = with_tickets (without n m.tickets) m

-- v of ticket n is closed, and the balance takes the result
abbrev pub closed : ℕ → ℕ → ℤ → Model → Model
closed n v result m = with_balance (m.balance +ℤ result) (with_tickets (less n v m.tickets) m)

-- one more night, and its swaps
abbrev pub after_night : ℤ → Model → Model
after_night swaps m = record { leverage = m.leverage; stop_out = m.stop_out; balance = m.balance +ℤ swaps; paid_in = m.paid_in; nights = m.nights + 1; used = m.used; tickets = m.tickets }
