-- Lists of tickets by number.
use Rattle.std.specs.Prelude.{◌≡◌, ◌≢◌, ℕ, Bool, true, cond, not, ◌&&◌, List, [], ◌∷◌, map, length, Some, None, sum_by, filter, Option, ◌==◌, nat_le, nat_lt}
use Rattle.tickets.specs.declared.ticket.Ticket.{Ticket}
use Rattle.tickets.specs.Tickets.{inside, reduced}

-- the volume of all tickets together
abbrev pub volumes : List Ticket → ℕ
volumes ts = sum_by (λ (t : Ticket). t.volume) ts

-- each number is above the one before it, the first above `low` and none above `last`, and each ticket is inside its limits
abbrev pub in_order : ℕ → ℕ → List Ticket → Bool
in_order low last [] = nat_le low last
in_order low last (t ∷ ts) = nat_lt low t.number && (inside t && in_order t.number last ts)

-- what holds of the tickets of every table, where `used` is the last number given
unfoldable pub sound : ℕ → List Ticket → Bool
sound used ts = in_order 0 used ts

-- another ticket has a place among 32, and a number up to 9,999
abbrev pub room : List Ticket → ℕ → Bool
room ts used = nat_lt (length ts) 32 && nat_lt used 9999

-- the ticket of a number, where it is live
abbrev pub lookup : ℕ → List Ticket → Option Ticket
lookup n [] = None
lookup n (t ∷ ts) = cond (t.number == n) (Some t) (lookup n ts)

-- a ticket that is found has the number
abbrev pub HasNumber : ℕ → Option Ticket → Type 0
HasNumber number found = (t : Ticket) → found ≡ Some t → t.number ≡ number

-- and is inside its limits
abbrev pub IsInside : Option Ticket → Type 0
IsInside found = (t : Ticket) → found ≡ Some t → inside t ≡ true

-- every other number is found as before
abbrev pub OthersStay : ℕ → List Ticket → List Ticket → Type 0
OthersStay number old new = (n : ℕ) → n ≢ number → lookup n new ≡ lookup n old

-- t takes the place of the ticket of its number, and every other ticket stays as it is
abbrev pub replaced : Ticket → List Ticket → List Ticket
replaced t ts = map (λ (u : Ticket). cond (u.number == t.number) t u) ts

-- the other tickets, in their order
abbrev pub without : ℕ → List Ticket → List Ticket
without n ts = filter (λ (t : Ticket). not (t.number == n)) ts

-- the volume of a ticket, 0 for none
abbrev pub volume_of : Option Ticket → ℕ
volume_of None = 0
volume_of (Some t) = t.volume

-- v less of the ticket of a number, as it was found, and without it where nothing is left
abbrev pub less_found : ℕ → ℕ → Option Ticket → List Ticket → List Ticket
less_found n v None ts = ts
less_found n v (Some t) ts = cond (nat_lt v t.volume) (replaced (reduced v t) ts) (without n ts)

abbrev pub less : ℕ → ℕ → List Ticket → List Ticket
less n v ts = less_found n v (lookup n ts) ts
