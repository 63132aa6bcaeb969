-- The measure that bounds an account's amounts, whatever its dealings were.
use Rattle.std.specs.Prelude.{ℕ, ◌+◌, ◌*◌, ◌≤◌, List, ℤ, unsigned_abs}
use Rattle.tickets.specs.declared.ticket.Ticket.{Ticket}
use Rattle.tickets.specs.Lists.{volumes}

-- the balance, and what closing every live volume can still move, is at most what was paid in,
-- and what the numbers given so far and the nights so far can have moved
abbrev pub Measured : ℤ → List Ticket → ℕ → ℕ → ℕ → Type 0
Measured balance tickets paid_in used nights = unsigned_abs balance + 100000000 * volumes tickets ≤ paid_in + 1000000000000 * used + 32000000 * nights
