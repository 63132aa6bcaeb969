-- What `sound` says of the tickets of a table, for whoever reads one.
use Rattle.std.proofs.Common.{◌≡◌, ℕ, ◌<◌, ◌≤◌, true, List, length, get_or}
use Rattle.tickets.specs.declared.ticket.Ticket.{Ticket}
use Rattle.tickets.specs.Tickets.{blank, inside}
use Rattle.tickets.specs.Lists.{sound}
use Rattle.tickets.proofs.Limits.{inside_volume}
use Rattle.tickets.proofs.Ordered.{order_rises, order_last, order_inside}

-- numbers rise
pub sound_rises : (used : ℕ) (ts : List Ticket) (j k : ℕ) → sound used ts ≡ true → j < k → k < length ts → (get_or ts j blank).number < (get_or ts k blank).number
unfolding sound
sound_rises used ts j k s h l = order_rises 0 used ts j k s h l

-- no number is above the last one given, so that the next is new
pub sound_given : (used : ℕ) (ts : List Ticket) (k : ℕ) → sound used ts ≡ true → k < length ts → (get_or ts k blank).number ≤ used
unfolding sound
sound_given used ts k s h = order_last 0 used ts k s h

-- every ticket is inside its limits
pub sound_inside : (used : ℕ) (ts : List Ticket) (k : ℕ) → sound used ts ≡ true → k < length ts → inside (get_or ts k blank) ≡ true
unfolding sound
sound_inside used ts k s h = order_inside 0 used ts k s h

-- and has 100 lots at most
pub sound_volume : (used : ℕ) (ts : List Ticket) (k : ℕ) → sound used ts ≡ true → k < length ts → (get_or ts k blank).volume ≤ 10000
sound_volume used ts k s h = inside_volume (get_or ts k blank) (sound_inside used ts k s h)
