-- The number of each refusal, with its condition.
use Rattle.std.specs.Prelude.{ℕ, Some, None, Option}
use Rattle.terms.specs.declared.refusal.Refusal.{Refusal}
use Rattle.terms.specs.declared.refusal.Refusal.TheVariants.{ShortLog, AccountNotOpen, NotListed, OutsideLimits, GoesBack, Exists, NotAdmitted, Busy, NoneWaits, InProcess, FromAdvisor, NotInProcess, NoSuchTicket, AboveOpen, NoPrice, OffPrice, TooNear, NoRoom, ShortOfMoney}

abbrev pub refusal_number : Refusal → ℕ
-- too few places in the log
refusal_number ShortLog = 1
-- the account is not open
refusal_number AccountNotOpen = 2
-- the instrument is not listed
refusal_number NotListed = 3
-- some other number is outside its limits, or a bid is above its ask
refusal_number OutsideLimits = 4
-- a time or a day before the present one, or the same day again
refusal_number GoesBack = 5
-- the account is open already, or the instrument listed already
refusal_number Exists = 6
-- the contract kinds do not admit the contract
refusal_number NotAdmitted = 7
-- the account has an instruction, waiting or in process
refusal_number Busy = 8
-- no instruction waits, or the account to cancel for has none
refusal_number NoneWaits = 9
-- the instruction to be cancelled is in process
refusal_number InProcess = 10
-- the instruction to be cancelled came from the advisor
refusal_number FromAdvisor = 11
-- the account of the slip has nothing in process
refusal_number NotInProcess = 12
-- there is no such live ticket, or it is an order and a position is meant, or the reverse
refusal_number NoSuchTicket = 13
-- more is to be closed than is open
refusal_number AboveOpen = 14
-- the instrument has had no quote
refusal_number NoPrice = 15
-- the market has moved further than the deviation allows
refusal_number OffPrice = 16
-- a level is nearer than the near distance
refusal_number TooNear = 17
-- no place or no number is left for a ticket
refusal_number NoRoom = 18
-- not enough margin, balance or free margin
refusal_number ShortOfMoney = 19

-- the cause of a record, 0 where there is none
abbrev pub cause_number : Option Refusal → ℕ
cause_number None = 0
cause_number (Some r) = refusal_number r
