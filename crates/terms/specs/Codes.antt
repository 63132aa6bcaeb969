-- The number of each record code.
use Rattle.std.specs.Prelude.{ℕ}
use Rattle.terms.specs.declared.record.Code.{Code}
use Rattle.terms.specs.declared.record.Code.TheVariants.{PaidIn, PaidOut, Placed, Opened, Filled, Modified, Deleted, Expired, Closed, StopLoss, TakeProfit, StopOut, Swap, Declined, Lapsed, Removed}

abbrev pub code_number : Code → ℕ
code_number PaidIn = 1
code_number PaidOut = 2
code_number Placed = 3
code_number Opened = 4
code_number Filled = 5
code_number Modified = 6
code_number Deleted = 7
code_number Expired = 8
code_number Closed = 9
code_number StopLoss = 10
code_number TakeProfit = 11
code_number StopOut = 12
code_number Swap = 13
code_number Declined = 14
code_number Lapsed = 15
code_number Removed = 16
