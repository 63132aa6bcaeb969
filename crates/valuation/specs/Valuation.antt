-- An account at present prices.
use Rattle.std.specs.Prelude.{ℕ, List, [], ◌∷◌, ℤ, pos, ◌+ℤ◌, ◌-ℤ◌, Some, None, Option}
use Rattle.std.specs.List.{flat_map}
use Rattle.kinds.specs.Laws.{Pays, Needs}
use Rattle.tickets.specs.declared.ticket.Ticket.{Ticket}
use Rattle.market.specs.declared.market.Market.{Market}
use Rattle.account.specs.Models.{Model}
use Rattle.positions.specs.declared.position.OpenPosition.{OpenPosition}
use Rattle.positions.specs.Positions.{floating}
use Rattle.positions.specs.Margins.{account_margin}
use Rattle.valuation.specs.Valued.{valued}

abbrev pub as_list : {X : Type 0} → Option X → List X
as_list None = []
as_list (Some x) = x ∷ []

-- the positions among tickets, at present prices and in the tickets' order
abbrev pub positions_of : Pays → Needs → Market → ℕ → List Ticket → List OpenPosition
positions_of pays needs m leverage ts = flat_map (λ (t : Ticket). as_list (valued pays needs m leverage t)) ts

-- an account's open positions, by rising ticket
abbrev pub open_positions : Pays → Needs → Market → Model → List OpenPosition
open_positions pays needs m a = positions_of pays needs m a.leverage a.tickets

-- the balance and all floating results
abbrev pub equity : Pays → Needs → Market → Model → ℤ
equity pays needs m a = a.balance +ℤ floating (open_positions pays needs m a)

-- what all positions need, hedges counted
abbrev pub margin : Pays → Needs → Market → Model → ℕ
margin pays needs m a = account_margin m (open_positions pays needs m a)

abbrev pub free_margin : Pays → Needs → Market → Model → ℤ
free_margin pays needs m a = equity pays needs m a -ℤ pos (margin pays needs m a)
