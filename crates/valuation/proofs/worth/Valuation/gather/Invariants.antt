use Rattle.std.proofs.Common.{◌≡◌, take}
use Rattle.positions.specs.Held.{held}
use Rattle.valuation.specs.Valuation.{positions_of}
use Rattle.valuation.proofs.worth.Valuation.gather.Given as goal

-- the positions so far are those of the tickets so far
abbrev pub invariant-loop-ticket : goal.invariant-loop-ticket
invariant-loop-ticket g l = held l.positions ≡ positions_of (g.K.ContractKind.pays l.self.kinds.now) (g.K.ContractKind.needs l.self.kinds.now) l.self.market.now l.leverage (take l.ticket-index l.tickets)
