use Rattle.std.proofs.Common.{◌≡◌, ℕ, ◌-◌, ◌*◌, ◌≤◌}
use Rattle.market.specs.Instruments.{hedge_share}
use Rattle.market.specs.Markets.{instrument}
use Rattle.positions.specs.Held.{held}
use Rattle.positions.specs.Margins.{instrument_margin, over_instruments}
use Rattle.positions.proofs.positions.Positions.margin.Given as goal

abbrev pub invariant-loop-number : goal.invariant-loop-number
invariant-loop-number l = (l.sum ≡ over_instruments (λ (i : ℕ). instrument_margin (hedge_share (instrument i l.market)) i (held l.self)) (l.number - 1)) × (1 ≤ l.number) × (l.sum ≤ (l.number - 1) * 120000000000000)
