use Rattle.std.proofs.Common.{◌≡◌, length, ap, ◌∙◌, arith}
use Rattle.std.proofs.lemmas.List.{take_all}
use Rattle.fixed.specs.Items.{items}
use Rattle.positions.specs.Held.{held}
use Rattle.positions.specs.Positions.{candidates}
use Rattle.positions.proofs.Telling.{told}
use Rattle.positions.proofs.positions.Positions.candidates.Goals as goal

pub returns-clause-told : goal.returns-clause-told
returns-clause-told c =
    let all = c.held-position-items in
    let same : items c.loop-position.list ≡ candidates (held c.args.self.now)
    = c.loop-position.invariant ∙ ap candidates (take_all c.loop-position.position-index all.result.now c.loop-position-test.false ∙ all.ensures.value) in
    λ some. told (held c.args.self.now) (items c.loop-position.list) same some (omega (arith, all.ensures.few, ap length all.ensures.value)) c.args.self.now.rising
