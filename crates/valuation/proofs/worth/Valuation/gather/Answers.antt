use Rattle.std.proofs.Common.{ℕ, ◌<◌, length, get_or, take, Some, None, Option, sym, ap, ◌∙◌, arith}
use Rattle.std.proofs.lemmas.List.{length-take-le, get_or-take, append-nil}
use Rattle.tickets.specs.declared.ticket.Ticket.{Ticket}
use Rattle.tickets.specs.Tickets.{blank}
use Rattle.tickets.proofs.Laws.{sound_rises, sound_volume}
use Rattle.positions.specs.declared.position.OpenPosition.{OpenPosition}
use Rattle.positions.specs.Held.{held}
use Rattle.valuation.proofs.Gathered.{valued_number, gathered_few, gathered_above, gathered_more, gathered_all}
use Rattle.valuation.proofs.Sizes.{valued_sized}
use Rattle.valuation.proofs.worth.Valuation.gather.Goals.{in-Some, in_default}
use Rattle.valuation.proofs.worth.Valuation.gather.Goals as goal

pub push-requires : goal.push-requires
push-requires g c =
    let kinds = c.args.self.kinds.now in
    let met = g.met.K.ContractKind in
    let pays = g.K.ContractKind.pays kinds in
    let needs = g.K.ContractKind.needs kinds in
    let market = c.args.self.market.now in
    let leverage = c.args.leverage in
    let ts = c.args.tickets.now in
    let used = c.requires.sound.0 in
    let s = c.requires.sound.1 in
    let i = c.loop-ticket.ticket-index in
    let p = c.in-Some.position in
    let e = c.in-Some.ensures in
    let here = c.loop-ticket-test.true in
    let long = length-take-le i ts (omega arith) in
    let few = gathered_few pays needs market leverage (take i ts) in
    let below : (k : ℕ) → k < length (take i ts) → (get_or (take i ts) k blank).number < p.ticket = λ k l. omega (arith, ap (λ (t : Ticket). t.number) (get_or-take i ts k blank (omega arith)), sound_rises used ts k i s (omega arith) here, valued_number pays needs market leverage (get_or ts i blank) p e) in
    record {
      place = omega (arith, few, long, ap length c.loop-ticket.invariant, c.requires.few);
      later = gathered_above pays needs market leverage (take i ts) (held c.loop-ticket.positions) p.ticket c.loop-ticket.invariant below;
      sized = valued_sized (g.K.ContractKind.admits kinds) pays (met.unpaid kinds) (met.bounded kinds) needs (met.unmargined kinds) (met.margined kinds) market leverage (get_or ts i blank) p (sound_volume used ts i s here) e;
    }

pub loop-ticket-preserved : goal.loop-ticket-preserved
loop-ticket-preserved g c =
    let pays = g.K.ContractKind.pays c.args.self.kinds.now in
    let needs = g.K.ContractKind.needs c.args.self.kinds.now in
    let i = c.loop-ticket.ticket-index in
    let ps = held c.loop-ticket.positions in
    let more = λ (o : Option OpenPosition). gathered_more pays needs c.args.self.market.now c.args.leverage c.args.tickets.now i ps o c.loop-ticket-test.true c.loop-ticket.invariant in
    elim c.match-position.branch [
      | in-Some w ↦ rw w.positions-is (w.push.ensures ∙ more (Some w.in-Some.position) w.in-Some.ensures)
      | in_default w ↦ rw w.positions-is (sym (append-nil ps) ∙ more None w.in_default.ensures)
    ]

pub returns : goal.returns
returns g c =
    let kinds = c.args.self.kinds.now in
    gathered_all (g.K.ContractKind.pays kinds) (g.K.ContractKind.needs kinds) c.args.self.market.now c.args.leverage c.args.tickets.now c.loop-ticket.ticket-index (held c.loop-ticket.positions) c.loop-ticket-test.false c.loop-ticket.invariant
