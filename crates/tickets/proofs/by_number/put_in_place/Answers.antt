use Rattle.std.proofs.Common.{eqb, position, sym, ◌∙◌, ap}
use Rattle.fixed.specs.Items.{items}
use Rattle.tickets.specs.declared.ticket.Ticket.{Ticket}
use Rattle.tickets.proofs.Replacing.{set_replaced, none_replaced}
use Rattle.tickets.proofs.by_number.put_in_place.Goals as goal

pub returns-in-Some : goal.returns-in-Some
returns-in-Some g c =
    let ts = items c.args.tickets.now in
    let t = c.args.ticket in
    c.set.ensures ∙ set_replaced c.requires.0 t ts c.in-Some.place c.requires.1 (c.in-Some.ensures ∙ ap (position (λ (u : Ticket). eqb u.number t.number)) c.as_slice.ensures.value)

pub returns-in_default : goal.returns-in_default
returns-in_default g c =
    let ts = items c.args.tickets.now in
    let t = c.args.ticket in
    sym (none_replaced t ts (cc (c.in_default.ensures, c.as_slice.ensures.value)))
