use Rattle.std.proofs.Common.{◌≡◌, eqb, sym, ◌∙◌, rules, tests}
use Rattle.std.proofs.lemmas.Iterator.{YieldsList-from_slice}
use Rattle.std.proofs.lemmas.Iterator.Search.{find_from_yields_List}
use Rattle.tickets.specs.declared.ticket.Ticket.{Ticket}
use Rattle.tickets.specs.Lists.{lookup}
use Rattle.tickets.proofs.Lookups.{lookup_found, found_inside}
use Rattle.tickets.proofs.by_number.ticket_of.Goals as goal

value : (c : goal.After-copied) → c.copied.result ≡ lookup c.args.number c.args.tickets.now
value c =
    let n = c.args.number in
    let ts = c.args.tickets.now in
    lookup_found n ts c.copied.result (c.copied.ensures ∙ find_from_yields_List (λ (t : Ticket). eqb t.number n) _ _ _ c.find.ensures.ran (YieldsList-from_slice ts cc) (λ x b q k. search (rules, tests)))

pub returns-clause-value : goal.returns-clause-value
returns-clause-value c = value c

pub returns-clause-inside : goal.returns-clause-inside
returns-clause-inside c = λ used s t e. found_inside used c.args.number c.args.tickets.now t s (sym e ∙ value c)
