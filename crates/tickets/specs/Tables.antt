-- The tickets that a table holds.
use Rattle.std.specs.Prelude.{List}
use Rattle.fixed.specs.Items.{items}
use Rattle.tickets.specs.declared.ticket.Ticket.{Ticket}
use Rattle.tickets.specs.declared.table.Table.{Table}

abbrev pub live : Table → List Ticket
live t = items t.tickets
