-- The account in memory as the rules see it.
use Rattle.tickets.specs.Tables.{live}
use Rattle.account.specs.declared.account.Account.{Account}
use Rattle.account.specs.Models.{Model}

abbrev pub model : Account → Model
model a = record {
  leverage = a.leverage;
  stop_out = a.stop_out;
  balance = a.balance;
  paid_in = a.paid_in;
  nights = a.nights;
  used = a.table.used;
  tickets = live a.table;
}
