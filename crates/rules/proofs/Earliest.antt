-- The search of earliest first, over the ticket numbers.
use Rattle.std.proofs.Common.{◌≡◌, ℕ, ltb, List, length, nat_lt, ◌==◌, refl, arith}
use Rattle.std.specs.declared.cmp.Ordering.TheVariants.{Equal, Greater}
use Rattle.std.specs.Cmp.{nat_cmp_total}
use Rattle.std.specs.Ordering.{is_lt, nat_cmp}
use Rattle.rules.specs.declared.candidate.Candidate.{Candidate}
use Rattle.rules.specs.Closing.{Told, tickets, earliest_first}
use Rattle.rules.specs.Least.{FirstLeast}
use Rattle.rules.specs.Lemmas.Firsts.{ranked, first_least_is}
use Rattle.rules.specs.Lemmas.Orders.{less_first}
use Rattle.rules.specs.Lemmas.Tickets.{length-tickets}

pub less_number : (a b : ℕ) → is_lt (nat_cmp a b) ≡ nat_lt a b
less_number a b = less_first (nat_lt a b) (a == b) Equal Greater refl refl

pub earliest_is : (cs : List Candidate) → Told cs → FirstLeast ltb (tickets cs) (length (tickets cs)) (earliest_first cs)
earliest_is cs told = first_least_is ltb (ranked nat_cmp_total ltb less_number) (tickets cs) (omega (arith, told.some, length-tickets cs))
