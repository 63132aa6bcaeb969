-- The numbers of those who give instructions.
use Rattle.std.specs.Prelude.{ℕ, cond, Some, None, Option, ◌==◌}
use Rattle.terms.specs.declared.giver.Giver.{Giver}
use Rattle.terms.specs.declared.giver.Giver.TheVariants.{Client, Advisor}

abbrev pub giver_number : Giver → ℕ
giver_number Client = 0
giver_number Advisor = 1

abbrev pub giver_of : ℕ → Option Giver
giver_of n = cond (n == 0) (Some Client) (cond (n == 1) (Some Advisor) None)
