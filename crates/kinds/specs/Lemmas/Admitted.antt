-- What follows from a test as each shipped kind admits by: number 0, a size from 1 to some most, and a test of the percentage.
use Rattle.std.specs.Prelude.{◌≡◌, ℕ, ◌≤◌, Bool, true, ◌&&◌, ◌==◌}
use Rattle.std.proofs.Common.{arith, rules}
use Rattle.std.proofs.lemmas.Bool.Decides.{nat_tests}
use Rattle.terms.specs.declared.contract.Contract.{Contract}
use Rattle.limits.specs.Bounds.{between}
use Rattle.kinds.specs.Ranges.{contract_ok}

abbrev admission : Contract → ℕ → Bool → Bool
admission c most percented = c.number == 0 && (between 1 most c.size && percented)

pub sized : (c : Contract) (most : ℕ) (percented : Bool) → admission c most percented ≡ true → ((1 ≤ c.size) × (c.size ≤ most)) × (percented ≡ true)
sized c most percented h = search rules

pub sized_confined : (c : Contract) (most : ℕ) (percented : Bool) → most ≤ 1000000 → (percented ≡ true → c.percentage ≤ 100) → admission c most percented ≡ true → contract_ok c ≡ true
sized_confined c most percented small within h = grind (arith, nat_tests, within)
