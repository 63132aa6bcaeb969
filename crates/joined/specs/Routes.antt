-- Two kinds as one.
use Rattle.std.specs.Prelude.{◌-◌, ◌/◌, ◌%◌, Bool, false, cond, pos, ◌==◌}
use Rattle.terms.specs.declared.contract.Contract.{Contract}
use Rattle.limits.specs.Bounds.{kind_ok}
use Rattle.joined.specs.declared.pair.Part.{Part}
use Rattle.joined.specs.declared.pair.Part.TheVariants.{First, Second}
use Rattle.kinds.specs.Laws.{Admits, Pays, Needs}

abbrev pub even : Contract → Bool
even c = c.number % 2 == 0

-- the contract as the first kind reads it: the number halved
abbrev pub first_part : Contract → Contract
first_part c = record { number = c.number / 2; size = c.size; percentage = c.percentage }

-- the contract as the second kind reads it: the number less one, halved
abbrev pub second_part : Contract → Contract
second_part c = record { number = (c.number - 1) / 2; size = c.size; percentage = c.percentage }

-- the kind that a contract belongs to, with the contract as that kind reads it
abbrev pub part_of : Contract → Part
part_of c = cond (even c) (First (first_part c)) (Second (second_part c))

-- even numbers are f's and odd ones g's; none has the answer for numbers above 255
abbrev pub routed : {X : Type 0} → X → (Contract → X) → (Contract → X) → Contract → X
routed none f g c = cond (kind_ok c.number) (cond (even c) (f (first_part c)) (g (second_part c))) none

abbrev pub joined_admits : Admits → Admits → Admits
joined_admits = routed false

abbrev pub joined_pays : Pays → Pays → Pays
joined_pays = routed (λ _ _ _ _. pos 0)

abbrev pub joined_needs : Needs → Needs → Needs
joined_needs = routed (λ _ _ _. 0)
