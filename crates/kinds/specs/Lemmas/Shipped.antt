-- The laws of a kind that pays and needs as the shipped ones do, whatever it admits and a buy gains.
use Rattle.std.specs.Prelude.{◌≡◌, ℕ, ◌*◌, ◌≤◌, true, pos, unsigned_abs}
use Rattle.std.proofs.Common.{arith, rules}
use Rattle.std.proofs.lemmas.Bool.Decides.{nat_tests}
use Rattle.terms.specs.declared.contract.Contract.{Contract}
use Rattle.limits.specs.Bounds.{Price, Volume, Leverage}
use Rattle.kinds.specs.Laws.{Admits, Needs, Flat, Opposite, Bounded, Margined}
use Rattle.kinds.specs.Payments.{Gains, paid, needed}
use Rattle.kinds.specs.Lemmas.Sizes.{nat_abs-side}

module _ (admits : Admits) (gains : Gains) where
  pub flat_paid : ((c : Contract) (o v : ℕ) → gains c o o v ≡ pos 0) → Flat admits (λ c. paid (admits c) gains c)
  flat_paid none c s o v _ _ _ = grind (arith, none c o v)

  pub opposite_paid : Opposite admits (λ c. paid (admits c) gains c)
  opposite_paid c o k v _ _ _ _ = search rules

  pub bounded_paid : ((c : Contract) (o k v : ℕ) → admits c ≡ true → Price o → Price k → unsigned_abs (gains c o k v) ≤ v * 100000000) → Bounded admits (λ c. paid (admits c) gains c)
  bounded_paid most c s o k v h ho hk _ = let m = most c o k v h ho hk in grind (arith, nat_abs-side)

pub margined_amount : (admits : Admits) (amounts : Needs) → ((c : Contract) (l o v : ℕ) → admits c ≡ true → Leverage l → Price o → Volume v → (1 ≤ amounts c l o v) × (amounts c l o v ≤ 1000000000000)) → Margined admits (λ c l o v. needed (admits c) (amounts c l o v) l o v)
margined_amount admits amounts within c l o v h hl ho hv =
    let w = within c l o v h hl ho hv in
    (grind (arith, nat_tests), grind (arith, nat_tests))
