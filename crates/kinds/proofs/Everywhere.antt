-- What the laws of a kind give of its answers wherever it is asked, inside the limits and outside.
use Rattle.std.proofs.Common.{◌≡◌, ℕ, ◌*◌, ◌≤◌, pos, neg_ℤ, nat_abs, arith}
use Rattle.std.proofs.lemmas.Bool.Decides.{nat_tests}
use Rattle.terms.specs.declared.contract.Contract.{Contract}
use Rattle.terms.specs.declared.side.Side.{Side}
use Rattle.terms.specs.declared.side.Side.TheVariants.{Buy, Sell}
use Rattle.kinds.specs.Laws.{Admits, Pays, Needs, Flat, Opposite, Bounded, Margined, Unpaid, Unmargined}

module _ (admits : Admits) where
  module _ (pays : Pays) (unpaid : Unpaid admits pays) where
    pub flat_everywhere : Flat admits pays → (c : Contract) (s : Side) (o v : ℕ) → pays c s o o v ≡ pos 0
    flat_everywhere flat c s o v = grind (arith, nat_tests, flat c s o v, unpaid c s o o v)

    pub opposite_everywhere : Opposite admits pays → (c : Contract) (o k v : ℕ) → pays c Sell o k v ≡ neg_ℤ (pays c Buy o k v)
    opposite_everywhere opposite c o k v = grind (arith, nat_tests, opposite c o k v, unpaid c Buy o k v, unpaid c Sell o k v)

    pub bounded_everywhere : Bounded admits pays → (c : Contract) (s : Side) (o k v : ℕ) → nat_abs (pays c s o k v) ≤ v * 100000000
    bounded_everywhere bounded c s o k v = grind (arith, nat_tests, bounded c s o k v, unpaid c s o k v)

  pub margin_everywhere : (needs : Needs) → Unmargined admits needs → Margined admits needs → (c : Contract) (l o v : ℕ) → needs c l o v ≤ 1000000000000
  margin_everywhere needs unmargined margined c l o v = grind (arith, nat_tests, margined c l o v, unmargined c l o v)
