-- Two kinds that keep a law keep it joined.
use Rattle.std.proofs.Common.{arith}
use Rattle.std.proofs.lemmas.Bool.Decides.{nat_tests}
use Rattle.kinds.specs.Laws.{Admits, Pays, Needs, Flat, Opposite, Bounded, Margined, Unpaid, Unmargined}
use Rattle.joined.specs.Routes.{first_part, second_part, joined_admits, joined_pays, joined_needs}

module _ (a b : Admits) (f g : Pays) where
  pub joined_flat : Flat a f → Flat b g → Flat (joined_admits a b) (joined_pays f g)
  joined_flat p q c s o v h ho hv = grind (arith, nat_tests, p (first_part c) s o v, q (second_part c) s o v)

  pub joined_opposite : Opposite a f → Opposite b g → Opposite (joined_admits a b) (joined_pays f g)
  joined_opposite p q c o k v h ho hk hv = grind (arith, nat_tests, p (first_part c) o k v, q (second_part c) o k v)

  pub joined_bounded : Bounded a f → Bounded b g → Bounded (joined_admits a b) (joined_pays f g)
  joined_bounded p q c s o k v h ho hk hv = grind (arith, nat_tests, p (first_part c) s o k v, q (second_part c) s o k v)

  pub joined_unpaid : Unpaid a f → Unpaid b g → Unpaid (joined_admits a b) (joined_pays f g)
  joined_unpaid p q c s o k v h = grind (arith, nat_tests, p (first_part c) s o k v, q (second_part c) s o k v)

module _ (a b : Admits) (f g : Needs) where
  pub joined_margined : Margined a f → Margined b g → Margined (joined_admits a b) (joined_needs f g)
  joined_margined p q c l o v h hl ho hv = grind (arith, nat_tests, p (first_part c) l o v, q (second_part c) l o v)

  pub joined_unmargined : Unmargined a f → Unmargined b g → Unmargined (joined_admits a b) (joined_needs f g)
  joined_unmargined p q c l o v h = grind (arith, nat_tests, p (first_part c) l o v, q (second_part c) l o v)
