use Rattle.std.proofs.Common.{refl, arith}
use Rattle.std.proofs.lemmas.Bool.Decides.{nat_tests}
use Rattle.joined.proofs.unit.unit_kinds.Goals as goal

pub returns : goal.returns
returns c =
    record {
      direct = λ c. (refl, λ s o k v. refl, λ l o v. refl);
      indirect = λ c. (refl, λ s o k v. refl, λ l o v. refl);
      share = λ c. (refl, λ s o k v. refl, λ l o v. refl);
      others = λ c h. grind (arith, nat_tests);
    }
