-- The order of candidates, and the place that worst first names by it.
use Rattle.std.specs.Prelude.{◌≡◌, Bool, true, false, cond, List, length, int_lt, refl}
use Rattle.std.specs.declared.cmp.Ordering.TheVariants.{Less, Equal, Greater}
use Rattle.std.specs.declared.cmp.Ordering.{Ordering}
use Rattle.std.specs.Cmp.{IsTotalOrder, on_total, int_cmp_total}
use Rattle.std.specs.Ordering.{is_lt, int_cmp, on}
use Rattle.rules.specs.declared.candidate.Candidate.{Candidate}
use Rattle.rules.specs.Closing.{Told, worst_first}
use Rattle.rules.specs.Least.{FirstLeast}
use Rattle.rules.specs.Lemmas.Firsts.{ranked, first_least_is}

-- candidates are ordered by their results alone
pub by_result : IsTotalOrder (on (λ (c : Candidate). c.result) int_cmp)
by_result = on_total (λ (c : Candidate). c.result) int_cmp_total

pub less_first : (s t : Bool) (u v : Ordering) → is_lt u ≡ false → is_lt v ≡ false → is_lt (cond s Less (cond t u v)) ≡ s
less_first true t u v p q = refl
less_first false true u v p q = p
less_first false false u v p q = q

pub less_result : (x y : Candidate) → is_lt (int_cmp x.result y.result) ≡ int_lt x.result y.result
less_result x y = less_first (int_lt x.result y.result) (int_lt y.result x.result) Greater Equal refl refl

pub worst_is : (cs : List Candidate) → Told cs → FirstLeast (λ (x y : Candidate). int_lt x.result y.result) cs (length cs) (worst_first cs)
worst_is cs told = first_least_is _ (ranked by_result _ less_result) cs told.some
