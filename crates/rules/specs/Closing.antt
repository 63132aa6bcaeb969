-- What a closing rule is told and answers, what holds of every closing rule, and the two that are shipped.
use Rattle.std.specs.Prelude.{ℕ, ◌<◌, ◌≤◌, List, map, length, int_lt, nat_lt}
use Rattle.terms.specs.Numbers.{Rising}
use Rattle.rules.specs.declared.candidate.Candidate.{Candidate}
use Rattle.rules.specs.Least.{first_least}

abbrev pub tickets : List Candidate → List ℕ
tickets cs = map (λ (c : Candidate). c.ticket) cs

-- the lists that a rule can be told: one to 32 candidates, their tickets rising
pub record Told (cs : List Candidate) : Type 0 where
  pub some : 0 < length cs
  pub few : length cs ≤ 32
  pub rising : Rising (tickets cs)

-- the place that is named, by the list
abbrev pub Picks : Type 0
Picks = List Candidate → ℕ

-- the place named is one of the list
abbrev pub NamesOne : Picks → Type 0
NamesOne picks = (cs : List Candidate) → Told cs → picks cs < length cs

-- the smallest floating result, the first among equals
abbrev pub worst_first : Picks
worst_first cs = first_least (λ (x y : Candidate). int_lt x.result y.result) cs

-- the lowest ticket
abbrev pub earliest_first : Picks
earliest_first cs = first_least nat_lt (tickets cs)
