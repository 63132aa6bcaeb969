-- What the shipped closing rules name.
use Rattle.std.proofs.Common.{◌≡◌, ℕ, ◌<◌, ◌≤◌, true, false, List, length, ℤ, ◌≤ℤ◌, int_lt, ap, inl, inr, arith}
use Rattle.std.proofs.lemmas.Int.{ints}
use Rattle.std.proofs.lemmas.Bool.{cases_lt}
use Rattle.rules.specs.declared.candidate.Candidate.{Candidate}
use Rattle.rules.specs.Closing.{Told, worst_first, earliest_first}
use Rattle.rules.specs.Named.{blank, at, WorstNamed, LowestNamed}
use Rattle.rules.specs.Lemmas.Orders.{worst_is}
use Rattle.rules.specs.Lemmas.Tickets.{rises, first_is_earliest}

not_less : (a b : ℤ) → int_lt a b ≡ false → b ≤ℤ a
not_less a b h = grind (arith, ints)

less_apart : (a b : ℤ) → int_lt a b ≡ true → b ≡ a → ⊥
less_apart a b h e = grind (arith, ints)

climbs : (cs : List Candidate) → Told cs → (j k : ℕ) → j ≤ k → k < length cs → (at cs j).ticket ≤ (at cs k).ticket
climbs cs told j k h l =
    elim (cases_lt j k) [
      | inl before ↦ omega (arith, rises cs told j k before l)
      | inr after ↦ let same : j ≡ k = omega arith in omega (arith, ap (λ (n : ℕ). (at cs n).ticket) same)
    ]

pub worst_named : WorstNamed
worst_named cs told k l =
    let f = worst_is cs told in
    let p = worst_first cs in (
      not_less (at cs k).result (at cs p).result (f.least k blank l),
      λ same. elim (cases_lt k p) [
        | inl before ↦ absurd (less_apart (at cs p).result (at cs k).result (f.first k blank before) same)
        | inr after ↦ climbs cs told p k after l
      ],
    )

pub lowest_named : LowestNamed
lowest_named cs told k l = climbs cs told (earliest_first cs) k (omega (arith, first_is_earliest cs told)) l
