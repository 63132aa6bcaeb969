-- What a closing rule is told of positions.
use Rattle.std.proofs.Common.{◌≡◌, ℕ, ◌<◌, ◌≤◌, List, [], ◌∷◌, length, sym, refl, ap, subst, arith}
use Rattle.std.proofs.lemmas.List.{length-map}
use Rattle.terms.specs.Numbers.{Rising}
use Rattle.rules.specs.declared.candidate.Candidate.{Candidate}
use Rattle.rules.specs.Closing.{Told, tickets as numbers}
use Rattle.positions.specs.declared.position.OpenPosition.{OpenPosition}
use Rattle.positions.specs.Positions.{ticket_numbers, candidate, candidates}

-- the candidates have the positions' tickets
same_tickets : (ps : List OpenPosition) → ticket_numbers ps ≡ numbers (candidates ps)
same_tickets [] = refl
same_tickets (p ∷ ps) = ap (λ (ns : List ℕ). p.ticket ∷ ns) (same_tickets ps)

-- a closing rule can be told of a list that is the candidates of some few positions by rising ticket
pub told : (ps : List OpenPosition) (cs : List Candidate) → cs ≡ candidates ps → 0 < length ps → length ps ≤ 32 → Rising (ticket_numbers ps) → Told cs
told ps cs same some few rising =
    let long = length-map ps candidate in
    subst Told (sym same) (record { some = omega arith; few = omega arith; rising = subst Rising (same_tickets ps) rising })
