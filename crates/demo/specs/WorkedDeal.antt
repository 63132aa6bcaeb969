-- What a position of the worked deal comes to under the unit's kinds.
use Rattle.std.specs.Prelude.{ℕ, List, [], ◌∷◌, ℤ, pos, negsuc}
use Rattle.terms.specs.declared.side.Side.{Side}
use Rattle.joined.specs.UnitKinds.{unit_pays, unit_needs}
use Rattle.rules.specs.declared.candidate.Candidate.{Candidate}
use Rattle.demo.specs.declared.position.Position.{Position}

abbrev pub result_of : Position → Side → ℕ → ℤ
result_of p s closed = unit_pays p.contract s p.opened closed p.volume

abbrev pub margin_of : Position → ℕ → ℕ
margin_of p leverage = unit_needs p.contract leverage p.opened p.volume

abbrev pub candidate_of : Position → ℕ → ℕ → Candidate
candidate_of p leverage closed = record { ticket = p.ticket; result = result_of p p.side closed; margin = margin_of p leverage }

-- the worked positions by rising ticket, with their results and margins
abbrev pub worked_candidates : List Candidate
worked_candidates =
    record { ticket = 1; result = pos 454; margin = 1000 }
    ∷ (record { ticket = 2; result = negsuc 58999; margin = 67510 }
    ∷ (record { ticket = 3; result = negsuc 799; margin = 25000 } ∷ []))
