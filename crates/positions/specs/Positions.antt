-- Open positions: what a closing rule is told of them, what they float together, and the heaviest.
use Rattle.std.specs.Prelude.{◌≡◌, ℕ, ◌<◌, ◌≤◌, List, map, length, ℤ, pos, ◌+ℤ◌, Some, None, fold, Option, slice_index, slice_index_or}
use Rattle.terms.specs.declared.side.Side.TheVariants.{Buy}
use Rattle.rules.specs.declared.candidate.Candidate.{Candidate}
use Rattle.positions.specs.declared.position.OpenPosition.{OpenPosition}

abbrev pub ticket_numbers : List OpenPosition → List ℕ
ticket_numbers ps = map (λ (p : OpenPosition). p.ticket) ps

-- a position as a closing rule is told of it
abbrev pub candidate : OpenPosition → Candidate
candidate p = record { ticket = p.ticket; result = p.result; margin = p.margin }

abbrev pub candidates : List OpenPosition → List Candidate
candidates ps = map candidate ps

-- all results together
abbrev pub floating : List OpenPosition → ℤ
floating ps = fold (λ (sum : ℤ) (p : OpenPosition). sum +ℤ p.result) (pos 0) ps

-- n is above every ticket
abbrev pub Above : List OpenPosition → ℕ → Type 0
Above ps n = (k : ℕ) → k < length ps → slice_index (ticket_numbers ps) k < n

-- what stands past the end of a list
abbrev pub blank : OpenPosition
blank = record { ticket = 0; instrument = 0; side = Buy; result = pos 0; margin = 0 }

-- the position at place k has the ticket, and no position has a larger margin
pub record HeaviestAt (ps : List OpenPosition) (ticket k : ℕ) : Type 0 where
  pub there : k < length ps
  pub bears : (slice_index_or ps k blank).ticket ≡ ticket
  pub largest : (j : ℕ) → j < length ps → (slice_index_or ps j blank).margin ≤ (slice_index_or ps k blank).margin

-- the ticket of a position of largest margin, and none where there is no position
abbrev pub Heaviest : List OpenPosition → Option ℕ → Type 0
Heaviest ps None = length ps ≡ 0
Heaviest ps (Some ticket) = (k : ℕ) × HeaviestAt ps ticket k
