-- What the shipped closing rules name, said without a search.
use Rattle.std.specs.Prelude.{◌≡◌, ℕ, ◌<◌, ◌≤◌, List, length, pos, ◌≤ℤ◌, slice_index_or}
use Rattle.rules.specs.declared.candidate.Candidate.{Candidate}
use Rattle.rules.specs.Closing.{Told, worst_first, earliest_first}

-- what stands past the end of a list
abbrev pub blank : Candidate
blank = record { ticket = 0; result = pos 0; margin = 0 }

-- the candidate at a place of the list
abbrev pub at : List Candidate → ℕ → Candidate
at cs k = slice_index_or cs k blank

-- no result is smaller than that of the position that worst first names, and no ticket of the same result is lower
abbrev pub WorstNamed : Type 0
WorstNamed =
    (cs : List Candidate) → Told cs → (k : ℕ) → k < length cs → ((at cs (worst_first cs)).result ≤ℤ (at cs k).result)
    × ((at cs k).result ≡ (at cs (worst_first cs)).result → (at cs (worst_first cs)).ticket ≤ (at cs k).ticket)

-- no ticket is lower than that of the position that earliest first names
abbrev pub LowestNamed : Type 0
LowestNamed = (cs : List Candidate) → Told cs → (k : ℕ) → k < length cs → (at cs (earliest_first cs)).ticket ≤ (at cs k).ticket
