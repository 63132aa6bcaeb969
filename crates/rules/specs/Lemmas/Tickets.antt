-- The ticket numbers of a list of candidates, and that the first of a list that a rule is told is the lowest.
use Rattle.std.specs.Prelude.{◌≡◌, ℕ, suc, ◌<◌, List, [], ◌∷◌, length, nat_lt, slice_index, refl}
use Rattle.std.proofs.Common.{arith}
use Rattle.std.proofs.lemmas.List.{length-map, get_or-map, get_or_default}
use Rattle.terms.specs.Numbers.{Rising}
use Rattle.rules.specs.declared.candidate.Candidate.{Candidate}
use Rattle.rules.specs.Closing.{Told, NamesOne, tickets, earliest_first}
use Rattle.rules.specs.Least.{first_least}
use Rattle.rules.specs.Lemmas.Firsts.{none_below}
use Rattle.rules.specs.Named.{blank, at}

pub length-tickets : (cs : List Candidate) → length (tickets cs) ≡ length cs
length-tickets cs = length-map cs (λ (x : Candidate). x.ticket)

pub ticket_at : (cs : List Candidate) (k : ℕ) → k < length cs → slice_index (tickets cs) k ≡ (at cs k).ticket
ticket_at cs k l = get_or-map (λ (x : Candidate). x.ticket) cs k blank 0 l

pub rises : (cs : List Candidate) → Told cs → (j k : ℕ) → j < k → k < length cs → (at cs j).ticket < (at cs k).ticket
rises cs told j k h l =
    omega (arith, told.rising j k h (omega (arith, length-tickets cs)), ticket_at cs j (omega arith), ticket_at cs k l)

first_of_rising : (ns : List ℕ) → Rising ns → 0 ≡ first_least nat_lt ns
first_of_rising [] rising = refl
first_of_rising (n ∷ ns) rising =
    let none = none_below nat_lt n ns (λ k d l. grind (arith, rising 0 (suc k) (omega arith) (omega arith), get_or_default ns k d 0 l)) in rw none

-- the first candidate that a rule is told of has the lowest ticket
pub first_is_earliest : (cs : List Candidate) → Told cs → 0 ≡ earliest_first cs
first_is_earliest cs told = first_of_rising (tickets cs) told.rising

pub first_names_one : NamesOne earliest_first
first_names_one cs told = omega (arith, first_is_earliest cs told, told.some)
