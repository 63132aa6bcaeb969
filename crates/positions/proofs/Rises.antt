-- Positions stay by rising ticket and of bounded size where one is added after the others.
use Rattle.std.proofs.Common.{◌≡◌, ℕ, ◌<◌, List, [], ◌∷◌, ◌++◌, length, get_or, sym, subst, inl, inr, arith}
use Rattle.std.proofs.lemmas.List.{length_push, get_or_push, get_or_append_left, map_push, length-map}
use Rattle.std.proofs.lemmas.Bool.{cases_lt}
use Rattle.terms.specs.Numbers.{Rising}
use Rattle.positions.specs.declared.position.OpenPosition.{OpenPosition}
use Rattle.positions.specs.Positions.{ticket_numbers, Above}
use Rattle.positions.specs.Sizes.{SizedOne, Sized}

-- numbers stay rising where one above them all is added
rising_number : (ns : List ℕ) (n : ℕ) → Rising ns → ((k : ℕ) → k < length ns → get_or ns k 0 < n) → Rising (ns ++ n ∷ [])
rising_number ns n rising above j k before h =
    let more = length_push ns n in
    let jl : j < length ns = omega arith in
    let at_j = get_or_append_left ns (n ∷ []) 0 j jl in
    elim (cases_lt k (length ns)) [
      | inl kl ↦ omega (arith, rising j k before kl, get_or_append_left ns (n ∷ []) 0 k kl)
      | inr kg ↦ let last : length ns ≡ k = omega arith in omega (arith, above j jl, get_or_push ns n 0 k last)
    ]

-- positions stay by rising ticket where one with a ticket above theirs is added
pub rising_push : (ps : List OpenPosition) (p : OpenPosition) → Rising (ticket_numbers ps) → Above ps p.ticket → Rising (ticket_numbers (ps ++ p ∷ []))
rising_push ps p rising above =
    let long = length-map ps (λ (x : OpenPosition). x.ticket) in
    subst Rising (sym (map_push (λ (x : OpenPosition). x.ticket) ps p)) (rising_number (ticket_numbers ps) p.ticket rising (λ k l. above k (omega arith)))

-- positions stay of bounded size where one of such size is added
pub sized_push : (ps : List OpenPosition) (p : OpenPosition) → Sized ps → SizedOne p → Sized (ps ++ p ∷ [])
sized_push ps p sized one k d h =
    let more = length_push ps p in
    elim (cases_lt k (length ps)) [
      | inl kl ↦ subst SizedOne (sym (get_or_append_left ps (p ∷ []) d k kl)) (sized k d kl)
      | inr kg ↦ let last : length ps ≡ k = omega arith in subst SizedOne (sym (get_or_push ps p d k last)) one
    ]
