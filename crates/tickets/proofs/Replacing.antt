-- A ticket put in the place of the one of its number.
use Rattle.std.proofs.Common.{◌≡◌, ℕ, zero, suc, ◌<◌, ◌≤◌, Bool, true, false, eqb, List, [], ◌∷◌, length, get_or, set, Some, None, position, sym, refl, arith}
use Rattle.std.proofs.lemmas.Bool.{cond-true, cond-false, eq-eqb, eqb-true, ne_eqb}
use Rattle.std.proofs.lemmas.Bool.Decides.{nat_tests}
use Rattle.std.proofs.lemmas.List.Quantifiers.{position-Some}
use Rattle.std.proofs.lemmas.List.Sums.{fails_before_first}
use Rattle.std.specs.List.{position_or_len}
use Rattle.tickets.specs.declared.ticket.Ticket.{Ticket}
use Rattle.tickets.specs.Tickets.{blank}
use Rattle.tickets.specs.Lists.{in_order, sound, replaced}
use Rattle.tickets.proofs.Ordered.{led, order_above}

first_stays : (t u : Ticket) (us : List Ticket) → (u.number ≡ t.number → ⊥) → replaced t us ≡ us → replaced t (u ∷ us) ≡ u ∷ us
first_stays t u us n e = λ i. cond-false (eqb u.number t.number) t u (ne_eqb u.number t.number n) i ∷ e i

-- no ticket of that number, no change
pub replaced_none : (t : Ticket) (ts : List Ticket) → ((k : ℕ) → k < length ts → (get_or ts k blank).number ≡ t.number → ⊥) → replaced t ts ≡ ts
replaced_none t [] h = refl
replaced_none t (u ∷ us) h = first_stays t u us (h 0 (omega arith)) (replaced_none t us (λ k l. h (suc k) (omega arith)))

-- numbers that are all above it
pub replaced_below : (low last : ℕ) (t : Ticket) (ts : List Ticket) → t.number ≤ low → in_order low last ts ≡ true → replaced t ts ≡ ts
replaced_below low last t ts h o = replaced_none t ts (λ k l e. omega (arith, e, order_above low last ts k o l))

-- the place of its number is the only one that changes
pub replaced_at : (low last : ℕ) (t : Ticket) (ts : List Ticket) (k : ℕ) → in_order low last ts ≡ true → k < length ts → (get_or ts k blank).number ≡ t.number → set ts k t ≡ replaced t ts
replaced_at low last t [] k o h e = absurd (omega arith)
replaced_at low last t (u ∷ us) zero o h e =
    let l = led low last u us o in
    let r = replaced_below u.number last t us (omega (arith, e)) l.others in
    sym (λ i. cond-true (eqb u.number t.number) t u (eq-eqb u.number t.number e) i ∷ r i)
replaced_at low last t (u ∷ us) (suc k) o h e =
    let l = led low last u us o in
    let a = order_above u.number last us k l.others (omega arith) in
    let r = replaced_at u.number last t us k l.others (omega arith) e in
    sym (λ i. cond-false (eqb u.number t.number) t u (ne_eqb u.number t.number (λ q. omega (arith, q, a, e))) i ∷ sym r i)

-- so the place where a search for its number ends
pub set_replaced : (used : ℕ) (t : Ticket) (ts : List Ticket) (k : ℕ) → sound used ts ≡ true → Some k ≡ position (λ (u : Ticket). eqb u.number t.number) ts → set ts k t ≡ replaced t ts
unfolding sound
set_replaced used t ts k s e =
    let p = position-Some (λ (u : Ticket). eqb u.number t.number) ts k blank (sym e) in
    replaced_at 0 used t ts k s p.0 (eqb-true (get_or ts k blank).number t.number p.1)

no_place : {X : Type 0} (p : X → Bool) (xs : List X) → position p xs ≡ None → length xs ≤ position_or_len p xs
no_place p xs e = grind (arith, nat_tests)

pub none_replaced : (t : Ticket) (ts : List Ticket) → None ≡ position (λ (u : Ticket). eqb u.number t.number) ts → replaced t ts ≡ ts
none_replaced t ts e =
    let p : Ticket → Bool = λ (u : Ticket). eqb u.number t.number in
    replaced_none t ts
    (λ k h same.
    let first : length ts ≤ position_or_len p ts = no_place p ts (sym e) in
    let fails : p (get_or ts k blank) ≡ false = fails_before_first p ts k blank (omega (arith, first)) in
    cc (fails, eq-eqb (get_or ts k blank).number t.number same))
