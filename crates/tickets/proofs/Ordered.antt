-- Tickets in order, and what keeps them so.
use Rattle.std.proofs.Common.{◌≡◌, ℕ, zero, suc, ◌<◌, ◌≤◌, Bool, true, ◌&&◌, eqb, ltb, List, [], ◌∷◌, ◌++◌, length, get_or, filter, subst, arith}
use Rattle.std.proofs.lemmas.Bool.{and_parts, and_from, cond_both, ltb-true, leb-true, lt-ltb, le-leb, eqb-true}
use Rattle.tickets.specs.declared.ticket.Ticket.{Ticket}
use Rattle.tickets.specs.Tickets.{blank, inside}
use Rattle.tickets.specs.Lists.{in_order, replaced}

-- a first ticket, and the others in order behind it
pub record Led (low last : ℕ) (t : Ticket) (ts : List Ticket) : Type 0 where
  pub above : low < t.number
  pub within : inside t ≡ true
  pub others : in_order t.number last ts ≡ true

pub led : (low last : ℕ) (t : Ticket) (ts : List Ticket) → in_order low last (t ∷ ts) ≡ true → Led low last t ts
led low last t ts h =
    let p = and_parts (ltb low t.number) (inside t && in_order t.number last ts) h in
    let q = and_parts (inside t) (in_order t.number last ts) p.1 in
    record { above = ltb-true low t.number p.0; within = q.0; others = q.1 }

pub leads : (low last : ℕ) (t : Ticket) (ts : List Ticket) → Led low last t ts → in_order low last (t ∷ ts) ≡ true
leads low last t ts l =
    and_from (ltb low t.number) (inside t && in_order t.number last ts) (lt-ltb low t.number l.above)
    (and_from (inside t) (in_order t.number last ts) l.within l.others)

-- in order above a number, so above a lower one
weaker : (low lower last : ℕ) (ts : List Ticket) → lower ≤ low → in_order low last ts ≡ true → in_order lower last ts ≡ true
weaker low lower last [] h o = le-leb lower last (omega (arith, leb-true low last o))
weaker low lower last (t ∷ ts) h o =
    let l = led low last t ts o in
    leads lower last t ts (record { above = omega (arith, l.above); within = l.within; others = l.others })

pub order_pushed : (low last : ℕ) (ts : List Ticket) (t : Ticket) → in_order low last ts ≡ true → last < t.number → inside t ≡ true → in_order low t.number (ts ++ t ∷ []) ≡ true
order_pushed low last [] t o h i = leads low t.number t [] (record { above = omega (arith, leb-true low last o); within = i; others = le-leb t.number t.number (omega arith) })
order_pushed low last (x ∷ xs) t o h i =
    let l = led low last x xs o in
    leads low t.number x (xs ++ t ∷ []) (record { above = l.above; within = l.within; others = order_pushed x.number last xs t l.others h i })

pub order_kept : (p : Ticket → Bool) (low last : ℕ) (ts : List Ticket) → in_order low last ts ≡ true → in_order low last (filter p ts) ≡ true
order_kept p low last [] o = o
order_kept p low last (t ∷ ts) o =
    let l = led low last t ts o in
    let k = order_kept p t.number last ts l.others in
    cond_both (p t) (t ∷ filter p ts) (filter p ts) (λ (us : List Ticket). in_order low last us ≡ true)
    (λ _. leads low last t (filter p ts) (record { above = l.above; within = l.within; others = k }))
    (λ _. weaker t.number low last (filter p ts) (omega (arith, l.above)) k)

pub order_replaced : (low last : ℕ) (t : Ticket) (ts : List Ticket) → in_order low last ts ≡ true → inside t ≡ true → in_order low last (replaced t ts) ≡ true
order_replaced low last t [] o i = o
order_replaced low last t (u ∷ us) o i =
    let l = led low last u us o in
    let r = order_replaced u.number last t us l.others i in
    cond_both (eqb u.number t.number) t u (λ (x : Ticket). in_order low last (x ∷ replaced t us) ≡ true)
    (λ e.
    let same = eqb-true u.number t.number e in
    leads low last t (replaced t us)
    (record { above = omega (arith, l.above, same); within = i; others = subst (λ (n : ℕ). in_order n last (replaced t us) ≡ true) same r }))
    (λ _. leads low last u (replaced t us) (record { above = l.above; within = l.within; others = r }))

-- every number is above the one given
pub order_above : (low last : ℕ) (ts : List Ticket) (k : ℕ) → in_order low last ts ≡ true → k < length ts → low < (get_or ts k blank).number
order_above low last [] k o h = absurd (omega arith)
order_above low last (t ∷ ts) zero o h = (led low last t ts o).above
order_above low last (t ∷ ts) (suc k) o h =
    let l = led low last t ts o in
    omega (arith, l.above, order_above t.number last ts k l.others (omega arith))

pub order_rises : (low last : ℕ) (ts : List Ticket) (j k : ℕ) → in_order low last ts ≡ true → j < k → k < length ts → (get_or ts j blank).number < (get_or ts k blank).number
order_rises low last [] j k o h l = absurd (omega arith)
order_rises low last (t ∷ ts) zero zero o h l = absurd (omega arith)
order_rises low last (t ∷ ts) zero (suc k) o h l = order_above t.number last ts k (led low last t ts o).others (omega arith)
order_rises low last (t ∷ ts) (suc j) zero o h l = absurd (omega arith)
order_rises low last (t ∷ ts) (suc j) (suc k) o h l = order_rises t.number last ts j k (led low last t ts o).others (omega arith) (omega arith)

pub order_inside : (low last : ℕ) (ts : List Ticket) (k : ℕ) → in_order low last ts ≡ true → k < length ts → inside (get_or ts k blank) ≡ true
order_inside low last [] k o h = absurd (omega arith)
order_inside low last (t ∷ ts) zero o h = (led low last t ts o).within
order_inside low last (t ∷ ts) (suc k) o h = order_inside t.number last ts k (led low last t ts o).others (omega arith)

-- where there is order, the last number is at least the first bound
order_least : (low last : ℕ) (ts : List Ticket) → in_order low last ts ≡ true → low ≤ last
order_least low last [] o = leb-true low last o
order_least low last (t ∷ ts) o =
    let l = led low last t ts o in
    omega (arith, l.above, order_least t.number last ts l.others)

pub order_last : (low last : ℕ) (ts : List Ticket) (k : ℕ) → in_order low last ts ≡ true → k < length ts → (get_or ts k blank).number ≤ last
order_last low last [] k o h = absurd (omega arith)
order_last low last (t ∷ ts) zero o h = order_least t.number last ts (led low last t ts o).others
order_last low last (t ∷ ts) (suc k) o h = order_last t.number last ts k (led low last t ts o).others (omega arith)
