-- The volume of a table that a ticket leaves, or in which one changes.
use Rattle.std.proofs.Common.{◌≡◌, ℕ, ◌+◌, ◌≤◌, true, cond, not, eqb, List, [], ◌∷◌, ap, inl, inr, arith}
use Rattle.std.proofs.lemmas.List.Sums.{sum_by-cons}
use Rattle.std.proofs.lemmas.Bool.{cases_eq, cond-true, cond-false, eq-eqb, ne_eqb}
use Rattle.tickets.specs.declared.ticket.Ticket.{Ticket}
use Rattle.tickets.specs.Lists.{in_order, volumes, lookup, replaced, without, volume_of}
use Rattle.tickets.proofs.Ordered.{led}
use Rattle.tickets.proofs.Lookups.{lookup_here, lookup_later}
use Rattle.tickets.proofs.Replacing.{replaced_below}

cons : (t : Ticket) (ts : List Ticket) → volumes (t ∷ ts) ≡ t.volume + volumes ts
cons t ts = sum_by-cons (λ (u : Ticket). u.volume) t ts

pub volumes-without : (n : ℕ) (ts : List Ticket) → volumes (without n ts) + volume_of (lookup n ts) ≤ volumes ts
volumes-without n [] = omega arith
volumes-without n (t ∷ ts) =
    let r = volumes-without n ts in
    elim (cases_eq t.number n) [
      | inl e ↦ omega (arith, r, cons t ts, ap volumes (cond-false (not (eqb t.number n)) (t ∷ without n ts) (without n ts) (ap not (eq-eqb t.number n e))), ap volume_of (lookup_here n t ts e))
      | inr d ↦ omega (arith, r, cons t ts, cons t (without n ts), ap volumes (cond-true (not (eqb t.number n)) (t ∷ without n ts) (without n ts) (ap not (ne_eqb t.number n d))), ap volume_of (lookup_later n t ts d))
    ]

pub volumes-replaced : (low last : ℕ) (t : Ticket) (ts : List Ticket) → in_order low last ts ≡ true → volumes (replaced t ts) + volume_of (lookup t.number ts) ≤ volumes ts + t.volume
volumes-replaced low last t [] o = omega arith
volumes-replaced low last t (u ∷ us) o =
    let l = led low last u us o in
    let c = cons (cond (eqb u.number t.number) t u) (replaced t us) in
    elim (cases_eq u.number t.number) [
      | inl e ↦ omega (arith, c, cons u us, ap volumes (replaced_below u.number last t us (omega (arith, e)) l.others), ap (λ (x : Ticket). x.volume) (cond-true (eqb u.number t.number) t u (eq-eqb u.number t.number e)), ap volume_of (lookup_here t.number u us e))
      | inr d ↦ omega (arith, c, cons u us, volumes-replaced u.number last t us l.others, ap (λ (x : Ticket). x.volume) (cond-false (eqb u.number t.number) t u (ne_eqb u.number t.number d)), ap volume_of (lookup_later t.number u us d))
    ]
