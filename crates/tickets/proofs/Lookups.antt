-- What a look-up finds.
use Rattle.std.proofs.Common.{◌≡◌, ℕ, true, cond, not, eqb, ◌≢◌, List, [], ◌∷◌, Some, find, Option, sym, refl, ap, ◌∙◌, subst, inl, inr, arith}
use Rattle.std.proofs.lemmas.Bool.{cases_eq, cond-true, cond-false, eq-eqb, ne_eqb}
use Rattle.tickets.specs.declared.ticket.Ticket.{Ticket}
use Rattle.tickets.specs.Tickets.{inside}
use Rattle.tickets.specs.Lists.{in_order, sound, lookup, replaced, without}
use Rattle.tickets.proofs.Ordered.{led}

pub lookup_here : (n : ℕ) (t : Ticket) (ts : List Ticket) → t.number ≡ n → lookup n (t ∷ ts) ≡ Some t
lookup_here n t ts h = cond-true (eqb t.number n) (Some t) (lookup n ts) (eq-eqb t.number n h)

pub lookup_later : (n : ℕ) (t : Ticket) (ts : List Ticket) → (t.number ≢ n) → lookup n (t ∷ ts) ≡ lookup n ts
lookup_later n t ts h = cond-false (eqb t.number n) (Some t) (lookup n ts) (ne_eqb t.number n h)

-- a ticket that is found is inside its limits
lookup_inside : (low last n : ℕ) (ts : List Ticket) (t : Ticket) → in_order low last ts ≡ true → lookup n ts ≡ Some t → inside t ≡ true
lookup_inside low last n [] t o h = let z : ◌≡◌ {A = ℕ} 0 1 = cc in absurd (omega arith)
lookup_inside low last n (u ∷ us) t o h =
    let l = led low last u us o in
    elim (cases_eq u.number n) [
      | inl e ↦ let same : u ≡ t = cc (lookup_here n u us e, h) in subst (λ (x : Ticket). inside x ≡ true) same l.within
      | inr d ↦ lookup_inside u.number last n us t l.others (sym (lookup_later n u us d) ∙ h)
    ]

-- two lists with the same first ticket
same_first : (n : ℕ) (u : Ticket) (ts us : List Ticket) → lookup n ts ≡ lookup n us → lookup n (u ∷ ts) ≡ lookup n (u ∷ us)
same_first n u ts us e = ap (cond (eqb u.number n) (Some u)) e

-- a ticket put in the place of its number leaves every other number as it was
pub lookup-replaced : (n : ℕ) (t : Ticket) (ts : List Ticket) → (n ≢ t.number) → lookup n (replaced t ts) ≡ lookup n ts
lookup-replaced n t [] h = refl
lookup-replaced n t (u ∷ us) h =
    let r = lookup-replaced n t us h in
    elim (cases_eq u.number t.number) [
      | inl e ↦
          ap (λ (x : Ticket). lookup n (x ∷ replaced t us)) (cond-true (eqb u.number t.number) t u (eq-eqb u.number t.number e))
          ∙ lookup_later n t (replaced t us) (λ q. h (sym q))
          ∙ r
          ∙ sym (lookup_later n u us (λ q. h (sym q ∙ e)))
      | inr d ↦
          ap (λ (x : Ticket). lookup n (x ∷ replaced t us)) (cond-false (eqb u.number t.number) t u (ne_eqb u.number t.number d))
          ∙ same_first n u (replaced t us) us r
    ]

-- and so does one that is taken out
pub lookup-without : (n m : ℕ) (ts : List Ticket) → (n ≢ m) → lookup n (without m ts) ≡ lookup n ts
lookup-without n m [] h = refl
lookup-without n m (u ∷ us) h =
    let r = lookup-without n m us h in
    elim (cases_eq u.number m) [
      | inl e ↦
          ap (lookup n) (cond-false (not (eqb u.number m)) (u ∷ without m us) (without m us) (ap not (eq-eqb u.number m e)))
          ∙ r
          ∙ sym (lookup_later n u us (λ q. h (sym q ∙ e)))
      | inr d ↦
          ap (lookup n) (cond-true (not (eqb u.number m)) (u ∷ without m us) (without m us) (ap not (ne_eqb u.number m d)))
          ∙ same_first n u (without m us) us r
    ]

same_found : (n : ℕ) (ts : List Ticket) → find (λ (t : Ticket). eqb t.number n) ts ≡ lookup n ts
same_found n [] = refl
same_found n (t ∷ ts) = ap (cond (eqb t.number n) (Some t)) (same_found n ts)

-- the first ticket of a number is the one of it
pub lookup_found : (n : ℕ) (ts : List Ticket) (r : Option Ticket) → r ≡ find (λ (t : Ticket). eqb t.number n) ts → r ≡ lookup n ts
lookup_found n ts r e = e ∙ same_found n ts

pub found_inside : (used n : ℕ) (ts : List Ticket) (t : Ticket) → sound used ts ≡ true → Some t ≡ lookup n ts → inside t ≡ true
unfolding sound
found_inside used n ts t s e = lookup_inside 0 used n ts t s (sym e)
