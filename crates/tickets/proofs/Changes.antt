-- What a table keeps when its tickets change, by how the new list comes from the old one.
use Rattle.std.proofs.Common.{◌≡◌, ℕ, ◌+◌, ◌<◌, ◌≤◌, true, not, eqb, ◌≢◌, List, [], ◌∷◌, ◌++◌, sym, ap, ◌∙◌, subst}
use Rattle.tickets.specs.declared.ticket.Ticket.{Ticket}
use Rattle.tickets.specs.Tickets.{inside}
use Rattle.tickets.specs.Lists.{sound, lookup, replaced, volumes, volume_of, without}
use Rattle.tickets.proofs.Lookups.{lookup-replaced, lookup-without}
use Rattle.tickets.proofs.Ordered.{order_kept, order_pushed, order_replaced}
use Rattle.tickets.proofs.Volumes.{volumes-replaced, volumes-without}

pub sound_after_push : (used : ℕ) (t : Ticket) (ts us : List Ticket) → us ≡ ts ++ t ∷ [] → sound used ts ≡ true → used < t.number → inside t ≡ true → sound t.number us ≡ true
unfolding sound
sound_after_push used t ts us e s above i = subst (λ (vs : List Ticket). sound t.number vs ≡ true) (sym e) (order_pushed 0 used ts t s above i)

pub sound_after_replaced : (used : ℕ) (t : Ticket) (ts us : List Ticket) → us ≡ replaced t ts → sound used ts ≡ true → inside t ≡ true → sound used us ≡ true
unfolding sound
sound_after_replaced used t ts us e s i = subst (λ (vs : List Ticket). sound used vs ≡ true) (sym e) (order_replaced 0 used t ts s i)

pub others_after_replaced : (m : ℕ) (t : Ticket) (ts us : List Ticket) → us ≡ replaced t ts → m ≢ t.number → lookup m us ≡ lookup m ts
others_after_replaced m t ts us e d = ap (lookup m) e ∙ lookup-replaced m t ts d

pub volumes_after_replaced : (used : ℕ) (t : Ticket) (ts us : List Ticket) → us ≡ replaced t ts → sound used ts ≡ true → volumes us + volume_of (lookup t.number ts) ≤ volumes ts + t.volume
unfolding sound
volumes_after_replaced used t ts us e s = subst (λ (vs : List Ticket). volumes vs + volume_of (lookup t.number ts) ≤ volumes ts + t.volume) (sym e) (volumes-replaced 0 used t ts s)

pub ruleset kept_by_replaced = (sound_after_replaced, others_after_replaced, volumes_after_replaced)

pub sound_after_without : (used n : ℕ) (ts us : List Ticket) → us ≡ without n ts → sound used ts ≡ true → sound used us ≡ true
unfolding sound
sound_after_without used n ts us e s = subst (λ (vs : List Ticket). sound used vs ≡ true) (sym e) (order_kept (λ (t : Ticket). not (eqb t.number n)) 0 used ts s)

pub others_after_without : (m n : ℕ) (ts us : List Ticket) → us ≡ without n ts → m ≢ n → lookup m us ≡ lookup m ts
others_after_without m n ts us e d = ap (lookup m) e ∙ lookup-without m n ts d

pub volumes_after_without : (n : ℕ) (ts us : List Ticket) → us ≡ without n ts → volumes us + volume_of (lookup n ts) ≤ volumes ts
volumes_after_without n ts us e = subst (λ (vs : List Ticket). volumes vs + volume_of (lookup n ts) ≤ volumes ts) (sym e) (volumes-without n ts)

pub ruleset kept_by_without = (sound_after_without, others_after_without, volumes_after_without)
