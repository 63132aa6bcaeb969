-- The positions gathered from a list of tickets.
use Rattle.std.proofs.Common.{◌≡◌, ℕ, zero, suc, ◌+◌, ◌<◌, ◌≤◌, List, [], ◌∷◌, ◌++◌, length, get_or, take, Some, None, Option, sym, refl, ap, ◌∙◌, subst, arith}
use Rattle.std.proofs.lemmas.List.{take_more, take_all, flat_map_more}
use Rattle.kinds.specs.Laws.{Pays, Needs}
use Rattle.tickets.specs.declared.ticket.Ticket.{Ticket}
use Rattle.tickets.specs.declared.ticket.TicketState.{TicketState}
use Rattle.tickets.specs.declared.ticket.TicketState.TheVariants.{Pending, Position}
use Rattle.tickets.specs.Tickets.{blank}
use Rattle.market.specs.declared.instrument.Instrument.{Instrument}
use Rattle.market.specs.declared.market.Market.{Market}
use Rattle.market.specs.Markets.{instrument}
use Rattle.positions.specs.declared.position.OpenPosition.{OpenPosition}
use Rattle.positions.specs.Positions.{Above}
use Rattle.valuation.specs.Valued.{valued_as, valued}
use Rattle.valuation.specs.Valuation.{as_list, positions_of}

module _ (pays : Pays) (needs : Needs) (m : Market) (leverage : ℕ) where
  numbered_as : (row : Instrument) (t : Ticket) (s : TicketState) (p : OpenPosition) → Some p ≡ valued_as pays needs row leverage t s → p.ticket ≡ t.number
  numbered_as row t (Pending order level expiry) p h = let z : ◌≡◌ {A = ℕ} 0 1 = cc in absurd (omega arith)
  numbered_as row t (Position side price) p h = cc

  -- a position bears its ticket's number
  pub valued_number : (t : Ticket) (p : OpenPosition) → Some p ≡ valued pays needs m leverage t → p.ticket ≡ t.number
  valued_number t p h = numbered_as (instrument t.instrument m) t t.state p h

  one_more : (o : Option OpenPosition) (ps : List OpenPosition) (n : ℕ) → length ps ≤ n → length (as_list o ++ ps) ≤ suc n
  one_more None ps n h = omega arith
  one_more (Some p) ps n h = omega arith

  -- each ticket gives one position at most
  pub gathered_few : (ts : List Ticket) → length (positions_of pays needs m leverage ts) ≤ length ts
  gathered_few [] = omega arith
  gathered_few (t ∷ ts) = one_more (valued pays needs m leverage t) (positions_of pays needs m leverage ts) (length ts) (gathered_few ts)

  one_above : (o : Option OpenPosition) (ps : List OpenPosition) (n : ℕ) → ((p : OpenPosition) → Some p ≡ o → p.ticket < n) → Above ps n → Above (as_list o ++ ps) n
  one_above None ps n below h k l = h k l
  one_above (Some p) ps n below h zero l = below p refl
  one_above (Some p) ps n below h (suc k) l = h k (omega arith)

  above_all : (ts : List Ticket) (n : ℕ) → ((k : ℕ) → k < length ts → (get_or ts k blank).number < n) → Above (positions_of pays needs m leverage ts) n
  above_all [] n h = λ k l. absurd (omega arith)
  above_all (t ∷ ts) n h =
      one_above (valued pays needs m leverage t) (positions_of pays needs m leverage ts) n
      (λ p e. omega (arith, h 0 (omega arith), valued_number t p e))
      (above_all ts n (λ j i. h (suc j) (omega arith)))

  -- what is above every ticket's number is above every position's
  pub gathered_above : (ts : List Ticket) (ps : List OpenPosition) (n : ℕ) → ps ≡ positions_of pays needs m leverage ts → ((k : ℕ) → k < length ts → (get_or ts k blank).number < n) → Above ps n
  gathered_above ts ps n e h = subst (λ (qs : List OpenPosition). Above qs n) (sym e) (above_all ts n h)

  -- one ticket more
  pub gathered_more : (ts : List Ticket) (i : ℕ) (ps : List OpenPosition) (o : Option OpenPosition) → i < length ts → ps ≡ positions_of pays needs m leverage (take i ts) → o ≡ valued pays needs m leverage (get_or ts i blank) → ps ++ as_list o ≡ positions_of pays needs m leverage (take (i + 1) ts)
  gathered_more ts i ps o h e v =
      (λ d. e d ++ as_list (v d))
      ∙ flat_map_more (λ (t : Ticket). as_list (valued pays needs m leverage t)) [] (take i ts) (get_or ts i blank)
      ∙ ap (positions_of pays needs m leverage) (sym (take_more ts i blank h))

  -- and all of them
  pub gathered_all : (ts : List Ticket) (i : ℕ) (ps : List OpenPosition) → length ts ≤ i → ps ≡ positions_of pays needs m leverage (take i ts) → ps ≡ positions_of pays needs m leverage ts
  gathered_all ts i ps h e = e ∙ ap (positions_of pays needs m leverage) (take_all i ts h)
