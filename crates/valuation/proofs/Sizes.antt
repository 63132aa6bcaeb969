-- Sizes of a position's result and margin, for all kinds that keep their laws.
use Rattle.std.proofs.Common.{◌≡◌, ℕ, ◌*◌, ◌≤◌, nat_abs, Some, None, Option, ap, arith}
use Rattle.terms.specs.declared.side.Side.{Side}
use Rattle.terms.specs.declared.quote.Prices.{Prices}
use Rattle.terms.specs.Quotes.{closing_price}
use Rattle.kinds.specs.Laws.{Admits, Pays, Needs, Bounded, Margined, Unpaid, Unmargined}
use Rattle.kinds.proofs.Everywhere.{bounded_everywhere, margin_everywhere}
use Rattle.tickets.specs.declared.ticket.Ticket.{Ticket}
use Rattle.tickets.specs.declared.ticket.TicketState.{TicketState}
use Rattle.tickets.specs.declared.ticket.TicketState.TheVariants.{Pending, Position}
use Rattle.market.specs.declared.listing.Listing.{Listing}
use Rattle.market.specs.declared.instrument.Instrument.{Instrument}
use Rattle.market.specs.declared.market.Market.{Market}
use Rattle.market.specs.Instruments.{present}
use Rattle.market.specs.Markets.{instrument}
use Rattle.positions.specs.declared.position.OpenPosition.{OpenPosition}
use Rattle.positions.specs.Sizes.{SizedOne}
use Rattle.valuation.specs.Valued.{result_at, result_now, listed_margin, own_margin, valued_as, valued}

module _ (admits : Admits) (pays : Pays) (unpaid : Unpaid admits pays) (bounded : Bounded admits pays) (needs : Needs) (unmargined : Unmargined admits needs) (margined : Margined admits needs) where
  result_size : (l : Option Listing) (p : Option Prices) (s : Side) (o v : ℕ) → nat_abs (result_at pays l p s o v) ≤ v * 100000000
  result_size (Some l) (Some p) s o v = bounded_everywhere admits pays unpaid bounded l.contract s o (closing_price s p) v
  result_size (Some l) None s o v = omega arith
  result_size None p s o v = omega arith

  margin_size : (l : Option Listing) (leverage o v : ℕ) → listed_margin needs l leverage o v ≤ 1000000000000
  margin_size (Some l) leverage o v = margin_everywhere admits needs unmargined margined l.contract leverage o v
  margin_size None leverage o v = omega arith

  sized_as : (row : Instrument) (leverage : ℕ) (t : Ticket) (s : TicketState) (p : OpenPosition) → t.volume ≤ 10000 → Some p ≡ valued_as pays needs row leverage t s → SizedOne p
  sized_as row leverage t (Pending order level expiry) p h e = let z : ◌≡◌ {A = ℕ} 0 1 = cc in absurd (omega arith)
  sized_as row leverage t (Position side price) p h e =
      let r : p.result ≡ result_now pays row side price t.volume = cc in
      let n : p.margin ≡ own_margin needs row leverage price t.volume = cc in
      (omega (arith, ap nat_abs r, result_size row.listing (present row) side price t.volume), omega (arith, n, margin_size row.listing leverage price t.volume))

  -- a position of at most 100 lots is of bounded size
  pub valued_sized : (m : Market) (leverage : ℕ) (t : Ticket) (p : OpenPosition) → t.volume ≤ 10000 → Some p ≡ valued pays needs m leverage t → SizedOne p
  valued_sized m leverage t p h e = sized_as (instrument t.instrument m) leverage t t.state p h e
