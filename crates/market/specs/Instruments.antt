-- What a row of the instrument table says, and the rows by number.
use Rattle.std.specs.Prelude.{ℕ, zero, suc, cond, List, Some, None, Option, slice_index_or, slice_set}
use Rattle.terms.specs.declared.quote.Prices.{Prices}
use Rattle.terms.specs.Quotes.{quotable}
use Rattle.market.specs.declared.listing.Listing.{Listing}
use Rattle.market.specs.declared.instrument.Instrument.{Instrument}

-- prices that make a quote
abbrev pub quoted : Option Prices → Option Prices
quoted None = None
quoted (Some p) = cond (quotable p) (Some p) None

-- the present prices of an instrument, where it has any
abbrev pub present : Instrument → Option Prices
present row = quoted row.prices

abbrev pub hedge_of : Option Listing → ℕ
hedge_of None = 0
hedge_of (Some l) = l.hedge

-- in percent; 0 where nothing is listed
abbrev pub hedge_share : Instrument → ℕ
hedge_share row = hedge_of row.listing

abbrev pub unlisted : Instrument
unlisted = record { listing = None; prices = None }

-- the first row is instrument 1's
abbrev pub place : ℕ → Option ℕ
place zero = None
place (suc k) = Some k

abbrev pub row_at : Option ℕ → List Instrument → Instrument
row_at None rows = unlisted
row_at (Some k) rows = slice_index_or rows k unlisted

-- the row of an instrument
abbrev pub numbered : ℕ → List Instrument → Instrument
numbered n rows = row_at (place n) rows

abbrev pub row_put : Option ℕ → Instrument → List Instrument → List Instrument
row_put None row rows = rows
row_put (Some k) row rows = slice_set rows k row

-- another row for an instrument
abbrev pub with_row : ℕ → Instrument → List Instrument → List Instrument
with_row n row rows = row_put (place n) row rows
