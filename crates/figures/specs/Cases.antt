-- The contracts, levels and quotes of the worked figures.
use Rattle.terms.specs.declared.contract.Contract.{Contract}
use Rattle.terms.specs.declared.level.LevelKind.{LevelKind}
use Rattle.terms.specs.declared.level.LevelKind.TheVariants.{Entry}
use Rattle.terms.specs.declared.order.OrderType.TheVariants.{BuyLimit, BuyStop}
use Rattle.terms.specs.declared.quote.Prices.{Prices}

abbrev pub direct_of_10 : Contract
direct_of_10 = record { number = 0; size = 10; percentage = 0 }

abbrev pub indirect_of_100000 : Contract
indirect_of_100000 = record { number = 1; size = 100000; percentage = 0 }

abbrev pub buy_stop : LevelKind
buy_stop = Entry BuyStop

abbrev pub buy_limit : LevelKind
buy_limit = Entry BuyLimit

abbrev pub risen : Prices
risen = record { bid = 13560; ask = 13562 }

abbrev pub fallen : Prices
fallen = record { bid = 13400; ask = 13402 }
