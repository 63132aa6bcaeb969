pub mod WorkedDeal
