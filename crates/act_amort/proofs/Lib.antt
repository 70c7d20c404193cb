pub mod LoanPlans
pub mod PaidDates
pub mod PaymentFixings
pub mod TypesInTurn
