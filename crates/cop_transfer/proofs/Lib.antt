pub mod ExchangeLemmas
pub mod ClientLemmas
pub mod CarryLemmas
pub mod NodeLemmas
pub mod TransferLemmas
pub mod ReadingLemmas
