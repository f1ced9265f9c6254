pub mod BitsLemmas
pub mod CountLemmas
pub mod FillLemmas
pub mod LanesLemmas
pub mod NextLemmas
pub mod RowLemmas
pub mod WordsLemmas
