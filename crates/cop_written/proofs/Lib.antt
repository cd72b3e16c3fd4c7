pub mod CsvLemmas
pub mod NumberLemmas
pub mod NodeLemmas
pub mod PdoLemmas
