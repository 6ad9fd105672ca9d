pub mod AllRecords
pub mod ColumnLemmas
pub mod FirstLemmas
pub mod ListLemmas
pub mod RowLemmas
pub mod TableLemmas
