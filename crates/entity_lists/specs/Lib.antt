pub mod CsvRecords
pub mod Entities
pub mod EntityTables
pub mod FirstBy
pub mod Lists
pub mod ServerRows
pub mod Versions
