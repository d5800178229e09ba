pub mod BinCount
pub mod DirectoryLaws
mod Examples
pub mod FieldLaws
pub mod LogLaws
pub mod LogOnce
pub mod PlaceLaws
pub mod RecordBack
pub mod RecordFound
pub mod RecordLaws
pub mod StoreLaws
