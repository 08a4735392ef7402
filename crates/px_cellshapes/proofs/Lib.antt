mod Distinct
pub mod Each
pub mod KeysRead
pub mod Paths
pub mod RowsRead
pub mod Steps
mod StoredValues
mod Tests
pub mod Typed
pub mod WrittenKeys
mod WrittenRows
