pub mod RowsMade
pub mod RowsPut
pub mod RowsTyped
pub mod PendingTyped
pub mod RowKeys
pub mod FixesMade
