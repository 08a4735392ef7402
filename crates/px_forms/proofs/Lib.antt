pub mod Views
pub mod RowViews
