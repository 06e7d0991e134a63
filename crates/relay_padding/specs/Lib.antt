pub mod PaddingState
