pub mod PairLaws
pub mod FourLaws
