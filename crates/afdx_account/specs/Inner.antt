pub mod Laws
pub mod MeterLaws
