pub mod PageOutput
pub mod ReadOutput
pub mod ReadSteps
pub mod SlotsOutput
pub mod Laws
pub mod WholeOutput
