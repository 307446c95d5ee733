pub mod Coding
pub mod Serial
pub mod Page
pub mod Paging
pub mod Text
pub mod Laws
pub mod PagingSteps
pub mod TextSteps
