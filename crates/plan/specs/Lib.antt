pub mod PlanText
pub mod PlanTime
pub mod PlanCells
pub mod PlanRow
pub mod PlanOutput
pub mod PlanSteps
