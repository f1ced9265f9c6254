mod UsedSteps
mod CoverSteps
