mod LaterKinds
mod Starts
mod ClaimLines
mod LatestSteps
mod OutdatedSteps
