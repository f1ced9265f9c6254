mod Opens
mod CandidateSteps
mod GroupSteps
mod Counting
mod SettleSteps
mod StrongLine
mod ClaimSteps
mod Claimed
