mod RisingLemmas
mod SetLemmas
mod RuleLemmas
mod KeptLemmas
mod WindowLemmas
mod CoverLemmas
mod MarkLemmas
mod ChallengeLemmas
