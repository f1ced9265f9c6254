mod LiteralLemmas
mod RangeLemmas
mod MemberLemmas
mod FutureLemmas
mod Growth
mod LineLemmas
mod TextLemmas
