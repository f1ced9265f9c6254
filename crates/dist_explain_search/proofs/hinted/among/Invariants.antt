use Rattle.std.proofs.Common.{◌≡◌, filter, take}
use Rattle.dist_cert.specs.Rising.{is_among}
use Rattle.dist_explain_search.proofs.hinted.among.Given as goal

abbrev pub invariant-loop-number : goal.invariant-loop-number
invariant-loop-number l = l.both.items ≡ filter (is_among l.others) (take l.number-index l.numbers)
