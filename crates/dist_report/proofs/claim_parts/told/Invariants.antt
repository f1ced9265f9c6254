use Rattle.std.proofs.Common.{◌≡◌, false, filter, slice_get}
use Rattle.std.specs.List.{range_with_len}
use Rattle.std.specs.Option.{option_map_or}
use Rattle.dist_report.specs.ClaimPartsPrivate.{is_part}
use Rattle.dist_report.proofs.claim_parts.told.Given as goal

abbrev pub invariant-loop-number : goal.invariant-loop-number
invariant-loop-number l = l.numbers.items ≡ filter (λ p. option_map_or (is_part l.part) (slice_get l.claims p) false) (range_with_len 0 l.number)
