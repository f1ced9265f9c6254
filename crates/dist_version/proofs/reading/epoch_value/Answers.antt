use Rattle.std.proofs.Common.{◌≡◌, ◌<◌, ◌+◌, true, arith, take}
use Rattle.std.specs.Char.{is_ascii_digit}
use Rattle.std.specs.List.{list_all}
use Rattle.std.specs.Str.Parse.{digits_value}
use Rattle.dist_version.specs.declared.TheConstants.{MAX_EPOCH}
use Rattle.dist_version.proofs.Digits.{value_more, value_of_start}
use Rattle.dist_version.specs.TextLaws.{epoch_fault-large}
use Rattle.dist_version.proofs.reading.epoch_value.Goals as goal

pub returns-then-value-from : goal.returns-then-value-from
returns-then-value-from c =
    let ds = c.args.digits.now in
    let all : list_all is_ascii_digit ds ≡ true = cc in
    let more = value_more ds c.loop-digit.digit-index all c.loop-digit-test.true in
    let large : MAX_EPOCH < digits_value 10 (take (c.loop-digit.digit-index + 1) ds) = omega (arith, more, c.from.ensures, c.loop-digit.invariant.0) in
    epoch_fault-large ds (omega arith) all (omega (arith, large, value_of_start ds (c.loop-digit.digit-index + 1)))

pub loop-digit-preserved : goal.loop-digit-preserved
loop-digit-preserved c =
    let ds = c.args.digits.now in
    let all : list_all is_ascii_digit ds ≡ true = cc in
    let more = value_more ds c.loop-digit.digit-index all c.loop-digit-test.true in
    (omega (arith, more, c.from.ensures, c.loop-digit.invariant.0), omega arith)
