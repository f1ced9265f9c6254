use Rattle.std.proofs.Common.{◌≡◌, ◌≤◌, take}
use Rattle.std.specs.Str.Parse.{digits_value}
use Rattle.dist_version.specs.declared.TheConstants.{MAX_EPOCH}
use Rattle.dist_version.proofs.reading.epoch_value.Given as goal

-- the value so far is that of the digits so far, and an epoch may have it
abbrev pub invariant-loop-digit : goal.invariant-loop-digit
invariant-loop-digit l = (l.value ≡ digits_value 10 (take l.digit-index l.digits)) × (l.value ≤ MAX_EPOCH)
