-- The mark of a claim.
use Rattle.std.specs.Prelude.{◌==◌, ◌||◌, Bool, not, length}
use Rattle.dist_cert.specs.declared.records.Claim.{Claim}
use Rattle.dist_cert.specs.declared.records.Claim.TheVariants.{Challenged}
use Rattle.dist_report.specs.ClaimParts.{has_some, is_unknown, undecided_on}

-- Something is left undecided: all that is asked of the package, or an entry of the claim's second list.
abbrev pub has_mark : Claim → Bool
has_mark (Challenged by undecided) = not (length undecided == 0)
has_mark claim = is_unknown claim || has_some (undecided_on claim)
