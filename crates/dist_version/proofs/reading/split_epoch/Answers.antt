use Rattle.std.proofs.Common.{sym, ◌∙◌}
use Rattle.std.proofs.lemmas.Result.{err_from_is_err_and}
use Rattle.dist_version.specs.TextLaws.{with_colon, fault_with_colon, without_colon}
use Rattle.dist_version.proofs.reading.split_epoch.Goals as goal

pub returns-in_err-epoch_value-in-Some : goal.returns-in_err-epoch_value-in-Some
returns-in_err-epoch_value-in-Some c =
    let p = err_from_is_err_and c.from_residual.result c.from_residual.ensures.1 in
    rw (p.1, p.2) (fault_with_colon c.args.text.now c.in-Some.digits.now c.in-Some.rest.now _ (sym c.in-Some.ensures) c.in_err-epoch_value-in-Some.ensures)

pub returns-in_ok-epoch_value-in-Some : goal.returns-in_ok-epoch_value-in-Some
returns-in_ok-epoch_value-in-Some c =
    let s = with_colon c.args.text.now c.in-Some.digits.now c.in-Some.rest.now (sym c.in-Some.ensures) c.in_ok-epoch_value-in-Some.ensures.0 in
    (s.fault, s.epoch ∙ c.in_ok-epoch_value-in-Some.ensures.1, s.rest)

pub returns-in-None : goal.returns-in-None
returns-in-None c = let s = without_colon c.args.text.now (sym c.in-None.ensures) in (s.fault, s.epoch, s.rest)
