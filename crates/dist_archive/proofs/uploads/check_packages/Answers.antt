use Rattle.std.proofs.Common.{Result, arith}
use Rattle.std.specs.Prelude.{All, MatchResult}
use Rattle.dist_base.specs.ListLaws.{at-has}
use Rattle.dist_repo.specs.declared.package.Package.{Package}
use Rattle.dist_archive.specs.Refusals.{IsFirstFault, IsUploadFault}
use Rattle.dist_archive.specs.Steps.{IsUploaded}
use Rattle.dist_archive.specs.declared.step.StepError.{StepError}
use Rattle.dist_archive.proofs.OrderLemmas.{all-by-place}
use Rattle.dist_archive.proofs.UploadLemmas.{by-exit}
use Rattle.dist_archive.proofs.uploads.check_packages.Goals as goal

pub returns-in_err-check_package : goal.returns-in_err-check_package
returns-in_err-check_package c = λ p of.
    let r = c.args.space.now.repository in
    let version = c.args.version.now in
    let packages = c.args.block.now.packages in
    by-exit (λ (x : Result (Unit {0}) StepError). MatchResult x (λ y. All (IsUploaded r p version) packages) (λ e. IsFirstFault r p version packages e))
    c.from_residual.result c.in_err-check_package.field-0.0 c.from_residual.ensures.1 (record {
      number = c.loop-number.number;
      before = c.loop-number.invariant p of;
      here = at-has (λ (n : Package). IsUploadFault r p version c.loop-number.number n c.in_err-check_package.field-0.0) packages c.loop-number.number
          c.package.result.now c.package.ensures (c.in_err-check_package.ensures p of);
    })

pub returns : goal.returns
returns c = λ p of.
    all-by-place (IsUploaded c.args.space.now.repository p c.args.version.now) c.args.block.now.packages
    (λ k short. c.loop-number.invariant p of k (omega (arith, c.len-number-end.ensures.value)))
