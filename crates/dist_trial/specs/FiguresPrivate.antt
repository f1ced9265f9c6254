-- What is counted in claims. No public clause cites it.
use Rattle.std.specs.Prelude.{ℕ, length, if◌then◌else◌}
use Rattle.dist_cert.specs.declared.records.Claim.{Claim}
use Rattle.dist_report.specs.ClaimParts.{challenged_by, is_outdated, is_uninstallable, strong_on}
use Rattle.dist_trial.specs.Summary.{marks_of}
use Rattle.dist_trial.specs.declared.summary.Figure.{Figure}
use Rattle.dist_trial.specs.declared.summary.Figure.TheVariants.{Pairs, NotInstallable, Replaced, Challenges, Marks}

abbrev pub figure_in : Figure → Claim → ℕ
figure_in Pairs claim = length (strong_on claim)
figure_in NotInstallable claim = if is_uninstallable claim then 1 else 0
figure_in Replaced claim = if is_outdated claim then 1 else 0
figure_in Challenges claim = length (challenged_by claim)
figure_in Marks claim = marks_of claim
