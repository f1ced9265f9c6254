use Rattle.std.proofs.Common.{List, ℕ, ◌++◌, codes, ap, subst, ◌∙◌}
use Rattle.dist_repo.specs.PackageList.{PackageList}
use Rattle.dist_report.specs.ClaimParts.{opening_lines, told_packages}
use Rattle.dist_report.specs.ClassTablePrivate.{AreKept}
use Rattle.dist_report.specs.ClaimPartsPrivate.{is_part}
use Rattle.dist_report.specs.declared.claim_parts.Listing.TheVariants.{Claimed, Undecided}
use Rattle.dist_report.specs.declared.claim_parts.Part.TheVariants.{NotInstallable}
use Rattle.dist_report.proofs.BrokenLemmas.{told-of-kept}
use Rattle.dist_report.proofs.LineLemmas.{joined-four}
use Rattle.dist_report.proofs.challenged_report.challenged_text.Goals as goal

pub write_classes_told-requires-clause-kept : goal.write_classes_told-requires-clause-kept
write_classes_told-requires-clause-kept c =
    subst (λ (s : PackageList). AreKept s c.in_ok-table.table.clusters c.in_ok-table.table.classes.items) c.repo-repo.ensures c.in_ok-table.ensures.kept

pub write_classes_told-requires-2-clause-kept : goal.write_classes_told-requires-2-clause-kept
write_classes_told-requires-2-clause-kept c =
    subst (λ (s : PackageList). AreKept s c.in_ok-table.table.clusters c.in_ok-table.table.classes.items) c.repo-repo.ensures c.in_ok-table.ensures.kept

pub returns : goal.returns
returns c =
    let r = c.args.labels.now in
    let packages = r.packages in
    let made = c.args.claims.now in
    let table = c.in_ok-table.table in
    let kept = subst (λ (s : PackageList). AreKept s table.clusters table.classes.items) c.repo-repo.ensures c.in_ok-table.ensures.kept in
    let part = told_packages (codes "uninstallable:") (is_part NotInstallable) packages made in
    let out = c.in_ok-out.ensures ∙ ap (λ (r : PackageList). opening_lines (codes "challenged") r.packages c.args.limit) c.repo-repo.ensures in
    let first = c.in_ok-write_part.ensures ∙ ap (λ (t : List ℕ). t ++ part) out in
    let second = c.in_ok-write_classes_told.ensures
    ∙ ap (λ (t : List ℕ). c.write_part.new.out.items ++ t) (told-of-kept r table.clusters table.classes.items kept Claimed made) in
    let fourth = c.in_ok-write_classes_told-2.ensures
    ∙ ap (λ (t : List ℕ). c.write_part-2.new.out.items ++ t) (told-of-kept r table.clusters table.classes.items kept Undecided made) in
    record {
      clusters = kept.told;
      are_clusters = kept.are;
      is = joined-four (opening_lines (codes "challenged") packages c.args.limit) _ _ _ _ _ _ _ _ first second c.in_ok-write_part-2.ensures fourth;
    }
