use Rattle.std.proofs.Common.{ℕ, List, ◌++◌, ◌<◌, codes, length, slice_get, Option, [], subst, sym, ap, ◌∙◌}
use Rattle.std.specs.Option.{option_map_or}
use Rattle.dist_repo.specs.PackageList.{PackageList}
use Rattle.dist_repo.specs.declared.package.Package.{Package}
use Rattle.dist_report.specs.Lines.{string_line}
use Rattle.dist_report.proofs.LineLemmas.{joined-three}
use Rattle.dist_report.proofs.classes_report.write_head.Goals as goal

pub package-package-requires : goal.package-package-requires
package-package-requires c = subst (λ (r : PackageList). c.args.least < length r.packages) (sym c.repo.ensures) c.requires

pub returns : goal.returns
returns c =
    let old = c.args.out.now.items in
    let source = c.bytes.ensures.value ∙ ap (λ (o : Option Package). option_map_or (λ (p : Package). p.source) o []) (sym c.package-package.ensures)
    ∙ ap (λ (r : PackageList). option_map_or (λ (p : Package). p.source) (slice_get r.packages c.args.least) []) c.repo.ensures in
    let second = c.in_ok-write_string.ensures ∙ ap (λ (t : List ℕ). c.write_numbered.new.out.items ++ string_line (codes "    source: ") t) source in
    let third = c.in_ok-write_string-2.ensures ∙ ap (λ (t : List ℕ). c.write_string.new.out.items ++ string_line (codes "    top: ") t) c.text.ensures.value in
    joined-three old _ _ _ _ _ _ c.in_ok-write_numbered.ensures second third
