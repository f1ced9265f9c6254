use Rattle.std.proofs.Common.{◌≡◌, ◌<◌, ℕ, List, Some, [], take, length, get_or, slice_get, arith, sym, subst}
use Rattle.std.specs.Prelude.{Any}
use Rattle.std.proofs.lemmas.Option.{slice_get-get_or}
use Rattle.dist_repo.specs.PackageList.{PackageList}
use Rattle.dist_repo.specs.declared.package.Package.{Package}
use Rattle.dist_classes.specs.Table.{Adds}
use Rattle.dist_classes.proofs.FoundCuts.{IsNameOf, member-named}
use Rattle.dist_classes.proofs.FreshLemmas.{adds-none, adds-more, adds-whole}
use Rattle.dist_classes.proofs.cut_finding.CutFinder.note_members.Goals as goal

pub package-requires : goal.package-requires
package-requires c =
    let number = get_or c.args.members.now c.loop-number.number-index 0 in
    let Within : PackageList → Type 0 = λ r. number < length r.packages in
    subst Within (sym c.self.view_is) (c.requires.within c.loop-number.number-index 0 c.loop-number-test.true)

pub loop-number-init : goal.loop-number-init
loop-number-init c =
    let members = c.args.members.now in
    subst (λ (keys : List (List ℕ)). Adds [] keys (λ n. Any (IsNameOf c.args.self.now n) (take 0 members))) (sym c.requires.none)
    (adds-none (IsNameOf c.args.self.now) [] members)

pub loop-number-preserved : goal.loop-number-preserved
loop-number-preserved c =
    let members = c.args.members.now in
    let number = get_or members c.loop-number.number-index 0 in
    let p : Package = c.package.result.now in
    let b = c.loop-number.names.keys in
    let new = c.note_moved.new.names.keys in
    let At : PackageList → Type 0 = λ r. slice_get r.packages number ≡ Some p in
    adds-more (IsNameOf c.args.self.now) [] b new members c.loop-number.number-index number
    (slice_get-get_or members c.loop-number.number-index 0 c.loop-number-test.true) c.loop-number.invariant
    (member-named c.args.self.now number p b new (subst At c.self.view_is c.package.ensures) c.in_ok-note_moved.ensures)

pub returns : goal.returns
returns c = adds-whole (IsNameOf c.args.self.now) [] c.loop-number.names.keys c.args.members.now c.loop-number.number-index (omega arith)
    c.loop-number.invariant
