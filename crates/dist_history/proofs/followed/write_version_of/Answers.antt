use Rattle.std.proofs.Common.{◌++◌, List, ℕ, ap, append-nil, refl, sym, ◌∙◌}
use Rattle.dist_repo.specs.declared.package.Package.{Package}
use Rattle.dist_history.specs.FollowTextLaws.{version-held, version-none}
use Rattle.dist_history.proofs.followed.write_version_of.Goals as goal

pub returns-in_ok-extend_from_slice-in-Some : goal.returns-in_ok-extend_from_slice-in-Some
returns-in_ok-extend_from_slice-in-Some c =
    let p : Package = c.in-Some.package.now in
    (c.in_ok-extend_from_slice-in-Some).ensures.items
    ∙ ap (λ (v : List ℕ). c.args.out.now.items ++ v) (c.text.ensures.value
    ∙ sym (version-held c.args.name.now c.args.archive.now.packages p c.keeps_invariant.ensures.one_of_a_name ((c.in-Some.ensures p).0 refl)))

pub returns-in-None : goal.returns-in-None
returns-in-None c =
    let none = version-none c.args.name.now c.args.archive.now.packages (λ p held. let e = (c.in-None.ensures p).1 held in cc) in
    sym (ap (λ (v : List ℕ). c.args.out.now.items ++ v) none ∙ append-nil c.args.out.now.items)
