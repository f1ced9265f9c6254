use Rattle.std.proofs.Common.{◌≡◌, ℕ, List, [], take, arith, sym, subst}
use Rattle.std.specs.Prelude.{Any}
use Rattle.std.proofs.lemmas.Result.{IfOk-weaker}
use Rattle.dist_repo.specs.declared.package.Package.{Package}
use Rattle.dist_classes.specs.NewNames.{AreNewNames}
use Rattle.dist_classes.specs.Table.{Adds}
use Rattle.dist_classes.proofs.FreshLemmas.{HasFresh, adds-more, adds-none, adds-whole, names-from}
use Rattle.dist_classes.proofs.fresh_names.names_by.Goals as goal

pub loop-number-init : goal.loop-number-init
loop-number-init c =
    let packages = c.args.repo.now.packages in
    let P : List ℕ → Package → Type 0 = λ q p. HasFresh c.args.repo.now q p in
    subst (λ (keys : List (List ℕ)). Adds [] keys (λ q. Any (P q) (take 0 packages))) (sym c.requires) (adds-none P [] packages)

pub loop-number-preserved : goal.loop-number-preserved
loop-number-preserved c =
    let r = c.args.repo.now in
    let P : List ℕ → Package → Type 0 = λ q p. HasFresh r q p in
    adds-more P [] c.loop-number.names.keys c.note_items.new.names.keys r.packages c.loop-number.number c.package.result.now c.package.ensures
    c.loop-number.invariant c.in_ok-note_items.ensures

pub returns : goal.returns
returns c =
    let r = c.args.repo.now in
    let P : List ℕ → Package → Type 0 = λ q p. HasFresh r q p in
    let keys = c.loop-number.names.keys in
    let New : List (List ℕ) → Type 0 = AreNewNames r in
    let are = names-from r keys c.copied.ensures.in_order (adds-whole P [] keys r.packages c.loop-number.number (omega arith) c.loop-number.invariant) in
    IfOk-weaker c.copied.result (λ copies. copies ≡ keys) New (λ copies is. subst New (sym is) are) c.copied.ensures.same
