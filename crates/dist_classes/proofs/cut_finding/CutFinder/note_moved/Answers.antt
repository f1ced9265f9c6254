use Rattle.std.proofs.Common.{◌≡◌, ◌+◌, List, ℕ, arith, sym, ap, subst, ◌∙◌}
use Rattle.std.proofs.lemmas.Bool.{false≢true}
use Rattle.dist_repo.specs.PackageList.{PackageList}
use Rattle.dist_classes.specs.NewVersion.{IsMoving}
use Rattle.dist_classes.specs.Table.{Adds}
use Rattle.dist_classes.proofs.FoundCuts.{IsMovedBy, moved-none, moved-more, moved-still, moved-all}
use Rattle.dist_classes.proofs.FreshLemmas.{adds-key}
use Rattle.dist_classes.proofs.cut_finding.CutFinder.note_moved.Goals as goal
use Rattle.dist_classes.proofs.cut_finding.CutFinder.note_moved.Goals.{then-is_moving+in_ok-insert-2, else-is_moving}

pub loop-place-init : goal.loop-place-init
loop-place-init c =
    let p = c.args.package.now in
    let old = c.args.names.now.keys in
    let Named : List ℕ → Type 0 = λ name. Adds old c.insert.new.self.keys (λ n. name ≡ n) in
    let Own : List (List ℕ) → Type 0 = λ new. Adds old new (λ n. c.new.result ≡ n) in
    moved-none c.args.self.now.architecture p old c.insert.new.self.keys
    (subst Named c.new.ensures (subst Own (sym c.in_ok-insert.ensures.keys) (adds-key old c.new.result)))

pub loop-place-preserved : goal.loop-place-preserved
loop-place-preserved c =
    let r = c.args.self.now in
    let p = c.args.package.now in
    let entry = c.get-entry.result.now in
    let place = c.loop-place.place in
    let a = c.args.names.now.keys in
    let b = c.loop-place.names.keys in
    let Found : List (List ℕ) → Type 0 = λ keys. Adds a keys (IsMovedBy r.architecture p (place + 1)) in
    let Moves : PackageList → Type 0 = λ s. IsMoving s.architecture p entry in
    let Still : PackageList → Type 0 = λ s. ¬ IsMoving s.architecture p entry in
    elim c.if-is_moving.branch [
      | then-is_moving+in_ok-insert-2 w ↦
          subst Found (sym (ap (λ v. v.keys) w.names-is))
          (moved-more r.architecture p place entry a b w.insert-then-is_moving.new.self.keys c.get-entry.ensures
          (subst Moves c.self.view_is (c.is_moving.ensures.0 w.if-is_moving.true))
          c.loop-place.invariant (subst (λ (name : List ℕ). Adds b w.insert-then-is_moving.new.self.keys (λ n. name ≡ n)) w.new-then-is_moving.ensures
          (subst (λ (new : List (List ℕ)). Adds b new (λ n. w.new-then-is_moving.result ≡ n)) (sym w.in_ok-insert-2.ensures.keys)
          (adds-key b w.new-then-is_moving.result))))
      | else-is_moving w ↦
          subst Found (sym (ap (λ v. v.keys) w.names-is))
          (moved-still r.architecture p place entry a b c.get-entry.ensures
          (subst Still c.self.view_is (λ moves. false≢true (sym w.if-is_moving.false ∙ c.is_moving.ensures.1 moves)))
          c.loop-place.invariant)
    ]

pub returns : goal.returns
returns c = moved-all c.args.self.now.architecture c.args.package.now c.loop-place.place c.args.names.now.keys c.loop-place.names.keys (omega arith)
    c.loop-place.invariant
