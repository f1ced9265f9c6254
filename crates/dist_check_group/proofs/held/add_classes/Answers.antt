use Rattle.std.proofs.Common.{◌∙◌, ◌==◌, ◌||◌, Bool, List, ℕ, ap, get_or}
use Rattle.std.specs.List.{list_any}
use Rattle.std.proofs.lemmas.List.{take_all}
use Rattle.std.proofs.lemmas.List.Folds.{list_any-append}
use Rattle.dist_cert.specs.Rising.{is_among}
use Rattle.dist_check_group.specs.Layout.{classes_of}
use Rattle.dist_check_group.proofs.MarkLemmas.{named-more, or-none}
use Rattle.dist_check_group.proofs.held.add_classes.Goals as goal

pub loop-cluster-init : goal.loop-cluster-init
loop-cluster-init c = λ v. or-none (is_among c.args.variables.now.items v)

pub loop-cluster-preserved : goal.loop-cluster-preserved
loop-cluster-preserved c = λ v.
    let clusters : List ℕ = c.args.clusters.now in
    let i = c.loop-cluster.cluster-index in
    let test : ℕ → Bool = λ n. is_among (classes_of c.args.layout.now n) v in
    ap (λ (ns : List ℕ). is_among ns v) c.in_ok-add_all.ensures
    ∙ list_any-append (λ n. v == n) c.loop-cluster.variables.items c.classes_of.result.now
    ∙ ap (λ (ns : List ℕ). is_among c.loop-cluster.variables.items v || is_among ns v) c.classes_of.ensures
    ∙ ap (λ (b : Bool). b || test (get_or clusters i 0)) (c.loop-cluster.invariant v)
    ∙ named-more test clusters i (is_among c.args.variables.now.items v) c.loop-cluster-test.true

pub returns : goal.returns
returns c = λ v.
    c.loop-cluster.invariant v
    ∙ ap (λ (ns : List ℕ). is_among c.args.variables.now.items v || list_any (λ n. is_among (classes_of c.args.layout.now n) v) ns)
    (take_all c.loop-cluster.cluster-index c.args.clusters.now c.loop-cluster-test.false)
