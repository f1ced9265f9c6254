use Rattle.std.proofs.Common.{◌+◌, ◌++◌, ◌∙◌, List, ℕ, ap, append_assoc, get_or, sym, take}
use Rattle.dist_explain.specs.declared.relations.Relation.TheVariants.{Needs}
use Rattle.dist_report.proofs.ExplainedLemmas.{lines-next}
use Rattle.dist_report.specs.ExplainedText.{marked_line, marked_lines}
use Rattle.dist_report.proofs.explained_lines.write_all_marked.Goals as goal

pub loop-place-preserved : goal.loop-place-preserved
loop-place-preserved c =
    let packages = c.args.repo.now.packages in
    let needed : List ℕ = c.args.needed.now in
    let undecided : List ℕ = c.args.undecided.now in
    let list = c.args.list.now in
    let k : ℕ = c.loop-place.place in
    let old : List ℕ = c.args.out.now.items in
    let one : List ℕ = marked_line packages needed undecided (k + 1) (get_or list k (Needs 0 0)) in
    c.in_ok-write_marked.ensures ∙ ap (λ (bytes : List ℕ). bytes ++ one) c.loop-place.invariant
    ∙ append_assoc old (marked_lines packages needed undecided 1 (take k list)) one
    ∙ ap (λ (bytes : List ℕ). old ++ bytes) (sym (lines-next packages needed undecided list k (Needs 0 0) c.loop-place-test.true))
