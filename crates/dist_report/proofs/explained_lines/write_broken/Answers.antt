use Rattle.std.proofs.Common.{ℕ, List, ◌++◌, ◌∙◌, ap}
use Rattle.std.proofs.lemmas.Result.{on_ok_weaker}
use Rattle.dist_cert.specs.Rising.{is_among}
use Rattle.dist_report.proofs.ExplainedLemmas.{same-lines}
use Rattle.dist_report.proofs.explained_lines.write_broken.Goals as goal

pub returns : goal.returns
returns c =
    let old : List ℕ = c.args.out.now.items in
    let needed : List ℕ = c.args.needed.now in
    let undecided : List ℕ = c.args.undecided.now in
    let needed' : List ℕ = c.deref.result.now in
    let undecided' : List ℕ = c.deref-2.result.now in
    on_ok_weaker c.write_all_marked.result
    (λ e. e ∙ ap (λ (lines : List ℕ). old ++ lines) (same-lines c.args.repo.now.packages needed undecided needed' undecided'
    (λ n. ap (λ (numbers : List ℕ). is_among numbers n) c.deref.ensures.value ∙ c.in_ok-needed_in_order.ensures.same n)
    (λ n. ap (λ (numbers : List ℕ). is_among numbers n) c.deref-2.ensures.value ∙ c.in_ok-undecided_in_order.ensures.same n)
    1 c.args.list.now))
    c.write_all_marked.ensures
