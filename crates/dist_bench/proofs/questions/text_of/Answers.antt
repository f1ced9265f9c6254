use Rattle.std.proofs.Common.{◌∙◌, ◌++◌, codes, ap}
use Rattle.dist_bench.specs.Counted.{counted}
use Rattle.dist_bench.proofs.QuestionLemmas.{counts-told}
use Rattle.dist_bench.proofs.questions.text_of.Goals as goal

pub returns : goal.returns
returns c =
    c.in_ok-add_counted-4.ensures ∙ ap (λ t. t ++ counted c.from-5.result (codes " failed guesses\n"))
    (c.in_ok-add_counted-3.ensures ∙ ap (λ t. t ++ counted c.from-4.result (codes " derived lines, "))
    (c.in_ok-add_counted-2.ensures ∙ ap (λ t. t ++ counted c.from-3.result (codes " undecided, "))
    (c.in_ok-add_counted.ensures ∙ ap (λ t. t ++ counted c.from-2.result (codes " refutations, ")) c.in_ok-text.ensures)))
    ∙ counts-told c.args.counts c.args.lines c.args.failed c.from.result c.from-2.result c.from-3.result c.from-4.result c.from-5.result
    c.from.ensures c.from-2.ensures c.from-3.ensures c.from-4.ensures c.from-5.ensures
