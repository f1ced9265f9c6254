use Rattle.std.proofs.Common.{◌∙◌, ◌++◌, codes, ap}
use Rattle.dist_bench.specs.Counted.{counted}
use Rattle.dist_bench.proofs.questions.last_by.Goals as goal

pub returns : goal.returns
returns c = record {
  verdict = c.in_ok-verdict.verdict.now;
  lines = c.from.result;
  is_verdict = c.in_ok-verdict.ensures;
  is = c.in_ok-add_counted.ensures ∙ ap (λ t. t ++ counted c.from.result (codes " derived lines\n"))
      (c.in_ok-extend_from_slice.ensures.items ∙ ap (λ t. t ++ c.in_ok-verdict.verdict.now) c.new-answer.ensures.items);
}
