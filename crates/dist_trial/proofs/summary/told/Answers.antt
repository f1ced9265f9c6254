use Rattle.std.proofs.Common.{◌∙◌, ◌++◌, List, ℕ, ap, codes}
use Rattle.dist_trial.specs.Summary.{number_line}
use Rattle.dist_trial.proofs.Lines.{summary-of}
use Rattle.dist_trial.proofs.summary.told.Goals as goal

pub returns-clause-summary : goal.returns-clause-summary
returns-clause-summary c =
    summary-of c.args.size c.args.strong.now c.args.outdated.now c.args.challenged.now c.total.result c.total-2.result c.total-3.result c.total-4.result
    c.all_marks.result c.add_line.new.text.items c.add_line-2.new.text.items c.add_line-3.new.text.items c.add_line-4.new.text.items
    c.add_line-5.new.text.items c.add_line-6.new.text.items c.extend_from_slice.new.self.items
    (record {
      pairs_are = c.total.ensures.sum;
      uninstallable_are = c.total-2.ensures.sum;
      replaced_are = c.total-3.ensures.sum;
      challenges_are = c.total-4.ensures.sum;
      marks_are = c.all_marks.ensures;
    })
    (c.in_ok-add_line.ensures ∙ ap (λ (n : ℕ). c.new-summary.result.items ++ number_line (codes "size ") n) c.from.ensures
    ∙ ap (λ (xs : List ℕ). xs ++ number_line (codes "size ") c.args.size) c.new-summary.ensures.items) c.in_ok-add_line-2.ensures c.in_ok-add_line-3.ensures
    c.in_ok-add_line-4.ensures c.in_ok-add_line-5.ensures c.in_ok-add_line-6.ensures
    c.in_ok-extend_from_slice.ensures.items
