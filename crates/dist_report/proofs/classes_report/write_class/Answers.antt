use Rattle.std.proofs.Common.{ℕ, List, ◌++◌, ap, ◌∙◌}
use Rattle.dist_report.specs.Lines.{string_line}
use Rattle.dist_report.proofs.LineLemmas.{joined-class}
use Rattle.dist_report.proofs.classes_report.write_class.Goals as goal

pub returns-clause-text : goal.returns-clause-text
returns-clause-text c =
    let example = c.in_ok-write_string.ensures ∙ ap (λ (t : List ℕ). c.extend_from_slice-2.new.self.items ++ string_line c.args.before_example.now t)
    (c.text-2.ensures.value ∙ c.in_ok-example.ensures.text) in
    joined-class c.args.out.now.items _ _ _ _ _ _ _ _ _ _ c.in_ok-extend_from_slice.ensures.items c.in_ok-push.ensures.items c.in_ok-print_class.ensures.text
    c.in_ok-extend_from_slice-2.ensures.items example
