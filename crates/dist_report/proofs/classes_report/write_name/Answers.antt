use Rattle.std.proofs.Common.{◌++◌, ℕ, List, codes, ap, ◌∙◌}
use Rattle.dist_report.specs.Lines.{string_line}
use Rattle.dist_report.proofs.LineLemmas.{joined-two}
use Rattle.dist_report.proofs.classes_report.write_name.Goals as goal

pub returns : goal.returns
returns c =
    let old = c.args.out.now.items in
    let first = c.in_ok-write_string.ensures ∙ ap (λ (t : List ℕ). old ++ string_line (codes "  - name: ") t) c.bytes.ensures.value in
    record {
      classes = c.in_ok-classes.classes;
      are = c.in_ok-classes.ensures;
      examples = c.in_ok-write_classes.ensures.there;
      text = joined-two old _ _ _ _ first c.in_ok-write_classes.ensures.text;
    }
