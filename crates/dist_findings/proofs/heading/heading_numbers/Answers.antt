use Rattle.std.proofs.Common.{◌≡◌, List, ℕ, MatchOption, subst, sym, ap, ◌∙◌}
use Rattle.std.proofs.lemmas.Bool.{true≢false}
use Rattle.std.specs.List.{All}
use Rattle.dist_cert.specs.FirstLines.{HasNoNumbers, first_line}
use Rattle.dist_cert.specs.Form.{IsSmall}
use Rattle.dist_findings.specs.AnswerFiles.{AreCounted}
use Rattle.dist_findings.proofs.heading.heading_numbers.Goals as goal

pub returns-then-are_counted : goal.returns-then-are_counted
returns-then-are_counted g c =
    let numbers : List ℕ = c.in-Some.numbers.items in
    let told = subst (λ o. MatchOption o (HasNoNumbers c.front.result.now c.args.line.now) (λ v. c.args.line.now ≡ first_line c.front.result.now v.items))
    c.in-Some.is c.in_ok-numbers.ensures in
    let counted = c.are_counted.ensures.counted.0 c.if-are_counted.true in record {
      text = told ∙ ap (λ (front : List ℕ). first_line front numbers) c.front.ensures.value;
      counted = subst (λ n. AreCounted n numbers) c.count.ensures (subst (AreCounted c.count.result) c.deref.ensures.value counted);
      small = subst (All IsSmall) c.deref.ensures.value c.are_counted.ensures.small;
    }

pub returns-else-are_counted : goal.returns-else-are_counted
returns-else-are_counted g c = λ numbers heading.
    let told = subst (λ o. MatchOption o (HasNoNumbers c.front.result.now c.args.line.now) (λ v. c.args.line.now ≡ first_line c.front.result.now v.items))
    c.in-Some.is c.in_ok-numbers.ensures in
    let front = c.front.ensures.value in
    let small : All IsSmall c.in-Some.numbers.items = subst (All IsSmall) c.deref.ensures.value c.are_counted.ensures.small in
    let same : numbers ≡ c.deref.result.now = c.forms_are_clear.ensures.one_list (g.A.Answering.file c.args.answering.now).front numbers
    c.in-Some.numbers.items heading.small small
    (sym heading.text ∙ told ∙ ap (λ (f : List ℕ). first_line f c.in-Some.numbers.items) front) ∙ sym c.deref.ensures.value in
    true≢false (sym (c.are_counted.ensures.counted.1 (subst (λ n. AreCounted n c.deref.result.now) (sym c.count.ensures)
    (subst (AreCounted (g.A.Answering.file c.args.answering.now).count) same heading.counted))) ∙ c.if-are_counted.false)
