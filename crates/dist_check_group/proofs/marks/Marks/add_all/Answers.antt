use Rattle.std.proofs.Common.{◌∙◌, ◌==◌, ◌||◌, Bool, List, ℕ, ap, get_or}
use Rattle.std.proofs.lemmas.List.{take_all}
use Rattle.dist_cert.specs.Rising.{is_among}
use Rattle.dist_check_group.specs.MarksPrivate.{is_marked}
use Rattle.dist_check_group.proofs.MarkLemmas.{marked-more, or-none}
use Rattle.dist_check_group.proofs.marks.Marks.add_all.Goals as goal

pub loop-number-init : goal.loop-number-init
loop-number-init c = λ q. or-none (is_marked c.args.self.now q)

pub loop-number-preserved : goal.loop-number-preserved
loop-number-preserved c = λ q.
    let numbers : List ℕ = c.args.numbers.now in
    let i = c.loop-number.number-index in
    c.in_ok-add.ensures q ∙ ap (λ (b : Bool). (q == get_or numbers i 0) || b) (c.loop-number.invariant q)
    ∙ marked-more (λ n. q == n) numbers i (is_marked c.args.self.now q) c.loop-number-test.true

pub returns : goal.returns
returns c = λ q.
    c.loop-number.invariant q
    ∙ ap (λ (ns : List ℕ). is_marked c.args.self.now q || is_among ns q) (take_all c.loop-number.number-index c.args.numbers.now c.loop-number-test.false)
