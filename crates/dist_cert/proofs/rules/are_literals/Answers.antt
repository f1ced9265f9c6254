use Rattle.std.proofs.Common.{sym, ◌∙◌}
use Rattle.std.proofs.lemmas.Bool.{false≢true}
use Rattle.dist_cert.proofs.RuleLemmas.{tells}
use Rattle.dist_cert.proofs.rules.are_literals.Goals as goal

pub returns-then-from_one : goal.returns-then-from_one
returns-then-from_one c =
    let told = tells c.args.literals.now _ _ _ _ _ c.rise-distinct.result c.in_ok-put_variables.ensures c.deref.ensures.value
    c.sort_unstable.ensures.permutation
    c.deref-2.ensures.value c.sort_unstable.ensures.sorted c.are_from_one-from_one.ensures c.rise-distinct.ensures in
    (λ up. told.0 (c.if-from_one.true, up), λ are. (told.1 are).1)

pub returns-else-from_one : goal.returns-else-from_one
returns-else-from_one c =
    let told = tells c.args.literals.now _ _ _ _ _ c.rise-distinct.result c.in_ok-put_variables.ensures c.deref.ensures.value
    c.sort_unstable.ensures.permutation
    c.deref-2.ensures.value c.sort_unstable.ensures.sorted c.are_from_one-from_one.ensures c.rise-distinct.ensures in
    (λ low. absurd (false≢true (sym c.if-from_one.false ∙ low)), λ are. (told.1 are).0)
