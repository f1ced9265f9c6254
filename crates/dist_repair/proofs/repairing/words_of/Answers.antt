use Rattle.std.proofs.Common.{ℕ, ◌-◌, ◌∙◌, ap, arith}
use Rattle.dist_space.specs.Space.{variable_of}
use Rattle.dist_space.specs.declared.meaning.Meaning.TheVariants.{Present}
use Rattle.dist_repair.proofs.InputsLemmas.{most-within, words-right}
use Rattle.dist_repair.proofs.repairing.words_of.Goals as goal

pub overflow_sub-result : goal.overflow_sub-result
overflow_sub-result c =
    let most = c.number_at-most.ensures in
    let last = c.number_at-2.ensures in
    let within = most-within c.args.space.now c.keeps_invariant.ensures.space c.args.numbers.now c.requires in
    omega (arith, most, last, within)

pub returns-clause-words : goal.returns-clause-words
returns-clause-words c =
    let most = c.number_at-most.ensures in
    let last = c.number_at-2.ensures in
    words-right c.args.space.now c.keeps_invariant.ensures.space c.args.numbers.now c.requires _
    (c.variable.ensures.value ∙ ap (λ (n : ℕ). variable_of c.args.space.now (Present (n - 1))) c.number_at.ensures) (omega (arith, most, last)) most
