use Rattle.std.proofs.Common.{sym, arith}
use Rattle.std.proofs.lemmas.List.Sums.{position_or_len_is}
use Rattle.dist_package.specs.Source.{ends_name}
use Rattle.dist_package.proofs.source.name_end.Goals as goal

pub returns-then-ends_name-clause-place : goal.returns-then-ends_name-clause-place
returns-then-ends_name-clause-place c =
    sym (position_or_len_is ends_name c.args.value.now c.loop-place.place 0 (omega (arith, c.loop-place-test.true)) c.loop-place.invariant
    (λ _. sym c.if-ends_name.ensures))

pub returns-clause-place : goal.returns-clause-place
returns-clause-place c =
    sym (position_or_len_is ends_name c.args.value.now _ 0 (omega arith) (λ k h. c.loop-place.invariant k (omega (arith, c.loop-place-test.false)))
    (λ h. absurd (omega arith)))
