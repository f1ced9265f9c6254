use Rattle.std.proofs.Common.{◌≡◌, length, sym, ap, ◌∙◌, arith}
use Rattle.std.specs.Str.Parse.{digits_value}
use Rattle.dist_version.proofs.Digits.{without_zeros-all, without_zeros-value, value_of_start, value_of_none}
use Rattle.dist_version.proofs.Steps.{no_bytes}
use Rattle.dist_version.proofs.kept.shortest_digits.Goals as goal

pub returns-then-is_empty-clause-value : goal.returns-then-is_empty-clause-value
returns-then-is_empty-clause-value c =
    let ds = c.args.digits.now in
    let none : digits_value 10 ds ≡ 0 = value_of_none ds
    (sym (ap length c.without_zeros-shortest.ensures) ∙ no_bytes c.without_zeros-shortest.result.now c.if-is_empty.ensures) in
    omega (arith, none, value_of_start ds c.min.result)

pub returns-else-is_empty-clause-digits : goal.returns-else-is_empty-clause-digits
returns-else-is_empty-clause-digits c = rw c.without_zeros-shortest.ensures (without_zeros-all c.args.digits.now c.requires)

pub returns-else-is_empty-clause-value : goal.returns-else-is_empty-clause-value
returns-else-is_empty-clause-value c = rw c.without_zeros-shortest.ensures (without_zeros-value c.args.digits.now)
