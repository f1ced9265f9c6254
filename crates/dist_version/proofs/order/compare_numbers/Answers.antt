use Rattle.std.proofs.Common.{◌≡◌, ℕ, List, Bool, nat_lt, sym, ap, ◌∙◌}
use Rattle.std.specs.Char.{is_ascii_digit}
use Rattle.std.specs.List.{prefix_len}
use Rattle.std.proofs.lemmas.List.{take_rest}
use Rattle.dist_version.proofs.InStep.{numbers_in_step}
use Rattle.dist_version.proofs.order.compare_numbers.Goals as goal
use Rattle.dist_version.proofs.order.compare_numbers.Goals.{in_default-via-then-begins_with_digit+then-begins_with_digit-2}
use Rattle.dist_version.proofs.order.compare_numbers.Goals.{in_default-via-else-begins_with_digit+else-this}

-- a digit stands first
abbrev begins : List ℕ → Bool
begins part = nat_lt 0 (prefix_len is_ascii_digit part)

pub returns-in-true-false : goal.returns-in-true-false
returns-in-true-false c =
    let x = c.without_zeros-a.result.now in
    let y = c.without_zeros-b.result.now in
    let end = c.common_digits_len-end.result in
    let p = numbers_in_step c.args.a.now c.args.b.now x y end c.without_zeros-a.ensures c.without_zeros-b.ensures c.common_digits_len-end.ensures.value in
    p.0.greater (c.in-true-false.ensures ∙ ap begins (take_rest x end)) (c.in-true-false.ensures' ∙ ap begins (take_rest y end)) ∙ p.1

pub returns-in-false-true : goal.returns-in-false-true
returns-in-false-true c =
    let x = c.without_zeros-a.result.now in
    let y = c.without_zeros-b.result.now in
    let end = c.common_digits_len-end.result in
    let p = numbers_in_step c.args.a.now c.args.b.now x y end c.without_zeros-a.ensures c.without_zeros-b.ensures c.common_digits_len-end.ensures.value in
    p.0.less (c.in-false-true.ensures ∙ ap begins (take_rest x end)) (c.in-false-true.ensures' ∙ ap begins (take_rest y end)) ∙ p.1

pub returns-in_default : goal.returns-in_default
returns-in_default c =
    let x = c.without_zeros-a.result.now in
    let y = c.without_zeros-b.result.now in
    let end = c.common_digits_len-end.result in
    let p = numbers_in_step c.args.a.now c.args.b.now x y end c.without_zeros-a.ensures c.without_zeros-b.ensures c.common_digits_len-end.ensures.value in
    let same : c.begins_with_digit.result ≡ c.begins_with_digit-2.result = elim c.in_default.branch [
      | in_default-via-then-begins_with_digit+then-begins_with_digit-2 w ↦ cc
      | in_default-via-else-begins_with_digit+else-this w ↦ cc
    ] in
    c.cmp.ensures ∙ p.0.same (ap begins (sym (take_rest x end)) ∙ sym c.begins_with_digit.ensures ∙ same ∙ c.begins_with_digit-2.ensures
    ∙ ap begins (take_rest y end)) ∙ p.1
