use Rattle.std.proofs.Common.{◌≡◌, ℕ, suc, ◌+◌, ◌*◌, List, arith, ap, refl, sym, ◌∙◌}
use Rattle.dist_repo.specs.Prefix.{digits}
use Rattle.dist_repo.proofs.PrefixLemmas.{bytes-fit, digits-fit, digits-more}
use Rattle.dist_repo.proofs.prefix.prefix_of.Goals as goal

pub loop-place-init : goal.loop-place-init
unfolding digits
loop-place-init c = refl

pub overflow_mul-prefix : goal.overflow_mul-prefix
overflow_mul-prefix c =
    let fit = digits-fit c.loop-place.place c.args.name.now (bytes-fit c.args.name.now c.type_inv.name) c.loop-place-test.true in
    omega (arith, fit, c.loop-place.invariant)

pub overflow_add-prefix : goal.overflow_add-prefix
overflow_add-prefix c =
    let fit = digits-fit c.loop-place.place c.args.name.now (bytes-fit c.args.name.now c.type_inv.name) c.loop-place-test.true in
    omega (arith, fit, c.loop-place.invariant, c.from.ensures, c.byte_at.ensures, c.type_inv.name c.loop-place.place)

pub loop-place-preserved : goal.loop-place-preserved
loop-place-preserved c =
    let name : List ℕ = c.args.name.now in
    let place : ℕ = c.loop-place.place in
    let next : suc place ≡ place + 1 = omega arith in
    ap (λ k. k * 256 + c.from.result) c.loop-place.invariant ∙ ap (λ k. digits place name * 256 + k) (c.from.ensures ∙ c.byte_at.ensures)
    ∙ sym (digits-more place name)
    ∙ ap (λ k. digits k name) next

pub returns : goal.returns
returns c =
    let all : c.loop-place.place ≡ 16 = omega arith in
    record {
      number = c.loop-place.invariant ∙ ap (λ k. digits k c.args.name.now) all;
      bytes = bytes-fit c.args.name.now c.type_inv.name;
    }
