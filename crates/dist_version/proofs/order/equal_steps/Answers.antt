use Rattle.std.proofs.Common.{◌≡◌, ◌+◌, ◌-◌, ◌++◌, take, drop, sym, ap, ap₂, ◌∙◌, arith}
use Rattle.std.proofs.Math.Seq.{take-add}
use Rattle.std.proofs.lemmas.Slice.Eq.{bytes_eq-Decides}
use Rattle.dist_version.proofs.order.equal_steps.Goals as goal

pub loop-end-preserved : goal.loop-end-preserved
loop-end-preserved c =
    let a = c.args.a.now in
    let b = c.args.b.now in
    let end = c.loop-end.end in
    let same = (bytes_eq-Decides (take (end + 16 - end) (drop end a)) (take (end + 16 - end) (drop end b))).0 (sym c.if-eq.ensures) in
    let size : end + 16 - end ≡ 16 = omega arith in
    let step : take 16 (drop end a) ≡ take 16 (drop end b) =
    ap (λ n. take n (drop end a)) (sym size) ∙ same ∙ ap (λ n. take n (drop end b)) size in
    (omega arith, take-add end 16 a ∙ ap₂ ◌++◌ c.loop-end.invariant.1 step ∙ sym (take-add end 16 b))
