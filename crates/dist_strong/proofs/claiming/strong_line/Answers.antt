use Rattle.std.proofs.Common.{◌<◌, ◌≤◌, ◌∙◌, List, ℕ, length, subst, sym}
use Rattle.dist_cert.specs.Form.{AreFromOne}
use Rattle.dist_sweep.specs.Window.{numbers_of}
use Rattle.dist_sweep.specs.WindowLaws.{numbers-low, some-numbers}
use Rattle.dist_line_write.specs.TrueOnesLaws.{true-low}
use Rattle.dist_strong.proofs.claiming.strong_line.Goals as goal

pub from_zero-requires : goal.from_zero-requires
from_zero-requires c = subst AreFromOne (sym (c.deref.ensures.value ∙ c.in_ok-on.ensures)) (true-low c.args.group.now.refuted)

pub returns-clause-form : goal.returns-clause-form
returns-clause-form c =
    let named = sym (c.from_vec.ensures ∙ c.in_ok-named.ensures.numbers) in (
      subst (λ (p : ℕ). 1 ≤ p) (sym c.claimed-2.ensures) c.requires.from_one,
      subst (λ (ns : List ℕ). 0 < length ns) named (subst (λ (p : ℕ). 0 < length (numbers_of c.args.window.now p)) (sym c.claimed.ensures)
          (some-numbers c.args.window.now c.args.group.now.claimed c.requires.some)),
      subst AreFromOne named (numbers-low c.args.window.now c.claimed.result),
      subst AreFromOne (sym (c.from_vec-2.ensures ∙ c.in_ok-on.ensures)) (true-low c.args.group.now.refuted),
      subst AreFromOne (sym c.from_vec-3.ensures) (λ k d within. (c.in_ok-left.ensures.each k d within).from_one),
    )
