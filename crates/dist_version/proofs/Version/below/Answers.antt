use Rattle.std.proofs.Common.{◌≡◌, ℕ, ◌+◌, List, ◌++◌, length, sym, ap, ◌∙◌, subst}
use Rattle.std.specs.Prelude.{replicate}
use Rattle.std.proofs.lemmas.List.{length-replicate}
use Rattle.std.proofs.lemmas.Result.{IfOk-weaker}
use Rattle.dist_base.specs.Ascii.{tilde}
use Rattle.dist_version.specs.Between.{below_text}
use Rattle.dist_version.specs.Order.{IsBelow}
use Rattle.dist_version.proofs.Density.{below_keeps, below_is_below}
use Rattle.dist_version.proofs.Version.below.Goals as goal

pub keep-requires : goal.keep-requires
keep-requires c =
    let end = length c.text.result.now + 1 in
    let count : end ≡ length c.args.self.now + 1 = ap (λ (s : List ℕ). length s + 1) c.text.ensures.value in
    let is : c.push_tildes.new.text.items ≡ below_text c.args.self.now = c.in_ok-push_tildes.ensures
    ∙ ap (λ (s : List ℕ). s ++ replicate end tilde) c.new-text.ensures.items ∙ ap (λ n. replicate n tilde) count in
    below_keeps c.args.self.now c.push_tildes.new.text.items end is (sym (ap length is ∙ length-replicate (length c.args.self.now + 1) tilde ∙ sym count))

pub returns-clause-below : goal.returns-clause-below
returns-clause-below c =
    let end = length c.text.result.now + 1 in
    let count : end ≡ length c.args.self.now + 1 = ap (λ (s : List ℕ). length s + 1) c.text.ensures.value in
    let is : c.push_tildes.new.text.items ≡ below_text c.args.self.now = c.in_ok-push_tildes.ensures
    ∙ ap (λ (s : List ℕ). s ++ replicate end tilde) c.new-text.ensures.items ∙ ap (λ n. replicate n tilde) count in
    IfOk-weaker c.keep.result _ _
    (λ below e. subst (λ (text : List ℕ). IsBelow text c.args.self.now) (sym (e ∙ is)) (below_is_below c.args.self.now)) c.keep.ensures
