use Rattle.std.proofs.Common.{◌<◌, ◌≤◌, ◌++◌, [], ◌∷◌, inl, inr, Bool, List, ℕ, ap, arith, sym, subst, ◌∙◌}
use Rattle.std.specs.List.{All, Contains}
use Rattle.std.proofs.lemmas.Bool.{cases_eq, cases_lt, true≢false}
use Rattle.std.proofs.lemmas.List.Elements.{All-push}
use Rattle.dist_clause.specs.Formula.{value_of}
use Rattle.dist_strong.specs.Group.{AreLeftUpto, GroupView, IsLeft}
use Rattle.dist_sweep.specs.Window.{WindowView}
use Rattle.dist_line_write.specs.LineLaws.{contains-last, contains-push, rising-push}
use Rattle.dist_strong.proofs.group.Group.left.Goals as goal

abbrev NoneBetween : WindowView → GroupView → ℕ → ℕ → Type 0
NoneBetween w group n o = (q : ℕ) → n < q → q < o → ¬ IsLeft w group q

upto-more : (left : List ℕ) (n o : ℕ) → n ≤ o → All (λ q. q ≤ n) left → All (λ q. q ≤ o) left
upto-more left n o more upto k d within = let least = upto k d within in omega (arith, least, more)

left-more : (w : WindowView) (group : GroupView) (n o : ℕ) (left : List ℕ) → n < o → NoneBetween w group n o → AreLeftUpto w group n left → IsLeft w group o
    → AreLeftUpto w group o (left ++ o ∷ [])
left-more w group n o left above none are one = record {
  rising = rising-push left n o are.rising are.upto above;
  upto = All-push (λ q. q ≤ o) left o (upto-more left n o (omega (arith, above)) are.upto) (omega arith);
  each = All-push (IsLeft w group) left o are.each one;
  all = λ q within is. elim (cases_lt n q) [
    | inl more ↦ elim (cases_eq o q) [
      | inl same ↦ subst (λ (k : ℕ). Contains (left ++ o ∷ []) k) same (contains-last left o)
      | inr other ↦ absurd (none q more (omega (arith, within, other)) is)
    ]
    | inr below ↦ contains-push left q o (are.all q below is)
  ];
}

pub others-preserved-in_ok-push-in-Some : goal.others-preserved-in_ok-push-in-Some
others-preserved-in_ok-push-in-Some c =
    let w : WindowView = c.args.window.now in
    let group : GroupView = c.args.self.now in
    let last = c.others.last in
    let other = c.in-Some.other in
    let some = c.in-Some.ensures.some in
    let same = ap (λ (g : GroupView). g.undecided) c.self.view_is in
    let size = c.is_left.ensures.0 c.if-is_left.true in
    record {
      within = size.upto;
      are = subst (λ (ms : List ℕ). AreLeftUpto w group other ms) (sym c.in_ok-push-in-Some.ensures.items)
          (left-more w group last other c.others.left.items (omega (arith, some.1))
          (λ q above below is. true≢false (sym is.is_undecided ∙ ap (λ (xs : List Bool). value_of xs q) (sym same)
          ∙ some.4 q is.from_one (omega (arith, above)) below)) c.others.invariant.are size);
    }
