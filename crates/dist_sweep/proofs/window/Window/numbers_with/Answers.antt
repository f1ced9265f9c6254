use Rattle.std.proofs.Common.{◌≡◌, ◌+◌, ◌-◌, ◌∙◌, ◌++◌, Bool, [], ◌∷◌, ap, arith, sym, append-nil, filter, length, refl, true, false, List, ℕ, slice_index_or}
use Rattle.std.specs.List.{range_with_len}
use Rattle.dist_clause.specs.Formula.{value_of}
use Rattle.dist_sweep.specs.Window.{WindowView, kept_at}
use Rattle.dist_line_write.specs.RangeLaws.{filter-from}
use Rattle.dist_sweep.proofs.window.Window.numbers_with.Goals as goal
use Rattle.dist_sweep.proofs.window.Window.numbers_with.Goals.{then-has_at+in_ok-push, else-has_at}

-- the installation at a place, by its number
at-place : (w : WindowView) (place number p : ℕ) (b : Bool) → (w.count - length w.kept + 1) + place ≡ number → value_of (slice_index_or w.kept place []) p ≡ b
    → value_of (kept_at w number) p ≡ b
at-place w place number p b is has =
    let same : number - (w.count - length w.kept + 1) ≡ place = omega (arith, is) in
    ap (λ (k : ℕ). value_of (slice_index_or w.kept k []) p) same ∙ has

pub loop-place-preserved : goal.loop-place-preserved
loop-place-preserved c =
    let w : WindowView = c.args.self.now in
    let place = c.loop-place.place in
    let first : ℕ = w.count - length w.kept + 1 in
    let counts = ap (λ (v : WindowView). v.count) c.self.view_is in
    let sizes = ap (λ (v : WindowView). length v.kept) c.self.view_is in
    let number : (c.self.inside.count - c.len.result + place) + 1 ≡ first + place = omega (arith, counts, sizes, c.len.ensures.len) in
    elim c.if-has_at.branch [
      | then-has_at+in_ok-push x ↦
          let e = filter-from (λ n. value_of (kept_at w n) c.args.variable) first place (first + place) true refl
          (at-place w place (first + place) c.args.variable true refl (sym c.has_at.ensures ∙ x.if-has_at.true)) in
          rw x.numbers-is (x.in_ok-push.ensures.items ∙ ap (λ (ns : List ℕ). ns ++ ((c.self.inside.count - c.len.result + place) + 1) ∷ [])
          c.loop-place.invariant
          ∙ ap (λ (n : ℕ). filter (λ m. value_of (kept_at w m) c.args.variable) (range_with_len first place) ++ n ∷ []) number ∙ sym e)
      | else-has_at x ↦
          let e = filter-from (λ n. value_of (kept_at w n) c.args.variable) first place (first + place) false refl
          (at-place w place (first + place) c.args.variable false refl (sym c.has_at.ensures ∙ x.if-has_at.false)) in
          rw x.numbers-is (c.loop-place.invariant ∙ sym (e ∙ append-nil (filter (λ n. value_of (kept_at w n) c.args.variable) (range_with_len first place))))
    ]
