use Rattle.std.proofs.Common.{◌≡◌, ◌∷◌, ◌++◌, [], ℕ, List, sym, subst, inl, inr, arith}
use Rattle.std.specs.Prelude.{Contains}
use Rattle.std.proofs.lemmas.Bool.{cases_lt}
use Rattle.std.proofs.lemmas.List.Elements.{Contains-append_left, Contains-push, Contains-push_cases}
use Rattle.dist_space.proofs.entry_order.write_places.Goals as goal

pub loop-place-preserved : goal.loop-place-preserved
loop-place-preserved c = λ j.
    let place = c.loop-place.place in
    let before = c.loop-place.places.items in
    let In : List ℕ → Type 0 = λ xs. Contains xs j in (
      (λ there. elim (Contains-push_cases before place j (subst In c.in_ok-push.ensures.items there)) [
        | inl first ↦ let less = (c.loop-place.invariant j).0 first in omega (arith, less)
        | inr same ↦ omega (arith, same)
      ]),
      λ less. subst In (sym c.in_ok-push.ensures.items) (elim (cases_lt j place) [
        | inl first ↦ Contains-append_left before (place ∷ []) j ((c.loop-place.invariant j).1 first)
        | inr last ↦ let same : place ≡ j = omega (arith, less, last) in
            subst (λ (i : ℕ). Contains (before ++ place ∷ []) i) same (Contains-push before place)
      ]),
    )

pub returns : goal.returns
returns c = λ j. (
  (λ there. let less = (c.loop-place.invariant j).0 there in omega (arith, less, c.loop-place-test.false, c.len-place-end.ensures)),
  λ less. (c.loop-place.invariant j).1 (omega (arith, less, c.loop-place-test.false, c.len-place-end.ensures)),
)
