use Rattle.std.proofs.Common.{◌≡◌, ◌+◌, ◌-◌, ◌/◌, ℕ, List, Some, refl, sym, ap, subst, ◌∙◌, arith, slice_get}
use Rattle.std.proofs.lemmas.Bool.{false≢true}
use Rattle.std.proofs.lemmas.Option.{same_Some, slice_get_within}
use Rattle.dist_space.proofs.NewNames.{IsBetween, between-all, between-earlier, between-later, place-is}
use Rattle.dist_space.proofs.place.place_of.Goals.{else-start-len-via-then-start-len+else-eq, else-start-len-via-else-start-len}
use Rattle.dist_space.proofs.place.place_of.Goals as goal

pub loop-start-init : goal.loop-start-init
loop-start-init c = (
  omega arith,
  omega (arith, c.len-end.ensures),
  between-all c.args.names.now c.args.name.now c.len-end.result (omega (arith, c.len-end.ensures)),
)

pub loop-start-preserved-then-name_stands_before : goal.loop-start-preserved-then-name_stands_before
loop-start-preserved-then-name_stands_before c =
    let start = c.loop-start.start in
    let end = c.loop-start.end in
    let middle = start + (end - start) / 2 in (
      omega (arith, c.loop-start-test.true),
      c.loop-start.invariant.1,
      between-later c.args.names.now c.args.name.now c.requires.rising start middle end c.loop-start.invariant.2
          (omega (arith, c.loop-start-test.true, c.loop-start.invariant.1)) (c.if-name_stands_before.ensures.0 refl),
    )

pub loop-start-preserved : goal.loop-start-preserved
loop-start-preserved c =
    let start = c.loop-start.start in
    let end = c.loop-start.end in
    let middle = start + (end - start) / 2 in (
      omega arith,
      omega (arith, c.loop-start-test.true, c.loop-start.invariant.1),
      between-earlier c.args.names.now c.args.name.now c.requires.rising start middle end c.loop-start.invariant.2
          (omega (arith, c.loop-start-test.true, c.loop-start.invariant.1))
          (λ less. false≢true (c.if-name_stands_before.ensures.1 less)),
    )

pub returns-then-eq : goal.returns-then-eq
returns-then-eq c = λ x.
    let start = c.loop-start.start in
    let same : c.loop-start.end ≡ start = omega (arith, c.loop-start-test.false, c.loop-start.invariant.0) in
    let between = subst (IsBetween c.args.names.now c.args.name.now start) same c.loop-start.invariant.2 in
    let here : slice_get c.args.names.now start ≡ Some c.args.name.now = c.get.ensures ∙ ap (λ (n : List ℕ). Some n) (c.if-eq.ensures.same.0 refl) in (
      (λ is. ap (λ (i : ℕ). slice_get c.args.names.now i) (sym (same_Some start x is)) ∙ here),
      λ there. ap (λ (i : ℕ). Some i) (sym (place-is c.args.names.now c.args.name.now c.requires.rising start x between there)),
    )

pub returns-else-start-len : goal.returns-else-start-len
returns-else-start-len c = λ x.
    let start = c.loop-start.start in
    let same : c.loop-start.end ≡ start = omega (arith, c.loop-start-test.false, c.loop-start.invariant.0) in
    let between = subst (IsBetween c.args.names.now c.args.name.now start) same c.loop-start.invariant.2 in (
      (λ is. cc),
      λ there.
          let at : x ≡ start = place-is c.args.names.now c.args.name.now c.requires.rising start x between there in
          let here : slice_get c.args.names.now start ≡ Some c.args.name.now = ap (λ (i : ℕ). slice_get c.args.names.now i) (sym at) ∙ there in
          absurd (elim c.else-start-len.branch [
            | else-start-len-via-then-start-len+else-eq w ↦ false≢true
                (w.if-eq.ensures.same.1 (same_Some w.get.result.now c.args.name.now (sym w.get.ensures ∙ here)))
            | else-start-len-via-else-start-len w ↦ let short = slice_get_within c.args.names.now start c.args.name.now here in
                omega (arith, short, w.if-start-len.false, c.len.ensures)
          ]),
    )
