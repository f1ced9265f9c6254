use Rattle.std.proofs.Common.{◌≡◌, ◌∙◌, List, ℕ, Option, Some, ap, subst, sym}
use Rattle.dist_cert.specs.Rising.{is_among}
use Rattle.dist_check_group.specs.Layout.{used}
use Rattle.dist_check_group.specs.Common.{narrowed}
use Rattle.dist_check_group.specs.Cover.{CoverView, Gathers}
use Rattle.dist_check_group.proofs.CoverLemmas.{gathers-none, gathers-one, narrowed-same}
use Rattle.dist_check_group.proofs.cover.Cover.add.Goals as goal

pub returns-then-not-has : goal.returns-then-not-has
returns-then-not-has c = gathers-none c.args.layout.now c.args.variable c.args.members.now c.args.self.now (sym c.has.ensures ∙ c.if-not-has.true)

pub returns : goal.returns
returns c =
    let layout = c.args.layout.now in
    let members : List ℕ = c.args.members.now in
    let inside : CoverView = record { used = c.self.inside.used; held = c.self.inside.held.items } in
    let held : List ℕ = c.thin-limit.new.numbers.items in
    let kept : List ℕ = narrowed inside.used c.in_ok-used.used.items in
    let is : c.narrow_in.new.common ≡ Some kept = c.in_ok-narrow_in.ensures.value
    ∙ ap (λ (xs : List ℕ). Some (narrowed inside.used xs)) c.deref.ensures.value in
    let Right : CoverView → Option (List ℕ) → Type 0 = λ old common. Gathers layout c.args.variable members old (record { used = common; held = held }) in
    subst (λ (old : CoverView). Right old c.narrow_in.new.common) c.self.view_is
    (subst (Right inside) (sym is)
    (gathers-one layout c.args.variable members inside kept held (sym c.has.ensures ∙ c.if-not-has.false)
    (narrowed-same inside.used c.in_ok-used.used.items (used layout members) c.in_ok-used.ensures.value)
    (λ v. c.thin-limit.ensures v ∙ ap (λ (xs : List ℕ). is_among xs v) c.in_ok-add_held.ensures)))
