use Rattle.std.proofs.Common.{◌-◌, ◌++◌, [], ◌∷◌, length}
use Rattle.std.proofs.lemmas.List.Elements.{All-drop, All-push}
use Rattle.dist_cert.specs.Form.{AreFromOne}
use Rattle.dist_cert.specs.Rising.{AreRising}
use Rattle.dist_covering.proofs.covering.Covering.add.Goals as goal

pub invariant_of-self : goal.invariant_of-self
invariant_of-self c = c.self.invariant

pub invariant_of-self-2 : goal.invariant_of-self-2
invariant_of-self-2 c =
    let before = c.self.inside.uses.items in
    let used = c.in_ok-used.used in
    let kept = c.self.invariant in
    let past = length (before ++ used ∷ []) - c.self.inside.uses.capacity in
    rw c.push_back.ensures.items (
      kept.0,
      All-drop AreRising past (before ++ used ∷ []) (All-push AreRising before used kept.1 c.in_ok-used.ensures.rising),
      All-drop AreFromOne past (before ++ used ∷ []) (All-push AreFromOne before used kept.2 c.in_ok-used.ensures.from_one),
    )
