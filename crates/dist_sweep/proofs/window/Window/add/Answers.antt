use Rattle.std.proofs.Common.{◌≡◌, ◌∙◌, ◌+◌, ◌-◌, ◌≤◌, ◌∷◌, ◌++◌, [], Bool, List, ap, arith, length, subst, sym}
use Rattle.std.specs.List.{All}
use Rattle.std.proofs.lemmas.List.{length-drop, length_push}
use Rattle.std.proofs.lemmas.List.Elements.{All-drop, All-push}
use Rattle.circular_buffer.specs.Buffer.{Buffer}
use Rattle.dist_cert.specs.declared.TheConstants.{REACH}
use Rattle.dist_sweep.specs.Window.{WindowView}
use Rattle.dist_sweep.proofs.window.Window.add.Goals as goal

pub invariant_of-self : goal.invariant_of-self
invariant_of-self c =
    let old = c.self.inside.kept in
    let more : List (List Bool) = old.items ++ c.args.values ∷ [] in
    let Sized : List Bool → Type 0 = λ v. length v ≡ c.self.inside.variables in
    let size : Sized c.args.values = c.requires ∙ sym (ap (λ (v : WindowView). v.variables) c.self.view_is) in
    subst (λ (b : Buffer (List Bool)). (b.capacity ≡ REACH) × (length b.items ≤ c.self.inside.count + 1) × All Sized b.items)
    (sym c.push_back.ensures.items) (
      c.self.invariant.0,
      omega (arith, length-drop (length more - old.capacity) more, length_push old.items c.args.values, c.self.invariant.1),
      All-drop Sized (length more - old.capacity) more (All-push Sized old.items c.args.values c.self.invariant.2 size),
    )
