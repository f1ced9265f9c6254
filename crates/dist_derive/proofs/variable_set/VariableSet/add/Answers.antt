use Rattle.std.proofs.Common.{◌≡◌, ◌-◌, [], ◌∷◌, ◌++◌, true, length, set, sym, subst, ap, ◌∙◌, arith, is_ok}
use Rattle.std.specs.List.{Contains}
use Rattle.std.specs.Vec.{vec_capacity}
use Rattle.std.proofs.lemmas.List.{length-set}
use Rattle.std.proofs.lemmas.Bool.{cond-true}
use Rattle.dist_derive.specs.VariableSet.{VariableList}
use Rattle.dist_derive.specs.Marking.{AreMarked}
use Rattle.dist_derive.proofs.MarkedLemmas.{AreMarked-add, is_room}
use Rattle.dist_derive.proofs.variable_set.VariableSet.add.Goals as goal

pushed : (c : goal.After-set) → c.push.new.self.items ≡ c.self.inside.members.items ++ c.args.variable ∷ []
pushed c =
    let variables = ap (λ (s : VariableList). s.variables) c.self.view_is in
    let members = ap (λ (s : VariableList). s.members) c.self.view_is in
    let fresh = subst (λ xs. ¬ Contains xs c.args.variable) (sym members) c.requires.fresh in
    let room = is_room c.self.inside.marks c.self.inside.members.items (vec_capacity c.self.inside.members) c.args.variable c.self.invariant c.requires.from_one
    (omega arith) fresh in
    let ok = c.push.ensures.succeeds (omega (arith, c.self.inside.members.ok.0, c.self.invariant.room)) in
    c.push.ensures.items ∙ cond-true (is_ok c.push.result) (c.self.inside.members.items ++ c.args.variable ∷ []) c.self.inside.members.items ok

-- the set of the fields after both writes
marked : (c : goal.After-set) → AreMarked (set c.self.inside.marks (c.args.variable - 1) true) (c.self.inside.members.items ++ c.args.variable ∷ [])
    (vec_capacity c.push.new.self)
marked c =
    let variables = ap (λ (s : VariableList). s.variables) c.self.view_is in
    let members = ap (λ (s : VariableList). s.members) c.self.view_is in
    let fresh = subst (λ xs. ¬ Contains xs c.args.variable) (sym members) c.requires.fresh in
    AreMarked-add c.self.inside.marks c.self.inside.members.items (vec_capacity c.self.inside.members) (vec_capacity c.push.new.self) c.args.variable
    c.self.invariant c.push.ensures.capacity c.requires.from_one (omega arith) fresh

pub invariant_of-self : goal.invariant_of-self
invariant_of-self c =
    subst (λ marks. AreMarked marks c.push.new.self.items (vec_capacity c.push.new.self)) (sym c.set.ensures)
    (subst (λ members. AreMarked (set c.self.inside.marks (c.args.variable - 1) true) members (vec_capacity c.push.new.self)) (sym (pushed c)) (marked c))

pub returns-clause-few : goal.returns-clause-few
returns-clause-few c =
    let m = marked c in
    omega (arith, m.counted, ap length (pushed c), ap length c.set.ensures)

pub returns-clause-added : goal.returns-clause-added
returns-clause-added c =
    let variables = ap (λ (s : VariableList). s.variables) c.self.view_is in
    let members = ap (λ (s : VariableList). s.members) c.self.view_is in
    let long : length c.set.new.self ≡ c.args.self.now.variables = ap length c.set.ensures
    ∙ (length-set c.self.inside.marks (c.args.variable - 1) true ∙ variables) in
    let more : c.push.new.self.items ≡ c.args.self.now.members ++ c.args.variable ∷ [] = pushed c ∙ ap (λ xs. xs ++ c.args.variable ∷ []) members in
    cc
