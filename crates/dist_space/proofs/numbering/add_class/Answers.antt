use Rattle.std.proofs.Common.{ℕ, ◌+◌, [], ◌∷◌, List, length, subst, sym, ap}
use Rattle.std.specs.List.{flat_map}
use Rattle.std.proofs.lemmas.Result.{IfErr-weaker, IfOk-weaker}
use Rattle.dist_space.specs.Kept.{IsFull}
use Rattle.dist_space.specs.NumberingPrivate.{member_part}
use Rattle.dist_space.specs.declared.meaning.Meaning.{Meaning}
use Rattle.dist_space.specs.declared.meaning.Meaning.TheVariants.{At}
use Rattle.dist_space.proofs.ExtendLemmas.{extend-on, extend-same, full-second}
use Rattle.dist_space.proofs.numbering.add_class.Goals as goal
use Rattle.std.proofs.lemmas.Option.{get_or_from_slice_get}

pub returns-clause-ok : goal.returns-clause-ok
returns-clause-ok c =
    let part = flat_map (member_part c.args.frame.now c.args.class) c.members.result.now in
    let same = ap (λ (xs : List ℕ). flat_map (member_part c.args.frame.now c.args.class) xs)
    (sym (get_or_from_slice_get c.args.frame.now.clusters.members c.args.cluster c.members.result.now [] c.members.ensures.value)) in
    IfOk-weaker c.add_members.result _ _
    (λ x h. extend-on c.args.limit c.args.meanings.now.items (At c.args.cluster c.args.class ∷ []) c.add.new.meanings.items
    (flat_map (member_part c.args.frame.now c.args.class) _) c.add_members.new.meanings.items c.in_ok-add.ensures.ok
    (extend-same c.args.limit c.add.new.meanings.items part _ c.add_members.new.meanings.items same h)) c.add_members.ensures.ok

pub returns-clause-err : goal.returns-clause-err
returns-clause-err c =
    let part = flat_map (member_part c.args.frame.now c.args.class) c.members.result.now in
    let same = ap (λ (xs : List ℕ). flat_map (member_part c.args.frame.now c.args.class) xs)
    (sym (get_or_from_slice_get c.args.frame.now.clusters.members c.args.cluster c.members.result.now [] c.members.ensures.value)) in
    IfErr-weaker c.add_members.result _ _
    (λ e h. full-second c.args.limit c.args.meanings.now.items (At c.args.cluster c.args.class ∷ []) c.add.new.meanings.items
    (flat_map (member_part c.args.frame.now c.args.class) _) e c.in_ok-add.ensures.ok
    (subst (λ (xs : List Meaning). IsFull c.args.limit (length c.add.new.meanings.items + length xs) e) same h)) c.add_members.ensures.err
