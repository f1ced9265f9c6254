use Rattle.std.proofs.Common.{◌+◌, ◌≤◌, false, length, get_or, drop, replicate, refl, sym, subst, ap, ◌∙◌, arith}
use Rattle.std.proofs.lemmas.List.{drop_more, drop_all}
use Rattle.std.proofs.lemmas.List.Elements.{All-get_or}
use Rattle.dist_derive.proofs.MarkedLemmas.{AreLeft, AreLeft-more, all_false}
use Rattle.dist_derive.proofs.variable_set.unmark.Goals as goal

pub set-requires-clause-from_one : goal.set-requires-clause-from_one
set-requires-clause-from_one c =
    (All-get_or (λ v. (1 ≤ v) × (v ≤ length c.args.marks.now)) c.args.members.now c.loop-member.member-index 0 c.loop-member-test.true c.requires.in_range).0

pub set-requires-clause-in_range : goal.set-requires-clause-in_range
set-requires-clause-in_range c =
    let here = All-get_or (λ v. (1 ≤ v) × (v ≤ length c.args.marks.now)) c.args.members.now c.loop-member.member-index 0 c.loop-member-test.true
    c.requires.in_range in
    omega (arith, here.1, c.loop-member.invariant.long)

pub loop-member-init : goal.loop-member-init
loop-member-init c = record { long = refl; each = c.requires.all }

pub loop-member-preserved : goal.loop-member-preserved
loop-member-preserved c =
    let i = c.loop-member.member-index in
    let member = get_or c.args.members.now i 0 in
    let here = All-get_or (λ v. (1 ≤ v) × (v ≤ length c.args.marks.now)) c.args.members.now i 0 c.loop-member-test.true c.requires.in_range in
    let left = subst (λ xs. AreLeft c.loop-member.marks xs (length c.args.marks.now)) (drop_more c.args.members.now i 0 c.loop-member-test.true)
    c.loop-member.invariant in
    subst (λ marks. AreLeft marks (drop (i + 1) c.args.members.now) (length c.args.marks.now)) (sym c.set.ensures)
    (AreLeft-more c.loop-member.marks member (drop (i + 1) c.args.members.now) (length c.args.marks.now) left here.0 here.1)

pub returns : goal.returns
returns c =
    let none = drop_all c.loop-member.member-index c.args.members.now c.loop-member-test.false in
    all_false c.loop-member.marks (λ v from to e.
    let left = subst (λ xs. AreLeft c.loop-member.marks xs (length c.args.marks.now)) none c.loop-member.invariant in
    absurd (omega (arith, (left.each v from to e).1)))
    ∙ ap (λ n. replicate n false) c.loop-member.invariant.long
