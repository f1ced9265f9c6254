use Rattle.std.proofs.Common.{◌≡◌, ◌∙◌, [], arith, inl, inr, refl, subst, sym}
use Rattle.std.proofs.lemmas.Bool.{eqb-true}
use Rattle.std.proofs.lemmas.List.{nil_from_length}
use Rattle.dist_control.specs.Lines.{lines}
use Rattle.dist_space.specs.Space.{IsSpace, SpaceView}
use Rattle.dist_archive.specs.Archive.{ArchiveView}
use Rattle.dist_journal.specs.Faults.{IsEntryError}
use Rattle.dist_journal.specs.Follow.{IsLeft, IsStopped}
use Rattle.dist_journal.specs.FollowPrivate.{TakesStep}
use Rattle.dist_journal.specs.Journal.{Entry}
use Rattle.dist_journal.proofs.FollowLemmas.{none-left, stray-stop, to-end, to-left, to-more, to-start, to-stop}
use Rattle.dist_journal.proofs.TakeLemmas.{never-refused}
use Rattle.dist_journal.proofs.following.follow.Goals as goal

pub returns-in-Some-clause-err : goal.returns-in-Some-clause-err
returns-in-Some-clause-err c = λ ample.
    stray-stop c.args.archive.now.space c.args.stanzas c.args.journal.now c.args.archive.now.packages c.split_block-lines.result.0.now
    c.split_block-lines.result.1.now c.in-Some.line c.split_block-lines.ensures.cut c.in-Some.ensures

pub returns-in-Some-clause-left : goal.returns-in-Some-clause-left
returns-in-Some-clause-left c =
    let v = c.args.archive.now in
    none-left v.space c.args.stanzas c.args.journal.now v.packages
    (c.lists_of_steps_grow.ensures.none v.space v.packages c.keeps_invariant-2.ensures.one_of_a_name)

pub loop-rest-init : goal.loop-rest-init
loop-rest-init c =
    let v = c.args.archive.now in
    let short = c.split_block-lines.ensures.shorter in
    record {
      space = refl;
      far = to-start v.space c.args.stanzas c.args.journal.now v.packages c.split_block-lines.result.0.now c.split_block-lines.result.1.now
          c.split_block-lines.result.2 (c.lists_of_steps_grow.ensures.none v.space v.packages c.keeps_invariant-2.ensures.one_of_a_name)
          c.in_default.ensures c.split_block-lines.ensures.cut c.split_block-lines.ensures.count;
      at_step = c.split_block-lines.ensures.cut.at_step;
      numbered = omega (arith, short);
      counted = omega (arith, short);
    }

pub follow_section-requires : goal.follow_section-requires
follow_section-requires c =
    let a = c.loop-rest.invariant.numbered in
    let b = c.split_line.ensures.shorter in
    let d = c.split_block-lines-in-loop-rest.ensures.within in
    let e = c.requires in
    omega (arith, a, b, d, e)

pub returns-in-Err-clause-err : goal.returns-in-Err-clause-err
returns-in-Err-clause-err c = λ ample.
    let v = c.args.archive.now in
    let inv = c.loop-rest.invariant in
    let middle = c.loop-rest.archive.packages in
    let entry : Entry = record { number = c.loop-rest.number; line = c.split_line.result.0.now; block = lines c.split_block-lines-in-loop-rest.result.0.now } in
    let error = c.in-Err.error in
    elim c.in-Err.ensures.answers [
      | inl none ↦ absurd (ample none)
      | inr is ↦ subst (λ (x : ArchiveView). IsStopped v.space c.args.stanzas c.args.journal.now v.packages x.packages error)
          (sym c.in-Err.ensures.err)
          (to-stop v.space c.args.stanzas c.args.journal.now v.packages middle c.loop-rest.rest.now c.loop-rest.number c.loop-rest.count inv.far
          c.split_line.result.0.now c.split_line.result.1.now c.split_block-lines-in-loop-rest.result.0.now
          c.split_block-lines-in-loop-rest.result.1.now c.split_block-lines-in-loop-rest.result.2
          inv.at_step c.split_line.ensures.lines c.split_block-lines-in-loop-rest.ensures.cut c.split_block-lines-in-loop-rest.ensures.count error
          (subst (λ (x : SpaceView). IsEntryError x c.args.stanzas middle entry error) inv.space is))
    ]

pub returns-in-Err-clause-left : goal.returns-in-Err-clause-left
returns-in-Err-clause-left c =
    let v = c.args.archive.now in
    subst (λ (x : ArchiveView). IsLeft v.space c.args.stanzas c.args.journal.now v.packages x.packages) (sym c.in-Err.ensures.err)
    (to-left v.space c.args.stanzas c.args.journal.now v.packages c.loop-rest.archive.packages c.loop-rest.rest.now c.loop-rest.number
    c.loop-rest.count c.loop-rest.invariant.far)

pub returns-in-Err-clause-refused : goal.returns-in-Err-clause-refused
returns-in-Err-clause-refused c = λ line same.
    let entry : Entry = record { number = c.loop-rest.number; line = c.split_line.result.0.now; block = lines c.split_block-lines-in-loop-rest.result.0.now } in
    never-refused c.loop-rest.archive.space c.args.stanzas c.loop-rest.archive.packages entry c.in-Err.error
    c.in-Err.ensures.answers line cc

pub loop-rest-preserved : goal.loop-rest-preserved
loop-rest-preserved c =
    let v = c.args.archive.now in
    let inv = c.loop-rest.invariant in
    let middle = c.loop-rest.archive.packages in
    let newer = c.follow_section.new.archive.packages in
    let space = subst (λ (x : SpaceView). IsSpace x) c.space.ensures c.keeps_invariant.ensures.space in
    let entry : Entry = record { number = c.loop-rest.number; line = c.split_line.result.0.now; block = lines c.split_block-lines-in-loop-rest.result.0.now } in
    let a = inv.numbered in
    let b = c.split_line.ensures.shorter in
    let d = c.split_block-lines-in-loop-rest.ensures.shorter in
    let e = inv.counted in
    record {
      space = c.in-Ok.ensures.space ∙ inv.space;
      far = to-more v.space c.args.stanzas c.args.journal.now v.packages middle c.loop-rest.rest.now c.loop-rest.number c.loop-rest.count inv.far
          c.split_line.result.0.now c.split_line.result.1.now c.split_block-lines-in-loop-rest.result.0.now
          c.split_block-lines-in-loop-rest.result.1.now c.split_block-lines-in-loop-rest.result.2
          inv.at_step c.split_line.ensures.lines c.split_block-lines-in-loop-rest.ensures.cut c.split_block-lines-in-loop-rest.ensures.count newer
          (λ steps step old mid new made unrefused makes. c.lists_of_steps_grow.ensures.more v.space steps step old mid new space made unrefused makes)
          (subst (λ (x : SpaceView). TakesStep x c.args.stanzas entry middle newer) inv.space c.in-Ok.ensures.answers);
      at_step = c.split_block-lines-in-loop-rest.ensures.cut.at_step;
      numbered = omega (arith, a, b, d);
      counted = omega (arith, e, b, d);
    }

pub returns-clause-ok : goal.returns-clause-ok
returns-clause-ok c =
    let v = c.args.archive.now in
    let end : c.loop-rest.rest.now ≡ [] = nil_from_length c.loop-rest.rest.now (eqb-true _ _ (sym c.loop-rest-test.ensures)) in
    to-end v.space c.args.stanzas c.args.journal.now v.packages c.loop-rest.archive.packages c.loop-rest.rest.now c.loop-rest.number
    c.loop-rest.count c.loop-rest.invariant.far end
