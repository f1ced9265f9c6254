use Rattle.std.proofs.Common.{◌≡◌, List, [], ℕ, arith, subst, sym}
use Rattle.std.proofs.lemmas.Bool.{eqb-true}
use Rattle.std.proofs.lemmas.List.{nil_from_length}
use Rattle.dist_list.specs.ListedPrivate.{ReadSoFar}
use Rattle.dist_list.proofs.Lists.{ReadSoFar-none, ReadSoFar-marked, ReadSoFar-end, Marks-true}
use Rattle.dist_list.proofs.list.read_list.Goals as goal

pub loop-rest-init : goal.loop-rest-init
loop-rest-init c = record {
  read = ReadSoFar-none c.args.repository.now.packages c.args.bytes.now c.in_ok-members.members c.len.result c.in_ok-members.ensures c.len.ensures.value;
  counted = omega arith;
}

pub overflow_add-number : goal.overflow_add-number
overflow_add-number c = let a = c.split_line.ensures.shorter in let b = c.loop-rest.invariant.counted in omega (arith, a, b)

pub mark_line-requires : goal.mark_line-requires
mark_line-requires c = c.loop-rest.invariant.read.named.one_each

pub loop-rest-preserved : goal.loop-rest-preserved
loop-rest-preserved c =
    let a = c.split_line.ensures.shorter in
    let b = c.loop-rest.invariant.counted in
    record {
      read = ReadSoFar-marked _ _ _ _ _ _ c.loop-rest.members _ c.loop-rest.invariant.read c.split_line.ensures.lines
          (Marks-true c.args.repository.now.packages c.split_line.result.0.now c.loop-rest.members c.mark_line.new.members c.in_ok-mark_line.field-0
          c.in_ok-mark_line.ensures c.if-not-branch.false);
      counted = omega (arith, a, b);
    }

pub returns : goal.returns
returns c =
    let end : c.loop-rest.rest.now ≡ [] = nil_from_length c.loop-rest.rest.now (eqb-true _ _ (sym c.loop-rest-test.ensures)) in
    ReadSoFar-end c.args.repository.now.packages c.args.bytes.now c.loop-rest.number c.loop-rest.members
    (subst (λ (rest : List ℕ). ReadSoFar c.args.repository.now.packages c.args.bytes.now rest c.loop-rest.number c.loop-rest.members) end
    c.loop-rest.invariant.read)
