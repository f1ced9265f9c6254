use Rattle.std.proofs.Common.{◌≡◌, ℕ, ◌≤◌, false, get_or, length, take, ap, subst, ◌∙◌, arith}
use Rattle.dist_clause.specs.Formula.{literal}
use Rattle.dist_clause.specs.ClauseList.{clause_at}
use Rattle.dist_derive.specs.OccurrencesPrivate.{code_of, Lists}
use Rattle.dist_derive.specs.ConePrivate.{WaitsIn}
use Rattle.dist_derive.proofs.ReachLemmas.{Reaches-none, members_more, members_all}
use Rattle.dist_derive.proofs.log.Log.take_members.Goals as goal

pub loop-done-init : goal.loop-done-init
loop-done-init c = record { reaches = Reaches-none (take c.args.inputs c.args.self.now.clauses) c.args.cone.now; waiting = c.requires.waiting }

pub loop-done-preserved : goal.loop-done-preserved
loop-done-preserved c =
    let index = c.args.index.now in
    let now = c.loop-done.cone in
    let next = c.close_list.new.cone in
    let latest : c.latest_negated-latest.result ≡ get_or index.heads (code_of (literal (get_or now.members c.loop-done.done 0) false)) 0 =
    c.latest_negated-latest.ensures ∙ ap (λ v. get_or index.heads (code_of (literal v false)) 0) c.get.ensures.value in
    members_more c.args.self.now.clauses c.args.inputs index c.requires.index c.args.cone.now now next c.loop-done.done c.loop-done.invariant
    (omega arith) c.close_list.ensures.reaches
    (subst (λ place. (number d : ℕ) → Lists index.links place number → number ≤ c.args.inputs → d ≤ length now.members
    → WaitsIn next.members d (clause_at c.args.self.now.clauses number)) latest c.close_list.ensures.visited)

pub returns : goal.returns
returns c = record {
  reaches = c.loop-done.invariant.reaches;
  closed = members_all c.args.self.now.clauses c.args.inputs c.args.index.now c.requires.index c.args.cone.now c.loop-done.cone c.loop-done.done
      c.loop-done.invariant (omega arith);
}
