use Rattle.std.proofs.Common.{ℕ, ◌+◌, arith, refl, subst, sym}
use Rattle.std.specs.Prelude.{OnOk}
use Rattle.dist_space_clauses.specs.GatheringPrivate.{IsFront}
use Rattle.dist_space_clauses.proofs.GroupFronts.{no-conflicts}
use Rattle.dist_space_clauses.proofs.LedFronts.{leads-none}
use Rattle.dist_space_clauses.proofs.conflicts.push_conflicts_of.Goals as goal

pub push_conflicts-requires-clause-front : goal.push_conflicts-requires-clause-front
push_conflicts-requires-clause-front c =
    subst (λ (v : ℕ). IsFront c.args.space.now 5 v 0 c.args.set.now c.args.set.now) (sym c.in-Present.ensures.of.variable_is) c.requires.front

pub returns-in-Present : goal.returns-in-Present
returns-in-Present c =
    let s = c.args.space.now in
    record {
      partners = c.push_conflicts.ensures.partners;
      ok = subst (λ (v : ℕ). OnOk c.push_conflicts.result (IsFront s 5 (v + 1) 0 c.args.set.now c.push_conflicts.new.set)) c.in-Present.ensures.of.variable_is
          c.push_conflicts.ensures.ok;
      err = c.push_conflicts.ensures.err;
    }

pub returns-in_default : goal.returns-in_default
returns-in_default c =
    let s = c.args.space.now in
    let of = c.meaning.ensures.of in
    record {
      partners = refl;
      ok = leads-none s c.args.set.now c.args.set.now 5 c.args.variable c.meaning.result (omega arith) of
          (no-conflicts s of.space c.args.set.now c.meaning.result (λ n is. c.in_default.not-Present n is)) c.requires.front;
      err = tt;
    }
