use Rattle.std.proofs.Common.{ℕ, ◌+◌, arith, subst, sym}
use Rattle.std.specs.Prelude.{OnOk}
use Rattle.dist_space_clauses.specs.GatheringPrivate.{IsFront}
use Rattle.dist_space_clauses.proofs.GroupFronts.{no-items}
use Rattle.dist_space_clauses.proofs.LedFronts.{leads-none}
use Rattle.dist_space_clauses.proofs.items.push_items_of.Goals as goal

pub push_items-requires-clause-front : goal.push_items-requires-clause-front
push_items-requires-clause-front c =
    subst (λ (v : ℕ). IsFront c.args.space.now 4 v 0 c.args.set.now c.args.set.now) (sym c.in-Present.ensures.of.variable_is) c.requires.front

pub returns-in-Present : goal.returns-in-Present
returns-in-Present c =
    let s = c.args.space.now in
    record {
      ok = subst (λ (v : ℕ). OnOk c.push_items.result (IsFront s 4 (v + 1) 0 c.args.set.now c.push_items.new.set)) c.in-Present.ensures.of.variable_is
          c.push_items.ensures.ok;
      err = c.push_items.ensures.err;
    }

pub returns-in_default : goal.returns-in_default
returns-in_default c =
    let s = c.args.space.now in
    let of = c.meaning.ensures.of in
    record {
      ok = leads-none s c.args.set.now c.args.set.now 4 c.args.variable c.meaning.result (omega arith) of
          (no-items s of.space c.args.set.now c.meaning.result (λ n is. c.in_default.not-Present n is)) c.requires.front;
      err = tt;
    }
