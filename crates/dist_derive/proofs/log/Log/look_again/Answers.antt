use Rattle.std.proofs.Common.{Bool, inr, refl, arith}
use Rattle.dist_derive.specs.WatchesPrivate.{Looks, LooksAgain}
use Rattle.dist_derive.proofs.ResultLemmas.{if_ok_map}
use Rattle.dist_derive.proofs.VisitLemmas.{passes_over, looks_again, other_in}
use Rattle.dist_derive.proofs.log.Log.look_again.Goals as goal
use Rattle.dist_derive.proofs.log.Log.look_again.Goals.{then-number-eq0-via-then-number-eq0, then-number-eq0-via-else-number-eq0+then-number-last}

pub returns-then-number-eq0 : goal.returns-then-number-eq0
returns-then-number-eq0 c = passes_over c.args.self.now.clauses c.args.last c.args.number c.args.literal c.args.watches.now c.args.literals.now
    (λ from to. elim c.then-number-eq0.branch [
      | then-number-eq0-via-then-number-eq0 w ↦ absurd (omega (arith, w.if-number-eq0, from))
      | then-number-eq0-via-else-number-eq0+then-number-last w ↦ absurd (omega (arith, w.if-number-last, to))
    ])

pub returns-in_default : goal.returns-in_default
returns-in_default c = passes_over c.args.self.now.clauses c.args.last c.args.number c.args.literal c.args.watches.now c.args.literals.now
    (λ from to. inr (refl, refl, c.in_default.ensures.none))

pub look-requires-clause-member : goal.look-requires-clause-member
look-requires-clause-member c = other_in c.args.watches.now c.args.self.now.clauses c.args.number c.args.literal c.in-Some.other (omega arith)
    c.in-Some.ensures.some c.requires.watches

pub returns : goal.returns
returns c = if_ok_map c.look.result
    (λ (fine : Bool). Looks c.args.self.now.clauses c.args.last c.args.number c.args.watches.now c.look.new.watches c.args.literals.now
    c.look.new.literals fine)
    (λ (fine : Bool). LooksAgain c.args.self.now.clauses c.args.last c.args.number c.args.literal c.args.watches.now c.look.new.watches c.args.literals.now
    c.look.new.literals fine)
    (λ fine h. looks_again c.args.self.now.clauses c.args.last c.args.number c.args.literal c.args.watches.now c.look.new.watches c.args.literals.now
    c.look.new.literals fine h) c.look.ensures
