use Rattle.std.proofs.Common.{◌≡◌, Bool, false, take}
use Rattle.std.proofs.lemmas.Bool.{false≢true}
use Rattle.dist_derive.specs.SweepPrivate.{IsRefuted}
use Rattle.dist_derive.specs.WatchesPrivate.{Advances}
use Rattle.dist_derive.proofs.ResultLemmas.{if_ok_map}
use Rattle.dist_derive.proofs.GuardLemmas.{advances_then, refuted_later}
use Rattle.dist_derive.proofs.log.Log.advance.Goals as goal

pub returns-then-not-branch : goal.returns-then-not-branch
returns-then-not-branch c = record {
  advances = c.in_ok-take_in_all.ensures.advances;
  guarded = λ e. absurd (false≢true e);
  refuted = λ _. c.in_ok-take_in_all.ensures.refuted c.if-not-branch.true;
}

pub returns-clause-advances : goal.returns-clause-advances
returns-clause-advances c =
    let clauses = c.args.self.now.clauses in
    let last = c.args.last in
    if_ok_map c.take_each.result (λ (fine : Bool). Advances clauses last c.take_in_all.new.watches c.take_each.new.watches c.take_in_all.new.literals
    c.take_each.new.literals) (λ (fine : Bool). Advances clauses last c.args.watches.now c.take_each.new.watches c.args.literals.now c.take_each.new.literals)
    (λ fine h. advances_then clauses last c.args.watches.now c.take_in_all.new.watches c.take_each.new.watches c.args.literals.now
    c.take_in_all.new.literals c.take_each.new.literals c.in_ok-take_in_all.ensures.advances h) c.take_each.ensures.advances

pub returns-clause-refuted : goal.returns-clause-refuted
returns-clause-refuted c =
    let clauses = take c.args.last c.args.self.now.clauses in
    if_ok_map c.take_each.result (λ (fine : Bool). fine ≡ false → IsRefuted clauses c.take_in_all.new.literals.literals)
    (λ (fine : Bool). fine ≡ false → IsRefuted clauses c.args.literals.now.literals)
    (λ fine h e. refuted_later c.args.self.now.clauses c.args.last c.args.watches.now c.take_in_all.new.watches c.args.literals.now c.take_in_all.new.literals
    c.in_ok-take_in_all.ensures.advances (h e)) c.take_each.ensures.refuted

pub take_each-requires-clause-watches : goal.take_each-requires-clause-watches
take_each-requires-clause-watches c = c.in_ok-take_in_all.ensures.advances.watches c.requires.watches

pub take_each-requires-clause-guarded : goal.take_each-requires-clause-guarded
take_each-requires-clause-guarded c = c.in_ok-take_in_all.ensures.guarded c.if-not-branch.false
