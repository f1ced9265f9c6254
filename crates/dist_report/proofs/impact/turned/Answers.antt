use Rattle.std.proofs.Common.{ℕ, Bool, List, length, ap, arith}
use Rattle.dist_cert.specs.Rising.{is_among}
use Rattle.dist_cert.specs.declared.records.Claim.{Claim}
use Rattle.dist_report.specs.ClaimParts.{strong_on}
use Rattle.dist_report.proofs.TurnedLemmas.{turned-all, turned-lower, turned-more, turned-none}
use Rattle.dist_report.proofs.impact.turned.Goals as goal

abbrev on-it : ℕ → Claim → Bool
on-it q claim = is_among (strong_on claim) q

pub loop-number-init : goal.loop-number-init
loop-number-init c = turned-none on-it c.args.claims.now (length c.args.claims.now) c.len.result c.in_ok-lists.lists.items c.len.ensures c.in_ok-lists.ensures

pub note_all-requires : goal.note_all-requires
note_all-requires c = turned-lower on-it c.args.claims.now (length c.args.claims.now) c.loop-number.number c.loop-number.lists.items c.loop-number.invariant

pub loop-number-preserved : goal.loop-number-preserved
loop-number-preserved c =
    let made = c.args.claims.now in
    turned-more on-it made (length made) c.loop-number.number c.get.result.now c.claim_list-on.result.now c.loop-number.lists.items
    c.note_all.new.lists.items c.get.ensures (λ q short. ap (λ (on : List ℕ). is_among on q) c.claim_list-on.ensures) c.loop-number.invariant
    c.in_ok-note_all.ensures.length c.in_ok-note_all.ensures.each

pub returns-clause-length : goal.returns-clause-length
returns-clause-length c = c.loop-number.invariant.same_length

pub returns-clause-each : goal.returns-clause-each
returns-clause-each c = turned-all on-it c.args.claims.now (length c.args.claims.now) c.loop-number.number c.loop-number.lists.items (omega arith)
    c.loop-number.invariant
