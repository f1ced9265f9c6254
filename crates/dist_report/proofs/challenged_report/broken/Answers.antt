use Rattle.std.proofs.Common.{ℕ, List, length, sym, subst, arith}
use Rattle.dist_report.proofs.BrokenLemmas.{lists-broken, lists-place, places-listed}
use Rattle.dist_report.proofs.PlaceLemmas.{ArePlaces}
use Rattle.dist_report.proofs.TurnedLemmas.{turned-all, turned-lower, turned-more, turned-none}
use Rattle.dist_report.proofs.challenged_report.broken.Goals as goal

pub loop-number-init : goal.loop-number-init
loop-number-init c =
    let row = c.args.row.now in
    turned-none (lists-place c.args.kind row) c.args.claims.now (length row) c.len.result c.in_ok-lists.lists.items c.len.ensures.length
    c.in_ok-lists.ensures

pub note_all-requires : goal.note_all-requires
note_all-requires c =
    let row = c.args.row.now in
    turned-lower (lists-place c.args.kind row) c.args.claims.now (length row) c.loop-number.number c.loop-number.lists.items c.loop-number.invariant

pub loop-number-preserved : goal.loop-number-preserved
loop-number-preserved c =
    let row = c.args.row.now in
    let made = c.args.claims.now in
    let kind = c.args.kind in
    let Are : List ℕ → Type 0 = λ places. ArePlaces row c.claim_pairs.result.now places in
    let are : Are c.deref.result.now = subst Are (sym c.deref.ensures.value) c.in_ok-places.ensures in
    turned-more (lists-place kind row) made (length row) c.loop-number.number c.get.result.now c.deref.result.now c.loop-number.lists.items
    c.note_all.new.lists.items c.get.ensures (places-listed kind row c.get.result.now c.claim_pairs.result.now c.deref.result.now c.claim_pairs.ensures are)
    c.loop-number.invariant c.in_ok-note_all.ensures.length c.in_ok-note_all.ensures.each

pub returns-clause-length : goal.returns-clause-length
returns-clause-length c = c.loop-number.invariant.same_length

pub returns-clause-few : goal.returns-clause-few
returns-clause-few c = omega (arith, c.loop-number.invariant.same_length, c.len.ensures.few, c.len.ensures.length)

pub returns-clause-each : goal.returns-clause-each
returns-clause-each c =
    let row = c.args.row.now in
    let made = c.args.claims.now in
    let lists = c.loop-number.lists.items in
    lists-broken c.args.kind row made lists
    (turned-all (lists-place c.args.kind row) made (length row) c.loop-number.number lists (omega arith) c.loop-number.invariant)
