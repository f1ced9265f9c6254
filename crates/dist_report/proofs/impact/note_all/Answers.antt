use Rattle.std.proofs.Common.{◌≡◌, ℕ, List, [], get_or, ap, ◌∙◌, arith}
use Rattle.std.proofs.lemmas.List.{get_or_default}
use Rattle.dist_cert.specs.Rising.{is_among}
use Rattle.dist_report.specs.ClaimPartsPrivate.{noted}
use Rattle.dist_report.proofs.NotedLemmas.{noted-more, noted-none}
use Rattle.dist_report.proofs.ToldLemmas.{take-past}
use Rattle.dist_report.proofs.impact.note_all.Goals as goal

pub loop-q-init : goal.loop-q-init
loop-q-init c = noted-none c.args.number c.args.lists.now.items

pub loop-q-preserved : goal.loop-q-preserved
loop-q-preserved c =
    let on = c.args.on.now in
    let k = c.loop-q.q-index in
    let q = get_or on k 0 in
    let old = c.args.lists.now.items in
    let here : q ≡ get_or on k q = get_or_default on k 0 q c.loop-q-test.true in
    noted-more c.args.number c.args.on.now c.loop-q.q-index q old c.loop-q.lists.items c.note.new.lists.items c.loop-q-test.true here c.requires
    c.loop-q.invariant c.in_ok-note.ensures

pub returns-clause-length : goal.returns-clause-length
returns-clause-length c = c.loop-q.invariant.same_length

pub returns-clause-each : goal.returns-clause-each
returns-clause-each c = λ q short.
    c.loop-q.invariant.each q short
    ∙ ap (λ (list : List ℕ). noted c.args.number (is_among list q) (get_or c.args.lists.now.items q []))
    (take-past c.args.on.now c.loop-q.q-index (omega arith))
