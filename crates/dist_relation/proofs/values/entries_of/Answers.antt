use Rattle.std.proofs.Common.{◌≡◌, ◌≤◌, length, ap, arith, ◌∷◌, ◌∙◌}
use Rattle.std.proofs.lemmas.Result.{err_from_is_err_and}
use Rattle.dist_base.specs.Ascii.{comma}
use Rattle.dist_relation.specs.ReadingPrivate.{piece_at, items_of}
use Rattle.dist_relation.proofs.Loops.{piece_done, entries_start, entries_more, entries_last, entries_fail, piece_shorter}
use Rattle.dist_relation.proofs.values.entries_of.Goals as goal

pub loop-entries-init : goal.loop-entries-init
loop-entries-init g c =
    let reading = g.T.Entry.reading in
    let shorter = piece_shorter reading c.requires in
    rw c.in_ok-entries.ensures.items (entries_start reading shorter c.args.value.now)

pub returns-in_err-rest : goal.returns-in_err-rest
returns-in_err-rest g c =
    let reading = g.T.Entry.reading in
    let shorter = piece_shorter reading c.requires in
    let p = err_from_is_err_and c.from_residual-in_err-rest.result c.from_residual-in_err-rest.ensures.1 in
    rw (p.1, p.2) (entries_fail reading shorter c.in_err-rest.field-0.0 c.loop-entries.entries.items c.loop-entries.text.now (items_of reading c.args.value.now)
    c.in_err-rest.ensures c.loop-entries.invariant)

pub loop-entries-smaller : goal.loop-entries-smaller
loop-entries-smaller g c =
    let reading = g.T.Entry.reading in
    let shorter = piece_shorter reading c.requires in
    let p = c.in_ok-rest.ensures in
    let less : length c.in_ok-rest.rest.now ≤ length c.loop-entries.text.now = shorter c.loop-entries.text.now p.0 c.in_ok-rest.rest.now p.1 in
    let more : length c.in_ok-rest.rest.now ≡ length (comma ∷ c.in-Some.tail.now) = ap length c.in-Some.ensures in
    omega (arith, less, more)

pub loop-entries-preserved : goal.loop-entries-preserved
loop-entries-preserved g c =
    let reading = g.T.Entry.reading in
    let shorter = piece_shorter reading c.requires in
    let p = c.in_ok-rest.ensures in
    let read : piece_at reading c.loop-entries.text.now ≡ piece_done p.0 (comma ∷ c.in-Some.tail.now) = p.1 ∙ ap (piece_done p.0) c.in-Some.ensures in
    rw p.2 (entries_more reading shorter c.loop-entries.entries.items c.loop-entries.text.now p.0 c.in-Some.tail.now (items_of reading c.args.value.now) read
    c.loop-entries.invariant)

pub returns-in-None : goal.returns-in-None
returns-in-None g c =
    let reading = g.T.Entry.reading in
    let shorter = piece_shorter reading c.requires in
    let p = c.in_ok-rest.ensures in
    rw (c.shrink_to_fit.ensures.items, p.2) (entries_last reading shorter c.loop-entries.entries.items c.loop-entries.text.now p.0 c.in_ok-rest.rest.now
    (items_of reading c.args.value.now) p.1
    c.in-None.ensures c.loop-entries.invariant)
