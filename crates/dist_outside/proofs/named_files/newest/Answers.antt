use Rattle.std.proofs.Common.{◌+◌, nat_eq, cond, Bool, Some, drop, ap, sym, ◌∙◌}
use Rattle.std.proofs.lemmas.List.{at_drop_all}
use Rattle.std.specs.Ordering.{nat_cmp}
use Rattle.std.specs.Cmp.Lexicographic.{slice_cmp, pointwise}
use Rattle.std.specs.FinMap.{get, get-empty}
use Rattle.dist_outside.specs.KeptPrivate.{files_of}
use Rattle.dist_outside.proofs.Newest.{newest_from}
use Rattle.dist_outside.proofs.named_files.newest.Goals as goal

pub returns-then-eq : goal.returns-then-eq
returns-then-eq c =
    let here = newest_from c.args.files.now c.loop-file.file-index c.file-item.result c.args.name.now c.loop-file-test.true c.file-item.is in
    let bytes = c.file-item.result.bytes.items in
    let later = get (files_of (drop (c.loop-file.file-index + 1) c.args.files.now)) c.args.name.now in
    ap Some c.deref.ensures.value
    ∙ sym (ap (λ (same : Bool). cond same (Some bytes) later)
    (ap (pointwise nat_eq c.args.name.now) (sym c.as_str.ensures.value) ∙ sym c.eq.ensures ∙ c.if-eq.true))
    ∙ sym here ∙ c.loop-file.invariant

pub loop-file-preserved : goal.loop-file-preserved
loop-file-preserved c =
    let here = newest_from c.args.files.now c.loop-file.file-index c.file-item.result c.args.name.now c.loop-file-test.true c.file-item.is in
    let bytes = c.file-item.result.bytes.items in
    let later = get (files_of (drop (c.loop-file.file-index + 1) c.args.files.now)) c.args.name.now in
    sym (ap (λ (same : Bool). cond same (Some bytes) later)
    (ap (pointwise nat_eq c.args.name.now) (sym c.as_str.ensures.value) ∙ sym c.eq.ensures ∙ c.if-eq.false))
    ∙ sym here ∙ c.loop-file.invariant

pub returns : goal.returns
returns c =
    sym (get-empty (slice_cmp nat_cmp) c.args.name.now)
    ∙ sym (at_drop_all (λ rest. get (files_of rest) c.args.name.now) c.args.files.now c.loop-file.file-index c.loop-file-test.false)
    ∙ c.loop-file.invariant
