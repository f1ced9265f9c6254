use Rattle.std.proofs.Common.{◌≡◌, [], length, None, option_copied, unwrap_or, arith, refl, sym, ap, ap₂, ◌∙◌}
use Rattle.std.proofs.lemmas.Result.{err_from_is_err_and}
use Rattle.dist_version.specs.Spelling.{upstream_of, revision_of}
use Rattle.dist_version.proofs.Steps.{lengths_fault, some_bytes, no_bytes, now-unwrap_or, byte_fault_found, first_fault-empty, first_fault-epoch}
use Rattle.dist_version.proofs.Steps.{first_fault-lengths, first_fault-bytes, length-after_epoch-le, keeps, parts_found, room, revision_size}
use Rattle.dist_version.proofs.reading.places_of.Goals as goal

pub returns-then-is_empty : goal.returns-then-is_empty
returns-then-is_empty c = first_fault-empty c.args.text.now (no_bytes c.args.text.now c.if-is_empty.ensures)

pub returns-in_err-epoch : goal.returns-in_err-epoch
returns-in_err-epoch c =
    let p = err_from_is_err_and c.from_residual.result c.from_residual.ensures.1 in
    rw (p.1, p.2) (first_fault-epoch c.args.text.now _ (some_bytes c.args.text.now c.if-is_empty.ensures) c.in_err-epoch.ensures)

pub returns-in_err-check_lengths : goal.returns-in_err-check_lengths
returns-in_err-check_lengths c =
    let text = c.args.text.now in
    let found = parts_found text c.in_ok-epoch.rest.now c.in_ok-epoch.ensures.2 in
    let upstream : upstream_of text ≡ c.split_revision.result.0.now = found.0 ∙ sym c.split_revision.ensures.upstream in
    let revision : revision_of text ≡ option_copied c.split_revision.result.1 = found.1 ∙ sym c.split_revision.ensures.revision in
    let p = err_from_is_err_and c.from_residual-in_err-check_lengths.result c.from_residual-in_err-check_lengths.ensures.1 in
    rw (p.1, p.2) (first_fault-lengths text _ (some_bytes text c.if-is_empty.ensures) c.in_ok-epoch.ensures.0
    (ap₂ lengths_fault upstream revision ∙ c.in_err-check_lengths.ensures))

pub overflow_sub-start : goal.overflow_sub-start
overflow_sub-start c = omega (arith, length-after_epoch-le c.args.text.now, ap length c.in_ok-epoch.ensures.2)

pub check_bytes-requires : goal.check_bytes-requires
check_bytes-requires c =
    let text = c.args.text.now in
    let found = parts_found text c.in_ok-epoch.rest.now c.in_ok-epoch.ensures.2 in
    let upstream : upstream_of text ≡ c.split_revision.result.0.now = found.0 ∙ sym c.split_revision.ensures.upstream in
    let revision : revision_of text ≡ option_copied c.split_revision.result.1 = found.1 ∙ sym c.split_revision.ensures.revision in
    let bytes = ap (λ r. r.now) c.unwrap_or.ensures ∙ now-unwrap_or c.split_revision.result.1 _ ∙ ap (λ r. unwrap_or r []) (sym revision) in
    omega (arith, room text, ap length c.in_ok-epoch.ensures.2, ap length upstream, revision_size (revision_of text), ap length bytes)

pub returns-in_err-check_bytes : goal.returns-in_err-check_bytes
returns-in_err-check_bytes c =
    let text = c.args.text.now in
    let found = parts_found text c.in_ok-epoch.rest.now c.in_ok-epoch.ensures.2 in
    let upstream : upstream_of text ≡ c.split_revision.result.0.now = found.0 ∙ sym c.split_revision.ensures.upstream in
    let revision : revision_of text ≡ option_copied c.split_revision.result.1 = found.1 ∙ sym c.split_revision.ensures.revision in
    let bytes = ap (λ r. r.now) c.unwrap_or.ensures ∙ now-unwrap_or c.split_revision.result.1 _ in
    let lengths : lengths_fault (upstream_of text) (revision_of text) ≡ None = ap₂ lengths_fault upstream revision ∙ c.in_ok-check_lengths.ensures in
    let fault = byte_fault_found text c.in_ok-epoch.rest.now c.split_revision.result.0.now (option_copied c.split_revision.result.1) c.unwrap_or.result.now
    c.in_ok-epoch.ensures.2 upstream revision bytes in
    let p = err_from_is_err_and c.from_residual-in_err-check_bytes.result c.from_residual-in_err-check_bytes.ensures.1 in
    rw (p.1, p.2) (first_fault-bytes text _ (some_bytes text c.if-is_empty.ensures) c.in_ok-epoch.ensures.0 lengths (fault ∙ c.in_err-check_bytes.ensures))

pub returns : goal.returns
returns c =
    let text = c.args.text.now in
    let found = parts_found text c.in_ok-epoch.rest.now c.in_ok-epoch.ensures.2 in
    let upstream : upstream_of text ≡ c.split_revision.result.0.now = found.0 ∙ sym c.split_revision.ensures.upstream in
    let revision : revision_of text ≡ option_copied c.split_revision.result.1 = found.1 ∙ sym c.split_revision.ensures.revision in
    let bytes = ap (λ r. r.now) c.unwrap_or.ensures ∙ now-unwrap_or c.split_revision.result.1 _ in
    let lengths : lengths_fault (upstream_of text) (revision_of text) ≡ None = ap₂ lengths_fault upstream revision ∙ c.in_ok-check_lengths.ensures in
    let fault = byte_fault_found text c.in_ok-epoch.rest.now c.split_revision.result.0.now (option_copied c.split_revision.result.1) c.unwrap_or.result.now
    c.in_ok-epoch.ensures.2 upstream revision bytes in
    let sound = first_fault-bytes text None (some_bytes text c.if-is_empty.ensures) c.in_ok-epoch.ensures.0 lengths (fault ∙ c.in_ok-check_bytes.ensures) in
    rw (← c.in_ok-epoch.ensures.2, ← upstream) (keeps text c.in_ok-epoch.epoch _ sound c.in_ok-epoch.ensures.1 refl)
