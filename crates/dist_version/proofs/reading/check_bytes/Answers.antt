use Rattle.std.proofs.Common.{◌+◌, length, sym}
use Rattle.dist_version.specs.Spelling.{is_upstream_byte, is_revision_byte}
use Rattle.dist_version.specs.TextLaws.{bad_byte-found, bad_byte-passed}
use Rattle.dist_version.proofs.Steps.{or-some, or-next}
use Rattle.dist_version.proofs.reading.check_bytes.Goals as goal

pub returns-in-Some : goal.returns-in-Some
returns-in-Some c = or-some _ _ _ (bad_byte-found is_upstream_byte c.args.start c.args.upstream.now c.in-Some.at (sym c.in-Some.ensures))

pub returns-in-Some-bad_revision_byte : goal.returns-in-Some-bad_revision_byte
returns-in-Some-bad_revision_byte c =
    or-next _ _ _ (bad_byte-passed is_upstream_byte c.args.start c.args.upstream.now (sym c.in_default.ensures))
    (bad_byte-found is_revision_byte (c.args.start + length c.args.upstream.now + 1) c.args.revision.now _ (sym c.in-Some-bad_revision_byte.ensures))

pub returns : goal.returns
returns c =
    or-next _ _ _ (bad_byte-passed is_upstream_byte c.args.start c.args.upstream.now (sym c.in_default.ensures))
    (bad_byte-passed is_revision_byte (c.args.start + length c.args.upstream.now + 1) c.args.revision.now (sym c.in_default-bad_revision_byte.ensures))
