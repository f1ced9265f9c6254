use Rattle.std.proofs.Common.{refl, subst}
use Rattle.dist_archive.specs.Refusals.{IsUploadFault}
use Rattle.dist_archive.specs.Steps.{IsClusterName, IsUploaded}
use Rattle.dist_archive.specs.UploadsPrivate.{IsMemberFault, IsMemberNamed, IsMemberNew}
use Rattle.dist_archive.proofs.NameLemmas.{match-weaker}
use Rattle.dist_archive.proofs.UploadLemmas.{member-fault, member-uploaded}
use Rattle.dist_archive.proofs.uploads.check_package.Goals as goal

pub returns-in-Some : goal.returns-in-Some
returns-in-Some c = λ p of.
    let r = c.args.space.now.repository in
    let version = c.args.version.now in
    let n = c.args.uploaded.now in
    let m = c.package.result.now in
    let named = subst (λ name. IsMemberNamed r p name c.in-Some.member) c.bytes.ensures.value (c.in-Some.ensures.member p of) in
    match-weaker c.check_member.result (IsMemberNew version m n) (IsUploaded r p version n) (IsMemberFault version c.args.number m n)
    (IsUploadFault r p version c.args.number n) (member-uploaded r p version c.args.number c.in-Some.member m n named c.package.ensures.value)
    (member-fault r p version c.args.number c.in-Some.member m n named c.package.ensures.value) c.check_member.ensures

pub returns-in-None : goal.returns-in-None
returns-in-None c = λ p of. (
  refl,
  subst (λ name. ¬ IsClusterName c.args.space.now.repository p name) c.bytes.ensures.value (c.in-None.ensures.member p of),
)
