-- A step has one reason to be refused at most, whichever package its cluster goes by.
use Rattle.std.proofs.Common.{◌≡◌, ℕ, List}
use Rattle.dist_base.specs.ListLaws.{at-more, contains-at}
use Rattle.dist_cluster.specs.Relation.{AreClustered}
use Rattle.dist_repo.specs.PackageList.{PackageList}
use Rattle.dist_repo.specs.declared.package.Package.{Package}
use Rattle.dist_classes.specs.Answers.{member_of}
use Rattle.dist_space.specs.Space.{IsFrame, SpaceView}
use Rattle.dist_future.specs.Future.{IsInClusterOf}
use Rattle.dist_archive.specs.Refusals.{IsFirstFault, IsUploadFault, Refuses, RefusesUpload}
use Rattle.dist_archive.specs.Same.{AreSame}
use Rattle.dist_archive.specs.Steps.{IsOfCluster, IsUploaded, Makes}
use Rattle.dist_archive.specs.declared.step.Step.{Step}
use Rattle.dist_archive.specs.declared.step.Step.TheVariants.{Upload, Removal, NewName}
use Rattle.dist_archive.specs.declared.step.StepError.{StepError}
use Rattle.dist_archive.specs.declared.step.StepError.TheVariants.{OtherArchitecture, NotAbove, NotMember, NotAtVersion, WrongProvides, NotHeld}
use Rattle.dist_archive.specs.declared.step.StepError.TheVariants.{NotOne, NameTaken, NameVirtual, HasProvides, NoMemory}
use Rattle.dist_archive.proofs.FitLemmas.{name-same}
use Rattle.dist_archive.proofs.FutureLemmas.{clustered-back, in-same}
use Rattle.dist_archive.proofs.LeadLemmas.{makes-same, same-back}
use Rattle.dist_archive.proofs.RefusalLemmas.{name-one, removal-one, upload-one}
use Rattle.dist_archive.proofs.TakenLemmas.{above-all_same, made-same, of-both, uploaded-same}

module _ (s : SpaceView) (frame : IsFrame s) where
  module _ (c d : Package) (same : AreClustered (member_of c) (member_of d)) (version : List ℕ) where
    back : AreClustered (member_of d) (member_of c)
    back = clustered-back (member_of c) (member_of d) same

    fault-same : (number : ℕ) (n : Package) (e : StepError) → IsUploadFault s.repository c version number n e
        → IsUploadFault s.repository d version number n e
    fault-same number n OtherArchitecture fault = absurd fault
    fault-same number n NotAbove fault = absurd fault
    fault-same number n (NotMember k) fault = (fault.0, λ named. fault.1 (name-same s.repository d c n.name back named))
    fault-same number n (NotAtVersion k) fault = (fault.0, name-same s.repository c d n.name same fault.1, fault.2)
    fault-same number n (WrongProvides k) fault = (
      fault.0,
      name-same s.repository c d n.name same fault.1,
      fault.2,
      λ fresh. fault.3 (fresh.0, in-same s.repository c d fresh.0 same fresh.1, fresh.2),
    )
    fault-same number n NotHeld fault = absurd fault
    fault-same number n NotOne fault = absurd fault
    fault-same number n NameTaken fault = absurd fault
    fault-same number n NameVirtual fault = absurd fault
    fault-same number n HasProvides fault = absurd fault
    fault-same number n NoMemory fault = absurd fault

    first-same : (packages : List Package) (e : StepError) → IsFirstFault s.repository c version packages e
        → IsFirstFault s.repository d version packages e
    first-same packages e first = record {
      number = first.number;
      before = λ k less. at-more (IsUploaded s.repository c version) (IsUploaded s.repository d version)
          (λ n made. uploaded-same s frame c d version n same made) packages k (first.before k less);
      here = at-more (λ n. IsUploadFault s.repository c version first.number n e) (λ n. IsUploadFault s.repository d version first.number n e)
          (λ n fault. fault-same first.number n e fault) packages first.number first.here;
    }

    upload-same : (archive : List Package) (block : PackageList) (e : StepError) → RefusesUpload s.repository archive c version block e
        → RefusesUpload s.repository archive d version block e
    upload-same archive block OtherArchitecture is = is
    upload-same archive block NotAbove is = (is.0, λ above. is.1 (above-all_same s frame d c archive version back above))
    upload-same archive block (NotMember k) is =
        (is.0, above-all_same s frame c d archive version same is.1, first-same block.packages (NotMember k) is.2)
    upload-same archive block (NotAtVersion k) is =
        (is.0, above-all_same s frame c d archive version same is.1, first-same block.packages (NotAtVersion k) is.2)
    upload-same archive block (WrongProvides k) is =
        (is.0, above-all_same s frame c d archive version same is.1, first-same block.packages (WrongProvides k) is.2)
    upload-same archive block NotHeld is = (is.0, above-all_same s frame c d archive version same is.1, first-same block.packages NotHeld is.2)
    upload-same archive block NotOne is = (is.0, above-all_same s frame c d archive version same is.1, first-same block.packages NotOne is.2)
    upload-same archive block NameTaken is = (is.0, above-all_same s frame c d archive version same is.1, first-same block.packages NameTaken is.2)
    upload-same archive block NameVirtual is = (is.0, above-all_same s frame c d archive version same is.1, first-same block.packages NameVirtual is.2)
    upload-same archive block HasProvides is = (is.0, above-all_same s frame c d archive version same is.1, first-same block.packages HasProvides is.2)
    upload-same archive block NoMemory is = (is.0, above-all_same s frame c d archive version same is.1, first-same block.packages NoMemory is.2)

  pub refusal-one : (archive : List Package) (step : Step) (e other : StepError) → Refuses s archive step e → Refuses s archive step other → other ≡ e
  refusal-one archive (Upload cluster version block) e other first second =
      let c : Package = first.0 in
      let d : Package = second.0 in
      upload-one s.repository d version archive block e other
      (upload-same c d (of-both s frame cluster c d first.1 second.1) version archive block e first.2) second.2
  refusal-one archive (Removal name) e other first second =
      let a = (removal-one archive name e first).0 in
      let b = (removal-one archive name other second).0 in
      cc
  refusal-one archive (NewName block) e other first second = name-one s.repository archive block e other first second

  pub made-alike : (old other new newer : List Package) (step : Step) → AreSame old other → Makes s step old new → Makes s step other newer
      → AreSame new newer
  made-alike old other new newer step same first second =
      made-same s frame step old new newer first (makes-same s step other old newer (same-back old other same) second)

  pub in-one : (cluster : ℕ) (c q : Package) → IsOfCluster s cluster c → IsOfCluster s cluster q → IsInClusterOf s.repository c q
  in-one cluster c q first second = record {
    there = contains-at s.repository.packages second.member q second.is;
    clustered = of-both s frame cluster c q first second;
  }
