-- What a run that sweeps, and one of each other command with a claim prove, from the end that they come to.
use Rattle.std.proofs.Common.{◌≡◌, ◌≢◌, ℕ, Bool, false, List, inl, inr, Option, Some, None, ap, ◌∙◌, subst, sym}
use Rattle.dist_outside.specs.DeskView.{DeskView}
use Rattle.dist_outside.specs.Files.{Files}
use Rattle.dist_outside.specs.SinkView.{SinkView, Grew}
use Rattle.dist_outside.specs.declared.limits.Limits.{Limits}
use Rattle.dist_repo.specs.PackageList.{PackageList}
use Rattle.dist_space.specs.Space.{SpaceView}
use Rattle.dist_space.specs.SpaceOf.{IsSpaceOf}
use Rattle.dist_repair.specs.RepairFiles.{PassesWith}
use Rattle.dist_repair.specs.declared.repair.Repair.{Repair}
use Rattle.dist_repair.specs.declared.verdict.RepairHeader.{RepairHeader}
use Rattle.dist_repair_search.specs.SearchAnswers.{header_with}
use Rattle.dist_cert.specs.declared.records.CertKind.{CertKind}
use Rattle.dist_cert.specs.declared.records.Claim.{Claim}
use Rattle.dist_cert.specs.declared.records.Header.{Header}
use Rattle.dist_list.specs.NamedPackage.{IsNamed}
use Rattle.dist_explain.specs.ExplanationFiles.{PassesFirst as ExplainPasses}
use Rattle.dist_explain.specs.declared.explained.Explained.{Explained}
use Rattle.dist_explain.specs.declared.verdict.ExplainHeader.{ExplainHeader}
use Rattle.dist_subject.specs.Limited.{PassesFirst}
use Rattle.dist_words.specs.CommandLine.{CommandLine, Sweep, Check, CheckExplain, Explain, CheckRepair}
use Rattle.dist_words.specs.CommandLine.{Repair as RepairLine, Steps, Follow}
use Rattle.dist_words.specs.Table.{command_of}
use Rattle.dist_app.specs.LawsPrivate.{ClaimsHold, ExplanationsHold, MarksAreRight, RepairsHold}
use Rattle.dist_commands.specs.Check.{CertificateAnswers, CertificateStage, CheckStages, Reports}
use Rattle.dist_commands.specs.CheckExplain.{CheckExplainStages, ExplanationReads, ExplanationStage, TellsExplained}
use Rattle.dist_commands.specs.CheckRepair.{CheckRepairStages, RepairReads, RepairStage, TellsRepair}
use Rattle.dist_commands.specs.Command.{CommandDecides}
use Rattle.dist_commands.specs.Explain.{ExplainStages, Explains, explain_writing, header_on}
use Rattle.dist_commands.specs.Follow.{FollowStages, TellsFollowed}
use Rattle.dist_app.specs.Headline.{CheckExplainIsProved, CheckIsProved, ExplainIsProved, IsCarriedOut, ProvesCheck, ProvesCheckExplain}
use Rattle.dist_app.specs.Headline.{AreCompared, FollowIsProved, ProvesExplain, ProvesFollow, ProvesMisfit, ProvesPlan, ProvesSweep}
use Rattle.dist_app.specs.Headline.{CheckRepairIsProved, ProvesCheckRepair, ProvesRepair, RepairIsProved, StepsAreProved, SweepIsProved}
use Rattle.dist_commands.specs.PackagesStage.{PackagesStage}
use Rattle.dist_commands.specs.Repair.{RepairStages, Repairs, repair_writing}
use Rattle.dist_app.specs.Run.{Comes, Decides, Runs}
use Rattle.dist_commands.specs.Stages.{Ending, Goes}
use Rattle.dist_commands.specs.SpaceStage.{IsSpaceOfFile, SpaceStage}
use Rattle.dist_commands.specs.Steps.{IsNewestIn, StepsStages, TellsLater}
use Rattle.dist_commands.specs.Sweeps.{SweepStages, Sweeps, sweep_writing}
use Rattle.dist_commands.specs.WrittenFile.{IsWritten}
use Rattle.dist_commands.specs.TextStage.{TextStage}
use Rattle.dist_commands.specs.declared.status.Status.{Status}
use Rattle.dist_commands.specs.declared.status.Status.TheVariants.{Done, NoMemory, NotAFuture, ReadFault, WriteFault}
use Rattle.dist_app.proofs.Refused.{IsRefusal, check_refuses, named_refuses, numbers_refuse}
use Rattle.dist_app.proofs.Refused.{packages_refuses, plain_space_refuses, refusal_not_a_misfit}
use Rattle.dist_app.proofs.Refused.{journal_refuses, refusal_not_carried_out, space_refuses, text_refuses}
use Rattle.dist_app.proofs.Runs.{interrupted_status}
use Rattle.dist_app.proofs.SweepMeanings.{sweep_means}

-- words of a command decide by it
pub of_line : (words : List (List ℕ)) (files : Option Files) (limits : Limits) (line : CommandLine) (ending : Ending) → command_of words ≡ Some line
    → Decides words files limits ending → CommandDecides line files limits ending
of_line words files limits line ending is (inl (bad, end)) = absurd (apart (command_of words) is bad)
  where
    apart : (o : Option CommandLine) → o ≡ Some line → o ≡ None → ⊥
    apart o e f = cc
of_line words files limits line ending is (inr (other, is_other, decides)) =
    subst (λ (x : CommandLine). CommandDecides x files limits ending) (same (command_of words) is_other is) decides
  where
    same : (o : Option CommandLine) → o ≡ Some other → o ≡ Some line → other ≡ line
    same o e f = cc

-- ---- sweeps

module _ (hold : ClaimsHold) (right : MarksAreRight) (limits : Limits) (kind : CertKind) (packages cert : List ℕ) (essential : Bool) (limit : ℕ)
    (result : Status)
    (desk desk' : DeskView) (out out' : SinkView) (ending : Ending)
    (status_is : result ≡ ending.status) (carried : IsCarriedOut ending.status) (files : desk'.files ≡ ending.files) (printed : Grew ending.out out out') where
  swept_proves : (r : PackageList) → PackagesStage desk.files limits packages (Goes r)
      → IsWritten (sweep_writing limits kind essential limit r) desk.files cert ending
      → ProvesSweep limits kind packages cert essential limit result desk desk' out out'
  swept_proves r (text, goes, has) swept = record {
    repository = r;
    read = (text, goes, has);
    made = swept.made;
    text = swept.text;
    certificate = swept.whole;
    files = files ∙ ap (λ (e : Ending). e.files) swept.is;
    means = sweep_means hold r kind essential limit limits swept.text swept.made has.in_order swept.whole;
    marks = right r limits swept.text;
    report = swept.out;
    is_report = swept.told;
    printed = subst (λ (e : Ending). Grew e.out out out') swept.is printed;
    status = status_is ∙ ap (λ (e : Ending). e.status) swept.is;
  }

  pub sweep_proves : SweepStages desk.files limits kind packages essential (Sweeps desk.files limits kind cert essential limit) ending
      → ProvesSweep limits kind packages cert essential limit result desk desk' out out'
  sweep_proves (inl ends) = absurd (refusal_not_carried_out desk.files ending (packages_refuses desk.files limits packages ending ends) carried)
  sweep_proves (inr (r, goes, inl ends)) =
      absurd (refusal_not_carried_out desk.files ending (numbers_refuse (PassesFirst r kind essential limits) desk.files ending ends) carried)
  sweep_proves (inr (r, goes, inr (_, kept, inl swept))) = swept_proves r goes swept
  sweep_proves (inr (r, goes, inr (_, kept, inr stopped))) = absurd (subst (λ (e : Ending). IsCarriedOut e.status) stopped.is carried)

-- ---- `check`

module _ (right : MarksAreRight) (limits : Limits) (packages cert : List ℕ) (result : Status) (desk desk' : DeskView) (out out' : SinkView) (ending : Ending)
    (status_is : result ≡ ending.status) (carried : IsCarriedOut ending.status) (files : desk'.files ≡ ending.files) (printed : Grew ending.out out out') where
  accepted_proves : (r : PackageList) (accepted : Header × List Claim) → PackagesStage desk.files limits packages (Goes r)
      → CertificateStage desk.files limits cert r (Goes accepted) → Reports desk.files r accepted ending
      → ProvesCheck limits packages cert result desk desk' out out'
  accepted_proves r accepted goes judged reports = record {
    repository = r;
    read = goes;
    header = accepted.0;
    made = accepted.1;
    present = judged.present;
    accepted = judged.answers;
    files = files ∙ ap (λ (e : Ending). e.files) reports.is;
    means = reports.means;
    marks = right r limits;
    report = reports.text;
    is_report = reports.is_report;
    printed = subst (λ (e : Ending). Grew e.out out out') reports.is printed;
    status = status_is ∙ ap (λ (e : Ending). e.status) reports.is;
  }

  pub check_proves : CheckStages desk.files limits packages cert (Reports desk.files) ending → ProvesCheck limits packages cert result desk desk' out out'
  check_proves (inl ends) = absurd (refusal_not_carried_out desk.files ending (packages_refuses desk.files limits packages ending ends) carried)
  check_proves (inr (r, goes, inl ends)) =
      absurd (refusal_not_carried_out desk.files ending (check_refuses (CertificateAnswers r limits) desk.files cert ending ends) carried)
  check_proves (inr (r, goes, inr (accepted, judged, reports))) = accepted_proves r accepted goes judged reports

-- ---- `check-explain`

module _ (limits : Limits) (packages cert : List ℕ) (result : Status) (desk desk' : DeskView) (out out' : SinkView) (ending : Ending)
    (status_is : result ≡ ending.status) (carried : IsCarriedOut ending.status) (files : desk'.files ≡ ending.files) (printed : Grew ending.out out out') where
  told_proves : (r : PackageList) (accepted : ExplainHeader × Explained) → PackagesStage desk.files limits packages (Goes r)
      → ExplanationStage desk.files limits cert r (Goes accepted) → TellsExplained desk.files r accepted ending
      → ProvesCheckExplain limits packages cert result desk desk' out out'
  told_proves r accepted goes judged told = record {
    repository = r;
    read = goes;
    header = accepted.0;
    explained = accepted.1;
    present = judged.present;
    accepted = judged.answers;
    files = files ∙ ap (λ (e : Ending). e.files) told.is;
    means = told.means;
    told = told.text;
    is_told = told.is_text;
    printed = subst (λ (e : Ending). Grew e.out out out') told.is printed;
    status = status_is ∙ ap (λ (e : Ending). e.status) told.is;
  }

  pub check_explain_proves : CheckExplainStages desk.files limits packages cert (TellsExplained desk.files) ending
      → ProvesCheckExplain limits packages cert result desk desk' out out'
  check_explain_proves (inl ends) = absurd (refusal_not_carried_out desk.files ending (packages_refuses desk.files limits packages ending ends) carried)
  check_explain_proves (inr (r, goes, inl ends)) =
      absurd (refusal_not_carried_out desk.files ending (check_refuses (ExplanationReads r limits) desk.files cert ending ends) carried)
  check_explain_proves (inr (r, goes, inr (accepted, judged, told))) = told_proves r accepted goes judged told

-- ---- `explain`

module _ (hold : ExplanationsHold) (limits : Limits) (packages cert named : List ℕ) (limit : ℕ) (result : Status) (desk desk' : DeskView)
    (out out' : SinkView) (ending : Ending) (status_is : result ≡ ending.status) (carried : IsCarriedOut ending.status)
    (files : desk'.files ≡ ending.files) (printed : Grew ending.out out out') where
  abbrev ProvesOne : Type 0
  ProvesOne = ProvesExplain limits packages cert named limit result desk desk' out out'

  explained_proves : (r : PackageList) (number : ℕ) → PackagesStage desk.files limits packages (Goes r) → IsNamed r.packages named number
      → IsWritten (explain_writing limits limit r number) desk.files cert ending → ProvesOne
  explained_proves r number (bytes, goes, has) is_named whole = record {
    repository = r;
    read = (bytes, goes, has);
    number = number;
    is_named = is_named;
    explained = whole.made;
    text = whole.text;
    accepted = whole.whole.0;
    in_order = whole.whole.1;
    files = files ∙ ap (λ (e : Ending). e.files) whole.is;
    means = hold r limits whole.text (header_on number limit) whole.made has.in_order whole.whole.0;
    told = whole.out;
    is_told = whole.told;
    printed = subst (λ (e : Ending). Grew e.out out out') whole.is printed;
    status = status_is ∙ ap (λ (e : Ending). e.status) whole.is;
  }

  pub explain_proves : ExplainStages desk.files limits packages named (Explains desk.files limits cert limit) ending → ProvesOne
  explain_proves (inl ends) = absurd (refusal_not_carried_out desk.files ending (packages_refuses desk.files limits packages ending ends) carried)
  explain_proves (inr (r, goes, inl ends)) =
      absurd (refusal_not_carried_out desk.files ending (named_refuses desk.files r.packages named ending ends) carried)
  explain_proves (inr (r, goes, inr (number, is_named, inl ends))) =
      absurd (refusal_not_carried_out desk.files ending (numbers_refuse (ExplainPasses r limits) desk.files ending ends) carried)
  explain_proves (inr (r, goes, inr (number, is_named, inr (_, kept, inl whole)))) = explained_proves r number goes is_named whole
  explain_proves (inr (r, goes, inr (number, is_named, inr (_, kept, inr stopped)))) =
      absurd (subst (λ (e : Ending). IsCarriedOut e.status) stopped.is carried)

-- ---- `check-repair`

module _ (limits : Limits) (packages cert : List ℕ) (result : Status) (desk desk' : DeskView) (out out' : SinkView) (ending : Ending)
    (status_is : result ≡ ending.status) (carried : IsCarriedOut ending.status) (files : desk'.files ≡ ending.files) (printed : Grew ending.out out out') where
  checked_proves : (r : PackageList) (space : SpaceView) (accepted : RepairHeader × Repair) → PackagesStage desk.files limits packages (Goes r)
      → IsSpaceOfFile false r space → RepairStage desk.files limits cert space (Goes accepted) → TellsRepair desk.files space accepted ending
      → ProvesCheckRepair limits packages cert result desk desk' out out'
  checked_proves r space accepted goes made judged told = record {
    repository = r;
    read = goes;
    space = space;
    is_space = made;
    header = accepted.0;
    repair = accepted.1;
    present = judged.present;
    accepted = judged.answers;
    files = files ∙ ap (λ (e : Ending). e.files) told.is;
    says = told.says;
    printed = subst (λ (e : Ending). Grew e.out out out') told.is printed;
    status = status_is ∙ ap (λ (e : Ending). e.status) told.is;
  }

  pub check_repair_proves : CheckRepairStages desk.files limits packages cert (TellsRepair desk.files) ending
      → ProvesCheckRepair limits packages cert result desk desk' out out'
  check_repair_proves (inl ends) = absurd (refusal_not_carried_out desk.files ending (packages_refuses desk.files limits packages ending ends) carried)
  check_repair_proves (inr (r, goes, inl ends)) =
      absurd (refusal_not_carried_out desk.files ending (space_refuses desk.files limits false r ending ends) carried)
  check_repair_proves (inr (r, goes, inr (space, made, inl ends))) =
      absurd (refusal_not_carried_out desk.files ending (check_refuses (RepairReads space limits) desk.files cert ending ends) carried)
  check_repair_proves (inr (r, goes, inr (space, made, inr (accepted, judged, told)))) = checked_proves r space accepted goes made.0 judged told

-- ---- `repair`

module _ (hold : RepairsHold) (limits : Limits) (packages cert named : List ℕ) (most limit : ℕ) (result : Status) (desk desk' : DeskView)
    (out out' : SinkView) (ending : Ending) (status_is : result ≡ ending.status) (carried : IsCarriedOut ending.status)
    (files : desk'.files ≡ ending.files) (printed : Grew ending.out out out') where
  abbrev ProvesTheRepair : Type 0
  ProvesTheRepair = ProvesRepair limits packages cert named most limit result desk desk' out out'

  repaired_proves : (newest : PackageList) (number : ℕ) (space : SpaceView) → IsNewestIn desk.files limits packages newest
      → IsNamed newest.packages named number → IsSpaceOf newest false space
      → IsWritten (repair_writing limits most limit space number) desk.files cert ending → ProvesTheRepair
  repaired_proves newest number space goes is_named is_space whole =
      let made = whole.whole.0 in
      record {
        newest = newest;
        read = goes;
        number = number;
        is_named = is_named;
        space = space;
        is_space = is_space;
        repair = whole.made;
        text = whole.text;
        accepted = whole.whole.0;
        in_order = whole.whole.1;
        files = files ∙ ap (λ (e : Ending). e.files) whole.is;
        says = hold space limits whole.text made.0 (header_with limit number most) whole.made is_space.space made.1 made.2;
        printed = subst (λ (t : List ℕ). Grew t out out') (ap (λ (e : Ending). e.out) whole.is ∙ whole.told) printed;
        status = status_is ∙ ap (λ (e : Ending). e.status) whole.is;
      }

  pub repair_proves : RepairStages desk.files limits packages named most (Repairs desk.files limits cert most limit) ending → ProvesTheRepair
  repair_proves (inl ends) = absurd (refusal_not_carried_out desk.files ending (packages_refuses desk.files limits packages ending ends) carried)
  repair_proves (inr (newest, goes, inl ends)) =
      absurd (refusal_not_carried_out desk.files ending (named_refuses desk.files newest.packages named ending ends) carried)
  repair_proves (inr (newest, goes, inr (number, is_named, inl ends))) =
      absurd (refusal_not_carried_out desk.files ending (plain_space_refuses desk.files limits newest ending ends) carried)
  repair_proves (inr (newest, goes, inr (number, is_named, inr (space, made, inl ends)))) =
      absurd (refusal_not_carried_out desk.files ending (numbers_refuse (PassesWith space most limits) desk.files ending ends) carried)
  repair_proves (inr (newest, goes, inr (number, is_named, inr (space, made, inr (_, kept, inl whole))))) =
      repaired_proves newest number space goes is_named made.0 whole
  repair_proves (inr (newest, goes, inr (number, is_named, inr (space, made, inr (_, kept, inr stopped))))) =
      absurd (subst (λ (e : Ending). IsCarriedOut e.status) stopped.is carried)

-- ---- `steps`

module _ (limits : Limits) (packages later : List ℕ) (desk desk' : DeskView) (out out' : SinkView) (ending : Ending)
    (files : desk'.files ≡ ending.files) (printed : Grew ending.out out out') where
  abbrev Proves : Type 0
  Proves = (ending.status ≡ Done → ProvesPlan limits packages later desk desk' out out')
      × (ending.status ≡ NotAFuture → ProvesMisfit limits packages later desk desk' out out')

  refusal_proves : IsRefusal desk.files ending → Proves
  refusal_proves r = (
    (λ done. absurd (refusal_not_carried_out desk.files ending r (subst IsCarriedOut (sym done) tt))),
    λ misfit. absurd (refusal_not_a_misfit desk.files ending r misfit),
  )

  module _ (r l : PackageList) (space : SpaceView) (read : PackagesStage desk.files limits packages (Goes r))
      (read_later : PackagesStage desk.files limits later (Goes l)) (is_space : IsSpaceOfFile false r space) where
    pair : (tells : TellsLater desk.files space l ending) → AreCompared limits packages later desk
    pair tells = record {
      newest = space.repository;
      newest_later = tells.later;
      space = space;
      read = (r, read, is_space.0);
      read_later = (l, read_later, tells.is_newest);
      is_space = is_space.1;
    }

    later_proves : TellsLater desk.files space l ending → Proves
    unfolding pair
    later_proves tells =
        elim tells.tells [
          | inl plan ↦ (
            (λ done. record {
              compared = pair tells;
              steps = plan.steps;
              is_plan = plan.is_plan;
              leads = plan.leads;
              taken = plan.taken;
              printed = subst (λ (e : Ending). Grew e.out out out') plan.is printed;
              files = files ∙ ap (λ (e : Ending). e.files) plan.is;
            }),
            λ misfit. let status = ap (λ (e : Ending). e.status) plan.is in cc,
          )
          | inr misfit ↦ (
            (λ done. let status = ap (λ (e : Ending). e.status) misfit.is in cc),
            λ not. record {
              compared = pair tells;
              number = misfit.number;
              misfit = misfit.misfit;
              kept = misfit.kept;
              is_misfit = misfit.is_misfit;
              printed = subst (λ (e : Ending). Grew e.out out out') misfit.is printed;
              files = files ∙ ap (λ (e : Ending). e.files) misfit.is;
            },
          )
        ]

  pub steps_prove : StepsStages desk.files limits packages later (TellsLater desk.files) ending → Proves
  steps_prove (inl ends) = refusal_proves (packages_refuses desk.files limits packages ending ends)
  steps_prove (inr (r, goes, inl ends)) = refusal_proves (space_refuses desk.files limits false r ending ends)
  steps_prove (inr (r, goes, inr (space, made, inl ends))) = refusal_proves (packages_refuses desk.files limits later ending ends)
  steps_prove (inr (r, goes, inr (space, made, inr (l, goes', tells)))) = later_proves r l space goes goes' made.0 tells

-- ---- `follow`

module _ (right : MarksAreRight) (limits : Limits) (packages cert journal : List ℕ) (desk desk' : DeskView) (out out' : SinkView) (ending : Ending)
    (done : ending.status ≡ Done) (files : desk'.files ≡ ending.files) (printed : Grew ending.out out out') where
  abbrev ProvesIt : Type 0
  ProvesIt = ProvesFollow limits packages cert journal desk desk' out out'

  not_refused : IsRefusal desk.files ending → ProvesIt
  not_refused r = absurd (refusal_not_carried_out desk.files ending r (subst IsCarriedOut (sym done) tt))

  followed_proves : (r : PackageList) (accepted : Header × List Claim) (space : SpaceView) (text : List ℕ)
      → PackagesStage desk.files limits packages (Goes r) → CertificateStage desk.files limits cert r (Goes accepted)
      → SpaceStage desk.files limits accepted.0.essential r (Goes space) → TextStage desk.files journal limits.bytes (Goes text)
      → TellsFollowed desk.files limits.stanzas space accepted text ending → ProvesIt
  followed_proves r accepted space text goes judged made whole told = record {
    repository = r;
    read = goes;
    header = accepted.0;
    made = accepted.1;
    present = judged.present;
    accepted = judged.answers;
    marks = right r limits;
    space = space;
    is_space = made.0;
    text = text;
    read_journal = whole;
    archive = told.archive;
    count = told.count;
    followed = told.followed;
    list = told.list;
    are_told = told.are_told;
    true_lines = told.true_lines;
    stay = told.stay;
    printed = subst (λ (e : Ending). Grew e.out out out') told.is printed;
    files = files ∙ ap (λ (e : Ending). e.files) told.is;
  }

  pub follow_proves : FollowStages desk.files limits packages cert journal (TellsFollowed desk.files limits.stanzas) ending → ProvesIt
  follow_proves (inl ends) = not_refused (packages_refuses desk.files limits packages ending ends)
  follow_proves (inr (r, goes, inl ends)) = not_refused (check_refuses (CertificateAnswers r limits) desk.files cert ending ends)
  follow_proves (inr (r, goes, inr (accepted, judged, inl ends))) = not_refused (space_refuses desk.files limits accepted.0.essential r ending ends)
  follow_proves (inr (r, goes, inr (accepted, judged, inr (space, made, inl ends)))) =
      not_refused (text_refuses desk.files journal limits.bytes ending ends)
  follow_proves (inr (r, goes, inr (accepted, judged, inr (space, made, inr (text, whole, inl ends))))) =
      not_refused (journal_refuses desk.files limits.stanzas space text ending ends)
  follow_proves (inr (r, goes, inr (accepted, judged, inr (space, made, inr (text, whole, inr (_, followed, told)))))) =
      followed_proves r accepted space text goes judged made whole told

-- ---- runs

module _ (words : List (List ℕ)) (limits : Limits) (result : Status) (desk desk' : DeskView) (out out' err err' : SinkView)
    (runs : Runs words limits result desk desk' out out' err err') where
  -- a status that no end has which may come at any time
  pub decided : result ≢ ReadFault → result ≢ WriteFault → result ≢ NoMemory → (line : CommandLine) → command_of words ≡ Some line
      → CommandDecides line desk.files limits runs.ending
  decided read written stored line is = of_line words desk.files limits line runs.ending is (decides runs.comes)
    where
      decides : Comes words desk.files limits runs.ending → Decides words desk.files limits runs.ending
      decides (inl of_inputs) = of_inputs
      decides (inr interrupted) =
          elim (interrupted_status words desk.files limits runs.ending interrupted) [
            | inl e ↦ absurd (read (runs.ends.status ∙ e))
            | inr (inl e) ↦ absurd (written (runs.ends.status ∙ e))
            | inr (inr e) ↦ absurd (stored (runs.ends.status ∙ e))
          ]

  module _ (carried : IsCarriedOut result) where
    carried_line : (line : CommandLine) → command_of words ≡ Some line → CommandDecides line desk.files limits runs.ending
    carried_line = decided (λ e. subst IsCarriedOut e carried) (λ e. subst IsCarriedOut e carried) (λ e. subst IsCarriedOut e carried)

    ended : IsCarriedOut runs.ending.status
    ended = subst IsCarriedOut runs.ends.status carried

  pub sweep_proved : ClaimsHold → MarksAreRight → SweepIsProved words limits result desk desk' out out'
  sweep_proved hold right kind packages cert essential limit is carried =
      sweep_proves hold right limits kind packages cert essential limit result desk desk' out out' runs.ending runs.ends.status (ended carried) runs.ends.files
      runs.ends.printed (carried_line carried (Sweep kind packages cert essential limit) is)

  pub check_proved : MarksAreRight → CheckIsProved words limits result desk desk' out out'
  check_proved right packages cert is carried =
      check_proves right limits packages cert result desk desk' out out' runs.ending runs.ends.status (ended carried) runs.ends.files runs.ends.printed
      (carried_line carried (Check packages cert) is)

  pub explain_proved : ExplanationsHold → ExplainIsProved words limits result desk desk' out out'
  explain_proved hold packages cert named limit is carried =
      explain_proves hold limits packages cert named limit result desk desk' out out' runs.ending runs.ends.status (ended carried) runs.ends.files
      runs.ends.printed (carried_line carried (Explain packages cert named limit) is)

  pub check_explain_proved : CheckExplainIsProved words limits result desk desk' out out'
  check_explain_proved packages cert is carried =
      check_explain_proves limits packages cert result desk desk' out out' runs.ending runs.ends.status (ended carried) runs.ends.files runs.ends.printed
      (carried_line carried (CheckExplain packages cert) is)

  pub repair_proved : RepairsHold → RepairIsProved words limits result desk desk' out out'
  repair_proved hold packages cert named most limit is carried =
      repair_proves hold limits packages cert named most limit result desk desk' out out' runs.ending runs.ends.status (ended carried) runs.ends.files
      runs.ends.printed (carried_line carried (RepairLine packages cert named most limit) is)

  pub check_repair_proved : CheckRepairIsProved words limits result desk desk' out out'
  check_repair_proved packages cert is carried =
      check_repair_proves limits packages cert result desk desk' out out' runs.ending runs.ends.status (ended carried) runs.ends.files runs.ends.printed
      (carried_line carried (CheckRepair packages cert) is)

  steps_come : (packages later : List ℕ) → CommandDecides (Steps packages later) desk.files limits runs.ending
      → (runs.ending.status ≡ Done → ProvesPlan limits packages later desk desk' out out')
      × (runs.ending.status ≡ NotAFuture → ProvesMisfit limits packages later desk desk' out out')
  steps_come packages later = steps_prove limits packages later desk desk' out out' runs.ending runs.ends.files runs.ends.printed

  pub steps_proved : StepsAreProved words limits result desk desk' out out'
  steps_proved packages later is = (
    λ done. (steps_come packages later (decided (λ e. cc) (λ e. cc) (λ e. cc) (Steps packages later) is)).0 (sym runs.ends.status ∙ done),
    λ misfit. (steps_come packages later (decided (λ e. cc) (λ e. cc) (λ e. cc) (Steps packages later) is)).1 (sym runs.ends.status ∙ misfit),
  )

  pub follow_proved : MarksAreRight → FollowIsProved words limits result desk desk' out out'
  follow_proved right packages cert journal is done =
      follow_proves right limits packages cert journal desk desk' out out' runs.ending (sym runs.ends.status ∙ done) runs.ends.files runs.ends.printed
      (decided (λ e. cc) (λ e. cc) (λ e. cc) (Follow packages cert journal) is)
