-- The ends of the stages are refusals, and the statuses of the ends that inputs decide.
use Rattle.std.proofs.Common.{◌≡◌, ℕ, Bool, true, false, List, [], inl, inr, Option, Result, ap, sym, ◌∙◌, subst}
use Rattle.std.specs.List.{list_any}
use Rattle.dist_outside.specs.Files.{Files}
use Rattle.dist_outside.specs.declared.limits.Limits.{Limits}
use Rattle.dist_outside.specs.declared.trouble.What.{What}
use Rattle.dist_outside.specs.declared.trouble.What.TheVariants as what
use Rattle.dist_outside.specs.declared.trouble.WorkError.TheVariants as work
use Rattle.dist_package.specs.declared.error.PackagesError.{PackagesError}
use Rattle.dist_package.specs.declared.error.PackagesError.TheVariants as packages_error
use Rattle.dist_now.specs.declared.kinds.Health.{Health as Judgement}
use Rattle.dist_now.specs.declared.kinds.Health.TheVariants as health
use Rattle.dist_repo.specs.PackageList.{PackageList}
use Rattle.dist_repo.specs.declared.package.Package.{Package}
use Rattle.dist_space.specs.Space.{SpaceView}
use Rattle.dist_journal.specs.declared.fault.FollowError.{FollowError}
use Rattle.dist_journal.specs.declared.fault.FollowError.TheVariants as follow_error
use Rattle.dist_history.specs.FollowText.{follow_text}
use Rattle.dist_history.specs.PlanText.{misfit_text, plan_text}
use Rattle.dist_explain.specs.ExplanationFiles.{PassesFirst as ExplainPasses}
use Rattle.dist_repair.specs.RepairFiles.{PassesWith}
use Rattle.dist_repair.specs.Verdicts.{is_undecided}
use Rattle.dist_cert.specs.declared.faults.ReadCertError.{ReadCertError}
use Rattle.dist_cert.specs.declared.faults.ReadCertError.TheVariants.{Bad, Work}
use Rattle.dist_cert.specs.declared.records.CertKind.TheVariants as kinds
use Rattle.dist_subject.specs.Limited.{PassesFirst}
use Rattle.dist_trial.specs.Summary.{has_marks}
use Rattle.dist_words.specs.CommandLine.{CommandLine, Health, Classes, Sweep, Check, CheckExplain, Explain, CheckRepair}
use Rattle.dist_words.specs.CommandLine.{Repair, Try, Steps, Follow}
use Rattle.dist_commands.specs.Check.{CertificateAnswers}
use Rattle.dist_commands.specs.CheckExplain.{ExplanationReads, leaves_undecided}
use Rattle.dist_commands.specs.CheckRepair.{RepairReads}
use Rattle.dist_commands.specs.CheckedFile.{CheckStage, IsEndOfError}
use Rattle.dist_commands.specs.Claims.{has_mark, marked_status}
use Rattle.dist_commands.specs.Command.{CommandDecides, CommandRefuses, CommandIsGivenUp}
use Rattle.dist_commands.specs.Follow.{IsEndOfJournal, JournalStage}
use Rattle.dist_app.specs.Headline.{IsCarriedOut}
use Rattle.dist_commands.specs.Health.{ListStage, Tells}
use Rattle.dist_commands.specs.NamedStage.{NamedStage}
use Rattle.dist_commands.specs.PackagesStage.{PackagesStage}
use Rattle.dist_commands.specs.Refusal.{status_of, refusal_text}
use Rattle.dist_commands.specs.Repair.{PlainSpaceStage}
use Rattle.dist_commands.specs.RepositoryStage.{IsEndOf}
use Rattle.dist_app.specs.Run.{Decides, Refuses}
use Rattle.dist_commands.specs.Stages.{Ending, Ends, answered, refused}
use Rattle.dist_commands.specs.SpaceStage.{SpaceStage}
use Rattle.dist_commands.specs.Steps.{TellsLater}
use Rattle.dist_commands.specs.TextStage.{TextStage}
use Rattle.dist_commands.specs.Try.{ArchiveStage}
use Rattle.dist_commands.specs.WrittenFile.{NumbersStage}
use Rattle.dist_commands.specs.declared.refusal.Refusal.{Refusal}
use Rattle.dist_commands.specs.declared.refusal.Refusal.TheVariants as refusal
use Rattle.dist_commands.specs.declared.status.Status.{Status}
use Rattle.dist_commands.specs.declared.status.Status.TheVariants.{Done, BadWords, ReadFault, WriteFault, NoMemory}
use Rattle.dist_commands.specs.declared.status.Status.TheVariants.{NotAFuture}

-- the statuses that the files and the limits may decide
abbrev pub IsOfFiles : Status → Type 0
IsOfFiles BadWords = ⊥
IsOfFiles ReadFault = ⊥
IsOfFiles WriteFault = ⊥
IsOfFiles NoMemory = ⊥
IsOfFiles _ = Unit {0}

-- a refusal that they decide
pub record IsRefusal (files : Option Files) (ending : Ending) : Type 0 where
  pub why : Refusal
  pub of_files : IsOfFiles (status_of why)
  pub is : ending ≡ refused files why

-- a refusal has a line
pub told_not_empty : (r : Refusal) → ¬ (refusal_text r ≡ [])
told_not_empty r is = cc

pub refusal_told : (files : Option Files) (ending : Ending) → IsRefusal files ending → ¬ (ending.err ≡ [])
refusal_told files ending r empty = told_not_empty r.why (sym (ap (λ (e : Ending). e.err) r.is) ∙ empty)

pub refusal_status : (files : Option Files) (ending : Ending) → IsRefusal files ending → IsOfFiles ending.status
refusal_status files ending r = subst (λ (e : Ending). IsOfFiles e.status) (sym r.is) r.of_files

-- a refusal is carried out in no case
pub not_carried_out : (r : Refusal) → ¬ IsCarriedOut (status_of r)
not_carried_out refusal.BadWords out = out
not_carried_out (refusal.BadPackages fault) out = out
not_carried_out (refusal.CertificateRefused fault) out = out
not_carried_out refusal.ReadFault out = out
not_carried_out refusal.WriteFault out = out
not_carried_out refusal.NoMemory out = out
not_carried_out (refusal.TooLarge limit) out = out
not_carried_out (refusal.BadList line) out = out
not_carried_out (refusal.BadJournal line fault) out = out
not_carried_out refusal.NoSuchPackage out = out

-- nor does it end as a later archive does that is no future
pub not_a_misfit : (r : Refusal) → ¬ (status_of r ≡ NotAFuture)
not_a_misfit refusal.BadWords is = cc
not_a_misfit (refusal.BadPackages fault) is = cc
not_a_misfit (refusal.CertificateRefused fault) is = cc
not_a_misfit refusal.ReadFault is = cc
not_a_misfit refusal.WriteFault is = cc
not_a_misfit refusal.NoMemory is = cc
not_a_misfit (refusal.TooLarge limit) is = cc
not_a_misfit (refusal.BadList line) is = cc
not_a_misfit (refusal.BadJournal line fault) is = cc
not_a_misfit refusal.NoSuchPackage is = cc

pub refusal_not_a_misfit : (files : Option Files) (ending : Ending) → IsRefusal files ending → ¬ (ending.status ≡ NotAFuture)
refusal_not_a_misfit files ending r is = not_a_misfit r.why (sym (ap (λ (e : Ending). e.status) r.is) ∙ is)

pub refusal_not_carried_out : (files : Option Files) (ending : Ending) → IsRefusal files ending → ¬ IsCarriedOut ending.status
refusal_not_carried_out files ending r out = not_carried_out r.why (subst (λ (e : Ending). IsCarriedOut e.status) r.is out)

-- ---- stages

pub text_refuses : (files : Option Files) (name : List ℕ) (limit : ℕ) (ending : Ending) → TextStage files name limit (Ends ending) → IsRefusal files ending
text_refuses files name limit ending (longer, is) = record { why = refusal.TooLarge what.Bytes; of_files = tt; is = is }

end_refuses : (files : Option Files) (error : PackagesError) (ending : Ending) → IsEndOf files error ending → IsRefusal files ending
end_refuses files (packages_error.Bad fault) ending is = record { why = refusal.BadPackages fault; of_files = tt; is = is }
end_refuses files packages_error.TooMany ending is = record { why = refusal.TooLarge what.Stanzas; of_files = tt; is = is }
end_refuses files packages_error.NoMemory ending is = absurd is

pub packages_refuses : (files : Option Files) (limits : Limits) (name : List ℕ) (ending : Ending) → PackagesStage files limits name (Ends ending)
    → IsRefusal files ending
packages_refuses files limits name ending (inl ends) = text_refuses files name limits.bytes ending ends
packages_refuses files limits name ending (inr (text, goes, (error, refuses, is))) = end_refuses files error ending is

list_refuses : (files : Option Files) (packages : List Package) (text : List ℕ) (ending : Ending) → ListStage files packages text (Ends ending)
    → IsRefusal files ending
list_refuses files packages text ending (line, bad, is) = record { why = refusal.BadList line; of_files = tt; is = is }

pub numbers_refuse : (Passes : What → Type 0) (files : Option Files) (ending : Ending) → NumbersStage Passes files (Ends ending) → IsRefusal files ending
numbers_refuse Passes files ending (number, passes, is) = record { why = refusal.TooLarge number; of_files = tt; is = is }

pub plain_space_refuses : (files : Option Files) (limits : Limits) (newest : PackageList) (ending : Ending)
    → PlainSpaceStage files limits newest (Ends ending) → IsRefusal files ending
plain_space_refuses files limits newest ending (more, is) = record { why = refusal.TooLarge what.Variables; of_files = tt; is = is }

pub named_refuses : (files : Option Files) (packages : List Package) (text : List ℕ) (ending : Ending) → NamedStage files packages text (Ends ending)
    → IsRefusal files ending
named_refuses files packages text ending (none, is) = record { why = refusal.NoSuchPackage; of_files = tt; is = is }

error_refuses : (files : Option Files) (error : ReadCertError) (ending : Ending) → IsEndOfError files error ending → IsRefusal files ending
error_refuses files (Bad fault) ending is = record { why = refusal.CertificateRefused fault; of_files = tt; is = is }
error_refuses files (Work (work.TooLarge limit)) ending is = record { why = refusal.TooLarge limit; of_files = tt; is = is }
error_refuses files (Work work.ReadFault) ending end = absurd end
error_refuses files (Work work.WriteFault) ending end = absurd end
error_refuses files (Work work.NoMemory) ending end = absurd end

pub check_refuses : {X : Type 0} (Answers : List ℕ → Result X ReadCertError → Type 0) (files : Option Files) (name : List ℕ) (ending : Ending)
    → CheckStage Answers files name (Ends ending) → IsRefusal files ending
check_refuses Answers files name ending (error, judged, end) = error_refuses files error ending end

pub space_refuses : (files : Option Files) (limits : Limits) (essential : Bool) (r : PackageList) (ending : Ending)
    → SpaceStage files limits essential r (Ends ending) → IsRefusal files ending
space_refuses files limits essential r ending (more, is) = record { why = refusal.TooLarge what.Variables; of_files = tt; is = is }

journal_end_refuses : (files : Option Files) (error : FollowError) (ending : Ending) → IsEndOfJournal files error ending → IsRefusal files ending
journal_end_refuses files (follow_error.Bad line fault) ending is = record { why = refusal.BadJournal line fault; of_files = tt; is = is }
journal_end_refuses files follow_error.TooMany ending is = record { why = refusal.TooLarge what.Stanzas; of_files = tt; is = is }
journal_end_refuses files follow_error.NoMemory ending is = absurd is

pub journal_refuses : (files : Option Files) (stanzas : ℕ) (space : SpaceView) (journal : List ℕ) (ending : Ending)
    → JournalStage files stanzas space journal (Ends ending) → IsRefusal files ending
journal_refuses files stanzas space journal ending (error, stopped, end) = journal_end_refuses files error ending end

archive_refuses : (files : Option Files) (limits : Limits) (size seed : ℕ) (ending : Ending) → ArchiveStage files limits size seed (Ends ending)
    → IsRefusal files ending
archive_refuses files limits size seed ending (inl (longer, is)) = record { why = refusal.TooLarge what.Bytes; of_files = tt; is = is }
archive_refuses files limits size seed ending (inr (within, many, is)) = record { why = refusal.TooLarge what.Stanzas; of_files = tt; is = is }

-- ---- commands

command_refuses : (line : CommandLine) (files : Option Files) (limits : Limits) (ending : Ending) → CommandRefuses line files limits ending
    → IsRefusal files ending
command_refuses (Health packages list) files limits ending (inl p) = packages_refuses files limits packages ending p
command_refuses (Health packages list) files limits ending (inr (r, goes, inl t)) = text_refuses files list limits.bytes ending t
command_refuses (Health packages list) files limits ending (inr (r, goes, inr (names, whole, inl l))) = list_refuses files r.packages names ending l
command_refuses (Health packages list) files limits ending (inr (r, goes, inr (names, whole, inr (members, has, none)))) = absurd none
command_refuses (Classes packages) files limits ending (inl p) = packages_refuses files limits packages ending p
command_refuses (Classes packages) files limits ending (inr (r, goes, none)) = absurd none
command_refuses (Sweep kind packages cert essential limit) files limits ending (inl p) = packages_refuses files limits packages ending p
command_refuses (Sweep kind packages cert essential limit) files limits ending (inr (r, goes, inl c)) =
    numbers_refuse (PassesFirst r kind essential limits) files ending c
command_refuses (Sweep kind packages cert essential limit) files limits ending (inr (r, goes, inr (_, kept, none))) = absurd none
command_refuses (Check packages cert) files limits ending (inl p) = packages_refuses files limits packages ending p
command_refuses (Check packages cert) files limits ending (inr (r, goes, inl c)) = check_refuses (CertificateAnswers r limits) files cert ending c
command_refuses (Check packages cert) files limits ending (inr (r, goes, inr (accepted, judged, none))) = absurd none
command_refuses (CheckExplain packages cert) files limits ending (inl p) = packages_refuses files limits packages ending p
command_refuses (CheckExplain packages cert) files limits ending (inr (r, goes, inl c)) = check_refuses (ExplanationReads r limits) files cert ending c
command_refuses (CheckExplain packages cert) files limits ending (inr (r, goes, inr (accepted, judged, none))) = absurd none
command_refuses (Explain packages cert named limit) files limits ending (inl p) = packages_refuses files limits packages ending p
command_refuses (Explain packages cert named limit) files limits ending (inr (r, goes, inl n)) = named_refuses files r.packages named ending n
command_refuses (Explain packages cert named limit) files limits ending (inr (r, goes, inr (number, is_named, inl c))) =
    numbers_refuse (ExplainPasses r limits) files ending c
command_refuses (Explain packages cert named limit) files limits ending (inr (r, goes, inr (number, is_named, inr (_, kept, none)))) = absurd none
command_refuses (CheckRepair packages cert) files limits ending (inl p) = packages_refuses files limits packages ending p
command_refuses (CheckRepair packages cert) files limits ending (inr (r, goes, inl s)) = space_refuses files limits false r ending s
command_refuses (CheckRepair packages cert) files limits ending (inr (r, goes, inr (space, made, inl c))) =
    check_refuses (RepairReads space limits) files cert ending c
command_refuses (CheckRepair packages cert) files limits ending (inr (r, goes, inr (space, made, inr (accepted, judged, none)))) = absurd none
command_refuses (Repair packages cert named most limit) files limits ending (inl p) = packages_refuses files limits packages ending p
command_refuses (Repair packages cert named most limit) files limits ending (inr (newest, goes, inl n)) =
    named_refuses files newest.packages named ending n
command_refuses (Repair packages cert named most limit) files limits ending (inr (newest, goes, inr (number, is_named, inl s))) =
    plain_space_refuses files limits newest ending s
command_refuses (Repair packages cert named most limit) files limits ending (inr (newest, goes, inr (number, is_named, inr (space, made, inl c)))) =
    numbers_refuse (PassesWith space most limits) files ending c
command_refuses (Repair packages cert named most limit) files limits ending
    (inr (newest, goes, inr (number, is_named, inr (space, made, inr (_, kept, none))))) = absurd none
command_refuses (Try size seed) files limits ending (inl a) = archive_refuses files limits size seed ending a
command_refuses (Try size seed) files limits ending (inr (r, goes, c)) = numbers_refuse (PassesFirst r kinds.Strong false limits) files ending c
command_refuses (Steps packages later) files limits ending (inl p) = packages_refuses files limits packages ending p
command_refuses (Steps packages later) files limits ending (inr (r, goes, inl s)) = space_refuses files limits false r ending s
command_refuses (Steps packages later) files limits ending (inr (r, goes, inr (space, made, inl p))) = packages_refuses files limits later ending p
command_refuses (Steps packages later) files limits ending (inr (r, goes, inr (space, made, inr (l, goes', none)))) = absurd none
command_refuses (Follow packages cert journal) files limits ending (inl p) = packages_refuses files limits packages ending p
command_refuses (Follow packages cert journal) files limits ending (inr (r, goes, inl c)) = check_refuses (CertificateAnswers r limits) files cert ending c
command_refuses (Follow packages cert journal) files limits ending (inr (r, goes, inr (accepted, judged, inl s))) =
    space_refuses files limits accepted.0.essential r ending s
command_refuses (Follow packages cert journal) files limits ending (inr (r, goes, inr (accepted, judged, inr (space, made, inl t)))) =
    text_refuses files journal limits.bytes ending t
command_refuses (Follow packages cert journal) files limits ending (inr (r, goes, inr (accepted, judged, inr (space, made, inr (text, whole, inl j))))) =
    journal_refuses files limits.stanzas space text ending j
command_refuses (Follow packages cert journal) files limits ending
    (inr (r, goes, inr (accepted, judged, inr (space, made, inr (text, whole, inr (_, followed, none)))))) = absurd none

pub refuses_told : (words : List (List ℕ)) (files : Option Files) (limits : Limits) (ending : Ending) → Refuses words files limits ending → ¬ (ending.err ≡ [])
refuses_told words files limits ending (inl (bad, is)) empty = told_not_empty refusal.BadWords (sym (ap (λ (e : Ending). e.err) is) ∙ empty)
refuses_told words files limits ending (inr (line, is_line, refuses)) empty = refusal_told files ending (command_refuses line files limits ending refuses) empty

-- ---- statuses

told_status : (packages : List Package) (kind : Judgement) (status : Status) (line : List ℕ) → Tells packages kind status line → IsOfFiles status
told_status packages health.Healthy status line tells = subst IsOfFiles (sym tells.0) tt
told_status packages (health.TwoVersions p q) status line tells = subst IsOfFiles (sym tells.0) tt
told_status packages (health.Unmet p place) status line tells = subst IsOfFiles (sym tells.0) tt
told_status packages (health.Conflict p q) status line tells = subst IsOfFiles (sym tells.0) tt
told_status packages (health.EssentialMissing p) status line tells = absurd tells.1

mark_of_files : (marked : Bool) → IsOfFiles (marked_status marked)
mark_of_files true = tt
mark_of_files false = tt

pub mark_carried_out : (marked : Bool) → IsCarriedOut (marked_status marked)
mark_carried_out true = tt
mark_carried_out false = tt

with_status : (ending other : Ending) → ending ≡ other → IsOfFiles other.status → IsOfFiles ending.status
with_status ending other is of = subst (λ (e : Ending). IsOfFiles e.status) (sym is) of

later_status : (files : Option Files) (space : SpaceView) (l : PackageList) (ending : Ending) → TellsLater files space l ending → IsOfFiles ending.status
later_status files space l ending told =
    elim told.tells [
      | inl plan ↦ with_status ending (answered files Done (plan_text space plan.steps)) plan.is tt
      | inr misfit ↦ with_status ending (answered files NotAFuture (misfit_text misfit.misfit)) misfit.is tt
    ]

pub command_status : (line : CommandLine) (files : Option Files) (limits : Limits) (ending : Ending) → CommandDecides line files limits ending
    → IsOfFiles ending.status
command_status (Health packages list) files limits ending (inl p) = refusal_status files ending (packages_refuses files limits packages ending p)
command_status (Health packages list) files limits ending (inr (r, goes, inl t)) = refusal_status files ending (text_refuses files list limits.bytes ending t)
command_status (Health packages list) files limits ending (inr (r, goes, inr (names, whole, inl l))) =
    refusal_status files ending (list_refuses files r.packages names ending l)
command_status (Health packages list) files limits ending (inr (r, goes, inr (names, whole, inr (members, has, judges)))) =
    with_status ending (answered files judges.status judges.line) judges.is (told_status r.packages judges.health judges.status judges.line judges.tells)
command_status (Classes packages) files limits ending (inl p) = refusal_status files ending (packages_refuses files limits packages ending p)
command_status (Classes packages) files limits ending (inr (r, goes, tells)) = with_status ending (answered files Done tells.text) tells.is tt
command_status (Sweep kind packages cert essential limit) files limits ending (inl p) =
    refusal_status files ending (packages_refuses files limits packages ending p)
command_status (Sweep kind packages cert essential limit) files limits ending (inr (r, goes, inl c)) =
    refusal_status files ending (numbers_refuse (PassesFirst r kind essential limits) files ending c)
command_status (Sweep kind packages cert essential limit) files limits ending (inr (r, goes, inr (_, kept, inl swept))) =
    subst (λ (e : Ending). IsOfFiles e.status) (sym swept.is) (mark_of_files (list_any has_mark swept.made))
command_status (Sweep kind packages cert essential limit) files limits ending (inr (r, goes, inr (_, kept, inr stopped))) =
    subst (λ (e : Ending). IsOfFiles e.status) (sym stopped.is) tt
command_status (Check packages cert) files limits ending (inl p) = refusal_status files ending (packages_refuses files limits packages ending p)
command_status (Check packages cert) files limits ending (inr (r, goes, inl c)) =
    refusal_status files ending (check_refuses (CertificateAnswers r limits) files cert ending c)
command_status (Check packages cert) files limits ending (inr (r, goes, inr (accepted, judged, reports))) =
    subst (λ (e : Ending). IsOfFiles e.status) (sym reports.is) (mark_of_files (list_any has_mark accepted.1))
command_status (CheckExplain packages cert) files limits ending (inl p) = refusal_status files ending (packages_refuses files limits packages ending p)
command_status (CheckExplain packages cert) files limits ending (inr (r, goes, inl c)) =
    refusal_status files ending (check_refuses (ExplanationReads r limits) files cert ending c)
command_status (CheckExplain packages cert) files limits ending (inr (r, goes, inr (accepted, judged, told))) =
    subst (λ (e : Ending). IsOfFiles e.status) (sym told.is) (mark_of_files (leaves_undecided accepted.1))
command_status (Explain packages cert named limit) files limits ending (inl p) = refusal_status files ending (packages_refuses files limits packages ending p)
command_status (Explain packages cert named limit) files limits ending (inr (r, goes, inl n)) =
    refusal_status files ending (named_refuses files r.packages named ending n)
command_status (Explain packages cert named limit) files limits ending (inr (r, goes, inr (number, is_named, inl c))) =
    refusal_status files ending (numbers_refuse (ExplainPasses r limits) files ending c)
command_status (Explain packages cert named limit) files limits ending (inr (r, goes, inr (number, is_named, inr (_, kept, inl whole)))) =
    subst (λ (e : Ending). IsOfFiles e.status) (sym whole.is) (mark_of_files (leaves_undecided whole.made))
command_status (Explain packages cert named limit) files limits ending (inr (r, goes, inr (number, is_named, inr (_, kept, inr stopped)))) =
    subst (λ (e : Ending). IsOfFiles e.status) (sym stopped.is) tt
command_status (CheckRepair packages cert) files limits ending (inl p) = refusal_status files ending (packages_refuses files limits packages ending p)
command_status (CheckRepair packages cert) files limits ending (inr (r, goes, inl s)) =
    refusal_status files ending (space_refuses files limits false r ending s)
command_status (CheckRepair packages cert) files limits ending (inr (r, goes, inr (space, made, inl c))) =
    refusal_status files ending (check_refuses (RepairReads space limits) files cert ending c)
command_status (CheckRepair packages cert) files limits ending (inr (r, goes, inr (space, made, inr (accepted, judged, told)))) =
    subst (λ (e : Ending). IsOfFiles e.status) (sym told.is) (mark_of_files (is_undecided accepted.1))
command_status (Repair packages cert named most limit) files limits ending (inl p) =
    refusal_status files ending (packages_refuses files limits packages ending p)
command_status (Repair packages cert named most limit) files limits ending (inr (newest, goes, inl n)) =
    refusal_status files ending (named_refuses files newest.packages named ending n)
command_status (Repair packages cert named most limit) files limits ending (inr (newest, goes, inr (number, is_named, inl s))) =
    refusal_status files ending (plain_space_refuses files limits newest ending s)
command_status (Repair packages cert named most limit) files limits ending (inr (newest, goes, inr (number, is_named, inr (space, made, inl c)))) =
    refusal_status files ending (numbers_refuse (PassesWith space most limits) files ending c)
command_status (Repair packages cert named most limit) files limits ending
    (inr (newest, goes, inr (number, is_named, inr (space, made, inr (_, kept, inl whole))))) =
    subst (λ (e : Ending). IsOfFiles e.status) (sym whole.is) (mark_of_files (is_undecided whole.made))
command_status (Repair packages cert named most limit) files limits ending
    (inr (newest, goes, inr (number, is_named, inr (space, made, inr (_, kept, inr stopped))))) =
    subst (λ (e : Ending). IsOfFiles e.status) (sym stopped.is) tt
command_status (Try size seed) files limits ending (inl a) = refusal_status files ending (archive_refuses files limits size seed ending a)
command_status (Try size seed) files limits ending (inr (r, goes, tries)) =
    elim tries.comes [
      | inl told ↦ subst (λ (e : Ending). IsOfFiles e.status) (sym told.is) (mark_of_files (has_marks told.strong told.outdated told.challenged))
      | inr stopped ↦ subst (λ (e : Ending). IsOfFiles e.status) (sym stopped.is) tt
    ]
command_status (Steps packages later) files limits ending (inl p) = refusal_status files ending (packages_refuses files limits packages ending p)
command_status (Steps packages later) files limits ending (inr (r, goes, inl s)) =
    refusal_status files ending (space_refuses files limits false r ending s)
command_status (Steps packages later) files limits ending (inr (r, goes, inr (space, made, inl p))) =
    refusal_status files ending (packages_refuses files limits later ending p)
command_status (Steps packages later) files limits ending (inr (r, goes, inr (space, made, inr (l, goes', told)))) =
    later_status files space l ending told
command_status (Follow packages cert journal) files limits ending (inl p) = refusal_status files ending (packages_refuses files limits packages ending p)
command_status (Follow packages cert journal) files limits ending (inr (r, goes, inl c)) =
    refusal_status files ending (check_refuses (CertificateAnswers r limits) files cert ending c)
command_status (Follow packages cert journal) files limits ending (inr (r, goes, inr (accepted, judged, inl s))) =
    refusal_status files ending (space_refuses files limits accepted.0.essential r ending s)
command_status (Follow packages cert journal) files limits ending (inr (r, goes, inr (accepted, judged, inr (space, made, inl t)))) =
    refusal_status files ending (text_refuses files journal limits.bytes ending t)
command_status (Follow packages cert journal) files limits ending (inr (r, goes, inr (accepted, judged, inr (space, made, inr (text, whole, inl j))))) =
    refusal_status files ending (journal_refuses files limits.stanzas space text ending j)
command_status (Follow packages cert journal) files limits ending
    (inr (r, goes, inr (accepted, judged, inr (space, made, inr (text, whole, inr (_, followed, told)))))) =
    with_status ending (answered files Done (follow_text space told.archive told.count told.list)) told.is tt

-- a command that was given up while it wrote ends with the status of why
pub given_up_status : (line : CommandLine) (files : Option Files) (limits : Limits) (why : Refusal) (ending : Ending)
    → CommandIsGivenUp line files limits why ending → ending.status ≡ status_of why
given_up_status (Health packages list) files limits why ending given_up = absurd given_up
given_up_status (Classes packages) files limits why ending given_up = absurd given_up
given_up_status (Sweep kind packages cert essential limit) files limits why ending given_up = ap (λ (e : Ending). e.status) given_up.is
given_up_status (Check packages cert) files limits why ending given_up = absurd given_up
given_up_status (CheckExplain packages cert) files limits why ending given_up = absurd given_up
given_up_status (Explain packages cert named limit) files limits why ending given_up = ap (λ (e : Ending). e.status) given_up.is
given_up_status (CheckRepair packages cert) files limits why ending given_up = absurd given_up
given_up_status (Repair packages cert named most limit) files limits why ending given_up = ap (λ (e : Ending). e.status) given_up.is
given_up_status (Try size seed) files limits why ending given_up = absurd given_up
given_up_status (Steps packages later) files limits why ending given_up = absurd given_up
given_up_status (Follow packages cert journal) files limits why ending given_up = absurd given_up

not_of_files : (status other : Status) → IsOfFiles status → status ≡ other → IsOfFiles other
not_of_files status other of is = subst IsOfFiles is of

pub not_read_fault : (words : List (List ℕ)) (files : Option Files) (limits : Limits) (ending : Ending) → Decides words files limits ending
    → ¬ (ending.status ≡ ReadFault)
not_read_fault words files limits ending (inl (bad, is)) status = let e = ap (λ (x : Ending). x.status) is in cc
not_read_fault words files limits ending (inr (line, is, decides)) status =
    not_of_files ending.status ReadFault (command_status line files limits ending decides) status

pub not_write_fault : (words : List (List ℕ)) (files : Option Files) (limits : Limits) (ending : Ending) → Decides words files limits ending
    → ¬ (ending.status ≡ WriteFault)
not_write_fault words files limits ending (inl (bad, is)) status = let e = ap (λ (x : Ending). x.status) is in cc
not_write_fault words files limits ending (inr (line, is, decides)) status =
    not_of_files ending.status WriteFault (command_status line files limits ending decides) status
