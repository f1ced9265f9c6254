-- What an undisturbed run comes to, from the end that it promises.
use Rattle.std.proofs.Common.{◌≡◌, ◌⊎◌, ℕ, Bool, false, List, inl, inr, Option, Some, Result, ap, sym, ◌∙◌, subst}
use Rattle.std.specs.List.{list_any}
use Rattle.dist_base.specs.ListLaws.{within-from}
use Rattle.dist_base.specs.declared.TheConstants.{DEFAULT_LIMIT}
use Rattle.dist_outside.specs.Counts.{Rose}
use Rattle.dist_outside.specs.DeskView.{DeskView}
use Rattle.dist_outside.specs.Files.{Files, with_file}
use Rattle.dist_outside.specs.SinkView.{SinkView}
use Rattle.dist_outside.specs.declared.limits.Limits.{Limits}
use Rattle.dist_outside.specs.declared.trouble.What.{What}
use Rattle.dist_repo.specs.Order.{IsInOrder, IsLatestOf}
use Rattle.dist_repo.specs.PackageList.{PackageList}
use Rattle.dist_space.specs.Space.{SpaceView}
use Rattle.dist_history.specs.PlanText.{misfit_text, plan_text}
use Rattle.dist_now.specs.Health.{IsHealth}
use Rattle.dist_now.specs.declared.kinds.Health.{Health as Judgement}
use Rattle.dist_now.specs.declared.kinds.Health.TheVariants as health
use Rattle.dist_budget.specs.Budget.{IsBelowBudget}
use Rattle.dist_repair_search.specs.SearchAnswers.{header_with}
use Rattle.dist_cert.specs.Part.{IsStoppedBy}
use Rattle.dist_cert.specs.declared.faults.ReadCertError.{ReadCertError}
use Rattle.dist_cert.specs.declared.records.CertKind.{CertKind}
use Rattle.dist_cert.specs.declared.records.Claim.{Claim}
use Rattle.dist_cert.specs.declared.records.Header.{Header}
use Rattle.dist_explain.specs.ExplanationFiles.{PassesFirst as ExplainPasses}
use Rattle.dist_list.specs.NamedPackage.{IsNamed}
use Rattle.dist_repair.specs.RepairFiles.{PassesWith}
use Rattle.dist_repair.specs.Verdicts.{is_undecided}
use Rattle.dist_journal.specs.declared.fault.FollowError.{FollowError}
use Rattle.dist_journal.specs.declared.fault.FollowError.TheVariants as follow_error
use Rattle.dist_history.specs.FollowText.{follow_text}
use Rattle.dist_subject.specs.Basis.{matter_of}
use Rattle.dist_sweep.specs.Sweep.{IsFull, OfSweep}
use Rattle.dist_trial.specs.Summary.{has_marks}
use Rattle.dist_trial.specs.Trial.{IsStoppedAt}
use Rattle.dist_words.specs.CommandLine.{CommandLine, Health, Classes, Sweep, Check, CheckExplain, Explain, CheckRepair}
use Rattle.dist_words.specs.CommandLine.{Repair as RepairLine, Try, Steps, Follow}
use Rattle.dist_words.specs.Table.{command_of}
use Rattle.dist_commands.specs.Check.{CertificateAnswers, CertificateStage, Reports}
use Rattle.dist_commands.specs.CheckExplain.{ExplanationReads, ExplanationStage, TellsExplained, leaves_undecided}
use Rattle.dist_commands.specs.CheckRepair.{RepairReads, RepairStage, TellsRepair}
use Rattle.dist_commands.specs.CheckedFile.{IsOneAnswer}
use Rattle.dist_commands.specs.Claims.{has_mark, marked_status}
use Rattle.dist_commands.specs.Classes.{TellsClasses}
use Rattle.dist_commands.specs.Command.{CommandDecides, CommandIsGivenUp, IsApart}
use Rattle.dist_app.specs.LawsPrivate.{HaveOneEnd, HaveOneHealth, BudgetsSuffice, Laws}
use Rattle.dist_app.specs.Complete.{Completes, ExplainComesTo, ExplainStopsBelow, IsComplete, IsStatusOfFile, IsStatusOfJournal}
use Rattle.dist_app.specs.Complete.{IsStatusOfLater, IsStatusOfRefused, IsStatusOfSet}
use Rattle.dist_app.specs.Complete.{IsUndisturbed, StopsBelowBudget, TrialIsComplete, stop_status, told_claims, told_explained}
use Rattle.dist_app.specs.Complete.{RepairComesTo, RepairStopsBelow, told_repair}
use Rattle.dist_commands.specs.Explain.{Explains}
use Rattle.dist_commands.specs.Follow.{IsEndOfJournal, JournalStage, JournalStages, TellsFollowed}
use Rattle.dist_commands.specs.FollowPrivate.{AfterCertificate}
use Rattle.dist_app.specs.Headline.{IsCarriedOut}
use Rattle.dist_commands.specs.Health.{Judges, ListStage, ListStages, Tells}
use Rattle.dist_commands.specs.NamedStage.{NamedStage}
use Rattle.dist_commands.specs.OneSpaceLaws.{HaveOneNewest}
use Rattle.dist_commands.specs.PackagesStage.{PackagesStage}
use Rattle.dist_commands.specs.Repair.{NewestStage, PlainSpaceStage, Repairs}
use Rattle.dist_app.specs.Run.{Comes, Decides, IsRunGivenUp, Runs}
use Rattle.dist_commands.specs.Stages.{Ending, Goes, Then, answered}
use Rattle.dist_commands.specs.SpaceStage.{SpaceStage}
use Rattle.dist_commands.specs.Steps.{IsNewestIn, TellsLater}
use Rattle.dist_commands.specs.Sweeps.{InputsStage, Sweeps}
use Rattle.dist_commands.specs.TextStage.{TextStage}
use Rattle.dist_commands.specs.Try.{ArchiveStage, Tries}
use Rattle.dist_commands.specs.WrittenFile.{NumbersStage}
use Rattle.dist_commands.specs.declared.refusal.Refusal.{Refusal}
use Rattle.dist_commands.specs.declared.refusal.Refusal.TheVariants as refusal
use Rattle.dist_commands.specs.declared.status.Status.{Status}
use Rattle.dist_commands.specs.declared.status.Status.TheVariants.{Done, WriteFault, NoMemory, TooLarge, NotAFuture}
use Rattle.dist_commands.specs.declared.status.Status.TheVariants.{NoSuchPackage}
use Rattle.dist_app.proofs.CommandLaws.{one_line, archive_determined, inputs_determined, in_order, list_determined}
use Rattle.dist_app.proofs.CommandLaws.{certificate_determined, named_determined, numbers_determined, packages_determined}
use Rattle.dist_app.proofs.CommandLaws.{counted_determined, newest_determined, newest_order, plain_determined, space_determined, text_determined}
use Rattle.dist_app.proofs.Headlines.{of_line}
use Rattle.dist_app.proofs.Judgements.{comes_to, judged_first}
use Rattle.dist_app.proofs.OneVerdict.{certificates_once, explanations_once, repairs_once}
use Rattle.dist_app.proofs.Refused.{mark_carried_out}
use Rattle.dist_app.proofs.StageLaws.{then_goes}

-- the status of an end
status_from : (e f : Ending) → e ≡ f → e.status ≡ f.status
status_from e f is = ap (λ (x : Ending). x.status) is

-- ---- each command, of files that are told

-- kinds of health apart from a healthy set
other_kind : (one : HaveOneHealth) (r : PackageList) (members : List Bool) (kind : Judgement) → IsHealth r false members kind → (health.Healthy ≡ kind → ⊥)
    → ¬ IsHealth r false members health.Healthy
other_kind one r members kind is apart healthy = apart (one r false members kind health.Healthy is healthy)

told_set : (one : HaveOneHealth) (r : PackageList) (members : List Bool) (kind : Judgement) (status : Status) (line : List ℕ) → IsHealth r false members kind
    → Tells r.packages kind status line → IsStatusOfSet r members status
told_set one r members health.Healthy status line is tells = inl (tells.0, is)
told_set one r members (health.TwoVersions p q) status line is tells = inr (tells.0, other_kind one r members (health.TwoVersions p q) is (λ e. cc))
told_set one r members (health.Unmet p place) status line is tells = inr (tells.0, other_kind one r members (health.Unmet p place) is (λ e. cc))
told_set one r members (health.Conflict p q) status line is tells = inr (tells.0, other_kind one r members (health.Conflict p q) is (λ e. cc))
told_set one r members (health.EssentialMissing p) status line is tells = absurd tells.1

judged_set : (one : HaveOneHealth) (files : Option Files) (r : PackageList) (members : List Bool) (ending : Ending) → Judges files r members ending
    → IsStatusOfSet r members ending.status
judged_set one files r members ending j =
    subst (λ (s : Status). IsStatusOfSet r members s) (sym (status_from ending (answered files j.status j.line) j.is))
    (told_set one r members j.health j.status j.line j.is_health j.tells)

health_ends : Laws → (files : Files) (limits : Limits) (packages list : List ℕ) (r : PackageList) (text : List ℕ) (members : List Bool) (ending : Ending)
    → PackagesStage (Some files) limits packages (Goes r) → TextStage (Some files) list limits.bytes (Goes text)
    → ListStage (Some files) r.packages text (Goes members)
    → CommandDecides (Health packages list) (Some files) limits ending → IsStatusOfSet r members ending.status
health_ends laws files limits packages list r text members ending read whole names decides =
    judged_set laws.health (Some files) r members ending
    (then_goes (ListStage (Some files) r.packages text) (Judges (Some files) r) (list_determined laws.texts (Some files) r.packages text) members names ending
    (then_goes (TextStage (Some files) list limits.bytes) (λ names. Then (ListStage (Some files) r.packages names) (Judges (Some files) r))
    (text_determined files list limits.bytes) text whole ending
    (then_goes (PackagesStage (Some files) limits packages) (λ x. ListStages (Some files) limits x list (Judges (Some files) x))
    (packages_determined laws.texts files limits packages)
    r read ending decides)))

classes_end : Laws → (files : Files) (limits : Limits) (packages : List ℕ) (r : PackageList) (ending : Ending)
    → PackagesStage (Some files) limits packages (Goes r) → CommandDecides (Classes packages) (Some files) limits ending → ending.status ≡ Done
classes_end laws files limits packages r ending read decides =
    let tells = then_goes (PackagesStage (Some files) limits packages) (TellsClasses (Some files)) (packages_determined laws.texts files limits packages) r read
    ending decides in
    status_from ending (answered (Some files) Done tells.text) tells.is

-- what a sweep leaves
abbrev pub SweepComesTo : (files left : Option Files) → Limits → CertKind → (cert : List ℕ) → Bool → ℕ → PackageList → Status → Type 0
SweepComesTo files left limits kind cert essential limit r status =
    IsCarriedOut status ⊎ ((text : List ℕ) × StopsBelowBudget r kind essential limit limits status text × (left ≡ with_file files cert text))

pub carried_marks : (status : Status) (marked : Bool) → status ≡ marked_status marked → IsCarriedOut status
carried_marks status marked is = subst IsCarriedOut (sym is) (mark_carried_out marked)

pub below_budget : BudgetsSuffice → (r : PackageList) (kind : CertKind) (essential : Bool) (limit : ℕ) (limits : Limits) (what : What) (text : List ℕ)
    → IsFull r kind essential limit limits what text
    → OfSweep r kind essential limit (λ basis h. IsStoppedBy (matter_of r basis) limits h text what × IsBelowBudget limits kind (matter_of r basis) limit what)
below_budget budgets r kind essential limit limits what text (basis, are, stopped) =
    (basis, are, (stopped, budgets r kind essential limit limits basis text what are stopped))

pub sweep_comes_to : Laws → (files : Option Files) (limits : Limits) (kind : CertKind) (cert : List ℕ) (essential : Bool) (limit : ℕ) (r : PackageList)
    (ending : Ending)
    → Sweeps files limits kind cert essential limit r ending → SweepComesTo files ending.files limits kind cert essential limit r ending.status
sweep_comes_to laws files limits kind cert essential limit r ending (inl swept) =
    inl (carried_marks ending.status (list_any has_mark swept.made) (ap (λ (x : Ending). x.status) swept.is))
sweep_comes_to laws files limits kind cert essential limit r ending (inr stopped) =
    inr (
      stopped.text,
      record {
        what = stopped.what;
        stopped = ap (λ (x : Ending). x.status) stopped.is;
        below = below_budget laws.budgets r kind essential limit limits stopped.what stopped.text stopped.full;
      },
      ap (λ (x : Ending). x.files) stopped.is,
    )

sweep_ends : Laws → (files : Files) (limits : Limits) (kind : CertKind) (packages cert : List ℕ) (essential : Bool) (limit : ℕ) (r : PackageList)
    (ending : Ending)
    → PackagesStage (Some files) limits packages (Goes r) → InputsStage (Some files) limits kind essential r (Goes tt)
    → CommandDecides (Sweep kind packages cert essential limit) (Some files) limits ending
    → SweepComesTo (Some files) ending.files limits kind cert essential limit r ending.status
sweep_ends laws files limits kind packages cert essential limit r ending read kept decides =
    sweep_comes_to laws (Some files) limits kind cert essential limit r ending
    (then_goes (InputsStage (Some files) limits kind essential r) (λ _. Sweeps (Some files) limits kind cert essential limit r)
    (inputs_determined laws.texts.numbers (Some files) limits kind essential r (in_order (Some files) limits packages r read)) tt kept ending
    (then_goes (PackagesStage (Some files) limits packages)
    (λ x. Then (InputsStage (Some files) limits kind essential x) (λ _. Sweeps (Some files) limits kind cert essential limit x))
    (packages_determined laws.texts files limits packages) r read ending decides))

abbrev TrialComesTo : Limits → PackageList → Status → Type 0
TrialComesTo limits r status =
    IsCarriedOut status ⊎ ((kind : CertKind) × (text : List ℕ) × StopsBelowBudget r kind false DEFAULT_LIMIT limits status text)

-- what each sweep is judged by keeps its numbers
abbrev AllKeep : Option Files → Limits → PackageList → Type 0
AllKeep files limits r = (kind : CertKind) → InputsStage files limits kind false r (Goes tt)

trial_stops : Laws → (files : Option Files) (limits : Limits) (r : PackageList) (kind : CertKind) (what : What) (status : Status) → status ≡ TooLarge
    → AllKeep files limits r → IsStoppedAt r kind limits what → TrialComesTo limits r status
trial_stops laws files limits r kind what status is kept (inl passes) = absurd (kept kind what passes)
trial_stops laws files limits r kind what status is kept (inr (text, full)) =
    inr (
      kind,
      text,
      record { what = what; stopped = is; below = below_budget laws.budgets r kind false DEFAULT_LIMIT limits what text full },
    )

trial_comes_to : Laws → (files : Option Files) (limits : Limits) (size : ℕ) (r : PackageList) (ending : Ending) → AllKeep files limits r
    → Tries files limits size r ending
    → TrialComesTo limits r ending.status
trial_comes_to laws files limits size r ending kept tries =
    elim tries.comes [
      | inl told ↦ inl (carried_marks ending.status (has_marks told.strong told.outdated told.challenged) (ap (λ (x : Ending). x.status) told.is))
      | inr stopped ↦ trial_stops laws files limits r stopped.kind stopped.what ending.status (ap (λ (x : Ending). x.status) stopped.is) kept stopped.stopped
    ]

trial_ends : Laws → (files : Option Files) (limits : Limits) (size seed : ℕ) (r : PackageList) (ending : Ending)
    → ArchiveStage files limits size seed (Goes r) → AllKeep files limits r
    → CommandDecides (Try size seed) files limits ending → TrialComesTo limits r ending.status
trial_ends laws files limits size seed r ending made kept decides =
    trial_comes_to laws files limits size r ending kept
    (then_goes (ArchiveStage files limits size seed) (Tries files limits size) (archive_determined laws.texts files limits size seed) r made ending decides)

check_ends : Laws → (files : Files) (limits : Limits) (packages cert : List ℕ) (r : PackageList) (ending : Ending)
    → PackagesStage (Some files) limits packages (Goes r) → CommandDecides (Check packages cert) (Some files) limits ending
    → IsStatusOfFile (CertificateAnswers r limits) (Some files) cert told_claims ending.status
check_ends laws files limits packages cert r ending read decides =
    comes_to (CertificateAnswers r limits) (certificates_once laws.texts.certificates r limits (in_order (Some files) limits packages r read)) files cert
    (Reports (Some files) r) told_claims (λ accepted e reports. ap (λ (x : Ending). x.status) reports.is) ending
    (then_goes (PackagesStage (Some files) limits packages) (λ x. Then (CertificateStage (Some files) limits cert x) (Reports (Some files) x))
    (packages_determined laws.texts files limits packages)
    r read ending decides)

check_explain_ends : Laws → (files : Files) (limits : Limits) (packages cert : List ℕ) (r : PackageList) (ending : Ending)
    → PackagesStage (Some files) limits packages (Goes r) → CommandDecides (CheckExplain packages cert) (Some files) limits ending
    → IsStatusOfFile (ExplanationReads r limits) (Some files) cert told_explained ending.status
check_explain_ends laws files limits packages cert r ending read decides =
    comes_to (ExplanationReads r limits) (explanations_once laws.texts.explanations r limits (in_order (Some files) limits packages r read)) files cert
    (TellsExplained (Some files) r) told_explained (λ accepted e told. ap (λ (x : Ending). x.status) told.is) ending
    (then_goes (PackagesStage (Some files) limits packages) (λ x. Then (ExplanationStage (Some files) limits cert x) (TellsExplained (Some files) x))
    (packages_determined laws.texts files limits packages)
    r read ending decides)

check_repair_ends : Laws → (files : Files) (limits : Limits) (packages cert : List ℕ) (r : PackageList) (space : SpaceView) (ending : Ending)
    → PackagesStage (Some files) limits packages (Goes r) → SpaceStage (Some files) limits false r (Goes space)
    → CommandDecides (CheckRepair packages cert) (Some files) limits ending
    → IsStatusOfFile (RepairReads space limits) (Some files) cert told_repair ending.status
check_repair_ends laws files limits packages cert r space ending read made decides =
    comes_to (RepairReads space limits) (repairs_once laws.texts.repairs space limits) files cert
    (TellsRepair (Some files) space) told_repair (λ accepted e told. ap (λ (x : Ending). x.status) told.is) ending
    (then_goes (SpaceStage (Some files) limits false r) (λ s. Then (RepairStage (Some files) limits cert s) (TellsRepair (Some files) s))
    (space_determined laws.texts.spaces (Some files) limits false r) space made ending
    (then_goes (PackagesStage (Some files) limits packages)
    (λ x. Then (SpaceStage (Some files) limits false x) (λ s. Then (RepairStage (Some files) limits cert s) (TellsRepair (Some files) s)))
    (packages_determined laws.texts files limits packages) r read ending decides))

-- ---- `explain`

-- the rest of a run behind each stage
module _ (limits : Limits) (cert named : List ℕ) (limit : ℕ) (files : Option Files) where
  abbrev AfterNumber : PackageList → ℕ → Ending → Type 0
  AfterNumber r number = Then (NumbersStage (ExplainPasses r limits) files) (λ _. Explains files limits cert limit r number)

  abbrev AfterRead : PackageList → Ending → Type 0
  AfterRead r = Then (NamedStage files r.packages named) (AfterNumber r)

-- what the writing of an explanation comes to
pub explain_comes_to : Laws → (files : Option Files) (limits : Limits) (cert named : List ℕ) (limit : ℕ) (r : PackageList) (number : ℕ) (ending : Ending)
    → IsNamed r.packages named number → Explains files limits cert limit r number ending
    → IsCarriedOut ending.status ⊎ ExplainStopsBelow limits cert limit r number ending.status files ending.files
explain_comes_to laws files limits cert named limit r number ending is_named (inl done) =
    inl (carried_marks ending.status (leaves_undecided done.made) (ap (λ (x : Ending). x.status) done.is))
explain_comes_to laws files limits cert named limit r number ending is_named (inr stopped) = let of = stopped.full in inr (record {
  what = stopped.what;
  text = stopped.text;
  stopped = ap (λ (x : Ending). x.status) stopped.is;
  full = stopped.full;
  left_is = ap (λ (x : Ending). x.files) stopped.is;
  relations = of.1.clauses;
  are_relations = of.1.are_clauses;
  below = laws.explain_budgets r of.1.clauses number limit limits stopped.what stopped.text (within-from _ r.packages number is_named.found)
      of.1.are_clauses stopped.full;
})

explain_ends : Laws → (files : Files) (limits : Limits) (packages cert named : List ℕ) (limit : ℕ) (r : PackageList) (ending : Ending)
    → PackagesStage (Some files) limits packages (Goes r) → CommandDecides (Explain packages cert named limit) (Some files) limits ending
    → ExplainComesTo limits cert named limit r ending.status (Some files) ending.files
explain_ends laws files limits packages cert named limit r ending read decides = record {
  none = λ nobody. none nobody rest;
  one = λ number is_named kept. explain_comes_to laws (Some files) limits cert named limit r number ending is_named
      (then_goes (NumbersStage (ExplainPasses r limits) (Some files)) (λ _. Explains (Some files) limits cert limit r number)
      (numbers_determined (ExplainPasses r limits) (λ what other. laws.texts.explain_numbers r limits what other order) (Some files)) tt kept ending
      (then_goes (NamedStage (Some files) r.packages named) (AfterNumber limits cert named limit (Some files) r)
      (named_determined laws.texts.names (Some files) r.packages named order) number is_named ending rest));
}
  where
    order : IsInOrder r.packages
    order = in_order (Some files) limits packages r read

    rest : AfterRead limits cert named limit (Some files) r ending
    rest = then_goes (PackagesStage (Some files) limits packages) (AfterRead limits cert named limit (Some files))
        (packages_determined laws.texts files limits packages) r read ending decides

    none : ((number : ℕ) → ¬ IsNamed r.packages named number) → AfterRead limits cert named limit (Some files) r ending → ending.status ≡ NoSuchPackage
    none nobody (inl (found, is)) = ap (λ (x : Ending). x.status) is
    none nobody (inr (number, is_named, after)) = absurd (nobody number is_named)

-- ---- `repair`

-- the rest of a run behind each stage
module _ (limits : Limits) (cert named : List ℕ) (most limit : ℕ) (files : Option Files) where
  abbrev AfterSpace : ℕ → SpaceView → Ending → Type 0
  AfterSpace number s = Then (NumbersStage (PassesWith s most limits) files) (λ _. Repairs files limits cert most limit s number)

  abbrev AfterName : PackageList → ℕ → Ending → Type 0
  AfterName newest number = Then (PlainSpaceStage files limits newest) (AfterSpace number)

  abbrev AfterNewest : PackageList → Ending → Type 0
  AfterNewest newest = Then (NamedStage files newest.packages named) (AfterName newest)

-- what the writing of a repair comes to
pub repair_comes_to : Laws → (files : Option Files) (limits : Limits) (cert : List ℕ) (most limit : ℕ) (space : SpaceView) (number : ℕ) (ending : Ending)
    → Repairs files limits cert most limit space number ending
    → IsCarriedOut ending.status ⊎ RepairStopsBelow limits cert most limit space number ending.status files ending.files
repair_comes_to laws files limits cert most limit space number ending (inl done) =
    inl (carried_marks ending.status (is_undecided done.made) (ap (λ (x : Ending). x.status) done.is))
repair_comes_to laws files limits cert most limit space number ending (inr stopped) = inr (record {
  what = stopped.what;
  text = stopped.text;
  stopped = ap (λ (x : Ending). x.status) stopped.is;
  full = stopped.full;
  left_is = ap (λ (x : Ending). x.files) stopped.is;
  below = laws.repair_budgets space (header_with limit number most) limits stopped.what stopped.text stopped.full;
})

repair_ends : Laws → (files : Files) (limits : Limits) (packages cert named : List ℕ) (most limit : ℕ) (newest : PackageList) (ending : Ending)
    → IsNewestIn (Some files) limits packages newest → CommandDecides (RepairLine packages cert named most limit) (Some files) limits ending
    → RepairComesTo limits cert named most limit newest ending.status (Some files) ending.files
repair_ends laws files limits packages cert named most limit newest ending read decides = record {
  none = λ nobody. none nobody rest;
  one = λ number space is_named made kept. repair_comes_to laws (Some files) limits cert most limit space number ending
      (then_goes (NumbersStage (PassesWith space most limits) (Some files)) (λ _. Repairs (Some files) limits cert most limit space number)
      (counted_determined laws.texts (Some files) space most limits) tt kept ending
      (then_goes (PlainSpaceStage (Some files) limits newest) (AfterSpace limits cert named most limit (Some files) number)
      (plain_determined laws.texts.space_of (Some files) limits newest) space made ending
      (then_goes (NamedStage (Some files) newest.packages named) (AfterName limits cert named most limit (Some files) newest)
      (named_determined laws.texts.names (Some files) newest.packages named (newest_order (Some files) limits packages newest read))
      number is_named ending rest)));
}
  where
    rest : AfterNewest limits cert named most limit (Some files) newest ending
    rest = then_goes (NewestStage (Some files) limits packages) (AfterNewest limits cert named most limit (Some files))
        (newest_determined laws.texts files limits packages) newest read ending decides

    none : ((number : ℕ) → ¬ IsNamed newest.packages named number) → AfterNewest limits cert named most limit (Some files) newest ending
        → ending.status ≡ NoSuchPackage
    none nobody (inl (found, is)) = ap (λ (x : Ending). x.status) is
    none nobody (inr (number, is_named, after)) = absurd (nobody number is_named)

-- what the newest versions of LATER come to, by those of PACKAGES
told_later : (files : Option Files) (space : SpaceView) (l : PackageList) (ending : Ending) (tells : TellsLater files space l ending)
    → IsStatusOfLater space.repository tells.later ending.status
told_later files space l ending tells =
    elim tells.tells [
      | inl plan ↦ inl (status_from ending (answered files Done (plan_text space plan.steps)) plan.is, plan.is_future)
      | inr misfit ↦ inr (status_from ending (answered files NotAFuture (misfit_text misfit.misfit)) misfit.is, misfit.is_no_future)
    ]

later_comes_to : HaveOneNewest → (files : Option Files) (space : SpaceView) (l newest_later : PackageList) (ending : Ending)
    → IsLatestOf l newest_later → TellsLater files space l ending → IsStatusOfLater space.repository newest_later ending.status
later_comes_to once files space l newest_later ending latest_later tells =
    subst (λ (x : PackageList). IsStatusOfLater space.repository x ending.status) (once l newest_later tells.later latest_later tells.is_newest)
    (told_later files space l ending tells)

steps_end : Laws → (files : Files) (limits : Limits) (packages later : List ℕ) (r l newest_later : PackageList) (space : SpaceView) (ending : Ending)
    → PackagesStage (Some files) limits packages (Goes r) → SpaceStage (Some files) limits false r (Goes space)
    → PackagesStage (Some files) limits later (Goes l)
    → IsLatestOf l newest_later → CommandDecides (Steps packages later) (Some files) limits ending
    → IsStatusOfLater space.repository newest_later ending.status
steps_end laws files limits packages later r l newest_later space ending read made read_later latest_later decides =
    later_comes_to laws.texts.newest (Some files) space l newest_later ending latest_later
    (then_goes (PackagesStage (Some files) limits later) (TellsLater (Some files) space) (packages_determined laws.texts files limits later) l read_later
    ending
    (then_goes (SpaceStage (Some files) limits false r) (λ s. Then (PackagesStage (Some files) limits later) (TellsLater (Some files) s))
    (space_determined laws.texts.spaces (Some files) limits false r) space made ending
    (then_goes (PackagesStage (Some files) limits packages)
    (λ x. Then (SpaceStage (Some files) limits false x) (λ s. Then (PackagesStage (Some files) limits later) (TellsLater (Some files) s)))
    (packages_determined laws.texts files limits packages) r read ending decides)))

-- ---- `follow`

follow_judges : Laws → (files : Files) (limits : Limits) (packages cert journal : List ℕ) (r : PackageList) (ending : Ending)
    → PackagesStage (Some files) limits packages (Goes r) → CommandDecides (Follow packages cert journal) (Some files) limits ending
    → (answer : Result (Header × List Claim) ReadCertError) × IsOneAnswer (CertificateAnswers r limits) (Some files) cert answer
    × IsStatusOfRefused answer ending.status
follow_judges laws files limits packages cert journal r ending read decides =
    judged_first (CertificateAnswers r limits) (certificates_once laws.texts.certificates r limits (in_order (Some files) limits packages r read)) files cert
    (AfterCertificate limits journal r (Some files)) ending
    (then_goes (PackagesStage (Some files) limits packages)
    (λ x. Then (CertificateStage (Some files) limits cert x) (AfterCertificate limits journal x (Some files)))
    (packages_determined laws.texts files limits packages) r read ending decides)

stopped_status : (files : Option Files) (error : FollowError) (ending : Ending) → IsEndOfJournal files error ending → ending.status ≡ stop_status error
stopped_status files (follow_error.Bad line fault) ending is = ap (λ (x : Ending). x.status) is
stopped_status files follow_error.TooMany ending is = ap (λ (x : Ending). x.status) is
stopped_status files follow_error.NoMemory ending is = absurd is

journal_comes_to : HaveOneEnd → (files : Option Files) (limits : Limits) (essential : Bool) (r : PackageList) (space : SpaceView)
    (accepted : Header × List Claim) (text : List ℕ) (ending : Ending) → SpaceStage files limits essential r (Goes space)
    → Then (JournalStage files limits.stanzas space text) (λ _. TellsFollowed files limits.stanzas space accepted text) ending
    → IsStatusOfJournal limits.stanzas space text ending.status
journal_comes_to one files limits essential r space accepted text ending made (inl (error, stopped, end)) =
    inr (error, stopped, stopped_status files error ending end)
journal_comes_to one files limits essential r space accepted text ending made (inr (_, (archive, count, followed), told)) =
    inl (
      status_from ending (answered files Done (follow_text space told.archive told.count told.list)) told.is,
      λ error stopped. (one space limits.stanzas text space.repository.packages made.0.1.space).never_both archive stopped.0 count error followed
          stopped.1,
    )

follow_ends : Laws → (files : Files) (limits : Limits) (packages cert journal : List ℕ) (r : PackageList) (accepted : Header × List Claim)
    (space : SpaceView) (text : List ℕ) (ending : Ending) → PackagesStage (Some files) limits packages (Goes r)
    → CertificateStage (Some files) limits cert r (Goes accepted) → SpaceStage (Some files) limits accepted.0.essential r (Goes space)
    → TextStage (Some files) journal limits.bytes (Goes text) → CommandDecides (Follow packages cert journal) (Some files) limits ending
    → IsStatusOfJournal limits.stanzas space text ending.status
follow_ends laws files limits packages cert journal r accepted space text ending read judged made whole decides =
    journal_comes_to laws.texts.journals (Some files) limits accepted.0.essential r space accepted text ending made
    (then_goes (TextStage (Some files) journal limits.bytes)
    (λ t. Then (JournalStage (Some files) limits.stanzas space t) (λ _. TellsFollowed (Some files) limits.stanzas space accepted t))
    (text_determined files journal limits.bytes) text whole ending
    (then_goes (SpaceStage (Some files) limits accepted.0.essential r)
    (λ s. JournalStages (Some files) limits journal s (TellsFollowed (Some files) limits.stanzas s accepted))
    (space_determined laws.texts.spaces (Some files) limits accepted.0.essential r) space made ending
    (then_goes (CertificateStage (Some files) limits cert r) (AfterCertificate limits journal r (Some files))
    (certificate_determined laws.texts.certificates files limits cert r (in_order (Some files) limits packages r read)) accepted judged ending
    (then_goes (PackagesStage (Some files) limits packages)
    (λ x. Then (CertificateStage (Some files) limits cert x) (AfterCertificate limits journal x (Some files)))
    (packages_determined laws.texts files limits packages) r read ending decides))))

-- ---- all

-- the end of an undisturbed run, of files that are told
module _ (laws : Laws) (words : List (List ℕ)) (limits : Limits) (files : Files) (ending : Ending) (decides : Decides words (Some files) limits ending) where
  pub decided_completes : Completes words limits ending.status (Some files) ending.files
  decided_completes = record {
    health = λ packages list r text members is read whole names. inr
        (health_ends laws files limits packages list r text members ending read whole names (of (Health packages list) is));
    classes = λ packages r is read. inr (classes_end laws files limits packages r ending read (of (Classes packages) is));
    sweep = λ kind packages cert essential limit r is read kept.
        inr (sweep_ends laws files limits kind packages cert essential limit r ending read kept (of (Sweep kind packages cert essential limit) is));
    check = λ packages cert r is read. inr (check_ends laws files limits packages cert r ending read (of (Check packages cert) is));
    check_explain = λ packages cert r is read.
        inr (check_explain_ends laws files limits packages cert r ending read (of (CheckExplain packages cert) is));
    explain = λ packages cert named limit r is read.
        inr (explain_ends laws files limits packages cert named limit r ending read (of (Explain packages cert named limit) is));
    check_repair = λ packages cert r space is read made.
        inr (check_repair_ends laws files limits packages cert r space ending read made (of (CheckRepair packages cert) is));
    repair = λ packages cert named most limit newest is read.
        inr (repair_ends laws files limits packages cert named most limit newest ending read (of (RepairLine packages cert named most limit) is));
    steps = λ packages later r l newest_later space is read made read_later latest_later.
        inr (steps_end laws files limits packages later r l newest_later space ending read made read_later latest_later (of (Steps packages later) is));
    follow_judges = λ packages cert journal r is read.
        inr (follow_judges laws files limits packages cert journal r ending read (of (Follow packages cert journal) is));
    follow = λ packages cert journal r accepted space text is read judged made whole.
        inr (follow_ends laws files limits packages cert journal r accepted space text ending read judged made whole
        (of (Follow packages cert journal) is));
  }
    where
      of : (line : CommandLine) → command_of words ≡ Some line → CommandDecides line (Some files) limits ending
      of line is = of_line words (Some files) limits line ending is decides

-- want of memory leaves all open
stored_out : (words : List (List ℕ)) (limits : Limits) (result : Status) (files left : Option Files) → result ≡ NoMemory
    → Completes words limits result files left
stored_out words limits result files left memory = record {
  health = λ packages list r text members is read whole names. inl memory;
  classes = λ packages r is read. inl memory;
  sweep = λ kind packages cert essential limit r is read kept. inl memory;
  check = λ packages cert r is read. inl memory;
  check_explain = λ packages cert r is read. inl memory;
  explain = λ packages cert named limit r is read. inl memory;
  check_repair = λ packages cert r space is read made. inl memory;
  repair = λ packages cert named most limit newest is read. inl memory;
  steps = λ packages later r l newest_later space is read made read_later latest_later. inl memory;
  follow_judges = λ packages cert journal r is read. inl memory;
  follow = λ packages cert journal r accepted space text is read judged made whole. inl memory;
}

module _ (laws : Laws) (words : List (List ℕ)) (limits : Limits) (result : Status) (desk desk' : DeskView) (out out' err err' : SinkView)
    (runs : Runs words limits result desk desk' out out' err err') where
  of_files : IsUndisturbed desk desk' out out' → Completes words limits result desk.files desk'.files
  of_files calm =
      elim (runs.answer_comes calm.none_of_reading calm.none_of_writing calm.none_of_printing) [
        | inl decides ↦ decided calm.tells.0 desk.files calm.tells.1 decides
        | inr memory ↦ stored_out words limits result desk.files desk'.files memory
      ]
    where
      decided : (files : Files) (told : Option Files) → told ≡ Some files → Decides words told limits runs.ending
          → Completes words limits result told desk'.files
      decided files told is decides =
          subst (λ (t : Option Files). Completes words limits result t desk'.files) (sym is)
          (subst (λ (left : Option Files). Completes words limits result (Some files) left) (sym runs.ends.files)
          (subst (λ (s : Status). Completes words limits s (Some files) runs.ending.files) (sym runs.ends.status)
          (decided_completes laws words limits files runs.ending (subst (λ (t : Option Files). Decides words t limits runs.ending) is decides))))

  module _ (none : ¬ Rose out.faults out'.faults) (size seed : ℕ) (r : PackageList) (is_line : command_of words ≡ Some (Try size seed))
      (made : ArchiveStage desk.files limits size seed (Goes r)) (kept : AllKeep desk.files limits r) where
    is_try : (line : CommandLine) → command_of words ≡ Some line → line ≡ Try size seed
    is_try line is = one_line (Try size seed) line (command_of words) is_line is

    not_given_up : (why : Refusal) (ending : Ending) → ¬ IsRunGivenUp words desk.files limits why ending
    not_given_up why ending (line, is, given_up) = subst (λ (l : CommandLine). CommandIsGivenUp l desk.files limits why ending) (is_try line is) given_up

    uncut : (result ≡ WriteFault) → ⊥
    uncut is = elim (runs.write_fault is) [ inl given_up ↦ not_given_up refusal.WriteFault runs.ending given_up.0 | inr cut ↦ none cut.1 ]

    trial_status : Comes words desk.files limits runs.ending → (result ≡ NoMemory) ⊎ TrialComesTo limits r result
    trial_status (inl decides) =
        inr (subst (TrialComesTo limits r) (sym runs.ends.status)
        (trial_ends laws desk.files limits size seed r runs.ending made kept (of_line words desk.files limits (Try size seed) runs.ending is_line decides)))
    trial_status (inr (inl (line, is, of_files, end))) = absurd (of_files (subst IsApart (sym (is_try line is)) tt))
    trial_status (inr (inr (inl end))) = inl (runs.ends.status ∙ ap (λ (e : Ending). e.status) end)
    trial_status (inr (inr (inr (inl (inl given_up))))) = absurd (not_given_up refusal.WriteFault runs.ending given_up)
    trial_status (inr (inr (inr (inl (inr given_up))))) = absurd (not_given_up refusal.NoMemory runs.ending given_up)
    trial_status (inr (inr (inr (inr (inl cut))))) = absurd (uncut (runs.ends.status ∙ ap (λ (e : Ending). e.status) cut.is))
    trial_status (inr (inr (inr (inr (inr cut))))) = inl (runs.ends.status ∙ ap (λ (e : Ending). e.status) cut.is)

  of_trials : TrialIsComplete words limits result desk.files out out'
  of_trials none size seed r is made kept = trial_status none size seed r is made kept runs.comes

  pub run_completes : IsComplete words limits result desk desk' out out'
  run_completes = record { of_files = of_files; of_trials = of_trials }
