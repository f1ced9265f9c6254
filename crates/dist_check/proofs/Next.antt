-- The verdict on the next claim, and what is noted behind a line.
use Rattle.std.proofs.Common.{◌≡◌, inl, inr, ℕ, ◌+◌, ◌<◌, ◌≤◌, ◌^◌, Bool, true, false, List, [], ◌∷◌, ◌++◌, Option, Some, None, length, refl, sym, ap, subst}
use Rattle.std.proofs.Common.{◌∙◌, arith, length-append}
use Rattle.std.specs.List.{Any}
use Rattle.std.proofs.lemmas.Bool.{cases_Bool}
use Rattle.std.proofs.lemmas.List.{append-nil}
use Rattle.std.proofs.lemmas.Grind.{flat_map-append}
use Rattle.dist_clause.specs.Formula.{Literal, value_of}
use Rattle.dist_cert.specs.Rising.{is_among}
use Rattle.dist_subject.specs.MemberLaws.{model-alike, value-among}
use Rattle.dist_subject.specs.Present.{truth_of}
use Rattle.dist_cert.specs.declared.faults.CertCause.{CertCause}
use Rattle.dist_cert.specs.declared.faults.CertCause.TheVariants as causes
use Rattle.dist_outside.specs.declared.limits.Limits.{Limits}
use Rattle.dist_repo.specs.PackageList.{PackageList}
use Rattle.dist_cert.specs.declared.records.CertKind.{CertKind}
use Rattle.dist_cert.specs.declared.records.CertKind.TheVariants as kinds
use Rattle.dist_cert.specs.declared.records.CertRecord.{CertRecord}
use Rattle.dist_cert.specs.declared.records.CertRecord.TheVariants as lines
use Rattle.dist_cert.specs.declared.records.Claim.{Claim}
use Rattle.dist_cert.specs.declared.records.Header.{Header}
use Rattle.dist_cert.specs.Form.{KeepsRules, Word}
use Rattle.dist_cert.specs.GroupLaws.{none-first}
use Rattle.dist_cert.specs.Groups.{IsOpen, installed_in, installations, is_claim, claimed, claim_count, group}
use Rattle.dist_cert.specs.Accepted.{claim_in, claims_in}
use Rattle.dist_cert.specs.LineRules.{HasRecordFault}
use Rattle.dist_cert.specs.Subject.{Matter}
use Rattle.dist_check_group.specs.Window.{WindowView, latest}
use Rattle.dist_check_group.specs.Group.{GroupView}
use Rattle.dist_check_group.specs.Layout.{present}
use Rattle.dist_check_state.specs.State.{Allows, Answers, Installs, StateView, Tells, after_claim, after_line, is_next}
use Rattle.dist_judge.specs.LineLaws.{HaveForms}
use Rattle.dist_line_check.specs.Checker.{CheckerView}
use Rattle.dist_line_check.specs.Kinds.{FirstFault, IsKept, finds_nothing, is_common}
use Rattle.dist_line_check.specs.LinesAt.{AreRight, IsQuestionOf, JudgesMembers}
use Rattle.dist_line_check.specs.VerdictLaws.{IsVerdict}
use Rattle.dist_subject.specs.Basis.{Basis, Today, Later, IsBasisOf, matter_of}
use Rattle.dist_check.specs.AtPrivate.{IsGroupOf, IsAt}
use Rattle.dist_check.specs.CheckedPrivate.{AreInputsOf}
use Rattle.dist_check.specs.Start.{IsStart}
use Rattle.dist_check.proofs.ClosingVerdicts.{IsWrongNumber, end-verdict, installable-verdict, unknown-verdict, outdated-verdict, alive-verdict, wrong-number}
use Rattle.dist_check.proofs.ChallengedVerdict.{challenged-verdict}
use Rattle.dist_check.proofs.Steps.{installed-push, installed-same, latest-push, group-first, group-same}
use Rattle.dist_check.proofs.Steps.{group-installed, group-refuted, group-undecided, group-after_claim}
use Rattle.dist_check.proofs.StrongVerdicts.{strong-verdict}
use Rattle.dist_check.proofs.Counts.{claim-count-push}

-- ---- the verdict

-- truth values and members of a list make the same clauses true
pub judges : (matter : Matter) → AreInputsOf matter → JudgesMembers matter
judges matter mean members = (
  λ both. model-alike (value_of (truth_of matter.variables members)) (is_among members) matter.variables (value-among matter.variables members)
      matter.inputs mean.over ((mean.models.exactly members).0 both),
  λ model. (mean.models.exactly members).1 (model-alike (is_among members) (value_of (truth_of matter.variables members)) matter.variables
      (λ v from upto. sym (value-among matter.variables members v from upto)) matter.inputs mean.over model),
)

-- of a claim or of the end
pub own-verdict : (matter : Matter) (h : Header) (before : List CertRecord) (s : StateView)
    → IsAt matter h before s → AreRight matter h before → HaveForms before
    → (step : CertRecord) → KeepsRules step → is_common step ≡ false → (found : Option CertCause) → Tells s step found
    → IsVerdict matter h before step found
own-verdict matter h before s at right forms (lines.NotInstallable p) rules own found told = installable-verdict matter h before s at p found told
own-verdict matter h before s at right forms (lines.Unknown p) rules own found told = unknown-verdict matter h before s at p found told
own-verdict matter h before s at right forms (lines.Strong p named on undecided) rules own found told =
    strong-verdict matter h before s at right forms p named on undecided rules found told
own-verdict matter h before s at right forms (lines.Outdated p) rules own found told = outdated-verdict matter h before s at p found told
own-verdict matter h before s at right forms (lines.Alive p number) rules own found told = alive-verdict matter h before s at p number rules.1 found told
own-verdict matter h before s at right forms (lines.Challenged p named by undecided) rules own found told =
    challenged-verdict matter h before s at p named by undecided rules found told
own-verdict matter h before s at right forms lines.End rules own found told = end-verdict matter h before s at found told
own-verdict matter h before s at right forms step rules own found told = absurd (let e = own in cc)

-- the first fault of the kind of file is that of the record
pub first-fault : (matter : Matter) (h : Header) (before : List CertRecord) (step : CertRecord) (found : Option CertCause)
    → IsVerdict matter h before step found → FirstFault (HasRecordFault matter h before step) found
first-fault matter h before step None none = none
first-fault matter h before step (Some cause) first = first

-- ---- what is noted behind a line

counts-same : (before : List CertRecord) (step : CertRecord) → claimed step ≡ [] → claim_count before ≡ claim_count (before ++ step ∷ [])
counts-same before step none = omega (arith, claim-count-push before step, ap (λ (ns : List ℕ). length ns) none)

claims-same : (before : List CertRecord) (step : CertRecord) → claim_in step ≡ [] → claims_in before ≡ claims_in (before ++ step ∷ [])
claims-same before step none = sym (flat_map-append claim_in before (step ∷ [])
    ∙ ap (λ (cs : List Claim). claims_in before ++ cs) (append-nil (claim_in step) ∙ none) ∙ append-nil (claims_in before))

claims-more : (before : List CertRecord) (step : CertRecord) → claims_in before ++ claim_in step ≡ claims_in (before ++ step ∷ [])
claims-more before step = sym (flat_map-append claim_in before (step ∷ []) ∙ ap (λ (cs : List Claim). claims_in before ++ cs) (append-nil (claim_in step)))

-- a line that is no claim and installs nothing
plain-step : (matter : Matter) (h : Header) (before : List CertRecord) (s : StateView) → IsAt matter h before s
    → (step : CertRecord) → claimed step ≡ [] → claim_in step ≡ [] → installed_in step ≡ [] → (kept : GroupView)
    → IsGroupOf s.layout (group (before ++ step ∷ [])) (present s.layout.kind s.next) kept
    → IsAt matter h (before ++ step ∷ []) (record s { group = kept })
plain-step matter h before s at step no_number no_claim no_members kept g = record {
  packages = at.packages;
  kind = at.kind;
  layout = at.layout;
  same = at.same;
  kept = at.kept ∙ ap latest (installed-same before step no_members);
  count = at.count ∙ ap (λ (ms : List (List ℕ)). length ms) (installed-same before step no_members);
  next = at.next ∙ ap (λ (n : ℕ). n + 1) (counts-same before step no_number);
  group_is = g;
  claims = at.claims ∙ claims-same before step no_claim;
}

-- a line that finds nothing
pub found-nothing : (matter : Matter) (h : Header) (before : List CertRecord) (step : CertRecord) (s : StateView) → finds_nothing step ≡ true
    → IsAt matter h before s → IsAt matter h (before ++ step ∷ []) s
found-nothing matter h before (lines.Question literals) s nothing at =
    plain-step matter h before s at (lines.Question literals) refl refl refl s.group
    (group-same s.layout before (lines.Question literals) (present s.layout.kind s.next) s.group refl refl (λ hints e. cc) (λ e. cc) at.group_is)
found-nothing matter h before (lines.Derived literals hints) s nothing at =
    plain-step matter h before s at (lines.Derived literals hints) refl refl refl s.group
    (group-same s.layout before (lines.Derived literals hints) (present s.layout.kind s.next) s.group refl refl (λ hs e. cc) (λ e. cc) at.group_is)
found-nothing matter h before step s nothing at = absurd (let e = nothing in cc)

pub refuted : (matter : Matter) (h : Header) (s t : StateView) (question : List Word) (before earlier since : List CertRecord) (hints : List ℕ)
    → Answers s question true t → IsOpen before earlier question since → IsAt matter h before s
    → IsAt matter h (before ++ lines.Refuted hints ∷ []) t
refuted matter h s t question before earlier since hints is asked at =
    subst (IsAt matter h (before ++ lines.Refuted hints ∷ [])) (sym is.rest)
    (plain-step matter h before s at (lines.Refuted hints) refl refl refl t.group
    (group-refuted s.layout before earlier question since hints (present s.layout.kind s.next) s.group t.group asked is.noted at.group_is))

pub left-undecided : (matter : Matter) (h : Header) (s t : StateView) (question : List Word) (before earlier since : List CertRecord)
    → Answers s question false t → IsOpen before earlier question since → IsAt matter h before s
    → IsAt matter h (before ++ lines.Undecided ∷ []) t
left-undecided matter h s t question before earlier since is asked at =
    subst (IsAt matter h (before ++ lines.Undecided ∷ [])) (sym is.rest)
    (plain-step matter h before s at lines.Undecided refl refl refl t.group
    (group-undecided s.layout before earlier question since (present s.layout.kind s.next) s.group t.group asked is.noted at.group_is))

pub installed : (matter : Matter) (h : Header) (s t : StateView) (variables : List ℕ) (before : List CertRecord)
    → Installs s variables t → IsAt matter h before s → IsAt matter h (before ++ lines.Installation variables ∷ []) t
installed matter h s t variables before is at =
    let step = lines.Installation variables in
    subst (IsAt matter h (before ++ step ∷ [])) (sym is.rest) (record {
      packages = at.packages;
      kind = at.kind;
      layout = at.layout;
      same = at.same;
      kept = ap (λ (ms : List (List ℕ)). latest (ms ++ variables ∷ [])) at.kept ∙ latest-push (installations before) variables
          ∙ ap latest (sym (installed-push before step));
      count = omega (
        arith,
        at.count,
        ap (λ (ms : List (List ℕ)). length ms) (installed-push before step),
        length-append (installations before) (variables ∷ []),
      );
      next = at.next ∙ ap (λ (n : ℕ). n + 1) (counts-same before step refl);
      group_is = group-installed s.layout before variables (present s.layout.kind s.next) s.group t.group is.grows at.group_is;
      claims = at.claims ∙ claims-same before step refl;
    })

-- a claim on the next package
claim-step : (matter : Matter) (h : Header) (before : List CertRecord) (s : StateView) → IsAt matter h before s
    → (step : CertRecord) → is_claim step ≡ true → length (claimed step) ≡ 1 → installed_in step ≡ []
    → IsAt matter h (before ++ step ∷ []) (after_claim s (claim_in step))
claim-step matter h before s at step claim one no_members = record {
  packages = at.packages;
  kind = at.kind;
  layout = at.layout;
  same = at.same;
  kept = at.kept ∙ ap latest (installed-same before step no_members);
  count = at.count ∙ ap (λ (ms : List (List ℕ)). length ms) (installed-same before step no_members);
  next = omega (arith, at.next, claim-count-push before step, one);
  group_is = group-after_claim s.layout before step (present s.layout.kind (s.next + 1)) claim;
  claims = ap (λ (cs : List Claim). cs ++ claim_in step) at.claims ∙ claims-more before step;
}

pub claimed-or-ended : (matter : Matter) (h : Header) (s : StateView) (before : List CertRecord) (step : CertRecord) → is_common step ≡ false
    → IsAt matter h before s → IsAt matter h (before ++ step ∷ []) (after_line s step)
claimed-or-ended matter h s before (lines.NotInstallable p) own at = claim-step matter h before s at (lines.NotInstallable p) refl refl refl
claimed-or-ended matter h s before (lines.Unknown p) own at = claim-step matter h before s at (lines.Unknown p) refl refl refl
claimed-or-ended matter h s before (lines.Strong p named on undecided) own at =
    claim-step matter h before s at (lines.Strong p named on undecided) refl refl refl
claimed-or-ended matter h s before (lines.Outdated p) own at = claim-step matter h before s at (lines.Outdated p) refl refl refl
claimed-or-ended matter h s before (lines.Alive p i) own at = claim-step matter h before s at (lines.Alive p i) refl refl refl
claimed-or-ended matter h s before (lines.Challenged p named by undecided) own at =
    claim-step matter h before s at (lines.Challenged p named by undecided) refl refl refl
claimed-or-ended matter h s before lines.End own at =
    plain-step matter h before s at lines.End refl refl refl s.group
    (group-same s.layout before lines.End (present s.layout.kind s.next) s.group refl refl (λ hints e. cc) (λ e. cc) at.group_is)
claimed-or-ended matter h s before step own at = absurd (let e = own in cc)

-- a claim without a fault is on the next package
on-next : (matter : Matter) (h : Header) (before : List CertRecord) (s : StateView) → IsAt matter h before s → (p : ℕ)
    → ¬ Any (IsWrongNumber before matter) (p ∷ []) → is_next s.next s.packages p ≡ true
on-next matter h before s at p right = elim (cases_Bool (is_next s.next s.packages p)) [
  | inl next ↦ next
  | inr other ↦ absurd (right (wrong-number matter h before s at p other))
]

pub allowed : (matter : Matter) (h : Header) (s : StateView) (before : List CertRecord) (step : CertRecord) → IsAt matter h before s
    → ((cause : CertCause) → ¬ HasRecordFault matter h before step cause) → Allows s step
allowed matter h s before (lines.NotInstallable p) at none = on-next matter h before s at p (none causes.OutOfOrder)
allowed matter h s before (lines.Unknown p) at none = on-next matter h before s at p (none causes.OutOfOrder)
allowed matter h s before (lines.Strong p named on undecided) at none = on-next matter h before s at p (none causes.OutOfOrder)
allowed matter h s before (lines.Outdated p) at none = on-next matter h before s at p (none causes.OutOfOrder)
allowed matter h s before (lines.Alive p i) at none = on-next matter h before s at p (none causes.OutOfOrder)
allowed matter h s before (lines.Challenged p named by undecided) at none = on-next matter h before s at p (none causes.OutOfOrder)
allowed matter h s before step at none = tt

-- how many installations there may be
few-installations : (lines : List CertRecord) → length (installations lines) ≤ length lines
few-installations [] = omega arith
few-installations (lines.Installation variables ∷ steps) = let rest = few-installations steps in omega (arith, rest)
few-installations (step ∷ steps) = let rest = few-installations steps in omega (arith, rest)

pub count-fits : (matter : Matter) (h : Header) (before : List CertRecord) (s : StateView) → IsAt matter h before s → length before + 1 < 2 ^ 64
    → s.window.count + 1 < 2 ^ 64
count-fits matter h before s at fits = omega (arith, at.count, few-installations before, fits)

-- ---- before the first line

-- of kind strong each set stands for the one future, and the packages are the variables
strong-basis : (r : PackageList) (kind : CertKind) (essential : Bool) (basis : Basis) → IsBasisOf r kind essential basis → kind ≡ kinds.Strong
    → ((members : List ℕ) → (matter_of r basis).IsFuture members) × ((matter_of r basis).variables ≡ (matter_of r basis).packages)
strong-basis r kinds.Strong essential (Today mode inputs) is strong = ((λ members. tt), refl)
strong-basis r kinds.Strong essential (Later s inputs) is strong = absurd is
strong-basis r kinds.Outdated essential basis is strong = cc
strong-basis r kinds.Challenged essential basis is strong = cc

pub starts-at : (r : PackageList) (limits : Limits) (h : Header) (c : CheckerView) (s : StateView) (start : IsStart r limits h c s)
    → IsAt (matter_of r start.basis) h [] s
starts-at r limits h c s start = record {
  packages = start.packages;
  kind = start.kind;
  layout = start.layout;
  same = λ strong. (strong-basis r h.kind h.essential start.basis start.is_basis strong).1;
  kept = ap (λ (w : WindowView). w.kept) start.window;
  count = ap (λ (w : WindowView). w.count) start.window;
  next = start.next;
  group_is = subst (IsGroupOf s.layout [] (present s.layout.kind s.next)) (sym start.group_is) (group-first s.layout (present s.layout.kind s.next));
  claims = start.claims;
}

pub starts-kept : (r : PackageList) (limits : Limits) (h : Header) (c : CheckerView) (s : StateView) (start : IsStart r limits h c s)
    → AreInputsOf (matter_of r start.basis) → IsKept (matter_of r start.basis) h [] c
starts-kept r limits h c s start mean =
    let matter = matter_of r start.basis in record {
      limit_is = start.limit;
      log_of = record {
        clauses = start.clauses ∙ sym (append-nil matter.inputs);
        inputs_are = start.inputs ∙ ap (λ (cs : List (List Literal)). length cs) start.clauses;
        variables = start.variables;
      };
      question_of = subst (IsQuestionOf matter.inputs []) (sym start.question) none-first;
      future_is = start.future;
      judges = judges matter mean;
      today = λ strong. (strong-basis r h.kind h.essential start.basis start.is_basis strong).0;
    }
