-- What a checker begins with behind a first line.
use Rattle.std.proofs.Common.{◌≡◌, ◌≢◌, ◌↔◌, inl, inr, ℕ, ◌+◌, ◌-◌, ◌<◌, ◌≤◌, Bool, false, true, List, [], length, take, drop}
use Rattle.std.proofs.Common.{Option, None, Err, refl, sym, ap}
use Rattle.std.proofs.Common.{subst, ◌∙◌, arith}
use Rattle.std.specs.Bool.{then_some}
use Rattle.std.specs.Prelude.{All}
use Rattle.std.proofs.lemmas.Bool.{cases_lt}
use Rattle.std.proofs.lemmas.List.{drop_all, length-take}
use Rattle.std.proofs.lemmas.List.Elements.{All-drop, All-take}
use Rattle.dist_outside.specs.declared.limits.Limits.{Limits}
use Rattle.dist_outside.specs.declared.trouble.WorkError.TheVariants.{TooLarge, NoMemory}
use Rattle.dist_clause.specs.ClauseList.{ClauseList, IsWithinLimits}
use Rattle.dist_clause.specs.Formula.{Literal, IsClauseOver, IsModel, value_of}
use Rattle.dist_derive.specs.ClauseLog.{ClauseLog, IsWithinLineLimits}
use Rattle.dist_repo.specs.PackageList.{PackageList}
use Rattle.dist_space.specs.Space.{IsSpace, SpaceView, variable_of}
use Rattle.dist_space.specs.VariableLaws.{variable-range}
use Rattle.dist_space.specs.declared.meaning.Meaning.TheVariants.{Present}
use Rattle.dist_space_clauses.specs.SpaceClauses.{AreSpaceClauses}
use Rattle.dist_space_clauses.specs.declared.ends.FutureEnds.{FutureEnds}
use Rattle.dist_future.specs.FutureClauses.{AreTrueAround, MeetsFuture}
use Rattle.dist_cert.specs.declared.faults.CertCause.TheVariants.{BadHeader}
use Rattle.dist_cert.specs.declared.faults.ReadCertError.{ReadCertError}
use Rattle.dist_cert.specs.declared.faults.ReadCertError.TheVariants.{Bad, Work}
use Rattle.dist_cert.specs.declared.records.CertKind.{CertKind}
use Rattle.dist_cert.specs.declared.records.CertKind.TheVariants as kinds
use Rattle.dist_cert.specs.declared.records.Header.{Header}
use Rattle.dist_cert.specs.Rising.{is_among}
use Rattle.dist_check_group.specs.Group.{empty_group}
use Rattle.dist_check_group.specs.Layout.{LayoutView}
use Rattle.dist_check_state.specs.State.{StateView}
use Rattle.dist_line_check.specs.Checker.{CheckerView}
use Rattle.dist_line_check.specs.declared.future.FutureClauses.{FutureClauses}
use Rattle.dist_subject.specs.Basis.{IsBasisOf, IsLaterOf, Later}
use Rattle.dist_subject.specs.Later.{later_matter}
use Rattle.dist_subject.specs.Inputs.{AreInputsOf}
use Rattle.dist_subject.specs.Limited.{PassesFirst}
use Rattle.dist_subject.specs.MemberLaws.{model-alike, value-among}
use Rattle.dist_subject.specs.Present.{present_matter, truth_of}
use Rattle.dist_line_check.specs.LinesAt.{AreFuturesBy}
use Rattle.dist_check.specs.JudgedSpace.{IsSpaceGiven}
use Rattle.dist_check.specs.LaysOut.{IsCluster, LaysOut}
use Rattle.dist_check.specs.Start.{IsStart, StartAnswers}
use Rattle.dist_check.specs.StartPrivate.{HasNumbers, IsLargeFault, IsSubject}

-- ---- the packages as they are

no-cluster : (r : PackageList) (essential : Bool) (inputs : List (List Literal)) (c : ℕ) → IsCluster (present_matter r essential inputs) c → ⊥
no-cluster r essential inputs c is =
    let from : 1 ≤ c = is.0 in
    let upto : c ≤ 0 = is.1 in
    omega (arith, from, upto)

pub lays-present : (r : PackageList) (essential : Bool) (inputs : List (List Literal))
    → LaysOut (present_matter r essential inputs) (record { kind = kinds.Strong; cluster_of = []; classes = [] })
lays-present r essential inputs = record {
  present_is = λ p from upto. refl;
  clusters = refl;
  classes = λ c is. absurd (no-cluster r essential inputs c is);
  at_is = λ pair is. absurd (no-cluster r essential inputs pair.0 is.0);
  apart = λ pair other is is_other same. absurd (no-cluster r essential inputs pair.0 is.0);
  no_package = λ pair is. refl;
  today = refl;
  packages = λ c v is. absurd (no-cluster r essential inputs c is);
  own = λ p c from upto is. absurd (no-cluster r essential inputs c is);
}

-- no clause says what a future is
pub futures-present : (r : PackageList) (essential : Bool) (inputs : List (List Literal)) (n : ℕ)
    → AreFuturesBy (present_matter r essential inputs) (record { upto = 0; behind = n; last = n })
futures-present r essential inputs n members = (
  (λ future. (
    (λ k d short. absurd (omega (arith, short))),
    subst (λ (clauses : List (List Literal)). IsModel (is_among members) clauses)
        (sym (drop_all n (take n inputs) (omega (arith, length-take n inputs))))
        (λ k d short. absurd (omega (arith, short))),
  )),
  λ stands. tt,
)

-- ---- futures

module _ (s : SpaceView) (clauses : List (List Literal)) (ends : FutureEnds) where
  abbrev by_ends : FutureClauses
  by_ends = record { upto = ends.early; behind = ends.today; last = ends.after }

  pub futures-by : All (IsClauseOver (length s.meanings)) clauses
      → ((values : List Bool) → MeetsFuture s values ↔ AreTrueAround (value_of values) ends clauses)
      → AreFuturesBy (later_matter s clauses) by_ends
  futures-by over two members =
      let n = length s.meanings in
      let values = truth_of n members in
      let front = All-take (IsClauseOver n) ends.early clauses over in
      let back = All-drop (IsClauseOver n) ends.today (take ends.after clauses) (All-take (IsClauseOver n) ends.after clauses over) in
      let same = λ (v : ℕ) (from : 1 ≤ v) (upto : v ≤ n). value-among n members v from upto in
      let other = λ (v : ℕ) (from : 1 ≤ v) (upto : v ≤ n). sym (value-among n members v from upto) in (
        (λ meets.
            let around = (two values).0 meets in (
              model-alike (value_of values) (is_among members) n same (take ends.early clauses) front around.0,
              model-alike (value_of values) (is_among members) n same (drop ends.today (take ends.after clauses)) back around.1,
            )),
        λ stands. (two values).1 (
          model-alike (is_among members) (value_of values) n other (take ends.early clauses) front stands.0,
          model-alike (is_among members) (value_of values) n other (drop ends.today (take ends.after clauses)) back stands.1,
        ),
      )

-- each package has a variable
enough-variables : (s : SpaceView) → IsSpace s
    → ((number : ℕ) → number < length s.repository.packages → variable_of s (Present number) ≡ number + 2)
    → length s.repository.packages ≤ length s.meanings
enough-variables s space places = elim (cases_lt 0 (length s.repository.packages)) [
  | inl some ↦
      let short : length s.repository.packages - 1 < length s.repository.packages = omega (arith, some) in
      let range = (variable-range s (Present (length s.repository.packages - 1)) space short).1 in
      omega (arith, range, places (length s.repository.packages - 1) short, some)
  | inr none ↦ omega (arith, none)
]

later-of : (r : PackageList) (kind : CertKind) (essential : Bool) (s : SpaceView) (inputs : List (List Literal)) → kind ≢ kinds.Strong
    → IsBasisOf r kind essential (Later s inputs) → IsLaterOf r essential s inputs
later-of r kinds.Strong essential s inputs later is = absurd (later refl)
later-of r kinds.Outdated essential s inputs later is = is
later-of r kinds.Challenged essential s inputs later is = is

pub later-subject : (r : PackageList) (essential : Bool) (limits : Limits) (kind : CertKind) (s : SpaceView) (set : ClauseList) (ends : FutureEnds)
    (layout : LayoutView) (packages : ℕ) → kind ≢ kinds.Strong → AreInputsOf r kind essential limits (Later s set.clauses) set
    → IsWithinLimits set → packages ≡ length s.repository.packages
    → layout.kind ≡ kind → LaysOut (later_matter s set.clauses) layout
    → (AreSpaceClauses s set.clauses → (values : List Bool) → MeetsFuture s values ↔ AreTrueAround (value_of values) ends set.clauses)
    → (IsSpace s → (number : ℕ) → number < length s.repository.packages → variable_of s (Present number) ≡ number + 2)
    → IsSubject r limits kind essential packages set layout (record { upto = ends.early; behind = ends.today; last = ends.after })
later-subject r essential limits kind s set ends layout packages later inputs within count kind_is lays two places =
    let is = later-of r kind essential s set.clauses later inputs.is_basis in
    let variables : set.variables ≡ length s.meanings = inputs.variables in
    let space : IsSpace s = is.is_space.space in
    record {
      basis = Later s set.clauses;
      are_inputs = inputs;
      packages_are = count;
      enough = omega (arith, enough-variables s space (places space), count, variables);
      kind_is = kind_is;
      layout_is = lays;
      future_is = futures-by s set.clauses ends
          (subst (λ (n : ℕ). All (IsClauseOver n) set.clauses) variables within.over_variables) (two is.are_clauses);
    }

-- the space is given where it is wanted
pub given : (r : PackageList) (limits : Limits) (kind : CertKind) (essential : Bool) (s : SpaceView) (set : ClauseList) (wanted : Bool)
    (space : Option SpaceView) → AreInputsOf r kind essential limits (Later s set.clauses) set → space ≡ then_some wanted s
    → IsSpaceGiven r limits wanted kind essential space
given r limits kind essential s set wanted space inputs is = subst (IsSpaceGiven r limits wanted kind essential) (sym is) (by wanted)
  where
    by : (b : Bool) → IsSpaceGiven r limits b kind essential (then_some b s)
    by true = (refl, record { inputs = set.clauses; is_basis = inputs.is_basis; within = inputs.kept })
    by false = λ (wants : false ≡ true). cc

-- ---- numbers that are passed

pub large-answers : (r : PackageList) (limits : Limits) (h : Header) (e : ReadCertError) → IsLargeFault (PassesFirst r h.kind h.essential limits) e
    → StartAnswers r limits h (Err e)
large-answers r limits h (Work (TooLarge what)) large = large
large-answers r limits h (Work NoMemory) large = tt
large-answers r limits h (Work error) large = absurd large
large-answers r limits h (Bad fault) large = absurd large

-- ---- what is kept

abbrev pub log_of : ClauseList → Limits → ClauseLog
log_of inputs limits = record {
  clauses = inputs.clauses;
  inputs = length inputs.clauses;
  variables = inputs.variables;
  line_limit = limits.lines;
  line_literal_limit = limits.line_literals;
}

abbrev pub checker : ℕ → FutureClauses → ClauseLog → CheckerView
checker limit future log = record { limit = limit; future = future; log = log; question = None }

abbrev pub noted : ℕ → LayoutView → StateView
noted packages layout = record {
  packages = packages;
  layout = layout;
  window = record { kept = []; count = 0; layout = layout };
  next = 1;
  group = empty_group;
  claims = [];
}

pub begins : (r : PackageList) (limits : Limits) (h : Header) (packages : ℕ) (inputs : ClauseList) (layout : LayoutView) (future : FutureClauses)
    (c : CheckerView) (s : StateView) → IsSubject r limits h.kind h.essential packages inputs layout future → HasNumbers packages inputs h
    → c ≡ checker h.limit future (log_of inputs limits) → IsWithinLineLimits c.log → s ≡ noted packages layout → IsStart r limits h c s
begins r limits h packages inputs layout future c s subject numbers kept within same =
    subst (λ (t : StateView). IsStart r limits h c t) (sym same)
    (subst (λ (d : CheckerView). IsWithinLineLimits d.log → IsStart r limits h d (noted packages layout)) (sym kept) (λ inside. record {
      basis = subject.basis;
      is_basis = subject.are_inputs.is_basis;
      fits = record {
        packages = numbers.0 ∙ subject.packages_are;
        variables = numbers.1 ∙ subject.are_inputs.variables;
        clauses = numbers.2 ∙ ap (λ (clauses : List (List Literal)). length clauses) subject.are_inputs.clauses;
      };
      kept = subject.are_inputs.kept;
      limit = refl;
      packages = subject.packages_are;
      clauses = subject.are_inputs.clauses;
      inputs = refl;
      variables = subject.are_inputs.variables;
      kind = subject.kind_is;
      layout = subject.layout_is;
      future = subject.future_is;
      line_limit = refl;
      line_literal_limit = refl;
      within = inside;
      window = refl;
      question = refl;
      next = refl;
      group_is = refl;
      claims = refl;
    }) within)

-- the numbers are those of what is judged by
pub fits-numbers : (r : PackageList) (limits : Limits) (h : Header) (packages : ℕ) (inputs : ClauseList) (layout : LayoutView) (future : FutureClauses)
    → (subject : IsSubject r limits h.kind h.essential packages inputs layout future) → (¬ HasNumbers packages inputs h)
    → StartAnswers r limits h (Err (Bad (record { line = 1; cause = BadHeader })))
fits-numbers r limits h packages inputs layout future subject wrong = (
  refl,
  refl,
  record {
    basis = subject.basis;
    is_basis = subject.are_inputs.is_basis;
    within = subject.are_inputs.kept;
    wrong = λ fits. wrong (
      fits.packages ∙ sym subject.packages_are,
      fits.variables ∙ sym subject.are_inputs.variables,
      fits.clauses ∙ sym (ap (λ (clauses : List (List Literal)). length clauses) subject.are_inputs.clauses),
    );
  },
)
