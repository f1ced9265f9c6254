-- When a trial gives each answer, by its two stages.
use Rattle.std.proofs.Common.{◌≡◌, ◌≢◌, ◌∙◌, ◌<◌, ◌≤◌, inl, inr, ℕ, false, Result, Ok, Err, length, refl, sym, ap, subst, arith}
use Rattle.dist_base.specs.Answers.{IsExactly}
use Rattle.dist_outside.specs.declared.limits.Limits.{Limits}
use Rattle.dist_outside.specs.declared.trouble.What.{What}
use Rattle.dist_outside.specs.declared.trouble.What.TheVariants.{Bytes, Stanzas, Variables, Clauses, Literals, Lines, LineLiterals, Certificate, RecordLine}
use Rattle.dist_outside.specs.declared.trouble.WorkError.{WorkError}
use Rattle.dist_outside.specs.declared.trouble.WorkError.TheVariants.{ReadFault, WriteFault, TooLarge, NoMemory}
use Rattle.dist_repo.specs.PackageList.{PackageList}
use Rattle.dist_cert.specs.declared.records.CertKind.{CertKind}
use Rattle.dist_cert.specs.declared.records.CertKind.TheVariants as kinds
use Rattle.dist_subject.specs.Limited.{PassesFirst}
use Rattle.dist_generate.specs.Generator.{generated}
use Rattle.dist_trial.specs.Trial.{ArchiveAnswers, IsStoppedAt, IsTrial, OfArchive, Tells, TrialAnswers}
use Rattle.dist_trial.specs.declared.trials.Trial.{Trial}
use Rattle.dist_trial.proofs.Archives.{OneAnswerLaw}
use Rattle.dist_trial.proofs.Sweeps.{GivesTrial, same-error}

-- ---- an error that comes

neither : {X : Type 0} (result : Result X WorkError) (error : WorkError) (P : Type 0) → result ≢ Err error → (¬ P) → IsExactly NoMemory result error P
neither result error P not none = λ free. ((λ is. absurd (not is)), λ p. absurd (none p))

-- no sweep passes the numbers of an archive
not-bytes : (r : PackageList) (kind : CertKind) (limits : Limits) → IsStoppedAt r kind limits Bytes → ⊥
not-bytes r kinds.Strong limits (inl passes) = passes
not-bytes r kinds.Outdated limits (inl passes) = passes
not-bytes r kinds.Challenged limits (inl passes) = passes
not-bytes r kind limits (inr full) = full.1.2.passes

not-stanzas : (r : PackageList) (kind : CertKind) (limits : Limits) → IsStoppedAt r kind limits Stanzas → ⊥
not-stanzas r kinds.Strong limits (inl passes) = passes
not-stanzas r kinds.Outdated limits (inl passes) = passes
not-stanzas r kinds.Challenged limits (inl passes) = passes
not-stanzas r kind limits (inr full) = full.1.2.passes

apart : (what other : What) → what ≢ other → TooLarge what ≢ TooLarge other
apart what other not is = not (cc)

module _ (size seed : ℕ) (limits : Limits) where
  abbrev pub IsOver : Type 0
  IsOver = limits.bytes < length (generated size seed)

  abbrev pub IsPast : Type 0
  IsPast = (length (generated size seed) ≤ limits.bytes) × (limits.stanzas < size)

  -- ---- where there is no repository

  pub archive-stops : (error : WorkError) → ArchiveAnswers size seed limits (Err error) → TrialAnswers size seed limits (Err error)
  archive-stops (TooLarge Bytes) stops = stops
  archive-stops (TooLarge Stanzas) stops = stops
  archive-stops NoMemory stops = tt
  archive-stops ReadFault stops = absurd stops
  archive-stops WriteFault stops = absurd stops
  archive-stops (TooLarge Variables) stops = absurd stops
  archive-stops (TooLarge Clauses) stops = absurd stops
  archive-stops (TooLarge Literals) stops = absurd stops
  archive-stops (TooLarge Lines) stops = absurd stops
  archive-stops (TooLarge LineLiterals) stops = absurd stops
  archive-stops (TooLarge Certificate) stops = absurd stops
  archive-stops (TooLarge RecordLine) stops = absurd stops

  over-past : IsOver → ¬ IsPast
  over-past over past = omega (arith, over, past.0)

  -- an error against its cause, where there are two ways to have no repository
  archive-exact : {X : Type 0} (error other : WorkError) (P : Type 0) → ArchiveAnswers size seed limits (Err error) → (IsOver → TooLarge Bytes ≡ other → P)
      → (IsPast → TooLarge Stanzas ≡ other → P)
      → (IsOver → P → TooLarge Bytes ≡ other) → (IsPast → P → TooLarge Stanzas ≡ other) → IsExactly {X = X} NoMemory (Err error) other P
  archive-exact (TooLarge Bytes) other P stops overs pasts over past =
      λ free. ((λ is. overs stops (same-error (Err (TooLarge Bytes)) (TooLarge Bytes) other refl is)), λ p. ap Err (over stops p))
  archive-exact (TooLarge Stanzas) other P stops overs pasts over past =
      λ free. ((λ is. pasts stops (same-error (Err (TooLarge Stanzas)) (TooLarge Stanzas) other refl is)), λ p. ap Err (past stops p))
  archive-exact NoMemory other P stops overs pasts over past = λ free. absurd (free refl)
  archive-exact ReadFault other P stops overs pasts over past = absurd stops
  archive-exact WriteFault other P stops overs pasts over past = absurd stops
  archive-exact (TooLarge Variables) other P stops overs pasts over past = absurd stops
  archive-exact (TooLarge Clauses) other P stops overs pasts over past = absurd stops
  archive-exact (TooLarge Literals) other P stops overs pasts over past = absurd stops
  archive-exact (TooLarge Lines) other P stops overs pasts over past = absurd stops
  archive-exact (TooLarge LineLiterals) other P stops overs pasts over past = absurd stops
  archive-exact (TooLarge Certificate) other P stops overs pasts over past = absurd stops
  archive-exact (TooLarge RecordLine) other P stops overs pasts over past = absurd stops

  pub archive-bytes : {X : Type 0} (error : WorkError) → ArchiveAnswers size seed limits (Err error)
      → IsExactly {X = X} NoMemory (Err error) (TooLarge Bytes) IsOver
  archive-bytes error stops =
      archive-exact error (TooLarge Bytes) IsOver stops (λ over is. over) (λ past is. absurd (apart Stanzas Bytes (λ e. cc) is)) (λ over p. refl)
      (λ past over. absurd (over-past over past))

  pub archive-stanzas : {X : Type 0} (error : WorkError) → ArchiveAnswers size seed limits (Err error)
      → IsExactly {X = X} NoMemory (Err error) (TooLarge Stanzas) IsPast
  archive-stanzas error stops =
      archive-exact error (TooLarge Stanzas) IsPast stops (λ over is. absurd (apart Bytes Stanzas (λ e. cc) is)) (λ past is. past)
      (λ over past. absurd (over-past over past)) (λ past p. refl)

  -- the input clauses of the first kind, of the archive's repository, pass this number first
  abbrev pub PassesOfArchive : What → Type 0
  PassesOfArchive what = OfArchive size seed limits (λ r. PassesFirst r kinds.Strong false limits what)

  -- there are none before there is a repository
  pub archive-first : {X : Type 0} (error : WorkError) → ArchiveAnswers size seed limits (Err error) → Tells {X = X} PassesOfArchive (Err error)
  archive-first (TooLarge Bytes) over = λ what o. absurd (omega (arith, over, o.bytes))
  archive-first (TooLarge Stanzas) past = λ what o. absurd (omega (arith, past.1, o.stanzas))
  archive-first NoMemory stops = λ what o. inr refl
  archive-first ReadFault stops = absurd stops
  archive-first WriteFault stops = absurd stops
  archive-first (TooLarge Variables) stops = absurd stops
  archive-first (TooLarge Clauses) stops = absurd stops
  archive-first (TooLarge Literals) stops = absurd stops
  archive-first (TooLarge Lines) stops = absurd stops
  archive-first (TooLarge LineLiterals) stops = absurd stops
  archive-first (TooLarge Certificate) stops = absurd stops
  archive-first (TooLarge RecordLine) stops = absurd stops

  -- ---- where there is one

  module _ (r : PackageList) (o : OfArchive size seed limits (λ other. other ≡ r)) where
    with-it : (P : PackageList → Type 0) → P r → OfArchive size seed limits P
    with-it P p = record { bytes = o.bytes; stanzas = o.stanzas; repository = o.repository; is_repository = o.is_repository; holds = subst P (sym o.holds) p }

    stopped : (what : What) → (kind : CertKind) × IsStoppedAt r kind limits what
        → OfArchive size seed limits (λ p. (kind : CertKind) × IsStoppedAt p kind limits what)
    stopped what a = with-it (λ p. (kind : CertKind) × IsStoppedAt p kind limits what) a

    pub swept-answers : (result : Result Trial WorkError) → GivesTrial size r limits result → TrialAnswers size seed limits result
    swept-answers (Ok done) a = with-it (IsTrial size limits done) a
    swept-answers (Err (TooLarge Bytes)) a = absurd (not-bytes r a.0 limits a.1)
    swept-answers (Err (TooLarge Stanzas)) a = absurd (not-stanzas r a.0 limits a.1)
    swept-answers (Err (TooLarge Variables)) a = stopped Variables a
    swept-answers (Err (TooLarge Clauses)) a = stopped Clauses a
    swept-answers (Err (TooLarge Literals)) a = stopped Literals a
    swept-answers (Err (TooLarge Lines)) a = stopped Lines a
    swept-answers (Err (TooLarge LineLiterals)) a = stopped LineLiterals a
    swept-answers (Err (TooLarge Certificate)) a = stopped Certificate a
    swept-answers (Err (TooLarge RecordLine)) a = stopped RecordLine a
    swept-answers (Err NoMemory) a = tt
    swept-answers (Err ReadFault) a = absurd a
    swept-answers (Err WriteFault) a = absurd a

    pub swept-bytes : (result : Result Trial WorkError) → GivesTrial size r limits result → IsExactly NoMemory result (TooLarge Bytes) IsOver
    swept-bytes result a =
        neither result (TooLarge Bytes) IsOver (λ is. (let stops = subst (GivesTrial size r limits) is a in not-bytes r stops.0 limits stops.1))
        (λ over. omega (arith, over, o.bytes))

    pub swept-stanzas : (result : Result Trial WorkError) → GivesTrial size r limits result → IsExactly NoMemory result (TooLarge Stanzas) IsPast
    swept-stanzas result a =
        neither result (TooLarge Stanzas) IsPast (λ is. (let stops = subst (GivesTrial size r limits) is a in not-stanzas r stops.0 limits stops.1))
        (λ past. omega (arith, past.1, o.stanzas))

    pub swept-first : OneAnswerLaw → (result : Result Trial WorkError) → Tells (PassesFirst r kinds.Strong false limits) result → Tells PassesOfArchive result
    swept-first one result tells = λ what q. tells what
        (subst (λ p. PassesFirst p kinds.Strong false limits what)
        ((one (generated size seed) limits.stanzas).one_repository o.repository q.repository o.is_repository q.is_repository ∙ o.holds) q.holds)
