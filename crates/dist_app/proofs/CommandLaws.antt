-- Where the desk tells its files, a refusal that comes before anything is written is the only end of a command.
use Rattle.std.proofs.Common.{◌≡◌, ◌≤◌, ◌<◌, ℕ, List, Bool, false, inl, inr, Option, Some, None, length, refl, ap, sym, ◌∙◌, subst, arith}
use Rattle.dist_outside.specs.Files.{Files}
use Rattle.dist_outside.specs.declared.limits.Limits.{Limits}
use Rattle.dist_package.specs.declared.error.PackagesError.{PackagesError}
use Rattle.dist_package.specs.declared.error.PackagesError.TheVariants as packages_error
use Rattle.dist_repo.specs.PackageList.{PackageList}
use Rattle.dist_repo.specs.declared.package.Package.{Package}
use Rattle.dist_words.specs.CommandLine.{CommandLine, Health, Classes, Sweep, Check, CheckExplain, Explain, CheckRepair}
use Rattle.dist_words.specs.CommandLine.{Repair, Try, Steps, Follow}
use Rattle.dist_words.specs.Table.{command_of}
use Rattle.dist_outside.specs.declared.trouble.What.{What}
use Rattle.dist_outside.specs.declared.trouble.What.TheVariants as what
use Rattle.dist_repo.specs.Order.{IsInOrder, IsLatestOf}
use Rattle.dist_cert.specs.declared.records.CertKind.{CertKind}
use Rattle.dist_space.specs.Space.{IsSpace, SpaceView}
use Rattle.dist_space.specs.SpaceOf.{IsSpaceOf}
use Rattle.dist_subject.specs.Limited.{PassesFirst}
use Rattle.dist_clause.specs.Formula.{Literal}
use Rattle.dist_repair.specs.Counters.{PassesCounted}
use Rattle.dist_repair.specs.RepairFiles.{PassesWith}
use Rattle.dist_explain.specs.ExplanationFiles.{PassesFirst as ExplainPasses}
use Rattle.dist_journal.specs.declared.fault.FollowError.{FollowError}
use Rattle.dist_journal.specs.declared.fault.FollowError.TheVariants as follow_error
use Rattle.dist_commands.specs.Check.{CertificateAnswers, CertificateStage, Reports}
use Rattle.dist_commands.specs.CheckExplain.{ExplanationReads, ExplanationStage, TellsExplained}
use Rattle.dist_commands.specs.CheckRepair.{RepairReads, RepairStage, TellsRepair}
use Rattle.dist_commands.specs.Classes.{TellsClasses}
use Rattle.dist_commands.specs.Command.{CommandDecides, CommandRefuses, CommandIsGivenUp}
use Rattle.dist_commands.specs.Explain.{ExplainStages, Explains}
use Rattle.dist_commands.specs.Follow.{IsEndOfJournal, JournalStage, TellsFollowed}
use Rattle.dist_commands.specs.Health.{ListStage, Judges}
use Rattle.dist_commands.specs.NamedStage.{NamedStage}
use Rattle.dist_commands.specs.OneSpaceLaws.{HaveOneSpace, HaveSpaceOnce}
use Rattle.dist_commands.specs.PackagesStage.{PackagesStage}
use Rattle.dist_commands.specs.Repair.{NewestStage, PlainSpaceStage, RepairStages, Repairs}
use Rattle.dist_commands.specs.RepositoryStage.{IsEndOf, RepositoryStage}
use Rattle.dist_app.specs.LawsPrivate.{HaveOneAnswer, HaveOneExplanation, HaveOneRepair, HaveOneNumber, HaveOneName, HaveOneClauses, HaveOneEnd, AreExact}
use Rattle.dist_app.specs.Run.{Decides, Refuses, IsRunGivenUp}
use Rattle.dist_commands.specs.Stages.{Ending, Goes, Ends, IsDetermined, Excludes, refused}
use Rattle.dist_commands.specs.SpaceStage.{IsSpaceOfFile, SpaceStage}
use Rattle.dist_commands.specs.Steps.{IsNewestIn, TellsLater}
use Rattle.dist_commands.specs.Sweeps.{InputsStage, SweepStages, Sweeps}
use Rattle.dist_commands.specs.TextStage.{TextStage}
use Rattle.dist_commands.specs.Try.{ArchiveStage}
use Rattle.dist_commands.specs.WrittenFile.{NumbersStage}
use Rattle.dist_generate.specs.Generator.{generated}
use Rattle.dist_commands.specs.declared.refusal.Refusal.TheVariants as refusal
use Rattle.dist_app.proofs.Judgements.{check_determined}
use Rattle.dist_app.proofs.OneVerdict.{certificates_once, explanations_once}
use Rattle.dist_app.proofs.OneVerdict.{repairs_once}
use Rattle.dist_app.proofs.StageLaws.{apart, nothing_excludes, same_end as same_ending, same_value, then_excludes}

same_text : (a b : List ℕ) (whole : Option (List ℕ)) → whole ≡ Some a → whole ≡ Some b → b ≡ a
same_text a b whole first second = cc

not_longer : (a b : List ℕ) (limit : ℕ) → a ≡ b → length b ≤ limit → ¬ (limit < length a)
not_longer a b limit same within longer = omega (arith, ap length same, within, longer)

pub text_determined : (files : Files) (name : List ℕ) (limit : ℕ) → IsDetermined (TextStage (Some files) name limit)
text_determined files name limit (Goes a) (Goes b) f g = ap Goes (same_text a b _ f.bytes g.bytes)
text_determined files name limit (Goes a) (Ends e) f (longer, is) =
    absurd (not_longer longer.0 a limit (same_text a longer.0 _ f.bytes longer.1) f.within longer.2)
text_determined files name limit (Ends e) (Goes b) (longer, is) g =
    absurd (not_longer longer.0 b limit (same_text b longer.0 _ g.bytes longer.1) g.within longer.2)
text_determined files name limit (Ends e) (Ends other) (longer, is) (longer', is') = ap Ends (is' ∙ sym is)

same_end : (files : Option Files) (error : PackagesError) (e other : Ending) → IsEndOf files error e → IsEndOf files error other → other ≡ e
same_end files (packages_error.Bad fault) e other is is' = is' ∙ sym is
same_end files packages_error.TooMany e other is is' = is' ∙ sym is
same_end files packages_error.NoMemory e other is is' = absurd is

repository_determined : AreExact → (files : Option Files) (stanzas : ℕ) (text : List ℕ) → IsDetermined (RepositoryStage files stanzas text)
repository_determined exact files stanzas text (Goes a) (Goes b) f g = ap Goes ((exact.packages text stanzas).one_repository a b f g)
repository_determined exact files stanzas text (Goes a) (Ends e) f (error, refuses, is) = absurd ((exact.packages text stanzas).never_both a error f refuses)
repository_determined exact files stanzas text (Ends e) (Goes b) (error, refuses, is) g = absurd ((exact.packages text stanzas).never_both b error g refuses)
repository_determined exact files stanzas text (Ends e) (Ends other) (error, refuses, is) (error', refuses', is') =
    let same = (exact.packages text stanzas).one_error error error' refuses refuses' in
    ap Ends (same_end files error e other is (subst (λ (x : PackagesError). IsEndOf files x other) same is'))

pub list_determined : AreExact → (files : Option Files) (packages : List Package) (text : List ℕ) → IsDetermined (ListStage files packages text)
list_determined exact files packages text (Goes a) (Goes b) f g = ap Goes ((exact.lists packages text).one_set a b f g)
list_determined exact files packages text (Goes a) (Ends e) f (line, bad, is) = absurd ((exact.lists packages text).never_both a line f bad)
list_determined exact files packages text (Ends e) (Goes b) (line, bad, is) g = absurd ((exact.lists packages text).never_both b line g bad)
list_determined exact files packages text (Ends e) (Ends other) (line, bad, is) (line', bad', is') =
    ap Ends (is' ∙ ap (λ (n : ℕ). refused files (refusal.BadList n)) ((exact.lists packages text).one_bad_line line line' bad bad') ∙ sym is)

pub packages_determined : AreExact → (files : Files) (limits : Limits) (name : List ℕ) → IsDetermined (PackagesStage (Some files) limits name)
packages_determined exact files limits name (Goes a) (Goes b) (t, f, g) (u, h, k) =
    let same : u ≡ t = same_value u t (text_determined files name limits.bytes (Goes t) (Goes u) f h) in
    repository_determined exact (Some files) limits.stanzas t (Goes a) (Goes b) g
    (subst (λ (x : List ℕ). RepositoryStage (Some files) limits.stanzas x (Goes b)) same k)
packages_determined exact files limits name (Goes a) (Ends e) (t, f, g) (inl k) =
    absurd (apart e t (text_determined files name limits.bytes (Goes t) (Ends e) f k))
packages_determined exact files limits name (Goes a) (Ends e) (t, f, g) (inr (u, h, k)) =
    let same : u ≡ t = same_value u t (text_determined files name limits.bytes (Goes t) (Goes u) f h) in
    absurd (apart e a (repository_determined exact (Some files) limits.stanzas t (Goes a) (Ends e) g
    (subst (λ (x : List ℕ). RepositoryStage (Some files) limits.stanzas x (Ends e)) same k)))
packages_determined exact files limits name (Ends e) (Goes b) (inl g) (u, h, k) =
    absurd (apart e u (sym (text_determined files name limits.bytes (Ends e) (Goes u) g h)))
packages_determined exact files limits name (Ends e) (Goes b) (inr (t, f, g)) (u, h, k) =
    let same : u ≡ t = same_value u t (text_determined files name limits.bytes (Goes t) (Goes u) f h) in
    absurd
    (apart e b (sym (repository_determined exact (Some files) limits.stanzas t (Ends e) (Goes b) g
    (subst (λ (x : List ℕ). RepositoryStage (Some files) limits.stanzas x (Goes b)) same k))))
packages_determined exact files limits name (Ends e) (Ends o) (inl g) (inl k) =
    ap Ends (same_ending o e (text_determined files name limits.bytes (Ends e) (Ends o) g k))
packages_determined exact files limits name (Ends e) (Ends o) (inl g) (inr (u, h, k)) =
    absurd (apart e u (sym (text_determined files name limits.bytes (Ends e) (Goes u) g h)))
packages_determined exact files limits name (Ends e) (Ends o) (inr (t, f, g)) (inl k) =
    absurd (apart o t (text_determined files name limits.bytes (Goes t) (Ends o) f k))
packages_determined exact files limits name (Ends e) (Ends o) (inr (t, f, g)) (inr (u, h, k)) =
    let same : u ≡ t = same_value u t (text_determined files name limits.bytes (Goes t) (Goes u) f h) in
    repository_determined exact (Some files) limits.stanzas t (Ends e) (Ends o) g
    (subst (λ (x : List ℕ). RepositoryStage (Some files) limits.stanzas x (Ends o)) same k)

-- where one number is passed first
pub numbers_determined : (Passes : What → Type 0) → ((number other : What) → Passes number → Passes other → other ≡ number) → (files : Option Files)
    → IsDetermined (NumbersStage Passes files)
numbers_determined Passes one files (Goes a) (Goes b) f g = refl
numbers_determined Passes one files (Goes a) (Ends e) none (number, passes, is) = absurd (none number passes)
numbers_determined Passes one files (Ends e) (Goes b) (number, passes, is) none = absurd (none number passes)
numbers_determined Passes one files (Ends e) (Ends o) (number, passes, is) (other, passes', is') =
    ap Ends (is' ∙ ap (λ (n : What). refused files (refusal.TooLarge n)) (one number other passes passes') ∙ sym is)

pub inputs_determined : HaveOneNumber → (files : Option Files) (limits : Limits) (kind : CertKind) (essential : Bool) (r : PackageList)
    → IsInOrder r.packages → IsDetermined (InputsStage files limits kind essential r)
inputs_determined one files limits kind essential r order =
    numbers_determined (PassesFirst r kind essential limits) (λ number other. one r kind essential limits number other order) files

-- a space that keeps its number passes none
space_kept : HaveOneSpace → (limits : Limits) (essential : Bool) (r : PackageList) (s other : SpaceView) → IsSpaceOfFile essential r s
    → length s.meanings ≤ limits.variables → IsSpaceOfFile essential r other → ¬ (limits.variables < length other.meanings)
space_kept one limits essential r s other is within also more =
    let same = one r essential s other is also in
    omega (arith, ap (λ (x : SpaceView). length x.meanings) same, within, more)

pub space_determined : HaveOneSpace → (files : Option Files) (limits : Limits) (essential : Bool) (r : PackageList)
    → IsDetermined (SpaceStage files limits essential r)
space_determined one files limits essential r (Goes a) (Goes b) (is, within) (is', within') = ap Goes (one r essential a b is is')
space_determined one files limits essential r (Goes a) (Ends e) (is, within) ((space, latest, of, more), told) =
    absurd (space_kept one limits essential r a space is within (latest, of) more)
space_determined one files limits essential r (Ends e) (Goes b) ((space, latest, of, more), told) (is, within) =
    absurd (space_kept one limits essential r b space is within (latest, of) more)
space_determined one files limits essential r (Ends e) (Ends o) (more, is) (more', is') = ap Ends (is' ∙ sym is)

-- ---- JOURNAL

one_journal_end : (files : Option Files) (error : FollowError) (e other : Ending) → IsEndOfJournal files error e → IsEndOfJournal files error other
    → other ≡ e
one_journal_end files (follow_error.Bad line fault) e other is is' = is' ∙ sym is
one_journal_end files follow_error.TooMany e other is is' = is' ∙ sym is
one_journal_end files follow_error.NoMemory e other is is' = absurd is

pub journal_determined : HaveOneEnd → (files : Option Files) (stanzas : ℕ) (space : SpaceView) (journal : List ℕ) → IsSpace space
    → IsDetermined (JournalStage files stanzas space journal)
journal_determined one files stanzas space journal is_space (Goes a) (Goes b) f g = refl
journal_determined one files stanzas space journal is_space (Goes a) (Ends e) (archive, count, followed) (error, (left, stopped), end) =
    absurd ((one space stanzas journal space.repository.packages is_space).never_both archive left count error followed stopped)
journal_determined one files stanzas space journal is_space (Ends e) (Goes b) (error, (left, stopped), end) (archive, count, followed) =
    absurd ((one space stanzas journal space.repository.packages is_space).never_both archive left count error followed stopped)
journal_determined one files stanzas space journal is_space (Ends e) (Ends o) (error, (left, stopped), end) (also, (left', stopped'), end') =
    let same = (one space stanzas journal space.repository.packages is_space).one_error left left' error also stopped stopped' in
    ap Ends (one_journal_end files error e o end (subst (λ (x : FollowError). IsEndOfJournal files x o) same end'))

-- a repository of packages is in order
pub in_order : (files : Option Files) (limits : Limits) (name : List ℕ) (r : PackageList) → PackagesStage files limits name (Goes r) → IsInOrder r.packages
in_order files limits name r (text, goes, has) = has.in_order

sweep_excludes : AreExact → (files : Files) (limits : Limits) (kind : CertKind) (packages : List ℕ) (essential : Bool) (Last : PackageList → Ending → Type 0)
    → Excludes (SweepStages (Some files) limits kind packages essential (λ r ending. ⊥)) (SweepStages (Some files) limits kind packages essential Last)
sweep_excludes exact files limits kind packages essential Last =
    then_excludes (PackagesStage (Some files) limits packages) _ _ (packages_determined exact files limits packages) (λ r goes.
    then_excludes (InputsStage (Some files) limits kind essential r) _ _
    (inputs_determined exact.numbers (Some files) limits kind essential r (in_order (Some files) limits packages r goes))
    (λ _ kept. nothing_excludes (Last r)))

pub archive_determined : AreExact → (files : Option Files) (limits : Limits) (size seed : ℕ) → IsDetermined (ArchiveStage files limits size seed)
archive_determined exact files limits size seed (Goes a) (Goes b) f g =
    ap Goes ((exact.packages (generated size seed) limits.stanzas).one_repository a b f.2 g.2)
archive_determined exact files limits size seed (Goes a) (Ends e) f (inl (longer, is)) = absurd (omega (arith, f.0, longer))
archive_determined exact files limits size seed (Goes a) (Ends e) f (inr (within, many, is)) = absurd (omega (arith, f.1, many))
archive_determined exact files limits size seed (Ends e) (Goes b) (inl (longer, is)) g = absurd (omega (arith, g.0, longer))
archive_determined exact files limits size seed (Ends e) (Goes b) (inr (within, many, is)) g = absurd (omega (arith, g.1, many))
archive_determined exact files limits size seed (Ends e) (Ends o) (inl (longer, is)) (inl (longer', is')) = ap Ends (is' ∙ sym is)
archive_determined exact files limits size seed (Ends e) (Ends o) (inl (longer, is)) (inr (within, many, is')) = absurd (omega (arith, longer, within))
archive_determined exact files limits size seed (Ends e) (Ends o) (inr (within, many, is)) (inl (longer, is')) = absurd (omega (arith, longer, within))
archive_determined exact files limits size seed (Ends e) (Ends o) (inr (within, many, is)) (inr (within', many', is')) = ap Ends (is' ∙ sym is)

-- ---- CERT

pub certificate_determined : HaveOneAnswer → (files : Files) (limits : Limits) (cert : List ℕ) (r : PackageList) → IsInOrder r.packages
    → IsDetermined (CertificateStage (Some files) limits cert r)
certificate_determined one files limits cert r order =
    check_determined (CertificateAnswers r limits) (certificates_once one r limits order) files cert

explanation_determined : HaveOneExplanation → (files : Files) (limits : Limits) (cert : List ℕ) (r : PackageList) → IsInOrder r.packages
    → IsDetermined (ExplanationStage (Some files) limits cert r)
explanation_determined one files limits cert r order =
    check_determined (ExplanationReads r limits) (explanations_once one r limits order) files cert

-- ---- the package that is named

pub named_determined : HaveOneName → (files : Option Files) (packages : List Package) (text : List ℕ) → IsInOrder packages
    → IsDetermined (NamedStage files packages text)
named_determined one files packages text order (Goes a) (Goes b) f g = ap Goes (one packages text a b order f g)
named_determined one files packages text order (Goes a) (Ends e) f (none, is) = absurd (none a f)
named_determined one files packages text order (Ends e) (Goes b) (none, is) g = absurd (none b g)
named_determined one files packages text order (Ends e) (Ends o) (none, is) (none', is') = ap Ends (is' ∙ sym is)

explain_excludes : AreExact → (files : Files) (limits : Limits) (packages named : List ℕ) (Last : PackageList → ℕ → Ending → Type 0)
    → Excludes (ExplainStages (Some files) limits packages named (λ r number ending. ⊥)) (ExplainStages (Some files) limits packages named Last)
explain_excludes exact files limits packages named Last =
    then_excludes (PackagesStage (Some files) limits packages) _ _ (packages_determined exact files limits packages) (λ r goes.
    then_excludes (NamedStage (Some files) r.packages named) _ _
    (named_determined exact.names (Some files) r.packages named (in_order (Some files) limits packages r goes)) (λ number is_named.
    then_excludes (NumbersStage (ExplainPasses r limits) (Some files)) _ _
    (numbers_determined (ExplainPasses r limits) (λ what other. exact.explain_numbers r limits what other (in_order (Some files) limits packages r goes))
    (Some files))
    (λ _ kept. nothing_excludes (Last r number))))

-- ---- repairs

pub repair_determined : HaveOneRepair → (files : Files) (limits : Limits) (cert : List ℕ) (s : SpaceView)
    → IsDetermined (RepairStage (Some files) limits cert s)
repair_determined one files limits cert s = check_determined (RepairReads s limits) (repairs_once one s limits) files cert

pub newest_determined : AreExact → (files : Files) (limits : Limits) (packages : List ℕ) → IsDetermined (NewestStage (Some files) limits packages)
newest_determined exact files limits packages (Goes a) (Goes b) (r, read, latest) (r', read', latest') =
    let same : r' ≡ r = same_value r' r (packages_determined exact files limits packages (Goes r) (Goes r') read read') in
    ap Goes (exact.newest r a b latest (subst (λ (x : PackageList). IsLatestOf x b) same latest'))
newest_determined exact files limits packages (Goes a) (Ends e) (r, read, latest) ends =
    absurd (apart e r (packages_determined exact files limits packages (Goes r) (Ends e) read ends))
newest_determined exact files limits packages (Ends e) (Goes b) ends (r, read, latest) =
    absurd (apart e r (packages_determined exact files limits packages (Goes r) (Ends e) read ends))
newest_determined exact files limits packages (Ends e) (Ends o) ends ends' =
    ap Ends (same_ending o e (packages_determined exact files limits packages (Ends e) (Ends o) ends ends'))

-- a plain space that keeps its number passes none
plain_kept : HaveSpaceOnce → (limits : Limits) (newest : PackageList) (s other : SpaceView) → IsSpaceOf newest false s
    → length s.meanings ≤ limits.variables → IsSpaceOf newest false other → ¬ (limits.variables < length other.meanings)
plain_kept one limits newest s other is within also more =
    let same = one newest false s other is also in
    omega (arith, ap (λ (x : SpaceView). length x.meanings) same, within, more)

pub plain_determined : HaveSpaceOnce → (files : Option Files) (limits : Limits) (newest : PackageList)
    → IsDetermined (PlainSpaceStage files limits newest)
plain_determined one files limits newest (Goes a) (Goes b) (is, within) (is', within') = ap Goes (one newest false a b is is')
plain_determined one files limits newest (Goes a) (Ends e) (is, within) ((space, of, more), told) =
    absurd (plain_kept one limits newest a space is within of more)
plain_determined one files limits newest (Ends e) (Goes b) ((space, of, more), told) (is, within) =
    absurd (plain_kept one limits newest b space is within of more)
plain_determined one files limits newest (Ends e) (Ends o) (more, is) (more', is') = ap Ends (is' ∙ sym is)

-- one number is passed first with a counter
counted_one : HaveOneClauses → (s : SpaceView) (most : ℕ) (limits : Limits) (number other : What) → PassesWith s most limits number
    → PassesWith s most limits other → other ≡ number
counted_one one s most limits number other first second =
    by number other first.passes (subst (λ (cs : List (List Literal)). PassesCounted limits s most cs other)
    (one s first.clauses second.clauses first.are_clauses second.are_clauses) second.passes)
  where
    by : (w v : What) → PassesCounted limits s most first.clauses w → PassesCounted limits s most first.clauses v → v ≡ w
    by what.Variables what.Variables p q = refl
    by what.Variables what.Clauses p q = absurd (omega (arith, p, q.0))
    by what.Variables what.Literals p q = absurd (omega (arith, p, q.0))
    by what.Clauses what.Variables p q = absurd (omega (arith, p.0, q))
    by what.Clauses what.Clauses p q = refl
    by what.Clauses what.Literals p q = absurd (omega (arith, p.2, q.1))
    by what.Literals what.Variables p q = absurd (omega (arith, p.0, q))
    by what.Literals what.Clauses p q = absurd (omega (arith, p.1, q.2))
    by what.Literals what.Literals p q = refl
    by what.Variables v p q = absurd q
    by what.Clauses v p q = absurd q
    by what.Literals v p q = absurd q
    by w v p q = absurd p

pub counted_determined : AreExact → (files : Option Files) (s : SpaceView) (most : ℕ) (limits : Limits)
    → IsDetermined (NumbersStage (PassesWith s most limits) files)
counted_determined exact files s most limits =
    numbers_determined (PassesWith s most limits) (λ number other. counted_one exact.clauses s most limits number other) files

-- the newest versions are in order
pub newest_order : (files : Option Files) (limits : Limits) (packages : List ℕ) (newest : PackageList) → IsNewestIn files limits packages newest
    → IsInOrder newest.packages
newest_order files limits packages newest (r, read, latest) = latest.in_order

repair_excludes : AreExact → (files : Files) (limits : Limits) (packages named : List ℕ) (most : ℕ) (Last : SpaceView → ℕ → Ending → Type 0)
    → Excludes (RepairStages (Some files) limits packages named most (λ space number ending. ⊥)) (RepairStages (Some files) limits packages named most Last)
repair_excludes exact files limits packages named most Last =
    then_excludes (NewestStage (Some files) limits packages) _ _ (newest_determined exact files limits packages) (λ newest goes.
    then_excludes (NamedStage (Some files) newest.packages named) _ _
    (named_determined exact.names (Some files) newest.packages named (newest_order (Some files) limits packages newest goes)) (λ number is_named.
    then_excludes (PlainSpaceStage (Some files) limits newest) _ _ (plain_determined exact.space_of (Some files) limits newest) (λ space made.
    then_excludes (NumbersStage (PassesWith space most limits) (Some files)) _ _ (counted_determined exact (Some files) space most limits)
    (λ _ kept. nothing_excludes (Last space number)))))

-- ---- commands

command_excludes : AreExact → (line : CommandLine) (files : Files) (limits : Limits)
    → Excludes (CommandRefuses line (Some files) limits) (CommandDecides line (Some files) limits)
command_excludes exact (Health packages list) files limits =
    then_excludes (PackagesStage (Some files) limits packages) _ _ (packages_determined exact files limits packages) (λ r goes.
    then_excludes (TextStage (Some files) list limits.bytes) _ _ (text_determined files list limits.bytes) (λ names whole.
    then_excludes (ListStage (Some files) r.packages names) _ _ (list_determined exact (Some files) r.packages names) (λ members has.
    nothing_excludes (Judges (Some files) r members))))
command_excludes exact (Classes packages) files limits =
    then_excludes (PackagesStage (Some files) limits packages) _ _ (packages_determined exact files limits packages)
    (λ r goes. nothing_excludes (TellsClasses (Some files) r))
command_excludes exact (Sweep kind packages cert essential limit) files limits =
    sweep_excludes exact files limits kind packages essential (Sweeps (Some files) limits kind cert essential limit)
command_excludes exact (Check packages cert) files limits =
    then_excludes (PackagesStage (Some files) limits packages) _ _ (packages_determined exact files limits packages) (λ r goes.
    then_excludes (CertificateStage (Some files) limits cert r) _ _
    (certificate_determined exact.certificates files limits cert r (in_order (Some files) limits packages r goes))
    (λ accepted judged. nothing_excludes (Reports (Some files) r accepted)))
command_excludes exact (CheckExplain packages cert) files limits =
    then_excludes (PackagesStage (Some files) limits packages) _ _ (packages_determined exact files limits packages) (λ r goes.
    then_excludes (ExplanationStage (Some files) limits cert r) _ _
    (explanation_determined exact.explanations files limits cert r (in_order (Some files) limits packages r goes))
    (λ accepted judged. nothing_excludes (TellsExplained (Some files) r accepted)))
command_excludes exact (Explain packages cert named limit) files limits =
    explain_excludes exact files limits packages named (Explains (Some files) limits cert limit)
command_excludes exact (CheckRepair packages cert) files limits =
    then_excludes (PackagesStage (Some files) limits packages) _ _ (packages_determined exact files limits packages) (λ r goes.
    then_excludes (SpaceStage (Some files) limits false r) _ _ (space_determined exact.spaces (Some files) limits false r) (λ space made.
    then_excludes (RepairStage (Some files) limits cert space) _ _ (repair_determined exact.repairs files limits cert space)
    (λ accepted judged. nothing_excludes (TellsRepair (Some files) space accepted))))
command_excludes exact (Repair packages cert named most limit) files limits =
    repair_excludes exact files limits packages named most (Repairs (Some files) limits cert most limit)
command_excludes exact (Try size seed) files limits =
    then_excludes (ArchiveStage (Some files) limits size seed) _ _ (archive_determined exact (Some files) limits size seed)
    (λ r goes end ending refuses tries. tries.first end refuses)
command_excludes exact (Steps packages later) files limits =
    then_excludes (PackagesStage (Some files) limits packages) _ _ (packages_determined exact files limits packages) (λ r goes.
    then_excludes (SpaceStage (Some files) limits false r) _ _ (space_determined exact.spaces (Some files) limits false r) (λ space made.
    then_excludes (PackagesStage (Some files) limits later) _ _ (packages_determined exact files limits later) (λ l goes'.
    nothing_excludes (TellsLater (Some files) space l))))
command_excludes exact (Follow packages cert journal) files limits =
    then_excludes (PackagesStage (Some files) limits packages) _ _ (packages_determined exact files limits packages) (λ r goes.
    then_excludes (CertificateStage (Some files) limits cert r) _ _
    (certificate_determined exact.certificates files limits cert r (in_order (Some files) limits packages r goes)) (λ accepted judged.
    then_excludes (SpaceStage (Some files) limits accepted.0.essential r) _ _
    (space_determined exact.spaces (Some files) limits accepted.0.essential r) (λ space made.
    then_excludes (TextStage (Some files) journal limits.bytes) _ _ (text_determined files journal limits.bytes) (λ text whole.
    then_excludes (JournalStage (Some files) limits.stanzas space text) _ _
    (journal_determined exact.journals (Some files) limits.stanzas space text made.0.1.space) (λ _ followed.
    nothing_excludes (TellsFollowed (Some files) limits.stanzas space accepted text))))))

-- nor is a fault of writing the end
given_up_excludes : AreExact → (line : CommandLine) (files : Files) (limits : Limits)
    → Excludes (CommandRefuses line (Some files) limits) (CommandIsGivenUp line (Some files) limits refusal.WriteFault)
given_up_excludes exact (Health packages list) files limits end ending refuses given_up = absurd given_up
given_up_excludes exact (Classes packages) files limits end ending refuses given_up = absurd given_up
given_up_excludes exact (Sweep kind packages cert essential limit) files limits end ending refuses given_up =
    sweep_excludes exact files limits kind packages essential (λ r e. Unit {0}) end ending refuses
    (inr (given_up.at, given_up.reached, inr (tt, given_up.kept refl, tt)))
given_up_excludes exact (Check packages cert) files limits end ending refuses given_up = absurd given_up
given_up_excludes exact (CheckExplain packages cert) files limits end ending refuses given_up = absurd given_up
given_up_excludes exact (Explain packages cert named limit) files limits end ending refuses given_up =
    explain_excludes exact files limits packages named (λ r number e. Unit {0}) end ending refuses
    (inr (given_up.at.0, given_up.reached.0, inr (given_up.at.1, given_up.reached.1, inr (tt, given_up.kept refl, tt))))
given_up_excludes exact (CheckRepair packages cert) files limits end ending refuses given_up = absurd given_up
given_up_excludes exact (Repair packages cert named most limit) files limits end ending refuses given_up =
    repair_excludes exact files limits packages named most (λ space number e. Unit {0}) end ending refuses
    (inr (
      given_up.at.0,
      given_up.reached.0,
      inr (
        given_up.at.1,
        given_up.reached.1,
        inr (
          given_up.at.2,
          given_up.reached.2,
          inr (tt, given_up.kept refl, tt),
        ),
      ),
    ))
given_up_excludes exact (Try size seed) files limits end ending refuses given_up = absurd given_up
given_up_excludes exact (Steps packages later) files limits end ending refuses given_up = absurd given_up
given_up_excludes exact (Follow packages cert journal) files limits end ending refuses given_up = absurd given_up

pub one_line : (line other : CommandLine) (found : Option CommandLine) → found ≡ Some line → found ≡ Some other → other ≡ line
one_line line other found is is' = cc

no_line : (line : CommandLine) (found : Option CommandLine) → found ≡ None → found ≡ Some line → ⊥
no_line line found none is = cc

pub decides_excludes : AreExact → (words : List (List ℕ)) (files : Files) (limits : Limits)
    → Excludes (Refuses words (Some files) limits) (Decides words (Some files) limits)
decides_excludes exact words files limits end ending (inl (bad, is)) (inl (bad', is')) = is' ∙ sym is
decides_excludes exact words files limits end ending (inl (bad, is)) (inr (line, is_line, decides)) = absurd (no_line line (command_of words) bad is_line)
decides_excludes exact words files limits end ending (inr (line, is_line, refuses)) (inl (bad, is)) = absurd (no_line line (command_of words) bad is_line)
decides_excludes exact words files limits end ending (inr (line, is_line, refuses)) (inr (other, is_other, decides)) =
    command_excludes exact line files limits end ending refuses
    (subst (λ (x : CommandLine). CommandDecides x (Some files) limits ending) (one_line line other (command_of words) is_line is_other) decides)

pub fault_excludes : AreExact → (words : List (List ℕ)) (files : Files) (limits : Limits)
    → Excludes (Refuses words (Some files) limits) (IsRunGivenUp words (Some files) limits refusal.WriteFault)
fault_excludes exact words files limits end ending (inl (bad, is)) (line, is_line, given_up) = absurd (no_line line (command_of words) bad is_line)
fault_excludes exact words files limits end ending (inr (line, is_line, refuses)) (other, is_other, given_up) =
    given_up_excludes exact line files limits end ending refuses
    (subst (λ (x : CommandLine). CommandIsGivenUp x (Some files) limits refusal.WriteFault ending) (one_line line other (command_of words) is_line is_other)
    given_up)
