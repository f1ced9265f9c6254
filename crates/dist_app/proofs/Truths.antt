-- What a run tells is true, from what it proves.
use Rattle.std.proofs.Common.{◌≡◌, ℕ, Bool, false, List, [], ◌∷◌, ◌++◌, append_assoc, get_or, length, map}
use Rattle.std.proofs.Common.{Option, Some, None, ap, codes, decimal, refl, slice_get, subst, sym, ◌∙◌}
use Rattle.std.specs.Prelude.{Contains, IsSome, IsSomeAnd}
use Rattle.std.specs.List.{flat_map}
use Rattle.std.proofs.lemmas.List.Elements.{All-map, Contains-get_or}
use Rattle.std.specs.Option.{option_map_or}
use Rattle.dist_base.specs.Ascii.{line_feed}
use Rattle.dist_outside.specs.DeskView.{DeskView}
use Rattle.dist_outside.specs.Files.{Files, IsPresent, file_bytes}
use Rattle.dist_outside.specs.SinkView.{SinkView}
use Rattle.dist_outside.specs.declared.limits.Limits.{Limits}
use Rattle.dist_cluster.specs.Partition.{least}
use Rattle.dist_repo.specs.PackageList.{PackageList}
use Rattle.dist_repo.specs.declared.package.Package.{Package}
use Rattle.dist_space.specs.Space.{SpaceView}
use Rattle.dist_space.specs.SpaceOf.{IsSpaceOf}
use Rattle.dist_cert.specs.FileLines.{lines_text}
use Rattle.dist_cert.specs.Form.{header_text, kind_text, mode_text, plains, words_text}
use Rattle.dist_cert.specs.declared.records.CertKind.{CertKind}
use Rattle.dist_cert.specs.declared.records.CertKind.TheVariants as kinds
use Rattle.dist_cert.specs.declared.records.Claim.{Claim}
use Rattle.dist_cert.specs.declared.records.Header.{Header}
use Rattle.dist_judge.specs.Judging.{OfText}
use Rattle.dist_subject.specs.Completed.{IsCompleted}
use Rattle.dist_now.specs.PresentClauses.{Demand}
use Rattle.dist_now.specs.Relations.{AreRelations}
use Rattle.dist_check.specs.Means.{Means, MeansChallenged}
use Rattle.dist_explain.specs.Verdicts.{AcceptedMeans, IsTrueOf}
use Rattle.dist_explain.specs.declared.explained.Explained.{Explained}
use Rattle.dist_explain.specs.declared.verdict.ExplainHeader.{ExplainHeader}
use Rattle.dist_repair.specs.Verdicts.{AcceptedSays}
use Rattle.dist_repair.specs.declared.repair.Repair.{Repair}
use Rattle.dist_repair.specs.declared.verdict.RepairHeader.{RepairHeader}
use Rattle.dist_repair_search.specs.SearchAnswers.{header_with}
use Rattle.dist_report.specs.ChallengedReport.{IsChallengedText}
use Rattle.dist_report.specs.OutdatedReport.{outdated_lines}
use Rattle.dist_report.specs.ExplainedText.{IsExplainedText}
use Rattle.dist_report.specs.PackageText.{cluster_text, label}
use Rattle.dist_report.specs.RepairText.{repair_lines, repair_text}
use Rattle.dist_report.specs.StrongReport.{strong_lines}
use Rattle.dist_journal.specs.declared.broken_list.Broken.{Broken}
use Rattle.dist_history.specs.FollowText.{broken_text, counts_text, follow_text, held_version}
use Rattle.dist_commands.specs.CheckExplain.{explained_status}
use Rattle.dist_commands.specs.CheckRepair.{repaired_status}
use Rattle.dist_commands.specs.Claims.{IsReportOf, marked_status}
use Rattle.dist_commands.specs.Explain.{header_on}
use Rattle.dist_commands.specs.Follow.{IsTrueLine}
use Rattle.dist_commands.specs.declared.status.Status.{Status}
use Rattle.dist_app.specs.LawsPrivate.{AreExact, Laws}
use Rattle.dist_app.specs.Run.{Runs}
use Rattle.dist_app.specs.Truth.{BeginsAs, IsTrue, IsTrueOfBroken, MovesAnswer, TellsBroken, TellsAnswer, TellsChallenges, TellsClaims, TellsMoves}
use Rattle.dist_app.proofs.Headlines.{check_explain_proved, check_proved, check_repair_proved, explain_proved, follow_proved, repair_proved, sweep_proved}
use Rattle.dist_app.proofs.MovesTruth.{answer-open, answer-text, answer-true, told_answer}
use Rattle.dist_app.proofs.ToldTruth.{are-told, says-of-pairs, told_clusters}

-- ---- reports

module _ (laws : AreExact) where
  challenges-told : (s : SpaceView) (essential : Bool) (limit : ℕ) (made : List Claim) (text : List ℕ) → IsSpaceOf s.repository essential s
      → MeansChallenged s made → IsChallengedText s.repository limit made text → TellsChallenges essential s.repository limit made text
  challenges-told s essential limit made text is_space means told =
      subst (λ (mode : Bool). TellsChallenges mode s.repository limit made text) is_space.essential_is (record {
        clusters = told.clusters;
        are_clusters = told.are_clusters;
        one_each = means.one_each;
        means = λ number p claim there claimed.
            says-of-pairs laws.partitions laws.tops laws.cuts s is_space.space told.clusters told.are_clusters number p claim
            (means.each number p claim there claimed);
        is = told.is;
      })

  claims-told : (kind : CertKind) (essential : Bool) (limit : ℕ) (r : PackageList) (made : List Claim) (text : List ℕ) → Means kind essential r made
      → IsReportOf r kind limit made text → TellsClaims kind essential limit r made text
  claims-told kinds.Strong essential limit r made text means report =
      (means, subst (λ (x : PackageList). text ≡ strong_lines x.packages limit made) report.are_spoken report.is_text)
  claims-told kinds.Outdated essential limit r made text (newest, is_newest, means) report = (
    newest,
    is_newest,
    means,
    subst (λ (x : PackageList). text ≡ outdated_lines x.packages limit made)
        (laws.newest r newest report.spoken is_newest report.are_spoken) report.is_text,
  )
  claims-told kinds.Challenged essential limit r made text (s, is_newest, is_space, means) report = (
    s.repository,
    is_newest,
    challenges-told s essential limit made text is_space means
        (subst (λ (x : PackageList). IsChallengedText x limit made text) (laws.newest r s.repository report.spoken is_newest report.are_spoken) report.is_text),
  )

-- ---- the first line of a file

-- pieces with a space between them, and what stands behind all
behind-pieces : (front kind mode limit rest last : List ℕ) → (front ++ (kind ++ (32 ∷ (mode ++ (32 ∷ (limit ++ rest)))))) ++ last
    ≡ front ++ (kind ++ (32 ∷ (mode ++ (32 ∷ (limit ++ (rest ++ last))))))
behind-pieces front kind mode limit rest last =
    append_assoc front (kind ++ (32 ∷ (mode ++ (32 ∷ (limit ++ rest))))) last
    ∙ ap (λ list. front ++ list) (append_assoc kind (32 ∷ (mode ++ (32 ∷ (limit ++ rest)))) last
    ∙ ap (λ list. kind ++ (32 ∷ list)) (append_assoc mode (32 ∷ (limit ++ rest)) last
    ∙ ap (λ list. mode ++ (32 ∷ list)) (append_assoc limit rest last)))

-- what stands behind the limit in a first line, but for a space
abbrev behind_limit : Header → List ℕ
behind_limit h = decimal h.packages ++ words_text (plains (h.variables ∷ h.clauses ∷ []))

begins-as : (h : Header) (last : List ℕ) → header_text h ++ last ≡ codes "distfuture-certificate 1 " ++ (kind_text h.kind ++ (codes " "
    ++ (mode_text h.essential ++ (codes " " ++ (decimal h.limit ++ (codes " " ++ (behind_limit h ++ last)))))))
begins-as h last = behind-pieces (codes "distfuture-certificate 1 ") (kind_text h.kind) (mode_text h.essential) (decimal h.limit) (32 ∷ behind_limit h) last

no-bytes : ¬ IsSome {T = List ℕ} None
no-bytes some = cc

first-line : (r : PackageList) (limits : Limits) (files : Option Files) (cert : List ℕ) (h : Header) (made : List Claim) → IsPresent files cert
    → OfText (file_bytes files cert) (λ text. IsCompleted r limits text h made) → BeginsAs files cert h.kind h.essential h.limit
first-line r limits None cert h made present accepted = (header_text h ++ [], behind_limit h ++ [], tt, begins-as h [])
first-line r limits (Some files) cert h made present accepted = of-bytes (file_bytes (Some files) cert) refl accepted
  where
    of-bytes : (o : Option (List ℕ)) → file_bytes (Some files) cert ≡ o → OfText o (λ text. IsCompleted r limits text h made)
        → BeginsAs (Some files) cert h.kind h.essential h.limit
    of-bytes None is accepted = absurd (no-bytes (subst IsSome is present))
    of-bytes (Some bytes) is accepted =
        let last : List ℕ = (line_feed ∷ lines_text accepted.steps) ++ [] in (
          bytes,
          behind_limit h ++ last,
          is,
          accepted.accepted.faultless.reads.text_is
              ∙ append_assoc (header_text h) (line_feed ∷ lines_text accepted.steps) [] ∙ begins-as h last,
        )

-- ---- explanations

answer-told : (r : PackageList) (h : ExplainHeader) (explained : Explained) (text : List ℕ) (status : Status) → AcceptedMeans r h explained
    → IsExplainedText r h.«package» explained text → status ≡ explained_status explained → TellsAnswer h.«package» status r text
answer-told r h explained text status accepted told status_is = of-package (slice_get r.packages h.«package») refl accepted.means
  where
    True : Package → Type 0
    True p = (relations : List Demand) → AreRelations r relations → IsTrueOf r relations p explained

    of-package : (o : Option Package) → slice_get r.packages h.«package» ≡ o → IsSomeAnd o True → TellsAnswer h.«package» status r text
    of-package None is means = absurd means
    of-package (Some p) is means = record { p = p; is_package = is; explained = explained; means = means; is = told; status_is = status_is }

-- ---- repairs

own-space : (newest : PackageList) (s : SpaceView) → IsSpaceOf newest false s → IsSpaceOf s.repository false s
own-space newest s is_space = record { space = is_space.space; repository = refl; essential_is = is_space.essential_is }

module _ (laws : AreExact) where
  moves-told : (s : SpaceView) (h : RepairHeader) (repair : Repair) (status : Status) → IsSpaceOf s.repository false s → AcceptedSays s h repair
      → status ≡ repaired_status repair → TellsMoves h.«package» status s.repository (repair_text s h.«package» repair)
  moves-told s h repair status is_space accepted status_is =
      let told = are-told s is_space.space in
      let clusters = told_clusters s is_space.space in
      let own : MovesAnswer = told_answer laws.partitions laws.tops laws.cuts s is_space.space is_space.essential_is clusters told repair in
      record {
        p = accepted.package_is;
        is_package = accepted.in_range;
        clusters = clusters;
        are_clusters = told;
        answer = own;
        means = answer-true laws.partitions laws.tops laws.cuts s is_space.space is_space.essential_is clusters told accepted.package_is repair accepted.says;
        is = ap (λ (o : Option Package). codes "package " ++ (option_map_or label o [] ++ (codes "\n" ++ repair_lines s repair))) accepted.in_range
            ∙ ap (λ (list : List ℕ). codes "package " ++ (label accepted.package_is ++ (codes "\n" ++ list)))
            (answer-text laws.partitions laws.tops laws.cuts s is_space.space is_space.essential_is clusters told accepted.package_is repair accepted.says);
        status_is = status_is ∙ ap marked_status
            (sym (answer-open laws.partitions laws.tops laws.cuts s is_space.space is_space.essential_is clusters told repair));
      }

-- ---- journals

lines-of : (f : Broken → List ℕ) (list : List Broken) → flat_map f list ≡ flat_map (λ line. line) (map f list)
lines-of f [] = refl
lines-of f (x ∷ list) = ap (λ rest. f x ++ rest) (lines-of f list)

true-line : (s : SpaceView) (archive : List Package) (broken : Broken) → IsTrueLine s archive broken
    → IsTrueOfBroken s.essential s.repository (broken_text s archive broken)
true-line s archive broken line = record {
  p = line.p;
  c = line.c;
  told = held_version s archive broken.cluster;
  version = line.version;
  same = line.same;
  challenges = line.challenges;
  is = ap (λ (o : Option Package). codes "broken " ++ (option_map_or label o [] ++ behind (cluster_text s broken.cluster))) line.is_package
      ∙ ap (λ (name : List ℕ). codes "broken " ++ (label line.p ++ behind name)) named;
}
  where
    behind : List ℕ → List ℕ
    behind name = codes " by " ++ (name ++ (codes " at " ++ (held_version s archive broken.cluster ++ codes "\n")))

    first : List ℕ → List ℕ
    first members = option_map_or label (slice_get s.repository.packages (least members)) []

    named : cluster_text s broken.cluster ≡ label line.c
    named = ap (λ (o : Option (List ℕ)). option_map_or first o []) line.are_members ∙ ap (λ (o : Option Package). option_map_or label o []) line.is_first

broken-told : (s : SpaceView) (essential : Bool) (archive : List Package) (count : ℕ) (list : List Broken) → IsSpaceOf s.repository essential s
    → ((broken : Broken) → Contains list broken → IsTrueLine s archive broken)
    → TellsBroken essential s.repository (follow_text s archive count list)
broken-told s essential archive count list is_space right =
    subst (λ (mode : Bool). TellsBroken mode s.repository (follow_text s archive count list)) is_space.essential_is (record {
      steps = count;
      held = length archive;
      lines = map (broken_text s archive) list;
      are_true = All-map (IsTrueOfBroken s.essential s.repository) (broken_text s archive) list (λ k d short.
          true-line s archive (get_or list k d) (right (get_or list k d) (Contains-get_or list k d short)));
      is = ap (λ (rest : List ℕ). counts_text count (length archive) ++ rest) (lines-of (broken_text s archive) list);
    })

-- ---- all

module _ (laws : Laws) (words : List (List ℕ)) (limits : Limits) (result : Status) (desk desk' : DeskView) (out out' err err' : SinkView)
    (runs : Runs words limits result desk desk' out out' err err') where
  pub run-is-true : IsTrue words limits result desk.files out out'
  run-is-true = record {
    sweep = λ kind packages cert essential limit is carried.
        let p = sweep_proved words limits result desk desk' out out' err err' runs laws.claims laws.marks kind packages cert essential limit is carried in
        record {
          file = p.read.0;
          whole = p.read.1;
          repository = p.repository;
          is_repository = p.read.2;
          text = p.report;
          printed = p.printed;
          says = record {
            made = p.made;
            tells = claims-told laws.texts kind essential limit p.repository p.made p.report p.means p.is_report;
            status_is = p.status;
          };
        };
    check = λ packages cert is carried.
        let p = check_proved words limits result desk desk' out out' err err' runs laws.marks packages cert is carried in
        let h = p.header in (
          h.kind,
          h.essential,
          h.limit,
          first-line p.repository limits desk.files cert h p.made p.present p.accepted,
          record {
            file = p.read.0;
            whole = p.read.1;
            repository = p.repository;
            is_repository = p.read.2;
            text = p.report;
            printed = p.printed;
            says = record {
              made = p.made;
              tells = claims-told laws.texts h.kind h.essential h.limit p.repository p.made p.report p.means.means p.is_report;
              status_is = p.status;
            };
          },
        );
    explain = λ packages cert named limit is carried.
        let p = explain_proved words limits result desk desk' out out' err err' runs laws.explanations packages cert named limit is carried in
        record {
          file = p.read.0;
          whole = p.read.1;
          repository = p.repository;
          is_repository = p.read.2;
          text = p.told;
          printed = p.printed;
          says = (p.number, p.is_named, answer-told p.repository (header_on p.number limit) p.explained p.told result p.means p.is_told p.status);
        };
    check_explain = λ packages cert is carried.
        let p = check_explain_proved words limits result desk desk' out out' err err' runs packages cert is carried in
        record {
          file = p.read.0;
          whole = p.read.1;
          repository = p.repository;
          is_repository = p.read.2;
          text = p.told;
          printed = p.printed;
          says = (p.header.«package», answer-told p.repository p.header p.explained p.told result p.means p.is_told p.status);
        };
    repair = λ packages cert named most limit is carried.
        let p = repair_proved words limits result desk desk' out out' err err' runs laws.repairs packages cert named most limit is carried in
        record {
          file = p.read.1.0;
          whole = p.read.1.1;
          repository = p.read.0;
          is_repository = p.read.1.2;
          text = repair_text p.space p.number p.repair;
          printed = p.printed;
          says = (
            p.newest,
            p.read.2,
            p.number,
            p.is_named,
            subst (λ (x : PackageList). TellsMoves p.number result x (repair_text p.space p.number p.repair)) p.is_space.repository
                (moves-told laws.texts p.space (header_with limit p.number most) p.repair result (own-space p.newest p.space p.is_space) p.says p.status),
          );
        };
    check_repair = λ packages cert is carried.
        let p = check_repair_proved words limits result desk desk' out out' err err' runs packages cert is carried in
        record {
          file = p.read.0;
          whole = p.read.1;
          repository = p.repository;
          is_repository = p.read.2;
          text = repair_text p.space p.header.«package» p.repair;
          printed = p.printed;
          says = (p.space.repository, p.is_space.0, p.header.«package», moves-told laws.texts p.space p.header p.repair result p.is_space.1 p.says p.status);
        };
    follow = λ packages cert journal is done.
        let p = follow_proved words limits result desk desk' out out' err err' runs laws.marks packages cert journal is done in
        let h = p.header in (
          h.kind,
          h.essential,
          h.limit,
          first-line p.repository limits desk.files cert h p.made p.present p.accepted,
          record {
            file = p.read.0;
            whole = p.read.1;
            repository = p.repository;
            is_repository = p.read.2;
            text = follow_text p.space p.archive p.count p.list;
            printed = p.printed;
            says = (p.space.repository, p.is_space.0, broken-told p.space h.essential p.archive p.count p.list p.is_space.1 p.true_lines);
          },
        );
  }
