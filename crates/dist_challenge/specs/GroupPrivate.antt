-- Serves private contracts: the group of a claim on a challenged package.
use Rattle.std.specs.Prelude.{◌≡◌, ◌≢◌, ◌⊎◌, ℕ, ◌+◌, ◌-◌, ◌<◌, ◌≤◌, false, List, [], ◌∷◌, ◌++◌, All, AllPairs, Any}
use Rattle.std.specs.Prelude.{Contains}
use Rattle.std.specs.Prelude.{length, map, slice_index, slice_index_or}
use Rattle.std.specs.List.{list_any}
use Rattle.dist_outside.specs.DeskView.{DeskView, FileGrew}
use Rattle.dist_outside.specs.declared.trouble.WorkError.{WorkError}
use Rattle.dist_cert.specs.declared.TheConstants.{REACH}
use Rattle.dist_cert.specs.declared.records.CertRecord.{CertRecord}
use Rattle.dist_cert.specs.declared.records.CertRecord.TheVariants.{Challenged, Question}
use Rattle.dist_cert.specs.declared.records.Claim.{Claim}
use Rattle.dist_cert.specs.ClaimRules.{Covers, IsCovered, SomeInstallation, yes}
use Rattle.dist_cert.specs.Form.{AreFromOne, IsSmall, Word}
use Rattle.dist_cert.specs.Groups as lines
use Rattle.dist_cert.specs.FileLines.{lines_text}
use Rattle.dist_space.specs.Space.{SpaceView, variable_of}
use Rattle.dist_space.specs.declared.meaning.Meaning.TheVariants.{Present}
use Rattle.dist_line_write.specs.Asking.{AskerView}
use Rattle.dist_sweep.specs.Asking.{IsAt}
use Rattle.dist_sweep.specs.Script.{Setting, Stops, matter_in}
use Rattle.dist_sweep.specs.Claiming.{IsClaimed}
use Rattle.dist_sweep.specs.Window.{IsWindowAt, WindowView}
use Rattle.dist_covering.specs.Covering.{CoveringView}
use Rattle.dist_challenge.specs.ChallengedPrivate.{KeepsChallenged}
use Rattle.dist_covering.specs.OpenPairs.{IsKept, IsPairVariable}
use Rattle.dist_covering.specs.Group.{GroupView}
use Rattle.dist_covering.specs.Used.{pair_at}

-- no installation came, or one, which is kept
abbrev pub IsNextCount : WindowView → WindowView → Type 0
IsNextCount w v = (v.count ≡ w.count) ⊎ ((v.count ≡ w.count + 1) × IsKept v v.count)

-- both numbers of each pair are small
abbrev pub AreSmallPairs : List (ℕ × ℕ) → Type 0
AreSmallPairs pairs = All (λ pair. IsSmall pair.0 × IsSmall pair.1) pairs

-- the question of two variables
abbrev pub together : ℕ → ℕ → List Word
together present at = yes present ∷ yes at ∷ []

-- a claim may name the installation once so many more came
pub record IsNameable (before : List CertRecord) (present more number : ℕ) : Type 0 where
  pub from_one : 1 ≤ number
  pub upto : number ≤ length (lines.installations before)
  pub lasts : length (lines.installations before) + more < number + REACH
  pub has : Contains (lines.installation_at before number) present

-- a pair that the group says nothing of yet is covered
abbrev pub CoversRest : Setting → List CertRecord → SpaceView → GroupView → Type 0
CoversRest g before s group = (at : ℕ) → IsPairVariable s (slice_index s.cluster_of (group.claimed - 1)) at
    → ¬ Contains group.left at
    → ¬ Contains group.refuted at → ¬ Contains group.undecided at
    → IsCovered (matter_in g) before group.claimed group.named (pair_at s at)

-- Of all installations, that of a number covers a pair that today's does not, nor a later one of those that are named.
pub record Struck (g : Setting) (s : SpaceView) (own : ℕ) (all : List (List ℕ)) (today : ℕ) (named : List ℕ)
    (number : ℕ) : Type 0 where
  pub at : ℕ
  pub variable : IsPairVariable s own at
  pub covers : Covers (matter_in g) (pair_at s at) (slice_index_or all (number - 1) [])
  pub not_today : ¬ Covers (matter_in g) (pair_at s at) (slice_index_or all (today - 1) [])
  pub none_later : All (λ later. number < later
      → ¬ Covers (matter_in g) (pair_at s at) (slice_index_or all (later - 1) [])) named

-- One installation is of today, and is named or of the group. Each other one that is named struck a pair. Where none is
-- named, the latest one did, or is that of today.
pub record AreFew (g : Setting) (s : SpaceView) (own present : ℕ) (all group : List (List ℕ)) (named : List ℕ) : Type 0
  where
    pub today : ℕ
    pub from_one : 1 ≤ today
    pub upto : today ≤ length all
    pub has : Contains (slice_index_or all (today - 1) []) present
    pub now : Contains (slice_index_or all (today - 1) []) 1
    pub struck : All (λ number. number ≢ today → Struck g s own all today named number) named
    pub of_group : length named ≡ 0 → Contains group (slice_index_or all (today - 1) [])
    pub latest : length named ≡ 0 → length all ≢ today → Struck g s own all today [] (length all)

-- What is kept of the group of the next claim is what its lines hold.
pub record IsGroupAt (g : Setting) (before : List CertRecord) (s : SpaceView) (group : GroupView) : Type 0 where
  pub claimed : group.claimed ≡ lines.claim_count before + 1
  pub upto : group.claimed ≤ length s.repository.packages
  pub present : group.present ≡ variable_of s (Present (group.claimed - 1))
  pub each : All (λ members. Contains members group.present) (lines.installations (lines.group before))
  pub some : length group.named ≡ 0 → 0 < length (lines.installations (lines.group before))
  pub names : All (IsNameable before group.present (length group.left)) group.named
  pub distinct : AllPairs (λ m n. m ≢ n) group.named
  pub today : SomeInstallation before group.named group.present (λ members. Contains members 1)
  pub few : AreFew g s (slice_index s.cluster_of (group.claimed - 1)) group.present (lines.installations before)
      (lines.installations (lines.group before)) group.named
  pub falling : AllPairs (λ a b. b < a) group.left
  pub apart : All (λ at. ¬ Contains group.undecided at) group.refuted
  pub left_apart : All (λ at. (¬ Contains group.refuted at) × (¬ Contains group.undecided at)) group.left
  pub pairs : All (IsPairVariable s (slice_index s.cluster_of (group.claimed - 1))) group.left
      × All (IsPairVariable s (slice_index s.cluster_of (group.claimed - 1))) group.refuted
      × All (IsPairVariable s (slice_index s.cluster_of (group.claimed - 1))) group.undecided
  pub are_refuted : All (λ at. lines.IsRefutedIn (lines.group before) (together group.present at)) group.refuted
  pub are_undecided : All (λ at. lines.IsUndecidedIn (lines.group before) (together group.present at)) group.undecided
  pub uncovered : All (λ at. ¬ IsCovered (matter_in g) before group.claimed group.named (pair_at s at)) group.left
      × All (λ at. ¬ IsCovered (matter_in g) before group.claimed group.named (pair_at s at)) group.undecided
  pub asked : (at : ℕ) → Contains (lines.group before) (Question (together group.present at)) → ¬ Contains group.left at

-- an installation of the group covers the pair of a variable
abbrev pub CoversOwn : Setting → List CertRecord → SpaceView → ℕ → Type 0
CoversOwn g before s at = Any (Covers (matter_in g) (pair_at s at)) (lines.installations (lines.group before))

-- each pair that was asked for is refuted, undecided, or covered by an installation of the group
abbrev pub EachAnswered : Setting → List CertRecord → SpaceView → GroupView → Type 0
EachAnswered g before s group = (at : ℕ) → Contains (lines.group before) (Question (together group.present at))
    → Contains group.refuted at ⊎ (Contains group.undecided at ⊎ CoversOwn g before s at)

-- no installation of today with the package was asked for
abbrev pub NoToday : List CertRecord → GroupView → Type 0
NoToday before group = ¬ Contains (lines.group before) (Question (together 1 group.present))

-- All that is kept is what these lines hold.
pub record IsSettling (g : Setting) (before : List CertRecord) (a : AskerView) (w : WindowView) (c : CoveringView)
    (group : GroupView) : Type 0
  where
    pub keeps : KeepsChallenged g before c
    pub at : IsAt g before a
    pub window : IsWindowAt before w
    pub group_at : IsGroupAt g before c.space group

-- More lines were written for a group, and all that is kept is what they hold too. What the group says nothing of stays
-- covered, each pair that was asked for stays answered, and no installation of today was asked for.
pub record Settles (g : Setting) (before : List CertRecord) (old new : DeskView) (was : SpaceView) (group : GroupView)
    (a : AskerView) (w : WindowView)
    (c : CoveringView)
    (h : GroupView) : Type 0 where
  pub added : List CertRecord
  pub grew : FileGrew (lines_text added) old new
  pub no_claims : list_any lines.is_claim added ≡ false
  pub settling : IsSettling g (before ++ added) a w c h
  pub rest : CoversRest g before was group → CoversRest g (before ++ added) c.space h
  pub answered : EachAnswered g before was group → EachAnswered g (before ++ added) c.space h
  pub no_today : NoToday before group → NoToday (before ++ added) h

abbrev pub SettleMore : DeskView → DeskView → AskerView → AskerView → WindowView → WindowView → CoveringView
    → CoveringView → GroupView → GroupView
    → Type 0
SettleMore old new a b w v c d group h = (g : Setting) (before : List CertRecord) → IsSettling g before a w c group
    → Settles g before old new c.space group b v d h

abbrev pub SettleStops : DeskView → DeskView → AskerView → WindowView → CoveringView → GroupView → WorkError → Type 0
SettleStops old new a w c group error = (g : Setting) (before : List CertRecord) → IsSettling g before a w c group
    → Stops g before old new error

-- where a claim was written behind the lines of its group
abbrev pub ChallengeMore : DeskView → DeskView → AskerView → AskerView → WindowView → WindowView → CoveringView
    → CoveringView → GroupView → Claim
    → Type 0
ChallengeMore old new a b w v c d group claim = (g : Setting) (before : List CertRecord)
    → IsSettling g before a w c group → CoversRest g before c.space group
    → IsClaimed g before old new b v (λ lines. KeepsChallenged g lines d) claim

abbrev pub ChallengeStops : DeskView → DeskView → AskerView → WindowView → CoveringView → GroupView → WorkError
    → Type 0
ChallengeStops old new a w c group error = (g : Setting) (before : List CertRecord) → IsSettling g before a w c group
    → CoversRest g before c.space group → Stops g before old new error

-- What the calls of a claim are given, apart from the lines, also before its group names anything.
pub record FitsBegun (a : AskerView) (w : WindowView) (c : CoveringView) (group : GroupView) : Type 0 where
  pub limit : 1 ≤ a.limit
  pub variables : a.log.variables ≡ length c.space.meanings
  pub window : w.variables ≡ length c.space.meanings
  pub from_one : 1 ≤ group.claimed
  pub upto : group.claimed ≤ length c.space.repository.packages
  pub present : group.present ≡ variable_of c.space (Present (group.claimed - 1))
  pub refuted : All (IsPairVariable c.space (slice_index c.space.cluster_of (group.claimed - 1))) group.refuted
  pub undecided : All (IsPairVariable c.space (slice_index c.space.cluster_of (group.claimed - 1))) group.undecided

-- What the calls of a group are given, apart from the lines.
pub record FitsGroup (a : AskerView) (w : WindowView) (c : CoveringView) (group : GroupView) : Type 0 where
  pub begun : FitsBegun a w c group
  pub named : AreFromOne group.named
  pub some : length group.named ≡ 0 → 1 ≤ w.count
  pub left : All (IsPairVariable c.space (slice_index c.space.cluster_of (group.claimed - 1))) group.left

-- the installations that a claim names: the latest one where no other is to be named
abbrev pub names_of : WindowView → List ℕ → List ℕ
names_of w [] = w.count ∷ []
names_of w (n ∷ named) = n ∷ named

-- the line of the claim of a group
abbrev pub challenged_line : SpaceView → WindowView → GroupView → CertRecord
challenged_line s w group =
    Challenged group.claimed (names_of w group.named) (map (pair_at s) group.refuted) (map (pair_at s) group.undecided)
