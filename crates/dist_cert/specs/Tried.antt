-- What a mark of a certificate promises: how long its question was tried, and that no line of the trial was idle.
use Rattle.std.specs.Prelude.{◌≡◌, ℕ, ◌+◌, ◌≤◌, List, [], ◌∷◌, ◌++◌, length, map, Contains, Some, slice_get}
use Rattle.std.specs.List.{AllPass}
use Rattle.dist_derive.specs.Follows.{Follows}
use Rattle.dist_derive.specs.New.{EachIsNew}
use Rattle.dist_cert.specs.declared.records.CertKind.{CertKind}
use Rattle.dist_cert.specs.declared.records.CertRecord.{CertRecord}
use Rattle.dist_cert.specs.declared.records.CertRecord.TheVariants as lines
use Rattle.dist_cert.specs.declared.records.Claim.{Claim}
use Rattle.dist_cert.specs.declared.records.Claim.TheVariants.{Unknown, Strong, Challenged}
use Rattle.dist_cert.specs.Accepted.{claims_in}
use Rattle.dist_cert.specs.ClaimRules.{yes, no, claim_question, challenge_question}
use Rattle.dist_cert.specs.Form.{Word}
use Rattle.dist_cert.specs.Groups.{clause_of, derived, numbered, leaves_open}
use Rattle.dist_cert.specs.Subject.{Matter}

-- each derived line among these follows, by its hints, from the clauses that are numbered before it
abbrev pub EachFollows : Matter → List CertRecord → List CertRecord → Type 0
EachFollows matter before since = (front : List CertRecord) (literals : List Word) (hints : List ℕ)
    (back : List CertRecord) → since ≡ front ++ lines.Derived literals hints ∷ back
    → Follows (numbered matter (before ++ front)) (clause_of literals) hints

-- The question is opened, and closed by `u` behind at least so many derived lines. Each of them follows by its hints,
-- and was new under the question's assumptions when it came.
pub record IsTried (matter : Matter) (limit : ℕ) (steps : List CertRecord) (question : List Word) : Type 0 where
  pub earlier : List CertRecord
  pub since : List CertRecord
  pub later : List CertRecord
  pub stands : steps ≡ earlier ++ lines.Question question ∷ since ++ lines.Undecided ∷ later
  pub left_open : AllPass leaves_open since
  pub enough : limit ≤ length (derived since)
  pub follow : EachFollows matter (earlier ++ lines.Question question ∷ []) since
  pub new : EachIsNew (numbered matter earlier) (length matter.inputs) (clause_of question) (derived since)

-- The questions of the marks of a claim, which has a number from 0: its own where it is undecided, or one for each
-- package or pair that it leaves undecided.
abbrev pub marked : Matter → CertKind → ℕ → Claim → List (List Word)
marked matter kind number Unknown = claim_question matter kind (number + 1) ∷ []
marked matter kind number (Strong on undecided) = map (λ q. yes (number + 1) ∷ no (q + 1) ∷ []) undecided
marked matter kind number (Challenged by undecided) =
    map (λ pair. challenge_question matter (number + 1) (pair.0 + 1, pair.1 + 1)) undecided
marked matter kind number claim = []

-- the question of each mark of the lines' claims was tried among the lines
abbrev pub AreMarksTried : Matter → CertKind → ℕ → List CertRecord → Type 0
AreMarksTried matter kind limit steps = (number : ℕ) (claim : Claim) (question : List Word)
    → slice_get (claims_in steps) number ≡ Some claim → Contains (marked matter kind number claim) question
    → IsTried matter limit steps question
