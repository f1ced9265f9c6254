-- The marks of records without faults: each question was tried.
use Rattle.std.proofs.Common.{◌≡◌, inl, inr, ℕ, zero, suc, ◌+◌, ◌-◌, ◌<◌, ◌≤◌, true, List, [], ◌∷◌, ◌++◌, length, get_or, map, refl, sym, ap, subst, ◌∙◌}
use Rattle.std.proofs.Common.{append_assoc, arith}
use Rattle.std.specs.List.{Contains}
use Rattle.std.proofs.lemmas.List.Elements.{All-contains}
use Rattle.dist_clause.specs.Formula.{negation}
use Rattle.dist_cert.specs.declared.faults.CertCause.TheVariants as causes
use Rattle.dist_cert.specs.declared.records.CertKind.{CertKind}
use Rattle.dist_cert.specs.declared.records.CertKind.TheVariants as kinds
use Rattle.dist_cert.specs.declared.records.CertRecord.{CertRecord}
use Rattle.dist_cert.specs.declared.records.CertRecord.TheVariants as lines
use Rattle.dist_cert.specs.declared.records.Claim.{Claim}
use Rattle.dist_cert.specs.declared.records.Claim.TheVariants as claims
use Rattle.dist_cert.specs.declared.records.Header.{Header}
use Rattle.dist_cert.specs.Accepted.{from_zero, pairs_from_zero, claim_in}
use Rattle.dist_cert.specs.ClaimRules.{yes, no, claim_question, challenge_question, IsInEach, IsCovered, HoldsClaim}
use Rattle.dist_cert.specs.Form.{Word, AreFromOne, ArePairs, record_text, HasForm}
use Rattle.dist_cert.specs.GroupLaws.{all-at, closed-more}
use Rattle.dist_cert.specs.Groups.{clause_of, derived, numbered, is_claim, claim_count, group, IsOpen, IsUndecidedIn}
use Rattle.dist_cert.specs.Subject.{Matter}
use Rattle.dist_cert.specs.Tried.{EachFollows, IsTried, marked, AreMarksTried}
use Rattle.dist_judge.specs.LineLaws.{HaveForms}
use Rattle.dist_line_check.specs.LinesAt.{AreRight}
use Rattle.dist_line_check.specs.ToldLaws.{stable, less-told}
use Rattle.dist_check.proofs.NewTold.{each-new-stable}
use Rattle.dist_check.proofs.TriedTold.{ends-told, undecided-in-told, closed-front}
use Rattle.dist_check.proofs.Places.{image-of}
use Rattle.dist_check.proofs.GroupLemmas.{group-behind}
use Rattle.dist_check.proofs.Claims.{up}
use Rattle.dist_check.proofs.Counts.{find-claim, next-number}

-- a question that is closed as undecided was tried
pub tried : (matter : Matter) (h : Header) (steps : List CertRecord) → AreRight matter h steps → (question : List Word) → IsUndecidedIn steps question
    → IsTried matter h.limit steps question
tried matter h steps right question closed = record {
  earlier = earlier;
  since = since;
  later = later;
  stands = closed.3;
  left_open = closed.4;
  enough = not-less (length (derived since)) h.limit
      (λ less. right asked lines.Undecided later closed.3 causes.LimitNotReached (earlier, question, since, opened, less));
  follow = follow;
  new = each-new-stable (numbered matter earlier) (length matter.inputs) (clause_of question) (derived since)
      (λ none. right asked lines.Undecided later closed.3 causes.NotNew (earlier, question, since, opened, none));
}
  where
    earlier : List CertRecord
    earlier = closed.0

    since : List CertRecord
    since = closed.1

    later : List CertRecord
    later = closed.2

    asked : List CertRecord
    asked = earlier ++ lines.Question question ∷ since

    opened : IsOpen asked earlier question since
    opened = record { ends = refl; left_open = closed.4 }

    not-less : (a b : ℕ) → ¬ (a < b) → b ≤ a
    not-less a b none = elim (less-told a b) [
      | inl less ↦ absurd (none less)
      | inr past ↦ omega arith
    ]

    follow : EachFollows matter (earlier ++ lines.Question question ∷ []) since
    follow front literals hints back is =
        let before : List CertRecord = earlier ++ lines.Question question ∷ [] ++ front in
        let step : CertRecord = lines.Derived literals hints in
        let whole : steps ≡ before ++ step ∷ (back ++ lines.Undecided ∷ later)
        = closed.3 ∙ ap (λ (ls : List CertRecord). earlier ++ lines.Question question ∷ ls ++ lines.Undecided ∷ later) is
        ∙ ap (λ (ls : List CertRecord). ls ++ lines.Undecided ∷ later) (sym (append_assoc earlier (lines.Question question ∷ []) (front ++ step ∷ back))
        ∙ sym (append_assoc (earlier ++ lines.Question question ∷ []) front (step ∷ back)))
        ∙ append_assoc before (step ∷ back) (lines.Undecided ∷ later) in
        stable (ends-told (numbered matter before) (map negation (clause_of literals)) hints)
        (right before step (back ++ lines.Undecided ∷ later) whole causes.BadLine)

-- ---- the questions of a claim's marks

pub up-pair : (pairs : List (ℕ × ℕ)) (pair : ℕ × ℕ) → ArePairs pairs → Contains (pairs_from_zero pairs) pair → Contains pairs (pair.0 + 1, pair.1 + 1)
up-pair pairs pair from_one there =
    let image = image-of (λ (x : ℕ × ℕ). (x.0 - 1, x.1 - 1)) pairs pair there in
    let low = All-contains (λ (x : ℕ × ℕ). (1 ≤ x.0) × (1 ≤ x.1)) pairs image.of from_one image.there in
    let one : image.of.0 ≡ pair.0 + 1 = omega (arith, low.0, ap (λ (x : ℕ × ℕ). x.0) image.is) in
    let two : image.of.1 ≡ pair.1 + 1 = omega (arith, low.1, ap (λ (x : ℕ × ℕ). x.1) image.is) in
    let e : image.of ≡ (pair.0 + 1, pair.1 + 1) = λ i. (one i, two i) in
    subst (Contains pairs) e image.there

alone : (question asked : List Word) → Contains (question ∷ []) asked → question ≡ asked
alone question asked there = at there.0 there.1 there.2
  where
    at : (k : ℕ) → k < 1 → get_or (question ∷ []) k asked ≡ asked → question ≡ asked
    at zero within is = is
    at (suc k) within is = absurd (omega arith)

no-mark : {X : Type 0} (x : X) → ¬ Contains [] x
no-mark x there = omega (arith, there.1)

unknown-left : (matter : Matter) (kind : CertKind) (before : List CertRecord) (p : ℕ) (question : List Word)
    → claim_question matter kind p ≡ question → HoldsClaim matter kind before (lines.Unknown p) → IsUndecidedIn (group before) question
unknown-left matter kinds.Strong before p question is holds = subst (IsUndecidedIn (group before)) is holds
unknown-left matter kinds.Outdated before p question is holds = subst (IsUndecidedIn (group before)) is holds
unknown-left matter kinds.Challenged before p question is holds = subst (IsUndecidedIn (group before)) is holds

strong-left : (matter : Matter) (kind : CertKind) (before : List CertRecord) (p : ℕ) (named on undecided : List ℕ) (question : List Word)
    → AreFromOne undecided → Contains (map (λ q. yes p ∷ no (q + 1) ∷ []) (from_zero undecided)) question
    → HoldsClaim matter kind before (lines.Strong p named on undecided) → IsUndecidedIn (group before) question
strong-left matter kinds.Strong before p named on undecided question from_one there holds =
    let image = image-of (λ q. yes p ∷ no (q + 1) ∷ []) (from_zero undecided) question there in
    subst (IsUndecidedIn (group before)) image.is
    (All-contains (λ q. IsUndecidedIn (group before) (yes p ∷ no q ∷ []) × IsInEach before named p q) undecided (image.of + 1) holds.open_still
    (up undecided image.of from_one image.there)).0
strong-left matter kinds.Outdated before p named on undecided question from_one there holds = absurd holds
strong-left matter kinds.Challenged before p named on undecided question from_one there holds = absurd holds

challenged-left : (matter : Matter) (kind : CertKind) (before : List CertRecord) (p : ℕ) (named : List ℕ) (by undecided : List (ℕ × ℕ)) (question : List Word)
    → ArePairs undecided → Contains (map (λ (pair : ℕ × ℕ). challenge_question matter p (pair.0 + 1, pair.1 + 1)) (pairs_from_zero undecided)) question
    → HoldsClaim matter kind before (lines.Challenged p named by undecided) → IsUndecidedIn (group before) question
challenged-left matter kinds.Challenged before p named by undecided question from_one there holds =
    let image = image-of (λ (pair : ℕ × ℕ). challenge_question matter p (pair.0 + 1, pair.1 + 1)) (pairs_from_zero undecided) question there in
    subst (IsUndecidedIn (group before)) image.is
    (All-contains (λ pair. IsUndecidedIn (group before) (challenge_question matter p pair) × (¬ IsCovered matter before p named pair)) undecided
    (image.of.0 + 1, image.of.1 + 1) holds.open_still (up-pair undecided image.of from_one image.there)).0
challenged-left matter kinds.Strong before p named by undecided question from_one there holds = absurd holds
challenged-left matter kinds.Outdated before p named by undecided question from_one there holds = absurd holds

-- where its claim holds only with the question closed as undecided in the group, it is so among all lines
closed-for : (matter : Matter) (h : Header) (steps : List CertRecord) → AreRight matter h steps → (before : List CertRecord) (step : CertRecord)
    (after : List CertRecord) → steps ≡ before ++ step ∷ after → is_claim step ≡ true → (question : List Word)
    → (HoldsClaim matter h.kind before step → IsUndecidedIn (group before) question) → IsUndecidedIn steps question
closed-for matter h steps right before step after is claim question leaves =
    let behind = group-behind before in
    let closed = stable (undecided-in-told (group before) question)
    (λ none. right before step after is causes.WrongClaim (claim, λ holds. none (leaves holds))) in
    subst (λ ls. IsUndecidedIn ls question) (sym is) (closed-more before (step ∷ after) question lines.Undecided
    (subst (λ ls. IsUndecidedIn ls question) (sym behind.is) (closed-front behind.front (group before) question closed)))

mark-closed : (matter : Matter) (h : Header) (steps : List CertRecord) → AreRight matter h steps → HaveForms steps → (before : List CertRecord)
    (step : CertRecord) (after : List CertRecord) (claim : Claim) → steps ≡ before ++ step ∷ after → claim_in step ≡ claim ∷ [] → (question : List Word)
    → Contains (marked matter h.kind (claim_count before) claim) question → IsUndecidedIn steps question
mark-closed matter h steps right forms before (lines.Question literals) after claim is e question there = cc
mark-closed matter h steps right forms before (lines.Derived literals hints) after claim is e question there = cc
mark-closed matter h steps right forms before (lines.Refuted hints) after claim is e question there = cc
mark-closed matter h steps right forms before (lines.Installation variables) after claim is e question there = cc
mark-closed matter h steps right forms before lines.Undecided after claim is e question there = cc
mark-closed matter h steps right forms before lines.End after claim is e question there = cc
mark-closed matter h steps right forms before (lines.NotInstallable n) after claim is e question there =
    let same : claim ≡ claims.Uninstallable = cc in
    absurd (no-mark question (subst (λ c. Contains (marked matter h.kind (claim_count before) c) question) same there))
mark-closed matter h steps right forms before (lines.Outdated n) after claim is e question there =
    let same : claim ≡ claims.Outdated = cc in
    absurd (no-mark question (subst (λ c. Contains (marked matter h.kind (claim_count before) c) question) same there))
mark-closed matter h steps right forms before (lines.Alive n i) after claim is e question there =
    let same : claim ≡ claims.Alive = cc in
    absurd (no-mark question (subst (λ c. Contains (marked matter h.kind (claim_count before) c) question) same there))
mark-closed matter h steps right forms before (lines.Unknown n) after claim is e question there =
    let step = lines.Unknown n in
    let same : claim ≡ claims.Unknown = cc in
    let next = next-number (claim_count before) matter.packages n (right before step after is causes.OutOfOrder) in
    closed-for matter h steps right before step after is refl question (unknown-left matter h.kind before n question
    (ap (claim_question matter h.kind) next.0 ∙ alone (claim_question matter h.kind (claim_count before + 1)) question
    (subst (λ c. Contains (marked matter h.kind (claim_count before) c) question) same there)))
mark-closed matter h steps right forms before (lines.Strong n named on undecided) after claim is e question there =
    let step = lines.Strong n named on undecided in
    let same : claim ≡ claims.Strong (from_zero on) (from_zero undecided) = cc in
    let next = next-number (claim_count before) matter.packages n (right before step after is causes.OutOfOrder) in
    let form = all-at (λ s. HasForm (record_text s) s) steps before step after is forms in
    closed-for matter h steps right before step after is refl question (strong-left matter h.kind before n named on undecided question form.rules.4
    (subst (λ p. Contains (map (λ q. yes p ∷ no (q + 1) ∷ []) (from_zero undecided)) question) (sym next.0)
    (subst (λ c. Contains (marked matter h.kind (claim_count before) c) question) same there)))
mark-closed matter h steps right forms before (lines.Challenged n named by undecided) after claim is e question there =
    let step = lines.Challenged n named by undecided in
    let same : claim ≡ claims.Challenged (pairs_from_zero by) (pairs_from_zero undecided) = cc in
    let next = next-number (claim_count before) matter.packages n (right before step after is causes.OutOfOrder) in
    let form = all-at (λ s. HasForm (record_text s) s) steps before step after is forms in
    closed-for matter h steps right before step after is refl question (challenged-left matter h.kind before n named by undecided question form.rules.4
    (subst (λ p. Contains (map (λ (pair : ℕ × ℕ). challenge_question matter p (pair.0 + 1, pair.1 + 1)) (pairs_from_zero undecided)) question) (sym next.0)
    (subst (λ c. Contains (marked matter h.kind (claim_count before) c) question) same there)))

pub marks-tried : (matter : Matter) (h : Header) (steps : List CertRecord) → AreRight matter h steps → HaveForms steps
    → AreMarksTried matter h.kind h.limit steps
marks-tried matter h steps right forms number claim question at there =
    let line = find-claim steps claim number at in
    tried matter h steps right question (mark-closed matter h steps right forms line.before line.step line.after claim line.is line.one question
    (subst (λ n. Contains (marked matter h.kind n claim) question) (sym line.count) there))
