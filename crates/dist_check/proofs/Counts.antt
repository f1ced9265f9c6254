-- How many claims records without faults make, and which line makes which.
use Rattle.std.proofs.Common.{◌≡◌, ◌≢◌, ◌⊎◌, inl, inr, ℕ, zero, suc, ◌+◌, ◌<◌, ◌≤◌, List, [], ◌∷◌, ◌++◌, length, Some, refl, sym, ap, subst, ◌∙◌, append_assoc}
use Rattle.std.proofs.Common.{arith, slice_get, length-append}
use Rattle.std.specs.List.{Any, Contains, flat_map}
use Rattle.std.proofs.lemmas.Bool.{cases_eq}
use Rattle.std.proofs.lemmas.List.{append-nil}
use Rattle.std.proofs.lemmas.Grind.{flat_map-append}
use Rattle.dist_base.specs.ListLaws.{any-head}
use Rattle.dist_cert.specs.declared.faults.CertCause.TheVariants as causes
use Rattle.dist_cert.specs.declared.records.CertRecord.{CertRecord}
use Rattle.dist_cert.specs.declared.records.CertRecord.TheVariants as lines
use Rattle.dist_cert.specs.declared.records.Claim.{Claim}
use Rattle.dist_cert.specs.declared.records.Claim.TheVariants as claims
use Rattle.dist_cert.specs.declared.records.Header.{Header}
use Rattle.dist_cert.specs.Groups.{claimed, claim_count}
use Rattle.dist_cert.specs.Accepted.{from_zero, pairs_from_zero, claim_in, claims_in}
use Rattle.dist_cert.specs.Subject.{Matter}
use Rattle.dist_line_check.specs.LinesAt.{AreRight}
use Rattle.dist_line_check.specs.ToldLaws.{stable, less-told, most-told}
use Rattle.dist_check.proofs.Places.{cut-at}

-- a line is no claim, or one claim on one package
record IsOne (step : CertRecord) : Type 0 where
  claim : Claim
  number : ℕ
  is : claim_in step ≡ claim ∷ []
  of : claimed step ≡ number ∷ []

claim-or-none : (step : CertRecord) → ((claim_in step ≡ []) × (claimed step ≡ [])) ⊎ IsOne step
claim-or-none (lines.Question literals) = inl (refl, refl)
claim-or-none (lines.Derived literals hints) = inl (refl, refl)
claim-or-none (lines.Refuted hints) = inl (refl, refl)
claim-or-none (lines.Installation variables) = inl (refl, refl)
claim-or-none lines.Undecided = inl (refl, refl)
claim-or-none lines.End = inl (refl, refl)
claim-or-none (lines.NotInstallable p) = inr (record { claim = claims.Uninstallable; number = p; is = refl; of = refl })
claim-or-none (lines.Unknown p) = inr (record { claim = claims.Unknown; number = p; is = refl; of = refl })
claim-or-none (lines.Strong p named on undecided) = inr (record {
  claim = claims.Strong (from_zero on) (from_zero undecided);
  number = p;
  is = refl;
  of = refl;
})
claim-or-none (lines.Outdated p) = inr (record { claim = claims.Outdated; number = p; is = refl; of = refl })
claim-or-none (lines.Alive p i) = inr (record { claim = claims.Alive; number = p; is = refl; of = refl })
claim-or-none (lines.Challenged p i by undecided) = inr (record {
  claim = claims.Challenged (pairs_from_zero by) (pairs_from_zero undecided);
  number = p;
  is = refl;
  of = refl;
})

-- a claim line with its place among claims
pub record IsLineOfClaim (steps : List CertRecord) (number : ℕ) (claim : Claim) : Type 0 where
  pub before : List CertRecord
  pub step : CertRecord
  pub after : List CertRecord
  pub is : steps ≡ before ++ step ∷ after
  pub one : claim_in step ≡ claim ∷ []
  pub count : claim_count before ≡ number

pub claim-count-push : (before : List CertRecord) (step : CertRecord) → claim_count (before ++ step ∷ []) ≡ claim_count before + length (claimed step)
claim-count-push before step =
    ap (λ (ns : List ℕ). length ns) (flat_map-append claimed before (step ∷ [])
    ∙ ap (λ (ns : List ℕ). flat_map claimed before ++ ns) (append-nil (claimed step)))
    ∙ length-append (flat_map claimed before) (claimed step)

later-claim : (step : CertRecord) (steps : List CertRecord) (more number : ℕ) (claim : Claim) → length (claimed step) ≡ more → IsLineOfClaim steps number claim
    → IsLineOfClaim (step ∷ steps) (more + number) claim
later-claim step steps more number claim size line = record {
  before = step ∷ line.before;
  step = line.step;
  after = line.after;
  is = ap (λ (ls : List CertRecord). step ∷ ls) line.is;
  one = line.one;
  count = length-append (claimed step) (flat_map claimed line.before) ∙ ap (λ (n : ℕ). n + claim_count line.before) size ∙ ap (λ (n : ℕ). more + n) line.count;
}

-- a claim line at a place, by the claims behind it
at-place : (step : CertRecord) (steps : List CertRecord) (claim : Claim) (one : IsOne step)
    → ((m : ℕ) → slice_get (claims_in steps) m ≡ Some claim → IsLineOfClaim steps m claim)
    → (number : ℕ) → slice_get (one.claim ∷ claims_in steps) number ≡ Some claim → IsLineOfClaim (step ∷ steps) number claim
at-place step steps claim one rest zero at = record {
  before = [];
  step = step;
  after = steps;
  is = refl;
  one = one.is ∙ ap (λ (c : Claim). c ∷ []) (let e : one.claim ≡ claim = cc in e);
  count = refl;
}
at-place step steps claim one rest (suc m) at =
    let e : 1 + m ≡ suc m = omega arith in
    subst (λ n. IsLineOfClaim (step ∷ steps) n claim) e (later-claim step steps 1 m claim (ap (λ (ns : List ℕ). length ns) one.of) (rest m at))

pub find-claim : (steps : List CertRecord) (claim : Claim) (number : ℕ) → slice_get (claims_in steps) number ≡ Some claim → IsLineOfClaim steps number claim
find-claim [] claim number at = cc
find-claim (step ∷ steps) claim number at = elim (claim-or-none step) [
  | inl none ↦
      let e : 0 + number ≡ number = omega arith in
      subst (λ n. IsLineOfClaim (step ∷ steps) n claim) e (later-claim step steps 0 number claim (ap (λ (ns : List ℕ). length ns) none.1)
      (find-claim steps claim number (subst (λ (cs : List Claim). slice_get (cs ++ claims_in steps) number ≡ Some claim) none.0 at)))
  | inr one ↦ at-place step steps claim one (find-claim steps claim) number
      (subst (λ (cs : List Claim). slice_get (cs ++ claims_in steps) number ≡ Some claim) one.is at)
]

-- as many claims as claim lines
same-count : (steps : List CertRecord) → length (claims_in steps) ≡ claim_count steps
same-count [] = refl
same-count (step ∷ steps) = elim (claim-or-none step) [
  | inl none ↦ length-append (claim_in step) (claims_in steps)
      ∙ ap (λ (n : ℕ). n + length (claims_in steps)) (ap (λ (cs : List Claim). length cs) none.0 ∙ sym (ap (λ (ns : List ℕ). length ns) none.1))
      ∙ ap (λ (n : ℕ). length (claimed step) + n) (same-count steps) ∙ sym (length-append (claimed step) (flat_map claimed steps))
  | inr one ↦ length-append (claim_in step) (claims_in steps)
      ∙ ap (λ (n : ℕ). n + length (claims_in steps)) (ap (λ (cs : List Claim). length cs) one.is ∙ sym (ap (λ (ns : List ℕ). length ns) one.of))
      ∙ ap (λ (n : ℕ). length (claimed step) + n) (same-count steps) ∙ sym (length-append (claimed step) (flat_map claimed steps))
]

-- ---- as many claims as packages

pub next-number : (count packages p : ℕ) → ¬ Any (λ q. (q ≢ count + 1) ⊎ (packages < q)) (p ∷ []) → (p ≡ count + 1) × (p ≤ packages)
next-number count packages p none =
    let Wrong : ℕ → Type 0 = λ q. (q ≢ count + 1) ⊎ (packages < q) in (
      stable (cases_eq p (count + 1)) (λ other. none (any-head Wrong p [] (inl other))),
      stable (most-told p packages) (λ high. none (any-head Wrong p [] (inr (omega (arith, not-most p packages high))))),
    )
  where
    not-most : (a b : ℕ) → ¬ (a ≤ b) → b < a
    not-most a b high = stable (less-told b a) (λ none. high (omega arith))

none-claimed : (n : ℕ) → [] ≡ n ∷ [] → ⊥
none-claimed n e = let sizes = ap (λ (ns : List ℕ). length ns) e in omega (arith, sizes)

module _ (matter : Matter) (h : Header) (steps : List CertRecord) (right : AreRight matter h steps) where
  abbrev Follows-on : List CertRecord → ℕ → Type 0
  Follows-on before n = (n ≡ claim_count before + 1) × (n ≤ matter.packages)

  abbrev IsInOrder : List CertRecord → List ℕ → Type 0
  IsInOrder before numbers = ¬ Any (λ q. (q ≢ claim_count before + 1) ⊎ (matter.packages < q)) numbers

  of-number : (before : List CertRecord) (numbers : List ℕ) (n : ℕ) → IsInOrder before numbers → numbers ≡ n ∷ [] → Follows-on before n
  of-number before numbers n none of = next-number (claim_count before) matter.packages n (subst (IsInOrder before) of none)

  -- the package of a claim is the next one, and not above the last
  pub next-claim : (before : List CertRecord) (step : CertRecord) (after : List CertRecord) (n : ℕ) → steps ≡ before ++ step ∷ after
      → claimed step ≡ n ∷ [] → (n ≡ claim_count before + 1) × (n ≤ matter.packages)
  next-claim before (lines.NotInstallable p) after n is of = of-number before (p ∷ []) n (right before (lines.NotInstallable p) after is causes.OutOfOrder) of
  next-claim before (lines.Unknown p) after n is of = of-number before (p ∷ []) n (right before (lines.Unknown p) after is causes.OutOfOrder) of
  next-claim before (lines.Strong p named on undecided) after n is of =
      of-number before (p ∷ []) n (right before (lines.Strong p named on undecided) after is causes.OutOfOrder) of
  next-claim before (lines.Outdated p) after n is of = of-number before (p ∷ []) n (right before (lines.Outdated p) after is causes.OutOfOrder) of
  next-claim before (lines.Alive p i) after n is of = of-number before (p ∷ []) n (right before (lines.Alive p i) after is causes.OutOfOrder) of
  next-claim before (lines.Challenged p named by undecided) after n is of =
      of-number before (p ∷ []) n (right before (lines.Challenged p named by undecided) after is causes.OutOfOrder) of
  next-claim before (lines.Question literals) after n is of = absurd (none-claimed n of)
  next-claim before (lines.Derived literals hints) after n is of = absurd (none-claimed n of)
  next-claim before (lines.Refuted hints) after n is of = absurd (none-claimed n of)
  next-claim before (lines.Installation variables) after n is of = absurd (none-claimed n of)
  next-claim before lines.Undecided after n is of = absurd (none-claimed n of)
  next-claim before lines.End after n is of = absurd (none-claimed n of)

  -- there are no more claims than packages
  few-more : (before more after : List CertRecord) → steps ≡ before ++ (more ++ after) → claim_count before ≤ matter.packages
      → claim_count (before ++ more) ≤ matter.packages
  few-more before [] after is few = subst (λ (b : List CertRecord). claim_count b ≤ matter.packages) (sym (append-nil before)) few
  few-more before (step ∷ more) after is few =
      subst (λ (b : List CertRecord). claim_count b ≤ matter.packages) (append_assoc before (step ∷ []) more)
      (few-more (before ++ step ∷ []) more after (is ∙ sym (append_assoc before (step ∷ []) (more ++ after))) (elim (claim-or-none step) [
        | inl none ↦ omega (arith, few, claim-count-push before step, ap (λ (ns : List ℕ). length ns) none.1)
        | inr one ↦
            let at = next-claim before step (more ++ after) one.number is one.of in
            omega (arith, at.0, at.1, claim-count-push before step, ap (λ (ns : List ℕ). length ns) one.of)
      ]))

  no-fewer : Contains steps lines.End → matter.packages ≤ claim_count steps
  no-fewer ended =
      let cut = cut-at steps lines.End ended in
      let all : matter.packages ≤ claim_count cut.before = not-less (claim_count cut.before) matter.packages
      (right cut.before lines.End cut.after cut.is causes.Incomplete) in
      omega (arith, all, ap claim_count cut.is, count-append cut.before (lines.End ∷ cut.after))
    where
      not-less : (a b : ℕ) → ¬ (a < b) → b ≤ a
      not-less a b none = elim (less-told a b) [
        | inl less ↦ absurd (none less)
        | inr past ↦ omega arith
      ]

      count-append : (a b : List CertRecord) → claim_count (a ++ b) ≡ claim_count a + claim_count b
      count-append a b = ap (λ (ns : List ℕ). length ns) (flat_map-append claimed a b) ∙ length-append (flat_map claimed a) (flat_map claimed b)

  pub one-each : Contains steps lines.End → length (claims_in steps) ≡ matter.packages
  one-each ended =
      let few = few-more [] steps [] (sym (append-nil steps)) (omega arith) in
      omega (arith, few, no-fewer ended, same-count steps)
