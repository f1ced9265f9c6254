-- What is told of a claim on challenges is its first fault, or that it has none.
use Rattle.std.proofs.Common.{◌≡◌, ◌↔◌, ℕ, ◌≤◌, true, false, List, [], ◌∷◌, Option, Some, None, refl, sym, ap, subst, ◌∙◌, arith}
use Rattle.std.proofs.lemmas.Bool.{true≢false, false≢true}
use Rattle.dist_cert.specs.declared.faults.CertCause.{CertCause}
use Rattle.dist_cert.specs.declared.faults.CertCause.TheVariants as causes
use Rattle.dist_cert.specs.declared.records.CertKind.{CertKind}
use Rattle.dist_cert.specs.declared.records.CertKind.TheVariants as kinds
use Rattle.dist_cert.specs.declared.records.CertRecord.{CertRecord}
use Rattle.dist_cert.specs.declared.records.CertRecord.TheVariants as lines
use Rattle.dist_cert.specs.declared.records.Header.{Header}
use Rattle.dist_cert.specs.Form.{KeepsRules}
use Rattle.dist_cert.specs.Groups.{installations, group, IsRefutedIn, IsUndecidedIn}
use Rattle.dist_cert.specs.Subject.{Matter}
use Rattle.dist_cert.specs.ClaimRules.{yes, HoldsClaim, HoldsChallenged}
use Rattle.dist_cert.specs.Rising.{is_among}
use Rattle.dist_check_group.specs.Challenge.{TellsChallenge}
use Rattle.dist_check_group.specs.Layout.{present}
use Rattle.dist_check_state.specs.State.{StateView, is_challenged, is_next, TellsListed}
use Rattle.dist_check.specs.AtPrivate.{IsAt, IsGathered}
use Rattle.dist_check.specs.CoverPrivate.{IsCoverOf}
use Rattle.dist_check.proofs.ChallengeVerdicts.{IsChallenge, IsFirstByRules, challenge-told}
use Rattle.dist_check.proofs.ClosingVerdicts.{incomplete-verdict, listed-verdict, next-is, next-within, on-challenged, present-next}
use Rattle.dist_check.proofs.ClosingVerdicts.{right-verdict, wrong-verdict}
use Rattle.dist_line_check.specs.VerdictLaws.{IsVerdict}
use Rattle.dist_check.proofs.WindowLemmas.{kept-recent, member-tests}

-- a claim of another kind does not hold
challenged-fails : (matter : Matter) (kind : CertKind) (before : List CertRecord) (p : ℕ) (named : List ℕ) (by undecided : List (ℕ × ℕ))
    → is_challenged kind ≡ false → ¬ HoldsClaim matter kind before (lines.Challenged p named by undecided)
challenged-fails matter kinds.Strong before p named by undecided other holds = holds
challenged-fails matter kinds.Outdated before p named by undecided other holds = holds
challenged-fails matter kinds.Challenged before p named by undecided other holds = true≢false other

challenged-is : (kind : CertKind) → is_challenged kind ≡ true → kind ≡ kinds.Challenged
challenged-is kinds.Strong is = absurd (false≢true is)
challenged-is kinds.Outdated is = absurd (false≢true is)
challenged-is kinds.Challenged is = refl

pub challenged-verdict : (matter : Matter) (h : Header) (before : List CertRecord) (s : StateView)
    → IsAt matter h before s → (p : ℕ) (named : List ℕ) (by undecided : List (ℕ × ℕ)) → KeepsRules (lines.Challenged p named by undecided)
    → (found : Option CertCause)
    → TellsListed (is_next s.next s.packages p) (is_challenged s.layout.kind)
    (λ f. TellsChallenge s.layout s.window s.group (present s.layout.kind p) named by undecided f) found
    → IsVerdict matter h before (lines.Challenged p named by undecided) found
challenged-verdict matter h before s at p named by undecided rules found told =
    listed-verdict matter h before s at step p (on-challenged matter h before p named by undecided) (is_challenged s.layout.kind)
    (λ f. TellsChallenge s.layout s.window s.group (present s.layout.kind p) named by undecided f)
    (λ other. challenged-fails matter h.kind before p named by undecided (ap is_challenged (sym at.kind) ∙ other)) ruled found told
  where
    step : CertRecord
    step = lines.Challenged p named by undecided

    of-kind : is_challenged s.layout.kind ≡ true → h.kind ≡ kinds.Challenged
    of-kind kind = sym at.kind ∙ challenged-is s.layout.kind kind

    known : is_next s.next s.packages p ≡ true → is_challenged s.layout.kind ≡ true → IsChallenge matter s.layout before s.window s.group p named
    known next kind =
        let variable = present-next matter h before s at p next in
        let low : p ≤ s.packages = next-within s.next s.packages p next in record {
          lays = at.layout;
          members = member-tests matter h before s at named rules.2;
          recent = kept-recent matter h before s at;
          some = rules.1;
          from_one = rules.0;
          upto = omega (arith, low, at.packages);
          refuted = λ v. subst (λ n. (is_among s.group.refuted.together v ≡ true) ↔ IsRefutedIn (group before) (yes n ∷ yes v ∷ [])) variable
              (at.group_is.refuted.together v);
          undecided = λ v. subst (λ n. (is_among s.group.undecided.together v ≡ true) ↔ IsUndecidedIn (group before) (yes n ∷ yes v ∷ [])) variable
              (at.group_is.undecided.together v);
          cover = subst (λ n. IsCoverOf s.layout (installations (group before)) n s.group.cover) variable
              (subst (λ k. IsGathered k s.layout (installations (group before)) (present s.layout.kind s.next) s.group)
              (challenged-is s.layout.kind kind) at.group_is.gathered);
        }

    held : is_challenged s.layout.kind ≡ true → HoldsChallenged matter before p named by undecided → HoldsClaim matter h.kind before step
    held kind holds = subst (λ k. HoldsClaim matter k before step) (sym (of-kind kind)) holds

    by-rules : is_next s.next s.packages p ≡ true → is_challenged s.layout.kind ≡ true → (f : Option CertCause)
        → IsFirstByRules matter before p named by undecided f → IsVerdict matter h before step f
    by-rules next kind None first =
        right-verdict matter h before s at step p (on-challenged matter h before p named by undecided) next (held kind first.0) first.1
    by-rules next kind (Some causes.WrongClaim) first =
        wrong-verdict matter h before s at step p (on-challenged matter h before p named by undecided) next
        (λ holds. first (subst (λ k. HoldsClaim matter k before step) (of-kind kind) holds))
    by-rules next kind (Some causes.Incomplete) first =
        incomplete-verdict matter h before s at step p (on-challenged matter h before p named by undecided) next (held kind first.0) first.1
    by-rules next kind (Some cause) first = absurd first

    ruled : is_next s.next s.packages p ≡ true → is_challenged s.layout.kind ≡ true → (f : Option CertCause)
        → TellsChallenge s.layout s.window s.group (present s.layout.kind p) named by undecided f → IsVerdict matter h before step f
    ruled next kind f t =
        let same = next-is s.next s.packages p next in
        let variable : present s.layout.kind p ≡ matter.present p =
        ap (λ (n : ℕ). present s.layout.kind n) (sym same) ∙ present-next matter h before s at p next in
        by-rules next kind f (challenge-told matter s.layout before s.window s.group p named by undecided (known next kind) f
        (subst (λ v. TellsChallenge s.layout s.window s.group v named by undecided f) variable t))
