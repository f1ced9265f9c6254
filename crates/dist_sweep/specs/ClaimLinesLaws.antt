-- Laws of the line of a claim: when it may come next, and what it makes of what is kept. Proofs cite them, those of
-- the crates above too.
use Rattle.std.proofs.Common.{◌≡◌, ◌≢◌, ◌⊎◌, ⊎_elim, ℕ, zero, suc, ◌+◌, ◌-◌, ◌<◌, ◌≤◌, ◌^◌, Bool, true, false, List}
use Rattle.std.proofs.Common.{[], ◌∷◌, length, get_or, refl, ap, sym, subst, ◌∙◌, arith, ◌||◌, ◌++◌, append-nil}
use Rattle.std.proofs.Common.{length-append, append_assoc}
use Rattle.std.specs.List.{Any, list_any, flat_map}
use Rattle.std.proofs.lemmas.List.Elements.{All-nil, All-cons}
use Rattle.dist_clause.specs.Formula.{Literal}
use Rattle.dist_cert.specs.declared.TheConstants.{REACH}
use Rattle.dist_cert.specs.declared.faults.CertCause.{CertCause}
use Rattle.dist_cert.specs.declared.records.CertRecord.{CertRecord}
use Rattle.dist_cert.specs.declared.records.CertRecord.TheVariants.{NotInstallable, Unknown}
use Rattle.dist_cert.specs.ClaimRules.{HoldsClaim}
use Rattle.dist_cert.specs.Form.{IsSmall, is_end, plain, record_text}
use Rattle.dist_cert.specs.Groups.{claim_count, installations, claimed, derived, derived_in, installed_in, is_claim}
use Rattle.dist_cert.specs.LineRules.{HasRecordFault}
use Rattle.dist_cert.specs.PartByRecordsLaws.{IsLine}
use Rattle.dist_line_write.specs.Asking.{AskerView}
use Rattle.dist_line_write.specs.LineLaws.{none-in, derived-append, none-ended, keeps-same, no-future}
use Rattle.dist_line_write.specs.Script.{PutMore}
use Rattle.dist_line_write.specs.ScriptLaws.{one-line, TwiceLaw, lines-more}
use Rattle.dist_sweep.specs.Asking.{IsAt}
use Rattle.dist_sweep.specs.Script.{Setting, matter_in}
use Rattle.dist_sweep.specs.ScriptLaws.{put-behind}
use Rattle.dist_sweep.specs.Window.{WindowView, IsWindowAt}
use Rattle.std.proofs.lemmas.Grind.{flat_map-append}
use Rattle.circular_buffer.specs.Buffer.{keep_last}
use Rattle.dist_outside.specs.DeskView.{DeskView, FileGrew}
use Rattle.dist_cert.specs.declared.records.Claim.{Claim}
use Rattle.dist_cert.specs.Accepted.{claim_in, claims_in}
use Rattle.dist_cert.specs.GroupLaws.{group-claim, installations-append, count-append}
use Rattle.dist_cert.specs.Writing.{ended}
use Rattle.dist_sweep.specs.Claiming.{IsClaimed, IsSwept}
use Rattle.dist_sweep.specs.QuestionLinesLaws.{claims-push, claims-append}
use Rattle.dist_cert.specs.FileLines.{lines_text}
use Rattle.dist_cert.specs.declared.faults.CertCause.TheVariants as causes

pub any-one : {X : Type 0} (P : X → Type 0) (x : X) → Any P (x ∷ []) → P x
any-one P x any = at any.0 any.1 any.2 any.3 any.4
  where
    at : (k : ℕ) (y : _) → k < length (x ∷ []) → get_or (x ∷ []) k y ≡ y → P y → P x
    at zero y within is holds = subst P (sym is) holds
    at (suc k) y within is holds = absurd (omega (arith, within))

-- the package is the next one
pub next-claim : (n count p : ℕ) → p ≡ count + 1 → p ≤ n → ¬ Any (λ q. (q ≢ count + 1) ⊎ (n < q)) (p ∷ [])
next-claim n count p is upto any = ⊎_elim (λ other. other is) (λ past. omega (arith, past, upto)) (any-one (λ q.
    (q ≢ count + 1) ⊎ (n < q)) p any)

pub uninstallable-line : (g : Setting) (before : List CertRecord) (p : ℕ) → list_any is_end before ≡ false
    → (matter_in g).packages < 2 ^ 32 → p ≡ claim_count before + 1 → p ≤ (matter_in g).packages
    → HoldsClaim (matter_in g) g.header.kind before (NotInstallable p) → IsLine (matter_in g) g.header before
    (NotInstallable p)
uninstallable-line g before p going fits is upto holds = record {
  form = record {
    text = refl;
    rules = omega (arith, is);
    numbers = All-cons (λ w. IsSmall w.0) (plain p) [] (omega (arith, upto, fits))
        (All-nil (λ w. IsSmall w.0));
  };
  not_ended = going;
  faultless = none;
  next = tt;
}
  where
    none : (cause : CertCause) → ¬ HasRecordFault (matter_in g) g.header before (NotInstallable p) cause
    none causes.OutOfRange f = none-in _ f
    none causes.OutOfOrder f = next-claim (matter_in g).packages (claim_count before) p is upto f
    none causes.UnknownLine f = none-in _ f
    none causes.NotAFuture f = no-future (matter_in g) g.header.kind (NotInstallable p) refl f
    none causes.WrongClaim f = f.1 holds
    none cause f = f

pub unknown-line : (g : Setting) (before : List CertRecord) (p : ℕ) → list_any is_end before ≡ false
    → (matter_in g).packages < 2 ^ 32 → p ≡ claim_count before + 1 → p ≤ (matter_in g).packages
    → HoldsClaim (matter_in g) g.header.kind before (Unknown p) → IsLine (matter_in g) g.header before (Unknown p)
unknown-line g before p going fits is upto holds = record {
  form = record {
    text = refl;
    rules = omega (arith, is);
    numbers = All-cons (λ w. IsSmall w.0) (plain p) [] (omega (arith, upto, fits))
        (All-nil (λ w. IsSmall w.0));
  };
  not_ended = going;
  faultless = none;
  next = tt;
}
  where
    none : (cause : CertCause) → ¬ HasRecordFault (matter_in g) g.header before (Unknown p) cause
    none causes.OutOfRange f = none-in _ f
    none causes.OutOfOrder f = next-claim (matter_in g).packages (claim_count before) p is upto f
    none causes.UnknownLine f = none-in _ f
    none causes.NotAFuture f = no-future (matter_in g) g.header.kind (Unknown p) refl f
    none causes.WrongClaim f = f.1 holds
    none cause f = f

-- the line of a claim is no derived line, no installation and no end, and is on one package
pub record IsClaimLine (step : CertRecord) : Type 0 where
  pub no_clause : derived_in step ≡ []
  pub no_installation : installed_in step ≡ []
  pub no_end : is_end step ≡ false
  pub claims : is_claim step ≡ true
  pub one : length (claimed step) ≡ 1

pub put-claimed : (g : Setting) (before : List CertRecord) (old new : DeskView) (a b : AskerView) (w : WindowView)
    (Kept : List CertRecord → Type 0) (step : CertRecord) (claim : Claim) → IsAt g before a → IsWindowAt before w
    → IsClaimLine step → IsLine (matter_in g) g.header before step → claim_in step ≡ claim ∷ []
    → b ≡ record a { writer = b.writer } → FileGrew (ended (record_text step)) old new
    → PutMore a.writer b.writer step
    → Kept (before ++ step ∷ []) → IsClaimed g before old new b w Kept claim
put-claimed g before old new a b w Kept step claim at window kind line is rest grew more kept = record {
  added = step ∷ [];
  grew = subst (λ bytes. FileGrew bytes old new) (sym (one-line step)) grew;
  swept = record {
    at = subst (λ (v : AskerView). IsAt g (before ++ step ∷ []) v) (sym rest) (record {
      log = record {
        limit_is = at.log.limit_is;
        clauses = at.log.clauses ∙ ap (λ (cs : List (List Literal)). (matter_in g).inputs ++ cs)
            (sym (derived-append before (step ∷ []) ∙ ap (λ (cs : List (List Literal)). derived before ++ (cs
            ++ []))
            kind.no_clause
            ∙ append-nil (derived before)));
        inputs = at.log.inputs;
        variables = at.log.variables;
        line_limit = at.log.line_limit;
        line_literal_limit = at.log.line_literal_limit;
        not_ended = none-ended before (step ∷ []) at.log.not_ended (ap (λ (e : Bool). e || false) kind.no_end);
      };
      writer = put-behind g before step a.writer b.writer more at.writer line
          (keeps-same g.limits before step kind.no_clause at.writer.written.within.kept);
      stand = at.stand;
    });
    window = record {
      kept = window.kept ∙ ap (λ (ms : List (List ℕ)). keep_last REACH ms) (sym same);
      count = window.count ∙ ap length (sym same);
      sizes = window.sizes;
    };
    no_group = group-claim before step kind.claims;
  };
  kept = kept;
  counted = ap length (flat_map-append claimed before (step ∷ []) ∙ ap (λ (ps : List ℕ). flat_map claimed before
      ++ ps) (append-nil (claimed step)))
      ∙ length-append (flat_map claimed before) (claimed step)
      ∙ ap (λ (n : ℕ). claim_count before + n) kind.one;
  claims = claims-push before step ∙ ap (λ (cs : List Claim). claims_in before ++ cs) is;
}
  where
    same : installations (before ++ step ∷ []) ≡ installations before
    same = installations-append before (step ∷ []) ∙ ap (λ (ms : List (List ℕ)). installations before ++ (ms ++ []))
        kind.no_installation
        ∙ append-nil (installations before)

pub claim-after : TwiceLaw → (g : Setting) (before more : List CertRecord) (old mid new : DeskView) (b : AskerView)
    (w : WindowView) (Kept : List CertRecord → Type 0) (claim : Claim) → FileGrew (lines_text more) old mid
    → list_any is_claim more ≡ false → IsClaimed g (before ++ more) mid new b w Kept claim
    → IsClaimed g before old new b w Kept claim
claim-after twice g before more old mid new b w Kept claim grew none claimed =
    let place = append_assoc before more claimed.added in
    record {
      added = more ++ claimed.added;
      grew = subst (λ bytes. FileGrew bytes old new) (sym (lines-more more claimed.added))
          (twice (lines_text more) (lines_text claimed.added) old mid new grew claimed.grew);
      swept = subst (λ ls. IsSwept g ls b w) place claimed.swept;
      kept = subst Kept place claimed.kept;
      counted = ap claim_count (sym place) ∙ claimed.counted ∙ ap (λ (n : ℕ). n + 1)
          (count-append before more none);
      claims = ap claims_in (sym place) ∙ claimed.claims ∙ ap (λ (cs : List Claim). cs ++ claim ∷ [])
          (claims-append before more none);
    }

pub uninstallable-kind : (p : ℕ) → IsClaimLine (NotInstallable p)
uninstallable-kind p = record { no_clause = refl; no_installation = refl; no_end = refl; claims = refl; one = refl }

pub unknown-kind : (p : ℕ) → IsClaimLine (Unknown p)
unknown-kind p = record { no_clause = refl; no_installation = refl; no_end = refl; claims = refl; one = refl }

-- a line that is no installation adds none
pub same-installed : (lines : List CertRecord) (step : CertRecord) → installed_in step ≡ []
    → installations (lines ++ step ∷ []) ≡ installations lines
same-installed lines step none =
    installations-append lines (step ∷ []) ∙ ap (λ (ms : List (List ℕ)). installations lines ++ (ms ++ [])) none ∙
    append-nil (installations lines)
