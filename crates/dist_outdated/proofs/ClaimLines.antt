-- The lines of claims of kind outdated may come next.
use Rattle.std.proofs.Common.{◌≡◌, ℕ, ◌+◌, ◌<◌, ◌≤◌, ◌^◌, false, List, [], ◌∷◌, refl, arith}
use Rattle.std.specs.List.{list_any}
use Rattle.std.proofs.lemmas.List.Elements.{All-nil, All-cons}
use Rattle.dist_cert.specs.declared.faults.CertCause.{CertCause}
use Rattle.dist_cert.specs.declared.faults.CertCause.TheVariants as causes
use Rattle.dist_cert.specs.declared.records.CertRecord.{CertRecord}
use Rattle.dist_cert.specs.declared.records.CertRecord.TheVariants.{Alive, Outdated}
use Rattle.dist_cert.specs.ClaimRules.{HoldsClaim}
use Rattle.dist_cert.specs.Form.{IsSmall, is_end, plain}
use Rattle.dist_cert.specs.Groups.{claim_count}
use Rattle.dist_cert.specs.LineRules.{HasRecordFault}
use Rattle.dist_cert.specs.PartByRecordsLaws.{IsLine}
use Rattle.dist_sweep.specs.ClaimLinesLaws.{IsClaimLine, next-claim}
use Rattle.dist_line_write.specs.LineLaws.{no-future, none-in}
use Rattle.dist_sweep.specs.Script.{Setting, matter_in}

pub outdated-line : (g : Setting) (before : List CertRecord) (p : ℕ) → list_any is_end before ≡ false
    → p < 2 ^ 32 → p ≡ claim_count before + 1 → p ≤ (matter_in g).packages
    → HoldsClaim (matter_in g) g.header.kind before (Outdated p) → IsLine (matter_in g) g.header before (Outdated p)
outdated-line g before p going small is upto holds = record {
  form = record {
    text = refl;
    rules = omega (arith, is);
    numbers = All-cons (λ w. IsSmall w.0) (plain p) [] small (All-nil (λ w. IsSmall w.0));
  };
  not_ended = going;
  faultless = none;
  next = tt;
}
  where
    none : (cause : CertCause) → ¬ HasRecordFault (matter_in g) g.header before (Outdated p) cause
    none causes.OutOfRange f = none-in _ f
    none causes.OutOfOrder f = next-claim (matter_in g).packages (claim_count before) p is upto f
    none causes.UnknownLine f = none-in _ f
    none causes.NotAFuture f = no-future (matter_in g) g.header.kind (Outdated p) refl f
    none causes.WrongClaim f = f.1 holds
    none cause f = f

pub alive-line : (g : Setting) (before : List CertRecord) (p number : ℕ) → list_any is_end before ≡ false
    → p < 2 ^ 32 → 1 ≤ number → number < 2 ^ 32 → p ≡ claim_count before + 1 → p ≤ (matter_in g).packages
    → HoldsClaim (matter_in g) g.header.kind before (Alive p number) → IsLine (matter_in g) g.header before (Alive p number)
alive-line g before p number going small from small_number is upto holds = record {
  form = record {
    text = refl;
    rules = (omega (arith, is), from);
    numbers = All-cons (λ w. IsSmall w.0) (plain p) (plain number ∷ []) small
        (All-cons (λ w. IsSmall w.0) (plain number) [] small_number (All-nil (λ w. IsSmall w.0)));
  };
  not_ended = going;
  faultless = none;
  next = tt;
}
  where
    none : (cause : CertCause) → ¬ HasRecordFault (matter_in g) g.header before (Alive p number) cause
    none causes.OutOfRange f = none-in _ f
    none causes.OutOfOrder f = next-claim (matter_in g).packages (claim_count before) p is upto f
    none causes.UnknownLine f = none-in _ f
    none causes.NotAFuture f = no-future (matter_in g) g.header.kind (Alive p number) refl f
    none causes.WrongClaim f = f.1 holds
    none cause f = f

pub outdated-kind : (p : ℕ) → IsClaimLine (Outdated p)
outdated-kind p = record { no_clause = refl; no_installation = refl; no_end = refl; claims = refl; one = refl }

pub alive-kind : (p number : ℕ) → IsClaimLine (Alive p number)
alive-kind p number = record { no_clause = refl; no_installation = refl; no_end = refl; claims = refl; one = refl }
