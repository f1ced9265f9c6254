-- A sweep may begin over the input clauses of what certificates are judged by.
use Rattle.std.proofs.Common.{◌≡◌, ◌∙◌, ℕ, ◌<◌, ◌≤◌, ◌^◌, Bool, List, [], length, refl, ap, sym, subst, append-nil, arith}
use Rattle.std.proofs.lemmas.List.Elements.{All-nil}
use Rattle.dist_base.specs.declared.TheConstants.{MAX_LIMIT}
use Rattle.dist_clause.specs.ClauseList.{ClauseList}
use Rattle.dist_clause.specs.Formula.{Literal}
use Rattle.dist_derive.specs.ClauseLog.{ClauseLog}
use Rattle.dist_outside.specs.declared.limits.Limits.{Limits}
use Rattle.dist_repo.specs.Order.{IsInOrder}
use Rattle.dist_repo.specs.PackageList.{PackageList}
use Rattle.dist_cert.specs.PartByRecordsLaws.{IsHeaderOf}
use Rattle.dist_cert.specs.declared.records.CertKind.{CertKind}
use Rattle.dist_cert.specs.declared.records.Header.{Header}
use Rattle.dist_subject.specs.Basis.{Basis, IsBasisOf, matter_of}
use Rattle.dist_subject.specs.Inputs.{AreInputsOf}
use Rattle.dist_subject.specs.Installed.{AreModelsHealthy}
use Rattle.dist_line_write.specs.Asking.{AskerView}
use Rattle.dist_line_write.specs.Script.{new_writer}
use Rattle.dist_sweep.specs.Script.{Setting}
use Rattle.dist_sweep.specs.Sweeping.{Begins, MayBegin, first_header, new_window, setting_of}
use Rattle.dist_sweep.specs.Claiming.{Keeping}
use Rattle.dist_sweep.specs.Sweep.{header_of}
use Rattle.dist_sweep.specs.declared.sweep.SweepInputs.{SweepInputs}

-- the law of dist_subject on models
abbrev pub HealthyLaw : Type 0
HealthyLaw = (r : PackageList) (kind : CertKind) (essential : Bool) (basis : Basis) → IsInOrder r.packages → IsBasisOf r kind essential basis
    → AreModelsHealthy (matter_of r basis)

abbrev first_log : ClauseList → Limits → ClauseLog
first_log set limits = record {
  clauses = set.clauses;
  inputs = length set.clauses;
  variables = set.variables;
  line_limit = limits.lines;
  line_literal_limit = limits.line_literals;
}

abbrev pub first_asker : SweepInputs → Limits → AskerView
first_asker over limits = record { log = first_log over.clauses limits; writer = new_writer limits; limit = over.limit }

-- What the calls that begin a sweep are given.
pub record IsGiven (over : SweepInputs) : Type 0 where
  pub from_one : 1 ≤ over.limit
  pub upto : over.limit ≤ MAX_LIMIT
  pub packages : over.packages < 2 ^ 32
  pub variables : over.clauses.variables < 2 ^ 32
  pub count : length over.clauses.clauses < 2 ^ 32

module _ {C : Type 0} (Keeps : Keeping C) (healthy : HealthyLaw) (r : PackageList) (over : SweepInputs) (limits : Limits) (basis : Basis) (c : C)
    (given : IsGiven over) (ordered : IsInOrder r.packages) (inputs : AreInputsOf r over.kind over.essential limits basis over.clauses)
    (packages : over.packages ≡ (matter_of r basis).packages)
    (keeps : Keeps (setting_of r over.kind over.essential over.limit limits basis) [] c) where
  abbrev g : Setting
  g = setting_of r over.kind over.essential over.limit limits basis

  same-count : length over.clauses.clauses ≡ length (matter_of r basis).inputs
  same-count = ap (λ (clauses : List (List Literal)). length clauses) inputs.clauses

  same-header : first_header over ≡ g.header
  same-header =
      ap (λ (n : ℕ). record {
        kind = over.kind;
        limit = over.limit;
        packages = n;
        variables = over.clauses.variables;
        clauses = length over.clauses.clauses;
        essential = over.essential;
      }) packages
      ∙ ap (λ (n : ℕ). record {
        kind = over.kind;
        limit = over.limit;
        packages = (matter_of r basis).packages;
        variables = n;
        clauses = length over.clauses.clauses;
        essential = over.essential;
      }) inputs.variables
      ∙ ap (λ (n : ℕ). record {
        kind = over.kind;
        limit = over.limit;
        packages = (matter_of r basis).packages;
        variables = (matter_of r basis).variables;
        clauses = n;
        essential = over.essential;
      }) same-count

  header-is : IsHeaderOf (matter_of r basis) g.header
  header-is = record {
    form = record {
      text = refl;
      rules = (given.from_one, given.upto);
      numbers = (
        omega (arith, given.packages, packages),
        omega (arith, given.variables, inputs.variables),
        omega (arith, given.count, same-count),
      );
    };
    fits = record { packages = refl; variables = refl; clauses = refl };
  }

  begins : Begins Keeps g (first_header over) (first_asker over limits) (new_window over.clauses.variables) c
  begins = record {
    header_is = same-header;
    packages = refl;
    log = record {
      limit_is = refl;
      clauses = inputs.clauses ∙ sym (append-nil (matter_of r basis).inputs);
      inputs = same-count;
      variables = inputs.variables;
      line_limit = refl;
      line_literal_limit = refl;
      not_ended = refl;
    };
    stand = (healthy r over.kind over.essential basis ordered inputs.is_basis).stand;
    writer = refl;
    window = record { kept = refl; count = refl; sizes = All-nil (λ values. length values ≡ over.clauses.variables) };
    keeps = keeps;
  }

  pub may-begin : (header : Header) (a : AskerView) → header ≡ first_header over → a ≡ first_asker over limits
      → MayBegin Keeps r over.kind over.essential over.limit limits header a c
  may-begin header a header_is asker_is = record {
    basis = basis;
    is_basis = inputs.is_basis;
    kept = inputs.kept;
    header_of = header-is;
    begins = subst (λ (h : Header). Begins Keeps g h a (new_window a.log.variables) c) (sym header_is)
        (subst (λ (v : AskerView). Begins Keeps g (first_header over) v (new_window v.log.variables) c) (sym asker_is) begins);
  }
