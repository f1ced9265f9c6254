-- Laws of certificates of the futures: what they speak of is that of the space. Proofs cite them, those of the crates
-- above too.
use Rattle.std.proofs.Common.{◌≡◌, ℕ, ◌-◌, ◌<◌, ◌≤◌, length, ap}
use Rattle.dist_cert.specs.declared.records.CertKind.{CertKind}
use Rattle.dist_space.specs.Space.{IsSpace, SpaceView, variable_of}
use Rattle.dist_space.specs.VariableLaws.{variable-range}
use Rattle.dist_space.specs.declared.meaning.Meaning.TheVariants.{Present}
use Rattle.dist_subject.specs.Basis.{Basis, matter_of}
use Rattle.dist_sweep.specs.Script.{Setting, matter_in}
use Rattle.dist_sweep.specs.Futures.{IsOfSpace}

module _ (kind : CertKind) (s : SpaceView) (g : Setting) (of : IsOfSpace kind s g) where
  pub packages-are : (matter_in g).packages ≡ length s.repository.packages
  packages-are = ap (λ (x : Basis). (matter_of g.repo x).packages) of.later

  pub variables-are : (matter_in g).variables ≡ length s.meanings
  variables-are = ap (λ (x : Basis). (matter_of g.repo x).variables) of.later

  pub present-is : (p : ℕ) → (matter_in g).present p ≡ variable_of s (Present (p - 1))
  present-is p = ap (λ (x : Basis). (matter_of g.repo x).present p) of.later

pub record IsInSpace (s : SpaceView) (variable : ℕ) : Type 0 where
  pub from_one : 1 ≤ variable
  pub upto : variable ≤ length s.meanings

pub present-in : (s : SpaceView) (r : ℕ) → IsSpace s → r < length s.repository.packages
    → IsInSpace s (variable_of s (Present r))
present-in s r space within = let range = variable-range s (Present r) space within in record {
  from_one = range.0;
  upto = range.1;
}
