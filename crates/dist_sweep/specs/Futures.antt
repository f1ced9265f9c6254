-- What certificates of the futures are on.
use Rattle.std.specs.Prelude.{◌≡◌, ℕ, ◌≤◌, List, length}
use Rattle.dist_clause.specs.Formula.{Literal}
use Rattle.dist_cert.specs.declared.records.CertKind.{CertKind}
use Rattle.dist_space.specs.Space.{SpaceView}
use Rattle.dist_subject.specs.Basis.{Later}
use Rattle.dist_sweep.specs.Script.{Setting}

-- The certificate is of this kind, and speaks of the futures of this space.
pub record IsOfSpace (kind : CertKind) (s : SpaceView) (g : Setting) : Type 0 where
  pub kind_is : g.header.kind ≡ kind
  pub inputs : List (List Literal)
  pub later : g.basis ≡ Later s inputs

-- There are as many variables as the space has, and it has the package of this number from 1.
pub record FitsSpace (s : SpaceView) (variables p : ℕ) : Type 0 where
  pub variables_are : variables ≡ length s.meanings
  pub upto : p ≤ length s.repository.packages
