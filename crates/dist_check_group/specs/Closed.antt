-- Which questions of a group were closed in one way, of those that a claim on one package may name. They speak of the
-- variable of the package as it is.
use Rattle.std.specs.Prelude.{◌≡◌, ◌==◌, ◌&&◌, ◌||◌, ℕ, Bool, true, false, List, [], ◌∷◌}
use Rattle.dist_cert.specs.declared.records.CertKind.{CertKind}
use Rattle.dist_cert.specs.declared.records.CertKind.TheVariants as kinds
use Rattle.dist_cert.specs.Form.{Word}
use Rattle.dist_cert.specs.Rising.{is_among}

-- whether the claim's own question was closed, and the variables without which, and together with which, the package's
-- was asked for
pub record ClosedView : Type 0 where
  pub alone : Bool
  pub without : List ℕ
  pub together : List ℕ

-- no question was closed
abbrev pub none_closed : ClosedView
none_closed = record { alone = false; without = []; together = [] }

-- the question is that of the variable alone
abbrev pub asks_alone : ℕ → List Word → Bool
asks_alone p ((v, true) ∷ []) = v == p
asks_alone p question = false

-- the question is that of the variable without another one
abbrev pub asks_without : ℕ → List Word → ℕ → Bool
asks_without p ((v, true) ∷ (w, false) ∷ []) q = (v == p) && (q == w)
asks_without p question q = false

-- the question is that of the variable together with another one
abbrev pub asks_together : ℕ → List Word → ℕ → Bool
asks_together p ((v, true) ∷ (w, true) ∷ []) q = (v == p) && (q == w)
asks_together p question q = false

-- the question is the claim's own: of the variable alone, or of kind challenged together with the archive of today
abbrev pub asks_own : CertKind → ℕ → List Word → Bool
asks_own kinds.Challenged p question = asks_together 1 question p
asks_own kind p question = asks_alone p question

-- the question is one of those that were closed, besides the ones before
pub record Closes (kind : CertKind) (p : ℕ) (question : List Word) (old new : ClosedView) : Type 0 where
  pub alone : new.alone ≡ (asks_own kind p question || old.alone)
  pub without : (q : ℕ) → is_among new.without q ≡ (asks_without p question q || is_among old.without q)
  pub together : (q : ℕ) → is_among new.together q ≡ (asks_together p question q || is_among old.together q)
