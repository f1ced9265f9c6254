-- What a version keeps beside its text.
use Rattle.std.specs.Prelude.{◌≡◌, ℕ, ◌+◌, ◌≤◌, nat_lt, List, [], length, drop, None, Some, slice_range, if◌then◌else◌}
use Rattle.std.specs.Option.{unwrap_or}
use Rattle.dist_version.specs.declared.kept.Text.{Text}
use Rattle.dist_version.specs.declared.kept.Text.TheVariants.{Plain, Shared}
use Rattle.dist_version.specs.Spelling.{epoch_of, upstream_of, revision_of}
use Rattle.dist_version.specs.Faults.{fault_of}
use Rattle.dist_version.specs.Order.{weights_of}

-- The text has no fault. Its upstream version stands from start to end, and a hyphen and the revision follow where the
-- text goes on.
pub record Keeps (text : List ℕ) (value start end : ℕ) : Type 0 where
  pub sound : fault_of text ≡ None
  pub epoch : epoch_of text ≡ value
  pub ordered : start ≤ end
  pub within : end ≤ length text
  pub upstream : upstream_of text ≡ slice_range text start end
  pub revision : revision_of text ≡ (if nat_lt end (length text) then Some (drop (end + 1) text) else None)

-- the text, which is kept as it was read
abbrev pub text_of : Text → List ℕ
text_of (Plain text) = text.items
text_of (Shared shared) = shared.value.text.items

-- What stands beside a shared text has the weights of its upstream version and of its revision.
abbrev pub KeepsParts : Text → Type 0
KeepsParts (Plain text) = Unit {0}
KeepsParts (Shared shared) =
    (weights_of shared.value.upstream.items ≡ weights_of (upstream_of shared.value.text.items))
    × (weights_of shared.value.revision.items ≡ weights_of (unwrap_or (revision_of shared.value.text.items) []))

-- both of a version's text and places
pub record KeepsText (text : Text) (value start end : ℕ) : Type 0 where
  pub keeps : Keeps (text_of text) value start end
  pub parts : KeepsParts text
