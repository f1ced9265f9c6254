-- Fields of a stanza that were found, and the parts of a source.
use Rattle.std.proofs.Common.{◌≡◌, ◌≢◌, ◌↔◌, ◌⊎◌, ℕ, ◌-◌, ◌≤◌, true, false, Bool, IsTrue, List, Option, None, Some, MatchOption, length, take, drop, refl, sym}
use Rattle.std.proofs.Common.{ap, ◌∙◌, inl, inr}
use Rattle.std.specs.List.{position_or_len}
use Rattle.std.proofs.lemmas.Bool.{both_ways}
use Rattle.std.proofs.lemmas.List.{take_rest, length-take-le}
use Rattle.dist_control.specs.FieldText.{field_text}
use Rattle.dist_control.specs.Fields.{trim}
use Rattle.dist_control.specs.declared.field_list.Field.{Field}
use Rattle.dist_control.specs.declared.field_list.Stanza.{Stanza}
use Rattle.dist_package.specs.FirstFault.{IsBad}
use Rattle.dist_package.specs.declared.error.Fault.{Fault}
use Rattle.dist_package.specs.declared.error.PackagesError.{PackagesError}
use Rattle.dist_package.specs.declared.error.PackagesError.TheVariants.{Bad, TooMany, NoMemory}
use Rattle.dist_package.specs.Named.{field_named, IsFieldOf}
use Rattle.dist_package.specs.Source.{ends_name, version_part}

pub field-of : (stanza : Stanza) (name : List ℕ) (field : Field) → field_named stanza name ≡ Some (field_text field)
    → IsFieldOf stanza name field.value.now field.line
field-of stanza name field found = record { field = field_text field; found = found; value_is = refl; line_is = refl }

pub field-is : (stanza : Stanza) (name value : List ℕ) (field : Field) → field_named stanza name ≡ Some (field_text field) → value ≡ field.value.now →
    IsFieldOf stanza name value field.line
field-is stanza name value field found is = record { field = field_text field; found = found; value_is = sym is; line_is = refl }

pub agreed : (earlier : Option (List ℕ)) (value : List ℕ) (r : Bool) → MatchOption earlier (r ≡ true) (λ other. IsTrue r ↔ (other ≡ value)) → r ≡ true →
    (earlier ≡ None) ⊎ (earlier ≡ Some value)
agreed None value r same is = inl refl
agreed (Some other) value r same is = inr (ap (λ o. Some o) (same.0 is))

pub disagreed : (earlier : Option (List ℕ)) (value : List ℕ) (r : Bool) → MatchOption earlier (r ≡ true) (λ other. IsTrue r ↔ (other ≡ value)) → r ≡ false →
    (other : List ℕ) × (earlier ≡ Some other) × (other ≢ value)
disagreed None value r same is = absurd (both_ways r is same)
disagreed (Some other) value r same is = (other, refl, λ e. both_ways r is (same.1 e))

pub part-is : (value : List ℕ) (end : ℕ) → end ≡ position_or_len ends_name value → end ≤ length value →
    trim (take (length value - end) (drop end value)) ≡ version_part value
part-is value end at within =
    ap trim (take_rest value end ∙ ap (λ n. drop n value) (sym (length-take-le end value within) ∙ ap (λ n. length (take n value)) at))

pub some-is : (x y : List ℕ) → (let from : List ℕ → Option (List ℕ) = λ t. Some t in from x ≡ from y) → x ≡ y
some-is x y is = cc

-- an error that tells a fault tells what follows from it
pub bad-weaker : (P Q : Fault → Type 0) → ((fault : Fault) → P fault → Q fault) → (error : PackagesError) → IsBad P error → IsBad Q error
bad-weaker P Q weaker (Bad fault) bad = weaker fault bad
bad-weaker P Q weaker TooMany bad = absurd bad
bad-weaker P Q weaker NoMemory bad = absurd bad
