use Rattle.std.proofs.Common.{◌≡◌, ◌≤◌, ◌∙◌, ℕ, List, ap, subst, sym}
use Rattle.std.specs.Str.{trim}
use Rattle.std.specs.Str.Parse.{IsNumeral, digits_value, without_leading_plus}
use Rattle.dist_base.specs.declared.TheConstants.{MAX_CLAUSES}
use Rattle.dist_bench.specs.Filled.{IsCount}

is-count : (text trimmed : List ℕ) (count : ℕ) → trimmed ≡ trim text → IsNumeral 10 (without_leading_plus trimmed)
    → count ≡ digits_value 10 (without_leading_plus trimmed)
    → count ≤ MAX_CLAUSES → IsCount text count
is-count text trimmed count is numeral value within = record {
  numeral = subst (λ (t : List ℕ). IsNumeral 10 (without_leading_plus t)) is numeral;
  value = sym (value ∙ ap (λ (t : List ℕ). digits_value 10 (without_leading_plus t)) is);
  within = within;
}
