-- Examples of classes.
use Rattle.std.proofs.Common.{◌≡◌, ℕ, List, Some, sym, ap, subst, slice_get}
use Rattle.std.proofs.lemmas.Option.{get_or_from_slice_get}
use Rattle.dist_base.specs.ListLaws.{at-has}
use Rattle.dist_version.specs.Spelling.{IsVersion}
use Rattle.dist_classes.specs.ClassList.{HasExample, IsOfClass, example_text}
use Rattle.dist_classes.specs.declared.class_value.Class.{Class}
use Rattle.dist_classes.specs.declared.class_value.Class.TheVariants as class
use Rattle.dist_space.specs.Space.{IsExample, example_at}

pub example-is : (classes : List Class) (place : ℕ) (one : Class) → slice_get classes place ≡ Some one → HasExample one → IsExample classes place
example-is classes place one is has =
    let same : example_text one ≡ example_at classes place = ap example_text (sym (get_or_from_slice_get classes place one class.Any is)) in
    (subst IsVersion same has.0, at-has (λ c. IsOfClass c (example_at classes place)) classes place one is (subst (IsOfClass one) same has.1))
