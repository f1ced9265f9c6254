-- What meets a bound meets a wider one.
use Rattle.std.proofs.Common.{◌≡◌, ℕ, true, List, Option, None, Some, Ordering, Less, Equal, Greater, refl, sym, ap, ◌∙◌, is_eq}
use Rattle.std.specs.Ordering.{is_ge, is_le, ordering_reverse}
use Rattle.std.proofs.lemmas.Bool.{false≢true}
use Rattle.std.proofs.lemmas.Cmp.{alike_right}
use Rattle.dist_version.specs.Order.{version_cmp}
use Rattle.dist_version.specs.OrderLaws.{version_total}
use Rattle.dist_relation.specs.Satisfies.{AllowsOrder}
use Rattle.dist_relation.specs.declared.atom.Atom.{Atom}
use Rattle.dist_relation.specs.declared.atom.Bound.{Bound}
use Rattle.dist_relation.specs.declared.atom.Op.{Op}
use Rattle.dist_relation.specs.declared.atom.Op.TheVariants.{Lt, Le, Eq, Ge, Gt}
use Rattle.dist_asked.specs.PlacedPrivate.{carries_over}
use Rattle.dist_asked.specs.Within.{IsBoundWithin, IsWithin}

-- ---- the order of versions

back : (a b : List ℕ) (order : Ordering) → version_cmp a b ≡ order → version_cmp b a ≡ ordering_reverse order
back a b order is = version_total.antisymm b a ∙ ap ordering_reverse is

less-then : (a b c : List ℕ) (order : Ordering) → version_cmp b c ≡ order → is_le order ≡ true → version_cmp a b ≡ Less → version_cmp a c ≡ Less
less-then a b c Less is le less = version_total.trans a b c less is
less-then a b c Equal is le less = sym (alike_right version_total b c a is) ∙ less
less-then a b c Greater is le less = absurd (false≢true le)

then-less : (a b c : List ℕ) (order : Ordering) → version_cmp a b ≡ order → is_le order ≡ true → version_cmp b c ≡ Less → version_cmp a c ≡ Less
then-less a b c Less is le less = version_total.trans a b c is less
then-less a b c Equal is le less = version_total.congr a b c is ∙ less
then-less a b c Greater is le less = absurd (false≢true le)

then-equal : (a b c : List ℕ) (order : Ordering) → version_cmp b c ≡ order → is_eq order ≡ true → version_cmp a b ≡ Equal → version_cmp a c ≡ Equal
then-equal a b c Less is eq equal = absurd (false≢true eq)
then-equal a b c Equal is eq equal = sym (alike_right version_total b c a is) ∙ equal
then-equal a b c Greater is eq equal = absurd (false≢true eq)

turned : (order : Ordering) → is_ge order ≡ true → is_le (ordering_reverse order) ≡ true
turned Less ge = absurd (false≢true ge)
turned Equal ge = refl
turned Greater ge = refl

-- what meets a version meets another one that the first stands so to
pub carried : (op : Op) (order : Ordering) (a b c : List ℕ) → version_cmp b c ≡ order → carries_over op order ≡ true
    → AllowsOrder op (version_cmp a b) → AllowsOrder op (version_cmp a c)
carried Lt order a b c is carries less = less-then a b c order is carries less
carried Le order a b c is carries up = λ past. up (back b a Less (then-less b c a order is carries (back a c Greater past)))
carried Eq order a b c is carries equal = then-equal a b c order is carries equal
carried Ge order a b c is carries from = λ below. from (less-then a c b (ordering_reverse order) (back b c order is) (turned order carries) below)
carried Gt order a b c is carries past =
    back c a Less (then-less c b a (ordering_reverse order) (back b c order is) (turned order carries) (back a b Greater past))

-- ---- atoms

bound-itself : (bound : Option Bound) → IsBoundWithin bound bound
bound-itself None = tt
bound-itself (Some bound) = λ version meets. meets

pub within-itself : (atom : Atom) → IsWithin atom atom
within-itself atom = record { name = refl; qualifier = refl; bound = bound-itself atom.bound }
