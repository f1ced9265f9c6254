-- What a version must be to meet a bound, by Debian Policy 7.1.
use Rattle.std.specs.Prelude.{◌≡◌, ◌≢◌, ℕ, List}
use Rattle.std.specs.declared.cmp.Ordering.{Ordering}
use Rattle.std.specs.declared.cmp.Ordering.TheVariants.{Less, Equal, Greater}
use Rattle.dist_version.specs.Order.{version_cmp}
use Rattle.dist_relation.specs.declared.atom.Bound.{Bound}
use Rattle.dist_relation.specs.declared.atom.Op.{Op}
use Rattle.dist_relation.specs.declared.atom.Op.TheVariants.{Lt, Le, Eq, Ge, Gt}

-- how a version may compare with that of the bound
abbrev pub AllowsOrder : Op → Ordering → Type 0
AllowsOrder Lt order = order ≡ Less
AllowsOrder Le order = order ≢ Greater
AllowsOrder Eq order = order ≡ Equal
AllowsOrder Ge order = order ≢ Less
AllowsOrder Gt order = order ≡ Greater

-- The version meets the bound.
abbrev pub Satisfies : List ℕ → Bound → Type 0
Satisfies version bound = AllowsOrder bound.op (version_cmp version bound.version)
