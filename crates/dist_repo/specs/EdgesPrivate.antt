-- Where the offers that meet a bound begin and end among offers in the order of their versions.
use Rattle.std.specs.Prelude.{◌≡◌, ◌<◌, ◌≤◌, ℕ, Bool, true, false, List, Option, None, Some, slice_get}
use Rattle.std.specs.Option.{option_map}
use Rattle.std.specs.Ordering.{is_le, is_lt}
use Rattle.std.specs.declared.cmp.Ordering.{Ordering}
use Rattle.dist_relation.specs.declared.atom.Op.{Op}
use Rattle.dist_relation.specs.declared.atom.Op.TheVariants.{Lt, Le, Eq, Ge, Gt}
use Rattle.dist_version.specs.Order.{version_cmp}
use Rattle.dist_repo.specs.Offers.{version_of}
use Rattle.dist_repo.specs.declared.edges.Edge.{Edge}
use Rattle.dist_repo.specs.declared.edges.Edge.TheVariants.{Versioned, From, Past, End}
use Rattle.dist_repo.specs.declared.offers.Offer.{Offer}
use Rattle.dist_repo.specs.declared.package.Package.{Package}

-- how the version of an offer stands to another one
abbrev pub standing : List Package → List ℕ → Offer → Option Ordering
standing packages version offer = option_map (λ offered. version_cmp offered version) (version_of packages offer)

-- a version that stands so to that of an edge is before the edge
abbrev pub comes_before : Edge → Ordering → Bool
comes_before Versioned order = false
comes_before From order = is_lt order
comes_before Past order = is_le order
comes_before End order = true

-- so is an offer; one without a version is before all edges
abbrev pub is_before : Edge → Option Ordering → Bool
is_before edge None = true
is_before edge (Some order) = comes_before edge order

-- where the offers that meet a bound begin
abbrev pub start_of : Op → Edge
start_of Lt = Versioned
start_of Le = Versioned
start_of Eq = From
start_of Ge = From
start_of Gt = Past

-- and where they end
abbrev pub end_of : Op → Edge
end_of Lt = From
end_of Le = Past
end_of Eq = Past
end_of Ge = End
end_of Gt = End

-- an element stands at one of the places from one up to another
abbrev pub StandsBetween : List Offer → (start end : ℕ) → Offer → Type 0
StandsBetween offers start end offer = (k : ℕ) × (start ≤ k) × (k < end) × (slice_get offers k ≡ Some offer)
