-- Serves private contracts: what is kept of an installation besides its members.
use Rattle.std.specs.Prelude.{◌≡◌, ℕ, IfSome, List}
use Rattle.dist_cert.specs.Rising.{is_among}
use Rattle.dist_check_group.specs.declared.window.Installation.{Installation}
use Rattle.dist_check_group.specs.Layout.{LayoutView, used}

abbrev pub members_of : Installation → List ℕ
members_of installation = installation.members

-- where clusters stand beside the members, they are those that these use
abbrev pub TellsUsed : LayoutView → Installation → Type 0
TellsUsed layout installation =
    IfSome installation.used (λ clusters. (c : ℕ) → is_among clusters c ≡ is_among (used layout installation.members) c)
