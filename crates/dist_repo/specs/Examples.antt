-- Worked examples: two mail transport agents that provide and conflict with one name, and a version that a bound asks
-- for.
use Rattle.std.specs.Prelude.{◌≡◌, ℕ, false, List, [], ◌∷◌, None, Some, codes, refl}
use Rattle.std.proofs.Common.{inl, inr, lit<}
use Rattle.dist_relation.specs.declared.atom.Atom.{Atom}
use Rattle.dist_relation.specs.declared.atom.Op.TheVariants.{Ge}
use Rattle.dist_relation.specs.declared.atom.Provide.{Provide}
use Rattle.dist_relation.specs.declared.atom.Qualifier.TheVariants.{Plain, Named}
use Rattle.dist_repo.specs.Conflict.{AreInConflict}
use Rattle.dist_repo.specs.Healthy.{required_names}
use Rattle.dist_repo.specs.Match.{IsUsable, Matches, MatchesByEntry}
use Rattle.dist_repo.specs.Size.{relation_count}
use Rattle.dist_repo.specs.declared.package.Package.{Package}

-- the name of which only one agent may be installed
abbrev agent : Atom
agent = record { name = codes "mail-transport-agent"; qualifier = Plain; bound = None }

abbrev provided : Provide
provided = record { name = codes "mail-transport-agent"; qualifier = Plain; version = None }

abbrev mailer : List ℕ → Package
mailer name = record {
  name = name;
  version = codes "1";
  source = name;
  source_version = codes "1";
  depends = [];
  conflicts = agent ∷ [];
  provides = provided ∷ [];
  essential = false;
}

-- `any` and the architecture of the file are usable, and another architecture is not
any_is_usable : IsUsable None (Named (codes "any"))
any_is_usable = inl refl

amd64_is_usable : IsUsable (Some (codes "amd64")) (Named (codes "amd64"))
amd64_is_usable = inr (inr refl)

-- each provides the name without a version, which an atom without a bound is content with
agent-matches : (name : List ℕ) → Matches None agent (mailer name)
agent-matches name = record {
  usable = tt;
  matched = inr (0, provided, lit< tt, refl, record { usable = tt; name = refl; bound = tt });
}

-- and a bound is not met by an entry without version
bounded : Atom
bounded = record { name = codes "x"; qualifier = Plain; bound = Some (record { op = Ge; version = codes "1" }) }

unversioned_meets_no_bound : ¬ MatchesByEntry None bounded
    (record { name = codes "x"; qualifier = Plain; version = None })
unfolding bounded
unversioned_meets_no_bound matched = matched.bound

-- so one is in conflict with another
agents_are_in_conflict : AreInConflict None (mailer (codes "exim4")) (mailer (codes "postfix"))
agents_are_in_conflict = record {
  different = λ same. let names : codes "exim4" ≡ codes "postfix" = same.0 in cc;
  matched = inl (0, agent, lit< tt, refl, agent-matches (codes "postfix"));
}

-- at mode plain no name is required
plain_requires_nothing : required_names false (mailer (codes "exim4") ∷ []) ≡ []
plain_requires_nothing = refl

-- each of them has a conflict atom and an entry
two_have_four : relation_count (mailer (codes "exim4") ∷ mailer (codes "postfix") ∷ []) ≡ 4
two_have_four = refl
