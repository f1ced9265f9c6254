-- Worked examples, computed.
use Rattle.std.specs.Prelude.{◌++◌, ◌≡◌, ℕ, [], ◌∷◌, codes, refl, Some, None}
use Rattle.std.specs.Fmt.{digits}
use Rattle.dist_generate.specs.Draws.{next_state, draw, many}
use Rattle.dist_generate.specs.Generator.{Alternative, generated, generated_packages, stanza_text}

-- the upper halves of the first states after 0
pub the_first_draws : (many (λ _. draw 65536) 14 0).0
    ≡ 15470 ∷ 18256 ∷ 53708 ∷ 43769 ∷ 25170 ∷ 40750 ∷ 22526 ∷ 41945 ∷ 33277 ∷ 38128 ∷ 52214 ∷ 48337 ∷ 40227 ∷ 58006 ∷ []
unfolding next_state
the_first_draws = refl

abbrev one_of : (target bound : ℕ) → Alternative
one_of target bound = record { target = target; bound = bound }

-- what these draws make: the first package takes one of them, the second one the others
pub two_packages : generated_packages 2 0
    ≡ record { number = 0; digit = 2; items = []; conflict = None }
    ∷ record {
      number = 1;
      digit = 1;
      items = (one_of 0 2 ∷ one_of 0 1 ∷ []) ∷ (one_of 0 2 ∷ one_of 0 3 ∷ []) ∷ [];
      conflict = None;
    }
    ∷ []
unfolding next_state
two_packages = refl

pub their_text : generated 2 0
    ≡ codes "Package: g0\nVersion: 1.2\nArchitecture: all\nSource: s0\n\nPackage: g1\nVersion: 1.1\n"
    ++ codes "Architecture: all\nSource: s0\nDepends: g0 (>= 1) | g0, g0 (>= 1) | g0 (<< 2)\n\n"
unfolding next_state digits
their_text = refl

-- a package without dependencies, and with a conflict
pub a_conflict : stanza_text (record { number = 3; digit = 0; items = []; conflict = Some 2 })
    ≡ codes "Package: g3\nVersion: 1.0\nArchitecture: all\nSource: s1\nConflicts: g2\n\n"
unfolding digits
a_conflict = refl
