-- What the private functions of the generator say.
use Rattle.std.specs.Prelude.{◌≡◌, ℕ, List, ◌++◌}
use Rattle.dist_generate.specs.Draws.{Drawing}

-- something was drawn, and stands as this text behind what was there
pub record Adds {X : Type 0} (drawing : Drawing X) (text_of : X → List ℕ) (old : List ℕ) (state : ℕ) (new : List ℕ)
    (after : ℕ) : Type 0 where
  pub text : new ≡ old ++ text_of (drawing state).0
  pub moved : after ≡ (drawing state).1
