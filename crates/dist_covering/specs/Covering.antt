-- Of the futures of a space, for each of the latest installations the clusters that it uses.
use Rattle.std.specs.Prelude.{◌≡◌, ℕ, ◌+◌, Bool, List, [], ◌∷◌, ◌++◌}
use Rattle.circular_buffer.specs.Buffer.{keep_last}
use Rattle.dist_cert.specs.declared.TheConstants.{REACH}
use Rattle.dist_space.specs.Space.{SpaceView}
use Rattle.dist_sweep.specs.Window.{WindowView}
use Rattle.dist_covering.specs.Used.{AreUsed}

-- a space of futures, and for each of the latest installations numbers of clusters
pub record CoveringView : Type 0 where
  pub space : SpaceView
  pub uses : List (List ℕ)

-- an installation was added as the latest one, with the clusters that it uses
pub record IsAdded (c d : CoveringView) (w v : WindowView) (values : List Bool) : Type 0 where
  pub used : List ℕ
  pub are_used : AreUsed c.space values used
  pub is : d ≡ record c { uses = keep_last REACH (c.uses ++ used ∷ []) }
  pub window : v ≡ record w { kept = keep_last REACH (w.kept ++ values ∷ []); count = w.count + 1 }
