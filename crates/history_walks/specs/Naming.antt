-- Commits under the ids that their values name.
use Rattle.std.specs.Prelude.{◌≡◌, map}
use Rattle.gix_traverse_graph.specs.Commits.{Commits}

-- The commits under the names are those under the values, their parents named.
pub record AreNamed {I J : Type 0} (name : I → J) (g : Commits I) (h : Commits J) : Type 0 where
  pub parents : (x : I) → (h (name x)).parents ≡ map name (g x).parents
  pub time : (x : I) → (h (name x)).time ≡ (g x).time
