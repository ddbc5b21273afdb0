-- Which commit comes next.
use Rattle.std.specs.Prelude.{ℕ, List, Contains}
use Rattle.gix_traverse_graph.specs.Order.{Before, IsKey, IsOpen, Named}

-- in breadth order: of the commits of the set that the list so far names and hasn't, the one that
-- is named first
pub record IsNextInBreadth {I : Type 0} (along : I → List I) (tips : List I) (S : I → Type 0)
    (listed : List I) (x : I) : Type 0 where
  pub member : S x
  pub new : ¬ Contains listed x
  pub place : ℕ
  pub index : ℕ
  pub key : IsKey along tips listed x place index
  pub first : (y : I) (q j : ℕ) → S y → ¬ Contains listed y → Named along tips listed q j y
      → ¬ Before q j place index

-- by time: of the commits of the set that are open and not listed, one that may come before the
-- others
pub record IsNextByTime {I : Type 0} (along : I → List I) (tips : List I) (S : I → Type 0)
    (Comes : List I → I → I → Type 0) (listed : List I) (x : I) : Type 0 where
  pub member : S x
  pub new : ¬ Contains listed x
  pub open_now : IsOpen along tips listed x
  pub first : (y : I) → S y → ¬ Contains listed y → IsOpen along tips listed y → Comes listed x y
