-- How a line is cut, on the way to its parts.
use Rattle.std.specs.Prelude.{ℕ, ◌≡◌, ◌⊎◌, List, [], ◌∷◌, ◌++◌, IsTrue}
use Rattle.gix_object_lines.specs.Bytes.{Lacks}
use Rattle.gix_object_lines.specs.HexLine.{is_id}
use Rattle.gix_ref_log.specs.LogLine.{front_text}

-- at its first tab, if it has one
pub record IsMessageCut (line front message : List ℕ) : Type 0 where
  pub no_tab : Lacks 9 front
  pub cut : (line ≡ front ++ 9 ∷ message) ⊎ ((line ≡ front) × (message ≡ []))

-- two ids' digits with a space after each
pub record IsIdsCut (front before after actor : List ℕ) : Type 0 where
  pub spelled : front ≡ front_text before after actor
  pub before_is_id : IsTrue (is_id before)
  pub after_is_id : IsTrue (is_id after)
