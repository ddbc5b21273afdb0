-- Lines of a reference's log, as Git keeps them in `logs/<name>` (Documentation/git-update-ref,
-- "Logging updates": `oldsha1 SP newsha1 SP committer LF`, and after the committer a tab and a
-- message, if there is one).
use Rattle.std.specs.Prelude.{ℕ, ◌≡◌, ◌==◌, ◌⊎◌, List, [], ◌∷◌, ◌++◌, Bool, IsTrue}
use Rattle.std.specs.List.{slice_split}
use Rattle.gix_object_lines.specs.Actor.{SpellsActor}
use Rattle.gix_object_lines.specs.Bytes.{Lacks, without_last_feed}
use Rattle.gix_object_lines.specs.HexLine.{is_id}

-- what a line says, each part as it is there
pub record LineParts : Type 0 where
  -- the hexadecimal digits of the id before the update and of the one after it
  pub before : List ℕ
  pub after : List ℕ
  -- who made the update, and the text of when
  pub name : List ℕ
  pub email : List ℕ
  pub time : List ℕ
  pub message : List ℕ

-- all before the tab
abbrev pub front_text : List ℕ → List ℕ → List ℕ → List ℕ
front_text before after actor = before ++ 32 ∷ (after ++ 32 ∷ actor)

abbrev pub line_text : List ℕ → List ℕ → List ℕ → List ℕ → List ℕ
line_text before after actor message = front_text before after actor ++ 9 ∷ message

-- the text, without a line feed, is a line of these parts
pub record SpellsLine (text : List ℕ) (parts : LineParts) : Type 0 where
  pub actor : List ℕ
  -- a line without a tab has the empty message
  pub spelled : (text ≡ line_text parts.before parts.after actor parts.message)
      ⊎ ((text ≡ front_text parts.before parts.after actor) × (parts.message ≡ []))
  -- ids of either hash function, in any letter case
  pub before_is_id : IsTrue (is_id parts.before)
  pub after_is_id : IsTrue (is_id parts.after)
  pub actor_spelled : SpellsActor actor parts.name parts.email parts.time
  -- so the first tab is the one before the message
  pub no_tab : Lacks 9 actor
  pub message_in_line : Lacks 10 parts.message

-- no parts are spelled so
abbrev pub IsNoLine : List ℕ → Type 0
IsNoLine text = (parts : LineParts) → ¬ SpellsLine text parts

abbrev pub is_feed : ℕ → Bool
is_feed byte = byte == 10

-- the lines of a log: the line feed that ends it, if one does, ends its last line
abbrev pub split_lines : List ℕ → List (List ℕ)
split_lines [] = []
split_lines (byte ∷ rest) = slice_split is_feed (without_last_feed (byte ∷ rest))
