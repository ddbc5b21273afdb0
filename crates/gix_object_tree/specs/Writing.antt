-- A tree as it is written: its entries one after another (Pro Git, "Tree Objects").
use Rattle.std.specs.Prelude.{◌≡◌, ℕ, ◌==◌, Bool, not, List, [], ◌∷◌, ◌++◌, flat_map, Option, None, Some, if◌then◌else◌}
use Rattle.std.specs.List.{All, list_any, take_while}
use Rattle.gix_hash.specs.Id.{raw_bytes}
use Rattle.gix_hash.specs.Views.{IsBytesOf}
use Rattle.gix_hash.specs.declared.kind.Kind.{Kind}
use Rattle.gix_object_lines.specs.Writes.{Refusal}
use Rattle.gix_object_lines.specs.declared.write.Error.TheVariants.{Filename}
use Rattle.gix_object_lines.specs.declared.write.FilenameError.TheVariants.{NullbyteInFilename}
use Rattle.gix_object_tree.specs.Entry.{Item, SpellsEntry}
use Rattle.gix_object_tree.specs.ModeText.{SpellsMode, mode_text}

-- the mode, a space, the name, a zero byte and the id's bytes
abbrev pub entry_text : Item → List ℕ
entry_text item = mode_text item.mode ++ 32 ∷ (item.name ++ 0 ∷ raw_bytes item.id)

abbrev pub tree_text : List Item → List ℕ
tree_text items = flat_map entry_text items

-- a zero byte would end the name
abbrev pub has_zero : Item → Bool
has_zero item = list_any (λ byte. byte == 0) item.name

-- the entries before the first whose name holds a zero byte
abbrev pub written_front : List Item → List Item
written_front items = take_while (λ item. not (has_zero item)) items

-- the first entry whose name holds a zero byte is refused, and nothing of it is written
abbrev pub tree_refusal : List Item → Option Refusal
tree_refusal items =
    if list_any has_zero items
    then Some
    (record { before = tree_text (written_front items); cause = Filename NullbyteInFilename })
    else None

-- ---- what is read again

-- the bytes written for its mode and its id spell these
pub record IsToldAgain (item : Item) : Type 0 where
  pub mode : SpellsMode (mode_text item.mode) item.mode
  pub id : IsBytesOf (raw_bytes item.id) item.id

-- its ids are of this hash function
abbrev pub HasIds : Kind → List Item → Type 0
HasIds ids items = All (λ item. item.id.kind ≡ ids) items

-- the content spells the entries of a tree, each mode in the digits that are written of it
abbrev pub SpellsAsWritten : Kind → List ℕ → List Item → Type 0
SpellsAsWritten ids content [] = content ≡ []
SpellsAsWritten ids content (item ∷ items) =
    (rest : List ℕ) × (is : SpellsEntry ids content item rest) × (is.text ≡ mode_text item.mode)
    × SpellsAsWritten ids rest items
