-- A tree's content: entries one after another, each a mode, a space, a name, a zero byte and an
-- id's raw bytes (Pro Git, "Tree Objects"; git-mktree).
use Rattle.std.specs.Prelude.{ℕ, ◌≡◌, ◌<◌, ◌⊎◌, List, [], ◌∷◌, ◌++◌, length}
use Rattle.bstr.specs.BStr.{bstr_bytes}
use Rattle.gix_hash.specs.Id.{Id, id_of}
use Rattle.gix_hash.specs.Kind.{byte_len}
use Rattle.gix_hash.specs.Views.{IsBytesOf, viewed_id}
use Rattle.gix_hash.specs.declared.kind.Kind.{Kind}
use Rattle.gix_object_lines.specs.Bytes.{Lacks}
use Rattle.gix_object_lines.specs.declared.decode.Error.{Error}
use Rattle.gix_object_lines.specs.declared.decode.Error.TheVariants.{FieldName, HexDigits, LineEnd, InvalidActor, InvalidTime, Memory}
use Rattle.gix_object_tree.specs.ModeText.{Mode, mode_of, SpellsMode, SpellsNoMode}
use Rattle.gix_object_tree.specs.declared.tree.entry.Entry.{Entry}
use Rattle.gix_object_tree.specs.declared.tree.entry.EntryRef.{EntryRef}

-- what an entry holds
pub record Item : Type 0 where
  pub mode : Mode
  pub name : List ℕ
  pub id : Id

abbrev pub item_of : EntryRef → Item
item_of entry =
    record {
      mode =
          mode_of entry.mode;
      name = bstr_bytes entry.filename;
      id = viewed_id entry.oid;
    }

abbrev pub own_item : Entry → Item
own_item entry = record { mode = mode_of entry.mode; name = entry.filename; id = id_of entry.oid }

-- the entry begins the input, its id of this hash function, and the rest follows it
pub record SpellsEntry (ids : Kind) (input : List ℕ) (item : Item) (rest : List ℕ) : Type 0 where
  pub text : List ℕ
  pub bytes : List ℕ
  pub mode : SpellsMode text item.mode
  pub name : Lacks 0 item.name
  pub id : IsBytesOf bytes item.id
  pub whole : length bytes ≡ byte_len ids
  pub spelled : input ≡ text ++ 32 ∷ (item.name ++ 0 ∷ (bytes ++ rest))

abbrev pub SpellsNoEntry : Kind → List ℕ → Type 0
SpellsNoEntry ids input = (item : Item) (rest : List ℕ) → SpellsEntry ids input item rest → ⊥

-- the entries begin the input in order, and the rest follows them
abbrev pub SpellsEntries : Kind → List ℕ → List Item → List ℕ → Type 0
SpellsEntries ids input [] rest = input ≡ rest
SpellsEntries ids input (item ∷ items) rest =
    (after : List ℕ) × SpellsEntry ids input item after × SpellsEntries ids after items rest

-- the content spells the entries of a tree, and nothing else
abbrev pub SpellsTree : Kind → List ℕ → List Item → Type 0
SpellsTree ids content items = SpellsEntries ids content items []

-- ---- why no entry begins the input: the mode, the name's end, or the id

abbrev pub LacksMode : List ℕ → Type 0
LacksMode input =
    (text rest : List ℕ) → Lacks 32 text → input ≡ text ++ 32 ∷ rest → SpellsNoMode text

pub record LacksNameEnd (input : List ℕ) : Type 0 where
  pub text : List ℕ
  pub rest : List ℕ
  pub mode : (mode : Mode) × SpellsMode text mode
  pub spelled : input ≡ text ++ 32 ∷ rest
  pub endless : Lacks 0 rest

pub record LacksId (ids : Kind) (input : List ℕ) : Type 0 where
  pub text : List ℕ
  pub name : List ℕ
  pub rest : List ℕ
  pub mode : (mode : Mode) × SpellsMode text mode
  pub named : Lacks 0 name
  pub spelled : input ≡ text ++ 32 ∷ (name ++ 0 ∷ rest)
  pub short : length rest < byte_len ids

abbrev pub EntryFault : Kind → List ℕ → Error → Type 0
EntryFault ids input FieldName = LacksMode input
EntryFault ids input HexDigits = LacksId ids input
EntryFault ids input LineEnd = LacksNameEnd input
EntryFault ids input InvalidActor = ⊥
EntryFault ids input InvalidTime = ⊥
EntryFault ids input Memory = ⊥

-- some entries are spelled, and then none for this cause; or memory was refused
pub record FaultBehind (ids : Kind) (content : List ℕ) (error : Error) : Type 0 where
  pub items : List Item
  pub rest : List ℕ
  pub spelled : SpellsEntries ids content items rest
  pub left : SpellsNoEntry ids rest
  pub fault : EntryFault ids rest error

abbrev pub TreeFault : Kind → List ℕ → Error → Type 0
TreeFault ids content error = (error ≡ Memory) ⊎ FaultBehind ids content error
