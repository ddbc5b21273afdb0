-- What all edits say of the record of one name.
use Rattle.std.proofs.Common.{◌≡◌, ◌≢◌, refl, sym, ◌∙◌, ap, subst, Bool, true, false, cond, List, [], ◌∷◌, ◌++◌, bytes_eq, Option, Some, None}
use Rattle.std.specs.Option.{option_to_list}
use Rattle.std.specs.List.{AllByRecursion}
use Rattle.std.proofs.lemmas.Slice.Eq.{bytes_eq-Decides}
use Rattle.gix_object_lookup.specs.Table.{Table}
use Rattle.gix_ref_name.specs.Targets.{Points, ToObject, ToName, target_view}
use Rattle.gix_ref_edit.specs.declared.change.Change.{Change}
use Rattle.gix_ref_edit.specs.declared.change.Change.TheVariants.{Update, Delete}
use Rattle.gix_ref_edit.specs.declared.change.RefEdit.{RefEdit}
use Rattle.gix_ref_edit.specs.declared.log.RefLog.{RefLog}
use Rattle.gix_ref_edit.specs.declared.log.RefLog.TheVariants.{AndReference, Only}
use Rattle.gix_ref_format.specs.Lookup.{packed_key}
use Rattle.gix_ref_format.specs.Edited.{Line, line_at}
use Rattle.gix_ref_store.specs.Places.{Base, place}
use Rattle.gix_ref_way.specs.Ways.{Bytes}
use Rattle.gix_ref_transaction.specs.Repacking.{SaysOfRecord, SaysByKey, SayOfRecords, UpdatesRecord}
use Rattle.gix_ref_transaction.proofs.PathKeys.{one_place}

inner : {A : Type 0} {r s : A} → Some r ≡ Some s → r ≡ s
inner e = cc

-- what is said of a record is said of the name's own
updated_key : (packs : Option Table) (mode : RefLog) (new : Points) (k : Bytes) (line : Line) → UpdatesRecord packs mode new k (Some line) → line.name ≡ k
updated_key None mode new k line says = cc
updated_key (Some table) Only new k line says = cc
updated_key (Some table) AndReference (ToName name) k line says = cc
updated_key (Some table) AndReference (ToObject id) k line (peeled, tells, is) = ap (λ (l : Line). l.name) (inner is)

keyed : (packs : Option Table) (change : Change) (key : Option Bytes) (line : Line) → SaysByKey packs change key (Some line) → key ≡ Some line.name
keyed packs change None line says = cc
keyed packs (Delete expected AndReference) (Some k) line says = ap Some (sym (ap (λ (l : Line). l.name) (inner says)))
keyed packs (Delete expected Only) (Some k) line says = cc
keyed packs (Update log expected new) (Some k) line says = ap Some (sym (updated_key packs log.mode (target_view new) k line says))

-- a line of another name comes before
behind_line : (line : Line) (rest : List Line) (k : Bytes) → line.name ≢ k → line_at (line ∷ rest) k ≡ line_at rest k
behind_line line rest k apart = ap (λ b. cond b (Some line) (line_at rest k)) (differ (bytes_eq line.name k) refl)
  where
    differ : (b : Bool) → bytes_eq line.name k ≡ b → bytes_eq line.name k ≡ false
    differ false is = is
    differ true is = absurd (apart ((bytes_eq-Decides line.name k).0 is))

first_line : (line : Line) (rest : List Line) (k : Bytes) → line.name ≡ k → line_at (line ∷ rest) k ≡ Some line
first_line line rest k same = ap (λ b. cond b (Some line) (line_at rest k)) ((bytes_eq-Decides line.name k).1 same)

abbrev HasOther : Bytes → RefEdit → Type 0
HasOther k edit = packed_key edit.name ≢ Some k

past : (packs : Option Table) (edit : RefEdit) (own : Option Line) (rest : List Line) (k : Bytes) → SaysOfRecord packs edit own → HasOther k edit → line_at (option_to_list own ++ rest) k ≡ line_at rest k
past packs edit None rest k says other = refl
past packs edit (Some line) rest k says other =
    behind_line line rest k (λ same. other (keyed packs edit.change (packed_key edit.name) line says ∙ ap Some same))

-- no edit says anything of it
pub no_line : (packs : Option Table) (edits : List RefEdit) (lines : List Line) (k : Bytes) → SayOfRecords packs edits lines → AllByRecursion (HasOther k) edits → line_at lines k ≡ None
no_line packs [] lines k none others = ap (λ ls. line_at ls k) none
no_line packs (edit ∷ edits) lines k (own, rest, says, later, is) others =
    ap (λ ls. line_at ls k) is ∙ past packs edit own rest k says others.0 ∙ no_line packs edits rest k later others.1

-- each place occurs once
abbrev pub PlacesApart : Base → List RefEdit → Type 0
PlacesApart b [] = Unit {0}
PlacesApart b (edit ∷ edits) = AllByRecursion (λ other. place b edit.name ≢ place b other.name) edits × PlacesApart b edits

others_of : (b : Base) (name k : Bytes) (edits : List RefEdit) → packed_key name ≡ Some k → AllByRecursion (λ other. place b name ≢ place b other.name) edits → AllByRecursion (HasOther k) edits
others_of b name k [] key apart = tt
others_of b name k (edit ∷ edits) key apart = (λ same. apart.0 (one_place b name edit.name k key same), others_of b name k edits key apart.1)

-- the line of the key is what the edit says itself
abbrev pub IsSaid : List Line → Option Bytes → Option Line → Type 0
IsSaid lines None own = own ≡ None
IsSaid lines (Some k) own = line_at lines k ≡ own

abbrev pub SaidOf : Option Table → List Line → RefEdit → Type 0
SaidOf packs lines edit = (own : Option Line) × SaysOfRecord packs edit own × IsSaid lines (packed_key edit.name) own

said_first : (b : Base) (packs : Option Table) (edit : RefEdit) (edits : List RefEdit) (own : Option Line) (rest : List Line) (key : Option Bytes) → packed_key edit.name ≡ key → SaysByKey packs edit.change key own → SayOfRecords packs edits rest
    → AllByRecursion (λ other. place b edit.name ≢ place b other.name) edits → IsSaid (option_to_list own ++ rest) key own
said_first b packs edit edits own rest None is says later apart = says
said_first b packs edit edits None rest (Some k) is says later apart = no_line packs edits rest k later (others_of b edit.name k edits is apart)
said_first b packs edit edits (Some line) rest (Some k) is says later apart = first_line line rest k (sym (inner (keyed packs edit.change (Some k) line says)))

said_later : (b : Base) (packs : Option Table) (edit other : RefEdit) (own : Option Line) (rest : List Line) (key : Option Bytes) (told : Option Line) → packed_key other.name ≡ key → SaysOfRecord packs edit own → place b edit.name ≢ place b other.name
    → IsSaid rest key told → IsSaid (option_to_list own ++ rest) key told
said_later b packs edit other own rest None told is says apart said = said
said_later b packs edit other own rest (Some k) told is says apart said =
    past packs edit own rest k says (λ same. apart (one_place b edit.name other.name k same is)) ∙ said

all_later : (b : Base) (packs : Option Table) (edit : RefEdit) (others : List RefEdit) (own : Option Line) (rest : List Line) → SaysOfRecord packs edit own → AllByRecursion (λ other. place b edit.name ≢ place b other.name) others
    → AllByRecursion (SaidOf packs rest) others → AllByRecursion (SaidOf packs (option_to_list own ++ rest)) others
all_later b packs edit [] own rest says apart all = tt
all_later b packs edit (other ∷ others) own rest says apart ((told, tells, said), all) =
    ((told, tells, said_later b packs edit other own rest (packed_key other.name) told refl says apart.0 said), all_later b packs edit others own rest says apart.1 all)

pub all_said_of : (b : Base) (packs : Option Table) (edits : List RefEdit) (lines : List Line) → PlacesApart b edits → SayOfRecords packs edits lines → AllByRecursion (SaidOf packs lines) edits
all_said_of b packs [] lines apart none = tt
all_said_of b packs (edit ∷ edits) lines apart (own, rest, says, later, is) =
    subst (λ (ls : List Line). AllByRecursion (SaidOf packs ls) (edit ∷ edits)) (sym is) (
      (own, says, said_first b packs edit edits own rest (packed_key edit.name) refl says later apart.0),
      all_later b packs edit edits own rest says apart.0 (all_said_of b packs edits rest apart.1 later),
    )
