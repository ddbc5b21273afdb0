-- The objects that references lead to in the end, over names and tags. H says whether the store of
-- objects returns what its table has, M whether its lookups may fail.
use Rattle.std.specs.Prelude.{ℕ, ◌≡◌, ◌≢◌, ◌⊎◌, ⊤, List, [], ◌∷◌, Option, Some, None, option_map, codes, IsTrue}
use Rattle.std.specs.List.{list_any}
use Rattle.gix_hash.specs.Id.{Id, id_of}
use Rattle.gix_hash.specs.Kind.{hex_len}
use Rattle.gix_hash.specs.Order.{id_eq}
use Rattle.gix_hash.specs.Views.{IsHexOfId}
use Rattle.gix_object_lines.specs.HexLine.{HexLineFault}
use Rattle.gix_object_lines.specs.declared.decode.Error as decode
use Rattle.gix_object_lines.specs.declared.kind.Kind.TheVariants as kinds
use Rattle.gix_object_tag.specs.Tag.{SpellsTarget}
use Rattle.gix_object_lookup.specs.Table.{Table, Object}
use Rattle.gix_object_lookup.specs.Existing.{Stands, LookupFault}
use Rattle.gix_ref_format.specs.declared.packed.buffer.Error.{Error as OpenError}
use Rattle.gix_ref_store.specs.Follows as follows
use Rattle.gix_ref_store.specs.Follows.{Followed, Ends, EndsAt, FollowFault, follow_from}
use Rattle.gix_ref_store.specs.RefStates.{RefState}
use Rattle.gix_ref_store.specs.declared.reference.Reference.{Reference}
use Rattle.gix_ref_store.specs.declared.store.file.find.Error.TheVariants as finds
use Rattle.gix_ref_store.specs.declared.store.file.find.ExistingError.TheVariants as existing
use Rattle.gix_ref_store.specs.declared.store.file.follow.Error.TheVariants.{Follow}
use Rattle.gix_ref_store.specs.declared.store.file.peel.Error.{Error}
use Rattle.gix_ref_store.specs.declared.store.file.peel.Error.TheVariants.{FollowToObject, Find, NotFound, Memory}

-- the tag under the first id names the second
abbrev pub TagNames : Table → Id → Id → Type 0
TagNames table id target =
    (content digits after : List ℕ) × Stands table id kinds.Tag content
    × SpellsTarget id.kind content digits after × IsHexOfId digits target

-- tags lead from the first id over these to the second
abbrev pub LeadsOver : Table → Id → List Id → Id → Type 0
LeadsOver table id [] end = id ≡ end
LeadsOver table id (tag ∷ tags) end =
    (tag ≡ id) × ((next : Id) × TagNames table id next × LeadsOver table next tags end)

-- the id has an object that is no tag
abbrev pub IsPlain : Table → Id → Type 0
IsPlain table id = (object : Object) × (table id ≡ Some object) × (object.kind ≢ kinds.Tag)

-- the object that an id leads to: its own, or the one that tags lead to
abbrev pub PeelsTo : Table → Id → Id → Type 0
PeelsTo table id end = (tags : List Id) × LeadsOver table id tags end × IsPlain table end

-- the id has a tag whose first line has no id
abbrev pub NamesNone : Table → Id → Type 0
NamesNone table id =
    (content : List ℕ) × (error : decode.Error) × Stands table id kinds.Tag content
    × HexLineFault (codes "object") (hex_len id.kind) content error

-- tags lead to an id that has no object, or a tag that names none, or is one of those that lead
-- there
abbrev pub IsLost : Table → Id → Id → Type 0
IsLost table id end = (tags : List Id) × LeadsOver table id tags end
    × ((table end ≡ None) ⊎ (NamesNone table end ⊎ IsTrue (list_any (id_eq end) tags)))

-- why an id leads to no object
abbrev pub TagFault : Type 0 → Type 0 → Table → Id → Error → Type 0
TagFault H M table id (FollowToObject error) = ⊥
TagFault H M table id (Find error) = LookupFault M error
TagFault H M table id (NotFound oid) = H → IsLost table id (id_of oid)
TagFault H M table id Memory = ⊤

-- the same of one id: it has no object, or a tag that names none
abbrev pub StepFault : Type 0 → Type 0 → Table → Id → Error → Type 0
StepFault H M table id (FollowToObject error) = ⊥
StepFault H M table id (Find error) = LookupFault M error
StepFault H M table id (NotFound oid) =
    (id_of oid ≡ id) × (H → (table id ≡ None) ⊎ NamesNone table id)
StepFault H M table id Memory = ⊥

-- ---- references

-- from a name: the object that its record has, or the one that tags lead to from where the chain
-- ends, and the name there
abbrev pub PeelsBy : Followed → Table → List ℕ → Option Id → List ℕ → Id → Type 0
PeelsBy followed table from (Some told) name id = (name ≡ from) × (id ≡ told)
PeelsBy followed table from None name id =
    (first : Id) × (peeled : Option Id) × (followed ≡ Ends name first peeled)
    × PeelsTo table first id

-- a reference leads to this object, over the reference of this name
abbrev pub Peels : (List ℕ → RefState) → Table → Reference → List ℕ → Id → Type 0
Peels read table r name id =
    PeelsBy (follow_from read r) table r.name (option_map id_of r.peeled) name id

abbrev pub IsPeeled : (List ℕ → RefState) → Table → Reference → Id → Type 0
IsPeeled read table r id = (name : List ℕ) × Peels read table r name id

-- the error if packed references aren't opened
abbrev pub unopened : OpenError → Error
unopened error = FollowToObject (Follow (existing.Find (finds.PackedOpen error)))

-- packed references aren't opened
abbrev pub IsUnopened : Error → Type 0
IsUnopened error = (cause : OpenError) × (error ≡ unopened cause)

-- the reference has no peeled id, or the error is that packed references aren't opened
abbrev pub LacksObject : Reference → Error → Type 0
LacksObject r error = (r.peeled ≡ None) ⊎ IsUnopened error

-- why it leads to none; `Unopened` says why packed references aren't opened
abbrev pub PeelFault : (OpenError → Type 0) → (List ℕ → RefState) → Table → Reference → Error
    → Type 0
PeelFault Unopened read table r (FollowToObject error) =
    FollowFault Unopened (follow_from read r) error
PeelFault Unopened read table r (Find error) =
    (first : Id) × EndsAt first (follow_from read r)
PeelFault Unopened read table r (NotFound oid) =
    (r.peeled ≡ None)
    × ((first : Id) × EndsAt first (follow_from read r) × IsLost table first (id_of oid))
PeelFault Unopened read table r Memory = ⊤

-- a failed reading is reported only if a reading may fail, and a failed lookup only if a lookup may
abbrev pub MayTell : Type 0 → Type 0 → Error → Type 0
MayTell reading_may_fail M (FollowToObject error) = follows.MayTell reading_may_fail error
MayTell reading_may_fail M (Find error) = LookupFault M error
MayTell reading_may_fail M (NotFound oid) = ⊤
MayTell reading_may_fail M Memory = ⊤
