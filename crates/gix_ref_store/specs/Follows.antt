-- Where symbolic references lead: a chain of names.
use Rattle.std.specs.Prelude.{ℕ, zero, suc, ◌≡◌, List, [], ◌∷◌, ◌++◌, Option, Some, None, option_map, Result, Ok, Err, MatchResult, if◌then◌else◌}
use Rattle.gix_hash.specs.Id.{Id, id_of}
use Rattle.gix_hash.specs.declared.object_id.ObjectId.{ObjectId}
use Rattle.gix_object_lines.specs.Bytes.{is_among}
use Rattle.gix_ref_file.specs.Tree.{Tree}
use Rattle.gix_ref_name.specs.Targets.{Points, ToObject, ToName, IsObject, target_view}
use Rattle.gix_ref_format.specs.PackedBuffer.{FileFault}
use Rattle.gix_ref_format.specs.declared.packed.buffer.Error.{Error as OpenError}
use Rattle.gix_ref_store.specs.Finds as finds
use Rattle.gix_ref_store.specs.Finds.{state_of, OnExisting}
use Rattle.gix_ref_store.specs.Places.{Base}
use Rattle.gix_ref_store.specs.RefStates.{RefState, Fault, InFile, Stands, Absent, Faulty, packed_text_in}
use Rattle.gix_ref_store.specs.declared.reference.Reference.{Reference}
use Rattle.gix_ref_store.specs.declared.store.file.find.Error.{Error as FindError}
use Rattle.gix_ref_store.specs.declared.store.file.find.Error.TheVariants as find
use Rattle.gix_ref_store.specs.declared.store.file.find.ExistingError.{ExistingError}
use Rattle.gix_ref_store.specs.declared.store.file.follow.Error.{Error}
use Rattle.gix_ref_store.specs.declared.store.file.follow.Error.TheVariants.{Follow, Cycle, DepthLimitExceeded, Memory}

-- The chain ends at a name that points to an object, with its peeled id if there is one; or it
-- meets a name again, is too long, or leads to a name that isn't there or can't be read, for this
-- reason.
pub data Followed : Type 0 where
  Ends : List ℕ → Id → Option Id → Followed
  Cycles : Followed
  TooDeep : Followed
  Dangles : Followed
  Breaks : Fault → Followed

-- from a name and what it reads as, over at most so many other names, of which some were met
abbrev pub follow : (List ℕ → RefState) → ℕ → List (List ℕ) → List ℕ → RefState → Followed
follow read left seen from Absent = Dangles
follow read left seen from (Faulty why) = Breaks why
follow read left seen from (Stands (ToObject id) peeled) = Ends from id peeled
follow read zero seen from (Stands (ToName name) peeled) =
    if is_among seen name then Cycles else TooDeep
follow read (suc left) seen from (Stands (ToName name) peeled) =
    if is_among seen name then Cycles else follow read left (seen ++ name ∷ []) name (read name)

-- from a reference, over at most 5 names
abbrev pub follow_from : (List ℕ → RefState) → Reference → Followed
follow_from read r = follow read 5 [] r.name (state_of r)

-- the chain ends at an object of this id
abbrev pub EndsAt : Id → Followed → Type 0
EndsAt id followed = (name : List ℕ) × (peeled : Option Id) × (followed ≡ Ends name id peeled)

-- the chain ends at this reference, which points to an object of this id
abbrev pub EndsBy : Reference → ObjectId → Followed → Type 0
EndsBy r id followed =
    (target_view r.target ≡ ToObject (id_of id))
    × (followed ≡ Ends r.name (id_of id) (option_map id_of r.peeled))

-- ---- the results; `Unopened` says why packed references aren't opened

-- the packed references that a caller gives are open
abbrev pub IsGiven : OpenError → Type 0
IsGiven error = ⊥

-- those of the tree can't be opened
abbrev pub CantOpen : Base → Tree → OpenError → Type 0
CantOpen b tree error = FileFault b.kind (packed_text_in b tree) error

-- why a name isn't read; `Broken` says why it can't be
abbrev pub ReadFault : (OpenError → Type 0) → (Fault → Type 0) → FindError → Type 0
ReadFault Unopened Broken (find.ReferenceCreation error) = Broken (InFile error)
ReadFault Unopened Broken (find.PackedOpen error) = Unopened error
ReadFault Unopened Broken find.ReadFileContents = Unit {0}
ReadFault Unopened Broken find.Memory = Unit {0}

-- the result for a name that must exist
abbrev pub TellsExisting : (OpenError → Type 0) → (List ℕ → RefState) → List ℕ
    → Result Reference ExistingError → Type 0
TellsExisting Unopened read name result =
    MatchResult result (λ r. (r.name ≡ name) × (read name ≡ state_of r))
    (OnExisting (read name ≡ Absent) (ReadFault Unopened (λ why. read name ≡ Faulty why)))

-- the reference that a target names: none if it is an object
abbrev pub FollowsTo : (OpenError → Type 0) → (List ℕ → RefState) → Points
    → Option (Result Reference ExistingError) → Type 0
FollowsTo Unopened read target None = IsObject target
FollowsTo Unopened read target (Some (Ok r)) =
    (target ≡ ToName r.name) × (read r.name ≡ state_of r)
FollowsTo Unopened read target (Some (Err error)) =
    (name : List ℕ) × (target ≡ ToName name)
    × OnExisting (read name ≡ Absent) (ReadFault Unopened (λ why. read name ≡ Faulty why)) error

-- why no object is reached
abbrev pub FollowFault : (OpenError → Type 0) → Followed → Error → Type 0
FollowFault Unopened followed (Follow error) =
    OnExisting (followed ≡ Dangles) (ReadFault Unopened (λ why. followed ≡ Breaks why)) error
FollowFault Unopened followed Cycle = followed ≡ Cycles
FollowFault Unopened followed DepthLimitExceeded = followed ≡ TooDeep
FollowFault Unopened followed Memory = Unit {0}

-- a failed reading is reported only if a reading may fail
abbrev pub MayTell : Type 0 → Error → Type 0
MayTell may_fail (Follow error) = OnExisting (Unit {0}) (finds.MayTell may_fail) error
MayTell may_fail Cycle = Unit {0}
MayTell may_fail DepthLimitExceeded = Unit {0}
MayTell may_fail Memory = Unit {0}
