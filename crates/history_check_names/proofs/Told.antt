-- What a file that was read says: that it is sound, or why it isn't.
use Rattle.std.proofs.Common.{◌≡◌, inl, inr, Bool, true, false, cond, ◌&&◌, ◌||◌, [], Option, Some, None, option_map, unwrap_or, is_some, refl, sym, ◌∙◌, ap, subst, bytes_eq, Vec, ℕ, Result, Ok, Err}
use Rattle.std.specs.Prelude.{IsTrue, IfErr, IfOk, OnOk}
use Rattle.std.specs.List.{list_any}
use Rattle.std.specs.declared.alloc.Global.{Global}
use Rattle.std.proofs.lemmas.Bool.{or_from}
use Rattle.gix_hash.specs.Id.{Id, id_of}
use Rattle.gix_hash.specs.declared.kind.Kind.{Kind}
use Rattle.gix_hash.specs.declared.object_id.ObjectId.{ObjectId}
use Rattle.gix_ref_file.specs.Changes.{is_file_at}
use Rattle.gix_ref_file.specs.Tree.{Tree, bytes_at}
use Rattle.history_model.specs.Bytes.{Bytes, begins}
use Rattle.history_model.specs.FileMap.{is_below}
use Rattle.history_model.specs.Forms.{is_name, is_private, refs_front}
use Rattle.history_model.specs.NameStates as states
use Rattle.history_model.specs.NameStates.{NameState, Absent, name_state, is_absent, loose_state, packed_text_state}
use Rattle.history_model.specs.Places.{file_at, head_place, packed_place, is_lock_file, is_log_place, log_name}
use Rattle.history_check_names.specs.Causes.{HasCause, IsCollision, IsCollisionOf, IsStray, IsUnheld, log_error}
use Rattle.history_check_names.specs.Logs.{HasFault, SpellsLog}
use Rattle.history_check_names.specs.Sound.{IsApart, IsSoundFile}
use Rattle.history_check_names.specs.Packed.{has_name, has_record, is_packed_text}
use Rattle.history_check_names.specs.PackedRead.{IsPackedCause, IsPackedFault, ReadsPacked, names_in}
use Rattle.history_check_names.specs.Stored.{is_of_wrong_kind, may_be_held}
use Rattle.history_check_objects.specs.Stored.{Facts, kind_in}
use Rattle.history_texts.specs.declared.open_error.NamedBy.TheVariants.{Name}
use Rattle.history_texts.specs.declared.open_error.OpenError.{OpenError}
use Rattle.history_texts.specs.declared.open_error.OpenError.TheVariants.{Missing, WrongKind, BadPacked, Collides, File, Memory}
use Rattle.history_check_names.specs.declared.log.LogFault.{LogFault}
use Rattle.history_check_names.specs.declared.packed.Packed.{Packed}
use Rattle.history_check_names.proofs.PackedReads.{stands_so}
use Rattle.history_check_names.proofs.Folders.{folder_common}
use Rattle.history_check_names.specs.declared.log.LogFault.TheVariants as logs

-- ---- a file's text

pub text_read : (tree : Tree) (path text found : Bytes) → file_at tree path ≡ Some text → found ≡ bytes_at tree path → found ≡ text
text_read tree path text found at is = is ∙ ap (λ (o : Option Bytes). unwrap_or o []) at

pub text_of : (tree : Tree) (path : Bytes) → is_file_at tree path ≡ true → file_at tree path ≡ Some (bytes_at tree path)
text_of tree path there = go (file_at tree path) there
  where
    go : (o : Option Bytes) → is_some o ≡ true → o ≡ Some (unwrap_or o [])
    go None h = cc
    go (Some text) h = refl

-- ---- what a name reads as

pub state_read : (kind : Kind) (tree : Tree) (name text : Bytes) → is_name name ≡ true → file_at tree name ≡ Some text → name_state kind tree name ≡ loose_state kind text
state_read kind tree name text is at =
    λ i. cond (is i) (unwrap_or (option_map (loose_state kind) (at i)) (unwrap_or (option_map (packed_text_state kind name) (file_at tree packed_place)) Absent)) Absent

-- whether a name has a file or a record
pub record_there : (kind : Kind) (tree : Tree) (name : Bytes) → is_name name ≡ true → has_record kind tree name ≡ true → true ≡ has_name kind tree name
record_there kind tree name named there = sym (λ i. named i && (either (is_file_at tree name) ∙ ap (λ b. b || is_file_at tree name) there ∙ refl) i)
  where
    either : (b : Bool) → (b || has_record kind tree name) ≡ (has_record kind tree name || b)
    either true = sym (right (has_record kind tree name))
      where
        right : (b : Bool) → (b || true) ≡ true
        right true = refl
        right false = refl
    either false = sym (right (has_record kind tree name))
      where
        right : (b : Bool) → (b || false) ≡ b
        right true = refl
        right false = refl

pub named_file : {E : Type 0} (kind : Kind) (tree : Tree) (name : Bytes) (r : Result Bool E) → is_name name ≡ true → has_record kind tree name ≡ false → IfOk r (λ found. found ≡ is_file_at tree name) → IfOk r (λ stands. stands ≡ has_name kind tree name)
named_file kind tree name (Ok b) named lacks found = found ∙ sym (λ i. named i && (ap (λ b. is_file_at tree name || b) lacks ∙ right (is_file_at tree name)) i)
  where
    right : (b : Bool) → (b || false) ≡ b
    right true = refl
    right false = refl
named_file kind tree name (Err e) named lacks found = found

pub unnamed_file : (kind : Kind) (tree : Tree) (name : Bytes) → is_name name ≡ false → false ≡ has_name kind tree name
unnamed_file kind tree name none = sym (ap (λ n. n && (is_file_at tree name || has_record kind tree name)) none)

-- what the names that are kept say
pub kept_record : (kind : Kind) (packed : Packed) (tree : Tree) (name : Bytes) (b : Bool) → b ≡ list_any (bytes_eq name) (names_in packed.names.keys) → ReadsPacked kind packed tree → b ≡ has_record kind tree name
kept_record kind packed tree name b is reads = is ∙ reads.names name

-- ---- causes

-- where the id that a name reads as isn't a stored commit's or tag's
pub unheld_causes : {T : Type 0} (A : Type 0) (kind : Kind) (facts : Facts) (tree : Tree) (id : ObjectId) (name : Vec ℕ Global) (r : Result T OpenError) → name_state kind tree name.items ≡ states.Holds (id_of id)
    → IfErr r (IsUnheld (kind_in facts (id_of id)) id name) → IfErr r (HasCause A kind facts tree)
unheld_causes A kind facts tree id name (Ok t) reads h = h
unheld_causes A kind facts tree id name (Err error) reads h = go error h
  where
    go : (error : OpenError) → IsUnheld (kind_in facts (id_of id)) id name error → HasCause A kind facts tree error
    go (Missing missing (Name holder)) (none, is, by) =
        (ap (λ (n : Vec ℕ Global). name_state kind tree n.items) by ∙ reads ∙ ap (λ (i : ObjectId). states.Holds (id_of i)) (sym is), ap (λ (i : ObjectId). kind_in facts (id_of i)) is ∙ none)
    go (WrongKind wrong (Name holder)) (other, is, by) =
        (ap (λ (n : Vec ℕ Global). name_state kind tree n.items) by ∙ reads ∙ ap (λ (i : ObjectId). states.Holds (id_of i)) (sym is), ap (λ (i : ObjectId). is_of_wrong_kind (kind_in facts (id_of i))) is ∙ other)
    go _ h = absurd h

-- why a log's text isn't one
pub log_causes : (A : Type 0) (kind : Kind) (facts : Facts) (tree : Tree) (path : Vec ℕ Global) (text : Bytes) (fault : LogFault) → is_log_place path.items ≡ true → file_at tree path.items ≡ Some text → HasFault kind text fault
    → HasCause A kind facts tree (log_error path fault)
log_causes A kind facts tree path text (logs.Bad number) place at h = record { text = text; place = place; stands = at; what = h }
log_causes A kind facts tree path text (logs.Long number) place at h = record { text = text; place = place; stands = at; what = h }
log_causes A kind facts tree path text logs.Memory place at h = tt

-- ---- strays

pub stray_file : (tree : Tree) (path : Bytes) → is_file_at tree path ≡ true → bytes_eq path head_place ≡ false → bytes_eq path packed_place ≡ false → is_lock_file path ≡ false → begins refs_front path ≡ false → is_log_place path ≡ false
    → IsStray tree path
stray_file tree path there head packed lock refs log = inl (there, or_from _ _ (or_from _ _ (or_from _ _ (or_from _ _ head packed) lock) refs) log)

-- ---- a file of packed names

pub fault_cause : (A : Type 0) (kind : Kind) (facts : Facts) (tree : Tree) (error : OpenError) → IsPackedFault kind (bytes_at tree packed_place) error → HasCause A kind facts tree error
fault_cause A kind facts tree (BadPacked number) h = h
fault_cause A kind facts tree Memory h = tt
fault_cause A kind facts tree _ h = absurd h

pub long_cause : (A : Type 0) (kind : Kind) (facts : Facts) (tree : Tree) (error : OpenError) → IsPackedCause A kind (bytes_at tree packed_place) error → HasCause A kind facts tree error
long_cause A kind facts tree (BadPacked number) h = h
long_cause A kind facts tree File h = h
long_cause A kind facts tree Memory h = tt
long_cause A kind facts tree _ h = absurd h

-- ---- names that collide

-- the error of two names that collide
pub collision_of : (A : Type 0) (kind : Kind) (tree : Tree) (folder name : Bytes) (error : OpenError) → IsCollisionOf folder name error → is_below folder name ≡ true → has_name kind tree folder ≡ true → IsCollision A kind tree name error
collision_of A kind tree folder name (Collides one other) (first, second) below has = (second, ap (λ f. is_below f name) first ∙ below, ap (has_name kind tree) first ∙ has)
collision_of A kind tree folder name Memory h below has = tt
collision_of A kind tree folder name _ h below has = absurd h

pub file_named : (kind : Kind) (tree : Tree) (name : Bytes) → is_name name ≡ true → is_file_at tree name ≡ true → has_name kind tree name ≡ true
file_named kind tree name named there = λ i. named i && (there i || has_record kind tree name)

pub private_file : (kind : Kind) (tree : Tree) (name : Bytes) → is_file_at tree name ≡ true → (is_file_at tree name || has_record kind tree name) ≡ true
private_file kind tree name there = ap (λ b. b || has_record kind tree name) there

-- if one exists that is a folder of this one, the two collide
pub collision_cause : (A : Type 0) (kind : Kind) (facts : Facts) (tree : Tree) (name : Bytes) (error : OpenError) → is_packed_text kind (bytes_at tree packed_place) ≡ true → is_private name ≡ false → has_name kind tree name ≡ true
    → IsCollision A kind tree name error → HasCause A kind facts tree error
collision_cause A kind facts tree name error good common there h = go error h
  where
    go : (error : OpenError) → IsCollision A kind tree name error → HasCause A kind facts tree error
    go (Collides one other) (is, below, stands) = (
      ap (is_below one.items) is ∙ below,
      stands_so kind tree one.items good (folder_common one.items name below common) stands,
      ap (λ n. is_absent (name_state kind tree n)) is ∙ stands_so kind tree name good common there,
    )
    go File h = h
    go Memory h = tt
    go _ h = absurd h

-- ---- a name's file

module _ (kind : Kind) (facts : Facts) (tree : Tree) (name text found : Bytes) (at : file_at tree name ≡ Some text) (named : is_name name ≡ true) (read : found ≡ bytes_at tree name) where
  read_as : (state : NameState) → loose_state kind found ≡ state → loose_state kind text ≡ state
  read_as state is = ap (loose_state kind) (sym (text_read tree name text found at read)) ∙ is

  pub state_is : (state : NameState) → loose_state kind found ≡ state → name_state kind tree name ≡ state
  state_is state is = state_read kind tree name text named at ∙ read_as state is

  -- a name that holds a commit or a tag is sound
  pub name_sound : {T E : Type 0} (id : Id) (r : Result T E) → is_private name ≡ false → IsApart kind tree name → loose_state kind found ≡ states.Holds id → OnOk r (IsTrue (may_be_held (kind_in facts id))) → OnOk r (IsSoundFile kind facts tree name text)
  name_sound id (Ok t) common apart holds held = inr (inr (inl (record { named = named; common = common; apart = apart; id = id; holds = read_as (states.Holds id) holds; held = held })))
  name_sound id (Err e) common apart holds held = held

  -- one that doesn't says why
  pub name_causes : {T : Type 0} (A : Type 0) (id : ObjectId) (holder : Vec ℕ Global) (r : Result T OpenError) → holder.items ≡ name → loose_state kind found ≡ states.Holds (id_of id)
      → IfErr r (IsUnheld (kind_in facts (id_of id)) id holder) → IfErr r (HasCause A kind facts tree)
  name_causes A id holder r is holds unheld = unheld_causes A kind facts tree id holder r (ap (name_state kind tree) is ∙ state_is (states.Holds (id_of id)) holds) unheld

-- ---- a log

pub log_sound : (kind : Kind) (facts : Facts) (tree : Tree) (path text found : Bytes) → is_log_place path ≡ true → has_name kind tree (log_name path) ≡ true → file_at tree path ≡ Some text → found ≡ bytes_at tree path → SpellsLog kind found
    → IsSoundFile kind facts tree path text
log_sound kind facts tree path text found place named at read log = inr (inr (inr (record { place = place; of_name = named; log = subst (SpellsLog kind) (text_read tree path text found at read) log })))

pub log_fault_causes : (A : Type 0) (kind : Kind) (facts : Facts) (tree : Tree) (path : Vec ℕ Global) (found : Bytes) (fault : LogFault) → is_log_place path.items ≡ true → is_file_at tree path.items ≡ true → found ≡ bytes_at tree path.items → HasFault kind found fault
    → HasCause A kind facts tree (log_error path fault)
log_fault_causes A kind facts tree path found fault place there read h = log_causes A kind facts tree path (bytes_at tree path.items) fault place (text_of tree path.items there) (subst (λ t. HasFault kind t fault) read h)
