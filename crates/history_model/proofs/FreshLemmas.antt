-- A new folder represents a fresh repository, which is whole.
use Rattle.std.proofs.Common.{◌≡◌, Bool, true, false, cond, [], ◌∷◌, refl, sym, ◌∙◌, ap, subst, Option, Some, None, is_some, IsTrue, bytes_eq, codes, option_map, unwrap_or, map}
use Rattle.std.specs.FinMap.{get, empty, get-empty, get-insert, from_entries}
use Rattle.std.specs.Str.{is_utf8, chars}
use Rattle.std.specs.Char.{encode_utf8}
use Rattle.std.proofs.lemmas.Cmp.{nat_list_cmp_total}
use Rattle.std.proofs.lemmas.Map.Text.{is_eq-slice_cmp}
use Rattle.std.proofs.lemmas.Slice.Eq.{bytes_eq-Decides}
use Rattle.gix_ref_file.specs.Tree.{file, folder, bytes_of}
use Rattle.history_model.specs.Bytes.{Bytes, by_bytes}
use Rattle.history_model.specs.Objects.{by_id, Value, value_text}
use Rattle.gix_hash.specs.Id.{Id}
use Rattle.history_model.specs.Repository.{Reference, IsWhole, Reaches, named, by_way_of, fresh, moves_at}
use Rattle.history_model.specs.Forms.{is_name}
use Rattle.history_model.specs.Logs.{log_text}
use Rattle.history_model.specs.Places.{Pair, file_at, head_place, packed_place, object_place, log_place, is_name_place}
use Rattle.history_model.specs.NameStates.{NameState, Holds, Absent, name_state, packed_text_state, loose_state}
use Rattle.history_model.specs.StandsFor.{StandsFor, head_text, object_files}
use Rattle.history_model.specs.laws.Folders.{IsFresh, fresh_pair, FreshStands}
use Rattle.history_model.proofs.RowLemmas.{no_entries_by}
use Rattle.gix_hash.specs.declared.kind.Kind.{Kind}

some_none : {A X : Type 0} (x : X) → Some x ≡ None → A
some_none x e = cc

nothing : {A X : Type 0} (key : Bytes) (x : X) → get (empty {X = X} {R = by_bytes}) key ≡ Some x → A
nothing key x e = some_none x (sym e ∙ get-empty by_bytes key)

no_object : {A : Type 0} (id : Id) (value : Value) → get (empty {X = Value} {R = by_id}) id ≡ Some value → A
no_object id value e = some_none value (sym e ∙ get-empty by_id id)

reaches_nothing : (kind : Kind) {a b : Id} → Reaches (fresh kind) a b → ⊥
reaches_nothing kind (named {from = from} value at h) = no_object from value at
reaches_nothing kind (by_way_of mid first second) = reaches_nothing kind first

pub fresh_is_whole : (kind : Kind) → IsWhole (fresh kind)
fresh_is_whole kind = record {
  store = record {
    own_ids = λ id value at. no_object id value at;
    closed = λ id value at. no_object id value at;
    acyclic = λ id h. reaches_nothing kind h;
    null = get-empty by_id _;
    empty_tree = λ value at. no_object _ value at;
  };
  names = record {
    held = λ name id at. some_none id (sym at ∙ ap (option_map (λ ref. ref.id)) (get-empty by_bytes name));
    apart = λ a b h k. unfounded a h;
  };
}
  where
    unfounded : {A : Type 0} (a : Bytes) → is_some (get (empty {X = Reference} {R = by_bytes}) a) ≡ true → A
    unfounded a h = absurd (subst (λ o. IsTrue (is_some o) → ⊥) (sym (get-empty by_bytes a)) (λ k. cc) h)

main_text : Bytes
main_text = head_text (codes "refs/heads/main")

-- what the tree of the one file has at a path
at_path : (path : Bytes) → get (fresh_pair.names) path ≡ cond (bytes_eq path head_place) (Some (file main_text)) None
unfolding main_text
at_path path = get-insert nat_list_cmp_total empty head_place (file main_text) path
    ∙ ap (λ b. cond b (Some (file main_text)) (get (empty {R = by_bytes}) path)) (is_eq-slice_cmp path head_place)
    ∙ ap (cond (bytes_eq path head_place) (Some (file main_text))) (get-empty by_bytes path)

file_bytes : (b : Bool) → bytes_of (cond b (Some (file main_text)) None) ≡ cond b (Some main_text) None
file_bytes true = refl
file_bytes false = refl

file_at_path : (path : Bytes) → file_at (fresh_pair.names) path ≡ cond (bytes_eq path head_place) (Some main_text) None
file_at_path [] = refl
file_at_path (b ∷ path) = ap bytes_of (at_path (b ∷ path)) ∙ file_bytes (bytes_eq (b ∷ path) head_place)

pub fresh_is_fresh : IsFresh fresh_pair
unfolding main_text
fresh_is_fresh = record {
  objects = no_file;
  object_folders = λ path h. nothing path folder h;
  names = file_at_path;
  folders = λ path h. no_folder path (bytes_eq path head_place) refl h;
}
  where
    no_file : (path : Bytes) → file_at (fresh_pair.objects) path ≡ None
    no_file [] = refl
    no_file (b ∷ path) = ap bytes_of (get-empty by_bytes (b ∷ path))

    file_no_folder : {A : Type 0} → Some (file (head_text (codes "refs/heads/main"))) ≡ Some folder → A
    file_no_folder e = cc

    no_folder : {A : Type 0} (path : Bytes) (b : Bool) → bytes_eq path head_place ≡ b → get (fresh_pair.names) path ≡ Some folder → A
    no_folder path true e h = file_no_folder (sym (at_path path ∙ ap (λ b. cond b (Some (file (head_text (codes "refs/heads/main")))) None) e) ∙ h)
    no_folder path false e h = some_none folder (sym h ∙ at_path path ∙ ap (λ b. cond b (Some (file (head_text (codes "refs/heads/main")))) None) e)

module _ (kind : Kind) (pair : Pair) (h : IsFresh pair) where
  -- HEAD is no name, and there is no other file
  reads_absent : (name : Bytes) → name_state kind (pair.names) name ≡ Absent
  unfolding main_text
  reads_absent name = ap (λ packed. choose (is_name name) (file_at (pair.names) name) packed) no_packed ∙ alone (is_name name) refl
    where
      choose : Bool → Option Bytes → NameState → NameState
      choose known found packed = cond known (unwrap_or (option_map (loose_state kind) found) packed) Absent

      no_packed : unwrap_or (option_map (packed_text_state kind name) (file_at (pair.names) packed_place)) Absent ≡ Absent
      no_packed = ap (λ found. unwrap_or (option_map (packed_text_state kind name) found) Absent) (h.names packed_place)

      is_other : (b : Bool) → bytes_eq name head_place ≡ b → is_name name ≡ true → cond b (Some (head_text (codes "refs/heads/main"))) None ≡ None
      is_other false e known = refl
      is_other true e known = absurd (subst (λ n. is_name n ≡ true → ⊥) (sym ((bytes_eq-Decides name head_place).0 e)) (λ h. cc) known)

      alone : (b : Bool) → is_name name ≡ b → choose b (file_at (pair.names) name) Absent ≡ Absent
      alone false e = refl
      alone true e = ap (λ found. unwrap_or (option_map (loose_state kind) found) Absent) (h.names name ∙ is_other (bytes_eq name head_place) refl e)

  no_objects : (path : Bytes) → file_at (pair.objects) path ≡ get (object_files (fresh kind)) path
  no_objects path = h.objects path
      ∙ sym (ap (λ es. get (from_entries {R = by_bytes} (map (λ (e : Id × Value). (object_place e.0, value_text kind e.1)) es)) path) (no_entries_by {X = Value} by_id) ∙ get-empty by_bytes path)

  fresh_stands_for : StandsFor kind pair (fresh kind)
  fresh_stands_for = record {
    of_kind = refl;
    objects = no_objects;
    object_folders = h.object_folders;
    head = h.names head_place;
    names = λ name id. (
      λ e. absurd (subst (λ r. r ≡ Holds id → ⊥) (sym (reads_absent name)) (λ e. cc) e),
      λ at. some_none id (sym at ∙ ap (option_map (λ ref. ref.id)) (get-empty by_bytes name)),
    );
    logs = λ name. ap (λ found. unwrap_or found []) (h.names (log_place name)) ∙ sym (no_moves name);
    packed = λ text at. some_none text (sym at ∙ h.names packed_place);
    places = λ path text e. only_head path text (bytes_eq path head_place) refl e;
    folders = h.folders;
  }
    where
      no_moves : (name : Bytes) → log_text (moves_at (fresh kind) name) ≡ []
      no_moves name = ap (λ o. log_text (unwrap_or (option_map (λ (ref : Reference). ref.moves) o) [])) (get-empty by_bytes name)

      only_head : (path text : Bytes) (b : Bool) → bytes_eq path head_place ≡ b → file_at (pair.names) path ≡ Some text → is_name_place (fresh kind) path ≡ true
      only_head path text true e k = subst (λ p. is_name_place (fresh kind) p ≡ true) (sym ((bytes_eq-Decides path head_place).0 e)) refl
      only_head path text false e k = some_none text (sym k ∙ h.names path ∙ ap (λ b. cond b (Some (head_text (codes "refs/heads/main"))) None) e)

pub fresh_stands : FreshStands
unfolding is_utf8 chars encode_utf8
fresh_stands kind pair h = record {
  stands = fresh_stands_for kind pair h;
  written = record {
    branch = refl;
    names = λ name ref at. nothing name ref at;
    values = λ id value at. no_object id value at;
  };
  whole = fresh_is_whole kind;
}
