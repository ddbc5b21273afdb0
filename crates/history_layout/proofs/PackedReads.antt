-- What names read as in a tree that represents a repository: the id that each holds, and the others
-- as absent, whatever is packed.
use Rattle.std.proofs.Common.{◌≡◌, ◌⊎◌, inl, inr, Bool, true, false, cond, not, ◌&&◌, ◌||◌, refl, sym, ◌∙◌, ap, subst, Option, Some, None, option_map, is_some, unwrap_or, bytes_eq, MatchOption, find}
use Rattle.std.specs.FinMap.{get}
use Rattle.gix_ref_file.specs.Tree.{Tree}
use Rattle.gix_ref_format.specs.Packed.{Record}
use Rattle.gix_hash.specs.Id.{Id}
use Rattle.history_model.specs.Bytes.{Bytes}
use Rattle.history_model.specs.Repository.{Repository, Reference, id_at, stands}
use Rattle.history_model.specs.Forms.{is_name, is_private}
use Rattle.history_model.specs.NameStates.{NameState, Holds, Symbolic, Absent, Faulty, loose_state, packed_state, packed_text_state, name_state}
use Rattle.history_model.specs.PackedNames.{PackedFile, PackedAgrees, packed_file}
use Rattle.history_model.specs.Places.{Pair, file_at, head_place, packed_place, log_name, is_log_place}
use Rattle.history_model.specs.StandsFor.{StandsFor}
use Rattle.history_layout.specs.Passing.{reads_as}
use Rattle.history_layout.specs.TreeHalves.{HoldsNames}
use Rattle.history_model.proofs.NameLemmas.{name-log}
use Rattle.history_model.proofs.RecoveredLemmas.{some_is}
use Rattle.history_model.proofs.WholeLists.{either, same_text}
use Rattle.history_layout.proofs.TreeMoves.{head_apart, packed_apart}

-- an id or nothing
abbrev IsPlain : NameState → Type 0
IsPlain r = ((id : Id) × (r ≡ Holds id)) ⊎ (r ≡ Absent)

plain_record : (b : Bool) (o : Option Record) → IsPlain (cond b Absent (unwrap_or (option_map (λ found. Holds found.target) o) Absent))
plain_record true o = inr refl
plain_record false None = inr refl
plain_record false (Some found) = inl (found.target, refl)

-- a file at a name's place is that name's
name_file : (a b here log there : Bool) → a ≡ false → b ≡ false → log ≡ false → (a || b || here || (log && there)) ≡ true → here ≡ true
name_file true b here log there e f g k = cc
name_file false true here log there e f g k = cc
name_file false false true log there e f g k = refl
name_file false false false true there e f g k = cc
name_file false false false false there e f g k = cc

module _ (old : Repository) (tree : Tree) (s : HoldsNames tree old) where
  held_in : (name : Bytes) → stands old name ≡ true → (id : Id) × (name_state old.kind tree name ≡ Holds id)
  held_in name e = let found = some_is (get old.names name) e in (found.0.id, (s.names name found.0.id).1 (ap (option_map (λ (ref : Reference). ref.id)) found.1))

  plain_packed : (name : Bytes) (o : Option Bytes) → file_at tree packed_place ≡ o → IsPlain (unwrap_or (option_map (packed_text_state old.kind name) o) Absent)
  plain_packed name None e = inr refl
  plain_packed name (Some text) e = go (packed_file old.kind text) (s.packed text e)
    where
      go : (o : Option PackedFile) → MatchOption o ⊥ (PackedAgrees old) → IsPlain (unwrap_or (option_map (packed_state name) o) Faulty)
      go None h = absurd h
      go (Some packed) h = plain_record (is_private name) (find (λ found. bytes_eq found.name name) packed.records)

  plain_begin : (name : Bytes) → IsPlain (name_state old.kind tree name)
  plain_begin name = go (is_name name) refl (file_at tree name) refl
    where
      go : (b : Bool) → is_name name ≡ b → (o : Option Bytes) → file_at tree name ≡ o → IsPlain (name_state old.kind tree name)
      go false e o f = inr (ap (λ b. cond b (unwrap_or (option_map (loose_state old.kind) (file_at tree name)) (unwrap_or (option_map (packed_text_state old.kind name) (file_at tree packed_place)) Absent)) Absent) e)
      go true e None f =
          subst IsPlain (sym (ap (λ b. cond b (unwrap_or (option_map (loose_state old.kind) (file_at tree name)) (unwrap_or (option_map (packed_text_state old.kind name) (file_at tree packed_place)) Absent)) Absent) e
          ∙ ap (λ o. unwrap_or (option_map (loose_state old.kind) o) (unwrap_or (option_map (packed_text_state old.kind name) (file_at tree packed_place)) Absent)) f))
          (plain_packed name (file_at tree packed_place) refl)
      go true e (Some text) f = inl (held_in name (name_file (bytes_eq name head_place) (bytes_eq name packed_place) (stands old name) (is_log_place name) (stands old (log_name name))
          (apart head_place (head_apart name e)) (apart packed_place (packed_apart name e)) (name-log name e) (s.places name text f)))
        where
          apart : (place : Bytes) → (place ≡ name → ⊥) → bytes_eq name place ≡ false
          apart place differ = elim (either (bytes_eq name place)) [
            | inl k ↦ absurd (differ (sym (same_text name place k)))
            | inr k ↦ k
          ]

  pub reads_held : (name : Bytes) → name_state old.kind tree name ≡ reads_as (id_at old name)
  reads_held name = elim (plain_begin name) [
    | inl (id, e) ↦ e ∙ ap reads_as (sym ((s.names name id).0 e))
    | inr e ↦ go (id_at old name) refl e
  ]
    where
      go : (o : Option Id) → id_at old name ≡ o → name_state old.kind tree name ≡ Absent → name_state old.kind tree name ≡ reads_as (id_at old name)
      go None k e = e ∙ ap reads_as (sym k)
      go (Some id) k e = (s.names name id).1 k ∙ ap reads_as (sym k)

abbrev pub names_half : (r : Repository) (pair : Pair) → StandsFor r.kind pair r → HoldsNames pair.names r
names_half r pair s = record { head = s.head; names = s.names; logs = s.logs; packed = s.packed; places = s.places; folders = s.folders }

pub held : (r : Repository) (pair : Pair) → StandsFor r.kind pair r → (name : Bytes) → stands r name ≡ true → (id : Id) × (name_state r.kind pair.names name ≡ Holds id)
held r pair s name e = held_in r pair.names (names_half r pair s) name e

pub reads_begin : (r : Repository) (pair : Pair) → StandsFor r.kind pair r → (name : Bytes) → name_state r.kind pair.names name ≡ reads_as (id_at r name)
reads_begin r pair s name = reads_held r pair.names (names_half r pair s) name
