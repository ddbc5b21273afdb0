-- The names of a repository, as the references of gix_ref.
use Rattle.std.proofs.Common.{◌≡◌, Bool, true, false, cond, ◌&&◌, List, [], ◌++◌, drop, refl, sym, ◌∙◌, ap, subst, Option, Some, None, option_map, unwrap_or, codes}
use Rattle.std.specs.Prelude.{option_and_then}
use Rattle.std.proofs.lemmas.Bool.{and_parts}
use Rattle.gix_ref_file.specs.Tree.{Tree}
use Rattle.gix_hash.specs.Id.{Id}
use Rattle.gix_hash.specs.declared.kind.Kind.{Kind}
use Rattle.gix_object_lines.specs.NameTest.{is_partial_name, is_full_name}
use Rattle.gix_ref_name.specs.Targets.{ToObject}
use Rattle.gix_ref_format.specs.Lookup.{packed_hit, is_own}
use Rattle.gix_ref_format.specs.Packed.{Record}
use Rattle.gix_ref_format.specs.PackedBuffer.{KeepsFile, hit}
use Rattle.gix_ref_store.specs.Places.{place}
use Rattle.gix_ref_store.specs.Places as store
use Rattle.gix_ref_store.specs.RefStates.{RefState, Stands, Absent, read_by, packed_state}
use Rattle.history_model.specs.Bytes.{Bytes, begins}
use Rattle.history_model.specs.Forms.{is_name, is_private}
use Rattle.history_model.specs.NameStates as names
use Rattle.history_model.specs.NameStates.{Holds, Symbolic, Faulty, loose_line, loose_state}
use Rattle.history_model.specs.PackedNames.{id_from_hex, packed_with, whole_line}
use Rattle.history_model.specs.Places.{file_at, packed_place}
use Rattle.history_model.specs.Repository.{Repository, id_at}
use Rattle.history_model.proofs.FormatLemmas.{records_alike, loose_reads_alike}
use Rattle.history_model.proofs.WholePaths.{begins_parts}
use Rattle.history_layout.specs.Passing.{reads_as}
use Rattle.history_layout.specs.TreeHalves.{HoldsNames}
use Rattle.history_layout.proofs.EditedNames.{state_of}
use Rattle.history_layout.proofs.FullNames.{full_of}
use Rattle.history_layout.proofs.PackedReads.{reads_held}
use Rattle.history_layout.proofs.PackedRecords.{packed_read}
use Rattle.history_edits.specs.Bridges.{root_base, StandsInPlace, NamesStandInPlace, ReadsAs, ReadsWhole}

-- ---- places

one_home : (b : Bool) (h : store.Home) → cond b h h ≡ h
one_home true h = refl
one_home false h = refl

-- what begins with `refs/`
below : (kind : Kind) (rest : Bytes) → StandsInPlace kind (codes "refs/" ++ rest)
below kind rest =
    let h : store.Home = record { folder = []; path = codes "refs/" ++ rest } in
    record {
      file = ap store.place_in (one_home (is_own (codes "refs/" ++ rest)) h);
      log = ap store.log_place_in (one_home (is_own (codes "refs/" ++ rest)) h);
    }

pub names_stand_in_place : NamesStandInPlace
names_stand_in_place kind name h =
    let front = (and_parts (is_partial_name name) (begins (codes "refs/") name) (and_parts _ _ (and_parts _ _ h).0).0).1 in
    subst (StandsInPlace kind) (sym (begins_parts (codes "refs/") name front)) (below kind (drop 5 name))

-- ---- a name's own file

line_stands : {A : Type 0} (b : Bool) (o : Option Id) (name : Bytes) → cond b (Symbolic name) (unwrap_or (option_map Holds o) Faulty) ≡ names.Absent → A
line_stands true o name e = cc
line_stands false None name e = cc
line_stands false (Some id) name e = cc

-- a file never reads as absent
pub file_stands : {A : Type 0} (kind : Kind) (text : Bytes) → loose_state kind text ≡ names.Absent → A
file_stands {A = A} kind text e = go (whole_line text) e
  where
    go : (o : Option Bytes) → unwrap_or (option_map (loose_line kind) o) Faulty ≡ names.Absent → A
    go None f = cc
    go (Some line) f = line_stands (begins (codes "ref: ") line && is_name (drop 5 line)) (id_from_hex kind line) (drop 5 line) f

own_told : (kind : Kind) (text : Bytes) (held : Option Id) (packed : RefState) → loose_state kind text ≡ reads_as held → ReadsAs held (read_by kind (Some text) packed)
own_told kind text None packed e = file_stands kind text e
own_told kind text (Some id) packed e = (None, ap (Rattle.gix_ref_store.specs.RefStates.loose_state text) ((loose_reads_alike kind text).0 id e))

-- ---- its record

record_told : (private : Bool) (name : Bytes) (found : Option Record) (held : Option Id) → cond private names.Absent (unwrap_or (option_map (λ (e : Record). Holds e.target) found) names.Absent) ≡ reads_as held
    → ReadsAs held (packed_state (option_and_then (λ (n : Bytes). found) (cond private None (Some name))))
record_told true name found None e = refl
record_told true name found (Some id) e = cc
record_told false name None None e = refl
record_told false name None (Some id) e = cc
record_told false name (Some one) None e = cc
record_told false name (Some one) (Some id) e = (one.peeled, ap (λ x. Stands (ToObject x) one.peeled) (same_held one.target id e))
  where
    same_held : (a b : Id) → Holds a ≡ Holds b → a ≡ b
    same_held a b e = cc

kept_told : (kind : Kind) (name : Bytes) (file : Option Bytes) (kept : Option (List Record)) (held : Option Id) → is_name name ≡ true → KeepsFile kind file kept → packed_read kind name file ≡ reads_as held
    → ReadsAs held (packed_state (packed_hit (unwrap_or kept []) name))
kept_told kind name None None held named keeps e =
    subst (λ key. ReadsAs held (packed_state (option_and_then (hit []) key))) (sym (records_alike name named)) (go (is_private name) held e)
  where
    go : (private : Bool) (o : Option Id) → names.Absent ≡ reads_as o → ReadsAs o (packed_state (option_and_then (hit []) (cond private None (Some name))))
    go true None e = refl
    go false None e = refl
    go private (Some id) e = cc
kept_told kind name None (Some kept) held named keeps e = absurd keeps
kept_told kind name (Some text) None held named keeps e = absurd keeps
kept_told kind name (Some text) (Some kept) held named keeps e =
    subst (λ key. ReadsAs held (packed_state (option_and_then (hit kept) key))) (sym (records_alike name named))
    (by_kind (is_private name) (sym (ap (λ (rs : Option (List Record)). unwrap_or (option_map (names.packed_state name) (option_map (packed_with text) rs)) Faulty) keeps.1) ∙ e))
  where
    by_kind : (private : Bool) → cond private names.Absent (unwrap_or (option_map (λ (e : Record). Holds e.target) (hit keeps.0 name)) names.Absent) ≡ reads_as held
        → ReadsAs held (packed_state (option_and_then (hit kept) (cond private None (Some name))))
    by_kind true e = record_told true name None held e
    by_kind false e = subst (λ o. ReadsAs held (packed_state o)) (sym (keeps.2.first name)) (record_told false name (hit keeps.0 name) held e)

-- ---- both

module _ (r : Repository) (tree : Tree) (kept : Option (List Record)) (name : Bytes) (h : HoldsNames tree r) (keeps : KeepsFile r.kind (file_at tree packed_place) kept) (named : is_name name ≡ true) where
  told : (own : Option Bytes) → file_at tree name ≡ own → ReadsAs (id_at r name) (read_by r.kind own (packed_state (packed_hit (unwrap_or kept []) name)))
  told (Some text) e = own_told r.kind text (id_at r name) (packed_state (packed_hit (unwrap_or kept []) name)) (sym (state_of r.kind tree name (Some text) named e) ∙ reads_held r tree h name)
  told None e = kept_told r.kind name (file_at tree packed_place) kept (id_at r name) named keeps (sym (state_of r.kind tree name None named e) ∙ reads_held r tree h name)

  reads : ReadsAs (id_at r name) (cond (is_full_name name) (read_by r.kind (file_at tree (place (root_base r.kind) name)) (packed_state (packed_hit (unwrap_or kept []) name))) Absent)
  reads = subst (λ (t : Bool × Bytes). ReadsAs (id_at r name) (cond t.0 (read_by r.kind (file_at tree t.1) (packed_state (packed_hit (unwrap_or kept []) name))) Absent))
      (λ i. (sym (full_of name named) i, sym (names_stand_in_place r.kind name named).file i)) (told (file_at tree name) refl)

pub reads_whole : ReadsWhole
reads_whole r tree kept name h keeps named = reads r tree kept name h keeps named
