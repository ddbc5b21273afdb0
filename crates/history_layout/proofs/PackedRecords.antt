-- What holds of the records of a `packed-refs` that was made of another one, or of all names.
use Rattle.std.proofs.Common.{◌≡◌, Bool, true, false, cond, not, ◌&&◌, List, [], ◌∷◌, map, refl, sym, ◌∙◌, ap, subst, Option, Some, None, option_map, unwrap_or, bytes_eq, MatchOption, IfSome, IsTrue}
use Rattle.std.specs.List.{list_any, list_all, AllByRecursion}
use Rattle.std.proofs.lemmas.Bool.{and_parts, or_parts}
use Rattle.std.proofs.lemmas.Option.{same_Some}
use Rattle.gix_hash.specs.Id.{Id}
use Rattle.gix_hash.specs.declared.kind.Kind.{Kind}
use Rattle.gix_ref_format.specs.Packed.{Record}
use Rattle.gix_ref_format.specs.PackedBuffer.{hit}
use Rattle.history_model.specs.Bytes.{Bytes, has_twice}
use Rattle.history_model.specs.Repository.{Repository, id_at, is_tag, peeled}
use Rattle.history_model.specs.Forms.{is_name, is_private}
use Rattle.history_model.specs.NameStates.{NameState, Holds, Absent, Faulty, packed_state, packed_text_state}
use Rattle.history_model.specs.PackedNames.{PackedFile, PackedAgrees, PeelAgrees, packed_file, is_packed_form}
use Rattle.history_model.proofs.PlaceLemmas.{one_text, text_itself}
use Rattle.history_layout.specs.Passing.{reads_as}
use Rattle.history_layout.specs.TakeSteps.{LacksName, LacksRecord}
use Rattle.history_layout.specs.PackSteps.{HasAllNames, PacksAll, record_for}

-- ---- records and what is found among them

abbrev pub name_in : Record → Bytes
name_in e = e.name

none_some : {A X : Type 0} {x : X} → None ≡ Some x → A
none_some e = cc

-- what holds of none of the names doesn't hold of one that is found
pub not_found : (p : Bytes → Bool) (records : List Record) (name : Bytes) (e : Record) → list_any p (map name_in records) ≡ false → hit records name ≡ Some e → p e.name ≡ false
not_found p [] name e none found = none_some found
not_found p (r ∷ records) name e none found =
    let parts = or_parts (p r.name) (list_any p (map name_in records)) none in go parts.0 (not_found p records name e parts.1) (bytes_eq r.name name) found
  where
    go : p r.name ≡ false → (hit records name ≡ Some e → p e.name ≡ false) → (b : Bool) → cond b (Some r) (hit records name) ≡ Some e → p e.name ≡ false
    go here rest true is = ap (λ (x : Record). p x.name) (sym (same_Some r e is)) ∙ here
    go here rest false is = rest is

-- what holds of all records holds of one that is found
pub all_found : (P : Record → Type 0) (records : List Record) (name : Bytes) (e : Record) → AllByRecursion P records → hit records name ≡ Some e → P e
all_found P [] name e all found = none_some found
all_found P (r ∷ records) name e all found = go (all_found P records name e all.1) (bytes_eq r.name name) found
  where
    go : (hit records name ≡ Some e → P e) → (b : Bool) → cond b (Some r) (hit records name) ≡ Some e → P e
    go rest true is = subst P (same_Some r e is) all.0
    go rest false is = rest is

-- if no name occurs twice, each is found by its name
pub all_by_finds : (P : Record → Type 0) (records : List Record) → has_twice bytes_eq (map name_in records) ≡ false → ((e : Record) → hit records e.name ≡ Some e → P e) → AllByRecursion P records
all_by_finds P [] once told = tt
all_by_finds P (r ∷ records) once told = (told r (ap (λ b. cond b (Some r) (hit records r.name)) (text_itself r.name)), all_by_finds P records parts.1 later)
  where
    parts : (list_any (bytes_eq r.name) (map name_in records) ≡ false) × (has_twice bytes_eq (map name_in records) ≡ false)
    parts = or_parts (list_any (bytes_eq r.name) (map name_in records)) (has_twice bytes_eq (map name_in records)) once

    later : (e : Record) → hit records e.name ≡ Some e → P e
    later e found = told e (ap (λ b. cond b (Some r) (hit records e.name)) (not_found (bytes_eq r.name) records e.name e parts.0 found) ∙ found)

not_true : (b : Bool) → not b ≡ true → b ≡ false
not_true true e = cc
not_true false e = refl

-- what is found has the name that was looked for
pub found_named : (records : List Record) (name : Bytes) (e : Record) → hit records name ≡ Some e → e.name ≡ name
found_named [] name e found = none_some found
found_named (r ∷ records) name e found = go (found_named records name e) (bytes_eq r.name name) refl found
  where
    go : (hit records name ≡ Some e → e.name ≡ name) → (b : Bool) → bytes_eq r.name name ≡ b → cond b (Some r) (hit records name) ≡ Some e → e.name ≡ name
    go rest true same is = ap (λ (x : Record). x.name) (sym (same_Some r e is)) ∙ one_text r.name name same
    go rest false apart is = rest is

pub form_once : (packed : PackedFile) → is_packed_form packed ≡ true → has_twice bytes_eq (map name_in packed.records) ≡ false
form_once packed formed =
    let names = map name_in packed.records in
    let named = not packed.returns && list_all is_name names in
    let three = and_parts (named && not (has_twice bytes_eq names) && not (list_any is_private names)) _ formed in
    let two = and_parts (named && not (has_twice bytes_eq names)) (not (list_any is_private names)) three.0 in
    not_true _ (and_parts named (not (has_twice bytes_eq names)) two.0).1

agrees_by_finds : (r : Repository) (packed : PackedFile) → is_packed_form packed ≡ true → ((e : Record) → hit packed.records e.name ≡ Some e → PeelAgrees r e) → PackedAgrees r packed
agrees_by_finds r packed formed told = (formed, all_by_finds (PeelAgrees r) packed.records (form_once packed formed) told)

-- ---- what a text says of a name

abbrev pub packed_read : Kind → Bytes → Option Bytes → NameState
packed_read kind name found = unwrap_or (option_map (packed_text_state kind name) found) Absent

-- what the record says that is found
abbrev says : Bytes → Option Record → NameState
says name found = cond (is_private name) Absent (unwrap_or (option_map (λ (e : Record). Holds e.target) found) Absent)

says_none : (name : Bytes) → says name None ≡ Absent
says_none name = go (is_private name)
  where
    go : (b : Bool) → cond b Absent Absent ≡ Absent
    go true = refl
    go false = refl

-- of a private name none says anything
pub private_read : (r : Repository) (name : Bytes) (found : Option Bytes) → is_private name ≡ true → ((text : Bytes) → found ≡ Some text → MatchOption (packed_file r.kind text) ⊥ (PackedAgrees r)) → packed_read r.kind name found ≡ Absent
private_read r name None private agrees = refl
private_read r name (Some text) private agrees = go (packed_file r.kind text) (agrees text refl)
  where
    go : (o : Option PackedFile) → MatchOption o ⊥ (PackedAgrees r) → unwrap_or (option_map (packed_state name) o) Faulty ≡ Absent
    go None h = absurd h
    go (Some packed) h = ap (λ b. cond b Absent (unwrap_or (option_map (λ (e : Record). Holds e.target) (hit packed.records name)) Absent)) private

-- ---- without a name's record

lacks_found : (name other : Bytes) (old new : Option PackedFile) → MatchOption old ⊥ (λ o. MatchOption new ⊥ (LacksName name o))
    → (b : Bool) → bytes_eq other name ≡ b → unwrap_or (option_map (packed_state other) new) Faulty ≡ cond b Absent (unwrap_or (option_map (packed_state other) old) Faulty)
lacks_found name other None new h b e = absurd h
lacks_found name other (Some old) None h b e = absurd h
lacks_found name other (Some old) (Some new) h true e = ap (says other) (h.each other ∙ ap (λ b. cond b None (hit old.records other)) e) ∙ says_none other
lacks_found name other (Some old) (Some new) h false e = ap (says other) (h.each other ∙ ap (λ b. cond b None (hit old.records other)) e)

pub lacks_own : (kind : Kind) (name : Bytes) (old new : Option Bytes) → LacksRecord kind name old new → packed_read kind name new ≡ Absent
lacks_own kind name None new h = ap (packed_read kind name) h
lacks_own kind name (Some text) None h = absurd h
lacks_own kind name (Some text) (Some new) h = lacks_found name name (packed_file kind text) (packed_file kind new) h true (text_itself name)

pub lacks_other : (kind : Kind) (name other : Bytes) (old new : Option Bytes) → bytes_eq other name ≡ false → LacksRecord kind name old new → packed_read kind other new ≡ packed_read kind other old
lacks_other kind name other None new apart h = ap (packed_read kind other) h
lacks_other kind name other (Some text) None apart h = absurd h
lacks_other kind name other (Some text) (Some new) apart h = lacks_found name other (packed_file kind text) (packed_file kind new) h false apart

lacks_agree : (r : Repository) (name : Bytes) (old new : Option PackedFile) → MatchOption old ⊥ (λ o. MatchOption new ⊥ (LacksName name o)) → MatchOption old ⊥ (PackedAgrees r) → MatchOption new ⊥ (PackedAgrees r)
lacks_agree r name None new h agrees = absurd h
lacks_agree r name (Some old) None h agrees = absurd h
lacks_agree r name (Some old) (Some new) h agrees = agrees_by_finds r new h.formed (λ e found. all_found (PeelAgrees r) old.records e.name e agrees.1 (go e (bytes_eq e.name name) (sym (h.each e.name) ∙ found)))
  where
    go : (e : Record) (b : Bool) → cond b None (hit old.records e.name) ≡ Some e → hit old.records e.name ≡ Some e
    go e true is = none_some is
    go e false is = is

pub lacks_agrees : (r : Repository) (name : Bytes) (old new : Option Bytes) → LacksRecord r.kind name old new → ((text : Bytes) → old ≡ Some text → MatchOption (packed_file r.kind text) ⊥ (PackedAgrees r))
    → (text : Bytes) → new ≡ Some text → MatchOption (packed_file r.kind text) ⊥ (PackedAgrees r)
lacks_agrees r name None new h agrees text is = none_some (sym h ∙ is)
lacks_agrees r name (Some old) None h agrees text is = absurd h
lacks_agrees r name (Some old) (Some new) h agrees text is =
    subst (λ t. MatchOption (packed_file r.kind t) ⊥ (PackedAgrees r)) (same_Some new text is) (lacks_agree r name (packed_file r.kind old) (packed_file r.kind new) h (agrees old refl))

-- ---- all names

abbrev record_with : Repository → Bytes → Id → Record
record_with r name id = record { name = name; target = id; peeled = cond (is_tag r id) (peeled r id) None }

record_says : (r : Repository) (name : Bytes) → says name (record_for r name) ≡ cond (is_private name) Absent (reads_as (id_at r name))
record_says r name = go (is_private name) (id_at r name)
  where
    go : (b : Bool) (o : Option Id) → cond b Absent (unwrap_or (option_map (λ (e : Record). Holds e.target) (cond b None (option_map (record_with r name) o))) Absent) ≡ cond b Absent (reads_as o)
    go true o = refl
    go false None = refl
    go false (Some id) = refl

pub all_read : (r : Repository) (name : Bytes) (found : Option Bytes) → PacksAll r found → packed_read r.kind name found ≡ cond (is_private name) Absent (reads_as (id_at r name))
all_read r name None h = sym (says_none name) ∙ ap (says name) (sym (h name)) ∙ record_says r name
all_read r name (Some text) h = go (packed_file r.kind text) h
  where
    go : (o : Option PackedFile) → MatchOption o ⊥ (HasAllNames r) → unwrap_or (option_map (packed_state name) o) Faulty ≡ cond (is_private name) Absent (reads_as (id_at r name))
    go None k = absurd k
    go (Some packed) k = ap (says name) (k.each name) ∙ record_says r name

record_agrees : (r : Repository) (e : Record) → record_for r e.name ≡ Some e → PeelAgrees r e
record_agrees r e is = by_id (is_private e.name) (id_at r e.name) is
  where
    by_tag : (id : Id) (b : Bool) → is_tag r id ≡ b → (o : Option Id) → peeled r id ≡ o → IfSome (cond b o None) (λ commit. IsTrue (is_tag r id) × (peeled r id ≡ Some commit))
    by_tag id true tag None at = tt
    by_tag id true tag (Some commit) at = (tag, at)
    by_tag id false tag o at = tt

    by_id : (b : Bool) (o : Option Id) → cond b None (option_map (record_with r e.name) o) ≡ Some e → PeelAgrees r e
    by_id true o same = none_some same
    by_id false None same = none_some same
    by_id false (Some id) same = subst (PeelAgrees r) (same_Some _ e same) (by_tag id (is_tag r id) refl (peeled r id) refl)

pub all_agree : (r : Repository) (found : Option Bytes) → PacksAll r found → (text : Bytes) → found ≡ Some text → MatchOption (packed_file r.kind text) ⊥ (PackedAgrees r)
all_agree r None h text is = none_some is
all_agree r (Some own) h text is = subst (λ t. MatchOption (packed_file r.kind t) ⊥ (PackedAgrees r)) (same_Some own text is) (go (packed_file r.kind own) h)
  where
    go : (o : Option PackedFile) → MatchOption o ⊥ (HasAllNames r) → MatchOption o ⊥ (PackedAgrees r)
    go None k = absurd k
    go (Some packed) k = agrees_by_finds r packed k.formed (λ e found. record_agrees r e (sym (k.each e.name) ∙ found))
