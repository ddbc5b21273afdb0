-- What the names part holds after all edits of a command.
use Rattle.std.proofs.Common.{◌≡◌, inl, inr, Bool, true, false, ◌&&◌, ◌||◌, List, [], ◌++◌, map, refl, sym, ◌∙◌, ap, subst, Option, Some, None, option_map, is_some, unwrap_or, bytes_eq, codes, MatchOption}
use Rattle.std.specs.List.{list_any}
use Rattle.std.specs.Option.{option_to_list}
use Rattle.std.specs.FinMap.{get}
use Rattle.std.proofs.lemmas.Bool.{or_parts}
use Rattle.std.proofs.lemmas.List.Folds.{list_any-append}
use Rattle.gix_ref_file.specs.Tree.{Tree}
use Rattle.gix_hash.specs.Id.{Id}
use Rattle.gix_hash.specs.Order.{id_eq}
use Rattle.history_model.specs.Bytes.{Bytes}
use Rattle.history_model.specs.Repository.{Repository, Reference, id_at, moves_at, stands}
use Rattle.history_model.specs.Forms.{IsWritten, is_name}
use Rattle.history_model.specs.Commands.{Command}
use Rattle.history_model.specs.Meaning.{after, stored_by}
use Rattle.history_model.specs.Causes.{first_cause}
use Rattle.history_model.specs.Logs.{log_line, log_text}
use Rattle.history_model.specs.Places.{file_at, head_place, packed_place, log_place, log_name, is_log_place, is_name_place}
use Rattle.history_model.specs.NameStates.{Holds, name_state}
use Rattle.history_model.specs.PackedNames.{PackedAgrees, packed_file}
use Rattle.history_model.specs.StandsFor.{head_text}
use Rattle.history_model.specs.laws.Wholeness.{IsSound}
use Rattle.history_model.proofs.IdLemmas.{one_id, apart_ids}
use Rattle.history_model.proofs.NameLemmas.{name-log}
use Rattle.history_model.proofs.PlaceLemmas.{one_text, apart_texts}
use Rattle.history_model.proofs.WholeForms.{after_written}
use Rattle.history_model.proofs.WholeLists.{either}
use Rattle.history_model.proofs.WholePaths.{begins_parts}
use Rattle.history_model.proofs.WholeStores.{all_keep}
use Rattle.history_layout.specs.TreeHalves.{HoldsNames}
use Rattle.history_layout.specs.Passing.{reads_as}
use Rattle.history_layout.specs.EditSteps.{MovedName, moved_name, NameMoved, NameGone, HasGone, EditsMade, MovesTo, TakesAway, MayTake, AreEditsOf, EditsStand, edited_names}
use Rattle.history_layout.proofs.EditedNames.{none_else, find_moved, zip, no_logs, other_logs, state_of, state_kept, shown_moved}
use Rattle.history_layout.proofs.PackedRecords.{lacks_own, lacks_other, lacks_agrees, packed_read}
use Rattle.history_layout.proofs.PassedStops.{packed_more}
use Rattle.history_layout.proofs.Takings.{place_left}
use Rattle.history_layout.proofs.TreeMoves.{packed_apart, packed_no_log, more_texts}
use Rattle.history_layout.proofs.TreePuts.{no_text}

-- what a name that reads so holds
reads_told : (o : Option Id) (id : Id) → (reads_as o ≡ Holds id → o ≡ Some id) × (o ≡ Some id → reads_as o ≡ Holds id)
reads_told None id = (λ e. cc, λ e. cc)
reads_told (Some x) id = (λ e. cc, λ e. ap reads_as e)

stands_by : (o : Option Reference) (id : Id) → option_map (λ (ref : Reference). ref.id) o ≡ Some id → is_some o ≡ true
stands_by None id e = cc
stands_by (Some ref) id e = refl

second : (a b c d : Bool) → b ≡ true → (a || b || c || d) ≡ true
second true b c d e = refl
second false true c d e = refl
second false false c d e = cc

third : (a b c d : Bool) → c ≡ true → (a || b || c || d) ≡ true
third true b c d e = refl
third false true c d e = refl
third false false true d e = refl
third false false false d e = cc

fourth : (a b c d e : Bool) → d ≡ true → e ≡ true → (a || b || c || (d && e)) ≡ true
fourth true b c d e h k = refl
fourth false true c d e h k = refl
fourth false false true d e h k = refl
fourth false false false true true h k = refl
fourth false false false true false h k = cc
fourth false false false false e h k = cc

-- what the files say of a name after the command
record Stood (r : Repository) (command : Command) (new : Tree) (q : Bytes) : Type 0 where
  reads : name_state r.kind new q ≡ reads_as (id_at (after r command) q)
  log : unwrap_or (file_at new (log_place q)) [] ≡ log_text (moves_at (after r command) q)
  place : (text : Bytes) → file_at new q ≡ Some text → stands (after r command) q ≡ true
  log_stands : (text : Bytes) → file_at new (log_place q) ≡ Some text → stands (after r command) q ≡ true

module _ (r : Repository) (command : Command) (moved : List MovedName) (taken : Option Bytes) (old new : Tree) (sound : IsSound r) (none : first_cause r command ≡ None) (h : HoldsNames old r)
    (are : AreEditsOf r command moved taken) (made : EditsMade r.kind moved taken old new) where
  abbrev later : Repository
  later = after r command

  abbrev names : List Bytes
  names = edited_names moved taken

  written_then : IsWritten later
  written_then = after_written r sound.whole sound.written command none

  -- ---- a name that moved

  moved_log : (m : MovedName) → MovesTo r command m → NameMoved old new m → unwrap_or (file_at new (log_place m.name)) [] ≡ log_text (moves_at later m.name)
  moved_log m to way = elim (either (id_eq m.entry.before m.entry.after)) [
    | inl one ↦
        let same = one_id m.entry.before m.entry.after one in
        ap (λ o. unwrap_or o []) (way.unmoved same) ∙ h.logs m.name ∙ ap log_text (sym (to.unmoved same))
    | inr apart ↦
        let differ : m.entry.before ≡ m.entry.after → ⊥ = λ same. apart_ids m.entry.before m.entry.after apart same in
        ap (λ o. unwrap_or o []) (way.appended differ) ∙ ap (λ t. t ++ log_line m.entry) (h.logs m.name)
        ∙ sym (more_texts r m.name m.entry.after m.entry.actor m.entry.message (moves_at r m.name) m.entry) ∙ ap log_text (sym (to.moved differ))
  ]

  moved_stood : (m : MovedName) → MovesTo r command m × NameMoved old new m → Stood r command new m.name
  moved_stood m (to, way) =
      let there = stands_by (get later.names m.name) m.entry.after to.holds in
      record {
        reads = shown_moved r command written_then m to new way.here ∙ ap reads_as (sym to.holds);
        log = moved_log m to way;
        place = λ text at. there;
        log_stands = λ text at. there;
      }

  -- ---- the name that is gone

  gone_stood : (name : Bytes) → TakesAway r command moved name → NameGone r.kind name old new → Stood r command new name
  gone_stood name takes way = record {
    reads = state_of r.kind new name None takes.named way.here ∙ lacks_own r.kind name (file_at old packed_place) (file_at new packed_place) way.packed
        ∙ sym (ap (λ o. reads_as (option_map (λ (ref : Reference). ref.id) o)) takes.gone);
    log = ap (λ o. unwrap_or o []) way.log ∙ sym (ap (λ o. log_text (unwrap_or (option_map (λ (ref : Reference). ref.moves) o) [])) takes.gone);
    place = λ text at. no_text way.here at;
    log_stands = λ text at. no_text way.log at;
  }

  taken_stood : (t : Option Bytes) → MayTake r command moved t → HasGone r.kind t old new → (q : Bytes) → list_any (bytes_eq q) (option_to_list t) ≡ true → (is_name q ≡ true) × Stood r command new q
  taken_stood None takes way q e = cc
  taken_stood (Some name) takes way q e = elim (either (bytes_eq q name)) [
    | inl same ↦ subst (λ n. (is_name n ≡ true) × Stood r command new n) (sym (one_text q name same)) (takes.named, gone_stood name takes way)
    | inr apart ↦ cc (sym (none_else q name false apart e))
  ]

  -- ---- each name of the edits

  of_taken : (q : Bytes) → list_any (bytes_eq q) names ≡ true → list_any (bytes_eq q) (map moved_name moved) ≡ false → list_any (bytes_eq q) (option_to_list taken) ≡ true
  of_taken q e apart = sym (ap (λ b. b || list_any (bytes_eq q) (option_to_list taken)) apart) ∙ sym (list_any-append (bytes_eq q) (map moved_name moved) (option_to_list taken)) ∙ e

  edited : (q : Bytes) → list_any (bytes_eq q) names ≡ true → (is_name q ≡ true) × Stood r command new q
  edited q e = elim (either (list_any (bytes_eq q) (map moved_name moved))) [
    | inl among ↦
        let one = find_moved (λ m. MovesTo r command m × NameMoved old new m) moved q (zip (MovesTo r command) (NameMoved old new) moved are.each made.each) among in
        subst (λ n. (is_name n ≡ true) × Stood r command new n) (sym one.1) (one.2.0.named, moved_stood one.0 one.2)
    | inr apart ↦ taken_stood taken are.gone made.gone q (of_taken q e apart)
  ]

  not_edited : (q : Bytes) → is_name q ≡ false → list_any (bytes_eq q) names ≡ false
  not_edited q plain = elim (either (list_any (bytes_eq q) names)) [
    | inl e ↦ cc (sym plain ∙ (edited q e).0)
    | inr e ↦ e
  ]

  -- ---- each other name

  packed_there : (t : Option Bytes) → HasGone r.kind t old new → (q : Bytes) → list_any (bytes_eq q) (option_to_list t) ≡ false
      → packed_read r.kind q (file_at new packed_place) ≡ packed_read r.kind q (file_at old packed_place)
  packed_there None same q e = ap (packed_read r.kind q) same
  packed_there (Some name) way q e = lacks_other r.kind name q (file_at old packed_place) (file_at new packed_place) (or_parts (bytes_eq q name) false e).0 way.packed

  file_there : (q : Bytes) → is_name q ≡ true → list_any (bytes_eq q) names ≡ false → file_at new q ≡ file_at old q
  file_there q named e = made.others q e (no_logs q names (name-log q named)) (λ same. packed_apart q named (sym same))

  state_there : (q : Bytes) → list_any (bytes_eq q) names ≡ false → name_state r.kind new q ≡ name_state r.kind old q
  state_there q e = state_kept r.kind old new q (λ named. file_there q named e) (packed_there taken made.gone q
      (or_parts (list_any (bytes_eq q) (map moved_name moved)) (list_any (bytes_eq q) (option_to_list taken)) (sym (list_any-append (bytes_eq q) (map moved_name moved) (option_to_list taken)) ∙ e)).1)

  no_name : (q : Bytes) → is_name (log_place q) ≡ false
  no_name q = elim (either (is_name (log_place q))) [ inl e ↦ absurd (cc (sym (name-log (log_place q) e))) | inr e ↦ e ]

  log_there : (q : Bytes) → list_any (bytes_eq q) names ≡ false → file_at new (log_place q) ≡ file_at old (log_place q)
  log_there q e = made.others (log_place q) (not_edited (log_place q) (no_name q)) (other_logs q names e) (λ same. packed_no_log q (sym same))

  -- ---- all of it

  names_told : (q : Bytes) (id : Id) → (name_state r.kind new q ≡ Holds id → id_at later q ≡ Some id) × (id_at later q ≡ Some id → name_state r.kind new q ≡ Holds id)
  names_told q id = elim (either (list_any (bytes_eq q) names)) [
    | inl e ↦
        let told = (edited q e).1.reads in
        (λ k. (reads_told (id_at later q) id).0 (sym told ∙ k), λ k. told ∙ (reads_told (id_at later q) id).1 k)
    | inr e ↦
        let same = ap (option_map (λ (ref : Reference). ref.id)) (are.others q e) in
        (λ k. same ∙ (h.names q id).0 (sym (state_there q e) ∙ k), λ k. state_there q e ∙ (h.names q id).1 (sym same ∙ k))
  ]

  logs_told : (q : Bytes) → unwrap_or (file_at new (log_place q)) [] ≡ log_text (moves_at later q)
  logs_told q = elim (either (list_any (bytes_eq q) names)) [
    | inl e ↦ (edited q e).1.log
    | inr e ↦ ap (λ o. unwrap_or o []) (log_there q e) ∙ h.logs q ∙ ap (λ o. log_text (unwrap_or (option_map (λ (ref : Reference). ref.moves) o) [])) (sym (are.others q e))
  ]

  packed_told : (t : Option Bytes) → HasGone r.kind t old new → (text : Bytes) → file_at new packed_place ≡ Some text → MatchOption (packed_file r.kind text) ⊥ (PackedAgrees r)
  packed_told None same text at = h.packed text (sym same ∙ at)
  packed_told (Some name) way text at = lacks_agrees r name (file_at old packed_place) (file_at new packed_place) way.packed h.packed text at

  still_stands : (q : Bytes) → list_any (bytes_eq q) names ≡ false → stands r q ≡ true → stands later q ≡ true
  still_stands q e there = ap is_some (are.others q e) ∙ there

  places_told : (path text : Bytes) → file_at new path ≡ Some text → is_name_place later path ≡ true
  places_told path text at = go (list_any (bytes_eq path) names) refl (bytes_eq path packed_place) refl (is_log_place path) refl
    where
      at_log : is_log_place path ≡ true → path ≡ log_place (log_name path)
      at_log e = begins_parts (codes "logs/") path e

      other : list_any (bytes_eq path) names ≡ false → bytes_eq path packed_place ≡ false → list_any (bytes_eq path) (map log_place names) ≡ false → (is_log_place path ≡ true → list_any (bytes_eq (log_name path)) names ≡ false)
          → is_name_place later path ≡ true
      other e f k apart =
          place_left (bytes_eq path head_place) (bytes_eq path packed_place) (stands r path) (is_log_place path) (stands r (log_name path)) (stands later path) (stands later (log_name path))
          (still_stands path e) (λ is_log. still_stands (log_name path) (apart is_log)) (h.places path text (sym (made.others path e k (apart_texts path packed_place f)) ∙ at))

      go : (b : Bool) → list_any (bytes_eq path) names ≡ b → (c : Bool) → bytes_eq path packed_place ≡ c → (d : Bool) → is_log_place path ≡ d → is_name_place later path ≡ true
      go true e c f d g = third (bytes_eq path head_place) (bytes_eq path packed_place) (stands later path) (is_log_place path && stands later (log_name path)) ((edited path e).1.place text at)
      go false e true f d g = second (bytes_eq path head_place) (bytes_eq path packed_place) (stands later path) (is_log_place path && stands later (log_name path)) f
      go false e false f false g = other e f (no_logs path names g) (λ is_log. cc (sym is_log ∙ g))
      go false e false f true g = elim (either (list_any (bytes_eq (log_name path)) names)) [
        | inl among ↦ fourth (bytes_eq path head_place) (bytes_eq path packed_place) (stands later path) (is_log_place path) (stands later (log_name path)) g
            ((edited (log_name path) among).1.log_stands text (ap (file_at new) (sym (at_log g)) ∙ at))
        | inr apart ↦ other e f (ap (λ t. list_any (bytes_eq t) (map log_place names)) (at_log g) ∙ other_logs (log_name path) names apart) (λ is_log. apart)
      ]

  stood : HoldsNames new later
  stood = record {
    head = made.others head_place (not_edited head_place refl) (no_logs head_place names refl) (λ same. cc) ∙ h.head ∙ ap (λ b. Some (head_text b)) (sym are.branch);
    names = names_told;
    logs = logs_told;
    packed = λ text at. packed_more r later (λ q v k. all_keep r.kind r.objects (stored_by r command) q v k) (packed_file r.kind text) (packed_told taken made.gone text at);
    places = places_told;
    folders = made.folders;
  }

pub edits_stand : EditsStand
edits_stand r command moved taken old new sound none h are made = stood r command moved taken old new sound none h are made
