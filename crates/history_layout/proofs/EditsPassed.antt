-- What the names part holds while names move, in any order between them.
use Rattle.std.proofs.Common.{◌≡◌, ◌≢◌, ◌⊎◌, inl, inr, Bool, true, false, cond, not, ◌||◌, List, [], ◌∷◌, ◌++◌, map, take, refl, sym, ◌∙◌, ap, subst, Option, Some, None, option_map, unwrap_or, bytes_eq, reverse, MatchOption}
use Rattle.std.specs.List.{AllByRecursion, list_any, list_all}
use Rattle.std.proofs.lemmas.List.{append-nil}
use Rattle.std.proofs.lemmas.List.Folds.{list_any-append}
use Rattle.std.proofs.lemmas.Bool.{and_parts, or_parts}
use Rattle.gix_ref_file.specs.Tree.{Tree, bytes_at}
use Rattle.gix_hash.specs.Order.{id_eq}
use Rattle.gix_hash.specs.declared.kind.Kind.{Kind}
use Rattle.history_model.specs.Bytes.{Bytes, line}
use Rattle.history_model.specs.Objects.{hex}
use Rattle.history_model.specs.Repository.{Repository, Reference, LogEntry, id_at, moves_at}
use Rattle.history_model.specs.Forms.{IsWritten, is_name, is_log_entry}
use Rattle.history_model.specs.Commands.{Command, Rename}
use Rattle.history_model.specs.Meaning.{after, stored_by}
use Rattle.history_model.specs.Causes.{first_cause}
use Rattle.history_model.specs.Logs.{log_line, log_text, whole_lines}
use Rattle.history_model.specs.Stops.{deletes}
use Rattle.history_model.specs.Places.{Pair, file_at, head_place, packed_place, log_place, is_log_place, is_lock_file}
use Rattle.history_model.specs.NameStates.{NameState, Absent, is_absent, name_state}
use Rattle.history_model.specs.PackedNames.{PackedAgrees, packed_file}
use Rattle.history_model.specs.StandsFor.{StandsFor}
use Rattle.history_model.specs.laws.Wholeness.{IsSound}
use Rattle.history_layout.specs.Passing.{NamesOnTheWay, ReadsKept, log_in, reads_as}
use Rattle.history_model.proofs.IdLemmas.{one_id, apart_ids}
use Rattle.history_model.proofs.NameLemmas.{name-log, name-lock, log-lock}
use Rattle.history_model.proofs.PlaceLemmas.{one_text, apart_texts}
use Rattle.history_model.proofs.RecoveredLemmas.{all_whole}
use Rattle.history_model.proofs.WholeForms.{after_written, moves_formed}
use Rattle.history_model.proofs.WholeLists.{either}
use Rattle.history_model.proofs.WholeStores.{all_keep}
use Rattle.history_layout.proofs.TreeMoves.{packed_apart, packed_no_log, state_same, more_texts}
use Rattle.history_layout.proofs.PackedReads.{reads_begin}
use Rattle.history_layout.proofs.PassedStates.{names_begin}
use Rattle.history_layout.proofs.PassedStops.{packed_more}
use Rattle.history_layout.proofs.PackedRecords.{lacks_own, lacks_other, lacks_agrees, packed_read}
use Rattle.history_layout.proofs.Takings.{second, third, fourth, not_absent}
use Rattle.history_layout.proofs.TreePuts.{no_text}
use Rattle.history_layout.specs.RenameSteps.{held_id}
use Rattle.history_layout.specs.TakeSteps.{TakesRecord}
use Rattle.std.specs.Option.{option_to_list}
use Rattle.history_layout.proofs.EditedNames.{none_else, find_moved, zip, no_logs, no_names, other_logs, log_of_any, state_of, loose_same, state_kept, shown_moved}
use Rattle.history_layout.specs.EditSteps.{MovedName, renamed, moved_name, NameMoves, MovesTo, AreEditsOf, EditsOnTheWay, EditsPass, ShowsMove, MayRename, edited_names}
use Rattle.history_layout.proofs.PassedMoves.{none_whole, lines_then, whole_line, one_feed}

fifth : (a b c d e : Bool) → e ≡ true → (a || b || c || d || e) ≡ true
fifth true b c d e h = refl
fifth false true c d e h = refl
fifth false false true d e h = refl
fifth false false false true e h = refl
fifth false false false false e h = h

-- ---- a name that moves, whose state is as before if its file is

module _ (r : Repository) (command : Command) (pair : Pair) (tree : Tree) (s : StandsFor r.kind pair r) (written_then : IsWritten (after r command)) (m : MovedName) (to : MovesTo r command m) (way : NameMoves pair.names tree m)
    (kept_state : file_at tree m.name ≡ file_at pair.names m.name → name_state r.kind tree m.name ≡ name_state r.kind pair.names m.name) where
  abbrev stood : Tree
  stood = pair.names

  abbrev later : Repository
  later = after r command

  abbrev name : Bytes
  name = m.name

  abbrev entry : LogEntry
  entry = m.entry

  entry_formed : entry.before ≢ entry.after → is_log_entry r.kind entry ≡ true
  entry_formed differ =
      (and_parts (is_log_entry r.kind entry) (list_all (is_log_entry r.kind) (moves_at r name))
      (subst (λ ms. list_all (is_log_entry r.kind) ms ≡ true) (to.moved differ) (moves_formed later written_then name))).0

  reads_old : file_at tree name ≡ file_at stood name → name_state r.kind tree name ≡ reads_as (id_at r name)
  reads_old same = kept_state same ∙ reads_begin r pair s name

  reads_here : (name_state r.kind tree name ≡ reads_as (id_at r name)) ⊎ (name_state r.kind tree name ≡ reads_as (id_at later name))
  reads_here = elim way.here [
    | inl same ↦ inl (reads_old same)
    | inr moved ↦ inr (shown_moved r command written_then m to tree moved.0 ∙ ap reads_as (sym to.holds))
  ]

  old_text : bytes_at stood (log_place name) ≡ log_text (moves_at r name)
  old_text = s.logs name

  grown : (more : Bytes) → whole_lines (bytes_at stood (log_place name) ++ more) ≡ log_text (moves_at r name) ++ whole_lines more
  grown more = ap (λ t. whole_lines (t ++ more)) old_text ∙ lines_then (reverse (moves_at r name)) more

  full_log : entry.before ≢ entry.after → file_at tree (log_place name) ≡ Some (bytes_at stood (log_place name) ++ log_line entry) → log_in tree name ≡ log_text (moves_at later name)
  full_log differ full = ap (λ o. whole_lines (unwrap_or o [])) full ∙ grown (log_line entry) ∙ ap (λ t. log_text (moves_at r name) ++ t) (whole_line entry)
      ∙ sym (more_texts r name entry.after entry.actor entry.message (moves_at r name) entry) ∙ ap log_text (sym (to.moved differ))

  logs_here : (log_in tree name ≡ log_text (moves_at r name)) ⊎ (log_in tree name ≡ log_text (moves_at later name))
  logs_here = elim way.log [
    | inl same ↦ inl (ap (λ o. whole_lines (unwrap_or o [])) same ∙ ap whole_lines (s.logs name) ∙ all_whole (reverse (moves_at r name)))
    | inr (differ, (n, more)) ↦ elim (one_feed r.kind entry (entry_formed differ) n) [
      | inl cut ↦ inl (ap (λ o. whole_lines (unwrap_or o [])) more ∙ grown (take n (log_line entry)) ∙ ap (λ t. log_text (moves_at r name) ++ t) (none_whole (take n (log_line entry)) cut) ∙ append-nil (log_text (moves_at r name)))
      | inr all ↦ inr (full_log differ (more ∙ ap (λ t. Some (bytes_at stood (log_place name) ++ t)) all))
    ]
  ]

  first_here : (name_state r.kind tree name ≡ reads_as (id_at r name)) ⊎ (log_in tree name ≡ log_text (moves_at later name))
  first_here = elim way.here [
    | inl same ↦ inl (reads_old same)
    | inr moved ↦ elim (either (id_eq entry.before entry.after)) [
      | inl one ↦ inr (elim logs_here [
        | inl is ↦ is ∙ ap log_text (sym (to.unmoved (one_id entry.before entry.after one)))
        | inr is ↦ is
      ])
      | inr apart ↦ let differ : entry.before ≢ entry.after = λ same. apart_ids entry.before entry.after apart same in inr (full_log differ (moved.1 differ))
    ]
  ]

-- ---- places and states

is_place : Bytes → NameState → Bool
is_place path state = bytes_eq path head_place || bytes_eq path packed_place || is_lock_file path || is_log_place path || not (is_absent state)

named_by : (b : Bool) (x : NameState) → is_absent (cond b x Absent) ≡ false → b ≡ true
named_by true x e = refl
named_by false x e = cc

-- records are as before, or the name's file shows its move
abbrev Extra : Tree → Tree → MovedName → Type 0
Extra old tree m = (file_at tree packed_place ≡ file_at old packed_place) ⊎ ShowsMove tree m

kept_by : (kind : Kind) (old tree : Tree) (m : MovedName) → is_name m.name ≡ true → Extra old tree m → file_at tree m.name ≡ file_at old m.name → name_state kind tree m.name ≡ name_state kind old m.name
kept_by kind old tree m named (inl packed) same = state_same kind old tree m.name (λ n. same) packed
kept_by kind old tree m named (inr shows) same = loose_same kind old tree m.name (line (hex m.entry.after)) named (sym same ∙ shows) same

all_extra : (old tree : Tree) (moved : List MovedName) → file_at tree packed_place ≡ file_at old packed_place → AllByRecursion (Extra old tree) moved
all_extra t tree [] same = tt
all_extra t tree (m ∷ moved) same = (inl same, all_extra t tree moved same)

all_shown : (old tree : Tree) (moved : List MovedName) → AllByRecursion (ShowsMove tree) moved → AllByRecursion (Extra old tree) moved
all_shown t tree [] h = tt
all_shown t tree (m ∷ moved) h = (inr h.0, all_shown t tree moved h.1)

-- ---- what is known of the deleted name, if any

-- its state, its log and its record
record Told (r : Repository) (command : Command) (pair : Pair) (tree : Tree) (q : Bytes) : Type 0 where
  reads : (name_state r.kind tree q ≡ reads_as (id_at r q)) ⊎ (name_state r.kind tree q ≡ reads_as (id_at (after r command) q))
  logs : is_absent (name_state r.kind tree q) ≡ false → (log_in tree q ≡ log_text (moves_at r q)) ⊎ (log_in tree q ≡ log_text (moves_at (after r command) q)) ⊎ ((deletes command q ≡ true) × (log_in tree q ≡ []))
  log_first : is_absent (name_state r.kind tree q) ≡ false → (name_state r.kind tree q ≡ reads_as (id_at r q)) ⊎ (log_in tree q ≡ log_text (moves_at (after r command) q))
  place : (text : Bytes) → file_at tree q ≡ Some text → is_place q (name_state r.kind tree q) ≡ true

module _ (r : Repository) (command : Command) (moved : List MovedName) (taken : Option Bytes) (pair : Pair) (tree : Tree) (sound : IsSound r) (none : first_cause r command ≡ None) (s : StandsFor r.kind pair r)
    (are : AreEditsOf r command moved taken) (may : EditsOnTheWay r.kind moved taken pair.names tree)
    (extra : AllByRecursion (Extra pair.names tree) moved)
    (there : (q : Bytes) → list_any (bytes_eq q) (edited_names moved taken) ≡ false → name_state r.kind tree q ≡ name_state r.kind pair.names q)
    (gone : (q : Bytes) → list_any (bytes_eq q) (option_to_list taken) ≡ true → (is_name q ≡ true) × Told r command pair tree q)
    (agrees : (text : Bytes) → file_at tree packed_place ≡ Some text → MatchOption (packed_file r.kind text) ⊥ (PackedAgrees r))
    (kept : ReadsKept r command tree) where
  abbrev old : Tree
  old = pair.names

  abbrev new : Repository
  new = after r command

  abbrev names : List Bytes
  names = edited_names moved taken

  written_then : IsWritten new
  written_then = after_written r sound.whole sound.written command none

  all : AllByRecursion (λ m. (MovesTo r command m × NameMoves old tree m) × Extra old tree m) moved
  all = zip (λ m. MovesTo r command m × NameMoves old tree m) (Extra old tree) moved (zip (MovesTo r command) (NameMoves old tree) moved are.each may.each) extra

  told_moved : (m : MovedName) → (MovesTo r command m × NameMoves old tree m) × Extra old tree m → Told r command pair tree m.name
  unfolding is_place
  told_moved m ((to, way), more) =
      let state = kept_by r.kind old tree m to.named more in
      record {
        reads = reads_here r command pair tree s written_then m to way state;
        logs = λ held. elim (logs_here r command pair tree s written_then m to way state) [ inl is ↦ inl is | inr is ↦ inr (inl is) ];
        log_first = λ held. first_here r command pair tree s written_then m to way state;
        place = λ text stood. elim way.here [
          | inl same ↦ subst (λ x. is_place m.name x ≡ true) (sym (state same)) ((names_begin r command pair s).places m.name text (sym same ∙ stood))
          | inr is ↦ fifth (bytes_eq m.name head_place) (bytes_eq m.name packed_place) (is_lock_file m.name) (is_log_place m.name) (not (is_absent (name_state r.kind tree m.name)))
              (ap (λ x. not (is_absent x)) (shown_moved r command written_then m to tree is.0))
        ];
      }

  told : (q : Bytes) → list_any (bytes_eq q) names ≡ true → Told r command pair tree q
  told q e = elim (either (list_any (bytes_eq q) (map moved_name moved))) [
    | inl among ↦
        let one = find_moved (λ m. (MovesTo r command m × NameMoves old tree m) × Extra old tree m) moved q all among in
        subst (λ n. Told r command pair tree n) (sym one.1) (told_moved one.0 one.2)
    | inr apart ↦ (gone q (sym (ap (λ b. b || list_any (bytes_eq q) (option_to_list taken)) apart) ∙ sym (list_any-append (bytes_eq q) (map moved_name moved) (option_to_list taken)) ∙ e)).1
  ]

  not_named : (q : Bytes) → is_name q ≡ false → list_any (bytes_eq q) names ≡ false
  not_named q plain = elim (either (list_any (bytes_eq q) names)) [
    | inl e ↦ elim (either (list_any (bytes_eq q) (map moved_name moved))) [
      | inl among ↦ cc (sym among ∙ no_names (MovesTo r command) moved q (λ m to. to.named) are.each plain)
      | inr apart ↦ cc (sym plain ∙ (gone q (sym (ap (λ b. b || list_any (bytes_eq q) (option_to_list taken)) apart) ∙ sym (list_any-append (bytes_eq q) (map moved_name moved) (option_to_list taken)) ∙ e)).0)
    ]
    | inr e ↦ e
  ]

  log_old : (q : Bytes) → log_in old q ≡ log_text (moves_at r q)
  log_old q = ap whole_lines (s.logs q) ∙ all_whole (reverse (moves_at r q))

  log_there : (q : Bytes) → is_name q ≡ true → list_any (bytes_eq q) names ≡ false → log_in tree q ≡ log_text (moves_at r q)
  log_there q named apart =
      ap (λ o. whole_lines (unwrap_or o [])) (may.others (log_place q) (not_named (log_place q) (log_no_name (either (is_name (log_place q))))) (other_logs q names apart) (λ same. packed_no_log q (sym same)) (log-lock q named))
      ∙ log_old q
    where
      log_no_name : (is_name (log_place q) ≡ true) ⊎ (is_name (log_place q) ≡ false) → is_name (log_place q) ≡ false
      log_no_name (inl e) = absurd (cc (sym (name-log (log_place q) e)))
      log_no_name (inr e) = e

  places_now : (path text : Bytes) → file_at tree path ≡ Some text → is_place path (name_state r.kind tree path) ≡ true
  unfolding is_place
  places_now path text stood = go (list_any (bytes_eq path) names) refl (list_any (bytes_eq path) (map log_place names)) refl (bytes_eq path packed_place) refl (is_lock_file path) refl
    where
      go : (b : Bool) → list_any (bytes_eq path) names ≡ b → (c : Bool) → list_any (bytes_eq path) (map log_place names) ≡ c → (d : Bool) → bytes_eq path packed_place ≡ d → (l : Bool) → is_lock_file path ≡ l → is_place path (name_state r.kind tree path) ≡ true
      go true e c f d g l k = (told path e).place text stood
      go false e true f d g l k = fourth (bytes_eq path head_place) (bytes_eq path packed_place) (is_lock_file path) (is_log_place path) (not (is_absent (name_state r.kind tree path))) (log_of_any path names f)
      go false e false f true g l k = second (bytes_eq path head_place) (bytes_eq path packed_place) (is_lock_file path) (is_log_place path) (not (is_absent (name_state r.kind tree path))) g
      go false e false f false g true k = third (bytes_eq path head_place) (bytes_eq path packed_place) (is_lock_file path) (is_log_place path) (not (is_absent (name_state r.kind tree path))) k
      go false e false f false g false k = subst (λ state. is_place path state ≡ true) (sym (there path e))
          ((names_begin r command pair s).places path text (sym (may.others path e f (apart_texts path packed_place g) k) ∙ stood))

  way_of : NamesOnTheWay r command tree
  unfolding is_place
  way_of = record {
    head = inl (may.others head_place (not_named head_place refl) (no_logs head_place names refl) (λ same. cc) refl ∙ s.head);
    reads = λ q. elim (either (list_any (bytes_eq q) names)) [ inl e ↦ (told q e).reads | inr e ↦ inl (there q e ∙ reads_begin r pair s q) ];
    logs = λ q held. elim (either (list_any (bytes_eq q) names)) [ inl e ↦ (told q e).logs held | inr e ↦ inl (log_there q (named_by (is_name q) _ held) e) ];
    log_first = λ q held. elim (either (list_any (bytes_eq q) names)) [ inl e ↦ (told q e).log_first held | inr e ↦ inl (there q e ∙ reads_begin r pair s q) ];
    packed = λ text at. packed_more r new (λ q v h. all_keep r.kind r.objects (stored_by r command) q v h) (packed_file r.kind text) (agrees text at);
    places = places_now;
    folders = may.folders;
    not_lost = kept;
  }

-- ---- none goes

none_goes : (r : Repository) (command : Command) (moved : List MovedName) (pair : Pair) (tree : Tree) → IsSound r → first_cause r command ≡ None → StandsFor r.kind pair r → AreEditsOf r command moved None → EditsOnTheWay r.kind moved None pair.names tree → NamesOnTheWay r command tree
none_goes r command moved pair tree sound none s are may =
    way_of r command moved None pair tree sound none s are may (all_extra pair.names tree moved may.gone)
    (λ q apart. state_same r.kind pair.names tree q (λ named. may.others q apart (no_logs q (edited_names moved None) (name-log q named)) (λ same. packed_apart q named (sym same)) (name-lock q named)) may.gone)
    (λ q e. cc) (λ text at. s.packed text (sym may.gone ∙ at)) (no_rename command are.renaming)
  where
    no_rename : (c : Command) → MayRename r c moved None → ReadsKept r c tree
    no_rename (Rename from to) h = cc
    no_rename c h = tt

-- ---- one goes

module _ (r : Repository) (command : Command) (moved : List MovedName) (name : Bytes) (pair : Pair) (tree : Tree) (sound : IsSound r) (none : first_cause r command ≡ None) (s : StandsFor r.kind pair r)
    (are : AreEditsOf r command moved (Some name)) (may : EditsOnTheWay r.kind moved (Some name) pair.names tree) where
  is_one : is_name name ≡ true
  is_one = are.gone.named

  packed_there : (q : Bytes) → bytes_eq q name ≡ false → packed_read r.kind q (file_at tree packed_place) ≡ packed_read r.kind q (file_at pair.names packed_place)
  packed_there q apart = elim may.gone.packed [
    | inl same ↦ ap (packed_read r.kind q) same
    | inr h ↦ lacks_other r.kind name q (file_at pair.names packed_place) (file_at tree packed_place) apart h.1
  ]

  apart_name : (q : Bytes) → list_any (bytes_eq q) (edited_names moved (Some name)) ≡ false → bytes_eq q name ≡ false
  apart_name q e =
      let parts = or_parts (list_any (bytes_eq q) (map moved_name moved)) (bytes_eq q name || false) (sym (list_any-append (bytes_eq q) (map moved_name moved) (name ∷ [])) ∙ e) in
      (or_parts (bytes_eq q name) false parts.1).0

  there : (q : Bytes) → list_any (bytes_eq q) (edited_names moved (Some name)) ≡ false → name_state r.kind tree q ≡ name_state r.kind pair.names q
  there q e = state_kept r.kind pair.names tree q
      (λ named. may.others q e (no_logs q (edited_names moved (Some name)) (name-log q named)) (λ same. packed_apart q named (sym same)) (name-lock q named))
      (packed_there q (apart_name q e))

  state_gone : file_at tree name ≡ None → TakesRecord r.kind name pair.names tree → name_state r.kind tree name ≡ Absent
  state_gone none_here took = state_of r.kind tree name None is_one none_here ∙ lacks_own r.kind name (file_at pair.names packed_place) (file_at tree packed_place) took

  state_here : (name_state r.kind tree name ≡ name_state r.kind pair.names name) ⊎ (name_state r.kind tree name ≡ Absent)
  state_here = elim may.gone.here [
    | inl same ↦ elim may.gone.packed [
      | inl packed ↦ inl (state_same r.kind pair.names tree name (λ n. same) packed)
      | inr took ↦ by_file (file_at pair.names name) refl same took.1
    ]
    | inr h ↦ inr (state_gone h.0 h.2)
  ]
    where
      by_file : (o : Option Bytes) → file_at pair.names name ≡ o → file_at tree name ≡ file_at pair.names name → TakesRecord r.kind name pair.names tree
          → (name_state r.kind tree name ≡ name_state r.kind pair.names name) ⊎ (name_state r.kind tree name ≡ Absent)
      by_file None e same took = inr (state_gone (same ∙ e) took)
      by_file (Some text) e same took = inl (loose_same r.kind pair.names tree name text is_one e same)

  told_gone : Told r command pair tree name
  unfolding is_place
  told_gone = record {
    reads = elim state_here [ inl same ↦ inl (same ∙ reads_begin r pair s name) | inr is ↦ inr (is ∙ sym (ap (λ o. reads_as (option_map (λ (ref : Reference). ref.id) o)) are.gone.gone)) ];
    logs = λ held. elim may.gone.log [
      | inl same ↦ inl (ap (λ o. whole_lines (unwrap_or o [])) same ∙ ap whole_lines (s.logs name) ∙ all_whole (reverse (moves_at r name)))
      | inr h ↦ inr (inr (are.gone.deleted, ap (λ o. whole_lines (unwrap_or o [])) h))
    ];
    log_first = λ held. elim state_here [ inl same ↦ inl (same ∙ reads_begin r pair s name) | inr is ↦ not_absent (name_state r.kind tree name) is held ];
    place = λ text stood. elim may.gone.here [
      | inl same ↦ subst (λ x. is_place name x ≡ true) (sym (loose_same r.kind pair.names tree name text is_one (sym same ∙ stood) same)) ((names_begin r command pair s).places name text (sym same ∙ stood))
      | inr h ↦ no_text h.0 stood
    ];
  }

  gone : (q : Bytes) → list_any (bytes_eq q) (name ∷ []) ≡ true → (is_name q ≡ true) × Told r command pair tree q
  gone q e = elim (either (bytes_eq q name)) [
    | inl same ↦ let one = one_text q name same in subst (λ n. (is_name n ≡ true) × Told r command pair tree n) (sym one) (is_one, told_gone)
    | inr apart ↦ cc (sym (none_else q name false apart e))
  ]

  extra : AllByRecursion (Extra pair.names tree) moved
  extra = elim may.gone.order [ inl yet ↦ all_extra pair.names tree moved yet.1 | inr shown ↦ all_shown pair.names tree moved shown ]

  agrees : (text : Bytes) → file_at tree packed_place ≡ Some text → MatchOption (packed_file r.kind text) ⊥ (PackedAgrees r)
  agrees text stood = elim may.gone.packed [
    | inl same ↦ s.packed text (sym same ∙ stood)
    | inr h ↦ lacks_agrees r name (file_at pair.names packed_place) (file_at tree packed_place) h.1 s.packed text stood
  ]

  kept_all : (c : Command) → c ≡ command → MayRename r c moved (Some name) → ReadsKept r c tree
  kept_all (Rename from to) is h =
      let same : name ≡ from = ap (λ o. unwrap_or o []) h.goes in
      elim may.gone.order [
        | inl yet ↦ inl (subst (λ n. name_state r.kind tree n ≡ reads_as (id_at r n)) same (state_same r.kind pair.names tree name (λ n. yet.2) yet.1 ∙ reads_begin r pair s name))
        | inr shown ↦ inr (new_shows (subst (λ (ms : List MovedName). AllByRecursion (ShowsMove tree) ms) h.comes shown) (subst (λ (ms : List MovedName). AllByRecursion (MovesTo r command) ms) h.comes are.each) h.held)
      ]
    where
      new_shows : AllByRecursion (ShowsMove tree) (renamed r from to ∷ []) → AllByRecursion (MovesTo r command) (renamed r from to ∷ []) → id_at r from ≡ Some (held_id r from) → name_state r.kind tree to ≡ reads_as (id_at r from)
      new_shows shows moves held = shown_moved r command (after_written r sound.whole sound.written command none) (renamed r from to) moves.0 tree shows.0 ∙ ap reads_as (sym held)
  kept_all c is h = tt

  one_goes : NamesOnTheWay r command tree
  one_goes = way_of r command moved (Some name) pair tree sound none s are may extra there gone agrees (kept_all command refl are.renaming)

pub edits_pass : EditsPass
edits_pass r command moved None pair tree sound none s are may = none_goes r command moved pair tree sound none s are may
edits_pass r command moved (Some name) pair tree sound none s are may = one_goes r command moved name pair tree sound none s are may
