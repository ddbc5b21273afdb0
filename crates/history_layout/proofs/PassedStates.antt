-- What the names part holds, once recovered, while names move: by what the names read as.
use Rattle.std.proofs.Common.{◌≡◌, ◌⊎◌, inl, inr, Bool, true, false, cond, not, ◌&&◌, ◌||◌, List, [], ◌∷◌, ◌++◌, refl, sym, ◌∙◌, ap, subst, Option, Some, None, option_map, is_some, unwrap_or, bytes_eq, MatchOption, reverse, find}
use Rattle.std.specs.List.{list_any}
use Rattle.std.specs.FinMap.{entries, keys, get, get-empty, insert, empty}
use Rattle.gix_ref_file.specs.Tree.{Tree, Node, file, folder}
use Rattle.history_model.specs.Bytes.{Bytes, by_bytes}
use Rattle.history_model.specs.FileMap.{is_below}
use Rattle.gix_hash.specs.Id.{Id}
use Rattle.history_model.specs.Repository.{Repository, Reference, LogEntry, id_at, moves_at, stands}
use Rattle.history_model.specs.Forms.{is_name, is_private}
use Rattle.history_model.specs.Commands.{Command, Rename}
use Rattle.history_model.specs.CommandParts.{targets}
use Rattle.history_model.specs.Meaning.{References, after, stored_by}
use Rattle.history_model.specs.Causes.{first_cause}
use Rattle.history_model.specs.Logs.{log_text, whole_lines}
use Rattle.history_model.specs.PackedNames.{PackedFile, PackedAgrees, packed_file}
use Rattle.gix_ref_format.specs.Packed.{Record}
use Rattle.history_model.specs.Places.{Pair, file_at, head_place, packed_place, log_place, is_log_place, log_name, is_lock_file, is_name_place}
use Rattle.history_model.specs.NameStates.{NameState, Holds, Symbolic, Absent, Faulty, is_absent, loose_state, packed_state, packed_text_state, name_state}
use Rattle.history_model.specs.Recovery.{is_leftover, is_deserted, recovered_files, recovered_names, recovered_node}
use Rattle.history_model.specs.StandsFor.{StandsFor, head_text}
use Rattle.history_layout.specs.TreeHalves.{HoldsNames}
use Rattle.history_model.specs.Stops.{NameBetween, IsNotLost, deletes}
use Rattle.history_layout.specs.Passing.{HoldsBetween, NamesBegin, NamesOnTheWay, NamesPass, ReadsKept, log_in, passing, reads_as}
use Rattle.history_model.specs.laws.Wholeness.{IsSound}
use Rattle.history_model.proofs.NameLemmas.{log-lock, name-log}
use Rattle.history_model.proofs.RecoveryLemmas.{recovery_keeps, recovery_reads, file_kept, get-recovered_files, get-recovered_names}
use Rattle.history_layout.proofs.PassedStops.{packed_more}
use Rattle.history_model.proofs.RecoveredLemmas.{all_whole, some_is}
use Rattle.history_layout.proofs.TreeMoves.{head_apart, packed_apart}
use Rattle.history_model.proofs.WholeLists.{In, in_left, in_right, in_map, either, same_text, text_itself, texts_differ, passes_one}
use Rattle.history_model.proofs.WholeNames.{names_from, apart_after}
use Rattle.history_model.proofs.WholeStores.{all_keep, get_in}
use Rattle.history_layout.proofs.PassedMoves.{gone_too, stays}
use Rattle.history_layout.proofs.PackedReads.{held, reads_begin}
use Rattle.history_layout.proofs.PassedNames.{some_id}
use Rattle.std.proofs.lemmas.Option.{same_Some}
use Rattle.history_model.proofs.AfterFirstLemmas.{get-with}

-- ---- names from a choice for each

abbrev with_one : Bytes → Option Reference → References → References
with_one k None m = m
with_one k (Some ref) m = insert m k ref

abbrev built : (Bytes → Option Reference) → List Bytes → References
built choose [] = empty
built choose (k ∷ ks) = with_one k (choose k) (built choose ks)

none_both : (b : Bool) (o : Option Reference) → o ≡ None → cond b o None ≡ o
none_both true o e = refl
none_both false o e = sym e

get_built : (choose : Bytes → Option Reference) (ks : List Bytes) (q : Bytes) → get (built choose ks) q ≡ cond (list_any (bytes_eq q) ks) (choose q) None
get_built choose [] q = get-empty by_bytes q
get_built choose (k ∷ ks) q = go (choose k) refl (bytes_eq q k) refl (get_built choose ks q)
  where
    go : (o : Option Reference) → choose k ≡ o → (b : Bool) → bytes_eq q k ≡ b → get (built choose ks) q ≡ cond (list_any (bytes_eq q) ks) (choose q) None
        → get (with_one k o (built choose ks)) q ≡ cond (b || list_any (bytes_eq q) ks) (choose q) None
    go None e true f rest = rest ∙ none_both (list_any (bytes_eq q) ks) (choose q) (ap choose (same_text q k f) ∙ e)
    go None e false f rest = rest
    go (Some ref) e true f rest = get-with (built choose ks) k ref q ∙ ap (λ b. cond b (Some ref) (get (built choose ks) q)) f ∙ sym (ap choose (same_text q k f) ∙ e)
    go (Some ref) e false f rest = get-with (built choose ks) k ref q ∙ ap (λ b. cond b (Some ref) (get (built choose ks) q)) f ∙ rest

-- ---- states of names

-- the id that a state holds
abbrev id_in : NameState → Option Id
id_in (Holds id) = Some id
id_in (Symbolic name) = None
id_in Absent = None
id_in Faulty = None

id_read_as : (o : Option Id) → id_in (reads_as o) ≡ o
id_read_as None = refl
id_read_as (Some id) = refl

id_in_holds : (r : NameState) (id : Id) → id_in r ≡ Some id → r ≡ Holds id
id_in_holds (Holds i) id e = ap Holds (same_Some i id e)
id_in_holds (Symbolic name) id e = cc
id_in_holds Absent id e = cc
id_in_holds Faulty id e = cc

-- what reads as an id is a name
named : (b : Bool) (x : NameState) (id : Id) → cond b x Absent ≡ Holds id → b ≡ true
named true x id e = refl
named false x id e = cc

-- ---- logs

-- those of these two lists of moves whose text it is
abbrev pick : Bytes → List LogEntry → List LogEntry → List LogEntry
pick text new old = cond (bytes_eq text (log_text new)) new (cond (bytes_eq text (log_text old)) old [])

module _ (text : Bytes) (new old : List LogEntry) where
  picks_new : bytes_eq text (log_text new) ≡ true → pick text new old ≡ new
  picks_new e = ap (λ b. cond b new (cond (bytes_eq text (log_text old)) old [])) e

  picks_old : bytes_eq text (log_text new) ≡ false → bytes_eq text (log_text old) ≡ true → pick text new old ≡ old
  picks_old e f = ap (λ b. cond b new (cond (bytes_eq text (log_text old)) old [])) e ∙ ap (λ b. cond b old []) f

  picks_none : bytes_eq text (log_text new) ≡ false → bytes_eq text (log_text old) ≡ false → pick text new old ≡ []
  picks_none e f = ap (λ b. cond b new (cond (bytes_eq text (log_text old)) old [])) e ∙ ap (λ b. cond b old []) f

  module _ (deleted : Bool) (h : (text ≡ log_text old) ⊎ (text ≡ log_text new) ⊎ ((deleted ≡ true) × (text ≡ []))) where
    picked : (text ≡ log_text (pick text new old)) × ((pick text new old ≡ old) ⊎ (pick text new old ≡ new) ⊎ ((deleted ≡ true) × (pick text new old ≡ [])))
    picked = elim (either (bytes_eq text (log_text new))) [
      | inl e ↦ (same_text text (log_text new) e ∙ ap log_text (sym (picks_new e)), inr (inl (picks_new e)))
      | inr e ↦ elim (either (bytes_eq text (log_text old))) [
        | inl f ↦ (same_text text (log_text old) f ∙ ap log_text (sym (picks_old e f)), inl (picks_old e f))
        | inr f ↦ elim h [
          | inl k ↦ texts_differ text (log_text old) f k
          | inr (inl k) ↦ texts_differ text (log_text new) e k
          | inr (inr k) ↦ (k.1 ∙ ap log_text (sym (picks_none e f)), inr (inr (k.0, picks_none e f)))
        ]
      ]
    ]

whole_or_none : (o : Option Bytes) → unwrap_or (option_map whole_lines o) [] ≡ whole_lines (unwrap_or o [])
whole_or_none None = refl
whole_or_none (Some text) = refl

no_moves : (r : Repository) (name : Bytes) → id_at r name ≡ None → moves_at r name ≡ []
no_moves r name e = go (get r.names name) e
  where
    go : (o : Option Reference) → option_map (λ (ref : Reference). ref.id) o ≡ None → unwrap_or (option_map (λ (ref : Reference). ref.moves) o) [] ≡ []
    go None e = refl
    go (Some ref) e = cc

-- ---- what is left of a file

stood_so : (f : Bytes → Bytes) (o : Option Bytes) (b : Bool) (text : Bytes) → cond (is_some o && b) None (option_map f o) ≡ Some text → (b ≡ false) × ((t : Bytes) × (o ≡ Some t))
stood_so f None b text e = cc
stood_so f (Some t) true text e = cc
stood_so f (Some t) false text e = (refl, (t, refl))

place_so : (a b lock log here there : Bool) → (lock || (log && there)) ≡ false → (a || b || lock || log || not here) ≡ true → (a || b || not here || (log && not there)) ≡ true
place_so true b lock log here there h k = refl
place_so false true lock log here there h k = refl
place_so false false true log here there h k = cc
place_so false false false true here true h k = cc
place_so false false false true true false h k = refl
place_so false false false true false false h k = refl
place_so false false false false true there h k = cc
place_so false false false false false there h k = refl

in_keys : (m : References) (q : Bytes) → is_some (get m q) ≡ true → In q (keys m)
in_keys m q h = let ref = some_is (get m q) h in in_map (λ (e : Bytes × Reference). e.0) (q, ref.0) (entries m) (get_in m q ref.0 ref.1)

kept : (old : Repository) (command : Command) (tree : Tree) (x : Repository) → ((name : Bytes) → (o : Option Id) → name_state old.kind tree name ≡ reads_as o → id_at x name ≡ o) → ReadsKept old command tree → IsNotLost old command x
kept old (Rename from to) tree x told h = elim h [
  | inl e ↦ inl (told from (id_at old from) e)
  | inr e ↦ inr (told to (id_at old from) e)
]
kept old command tree x told h = tt

-- ---- on the way

module _ (old : Repository) (command : Command) (tree : Tree) (sound : IsSound old) (none : first_cause old command ≡ None) (way : NamesOnTheWay old command tree) where
  abbrev new : Repository
  new = after old command

  abbrev now : Tree
  now = recovered_names old.kind tree

  -- each name holds an id or is absent
  plain : (name : Bytes) → ((id : Id) × (name_state old.kind tree name ≡ Holds id)) ⊎ (name_state old.kind tree name ≡ Absent)
  plain name = elim (way.reads name) [
    | inl e ↦ from (id_at old name) e
    | inr e ↦ from (id_at new name) e
  ]
    where
      from : (o : Option Id) → name_state old.kind tree name ≡ reads_as o → ((id : Id) × (name_state old.kind tree name ≡ Holds id)) ⊎ (name_state old.kind tree name ≡ Absent)
      from None e = inr e
      from (Some id) e = inl (id, e)

  abbrev moves_told : Bytes → List LogEntry
  moves_told name = pick (log_in tree name) (moves_at new name) (moves_at old name)

  -- what a name holds that reads so
  abbrev chosen_by : Bytes → NameState → Option Reference
  chosen_by name (Holds id) = Some (record { id = id; moves = moves_told name })
  chosen_by name (Symbolic to) = None
  chosen_by name Absent = None
  chosen_by name Faulty = None

  abbrev chosen : Bytes → Option Reference
  chosen name = chosen_by name (name_state old.kind tree name)

  abbrev known : List Bytes
  known = keys old.names ++ keys new.names

  abbrev names : References
  names = built chosen known

  -- a name that holds an id exists before or after
  held_known : (name : Bytes) (id : Id) → name_state old.kind tree name ≡ Holds id → In name known
  held_known name id e = elim (way.reads name) [
    | inl h ↦ in_left name (keys old.names) (keys new.names) (in_keys old.names name (there old h))
    | inr h ↦ in_right name (keys old.names) (keys new.names) (in_keys new.names name (there new h))
  ]
    where
      there : (r : Repository) → name_state old.kind tree name ≡ reads_as (id_at r name) → is_some (get r.names name) ≡ true
      there r h = sym (some_id (get r.names name)) ∙ ap is_some (sym (id_read_as (id_at r name)) ∙ ap id_in (sym h ∙ e))

  got : (name : Bytes) → get names name ≡ chosen name
  got name = get_built chosen known name ∙ elim (plain name) [
    | inl (id, e) ↦ ap (λ b. cond b (chosen name) None) (passes_one (bytes_eq name) known name (held_known name id e) (text_itself name))
    | inr e ↦ none_both (list_any (bytes_eq name) known) (chosen name) (ap (chosen_by name) e)
  ]

  branch_now : (branch : Bytes) × (file_at now head_place ≡ Some (head_text branch)) × ((branch ≡ old.branch) ⊎ (branch ≡ new.branch))
  branch_now = elim way.head [
    | inl e ↦ (old.branch, file_kept old.kind tree head_place refl refl ∙ e, inl refl)
    | inr e ↦ (new.branch, file_kept old.kind tree head_place refl refl ∙ e, inr refl)
  ]

  abbrev x : Repository
  x = passing old command names branch_now.0

  id_now : (name : Bytes) → id_at x name ≡ id_in (name_state old.kind tree name)
  id_now name = ap (option_map (λ (ref : Reference). ref.id)) (got name) ∙ go (name_state old.kind tree name)
    where
      go : (r : NameState) → option_map (λ (ref : Reference). ref.id) (chosen_by name r) ≡ id_in r
      go (Holds id) = refl
      go (Symbolic to) = refl
      go Absent = refl
      go Faulty = refl

  id_told : (name : Bytes) (o : Option Id) → name_state old.kind tree name ≡ reads_as o → id_at x name ≡ o
  id_told name o e = id_now name ∙ ap id_in e ∙ id_read_as o

  stands_now : (name : Bytes) → stands x name ≡ not (is_absent (name_state old.kind tree name))
  stands_now name = ap is_some (got name) ∙ elim (plain name) [
    | inl (id, e) ↦ ap (λ r. is_some (chosen_by name r)) e ∙ sym (ap (λ r. not (is_absent r)) e)
    | inr e ↦ ap (λ r. is_some (chosen_by name r)) e ∙ sym (ap (λ r. not (is_absent r)) e)
  ]

  moves_held : (name : Bytes) (id : Id) → name_state old.kind tree name ≡ Holds id → moves_at x name ≡ moves_told name
  moves_held name id e = ap (λ o. unwrap_or (option_map (λ (ref : Reference). ref.moves) o) []) (got name ∙ ap (chosen_by name) e)

  moves_gone : (name : Bytes) → name_state old.kind tree name ≡ Absent → moves_at x name ≡ []
  moves_gone name e = ap (λ o. unwrap_or (option_map (λ (ref : Reference). ref.moves) o) []) (got name ∙ ap (chosen_by name) e)

  -- ---- the files

  logs_now : (name : Bytes) → unwrap_or (file_at now (log_place name)) [] ≡ log_text (moves_at x name)
  logs_now name = elim (plain name) [
    | inl (id, e) ↦
        ap (λ o. unwrap_or o []) (recovery_keeps old.kind tree (log_place name)
        ∙ stays whole_lines (file_at tree (log_place name)) (is_lock_file (log_place name)) (is_absent (name_state old.kind tree name)) (log-lock name (named (is_name name) _ id e)) (ap is_absent e))
        ∙ whole_or_none (file_at tree (log_place name))
        ∙ (picked (log_in tree name) (moves_at new name) (moves_at old name) (deletes command name) (way.logs name (ap is_absent e))).0
        ∙ ap log_text (sym (moves_held name id e))
    | inr e ↦
        ap (λ o. unwrap_or o []) (recovery_keeps old.kind tree (log_place name)
        ∙ gone_too whole_lines (file_at tree (log_place name)) (is_lock_file (log_place name)) (is_absent (name_state old.kind tree name)) (ap is_absent e))
        ∙ ap log_text (sym (moves_gone name e))
  ]

  places_now : (path text : Bytes) → file_at now path ≡ Some text → is_name_place x path ≡ true
  places_now path text at =
      let left = stood_so (λ t. cond (is_log_place path) (whole_lines t) t) (file_at tree path) (is_lock_file path || (is_log_place path && is_absent (name_state old.kind tree (log_name path)))) text
      (sym (recovery_keeps old.kind tree path) ∙ at) in
      (λ i. bytes_eq path head_place || bytes_eq path packed_place || stands_now path i || (is_log_place path && stands_now (log_name path) i))
      ∙ place_so (bytes_eq path head_place) (bytes_eq path packed_place) (is_lock_file path) (is_log_place path) (is_absent (name_state old.kind tree path)) (is_absent (name_state old.kind tree (log_name path)))
      left.0 (way.places path left.1.0 left.1.1)

  folder_stood : (path : Bytes) → get now path ≡ Some folder → get tree path ≡ Some folder
  folder_stood path e =
      go (is_deserted (recovered_files old.kind tree) path) (is_leftover old.kind tree path) (get tree path)
      (sym (get-recovered_names old.kind tree path ∙ ap (λ o. cond (not (is_deserted (recovered_files old.kind tree) path)) o None) (get-recovered_files old.kind tree path)) ∙ e)
    where
      go : (deserted leftover : Bool) (o : Option Node) → cond (not deserted) (option_map (recovered_node path) (cond (not leftover) o None)) None ≡ Some folder → o ≡ Some folder
      go true leftover o e = cc
      go false true o e = cc
      go false false None e = cc
      go false false (Some (file bytes)) e = cc
      go false false (Some folder) e = refl

  holds_now : HoldsNames now x
  holds_now = record {
    head = branch_now.1;
    names = λ name id. (
      λ h. id_told name (Some id) (sym (recovery_reads old.kind tree name) ∙ h),
      λ h. recovery_reads old.kind tree name ∙ id_in_holds (name_state old.kind tree name) id (sym (id_now name) ∙ h),
    );
    logs = logs_now;
    packed = λ text at. packed_more new x (λ q v h. h) (packed_file old.kind text) (way.packed text (sym (file_kept old.kind tree packed_place refl refl) ∙ at));
    places = places_now;
    folders = λ path e. way.folders path (folder_stood path e);
  }

  -- ---- each name

  each_now : (name : Bytes) → NameBetween old new x (deletes command name) name
  each_now name = record {
    id = elim (way.reads name) [
      | inl e ↦ inl (id_told name (id_at old name) e)
      | inr e ↦ inr (id_told name (id_at new name) e)
    ];
    moves = elim (plain name) [
      | inl (id, e) ↦ elim ((picked (log_in tree name) (moves_at new name) (moves_at old name) (deletes command name) (way.logs name (ap is_absent e))).1) [
        | inl k ↦ inl (moves_held name id e ∙ k)
        | inr (inl k) ↦ inr (inl (moves_held name id e ∙ k))
        | inr (inr k) ↦ inr (inr (k.0, moves_held name id e ∙ k.1))
      ]
      | inr e ↦ elim (way.reads name) [
        | inl h ↦ inl (moves_gone name e ∙ sym (no_moves old name (none_there old e h)))
        | inr h ↦ inr (inl (moves_gone name e ∙ sym (no_moves new name (none_there new e h))))
      ]
    ];
    log_follows_name = elim (plain name) [
      | inl (id, e) ↦ elim (way.log_first name (ap is_absent e)) [
        | inl h ↦ inl (id_told name (id_at old name) h)
        | inr h ↦ inr (moves_held name id e ∙ picks_new (log_in tree name) (moves_at new name) (moves_at old name) (ap (λ t. bytes_eq t (log_text (moves_at new name))) h ∙ text_itself (log_text (moves_at new name))))
      ]
      | inr e ↦ elim (way.reads name) [
        | inl h ↦ inl (id_told name (id_at old name) h)
        | inr h ↦ inr (moves_gone name e ∙ sym (no_moves new name (none_there new e h)))
      ]
    ];
  }
    where
      none_there : (r : Repository) → name_state old.kind tree name ≡ Absent → name_state old.kind tree name ≡ reads_as (id_at r name) → id_at r name ≡ None
      none_there r e h = sym (id_read_as (id_at r name)) ∙ ap id_in (sym h ∙ e)

  -- ---- no name is a folder of another

  stood_or_made : (a : Bytes) → stands x a ≡ true → (stands old a ≡ true) ⊎ In a (targets old command)
  stood_or_made a at = elim (way.reads a) [
    | inl e ↦ inl (there old (id_told a (id_at old a) e))
    | inr e ↦ let ref = some_is (get new.names a) (there new (id_told a (id_at new a) e)) in names_from old command a ref.0 ref.1
  ]
    where
      there : (r : Repository) → id_at x a ≡ id_at r a → stands r a ≡ true
      there r same = sym (some_id (get r.names a)) ∙ ap is_some (sym same) ∙ some_id (get names a) ∙ at

  apart_now : (a b : Bytes) → stands x a ≡ true → stands x b ≡ true → is_below a b ≡ false
  apart_now a b at_a at_b = apart_after old sound.whole command none a b (stood_or_made a at_a) (stood_or_made b at_b)

  between : HoldsBetween old command tree
  between = record {
    names = names;
    branch = branch_now.0;
    holds = holds_now;
    each = each_now;
    apart = apart_now;
    branch_is = branch_now.2;
    not_lost = kept old command tree x id_told way.not_lost;
  }

pub names_pass : NamesPass
names_pass old command tree sound none way = between old command tree sound none way

-- ---- at the beginning

begin_place : (a b lock log here there absent : Bool) → (here ≡ true → absent ≡ false) → (a || b || here || (log && there)) ≡ true → (a || b || lock || log || not absent) ≡ true
begin_place true b lock log here there absent f k = refl
begin_place false true lock log here there absent f k = refl
begin_place false false true log here there absent f k = refl
begin_place false false false true here there absent f k = refl
begin_place false false false false true there absent f k = ap not (f refl)
begin_place false false false false false there absent f k = cc

reads_kept : (old : Repository) (command : Command) (tree : Tree) → ((name : Bytes) → name_state old.kind tree name ≡ reads_as (id_at old name)) → ReadsKept old command tree
reads_kept old (Rename from to) tree h = inl (h from)
reads_kept old command tree h = tt

module _ (old : Repository) (command : Command) (pair : Pair) (s : StandsFor old.kind pair old) where
  abbrev tree : Tree
  tree = pair.names

  begins_so : NamesOnTheWay old command tree
  begins_so = record {
    head = inl s.head;
    reads = λ name. inl (reads_begin old pair s name);
    logs = λ name here. inl (ap whole_lines (s.logs name) ∙ all_whole (reverse (moves_at old name)));
    log_first = λ name here. inl (reads_begin old pair s name);
    packed = λ text at. packed_more old (after old command) (λ q v h. all_keep old.kind old.objects (stored_by old command) q v h) (packed_file old.kind text) (s.packed text at);
    places = λ path text at. begin_place (bytes_eq path head_place) (bytes_eq path packed_place) (is_lock_file path) (is_log_place path) (stands old path) (stands old (log_name path)) (is_absent (name_state old.kind tree path))
        (λ e. ap is_absent (held old pair s path e).1) (s.places path text at);
    folders = s.folders;
    not_lost = reads_kept old command tree (reads_begin old pair s);
  }

pub names_begin : NamesBegin
names_begin old command pair s = begins_so old command pair s
