-- A tree of which each part is sound is the names part of a repository.
use Rattle.std.proofs.Common.{◌≡◌, ◌⊎◌, inl, inr, Bool, true, false, cond, not, ◌&&◌, ◌||◌, List, [], ◌∷◌, ◌++◌, Option, Some, None, option_map, option_and_then, unwrap_or, is_some, refl, sym, ◌∙◌, ap, subst, bytes_eq}
use Rattle.std.specs.Prelude.{IsTrue, IsSome, IfSome, MatchOption, ◌↔◌}
use Rattle.std.specs.List.{AllByRecursion, list_all, list_any}
use Rattle.std.specs.Ordering.{eq_by_cmp}
use Rattle.std.specs.FinMap.{FinMap, get, keys, contains_key-keys}
use Rattle.std.proofs.lemmas.Bool.{and_from}
use Rattle.std.proofs.lemmas.List.Folds.{list_any-append}
use Rattle.gix_hash.specs.Id.{Id}
use Rattle.gix_hash.specs.declared.kind.Kind.{Kind}
use Rattle.gix_ref_file.specs.Changes.{is_file_at}
use Rattle.gix_ref_file.specs.Tree.{Tree, Node, bytes_at, file, folder, bytes_of}
use Rattle.gix_ref_format.specs.Packed.{Record}
use Rattle.gix_ref_format.specs.PackedBuffer.{hit}
use Rattle.history_model.specs.Bytes.{Bytes, by_bytes}
use Rattle.history_model.specs.FileMap.{is_below}
use Rattle.history_model.specs.Forms.{is_id, is_name, is_private, is_log_entry, is_reference}
use Rattle.history_model.specs.Logs.{log_text}
use Rattle.history_model.specs.NameStates.{Holds, Symbolic, Absent, Faulty, name_state, loose_state, loose_line, packed_state}
use Rattle.history_model.specs.Objects.{Value, StoredCommit, StoredTag, StoredBytes, StoredFolder}
use Rattle.history_model.specs.PackedNames.{id_from_hex, whole_line, packed_file, PackedAgrees, PeelAgrees}
use Rattle.history_model.specs.Places.{file_at, head_place, packed_place, log_place, is_log_place, log_name, is_name_place, is_name_folder}
use Rattle.history_model.specs.Repository.{LogEntry, Reference, Repository, Values, id_at, is_tag, is_tag_value, stands, peeled, peeled_value}
use Rattle.history_model.proofs.FormatLemmas.{holds_same}
use Rattle.history_model.proofs.IdLemmas.{id_from_hex-is_id, one_id}
use Rattle.history_model.proofs.NameLemmas.{name-log, some_or}
use Rattle.history_model.proofs.PlaceLemmas.{same_key, text_itself}
use Rattle.history_layout.specs.TreeHalves.{HoldsNames}
use Rattle.history_layout.proofs.PackedRecords.{all_found, found_named}
use Rattle.history_layout.proofs.TreeMoves.{head_apart, head_no_log, log_no_name}
use Rattle.history_check_names.specs.Parts.{IsNamesPart, StandsNames, NamesBranch}
use Rattle.history_check_names.specs.Packed.{has_name, has_record, is_packed_text, record_names, records_at}
use Rattle.history_check_names.specs.Sound.{AreSoundRecords, IsApart, IsLogFile, IsNameFile, IsSoundAt, IsSoundFile, IsSoundRecord}
use Rattle.history_check_names.specs.Stored.{is_tag_of, may_be_held}
use Rattle.history_check_objects.specs.Stored.{Fact, Facts, AreFactsOf, fact_of, kind_in}
use Rattle.history_check_names.proofs.MadeNames.{made, made_at}
use Rattle.history_check_names.proofs.PackedReads.{IsFile, all_map, file_of, form_from, found_state, hit_any, none_of, packed_read, read_by}
use Rattle.history_check_names.proofs.PackedTexts.{text_ids}

inside : {X : Type 0} {a b : X} → Some a ≡ Some b → a ≡ b
inside e = cc

-- ---- texts of names' files

-- an id that is held has its kind's form
held_is_id : (kind : Kind) (text : Bytes) (id : Id) → loose_state kind text ≡ Holds id → is_id kind id ≡ true
held_is_id kind text id reads = by_line (whole_line text) reads
  where
    by_id : (digits : Bytes) (o : Option Id) → id_from_hex kind digits ≡ o → unwrap_or (option_map Holds o) Faulty ≡ Holds id → is_id kind id ≡ true
    by_id digits None is e = cc
    by_id digits (Some found) is e = id_from_hex-is_id kind digits id (is ∙ ap Some (holds_same e))

    by_symbol : (digits : Bytes) (b : Bool) (target : Bytes) → cond b (Symbolic target) (unwrap_or (option_map Holds (id_from_hex kind digits)) Faulty) ≡ Holds id → is_id kind id ≡ true
    by_symbol digits true target e = cc
    by_symbol digits false target e = by_id digits (id_from_hex kind digits) refl e

    by_line : (o : Option Bytes) → unwrap_or (option_map (loose_line kind) o) Faulty ≡ Holds id → is_id kind id ≡ true
    by_line None e = cc
    by_line (Some digits) e = by_symbol digits _ _ e

-- ---- ids that names hold

-- a commit or a tag that is stored has a commit
has_commit : (id : Id) (o : Option Value) → may_be_held (option_map (λ (fact : Fact). fact.kind) (option_map fact_of o)) ≡ true → is_some (option_and_then (peeled_value id) o) ≡ true
has_commit id None h = cc
has_commit id (Some (StoredCommit commit)) h = refl
has_commit id (Some (StoredTag tag)) h = refl
has_commit id (Some (StoredBytes bytes)) h = cc
has_commit id (Some (StoredFolder files)) h = cc

-- a tag of a commit peels to it
peels : (id commit : Id) (o : Option Value) → is_tag_of (option_map fact_of o) commit ≡ true → (unwrap_or (option_map is_tag_value o) false ≡ true) × (option_and_then (peeled_value id) o ≡ Some commit)
peels id commit None h = absurd (cc h)
peels id commit (Some (StoredTag tag)) h = (refl, ap Some (sym (one_id commit tag.target h)))
peels id commit (Some (StoredCommit value)) h = absurd (cc h)
peels id commit (Some (StoredBytes bytes)) h = absurd (cc h)
peels id commit (Some (StoredFolder files)) h = absurd (cc h)

-- ---- the names

module _ (kind : Kind) (facts : Facts) (tree : Tree) (sound : (path : Bytes) → IsSoundAt kind facts tree path (get tree path)) (good : is_packed_text kind (bytes_at tree packed_place) ≡ true) (records : AreSoundRecords kind facts tree) where
  sound_file : (path text : Bytes) → file_at tree path ≡ Some text → IsSoundFile kind facts tree path text
  sound_file [] text at = absurd (cc at)
  sound_file (b ∷ path) text at = by_node (get tree (b ∷ path)) (sound (b ∷ path)) at
    where
      by_node : (o : Option Node) → IsSoundAt kind facts tree (b ∷ path) o → bytes_of o ≡ Some text → IsSoundFile kind facts tree (b ∷ path) text
      by_node None is e = absurd (cc e)
      by_node (Some (file bytes)) is e = subst (λ t. IsSoundFile kind facts tree (b ∷ path) t) (inside e) is
      by_node (Some folder) is e = absurd (cc e)

  name_file : (name text : Bytes) → is_name name ≡ true → file_at tree name ≡ Some text → IsNameFile kind facts tree name text
  name_file name text is at = elim (sound_file name text at) [
    | inl head ↦ absurd (head_apart name is (sym head))
    | inr (inl packed) ↦ absurd (cc (sym is ∙ ap is_name packed))
    | inr (inr (inl named)) ↦ named
    | inr (inr (inr log)) ↦ absurd (cc (sym (log.place) ∙ name-log name is))
  ]

  log_file : (name text : Bytes) → file_at tree (log_place name) ≡ Some text → IsLogFile kind tree (log_place name) text
  log_file name text at = elim (sound_file (log_place name) text at) [
    | inl head ↦ absurd (head_no_log name (sym head))
    | inr (inl packed) ↦ absurd (cc (ap is_log_place packed))
    | inr (inr (inl named)) ↦ absurd (log_no_name (log_place name) name named.named refl)
    | inr (inr (inr log)) ↦ log
  ]

  abbrev moves_in : (name : Bytes) (o : Option Bytes) → file_at tree (log_place name) ≡ o → List LogEntry
  moves_in name None at = []
  moves_in name (Some text) at = ((log_file name text at).log).moves

  abbrev log_moves : Bytes → List LogEntry
  log_moves name = moves_in name (file_at tree (log_place name)) refl

  -- the records of `packed-refs`
  kept : IsFile kind (bytes_at tree packed_place)
  kept = file_of kind (bytes_at tree packed_place) good

  abbrev entry_of : Bytes → Option Record
  entry_of name = hit (records_at kind tree) name

  abbrev ref_packed : Bytes → Option Reference
  ref_packed name = option_map (λ (e : Record). record { id = e.target; moves = log_moves name }) (entry_of name)

  abbrev ref_in : (name : Bytes) (named : Bool) → is_name name ≡ named → (o : Option Bytes) → file_at tree name ≡ o → Option Reference
  ref_in name false is o at = None
  ref_in name true is None at = ref_packed name
  ref_in name true is (Some text) at = Some (record { id = (name_file name text is at).id; moves = log_moves name })

  -- what a name holds
  abbrev ref_at : Bytes → Option Reference
  ref_at name = ref_in name (is_name name) refl (file_at tree name) refl

  abbrev all_names : List Bytes
  all_names = keys tree ++ record_names (records_at kind tree)

  abbrev names : FinMap by_bytes Reference
  names = made ref_at all_names

  -- ---- what exists

  some_mapped : {X Y : Type 0} (f : X → Y) (o : Option X) → is_some (option_map f o) ≡ is_some o
  some_mapped f None = refl
  some_mapped f (Some x) = refl

  -- the names that hold an id are those that a file or a record has
  has_ref : (name : Bytes) → is_some (ref_at name) ≡ has_name kind tree name
  has_ref name = go (is_name name) refl (file_at tree name) refl
    where
      go : (named : Bool) (h : is_name name ≡ named) (o : Option Bytes) (e : file_at tree name ≡ o) → is_some (ref_in name named h o e) ≡ (named && (is_some o || has_record kind tree name))
      go false h o e = refl
      go true h None e = some_mapped (λ (e : Record). record { id = e.target; moves = log_moves name }) (entry_of name) ∙ sym (hit_any (records_at kind tree) name)
      go true h (Some text) e = refl

  has_file : (name text : Bytes) → is_name name ≡ true → file_at tree name ≡ Some text → has_name kind tree name ≡ true
  has_file name text is at = λ i. is i && (is_some (at i) || has_record kind tree name)

  -- an existing name, by its file or its record
  record Named (name : Bytes) : Type 0 where
    named : is_name name ≡ true
    by : ((text : Bytes) × (file_at tree name ≡ Some text)) ⊎ ((file_at tree name ≡ None) × ((e : Record) × (entry_of name ≡ Some e)))

  named_by : (name : Bytes) → is_some (ref_at name) ≡ true → Named name
  named_by name there = go (is_name name) refl (file_at tree name) refl there
    where
      by_entry : is_name name ≡ true → file_at tree name ≡ None → (o : Option Record) → entry_of name ≡ o → is_some {T = Reference} (option_map (λ (e : Record). record { id = e.target; moves = log_moves name }) o) ≡ true → Named name
      by_entry h e None at there = absurd (cc there)
      by_entry h e (Some entry) at there = record { named = h; by = inr (e, (entry, at)) }

      go : (named : Bool) (h : is_name name ≡ named) (o : Option Bytes) (e : file_at tree name ≡ o) → is_some (ref_in name named h o e) ≡ true → Named name
      go false h o e there = absurd (cc there)
      go true h None e there = by_entry h e (entry_of name) refl there
      go true h (Some text) e there = record { named = h; by = inl (text, e) }

  is_key : (name : Bytes) → is_some (ref_at name) ≡ true → list_any (eq_by_cmp by_bytes name) all_names ≡ true
  is_key name there = list_any-append (eq_by_cmp by_bytes name) (keys tree) (record_names (records_at kind tree)) ∙ elim ((named_by name there).by) [
    | inl (text, at) ↦ or_from_left (list_any (eq_by_cmp by_bytes name) (keys tree)) (list_any (eq_by_cmp by_bytes name) (record_names (records_at kind tree))) (sym (contains_key-keys tree name) ∙ stood name text at)
    | inr (none, (e, at)) ↦ or_from_right (list_any (eq_by_cmp by_bytes name) (keys tree)) (list_any (eq_by_cmp by_bytes name) (record_names (records_at kind tree))) (same_tests (record_names (records_at kind tree)) ∙ hit_any (records_at kind tree) name ∙ ap is_some at)
  ]
    where
      or_from_left : (a b : Bool) → a ≡ true → (a || b) ≡ true
      or_from_left true b h = refl
      or_from_left false b h = cc

      or_from_right : (a b : Bool) → b ≡ true → (a || b) ≡ true
      or_from_right true b h = refl
      or_from_right false b h = h

      same_tests : (ns : List Bytes) → list_any (eq_by_cmp by_bytes name) ns ≡ list_any (bytes_eq name) ns
      same_tests [] = refl
      same_tests (n ∷ ns) = λ i. same_key name n i || same_tests ns i

      some_node : (o : Option Node) (text : Bytes) → bytes_of o ≡ Some text → is_some o ≡ true
      some_node None text e = cc
      some_node (Some node) text e = refl

      stood : (path text : Bytes) → file_at tree path ≡ Some text → is_some (get tree path) ≡ true
      stood [] text at = absurd (cc at)
      stood (b ∷ path) text at = some_node (get tree (b ∷ path)) text at

  get_name : (name : Bytes) → get names name ≡ ref_at name
  get_name name = made_at ref_at all_names name (is_key name)

  -- ---- logs

  moves_tell : (name : Bytes) (o : Option Bytes) (at : file_at tree (log_place name) ≡ o) → unwrap_or o [] ≡ log_text (moves_in name o at)
  moves_tell name None at = refl
  moves_tell name (Some text) at = ((log_file name text at).log).told

  moves_formed : (name : Bytes) (o : Option Bytes) (at : file_at tree (log_place name) ≡ o) → list_all (is_log_entry kind) (moves_in name o at) ≡ true
  moves_formed name None at = refl
  moves_formed name (Some text) at = ((log_file name text at).log).formed

  no_log : (name : Bytes) → is_some (ref_at name) ≡ false → file_at tree (log_place name) ≡ None
  no_log name none = by_file (file_at tree (log_place name)) refl
    where
      by_file : (o : Option Bytes) → file_at tree (log_place name) ≡ o → o ≡ None
      by_file None at = refl
      by_file (Some text) at = absurd (cc (sym none ∙ has_ref name ∙ (log_file name text at).of_name))

  logs_tell : (name : Bytes) → unwrap_or (file_at tree (log_place name)) [] ≡ log_text (unwrap_or (option_map (λ (ref : Reference). ref.moves) (ref_at name)) [])
  logs_tell name = go (is_name name) refl (file_at tree name) refl (no_log name)
    where
      by_entry : (o : Option Record) → (is_some {T = Reference} (option_map (λ (e : Record). record { id = e.target; moves = log_moves name }) o) ≡ false → file_at tree (log_place name) ≡ None)
          → unwrap_or (file_at tree (log_place name)) []
          ≡ log_text (unwrap_or (option_map (λ (ref : Reference). ref.moves) (option_map (λ (e : Record). record { id = e.target; moves = log_moves name }) o)) [])
      by_entry None none = ap (λ t. unwrap_or t []) (none refl)
      by_entry (Some e) none = moves_tell name (file_at tree (log_place name)) refl

      go : (named : Bool) (h : is_name name ≡ named) (o : Option Bytes) (e : file_at tree name ≡ o) → (is_some (ref_in name named h o e) ≡ false → file_at tree (log_place name) ≡ None)
          → unwrap_or (file_at tree (log_place name)) [] ≡ log_text (unwrap_or (option_map (λ (ref : Reference). ref.moves) (ref_in name named h o e)) [])
      go false h o e none = ap (λ t. unwrap_or t []) (none refl)
      go true h None e none = by_entry (entry_of name) none
      go true h (Some text) e none = moves_tell name (file_at tree (log_place name)) refl

  -- ---- readings

  sound_entry : (name : Bytes) (e : Record) → entry_of name ≡ Some e → IsSoundRecord kind facts tree e
  sound_entry name e at = all_found (IsSoundRecord kind facts tree) (records_at kind tree) name e records at

  entry_named : (name : Bytes) (e : Record) → entry_of name ≡ Some e → e.name ≡ name
  entry_named name e at = found_named (records_at kind tree) name e at

  entry_public : (name : Bytes) (e : Record) → entry_of name ≡ Some e → is_private name ≡ false
  entry_public name e at = ap is_private (sym (entry_named name e at)) ∙ (sound_entry name e at).common

  packed_says : (name : Bytes) → packed_state name kept.packed ≡ unwrap_or (option_map (λ (ref : Reference). Holds ref.id) (ref_packed name)) Absent
  packed_says name =
      ap (λ rs. cond (is_private name) Absent (found_state (hit rs name))) (sym kept.records)
      ∙ go (is_private name) refl (entry_of name) refl
    where
      go : (b : Bool) → is_private name ≡ b → (o : Option Record) → entry_of name ≡ o
          → cond b Absent (found_state o) ≡ unwrap_or (option_map (λ (ref : Reference). Holds ref.id) (option_map (λ (e : Record). record { id = e.target; moves = log_moves name }) o)) Absent
      go true private None at = refl
      go true private (Some e) at = absurd (cc (sym private ∙ entry_public name e at))
      go false common None at = refl
      go false common (Some e) at = refl

  read_so : (name : Bytes) → name_state kind tree name ≡ unwrap_or (option_map (λ (ref : Reference). Holds ref.id) (ref_at name)) Absent
  read_so name = go (is_name name) refl (file_at tree name) refl
    where
      go : (named : Bool) (h : is_name name ≡ named) (o : Option Bytes) (e : file_at tree name ≡ o)
          → cond named (unwrap_or (option_map (loose_state kind) o) (packed_read kind name (file_at tree packed_place))) Absent ≡ unwrap_or (option_map (λ (ref : Reference). Holds ref.id) (ref_in name named h o e)) Absent
      go false h o e = refl
      go true h None e = read_by kind name (file_at tree packed_place) kept.packed kept.read ∙ packed_says name
      go true h (Some text) e = (name_file name text h e).holds

  -- the names of the records are no worktree's own
  all_public : list_any is_private (record_names kept.packed.records) ≡ false
  all_public =
      ap (λ rs. list_any is_private (record_names rs)) (sym kept.records)
      ∙ none_of is_private (records_at kind tree) (all_map (IsSoundRecord kind facts tree) (λ (e : Record). is_private e.name ≡ false) (records_at kind tree) (λ e it. it.common) records)

  -- their ids are of the kind
  entry_is_id : (name : Bytes) (e : Record) → entry_of name ≡ Some e → is_id kind e.target ≡ true
  entry_is_id name e at = all_found (λ (r : Record). is_id kind r.target ≡ true) (records_at kind tree) name e (text_ids kind (bytes_at tree packed_place)) at

  holds_some : (o : Option Reference) (id : Id) → (unwrap_or (option_map (λ (ref : Reference). Holds ref.id) o) Absent ≡ Holds id) ↔ (option_map (λ (ref : Reference). ref.id) o ≡ Some id)
  holds_some None id = (λ e. cc, λ e. cc)
  holds_some (Some ref) id = (λ e. ap Some (holds_same e), λ e. ap Holds (inside e))

  module _ (branch : Bytes) (named_branch : NamesBranch tree branch) (values : Values) (are : AreFactsOf facts values) where
    abbrev r : Repository
    r = record { kind = kind; names = names; branch = branch; objects = values }

    id_is : (name : Bytes) → id_at r name ≡ option_map (λ (ref : Reference). ref.id) (ref_at name)
    id_is name = ap (option_map (λ (ref : Reference). ref.id)) (get_name name)

    stands_is : (name : Bytes) → stands r name ≡ is_some (ref_at name)
    stands_is name = ap is_some (get_name name)

    reads : (name : Bytes) (id : Id) → (name_state kind tree name ≡ Holds id) ↔ (id_at r name ≡ Some id)
    reads name id =
        let both = holds_some (ref_at name) id in
        (λ e. id_is name ∙ both.0 (sym (read_so name) ∙ e), λ e. read_so name ∙ both.1 (sym (id_is name) ∙ e))

    in_place : (path text : Bytes) → file_at tree path ≡ Some text → is_name_place r path ≡ true
    in_place path text at = elim (sound_file path text at) [
      | inl head ↦ some_or _ _ (inl (some_or _ _ (inl (some_or _ _ (inl (ap (λ p. bytes_eq p head_place) head ∙ text_itself head_place))))))
      | inr (inl packed) ↦ some_or _ _ (inl (some_or _ _ (inl (some_or _ _ (inr (ap (λ p. bytes_eq p packed_place) packed ∙ text_itself packed_place))))))
      | inr (inr (inl named)) ↦ some_or _ _ (inl (some_or _ _ (inr (stands_is path ∙ has_ref path ∙ has_file path text named.named at))))
      | inr (inr (inr log)) ↦ some_or _ _ (inr (and_from _ _ log.place (stands_is (log_name path) ∙ has_ref (log_name path) ∙ log.of_name)))
    ]

    -- a record's peeled id is its tag's commit
    peel_agrees : (e : Record) → IsSoundRecord kind facts tree e → PeelAgrees r e
    peel_agrees e it = go e.peeled it.peeled
      where
        go : (o : Option Id) → unwrap_or (option_map (λ commit. is_tag_of (facts e.target) commit) o) true ≡ true → IfSome o (λ commit. IsTrue (is_tag r e.target) × (peeled r e.target ≡ Some commit))
        go None told = tt
        go (Some commit) told = peels e.target commit (get values e.target) (ap (λ fact. is_tag_of fact commit) (sym (are e.target)) ∙ told)

    packed_agrees : PackedAgrees r kept.packed
    packed_agrees = (
      form_from kept.packed kept.whole all_public,
      subst (AllByRecursion (PeelAgrees r)) kept.records (all_map (IsSoundRecord kind facts tree) (PeelAgrees r) (records_at kind tree) peel_agrees records),
    )

    packed_so : (text : Bytes) → file_at tree packed_place ≡ Some text → MatchOption (packed_file kind text) ⊥ (PackedAgrees r)
    packed_so text at =
        subst (λ o. MatchOption o ⊥ (PackedAgrees r)) (sym kept.read ∙ ap (λ (o : Option Bytes). packed_file kind (unwrap_or o [])) at) packed_agrees

    in_folder : (path : Bytes) → get tree path ≡ Some folder → is_name_folder path ≡ true
    in_folder path at = by_node (get tree path) (sound path) at
      where
        is_it : (node : Node) → Some node ≡ Some folder → IsSoundAt kind facts tree path (Some node) → is_name_folder path ≡ true
        is_it (file bytes) e is = cc
        is_it folder e is = is

        by_node : (o : Option Node) → IsSoundAt kind facts tree path o → o ≡ Some folder → is_name_folder path ≡ true
        by_node None is e = cc
        by_node (Some node) is e = is_it node e is

    holds_names : HoldsNames tree r
    holds_names = record {
      head = named_branch.head;
      names = reads;
      logs = λ name. logs_tell name ∙ ap (λ o. log_text (unwrap_or (option_map (λ (ref : Reference). ref.moves) o) [])) (sym (get_name name));
      packed = packed_so;
      places = in_place;
      folders = in_folder;
    }

    -- ---- whole

    -- what is held of one fact is held of the value
    held_fact : (id held : Id) → held ≡ id → may_be_held (kind_in facts held) ≡ true → is_some (peeled r id) ≡ true
    held_fact id held same told =
        has_commit id (get values id) (ap (λ fact. may_be_held (option_map (λ (fact : Fact). fact.kind) fact)) (sym (are id)) ∙ ap (λ i. may_be_held (kind_in facts i)) (sym same) ∙ told)

    held_so : (name : Bytes) (id : Id) → id_at r name ≡ Some id → IsSome (peeled r id)
    held_so name id at = go (is_name name) refl (file_at tree name) refl (sym (id_is name) ∙ at)
      where
        by_entry : file_at tree name ≡ None → (o : Option Record) → entry_of name ≡ o → option_map (λ (ref : Reference). ref.id) (option_map (λ (e : Record). record { id = e.target; moves = log_moves name }) o) ≡ Some id → is_some (peeled r id) ≡ true
        by_entry bare None found is = cc
        by_entry bare (Some e) found is = held_fact id e.target (inside is) ((sound_entry name e found).held (ap (is_file_at tree) (entry_named name e found) ∙ ap is_some bare))

        go : (named : Bool) (h : is_name name ≡ named) (o : Option Bytes) (e : file_at tree name ≡ o) → option_map (λ (ref : Reference). ref.id) (ref_in name named h o e) ≡ Some id → is_some (peeled r id) ≡ true
        go false h o e is = cc
        go true h None e is = by_entry e (entry_of name) refl is
        go true h (Some text) e is = let named = name_file name text h e in held_fact id named.id (inside is) named.held

    -- no existing name is a folder of another
    is_apart : (name : Bytes) → is_some (ref_at name) ≡ true → IsApart kind tree name
    is_apart name there = let it = named_by name there in elim it.by [
      | inl (text, at) ↦ (name_file name text it.named at).apart
      | inr (bare, (e, at)) ↦ subst (IsApart kind tree) (entry_named name e at) (sound_entry name e at).apart
    ]

    apart_so : (a b : Bytes) → stands r a ≡ true → stands r b ≡ true → is_below a b ≡ false
    apart_so a b at_a at_b = by_test (is_below a b) refl
      where
        by_test : (t : Bool) → is_below a b ≡ t → t ≡ false
        by_test false is = refl
        by_test true is = absurd (cc (sym (is_apart b (sym (stands_is b) ∙ at_b) a is) ∙ sym (has_ref a) ∙ sym (stands_is a) ∙ at_a))

    written_so : (name : Bytes) (ref : Reference) → get names name ≡ Some ref → IsTrue (is_name name && not (is_private name) && is_reference kind ref)
    written_so name ref at = go (is_name name) refl (file_at tree name) refl (sym (get_name name) ∙ at)
      where
        with_id : (id : Id) → is_id kind id ≡ true → record { id = id; moves = log_moves name } ≡ ref → is_reference kind ref ≡ true
        with_id id formed same = ap (is_reference kind) (sym same) ∙ and_from _ _ formed (moves_formed name (file_at tree (log_place name)) refl)

        by_entry : is_name name ≡ true → (o : Option Record) → entry_of name ≡ o → option_map (λ (e : Record). record { id = e.target; moves = log_moves name }) o ≡ Some ref → (is_name name && not (is_private name) && is_reference kind ref) ≡ true
        by_entry h None found is = absurd (cc is)
        by_entry h (Some e) found is = λ i. h i && not (entry_public name e found i) && with_id e.target (entry_is_id name e found) (inside is) i

        go : (named : Bool) (h : is_name name ≡ named) (o : Option Bytes) (e : file_at tree name ≡ o) → ref_in name named h o e ≡ Some ref → (is_name name && not (is_private name) && is_reference kind ref) ≡ true
        go false h o e is = absurd (cc is)
        go true h None e is = by_entry h (entry_of name) refl is
        go true h (Some text) e is =
            let named = name_file name text h e in
            λ i. h i && not (named.common i) && with_id named.id (held_is_id kind text named.id named.holds) (inside is) i

    stands_names : StandsNames tree r
    stands_names = record {
      holds = holds_names;
      whole = record { held = held_so; apart = apart_so };
      branch = named_branch.formed;
      names = written_so;
    }

-- if each part is sound
pub is_names_part : (kind : Kind) (facts : Facts) (tree : Tree) (branch : Bytes) → ((path : Bytes) → IsSoundAt kind facts tree path (get tree path)) → is_packed_text kind (bytes_at tree packed_place) ≡ true → AreSoundRecords kind facts tree → NamesBranch tree branch
    → IsNamesPart kind facts tree branch
is_names_part kind facts tree branch sound good records named = record {
  names = names kind facts tree sound good records;
  stands = stands_names kind facts tree sound good records branch named;
}
