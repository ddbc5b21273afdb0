-- A repository's names part has no cause but a call that failed, or memory that was refused.
use Rattle.std.proofs.Common.{◌≡◌, ◌≢◌, ◌⊎◌, inl, inr, ℕ, ◌≤◌, Bool, true, false, not, ◌&&◌, ◌||◌, List, [], ◌∷◌, ◌++◌, length, take, drop, reverse, Option, Some, None, option_map, option_and_then, unwrap_or, is_some, refl, sym, ◌∙◌, ap, subst, arith, bytes_eq, append_assoc, length-append, take-append-drop, nat_le, ◌==◌, codes, decimal, cond}
use Rattle.std.specs.Prelude.{IsTrue, IfSome, MatchOption}
use Rattle.std.specs.List.{Contains, flat_map, list_all, list_any}
use Rattle.std.specs.FinMap.{get}
use Rattle.std.proofs.lemmas.Bool.{and_parts, not-true, or_cases, or_parts}
use Rattle.std.proofs.lemmas.Bool.Decides.{nat_tests}
use Rattle.std.proofs.lemmas.Fmt.{length-decimal-le}
use Rattle.std.proofs.lemmas.List.{length-take-le}
use Rattle.gix_hash.specs.Id.{Id, id_of}
use Rattle.gix_hash.specs.Order.{id_eq}
use Rattle.gix_hash.specs.declared.kind.Kind.{Kind}
use Rattle.gix_hash.specs.declared.kind.Kind.TheVariants.{Sha1, Sha256}
use Rattle.gix_ref_file.specs.Changes.{is_file_at}
use Rattle.gix_ref_file.specs.Tree.{Tree, Node, bytes_at, file, folder, is_folder}
use Rattle.gix_ref_format.specs.Packed.{Record}
use Rattle.history_model.specs.Bytes.{Bytes, begins, has_byte, is_empty}
use Rattle.history_model.specs.Forms.{is_id, is_name, is_private, is_actor, is_actor_part, is_offset, is_log_entry, is_reference, max_actor_part, max_seconds, max_title, max_name, refs_front}
use Rattle.history_model.specs.Logs.{log_line, log_text}
use Rattle.history_model.specs.NameStates as states
use Rattle.history_model.specs.NameStates.{NameState, Absent, name_state, is_absent, loose_state, packed_state}
use Rattle.history_model.specs.PackedNames.{PackedAgrees, PackedFile, PeelAgrees, is_packed_form, packed_file}
use Rattle.history_model.specs.Objects.{Actor, Value, StoredCommit, StoredTag, StoredBytes, StoredFolder, actor_text, hex}
use Rattle.history_model.specs.Places.{file_at, head_place, packed_place, is_lock_file, is_log_place, log_name}
use Rattle.history_model.specs.Repository.{LogEntry, Reference, Repository, id_at, is_tag, is_tag_value, moves_at, stands, peeled, peeled_value}
use Rattle.gix_object_lines.specs.NameTest.{is_partial_name}
use Rattle.std.specs.Str.{is_utf8}
use Rattle.history_model.proofs.IdLemmas.{id_itself, length-hex}
use Rattle.history_model.proofs.NameLemmas.{name-lock, log-lock}
use Rattle.history_model.proofs.OnePairLines.{entry_parts, line_more}
use Rattle.history_model.proofs.PartLemmas.{split_at, head_same, tail_same}
use Rattle.history_model.proofs.PlaceLemmas.{one_text, id_length}
use Rattle.history_model.proofs.WholeLists.{one_passes, passes_one}
use Rattle.history_model.proofs.WholePaths.{begins_parts}
use Rattle.history_check_names.specs.Causes.{HasCause, may_hold_file, IsOpenFault}
use Rattle.history_check_names.specs.Logs.{HasBadLine, HasLongLine, max_log_line}
use Rattle.history_check_names.specs.Parts.{StandsNames}
use Rattle.history_check_names.specs.Packed.{has_record, is_good_file, is_packed_text, record_names, records_at, records_in}
use Rattle.history_check_names.specs.Stored.{is_of_wrong_kind, is_tag_of, is_well_peeled}
use Rattle.history_check_objects.specs.Stored.{Fact, Facts, AreFactsOf, fact_of}
use Rattle.history_texts.specs.declared.open_error.NamedBy.TheVariants.{Name}
use Rattle.history_texts.specs.declared.open_error.OpenError.{OpenError}
use Rattle.history_texts.specs.declared.open_error.OpenError.TheVariants.{NoHead, BadHead, Stray, Unfinished, BadName, PrivateName, Symbolic, Missing, WrongKind, BadPacked, BadPeeled, Collides, BadLog, LongLogLine, LogWithoutName, File, Memory}
use Rattle.history_check_names.proofs.LogTexts.{body, body_lacks, all_reverse}
use Rattle.history_check_names.proofs.Told.{text_of}
use Rattle.history_check_names.proofs.PackedReads.{all_of, file_records, form_good, form_public, never_faulty, never_symbolic, packed_read, read_by}
use Rattle.history_check_names.proofs.PackedTexts.{first_stand}

inside : {X : Type 0} {a b : X} → Some a ≡ Some b → a ≡ b
inside e = cc

clash : {A : Type 0} {b : Bool} → b ≡ true → b ≡ false → A
clash t f = absurd (cc (sym t ∙ f))

-- ---- how long a move's line may be

small : (n m : ℕ) → nat_le n m ≡ true → n ≤ m
small n m h = grind (arith, nat_tests)

part_short : (part : Bytes) → is_actor_part part ≡ true → length part ≤ 512
part_short part h = small (length part) 512 (and_parts _ (nat_le (length part) max_actor_part) h).1

offset_short : (offset : Bytes) → is_offset offset ≡ true → length offset ≤ 5
offset_short [] h = omega arith
offset_short (a ∷ []) h = omega arith
offset_short (a ∷ b ∷ []) h = omega arith
offset_short (a ∷ b ∷ c ∷ []) h = omega arith
offset_short (a ∷ b ∷ c ∷ d ∷ []) h = omega arith
offset_short (a ∷ b ∷ c ∷ d ∷ e ∷ []) h = omega arith
offset_short (a ∷ b ∷ c ∷ d ∷ e ∷ f ∷ more) h = cc

seconds_short : (n : ℕ) → nat_le n max_seconds ≡ true → length (decimal n) ≤ 19
seconds_short n h =
    let few = small n max_seconds h in
    length-decimal-le 19 n (omega arith) (omega (arith, few)) (omega (arith, few))

actor_short : (actor : Actor) → is_actor actor ≡ true → length (actor_text actor) ≤ 1053
actor_short actor h =
    let a = and_parts (not (is_empty actor.name) && is_actor_part actor.name && is_actor_part actor.email && nat_le actor.seconds max_seconds) (is_offset actor.offset) h in
    let b = and_parts (not (is_empty actor.name) && is_actor_part actor.name && is_actor_part actor.email) (nat_le actor.seconds max_seconds) a.0 in
    let c = and_parts (not (is_empty actor.name) && is_actor_part actor.name) (is_actor_part actor.email) b.0 in
    let d = and_parts (not (is_empty actor.name)) (is_actor_part actor.name) c.0 in
    sum actor.name actor.email (decimal actor.seconds) actor.offset (part_short actor.name d.1) (part_short actor.email c.1) (seconds_short actor.seconds b.1) (offset_short actor.offset a.1)
  where
    sum : (n e s o : Bytes) → length n ≤ 512 → length e ≤ 512 → length s ≤ 19 → length o ≤ 5 → length (n ++ codes " <" ++ e ++ codes "> " ++ s ++ 32 ∷ o) ≤ 1053
    sum n e s o p q t u = omega (arith, p, q, t, u, length-append (n ++ codes " <" ++ e ++ codes "> " ++ s) (32 ∷ o), length-append (n ++ codes " <" ++ e ++ codes "> ") s, length-append (n ++ codes " <" ++ e) (codes "> "), length-append (n ++ codes " <") e, length-append n (codes " <"))

hex_short : (kind : Kind) (id : Id) → is_id kind id ≡ true → length (hex id) ≤ 64
hex_short Sha1 id h = omega (arith, length-hex id, id_length Sha1 id h)
hex_short Sha256 id h = omega (arith, length-hex id, id_length Sha256 id h)

body_short : (kind : Kind) (entry : LogEntry) → is_log_entry kind entry ≡ true → length (body entry) ≤ 2208
body_short kind entry is =
    let parts = entry_parts kind entry is in
    let fits = (and_parts _ (nat_le (length entry.message) max_title) is).1 in
    sum (hex entry.before) (hex entry.after) (actor_text entry.actor) entry.message (hex_short kind entry.before parts.before) (hex_short kind entry.after parts.after) (actor_short entry.actor parts.actor) (small (length entry.message) max_title fits)
  where
    sum : (b a w m : Bytes) → length b ≤ 64 → length a ≤ 64 → length w ≤ 1053 → length m ≤ 1024 → length (b ++ 32 ∷ a ++ 32 ∷ w ++ 9 ∷ m) ≤ 2208
    sum b a w m p q t u = omega (arith, p, q, t, u, length-append (b ++ 32 ∷ a ++ 32 ∷ w) (9 ∷ m), length-append (b ++ 32 ∷ a) (32 ∷ w), length-append b (32 ∷ a))

-- ---- logs

-- a text without a line feed ends before that which follows
ends_before : (s t b x : Bytes) → has_byte 10 s ≡ false → s ++ t ≡ b ++ 10 ∷ x → length s ≤ length b
ends_before [] t b x lacks e = omega arith
ends_before (c ∷ s) t [] x lacks e = clash (subst (λ n. (n == 10) ≡ true) (sym (head_same e)) refl) (or_parts (c == 10) (has_byte 10 s) lacks).0
ends_before (c ∷ s) t (d ∷ b) x lacks e = let rest = ends_before s t b x (or_parts (c == 10) (has_byte 10 s) lacks).1 (tail_same e) in omega (arith, rest)

-- the rest after some lines of a log is lines
record Left (kind : Kind) (rest : Bytes) : Type 0 where
  lines : List LogEntry
  formed : list_all (is_log_entry kind) lines ≡ true
  told : rest ≡ flat_map log_line lines

left_lines : (kind : Kind) (all before : List LogEntry) (rest : Bytes) → list_all (is_log_entry kind) all ≡ true → list_all (is_log_entry kind) before ≡ true → flat_map log_line all ≡ flat_map log_line before ++ rest → Left kind rest
left_lines kind all [] rest formed good e = record { lines = all; formed = formed; told = sym e }
left_lines kind [] (b ∷ before) rest formed good e =
    absurd (omega (arith, ap length e, length-append (log_line b ++ flat_map log_line before) rest, length-append (log_line b) (flat_map log_line before), length-append (body b) (10 ∷ [])))
left_lines kind (a ∷ all) (b ∷ before) rest formed good e =
    let here = and_parts (is_log_entry kind a) (list_all (is_log_entry kind) all) formed in
    let there = and_parts (is_log_entry kind b) (list_all (is_log_entry kind) before) good in
    let cut = split_at 10 (body a) (body b) (flat_map log_line all) (flat_map log_line before ++ rest) (body_lacks kind a here.0) (body_lacks kind b there.0)
    (sym (line_more (body a) (flat_map log_line all)) ∙ e ∙ append_assoc (log_line b) (flat_map log_line before) rest ∙ line_more (body b) (flat_map log_line before ++ rest)) in
    left_lines kind all before rest here.1 there.1 cut.1

left_of : (kind : Kind) (moves before : List LogEntry) (text rest : Bytes) → list_all (is_log_entry kind) moves ≡ true → text ≡ log_text moves → list_all (is_log_entry kind) before ≡ true → text ≡ flat_map log_line before ++ rest → Left kind rest
left_of kind moves before text rest formed told good cut = left_lines kind (reverse moves) before rest (all_reverse (is_log_entry kind) moves formed) good (sym told ∙ cut)

no_bad_line : (kind : Kind) (moves : List LogEntry) (text : Bytes) (number : ℕ) → list_all (is_log_entry kind) moves ≡ true → text ≡ log_text moves → HasBadLine kind text number → ⊥
no_bad_line kind moves text number formed told bad =
    let left = left_of kind moves bad.before text bad.rest formed told bad.formed bad.cut in
    go left.lines left.formed left.told
  where
    go : (lines : List LogEntry) → list_all (is_log_entry kind) lines ≡ true → bad.rest ≡ flat_map log_line lines → ⊥
    go [] all is = bad.some is
    go (entry ∷ lines) all is = bad.wrong entry (flat_map log_line lines) (and_parts (is_log_entry kind entry) (list_all (is_log_entry kind) lines) all).0 is

no_long_line : (kind : Kind) (moves : List LogEntry) (text : Bytes) (number : ℕ) → list_all (is_log_entry kind) moves ≡ true → text ≡ log_text moves → HasLongLine kind text number → ⊥
no_long_line kind moves text number formed told bad =
    let left = left_of kind moves bad.before text bad.rest formed told bad.formed bad.cut in
    go left.lines left.formed left.told
  where
    go : (lines : List LogEntry) → list_all (is_log_entry kind) lines ≡ true → bad.rest ≡ flat_map log_line lines → ⊥
    go [] all is = bad.some is
    go (entry ∷ lines) all is =
        let fits = body_short kind entry (and_parts (is_log_entry kind entry) (list_all (is_log_entry kind) lines) all).0 in
        let early = ends_before (take max_log_line bad.rest) (drop max_log_line bad.rest) (body entry) (flat_map log_line lines) bad.wrong.endless
        (take-append-drop max_log_line bad.rest ∙ is ∙ line_more (body entry) (flat_map log_line lines)) in
        omega (arith, fits, early, bad.wrong.longer, length-take-le max_log_line bad.rest (omega (arith, bad.wrong.longer)))

-- ---- names

name_front : (name : Bytes) → is_name name ≡ true → begins refs_front name ≡ true
name_front name h =
    (and_parts (is_partial_name name) (begins refs_front name)
    (and_parts (is_partial_name name && begins refs_front name) (is_utf8 name)
    (and_parts (is_partial_name name && begins refs_front name && is_utf8 name) (nat_le (length name) max_name) h).0).0).1

refs_no_log : (path : Bytes) → begins refs_front path ≡ true → is_log_place path ≡ false
refs_no_log path h = ap is_log_place (begins_parts refs_front path h)

private_front : (path : Bytes) → is_private path ≡ true → begins refs_front path ≡ true
private_front path h = elim (or_cases (begins (codes "refs/bisect/") path || begins (codes "refs/worktree/") path) (begins (codes "refs/rewritten/") path) h) [
  | inl two ↦ elim (or_cases (begins (codes "refs/bisect/") path) (begins (codes "refs/worktree/") path) two) [
    | inl one ↦ ap (begins refs_front) (begins_parts (codes "refs/bisect/") path one)
    | inr one ↦ ap (begins refs_front) (begins_parts (codes "refs/worktree/") path one)
  ]
  | inr one ↦ ap (begins refs_front) (begins_parts (codes "refs/rewritten/") path one)
]

-- ---- what is in a repository's names part

module _ (tree : Tree) (r : Repository) (facts : Facts) (are : AreFactsOf facts r.objects) (s : StandsNames tree r) where
  record Stood (name : Bytes) : Type 0 where
    id : Id
    at : id_at r name ≡ Some id
    reads : name_state r.kind tree name ≡ states.Holds id
    named : is_name name ≡ true
    common : is_private name ≡ false

  stood : (name : Bytes) → stands r name ≡ true → Stood name
  stood name there = go (get r.names name) refl there
    where
      go : (o : Option Reference) → get r.names name ≡ o → is_some o ≡ true → Stood name
      go None is h = absurd (cc h)
      go (Some ref) is h =
          let at : id_at r name ≡ Some ref.id = ap (option_map (λ (ref : Reference). ref.id)) is in
          let both = (and_parts (is_name name && not (is_private name)) (is_reference r.kind ref) (s.names name ref is)).0 in
          let parts = and_parts (is_name name) (not (is_private name)) both in
          record { id = ref.id; at = at; reads = (s.holds.names name ref.id).1 at; named = parts.0; common = not-true (is_private name) parts.1 }

  -- the places of the part's files
  abbrev Stands : Bytes → Type 0
  Stands path = (path ≡ head_place) ⊎ (path ≡ packed_place) ⊎ Stood path ⊎ ((is_log_place path ≡ true) × Stood (log_name path))

  place : (path text : Bytes) → file_at tree path ≡ Some text → Stands path
  place path text at = elim (or_cases (bytes_eq path head_place || bytes_eq path packed_place || stands r path) (is_log_place path && stands r (log_name path)) (s.holds.places path text at)) [
    | inl three ↦ elim (or_cases (bytes_eq path head_place || bytes_eq path packed_place) (stands r path) three) [
      | inl two ↦ elim (or_cases (bytes_eq path head_place) (bytes_eq path packed_place) two) [
        | inl head ↦ inl (one_text path head_place head)
        | inr packed ↦ inr (inl (one_text path packed_place packed))
      ]
      | inr there ↦ inr (inr (inl (stood path there)))
    ]
    | inr log ↦ let parts = and_parts (is_log_place path) (stands r (log_name path)) log in inr (inr (inr (parts.0, stood (log_name path) parts.1)))
  ]

  file_there : (path : Bytes) → is_file_at tree path ≡ true → Stands path
  file_there path there = place path _ (text_of tree path there)

  -- a file below `refs` is a name's
  below_refs : (path : Bytes) → is_file_at tree path ≡ true → begins refs_front path ≡ true → Stood path
  below_refs path there front = elim (file_there path there) [
    | inl head ↦ clash front (ap (begins refs_front) head)
    | inr (inl packed) ↦ clash front (ap (begins refs_front) packed)
    | inr (inr (inl name)) ↦ name
    | inr (inr (inr log)) ↦ clash log.0 (refs_no_log path front)
  ]

  -- a file below `logs` is a log
  below_logs : (path : Bytes) → is_file_at tree path ≡ true → is_log_place path ≡ true → Stood (log_name path)
  below_logs path there front = elim (file_there path there) [
    | inl head ↦ clash front (ap is_log_place head)
    | inr (inl packed) ↦ clash front (ap is_log_place packed)
    | inr (inr (inl name)) ↦ clash front (refs_no_log path (name_front path name.named))
    | inr (inr (inr log)) ↦ log.1
  ]

  -- what `packed-refs` holds is of this repository
  record Packs : Type 0 where
    packed : PackedFile
    read : packed_file r.kind (bytes_at tree packed_place) ≡ Some packed
    records : records_at r.kind tree ≡ packed.records
    agrees : PackedAgrees r packed

  packs : Packs
  packs = by_file (file_at tree packed_place) refl
    where
      no_records : PackedAgrees r (record { returns = false; sorted = false; records = [] })
      no_records = (refl, tt)

      by_packed : (text : Bytes) (o : Option PackedFile) → packed_file r.kind text ≡ o → MatchOption o ⊥ (PackedAgrees r) → bytes_at tree packed_place ≡ text → Packs
      by_packed text None is agrees e = absurd agrees
      by_packed text (Some packed) is agrees e = record {
        packed = packed;
        read = ap (packed_file r.kind) e ∙ is;
        records = ap (records_in r.kind) e ∙ file_records r.kind text packed is;
        agrees = agrees;
      }

      by_file : (o : Option Bytes) → file_at tree packed_place ≡ o → Packs
      by_file None at = by_packed [] (Some (record { returns = false; sorted = false; records = [] })) refl no_records (ap (λ (o : Option Bytes). unwrap_or o []) at)
      by_file (Some text) at = by_packed text (packed_file r.kind text) refl (s.holds.packed text at) (ap (λ (o : Option Bytes). unwrap_or o []) at)

  agrees_form : is_packed_form packs.packed ≡ true
  agrees_form = packs.agrees.0

  -- a name reads by its file, else by its record
  reads_by : (name : Bytes) → is_name name ≡ true → name_state r.kind tree name ≡ unwrap_or (option_map (loose_state r.kind) (file_at tree name)) (packed_state name packs.packed)
  reads_by name named =
      ap (λ b. cond b (unwrap_or (option_map (loose_state r.kind) (file_at tree name)) (packed_read r.kind name (file_at tree packed_place))) Absent) named
      ∙ ap (unwrap_or (option_map (loose_state r.kind) (file_at tree name))) (read_by r.kind name (file_at tree packed_place) packs.packed packs.read)

  -- a symbolic name has a file
  has_file : (name target : Bytes) → name_state r.kind tree name ≡ states.Symbolic target → (is_name name ≡ true) × (is_file_at tree name ≡ true)
  has_file name target reads = by_name (is_name name) refl
    where
      no_symbol : {A : Type 0} → packed_state name packs.packed ≡ states.Symbolic target → A
      no_symbol e = absurd (never_symbolic name packs.packed target e)

      by_text : is_name name ≡ true → (o : Option Bytes) → file_at tree name ≡ o → unwrap_or (option_map (loose_state r.kind) o) (packed_state name packs.packed) ≡ states.Symbolic target → (is_name name ≡ true) × (is_file_at tree name ≡ true)
      by_text named None at e = no_symbol e
      by_text named (Some text) at e = (named, ap is_some at)

      by_name : (b : Bool) → is_name name ≡ b → (is_name name ≡ true) × (is_file_at tree name ≡ true)
      by_name false is =
          clash refl (sym (ap is_absent (sym reads ∙ ap (λ b. cond b (unwrap_or (option_map (loose_state r.kind) (file_at tree name)) (packed_read r.kind name (file_at tree packed_place))) Absent) is)))
      by_name true is = by_text is (file_at tree name) refl (sym (reads_by name is) ∙ reads)

  -- a name exists if it reads as something
  reads_stands : (name : Bytes) → is_absent (name_state r.kind tree name) ≡ false → stands r name ≡ true
  reads_stands name some = by_state (name_state r.kind tree name) refl some
    where
      held : (id : Id) → id_at r name ≡ Some id → stands r name ≡ true
      held id at = go (get r.names name) at
        where
          go : (o : Option Reference) → option_map (λ (ref : Reference). ref.id) o ≡ Some id → is_some o ≡ true
          go None e = cc
          go (Some ref) e = refl

      by_file : (state : NameState) → name_state r.kind tree name ≡ state → ((id : Id) → state ≢ states.Holds id) → (is_name name ≡ true) × (is_file_at tree name ≡ true) → stands r name ≡ true
      by_file state is none there =
          let found = below_refs name there.1 (name_front name there.0) in
          absurd (none found.id (sym is ∙ found.reads))

      faulty_file : name_state r.kind tree name ≡ states.Faulty → (is_name name ≡ true) × (is_file_at tree name ≡ true)
      faulty_file reads = by_name (is_name name) refl
        where
          by_text : is_name name ≡ true → (o : Option Bytes) → file_at tree name ≡ o → unwrap_or (option_map (loose_state r.kind) o) (packed_state name packs.packed) ≡ states.Faulty → (is_name name ≡ true) × (is_file_at tree name ≡ true)
          by_text named None at e = absurd (never_faulty name packs.packed e)
          by_text named (Some text) at e = (named, ap is_some at)

          by_name : (b : Bool) → is_name name ≡ b → (is_name name ≡ true) × (is_file_at tree name ≡ true)
          by_name false is =
              clash refl (sym (ap is_absent (sym reads ∙ ap (λ b. cond b (unwrap_or (option_map (loose_state r.kind) (file_at tree name)) (packed_read r.kind name (file_at tree packed_place))) Absent) is)))
          by_name true is = by_text is (file_at tree name) refl (sym (reads_by name is) ∙ reads)

      by_state : (state : NameState) → name_state r.kind tree name ≡ state → is_absent state ≡ false → stands r name ≡ true
      by_state (states.Holds id) is some = held id ((s.holds.names name id).0 is)
      by_state (states.Symbolic target) is some = by_file (states.Symbolic target) is (λ id e. cc) (has_file name target is)
      by_state states.Absent is some = absurd (cc some)
      by_state states.Faulty is some = by_file states.Faulty is (λ id e. cc) (faulty_file is)

  held_kind : (id : Id) (o : Option Value) → is_some (option_and_then (peeled_value id) o) ≡ true → (option_map (λ (fact : Fact). fact.kind) (option_map fact_of o) ≡ None) ⊎ (is_of_wrong_kind (option_map (λ (fact : Fact). fact.kind) (option_map fact_of o)) ≡ true) → ⊥
  held_kind id None h e = absurd (cc h)
  held_kind id (Some (StoredCommit commit)) h (inl none) = cc
  held_kind id (Some (StoredCommit commit)) h (inr wrong) = cc
  held_kind id (Some (StoredTag tag)) h (inl none) = cc
  held_kind id (Some (StoredTag tag)) h (inr wrong) = cc
  held_kind id (Some (StoredBytes bytes)) h e = absurd (cc h)
  held_kind id (Some (StoredFolder files)) h e = absurd (cc h)

  log_told : (path text : Bytes) → is_log_place path ≡ true → file_at tree path ≡ Some text → text ≡ log_text (moves_at r (log_name path))
  log_told path text front at =
      ap (λ (o : Option Bytes). unwrap_or o []) (sym at) ∙ ap (λ p. unwrap_or (file_at tree p) []) (begins_parts (codes "logs/") path front) ∙ s.holds.logs (log_name path)

  log_formed : (name : Bytes) → list_all (is_log_entry r.kind) (moves_at r name) ≡ true
  log_formed name = go (get r.names name) refl
    where
      go : (o : Option Reference) → get r.names name ≡ o → list_all (is_log_entry r.kind) (unwrap_or (option_map (λ (ref : Reference). ref.moves) o) []) ≡ true
      go None is = refl
      go (Some ref) is = (and_parts (is_id r.kind ref.id) (list_all (is_log_entry r.kind) ref.moves) (and_parts (is_name name && not (is_private name)) (is_reference r.kind ref) (s.names name ref is)).1).1

  a_folder : (o : Option Node) → is_folder o ≡ true → o ≡ Some folder
  a_folder None h = cc
  a_folder (Some (file bytes)) h = cc
  a_folder (Some folder) h = refl

  may_hold : (path : Bytes) → Stands path → may_hold_file path ≡ false → ⊥
  may_hold path where_it_is none =
      let log = or_parts (bytes_eq path head_place || bytes_eq path packed_place || is_lock_file path || begins refs_front path) (is_log_place path) none in
      let refs = or_parts (bytes_eq path head_place || bytes_eq path packed_place || is_lock_file path) (begins refs_front path) log.0 in
      elim where_it_is [
        | inl head ↦ clash (ap may_hold_file head) none
        | inr (inl packed) ↦ clash (ap may_hold_file packed) none
        | inr (inr (inl name)) ↦ clash (name_front path name.named) refs.1
        | inr (inr (inr it)) ↦ clash it.0 log.1
      ]

  unlocked : (path : Bytes) → Stands path → is_lock_file path ≡ true → ⊥
  unlocked path where_it_is lock = elim where_it_is [
    | inl head ↦ clash lock (ap is_lock_file head)
    | inr (inl packed) ↦ clash lock (ap is_lock_file packed)
    | inr (inr (inl name)) ↦ clash lock (name-lock path name.named)
    | inr (inr (inr it)) ↦ clash lock (ap is_lock_file (begins_parts (codes "logs/") path it.0) ∙ log-lock (log_name path) it.1.named)
  ]

  apart : {a b : NameState} → is_absent a ≡ true → is_absent b ≡ false → a ≡ b → ⊥
  apart p q e = clash p (ap is_absent e ∙ q)

  good_file : is_packed_text r.kind (bytes_at tree packed_place) ≡ true
  good_file = ap (λ o. unwrap_or (option_map is_good_file o) false) packs.read ∙ form_good packs.packed agrees_form

  no_private : {A : Type 0} (name : Bytes) → has_record r.kind tree name ≡ true → is_private name ≡ true → A
  no_private name there private =
      let has = subst (λ rs. list_any (bytes_eq name) (record_names rs) ≡ true) packs.records there in
      let one = one_passes (bytes_eq name) (record_names packs.packed.records) has in
      clash (passes_one is_private (record_names packs.packed.records) one.0 one.1 (ap is_private (sym (one_text name one.0 one.2)) ∙ private))
      (form_public packs.packed agrees_form)

  -- a record's peeled id is its tag's commit
  well_peeled : (entry : Record) → Contains packs.packed.records entry → is_well_peeled facts entry ≡ true
  well_peeled entry among = go entry.peeled refl (all_of (PeelAgrees r) packs.packed.records (packs.agrees).1 entry among)
    where
      of_tag : (commit : Id) (o : Option Value) → unwrap_or (option_map is_tag_value o) false ≡ true → option_and_then (peeled_value entry.target) o ≡ Some commit → is_tag_of (option_map fact_of o) commit ≡ true
      of_tag commit None tag is = cc
      of_tag commit (Some (StoredTag value)) tag is = ap (id_eq commit) (inside is) ∙ id_itself commit
      of_tag commit (Some (StoredCommit value)) tag is = cc
      of_tag commit (Some (StoredBytes value)) tag is = cc
      of_tag commit (Some (StoredFolder value)) tag is = cc

      go : (o : Option Id) → entry.peeled ≡ o → IfSome entry.peeled (λ commit. IsTrue (is_tag r entry.target) × (peeled r entry.target ≡ Some commit)) → is_well_peeled facts entry ≡ true
      go None is agrees = ap (λ o. unwrap_or (option_map (λ commit. is_tag_of (facts entry.target) commit) o) true) is
      go (Some commit) is agrees =
          let both = subst (λ o. IfSome o (λ commit. IsTrue (is_tag r entry.target) × (peeled r entry.target ≡ Some commit))) is agrees in
          ap (λ o. unwrap_or (option_map (λ commit. is_tag_of (facts entry.target) commit) o) true) is
          ∙ ap (λ fact. is_tag_of fact commit) (are entry.target) ∙ of_tag commit (get r.objects entry.target) both.0 both.1

  -- no cause holds but these two
  pub no_cause : (A : Type 0) (error : OpenError) → HasCause A r.kind facts tree error → IsOpenFault error
  no_cause A NoHead h = cc (sym h ∙ s.holds.head)
  no_cause A BadHead h = h.bad r.branch s.branch (inside (sym h.stands ∙ s.holds.head))
  no_cause A (Stray path) (inl (there, none)) = may_hold path.items (file_there path.items there) none
  no_cause A (Stray path) (inr (there, none)) = clash (s.holds.folders path.items (a_folder (get tree path.items) there)) none
  no_cause A (Unfinished path) h = unlocked path.items (file_there path.items h.0) h.1
  no_cause A (BadName path) h = let name = below_refs path.items h.stands h.below in elim h.bad [
    | inl none ↦ clash name.named none
    | inr faulty ↦ cc (sym name.reads ∙ faulty)
  ]
  no_cause A (PrivateName name) h = elim (or_cases (is_file_at tree name.items) (has_record r.kind tree name.items) h.0) [
    | inl there ↦ clash h.1 (below_refs name.items there (private_front name.items h.1)).common
    | inr there ↦ no_private name.items there h.1
  ]
  no_cause A (Symbolic name) h = let found = has_file name.items h.0 h.1 in cc (sym (below_refs name.items found.1 (name_front name.items found.0)).reads ∙ h.1)
  no_cause A (Missing id (Name name)) h = held_kind (id_of id) (get r.objects (id_of id)) (s.whole.held name.items (id_of id) ((s.holds.names name.items (id_of id)).0 h.0)) (inl (ap (option_map (λ (fact : Fact). fact.kind)) (sym (are (id_of id))) ∙ h.1))
  no_cause A (WrongKind id (Name name)) h = held_kind (id_of id) (get r.objects (id_of id)) (s.whole.held name.items (id_of id) ((s.holds.names name.items (id_of id)).0 h.0)) (inr (ap (λ o. is_of_wrong_kind (option_map (λ (fact : Fact). fact.kind) o)) (sym (are (id_of id))) ∙ h.1))
  no_cause A (BadPacked number) h = clash (first_stand r.kind (bytes_at tree packed_place) good_file number) h.bad
  no_cause A (BadPeeled name) h = clash (well_peeled h.entry (subst (λ rs. Contains rs h.entry) packs.records h.among)) h.wrong
  no_cause A (Collides name other) h =
      clash h.0 (s.whole.apart name.items other.items (reads_stands name.items h.1) (reads_stands other.items h.2))
  no_cause A (BadLog path number) h = no_bad_line r.kind (moves_at r (log_name path.items)) h.text number (log_formed (log_name path.items)) (log_told path.items h.text h.place h.stands) h.what
  no_cause A (LongLogLine path number) h = no_long_line r.kind (moves_at r (log_name path.items)) h.text number (log_formed (log_name path.items)) (log_told path.items h.text h.place h.stands) h.what
  no_cause A (LogWithoutName path) h = clash h.2 (ap is_absent (below_logs path.items h.0 h.1).reads)
  no_cause A File h = tt
  no_cause A Memory h = tt
  no_cause A _ h = absurd h
