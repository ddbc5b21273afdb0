-- What a full name reads as, by its file and by records.
use Rattle.std.proofs.Common.{◌≡◌, ◌∙◌, refl, sym, ap, subst, ℕ, Bool, true, false, cond, ◌&&◌, not, List, [], ◌∷◌, ◌++◌, Option, Some, None, option_map, append-nil}
use Rattle.std.specs.Prelude.{Result, Ok, Err, MatchResult, is_some, option_and_then, codes}
use Rattle.std.specs.Borrow.{Bor}
use Rattle.gix_hash.specs.Id.{Id}
use Rattle.gix_object_lines.specs.NameTest.{is_full_name}
use Rattle.gix_ref_file.specs.Tree.{Tree}
use Rattle.gix_ref_name.specs.Targets.{Points, target_view}
use Rattle.gix_ref_name.specs.declared.target.Target.{Target}
use Rattle.gix_ref_format.specs.Packed.{Record}
use Rattle.gix_ref_format.specs.PackedBuffer.{hit, KeepsFile}
use Rattle.gix_ref_format.specs.PackedKept.{kept}
use Rattle.gix_ref_format.specs.Lookup.{packed_key, packed_hit, lookup_names, tag_names, word_names, placed, is_complete}
use Rattle.gix_ref_format.specs.declared.packed.buffer.Buffer.{Buffer}
use Rattle.gix_ref_store.specs.Places.{Base}
use Rattle.gix_ref_store.specs.RefStates.{RefState, Stands, Absent, Faulty, InFile, InRecords, loose_state, packed_state, read_by, state_among, loose_text_at, packed_text_in, records_of, told_by, ref_state, first_met, met_or, IsFaulty, Met}
use Rattle.gix_ref_store.specs.Finds.{met_of, state_of, records_in, TellsState, TellsFile, LookupFault, FindFault, OpenedFault, FindsOpened}
use Rattle.gix_ref_store.specs.Searches.{Finds}
use Rattle.gix_ref_format.specs.Loose.{loose_target}
use Rattle.gix_ref_store.proofs.MetLemmas.{found_first, fault_first, one_name}
use Rattle.gix_ref_store.specs.declared.reference.Reference.{Reference}
use Rattle.gix_ref_store.specs.declared.store.file.find.Error.{Error}
use Rattle.gix_ref_store.specs.declared.store.file.find.Error.TheVariants.{ReadFileContents, ReferenceCreation, PackedOpen, Memory}
use Rattle.std.proofs.lemmas.Bool.{and_parts, not-true}

-- ---- records

none_packed : (name : List ℕ) → packed_hit [] name ≡ None
none_packed name = by_key (packed_key name)
  where
    by_key : (key : Option (List ℕ)) → option_and_then (hit []) key ≡ None
    by_key None = refl
    by_key (Some k) = refl

pub none_without : (name : List ℕ) → packed_state (packed_hit [] name) ≡ Absent
none_without name = ap packed_state (none_packed name)

pub told_record : (records : List Record) (n name : List ℕ) (found : Option Record) → found ≡ packed_hit records n → n ≡ name → packed_state (packed_hit records name) ≡ packed_state found
told_record records n name found is same = ap packed_state (sym (is ∙ ap (packed_hit records) same))

-- a buffer's records are those of what holds it
pub some_records : (o : Option (Bor Buffer)) (p : Bor Buffer) (name : List ℕ) (found : Option Reference) → o ≡ Some p → TellsState name (packed_state (packed_hit (kept p.now) name)) (Ok found)
    → TellsState name (packed_state (packed_hit (records_in o) name)) (Ok found)
some_records o p name found is told = subst (λ (x : Option (Bor Buffer)). TellsState name (packed_state (packed_hit (records_in x) name)) (Ok found)) (sym is) told

-- ---- a full name

pub among_full : (b : Base) (tree : Tree) (records : List Record) (name : List ℕ) → is_full_name name ≡ true
    → state_among b tree records name ≡ read_by b.kind (loose_text_at b tree name) (packed_state (packed_hit records name))
among_full b tree records name full = ap (λ t. cond t (read_by b.kind (loose_text_at b tree name) (packed_state (packed_hit records name))) Absent) full

pub file_found : (b : Base) (tree : Tree) (records : List Record) (n name : List ℕ) (target : Target) → n ≡ name → is_full_name name ≡ true
    → TellsFile b.kind (loose_text_at b tree n) (Ok (Some target)) → state_among b tree records name ≡ Stands (target_view target) None
file_found b tree records n name target same full told =
    among_full b tree records name full ∙ sym (ap (λ x. read_by b.kind (loose_text_at b tree x) (packed_state (packed_hit records name))) same) ∙ told (packed_state (packed_hit records name))

pub file_absent : (b : Base) (tree : Tree) (records : List Record) (n name : List ℕ) → n ≡ name → is_full_name name ≡ true
    → TellsFile b.kind (loose_text_at b tree n) (Ok None) → state_among b tree records name ≡ packed_state (packed_hit records name)
file_absent b tree records n name same full told =
    among_full b tree records name full ∙ sym (ap (λ x. read_by b.kind (loose_text_at b tree x) (packed_state (packed_hit records name))) same) ∙ told (packed_state (packed_hit records name))

pub then_packed : (b : Base) (tree : Tree) (records : List Record) (n name : List ℕ) (found : Option Reference) → n ≡ name → is_full_name name ≡ true
    → TellsFile b.kind (loose_text_at b tree n) (Ok None) → TellsState name (packed_state (packed_hit records name)) (Ok found) → TellsState name (state_among b tree records name) (Ok found)
then_packed b tree records n name found same full told packed =
    subst (λ r. TellsState name r (Ok found)) (sym (file_absent b tree records n name same full told)) packed

pub file_fault : (b : Base) (tree : Tree) (records : List Record) (n name : List ℕ) (error : Error) → n ≡ name → is_full_name name ≡ true
    → TellsFile b.kind (loose_text_at b tree n) (Err error) → TellsState name (state_among b tree records name) (Err error)
file_fault b tree records n name (ReferenceCreation e) same full told =
    among_full b tree records name full ∙ sym (ap (λ x. read_by b.kind (loose_text_at b tree x) (packed_state (packed_hit records name))) same) ∙ told (packed_state (packed_hit records name))
file_fault b tree records n name (PackedOpen e) same full told = told
file_fault b tree records n name ReadFileContents same full told = tt
file_fault b tree records n name Memory same full told = tt

-- ---- the first name of a word

abbrev pub TellsFirst : (List ℕ → RefState) → List ℕ → Result (Option Reference) Error → Type 0
TellsFirst read word result = (first : List ℕ) × (rest : List (List ℕ)) × (lookup_names word ≡ first ∷ rest) × TellsState first (read first) result

pub complete_names : (word : List ℕ) → is_complete word ≡ true → lookup_names word ≡ word ∷ []
complete_names word is = ap (λ t. cond t (word ∷ []) (word_names word)) is

pub word_names_are : (word : List ℕ) → is_complete word ≡ false → lookup_names word ≡ word_names word
word_names_are word is = ap (λ t. cond t (word ∷ []) (word_names word)) is

pub complete_first : (read : List ℕ → RefState) (word : List ℕ) (result : Result (Option Reference) Error) → is_complete word ≡ true
    → TellsState (word ++ []) (read (word ++ [])) result → TellsFirst read word result
complete_first read word result is told = (word, [], complete_names word is, subst (λ n. TellsState n (read n) result) (append-nil word) told)

pub word_first : (read : List ℕ → RefState) (word : List ℕ) (result : Result (Option Reference) Error) → is_complete word ≡ false
    → TellsState (placed (codes "refs/") word []) (read (placed (codes "refs/") word [])) result → TellsFirst read word result
word_first read word result is told = (placed (codes "refs/") word [], tag_names word, word_names_are word is, told)

-- ---- the records of the tree

-- what the name's own file says decides, whatever is packed
own_file : (b : Base) (tree : Tree) (name : List ℕ) (r : RefState) → state_among b tree [] name ≡ r → (r ≡ Absent → ⊥) → ref_state b tree name ≡ r
own_file b tree name r is some = by_full (is_full_name name) (loose_text_at b tree name) (none_without name) is
  where
    by_full : (full : Bool) (text : Option (List ℕ)) → packed_state (packed_hit [] name) ≡ Absent → cond full (read_by b.kind text (packed_state (packed_hit [] name))) Absent ≡ r
        → cond full (read_by b.kind text (told_by (records_of b.kind (packed_text_in b tree)) name)) Absent ≡ r
    by_full true (Some text) none is = is
    by_full true None none is = absurd (some (sym is ∙ none))
    by_full false text none is = is

pub stands_by_file : (b : Base) (tree : Tree) (name : List ℕ) (r : Reference) → TellsState name (state_among b tree [] name) (Ok (Some r)) → TellsState name (ref_state b tree name) (Ok (Some r))
stands_by_file b tree name r (same, is) = (same, own_file b tree name (state_of r) is (λ e. cc))

pub faulty_by_file : (b : Base) (tree : Tree) (name : List ℕ) (error : Error) → TellsState name (state_among b tree [] name) (Err error) → TellsState name (ref_state b tree name) (Err error)
faulty_by_file b tree name (ReferenceCreation e) is = own_file b tree name (Faulty (InFile e)) is (λ h. cc)
faulty_by_file b tree name (PackedOpen e) told = told
faulty_by_file b tree name ReadFileContents told = tt
faulty_by_file b tree name Memory told = tt

no_hit : (records : List Record) (key : Option (List ℕ)) → is_some key ≡ false → option_and_then (hit records) key ≡ None
no_hit records None no_key = refl
no_hit records (Some k) no_key = cc

told_none : (records : Option (List Record)) (name : List ℕ) → is_some (packed_key name) ≡ false → told_by records name ≡ Absent
told_none None name no_key = ap (λ b. cond b (Faulty InRecords) Absent) no_key
told_none (Some records) name no_key = ap packed_state (no_hit records (packed_key name) no_key)

-- a full name that has no record and no file reads as absent
pub absent_unpacked : (b : Base) (tree : Tree) (name : List ℕ) → is_some (packed_key name) ≡ false → state_among b tree [] name ≡ Absent → ref_state b tree name ≡ Absent
absent_unpacked b tree name no_key is = by_full (is_full_name name) (loose_text_at b tree name) is
  where
    by_full : (full : Bool) (text : Option (List ℕ)) → cond full (read_by b.kind text (packed_state (packed_hit [] name))) Absent ≡ Absent
        → cond full (read_by b.kind text (told_by (records_of b.kind (packed_text_in b tree)) name)) Absent ≡ Absent
    by_full true (Some text) is = is
    by_full true None is = told_none (records_of b.kind (packed_text_in b tree)) name no_key
    by_full false text is = refl

same_hits : (one other : List Record) (key : Option (List ℕ)) → ((n : List ℕ) → hit one n ≡ hit other n) → option_and_then (hit one) key ≡ option_and_then (hit other) key
same_hits one other None same = refl
same_hits one other (Some k) same = same k

-- the records that a buffer keeps say what the tree's say
pub kept_reads : (b : Base) (tree : Tree) (records : List Record) (name : List ℕ) → KeepsFile b.kind (packed_text_in b tree) (Some records) → state_among b tree records name ≡ ref_state b tree name
kept_reads b tree records name keeps = by_text (packed_text_in b tree) keeps
  where
    by_text : (text : Option (List ℕ)) → KeepsFile b.kind text (Some records)
        → state_among b tree records name ≡ cond (is_full_name name) (read_by b.kind (loose_text_at b tree name) (told_by (records_of b.kind text) name)) Absent
    by_text None keeps = absurd keeps
    by_text (Some text) keeps =
        ap (λ found. cond (is_full_name name) (read_by b.kind (loose_text_at b tree name) (packed_state found)) Absent) (same_hits records keeps.0 (packed_key name) keeps.2.first)
        ∙ sym (ap (λ all. cond (is_full_name name) (read_by b.kind (loose_text_at b tree name) (told_by all name)) Absent) keeps.1)

-- if no records are packed, there are none
pub none_reads : (b : Base) (tree : Tree) (name : List ℕ) → KeepsFile b.kind (packed_text_in b tree) None → state_among b tree [] name ≡ ref_state b tree name
none_reads b tree name keeps = by_text (packed_text_in b tree) keeps
  where
    by_text : (text : Option (List ℕ)) → KeepsFile b.kind text None → state_among b tree [] name ≡ cond (is_full_name name) (read_by b.kind (loose_text_at b tree name) (told_by (records_of b.kind text) name)) Absent
    by_text None keeps = refl
    by_text (Some text) keeps = absurd keeps

alike : (one other : List ℕ → RefState) → ((n : List ℕ) → one n ≡ other n) → (names : List (List ℕ)) → first_met one names ≡ first_met other names
alike one other same [] = refl
alike one other same (name ∷ names) = ap (λ x. met_or name x (first_met one names)) (same name) ∙ ap (met_or name (other name)) (alike one other same names)

opened_fault : (b : Base) (tree : Tree) (met : Option Met) (error : Error) → LookupFault met error → OpenedFault b tree met error
opened_fault b tree met (ReferenceCreation e) is = is
opened_fault b tree met (PackedOpen e) is = absurd is
opened_fault b tree met ReadFileContents is = tt
opened_fault b tree met Memory is = tt

pub finds_opened : (b : Base) (tree : Tree) (records : List Record) (names : List (List ℕ)) (result : Result (Option Reference) Error) → ((n : List ℕ) → state_among b tree records n ≡ ref_state b tree n)
    → Finds (state_among b tree records) names result → FindsOpened b tree names result
finds_opened b tree records names (Ok found) same finds = finds ∙ alike (state_among b tree records) (ref_state b tree) same names
finds_opened b tree records names (Err error) same finds =
    opened_fault b tree (first_met (ref_state b tree) names) error (subst (λ met. LookupFault met error) (alike (state_among b tree records) (ref_state b tree) same names) finds)

-- ---- a lookup by the first name, and then by all

pub found_by_first : (b : Base) (tree : Tree) (word : List ℕ) (r : Reference) → TellsFirst (state_among b tree []) word (Ok (Some r)) → Some (met_of r) ≡ first_met (ref_state b tree) (lookup_names word)
found_by_first b tree word r (first, rest, names, told) = found_first (ref_state b tree) first rest r (stands_by_file b tree first r told) ∙ sym (ap (first_met (ref_state b tree)) names)

pub fault_by_first : (b : Base) (tree : Tree) (word : List ℕ) (error : Error) → TellsFirst (state_among b tree []) word (Err error)
    → FindFault b tree (lookup_names word) (first_met (ref_state b tree) (lookup_names word)) error
fault_by_first b tree word (ReferenceCreation e) (first, rest, names, told) =
    subst (IsFaulty (InFile e)) (sym (ap (first_met (ref_state b tree)) names)) (fault_first (ref_state b tree) first rest (ReferenceCreation e) (faulty_by_file b tree first (ReferenceCreation e) told))
fault_by_first b tree word (PackedOpen e) (first, rest, names, told) = absurd told
fault_by_first b tree word ReadFileContents told = tt
fault_by_first b tree word Memory told = tt

list_head : {a b : List ℕ} {xs ys : List (List ℕ)} → a ∷ xs ≡ b ∷ ys → a ≡ b
list_head e = cc

pub none_unpacked : (b : Base) (tree : Tree) (word : List ℕ) → (is_complete word && not (is_some (packed_key word))) ≡ true → TellsFirst (state_among b tree []) word (Ok None)
    → None ≡ first_met (ref_state b tree) (lookup_names word)
none_unpacked b tree word is (first, rest, names, told) =
    let p = and_parts (is_complete word) (not (is_some (packed_key word))) is in
    let one = complete_names word p.0 in
    let same : word ≡ first = list_head (sym one ∙ names) in
    let absent = absent_unpacked b tree word (not-true (is_some (packed_key word)) p.1) (ap (state_among b tree []) same ∙ told) in
    sym (ap (first_met (ref_state b tree)) one ∙ ap (λ x. met_or word x None) absent)

pub then_opened : (b : Base) (tree : Tree) (word : List ℕ) (result : Result (Option Reference) Error) → TellsFirst (state_among b tree []) word (Ok None) → FindsOpened b tree (lookup_names word) result
    → MatchResult result (λ found. option_map met_of found ≡ first_met (ref_state b tree) (lookup_names word)) (FindFault b tree (lookup_names word) (first_met (ref_state b tree) (lookup_names word)))
then_opened b tree word (Ok found) first finds = finds
then_opened b tree word (Err (ReferenceCreation e)) first finds = finds
then_opened b tree word (Err (PackedOpen e)) (first, rest, names, told) finds = record { why = finds; first = first; rest = rest; names_are = names; no_file = told }
then_opened b tree word (Err ReadFileContents) first finds = tt
then_opened b tree word (Err Memory) first finds = tt

-- ---- files alone

only_files : (b : Base) (tree : Tree) (name : List ℕ) (points : Points) (peeled : Option Id) → state_among b tree [] name ≡ Stands points peeled → peeled ≡ None
only_files b tree name points peeled is = by_full (is_full_name name) (loose_text_at b tree name) (none_without name) is
  where
    by_target : (text : List ℕ) (o : Option Points) → loose_state text o ≡ Stands points peeled → peeled ≡ None
    by_target text None h = cc
    by_target text (Some p) h = cc

    by_full : (full : Bool) (text : Option (List ℕ)) → packed_state (packed_hit [] name) ≡ Absent → cond full (read_by b.kind text (packed_state (packed_hit [] name))) Absent ≡ Stands points peeled → peeled ≡ None
    by_full true (Some text) none is = by_target text (loose_target b.kind text) is
    by_full true None none is = absurd (clash (sym none ∙ is))
      where
        clash : Absent ≡ Stands points peeled → ⊥
        clash e = cc
    by_full false text none is = cc

abbrev peeled_in : RefState → Option Id
peeled_in (Stands points peeled) = peeled
peeled_in Absent = None
peeled_in (Faulty why) = None

abbrev peeled_met : Option Met → Option Id
peeled_met None = None
peeled_met (Some met) = peeled_in met.ref_state

abbrev stands_in : RefState → Bool
stands_in (Stands points peeled) = true
stands_in Absent = false
stands_in (Faulty why) = false

abbrev stands_met : Option Met → Bool
stands_met None = false
stands_met (Some met) = stands_in met.ref_state

apart : true ≡ false → ⊥
apart e = cc

-- a reference that was found among files alone has no peeled id
pub no_peeled : (b : Base) (tree : Tree) (names : List (List ℕ)) (name : List ℕ) (points : Points) (peeled : Option Id)
    → Some (record { name = name; ref_state = Stands points peeled }) ≡ first_met (state_among b tree []) names → peeled ≡ None
no_peeled b tree [] name points peeled is = absurd (apart (ap stands_met is))
no_peeled b tree (first ∷ names) name points peeled is = by_state (state_among b tree [] first) refl is (λ later. no_peeled b tree names name points peeled later)
  where
    by_state : (r : RefState) → state_among b tree [] first ≡ r → Some (record { name = name; ref_state = Stands points peeled }) ≡ met_or first r (first_met (state_among b tree []) names)
        → (Some (record { name = name; ref_state = Stands points peeled }) ≡ first_met (state_among b tree []) names → peeled ≡ None) → peeled ≡ None
    by_state Absent r_is is later = later is
    by_state (Faulty why) r_is is later = absurd (apart (ap stands_met is))
    by_state (Stands p q) r_is is later = let same : peeled ≡ q = ap (λ o. peeled_met o) is in same ∙ only_files b tree first p q r_is

-- ---- all names of a word

pub complete_finds : (read : List ℕ → RefState) (word : List ℕ) (result : Result (Option Reference) Error) → is_complete word ≡ true → TellsState (word ++ []) (read (word ++ [])) result → Finds read (lookup_names word) result
complete_finds read word result is told =
    subst (λ names. Finds read names result) (sym (complete_names word is)) (one_name read word result (subst (λ n. TellsState n (read n) result) (append-nil word) told))

pub word_finds : (read : List ℕ → RefState) (word : List ℕ) (result : Result (Option Reference) Error) → is_complete word ≡ false → Finds read (word_names word) result → Finds read (lookup_names word) result
word_finds read word result is finds = subst (λ names. Finds read names result) (sym (word_names_are word is)) finds

pub word_fault : (read : List ℕ → RefState) (word : List ℕ) (error : Error) → is_complete word ≡ false → LookupFault (first_met read (word_names word)) error → LookupFault (first_met read (lookup_names word)) error
word_fault read word error is fault = subst (λ names. LookupFault (first_met read names) error) (sym (word_names_are word is)) fault
