-- What a commit is based on, and the causes that its words, its name and its parents give.
use Rattle.std.specs.declared.alloc.Global.{Global}
use Rattle.std.specs.Prelude.{Vec, Result, IsErrOf, MatchOption, ⊤, option_and_then}
use Rattle.std.proofs.lemmas.Option.{same_Some}
use Rattle.std.proofs.Common.{◌≡◌, ℕ, zero, suc, arith, ◌+◌, ◌<◌, length, take, get_or, Bool, true, false, cond, not, ◌||◌, ◌==◌, List, [], ◌∷◌, ◌++◌, map, filter, refl, sym, ◌∙◌, ap, subst, Option, Some, None, is_some, option_map, option_to_list, Err}
use Rattle.std.specs.List.{AllByRecursion, cons_option, list_any, filter_map, flat_map}
use Rattle.std.proofs.lemmas.List.{map-append, take_more}
use Rattle.history_model.specs.Bytes.{Bytes}
use Rattle.gix_hash.specs.Id.{Id, id_of}
use Rattle.gix_hash.specs.Order.{id_eq}
use Rattle.history_model.specs.Repository.{IsWholeStore, Repository, stands}
use Rattle.history_model.specs.Words.{commit_of, word_meaning}
use Rattle.history_model.proofs.WholeReads.{read_holds}
use Rattle.history_model.specs.Commands.{Commit, CommitCommand, EditLine, PutLine, RemoveLine, RemoveFileLine, GraftLine, Expect, Any, New, At}
use Rattle.history_model.specs.CommandParts.{at_word, edit_words}
use Rattle.history_model.specs.Meaning.{branch_or_name, name_commit, parents_of}
use Rattle.history_model.specs.Causes.{is_new, is_at, is_elsewhere, same_id}
use Rattle.history_model.specs.declared.Cause.{Cause}
use Rattle.history_model.specs.declared.Cause.TheVariants.{NoSuchName, Taken, NotExpected}
use Rattle.history_word.specs.Commands.{IsExpect}
use Rattle.gix_hash.specs.declared.object_id.ObjectId.{ObjectId}
use Rattle.history_repository.specs.Reads.{IsReadingFault, GivesMeant}
use Rattle.history_plans.specs.Bases.{IsExpected, IsHeldSource, IsRootedSource, IsRootedWord, expected_meanings, line_word, source_id, held_cause, parents_cause}
use Rattle.history_repository.specs.Meanings.{HasRootIn, words_cause, reads_as, commit_in, commit_or_cause, meaning_of, peeled_in}
use Rattle.history_repository.specs.Meant.{HasRoot, peeled_id}
use Rattle.history_repository.specs.declared.stored.PeeledCommit.{PeeledCommit}
use Rattle.history_plans.specs.CommitCauses.{first_among, word_causes, held_causes, parent_causes, IsToldBy, Tests}
use Rattle.history_repository.specs.declared.words.WordMeaning as own
use Rattle.history_repository.specs.declared.words.WordMeaning.TheVariants as read
use Rattle.history_repository.specs.Held.{IsHeld, held_commit, held_peeled}
use Rattle.history_repository.specs.declared.held.Held.{Held}
use Rattle.history_plans.specs.declared.base.Expected.{Expected}
use Rattle.history_plans.specs.declared.base.Expected.TheVariants as expected
use Rattle.history_repository.specs.declared.stopped.Stopped.{Stopped}
use Rattle.history_repository.specs.declared.stopped.Stopped.TheVariants.{Refused, Fault}
use Rattle.history_repository.proofs.WordCauses.{any_map, commit_told, commits_told, words_told}
use Rattle.history_repository.proofs.HeldLemmas.{commit_stands}
use Rattle.gix_ref_file.specs.declared.files.FileError.{FileError}
use Rattle.gix_ref_file.specs.declared.files.FileError.TheVariants.{Failed, Memory}
use Rattle.history_repository.specs.Faults.{file_fault}
use Rattle.history_repository.proofs.NameReads.{held}
use Rattle.history_files.proofs.Lines.{map_twice}
use Rattle.history_word.specs.declared.command.Expect.TheVariants as expects

-- ---- what is expected

pub at_sent : (r : Repository) (word : Vec ℕ Global) (meaning : own.WordMeaning) (expect : Expect) → IsExpect (expects.At word) expect → meaning_of meaning ≡ commit_or_cause r word.items → IsExpected r expect (expected.At meaning)
at_sent r word meaning Any h is = absurd h
at_sent r word meaning New h is = absurd h
at_sent r word meaning (At bytes) h is = is ∙ ap (commit_or_cause r) h

-- a fault of reading is reported whatever the causes are
pub fault_told : (MayFail : Type 0) (causes : List Cause) (r : Repository) (sent : CommitCommand) (stopped : Stopped) → IsReadingFault MayFail stopped → IsToldBy MayFail causes r sent stopped
fault_told MayFail causes r sent (Refused cause) h = absurd h
fault_told MayFail causes r sent (Fault fault) h = h

pub gives_told : {A : Type 0} (MayFail : Type 0) (P : A → Type 0) (causes : List Cause) (r : Repository) (sent : CommitCommand) (result : Result A Stopped) (stopped : Stopped) → result ≡ Err stopped → GivesMeant MayFail P result → IsToldBy MayFail causes r sent stopped
gives_told {A} MayFail P causes r sent result stopped was gives = fault_told MayFail causes r sent stopped (subst (λ (x : Result A Stopped). GivesMeant MayFail P x) was gives)

-- ---- words

module _ (r : Repository) where
  first_option : {X : Type 0} {a b : Option X} {xs ys : List (Option X)} → a ∷ xs ≡ b ∷ ys → a ≡ b
  first_option e = cc

  rest_options : {X : Type 0} {a b : Option X} {xs ys : List (Option X)} → a ∷ xs ≡ b ∷ ys → xs ≡ ys
  rest_options e = cc

  -- what an edit's word reads as
  one_meant : (line : EditLine) (source : Option own.WordMeaning) (rest : List own.WordMeaning) → option_map meaning_of source ≡ option_map (commit_or_cause r) (line_word line)
      → map meaning_of (cons_option source rest) ≡ map (commit_or_cause r) (edit_words line) ++ map meaning_of rest
  one_meant (PutLine kind path bytes) None rest e = refl
  one_meant (PutLine kind path bytes) (Some m) rest e = cc
  one_meant (RemoveLine path) None rest e = refl
  one_meant (RemoveLine path) (Some m) rest e = cc
  one_meant (RemoveFileLine path) None rest e = refl
  one_meant (RemoveFileLine path) (Some m) rest e = cc
  one_meant (GraftLine path word source) None rest e = cc
  one_meant (GraftLine path word source) (Some m) rest e = ap (λ x. x ∷ map meaning_of rest) (same_Some (meaning_of m) (commit_or_cause r word) e)

  pub sources_meant : (lines : List EditLine) (sources : List (Option own.WordMeaning)) → map (option_map meaning_of) sources ≡ map (λ line. option_map (commit_or_cause r) (line_word line)) lines
      → map meaning_of (filter_map (λ source. source) sources) ≡ map (commit_or_cause r) (flat_map edit_words lines)
  sources_meant [] [] e = refl
  sources_meant [] (source ∷ sources) e = cc
  sources_meant (line ∷ lines) [] e = cc
  sources_meant (line ∷ lines) (source ∷ sources) e =
      one_meant line source (filter_map (λ source. source) sources) (first_option e)
      ∙ ap (λ xs. map (commit_or_cause r) (edit_words line) ++ xs) (sources_meant lines sources (rest_options e))
      ∙ sym (map-append (commit_or_cause r) (edit_words line) (flat_map edit_words lines))

  peeled_told : (m : own.WordMeaning) → option_map peeled_id (peeled_in m) ≡ option_map id_of (commit_in m)
  peeled_told (read.Commit commit) = refl
  peeled_told read.NoCommit = refl
  peeled_told read.Unborn = refl
  peeled_told read.Unknown = refl
  peeled_told read.Ambiguous = refl

  one_id : (line : EditLine) (source : Option own.WordMeaning) → option_map meaning_of source ≡ option_map (commit_or_cause r) (line_word line) → option_map peeled_id (option_and_then peeled_in source) ≡ source_id r line
  one_id (PutLine kind path bytes) None e = refl
  one_id (PutLine kind path bytes) (Some m) e = cc
  one_id (RemoveLine path) None e = refl
  one_id (RemoveLine path) (Some m) e = cc
  one_id (RemoveFileLine path) None e = refl
  one_id (RemoveFileLine path) (Some m) e = cc
  one_id (GraftLine path word source) None e = cc
  one_id (GraftLine path word source) (Some m) e = peeled_told m ∙ sym (commit_told r word m (same_Some (meaning_of m) (commit_or_cause r word) e))

  -- and the commits that are meant
  pub source_ids_told : (lines : List EditLine) (sources : List (Option own.WordMeaning)) → map (option_map meaning_of) sources ≡ map (λ line. option_map (commit_or_cause r) (line_word line)) lines
      → map (option_map peeled_id) (map (option_and_then peeled_in) sources) ≡ map (source_id r) lines
  source_ids_told [] [] e = refl
  source_ids_told [] (source ∷ sources) e = cc
  source_ids_told (line ∷ lines) [] e = cc
  source_ids_told (line ∷ lines) (source ∷ sources) e = λ i. one_id line source (first_option e) i ∷ source_ids_told lines sources (rest_options e) i

  one_rooted : (source : Option own.WordMeaning) → IsRootedWord r source → IsRootedSource r (option_and_then peeled_in source)
  one_rooted None rooted = tt
  one_rooted (Some m) rooted = rooted

  -- with their roots
  pub sources_rooted : (sources : List (Option own.WordMeaning)) → AllByRecursion (IsRootedWord r) sources → AllByRecursion (IsRootedSource r) (map (option_and_then peeled_in) sources)
  sources_rooted [] rooted = tt
  sources_rooted (source ∷ sources) rooted = (one_rooted source rooted.0, sources_rooted sources rooted.1)

  module _ (store : IsWholeStore r) where
    one_held : (line : EditLine) (source : Option PeeledCommit) → option_map peeled_id source ≡ source_id r line → IsRootedSource r source → IsHeldSource r source
    one_held line None same rooted = tt
    one_held (PutLine kind path bytes) (Some commit) same rooted = cc
    one_held (RemoveLine path) (Some commit) same rooted = cc
    one_held (RemoveFileLine path) (Some commit) same rooted = cc
    one_held (GraftLine path word from) (Some commit) same rooted = (read_holds r store (word_meaning r word) (peeled_id commit) (sym same), rooted)

    -- and they are stored
    pub sources_held : (lines : List EditLine) (sources : List (Option PeeledCommit)) → map (option_map peeled_id) sources ≡ map (source_id r) lines → AllByRecursion (IsRootedSource r) sources → AllByRecursion (IsHeldSource r) sources
    sources_held lines [] same rooted = tt
    sources_held [] (source ∷ sources) same rooted = cc
    sources_held (line ∷ lines) (source ∷ sources) same rooted = (one_held line source (first_option same) rooted.0, sources_held lines sources (rest_options same) rooted.1)

  -- ---- the commits of parents, with their roots

  peeled_ids : (meanings : List own.WordMeaning) → map peeled_id (filter_map peeled_in meanings) ≡ map id_of (filter_map commit_in meanings)
  peeled_ids [] = refl
  peeled_ids (m ∷ meanings) = go m (peeled_ids meanings)
    where
      go : (m : own.WordMeaning) → map peeled_id (filter_map peeled_in meanings) ≡ map id_of (filter_map commit_in meanings) → map peeled_id (filter_map peeled_in (m ∷ meanings)) ≡ map id_of (filter_map commit_in (m ∷ meanings))
      go (read.Commit commit) rest = ap (λ ids. peeled_id commit ∷ ids) rest
      go read.NoCommit rest = rest
      go read.Unborn rest = rest
      go read.Unknown rest = rest
      go read.Ambiguous rest = rest

  words_rooted : (meanings : List own.WordMeaning) → AllByRecursion (HasRootIn r) meanings → AllByRecursion (HasRoot r) (filter_map peeled_in meanings)
  words_rooted [] rooted = tt
  words_rooted (m ∷ meanings) rooted = go m rooted.0 (words_rooted meanings rooted.1)
    where
      go : (m : own.WordMeaning) → HasRootIn r m → AllByRecursion (HasRoot r) (filter_map peeled_in meanings) → AllByRecursion (HasRoot r) (filter_map peeled_in (m ∷ meanings))
      go (read.Commit commit) has rest = (has, rest)
      go read.NoCommit has rest = rest
      go read.Unborn has rest = rest
      go read.Unknown has rest = rest
      go read.Ambiguous has rest = rest

  pub parents_rooted : (held : Option Held) (first : Option PeeledCommit) (meanings : List own.WordMeaning) (commits : List PeeledCommit) → first ≡ option_map held_peeled held
      → MatchOption held ⊤ (λ (held : Held). HasRoot r held.commit) → AllByRecursion (HasRootIn r) meanings → commits ≡ option_to_list first ++ filter_map peeled_in meanings → AllByRecursion (HasRoot r) commits
  parents_rooted held first meanings commits same has rooted is =
      subst (λ (commits : List PeeledCommit). AllByRecursion (HasRoot r) commits) (sym (is ∙ ap (λ (first : Option PeeledCommit). option_to_list first ++ filter_map peeled_in meanings) same)) (of_held held has)
    where
      of_held : (held : Option Held) → MatchOption held ⊤ (λ (held : Held). HasRoot r held.commit) → AllByRecursion (HasRoot r) (option_to_list (option_map held_peeled held) ++ filter_map peeled_in meanings)
      of_held None has = words_rooted meanings rooted
      of_held (Some held) has = (has, words_rooted meanings rooted)

module _ (r : Repository) (sent : CommitCommand) where
  -- the words of the parents, and then those of the edits
  abbrev pub others : List Bytes
  others = sent.parents ++ flat_map edit_words sent.edits

  all_told : first_among word_causes r (Commit sent) ≡ words_cause (map (commit_or_cause r) (at_word sent.expect ++ others))
  all_told =
      let words = at_word sent.expect ++ others in
      words_told r words (map (commit_or_cause r) words) (λ test. any_map test (commit_or_cause r) words) None

  at_meanings : (expect : Expect) (what : Expected) → IsExpected r expect what → expected_meanings what ≡ map (commit_or_cause r) (at_word expect)
  at_meanings Any expected.Any is = refl
  at_meanings New expected.New is = refl
  at_meanings (At word) (expected.At meaning) is = ap (λ x. x ∷ []) is
  at_meanings Any expected.New is = absurd is
  at_meanings Any (expected.At meaning) is = absurd is
  at_meanings New expected.Any is = absurd is
  at_meanings New (expected.At meaning) is = absurd is
  at_meanings (At word) expected.Any is = absurd is
  at_meanings (At word) expected.New is = absurd is

  -- what the parents' words mean
  pub parent_meanings : (words : List (Vec ℕ Global)) (meanings : List own.WordMeaning) → map (λ (word : Vec ℕ Global). word.items) words ≡ sent.parents
      → map meaning_of meanings ≡ map (λ (word : Vec ℕ Global). commit_or_cause r word.items) words → map meaning_of meanings ≡ map (commit_or_cause r) sent.parents
  parent_meanings words meanings are is = is ∙ sym (map_twice (commit_or_cause r) (λ (word : Vec ℕ Global). word.items) words) ∙ ap (map (commit_or_cause r)) are

  pub words_so : (what : Expected) (meanings : List own.WordMeaning) → IsExpected r sent.expect what → map meaning_of meanings ≡ map (commit_or_cause r) others
      → first_among word_causes r (Commit sent) ≡ words_cause (expected_meanings what ++ map meaning_of meanings)
  words_so what meanings is are =
      all_told
      ∙ ap words_cause (map-append (commit_or_cause r) (at_word sent.expect) others ∙ (λ i. sym (at_meanings sent.expect what is) i ++ sym are i))

  -- those of the edits, of which each has one at most
  pub others_meant : (parents : List own.WordMeaning) (sources : List (Option own.WordMeaning)) (all : List own.WordMeaning) → map meaning_of parents ≡ map (commit_or_cause r) sent.parents
      → map (option_map meaning_of) sources ≡ map (λ line. option_map (commit_or_cause r) (line_word line)) sent.edits → all ≡ parents ++ filter_map (λ source. source) sources → map meaning_of all ≡ map (commit_or_cause r) others
  others_meant parents sources all are told is =
      ap (map meaning_of) is ∙ map-append meaning_of parents (filter_map (λ source. source) sources) ∙ (λ i. are i ++ sources_meant r sent.edits sources told i)
      ∙ sym (map-append (commit_or_cause r) sent.parents (flat_map edit_words sent.edits))

-- ---- what the name holds

module _ (r : Repository) (name : Bytes) where
  abbrev of_expect : Expect → Option Cause
  of_expect expect =
      cond (list_any (λ n. not (stands r n)) (map (λ (e : Bytes × Expect). e.0) (filter (λ (e : Bytes × Expect). is_at e.1) ((name, expect) ∷ [])))) (Some NoSuchName)
      (cond (list_any (stands r) (map (λ (e : Bytes × Expect). e.0) (filter (λ (e : Bytes × Expect). is_new e.1) ((name, expect) ∷ [])))) (Some Taken)
      (cond (list_any (is_elsewhere r) ((name, expect) ∷ [])) (Some NotExpected) None))

  compared : (id : Id) (meaning : own.WordMeaning) → cond (not (same_id (Some id) (option_map id_of (commit_in meaning))) || false) (Some NotExpected) None ≡ reads_as id (meaning_of meaning)
  compared id (read.Commit other) = go (id_eq id (id_of other.id))
    where
      go : (b : Bool) → cond (not b || false) (Some NotExpected) None ≡ cond b None (Some NotExpected)
      go true = refl
      go false = refl
  compared id read.NoCommit = refl
  compared id read.Unborn = refl
  compared id read.Unknown = refl
  compared id read.Ambiguous = refl

  by_expect : (expect : Expect) (what : Expected) (commit : Option Id) → IsExpected r expect what → stands r name ≡ is_some commit → name_commit r name ≡ commit → of_expect expect ≡ held_cause what commit
  by_expect Any expected.Any commit is there at = refl
  by_expect New expected.New None is there at = ap (λ s. cond (s || false) (Some Taken) None) there
  by_expect New expected.New (Some id) is there at = ap (λ s. cond (s || false) (Some Taken) None) there
  by_expect (At word) (expected.At meaning) None is there at =
      ap (λ s. cond (not s || false) (Some NoSuchName) (cond (list_any (is_elsewhere r) ((name, At word) ∷ [])) (Some NotExpected) None)) there
  by_expect (At word) (expected.At meaning) (Some id) is there at =
      ap (λ s. cond (not s || false) (Some NoSuchName) (cond (list_any (is_elsewhere r) ((name, At word) ∷ [])) (Some NotExpected) None)) there
      ∙ (λ i. cond (not (same_id (at i) (commit_told r word meaning is i)) || false) (Some NotExpected) None)
      ∙ compared id meaning
  by_expect Any expected.New commit is there at = absurd is
  by_expect Any (expected.At meaning) commit is there at = absurd is
  by_expect New expected.Any commit is there at = absurd is
  by_expect New (expected.At meaning) commit is there at = absurd is
  by_expect (At word) expected.Any commit is there at = absurd is
  by_expect (At word) expected.New commit is there at = absurd is

  -- by the commit that was read as that of the name
  pub expected_told : (expect : Expect) (what : Expected) (held : Option Held) (commit : Option ObjectId) → IsExpected r expect what → IsHeld r name held → option_map id_of commit ≡ option_map held_commit held
      → of_expect expect ≡ held_cause what (option_map id_of commit)
  expected_told expect what held commit is held_is same = by_expect expect what (option_map held_commit held) is (commit_stands r name held held_is) (sym held_is.commit) ∙ ap (held_cause what) (sym same)

module _ (r : Repository) (sent : CommitCommand) where
  abbrev name : Bytes
  name = branch_or_name r sent.name

  pub held_told : (what : Expected) (held : Option Held) (commit : Option ObjectId) → IsExpected r sent.expect what → IsHeld r name held → option_map id_of commit ≡ option_map held_commit held
      → first_among held_causes r (Commit sent) ≡ held_cause what (option_map id_of commit)
  held_told what held commit is held_is same = expected_told r name sent.expect what held commit is held_is same

  -- ---- the parents

  pub parents_told : (held : Option Held) (first : Option PeeledCommit) (meanings : List own.WordMeaning) (commits : List PeeledCommit) → first ≡ option_map held_peeled held → option_map held_commit held ≡ name_commit r name
      → map meaning_of meanings ≡ map (commit_or_cause r) sent.parents → commits ≡ option_to_list first ++ filter_map peeled_in meanings → map peeled_id commits ≡ parents_of r sent
  parents_told held first meanings commits same at are is =
      ap (map peeled_id) is ∙ map-append peeled_id (option_to_list first) (filter_map peeled_in meanings)
      ∙ (λ i. front i ++ behind i)
    where
      told : (first : Option PeeledCommit) → map peeled_id (option_to_list first) ≡ option_to_list (option_map peeled_id first)
      told None = refl
      told (Some commit) = refl

      of_held : (held : Option Held) → option_map peeled_id (option_map held_peeled held) ≡ option_map held_commit held
      of_held None = refl
      of_held (Some held) = refl

      front : map peeled_id (option_to_list first) ≡ option_to_list (name_commit r name)
      front = told first ∙ ap option_to_list (ap (option_map peeled_id) same ∙ of_held held ∙ at)

      behind : map peeled_id (filter_map peeled_in meanings) ≡ filter_map (commit_of r) sent.parents
      behind = peeled_ids r meanings ∙ commits_told r meanings sent.parents are

  pub ids_told : (commits : List PeeledCommit) (ids : List ObjectId) → map peeled_id commits ≡ parents_of r sent → ids ≡ map (λ (commit : PeeledCommit). commit.id) commits → map id_of ids ≡ parents_of r sent
  ids_told commits ids are is = ap (map id_of) is ∙ map_twice id_of (λ (commit : PeeledCommit). commit.id) commits ∙ are

  pub parents_so : (parents : List ObjectId) → map id_of parents ≡ parents_of r sent → first_among parent_causes r (Commit sent) ≡ parents_cause (map id_of parents)
  parents_so parents is = ap parents_cause (sym is)

-- ---- one word after another

-- the meaning of one word more
pub meaning_added : (r : Repository) (words : List (Vec ℕ Global)) (i : ℕ) (word : Vec ℕ Global) (meaning : own.WordMeaning) (meanings more : List own.WordMeaning) → i < length words → word ≡ get_or words i word
    → meaning_of meaning ≡ commit_or_cause r word.items → map meaning_of meanings ≡ map (λ (word : Vec ℕ Global). commit_or_cause r word.items) (take i words) → more ≡ meanings ++ meaning ∷ []
    → map meaning_of more ≡ map (λ (word : Vec ℕ Global). commit_or_cause r word.items) (take (i + 1) words)
meaning_added r words i word meaning meanings more less is read so_far added =
    ap (map meaning_of) added ∙ map-append meaning_of meanings (meaning ∷ []) ∙ (λ j. so_far j ++ read j ∷ [])
    ∙ sym (ap (map (λ (word : Vec ℕ Global). commit_or_cause r word.items)) (take_more words i word less ∙ ap (λ (x : Vec ℕ Global). take i words ++ x ∷ []) (sym is)) ∙ map-append (λ (word : Vec ℕ Global). commit_or_cause r word.items) (take i words) (word ∷ []))

-- one more of which the same holds
pub all_more : {X : Type 0} (P : X → Type 0) (xs more : List X) (x : X) → AllByRecursion P xs → P x → more ≡ xs ++ x ∷ [] → AllByRecursion P more
all_more {X} P xs more x all one is = subst (λ (ys : List X). AllByRecursion P ys) (sym is) (go xs all)
  where
    go : (xs : List X) → AllByRecursion P xs → AllByRecursion P (xs ++ x ∷ [])
    go [] all = (one, tt)
    go (y ∷ ys) all = (all.0, go ys all.1)

-- it holds of each of them
pub all_at : {X : Type 0} (P : X → Type 0) (xs : List X) (i : ℕ) (d : X) → i < length xs → AllByRecursion P xs → P (get_or xs i d)
all_at P [] i d less all = absurd (omega arith)
all_at P (x ∷ xs) zero d less all = all.0
all_at P (x ∷ xs) (suc i) d less all = all_at P xs i d (omega arith) all.1

-- what is the same of each so far is the same of one more
pub mapped_added : {X Y Z : Type 0} (f : Y → Z) (k : X → Z) (xs : List X) (i : ℕ) (d : X) (y : Y) (ys more : List Y) → i < length xs → f y ≡ k (get_or xs i d) → map f ys ≡ map k (take i xs) → more ≡ ys ++ y ∷ []
    → map f more ≡ map k (take (i + 1) xs)
mapped_added f k xs i d y ys more less same so_far added =
    ap (map f) added ∙ map-append f ys (y ∷ []) ∙ (λ j. so_far j ++ same j ∷ [])
    ∙ sym (ap (map k) (take_more xs i d less) ∙ map-append k (take i xs) (get_or xs i d ∷ []))

-- ---- ids that occur twice

-- a call of the files that failed
pub file_told : {A B : Type 0} (MayFail : Type 0) (causes : List Cause) (r : Repository) (sent : CommitCommand) (Q : B → Type 0) (result : Result A FileError) (ends : Result B Stopped) (error : FileError)
    → result ≡ Err error → ends ≡ Err (Fault (file_fault error)) → (IsErrOf result Failed → MayFail) → Tests MayFail causes r sent Q ends
file_told {A} {B} MayFail causes r sent Q result ends error was is_end failed =
    subst (λ (x : Result B Stopped). Tests MayFail causes r sent Q x) (sym is_end) (by_error error (subst (λ (x : Result A FileError). IsErrOf x Failed → MayFail) was failed))
  where
    by_error : (error : FileError) → (IsErrOf {T = A} (Err error) Failed → MayFail) → IsReadingFault MayFail (Fault (file_fault error))
    by_error Failed may = may refl
    by_error Memory may = tt
