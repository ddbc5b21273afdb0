-- Edits that are planned, one after another.
use Rattle.std.proofs.Common.{◌≡◌, refl, sym, ◌∙◌, ap, subst, Bool, true, false, cond, List, [], ◌∷◌, ◌++◌, append_assoc, append-nil, length, arith, ℕ, Vec, Option, Some, None}
use Rattle.std.specs.Prelude.{Contains, is_some, option_map, option_copied}
use Rattle.std.proofs.lemmas.List.Elements.{Contains-append_right}
use Rattle.std.specs.Borrow.{Bor}
use Rattle.std.specs.declared.alloc.Global.{Global}
use Rattle.std.specs.List.{AllByRecursion, AllZip}
use Rattle.gix_hash.specs.declared.kind.Kind.{Kind}
use Rattle.gix_object_lines.specs.NameTest.{is_full_name}
use Rattle.gix_object_lines.specs.declared.lines.actor.ActorRef.{ActorRef}
use Rattle.gix_ref_file.specs.Tree.{Tree, bytes_of}
use Rattle.gix_ref_edit.specs.declared.change.Change.{Change}
use Rattle.gix_ref_edit.specs.declared.change.Change.TheVariants.{Update, Delete}
use Rattle.gix_ref_edit.specs.declared.change.RefEdit.{RefEdit}
use Rattle.gix_ref_format.specs.Packed.{Record}
use Rattle.gix_ref_format.specs.Lookup.{packed_hit}
use Rattle.gix_ref_store.specs.Places.{Base, place, log_place}
use Rattle.gix_ref_store.specs.RefStates.{RefState, Absent, state_among, ref_state, read_by, packed_state, loose_text_at, packed_text_in}
use Rattle.gix_ref_store.specs.Finds.{records_in}
use Rattle.gix_ref_store.specs.declared.options.Options.{Options}
use Rattle.gix_ref_store.proofs.Among.{kept_reads, none_reads}
use Rattle.gix_ref_format.specs.PackedBuffer.{KeepsFile}
use Rattle.gix_ref_format.specs.PackedKept.{kept}
use Rattle.gix_ref_format.specs.declared.packed.buffer.Buffer.{Buffer}
use Rattle.gix_ref_lock.specs.Locks.{lock_of, OthersStay}
use Rattle.gix_ref_transaction.specs.declared.error.PrepareError.{PrepareError}
use Rattle.gix_ref_way.specs.Ways.{Bytes, file_at, SameFiles}
use Rattle.gix_ref_lock.specs.Contents.{lock_path_of}
use Rattle.gix_ref_lock.specs.Moments.{SameButLocks}
use Rattle.gix_ref_lock.specs.declared.act.Act.{Act}
use Rattle.gix_ref_lock.specs.declared.act.Move.{Move}
use Rattle.gix_ref_transaction.specs.Plans.{IsTested, HoldsText, KeepsFiles, AllTested, AllPlanned, AllHold}
use Rattle.gix_ref_transaction.specs.LogLines.{Logging, AllLined, IsLineOf, has_log, line_in, logging}
use Rattle.gix_ref_transaction.specs.Causes.{EditFault, SomeEditFault}
use Rattle.gix_ref_transaction.proofs.PathEnds.{place_free, log_place_free}

-- ---- readings by given records, if only locks differ
pub among_alike : (b : Base) (old x : Tree) (records : List Record) → SameButLocks old x → (name : Bytes) → state_among b x records name ≡ state_among b old records name
among_alike b old x records same name = by_full (is_full_name name) refl
  where
    by_full : (full : Bool) → is_full_name name ≡ full
        → cond full (read_by b.kind (loose_text_at b x name) (packed_state (packed_hit records name))) Absent ≡ cond full (read_by b.kind (loose_text_at b old name) (packed_state (packed_hit records name))) Absent
    by_full false is = refl
    by_full true is = ap (λ own. read_by b.kind own (packed_state (packed_hit records name))) (same (place b name) (place_free b name is))

-- ---- files that stay
pub keeps_same : (old new : Tree) → SameFiles old new → KeepsFiles old new
keeps_same old new same path text stood = same path ∙ stood

pub keeps_joined : (old mid new : Tree) → KeepsFiles old mid → KeepsFiles mid new → KeepsFiles old new
keeps_joined old mid new first second path text stood = second path text (first path text stood)

pub holds_on : (change : Change) (act : Act) (lock : Bytes) (old new : Tree) → KeepsFiles old new → HoldsText change act lock old → HoldsText change act lock new
holds_on (Update log expected new) act lock old now keeps holds = λ put. keeps lock _ (holds put)
holds_on (Delete expected mode) act lock old now keeps holds = tt

all_hold_on : (old new : Tree) → KeepsFiles old new → (edits : List RefEdit) (moves : List Move) → AllHold old edits moves → AllHold new edits moves
all_hold_on old new keeps [] [] all = tt
all_hold_on old new keeps [] (m ∷ moves) all = all
all_hold_on old new keeps (e ∷ edits) [] all = all
all_hold_on old new keeps (e ∷ edits) (m ∷ moves) all = (holds_on e.change m.act (lock_path_of m) old new keeps all.0, all_hold_on old new keeps edits moves all.1)

-- ---- one more
zip_more : (R : RefEdit → Move → Type 0) (edits : List RefEdit) (moves : List Move) (e : RefEdit) (m : Move) → AllZip R edits moves → R e m → AllZip R (edits ++ e ∷ []) (moves ++ m ∷ [])
zip_more R [] [] e m all r = (r, tt)
zip_more R [] (n ∷ moves) e m all r = absurd all
zip_more R (d ∷ edits) [] e m all r = absurd all
zip_more R (d ∷ edits) (n ∷ moves) e m all r = (all.0, zip_more R edits moves e m all.1 r)

all_more : (P : RefEdit → Type 0) (edits : List RefEdit) (e : RefEdit) → AllByRecursion P edits → P e → AllByRecursion P (edits ++ e ∷ [])
all_more P [] e all p = (p, tt)
all_more P (d ∷ edits) e all p = (all.0, all_more P edits e all.1 p)

-- each of the first edits is related so to its move
pub record ZippedSoFar (R : RefEdit → Move → Type 0) (edits rest : List RefEdit) (before moves : List Move) : Type 0 where
  pub done : List RefEdit
  pub split : edits ≡ done ++ rest
  pub zipped : before ≡ [] → AllZip R done moves

pub record TestedSoFar (read : Bytes → RefState) (edits rest : List RefEdit) (before moves : List Move) (now : Tree) : Type 0 where
  pub done : List RefEdit
  pub split : edits ≡ done ++ rest
  pub tested : AllTested read done
  pub holds : before ≡ [] → AllHold now done moves

none_zip : (R : RefEdit → Move → Type 0) (moves : List Move) → moves ≡ [] → AllZip R [] moves
none_zip R [] is = tt
none_zip R (m ∷ moves) is = absurd (cc is)

pub zipping_begins : (R : RefEdit → Move → Type 0) (edits : List RefEdit) (moves : List Move) → ZippedSoFar R edits edits moves moves
zipping_begins R edits moves = record { done = []; split = refl; zipped = none_zip R moves }

pub testing_begins : (read : Bytes → RefState) (edits : List RefEdit) (moves : List Move) (now : Tree) → TestedSoFar read edits edits moves moves now
testing_begins read edits moves now = record { done = []; split = refl; tested = tt; holds = none_zip (λ edit made. HoldsText edit.change made.act (lock_path_of made) now) moves }

pub one_zipped : (R : RefEdit → Move → Type 0) (edits rest others : List RefEdit) (e : RefEdit) (before moves after : List Move) (m : Move) → rest ≡ e ∷ others → after ≡ moves ++ m ∷ [] → ZippedSoFar R edits rest before moves → R e m → ZippedSoFar R edits others before after
one_zipped R edits rest others e before moves after m cut pushed so_far one = record {
  done = so_far.done ++ e ∷ [];
  split = so_far.split ∙ ap (λ r. so_far.done ++ r) cut ∙ sym (append_assoc so_far.done (e ∷ []) others);
  zipped = λ none. subst (AllZip R (so_far.done ++ e ∷ [])) (sym pushed) (zip_more R so_far.done moves e m (so_far.zipped none) one);
}

-- the edit that comes next is one of all
pub is_among : (R : RefEdit → Move → Type 0) (edits rest others : List RefEdit) (e : RefEdit) (before moves : List Move) → rest ≡ e ∷ others → ZippedSoFar R edits rest before moves → Contains edits e
is_among R edits rest others e before moves cut so_far =
    subst (λ es. Contains es e) (sym (so_far.split ∙ ap (λ r. so_far.done ++ r) cut)) (Contains-append_right so_far.done (e ∷ others) e (0, omega arith, refl))

pub one_tested : (read : Bytes → RefState) (edits rest others : List RefEdit) (e : RefEdit) (before moves after : List Move) (m : Move) (now new : Tree) → rest ≡ e ∷ others → after ≡ moves ++ m ∷ [] → TestedSoFar read edits rest before moves now
    → IsTested e (read e.name) → KeepsFiles now new → HoldsText e.change m.act (lock_path_of m) new → TestedSoFar read edits others before after new
one_tested read edits rest others e before moves after m now new cut pushed so_far tested keeps text = record {
  done = so_far.done ++ e ∷ [];
  split = so_far.split ∙ ap (λ r. so_far.done ++ r) cut ∙ sym (append_assoc so_far.done (e ∷ []) others);
  tested = all_more (λ edit. IsTested edit (read edit.name)) so_far.done e so_far.tested tested;
  holds = λ none. subst (AllHold new (so_far.done ++ e ∷ [])) (sym pushed)
      (zip_more (λ edit made. HoldsText edit.change made.act (lock_path_of made) new) so_far.done moves e m (all_hold_on now new keeps so_far.done moves (so_far.holds none)) text);
}

pub zipping_ends : (R : RefEdit → Move → Type 0) (edits rest : List RefEdit) (before moves : List Move) → length rest ≡ 0 → ZippedSoFar R edits rest before moves → before ≡ [] → AllZip R edits moves
zipping_ends R edits (e ∷ rest) before moves none so_far = absurd (omega (arith, none))
zipping_ends R edits [] before moves none so_far = λ empty. subst (λ es. AllZip R es moves) (sym (so_far.split ∙ append-nil so_far.done)) (so_far.zipped empty)

pub testing_ends : (read : Bytes → RefState) (edits rest : List RefEdit) (before moves : List Move) (now : Tree) → length rest ≡ 0 → TestedSoFar read edits rest before moves now → AllTested read edits
testing_ends read edits (e ∷ rest) before moves now none so_far = absurd (omega (arith, none))
testing_ends read edits [] before moves now none so_far = subst (AllTested read) (sym (so_far.split ∙ append-nil so_far.done)) so_far.tested

pub holding_ends : (read : Bytes → RefState) (edits rest : List RefEdit) (before moves : List Move) (now : Tree) → length rest ≡ 0 → TestedSoFar read edits rest before moves now → before ≡ [] → AllHold now edits moves
holding_ends read edits (e ∷ rest) before moves now none so_far = absurd (omega (arith, none))
holding_ends read edits [] before moves now none so_far = λ empty. subst (λ es. AllHold now es moves) (sym (so_far.split ∙ append-nil so_far.done)) (so_far.holds empty)

-- ---- the same by other readings
pub tested_alike : (one other : Bytes → RefState) → ((name : Bytes) → one name ≡ other name) → (edits : List RefEdit) → AllTested one edits → AllTested other edits
tested_alike one other same [] all = tt
tested_alike one other same (e ∷ edits) all = (subst (IsTested e) (same e.name) all.0, tested_alike one other same edits all.1)

-- ---- a lock that was made
-- ---- records that a buffer keeps
pub given_reads : (b : Base) (tree : Tree) (records : Option Buffer) (lent : Option (Bor Buffer)) → option_copied lent ≡ records → KeepsFile b.kind (packed_text_in b tree) (option_map kept records)
    → (name : Bytes) → state_among b tree (records_in lent) name ≡ ref_state b tree name
given_reads b tree records None is keeps name = none_reads b tree name (subst (λ (r : Option Buffer). KeepsFile b.kind (packed_text_in b tree) (option_map kept r)) (sym is) keeps)
given_reads b tree records (Some lent) is keeps name = kept_reads b tree (kept lent.now) name (subst (λ (r : Option Buffer). KeepsFile b.kind (packed_text_in b tree) (option_map kept r)) (sym is) keeps)

-- if a lock is made that didn't exist, and then written
pub keeps_but : (lock place : Bytes) (old mid new : Tree) → lock ≡ lock_of place → file_at old (lock_of place) ≡ None → KeepsFiles old mid → OthersStay lock mid new → KeepsFiles old new
keeps_but lock place old mid new beside free keeps stay path text stood =
    ap bytes_of (stay path (λ same. let wrong : None ≡ Some text = sym free ∙ ap (file_at old) (sym (same ∙ beside)) ∙ stood in cc)) ∙ keeps path text stood

-- ---- logs, if only locks differ
pub logs_alike : (b : Base) (old x : Tree) (name : Bytes) → SameButLocks old x → is_full_name name ≡ true → has_log b x name ≡ has_log b old name
logs_alike b old x name same full = ap is_some (same (log_place b name) (log_place_free b name full))

-- a move has the line of its edit
abbrev pub LinedIn : Logging → Base → Tree → RefEdit → Move → Type 0
LinedIn l b tree edit made = IsLineOf l (has_log b tree edit.name) edit.name edit.change (line_in made.act)

module _ (options other : Options) (b base : Base) (old x : Tree) (records : List Record) (committer : Option ActorRef) (edit : RefEdit) where
  loggings : SameButLocks old x → other ≡ options → base ≡ b → logging other (state_among base x records) committer ≡ logging options (state_among b old records) committer
  loggings same opts bases = λ i. logging (opts i) (λ name. (ap (λ k. state_among k x records name) bases ∙ among_alike b old x records same name) i) committer

  has : SameButLocks old x → is_full_name edit.name ≡ true → base ≡ b → has_log base x edit.name ≡ has_log b old edit.name
  has same full bases = ap (λ k. has_log k x edit.name) bases ∙ logs_alike b old x edit.name same full

  pub lined_alike : (line : Option (Vec ℕ Global)) → SameButLocks old x → is_full_name edit.name ≡ true → other ≡ options → base ≡ b
      → IsLineOf (logging other (state_among base x records) committer) (has_log base x edit.name) edit.name edit.change line → IsLineOf (logging options (state_among b old records) committer) (has_log b old edit.name) edit.name edit.change line
  lined_alike line same full opts bases lined =
      subst (λ (l : Logging). IsLineOf l (has_log b old edit.name) edit.name edit.change line) (loggings same opts bases)
      (subst (λ (stands : Bool). IsLineOf (logging other (state_among base x records) committer) stands edit.name edit.change line) (has same full bases) lined)

  pub fault_alike : (may : Type 0) (error : PrepareError) → SameButLocks old x → is_full_name edit.name ≡ true → other ≡ options → base ≡ b
      → EditFault (logging other (state_among base x records) committer) (has_log base x edit.name) may edit error → EditFault (logging options (state_among b old records) committer) (has_log b old edit.name) may edit error
  fault_alike may error same full opts bases fault =
      subst (λ (l : Logging). EditFault l (has_log b old edit.name) may edit error) (loggings same opts bases)
      (subst (λ (stands : Bool). EditFault (logging other (state_among base x records) committer) stands may edit error) (has same full bases) fault)

-- ---- whether records are known
-- what a lent buffer keeps
pub lent_keeps : (kind : Kind) (text : Option Bytes) (records : Option Buffer) (lent : Option (Bor Buffer)) → option_copied lent ≡ records → KeepsFile kind text (option_map kept records) → KeepsFile kind text (option_map (λ (buffer : Bor Buffer). kept buffer.now) lent)
lent_keeps kind text records None is keeps = subst (λ (r : Option Buffer). KeepsFile kind text (option_map kept r)) (sym is) keeps
lent_keeps kind text records (Some lent) is keeps = subst (λ (r : Option Buffer). KeepsFile kind text (option_map kept r)) (sym is) keeps

module _ (options other : Options) (b base : Base) (old x : Tree) (records : List Record) (committer : Option ActorRef) (same : SameButLocks old x) (opts : other ≡ options) (bases : base ≡ b) where
  pub all_lined_alike : (removes : Bool) (edits : List RefEdit) (moves : List Move) → AllPlanned base removes edits moves → AllLined (logging other (state_among base x records) committer) base x edits moves → AllLined (logging options (state_among b old records) committer) b old edits moves
  all_lined_alike removes [] [] plans lined = tt
  all_lined_alike removes [] (m ∷ moves) plans lined = absurd lined
  all_lined_alike removes (edit ∷ edits) [] plans lined = absurd lined
  all_lined_alike removes (edit ∷ edits) (m ∷ moves) plans lined =
      (lined_alike options other b base old x records committer edit (line_in m.act) same plans.0.full opts bases lined.0, all_lined_alike removes edits moves plans.1 lined.1)

  pub some_fault_alike : (may : Type 0) (edits : List RefEdit) (error : PrepareError) → SomeEditFault (logging other (state_among base x records) committer) base x may edits error → SomeEditFault (logging options (state_among b old records) committer) b old may edits error
  some_fault_alike may edits error (edit, among, full, fault) = (edit, among, full, fault_alike options other b base old x records committer edit may error same full opts bases fault)
