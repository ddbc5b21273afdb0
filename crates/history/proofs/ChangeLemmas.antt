-- A command that changes files is acted on by its two halves.
use Rattle.std.proofs.Common.{◌≡◌, ℕ, true, [], ◌∷◌, ◌++◌, refl, sym, ◌∙◌, subst, codes}
use Rattle.std.specs.Prelude.{IfOk, Result, Ok, Err, Vec}
use Rattle.std.specs.declared.alloc.Global.{Global}
use Rattle.std.proofs.lemmas.List.{append-nil}
use Rattle.gix_hash.specs.Id.{Id, id_of}
use Rattle.gix_hash.specs.declared.object_id.ObjectId.{ObjectId}
use Rattle.gix_ref_file.specs.Tree.{Tree}
use Rattle.history_model.specs.Bytes.{Bytes}
use Rattle.history_model.specs.Commands.{Command, Commit, Delete, Move, Pack, Rename, Switch, Tag}
use Rattle.history_model.specs.Meaning.{after}
use Rattle.history_model.specs.Objects.{hex}
use Rattle.history_model.specs.Replies.{Committed, Deleted, Moved, Packed, Renamed, Switched, Tagged}
use Rattle.history_model.specs.Spelling.{Line, part_text, parts_text}
use Rattle.history_model.specs.declared.Fault.{Fault}
use Rattle.history_model.specs.declared.Fault.TheVariants.{Memory, File, IdTaken}
use Rattle.history_layout.specs.OneNameSteps.{commit_move, tag_move}
use Rattle.history_layout.specs.PackSteps.{PacksNames}
use Rattle.history_plans.specs.declared.packing.Packing.{Packing}
use Rattle.history_repository.specs.declared.stopped.Stopped.{Stopped}
use Rattle.gix_ref_file.specs.declared.files.Files.{Ghosts}
use Rattle.history_model.specs.Stops.{is_changing}
use Rattle.history_plans.specs.Halves.{names_tree}
use Rattle.history_repository.specs.Stands.{Stands}
use Rattle.history_repository.specs.declared.repository.Repository.{Repository}
use Rattle.history.specs.Acts.{Acts, LeavesFiles, LeavesAsAsked}
use Rattle.history.specs.Runs.{CountsFailure}
use Rattle.history.specs.Calls.{ActsAsAsked, NamesPass, StoresAlone}
use Rattle.history.specs.Moments.{ObjectsPass}
use Rattle.history.specs.Moving.{LeavesMoved}
use Rattle.history.specs.NameFiles.{ChangesHeadAlone, ChangesNameAlone, RenamesAlone, TakesNameAlone}
use Rattle.history.specs.Replies.{TellsDone}
use Rattle.history.specs.Storing.{AreMovesOf, HasStored, IsDone, StoresObjects}
use Rattle.history.specs.declared.moves.Moves.{Moves}
use Rattle.history.proofs.PackedRuns.{stopped_packs}
use Rattle.history.proofs.Stops.{moving_later, stopped_moving, stopped_storing, storing_later}
use Rattle.history.specs.declared.moves.Done.TheVariants as done
use Rattle.history.specs.declared.moves.Moves.TheVariants as move
use Rattle.history_model.specs.Repository as plain
use Rattle.history_repository.specs.declared.stopped.Stopped.TheVariants as why

-- ---- its reply

-- a text of `ok` and one word, and one of an id besides
pub word_told : (before text ok word : Bytes) → before ≡ [] → ok ≡ codes "ok" → text ≡ before ++ part_text (Line (ok ∷ word ∷ [])) → text ≡ parts_text (Line (codes "ok" ∷ word ∷ []) ∷ [])
word_told before text ok word none is_ok is =
    is ∙ (λ i. none i ++ part_text (Line (is_ok i ∷ word ∷ []))) ∙ sym (append-nil (part_text (Line (codes "ok" ∷ word ∷ []))))

pub id_told : (id : Id) (before text ok word digits : Bytes) → before ≡ [] → ok ≡ codes "ok" → digits ≡ hex id → text ≡ before ++ part_text (Line (ok ∷ word ∷ digits ∷ [])) → text ≡ parts_text (Line (codes "ok" ∷ word ∷ hex id ∷ []) ∷ [])
id_told id before text ok word digits none is_ok is_digits is =
    is ∙ (λ i. none i ++ part_text (Line (is_ok i ∷ word ∷ is_digits i ∷ []))) ∙ sym (append-nil (part_text (Line (codes "ok" ∷ word ∷ hex id ∷ []))))

pub if_ok : {T E : Type 0} {P Q : T → Type 0} (result : Result T E) → ((value : T) → P value → Q value) → IfOk result P → IfOk result Q
if_ok (Ok value) so h = so value h
if_ok (Err error) so h = tt

-- each is the reply to its command
pub commit_told : (r : plain.Repository) (sent : Command) (id : ObjectId) (text : Bytes) → IsDone r sent (done.Commit id) → text ≡ parts_text (Line (codes "ok" ∷ codes "commit" ∷ hex (id_of id) ∷ []) ∷ []) → TellsDone r sent text
commit_told r (Commit c) id text is said = (Committed (commit_move r c).id, refl, said ∙ (λ i. parts_text (Line (codes "ok" ∷ codes "commit" ∷ hex (is i) ∷ []) ∷ [])))
commit_told r sent id text is said = absurd is

pub tag_told : (r : plain.Repository) (sent : Command) (id : ObjectId) (text : Bytes) → IsDone r sent (done.Tag id) → text ≡ parts_text (Line (codes "ok" ∷ codes "tag" ∷ hex (id_of id) ∷ []) ∷ []) → TellsDone r sent text
tag_told r (Tag c) id text is said = (Tagged (tag_move r c).id, refl, said ∙ (λ i. parts_text (Line (codes "ok" ∷ codes "tag" ∷ hex (is i) ∷ []) ∷ [])))
tag_told r sent id text is said = absurd is

pub move_told : (r : plain.Repository) (sent : Command) (text : Bytes) → IsDone r sent done.Move → text ≡ parts_text (Line (codes "ok" ∷ codes "move" ∷ []) ∷ []) → TellsDone r sent text
move_told r (Move c) text is said = (Moved, refl, said)
move_told r sent text is said = absurd is

pub rename_told : (r : plain.Repository) (sent : Command) (text : Bytes) → IsDone r sent done.Rename → text ≡ parts_text (Line (codes "ok" ∷ codes "rename" ∷ []) ∷ []) → TellsDone r sent text
rename_told r (Rename from to) text is said = (Renamed, refl, said)
rename_told r sent text is said = absurd is

pub delete_told : (r : plain.Repository) (sent : Command) (text : Bytes) → IsDone r sent done.Delete → text ≡ parts_text (Line (codes "ok" ∷ codes "delete" ∷ []) ∷ []) → TellsDone r sent text
delete_told r (Delete name at) text is said = (Deleted, refl, said)
delete_told r sent text is said = absurd is

pub switch_told : (r : plain.Repository) (sent : Command) (branch : Vec ℕ Global) (text : Bytes) → AreMovesOf r sent (move.Switch branch) → text ≡ parts_text (Line (codes "ok" ∷ codes "switch" ∷ []) ∷ []) → TellsDone r sent text
switch_told r (Switch name) branch text are said = (Switched, refl, said)
switch_told r sent branch text are said = absurd are.told

pub pack_told : (r : plain.Repository) (sent : Command) (packing : Packing) (text : Bytes) → AreMovesOf r sent (move.Pack packing) → text ≡ parts_text (Line (codes "ok" ∷ codes "pack" ∷ []) ∷ []) → TellsDone r sent text
pack_told r Pack packing text are said = (Packed, refl, said)
pack_told r sent names text are said = absurd are.told

-- ---- what it leaves

module _ (C : Type 0) (StandsNow : plain.Repository → Type 0) (r : plain.Repository) (sent : Command) where
  -- if its objects aren't stored, what was reported of that holds of the command
  pub acts_unstored : (S : Type 0) (result : Result Moves Stopped) (ends : Result (Vec ℕ Global) Stopped) (stopped : Stopped) → result ≡ Err stopped → ends ≡ Err stopped → StoresObjects C S r sent result → Acts C StandsNow r sent ends
  acts_unstored S result ends stopped was is_end h = subst (Acts C StandsNow r sent) (sym is_end) (by_case stopped (subst (StoresObjects C S r sent) was h))
    where
      by_case : (stopped : Stopped) → StoresObjects C S r sent (Err stopped) → Acts C StandsNow r sent (Err stopped)
      by_case (why.Refused cause) k = k
      by_case (why.Fault Memory) k = tt
      by_case (why.Fault File) k = k
      by_case (why.Fault IdTaken) k = k

  -- if there is no memory for its reply
  pub acts_without_memory : (ends : Result (Vec ℕ Global) Stopped) → ends ≡ Err (why.Fault Memory) → Acts C StandsNow r sent ends
  acts_without_memory ends is_end = subst (Acts C StandsNow r sent) (sym is_end) tt

  -- if its names don't move
  pub acts_unmoved : (B M : Type 0) (result : Result (Unit {0}) Fault) (ends : Result (Vec ℕ Global) Stopped) (fault : Fault) → result ≡ Err fault → ends ≡ Err (why.Fault fault) → (B → C) → LeavesMoved B M result → Acts C StandsNow r sent ends
  acts_unmoved B M result ends fault was is_end keep h = subst (Acts C StandsNow r sent) (sym is_end) (by_case fault (subst (LeavesMoved B M) was h))
    where
      by_case : (fault : Fault) → LeavesMoved B M (Err fault) → Acts C StandsNow r sent (Err (why.Fault fault))
      by_case Memory k = tt
      by_case File k = keep k
      by_case IdTaken k = absurd k

  -- and if it is done
  pub acts_done : (moves : Moves) (text : Vec ℕ Global) → AreMovesOf r sent moves → TellsDone r sent text.items → StandsNow (after r sent) → Acts C StandsNow r sent (Ok text)
  acts_done moves text are told stands =
      (told.0, after r sent, told.2, record { no_cause = are.none; not_taken = are.free; answer = told.1; result = refl }, stands)

-- what is packed, if the command isn't done, and if it is
pub packs_nothing : (r : plain.Repository) (sent : Command) (ends : Result (Vec ℕ Global) Stopped) (stopped : Stopped) (old new : Tree) → ends ≡ Err stopped → LeavesFiles r sent ends old new
packs_nothing r sent ends stopped old new is_end = subst (λ x. LeavesFiles r sent x old new) (sym is_end) (stopped_packs r sent stopped old new)

pub packs_done : (r : plain.Repository) (sent : Command) (text : Vec ℕ Global) (old mid new : Tree) → mid ≡ old → LeavesAsAsked r sent mid new → LeavesFiles r sent (Ok text) old new
packs_done r Pack text old mid new same h = subst (λ tree. PacksNames r tree new) same h
packs_done r (Commit c) text old mid new same h = subst (λ tree. ChangesNameAlone (commit_move r c).name tree new) same h
packs_done r (Tag c) text old mid new same h = subst (λ tree. ChangesNameAlone (tag_move r c).name tree new) same h
packs_done r (Rename from to) text old mid new same h = subst (λ tree. RenamesAlone from to tree new) same h
packs_done r (Delete name at) text old mid new same h = subst (λ tree. TakesNameAlone name tree new) same h
packs_done r (Switch name) text old mid new same h = subst (λ tree. ChangesHeadAlone tree new) same h
packs_done r sent text old mid new same h = tt

-- ---- what it does, from one state of a repository to another

module _ {F : Type 0} (files : Ghosts F) (old mid : Repository F) (r : plain.Repository) (sent : Command) (changes : is_changing sent ≡ true) (h : Stands files.is_honest files.history old r)
    (R : Type 0) (alone : StoresAlone files R old mid) (passes : ObjectsPass files.history r sent old mid) (ends : Result (Vec ℕ Global) Stopped) where
  -- if its objects alone passed
  pub acts_storing : (stopped : Stopped) → ends ≡ Err stopped → Acts (CountsFailure files.failures files.reading_may_fail old mid) (Stands files.is_honest files.history mid) r sent ends
      → ActsAsAsked files r (CountsFailure files.failures files.reading_may_fail old mid) sent old mid ends
  acts_storing stopped is_end acts = record {
    later = storing_later files.history files.failures old mid r sent alone.kept passes;
    stops = stopped_storing files.is_honest files.history files.failures old r sent changes h mid alone.kept passes;
    acts = acts;
    leaves = packs_nothing r sent ends stopped (names_tree files.history old) (names_tree files.history mid) is_end;
  }

  -- if its names passed too
  pub acts_moving : (new : Repository F) (moves : Moves) → AreMovesOf r sent moves → HasStored files.is_honest files.history mid r sent → new.objects ≡ mid.objects → NamesPass files r sent mid new
      → Acts (CountsFailure files.failures files.reading_may_fail old new) (Stands files.is_honest files.history new) r sent ends
      → LeavesFiles r sent ends (names_tree files.history old) (names_tree files.history new)
      → ActsAsAsked files r (CountsFailure files.failures files.reading_may_fail old new) sent old new ends
  acts_moving new moves are stored same on acts leaves = record {
    later = moving_later files.history files.failures old mid new r sent alone.kept passes same on;
    stops = stopped_moving files.is_honest files.history files.failures old r sent changes h mid new alone.kept passes are.none are.free stored.holds same on;
    acts = acts;
    leaves = leaves;
  }
