-- The past of a name begins with the moves that were made since it was last made.
use Rattle.std.proofs.Common.{◌≡◌, Bool, true, false, cond, not, ◌&&◌, List, [], ◌∷◌, ◌++◌, ◌⊎◌, refl, sym, ◌∙◌, ap, subst, inl, inr, Option, Some, None, is_some, bytes_eq, option_map, unwrap_or, append_assoc, append-nil, codes, MatchBool}
use Rattle.std.specs.FinMap.{get, remove}
use Rattle.history_model.specs.Bytes.{Bytes}
use Rattle.history_model.specs.Objects.{Actor, StoredCommit, StoredTag, id_of}
use Rattle.gix_hash.specs.Id.{Id, null_id}
use Rattle.gix_hash.specs.Order.{id_eq}
use Rattle.history_model.specs.Repository.{LogEntry, Repository, Reference, id_at, moves_at, stands}
use Rattle.history_model.specs.Forms.{title}
use Rattle.history_model.specs.Commands.{Command, Commit, Tag, Move, Rename, Delete, Switch, Pack, Index, Names, Files, Past, Log, Show, To}
use Rattle.history_model.specs.Words.{commit_of}
use Rattle.history_model.specs.Replies.{Reply, RefusedFor, Faulted}
use Rattle.history_model.specs.Meaning.{References, after, branch_or_name, read_actor, history_actor, new_commit, new_tag, with_name, with_lines, moved_reference, names_after}
use Rattle.history_model.specs.Steps.{Step, Steps, goes_on, some_failed, next}
use Rattle.history_model.specs.Stops.{LeftByStop, is_changing}
use Rattle.history_model.specs.laws.Pasts.{mover, move_message, step_moves, stands_through, moves_made, PastsTellMoves}
use Rattle.history_model.proofs.IdLemmas.{id_itself}
use Rattle.history_model.proofs.WholeLists.{clash, same_text}
use Rattle.history_model.proofs.WholeStores.{get_removed}
use Rattle.std.proofs.lemmas.Bool.{or_parts, and_parts, not-false}
use Rattle.history_model.proofs.AfterFirstLemmas.{get-with}

-- ---- one step

-- a name is as before, or moved, or gone
abbrev IsOneOf : Repository → Actor → Bytes → Bytes → Option Reference → Type 0
IsOneOf r actor message name o = (o ≡ get r.names name) ⊎ ((id : Id) × (o ≡ Some (moved_reference r name id actor message))) ⊎ (o ≡ None)

abbrev IsMoved : Repository → Actor → Bytes → References → Type 0
IsMoved r actor message names = (name : Bytes) → IsOneOf r actor message name (get names name)

with_moved : (r : Repository) (actor : Actor) (message name : Bytes) (id : Id) (names : References) → IsMoved r actor message names → IsMoved r actor message (with_name r name id actor message names)
with_moved r actor message name id names all other = subst (IsOneOf r actor message other) (sym (get-with names name (moved_reference r name id actor message) other)) (go (bytes_eq other name) refl)
  where
    go : (b : Bool) → bytes_eq other name ≡ b → IsOneOf r actor message other (cond b (Some (moved_reference r name id actor message)) (get names other))
    go true e = inr (inl (id, ap (λ n. Some (moved_reference r n id actor message)) (sym (same_text other name e))))
    go false e = all other

lines_moved : (r : Repository) (actor : Actor) (message : Bytes) (lines : List To) (names : References) → IsMoved r actor message names → IsMoved r actor message (with_lines r actor message lines names)
lines_moved r actor message [] names all = all
lines_moved r actor message (to ∷ lines) names all =
    lines_moved r actor message lines (with_name r to.name (unwrap_or (commit_of r to.word) (null_id r.kind)) actor message names) (with_moved r actor message to.name (unwrap_or (commit_of r to.word) (null_id r.kind)) names all)

removed_moved : (r : Repository) (actor : Actor) (message name : Bytes) → IsMoved r actor message (remove r.names name)
removed_moved r actor message name other = subst (IsOneOf r actor message other) (sym (get_removed r.names name other)) (go (bytes_eq other name))
  where
    go : (b : Bool) → IsOneOf r actor message other (cond b None (get r.names other))
    go true = inr (inr refl)
    go false = inl refl

unmoved : (r : Repository) (actor : Actor) (message : Bytes) → IsMoved r actor message r.names
unmoved r actor message name = inl refl

after_moved : (r : Repository) (command : Command) → IsMoved r (mover command) (move_message command) (names_after r command)
after_moved r (Commit c) = with_moved r (read_actor c.committer) (title c.message) (branch_or_name r c.name) (id_of r.kind (StoredCommit (new_commit r c))) r.names (unmoved r (read_actor c.committer) (title c.message))
after_moved r (Tag c) = with_moved r (read_actor c.tagger) (title c.message) c.name (id_of r.kind (StoredTag (new_tag r c))) r.names (unmoved r (read_actor c.tagger) (title c.message))
after_moved r (Move c) = lines_moved r (read_actor c.actor) c.message c.to r.names (unmoved r (read_actor c.actor) c.message)
after_moved r (Rename from to) = with_moved r history_actor (codes "rename") to (unwrap_or (id_at r from) (null_id r.kind)) (remove r.names from) (removed_moved r history_actor (codes "rename") from)
after_moved r (Delete name at) = removed_moved r history_actor (codes "rename") name
after_moved r (Switch name) = unmoved r history_actor (codes "rename")
after_moved r Pack = unmoved r history_actor (codes "rename")
after_moved r Index = unmoved r history_actor (codes "rename")
after_moved r (Names folder) = unmoved r history_actor (codes "rename")
after_moved r (Files word) = unmoved r history_actor (codes "rename")
after_moved r (Past word) = unmoved r history_actor (codes "rename")
after_moved r (Log c) = unmoved r history_actor (codes "rename")
after_moved r (Show word path) = unmoved r history_actor (codes "rename")

-- what a step says of a name's moves
abbrev Tells : Repository → Command → Repository → Bytes → Type 0
Tells old command new name = stands new name ≡ true → moves_at new name ≡ step_moves old command new name ++ moves_at old name

abbrev move_to : Repository → Command → Bytes → Option Reference → List LogEntry
move_to r command name o =
    let before = unwrap_or (id_at r name) (null_id r.kind) in
    let after = unwrap_or (option_map (λ (ref : Reference). ref.id) o) (null_id r.kind) in
    cond (id_eq before after) [] (record { before = before; after = after; actor = mover command; message = move_message command } ∷ [])

as_it_was : (r : Repository) (command : Command) (name : Bytes) → unwrap_or (option_map (λ (ref : Reference). ref.moves) (get r.names name)) [] ≡ move_to r command name (get r.names name) ++ moves_at r name
as_it_was r command name = sym (ap (λ b. cond b [] (record { before = before; after = before; actor = mover command; message = move_message command } ∷ []) ++ moves_at r name) (id_itself before))
  where
    before : Id
    before = unwrap_or (id_at r name) (null_id r.kind)

as_moved : (r : Repository) (command : Command) (name : Bytes) (id : Id)
    → (moved_reference r name id (mover command) (move_message command)).moves ≡ move_to r command name (Some (moved_reference r name id (mover command) (move_message command))) ++ moves_at r name
as_moved r command name id = go (id_eq before id)
  where
    before : Id
    before = unwrap_or (id_at r name) (null_id r.kind)

    entry : LogEntry
    entry = record { before = before; after = id; actor = mover command; message = move_message command }

    go : (b : Bool) → cond b (moves_at r name) (entry ∷ moves_at r name) ≡ cond b [] (entry ∷ []) ++ moves_at r name
    go true = refl
    go false = refl

tells_one : (r : Repository) (command : Command) (name : Bytes) (o : Option Reference) → is_some o ≡ true → IsOneOf r (mover command) (move_message command) name o
    → unwrap_or (option_map (λ (ref : Reference). ref.moves) o) [] ≡ move_to r command name o ++ moves_at r name
tells_one r command name o there (inl e) = subst (λ x. unwrap_or (option_map (λ (ref : Reference). ref.moves) x) [] ≡ move_to r command name x ++ moves_at r name) (sym e) (as_it_was r command name)
tells_one r command name o there (inr (inl (id, e))) = subst (λ x. unwrap_or (option_map (λ (ref : Reference). ref.moves) x) [] ≡ move_to r command name x ++ moves_at r name) (sym e) (as_moved r command name id)
tells_one r command name o there (inr (inr e)) = clash (sym (ap is_some e) ∙ there) refl

tells_after : (r : Repository) (command : Command) (name : Bytes) → Tells r command (after r command) name
tells_after r command name there = tells_one r command name (get (names_after r command) name) there (after_moved r command name)

tells_same : (r : Repository) (command : Command) (name : Bytes) → Tells r command r name
tells_same r command name there = as_it_was r command name

-- the repository after a step after which a run goes on
next_is : (old new : Repository) (command : Command) (reply : Reply) (name : Bytes) → Step old command reply new → goes_on command reply ≡ true → (new ≡ next old command reply) × Tells old command (next old command reply) name
next_is old new command (RefusedFor cause) name step h = (step.1, tells_same old command name)
next_is old new command (Faulted fault) name step h = (go (is_changing command) h step.1, tells_same old command name)
  where
    go : (b : Bool) → not (b && true) ≡ true → MatchBool b (LeftByStop old command new) (new ≡ old) → new ≡ old
    go true k left = cc
    go false k same = same
next_is old new command reply name step h = (step.result, tells_after old command name)

-- ---- several steps

gone : (r : Repository) (name : Bytes) (b : Bool) → stands r name ≡ b → cond b (moves_at r name) [] ≡ moves_at r name
gone r name true e = refl
gone r name false e = at (get r.names name) e
  where
    at : (o : Option Reference) → is_some o ≡ false → [] ≡ unwrap_or (option_map (λ (ref : Reference). ref.moves) o) []
    at None h = refl
    at (Some ref) h = cc

through_now : (r : Repository) (commands : List Command) (replies : List Reply) (name : Bytes) → stands_through r commands replies name ≡ true → stands r name ≡ true
through_now r [] replies name h = h
through_now r (command ∷ commands) [] name h = h
through_now r (command ∷ commands) (reply ∷ replies) name h = (and_parts (stands r name) (stands_through (next r command reply) commands replies name) h).0

and_off : (b : Bool) → (b && false) ≡ false
and_off true = refl
and_off false = refl

and_on : (b : Bool) → (b && true) ≡ b
and_on true = refl
and_on false = refl

pub pasts_tell_moves : PastsTellMoves
pasts_tell_moves old new [] [] name steps h = ap (λ r. moves_at r name) steps ∙ sym (gone old name (stands old name) refl)
pasts_tell_moves old new [] (reply ∷ replies) name steps h = absurd steps
pasts_tell_moves old new (command ∷ commands) [] name steps h = absurd steps
pasts_tell_moves old new (command ∷ commands) (reply ∷ replies) name (mid, step, on, more) h =
    let parts = or_parts (not (goes_on command reply)) (some_failed commands replies) h in
    let here = next_is old mid command reply name step (not-false (goes_on command reply) parts.0) in
    join here.1 (stands_through (next old command reply) commands replies name) refl
    (pasts_tell_moves (next old command reply) new commands replies name (subst (λ x. Steps x commands replies new) here.0 more) parts.1)
  where
    made : List LogEntry
    made = moves_made (next old command reply) commands replies name

    moved : List LogEntry
    moved = step_moves old command (next old command reply) name

    join : Tells old command (next old command reply) name → (t : Bool) → stands_through (next old command reply) commands replies name ≡ t
        → moves_at new name ≡ made ++ cond t (moves_at (next old command reply) name) [] → moves_at new name ≡ (made ++ cond t moved []) ++ cond (stands old name && t) (moves_at old name) []
    join tells true e rest =
        rest
        ∙ ap (λ l. made ++ l) (tells (through_now (next old command reply) commands replies name e))
        ∙ sym (append_assoc made moved (moves_at old name))
        ∙ ap (λ l. (made ++ moved) ++ l) (sym (gone old name (stands old name) refl) ∙ ap (λ b. cond b (moves_at old name) []) (sym (and_on (stands old name))))
    join tells false e rest = rest ∙ sym (append-nil (made ++ [])) ∙ ap (λ l. (made ++ []) ++ l) (ap (λ b. cond b (moves_at old name) []) (sym (and_off (stands old name))))
