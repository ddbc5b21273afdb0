-- Laws of steps and runs: what state, commands and input determine.
use Rattle.std.specs.Prelude.{ℕ, ⊤, take, MatchBool, ◌≡◌, ◌⊎◌, Bool, false, List, [], ◌∷◌, ◌++◌, IsTrue, IsFalse, ◌↔◌, Contains, true, not}
use Rattle.std.specs.List.{list_all}
use Rattle.history_model.specs.Bytes.{Bytes}
use Rattle.gix_hash.specs.Id.{Id}
use Rattle.history_model.specs.Repository.{Repository}
use Rattle.history_model.specs.Commands.{Command, Log, LogCommand, Order, Breadth, Topological}
use Rattle.history_model.specs.Answers.{commits_of, walk_request, IsWalk, kept, time_at}
use Rattle.gix_traverse_graph.specs.Order.{At}
use Rattle.history_model.specs.Replies.{Reply, LogIs}
use Rattle.history_model.specs.Steps.{Step, goes_on, is_faulted, next}
use Rattle.history_model.specs.Runs.{Runs}
use Rattle.history_model.specs.declared.End.{End}
use Rattle.history_model.specs.declared.End.TheVariants.{Input, Fault as ByFault}

-- whether an order leaves a choice among equal times
abbrev pub leaves_choice : Order → Bool
leaves_choice Breadth = false
leaves_choice Topological = false
leaves_choice _ = true

-- no reply is a fault
abbrev pub have_no_fault : List Reply → Bool
have_no_fault replies = list_all (λ reply. not (is_faulted reply)) replies

-- whether the command has only one reply, faults apart
abbrev pub is_sure : Command → Bool
is_sure (Log c) = not (leaves_choice c.order)
is_sure _ = true

-- A run with these replies and this end has reported a fault: as a reply, or at its end.
abbrev pub TellsFault : List Reply → End → Type 0
TellsFault replies end = IsFalse (have_no_fault replies) ⊎ (end ≡ ByFault)

-- at the first place where two lists differ, if any, the two commits have one time
abbrev pub DifferAtOneTime : (Id → ℕ) → List Id → List Id → Type 0
DifferAtOneTime time xs ys =
    (k : ℕ) (x y : Id) → take k xs ≡ take k ys → At xs k x → At ys k y → time x ≡ time y

-- Two replies to one log, each from a walk that it requests, have the same commits. By breadth and
-- by topology there is only one walk; in an order by time two walks first differ, if at all, at two
-- commits of one time.
pub record ListsAlike (r : Repository) (c : LogCommand) (x y : Reply) : Type 0 where
  pub walk : List Id
  pub other : List Id
  pub walked : IsWalk c.order (commits_of r) (walk_request r c) walk
  pub other_walked : IsWalk c.order (commits_of r) (walk_request r c) other
  pub x_is : x ≡ LogIs (kept r c.paths walk)
  pub y_is : y ≡ LogIs (kept r c.paths other)
  pub same : (id : Id) → Contains (kept r c.paths walk) id ↔ Contains (kept r c.paths other) id
  pub choice : MatchBool (leaves_choice c.order) (DifferAtOneTime (time_at r) walk other)
      (walk ≡ other)

-- equal replies, except for a log's choice among equal times
abbrev pub AreAlike : Repository → Command → Reply → Reply → Type 0
AreAlike r (Log c) x y = (x ≡ y) ⊎ ListsAlike r c x y
AreAlike r _ x y = x ≡ y

-- A reply that is no fault, and the state after it, are determined by state and command, except for
-- a log's choice among equal times.
abbrev pub StepsAreDetermined : Type 0
StepsAreDetermined =
    (old a b : Repository) (command : Command) (x y : Reply) → IsFalse (is_faulted x)
    → IsFalse (is_faulted y)
    → Step old command x a → Step old command y b → AreAlike old command x y × (a ≡ b)

-- the replies of two runs to the same commands
abbrev pub AreAllAlike : Repository → List Command → List Reply → List Reply → Type 0
AreAllAlike r [] [] [] = ⊤
AreAllAlike r (command ∷ commands) (x ∷ xs) (y ∷ ys) =
    AreAlike r command x y × AreAllAlike (next r command x) commands xs ys
AreAllAlike _ _ _ _ = ⊥

-- what two runs over one input have in common
pub record RunAlike (old : Repository) (commands others : List Command)
    (replies answers : List Reply) (output written : Bytes) (new end : Repository) : Type 0 where
  pub commands_are : others ≡ commands
  pub new_is : end ≡ new
  pub alike : AreAllAlike old commands replies answers
  -- the same bytes, unless a log chooses among equal times
  pub bytes : IsTrue (list_all is_sure commands) → written ≡ output

-- Two runs over one input from one repository, both to its end and without a fault, are alike.
abbrev pub RunsAgree : Type 0
RunsAgree =
    (old new end : Repository) (commands others : List Command) (replies answers : List Reply)
    (input output written : Bytes)
    → Runs (Unit {0}) (Unit {0}) old commands replies input output Input false new
    → IsTrue (have_no_fault replies)
    → Runs (Unit {0}) (Unit {0}) old others answers input written Input false end
    → IsTrue (have_no_fault answers)
    → RunAlike old commands others replies answers output written new end

-- The reply determines the state after a step, if the run goes on.
abbrev pub RepliesTellTheState : Type 0
RepliesTellTheState = (old new : Repository) (command : Command) (reply : Reply)
    → Step old command reply new → IsTrue (goes_on command reply) → new ≡ next old command reply

-- If a run over the whole input reports no fault and has no choice, each run that ends over it, or
-- over a beginning of it, writes the same or reports a fault itself: as a reply, or at its end.
abbrev pub RunsGive : Type 0
RunsGive =
    (old new end : Repository) (commands others : List Command) (replies answers : List Reply)
    (input output read rest written : Bytes) (ends : End) (failed : Bool)
    → Runs (Unit {0}) (Unit {0}) old commands replies input output Input false new
    → IsTrue (have_no_fault replies) → IsTrue (list_all is_sure commands)
    → input ≡ read ++ rest
    → Runs (rest ≡ []) (Unit {0}) old others answers read written ends failed end
    → (written ≡ output) ⊎ TellsFault answers ends
