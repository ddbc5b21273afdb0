-- What the commands of a run do to the files of names, each between its two moments.
use Rattle.std.proofs.Common.{◌≡◌, ◌∙◌, ap, sym, subst, ℕ, zero, suc, true, false, List, [], ◌∷◌, ◌++◌, Some, Ok, Err, Vec, slice_get}
use Rattle.std.specs.declared.alloc.Global.{Global}
use Rattle.gix_ref_file.specs.History.{History, trees}
use Rattle.gix_ref_file.specs.Tree.{Tree}
use Rattle.history_model.specs.Commands.{Command, Commit, Delete, Pack, Rename, Switch, Tag}
use Rattle.history_model.specs.Moments.{ActsOn, GoesOnFrom, Moment, StoodAt, last_moment}
use Rattle.history_model.specs.Replies.{Reply, RefusedFor, Faulted, Committed, Deleted, Packed, Renamed, Switched, Tagged}
use Rattle.history_model.specs.Repository.{Repository}
use Rattle.history_model.specs.Steps.{Step, goes_on, next, some_failed}
use Rattle.history_model.specs.Stops.{is_changing}
use Rattle.history_model.specs.declared.Cause.{Cause}
use Rattle.history.specs.NameFiles.{AllLeaveAsSaid, ChangesAsSaid, GoesBetween, LeavesAsSaid}
use Rattle.history.specs.Acts.{LeavesFiles}
use Rattle.history_repository.specs.declared.stopped.Stopped.{Stopped}
use Rattle.history.proofs.RowsKept.{goes_unchanged, no_failure}
use Rattle.history_model.specs.declared.Fault as faults

-- ---- one command

-- after a stop nothing is said of what is packed
pub stopped_packs : (r : Repository) (sent : Command) (stopped : Stopped) (old new : Tree) → LeavesFiles r sent (Err stopped) old new
stopped_packs r Pack stopped old new = tt
stopped_packs r (Commit c) stopped old new = tt
stopped_packs r (Tag c) stopped old new = tt
stopped_packs r (Rename from to) stopped old new = tt
stopped_packs r (Delete name at) stopped old new = tt
stopped_packs r (Switch name) stopped old new = tt
stopped_packs r sent stopped old new = tt

pub packs_refused : (names : History) (r : Repository) (begin : Moment) (sent : Command) (cause : Cause) (finish : Moment) → ChangesAsSaid names r begin sent (RefusedFor cause) finish
packs_refused names r begin Pack cause finish = tt
packs_refused names r begin (Commit c) cause finish = tt
packs_refused names r begin (Tag c) cause finish = tt
packs_refused names r begin (Rename from to) cause finish = tt
packs_refused names r begin (Delete name at) cause finish = tt
packs_refused names r begin (Switch name) cause finish = tt
packs_refused names r begin sent cause finish = tt

pub packs_faulted : (names : History) (r : Repository) (begin : Moment) (sent : Command) (fault : faults.Fault) (finish : Moment) → ChangesAsSaid names r begin sent (Faulted fault) finish
packs_faulted names r begin Pack fault finish = tt
packs_faulted names r begin (Commit c) fault finish = tt
packs_faulted names r begin (Tag c) fault finish = tt
packs_faulted names r begin (Rename from to) fault finish = tt
packs_faulted names r begin (Delete name at) fault finish = tt
packs_faulted names r begin (Switch name) fault finish = tt
packs_faulted names r begin sent fault finish = tt

-- what a command with a reply leaves packed, between the moments of its two trees
pub packs_answered : (names : History) (r : Repository) (begin : Moment) (sent : Command) (reply : Reply) (finish : Moment) (text : Vec ℕ Global) (old new : Tree)
    → StoodAt names begin.names old → StoodAt names finish.names new → LeavesFiles r sent (Ok text) old new → ChangesAsSaid names r begin sent reply finish
packs_answered names r begin Pack Packed finish text old new first last goes = record { old = old; new = new; begins = first; ends = last; goes = goes }
packs_answered names r begin (Commit c) (Committed id) finish text old new first last goes = record { old = old; new = new; begins = first; ends = last; goes = goes }
packs_answered names r begin (Tag c) (Tagged id) finish text old new first last goes = record { old = old; new = new; begins = first; ends = last; goes = goes }
packs_answered names r begin (Rename from to) Renamed finish text old new first last goes = record { old = old; new = new; begins = first; ends = last; goes = goes }
packs_answered names r begin (Delete name at) Deleted finish text old new first last goes = record { old = old; new = new; begins = first; ends = last; goes = goes }
packs_answered names r begin (Switch name) Switched finish text old new first last goes = record { old = old; new = new; begins = first; ends = last; goes = goes }
packs_answered names r begin sent reply finish text old new first last goes = tt

-- ---- trees at earlier moments, after more have been added

got_longer : (xs ys : List Tree) (m : ℕ) (tree : Tree) → slice_get xs m ≡ Some tree → slice_get (xs ++ ys) m ≡ Some tree
got_longer [] ys m tree got = cc
got_longer (x ∷ xs) ys zero tree got = got
got_longer (x ∷ xs) ys (suc m) tree got = got_longer xs ys m tree got

pub stood_later : (old new : History) → GoesOnFrom old new → (m : ℕ) (tree : Tree) → StoodAt old m tree → StoodAt new m tree
stood_later old new on m tree stood = ap (λ ts. slice_get ts m) on.1 ∙ got_longer (trees old) on.0 m tree stood

between_later : (old new : History) → GoesOnFrom old new → (begin finish : Moment) (Goes : Tree → Tree → Type 0) → GoesBetween old begin finish Goes → GoesBetween new begin finish Goes
between_later old new on begin finish Goes h = record {
  old = h.old;
  new = h.new;
  begins = stood_later old new on begin.names h.old h.begins;
  ends = stood_later old new on finish.names h.new h.ends;
  goes = h.goes;
}

files_later : (old new : History) → GoesOnFrom old new → (r : Repository) (begin : Moment) (sent : Command) (reply : Reply) (finish : Moment) → ChangesAsSaid old r begin sent reply finish → ChangesAsSaid new r begin sent reply finish
files_later old new on r begin Pack Packed finish h = between_later old new on begin finish _ h
files_later old new on r begin (Commit c) (Committed id) finish h = between_later old new on begin finish _ h
files_later old new on r begin (Tag c) (Tagged id) finish h = between_later old new on begin finish _ h
files_later old new on r begin (Rename from to) Renamed finish h = between_later old new on begin finish _ h
files_later old new on r begin (Delete name at) Deleted finish h = between_later old new on begin finish _ h
files_later old new on r begin (Switch name) Switched finish h = between_later old new on begin finish _ h
files_later old new on r begin sent reply finish h = tt

then_later : (old new : History) → GoesOnFrom old new → (r : Repository) (begin : Moment) (sent : Command) (reply : Reply) (finish : Moment) → LeavesAsSaid old r begin sent reply finish → LeavesAsSaid new r begin sent reply finish
then_later old new on r begin sent reply finish h = (files_later old new on r begin sent reply finish h.0, h.1)

pub each_later : (old new : History) → GoesOnFrom old new → (r : Repository) (begin : Moment) (orders : List Command) (replies : List Reply) (moments : List Moment) → AllLeaveAsSaid old r begin orders replies moments
    → AllLeaveAsSaid new r begin orders replies moments
each_later old new on r begin (sent ∷ orders) (reply ∷ replies) (finish ∷ moments) h = (then_later old new on r begin sent reply finish h.0, each_later old new on (next r sent reply) finish orders replies moments h.1)
each_later old new on r begin orders replies moments h = tt

-- ---- commands in a row

next_is : (r mid : Repository) (sent : Command) (reply : Reply) → Step r sent reply mid → goes_on sent reply ≡ true → mid ≡ next r sent reply
next_is r mid sent (RefusedFor cause) step on = step.1
next_is r mid sent (Faulted fault) step on = goes_unchanged (is_changing sent) _ _ on step.1
next_is r mid sent reply step on = step.result

pub each_then : (MayFail : Type 0) (objects names later : History) (r between : Repository) (begin : Moment) (orders : List Command) (replies : List Reply) (moments : List Moment) (more : List Command) (others : List Reply) (behind : List Moment)
    → ActsOn objects names MayFail r begin orders replies moments between → some_failed orders replies ≡ false → AllLeaveAsSaid later r begin orders replies moments → AllLeaveAsSaid later between (last_moment begin moments) more others behind
    → AllLeaveAsSaid later r begin (orders ++ more) (replies ++ others) (moments ++ behind)
each_then MayFail objects names later r between begin [] [] [] more others behind acts unfailed first second = subst (λ x. AllLeaveAsSaid later x begin more others behind) acts second
each_then MayFail objects names later r between begin (sent ∷ orders) (reply ∷ replies) (finish ∷ moments) more others behind (mid, acted, _, rest) unfailed first second =
    let whole = no_failure (goes_on sent reply) (some_failed orders replies) unfailed in
    let same : mid ≡ next r sent reply = next_is r mid sent reply acted.step whole.0 in (
      first.0,
      subst (λ x. AllLeaveAsSaid later x finish (orders ++ more) (replies ++ others) (moments ++ behind)) same
          (each_then MayFail objects names later mid between finish orders replies moments more others behind rest whole.1 (subst (λ x. AllLeaveAsSaid later x finish orders replies moments) (sym same) first.1) second),
    )
each_then MayFail objects names later r between begin [] [] (finish ∷ moments) more others behind acts unfailed first second = absurd acts
each_then MayFail objects names later r between begin [] (reply ∷ replies) moments more others behind acts unfailed first second = absurd acts
each_then MayFail objects names later r between begin (sent ∷ orders) [] moments more others behind acts unfailed first second = absurd acts
each_then MayFail objects names later r between begin (sent ∷ orders) (reply ∷ replies) [] more others behind acts unfailed first second = absurd acts
