-- How the histories of the files and the trace of a run make rounds.
use Rattle.std.proofs.Common.{◌≡◌, ℕ, List, [], ◌∷◌, ◌++◌, length, Some, slice_get, refl, sym, ◌∙◌, ap, subst, zero, suc}
use Rattle.gix_ref_file.specs.Tree.{Tree}
use Rattle.gix_ref_file.specs.History.{History, trees, moment}
use Rattle.gix_hash.specs.declared.kind.Kind.{Kind}
use Rattle.history_model.specs.Places.{Pair}
use Rattle.history_model.specs.Repository.{Repository}
use Rattle.history_model.specs.StandsFor.{StandsWhole}
use Rattle.history_model.specs.Moments.{Moment, GoesOnFrom, StoodAt, IsPairAt}
use Rattle.history_model.specs.laws.Joining.{IsRunPair, GoesOnAt, StopsMakeRounds, RunsMakeRounds}
use Rattle.history_model.specs.Rounds.{Round, IsRunOf, stopped_round, ended_round}
use Rattle.history_model.proofs.RoundLemmas.{traces_stop, runs_end}
use Rattle.history_model.proofs.FailureLemmas.{traces_weaken}
use Rattle.history_model.proofs.OnePair.{one_pair}
use Rattle.history_model.specs.Joined.{pair_now}

got_longer : (xs ys : List Tree) (m : ℕ) (tree : Tree) → slice_get xs m ≡ Some tree → slice_get (xs ++ ys) m ≡ Some tree
got_longer [] ys m tree got = cc
got_longer (x ∷ xs) ys zero tree got = got
got_longer (x ∷ xs) ys (suc m) tree got = got_longer xs ys m tree got

got_at : (past : List Tree) (tree : Tree) (more : List Tree) → slice_get (past ++ tree ∷ more) (length past) ≡ Some tree
got_at [] tree more = refl
got_at (t ∷ past) tree more = got_at past tree more

pub now_at : (history : History) (m : ℕ) → m ≡ moment history → StoodAt history m history.tree
now_at history m e = subst (λ n. StoodAt history n history.tree) (sym e) (got_at history.past history.tree [])

stood_later : (old new : History) → GoesOnFrom old new → (m : ℕ) → m ≡ moment old → StoodAt new m old.tree
stood_later old new on m e = ap (λ ts. slice_get ts m) on.1 ∙ got_longer (trees old) on.0 m old.tree (now_at old m e)

-- a run's first pair is the pair at its beginning in the histories after it
pub begins_there : (old_objects old_names objects names : History) (begin : Moment) → GoesOnAt old_objects old_names objects names begin
    → IsPairAt objects names begin (pair_now old_objects old_names)
begins_there old_objects old_names objects names begin on =
    (stood_later old_objects objects on.objects_on begin.objects on.objects_at, stood_later old_names names on.names_on begin.names on.names_at)

-- a run of one repository that the pair represents is a run of each of them
pub of_each : (kind : Kind) (pair : Pair) (old : Repository) (round : Round) → StandsWhole kind pair old → IsRunOf old round → (other : Repository) → StandsWhole kind pair other → IsRunOf other round
of_each kind pair old round whole is other stands = subst (λ r. IsRunOf r round) (one_pair kind pair old other whole stands) is

pub stops_make_rounds : (MayFail : Type 0) → StopsMakeRounds MayFail
stops_make_rounds MayFail kind old_objects old_names objects names begin finish old new commands replies input rest on whole splits traces pair here =
    let weaker = traces_weaken MayFail objects names old begin commands replies finish new traces in
    let stop = traces_stop objects names old new begin finish commands replies input rest splits weaker.0 pair
    (subst (λ ms. IsRunPair objects names begin ms pair) (sym weaker.1) here) in (
      stop.0,
      stop.1,
      stop.2,
      record {
        begins = begins_there old_objects old_names objects names begin on;
        runs = of_each kind (pair_now old_objects old_names) old (stopped_round kind objects names begin input stop.0 pair) whole
            (subst (λ k. IsRunOf old (stopped_round k objects names begin input stop.0 pair)) (whole.stands).of_kind stop.3);
        leaves = refl;
      },
    )

pub runs_make_rounds : (MayFail : Type 0) → RunsMakeRounds MayFail
runs_make_rounds MayFail kind old_objects old_names objects names begin finish old new commands replies input output end on whole ran traces at_objects at_names =
    let weaker = traces_weaken MayFail objects names old begin commands replies finish new traces in
    record {
      begins = begins_there old_objects old_names objects names begin on;
      runs = of_each kind (pair_now old_objects old_names) old (ended_round objects names begin input replies output (pair_now objects names)) whole
          (runs_end objects names old new begin finish commands replies input output end ran weaker.0 (pair_now objects names)
          (now_at objects finish.objects at_objects, now_at names finish.names at_names));
      leaves = refl;
    }
