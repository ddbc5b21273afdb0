-- One round more.
use Rattle.std.proofs.Common.{◌≡◌, ℕ, Bool, List, [], ◌∷◌, ◌++◌, Option, Result, Ok, Err, refl, sym, ◌∙◌, subst}
use Rattle.gix_ref_file.specs.History.{History}
use Rattle.gix_hash.specs.declared.kind.Kind.{Kind}
use Rattle.history_model.specs.Bytes.{Bytes}
use Rattle.history_model.specs.Commands.{Command}
use Rattle.history_model.specs.Replies.{Reply}
use Rattle.history_model.specs.Places.{Pair}
use Rattle.history_model.specs.Repository.{Repository}
use Rattle.history_model.specs.StandsFor.{StandsWhole}
use Rattle.history_model.specs.Recovery.{recovered}
use Rattle.history_model.specs.Rounds.{Round, IsRound, AreRounds, last_left, stopped_round}
use Rattle.history_model.specs.Joined.{pair_now}
use Rattle.history_model.proofs.RoundLemmas.{rounds_join}
use Rattle.history_repository.specs.Opened.{trees_of}
use Rattle.history_rounds.specs.Joined.{AreExplained, GoesOn, IsOneMore, IsRoundOver, MakesRound}
use Rattle.history_rounds.specs.declared.rounds.Made.{Made}
use Rattle.history_rounds.specs.declared.rounds.Unmade.{Unmade}
use Rattle.history_rounds.specs.declared.rounds.Unmade.TheVariants.{Unopened, Unrecovered}

more_rounds : (kind : Kind) (pair : Pair) (rounds : List Round) (round : Round) → AreRounds kind pair rounds → IsRound kind (last_left pair rounds) round → AreRounds kind pair (rounds ++ round ∷ [])
more_rounds kind pair [] round are is = (is, tt)
more_rounds kind pair (first ∷ rounds) round are is = (are.0, more_rounds kind first.left rounds round are.1 is)

left_last : (pair : Pair) (rounds : List Round) (round : Round) → last_left pair (rounds ++ round ∷ []) ≡ round.left
left_last pair [] round = refl
left_last pair (first ∷ rounds) round = left_last first.left rounds round

-- the law of rounds, of those that leave this pair
pub explained : (kind : Kind) (pair : Pair) (rounds : List Round) (r : Repository) (left : Pair) → StandsWhole kind pair r → AreRounds kind pair rounds → last_left pair rounds ≡ left → AreExplained kind pair rounds r left
explained kind pair rounds r left whole are leaves =
    let all = rounds_join kind pair rounds r whole are in
    record {
      are_rounds = are;
      leaves = leaves;
      new = all.0;
      outcomes = all.2;
      stands = subst (λ p. StandsWhole kind p all.0) leaves all.1;
    }

module _ (kind : Kind) (pair : Pair) (rounds : List Round) (r : Repository) (whole : StandsWhole kind pair r) (old_objects old_names : History) (before : AreExplained kind pair rounds r (pair_now old_objects old_names)) where
  one_more : (round : Round) (left : Pair) → IsRound kind (pair_now old_objects old_names) round → round.left ≡ left → AreExplained kind pair (rounds ++ round ∷ []) r left
  one_more round left is leaves =
      explained kind pair (rounds ++ round ∷ []) r left whole (more_rounds kind pair rounds round before.are_rounds (subst (λ p. IsRound kind p round) (sym before.leaves) is)) (left_last pair rounds round ∙ leaves)

  pub goes_on : (Reads Writes : Bytes → Type 0) (Ends : Repository → List Command → List Reply → Bytes → Bytes → Bool → Repository → Type 0) (objects names : History) (left : Pair)
      → IsRoundOver kind old_objects old_names before.new Reads Writes Ends objects names left → IsOneMore kind pair rounds r old_objects old_names Reads Writes Ends objects names left
  goes_on Reads Writes Ends objects names left over = record {
    before = before;
    over = over;
    all = one_more over.round left over.is_round over.leaves;
    stopped = λ stop here.
        let made = over.stops stop here in
        (made.0, made.1, made.2, one_more (stopped_round kind over.round.objects over.round.names over.round.begin over.round.input made.0 stop) (recovered kind stop) made.3 refl);
  }

module _ {F R W : Type 0} (history : F → History) (failures : F → ℕ) (MayFail : Type 0) (left : R → Option Bytes) (readings : R → ℕ) (contents : W → Option Bytes) (kind : Kind) (objects names : F) (reader reader' : R) (writer writer' : W)
    (pair : Pair) (rounds : List Round) (r : Repository) (whole : StandsWhole kind pair r) (before : AreExplained kind pair rounds r (trees_of history objects names)) where
  pub goes_on_so : (result : Result (Made F) (Unmade F)) → MakesRound history failures MayFail left readings contents kind objects names reader reader' writer writer' before.new result
      → GoesOn history failures MayFail left readings contents kind objects names reader reader' writer writer' pair rounds r result
  goes_on_so (Ok made) h = goes_on kind pair rounds r whole (history objects) (history names) before _ _ _ (history made.objects) (history made.names) _ h
  goes_on_so (Err (Unopened refusal)) h = h
  goes_on_so (Err (Unrecovered made error)) h = (goes_on kind pair rounds r whole (history objects) (history names) before _ _ _ (history made.objects) (history made.names) _ h.0, h.1)
