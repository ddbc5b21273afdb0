-- The names that are tried, one step at a time.
use Rattle.std.proofs.Common.{◌≡◌, ◌∙◌, ◌+◌, ◌<◌, ◌≤◌, ap, sym, subst, List, ℕ, ◌∷◌, map, drop, length, get_or, false, true, Bor, Result, Ok}
use Rattle.std.proofs.lemmas.List.{drop_all}
use Rattle.std.proofs.Common.{drop-cons, add-one}
use Rattle.gix_object_signature.specs.Asking.{Asks}
use Rattle.gix_object_signature.specs.Run.{Request}
use Rattle.gix_object_signature.specs.VerifyingSsh.{Question, Asked, NoNames, Tried, Tries, TriesFound, NoMemory, TriedAll, NoneLeft, Ended, Refused, Ends, agrees, find_request, finds, outcome_of}
use Rattle.gix_object_signature.specs.declared.run.Answer.{Answer}
use Rattle.gix_object_signature.specs.declared.run.RunError as run
use Rattle.gix_object_signature.specs.declared.verify.Error as verify
use Rattle.gix_object_signature.specs.declared.verify.Outcome.{Outcome}
use Rattle.gix_object_signature.specs.declared.verify.trust.TrustLevel.{TrustLevel}

abbrev pub texts : List (Bor (List ℕ)) → List (List ℕ)
texts names = map (λ name. name.now) names

one_more : (names : List (Bor (List ℕ))) (i : ℕ) (d : Bor (List ℕ)) → i < length names → texts (drop i names) ≡ (get_or names i d).now ∷ texts (drop (i + 1) names)
one_more names i d inside = ap texts (drop-cons names i d inside) ∙ ap (λ n. (get_or names i d).now ∷ texts (drop n names)) (sym (add-one i))

pub none_left : {R : Type 0} (answers : R → Request → Result Answer run.RunError → R → Type 0) (ask : List ℕ → Request) (here : R) (names : List (Bor (List ℕ))) (i : ℕ) (last : Answer)
    → length names ≤ i → Tries answers ask here (texts (drop i names)) last (Ok last) here
none_left answers ask here names i last over =
    subst (λ ns. Tries answers ask here (texts ns) last (Ok last) here) (sym (drop_all i names over)) (NoneLeft here last)

pub ended : {R : Type 0} (answers : R → Request → Result Answer run.RunError → R → Type 0) (ask : List ℕ → Request) (before after : R) (names : List (Bor (List ℕ))) (i : ℕ) (d : Bor (List ℕ)) (last : Answer) (result : Result Answer verify.Error)
    → i < length names → Asks answers before (ask (get_or names i d).now) result after → Ends result → Tries answers ask before (texts (drop i names)) last result after
ended answers ask before after names i d last result inside asked ends =
    subst (λ ns. Tries answers ask before ns last result after) (sym (one_more names i d inside)) (Ended before after _ _ last result asked ends)

pub refused : {R : Type 0} (answers : R → Request → Result Answer run.RunError → R → Type 0) (ask : List ℕ → Request) (before between after : R) (names : List (Bor (List ℕ))) (i : ℕ) (d : Bor (List ℕ)) (last answer : Answer) (result : Result Answer verify.Error)
    → i < length names → Asks answers before (ask (get_or names i d).now) (Ok answer) between → agrees answer ≡ false
    → Tries answers ask between (texts (drop (i + 1) names)) answer result after → Tries answers ask before (texts (drop i names)) last result after
refused answers ask before between after names i d last answer result inside asked unlike rest =
    subst (λ ns. Tries answers ask before ns last result after) (sym (one_more names i d inside)) (Refused before between after _ _ last answer result asked unlike rest)

-- what comes of the principals that were found is what comes of verifying
pub asked_by_found : {R : Type 0} (answers : R → Request → Result Answer run.RunError → R → Type 0) (before between after : R) (question : Question) (content : List ℕ) (minimum : TrustLevel) (found : Answer) (last : Result Answer verify.Error) (result : Result Outcome verify.Error)
    → Asks answers before (find_request question) (Ok found) between → finds found ≡ true → TriesFound answers question content between found last after → result ≡ outcome_of minimum true last
    → Asked answers before question content minimum result after
asked_by_found answers before between after question content minimum found last result asked some (NoMemory same unmoved) told =
    NoNames found (subst (λ r. Asks answers before (find_request question) (Ok found) r) (sym unmoved) asked) some (told ∙ ap (outcome_of minimum true) same)
asked_by_found answers before between after question content minimum found last result asked some (TriedAll tries) told =
    Tried found between asked some last tries told
