use Rattle.std.specs.Prelude.{ℕ, Bool, true, List, [], ◌∷◌, Option, Some, None, slice_get, unwrap_or, pos, nat_eq, not, ◌&&◌}
use Rattle.std.specs.List.{list_any, list_all}
use Rattle.gix_traverse_graph.specs.Check.{check_chosen, is_open, is_ready, newest_first, oldest_first, outranks}
use Rattle.gix_traverse_graph.specs.Commits.{Commit, Commits, WalkRequest, asked_parents}
use Rattle.gix_traverse_graph.specs.declared.parents.Parents.{Parents}
use Rattle.gix_traverse_graph.specs.declared.parents.Parents.TheVariants.{All, First}
use Rattle.gix_traverse_graph.specs.Slow.{breadth_list}
use Rattle.gix_traverse_graph.specs.Sorting.{in_time}

abbrev pub graph_of : List (Commit ℕ) → Commits ℕ
graph_of commits x = unwrap_or (slice_get commits x) (record { parents = []; time = pos 0 })

abbrev pub commit : List ℕ → ℕ → Commit ℕ
commit parents time = record { parents = parents; time = pos time }

-- the sample history: 8 has the parents 6 and 7
abbrev pub history : List (Commit ℕ)
history =
    commit [] 0 ∷ commit [] 1 ∷ commit (1 ∷ []) 2 ∷ commit (1 ∷ []) 3 ∷ commit (2 ∷ []) 4
    ∷ commit (3 ∷ []) 5 ∷ commit (5 ∷ []) 6 ∷ commit (4 ∷ []) 7 ∷ commit (6 ∷ 7 ∷ []) 8 ∷ []

-- with clocks that are wrong: c 0, x 1, y 2, v 3, h 4
abbrev pub skewed : List (Commit ℕ)
skewed =
    commit [] 5 ∷ commit (0 ∷ []) 1 ∷ commit (1 ∷ []) 8 ∷ commit (2 ∷ 0 ∷ []) 10
    ∷ commit (2 ∷ []) 9 ∷ []

-- all that tips reach, less what the hidden reach
abbrev pub request : List ℕ → List ℕ → Parents → WalkRequest ℕ
request tips hidden parents =
    record { tips = tips; hidden = hidden; parents = parents; since = None; accepts = λ _. true }

-- what these commits reach, by all parents
abbrev pub reached_list : List (Commit ℕ) → List ℕ → List ℕ
reached_list commits tips =
    unwrap_or (breadth_list nat_eq (λ _. true) (λ x. (graph_of commits x).parents) tips 20) []

abbrev pub keeps : List (Commit ℕ) → WalkRequest ℕ → ℕ → Bool
keeps commits q x =
    q.accepts x
    &&
    (in_time q.since (graph_of commits x).time
    && not (list_any (nat_eq x) (reached_list commits q.hidden)))

-- the listed set, in breadth order
abbrev pub slow_list : List (Commit ℕ) → WalkRequest ℕ → Option (List ℕ)
slow_list commits q =
    breadth_list nat_eq (keeps commits q) (asked_parents q.parents (graph_of commits)) q.tips 20

abbrev pub is_distinct : {I : Type 0} → (I → I → Bool) → List I → Bool
is_distinct eq [] = true
is_distinct eq (x ∷ xs) = not (list_any (eq x) xs) && is_distinct eq xs

-- out has the members of zs, each once
abbrev pub is_list_of : List ℕ → List ℕ → Bool
is_list_of zs out =
    list_all (λ x. list_any (nat_eq x) zs) out
    && (list_all (λ x. list_any (nat_eq x) out) zs && is_distinct nat_eq out)

abbrev pub topological_rows : List (Commit ℕ) → WalkRequest ℕ → List ℕ → Bool
topological_rows commits q out =
    let zs = unwrap_or (slow_list commits q) [] in
    let g = graph_of commits in
    is_list_of zs out
    && check_chosen (is_ready nat_eq (asked_parents q.parents g) zs)
    (outranks nat_eq (asked_parents q.parents g) q.tips (λ x. (g x).time)) [] out

abbrev pub date_rows : List (Commit ℕ) → WalkRequest ℕ → List ℕ → Bool
date_rows commits q out =
    let zs = unwrap_or (slow_list commits q) [] in
    let g = graph_of commits in
    is_list_of zs out
    && check_chosen (is_ready nat_eq (asked_parents q.parents g) zs)
    (newest_first (λ x. (g x).time)) [] out

abbrev pub newest_rows : List (Commit ℕ) → WalkRequest ℕ → List ℕ → Bool
newest_rows commits q out =
    let zs = unwrap_or (slow_list commits q) [] in
    let g = graph_of commits in
    is_list_of zs out
    && check_chosen (is_open nat_eq (asked_parents q.parents g) q.tips)
    (newest_first (λ x. (g x).time)) [] out

abbrev pub oldest_rows : List (Commit ℕ) → WalkRequest ℕ → List ℕ → Bool
oldest_rows commits q out =
    let zs = unwrap_or (slow_list commits q) [] in
    let g = graph_of commits in
    is_list_of zs out
    && check_chosen (is_open nat_eq (asked_parents q.parents g) q.tips)
    (oldest_first (λ x. (g x).time)) [] out

abbrev pub since_request : List ℕ → ℕ → WalkRequest ℕ
since_request tips seconds =
    record {
      tips =
          tips;
      hidden = [];
      parents = All;
      since = Some (pos seconds);
      accepts = λ _. true;
    }

-- p 0 has time 9, q 1 has 2, r 2 has 10
abbrev pub line : List (Commit ℕ)
line = commit [] 9 ∷ commit (0 ∷ []) 2 ∷ commit (1 ∷ []) 10 ∷ []

-- a walk whose predicate refuses one commit
abbrev pub refusing_request : List ℕ → ℕ → WalkRequest ℕ
refusing_request tips refused =
    record {
      tips =
          tips;
      hidden = [];
      parents = All;
      since = None;
      accepts = λ x. not (nat_eq x refused);
    }

-- ---- the requests of the rows: what a commit reaches, less what another reaches, along first
-- parents alone, past one that is refused, or no older than some seconds

abbrev pub from_8 : WalkRequest ℕ
from_8 = request (8 ∷ []) [] All

abbrev pub from_8_less_7 : WalkRequest ℕ
from_8_less_7 = request (8 ∷ []) (7 ∷ []) All

abbrev pub from_8_less_8 : WalkRequest ℕ
from_8_less_8 = request (8 ∷ []) (8 ∷ []) All

abbrev pub from_8_by_first : WalkRequest ℕ
from_8_by_first = request (8 ∷ []) [] First

abbrev pub from_8_past_6 : WalkRequest ℕ
from_8_past_6 = refusing_request (8 ∷ []) 6

abbrev pub from_8_since_4 : WalkRequest ℕ
from_8_since_4 = since_request (8 ∷ []) 4

abbrev pub from_3_less_4 : WalkRequest ℕ
from_3_less_4 = request (3 ∷ []) (4 ∷ []) All

abbrev pub from_2_since_4 : WalkRequest ℕ
from_2_since_4 = since_request (2 ∷ []) 4
