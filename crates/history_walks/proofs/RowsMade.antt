-- Rows that are made one after another.
use Rattle.std.proofs.Common.{◌≡◌, ◌∙◌, ◌≤◌, ◌<◌, ◌+◌, ℕ, zero, suc, pos, ap, refl, sym, subst, arith, cond, ◌^◌, ◌-◌, max, min, Bool, true, false, List, [], ◌∷◌, ◌++◌, length, map, inl, inr, Option, Some, None, option_map, unwrap_or}
use Rattle.std.specs.Prelude.{Contains, fold, ◌⊎◌}
use Rattle.std.specs.HashMap.{get}
use Rattle.std.specs.FinMap.{empty}
use Rattle.std.proofs.lemmas.List.{append_assoc, length-map}
use Rattle.std.proofs.lemmas.List.Elements.{Contains-append_left, Contains-push, Contains-push_cases}
use Rattle.gix_hash.specs.Id.{Id, id_of}
use Rattle.gix_hash.specs.declared.object_id.ObjectId.{ObjectId}
use Rattle.gix_traverse_graph.specs.Numbered.{NumberMap, same_id}
use Rattle.gix_traverse_graph.specs.Order.{At}
use Rattle.gix_traverse_graph.specs.Rows.{AreRows, HasGeneration, HasParents, Holds, IsGreatest, IsOnce, IsRowsFault, generation_limit}
use Rattle.gix_traverse_graph.specs.declared.rows.Row.{Row}
use Rattle.gix_traverse_graph.proofs.Ids.{same_from_test, test_from_same}
use Rattle.gix_traverse_graph.proofs.Lists.{at_from_contains, at_from_push, contains_from_at, none_at_nil}
use Rattle.history_model.specs.Answers as model
use Rattle.history_model.specs.Answers.{counted, generation, row_of, rows_of}
use Rattle.history_model.specs.Objects.{CommitValue, folder_id}
use Rattle.history_model.specs.Repository.{Repository, commit_at}
use Rattle.history_model.proofs.WholeLists.{In, in_map, of_map}
use Rattle.history_walks.specs.Rows.{AreTheRows, SaysRow}
use Rattle.history_walks.specs.Telling.{AreAllTold, AreInOrder, IsTold, TellsStored}
use Rattle.history_walks.specs.declared.told.Told.{Told}
use Rattle.history_walks.proofs.Members.{AreApart, contains_from_in, in_from_contains, no_longer}
use Rattle.history_walks.proofs.Generations.{attained, below_greatest, bounded, map_same, one_more, told_parents}
use Rattle.history_walks.proofs.Counted.{counted_apart, counted_told, fewer, in_counted, same_object, stored_in}

-- the row of a described commit, with its generation
pub record IsRowOf (r : Repository) (row : Row) (told : Told) : Type 0 where
  pub id : row.id ≡ told.id
  pub tree : row.tree ≡ told.tree
  pub parents : row.parents.items ≡ told.parents.items
  pub time : row.time ≡ told.time
  pub generation : row.generation ≡ generation r (id_of told.id)

-- of these commits the generations are known, and those that are counted have rows
pub record AreMade (r : Repository) (done : List Told) (rows : List Row) (generations : NumberMap) : Type 0 where
  pub known : (told : Told) → In told done → get same_id generations told.id ≡ Some (generation r (id_of told.id))
  pub each : (told : Told) → In told done → generation r (id_of told.id) ≤ generation_limit → (row : Row) × Contains rows row × IsRowOf r row told
  pub only : (row : Row) → Contains rows row → (told : Told) × In told done × (generation r (id_of told.id) ≤ generation_limit) × IsRowOf r row told
  pub once : IsOnce rows

pub none_made : (r : Repository) (generations : NumberMap) → AreMade r [] [] generations
none_made r generations = record {
  known = λ told i. absurd i;
  each = λ told i within. absurd i;
  only = λ row c. absurd (omega (arith, c.1));
  once = λ j k first second a b same. absurd (none_at_nil j first a);
}

-- ---- one more is made

module _ (r : Repository) (done : List Told) (rows : List Row) (generations : NumberMap) (made : AreMade r done rows generations) (told : Told) (new : IsTold done told.id → ⊥) (n : ℕ) (is : n ≡ generation r (id_of told.id))
    (more : NumberMap) (put : (id : ObjectId) → get same_id more id ≡ cond (same_id told.id id) (Some n) (get same_id generations id)) where
  known_then : (other : Told) → In other (told ∷ done) → get same_id more other.id ≡ Some (generation r (id_of other.id))
  known_then other (inl same) =
      put other.id ∙ ap (λ b. cond b (Some n) (get same_id generations other.id)) (test_from_same told.id other.id (ap (λ (t : Told). t.id) (sym same))) ∙ ap Some is
      ∙ ap (λ (t : Told). Some (generation r (id_of t.id))) (sym same)
  known_then other (inr i) = put other.id ∙ ap (λ b. cond b (Some n) (get same_id generations other.id)) (apart (same_id told.id other.id) refl) ∙ made.known other i
    where
      apart : (b : Bool) → same_id told.id other.id ≡ b → b ≡ false
      apart true e = absurd (new (other, contains_from_in done other i, sym (same_from_test told.id other.id e)))
      apart false e = refl

  -- one above the limit has no row
  pub passed : generation_limit < n → AreMade r (told ∷ done) rows more
  passed above = record {
    known = known_then;
    each = each_then;
    only = λ row c. let (other, i, within, row_is) = made.only row c in (other, inr i, within, row_is);
    once = made.once;
  }
    where
      each_then : (other : Told) → In other (told ∷ done) → generation r (id_of other.id) ≤ generation_limit → (row : Row) × Contains rows row × IsRowOf r row other
      each_then other (inl same) within = let here : generation r (id_of told.id) ≤ generation_limit = subst (λ (t : Told). generation r (id_of t.id) ≤ generation_limit) same within in absurd (omega (arith, above, is, here))
      each_then other (inr i) within = made.each other i within

  one_made : (row : Row) → IsRowOf r row told → n ≤ generation_limit → AreMade r (told ∷ done) (rows ++ row ∷ []) more
  one_made row row_is within = record {
    known = known_then;
    each = each_then;
    only = only_then;
    once = once_then;
  }
    where
      each_then : (other : Told) → In other (told ∷ done) → generation r (id_of other.id) ≤ generation_limit → (found : Row) × Contains (rows ++ row ∷ []) found × IsRowOf r found other
      each_then other (inl same) least = (row, Contains-push rows row, subst (λ (t : Told). IsRowOf r row t) (sym same) row_is)
      each_then other (inr i) least = let (found, c, found_is) = made.each other i least in (found, Contains-append_left rows (row ∷ []) found c, found_is)

      only_then : (found : Row) → Contains (rows ++ row ∷ []) found → (other : Told) × In other (told ∷ done) × (generation r (id_of other.id) ≤ generation_limit) × IsRowOf r found other
      only_then found c = elim (Contains-push_cases rows row found c) [
        | inl earlier ↦ let (other, i, least, found_is) = made.only found earlier in (other, inr i, least, found_is)
        | inr same ↦ (told, inl refl, subst (λ m. m ≤ generation_limit) is within, subst (λ (x : Row). IsRowOf r x told) same row_is)
      ]

      apart : (k : ℕ) (other : Row) → At rows k other → other.id ≡ told.id → ⊥
      apart k other a same = let (later, i, least, other_is) = made.only other (contains_from_at rows k other a) in new (later, contains_from_in done later i, sym other_is.id ∙ same)

      once_then : IsOnce (rows ++ row ∷ [])
      once_then j k first second a b same = elim (at_from_push rows row j first a) [
        | inl early ↦ elim (at_from_push rows row k second b) [
          | inl also ↦ made.once j k first second early also same
          | inr last ↦ absurd (apart j first early (same ∙ ap (λ (x : Row). x.id) last.1 ∙ row_is.id))
        ]
        | inr last ↦ elim (at_from_push rows row k second b) [
          | inl early ↦ absurd (apart k second early (sym same ∙ ap (λ (x : Row). x.id) last.1 ∙ row_is.id))
          | inr also ↦ last.0 ∙ sym also.0
        ]
      ]

-- the row is pushed
pub row_pushed : (r : Repository) (done : List Told) (rows : List Row) (generations : NumberMap) → AreMade r done rows generations → (told : Told) → (IsTold done told.id → ⊥) → (n : ℕ) → n ≡ generation r (id_of told.id)
    → (more : NumberMap) → ((id : ObjectId) → get same_id more id ≡ cond (same_id told.id id) (Some n) (get same_id generations id)) → (row : Row) (pushed : List Row) → pushed ≡ rows ++ row ∷ []
    → row.id ≡ told.id → row.tree ≡ told.tree → row.parents.items ≡ told.parents.items → row.time ≡ told.time → n ≤ generation_limit → row.generation ≡ n → AreMade r (told ∷ done) pushed more
row_pushed r done rows generations made told new n is more put row pushed grown id tree parents time within same =
    subst (λ (rows : List Row). AreMade r (told ∷ done) rows more) (sym grown)
    (one_made r done rows generations made told new n is more put row (record { id = id; tree = tree; parents = parents; time = time; generation = same ∙ is }) within)

-- the greatest of the parents' generations, as far as they are known
pub greatest_known : (r : Repository) (done : List Told) (rows : List Row) (generations : NumberMap) → AreMade r done rows generations → (parents : List ObjectId) → ((parent : ObjectId) → In parent parents → IsTold done parent)
    → map (λ parent. unwrap_or (get same_id generations parent) 0) parents ≡ map (λ parent. generation r (id_of parent)) parents
greatest_known r done rows generations made parents told =
    map_same (λ parent. unwrap_or (get same_id generations parent) 0) (λ parent. generation r (id_of parent)) parents known
  where
    known : (parent : ObjectId) → In parent parents → unwrap_or (get same_id generations parent) 0 ≡ generation r (id_of parent)
    known parent i =
        let (other, c, same) = told parent i in
        ap (λ id. unwrap_or (get same_id generations id) 0) (sym same) ∙ ap (λ found. unwrap_or found 0) (made.known other (in_from_contains done other c)) ∙ ap (λ id. generation r (id_of id)) same

parent_told : (some : List Told) → AreInOrder some → (told : Told) → In told some → (parent : ObjectId) → In parent told.parents.items → (other : Told) × In other some × (other.id ≡ parent)
parent_told [] order told i parent among = absurd i
parent_told (first ∷ behind) order told (inl same) parent among =
    let (other, c, named) = order.0 parent (contains_from_in first.parents.items parent (subst (λ (x : Told). In parent x.parents.items) same among)) in
    (other, inr (in_from_contains behind other c), named)
parent_told (first ∷ behind) order told (inr i) parent among = let (other, c, named) = parent_told behind order.2 told i parent among in (other, inr c, named)

-- no commit has two rows, so none of their ids occurs twice
rows_apart : (some : List Row) → IsOnce some → AreApart (map (λ (row : Row). id_of row.id) some)
rows_apart [] once = tt
rows_apart (row ∷ rest) once = (twice, rows_apart rest (λ j k first second a b same. let e = once (suc j) (suc k) first second a b same in omega (arith, e)))
  where
    twice : In (id_of row.id) (map (λ (x : Row). id_of x.id) rest) → ⊥
    twice i =
        let (other, among, same) = of_map (λ (x : Row). id_of x.id) (id_of row.id) rest i in
        let (k, a) = at_from_contains rest other (contains_from_in rest other among) in
        let e = once 0 (suc k) row other refl a (same_object row.id other.id same) in
        omega (arith, e)

-- ---- all are made

module _ (r : Repository) (commits : List Told) (all : AreAllTold r commits) where
  -- the row says what the repository's row says
  says : (row : Row) (told : Told) → In told commits → IsRowOf r row told → SaysRow row (row_of r (id_of told.id))
  says row told i row_is =
      let stored = stored_in r commits all told i in
      let at = stored.stored in
      record {
        id = ap id_of row_is.id;
        tree = ap id_of row_is.tree ∙ stored.tree ∙ ap (λ found. folder_id r.kind (unwrap_or (option_map (λ (commit : CommitValue). commit.files) found) empty)) (sym at);
        parents = ap (map id_of) row_is.parents ∙ sym (told_parents r told stored);
        time = row_is.time ∙ stored.time ∙ ap (λ found. pos (unwrap_or (option_map (λ (commit : CommitValue). (commit.committer).seconds) found) 0)) (sym at);
        generation = row_is.generation;
      }

  module _ (rows : List Row) (generations : NumberMap) (made : AreMade r commits rows generations) where
    each_row : (p : model.Row) → Contains (rows_of r) p → (row : Row) × Contains rows row × SaysRow row p
    each_row p c =
        let (id, i, same) = of_map (row_of r) p (counted r) (in_from_contains (rows_of r) p c) in
        let (told, among, named, within) = counted_told r commits all id i in
        let (row, there, row_is) = made.each told among within in
        (row, there, subst (λ x. SaysRow row x) (ap (row_of r) named ∙ sym same) (says row told among row_is))

    only_rows : (row : Row) → Contains rows row → (p : model.Row) × Contains (rows_of r) p × SaysRow row p
    only_rows row c =
        let (told, among, within, row_is) = made.only row c in
        (row_of r (id_of told.id), contains_from_in (rows_of r) (row_of r (id_of told.id)) (in_map (row_of r) (id_of told.id) (counted r) (in_counted r commits all told among within)), says row told among row_is)

    -- ---- as many

    abbrev ids : List Id
    ids = map (λ (row : Row). id_of row.id) rows

    rows_counted : (id : Id) → In id ids → In id (counted r)
    rows_counted id i =
        let (row, among, same) = of_map (λ (x : Row). id_of x.id) id rows i in
        let (told, there, within, row_is) = made.only row (contains_from_in rows row among) in
        subst (λ x. In x (counted r)) (ap id_of (sym row_is.id) ∙ sym same) (in_counted r commits all told there within)

    counted_rows : (id : Id) → In id (counted r) → In id ids
    counted_rows id i =
        let (told, among, named, within) = counted_told r commits all id i in
        let (row, there, row_is) = made.each told among within in
        subst (λ x. In x ids) (ap id_of row_is.id ∙ named) (in_map (λ (x : Row). id_of x.id) row rows (in_from_contains rows row there))

    as_many : length rows ≡ length (rows_of r)
    as_many =
        let most = no_longer ids (counted r) (rows_apart rows made.once) rows_counted in
        let least = no_longer (counted r) ids (counted_apart r) counted_rows in
        let as_rows : length ids ≡ length rows = length-map rows (λ (x : Row). id_of x.id) in
        let as_counted : length (rows_of r) ≡ length (counted r) = length-map (counted r) (row_of r) in
        omega (arith, most, least, as_rows, as_counted)

    pub are_the_rows : AreTheRows (rows_of r) rows
    are_the_rows = record { each = each_row; only = only_rows; as_many = as_many }

    -- ---- they make a graph

    -- the row of a parent
    parent_row : (told : Told) → In told commits → generation r (id_of told.id) ≤ generation_limit → (parent : ObjectId) → In parent told.parents.items
        → (row : Row) × Contains rows row × (row.id ≡ parent) × (row.generation ≡ generation r (id_of parent))
    parent_row told i within parent among =
        let (other, there, named) = parent_told commits all.order told i parent among in
        let more = one_more r commits (stored_in r commits all) all.order (fewer r commits all) told i in
        let below = below_greatest 0 (map (λ p. generation r (id_of p)) told.parents.items) (generation r (id_of parent)) (in_map (λ p. generation r (id_of p)) parent told.parents.items among) in
        let less : generation r (id_of parent) ≤ generation_limit = omega (arith, more, below, within) in
        let (row, c, row_is) = made.each other there (subst (λ id. generation r (id_of id) ≤ generation_limit) (sym named) less) in
        (row, c, row_is.id ∙ named, row_is.generation ∙ ap (λ id. generation r (id_of id)) named)

    has_parents : (row : Row) → Contains rows row → HasParents rows row
    has_parents row c parent among =
        let (told, i, within, row_is) = made.only row c in
        let (other, there, named, _) = parent_row told i within parent (in_from_contains told.parents.items parent (subst (λ (ids : List ObjectId). Contains ids parent) row_is.parents among)) in
        (other, there, named)

    has_generation : (row : Row) → Contains rows row → HasGeneration rows row
    has_generation row c = from (made.only row c)
      where
        from : (told : Told) × In told commits × (generation r (id_of told.id) ≤ generation_limit) × IsRowOf r row told → HasGeneration rows row
        from (told, i, within, row_is) = record {
          greatest = greatest;
          is_greatest = record { none_above = none_above; attained = reached };
          one_more = let more = one_more r commits (stored_in r commits all) all.order (fewer r commits all) told i in let same = row_is.generation in omega (arith, more, same);
          within = let same = row_is.generation in omega (arith, within, same);
        }
          where
            values : List ℕ
            values = map (λ p. generation r (id_of p)) told.parents.items

            greatest : ℕ
            greatest = fold max 0 values

            none_above : (s : Row) → Contains rows s → Contains row.parents.items s.id → s.generation ≤ greatest
            none_above s there among =
                let (other, j, least, s_is) = made.only s there in
                let i_in = in_from_contains told.parents.items s.id (subst (λ (ids : List ObjectId). Contains ids s.id) row_is.parents among) in
                let below = below_greatest 0 values (generation r (id_of s.id)) (in_map (λ p. generation r (id_of p)) s.id told.parents.items i_in) in
                let same : s.generation ≡ generation r (id_of s.id) = s_is.generation ∙ ap (λ id. generation r (id_of id)) (sym s_is.id) in
                omega (arith, below, same)

            reached : ((row.parents.items ≡ []) × (greatest ≡ 0)) ⊎ ((s : Row) × Contains rows s × Contains row.parents.items s.id × (s.generation ≡ greatest))
            reached = at told.parents.items refl
              where
                at : (parents : List ObjectId) → told.parents.items ≡ parents → ((row.parents.items ≡ []) × (greatest ≡ 0)) ⊎ ((s : Row) × Contains rows s × Contains row.parents.items s.id × (s.generation ≡ greatest))
                at [] none = inl (row_is.parents ∙ none, ap (λ ps. fold max 0 (map (λ p. generation r (id_of p)) ps)) none)
                at (first ∷ rest) some = elim (attained 0 values) [
                  | inl zero_is ↦ take first (subst (λ ps. In first ps) (sym some) (inl refl)) (
                      let below = below_greatest 0 values (generation r (id_of first)) (in_map (λ p. generation r (id_of p)) first told.parents.items (subst (λ ps. In first ps) (sym some) (inl refl))) in
                      omega (arith, below, zero_is))
                  | inr among ↦ let (p, j, same) = of_map (λ p. generation r (id_of p)) greatest told.parents.items among in take p j (sym same)
                ]
                  where
                    take : (p : ObjectId) → In p told.parents.items → generation r (id_of p) ≡ greatest → ((row.parents.items ≡ []) × (greatest ≡ 0)) ⊎ ((s : Row) × Contains rows s × Contains row.parents.items s.id × (s.generation ≡ greatest))
                    take p j same =
                        let (s, there, named, grown) = parent_row told i within p j in
                        inr (s, there, subst (λ (ids : List ObjectId). Contains ids s.id) (sym row_is.parents) (contains_from_in told.parents.items s.id (subst (λ id. In id told.parents.items) (sym named) j)), grown ∙ same)

    pub make_a_graph : AreRows rows
    make_a_graph = record { once = made.once; parents = has_parents; generations = has_generation }

-- ---- one commit after another

order_behind : (before behind : List Told) → AreInOrder (before ++ behind) → AreInOrder behind
order_behind [] behind order = order
order_behind (told ∷ before) behind order = order_behind before behind order.2

in_behind : (before behind : List Told) (told : Told) → In told behind → In told (before ++ behind)
in_behind [] behind told i = i
in_behind (first ∷ before) behind told i = inr (in_behind before behind told i)

-- the next one is taken from the back
module _ (r : Repository) (commits rest done : List Told) (told : Told) (split : commits ≡ rest ++ told ∷ done) (all : AreAllTold r commits) (rows : List Row) (generations : NumberMap) (made : AreMade r done rows generations) where
  order : AreInOrder (told ∷ done)
  order = order_behind rest (told ∷ done) (subst AreInOrder split all.order)

  among : In told commits
  among = subst (λ xs. In told xs) (sym split) (in_behind rest (told ∷ done) told (inl refl))

  pub is_new : IsTold done told.id → ⊥
  is_new = order.1

  -- its generation is one more than the greatest that is known of its parents', and no list is so long that it isn't counted
  pub generation_is : (greatest : ℕ) → greatest ≡ fold max 0 (map (λ parent. unwrap_or (get same_id generations parent) 0) told.parents.items) → greatest + 1 ≡ generation r (id_of told.id)
  generation_is greatest is =
      let known = greatest_known r done rows generations made told.parents.items (λ parent i. order.0 parent (contains_from_in told.parents.items parent i)) in
      let more = one_more r commits (stored_in r commits all) all.order (fewer r commits all) told among in
      let same : greatest ≡ fold max 0 (map (λ parent. generation r (id_of parent)) told.parents.items) = is ∙ ap (fold max 0) known in
      omega (arith, more, same)

  pub generation_fits : generation r (id_of told.id) ≤ length commits
  generation_fits = bounded r commits (stored_in r commits all) all.order (fewer r commits all) told among

  -- what the code counts is the generation
  pub counted_is : (greatest n : ℕ) → greatest ≡ fold max 0 (map (λ parent. unwrap_or (get same_id generations parent) 0) told.parents.items) → n ≡ min (greatest + 1) (2 ^ 64 - 1) → length commits < 2 ^ 64 → n ≡ generation r (id_of told.id)
  counted_is greatest n is least small = let one = generation_is greatest is in let fits = generation_fits in omega (arith, one, fits, least, small)

-- one is taken from the back
pub taken : (commits before rest done : List Told) (told : Told) → commits ≡ before ++ done → before ≡ rest ++ told ∷ [] → commits ≡ rest ++ told ∷ done
taken commits before rest done told split last = split ∙ ap (λ xs. xs ++ done) last ∙ append_assoc rest (told ∷ []) done

-- none is left
pub none_left : (commits before done : List Told) → commits ≡ before ++ done → length before ≡ 0 → done ≡ commits
none_left commits [] done split none = sym split
none_left commits (told ∷ before) done split none = absurd (omega (arith, none))
