-- What the words of a log's line say, word by word.
use Rattle.std.proofs.Common.{◌≡◌, ◌≢◌, Bool, true, false, not, ◌&&◌, ◌||◌, List, [], ◌∷◌, ◌++◌, Option, Some, None, Vec, Global, refl, sym, ap, subst, ◌∙◌, append_assoc, if◌then◌else◌, option_map, option_and_then, bytes_eq, codes}
use Rattle.std.specs.Prelude.{IfSome, MatchOption}
use Rattle.std.specs.List.{AllZip, list_all, list_any}
use Rattle.history_model.specs.Bytes.{Bytes, is_empty}
use Rattle.history_model.specs.Commands as model
use Rattle.history_model.specs.Lines as lines
use Rattle.history_model.specs.Spelling.{is_tip, item_target, are_items}
use Rattle.history_word.specs.LineTable as table
use Rattle.history_word.specs.LineTable.{Items, order_of, first_parents_of, item_of, items_of, paths_of, with_item, number_of, walk_of_words, log_of_words}
use Rattle.history_word.specs.Commands.{IsOrder, IsLogItem}
use Rattle.history_word.specs.Drafts.{SaysLog, SaysOrder, SaysItems, item_with}
use Rattle.history_word.specs.declared.command.Order.{Order}
use Rattle.history_word.specs.declared.command.LogItem.{LogItem}
use Rattle.history_word.specs.declared.logs.LogLine.{LogLine}
use Rattle.history_word.specs.declared.sizes.Sizes.{Sizes}
use Rattle.history_word.proofs.PushLemmas.{pushed_zip}
use Rattle.history_word.proofs.UnofferedLemmas.{nowhere}
use Rattle.std.proofs.lemmas.Bool.{and_from, and_parts}

-- ---- items

abbrev has_target : model.LogItem → Bool
has_target item = not (is_empty (item_target item))

-- these items before those that words say
abbrev pub before : List model.LogItem → Option Items → Option Items
before done more = option_map (λ items. (done ++ items.0, items.1)) more

-- Of the words of a line these items have come, and these words are left.
pub record HaveCome (all left : List Bytes) (items : Option (Vec LogItem Global)) (has_tip : Bool) : Type 0 where
  pub done : List model.LogItem
  pub said : items_of all ≡ before done (items_of left)
  pub whole : list_all has_target done ≡ true
  pub begins : list_any is_tip done ≡ has_tip
  pub kept : IfSome items (λ own. AllZip IsLogItem own.items done)

pub none_come : (words : List Bytes) (items : Option (Vec LogItem Global)) → IfSome items (λ own. own.items ≡ []) → HaveCome words words items false
none_come words items new = record { done = []; said = same (items_of words); whole = refl; begins = refl; kept = empty items new }
  where
    same : (o : Option Items) → o ≡ before [] o
    same None = refl
    same (Some items) = refl

    empty : (items : Option (Vec LogItem Global)) → IfSome items (λ own. own.items ≡ []) → IfSome items (λ own. AllZip IsLogItem own.items [])
    empty None e = tt
    empty (Some own) e = subst (λ all. AllZip IsLogItem all []) (sym e) tt

-- ---- one item more

all_with : (done : List model.LogItem) (item : model.LogItem) → list_all has_target done ≡ true → has_target item ≡ true → list_all has_target (done ++ item ∷ []) ≡ true
all_with [] item h e = and_from (has_target item) true e refl
all_with (i ∷ done) item h e =
    let both = and_parts (has_target i) (list_all has_target done) h in
    and_from (has_target i) (list_all has_target (done ++ item ∷ [])) both.0 (all_with done item both.1 e)

any_with : (done : List model.LogItem) (item : model.LogItem) → list_any is_tip (done ++ item ∷ []) ≡ (list_any is_tip done || is_tip item)
any_with [] item = or_none (is_tip item)
  where
    or_none : (b : Bool) → (b || false) ≡ b
    or_none true = refl
    or_none false = refl
any_with (i ∷ done) item = go (is_tip i) (any_with done item)
  where
    go : (b : Bool) → list_any is_tip (done ++ item ∷ []) ≡ (list_any is_tip done || is_tip item) → (b || list_any is_tip (done ++ item ∷ [])) ≡ ((b || list_any is_tip done) || is_tip item)
    go true e = refl
    go false e = e

some_word : (word : Bytes) → word ≢ [] → not (is_empty word) ≡ true
some_word [] some = absurd (some refl)
some_word (b ∷ word) some = refl

target_of : (tip : Bool) (word : Bytes) → word ≢ [] → has_target (item_with tip word) ≡ true
target_of true word some = some_word word some
target_of false word some = some_word word some

tip_of : (tip : Bool) (word : Bytes) → word ≢ [] → is_tip (item_with tip word) ≡ tip
tip_of true word some = some_word word some
tip_of false word some = refl

said_more : (done : List model.LogItem) (item : model.LogItem) (word : Bytes) (words : List Bytes) → item_of word ≡ Some item → before done (items_of (word ∷ words)) ≡ before (done ++ item ∷ []) (items_of words)
said_more done item word words e = ap (λ o. before done (with_item o (items_of words) (paths_of (word ∷ words)))) e ∙ go (items_of words)
  where
    go : (more : Option Items) → before done (option_map (λ items. (item ∷ items.0, items.1)) more) ≡ before (done ++ item ∷ []) more
    go None = refl
    go (Some items) = ap (λ all. Some (all, items.1)) (sym (append_assoc done (item ∷ []) items.0))

pub one_more : (all words left : List Bytes) (word : Bytes) (old new : Option (Vec LogItem Global)) (x : Option LogItem) (has_tip tip : Bool) (target : Bytes) → HaveCome all words old has_tip → words ≡ word ∷ left
    → item_of word ≡ Some (item_with tip target) → target ≢ [] → IfSome x (λ it. IsLogItem it (item_with tip target))
    → IfSome new (λ now. MatchOption old ⊥ (λ own. MatchOption x ⊥ (λ it. now.items ≡ own.items ++ it ∷ []))) → HaveCome all left new (has_tip || tip)
one_more all words left word old new x has_tip tip target h split e some is pushed = record {
  done = h.done ++ item_with tip target ∷ [];
  said = h.said ∙ ap (λ ws. before h.done (items_of ws)) split ∙ said_more h.done (item_with tip target) word left e;
  whole = all_with h.done (item_with tip target) h.whole (target_of tip target some);
  begins = any_with h.done (item_with tip target) ∙ (λ i. h.begins i || tip_of tip target some i);
  kept = pushed_zip IsLogItem old new x h.done (item_with tip target) pushed h.kept is;
}

-- ---- at the end, or at a word that is no item

-- words that say no items say none after others
pub none_said : (all words : List Bytes) (items : Option (Vec LogItem Global)) (has_tip : Bool) → HaveCome all words items has_tip → items_of words ≡ None → SaysItems None (items_of all)
none_said all words items has_tip h e = subst (SaysItems None) (sym (h.said ∙ ap (before h.done) e)) tt

pub no_paths : (words left : List Bytes) (word : Bytes) → words ≡ word ∷ left → word ≡ codes "path" → None ≡ paths_of (codes "path" ∷ left) → items_of words ≡ None
no_paths words left word split is none = ap items_of (split ∙ ap (λ w. w ∷ left) is) ∙ ap (option_map (λ ns. ([], ns))) (sym none)

bare : (done is : List model.LogItem) (item : model.LogItem) → item_target item ≡ [] → are_items (done ++ item ∷ is) ≡ false
bare done is item e = none (list_any is_tip (done ++ item ∷ is)) (list_all has_target (done ++ item ∷ is)) (within done)
  where
    none : (a b : Bool) → b ≡ false → (a && b) ≡ false
    none true b e = e
    none false b e = refl

    within : (done : List model.LogItem) → list_all has_target (done ++ item ∷ is) ≡ false
    within [] = ap (λ t. not (is_empty t) && list_all has_target is) e
    within (i ∷ done) = none (has_target i) (list_all has_target (done ++ item ∷ is)) (within done)

pub no_item : (all words left : List Bytes) (word : Bytes) (items : Option (Vec LogItem Global)) (has_tip : Bool) → HaveCome all words items has_tip → words ≡ word ∷ left → bytes_eq word (codes "path") ≡ false
    → ((item : model.LogItem) → item_of word ≡ Some item → item_target item ≡ []) → SaysItems None (items_of all)
no_item all words left word items has_tip h split other none =
    subst (SaysItems None) (sym (h.said ∙ ap (λ ws. before h.done (items_of ws)) split)) (by_item (item_of word) refl)
  where
    no_path : (left : List Bytes) → paths_of (word ∷ left) ≡ None
    no_path [] = refl
    no_path (size ∷ left) = ap (λ b. if b then option_and_then (λ n. option_map (λ ns. n ∷ ns) (paths_of left)) (number_of size) else None) other

    bare_says : (item : model.LogItem) → item_target item ≡ [] → (more : Option Items) → SaysItems None (before h.done (option_map (λ items. (item ∷ items.0, items.1)) more))
    bare_says item e None = tt
    bare_says item e (Some items) = bare h.done items.0 item e

    by_item : (o : Option model.LogItem) → item_of word ≡ o → SaysItems None (before h.done (with_item o (items_of left) (paths_of (word ∷ left))))
    by_item None e = subst (λ paths. SaysItems None (before h.done (option_map (λ ns. ([], ns)) paths))) (sym (no_path left)) tt
    by_item (Some item) e = bare_says item (none item e) (items_of left)

-- ---- the line

pub no_order : (words left : List Bytes) → SaysOrder None (order_of words) left → SaysLog None (log_of_words words)
no_order words left says = go (order_of words) says
  where
    go : (o : Option (model.Order × List Bytes)) → SaysOrder None o left → SaysLog None (option_and_then (λ order. walk_of_words order.0 order.1) o)
    go None s = tt
    go (Some order) s = absurd s

pub behind_order : (words left : List Bytes) (said : Option Order) (line : Option LogLine) → SaysOrder (Some said) (order_of words) left
    → ((order : model.Order) → IfSome said (λ x. IsOrder x order) → SaysLog line (walk_of_words order left)) → SaysLog line (log_of_words words)
behind_order words left said line says rest = go (order_of words) says
  where
    go : (o : Option (model.Order × List Bytes)) → SaysOrder (Some said) o left → SaysLog line (option_and_then (λ order. walk_of_words order.0 order.1) o)
    go None s = absurd s
    go (Some (order, words)) s = subst (λ ws. SaysLog line (walk_of_words order ws)) s.1 (rest order s.0)

pub behind_parents : (order : model.Order) (left words : List Bytes) (word : Bytes) (first : Bool) (line : Option LogLine) → left ≡ word ∷ words → first_parents_of word ≡ Some first
    → SaysLog line (option_map (λ items. lines.LogHeading order first items.0 items.1) (items_of words)) → SaysLog line (walk_of_words order left)
behind_parents order left words word first line split e rest =
    subst (λ ws. SaysLog line (walk_of_words order ws)) (sym split)
    (subst (λ o. SaysLog line (option_and_then (λ first. option_map (λ items. lines.LogHeading order first items.0 items.1) (items_of words)) o)) (sym e) rest)

pub no_parents : (order : model.Order) (left words : List Bytes) (word : Bytes) → left ≡ word ∷ words → first_parents_of word ≡ None → SaysLog None (walk_of_words order left)
no_parents order left words word split e =
    subst (λ ws. SaysLog None (walk_of_words order ws)) (sym split)
    (subst (λ o. SaysLog None (option_and_then (λ first. option_map (λ items. lines.LogHeading order first items.0 items.1) (items_of words)) o)) (sym e) tt)

pub no_words : (order : model.Order) (left : List Bytes) → left ≡ [] → SaysLog None (walk_of_words order left)
no_words order left e = subst (λ ws. SaysLog None (walk_of_words order ws)) (sym e) tt

pub no_items : (order : model.Order) (first : Bool) (said : Option Items) → SaysItems None said → SaysLog None (option_map (λ items. lines.LogHeading order first items.0 items.1) said)
no_items order first None says = tt
no_items order first (Some (is, paths)) says =
    nowhere (lines.LogHeading order first is paths) (ap (λ b. if b then Some table.Done else None) says) refl refl refl refl refl refl refl refl

pub whole_line : (order : model.Order) (own : Option Order) (first : Bool) (items : Option (Vec LogItem Global)) (paths : Sizes) (said : Option Items) → IfSome own (λ x. IsOrder x order) → SaysItems (Some (items, paths)) said
    → SaysLog (Some (record { order = own; first_parents = first; items = items; paths = paths })) (option_map (λ items. lines.LogHeading order first items.0 items.1) said)
whole_line order own first items paths None is says = absurd says
whole_line order own first items paths (Some (all, sizes)) is says = (record { order = is; first_parents = refl; items = says.1; begins = says.0 }, says.2)
