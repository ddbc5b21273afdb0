-- No command's text begins another's.
use Rattle.std.proofs.Common.{◌≡◌, Bool, true, false, List, [], ◌∷◌, ◌++◌, length, map, refl, sym, ap, Option, Some, None, bytes_eq, codes}
use Rattle.std.specs.List.{flat_map, list_all}
use Rattle.std.proofs.lemmas.Slice.Eq.{bytes_eq-Decides}
use Rattle.history_model.specs.Bytes.{Bytes}
use Rattle.history_model.specs.Commands.{Command, Commit, Tag, Move, Rename, Delete, Switch, Pack, Index, Names, Files, Past, Log, Show, Expect, Any, New, At, ActorLine, EditLine, PutLine, RemoveLine, RemoveFileLine, GraftLine, To, Order, Breadth, Newest, Oldest, NewestSince, OldestSince, Date, Topological, LogItem, Tip, Hidden}
use Rattle.history_model.specs.Spelling.{Part, Line, Field, has_spelling, parents_word, expect_words, at_words, option_list, path_words, order_words, item_word, kind_word, edit_parts, to_part, parent_part, actor_parts, message_parts, end_part, parts_of, has_enough, is_part}
use Rattle.history_model.specs.Grammar.{is_command}
use Rattle.history_model.specs.laws.Grammars.{IsPrefixFree}
use Rattle.history_model.specs.Stage.{is_spoken}
use Rattle.history_model.specs.declared.FileKind.{FileKind}
use Rattle.history_model.specs.declared.FileKind.TheVariants.{File, Exec, Link}
use Rattle.history_model.proofs.PartLemmas.{Agree, agree_reads, head_same, tail_same}
use Rattle.std.proofs.lemmas.Bool.{and_parts}

pub words_differ : {A : Type 0} (u v : Bytes) → bytes_eq u v ≡ false → u ≡ v → A
words_differ u v h e = let k = (bytes_eq-Decides u v).1 e in cc

heads_differ : {A : Type 0} (u v : Bytes) (us vs : List Bytes) → bytes_eq u v ≡ false → u ∷ us ≡ v ∷ vs → A
heads_differ u v us vs h e = words_differ u v h (head_same e)

nil_cons : {A X : Type 0} (x : X) (xs : List X) → [] ≡ x ∷ xs → A
nil_cons x xs e = cc

-- ---- lines

expect_same : (x y : Expect) (xs ys : List Bytes) → length xs ≡ length ys → expect_words x ++ xs ≡ expect_words y ++ ys → (x ≡ y) × (xs ≡ ys)
expect_same Any Any xs ys n e = (refl, tail_same e)
expect_same New New xs ys n e = (refl, tail_same e)
expect_same (At w) (At v) xs ys n e = (ap At (head_same (tail_same e)), tail_same (tail_same e))
expect_same Any New xs ys n e = heads_differ _ _ _ _ refl e
expect_same Any (At v) xs ys n e = heads_differ _ _ _ _ refl e
expect_same New Any xs ys n e = heads_differ _ _ _ _ refl e
expect_same New (At v) xs ys n e = heads_differ _ _ _ _ refl e
expect_same (At w) Any xs ys n e = heads_differ _ _ _ _ refl e
expect_same (At w) New xs ys n e = heads_differ _ _ _ _ refl e

expect_alone : (x y : Expect) → expect_words x ≡ expect_words y → x ≡ y
expect_alone Any Any e = refl
expect_alone New New e = refl
expect_alone (At w) (At v) e = ap At (head_same (tail_same e))
expect_alone Any New e = heads_differ _ _ _ _ refl e
expect_alone Any (At v) e = heads_differ _ _ _ _ refl e
expect_alone New Any e = heads_differ _ _ _ _ refl e
expect_alone New (At v) e = heads_differ _ _ _ _ refl e
expect_alone (At w) Any e = heads_differ _ _ _ _ refl e
expect_alone (At w) New e = heads_differ _ _ _ _ refl e

at_same : (x y : Option Bytes) → at_words x ≡ at_words y → x ≡ y
at_same None None e = refl
at_same (Some w) (Some v) e = ap Some (head_same (tail_same e))
at_same None (Some v) e = heads_differ _ _ _ _ refl e
at_same (Some w) None e = heads_differ _ _ _ _ refl e

option_same : (x y : Option Bytes) → option_list x ≡ option_list y → x ≡ y
option_same None None e = refl
option_same (Some w) (Some v) e = ap Some (head_same e)
option_same None (Some v) e = nil_cons _ _ e
option_same (Some w) None e = nil_cons _ _ (sym e)

kind_same : (x y : FileKind) → kind_word x ≡ kind_word y → x ≡ y
kind_same File File e = refl
kind_same Exec Exec e = refl
kind_same Link Link e = refl
kind_same File Exec e = words_differ _ _ refl e
kind_same File Link e = words_differ _ _ refl e
kind_same Exec File e = words_differ _ _ refl e
kind_same Exec Link e = words_differ _ _ refl e
kind_same Link File e = words_differ _ _ refl e
kind_same Link Exec e = words_differ _ _ refl e

order_same : (o p : Order) (xs ys : List Bytes) → order_words o ++ xs ≡ order_words p ++ ys → (o ≡ p) × (xs ≡ ys)
order_same Breadth Breadth xs ys e = (refl, tail_same e)
order_same Newest Newest xs ys e = (refl, tail_same e)
order_same Oldest Oldest xs ys e = (refl, tail_same e)
order_same Date Date xs ys e = (refl, tail_same e)
order_same Topological Topological xs ys e = (refl, tail_same e)
order_same (NewestSince s) (NewestSince t) xs ys e = (ap NewestSince (head_same (tail_same e)), tail_same (tail_same e))
order_same (OldestSince s) (OldestSince t) xs ys e = (ap OldestSince (head_same (tail_same e)), tail_same (tail_same e))
order_same o p xs ys e = heads_differ _ _ _ _ refl e

first_same : (a b : Bool) → parents_word a ≡ parents_word b → a ≡ b
first_same true true e = refl
first_same false false e = refl
first_same true false e = words_differ (codes "first") (codes "all") refl e
first_same false true e = words_differ (codes "all") (codes "first") refl e

item_same : (x y : LogItem) → item_word x ≡ item_word y → x ≡ y
item_same (Tip w) (Tip v) e = ap Tip (tail_same e)
item_same (Hidden w) (Hidden v) e = ap Hidden (tail_same e)
item_same (Tip w) (Hidden v) e = words_differ _ _ refl e
item_same (Hidden w) (Tip v) e = words_differ _ _ refl e

no_item : {A : Type 0} (ps : List Bytes) (y : LogItem) (ys : List Bytes) → flat_map path_words ps ≡ item_word y ∷ ys → A
no_item [] y ys e = nil_cons _ _ e
no_item (p ∷ ps) (Tip w) ys e = heads_differ _ _ _ _ refl e
no_item (p ∷ ps) (Hidden w) ys e = heads_differ _ _ _ _ refl e

items_same : (xs ys : List LogItem) (ps qs : List Bytes) → map item_word xs ++ flat_map path_words ps ≡ map item_word ys ++ flat_map path_words qs
    → (xs ≡ ys) × (flat_map path_words ps ≡ flat_map path_words qs)
items_same [] [] ps qs e = (refl, e)
items_same [] (y ∷ ys) ps qs e = no_item ps y _ e
items_same (x ∷ xs) [] ps qs e = no_item qs x _ (sym e)
items_same (x ∷ xs) (y ∷ ys) ps qs e =
    let rest = items_same xs ys ps qs (tail_same e) in
    (λ i. item_same x y (head_same e) i ∷ rest.0 i, rest.1)

-- ---- parts

agree_paths : (C : Type 0) (ps qs : List Bytes) → flat_map path_words ps ≡ flat_map path_words qs → (ps ≡ qs → C) → Agree C (map Field ps) (map Field qs)
agree_paths C [] [] e k = k refl
agree_paths C [] (q ∷ qs) e k = nil_cons _ _ e
agree_paths C (p ∷ ps) [] e k = nil_cons _ _ (sym e)
agree_paths C (p ∷ ps) (q ∷ qs) e k = (head_same (tail_same e), λ same. agree_paths C ps qs (tail_same (tail_same e)) (λ more. k (λ i. same i ∷ more i)))

agree_actor : (C : Type 0) (role : Bytes) (a b : ActorLine) (t u : List Part) → (a ≡ b → Agree C t u) → Agree C (actor_parts role a ++ t) (actor_parts role b ++ u)
agree_actor C role a b t u k = λ e. let rest = tail_same (tail_same (tail_same e)) in (
  head_same (tail_same e),
  λ n. (
    head_same (tail_same (tail_same e)),
    λ m.
        k (λ i. record { name = n i; email = m i; seconds = head_same rest i; offset = head_same (tail_same rest) i }),
  ),
)

agree_message : (C : Type 0) (a b : Bytes) → (a ≡ b → C) → Agree C (message_parts a ++ end_part) (message_parts b ++ end_part)
agree_message C a b k = λ e. (head_same (tail_same e), λ same. λ _. k same)

module _ (C : Type 0) (ws vs : List Bytes) (t u : List Part) where
  abbrev left : List Part
  left = Line (codes "author" ∷ ws) ∷ t

  abbrev right : List Part
  right = Line (codes "author" ∷ vs) ∷ u

  agree_edits : (es fs : List EditLine) → (es ≡ fs → Agree C left right) → Agree C (flat_map edit_parts es ++ left) (flat_map edit_parts fs ++ right)
  agree_edits [] [] k = k refl
  agree_edits [] (PutLine kind path bytes ∷ fs) k = λ e. heads_differ _ _ _ _ refl e
  agree_edits [] (RemoveLine path ∷ fs) k = λ e. heads_differ _ _ _ _ refl e
  agree_edits [] (RemoveFileLine path ∷ fs) k = λ e. heads_differ _ _ _ _ refl e
  agree_edits [] (GraftLine path word source ∷ fs) k = λ e. heads_differ _ _ _ _ refl e
  agree_edits (PutLine kind path bytes ∷ es) [] k = λ e. heads_differ _ _ _ _ refl e
  agree_edits (RemoveLine path ∷ es) [] k = λ e. heads_differ _ _ _ _ refl e
  agree_edits (RemoveFileLine path ∷ es) [] k = λ e. heads_differ _ _ _ _ refl e
  agree_edits (GraftLine path word source ∷ es) [] k = λ e. heads_differ _ _ _ _ refl e
  agree_edits (PutLine kind path bytes ∷ es) (PutLine sort place text ∷ fs) k = λ e. (
    head_same (tail_same (tail_same e)),
    λ p. (
      head_same (tail_same (tail_same (tail_same e))),
      λ b.
          agree_edits es fs (λ same. k (λ i. PutLine (kind_same kind sort (head_same (tail_same e)) i) (p i) (b i) ∷ same i)),
    ),
  )
  agree_edits (RemoveLine path ∷ es) (RemoveLine place ∷ fs) k = λ e. (head_same (tail_same e), λ p. agree_edits es fs (λ same. k (λ i. RemoveLine (p i) ∷ same i)))
  agree_edits (RemoveFileLine path ∷ es) (RemoveFileLine place ∷ fs) k = λ e. (head_same (tail_same e), λ p. agree_edits es fs (λ same. k (λ i. RemoveFileLine (p i) ∷ same i)))
  agree_edits (PutLine kind path bytes ∷ es) (RemoveLine place ∷ fs) k = λ e. heads_differ _ _ _ _ refl e
  agree_edits (PutLine kind path bytes ∷ es) (RemoveFileLine place ∷ fs) k = λ e. heads_differ _ _ _ _ refl e
  agree_edits (RemoveLine path ∷ es) (PutLine sort place text ∷ fs) k = λ e. heads_differ _ _ _ _ refl e
  agree_edits (RemoveLine path ∷ es) (RemoveFileLine place ∷ fs) k = λ e. heads_differ _ _ _ _ refl e
  agree_edits (RemoveFileLine path ∷ es) (PutLine sort place text ∷ fs) k = λ e. heads_differ _ _ _ _ refl e
  agree_edits (RemoveFileLine path ∷ es) (RemoveLine place ∷ fs) k = λ e. heads_differ _ _ _ _ refl e
  agree_edits (GraftLine path word source ∷ es) (GraftLine place name part ∷ fs) k = λ e. (
    head_same (tail_same e),
    λ p. (
      head_same (tail_same (tail_same (tail_same e))),
      λ s.
          agree_edits es fs (λ same. k (λ i. GraftLine (p i) (head_same (tail_same (tail_same e)) i) (s i) ∷ same i)),
    ),
  )
  agree_edits (PutLine kind path bytes ∷ es) (GraftLine place name part ∷ fs) k = λ e. heads_differ _ _ _ _ refl e
  agree_edits (RemoveLine path ∷ es) (GraftLine place name part ∷ fs) k = λ e. heads_differ _ _ _ _ refl e
  agree_edits (RemoveFileLine path ∷ es) (GraftLine place name part ∷ fs) k = λ e. heads_differ _ _ _ _ refl e
  agree_edits (GraftLine path word source ∷ es) (PutLine sort place text ∷ fs) k = λ e. heads_differ _ _ _ _ refl e
  agree_edits (GraftLine path word source ∷ es) (RemoveLine place ∷ fs) k = λ e. heads_differ _ _ _ _ refl e
  agree_edits (GraftLine path word source ∷ es) (RemoveFileLine place ∷ fs) k = λ e. heads_differ _ _ _ _ refl e

  no_parent_left : (es : List EditLine) (q : Bytes) (rest : List Part) → Agree C (flat_map edit_parts es ++ left) (parent_part q ∷ rest)
  no_parent_left [] q rest = λ e. heads_differ _ _ _ _ refl e
  no_parent_left (PutLine kind path bytes ∷ es) q rest = λ e. heads_differ _ _ _ _ refl e
  no_parent_left (RemoveLine path ∷ es) q rest = λ e. heads_differ _ _ _ _ refl e
  no_parent_left (RemoveFileLine path ∷ es) q rest = λ e. heads_differ _ _ _ _ refl e
  no_parent_left (GraftLine path word source ∷ es) q rest = λ e. heads_differ _ _ _ _ refl e

  no_parent_right : (fs : List EditLine) (p : Bytes) (rest : List Part) → Agree C (parent_part p ∷ rest) (flat_map edit_parts fs ++ right)
  no_parent_right [] p rest = λ e. heads_differ _ _ _ _ refl e
  no_parent_right (PutLine kind path bytes ∷ fs) p rest = λ e. heads_differ _ _ _ _ refl e
  no_parent_right (RemoveLine path ∷ fs) p rest = λ e. heads_differ _ _ _ _ refl e
  no_parent_right (RemoveFileLine path ∷ fs) p rest = λ e. heads_differ _ _ _ _ refl e
  no_parent_right (GraftLine path word source ∷ fs) p rest = λ e. heads_differ _ _ _ _ refl e

  agree_parents : (ps qs : List Bytes) (es fs : List EditLine) → (ps ≡ qs → es ≡ fs → Agree C left right)
      → Agree C (map parent_part ps ++ (flat_map edit_parts es ++ left)) (map parent_part qs ++ (flat_map edit_parts fs ++ right))
  agree_parents [] [] es fs k = agree_edits es fs (k refl)
  agree_parents [] (q ∷ qs) es fs k = no_parent_left es q _
  agree_parents (p ∷ ps) [] es fs k = no_parent_right fs p _
  agree_parents (p ∷ ps) (q ∷ qs) es fs k = λ e. agree_parents ps qs es fs (λ same. k (λ i. head_same (tail_same e) i ∷ same i))

agree_to : (C : Type 0) (ws vs : List Bytes) (t u : List Part) (xs ys : List To) → (xs ≡ ys → Agree C (Line (codes "actor" ∷ ws) ∷ t) (Line (codes "actor" ∷ vs) ∷ u))
    → Agree C (map to_part xs ++ (Line (codes "actor" ∷ ws) ∷ t)) (map to_part ys ++ (Line (codes "actor" ∷ vs) ∷ u))
agree_to C ws vs t u [] [] k = k refl
agree_to C ws vs t u [] (y ∷ ys) k = λ e. heads_differ _ _ _ _ refl e
agree_to C ws vs t u (x ∷ xs) [] k = λ e. heads_differ _ _ _ _ refl e
agree_to C ws vs t u (x ∷ xs) (y ∷ ys) k = λ e.
    let rest = expect_same x.expect y.expect (x.word ∷ []) (y.word ∷ []) refl (tail_same (tail_same e)) in
    agree_to C ws vs t u xs ys (λ same. k (λ i. record { name = head_same (tail_same e) i; expect = rest.0 i; word = head_same rest.1 i } ∷ same i))

abbrev closed : Bytes → List Part
closed message = message_parts message ++ end_part

pub agree : (a b : Command) → Agree (a ≡ b) (parts_of a) (parts_of b)
agree (Commit c) (Commit d) = λ e.
    agree_parents (Commit c ≡ Commit d) _ _ _ _ c.parents d.parents c.edits d.edits (λ ps es.
    agree_actor (Commit c ≡ Commit d) (codes "author") c.author d.author (actor_parts (codes "committer") c.committer ++ closed c.message) (actor_parts (codes "committer") d.committer ++ closed d.message) (λ a.
    agree_actor (Commit c ≡ Commit d) (codes "committer") c.committer d.committer (closed c.message) (closed d.message) (λ b.
    agree_message (Commit c ≡ Commit d) c.message d.message (λ m i. Commit (record {
      name = head_same (tail_same e) i;
      expect = expect_alone c.expect d.expect (tail_same (tail_same e)) i;
      parents = ps i;
      edits = es i;
      author = a i;
      committer = b i;
      message = m i;
    })))))
agree (Tag c) (Tag d) = λ e.
    let rest = expect_same c.expect d.expect (c.word ∷ []) (d.word ∷ []) refl (tail_same (tail_same e)) in
    agree_actor (Tag c ≡ Tag d) (codes "tagger") c.tagger d.tagger (closed c.message) (closed d.message) (λ a.
    agree_message (Tag c ≡ Tag d) c.message d.message (λ m i. Tag (record {
      name = head_same (tail_same e) i;
      expect = rest.0 i;
      word = head_same rest.1 i;
      tagger = a i;
      message = m i;
    })))
agree (Move c) (Move d) = λ e.
    agree_to (Move c ≡ Move d) _ _ _ _ c.to d.to (λ to.
    agree_actor (Move c ≡ Move d) (codes "actor") c.actor d.actor (closed c.message) (closed d.message) (λ a.
    agree_message (Move c ≡ Move d) c.message d.message (λ m i. Move (record { to = to i; actor = a i; message = m i }))))
agree (Rename f t) (Rename g u) = λ e i. Rename (head_same (tail_same e) i) (head_same (tail_same (tail_same e)) i)
agree (Delete n x) (Delete m y) = λ e i. Delete (head_same (tail_same e) i) (at_same x y (tail_same (tail_same e)) i)
agree (Switch n) (Switch m) = λ e. ap Switch (head_same (tail_same e))
agree Pack Pack = λ e. refl
agree Index Index = λ e. refl
agree (Names x) (Names y) = λ e. ap Names (option_same x y (tail_same e))
agree (Files w) (Files v) = λ e. ap Files (head_same (tail_same e))
agree (Past w) (Past v) = λ e. ap Past (head_same (tail_same e))
agree (Show w p) (Show v q) = λ e.
    agree_paths (Show w p ≡ Show v q) (option_list p) (option_list q) (tail_same (tail_same e)) (λ same i. Show (head_same (tail_same e) i) (option_same p q same i))
agree (Log c) (Log d) = λ e.
    let order = order_same c.order d.order _ _ (tail_same e) in
    let items = items_same c.items d.items c.paths d.paths (tail_same order.1) in
    agree_paths (Log c ≡ Log d) c.paths d.paths items.1 (λ same i. Log (record {
      order = order.0 i;
      first_parents = first_same c.first_parents d.first_parents (head_same order.1) i;
      items = items.0 i;
      paths = same i;
    }))
agree a b = λ e. heads_differ _ _ _ _ refl e

-- a command's parts have a spelling
pub spelled_parts : (command : Command) → has_spelling command ≡ true → list_all is_part (parts_of command) ≡ true
spelled_parts command h = (and_parts (list_all is_part (parts_of command)) (has_enough command) h).0

pub is_spelled : (command : Command) → is_command command ≡ true → has_spelling command ≡ true
is_spelled command h = (and_parts (has_spelling command) (is_spoken command) h).0

pub is_prefix_free : IsPrefixFree has_spelling
is_prefix_free a b x y h k e =
    agree_reads (a ≡ b) (parts_of a) (parts_of b) x y (spelled_parts a h) (spelled_parts b k) (agree a b) e

pub offered_prefix_free : IsPrefixFree is_command
offered_prefix_free a b x y h k e = is_prefix_free a b x y (is_spelled a h) (is_spelled b k) e
