-- Words say what a line of the table says if and only if they are that line's words.
use Rattle.std.proofs.Common.{◌≡◌, ℕ, zero, suc, ◌+◌, ◌-◌, ◌*◌, ◌^◌, ◌<◌, Bool, true, false, not, ◌&&◌, ◌==◌, List, [], ◌∷◌, ◌++◌, length, map, flat_map, get_or, refl, sym, ap, ◌∙◌, subst, Option, Some, None, option_map, option_and_then, bytes_eq, codes, decimal, nat_lt, fold, if◌then◌else◌, rules, arith, tests}
use Rattle.std.specs.List.{list_all}
use Rattle.std.specs.Char.{is_ascii_digit}
use Rattle.std.proofs.lemmas.Fmt.{digits_decimal, digits_value-decimal, decimal-digits_value, decimal_digit, first_decimal, decimal_nonempty}
use Rattle.std.proofs.lemmas.Str.Parse.{IsNumeralModel, numerals_by_fold}
use Rattle.history_model.specs.Bytes.{Bytes, is_decimal, digits_value}
use Rattle.history_model.specs.Commands.{Expect, Any, New, At, Order, Breadth, Newest, Oldest, NewestSince, OldestSince, Date, Topological, LogItem, Tip, Hidden}
use Rattle.history_model.specs.Spelling.{expect_words, kind_word, option_list, order_words, parents_word, item_word}
use Rattle.history_model.specs.declared.FileKind.{FileKind}
use Rattle.history_model.specs.declared.FileKind.TheVariants.{File, Exec, Link}
use Rattle.history_model.specs.Lines.{Role, Author, Committer, Tagger, Mover, Heading, CommitHeading, ParentHeading, PutHeading, RemoveHeading, RemoveFileHeading, GraftHeading, ActorHeading, MessageHeading, EndHeading, TagHeading, MoveHeading, ToHeading, RenameHeading, DeleteHeading, SwitchHeading, PackHeading, IndexHeading, NamesHeading, FilesHeading, PastHeading, LogHeading, ShowHeading}
use Rattle.history_model.specs.LineWords.{role_word, size_words, words_of, sizes, are_sizes}
use Rattle.history_word.specs.LineTable.{number_of, kind_of, expect_of, end_of_words, word_of_words, size_of_words, commit_of_words, put_of_words, graft_of_words, actor_of_words, show_of_words, target_of_words, rename_of_words, delete_of_words, names_of_words, since_of, order_of, first_parents_of, item_of, Items, paths_of, with_item, items_of, walk_of_words, log_of_words, name_heading_of, heading_of, WordsAreHeadings}
use Rattle.history_model.proofs.PartLemmas.{below}
use Rattle.std.proofs.lemmas.Bool.{and_from, eqb-true, and_parts}
use Rattle.history_model.proofs.PlaceLemmas.{one_text}

-- ---- options

pub if_some : {A : Type 0} (b : Bool) (x : Option A) (y : A) → (if b then x else None) ≡ Some y → (b ≡ true) × (x ≡ Some y)
if_some true x y e = (refl, e)
if_some false x y e = cc

pub map_some : {A B : Type 0} (f : A → B) (o : Option A) (y : B) → option_map f o ≡ Some y → (x : A) × (o ≡ Some x) × (f x ≡ y)
map_some f None y e = cc
map_some f (Some x) y e = (x, refl, some_same e)
  where
    some_same : {B : Type 0} {x y : B} → Some x ≡ Some y → x ≡ y
    some_same e = cc

pub then_some : {A B : Type 0} (f : A → Option B) (o : Option A) (y : B) → option_and_then f o ≡ Some y → (x : A) × (o ≡ Some x) × (f x ≡ Some y)
then_some f None y e = cc
then_some f (Some x) y e = (x, refl, e)

-- ---- numbers

own : IsNumeralModel (λ ds. list_all is_ascii_digit ds ≡ true) digits_value
own = numerals_by_fold _ (search rules) (λ n ds. fold (λ n d. n * 10 + (d - 48)) n ds) (search rules)

without_zero : (w : Bytes) → list_all is_ascii_digit w ≡ true → 0 < length w → (get_or w 0 0 ≡ 48 → length w ≡ 1) → is_decimal w ≡ true
without_zero [] h l z = absurd (omega arith)
without_zero (d ∷ []) h l z = (and_parts (is_ascii_digit d) true h).0
without_zero (d ∷ e ∷ ds) h l z = and_from (not (d == 48)) (list_all is_ascii_digit (d ∷ e ∷ ds)) (grind (arith, tests)) h

is_decimal_digits : (w : Bytes) → is_decimal w ≡ true → (list_all is_ascii_digit w ≡ true) × (0 < length w) × (get_or w 0 0 ≡ 48 → length w ≡ 1)
is_decimal_digits [] h = cc
is_decimal_digits (d ∷ []) h = (and_from (is_ascii_digit d) true h refl, omega arith, λ e. refl)
is_decimal_digits (d ∷ e ∷ ds) h =
    let parts = and_parts (not (d == 48)) (list_all is_ascii_digit (d ∷ e ∷ ds)) h in
    (parts.1, omega arith, λ z. grind (arith, tests))

pub if_taken : {A : Type 0} (b : Bool) (x : Option A) → b ≡ true → (if b then x else None) ≡ x
if_taken true x e = refl
if_taken false x e = cc

zero_alone : (n : ℕ) → n < 2 ^ 64 → get_or (decimal n) 0 0 ≡ 48 → length (decimal n) ≡ 1
zero_alone zero small z = ap length (decimal_digit 0 (omega arith))
zero_alone (suc n) small z = absurd (omega (arith, first_decimal (suc n) (omega arith) small))

number_told : (w : Bytes) (n : ℕ) → is_decimal w ≡ true → digits_value w ≡ n → nat_lt n (2 ^ 64) ≡ true → number_of w ≡ Some n
number_told w n d v h =
    if_taken (is_decimal w && nat_lt (digits_value w) (2 ^ 64)) (Some (digits_value w)) (and_from (is_decimal w) (nat_lt (digits_value w) (2 ^ 64)) d (subst (λ m. nat_lt m (2 ^ 64) ≡ true) (sym v) h))
    ∙ ap Some v

pub number_decimal : (n : ℕ) → nat_lt n (2 ^ 64) ≡ true → number_of (decimal n) ≡ Some n
number_decimal n h =
    let small = below n h in
    number_told (decimal n) n
    (without_zero (decimal n) (digits_decimal own n small) (decimal_nonempty n small) (zero_alone n small))
    (digits_value-decimal own n small) h

pub some_same : {B : Type 0} {x y : B} → Some x ≡ Some y → x ≡ y
some_same e = cc

pub decimal_number : (w : Bytes) (n : ℕ) → number_of w ≡ Some n → (w ≡ decimal n) × (nat_lt n (2 ^ 64) ≡ true)
decimal_number w n e =
    let parts = if_some (is_decimal w && nat_lt (digits_value w) (2 ^ 64)) (Some (digits_value w)) n e in
    let tested = and_parts (is_decimal w) (nat_lt (digits_value w) (2 ^ 64)) parts.0 in
    let value = some_same parts.1 in
    let form = is_decimal_digits w tested.0 in
    (sym (decimal-digits_value own w form.0 form.1 form.2 (below (digits_value w) tested.1)) ∙ ap decimal value, subst (λ m. nat_lt m (2 ^ 64) ≡ true) value tested.1)

-- ---- words

either_way : {A P : Type 0} (b : Bool) (x y : Option A) (z : A) → (if b then x else y) ≡ Some z → (b ≡ true → x ≡ Some z → P) → (y ≡ Some z → P) → P
either_way true x y z e f g = f refl e
either_way false x y z e f g = g e

kind_told : (w : Bytes) (kind : FileKind) → kind_of w ≡ Some kind → w ≡ kind_word kind
kind_told w kind e =
    either_way (bytes_eq w (codes "file")) (Some File) _ kind e (λ b f. one_text w (codes "file") b ∙ ap kind_word (some_same f)) (λ e.
    either_way (bytes_eq w (codes "exec")) (Some Exec) _ kind e (λ b f. one_text w (codes "exec") b ∙ ap kind_word (some_same f)) (λ e.
    either_way (bytes_eq w (codes "link")) (Some Link) None kind e (λ b f. one_text w (codes "link") b ∙ ap kind_word (some_same f)) (λ e. cc)))

pub expect_told : (words : List Bytes) (expect : Expect) → expect_of words ≡ Some expect → words ≡ expect_words expect
expect_told (first ∷ []) expect e =
    either_way (bytes_eq first (codes "any")) (Some Any) _ expect e (λ b f. ap (λ w. w ∷ []) (one_text first (codes "any") b) ∙ ap expect_words (some_same f)) (λ e.
    either_way (bytes_eq first (codes "new")) (Some New) None expect e (λ b f. ap (λ w. w ∷ []) (one_text first (codes "new") b) ∙ ap expect_words (some_same f)) (λ e. cc))
expect_told (first ∷ word ∷ []) expect e =
    either_way (bytes_eq first (codes "at")) (Some (At word)) None expect e (λ b f. ap (λ w. w ∷ word ∷ []) (one_text first (codes "at") b) ∙ ap expect_words (some_same f)) (λ e. cc)
expect_told words expect e = cc

-- ---- lines

-- the words are those of the line, and its lengths are lengths
abbrev Tells : List Bytes → Heading → Type 0
Tells words heading = (words ≡ words_of heading) × (are_sizes (sizes heading) ≡ true)

told_as : (words : List Bytes) (g h : Heading) → g ≡ h → words ≡ words_of g → are_sizes (sizes g) ≡ true → Tells words h
told_as words g h e w s = (w ∙ ap words_of e, subst (λ x. are_sizes (sizes x) ≡ true) e s)

-- a line of no more words, of one word, and of one length
end_told : (first : Bytes) (g : Heading) → words_of g ≡ first ∷ [] → sizes g ≡ [] → (words : List Bytes) (h : Heading) → end_of_words g words ≡ Some h → Tells (first ∷ words) h
end_told first g spelled none [] h e = told_as (first ∷ []) g h (some_same e) (sym spelled) (ap are_sizes none)
end_told first g spelled none words h e = cc

word_told : (first : Bytes) (g : Bytes → Heading) → ((w : Bytes) → words_of (g w) ≡ first ∷ w ∷ []) → ((w : Bytes) → sizes (g w) ≡ []) → (words : List Bytes) (h : Heading) → word_of_words g words ≡ Some h → Tells (first ∷ words) h
word_told first g spelled none (w ∷ []) h e = told_as (first ∷ w ∷ []) (g w) h (some_same e) (sym (spelled w)) (ap are_sizes (none w))
word_told first g spelled none words h e = cc

size_told : (first : Bytes) (g : ℕ → Heading) → ((n : ℕ) → words_of (g n) ≡ first ∷ decimal n ∷ []) → ((n : ℕ) → sizes (g n) ≡ n ∷ []) → (words : List Bytes) (h : Heading) → size_of_words g words ≡ Some h → Tells (first ∷ words) h
size_told first g spelled one (size ∷ []) h e =
    let n = map_some g (number_of size) h e in
    let size_is = decimal_number size n.0 n.1 in
    told_as (first ∷ size ∷ []) (g n.0) h n.2 (ap (λ w. first ∷ w ∷ []) size_is.0 ∙ sym (spelled n.0)) (ap are_sizes (one n.0) ∙ and_from (nat_lt n.0 (2 ^ 64)) true size_is.1 refl)
size_told first g spelled one words h e = cc

commit_told : (words : List Bytes) (h : Heading) → commit_of_words words ≡ Some h → Tells (codes "commit" ∷ words) h
commit_told (name ∷ words) h e =
    let expect = map_some (CommitHeading name) (expect_of words) h e in
    told_as (codes "commit" ∷ name ∷ words) (CommitHeading name expect.0) h expect.2 (ap (λ ws. codes "commit" ∷ name ∷ ws) (expect_told words expect.0 expect.1)) refl
commit_told [] h e = cc

put_told : (words : List Bytes) (h : Heading) → put_of_words words ≡ Some h → Tells (codes "put" ∷ words) h
put_told (kind ∷ path ∷ content ∷ []) h e =
    let k = then_some _ (kind_of kind) h e in
    let m = then_some _ (number_of path) h k.2 in
    let n = map_some (PutHeading k.0 m.0) (number_of content) h m.2 in
    let kind_is = kind_told kind k.0 k.1 in
    let path_is = decimal_number path m.0 m.1 in
    let content_is = decimal_number content n.0 n.1 in
    told_as (codes "put" ∷ kind ∷ path ∷ content ∷ []) (PutHeading k.0 m.0 n.0) h n.2
    (λ i. codes "put" ∷ kind_is i ∷ path_is.0 i ∷ content_is.0 i ∷ [])
    (and_from (nat_lt m.0 (2 ^ 64)) (nat_lt n.0 (2 ^ 64) && true) path_is.1 (and_from (nat_lt n.0 (2 ^ 64)) true content_is.1 refl))
put_told words h e = cc

graft_told : (words : List Bytes) (h : Heading) → graft_of_words words ≡ Some h → Tells (codes "graft" ∷ words) h
graft_told (path ∷ word ∷ source ∷ []) h e =
    let m = then_some _ (number_of path) h e in
    let n = map_some (GraftHeading m.0 word) (number_of source) h m.2 in
    let path_is = decimal_number path m.0 m.1 in
    let source_is = decimal_number source n.0 n.1 in
    told_as (codes "graft" ∷ path ∷ word ∷ source ∷ []) (GraftHeading m.0 word n.0) h n.2
    (λ i. codes "graft" ∷ path_is.0 i ∷ word ∷ source_is.0 i ∷ [])
    (and_from (nat_lt m.0 (2 ^ 64)) (nat_lt n.0 (2 ^ 64) && true) path_is.1 (and_from (nat_lt n.0 (2 ^ 64)) true source_is.1 refl))
graft_told words h e = cc

actor_told : (role : Role) (words : List Bytes) (h : Heading) → actor_of_words role words ≡ Some h → Tells (role_word role ∷ words) h
actor_told role (name ∷ email ∷ seconds ∷ offset ∷ []) h e =
    let m = then_some _ (number_of name) h e in
    let n = map_some (λ n. ActorHeading role m.0 n seconds offset) (number_of email) h m.2 in
    let name_is = decimal_number name m.0 m.1 in
    let email_is = decimal_number email n.0 n.1 in
    told_as (role_word role ∷ name ∷ email ∷ seconds ∷ offset ∷ []) (ActorHeading role m.0 n.0 seconds offset) h n.2
    (λ i. role_word role ∷ name_is.0 i ∷ email_is.0 i ∷ seconds ∷ offset ∷ [])
    (and_from (nat_lt m.0 (2 ^ 64)) (nat_lt n.0 (2 ^ 64) && true) name_is.1 (and_from (nat_lt n.0 (2 ^ 64)) true email_is.1 refl))
actor_told role words h e = cc

show_told : (words : List Bytes) (h : Heading) → show_of_words words ≡ Some h → Tells (codes "show" ∷ words) h
show_told (word ∷ []) h e = told_as (codes "show" ∷ word ∷ []) (ShowHeading word None) h (some_same e) refl refl
show_told (word ∷ path ∷ size ∷ []) h e =
    let found = if_some (bytes_eq path (codes "path")) (option_map (λ n. ShowHeading word (Some n)) (number_of size)) h e in
    let n = map_some (λ n. ShowHeading word (Some n)) (number_of size) h found.1 in
    let size_is = decimal_number size n.0 n.1 in
    told_as (codes "show" ∷ word ∷ path ∷ size ∷ []) (ShowHeading word (Some n.0)) h n.2
    (λ i. codes "show" ∷ word ∷ one_text path (codes "path") found.0 i ∷ size_is.0 i ∷ [])
    (and_from (nat_lt n.0 (2 ^ 64)) true size_is.1 refl)
show_told words h e = cc

target_told : (first : Bytes) (g : Bytes → Expect → Bytes → Heading) → ((n : Bytes) (x : Expect) (w : Bytes) → words_of (g n x w) ≡ first ∷ n ∷ (expect_words x ++ w ∷ [])) → ((n : Bytes) (x : Expect) (w : Bytes) → sizes (g n x w) ≡ [])
    → (words : List Bytes) (h : Heading) → target_of_words g words ≡ Some h → Tells (first ∷ words) h
target_told first g spelled none (name ∷ a ∷ word ∷ []) h e =
    let x = map_some (λ x. g name x word) (expect_of (a ∷ [])) h e in
    told_as (first ∷ name ∷ a ∷ word ∷ []) (g name x.0 word) h x.2 (ap (λ ws. first ∷ name ∷ (ws ++ word ∷ [])) (expect_told (a ∷ []) x.0 x.1) ∙ sym (spelled name x.0 word)) (ap are_sizes (none name x.0 word))
target_told first g spelled none (name ∷ a ∷ b ∷ word ∷ []) h e =
    let x = map_some (λ x. g name x word) (expect_of (a ∷ b ∷ [])) h e in
    told_as (first ∷ name ∷ a ∷ b ∷ word ∷ []) (g name x.0 word) h x.2 (ap (λ ws. first ∷ name ∷ (ws ++ word ∷ [])) (expect_told (a ∷ b ∷ []) x.0 x.1) ∙ sym (spelled name x.0 word)) (ap are_sizes (none name x.0 word))
target_told first g spelled none words h e = cc

rename_told : (words : List Bytes) (h : Heading) → rename_of_words words ≡ Some h → Tells (codes "rename" ∷ words) h
rename_told (old ∷ new ∷ []) h e = told_as (codes "rename" ∷ old ∷ new ∷ []) (RenameHeading old new) h (some_same e) refl refl
rename_told words h e = cc

delete_told : (words : List Bytes) (h : Heading) → delete_of_words words ≡ Some h → Tells (codes "delete" ∷ words) h
delete_told (name ∷ any ∷ []) h e =
    let found = if_some (bytes_eq any (codes "any")) (Some (DeleteHeading name None)) h e in
    told_as (codes "delete" ∷ name ∷ any ∷ []) (DeleteHeading name None) h (some_same found.1) (ap (λ w. codes "delete" ∷ name ∷ w ∷ []) (one_text any (codes "any") found.0)) refl
delete_told (name ∷ at ∷ word ∷ []) h e =
    let found = if_some (bytes_eq at (codes "at")) (Some (DeleteHeading name (Some word))) h e in
    told_as (codes "delete" ∷ name ∷ at ∷ word ∷ []) (DeleteHeading name (Some word)) h (some_same found.1) (ap (λ w. codes "delete" ∷ name ∷ w ∷ word ∷ []) (one_text at (codes "at") found.0)) refl
delete_told words h e = cc

names_told : (words : List Bytes) (h : Heading) → names_of_words words ≡ Some h → Tells (codes "names" ∷ words) h
names_told [] h e = told_as (codes "names" ∷ []) (NamesHeading None) h (some_same e) refl refl
names_told (folder ∷ []) h e = told_as (codes "names" ∷ folder ∷ []) (NamesHeading (Some folder)) h (some_same e) refl refl
names_told words h e = cc

-- ---- a log

-- the words are those of the order, and the rest
abbrev OrderIs : List Bytes → Order × List Bytes → Type 0
OrderIs words o = words ≡ order_words o.0 ++ o.1

order_is : (first word : Bytes) (words : List Bytes) (o p : Order × List Bytes) → bytes_eq first word ≡ true → p ≡ o → word ∷ words ≡ order_words p.0 ++ p.1 → OrderIs (first ∷ words) o
order_is first word words o p b e is = ap (λ w. w ∷ words) (one_text first word b) ∙ is ∙ ap (λ q. order_words q.0 ++ q.1) e

since_told : (first word : Bytes) (order : Bytes → Order) → ((seconds : Bytes) → order_words (order seconds) ≡ word ∷ seconds ∷ []) → (words : List Bytes) (o : Order × List Bytes) → bytes_eq first word ≡ true → since_of order words ≡ Some o → OrderIs (first ∷ words) o
since_told first word order spelled [] o b e = cc
since_told first word order spelled (seconds ∷ words) o b e =
    order_is first word (seconds ∷ words) o (order seconds, words) b (some_same e) (ap (λ ws. ws ++ words) (sym (spelled seconds)))

order_told : (words : List Bytes) (o : Order × List Bytes) → order_of words ≡ Some o → OrderIs words o
order_told [] o e = cc
order_told (first ∷ words) o e =
    either_way (bytes_eq first (codes "breadth")) (Some (Breadth, words)) _ o e (λ b f. order_is first (codes "breadth") words o (Breadth, words) b (some_same f) refl) (λ e.
    either_way (bytes_eq first (codes "newest")) (Some (Newest, words)) _ o e (λ b f. order_is first (codes "newest") words o (Newest, words) b (some_same f) refl) (λ e.
    either_way (bytes_eq first (codes "oldest")) (Some (Oldest, words)) _ o e (λ b f. order_is first (codes "oldest") words o (Oldest, words) b (some_same f) refl) (λ e.
    either_way (bytes_eq first (codes "newest-since")) (since_of NewestSince words) _ o e (λ b f. since_told first (codes "newest-since") NewestSince (λ s. refl) words o b f) (λ e.
    either_way (bytes_eq first (codes "oldest-since")) (since_of OldestSince words) _ o e (λ b f. since_told first (codes "oldest-since") OldestSince (λ s. refl) words o b f) (λ e.
    either_way (bytes_eq first (codes "date")) (Some (Date, words)) _ o e (λ b f. order_is first (codes "date") words o (Date, words) b (some_same f) refl) (λ e.
    either_way (bytes_eq first (codes "topological")) (Some (Topological, words)) None o e (λ b f. order_is first (codes "topological") words o (Topological, words) b (some_same f) refl) (λ e. cc)))))))

first_told : (word : Bytes) (first : Bool) → first_parents_of word ≡ Some first → word ≡ parents_word first
first_told word first e =
    either_way (bytes_eq word (codes "first")) (Some true) _ first e (λ b f. one_text word (codes "first") b ∙ ap parents_word (some_same f)) (λ e.
    either_way (bytes_eq word (codes "all")) (Some false) None first e (λ b f. one_text word (codes "all") b ∙ ap parents_word (some_same f)) (λ e. cc))

item_told : (word : Bytes) (item : LogItem) → item_of word ≡ Some item → word ≡ item_word item
item_told [] item e = cc
item_told (sign ∷ word) item e =
    either_way (sign == 43) (Some (Tip word)) _ item e (λ b f. ap (λ s. s ∷ word) (eqb-true sign 43 b) ∙ ap item_word (some_same f)) (λ e.
    either_way (sign == 45) (Some (Hidden word)) None item e (λ b f. ap (λ s. s ∷ word) (eqb-true sign 45 b) ∙ ap item_word (some_same f)) (λ e. cc))

-- the words are those of the items and the paths, whose lengths these are
abbrev ItemsAre : List Bytes → Items → Type 0
ItemsAre words items = (words ≡ map item_word items.0 ++ flat_map size_words items.1) × (are_sizes items.1 ≡ true)

items_as : (words : List Bytes) (i j : Items) → i ≡ j → ItemsAre words i → ItemsAre words j
items_as words i j e a = subst (ItemsAre words) e a

paths_told : (words : List Bytes) (sizes : List ℕ) → paths_of words ≡ Some sizes → ItemsAre words ([], sizes)
paths_told [] sizes e = items_as [] ([], []) ([], sizes) (ap (λ ns. ([], ns)) (some_same e)) (refl, refl)
paths_told (first ∷ []) sizes e = cc
paths_told (first ∷ size ∷ words) sizes e =
    let found = if_some (bytes_eq first (codes "path")) (option_and_then (λ n. option_map (λ ns. n ∷ ns) (paths_of words)) (number_of size)) sizes e in
    let n = then_some (λ n. option_map (λ ns. n ∷ ns) (paths_of words)) (number_of size) sizes found.1 in
    let size_is = decimal_number size n.0 n.1 in
    let more = map_some (λ ns. n.0 ∷ ns) (paths_of words) sizes n.2 in
    let rest = paths_told words more.0 more.1 in
    items_as (first ∷ size ∷ words) ([], n.0 ∷ more.0) ([], sizes) (ap (λ ns. ([], ns)) more.2)
    ((λ i. one_text first (codes "path") found.0 i ∷ size_is.0 i ∷ rest.0 i), and_from (nat_lt n.0 (2 ^ 64)) (are_sizes more.0) size_is.1 rest.1)

items_told : (words : List Bytes) (items : Items) → items_of words ≡ Some items → ItemsAre words items
items_told [] items e = items_as [] ([], []) items (some_same e) (refl, refl)
items_told (word ∷ words) items e = by_item (λ i f. items_told words i f) (item_of word) refl e
  where
    by_item : ((i : Items) → items_of words ≡ Some i → ItemsAre words i) → (o : Option LogItem) → item_of word ≡ o → with_item o (items_of words) (paths_of (word ∷ words)) ≡ Some items → ItemsAre (word ∷ words) items
    by_item told None is e =
        let found = map_some (λ ns. ([], ns)) (paths_of (word ∷ words)) items e in
        items_as (word ∷ words) ([], found.0) items found.2 (paths_told (word ∷ words) found.0 found.1)
    by_item told (Some item) is e =
        let more = map_some (λ items. (item ∷ items.0, items.1)) (items_of words) items e in
        let rest = told more.0 more.1 in
        items_as (word ∷ words) (item ∷ more.0.0, more.0.1) items more.2 ((λ i. item_told word item is i ∷ rest.0 i), rest.1)

log_told : (words : List Bytes) (h : Heading) → log_of_words words ≡ Some h → Tells (codes "log" ∷ words) h
log_told words h e =
    let o = then_some (λ order. walk_of_words order.0 order.1) (order_of words) h e in
    let order = order_told words o.0 o.1 in
    walk o.0.0 o.0.1 o.2 order
  where
    walk : (order : Order) (rest : List Bytes) → walk_of_words order rest ≡ Some h → words ≡ order_words order ++ rest → Tells (codes "log" ∷ words) h
    walk order [] e is = cc
    walk order (parents ∷ rest) e is =
        let first = then_some (λ first. option_map (λ items. LogHeading order first items.0 items.1) (items_of rest)) (first_parents_of parents) h e in
        let items = map_some (λ items. LogHeading order first.0 items.0 items.1) (items_of rest) h first.2 in
        let told = items_told rest items.0 items.1 in
        told_as (codes "log" ∷ words) (LogHeading order first.0 items.0.0 items.0.1) h items.2
        (ap (λ ws. codes "log" ∷ ws) (is ∙ (λ i. order_words order ++ (first_told parents first.0 first.1 i ∷ told.0 i)))) told.1

-- ---- by the first word

named : (first word : Bytes) (words : List Bytes) (h : Heading) → bytes_eq first word ≡ true → Tells (word ∷ words) h → Tells (first ∷ words) h
named first word words h b t = (ap (λ w. w ∷ words) (one_text first word b) ∙ t.0, t.1)

name_heading_told : (first : Bytes) (words : List Bytes) (h : Heading) → name_heading_of first words ≡ Some h → Tells (first ∷ words) h
name_heading_told first words h e =
    either_way (bytes_eq first (codes "tag")) (target_of_words TagHeading words) _ h e (λ b f. named first (codes "tag") words h b (target_told (codes "tag") TagHeading (λ n x w. refl) (λ n x w. refl) words h f)) (λ e.
    either_way (bytes_eq first (codes "tagger")) (actor_of_words Tagger words) _ h e (λ b f. named first (codes "tagger") words h b (actor_told Tagger words h f)) (λ e.
    either_way (bytes_eq first (codes "move")) (end_of_words MoveHeading words) _ h e (λ b f. named first (codes "move") words h b (end_told (codes "move") MoveHeading refl refl words h f)) (λ e.
    either_way (bytes_eq first (codes "to")) (target_of_words ToHeading words) _ h e (λ b f. named first (codes "to") words h b (target_told (codes "to") ToHeading (λ n x w. refl) (λ n x w. refl) words h f)) (λ e.
    either_way (bytes_eq first (codes "actor")) (actor_of_words Mover words) _ h e (λ b f. named first (codes "actor") words h b (actor_told Mover words h f)) (λ e.
    either_way (bytes_eq first (codes "rename")) (rename_of_words words) _ h e (λ b f. named first (codes "rename") words h b (rename_told words h f)) (λ e.
    either_way (bytes_eq first (codes "delete")) (delete_of_words words) _ h e (λ b f. named first (codes "delete") words h b (delete_told words h f)) (λ e.
    either_way (bytes_eq first (codes "switch")) (word_of_words SwitchHeading words) _ h e (λ b f. named first (codes "switch") words h b (word_told (codes "switch") SwitchHeading (λ w. refl) (λ w. refl) words h f)) (λ e.
    either_way (bytes_eq first (codes "pack")) (end_of_words PackHeading words) _ h e (λ b f. named first (codes "pack") words h b (end_told (codes "pack") PackHeading refl refl words h f)) (λ e.
    either_way (bytes_eq first (codes "index")) (end_of_words IndexHeading words) _ h e (λ b f. named first (codes "index") words h b (end_told (codes "index") IndexHeading refl refl words h f)) (λ e.
    either_way (bytes_eq first (codes "names")) (names_of_words words) _ h e (λ b f. named first (codes "names") words h b (names_told words h f)) (λ e.
    either_way (bytes_eq first (codes "past")) (word_of_words PastHeading words) _ h e (λ b f. named first (codes "past") words h b (word_told (codes "past") PastHeading (λ w. refl) (λ w. refl) words h f)) (λ e.
    either_way (bytes_eq first (codes "log")) (log_of_words words) None h e (λ b f. named first (codes "log") words h b (log_told words h f)) (λ e. cc)))))))))))))

pub heading_told : (words : List Bytes) (h : Heading) → heading_of words ≡ Some h → (words ≡ words_of h) × (are_sizes (sizes h) ≡ true)
heading_told [] h e = cc
heading_told (first ∷ words) h e =
    either_way (bytes_eq first (codes "commit")) (commit_of_words words) _ h e (λ b f. named first (codes "commit") words h b (commit_told words h f)) (λ e.
    either_way (bytes_eq first (codes "parent")) (word_of_words ParentHeading words) _ h e (λ b f. named first (codes "parent") words h b (word_told (codes "parent") ParentHeading (λ w. refl) (λ w. refl) words h f)) (λ e.
    either_way (bytes_eq first (codes "put")) (put_of_words words) _ h e (λ b f. named first (codes "put") words h b (put_told words h f)) (λ e.
    either_way (bytes_eq first (codes "remove")) (size_of_words RemoveHeading words) _ h e (λ b f. named first (codes "remove") words h b (size_told (codes "remove") RemoveHeading (λ n. refl) (λ n. refl) words h f)) (λ e.
    either_way (bytes_eq first (codes "remove-file")) (size_of_words RemoveFileHeading words) _ h e (λ b f. named first (codes "remove-file") words h b (size_told (codes "remove-file") RemoveFileHeading (λ n. refl) (λ n. refl) words h f)) (λ e.
    either_way (bytes_eq first (codes "graft")) (graft_of_words words) _ h e (λ b f. named first (codes "graft") words h b (graft_told words h f)) (λ e.
    either_way (bytes_eq first (codes "author")) (actor_of_words Author words) _ h e (λ b f. named first (codes "author") words h b (actor_told Author words h f)) (λ e.
    either_way (bytes_eq first (codes "committer")) (actor_of_words Committer words) _ h e (λ b f. named first (codes "committer") words h b (actor_told Committer words h f)) (λ e.
    either_way (bytes_eq first (codes "message")) (size_of_words MessageHeading words) _ h e (λ b f. named first (codes "message") words h b (size_told (codes "message") MessageHeading (λ n. refl) (λ n. refl) words h f)) (λ e.
    either_way (bytes_eq first (codes "end")) (end_of_words EndHeading words) _ h e (λ b f. named first (codes "end") words h b (end_told (codes "end") EndHeading refl refl words h f)) (λ e.
    either_way (bytes_eq first (codes "files")) (word_of_words FilesHeading words) _ h e (λ b f. named first (codes "files") words h b (word_told (codes "files") FilesHeading (λ w. refl) (λ w. refl) words h f)) (λ e.
    either_way (bytes_eq first (codes "show")) (show_of_words words) (name_heading_of first words) h e (λ b f. named first (codes "show") words h b (show_told words h f)) (λ e. name_heading_told first words h e))))))))))))

-- ---- a line's words say it

kind_reads : (kind : FileKind) → kind_of (kind_word kind) ≡ Some kind
kind_reads File = refl
kind_reads Exec = refl
kind_reads Link = refl

pub expect_reads : (expect : Expect) → expect_of (expect_words expect) ≡ Some expect
expect_reads Any = refl
expect_reads New = refl
expect_reads (At word) = refl

pub target_reads : (g : Bytes → Expect → Bytes → Heading) (name : Bytes) (expect : Expect) (word : Bytes) → target_of_words g (name ∷ (expect_words expect ++ word ∷ [])) ≡ Some (g name expect word)
target_reads g name Any word = refl
target_reads g name New word = refl
target_reads g name (At at) word = refl

actor_reads : (role : Role) (name email : ℕ) (seconds offset : Bytes) → are_sizes (name ∷ email ∷ []) ≡ true
    → actor_of_words role (decimal name ∷ decimal email ∷ seconds ∷ offset ∷ []) ≡ Some (ActorHeading role name email seconds offset)
actor_reads role name email seconds offset s =
    let both = and_parts (nat_lt name (2 ^ 64)) (nat_lt email (2 ^ 64) && true) s in
    ap (option_and_then (λ m. option_map (λ n. ActorHeading role m n seconds offset) (number_of (decimal email)))) (number_decimal name both.0)
    ∙ ap (option_map (λ n. ActorHeading role name n seconds offset)) (number_decimal email (and_parts (nat_lt email (2 ^ 64)) true both.1).0)

order_reads : (order : Order) (words : List Bytes) → order_of (order_words order ++ words) ≡ Some (order, words)
order_reads Breadth words = refl
order_reads Newest words = refl
order_reads Oldest words = refl
order_reads (NewestSince seconds) words = refl
order_reads (OldestSince seconds) words = refl
order_reads Date words = refl
order_reads Topological words = refl

first_reads : (first : Bool) → first_parents_of (parents_word first) ≡ Some first
first_reads true = refl
first_reads false = refl

paths_read : (sizes : List ℕ) → are_sizes sizes ≡ true → paths_of (flat_map size_words sizes) ≡ Some sizes
paths_read [] s = refl
paths_read (n ∷ sizes) s =
    let both = and_parts (nat_lt n (2 ^ 64)) (are_sizes sizes) s in
    ap (option_and_then (λ m. option_map (λ ns. m ∷ ns) (paths_of (flat_map size_words sizes)))) (number_decimal n both.0)
    ∙ ap (option_map (λ ns. n ∷ ns)) (paths_read sizes both.1)

items_read : (items : List LogItem) (paths : List ℕ) → are_sizes paths ≡ true → items_of (map item_word items ++ flat_map size_words paths) ≡ Some (items, paths)
items_read [] [] s = refl
items_read [] (n ∷ paths) s = ap (option_map (λ ns. ([], ns))) (paths_read (n ∷ paths) s)
items_read (Tip word ∷ items) path s = ap (option_map (λ more. (Tip word ∷ more.0, more.1))) (items_read items path s)
items_read (Hidden word ∷ items) path s = ap (option_map (λ more. (Hidden word ∷ more.0, more.1))) (items_read items path s)

log_reads : (order : Order) (first : Bool) (items : List LogItem) (path : List ℕ) → are_sizes path ≡ true
    → log_of_words (order_words order ++ (parents_word first ∷ (map item_word items ++ flat_map size_words path))) ≡ Some (LogHeading order first items path)
log_reads order first items path s =
    let rest = map item_word items ++ flat_map size_words path in
    ap (option_and_then (λ o. walk_of_words o.0 o.1)) (order_reads order (parents_word first ∷ rest))
    ∙ ap (option_and_then (λ first. option_map (λ items. LogHeading order first items.0 items.1) (items_of rest))) (first_reads first)
    ∙ ap (option_map (λ items. LogHeading order first items.0 items.1)) (items_read items path s)

size_reads : (g : ℕ → Heading) (n : ℕ) → are_sizes (n ∷ []) ≡ true → option_map g (number_of (decimal n)) ≡ Some (g n)
size_reads g n s = ap (option_map g) (number_decimal n (and_parts (nat_lt n (2 ^ 64)) true s).0)

pub heading_reads : (h : Heading) → are_sizes (sizes h) ≡ true → heading_of (words_of h) ≡ Some h
heading_reads (CommitHeading name expect) s = ap (option_map (CommitHeading name)) (expect_reads expect)
heading_reads (ParentHeading word) s = refl
heading_reads (PutHeading kind path content) s =
    let both = and_parts (nat_lt path (2 ^ 64)) (nat_lt content (2 ^ 64) && true) s in
    ap (option_and_then (λ k. option_and_then (λ m. option_map (PutHeading k m) (number_of (decimal content))) (number_of (decimal path)))) (kind_reads kind)
    ∙ ap (option_and_then (λ m. option_map (PutHeading kind m) (number_of (decimal content)))) (number_decimal path both.0)
    ∙ ap (option_map (PutHeading kind path)) (number_decimal content (and_parts (nat_lt content (2 ^ 64)) true both.1).0)
heading_reads (RemoveHeading path) s = size_reads RemoveHeading path s
heading_reads (RemoveFileHeading path) s = size_reads RemoveFileHeading path s
heading_reads (GraftHeading path word source) s =
    let both = and_parts (nat_lt path (2 ^ 64)) (nat_lt source (2 ^ 64) && true) s in
    ap (option_and_then (λ m. option_map (GraftHeading m word) (number_of (decimal source)))) (number_decimal path both.0)
    ∙ ap (option_map (GraftHeading path word)) (number_decimal source (and_parts (nat_lt source (2 ^ 64)) true both.1).0)
heading_reads (ActorHeading Author name email seconds offset) s = actor_reads Author name email seconds offset s
heading_reads (ActorHeading Committer name email seconds offset) s = actor_reads Committer name email seconds offset s
heading_reads (ActorHeading Tagger name email seconds offset) s = actor_reads Tagger name email seconds offset s
heading_reads (ActorHeading Mover name email seconds offset) s = actor_reads Mover name email seconds offset s
heading_reads (MessageHeading message) s = size_reads MessageHeading message s
heading_reads EndHeading s = refl
heading_reads (TagHeading name expect word) s = target_reads TagHeading name expect word
heading_reads MoveHeading s = refl
heading_reads (ToHeading name expect word) s = target_reads ToHeading name expect word
heading_reads (RenameHeading old new) s = refl
heading_reads (DeleteHeading name None) s = refl
heading_reads (DeleteHeading name (Some word)) s = refl
heading_reads (SwitchHeading name) s = refl
heading_reads PackHeading s = refl
heading_reads IndexHeading s = refl
heading_reads (NamesHeading None) s = refl
heading_reads (NamesHeading (Some folder)) s = refl
heading_reads (FilesHeading word) s = refl
heading_reads (PastHeading name) s = refl
heading_reads (LogHeading order first items path) s = log_reads order first items path s
heading_reads (ShowHeading word None) s = refl
heading_reads (ShowHeading word (Some path)) s = size_reads (λ n. ShowHeading word (Some n)) path s

pub words_are_headings : WordsAreHeadings
words_are_headings words heading = (heading_told words heading, λ t. ap heading_of t.0 ∙ heading_reads heading t.1)
