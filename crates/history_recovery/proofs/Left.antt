-- What recovery leaves at each path, and which changes of the names part it doesn't see.
use Rattle.std.proofs.Common.{◌≡◌, refl, sym, ◌∙◌, ap, subst, Bool, true, false, cond, not, ◌&&◌, ◌||◌, ◌==◌, [], ◌∷◌, Option, Some, None, option_map, is_some, unwrap_or}
use Rattle.std.specs.FinMap.{get, insert, remove, retain_keys}
use Rattle.std.proofs.lemmas.Bool.{or_from}
use Rattle.gix_ref_file.specs.Tree.{Tree, Node, file, folder, same_path, bytes_of, is_folder}
use Rattle.gix_ref_file.specs.Changes.{is_file_at}
use Rattle.gix_ref_file.proofs.Trees.{same_tree, same_path_itself, one_path, get-inserted, get-removed}
use Rattle.history_model.specs.Bytes.{Bytes, has_byte}
use Rattle.history_model.specs.Forms.{is_name}
use Rattle.history_model.specs.Logs.{whole_lines}
use Rattle.history_model.specs.Places.{file_at, packed_place, is_log_place, log_name, is_lock_file}
use Rattle.history_model.specs.NameStates.{NameState, Absent, is_absent, name_state, loose_state, packed_text_state}
use Rattle.history_model.specs.Recovery.{is_deserted, recovered_files, recovered_names, recovered_node}
use Rattle.gix_hash.specs.declared.kind.Kind.{Kind}
use Rattle.history_model.proofs.NameLemmas.{name-lock, name-log}
use Rattle.history_model.proofs.RecoveryLemmas.{get-recovered_files}
use Rattle.history_recovery.specs.Clearing.{is_over}

-- ---- what is left of a path

-- what is left of a path's node, by whether a file there is left over
abbrev pub stays : Bool → Bytes → Option Node → Option Node
stays over path o = option_map (recovered_node path) (cond (not (is_some (bytes_of o) && over)) o None)

pub left_is : (kind : Kind) (tree : Tree) (q : Bytes) → get (recovered_files kind tree) q ≡ stays (is_over kind tree q) q (get tree q)
left_is kind tree [] = get-recovered_files kind tree [] ∙ go (get tree [])
  where
    go : (o : Option Node) → option_map (recovered_node []) o ≡ stays false [] o
    go None = refl
    go (Some (file bytes)) = refl
    go (Some folder) = refl
left_is kind tree (b ∷ path) = get-recovered_files kind tree (b ∷ path)

pub names_are : (kind : Kind) (t u : Tree) → ((q : Bytes) → get (recovered_files kind t) q ≡ get (recovered_files kind u) q) → recovered_names kind t ≡ recovered_names kind u
names_are kind t u same = ap (λ left. retain_keys left (λ path. not (is_deserted left path))) (same_tree (recovered_files kind t) (recovered_files kind u) same)

pub not_some : (o : Option Node) → o ≡ None → is_some o ≡ true → ⊥
not_some None none is = cc
not_some (Some node) none is = cc

-- ---- places that say nothing of a name's state

abbrev pub is_aside : Bytes → Bool
is_aside path = is_lock_file path || is_log_place path

pub aside_apart : (k q : Bytes) → is_aside k ≡ true → is_aside q ≡ false → same_path q k ≡ false
aside_apart k q aside plain = by_test (same_path q k) refl
  where
    by_test : (same : Bool) → same_path q k ≡ same → same ≡ false
    by_test false is = refl
    by_test true is = cc (sym plain ∙ ap is_aside (one_path q k is) ∙ aside)

pub name_not_aside : (name : Bytes) → is_name name ≡ true → is_aside name ≡ false
name_not_aside name h = or_from (is_lock_file name) (is_log_place name) (name-lock name h) (name-log name h)

pub reads_alike : (kind : Kind) (t u : Tree) → ((q : Bytes) → is_aside q ≡ false → file_at t q ≡ file_at u q) → (name : Bytes) → name_state kind t name ≡ name_state kind u name
reads_alike kind t u same name = ap (λ packed. choose (is_name name) (file_at t name) (packed_of packed)) (same packed_place refl) ∙ go (is_name name) refl
  where
    packed_of : Option Bytes → NameState
    packed_of found = unwrap_or (option_map (packed_text_state kind name) found) Absent

    choose : Bool → Option Bytes → NameState → NameState
    choose known found packed = cond known (unwrap_or (option_map (loose_state kind) found) packed) Absent

    go : (b : Bool) → is_name name ≡ b → choose b (file_at t name) (packed_of (file_at u packed_place)) ≡ choose b (file_at u name) (packed_of (file_at u packed_place))
    go false e = refl
    go true e = ap (λ found. choose true found (packed_of (file_at u packed_place))) (same name (name_not_aside name e))

pub over_alike : (kind : Kind) (t u : Tree) → ((q : Bytes) → is_aside q ≡ false → file_at t q ≡ file_at u q) → (q : Bytes) → is_over kind t q ≡ is_over kind u q
over_alike kind t u same q = ap (λ s. is_lock_file q || (is_log_place q && is_absent s)) (reads_alike kind t u same (log_name q))

pub file_from_get : (t u : Tree) (q : Bytes) → get t q ≡ get u q → file_at t q ≡ file_at u q
file_from_get t u [] same = refl
file_from_get t u (b ∷ q) same = ap bytes_of same

-- ---- a change at one such place

-- if the same is left of the place's node, recovery leaves the same
pub one_differs : (kind : Kind) (t u : Tree) (k : Bytes) (new : Option Node) → is_aside k ≡ true → ((q : Bytes) → get u q ≡ cond (same_path q k) new (get t q))
    → stays (is_over kind t k) k (get t k) ≡ stays (is_over kind t k) k new → recovered_names kind u ≡ recovered_names kind t
one_differs kind t u k new aside is here = sym (names_are kind t u (λ q. left_is kind t q ∙ at q (same_path q k) refl ∙ ap (λ b. stays b q (get u q)) (over_alike kind t u files q) ∙ sym (left_is kind u q)))
  where
    files : (q : Bytes) → is_aside q ≡ false → file_at t q ≡ file_at u q
    files q plain = file_from_get t u q (sym (is q ∙ ap (λ b. cond b new (get t q)) (aside_apart k q aside plain)))

    at : (q : Bytes) (same : Bool) → same_path q k ≡ same → stays (is_over kind t q) q (get t q) ≡ stays (is_over kind t q) q (get u q)
    at q true same =
        subst (λ p. stays (is_over kind t p) p (get t p) ≡ stays (is_over kind t p) p (get u p)) (sym (one_path q k same))
        (here ∙ ap (stays (is_over kind t k) k) (sym (is k ∙ ap (λ b. cond b new (get t k)) (same_path_itself k))))
    at q false apart = ap (stays (is_over kind t q) q) (sym (is q ∙ ap (λ b. cond b new (get t q)) apart))

over_aside : (a b c : Bool) → (a || (b && c)) ≡ true → (a || b) ≡ true
over_aside true b c h = refl
over_aside false true c h = refl
over_aside false false c h = cc

pub none_stays : (over : Bool) (k : Bytes) (o : Option Node) → over ≡ true → is_folder o ≡ false → stays over k o ≡ None
none_stays false k o is plain = cc
none_stays true k None is plain = refl
none_stays true k (Some (file bytes)) is plain = refl
none_stays true k (Some folder) is plain = cc

-- ---- a leftover goes

file_no_folder : (o : Option Node) → is_some (bytes_of o) ≡ true → is_folder o ≡ false
file_no_folder None is = cc
file_no_folder (Some (file bytes)) is = refl
file_no_folder (Some folder) is = cc

pub without_leftover : (kind : Kind) (t : Tree) (k : Bytes) → is_file_at t k ≡ true → is_over kind t k ≡ true → recovered_names kind (remove t k) ≡ recovered_names kind t
without_leftover kind t [] is over = cc
without_leftover kind t (b ∷ path) is over =
    let k = b ∷ path in
    one_differs kind t (remove t k) k None (over_aside (is_lock_file k) (is_log_place k) (is_absent (name_state kind t (log_name k))) over) (get-removed t k)
    (none_stays (is_over kind t k) k (get t k) over (file_no_folder (get t k) is))

-- ---- a log is cut

has-whole_lines : (text : Bytes) → has_byte 10 (whole_lines text) ≡ has_byte 10 text
has-whole_lines [] = refl
has-whole_lines (b ∷ text) = go (has-whole_lines text) (has_byte 10 (b ∷ text)) refl
  where
    go : has_byte 10 (whole_lines text) ≡ has_byte 10 text → (c : Bool) → has_byte 10 (b ∷ text) ≡ c → has_byte 10 (cond c (b ∷ whole_lines text) []) ≡ c
    go rest true e = ap (λ h. (b == 10) || h) rest ∙ e
    go rest false e = refl

pub whole_lines-twice : (text : Bytes) → whole_lines (whole_lines text) ≡ whole_lines text
whole_lines-twice [] = refl
whole_lines-twice (b ∷ text) = go (whole_lines-twice text) (has_byte 10 (b ∷ text)) refl
  where
    go : whole_lines (whole_lines text) ≡ whole_lines text → (c : Bool) → has_byte 10 (b ∷ text) ≡ c → whole_lines (cond c (b ∷ whole_lines text) []) ≡ cond c (b ∷ whole_lines text) []
    go rest true e = rw (ap (λ h. (b == 10) || h) (has-whole_lines text) ∙ e) (ap (λ bs. b ∷ bs) rest)
    go rest false e = refl

pub node-twice : (path : Bytes) (node : Node) → recovered_node path (recovered_node path node) ≡ recovered_node path node
node-twice path folder = refl
node-twice path (file bytes) = go (is_log_place path)
  where
    go : (log : Bool) → file (cond log (whole_lines (cond log (whole_lines bytes) bytes)) (cond log (whole_lines bytes) bytes)) ≡ file (cond log (whole_lines bytes) bytes)
    go true = ap file (whole_lines-twice bytes)
    go false = refl

pub with_log : (kind : Kind) (t : Tree) (k text : Bytes) → is_log_place k ≡ true → get t k ≡ Some (file text) → recovered_names kind (insert t k (file (whole_lines text))) ≡ recovered_names kind t
with_log kind t k text log stands =
    one_differs kind t (insert t k (file (whole_lines text))) k (Some (file (whole_lines text))) (or_log (is_lock_file k) (is_log_place k) log) (get-inserted t k (file (whole_lines text)))
    (ap (stays (is_over kind t k) k) stands ∙ same (is_over kind t k))
  where
    or_log : (a b : Bool) → b ≡ true → (a || b) ≡ true
    or_log true b h = refl
    or_log false b h = h

    twice : Some (file (cond (is_log_place k) (whole_lines text) text)) ≡ Some (file (cond (is_log_place k) (whole_lines (whole_lines text)) (whole_lines text)))
    twice =
        ap (λ b. Some (file (cond b (whole_lines text) text))) log ∙ ap (λ bs. Some (file bs)) (sym (whole_lines-twice text))
        ∙ sym (ap (λ b. Some (file (cond b (whole_lines (whole_lines text)) (whole_lines text)))) log)

    same : (over : Bool) → stays over k (Some (file text)) ≡ stays over k (Some (file (whole_lines text)))
    same true = refl
    same false = twice
