-- Logs are cut, one after another, and what is cut stays so.
use Rattle.std.proofs.Common.{◌≡◌, ◌≢◌, ◌⊎◌, inl, inr, refl, sym, ◌∙◌, ap, subst, ℕ, ◌<◌, ◌≤◌, Bool, true, false, cond, ◌&&◌, List, [], ◌∷◌, ◌++◌, length, take, drop, Option, Some, None, option_map, is_some, codes, append_assoc, arith}
use Rattle.std.specs.Prelude.{IsTrue, nat_le}
use Rattle.std.proofs.lemmas.Bool.Decides.{nat_tests}
use Rattle.std.proofs.lemmas.List.{take_all}
use Rattle.std.proofs.Math.ListN.{get_or}
use Rattle.std.specs.FinMap.{get, insert}
use Rattle.gix_ref_file.specs.Tree.{Tree, Node, file, folder, same_path, bytes_of, bytes_at, names_at, IsRooted, under}
use Rattle.gix_ref_file.specs.Changes.{to_shorten, allows, after, MayLeave}
use Rattle.gix_ref_file.specs.History.{History, Adds}
use Rattle.gix_ref_file.proofs.Histories.{adds_weaker, adds_joined}
use Rattle.gix_ref_file.proofs.Rooted.{adds_now}
use Rattle.gix_ref_file.proofs.Trees.{one_path, same_path_itself, get-inserted}
use Rattle.history_model.specs.Bytes.{Bytes, begins}
use Rattle.history_model.specs.Logs.{whole_lines}
use Rattle.history_model.specs.Places.{file_at, is_log_place}
use Rattle.history_model.specs.Recovery.{recovered_names, recovered_node}
use Rattle.gix_hash.specs.declared.kind.Kind.{Kind}
use Rattle.history_model.proofs.WholePaths.{begins_parts, begins_front}
use Rattle.gix_ref_way.specs.Ways.{above}
use Rattle.history_recovery.specs.Clearing.{AreAllKept, IsCut, AreCutBelow, IsLogFolder, Cuts}
use Rattle.history_recovery.specs.Recovering.{NamesAlike}
use Rattle.history_recovery.proofs.Below.{all_below}
use Rattle.history_recovery.proofs.Left.{node-twice, with_log}

-- ---- alike, step by step

pub alike_now : (kind : Kind) (old new : History) → Adds (NamesAlike kind old.tree) old new → NamesAlike kind old.tree new.tree
alike_now kind old new adds = go (adds_now (NamesAlike kind old.tree) old new adds)
  where
    go : (new.tree ≡ old.tree) ⊎ NamesAlike kind old.tree new.tree → NamesAlike kind old.tree new.tree
    go (inl same) = ap (recovered_names kind) same
    go (inr alike) = alike

pub then_alike : (kind : Kind) (old mid new : History) → Adds (NamesAlike kind old.tree) old mid → Adds (NamesAlike kind mid.tree) mid new → Adds (NamesAlike kind old.tree) old new
then_alike kind old mid new first second = adds_joined old mid new first (adds_weaker mid new second (λ x alike. alike ∙ alike_now kind old mid first))

-- ---- what is cut

node_again : (path : Bytes) (o : Option Node) → option_map (recovered_node path) (option_map (recovered_node path) o) ≡ option_map (recovered_node path) o
node_again path None = refl
node_again path (Some node) = ap Some (node-twice path node)

pub cuts_joined : (old mid new : Tree) → Cuts old mid → Cuts mid new → Cuts old new
cuts_joined old mid new first second path = go (first path) (second path)
  where
    go : (get mid path ≡ get old path) ⊎ (get mid path ≡ option_map (recovered_node path) (get old path)) → (get new path ≡ get mid path) ⊎ (get new path ≡ option_map (recovered_node path) (get mid path))
        → (get new path ≡ get old path) ⊎ (get new path ≡ option_map (recovered_node path) (get old path))
    go (inl same) (inl is) = inl (is ∙ same)
    go (inl same) (inr is) = inr (is ∙ ap (option_map (recovered_node path)) same)
    go (inr cut) (inl is) = inr (is ∙ cut)
    go (inr cut) (inr is) = inr (is ∙ ap (option_map (recovered_node path)) cut ∙ node_again path (get old path))

pub cut_later : (old new : Tree) (path : Bytes) → Cuts old new → IsCut old path → IsCut new path
cut_later old new path cuts cut = go (cuts path)
  where
    go : (get new path ≡ get old path) ⊎ (get new path ≡ option_map (recovered_node path) (get old path)) → option_map (recovered_node path) (get new path) ≡ get new path
    go (inl same) = ap (option_map (recovered_node path)) same ∙ cut ∙ sym same
    go (inr is) = ap (option_map (recovered_node path)) is ∙ node_again path (get old path) ∙ sym is

mapped_some : (path : Bytes) (o : Option Node) → is_some (option_map (recovered_node path) o) ≡ is_some o
mapped_some path None = refl
mapped_some path (Some node) = refl

cuts_stand : (old new : Tree) (path : Bytes) → Cuts old new → is_some (get new path) ≡ is_some (get old path)
cuts_stand old new path cuts = go (cuts path)
  where
    go : (get new path ≡ get old path) ⊎ (get new path ≡ option_map (recovered_node path) (get old path)) → is_some (get new path) ≡ is_some (get old path)
    go (inl same) = ap is_some same
    go (inr is) = ap is_some is ∙ mapped_some path (get old path)

pub kept_cut : (kind : Kind) (old new : Tree) → recovered_names kind new ≡ recovered_names kind old → Cuts old new → AreAllKept kind old → AreAllKept kind new
kept_cut kind old new alike cuts kept path there = ap (λ t. is_some (get t path)) alike ∙ kept path (sym (cuts_stand old new path cuts) ∙ there)

-- ---- below a folder

abbrev pub AreCutFrom : Tree → Bytes → Type 0
AreCutFrom tree path = IsCut tree path × AreCutBelow path tree

pub cut_from_later : (old new : Tree) (path : Bytes) → Cuts old new → AreCutFrom old path → AreCutFrom new path
cut_from_later old new path cuts cut = (cut_later old new path cuts cut.0, λ n q under. cut_later old new q cuts (cut.1 n q under))

cut_none : (tree : Tree) (path : Bytes) → get tree path ≡ None → IsCut tree path
cut_none tree path none = ap (option_map (recovered_node path)) none ∙ sym none

pub all_cut : (old new : Tree) (place : Bytes) (names : List Bytes) → IsRooted old → Cuts old new → names ≡ names_at old place
    → ((i : ℕ) → i < length names → AreCutFrom new (under place (get_or names i []))) → AreCutBelow place new
all_cut old new place names rooted cuts listed all n path above = go (get new path) refl
  where
    go : (o : Option Node) → get new path ≡ o → IsCut new path
    go None none = cut_none new path none
    go (Some node) is =
        all_below (IsCut new) old rooted place names listed (λ i less. let cut = all i less in (λ _. cut.0, λ m q deep _. cut.1 m q deep))
        n path above (sym (cuts_stand old new path cuts) ∙ ap is_some is)

-- the places below a folder of logs are those of logs
pub log_in : (place name path : Bytes) → IsLogFolder place → place ≢ [] → path ≡ under place name → is_log_place path ≡ true
log_in [] name path logs some is = absurd (some refl)
log_in (b ∷ place) name path logs some is =
    ap is_log_place (is ∙ sym (append_assoc (b ∷ place) (47 ∷ []) name)) ∙ begins_more (codes "logs/") ((b ∷ place) ++ 47 ∷ []) name logs
  where
    begins_more : (front text more : Bytes) → begins front text ≡ true → begins front (text ++ more) ≡ true
    begins_more front text more h =
        let rest = drop (length front) text in
        subst (λ t. begins front t ≡ true) (sym (ap (λ t. t ++ more) (begins_parts front text h) ∙ append_assoc front rest more)) (begins_front front (rest ++ more))

pub log_folder : (path : Bytes) → is_log_place path ≡ true → IsLogFolder path
log_folder path log =
    let rest = drop 5 path in
    subst (λ t. begins (codes "logs/") t ≡ true) (sym (ap (λ t. t ++ 47 ∷ []) (begins_parts (codes "logs/") path log) ∙ append_assoc (codes "logs/") rest (47 ∷ []))) (begins_front (codes "logs/") (rest ++ 47 ∷ []))

pub logs_not_root : (place : Bytes) → IsLogFolder place → place ≢ []
logs_not_root place logs none = let wrong : begins (codes "logs/") (47 ∷ []) ≡ true = subst (λ f. begins (codes "logs/") (f ++ 47 ∷ []) ≡ true) none logs in cc wrong

-- ---- one log is shortened to its whole lines

file_is : (tree : Tree) (log text : Bytes) → is_log_place log ≡ true → file_at tree log ≡ Some text → get tree log ≡ Some (file text)
file_is tree [] text log stands = cc
file_is tree (b ∷ path) text log stands = go (get tree (b ∷ path)) stands
  where
    go : (o : Option Node) → bytes_of o ≡ Some text → o ≡ Some (file text)
    go None e = cc
    go (Some (file bytes)) e = cc
    go (Some folder) e = cc

pub may_shorten : (tree : Tree) (log : Bytes) (end : ℕ) → file_at tree log ≡ Some (bytes_at tree log) → end < length (bytes_at tree log) → IsTrue (allows tree (to_shorten log end))
may_shorten tree log end stands shorter =
    let within : nat_le end (length (bytes_at tree log)) ≡ true = grind (arith, nat_tests) in
    λ i. is_some (stands i) && within i

module _ (log : Bytes) (end : ℕ) (old : Tree) (is_log : is_log_place log ≡ true) (stands : file_at old log ≡ Some (bytes_at old log)) (lines : take end (bytes_at old log) ≡ whole_lines (bytes_at old log)) where
  abbrev text : Bytes
  text = bytes_at old log

  held : get old log ≡ Some (file text)
  held = file_is old log text is_log stands

  cut_is : Some (file (whole_lines text)) ≡ option_map (recovered_node log) (get old log)
  cut_is = sym (ap (option_map (recovered_node log)) held ∙ ap (λ b. Some (file (cond b (whole_lines text) text))) is_log)

  shortened : after (to_shorten log end) old ≡ insert old log (file (whole_lines text))
  shortened = ap (λ bs. insert old log (file bs)) lines

  -- whole already
  pub is_cut : length text ≤ end → IsCut old log
  is_cut all = sym cut_is ∙ ap (λ bs. Some (file bs)) (sym lines ∙ take_all end text all) ∙ sym held

  while_shortened : (kind : Kind) (x : Tree) → MayLeave (to_shorten log end) old x → NamesAlike kind old x
  while_shortened kind x (inl same) = ap (recovered_names kind) same
  while_shortened kind x (inr (n, may, is)) = ap (recovered_names kind) (is ∙ shortened) ∙ with_log kind old log text is_log held

  module _ (new : Tree) (made : new ≡ after (to_shorten log end) old) where
    new_at : (q : Bytes) → get new q ≡ cond (same_path q log) (Some (file (whole_lines text))) (get old q)
    new_at q = ap (λ t. get t q) (made ∙ shortened) ∙ get-inserted old log (file (whole_lines text)) q

    pub shortened_cuts : Cuts old new
    shortened_cuts q = go (same_path q log) refl
      where
        go : (same : Bool) → same_path q log ≡ same → (get new q ≡ get old q) ⊎ (get new q ≡ option_map (recovered_node q) (get old q))
        go false apart = inl (new_at q ∙ ap (λ b. cond b (Some (file (whole_lines text))) (get old q)) apart)
        go true same =
            inr (new_at q ∙ ap (λ b. cond b (Some (file (whole_lines text))) (get old q)) same ∙ cut_is
            ∙ ap (λ p. option_map (recovered_node p) (get old p)) (sym (one_path q log same)))

    pub shortened_cut : IsCut new log
    shortened_cut =
        let at = new_at log ∙ ap (λ b. cond b (Some (file (whole_lines text))) (get old log)) (same_path_itself log) in
        ap (option_map (recovered_node log)) (at ∙ cut_is) ∙ node_again log (get old log) ∙ sym (at ∙ cut_is)

pub shortened_alike : (kind : Kind) (log : Bytes) (end : ℕ) (old new : History) → is_log_place log ≡ true → file_at old.tree log ≡ Some (bytes_at old.tree log) → take end (bytes_at old.tree log) ≡ whole_lines (bytes_at old.tree log)
    → Adds (MayLeave (to_shorten log end) old.tree) old new → Adds (NamesAlike kind old.tree) old new
shortened_alike kind log end old new is_log stands lines adds = adds_weaker old new adds (while_shortened log end old.tree is_log stands lines kind)
