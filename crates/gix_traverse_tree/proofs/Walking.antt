-- How far a walk in depth order has come.
use Rattle.std.proofs.Common.{◌≡◌, ◌∙◌, sym, ap, subst, ℕ, suc, ◌<◌, arith, Bool, true, false, inl, inr, List, [], ◌∷◌, ◌++◌, refl, append_assoc}
use Rattle.gix_hash.specs.Id.{Id, id_of}
use Rattle.gix_object_lookup.specs.Table.{Table}
use Rattle.gix_traverse_tree.specs.Calls.{Call, Runs, pop_back}
use Rattle.gix_traverse_tree.specs.Depth as depth
use Rattle.gix_traverse_tree.specs.Depth.{InDepth, before, inside}
use Rattle.gix_traverse_tree.specs.Opened.{left_of, ids_of, Rest, AreOpen, Opens, GoesOn, IsAtEnd, IsGood, WalksIn, WhereTrue, weight}
use Rattle.gix_traverse_tree.specs.Trees.{End, whole, failed, TreeFault, IsRead, is_among}
use Rattle.gix_traverse_tree.specs.declared.depthfirst.Open.{Open}
use Rattle.gix_traverse_tree.specs.declared.error.Error.{Error}
use Rattle.gix_traverse_tree.proofs.Called.{runs_more}
use Rattle.gix_traverse_tree.proofs.Opening.{open_nothing, open_one_more}
use Rattle.std.proofs.lemmas.List.{append-nil}

abbrev pub steps_left : Bool → ℕ → ℕ
steps_left true n = suc n
steps_left false n = 0

pub record Walking {S : Type 0} (G : S → Call → S → Type 0) (H M : Type 0) (table : Table) (ids : List Id) (root : Id) (a b : S) (trees : List Open) : Type 0 where
  pub calls : List Call
  pub runs : Runs G a calls b
  pub still : AreOpen ids trees
  pub later : (more : List Call) (end : End) → Rest H M table trees more end → InDepth H M table [] (before root) (calls ++ more) end

module _ {S : Type 0} (G : S → Call → S → Type 0) (H M : Type 0) (table : Table) (ids : List Id) (root : Id) where
  pub walking_start : (a b : S) (none trees : List Open) → none ≡ [] → Opens G H table ids root a none b trees → Walking G H M table ids root a b trees
  walking_start a b none trees e opens =
      let tree = opens.tree in
      let put : trees ≡ tree ∷ [] = opens.put ∙ ap (λ (ts : List Open). tree ∷ ts) e in
      let read = subst (λ (ts : List Open). IsRead H table (ids_of ts) root (left_of tree)) e opens.read in
      let one = open_one_more ids tree [] refl (ap (λ (id : Id). is_among id ids) opens.named ∙ opens.stored) (open_nothing ids) in
      record {
        calls = pop_back ∷ [];
        runs = (b, opens.told, refl);
        still = subst (AreOpen ids) (sym put) one;
        later = λ more end r. first tree more end opens.named read (subst (λ (ts : List Open). Rest H M table ts more end) put r);
      }
    where
      first : (tree : Open) (more : List Call) (end : End) → id_of tree.id ≡ root → IsRead H table [] root (left_of tree) → Rest H M table (tree ∷ []) more end → InDepth H M table [] (before root) (pop_back ∷ more) end
      first tree more end named read (inl (f, l, is, (none, good), eq)) =
          let whole_eq = eq ∙ ap (λ (cs : List Call). f ++ cs) none ∙ append-nil f in
          let is2 = subst (λ (id : Id). InDepth H M table [] (inside id (left_of tree)) f whole) named is in
          let is3 = subst (λ (cs : List Call). InDepth H M table [] (inside root (left_of tree)) cs whole) (sym whole_eq) is2 in
          subst (λ (e : End). InDepth H M table [] (before root) (pop_back ∷ more) e) (sym good) (depth.tree read is3)
      first tree more end named read (inr (is, ne)) = depth.tree read (subst (λ (id : Id). InDepth H M table [] (inside id (left_of tree)) more end) named is)

  pub walking_on : (a b c : S) (trees next : List Open) → Walking G H M table ids root a b trees → GoesOn G H M table ids b trees c next → Walking G H M table ids root a c next
  walking_on a b c trees next so on = record {
    calls = so.calls ++ on.calls;
    runs = runs_more G so.calls on.calls a b c so.runs on.runs;
    still = on.still so.still;
    later = λ more end r. subst (λ (cs : List Call). InDepth H M table [] (before root) cs end) (sym (append_assoc so.calls on.calls more)) (so.later (on.calls ++ more) end (on.later more end r));
  }

  pub walking_end : (a b c : S) (trees : List Open) (P : End → Type 0) → Walking G H M table ids root a b trees → IsAtEnd G H M table b trees c P → WalksIn G H M table root a c P
  walking_end a b c trees P so (calls, end, runs, rest, good) = (so.calls ++ calls, end, runs_more G so.calls calls a b c so.runs runs, so.later calls end rest, good)

  pub walking_unfound : (a : S) (error : Error) → TreeFault H M table [] root error → WalksIn G H M table root a a (λ end. end ≡ failed error)
  walking_unfound a error fault = ([], failed error, refl, depth.unfound fault, refl)

  -- what a step leaves, whether there is more to do or not
  pub walking_next : (a b c : S) (trees next : List Open) (was more : Bool) → was ≡ true
      → WhereTrue was (Walking G H M table ids root a b trees) (WalksIn G H M table root a b IsGood)
      → WhereTrue more (GoesOn G H M table ids b trees c next) (IsAtEnd G H M table b trees c IsGood)
      → WhereTrue more (Walking G H M table ids root a c next) (WalksIn G H M table root a c IsGood)
  walking_next a b c trees next false more e so step = let z : ⊥ = cc in absurd z
  walking_next a b c trees next true true e so step = walking_on a b c trees next so step
  walking_next a b c trees next true false e so step = walking_end a b c trees IsGood so step

  pub walking_less : (a b c : S) (trees next : List Open) (was more : Bool) → was ≡ true
      → WhereTrue was (Walking G H M table ids root a b trees) (WalksIn G H M table root a b IsGood)
      → WhereTrue more (GoesOn G H M table ids b trees c next) (IsAtEnd G H M table b trees c IsGood)
      → steps_left more (weight ids next) < steps_left was (weight ids trees)
  walking_less a b c trees next false more e so step = let z : ⊥ = cc in absurd z
  walking_less a b c trees next true true e so step = let l = step.less so.still in omega arith
  walking_less a b c trees next true false e so step = omega arith
