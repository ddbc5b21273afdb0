-- Lists of owned parts, which grow in step with the lists of borrowed ones.
use Rattle.std.proofs.Common.{◌≡◌, ◌∙◌, ap, sym, subst, ℕ, ◌<◌, ◌+◌, zero, suc, inl, inr, List, [], ◌∷◌, ◌++◌, length, map, take, get_or, arith}
use Rattle.std.specs.Prelude.{◌⊎◌, Any, IsTrue}
use Rattle.std.specs.List.{AllZip}
use Rattle.std.proofs.lemmas.List.{map-append, length-map, get_or-map}
use Rattle.std.proofs.Math.Seq.{take-suc}
use Rattle.gix_hash.specs.Id.{id_of}
use Rattle.gix_hash.specs.declared.object_id.ObjectId.{ObjectId}
use Rattle.gix_object_lines.specs.Actor.{TellsTime}
use Rattle.gix_object_lines.specs.HexLine.{is_id}
use Rattle.gix_object_lines.specs.declared.decode.Error.{Error}
use Rattle.gix_object_lines.specs.declared.decode.Error.TheVariants.{HexDigits, InvalidTime, Memory}
use Rattle.gix_object_lines.proofs.HexDigits.{spells_none}
use Rattle.gix_object_commit.specs.Commit.{Parts}
use Rattle.gix_object_commit.specs.Owned.{IsOwnId, SpellsNoId, OwningFault}

-- what holds of the borrowed part at a place holds of one of them
pub any_at : {X Y : Type 0} (P : Y → Type 0) (f : X → Y) (xs : List X) (i : ℕ) (d : X) → i < length xs → P (f (get_or xs i d)) → Any P (map f xs)
any_at P f xs i d below p =
    (i, f (get_or xs i d), subst (λ n. i < n) (sym (length-map xs f)) below, get_or-map f xs i d (f (get_or xs i d)) below, p)

module _ {X Y Z : Type 0} (R : Y → Z → Type 0) (f : X → Y) where
  zip_push : (ys : List Y) (zs : List Z) (y : Y) (z : Z) → AllZip R ys zs → R y z → AllZip R (ys ++ y ∷ []) (zs ++ z ∷ [])
  zip_push [] [] y z h r = (r, tt)
  zip_push [] (b ∷ zs) y z h r = absurd h
  zip_push (a ∷ ys) [] y z h r = absurd h
  zip_push (a ∷ ys) (b ∷ zs) y z h r = (h.0, zip_push ys zs y z h.1 r)

  -- one more part was owned
  pub zip_more : (xs : List X) (i : ℕ) (d : X) (zs zs' : List Z) (z : Z) → i < length xs → AllZip R (map f (take i xs)) zs → R (f (get_or xs i d)) z → zs' ≡ zs ++ z ∷ [] → AllZip R (map f (take (i + 1) xs)) zs'
  zip_more xs i d zs zs' z below h r is =
      let next : i + 1 ≡ suc i = omega arith in
      let grown : map f (take (i + 1) xs) ≡ map f (take i xs) ++ f (get_or xs i d) ∷ [] =
      ap (λ n. map f (take n xs)) next ∙ ap (map f) (take-suc xs i d below) ∙ map-append f (take i xs) (get_or xs i d ∷ []) in
      subst (λ ys. AllZip R ys zs') (sym grown)
      (subst (AllZip R (map f (take i xs) ++ f (get_or xs i d) ∷ [])) (sym is) (zip_push (map f (take i xs)) zs (f (get_or xs i d)) z h r))

-- ---- why parts aren't owned

told_id : (digits : List ℕ) (id : ObjectId) → IsOwnId digits id → ¬ SpellsNoId digits
told_id digits id is = λ none. none (id_of id) is

at_place : (text : List ℕ) (id : ObjectId) (texts : List (List ℕ)) → IsOwnId text id → ¬ Any SpellsNoId texts
    → (k : ℕ) (x : List ℕ) → k < suc (length texts) → get_or (text ∷ texts) k x ≡ x → SpellsNoId x → ⊥
at_place text id texts is later zero x below same none = told_id text id is (subst SpellsNoId (sym same) none)
at_place text id texts is later (suc k) x below same none = later (k, x, omega arith, same, none)

told_ids : (texts : List (List ℕ)) (ids : List ObjectId) → AllZip IsOwnId texts ids → ¬ Any SpellsNoId texts
told_ids [] ids all = λ none. absurd (let below = none.2 in omega arith)
told_ids (text ∷ texts) [] all = absurd all
told_ids (text ∷ texts) (id ∷ ids) all = λ none. at_place text id texts all.0 (told_ids texts ids all.1) none.0 none.1 none.2 none.3 none.4

pub owning_tree : (parts : Parts) (error : Error) → error ≡ HexDigits → ¬ IsTrue (is_id parts.tree) → OwningFault parts error
owning_tree parts error digits none = subst (OwningFault parts) (sym digits) (inl (spells_none parts.tree none))

module _ (parts : Parts) (tree : ObjectId) (is : IsOwnId parts.tree tree) (error : Error) where
  pub owning_memory : error ≡ Memory → OwningFault parts error
  owning_memory memory = subst (OwningFault parts) (sym memory) (told_id parts.tree tree is)

  pub owning_parents : (error ≡ Memory) ⊎ ((error ≡ HexDigits) × Any SpellsNoId parts.parents) → OwningFault parts error
  owning_parents (inl memory) = owning_memory memory
  owning_parents (inr none) = subst (OwningFault parts) (sym none.0) (inr none.1)

  pub owning_actors : (ids : List ObjectId) → AllZip IsOwnId parts.parents ids → (error ≡ Memory) ⊎ ((error ≡ InvalidTime) × ((¬ TellsTime parts.author.time) ⊎ (¬ TellsTime parts.committer.time))) → OwningFault parts error
  owning_actors ids all (inl memory) = owning_memory memory
  owning_actors ids all (inr none) = subst (OwningFault parts) (sym none.0) ((told_id parts.tree tree is, told_ids parts.parents ids all), none.1)
