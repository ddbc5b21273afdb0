-- The test of names is the rules.
use Rattle.std.proofs.Common.{◌≡◌, ap, refl, ℕ, ◌-◌, Bool, not, ◌||◌, List, [], ◌∷◌, ◌++◌, length, take, drop, inl, inr}
use Rattle.std.specs.Prelude.{◌==◌, codes, Any, nat_eq, nat_lt, ◌⊎◌}
use Rattle.std.specs.Bool.{Decides}
use Rattle.std.specs.List.{list_any}
use Rattle.std.specs.Set.{is_member}
use Rattle.std.proofs.lemmas.Bool.Decides.{Decides-eqb, Decides-ltb, Decides-like, Decides-not, Decides-and, Decides-or}
use Rattle.std.proofs.lemmas.List.Folds.{Any-from_list_any, list_any-from_Any}
use Rattle.std.proofs.lemmas.Map.Made.{is_member-Decides}
use Rattle.std.proofs.lemmas.Slice.Eq.{bytes_eq-Decides, starts_is, ends_is}
use Rattle.gix_object_lines.specs.Bytes.{IsBeginningOf}
use Rattle.gix_object_lines.specs.PartialName.{EndsWith, Holds, IsBarred, IsPartialName}
use Rattle.gix_object_lines.specs.NameTest.{begins, ends, holds, is_barred, is_partial_name}

pub begins-Decides : (front name : List ℕ) → Decides (begins front name) (IsBeginningOf front name)
begins-Decides front name =
    let is = starts_is {E = λ (x : ℕ) (y : ℕ). x == y} Decides-eqb name front (begins front name) refl in
    (λ e. (drop (length front) name, is.0 e), λ h. is.1 h.0 h.1)

ends-Decides : (back name : List ℕ) → Decides (ends back name) (EndsWith back name)
ends-Decides back name =
    let is = ends_is {E = λ (x : ℕ) (y : ℕ). x == y} Decides-eqb name back (ends back name) refl in
    (λ e. (take (length name - length back) name, is.0 e), λ h. is.1 h.0 h.1)

holds-Decides : (part name : List ℕ) → Decides (holds part name) (Holds part name)
holds-Decides part [] = Decides-like (begins part []) (λ h. ([], h)) only (begins-Decides part [])
  where
    only : Holds part [] → IsBeginningOf part []
    only ([], h) = h
    only (x ∷ front, h) = let e = h.1 in absurd cc
holds-Decides part (byte ∷ rest) =
    Decides-like (begins part (byte ∷ rest) || holds part rest) there here (Decides-or (begins part (byte ∷ rest)) (holds part rest) (begins-Decides part (byte ∷ rest)) (holds-Decides part rest))
  where
    there : IsBeginningOf part (byte ∷ rest) ⊎ Holds part rest → Holds part (byte ∷ rest)
    there (inl h) = ([], h)
    there (inr h) = (byte ∷ h.0, (h.1.0, ap (λ t. byte ∷ t) h.1.1))

    here : Holds part (byte ∷ rest) → IsBeginningOf part (byte ∷ rest) ⊎ Holds part rest
    here ([], h) = inl h
    here (x ∷ front, h) = let e = h.1 in let tails : rest ≡ front ++ (part ++ h.0) = cc in inr (front, (h.0, tails))

barred-Decides : (byte : ℕ) → Decides (is_barred byte) (IsBarred byte)
barred-Decides byte =
    Decides-or (nat_lt byte 32) (byte == 127 || is_member nat_eq (codes " ~^:?*[\\") byte) (Decides-ltb byte 32)
    (Decides-or (byte == 127) (is_member nat_eq (codes " ~^:?*[\\") byte) (Decides-eqb byte 127) (is_member-Decides Decides-eqb (codes " ~^:?*[\\") byte))

any-Decides : (name : List ℕ) → Decides (list_any is_barred name) (Any IsBarred name)
any-Decides name = (
  λ e. let a = Any-from_list_any is_barred name e in (a.0, a.1, a.2, a.3, (barred-Decides a.1).0 a.4),
  λ a. list_any-from_Any is_barred name (a.0, a.1, a.2, a.3, (barred-Decides a.1).1 a.4),
)

none : {P : Type 0} (b : Bool) → Decides b P → Decides (not b) (¬ P)
none b d = Decides-not b d

pub is_partial_name-Decides : (name : List ℕ) → Decides (is_partial_name name) (IsPartialName name)
is_partial_name-Decides name =
    Decides-like (is_partial_name name)
    (λ h. record {
      some = h.0;
      no_dot_first = h.1.0;
      no_dot_behind_slash = h.1.1.0;
      no_lock_last = h.1.1.1.0;
      no_lock_before_slash = h.1.1.1.1.0;
      no_two_dots = h.1.1.1.1.1.0;
      no_barred_byte = h.1.1.1.1.1.1.0;
      no_slash_first = h.1.1.1.1.1.1.1.0;
      no_slash_last = h.1.1.1.1.1.1.1.1.0;
      no_two_slashes = h.1.1.1.1.1.1.1.1.1.0;
      no_dot_last = h.1.1.1.1.1.1.1.1.1.1.0;
      no_at_brace = h.1.1.1.1.1.1.1.1.1.1.1.0;
      no_at_alone = h.1.1.1.1.1.1.1.1.1.1.1.1;
    })
    (λ is. (is.some, (is.no_dot_first, (is.no_dot_behind_slash, (is.no_lock_last, (is.no_lock_before_slash, (is.no_two_dots, (is.no_barred_byte, (is.no_slash_first, (is.no_slash_last, (is.no_two_slashes, (is.no_dot_last, (is.no_at_brace, is.no_at_alone)))))))))))))
    (Decides-and _ _ (none _ (bytes_eq-Decides name []))
    (Decides-and _ _ (none _ (begins-Decides (codes ".") name))
    (Decides-and _ _ (none _ (holds-Decides (codes "/.") name))
    (Decides-and _ _ (none _ (ends-Decides (codes ".lock") name))
    (Decides-and _ _ (none _ (holds-Decides (codes ".lock/") name))
    (Decides-and _ _ (none _ (holds-Decides (codes "..") name))
    (Decides-and _ _ (none _ (any-Decides name))
    (Decides-and _ _ (none _ (begins-Decides (codes "/") name))
    (Decides-and _ _ (none _ (ends-Decides (codes "/") name))
    (Decides-and _ _ (none _ (holds-Decides (codes "//") name))
    (Decides-and _ _ (none _ (ends-Decides (codes ".") name))
    (Decides-and _ _ (none _ (holds-Decides (codes "@{") name))
    (none _ (bytes_eq-Decides name (codes "@")))))))))))))))
