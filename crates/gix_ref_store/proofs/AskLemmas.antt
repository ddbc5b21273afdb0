-- What names that a listing wants have in common.
use Rattle.std.proofs.Common.{◌≡◌, ◌<◌, ◌∙◌, sym, ap, subst, refl, inl, inr, ◌⊎◌, ℕ, Bool, true, false, ◌&&◌, ◌||◌, List, [], ◌∷◌, ◌++◌, Option, Some, None, append-nil, append_assoc, length, arith}
use Rattle.std.specs.Prelude.{IsTrue, IsFalse, IfSome, MatchOption, codes, bytes_eq, drop, if◌then◌else◌}
use Rattle.std.proofs.lemmas.Slice.Eq.{bytes_eq-Decides}
use Rattle.std.specs.List.{after_last}
use Rattle.std.proofs.Math.Seq.{drop-append_seam}
use Rattle.gix_object_lines.specs.NameTest.{begins, ends, is_full_name}
use Rattle.gix_object_lines.proofs.NameTests.{begins-Decides}
use Rattle.gix_ref_name.proofs.FrontLemmas.{begins_some}
use Rattle.gix_ref_file.specs.Tree.{is_slash, parent}
use Rattle.gix_ref_file.proofs.Below.{path_in_folder}
use Rattle.gix_ref_store.specs.Asks.{fits, is_asked, leads}
use Rattle.gix_ref_store.specs.Folders.{is_below}
use Rattle.gix_ref_store.specs.Known.{known_as, is_known}
use Rattle.gix_ref_store.specs.Listings.{is_within, is_listed}
use Rattle.gix_ref_store.specs.declared.store.file.asked.Asked.{Asked}
use Rattle.gix_ref_store.proofs.Descents.{IsAtOrBelow}
use Rattle.gix_ref_store.proofs.WalkSteps.{HasFront, IsLed, cancel, split}
use Rattle.std.proofs.lemmas.Bool.{and_from, and_parts, or_cases}
use Rattle.gix_object_lines.proofs.TimeTests.{heads}

within_front : (folder name : List ℕ) → IsTrue (is_within folder name) → IsTrue (begins folder name)
within_front folder name so = by_case (or_cases (bytes_eq name folder) (is_below folder name || (ends (codes "/") folder && begins folder name)) so)
  where
    itself : (text : List ℕ) → begins text text ≡ true
    itself text = begins_some text text [] (sym (append-nil text))

    at_slash : (is_below folder name ≡ true) ⊎ ((ends (codes "/") folder && begins folder name) ≡ true) → IsTrue (begins folder name)
    at_slash (inl below) = (and_parts (begins folder name) (begins (47 ∷ []) (drop (length folder) name)) below).0
    at_slash (inr so) = (and_parts (ends (codes "/") folder) (begins folder name) so).1

    by_case : (bytes_eq name folder ≡ true) ⊎ ((is_below folder name || (ends (codes "/") folder && begins folder name)) ≡ true) → IsTrue (begins folder name)
    by_case (inl same) = subst (λ n. IsTrue (begins folder n)) (sym ((bytes_eq-Decides name folder).0 same)) (itself folder)
    by_case (inr below) = at_slash (or_cases (is_below folder name) (ends (codes "/") folder && begins folder name) below)

-- all begin with the front, and are below `refs/`
pub asked_front : (asked : Asked) → HasFront asked.front.now (is_asked asked)
asked_front asked name so = by_whole asked.is_whole (and_parts (fits asked name) (is_known asked.composes name) (and_parts (begins (codes "refs/") name) (fits asked name && is_known asked.composes name) so).1).0
  where
    by_whole : (whole : Bool) → (if whole then is_within asked.front.now name else begins asked.front.now name) ≡ true → IsTrue (begins asked.front.now name)
    by_whole true h = within_front asked.front.now name h
    by_whole false h = h

pub some_bytes : (text : List ℕ) → (length text ≡ 0 → ⊥) → 0 < length text
some_bytes [] some = absurd (some refl)
some_bytes (byte ∷ text) some = omega arith

-- what begins with a path is in the path's folder
pub in_folder : (path name : List ℕ) → 0 < length (parent path) → IsTrue (begins path name) → IsTrue (begins (parent path ++ 47 ∷ []) name)
in_folder path name some so =
    let folder = parent path in
    let last = after_last is_slash path in
    let b = (begins-Decides path name).0 so in
    begins_some (folder ++ 47 ∷ []) name (last ++ b.0)
    (b.1 ∙ ap (λ p. p ++ b.0) (path_in_folder path some) ∙ append_assoc folder (47 ∷ last) b.0 ∙ sym (append_assoc folder (47 ∷ []) (last ++ b.0)))

pub asked_refs : (asked : Asked) → HasFront (codes "refs/") (is_asked asked)
asked_refs asked name so = (and_parts (begins (codes "refs/") name) (fits asked name && is_known asked.composes name) so).0

pub asked_fits : (asked : Asked) (name : List ℕ) → IsTrue (is_asked asked name) → fits asked name ≡ true
asked_fits asked name so = (and_parts (fits asked name) (is_known asked.composes name) (and_parts (begins (codes "refs/") name) (fits asked name && is_known asked.composes name) so).1).0

-- what is wanted is known
pub asked_known : (asked : Asked) (name : List ℕ) → IsTrue (is_asked asked name) → known_as asked.composes name ≡ name
asked_known asked name so =
    (bytes_eq-Decides (known_as asked.composes name) name).0 (and_parts (fits asked name) (is_known asked.composes name) (and_parts (begins (codes "refs/") name) (fits asked name && is_known asked.composes name) so).1).1

pub asked_from : (asked : Asked) (name : List ℕ) → begins (codes "refs/") name ≡ true → fits asked name ≡ true → known_as asked.composes name ≡ name → IsTrue (is_asked asked name)
asked_from asked name refs fit known =
    and_from (begins (codes "refs/") name) (fits asked name && is_known asked.composes name) refs (and_from (fits asked name) (is_known asked.composes name) fit ((bytes_eq-Decides (known_as asked.composes name) name).1 known))

-- a name of these bytes, if they are a full one
module _ (bytes : List ℕ) where
  abbrev pub IsNameOf : Option (List ℕ) → Type 0
  IsNameOf found = MatchOption found (IsFalse (is_full_name bytes)) (λ name. (name ≡ bytes) × IsTrue (is_full_name bytes))

  pub full_of : (found : Option (List ℕ)) → IsNameOf found → IfSome found (λ name. IsTrue (is_full_name name))
  full_of None none = tt
  full_of (Some name) (same, full) = subst (λ n. IsTrue (is_full_name n)) (sym same) full

  pub asked_of : (asked : List ℕ → Bool) (found : Option (List ℕ)) → IsNameOf found → IsTrue (asked bytes) → IfSome found (λ name. IsTrue (asked name))
  asked_of asked None none so = tt
  asked_of asked (Some name) (same, full) so = subst (λ n. IsTrue (asked n)) (sym same) so

  pub found_of : (found : Option (List ℕ)) → IsNameOf found → IsTrue (is_full_name bytes) → found ≡ Some bytes
  found_of None none full = absurd (cc (sym none ∙ full))
  found_of (Some name) (same, full) also = ap (λ n. Some n) same

-- ---- where wanted names may be

or_of : (a b : Bool) → (a ≡ true) ⊎ (b ≡ true) → (a || b) ≡ true
or_of a b (inl p) = ap (λ x. x || b) p
or_of true b (inr q) = refl
or_of false b (inr q) = q

below_is : (folder path rest : List ℕ) → path ≡ folder ++ 47 ∷ rest → is_below folder path ≡ true
below_is folder path rest is =
    and_from (begins folder path) (begins (47 ∷ []) (drop (length folder) path)) (begins_some folder path (47 ∷ rest) is)
    (begins_some (47 ∷ []) (drop (length folder) path) rest (ap (drop (length folder)) is ∙ drop-append_seam folder (47 ∷ rest)))

-- the first of two beginnings of a text is all of the other, or a slash follows it
same_or_below : (short long rest t r : List ℕ) → short ++ 47 ∷ rest ≡ long ++ r → long ≡ short ++ t → (long ≡ short) ⊎ (is_below short long ≡ true)
same_or_below short long rest [] r e is = inl (is ∙ append-nil short)
same_or_below short long rest (b ∷ t) r e is =
    let tails = cancel short (47 ∷ rest) (b ∷ t ++ r) (e ∙ ap (λ f. f ++ r) is ∙ append_assoc short (b ∷ t) r) in
    inr (below_is short long t (is ∙ ap (λ x. short ++ x ∷ t) (sym (heads 47 b rest (t ++ r) tails))))

front_leads : (front path name : List ℕ) → IsTrue (begins front name) → IsAtOrBelow name path → (begins front path ≡ true) ⊎ (is_below path front ≡ true)
front_leads front path name so (inl is) = inl (subst (λ n. begins front n ≡ true) is so)
front_leads front path name so (inr (rest, is)) =
    let b = (begins-Decides front name).0 so in by_case b.0 (sym b.1 ∙ is) (split front path b.0 (47 ∷ rest) (sym b.1 ∙ is))
  where
    begun : (front ≡ path) ⊎ (is_below path front ≡ true) → (begins front path ≡ true) ⊎ (is_below path front ≡ true)
    begun (inl same) = inl (begins_some front path [] (sym same ∙ sym (append-nil front)))
    begun (inr below) = inr below

    by_case : (r : List ℕ) → front ++ r ≡ path ++ 47 ∷ rest → ((t : List ℕ) × (path ≡ front ++ t)) ⊎ ((t : List ℕ) × (front ≡ path ++ t)) → (begins front path ≡ true) ⊎ (is_below path front ≡ true)
    by_case r e (inl (t, at)) = inl (begins_some front path t at)
    by_case r e (inr (t, at)) = begun (same_or_below path front rest t r (sym e) at)

below_leads : (front path name behind : List ℕ) → name ≡ front ++ 47 ∷ behind → IsAtOrBelow name path → (is_within front path ≡ true) ⊎ (is_below path front ≡ true)
below_leads front path name behind so (inl is) = inl (or_of (bytes_eq path front) _ (inr (or_of (is_below front path) _ (inl (below_is front path behind (sym is ∙ so))))))
below_leads front path name behind so (inr (rest, is)) = by_case (split front path (47 ∷ behind) (47 ∷ rest) (sym so ∙ is))
  where
    here : path ≡ front → is_within front path ≡ true
    here same = or_of (bytes_eq path front) _ (inl ((bytes_eq-Decides path front).1 same))

    inside : (path ≡ front) ⊎ (is_below front path ≡ true) → (is_within front path ≡ true) ⊎ (is_below path front ≡ true)
    inside (inl same) = inl (here same)
    inside (inr below) = inl (or_of (bytes_eq path front) _ (inr (or_of (is_below front path) _ (inl below))))

    above : (front ≡ path) ⊎ (is_below path front ≡ true) → (is_within front path ≡ true) ⊎ (is_below path front ≡ true)
    above (inl same) = inl (here (sym same))
    above (inr below) = inr below

    by_case : ((t : List ℕ) × (path ≡ front ++ t)) ⊎ ((t : List ℕ) × (front ≡ path ++ t)) → (is_within front path ≡ true) ⊎ (is_below path front ≡ true)
    by_case (inl (t, at)) = inside (same_or_below front path behind t (47 ∷ rest) (sym so ∙ is) at)
    by_case (inr (t, at)) = above (same_or_below path front rest t (47 ∷ behind) (sym is ∙ so) at)

within_leads : (front path name : List ℕ) → IsTrue (is_within front name) → IsAtOrBelow name path → (is_within front path ≡ true) ⊎ (is_below path front ≡ true)
within_leads front path name so at = by_case (or_cases (bytes_eq name front) (is_below front name || (ends (codes "/") front && begins front name)) so)
  where
    itself : name ≡ front → IsAtOrBelow name path → (is_within front path ≡ true) ⊎ (is_below path front ≡ true)
    itself same (inl is) = inl (or_of (bytes_eq path front) _ (inl ((bytes_eq-Decides path front).1 (sym is ∙ same))))
    itself same (inr (rest, is)) = inr (below_is path front rest (sym same ∙ is))

    behind : is_below front name ≡ true → (rest : List ℕ) × (name ≡ front ++ 47 ∷ rest)
    behind below =
        let b = (begins-Decides front name).0 (and_parts (begins front name) (begins (47 ∷ []) (drop (length front) name)) below).0 in
        let s = (begins-Decides (47 ∷ []) (drop (length front) name)).0 (and_parts (begins front name) (begins (47 ∷ []) (drop (length front) name)) below).1 in
        let d = ap (drop (length front)) b.1 ∙ drop-append_seam front b.0 in
        (s.0, b.1 ∙ ap (λ t. front ++ t) (sym d ∙ s.1))

    slashed : IsTrue (ends (codes "/") front) → (begins front path ≡ true) ⊎ (is_below path front ≡ true) → (is_within front path ≡ true) ⊎ (is_below path front ≡ true)
    slashed slash (inl so) = inl (or_of (bytes_eq path front) _ (inr (or_of (is_below front path) _ (inr (and_from (ends (codes "/") front) (begins front path) slash so)))))
    slashed slash (inr below) = inr below

    at_slash : (is_below front name ≡ true) ⊎ ((ends (codes "/") front && begins front name) ≡ true) → (is_within front path ≡ true) ⊎ (is_below path front ≡ true)
    at_slash (inl below) = let b = behind below in below_leads front path name b.0 b.1 at
    at_slash (inr both) = slashed (and_parts (ends (codes "/") front) (begins front name) both).0 (front_leads front path name (and_parts (ends (codes "/") front) (begins front name) both).1 at)

    by_case : (bytes_eq name front ≡ true) ⊎ ((is_below front name || (ends (codes "/") front && begins front name)) ≡ true) → (is_within front path ≡ true) ⊎ (is_below path front ≡ true)
    by_case (inl same) = itself ((bytes_eq-Decides name front).0 same) at
    by_case (inr more) = at_slash (or_cases (is_below front name) (ends (codes "/") front && begins front name) more)

pub asked_leads : (asked : Asked) → IsLed (leads asked) (is_asked asked)
asked_leads asked path name so at = by_whole asked.is_whole (asked_fits asked name so)
  where
    by_whole : (whole : Bool) → (if whole then is_within asked.front.now name else begins asked.front.now name) ≡ true
        → ((if whole then is_within asked.front.now path else begins asked.front.now path) || is_below path asked.front.now) ≡ true
    by_whole true h = or_of (is_within asked.front.now path) (is_below path asked.front.now) (within_leads asked.front.now path name h at)
    by_whole false h = or_of (begins asked.front.now path) (is_below path asked.front.now) (front_leads asked.front.now path name h at)

-- ---- what a front wants
pub asks_front : (asked : Asked) (front : List ℕ) (composes : Bool) → asked.front.now ≡ front → asked.is_whole ≡ false → asked.composes ≡ composes → is_asked asked ≡ is_listed composes (begins front)
asks_front asked front composes f w c = λ i. is_listed (c i) (λ name. if w i then is_within (f i) name else begins (f i) name)

pub asks_whole : (asked : Asked) (front : List ℕ) (composes : Bool) → asked.front.now ≡ front → asked.is_whole ≡ true → asked.composes ≡ composes → is_asked asked ≡ is_listed composes (is_within front)
asks_whole asked front composes f w c = λ i. is_listed (c i) (λ name. if w i then is_within (f i) name else begins (f i) name)
