-- A name is no place of a log, and does not end as an unfinished file does.
use Rattle.std.proofs.Common.{◌≡◌, ℕ, zero, suc, ◌+◌, ◌-◌, ◌<◌, ◌≤◌, ◌⊎◌, Bool, true, false, cond, not, ◌&&◌, ◌||◌, List, [], ◌∷◌, ◌++◌, length, take, drop, refl, sym, ◌∙◌, ap, subst, inl, inr, arith, tests, codes, nat_eq, ◌==◌, bytes_eq, length-drop}
use Rattle.std.specs.List.{list_any, list_all, slice_split, onto_first}
use Rattle.std.proofs.lemmas.Slice.Eq.{bytes_eq-Decides}
use Rattle.history_model.specs.Bytes.{Bytes, begins, ends, has_byte}
use Rattle.history_model.specs.FileMap.{components}
use Rattle.history_model.specs.Forms.{is_name}
use Rattle.gix_object_lines.specs.NameTest.{is_partial_name}
use Rattle.history_model.proofs.NameTests.{is_name_component, components_of}
use Rattle.history_model.specs.Places.{is_log_place, log_place}
use Rattle.std.proofs.lemmas.Bool.{and_parts, or_cases, or_parts}

false_true : {A : Type 0} {b : Bool} → b ≡ false → b ≡ true → A
false_true e f = cc

split_slash : Bytes → List Bytes
split_slash text = slice_split (λ b. b == 47) text

-- the text that ends so, in two parts
pub ends_parts : (back text : Bytes) → ends back text ≡ true → text ≡ take (length text - length back) text ++ back
ends_parts back text h = sym (parts (length text - length back) text) ∙ ap (λ t. take (length text - length back) text ++ t) (sym ((bytes_eq-Decides back (drop (length text - length back) text)).0 h))
  where
    parts : (n : ℕ) (t : Bytes) → take n t ++ drop n t ≡ t
    parts zero t = refl
    parts (suc n) [] = refl
    parts (suc n) (b ∷ t) = ap (λ bs. b ∷ bs) (parts n t)

-- a text with more in front of it ends so too
pub ends_after : (front back : Bytes) → ends back (front ++ back) ≡ true
ends_after front back = (bytes_eq-Decides back (drop (length (front ++ back) - length back) (front ++ back))).1 (sym (whole front))
  where
    gone : (f : Bytes) → drop (length f) (f ++ back) ≡ back
    gone [] = refl
    gone (b ∷ f) = gone f

    whole : (f : Bytes) → drop (length (f ++ back) - length back) (f ++ back) ≡ back
    whole f = ap (λ n. drop n (f ++ back)) (let sum = Rattle.std.proofs.Common.length-append f back in omega arith) ∙ gone f

pub some_or : (a b : Bool) → (a ≡ true) ⊎ (b ≡ true) → (a || b) ≡ true
some_or true b h = refl
some_or false b (inl e) = cc
some_or false b (inr e) = e

-- some part ends so
some_part : Bytes → List Bytes → Bool
some_part back parts = list_any (ends back) parts

pub ends_cons : (b : ℕ) (back text : Bytes) → ends back text ≡ true → ends back (b ∷ text) ≡ true
ends_cons b back text h = rw (ends_parts back text h) (ends_after (b ∷ take (length text - length back) text) back)

with_byte : (b : ℕ) (back : Bytes) (parts : List Bytes) → some_part back parts ≡ true → some_part back (onto_first b parts) ≡ true
unfolding some_part
with_byte b back [] h = cc
with_byte b back (part ∷ parts) h = go (or_cases (ends back part) (list_any (ends back) parts) h)
  where
    go : (ends back part ≡ true) ⊎ (list_any (ends back) parts ≡ true) → (ends back (b ∷ part) || list_any (ends back) parts) ≡ true
    go (inl e) = some_or _ _ (inl (ends_cons b back part e))
    go (inr e) = some_or (ends back (b ∷ part)) _ (inr e)

alone : (back : Bytes) → has_byte 47 back ≡ false → split_slash back ≡ back ∷ []
unfolding split_slash
alone [] h = refl
alone (b ∷ back) h =
    let parts = or_parts (b == 47) (has_byte 47 back) h in
    ap (λ c. cond c ([] ∷ slice_split (λ b. b == 47) back) (onto_first b (slice_split (λ b. b == 47) back))) parts.0
    ∙ ap (onto_first b) (alone back parts.1)

last_part : (back : Bytes) → has_byte 47 back ≡ false → (front : Bytes) → some_part back (split_slash (front ++ back)) ≡ true
unfolding some_part split_slash
last_part back h [] = subst (λ parts. list_any (ends back) parts ≡ true) (sym (alone back h)) (some_or _ _ (inl (ends_after [] back)))
last_part back h (b ∷ front) = go (last_part back h front) (b == 47)
  where
    go : list_any (ends back) (slice_split (λ b. b == 47) (front ++ back)) ≡ true → (c : Bool)
        → list_any (ends back) (cond c ([] ∷ slice_split (λ b. b == 47) (front ++ back)) (onto_first b (slice_split (λ b. b == 47) (front ++ back)))) ≡ true
    go rest true = some_or (ends back []) _ (inr rest)
    go rest false = with_byte b back (slice_split (λ b. b == 47) (front ++ back)) rest

-- if each component passes, none ends with `.lock`
pub no_lock : (parts : List Bytes) → list_all is_name_component parts ≡ true → list_any (ends (codes ".lock")) parts ≡ false
no_lock [] h = refl
no_lock (part ∷ parts) h =
    let here = and_parts (is_name_component part) (list_all is_name_component parts) h in
    or_false (ends (codes ".lock") part) (list_any (ends (codes ".lock")) parts) (turned (ends (codes ".lock") part) (and_parts _ (not (ends (codes ".lock") part)) here.0).1) (no_lock parts here.1)
  where
    or_false : (a b : Bool) → a ≡ false → b ≡ false → (a || b) ≡ false
    or_false true b e f = cc
    or_false false b e f = f

    turned : (b : Bool) → not b ≡ true → b ≡ false
    turned true h = cc
    turned false h = refl

-- the first of the tests that make a name
pub partial_of : (name : Bytes) → is_name name ≡ true → is_partial_name name ≡ true
partial_of name h = (and_parts _ _ (and_parts _ _ (and_parts _ _ h).0).0).0

pub name-lock : (name : Bytes) → is_name name ≡ true → ends (codes ".lock") name ≡ false
unfolding some_part split_slash
name-lock name h = go (ends (codes ".lock") name) refl
  where
    go : (b : Bool) → ends (codes ".lock") name ≡ b → b ≡ false
    go false e = refl
    go true e =
        let some = last_part (codes ".lock") refl (take (length name - 5) name) in
        false_true (no_lock (components name) (components_of name (partial_of name h)))
        (subst (λ t. list_any (ends (codes ".lock")) (slice_split (λ b. b == 47) t) ≡ true) (sym (ends_parts (codes ".lock") name e)) some)

-- nor does a log's place
pub log-lock : (name : Bytes) → is_name name ≡ true → ends (codes ".lock") (log_place name) ≡ false
unfolding some_part split_slash
log-lock name h = go (ends (codes ".lock") (log_place name)) refl
  where
    go : (b : Bool) → ends (codes ".lock") (log_place name) ≡ b → b ≡ false
    go false e = refl
    go true e =
        let some = last_part (codes ".lock") refl (take (length (log_place name) - 5) (log_place name)) in
        false_true (no_lock (components name) (components_of name (partial_of name h)))
        (subst (λ t. list_any (ends (codes ".lock")) (slice_split (λ b. b == 47) t) ≡ true) (sym (ends_parts (codes ".lock") (log_place name) e)) some)

pub name-log : (name : Bytes) → is_name name ≡ true → is_log_place name ≡ false
name-log name h = refs_first name (and_parts (is_partial_name name) (begins (codes "refs/") name) (and_parts _ _ (and_parts _ _ h).0).0).1
  where
    refs_first : (text : Bytes) → begins (codes "refs/") text ≡ true → begins (codes "logs/") text ≡ false
    refs_first [] e = refl
    refs_first (b ∷ text) e =
        let first : (nat_eq 114 b) ≡ true = (and_parts (nat_eq 114 b) _ e).0 in
        let byte : 114 ≡ b = grind (arith, tests) in
        subst (λ c. begins (codes "logs/") (c ∷ text) ≡ false) byte refl
