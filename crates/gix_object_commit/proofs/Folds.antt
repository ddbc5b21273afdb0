-- Values as headers hold them.
use Rattle.std.proofs.Common.{◌≡◌, ◌∙◌, ap, refl, sym, ℕ, Bool, true, false, List, [], ◌∷◌, ◌++◌, append-nil}
use Rattle.std.specs.Prelude.{◌==◌, if◌then◌else◌}
use Rattle.std.proofs.lemmas.Bool.{ne_eqb, eqb-false}
use Rattle.std.proofs.lemmas.Bool.Decides.{Decides-eqb}
use Rattle.std.proofs.lemmas.Grind.{flat_map-append}
use Rattle.gix_object_lines.specs.Bytes.{Lacks}
use Rattle.gix_object_lines.proofs.Cuts.{lacks_head, lacks_tail}
use Rattle.gix_object_commit.specs.Commit.{folded, unfolded, unfolded_behind, IsFolded}
use Rattle.gix_object_commit.specs.Reading.{IsUnspaced}

-- a byte is a line feed or not
pub by_feed : {P : Type 0} (byte : ℕ) → (byte ≡ 10 → P) → ((byte ≡ 10 → ⊥) → P) → P
by_feed {P} byte feed other = go (byte == 10) refl
  where
    go : (t : Bool) → (byte == 10) ≡ t → P
    go true e = feed ((Decides-eqb byte 10).0 e)
    go false e = other (eqb-false byte 10 e)

pub feed_folded : (byte : ℕ) (value : List ℕ) → byte ≡ 10 → folded (byte ∷ value) ≡ 10 ∷ (32 ∷ folded value)
feed_folded byte value is = ap (λ b. folded (b ∷ value)) is

pub plain_folded : (byte : ℕ) (value : List ℕ) → (byte ≡ 10 → ⊥) → folded (byte ∷ value) ≡ byte ∷ folded value
plain_folded byte value differs = ap (λ t. (if t then 10 ∷ (32 ∷ []) else byte ∷ []) ++ folded value) (ne_eqb byte 10 differs)

pub folded_same : (value : List ℕ) → Lacks 10 value → folded value ≡ value
folded_same [] l = refl
folded_same (byte ∷ value) l = plain_folded byte value (lacks_head 10 byte value l) ∙ ap (λ t. byte ∷ t) (folded_same value (lacks_tail 10 byte value l))

pub folded_more : (a b : List ℕ) → folded (a ++ b) ≡ folded a ++ folded b
folded_more a b = flat_map-append (λ (byte : ℕ). if byte == 10 then 10 ∷ (32 ∷ []) else byte ∷ []) a b

-- if a value goes on, and no space follows the end of another, the other goes on as far
pub record GoesOn (value rest value' rest' : List ℕ) : Type 0 where
  pub more : List ℕ
  pub whole : value' ≡ value ++ more
  pub remaining : rest ≡ folded more ++ 10 ∷ rest'

spaced : (rest rest' : List ℕ) → IsUnspaced rest' → 10 ∷ (32 ∷ rest) ≡ 10 ∷ rest' → ⊥
spaced rest rest' u e = let same : 32 ∷ rest ≡ rest' = cc in u (rest, sym same)

on_one : (byte other : ℕ) (value rest value' rest' : List ℕ) → byte ≡ other → GoesOn value rest value' rest' → GoesOn (byte ∷ value) rest (other ∷ value') rest'
on_one byte other value rest value' rest' heads later = record { more = later.more; whole = ap (λ b. b ∷ value') (sym heads) ∙ ap (λ t. byte ∷ t) later.whole; remaining = later.remaining }

pub folded_align : (value rest value' rest' : List ℕ) → IsUnspaced rest' → folded value ++ rest ≡ folded value' ++ 10 ∷ rest' → GoesOn value rest value' rest'
folded_align [] rest value' rest' u e = record { more = value'; whole = refl; remaining = e }
folded_align (byte ∷ value) rest [] rest' u e =
    by_feed byte
    (λ is. absurd (spaced (folded value ++ rest) rest' u (sym (ap (λ t. t ++ rest) (feed_folded byte value is)) ∙ e)))
    (λ differs. let heads : byte ∷ (folded value ++ rest) ≡ 10 ∷ rest' = sym (ap (λ t. t ++ rest) (plain_folded byte value differs)) ∙ e in
    let same : byte ≡ 10 = cc in absurd (differs same))
folded_align (byte ∷ value) rest (other ∷ value') rest' u e =
    by_feed byte
    (λ is. by_feed other
    (λ is'. let both : 10 ∷ (32 ∷ (folded value ++ rest)) ≡ 10 ∷ (32 ∷ (folded value' ++ 10 ∷ rest')) = sym (ap (λ t. t ++ rest) (feed_folded byte value is)) ∙ e ∙ ap (λ t. t ++ 10 ∷ rest') (feed_folded other value' is') in
    let tails : folded value ++ rest ≡ folded value' ++ 10 ∷ rest' = cc in
    let heads : byte ≡ other = is ∙ sym is' in
    on_one byte other value rest value' rest' heads (folded_align value rest value' rest' u tails))
    (λ differs. let both : 10 ∷ (32 ∷ (folded value ++ rest)) ≡ other ∷ (folded value' ++ 10 ∷ rest') = sym (ap (λ t. t ++ rest) (feed_folded byte value is)) ∙ e ∙ ap (λ t. t ++ 10 ∷ rest') (plain_folded other value' differs) in
    let same : other ≡ 10 = cc in absurd (differs same)))
    (λ differs. by_feed other
    (λ is'. let both : byte ∷ (folded value ++ rest) ≡ 10 ∷ (32 ∷ (folded value' ++ 10 ∷ rest')) = sym (ap (λ t. t ++ rest) (plain_folded byte value differs)) ∙ e ∙ ap (λ t. t ++ 10 ∷ rest') (feed_folded other value' is') in
    let same : byte ≡ 10 = cc in absurd (differs same))
    (λ differs'. let both : byte ∷ (folded value ++ rest) ≡ other ∷ (folded value' ++ 10 ∷ rest') = sym (ap (λ t. t ++ rest) (plain_folded byte value differs)) ∙ e ∙ ap (λ t. t ++ 10 ∷ rest') (plain_folded other value' differs') in
    let tails : folded value ++ rest ≡ folded value' ++ 10 ∷ rest' = cc in
    let heads : byte ≡ other = cc in
    on_one byte other value rest value' rest' heads (folded_align value rest value' rest' u tails)))

-- a value goes up to the first line feed without a space after it
pub folded_end : (more rest rest' : List ℕ) → IsUnspaced rest → 10 ∷ rest ≡ folded more ++ 10 ∷ rest' → (more ≡ []) × (rest ≡ rest')
folded_end [] rest rest' u e = (refl, cc)
folded_end (byte ∷ more) rest rest' u e =
    by_feed byte
    (λ is. absurd (spaced (folded more ++ 10 ∷ rest') rest u (sym (e ∙ ap (λ t. t ++ 10 ∷ rest') (feed_folded byte more is)))))
    (λ differs. let both : 10 ∷ rest ≡ byte ∷ (folded more ++ 10 ∷ rest') = e ∙ ap (λ t. t ++ 10 ∷ rest') (plain_folded byte more differs) in
    let same : byte ≡ 10 = cc in absurd (differs same))

pub folded_once : (text rest text' rest' : List ℕ) → IsFolded text → IsFolded text' → IsUnspaced rest → IsUnspaced rest' → text ++ 10 ∷ rest ≡ text' ++ 10 ∷ rest' → (text ≡ text') × (rest ≡ rest')
folded_once text rest text' rest' f f' u u' e =
    let on = folded_align f.0 (10 ∷ rest) f'.0 rest' u' (ap (λ t. t ++ 10 ∷ rest) (sym f.1) ∙ e ∙ ap (λ t. t ++ 10 ∷ rest') f'.1) in
    let ends = folded_end on.more rest rest' u on.remaining in
    let same : f'.0 ≡ f.0 = on.whole ∙ ap (λ m. f.0 ++ m) ends.0 ∙ append-nil f.0 in
    (f.1 ∙ ap folded (sym same) ∙ sym f'.1, ends.1)

-- ---- a value without the spaces after its line feeds

pub unfolded_line : (line after : List ℕ) → Lacks 10 line → unfolded (line ++ 10 ∷ after) ≡ line ++ 10 ∷ unfolded_behind true after
unfolded_line [] after l = refl
unfolded_line (byte ∷ line) after l =
    ap (λ t. byte ∷ unfolded_behind t (line ++ 10 ∷ after)) (ne_eqb byte 10 (lacks_head 10 byte line l))
    ∙ ap (λ t. byte ∷ t) (unfolded_line line after (lacks_tail 10 byte line l))

pub unfolded_last : (rest : List ℕ) → Lacks 10 rest → unfolded rest ≡ rest
unfolded_last [] l = refl
unfolded_last (byte ∷ rest) l =
    ap (λ t. byte ∷ unfolded_behind t rest) (ne_eqb byte 10 (lacks_head 10 byte rest l))
    ∙ ap (λ t. byte ∷ t) (unfolded_last rest (lacks_tail 10 byte rest l))

-- no space follows the line feed
pub unfolded_unspaced : (after : List ℕ) → ((rest : List ℕ) → after ≡ 32 ∷ rest → ⊥) → unfolded_behind true after ≡ unfolded after
unfolded_unspaced [] none = refl
unfolded_unspaced (byte ∷ after) none =
    ap (λ (t : Bool). if t then unfolded_behind false after else byte ∷ unfolded_behind (byte == 10) after)
    (ne_eqb byte 32 (λ is. none after (ap (λ b. b ∷ after) is)))

pub unfolded_folded : (value : List ℕ) → unfolded (folded value) ≡ value
unfolded_folded [] = refl
unfolded_folded (byte ∷ value) =
    by_feed byte
    (λ is. ap unfolded (feed_folded byte value is) ∙ ap (λ t. 10 ∷ t) (unfolded_folded value) ∙ ap (λ b. b ∷ value) (sym is))
    (λ differs. ap unfolded (plain_folded byte value differs) ∙ ap (λ t. byte ∷ unfolded_behind t (folded value)) (ne_eqb byte 10 differs)
    ∙ ap (λ t. byte ∷ t) (unfolded_folded value))
