-- The test of bodies is the rule.
use Rattle.std.proofs.Common.{◌≡◌, ◌∙◌, ap, refl, sym, subst, ℕ, ◌≤◌, Bool, true, not, ◌||◌, ◌&&◌, List, [], ◌∷◌, ◌++◌, length, length-append, append_assoc, Option, None, Some, inl, inr, arith}
use Rattle.std.specs.Prelude.{◌==◌, ◌⊎◌, codes}
use Rattle.std.specs.Bool.{Decides}
use Rattle.std.proofs.lemmas.Bool.Decides.{Decides-eqb, Decides-like, Decides-not, Decides-and, Decides-or}
use Rattle.gix_object_lines.specs.Bytes.{IsBeginningOf}
use Rattle.gix_object_signature.specs.Armor.{BeginsArmor}
use Rattle.gix_object_signature.specs.declared.format.Format.{Format}
use Rattle.gix_object_signature.specs.declared.format.Format.TheVariants.{OpenPgp, X509, Ssh}
use Rattle.gix_object_tag.specs.BodyTest.{begins_armor, has_later_armor, is_whole_body}
use Rattle.gix_object_tag.specs.Format.{IsWholeBody}
use Rattle.gix_object_lines.specs.NameTest.{begins}
use Rattle.gix_object_tag.specs.Signature.{IsArmored, IsSigned, IsUnsigned}
use Rattle.gix_object_lines.proofs.NameTests.{begins-Decides}

-- ---- armors at the start, and after

abbrev Armored : List ℕ → Type 0
Armored text = (format : Format) × BeginsArmor text format

abbrev Later : List ℕ → Type 0
Later text = (before : List ℕ) × (rest : List ℕ) × (text ≡ before ++ 10 ∷ rest) × Armored rest

abbrev AnyArmor : List ℕ → Type 0
AnyArmor text =
    IsBeginningOf (codes "-----BEGIN PGP SIGNATURE-----") text
    ⊎ (IsBeginningOf (codes "-----BEGIN PGP MESSAGE-----") text
    ⊎ (IsBeginningOf (codes "-----BEGIN SIGNED MESSAGE-----") text
    ⊎ IsBeginningOf (codes "-----BEGIN SSH SIGNATURE-----") text))

armored-Decides : (text : List ℕ) → Decides (begins_armor text) (Armored text)
armored-Decides text =
    let a = codes "-----BEGIN PGP SIGNATURE-----" in
    let b = codes "-----BEGIN PGP MESSAGE-----" in
    let c = codes "-----BEGIN SIGNED MESSAGE-----" in
    let d = codes "-----BEGIN SSH SIGNATURE-----" in
    Decides-like (begins_armor text) to from
    (Decides-or (begins a text) (begins b text || (begins c text || begins d text)) (begins-Decides a text)
    (Decides-or (begins b text) (begins c text || begins d text) (begins-Decides b text)
    (Decides-or (begins c text) (begins d text) (begins-Decides c text) (begins-Decides d text))))
  where
    to : AnyArmor text → Armored text
    to (inl h) = (OpenPgp, inl h)
    to (inr (inl h)) = (OpenPgp, inr h)
    to (inr (inr (inl h))) = (X509, h)
    to (inr (inr (inr h))) = (Ssh, h)

    from : Armored text → AnyArmor text
    from (OpenPgp, inl h) = inl h
    from (OpenPgp, inr h) = inr (inl h)
    from (X509, h) = inr (inr (inl h))
    from (Ssh, h) = inr (inr (inr h))

none_later : (before rest : List ℕ) → [] ≡ before ++ 10 ∷ rest → ⊥
none_later [] rest e = cc
none_later (x ∷ before) rest e = cc

later-Decides : (text : List ℕ) → Decides (has_later_armor text) (Later text)
later-Decides [] = (λ e. absurd cc, λ h. absurd (none_later h.0 h.1 h.2))
later-Decides (byte ∷ rest) =
    Decides-like ((byte == 10 && begins_armor rest) || has_later_armor rest) there here
    (Decides-or (byte == 10 && begins_armor rest) (has_later_armor rest) (Decides-and (byte == 10) (begins_armor rest) (Decides-eqb byte 10) (armored-Decides rest)) (later-Decides rest))
  where
    there : ((byte ≡ 10) × Armored rest) ⊎ Later rest → Later (byte ∷ rest)
    there (inl h) = ([], rest, ap (λ b. b ∷ rest) h.0, h.1)
    there (inr h) = (byte ∷ h.0, h.1, ap (λ t. byte ∷ t) h.2, h.3)

    here : Later (byte ∷ rest) → ((byte ≡ 10) × Armored rest) ⊎ Later rest
    here ([], after, whole, armor) =
        let first : byte ≡ 10 = cc in
        let tails : rest ≡ after = cc in
        inl (first, subst Armored (sym tails) armor)
    here (x ∷ before, after, whole, armor) = let tails : rest ≡ before ++ 10 ∷ after = cc in inr (before, after, tails, armor)

-- ---- the same as armors at lines' starts

at_start : (text : List ℕ) (armor : Armored text) → IsArmored text [] text
at_start text armor = record { spelled = refl; line_begins = inl refl; format = armor.0; armor = armor.1 }

at_line : (text : List ℕ) (later : Later text) → IsArmored text (later.0 ++ 10 ∷ []) later.1
at_line text later = record { spelled = later.2 ∙ sym (append_assoc later.0 (10 ∷ []) later.1); line_begins = inr (later.0, refl); format = later.3.0; armor = later.3.1 }

first_or_later : (text front signature : List ℕ) → IsArmored text front signature → ((front ≡ []) × Armored text) ⊎ Later text
first_or_later text front signature is = by is.line_begins
  where
    by : (front ≡ []) ⊎ ((before : List ℕ) × (front ≡ before ++ 10 ∷ [])) → ((front ≡ []) × Armored text) ⊎ Later text
    by (inl none) = inl (none, (is.format, subst (λ t. BeginsArmor t is.format) (sym (is.spelled ∙ ap (λ f. f ++ signature) none)) is.armor))
    by (inr (before, ends)) = inr (before, signature, is.spelled ∙ ap (λ f. f ++ signature) ends ∙ append_assoc before (10 ∷ []) signature, (is.format, is.armor))

-- ---- bodies

unsigned_from : (text : List ℕ) → ¬ (Armored text ⊎ Later text) → IsUnsigned text
unsigned_from text none front signature is = by (first_or_later text front signature is)
  where
    by : ((front ≡ []) × Armored text) ⊎ Later text → ⊥
    by (inl first) = none (inl first.1)
    by (inr later) = none (inr later)

none_from : (text : List ℕ) → IsUnsigned text → ¬ (Armored text ⊎ Later text)
none_from text unsigned (inl armor) = unsigned [] text (at_start text armor)
none_from text unsigned (inr later) = unsigned (later.0 ++ 10 ∷ []) later.1 (at_line text later)

signed_from : (text : List ℕ) → Armored text × (¬ Later text) → IsSigned text [] text
signed_from text (armor, none) = record { armored = at_start text armor; last = λ other rest is. by other rest (first_or_later text other rest is) }
  where
    by : (other rest : List ℕ) → ((other ≡ []) × Armored text) ⊎ Later text → length other ≤ 0
    by other rest (inl first) = omega (arith, ap length first.0)
    by other rest (inr later) = absurd (none later)

no_later : (text : List ℕ) → IsSigned text [] text → ¬ Later text
no_later text is later = let most = is.last (later.0 ++ 10 ∷ []) later.1 (at_line text later) in omega (arith, most, length-append later.0 (10 ∷ []))

pub is_whole_body-Decides : (message : List ℕ) (signature : Option (List ℕ)) → Decides (is_whole_body message signature) (IsWholeBody message signature)
is_whole_body-Decides message None =
    Decides-like (not (begins_armor message || has_later_armor message)) (unsigned_from message) (none_from message)
    (Decides-not (begins_armor message || has_later_armor message) (Decides-or (begins_armor message) (has_later_armor message) (armored-Decides message) (later-Decides message)))
is_whole_body-Decides message (Some signature) =
    Decides-like (begins_armor signature && not (has_later_armor signature)) (signed_from signature) (λ is. ((is.armored.format, is.armored.armor), no_later signature is))
    (Decides-and (begins_armor signature) (not (has_later_armor signature)) (armored-Decides signature) (Decides-not (has_later_armor signature) (later-Decides signature)))

-- ---- where the last armor begins

pub one_armor : (text front back : List ℕ) (empty : Bool) → empty ≡ (length front == 0) → IsSigned text front back → (empty ≡ true → IsSigned text [] text) × (IsSigned text [] text → empty ≡ true)
one_armor text [] back empty is signed = (λ e. subst (λ b. IsSigned text [] b) (sym signed.armored.spelled) signed, λ own. is)
one_armor text (byte ∷ front) back empty is signed = (
  λ e. absurd (let none = (Decides-eqb (length (byte ∷ front)) 0).0 (sym is ∙ e) in omega (arith, none)),
  λ own. absurd (let most = own.last (byte ∷ front) back signed.armored in omega (arith, most)),
)
