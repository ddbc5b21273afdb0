-- The parts of a tag lie in its bytes in one way.
use Rattle.std.proofs.Common.{◌≡◌, ◌∙◌, ap, refl, sym, subst, ℕ, ◌-◌, List, [], ◌∷◌, ◌++◌, length, take, length-append, append_assoc, Option, Some, None, inl, inr, arith}
use Rattle.std.proofs.Math.Seq.{take-append_seam}
use Rattle.std.proofs.lemmas.List.{append_cancel_left, append_cancel_right}
use Rattle.gix_object_lines.proofs.Cuts.{cut_once}
use Rattle.gix_object_tag.specs.Signature.{IsSigned}
use Rattle.std.specs.Prelude.{codes}
use Rattle.gix_hash.specs.Kind.{hex_len}
use Rattle.gix_hash.specs.declared.kind.Kind as hash
use Rattle.gix_object_lines.specs.HexLine.{hex_line, IsHex}
use Rattle.gix_object_tag.specs.Tag.{Parts, IsLine, IsMessageOf, SpellsBody, SpellsTarget, SpellsTagger, SpellsRest, Nothing, Body, SpellsTag}
use Rattle.gix_object_lines.specs.Kind.{kind_word}
use Rattle.gix_object_lines.specs.declared.kind.Kind.{Kind}
use Rattle.gix_object_lines.specs.Person.{Person}

pub one_line : (word input value after value' after' : List ℕ) → IsLine word input value after → IsLine word input value' after' → (value ≡ value') × (after ≡ after')
one_line word input value after value' after' a b =
    cut_once 10 value after value' after' a.in_line b.in_line
    (append_cancel_left word (value ++ 10 ∷ after) (value' ++ 10 ∷ after') (sym a.spelled ∙ b.spelled))

front_is : (text front signature : List ℕ) → text ≡ front ++ signature → front ≡ take (length front) text
front_is text front signature whole = sym (ap (take (length front)) whole ∙ take-append_seam front signature)

pub one_signature : (text front signature front' signature' : List ℕ) → IsSigned text front signature → IsSigned text front' signature' → (front ≡ front') × (signature ≡ signature')
one_signature text front signature front' signature' a b =
    let more = a.last front' signature' b.armored in
    let less = b.last front signature a.armored in
    let same : length front ≡ length front' = omega arith in
    let fronts = front_is text front signature a.armored.spelled ∙ ap (λ n. take n text) same ∙ sym (front_is text front' signature' b.armored.spelled) in
    (fronts, append_cancel_left front signature signature' (sym a.armored.spelled ∙ b.armored.spelled ∙ ap (λ f. f ++ signature') (sym fronts)))

not_empty : (message : List ℕ) → message ++ 10 ∷ [] ≡ [] → ⊥
not_empty [] e = cc
not_empty (x ∷ message) e = cc

pub one_message : (front message message' : List ℕ) → IsMessageOf front message → IsMessageOf front message' → message ≡ message'
one_message front message message' (inl a) (inl b) = append_cancel_right message message' (10 ∷ []) (sym a ∙ b)
one_message front message message' (inl a) (inr b) = absurd (not_empty message (sym a ∙ b.0))
one_message front message message' (inr a) (inl b) = absurd (not_empty message' (sym b ∙ a.0))
one_message front message message' (inr a) (inr b) = a.1 ∙ sym b.1

pub one_body : (body message : List ℕ) (signature : Option (List ℕ)) (message' : List ℕ) (signature' : Option (List ℕ)) → SpellsBody body message signature → SpellsBody body message' signature' → (message ≡ message') × (signature ≡ signature')
one_body body message None message' None a b = (sym a.0 ∙ b.0, refl)
one_body body message None message' (Some s') a b = absurd (a.1 b.0 s' b.1.armored)
one_body body message (Some s) message' None a b = absurd (b.1 a.0 s a.1.armored)
one_body body message (Some s) message' (Some s') a b =
    let same = one_signature body a.0 s b.0 s' a.1 b.1 in
    (one_message b.0 message message' (subst (λ f. IsMessageOf f message) same.0 a.2) b.2, ap Some same.1)

-- ---- the line of the target

pub target_named : (kind : hash.Kind) (input digits after text : List ℕ) (count : ℕ) → digits ≡ text → count ≡ hex_len kind → input ≡ hex_line (codes "object") digits ++ after → IsHex count digits → SpellsTarget kind input text after
target_named kind input digits after text count same len spelled hex =
    subst (λ t. SpellsTarget kind input t after) same (record { spelled = spelled; hex = subst (λ n. IsHex n digits) len hex })

pub same_parts : (parts : Parts) (target : List ℕ) (kind : Kind) (name : List ℕ) (tagger : Option Person) (message : List ℕ) (signature : Option (List ℕ))
    → target ≡ parts.target → kind ≡ parts.target_kind → name ≡ parts.name → tagger ≡ parts.tagger → message ≡ parts.message → signature ≡ parts.signature
    → ◌≡◌ {A = Parts} (record { target = target; target_kind = kind; name = name; tagger = tagger; message = message; signature = signature }) parts
same_parts parts target kind name tagger message signature a b c d e f =
    λ i. record { target = a i; target_kind = b i; name = c i; tagger = d i; message = e i; signature = f i }

-- ---- the signature ends the bytes

abbrev pub Ends : List ℕ → List ℕ → Type 0
Ends back input = (front : List ℕ) × (input ≡ front ++ back)

ends_more : (back more input front : List ℕ) → input ≡ front ++ more → Ends back more → Ends back input
ends_more back more input front is h = (front ++ h.0, is ∙ ap (λ t. front ++ t) h.1 ∙ sym (append_assoc front h.0 back))

line_ends : (back word input value after : List ℕ) → IsLine word input value after → Ends back after → Ends back input
line_ends back word input value after line h =
    ends_more back after input (word ++ (value ++ 10 ∷ []))
    (line.spelled ∙ ap (λ t. word ++ t) (sym (append_assoc value (10 ∷ []) after)) ∙ sym (append_assoc word (value ++ 10 ∷ []) after)) h

tagger_ends : (back input : List ℕ) (tagger : Option Person) (after : List ℕ) → SpellsTagger input tagger after → Ends back after → Ends back input
tagger_ends back input None after is h = (h.0, is.0 ∙ h.1)
tagger_ends back input (Some tagger) after is h = line_ends back (codes "tagger ") input is.text after is.line h

rest_ends : (back input message : List ℕ) (signature : Option (List ℕ)) → signature ≡ Some back → SpellsRest input message signature → Ends back input
rest_ends back input message signature some (Nothing a b none) = let e : ◌≡◌ {A = Option (List ℕ)} None (Some back) = sym none ∙ some in absurd cc
rest_ends back input message None some (Body body is told) = absurd cc
rest_ends back input message (Some s) some (Body body is told) =
    let same : s ≡ back = cc in
    (10 ∷ told.0, is ∙ ap (λ t. 10 ∷ t) told.1.armored.spelled ∙ ap (λ t. 10 ∷ (told.0 ++ t)) same)

pub tag_ends : (kind : hash.Kind) (input : List ℕ) (parts : Parts) (back : List ℕ) → SpellsTag kind input parts → parts.signature ≡ Some back → Ends back input
tag_ends kind input parts back is some =
    ends_more back is.after_target input (hex_line (codes "object") parts.target) is.target.spelled
    (line_ends back (codes "type ") is.after_target (kind_word parts.target_kind) is.after_kind is.target_kind
    (line_ends back (codes "tag ") is.after_kind parts.name is.after_name is.name.line
    (tagger_ends back is.after_name parts.tagger is.after_tagger is.tagger
    (rest_ends back is.after_tagger parts.message parts.signature some is.rest))))

pub before_back : (input back : List ℕ) → Ends back input → input ≡ take (length input - length back) input ++ back
before_back input back h =
    let len : length input - length back ≡ length h.0 = omega (arith, ap length h.1, length-append h.0 back) in
    h.1 ∙ ap (λ t. t ++ back) (sym (ap (λ n. take n input) len ∙ ap (take (length h.0)) h.1 ∙ take-append_seam h.0 back))
