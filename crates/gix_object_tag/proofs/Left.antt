-- What is left of a tag after some of its parts.
use Rattle.std.proofs.Common.{◌≡◌, ◌∙◌, ap, refl, sym, subst, ℕ, ◌<◌, Bool, true, false, ◌||◌, List, [], ◌∷◌, ◌++◌, length, take, append_assoc, Option, Some, None, arith}
use Rattle.std.specs.Prelude.{codes, ◌≢◌}
use Rattle.std.proofs.Math.Seq.{take-append_seam}
use Rattle.std.proofs.lemmas.List.{append_cancel_left}
use Rattle.gix_hash.specs.declared.kind.Kind as hash
use Rattle.gix_object_lines.specs.declared.kind.Kind.{Kind}
use Rattle.gix_object_tag.specs.Tag.{SpellsTarget, SpellsKind, SpellsName, SpellsTagger, SpellsRest, Nothing}
use Rattle.gix_object_tag.specs.Tokens.{Part, Target, TargetKind, Name, Tagger, Body, IsPartAt, stage_after, left_of}
use Rattle.gix_object_tag.specs.Whole.{IsTag, tells_name}
use Rattle.gix_object_tag.specs.declared.tag.ref_iter.Stage.{Stage}
use Rattle.gix_object_tag.specs.declared.tag.ref_iter.Stage.TheVariants as at
use Rattle.gix_object_lines.proofs.HexDigits.{id_of_hex}
use Rattle.gix_object_lines.specs.Person.{Person}
use Rattle.gix_object_tag.proofs.TagLemmas.{one_line}

abbrev pub IsBody : List ℕ → Type 0
IsBody input = (message : List ℕ) × (signature : Option (List ℕ)) × SpellsRest input message signature

abbrev pub IsFromTagger : List ℕ → Type 0
IsFromTagger input = (tagger : Option Person) × (after : List ℕ) × SpellsTagger input tagger after × IsBody after

abbrev pub IsFromName : List ℕ → Type 0
IsFromName input = (name : List ℕ) × (after : List ℕ) × SpellsName input name after × IsFromTagger after

abbrev pub IsFromKind : List ℕ → Type 0
IsFromKind input = (kind : Kind) × (after : List ℕ) × SpellsKind input kind after × IsFromName after

abbrev pub IsFromTarget : hash.Kind → List ℕ → Type 0
IsFromTarget kind input = (digits : List ℕ) × (after : List ℕ) × SpellsTarget kind input digits after × IsFromKind after

abbrev pub IsFrom : hash.Kind → Stage → List ℕ → Type 0
IsFrom kind at.Target input = IsFromTarget kind input
IsFrom kind at.TargetKind input = IsFromKind input
IsFrom kind at.Name input = IsFromName input
IsFrom kind at.Tagger input = IsFromTagger input
IsFrom kind at.Body input = IsBody input

-- the name has come
abbrev pub is_named : Stage → Bool
is_named at.Target = false
is_named at.TargetKind = false
is_named at.Name = false
is_named at.Tagger = true
is_named at.Body = true

pub tag_from : (kind : hash.Kind) (input : List ℕ) → IsFromTarget kind input → IsTag kind input
tag_from kind input (digits, after, target, (k, after_kind, is_kind, (name, after_name, is_name, (tagger, after_tagger, is_tagger, (message, signature, rest))))) = (
  record { target = digits; target_kind = k; name = name; tagger = tagger; message = message; signature = signature },
  record { after_target = after; after_kind = after_kind; after_name = after_name; after_tagger = after_tagger; target = target; target_kind = is_kind; name = is_name; tagger = is_tagger; rest = rest },
)

pub tag_to : (kind : hash.Kind) (input : List ℕ) → IsTag kind input → IsFromTarget kind input
tag_to kind input (parts, is) =
    (parts.target, is.after_target, is.target, (parts.target_kind, is.after_kind, is.target_kind, (parts.name, is.after_name, is.name, (parts.tagger, is.after_tagger, is.tagger, (parts.message, parts.signature, is.rest)))))

-- ---- the lines end in one place

target_shape : (digits after : List ℕ) → (codes "object" ++ 32 ∷ digits ++ 10 ∷ []) ++ after ≡ codes "object " ++ (digits ++ 10 ∷ after)
target_shape digits after = ap (λ t. codes "object " ++ t) (append_assoc digits (10 ∷ []) after)

after_target : (kind : hash.Kind) (input digits after digits' after' : List ℕ) → SpellsTarget kind input digits after → SpellsTarget kind input digits' after' → after ≡ after'
after_target kind input digits after digits' after' a b =
    let whole : digits ++ 10 ∷ after ≡ digits' ++ 10 ∷ after' =
    append_cancel_left (codes "object ") (digits ++ 10 ∷ after) (digits' ++ 10 ∷ after') (sym (target_shape digits after) ∙ sym a.spelled ∙ b.spelled ∙ target_shape digits' after') in
    let len : length digits ≡ length digits' = a.hex.0 ∙ sym b.hex.0 in
    let same : digits ≡ digits' = sym (take-append_seam digits (10 ∷ after)) ∙ ap (take (length digits)) whole ∙ ap (λ n. take n (digits' ++ 10 ∷ after')) len ∙ take-append_seam digits' (10 ∷ after') in
    let tails : 10 ∷ after ≡ 10 ∷ after' = append_cancel_left digits' (10 ∷ after) (10 ∷ after') (ap (λ d. d ++ 10 ∷ after) (sym same) ∙ whole) in
    cc

after_tagger : (input : List ℕ) (tagger : Option Person) (after : List ℕ) (tagger' : Option Person) (after' : List ℕ) → SpellsTagger input tagger after → SpellsTagger input tagger' after' → after ≡ after'
after_tagger input None after None after' a b = sym a.0 ∙ b.0
after_tagger input None after (Some t) after' a b = absurd (a.1 (b.text ++ 10 ∷ after', b.line.spelled))
after_tagger input (Some t) after None after' a b = absurd (b.1 (a.text ++ 10 ∷ after, a.line.spelled))
after_tagger input (Some t) after (Some t') after' a b = (one_line (codes "tagger ") input a.text after b.text after' a.line b.line).1

-- ---- a part after which a tag goes on

pub step_on : (kind : hash.Kind) (stage : Stage) (input : List ℕ) (part : Part) (after : List ℕ) → IsPartAt kind stage input part after → IsFrom kind stage input → IsFrom kind (stage_after part) after
step_on kind stage input (Target id) after is from =
    let h : IsFromTarget kind input = subst (λ s. IsFrom kind s input) is.0 from in
    subst IsFromKind (after_target kind input h.0 h.1 is.1.digits after h.2 is.1.spelled) h.3
step_on kind stage input (TargetKind target) after is from =
    let h : IsFromKind input = subst (λ s. IsFrom kind s input) is.0 from in
    subst IsFromName (one_line (codes "type ") input _ h.1 _ after h.2 is.1).1 h.3
step_on kind stage input (Name name) after is from =
    let h : IsFromName input = subst (λ s. IsFrom kind s input) is.0 from in
    subst IsFromTagger (one_line (codes "tag ") input _ h.1 _ after h.2.line is.1.line).1 h.3
step_on kind stage input (Tagger tagger) after is from =
    let h : IsFromTagger input = subst (λ s. IsFrom kind s input) is.0 from in
    subst IsBody (after_tagger input h.0 h.1 tagger after h.2 is.1) h.3
step_on kind stage input (Body message signature) after is from = ([], None, Nothing is.2 refl refl)

pub step_back : (kind : hash.Kind) (stage : Stage) (input : List ℕ) (part : Part) (after : List ℕ) → IsPartAt kind stage input part after → IsFrom kind (stage_after part) after → IsFrom kind stage input
step_back kind stage input (Target id) after is rest = subst (λ s. IsFrom kind s input) (sym is.0) (is.1.digits, after, is.1.spelled, rest)
step_back kind stage input (TargetKind target) after is rest = subst (λ s. IsFrom kind s input) (sym is.0) (target, after, is.1, rest)
step_back kind stage input (Name name) after is rest = subst (λ s. IsFrom kind s input) (sym is.0) (name, after, is.1, rest)
step_back kind stage input (Tagger tagger) after is rest = subst (λ s. IsFrom kind s input) (sym is.0) (tagger, after, is.1, rest)
step_back kind stage input (Body message signature) after is rest = subst (λ s. IsFrom kind s input) (sym is.0) (message, signature, is.1)

-- if a tag goes on, a part is next
pub has_part : (kind : hash.Kind) (stage : Stage) (input : List ℕ) → IsFrom kind stage input → (part : Part) × (rest : List ℕ) × IsPartAt kind stage input part rest
has_part kind at.Target input h =
    let id = id_of_hex kind h.0 h.2.hex in
    (Target id.0, h.1, (refl, record { digits = h.0; spelled = h.2; id_spelled = id.1 }))
has_part kind at.TargetKind input h = (TargetKind h.0, h.1, (refl, h.2))
has_part kind at.Name input h = (Name h.0, h.1, (refl, h.2))
has_part kind at.Tagger input h = (Tagger h.0, h.1, (refl, h.2))
has_part kind at.Body input h = (Body h.0 h.1, [], (refl, h.2, refl))

-- ---- the end

pub end_named : (kind : hash.Kind) (stage : Stage) → IsFrom kind stage [] → is_named stage ≡ true
end_named kind at.Target h = let e = h.2.spelled in absurd cc
end_named kind at.TargetKind h = let e = h.2.spelled in absurd cc
end_named kind at.Name h = let e = h.2.line.spelled in absurd cc
end_named kind at.Tagger h = refl
end_named kind at.Body h = refl

pub named_end : (kind : hash.Kind) (stage : Stage) → is_named stage ≡ true → IsFrom kind stage []
named_end kind at.Target h = absurd cc
named_end kind at.TargetKind h = absurd cc
named_end kind at.Name h = absurd cc
named_end kind at.Tagger h = (None, [], (refl, λ b. let e = b.1 in cc), ([], None, Nothing refl refl refl))
named_end kind at.Body h = ([], None, Nothing refl refl refl)

pub named_on : (kind : hash.Kind) (stage : Stage) (input : List ℕ) (part : Part) (after : List ℕ) → IsPartAt kind stage input part after → (is_named stage || tells_name part) ≡ is_named (stage_after part)
named_on kind stage input (Target id) after is = ap (λ s. is_named s || false) is.0
named_on kind stage input (TargetKind target) after is = ap (λ s. is_named s || false) is.0
named_on kind stage input (Name name) after is = ap (λ s. is_named s || true) is.0
named_on kind stage input (Tagger tagger) after is = ap (λ s. is_named s || false) is.0
named_on kind stage input (Body message signature) after is = ap (λ s. is_named s || false) is.0

-- ---- fewer tokens come after a part

some_left : (stage : Stage) (input : List ℕ) (n : ℕ) → input ≢ [] → ((byte : ℕ) (rest : List ℕ) → left_of stage (byte ∷ rest) ≡ n) → left_of stage input ≡ n
some_left stage [] n some is = absurd (some refl)
some_left stage (byte ∷ rest) n some is = is byte rest

at_most_left : (stage : Stage) (rest : List ℕ) (n : ℕ) → ((byte : ℕ) (more : List ℕ) → left_of stage (byte ∷ more) < n) → 0 < n → left_of stage rest < n
at_most_left stage [] n below some = some
at_most_left stage (byte ∷ rest) n below some = below byte rest

pub fewer_left : (kind : hash.Kind) (stage : Stage) (input : List ℕ) (part : Part) (after : List ℕ) → input ≢ [] → IsPartAt kind stage input part after → left_of (stage_after part) after < left_of stage input
fewer_left kind stage input (Target id) after some is =
    let all = ap (λ s. left_of s input) is.0 ∙ some_left at.Target input 5 some (λ b r. refl) in
    rw all (at_most_left at.TargetKind after 5 (λ b r. omega arith) (omega arith))
fewer_left kind stage input (TargetKind target) after some is =
    let all = ap (λ s. left_of s input) is.0 ∙ some_left at.TargetKind input 4 some (λ b r. refl) in
    rw all (at_most_left at.Name after 4 (λ b r. omega arith) (omega arith))
fewer_left kind stage input (Name name) after some is =
    let all = ap (λ s. left_of s input) is.0 ∙ some_left at.Name input 3 some (λ b r. refl) in
    rw all (at_most_left at.Tagger after 3 (λ b r. omega arith) (omega arith))
fewer_left kind stage input (Tagger tagger) after some is =
    let all = ap (λ s. left_of s input) is.0 ∙ some_left at.Tagger input 2 some (λ b r. refl) in
    rw all (at_most_left at.Body after 2 (λ b r. omega arith) (omega arith))
fewer_left kind stage input (Body message signature) after some is =
    let all = ap (λ s. left_of s input) is.0 ∙ some_left at.Body input 1 some (λ b r. refl) in
    rw (all, is.2) (omega arith)
