-- The object that a text is.
use Rattle.std.proofs.Common.{◌≡◌, ℕ, zero, suc, ◌<◌, ◌≤◌, ◌^◌, drop, subst, Bool, true, false, [], ◌∷◌, ◌++◌, ◌||◌, length, refl, sym, ◌∙◌, ap, append_assoc, arith, Option, Some, None, if◌then◌else◌}
use Rattle.std.specs.Prelude.{bytes_eq, decimal, ◌==◌}
use Rattle.std.specs.List.{list_any}
use Rattle.std.proofs.lemmas.Slice.Eq.{bytes_eq-Decides}
use Rattle.std.proofs.lemmas.List.Folds.{list_any-append}
use Rattle.std.specs.Option.{option_or}
use Rattle.gix_object_lines.specs.Bytes.{Lacks}
use Rattle.gix_object_lines.specs.Kind.{kind_word}
use Rattle.gix_object_lines.specs.declared.kind.Kind.{Kind as ObjectKind}
use Rattle.gix_object_lines.specs.declared.kind.Kind.TheVariants as kinds
use Rattle.gix_object_lines.proofs.Headers.{header_cut}
use Rattle.gix_object_lines.proofs.Numbers.{decimal_lacks}
use Rattle.gix_object_lookup.specs.Table.{Object}
use Rattle.history_model.specs.Bytes.{Bytes}
use Rattle.history_model.specs.Objects.{object_text}
use Rattle.history_texts.specs.ObjectTexts.{as_object, behind_zero, object_in, IsNoObject}

behind-front : (front content : Bytes) → Lacks 0 front → behind_zero (front ++ 0 ∷ content) ≡ content
behind-front [] content lacks = refl
behind-front (b ∷ front) content lacks = by_test (b == 0) refl (behind-front front content)
  where
    by_test : (t : Bool) → (b == 0) ≡ t → (Lacks 0 front → behind_zero (front ++ 0 ∷ content) ≡ content) → (if t then front ++ 0 ∷ content else behind_zero (front ++ 0 ∷ content)) ≡ content
    by_test true is later = cc
    by_test false other later = later (sym (ap (λ t. t || list_any (λ c. c == 0) front) other) ∙ lacks)

word_lacks_zero : (kind : ObjectKind) → Lacks 0 (kind_word kind)
word_lacks_zero kinds.Tree = refl
word_lacks_zero kinds.Blob = refl
word_lacks_zero kinds.Commit = refl
word_lacks_zero kinds.Tag = refl

joined_lacks : (front back : Bytes) → Lacks 0 front → Lacks 0 back → Lacks 0 (front ++ 32 ∷ back)
joined_lacks front back one other = list_any-append (λ c. c == 0) front (32 ∷ back) ∙ (λ i. one i || other i)

content_behind : (kind : ObjectKind) (content : Bytes) → length content < 2 ^ 64 → behind_zero (object_text kind content) ≡ content
content_behind kind content fits =
    ap behind_zero (header_cut (kind_word kind) (decimal (length content)) content ∙ sym (append_assoc (kind_word kind) (32 ∷ decimal (length content)) (0 ∷ content)))
    ∙ behind-front (kind_word kind ++ 32 ∷ decimal (length content)) content
    (joined_lacks (kind_word kind) (decimal (length content)) (word_lacks_zero kind) (decimal_lacks 0 (length content) (omega arith) fits))

as_own : (kind : ObjectKind) (content : Bytes) → length content < 2 ^ 64 → as_object kind (object_text kind content) ≡ Some (record { kind = kind; content = content })
as_own kind content fits =
    let text = object_text kind content in
    let same : bytes_eq text (object_text kind (behind_zero text)) ≡ true = (bytes_eq-Decides text (object_text kind (behind_zero text))).1 (sym (ap (object_text kind) (content_behind kind content fits))) in
    ap (λ t. if t then Some (record { kind = kind; content = behind_zero text }) else None) same
    ∙ ap (λ c. Some (record { kind = kind; content = c })) (content_behind kind content fits)

pub object_in-text : (kind : ObjectKind) (content : Bytes) → length content < 2 ^ 64 → object_in (object_text kind content) ≡ Some (record { kind = kind; content = content })
object_in-text kinds.Blob content fits =
    let text = object_text kinds.Blob content in
    ap (λ o. option_or o (option_or (as_object kinds.Tree text) (option_or (as_object kinds.Commit text) (as_object kinds.Tag text)))) (as_own kinds.Blob content fits)
object_in-text kinds.Tree content fits =
    let text = object_text kinds.Tree content in
    ap (λ o. option_or o (option_or (as_object kinds.Commit text) (as_object kinds.Tag text))) (as_own kinds.Tree content fits)
object_in-text kinds.Commit content fits = ap (λ o. option_or o (as_object kinds.Tag (object_text kinds.Commit content))) (as_own kinds.Commit content fits)
object_in-text kinds.Tag content fits = as_own kinds.Tag content fits

length-drop_at_most : (n : ℕ) (text : Bytes) → length (drop n text) ≤ length text
length-drop_at_most zero text = omega arith
length-drop_at_most (suc n) [] = omega arith
length-drop_at_most (suc n) (b ∷ text) = omega (arith, length-drop_at_most n text)

as_none : (kind : ObjectKind) (text : Bytes) → IsNoObject text → as_object kind text ≡ None
as_none kind text none = by_test (bytes_eq text (object_text kind (behind_zero text))) refl
  where
    by_test : (t : Bool) → bytes_eq text (object_text kind (behind_zero text)) ≡ t → if◌then◌else◌ {A = Option Object} t (Some (record { kind = kind; content = behind_zero text })) None ≡ None
    by_test true same = absurd (none kind (behind_zero text) ((bytes_eq-Decides text (object_text kind (behind_zero text))).0 same))
    by_test false other = refl

pub object_in-none : (text : Bytes) → IsNoObject text → object_in text ≡ None
object_in-none text none =
    (λ i. option_or (as_none kinds.Blob text none i) (option_or (as_none kinds.Tree text none i) (option_or (as_none kinds.Commit text none i) (as_none kinds.Tag text none i))))

-- if a text is a header and what follows it
pub object_in-read : (text read : Bytes) (kind : ObjectKind) (start : ℕ) → read ≡ text → read ≡ object_text kind (drop start read) → length text < 2 ^ 64 → object_in text ≡ Some (record { kind = kind; content = drop start text })
object_in-read text read kind start same is fits =
    let told : text ≡ object_text kind (drop start text) = subst (λ t. t ≡ object_text kind (drop start t)) same is in
    ap object_in told ∙ object_in-text kind (drop start text) (omega (arith, fits, length-drop_at_most start text))
