-- What is expected of a name, and the lines that say it.
use Rattle.std.proofs.Common.{◌≡◌, List, [], ◌∷◌, ◌++◌, Option, Some, None, refl, sym, ap, subst, ◌∙◌, option_map, Vec, Global, ℕ}
use Rattle.std.specs.Prelude.{IfSome, MatchOption, IsSomeAnd}
use Rattle.std.proofs.lemmas.List.{append-nil}
use Rattle.history_model.specs.Bytes.{Bytes}
use Rattle.history_model.specs.Commands as model
use Rattle.history_model.specs.Lines as lines
use Rattle.history_model.specs.Spelling.{expect_words}
use Rattle.history_word.specs.LineTable.{expect_of, commit_of_words, target_of_words}
use Rattle.history_word.specs.Commands.{IsExpect, IsTo}
use Rattle.history_word.specs.Drafts.{to_of, IsHeading, Says, SaysExpect, SaysTarget}
use Rattle.history_word.specs.declared.command.Expect.{Expect}
use Rattle.history_word.specs.declared.command.Expect.TheVariants.{At}
use Rattle.history_word.specs.declared.command.To.{To}
use Rattle.history_word.specs.declared.heading.Heading.{Heading}
use Rattle.history_word.proofs.TableLaws.{expect_told, target_reads}

abbrev Word : Type 0
Word = Option (Vec ℕ Global)

-- ---- what is expected

pub at_said : (word : Bytes) (own : Word) (result : Option Expect) → IfSome own (λ w. w.items ≡ word) → MatchOption own (result ≡ None) (λ x. IsSomeAnd result (λ e. e ≡ At x)) → IfSome result (λ x. IsExpect x (model.At word))
at_said word own None is made = tt
at_said word None (Some e) is made = cc
at_said word (Some own) (Some e) is made = subst (λ e. IsExpect e (model.At word)) (sym made) is

-- ---- what is expected, at the end of a line

no_words : (words : List Bytes) → ((e : model.Expect) → words ≡ expect_words e → ⊥) → expect_of words ≡ None
no_words words none = at (expect_of words) refl
  where
    at : (o : Option model.Expect) → expect_of words ≡ o → o ≡ None
    at None e = refl
    at (Some x) e = absurd (none x (expect_told words x e))

no_expect : (words : List Bytes) → ((e : model.Expect) (more : List Bytes) → words ≡ expect_words e ++ more → ⊥) → expect_of words ≡ None
no_expect words none = at (expect_of words) refl
  where
    at : (o : Option model.Expect) → expect_of words ≡ o → o ≡ None
    at None e = refl
    at (Some x) e = absurd (none x [] (expect_told words x e ∙ sym (append-nil (expect_words x))))

-- ---- the line of a commit

pub commit_bare : (words rest : List Bytes) (name : Bytes) → words ≡ name ∷ rest → SaysExpect None rest [] → Says None (commit_of_words words)
commit_bare words rest name split says =
    subst (λ ws. Says None (commit_of_words ws)) (sym split) (subst (λ o. Says None (option_map (lines.CommitHeading name) o)) (sym (no_expect rest says)) tt)

-- ---- a name that is to move

-- words that aren't such a name's say no line
bare_none : (g : Bytes → model.Expect → Bytes → lines.Heading) (words : List Bytes) → SaysTarget None words → target_of_words g words ≡ None
bare_none g [] none = refl
bare_none g (name ∷ []) none = refl
bare_none g (name ∷ first ∷ []) none = refl
bare_none g (name ∷ first ∷ word ∷ []) none = ap (option_map (λ x. g name x word)) (no_words (first ∷ []) (λ e is. none name word e (ap (λ ws. name ∷ (ws ++ word ∷ [])) is)))
bare_none g (name ∷ first ∷ second ∷ word ∷ []) none = ap (option_map (λ x. g name x word)) (no_words (first ∷ second ∷ []) (λ e is. none name word e (ap (λ ws. name ∷ (ws ++ word ∷ [])) is)))
bare_none g (name ∷ first ∷ second ∷ word ∷ more ∷ words) none = refl

pub target_bare : (g : Bytes → model.Expect → Bytes → lines.Heading) (words : List Bytes) → SaysTarget None words → Says None (target_of_words g words)
target_bare g words none = subst (Says None) (sym (bare_none g words none)) tt

pub target_said : (g : Bytes → model.Expect → Bytes → lines.Heading) (said : Option To → Heading) → ((to : Option To) (name : Bytes) (e : model.Expect) (word : Bytes) → IfSome to (λ x. IsTo x (to_of name e word)) → IsHeading (said to) (g name e word))
    → (words : List Bytes) (to : Option To) → SaysTarget (Some to) words → Says (Some (said to)) (target_of_words g words)
target_said g said is words to (name, word, e, told, split) =
    subst (Says (Some (said to))) (sym (ap (target_of_words g) split ∙ target_reads g name e word)) (is to name e word told)

-- words that say no target: none, no expectation after the first, or not one word after that
pub none_first : (words : List Bytes) → words ≡ [] → SaysTarget None words
none_first words none name word e is = cc (none, is)

pub none_expected : (words rest : List Bytes) (name : Bytes) → words ≡ name ∷ rest → SaysExpect None rest [] → SaysTarget None words
none_expected words rest name split says other word e is = says e (word ∷ []) (tail (sym split ∙ is))
  where
    tail : name ∷ rest ≡ other ∷ (expect_words e ++ word ∷ []) → rest ≡ expect_words e ++ word ∷ []
    tail e = cc

pub none_last : (words rest left : List Bytes) (name : Bytes) (expect : Option Expect) → words ≡ name ∷ rest → SaysExpect (Some expect) rest left → ((word : Bytes) → left ≡ word ∷ [] → ⊥) → SaysTarget None words
none_last words rest left name expect split (e, told, says) none other word f is = none word (ends e f (sym says ∙ tail (sym split ∙ is)))
  where
    tail : name ∷ rest ≡ other ∷ (expect_words f ++ word ∷ []) → rest ≡ expect_words f ++ word ∷ []
    tail e = cc

    ends : (e f : model.Expect) → expect_words e ++ left ≡ expect_words f ++ word ∷ [] → left ≡ word ∷ []
    ends model.Any model.Any h = cc
    ends model.Any model.New h = cc
    ends model.Any (model.At w) h = cc
    ends model.New model.Any h = cc
    ends model.New model.New h = cc
    ends model.New (model.At w) h = cc
    ends (model.At v) model.Any h = cc
    ends (model.At v) model.New h = cc
    ends (model.At v) (model.At w) h = cc
