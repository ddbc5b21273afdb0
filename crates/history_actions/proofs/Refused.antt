-- What is reported of words that `clap` refuses, and of words that it takes.
use Rattle.std.proofs.Common.{◌≡◌, ◌∙◌, List, [], Option, Some, None, Result, Ok, Err, inl, inr, true, refl, ap, sym, subst, codes}
use Rattle.std.specs.Prelude.{MatchOption}
use Rattle.clap.specs.Words.{App, HasKind, HasMatchesOf, IsAmong, Row, Text, fault_of, first_of, is_simple, is_simple_and_free, kind_of, subcommand_of, subcommand_rows_of}
use Rattle.clap.specs.declared.ArgMatches.{ArgMatches}
use Rattle.clap.specs.declared.error.Error.{Error}
use Rattle.clap.specs.declared.error.ErrorKind.{ErrorKind}
use Rattle.clap.specs.declared.error.ErrorKind.TheVariants.{DisplayHelp, DisplayVersion, OutOfMemory}
use Rattle.history_actions.specs.Line.{IsAskedBy, IsRefusedFor, IsRequest, Reads, faults_of, line}
use Rattle.history_actions.specs.Refusals.{IsEntered, IsNoHelp, IsNothing, Tells}
use Rattle.history_actions.specs.declared.command_line.asked.AskError.{AskError}
use Rattle.history_actions.specs.declared.command_line.asked.AskError.TheVariants.{Help, Line, Memory}
use Rattle.history_actions.specs.declared.command_line.asked.Asked.{Asked}

is_simple_line : is_simple line ≡ true
is_simple_line = refl

is_free_line : is_simple_and_free line ≡ true
is_free_line = refl

-- ---- what `clap` says of a command that is the program's line

pub refused_by : (a : App) (words : List Text) (e : Error) → a ≡ line
    → (is_simple_and_free a ≡ true → HasKind (fault_of a words) e) → HasKind (faults_of words) e
refused_by a words e same has =
    subst (λ l. HasKind (fault_of l words) e) same (has (ap is_simple_and_free same ∙ is_free_line))

pub taken_by : (a : App) (words : List Text) → a ≡ line
    → (is_simple_and_free a ≡ true → fault_of a words ≡ []) → faults_of words ≡ []
taken_by a words same none =
    sym (ap (λ l. fault_of l words) same) ∙ none (ap is_simple_and_free same ∙ is_free_line)

pub found_by : (a : App) (words : List Text) (m : ArgMatches) → a ≡ line → HasMatchesOf a words m
    → subcommand_rows_of m ≡ subcommand_of line words
found_by a words m same has =
    (has (ap is_simple same ∙ is_simple_line)).1 ∙ ap (λ l. subcommand_of l words) same

-- ---- what is reported

pub told : (words : List Text) (e : Error) (r : AskError) → Tells (kind_of e) r
    → HasKind (faults_of words) e → IsRefusedFor words r
told words e (Help text) is (inl memory) = absurd (no_memory (kind_of e) is memory)
  where
    no_memory : (kind : ErrorKind) → IsRequest kind → kind ≡ OutOfMemory → ⊥
    no_memory kind (inl help) same = absurd (cc (sym help ∙ same))
    no_memory kind (inr version) same = absurd (cc (sym version ∙ same))
told words e (Help text) is (inr among) = (kind_of e, is, among)
told words e (Line text) is (inl memory) = absurd (is.1 memory)
told words e (Line text) is (inr among) = inl (kind_of e, is.0, among)
told words e Memory is has = tt

pub entered_as : (words : List Text) (found : Option (Text × List Row)) (r : Result Asked AskError)
    → found ≡ subcommand_of line words → faults_of words ≡ [] → IsEntered found r → Reads words r
entered_as words found (Ok asked) same none is =
    (none, subst (λ f. MatchOption f ⊥ (IsAskedBy asked)) same is)
entered_as words found (Err (Help text)) same none is = absurd is
entered_as words found (Err (Line text)) same none is =
    inr (λ asked asks. is asked (subst (λ f. MatchOption f ⊥ (IsAskedBy asked)) (sym same) asks))
entered_as words found (Err Memory) same none is = tt

-- words that enter an action without a folder enter no action with one
pub folderless : (found : Option (Text × List Row)) (name : Text) (rows : List Row) (r : AskError)
    → found ≡ Some (name, rows) → first_of (codes "folder") rows ≡ None → IsNoHelp r
    → IsNothing found r
folderless found name rows (Help text) is none no_help = absurd no_help
folderless found name rows (Line text) is none no_help =
    λ asked asks. absent asked (subst (λ f. MatchOption f ⊥ (IsAskedBy asked)) is asks)
  where
    absent : (asked : Asked) → IsAskedBy asked (name, rows) → ⊥
    absent asked asks = absurd (cc)
folderless found name rows Memory is none no_help = tt
