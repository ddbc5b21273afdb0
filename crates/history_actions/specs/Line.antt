-- The program's command line, as `clap` reads it: `wunthavel-history create|run|check|recover
-- <folder> [--sha256]`.
use Rattle.std.specs.Prelude.{◌≡◌, ◌⊎◌, ⊤, true, false, List, [], Option, Some, Result, MatchOption, MatchResult, bytes_eq, codes, string_bytes, if◌then◌else◌, option_map, unwrap_or}
use Rattle.clap.specs.Words.{App, IsAmong, Kinds, Rule, Row, Text, fault_of, first_of, new_app, new_rule, subcommand_of, with_rule, with_subcommand}
use Rattle.clap.specs.Simple.{on_top}
use Rattle.clap.specs.declared.error.ErrorKind.{ErrorKind}
use Rattle.clap.specs.declared.error.ErrorKind.TheVariants.{DisplayHelp, DisplayVersion}
use Rattle.clap.specs.declared.builder.ArgAction.TheVariants.{Set, SetTrue}
use Rattle.gix_hash.specs.declared.kind.Kind.{Kind}
use Rattle.gix_hash.specs.declared.kind.Kind.TheVariants.{Sha1, Sha256}
use Rattle.history_actions.specs.declared.command_line.asked.Action.{Action}
use Rattle.history_actions.specs.declared.command_line.asked.Action.TheVariants.{Create, Run, Check, Recover}
use Rattle.history_actions.specs.declared.command_line.asked.AskError.{AskError}
use Rattle.history_actions.specs.declared.command_line.asked.AskError.TheVariants.{Help, Line, Memory}
use Rattle.history_actions.specs.declared.command_line.asked.Asked.{Asked}

abbrev pub folder_rule : Rule
folder_rule = record (new_rule (codes "folder")) { required = true; action = Some Set }

abbrev pub sha256_rule : Rule
sha256_rule =
    record (new_rule (codes "sha256")) { long = Some (codes "sha256"); action = Some SetTrue }

-- an action's name, after which come a folder and perhaps the flag
abbrev pub action : Text → App
action name = with_rule (with_rule (new_app name) folder_rule) sha256_rule

abbrev pub line : App
line =
    let top = on_top (λ top. record top { subcommand_required = true; has_version = true })
    (new_app (codes "wunthavel-history")) in
    with_subcommand
    (with_subcommand
    (with_subcommand (with_subcommand top (action (codes "create")).top)
    (action (codes "run")).top) (action (codes "check")).top)
    (action (codes "recover")).top

abbrev pub action_name : Action → Text
action_name Create = codes "create"
action_name Run = codes "run"
action_name Check = codes "check"
action_name Recover = codes "recover"

-- the kind of digest that the flag chooses: `clap` reads one that is given as `true`
abbrev pub kind_by : Option Text → Kind
kind_by flag = if unwrap_or (option_map (bytes_eq (codes "true")) flag) false then Sha256 else Sha1

-- The words mean the action that they enter by `clap`'s rules, with its folder and its flag.
pub record IsAskedBy (asked : Asked) (found : Text × List Row) : Type 0 where
  pub action : found.0 ≡ action_name asked.action
  pub folder : first_of (codes "folder") found.1 ≡ Some (string_bytes asked.folder)
  pub kind : asked.kind ≡ kind_by (first_of (codes "sha256") found.1)

abbrev pub IsAsked : List Text → Asked → Type 0
IsAsked words asked = MatchOption (subcommand_of line words) ⊥ (IsAskedBy asked)

-- ---- words without an action

-- the kinds of errors that `clap` finds in the words, none if it accepts them; the first word is
-- the program's name
abbrev pub faults_of : List Text → Kinds
faults_of words = fault_of line words

-- help or the version is wanted
abbrev pub IsRequest : ErrorKind → Type 0
IsRequest kind = (kind ≡ DisplayHelp) ⊎ (kind ≡ DisplayVersion)

abbrev pub HasRequest : Kinds → Type 0
HasRequest kinds = (kind : ErrorKind) × IsRequest kind × IsAmong kind kinds

-- there is an error that is no request
abbrev pub HasMistake : Kinds → Type 0
HasMistake kinds = (kind : ErrorKind) × (¬ IsRequest kind) × IsAmong kind kinds

-- the words enter no action with a folder
abbrev pub IsUnasked : List Text → Type 0
IsUnasked words = (asked : Asked) → IsAsked words asked → ⊥

-- why the words have no action
abbrev pub IsRefusedFor : List Text → AskError → Type 0
IsRefusedFor words (Help text) = HasRequest (faults_of words)
IsRefusedFor words (Line text) = HasMistake (faults_of words) ⊎ IsUnasked words
IsRefusedFor words Memory = ⊤

-- words without errors mean what they enter, and others are refused
abbrev pub Reads : List Text → Result Asked AskError → Type 0
Reads words read = MatchResult read (λ asked. (faults_of words ≡ []) × IsAsked words asked)
    (IsRefusedFor words)
