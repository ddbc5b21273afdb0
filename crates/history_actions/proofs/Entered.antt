-- The subcommand that words enter, by its name and its rows.
use Rattle.std.proofs.Common.{◌≡◌, List}
use Rattle.std.specs.Prelude.{Option, Some, None, option_map, Box}
use Rattle.std.specs.Box.{box_value}
use Rattle.clap.specs.Words.{Row, Text, subcommand_rows_of}
use Rattle.clap.specs.Matches.{subcommand_name_of}
use Rattle.clap.specs.Simple.{subcommand_rows}
use Rattle.clap.specs.declared.ArgMatches.{ArgMatches}
use Rattle.clap.specs.declared.ArgMatches.TheViews.{out-ArgMatches, out-SubCommand}

pair_of : {A B : Type 0} (o : Option (A × B)) (a : A) (b : B)
    → option_map (λ p. p.0) o ≡ Some a → option_map (λ p. p.1) o ≡ Some b → o ≡ Some (a, b)
pair_of None a b one two = absurd (cc)
pair_of (Some (p, q)) a b one two = cc

pub entered : (m : ArgMatches) (name : Text) (rows : List Row) → subcommand_name_of m ≡ Some name
    → option_map (λ p. p.1) (subcommand_rows (out-ArgMatches m).subcommand) ≡ Some rows
    → subcommand_rows_of m ≡ Some (name, rows)
entered m name rows is_named has_rows =
    pair_of (subcommand_rows_of m) name rows (names (out-ArgMatches m).subcommand is_named) has_rows
  where
    names : {Z : Type 0} (s : Option (Box _ Z))
        → option_map (λ b. (out-SubCommand (box_value b)).name.now) s ≡ Some name
        → option_map (λ p. p.0) (subcommand_rows s) ≡ Some name
    names None same = absurd (cc)
    names (Some b) same = same
