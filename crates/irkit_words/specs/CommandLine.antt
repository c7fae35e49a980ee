-- The command line, as a parse reads it.
use Rattle.std.specs.Prelude.{Some, codes, true}
use Rattle.clap.specs.Words.{App, Rule, new_app, new_rule, with_rule, with_subcommand}
use Rattle.clap.specs.declared.builder.ArgAction.TheVariants.{Append}
use Rattle.clap.specs.declared.builder.value_parser.ValueParser.{ValueParser}
use Rattle.clap.specs.declared.builder.value_parser.ValueParser.TheVariants.{Unsigned}

-- [PASS]...: any number of words
abbrev pub passes_rule : Rule
passes_rule = record (new_rule (codes "passes")) { action = Some Append; value_names = 1 }

-- the subcommand `check`
abbrev pub check_app : App
check_app = new_app (codes "check")

-- the subcommand `opt [PASS]...`
unfoldable pub optimise_app : App
optimise_app = with_rule (new_app (codes "opt")) passes_rule

-- a number below 2^64
abbrev pub number : ValueParser
number = Unsigned 0 18446744073709551615

-- --limit N, a number, which is required
abbrev pub limit_rule : Rule
limit_rule = record (new_rule (codes "limit")) {
  long = Some (codes "limit");
  value_names = 1;
  required = true;
  parser = Some number;
}

-- PATH, which is required
abbrev pub path_rule : Rule
path_rule = record (new_rule (codes "path")) { value_names = 1; required = true }

-- [ARG]...: any number of numbers
abbrev pub arguments_rule : Rule
arguments_rule = record (new_rule (codes "arguments")) { action = Some Append; value_names = 1; parser = Some number }

-- the subcommand `run --limit N PATH [ARG]...`
unfoldable pub run_app : App
run_app = with_rule (with_rule (with_rule (new_app (codes "run")) limit_rule) path_rule) arguments_rule

-- the program without its subcommands, of which one is required; it has a version
abbrev pub program : App
program =
    let a = new_app (codes "irkit") in
    record a { top = record a.top { subcommand_required = true; has_version = true } }

-- the command line of the program
unfoldable pub irkit : App
irkit = with_subcommand (with_subcommand (with_subcommand program check_app.top) optimise_app.top) run_app.top
