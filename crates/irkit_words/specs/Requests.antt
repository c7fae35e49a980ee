-- What a parse that succeeds asks for.
use Rattle.std.specs.Prelude.{◌≡◌, ◌<◌, ◌^◌, ℕ, List, [], ◌∷◌, map, Option, Some, None, Result, Ok, Err, codes, string_bytes, unwrap_or}
use Rattle.std.specs.Str.Parse.{IsNumeral, digits_value, without_leading_plus}
use Rattle.clap.specs.Words.{Row, Text, all_of, first_of}
use Rattle.kit_ops.specs.declared.pass.KitPass.{KitPass}
use Rattle.kit_ops.specs.declared.pass.KitPass.TheVariants.{Sccp, Dce, SimplifyCfg}
use Rattle.irkit_words.specs.declared.request.Execution.{Execution}
use Rattle.irkit_words.specs.declared.request.Request.{Request}
use Rattle.irkit_words.specs.declared.request.Request.TheVariants.{Check, Optimise, Run}
use Rattle.irkit_words.specs.declared.request.RequestFault.{RequestFault}
use Rattle.irkit_words.specs.declared.request.RequestFault.TheVariants.{Memory, NoCommand, UnknownPass, NoNumber}

-- the word for a pass
abbrev pub pass_name : KitPass → Text
pass_name Sccp = codes "sccp"
pass_name Dce = codes "dce"
pass_name SimplifyCfg = codes "simplify-cfg"

-- The word is this number, below 2^64, in decimal digits, before which a `+` may stand.
abbrev pub SaysNumber : Text → ℕ → Type 0
SaysNumber word n = IsNumeral 10 (without_leading_plus word) × (digits_value 10 (without_leading_plus word) ≡ n) × (n < 2 ^ 64)

-- each word is the number at its place
abbrev pub SayNumbers : List Text → List ℕ → Type 0
SayNumbers [] [] = Unit {0}
SayNumbers [] (n ∷ ns) = ⊥
SayNumbers (w ∷ ws) [] = ⊥
SayNumbers (w ∷ ws) (n ∷ ns) = SaysNumber w n × SayNumbers ws ns

-- the words for an argument that may have several
abbrev pub words_at : Text → List Row → List Text
words_at id rows = unwrap_or (all_of id rows) []

-- What is found at `run` asks for this: the limit and the arguments are numbers, and the path is the word as it stands.
pub record AsksToRun (rows : List Row) (execution : Execution) : Type 0 where
  pub limit_word : Text
  pub has_limit : first_of (codes "limit") rows ≡ Some limit_word
  pub limit : SaysNumber limit_word execution.limit
  pub path : first_of (codes "path") rows ≡ Some (string_bytes execution.path)
  pub arguments : SayNumbers (words_at (codes "arguments") rows) execution.arguments.items

-- The subcommand of this name, with the values found there, asks for this: `opt` for the passes of its words in their order.
abbrev pub AsksAt : Text → List Row → Request → Type 0
AsksAt name rows Check = name ≡ codes "check"
AsksAt name rows (Optimise passes) = (name ≡ codes "opt") × (map pass_name passes.items ≡ words_at (codes "passes") rows)
AsksAt name rows (Run execution) = (name ≡ codes "run") × AsksToRun rows execution

-- The subcommand of a parse, with what it found there, asks for this.
abbrev pub Asks : Option (Text × List Row) → Request → Type 0
Asks None request = ⊥
Asks (Some p) request = AsksAt p.0 p.1 request

-- there is no request that the parse asks for
abbrev pub AsksNothing : Option (Text × List Row) → Type 0
AsksNothing found = (request : Request) → Asks found request → ⊥

-- The parse asks for this, or there is nothing that it asks for, or memory was refused.
abbrev pub AsksFor : Option (Text × List Row) → Result Request RequestFault → Type 0
AsksFor found (Ok request) = Asks found request
AsksFor found (Err Memory) = Unit {0}
AsksFor found (Err NoCommand) = AsksNothing found
AsksFor found (Err (UnknownPass unknown)) = AsksNothing found
AsksFor found (Err NoNumber) = AsksNothing found
