-- What the words of the command line come to.
use Rattle.std.specs.Prelude.{◌≡◌, ◌≢◌, ◌⊎◌, ℕ, List, [], ◌∷◌, ◌++◌, Option, codes, string_bytes, true}
use Rattle.clap.specs.Words.{IsAmong, Row, Text, fault_of, subcommand_of, takes}
use Rattle.clap.specs.declared.error.kind.ErrorKind.{ErrorKind}
use Rattle.clap.specs.declared.error.kind.ErrorKind.TheVariants.{OutOfMemory, DisplayHelp, DisplayVersion}
use Rattle.irkit_words.specs.CommandLine.{irkit}
use Rattle.irkit_words.specs.Lines.{IsFaultLine}
use Rattle.irkit_words.specs.Requests.{Asks, AsksNothing}
use Rattle.irkit_words.specs.declared.parsing.Parsed.{Parsed}
use Rattle.irkit_words.specs.declared.parsing.Parsed.TheVariants.{Asked, Mistaken, HelpWanted, VersionWanted, NoMemory}

-- what is written where the version is asked for
abbrev pub version_line : List ℕ
version_line = codes "irkit 0.1.0" ++ 10 ∷ []

-- the error is a mistake: neither of memory nor a request for help or the version
abbrev pub IsMistaken : ErrorKind → Type 0
IsMistaken kind = (kind ≢ OutOfMemory) × (kind ≢ DisplayHelp) × (kind ≢ DisplayVersion)

module _ (words : List Text) where
  -- A fault of the words has this kind, and the grammar doesn't take them.
  abbrev pub HasFault : ErrorKind → Type 0
  HasFault kind = IsAmong kind (fault_of irkit words) × (takes irkit words ≢ true)

  -- The words have a mistake by the grammar, or have none and ask for nothing that there is, as an unknown pass.
  abbrev pub HaveMistake : Type 0
  HaveMistake =
      ((kind : ErrorKind) × HasFault kind × IsMistaken kind)
      ⊎ ((fault_of irkit words ≡ []) × AsksNothing (subcommand_of irkit words))

  -- The words come to this. Of refused memory nothing more can be said.
  abbrev pub ParseAs : Parsed → Type 0
  ParseAs (Asked request) = (fault_of irkit words ≡ []) × Asks (subcommand_of irkit words) request
  ParseAs (Mistaken line) = HaveMistake × IsFaultLine (string_bytes line)
  ParseAs (HelpWanted text) = HasFault DisplayHelp
  ParseAs (VersionWanted text) = HasFault DisplayVersion × (string_bytes text ≡ version_line)
  ParseAs NoMemory = Unit {0}

-- What a parse that found this comes to.
abbrev pub FoundAs : Option (Text × List Row) → Parsed → Type 0
FoundAs found (Asked request) = Asks found request
FoundAs found (Mistaken line) = AsksNothing found × IsFaultLine (string_bytes line)
FoundAs found (HelpWanted text) = ⊥
FoundAs found (VersionWanted text) = ⊥
FoundAs found NoMemory = Unit {0}

-- What a parse comes to that was refused by an error of this kind.
abbrev pub RefusedAs : ErrorKind → Parsed → Type 0
RefusedAs kind (Asked request) = ⊥
RefusedAs kind (Mistaken line) = IsMistaken kind × IsFaultLine (string_bytes line)
RefusedAs kind (HelpWanted text) = kind ≡ DisplayHelp
RefusedAs kind (VersionWanted text) = (kind ≡ DisplayVersion) × (string_bytes text ≡ version_line)
RefusedAs kind NoMemory = Unit {0}

-- A mistake that is told, or memory was refused.
abbrev pub TellsMistake : Parsed → Type 0
TellsMistake (Asked request) = ⊥
TellsMistake (Mistaken line) = IsFaultLine (string_bytes line)
TellsMistake (HelpWanted text) = ⊥
TellsMistake (VersionWanted text) = ⊥
TellsMistake NoMemory = Unit {0}
