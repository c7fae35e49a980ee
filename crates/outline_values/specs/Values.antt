-- What an attribute of a section says.
use Rattle.std.specs.Prelude.{◌≡◌, ◌≢◌, ℕ, List, codes}
use Rattle.text_streams.specs.declared.position.Position.{Position}
use Rattle.text_streams.specs.declared.stream.StateStream.{StateStream}
use Rattle.text_streams.specs.Streams.{Reads}
use Rattle.stream_tokens.specs.declared.lexemes.Lexeme.{Lexeme}
use Rattle.stream_tokens.specs.Lexemes.{IsLexeme}
use Rattle.outline_values.specs.declared.values.OutlinedValue.{OutlinedValue}
use Rattle.outline_values.specs.declared.values.OutlinedValue.TheVariants.{Names, Note, Origin, Other}
use Rattle.outline_values.specs.Places.{GoesTo}
use Rattle.outline_values.specs.Names.{SaysNames}
use Rattle.outline_values.specs.Texts.{SaysText}

-- the ids of the kinds that items of `kit` have
abbrev pub names_id : List ℕ
names_id = codes "builtin.given_names"

abbrev pub note_id : List ℕ
note_id = codes "kit.note"

abbrev pub origin_id : List ℕ
origin_id = codes "kit.origin"

-- the next token is this id, and this is so behind it
pub record IsUnderId (id : List ℕ) (from : Position) (Holds : Position → Type 0) : Type 0 where
  pub token : Lexeme
  pub next : IsLexeme from token
  pub is_id : token.text.items ≡ id
  pub holds : Holds token.end

-- the next token is none of the ids
pub record IsUnderOther (from to : Position) : Type 0 where
  pub token : Lexeme
  pub next : IsLexeme from token
  pub no_names : token.text.items ≢ names_id
  pub no_note : token.text.items ≢ note_id
  pub no_origin : token.text.items ≢ origin_id
  pub goes : GoesTo from to

-- What stands from one place up to another: the id of the value's kind, and behind it the names, or what a note or an origin says.
abbrev pub SaysValue : Position → OutlinedValue → Position → Type 0
SaysValue from (Names names) to = IsUnderId names_id from (λ behind. SaysNames behind names.items to)
SaysValue from (Note text) to = IsUnderId note_id from (λ behind. SaysText behind text to)
SaysValue from (Origin text) to = IsUnderId origin_id from (λ behind. SaysText behind text to)
SaysValue from Other to = IsUnderOther from to

-- A value was read from a stream, whose state is the same.
pub record ReadsValue {S : Type 0} (old : StateStream S) (value : OutlinedValue) (new : StateStream S) : Type 0 where
  pub taken : List ℕ
  pub reads : Reads old new taken
  pub says : SaysValue old.position value new.position
