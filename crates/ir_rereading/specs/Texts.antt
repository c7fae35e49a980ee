-- Which texts are read, what they say, and how the others are refused.
use Rattle.std.specs.Prelude.{◌≡◌, ◌<◌, ◌≤◌, ℕ, List, [], map, length, take, slice_get, slice_index, Option, Some, None, Bool, ◌⊎◌}
use Rattle.std.specs.Option.{option_map_or}
use Rattle.std.specs.Str.{chars}
use Rattle.ir_names.specs.Tree.{Trees}
use Rattle.ir_print.specs.Formats.{Formats}
use Rattle.ir_print.specs.Pieces.{Values, Entity, an_entity, no_entity}
use Rattle.ir_grammar.specs.declared.grammar.Event.{Event}
use Rattle.ir_grammar.specs.declared.grammar.Grammar.{Grammar}
use Rattle.ir_grammar.specs.declared.grammar.Stop.{Stop}
use Rattle.ir_grammar.specs.declared.grammar.Stop.TheVariants as stops
use Rattle.ir_tokens.specs.declared.tokens.Token.{Token}
use Rattle.ir_tokens.specs.declared.faults.Fault.{Fault}
use Rattle.ir_tokens.specs.declared.faults.FaultKind.{FaultKind}
use Rattle.ir_tokens.specs.declared.faults.FaultKind.TheVariants as kinds
use Rattle.ir_tokens.specs.declared.faults.TextFault.{TextFault}
use Rattle.ir_tokens.specs.declared.faults.TextFault.TheVariants as told
use Rattle.ir_tokens.specs.declared.faults.ScopeCause.TheVariants as causes
use Rattle.ir_scopes.specs.declared.scopes.Resolution.{Resolution}
use Rattle.ir_tokens.specs.Tokens.{ReadsAs, place}
use Rattle.ir_formats.specs.Words.{kind_of, AlikeInNumber, token_text}
use Rattle.ir_formats.specs.Rules.{words_of, IsGrammarOf}
use Rattle.ir_grammar.specs.Reading.{Reads}
use Rattle.ir_tokens.specs.Faults.{IsNamed}
use Rattle.ir_scopes.specs.Depth.{IsTooDeep}
use Rattle.ir_scopes.specs.Scopes.{isolated_at, definitions, HasScopeFault, IsResolved}
use Rattle.ir_forest.specs.Forest.{ActionSpan, IsForestOf}
use Rattle.ir_forest.specs.Meaning.{operations_in, renamed}
use Rattle.ir_forest.specs.ValueFaults.{HasNumberFault, HasNamesFault}
use Rattle.ir_forest.specs.Language.{Language}

-- the language of a dialect: its formats, the kind of operations with each number, whether those of a kind are isolated, and its values
abbrev pub language_of : {K : Type 0} → Formats → (ℕ → Option K) → (K → Bool) → Values → Language
language_of formats kind_at isolated values = record { formats = formats; isolated = isolated_at kind_at isolated; values = values }

-- A text is these tokens, and reading them in the formats' grammar, with at most 64 parts open, does this up to where it stops. Each
-- token has a number, and two names of the text have one number where they are spelled alike.
pub record IsReading (l : Language) (cs : List ℕ) (ts : List Token) (names : List ℕ) (stop : Stop) (n : ℕ) (es : List Event) : Type 0 where
  pub tokens : ReadsAs cs 0 ts
  pub numbered : length ts ≤ length names
  pub alike : AlikeInNumber cs ts names
  pub reads : (g : Grammar) × IsGrammarOf l.formats g × Reads g 0 64 (map (kind_of (map chars (words_of l.formats)) cs) ts) stop n es

-- No text goes on with the token at which reading stopped, which may be the end.
abbrev pub IsSyntaxFault : Stop → ℕ → ℕ → Fault → Type 0
IsSyntaxFault stops.Text n all f = (n < all) × (f ≡ record { kind = kinds.Syntax; met = n; place = n })
IsSyntaxFault stops.Stuck n all f = f ≡ record { kind = kinds.Syntax; met = n; place = n }
IsSyntaxFault stops.Deep n all f = ⊥

-- the faults of a text that was read so far
abbrev pub HasFault : Language → List ℕ → List Token → List ℕ → Stop → ℕ → List Event → Fault → Type 0
HasFault l cs ts names stop n es f =
    IsSyntaxFault stop n (length ts) f
    ⊎ (HasNumberFault l.values (token_text cs ts) es f
    ⊎ (HasNamesFault l.values (token_text cs ts) es f
    ⊎ (IsTooDeep es f
    ⊎ HasScopeFault l.isolated names es f)))

-- the line and column of the token with this number, or behind the last character
abbrev pub place_of : List ℕ → List Token → ℕ → ℕ × ℕ
place_of cs ts k = option_map_or (λ t. place (take t.start cs)) (slice_get ts k) (place cs)

-- a fault as users see it
abbrev pub tell : FaultKind → ℕ × ℕ → TextFault
tell kinds.Syntax at = told.Syntax at.0 at.1
tell kinds.Number at = told.Syntax at.0 at.1
tell kinds.ResultNames at = told.Syntax at.0 at.1
tell kinds.OtherConstant at = told.Syntax at.0 at.1
tell kinds.TooDeep at = told.TooDeep at.0 at.1
tell kinds.MultipleDefinitions at = told.Scope at.0 at.1 causes.MultipleDefinitions
tell kinds.UnresolvedReference at = told.Scope at.0 at.1 causes.UnresolvedReference
tell kinds.TopLevelOpRegionNotIsolatedFromAbove at = told.Scope at.0 at.1 causes.TopLevelOpRegionNotIsolatedFromAbove

-- The text is refused so: this is the first of its faults.
abbrev pub IsTextFault : Language → List ℕ → TextFault → Type 0
IsTextFault l cs fault = (ts : List Token) × (names : List ℕ) × (stop : Stop) × (n : ℕ) × (es : List Event) × (f : Fault)
    × IsReading l cs ts names stop n es × IsNamed (HasFault l cs ts names stop n es) (Some f)
    × (fault ≡ tell f.kind (place_of cs ts f.place))

-- This is told in place of what the text says: how it is refused, or that memory is or a counter is full, which says nothing of it.
abbrev pub IsRefusal : Language → List ℕ → TextFault → Type 0
IsRefusal l cs told.Memory = Unit {0}
IsRefusal l cs told.CounterFull = Unit {0}
IsRefusal l cs (told.Syntax line column) = IsTextFault l cs (told.Syntax line column)
IsRefusal l cs (told.TooDeep line column) = IsTextFault l cs (told.TooDeep line column)
IsRefusal l cs (told.Scope line column cause) = IsTextFault l cs (told.Scope line column cause)

-- The text has no fault and says this tree, in which the number of its definition names a value, and a block.
abbrev pub Says : Language → List ℕ → Entity ℕ → Type 0
Says l cs tree = (ts : List Token) × (names : List ℕ) × (stop : Stop) × (n : ℕ) × (es : List Event) × (forest : Trees ActionSpan) × (t : Entity ℕ) × (r : Resolution)
    × IsReading l cs ts names stop n es × IsNamed (HasFault l cs ts names stop n es) None
    × IsForestOf es forest × (operations_in l.values (token_text cs ts) [] forest ≡ an_entity t no_entity)
    × IsResolved l.isolated names es r × (tree ≡ renamed (slice_index r.definitions) (slice_index r.definitions) t)

-- so many definitions of values stand in what is read of the text
abbrev pub HasDefinitions : Language → List ℕ → ℕ → Type 0
HasDefinitions l cs n = (ts : List Token) × (names : List ℕ) × (stop : Stop) × (m : ℕ) × (es : List Event)
    × IsReading l cs ts names stop m es × (n ≡ length (definitions l.isolated es))
