-- What is known of a text when its faults are compared.
use Rattle.std.specs.Prelude.{◌≡◌, ◌⊎◌, ℕ, List, Option, Some, None, Result, Err, OnOk, MatchResult}
use Rattle.ir_tokens.specs.declared.faults.Fault.{Fault}
use Rattle.ir_tokens.specs.declared.tokens.Token.{Token}
use Rattle.ir_tokens.specs.Faults.{IsNamed}
use Rattle.ir_grammar.specs.declared.grammar.Reading.{Reading}
use Rattle.ir_scopes.specs.declared.scopes.Resolution.{Resolution}
use Rattle.ir_scopes.specs.declared.scopes.ScopeFault.{ScopeFault}
use Rattle.ir_scopes.specs.Depth.{IsFirstTooDeep}
use Rattle.ir_scopes.specs.Scopes.{IsResolved, IsScopeFault}
use Rattle.ir_formats.specs.Words.{token_text}
use Rattle.ir_forest.specs.Language.{Language}
use Rattle.ir_forest.specs.ValueFaults.{HasNumberFault, HasNamesFault}
use Rattle.ir_rereading.specs.Texts.{IsReading}
use Rattle.text_frames.specs.declared.assembly.Assembly.{Assembly}
use Rattle.text_frames.specs.declared.opened.AssemblyFault.{AssemblyFault}
use Rattle.text_frames.specs.declared.opened.AssemblyFault.TheVariants.{Text}

-- Reading a text did this, and it is known where the first part begins that is too deep; its values are made, or the first of
-- their faults is known, memory and numbers aside; its names are looked up, or the first of their faults is known.
pub record IsJudged (l : Language) (cs : List ℕ) (ts : List Token) (names : List ℕ) (r : Reading)
    (assembled : Result Assembly AssemblyFault) (resolved : Result Resolution ScopeFault) : Type 0 where
  pub reading : IsReading l cs ts names r.stop r.taken r.events.items
  pub deep : IsFirstTooDeep r.events.items r.deep
  pub first : Option Fault
  pub named : IsNamed (λ f. HasNumberFault l.values (token_text cs ts) r.events.items f
      ⊎ HasNamesFault l.values (token_text cs ts) r.events.items f) first
  pub values_made : OnOk assembled (first ≡ None)
  pub values_refused : (f : Fault) → assembled ≡ Err (Text f) → first ≡ Some f
  pub names_found : MatchResult resolved (IsResolved l.isolated names r.events.items) (IsScopeFault l.isolated names r.events.items)
