-- What is known of a text of which reading did this, once its values and its names were looked at.
use Rattle.std.proofs.Common.{◌≡◌, ℕ, List, Some, None, Result, Err, OnOk, MatchResult, true, refl, subst}
use Rattle.ir_tokens.specs.declared.faults.Fault.{Fault}
use Rattle.ir_tokens.specs.declared.tokens.Token.{Token}
use Rattle.ir_grammar.specs.declared.grammar.Event.{Event}
use Rattle.ir_grammar.specs.declared.grammar.Reading.{Reading}
use Rattle.ir_scopes.specs.declared.scopes.Resolution.{Resolution}
use Rattle.ir_scopes.specs.declared.scopes.ScopeFault.{ScopeFault}
use Rattle.ir_scopes.specs.Depth.{IsFirstTooDeep}
use Rattle.ir_scopes.specs.Scopes.{IsResolved, IsScopeFault}
use Rattle.ir_formats.specs.Ordered.{PartPositions, is_ordered}
use Rattle.ir_formats.specs.Rules.{rules_of}
use Rattle.ir_formats.specs.Words.{token_text}
use Rattle.ir_forest.specs.Building.{first_refusal}
use Rattle.ir_forest.specs.Language.{Language}
use Rattle.ir_rereading.specs.Texts.{IsReading}
use Rattle.ir_rereading.proofs.verdicts.TextReadings.{read_in_order, values_named}
use Rattle.text_frames.specs.declared.assembly.Assembly.{Assembly}
use Rattle.text_frames.specs.declared.opened.AssemblyFault.{AssemblyFault}
use Rattle.text_frames.specs.declared.opened.AssemblyFault.TheVariants.{Text}
use Rattle.text_reading.specs.Judged.{IsJudged}

-- a reading, with what the values and the names of the text were found to be
pub judged_so : (l : Language) (leads : PartPositions) → is_ordered leads (rules_of l.formats) ≡ true
    → (cs : List ℕ) (ts : List Token) (names : List ℕ) (r : Reading) (xs ys : List Event)
    → (assembled : Result Assembly AssemblyFault) (resolved : Result Resolution ScopeFault)
    → (text : ℕ → List ℕ) → text ≡ token_text cs ts → xs ≡ r.events.items → ys ≡ r.events.items
    → IsReading l cs ts names r.stop r.taken r.events.items → IsFirstTooDeep r.events.items r.deep
    → OnOk assembled (first_refusal l.values text xs ≡ None)
    → ((f : Fault) → assembled ≡ Err (Text f) → first_refusal l.values text xs ≡ Some f)
    → MatchResult resolved (IsResolved l.isolated names ys) (IsScopeFault l.isolated names ys)
    → IsJudged l cs ts names r assembled resolved
judged_so l leads ordered cs ts names r xs ys assembled resolved written same e f reading deep sound refused found =
    let text = token_text cs ts in
    let order = read_in_order l leads ordered cs ts names r.taken r.events.items r.stop reading in
    record {
      reading = reading;
      deep = deep;
      first = first_refusal l.values text r.events.items;
      named = values_named l.values text r.events.items r.events.items (first_refusal l.values text r.events.items) refl order (λ nests follows. refl);
      values_made = subst (λ z. OnOk assembled (first_refusal l.values text z ≡ None)) e
          (subst (λ z. OnOk assembled (first_refusal l.values z xs ≡ None)) same sound);
      values_refused = λ fault is. subst (λ z. first_refusal l.values text z ≡ Some fault) e
          (subst (λ z. first_refusal l.values z xs ≡ Some fault) same (refused fault is));
      names_found = subst (λ z. MatchResult resolved (IsResolved l.isolated names z) (IsScopeFault l.isolated names z)) f found;
    }
