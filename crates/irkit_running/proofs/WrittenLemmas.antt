-- What is printed of a module is written as the module.
use Rattle.std.proofs.Common.{ℕ, List, Result, Ok, Err, sym, subst}
use Rattle.std.specs.Prelude.{IfOk}
use Rattle.ir_program.specs.declared.handles.Operation.{Operation}
use Rattle.ir_program.specs.declared.handles.Ptr.{Ptr}
use Rattle.ir_rereading.specs.Texts.{Says}
use Rattle.kit.specs.Context.{KitContext}
use Rattle.kit_language.specs.Language.{kit_language}
use Rattle.kit_ruled_views.specs.Functions.{KeepsRules}
use Rattle.kit_text_programs.specs.RuleLaws.{TextsHaveOneVerdict}
use Rattle.text_printing.specs.Again.{IsReadAgain, IsTextOfModule}
use Rattle.irkit_refusals.proofs.VerdictLemmas.{rules_carry}
use Rattle.irkit_running.specs.Known.{HasOwnText}
use Rattle.irkit_running.specs.Lists.{IsWrittenAs}

-- what follows of two facts of an answer that is given holds of it
pub both_ok : {X E : Type 0} {P Q R : X → Type 0} (r : Result X E) → IfOk r P → IfOk r Q → ((x : X) → P x → Q x → R x) → IfOk r R
both_ok (Ok x) p q f = f x p q
both_ok (Err e) p q f = tt

-- a text of its tree that is read again is accepted again
pub written : TextsHaveOneVerdict → (s : KitContext) (root : Ptr Operation) (own : HasOwnText s root) (text : List ℕ)
    → KeepsRules s root → IsTextOfModule kit_language own.tree text → IsReadAgain kit_language own.tree text
    → IsWrittenAs s root text
written law s root own text rules laid read = record {
  tree = own.tree;
  holds = own.holds;
  closed = own.closed;
  numbered = own.numbered;
  laid_out = laid;
  again = read.again;
  accepted = record {
    says_it = (read.utf8, read.says);
    rules = λ z there held. rules_carry law own.tree read.again (sym read.same) s z root there own.holds held rules;
  };
  same = read.same;
}
