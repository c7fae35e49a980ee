-- What is found out of a block is what its flaws say.
use Rattle.std.proofs.Common.{◌≡◌, ◌↔◌, IsTrue, Bool, true, false, not, Option, Some, refl, sym, ◌∙◌, subst}
use Rattle.ir_names.specs.declared.interfaces.OpInterface.{OpInterface}
use Rattle.ir_names.specs.declared.interfaces.OpInterface.TheVariants.{IsTerminator, NoTerminator}
use Rattle.ir_program.specs.Lists.{operations_in}
use Rattle.ir_program.specs.declared.handles.Ptr.{Ptr}
use Rattle.ir_program.specs.declared.handles.Operation.{Operation}
use Rattle.ir_program.specs.declared.handles.BasicBlock.{BasicBlock}
use Rattle.ir_context.specs.Holders.{HasOperation}
use Rattle.ir_core.specs.verification.Dialect.{DialectProgram}
use Rattle.ir_core.specs.verification.Endings.{implements, NeedsTerminator, HasEarlyTerminator}
use Rattle.ir_core.proofs.VerificationLemmas.Early.{IsEarly}

false_of : (b : Bool) → not b ≡ true → b ≡ false
false_of true h = cc
false_of false h = refl

true_of : (b : Bool) → b ≡ false → not b ≡ true
true_of true h = cc
true_of false h = refl

module _ {D TypeKind AttrKind TypeBody Saved Location OpKind Attr TypeKey : Type 0} (has : OpKind → OpInterface → Bool) (c : DialectProgram D TypeKind AttrKind TypeBody Saved Location OpKind Attr TypeKey) (block : Ptr BasicBlock) where
  pub from-early : IsEarly (implements has c IsTerminator) (operations_in c block) → HasEarlyTerminator has c block
  from-early e = record { op = e.item; index = e.index; here = e.here; early = e.early; terminator = e.passes }

  pub to-early : HasEarlyTerminator has c block → IsEarly (implements has c IsTerminator) (operations_in c block)
  to-early e = record { item = e.op; index = e.index; here = e.here; early = e.early; passes = e.terminator }

  -- an operation holds the block, and its kind decides
  pub needs-held : (found : Ptr Operation) (o : Option (Ptr Operation)) (r : Bool) → o ≡ Some found → r ≡ implements has c NoTerminator found → HasOperation c block found → ((op : Ptr Operation) → HasOperation c block op → o ≡ Some op) → IsTrue (not r) ↔ NeedsTerminator has c block
  needs-held found o r is r_is here only = (
    (λ t op h. let s : Some found ≡ Some op = sym is ∙ only op h in let q : found ≡ op = cc in subst (λ p. implements has c NoTerminator p ≡ false) q (sym r_is ∙ false_of r t)),
    λ n. true_of r (r_is ∙ n found here),
  )
