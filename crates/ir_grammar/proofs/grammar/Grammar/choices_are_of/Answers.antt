use Rattle.std.proofs.Common.{◌≡◌, ℕ, Some, None, get_or, sym, ◌∙◌, below_more}
use Rattle.ir_grammar.specs.declared.grammar.Grammar.{Grammar}
use Rattle.ir_grammar.specs.Table.{IsChoice}
use Rattle.ir_grammar.proofs.Checks.{choice_past}
use Rattle.ir_grammar.proofs.grammar.Grammar.choices_are_of.Goals as goal
use Rattle.ir_grammar.proofs.grammar.Grammar.choices_are_of.Goals.{in-Some+else-not-is_choice, in_default}

here : (g : Grammar) (n k a b : ℕ) → Some a ≡ Some b → IsChoice g n k a → IsChoice g n k b
here g n k a b e h = let same : a ≡ b = cc in rw same at h

pub loop-column-preserved : goal.loop-column-preserved
loop-column-preserved c n p lt e =
    below_more (λ k. (p : ℕ) → get_or c.args.choices.now k None ≡ Some p → IsChoice c.args.self.now c.args.part k p) c.loop-column.column
    (λ k l p e. c.loop-column.invariant k p l e)
    (λ p e. elim c.match-choices-column.branch [
      | in-Some+else-not-is_choice w ↦ here c.args.self.now c.args.part c.loop-column.column _ p (sym w.in-Some.is ∙ e) (w.is_choice.ensures w.if-not-is_choice.false)
      | in_default w ↦ absurd (w.in_default.not-Some p e)
    ])
    n lt p e

pub returns : goal.returns
returns c _ = choice_past _ _ c.loop-column-test.false c.loop-column.invariant
