-- What each action keeps of what has been made.
use Rattle.std.proofs.Common.{◌≡◌, inl, inr, ℕ, List, Some, Result, Ok, Err, OnOk, sym, subst, append-nil}
use Rattle.std.proofs.lemmas.Result.{on_ok_weaker}
use Rattle.ir_print.specs.Pieces.{Values}
use Rattle.ir_print.specs.Shown.{Saying}
use Rattle.text_dialect.specs.Seen.{Seen}
use Rattle.text_assembling.specs.declared.assembling.Assembler.{Assembler}
use Rattle.ir_grammar.specs.declared.grammar.Action.{Action}
use Rattle.ir_grammar.specs.declared.grammar.Action.TheVariants as act
use Rattle.text_frames.specs.declared.opened.AssemblyFault.{AssemblyFault}
use Rattle.ir_forest.specs.Building.{Built, after, with_end}
use Rattle.ir_grammar.specs.Nesting.{Position, move}
use Rattle.ir_formats.specs.Ordered.{Standing, moved_by, moved_out}
use Rattle.text_frames.specs.Raised.{MayEnd, names_after}
use Rattle.text_assembling.specs.Assembling.{HasMade, Stage}
use Rattle.text_frames.specs.Worlds.{NameTokens}
use Rattle.text_frames.proofs.Moving.{operation_out, region_out, block_out, type_out, attribute_out, operands_out, edge_out, item_out, list_out, choice_out}
use Rattle.text_assembling.proofs.RaisingBlocks.{may_end}
use Rattle.text_assembling.proofs.RaisingLeaves.{none_more}
use Rattle.ir_print.specs.declared.format.ValueSort.TheVariants as sorts
use Rattle.text_assembling.proofs.Stepping.{IsAnEnd}

pub ok_both : {E : Type 0} (P Q : Type 0) (r : Result (Unit {0}) E) → OnOk r P → OnOk r Q → OnOk r (P × Q)
ok_both P Q (Ok x) p q = (p, q)
ok_both P Q (Err e) p q = tt

-- what ends moves out of what it is in
module _ (around : List Position) (next : Standing) (p : Position) where
  pub ends_out : (x : Action) → IsAnEnd x → moved_by (move p x) around ≡ Some next → moved_out around ≡ Some next
  ends_out x (inl e) m = (operation_out around next p (subst (λ (z : Action). moved_by (move p z) around ≡ Some next) e m)).0
  ends_out x (inr (inl e)) m = (region_out around next p (subst (λ (z : Action). moved_by (move p z) around ≡ Some next) e m)).0
  ends_out x (inr (inr (inl e))) m = (block_out around next p (subst (λ (z : Action). moved_by (move p z) around ≡ Some next) e m)).0
  ends_out x (inr (inr (inr (inl (sorts.«Type», e))))) m = (type_out around next p (subst (λ (z : Action). moved_by (move p z) around ≡ Some next) e m)).0
  ends_out x (inr (inr (inr (inl (sorts.Attribute, e))))) m = (attribute_out around next p (subst (λ (z : Action). moved_by (move p z) around ≡ Some next) e m)).0
  ends_out x (inr (inr (inr (inr (inl e))))) m = (operands_out around next p (subst (λ (z : Action). moved_by (move p z) around ≡ Some next) e m)).0
  ends_out x (inr (inr (inr (inr (inr (inl e)))))) m = (item_out around next p (subst (λ (z : Action). moved_by (move p z) around ≡ Some next) e m)).0
  ends_out x (inr (inr (inr (inr (inr (inr (inl e))))))) m = (list_out around next p (subst (λ (z : Action). moved_by (move p z) around ≡ Some next) e m)).0
  ends_out x (inr (inr (inr (inr (inr (inr (inr (inl e)))))))) m = (edge_out around next p (subst (λ (z : Action). moved_by (move p z) around ≡ Some next) e m)).0
  ends_out x (inr (inr (inr (inr (inr (inr (inr (inr e)))))))) m = (choice_out around next p (subst (λ (z : Action). moved_by (move p z) around ≡ Some next) e m)).0

module _ {D K A T : Type 0} (says : Saying K A T) (values : Values) (text : ℕ → List ℕ) (start : Seen K A T) (counter : ℕ) (t : Stage K A T) (c : Assembler D K A T) (b : Built) (next : Standing) (k : ℕ) (names : NameTokens) (r : Result (Unit {0}) AssemblyFault) where
  -- what is made after an action at a token
  abbrev pub MadeAfter : Action → Type 0
  MadeAfter x = HasMade says values text start counter t c (after b x k) next (names_after names x k)

  pub made_by : (x y : Action) → x ≡ y → OnOk r (MadeAfter y) → OnOk r (MadeAfter x)
  made_by x y e h = subst (λ (z : Action). OnOk r (MadeAfter z)) (sym e) h

  -- an end names nothing
  pub end_made : (at : Standing) (x : Action) → IsAnEnd x → moved_by (move at.here x) at.around ≡ Some next
      → (moved_out at.around ≡ Some next → MayEnd at.here → OnOk r (HasMade says values text start counter t c (with_end b.here b.around k) next names)) → OnOk r (MadeAfter x)
  end_made at x is moved h = by x is (on_ok_weaker r (λ (y : HasMade says values text start counter t c (with_end b.here b.around k) next names). rw (append-nil names.definitions, append-nil names.mentions, append-nil names.labels, append-nil names.edges) y)
      (h (ends_out at.around next at.here x is moved) (may_end at.around next at.here x is moved)))
    where
      by : (x : Action) → IsAnEnd x → OnOk r (HasMade says values text start counter t c (with_end b.here b.around k) next (none_more names)) → OnOk r (MadeAfter x)
      by x (inl e) y = made_by x act.EndOperation e y
      by x (inr (inl e)) y = made_by x act.EndRegion e y
      by x (inr (inr (inl e))) y = made_by x act.EndBlock e y
      by x (inr (inr (inr (inl (sorts.«Type», e))))) y = made_by x (act.End sorts.«Type») e y
      by x (inr (inr (inr (inl (sorts.Attribute, e))))) y = made_by x (act.End sorts.Attribute) e y
      by x (inr (inr (inr (inr (inl e))))) y = made_by x act.EndOperands e y
      by x (inr (inr (inr (inr (inr (inl e)))))) y = made_by x act.EndItem e y
      by x (inr (inr (inr (inr (inr (inr (inl e))))))) y = made_by x act.EndList e y
      by x (inr (inr (inr (inr (inr (inr (inr (inl e)))))))) y = made_by x act.EndSuccessor e y
      by x (inr (inr (inr (inr (inr (inr (inr (inr e)))))))) y = made_by x act.EndChoice e y
