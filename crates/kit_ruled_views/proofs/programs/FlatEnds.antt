-- A block whose last operation, and no other, is a terminator ends well in its flat view too.
use Rattle.std.proofs.Common.{◌≡◌, ◌≢◌, ◌↔◌, ℕ, suc, ◌+◌, Bool, true, false, List, [], ◌∷◌, length, Some}
use Rattle.std.proofs.Common.{slice_get, refl, sym, ap, ◌∙◌, arith}
use Rattle.ir_program.specs.declared.handles.BasicBlock.{BasicBlock}
use Rattle.ir_program.specs.declared.handles.Ptr.{Ptr}
use Rattle.ir_program.specs.declared.handles.Value.{Value}
use Rattle.ir_trees.specs.Names.{Names, Contents}
use Rattle.ir_trees.specs.Trees.{Head, Operations, end, operation}
use Rattle.kit.specs.Context.{KitTree}
use Rattle.kit.specs.Meaning.{KitOperation, KitBlock}
use Rattle.kit_behaviour.specs.Machine.{Arith, Calculated, Compared, Plain, Nonzero, Cases, Op, Const}
use Rattle.kit_behaviour.specs.Machine.{Calc, Emit, Call, Branch, Return}
use Rattle.kit_behaviour.specs.Rules.{is_terminator, EndsWell}
use Rattle.kit_checks.specs.Sites.{Listed, operation_list}
use Rattle.kit_checks.specs.Words as words
use Rattle.kit_views.specs.FlatView.{kind_of, IsOp, AreOps}
use Rattle.kit_views.specs.Reading.{Reading, kit_contents}

goes_on : (f : Arith) → words.is_terminator (kind_of f) ≡ false
goes_on (Calculated a) = refl
goes_on (Compared c) = refl

-- what ends a block in the tree ends it in the flat view
terminators : {N : Names} {S : Contents} (r : Reading S) (names : List N.block) (h : Head N S) (op : Op N.value) →
    IsOp r names h op → words.is_terminator (r.kind h.content) ≡ is_terminator op
terminators r names h (Const v n) is = ap words.is_terminator is.0.kind
terminators r names h (Calc f w v x y) is = ap words.is_terminator is.0.kind ∙ goes_on f
terminators r names h (Emit x) is = ap words.is_terminator is.kind
terminators r names h (Call rs c xs) is = ap words.is_terminator is.0.kind
terminators r names h (Branch Plain xs e es) is = ap words.is_terminator is.0.kind
terminators r names h (Branch Nonzero xs e es) is = ap words.is_terminator is.0.kind
terminators r names h (Branch (Cases ns) xs e es) is = absurd is
terminators r names h (Return xs) is = ap words.is_terminator is.kind

not_true : (b : Bool) → (b ≡ true → ⊥) → b ≡ false
not_true true h = absurd (h refl)
not_true false h = refl

module _ (r : Reading kit_contents) (names : List (Ptr BasicBlock)) where
  -- exactly the last of these operations ends the block
  abbrev pub LastEnds : Listed KitOperation KitBlock Operations → Type 0
  LastEnds os = (k : ℕ) (u : KitTree) → slice_get (operation_list os) k ≡ Some u →
      (words.is_terminator (r.kind u.head.content) ≡ true) ↔ (k + 1 ≡ length (operation_list os))

  pub ends_well : (os : Listed KitOperation KitBlock Operations) (ps : List (Op Value)) → AreOps r names os ps →
      LastEnds os → operation_list os ≢ [] → EndsWell ps
  ends_well end ps are last some = absurd (some refl)
  ends_well (operation h rs more) [] are last some = absurd are
  ends_well (operation h rs end) (p ∷ []) are last some =
      sym (terminators r names h p are.1) ∙ (last 0 (record { head = h; regions = rs }) refl).1 (omega arith)
  ends_well (operation h rs (operation g qs more)) (p ∷ []) are last some = absurd are.2
  ends_well (operation h rs end) (p ∷ q ∷ ps) are last some = absurd are.2
  ends_well (operation h rs (operation g qs more)) (p ∷ q ∷ ps) are last some =
      let u : KitTree = record { head = h; regions = rs } in (
        sym (terminators r names h p are.1)
            ∙ not_true (words.is_terminator (r.kind h.content))
            (λ e. let l = (last 0 u refl).0 e in absurd (omega (arith, l))),
        ends_well (operation g qs more) (q ∷ ps) are.2
            (λ k v at.
            let l = last (suc k) v at in (
              λ e. let x = l.0 e in omega (arith, x),
              λ e. l.1 (omega (arith, e)),
            ))
            (λ e. cc),
      )
