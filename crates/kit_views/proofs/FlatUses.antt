-- Uses in a flat function, operation by operation, and the operands of an operation in the tree and in the flat function.
use Rattle.std.proofs.Common.{◌≡◌, ⊎_elim, inl, inr, ℕ, zero, suc, List, [], ◌∷◌, Some, refl, sym, subst}
use Rattle.std.specs.Prelude.{slice_get}
use Rattle.ir_trees.specs.Names.{Names, Contents}
use Rattle.ir_trees.specs.Trees.{Head}
use Rattle.opt_trees.specs.Occurrences.{Has}
use Rattle.opt_trees.proofs.Lists.{some_same, none_some}
use Rattle.opt_trees.proofs.NoneDead.{has-append, has-left, has-right}
use Rattle.kit_behaviour.specs.Machine.{Op, Const, Calc, Emit, Call, Branch, Return, Plain, Nonzero, Cases, Block}
use Rattle.kit_behaviour.specs.Rules.{operands, all_operands, blocks_operands}
use Rattle.kit_views.specs.FlatView.{IsOp}
use Rattle.kit_views.specs.Reading.{Reading}

-- an operation of a block uses the value
pub record IsUsedAt {V : Type 0} (v : V) (ks : List (Block V)) : Type 0 where
  pub b : ℕ
  pub k : Block V
  pub at : slice_get ks b ≡ Some k
  pub op : Op V
  pub stands : Has op k.ops
  pub operand : Has v (operands op)

module _ {V : Type 0} (v : V) where
  user_among : (ps : List (Op V)) → Has v (all_operands ps) → (p : Op V) × Has p ps × Has v (operands p)
  user_among [] h = absurd h
  user_among (p ∷ ps) h = ⊎_elim
      (λ i. (p, inl refl, i))
      (λ i. let q = user_among ps i in (q.0, inr q.1, q.2))
      (has-append v (operands p) (all_operands ps) h)

  used_among : (ps : List (Op V)) (p : Op V) → Has p ps → Has v (operands p) → Has v (all_operands ps)
  used_among [] p i h = absurd i
  used_among (q ∷ ps) p i h = ⊎_elim
      (λ e. has-left v (operands q) (all_operands ps) (subst (λ (z : Op V). Has v (operands z)) e h))
      (λ j. has-right v (operands q) (all_operands ps) (used_among ps p j h))
      i

  pub user_of : (ks : List (Block V)) → Has v (blocks_operands ks) → IsUsedAt v ks
  user_of [] h = absurd h
  user_of (k ∷ ks) h = ⊎_elim
      (λ i.
      let q = user_among k.ops i in
      record { b = 0; k = k; at = refl; op = q.0; stands = q.1; operand = q.2 })
      (λ i.
      let q = user_of ks i in
      record { b = suc q.b; k = q.k; at = q.at; op = q.op; stands = q.stands; operand = q.operand })
      (has-append v (all_operands k.ops) (blocks_operands ks) h)

  pub used_of : (ks : List (Block V)) (b : ℕ) (k : Block V) (p : Op V) → slice_get ks b ≡ Some k → Has p k.ops →
      Has v (operands p) → Has v (blocks_operands ks)
  used_of [] b k p e i h = absurd (none_some k e)
  used_of (j ∷ ks) zero k p e i h =
      has-left v (all_operands j.ops) (blocks_operands ks)
      (used_among j.ops p (subst (λ (z : Block V). Has p z.ops) (sym (some_same j k e)) i) h)
  used_of (j ∷ ks) (suc b) k p e i h = has-right v (all_operands j.ops) (blocks_operands ks) (used_of ks b k p e i h)

-- the operands of an operation of the tree are those of its operation of the flat function
pub operands_are : {N : Names} {S : Contents} (r : Reading S) (names : List N.block) (h : Head N S) (p : Op N.value) →
    IsOp r names h p → h.operands ≡ operands p
operands_are r names h (Const v n) is = is.0.operands
operands_are r names h (Calc f w v x y) is = is.0.operands
operands_are r names h (Emit x) is = is.operands
operands_are r names h (Call rs c xs) is = is.0.operands
operands_are r names h (Branch Plain xs e es) is = is.0.operands
operands_are r names h (Branch Nonzero xs e es) is = is.0.operands
operands_are r names h (Branch (Cases ns) xs e es) is = absurd is
operands_are r names h (Return xs) is = is.operands
