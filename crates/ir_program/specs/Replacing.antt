-- What stands in a row once values or blocks in it were replaced.
use Rattle.std.specs.Prelude.{◌≡◌, ◌≢◌, ℕ, suc, Bool, false, cond, eqb, ◌&&◌, List, [], ◌∷◌}
use Rattle.std.specs.Fn.{FnReturns}
use denote.Param.Members.{Shared}
use denote.Ref.{Bor}
use Rattle.ir_arena.specs.Arena.{same}
use Rattle.ir_program.specs.Uses.{IsUseIn}
use Rattle.ir_program.specs.declared.handles.Ptr.{Ptr}
use Rattle.ir_program.specs.declared.handles.Operation.{Operation}
use Rattle.ir_program.specs.declared.handles.BasicBlock.{BasicBlock}
use Rattle.ir_program.specs.declared.handles.Value.{Value}
use Rattle.ir_program.specs.declared.handles.Use.{Use}
use Rattle.ir_program.specs.declared.handles.DefiningEntity.{DefiningEntity}
use Rattle.ir_program.specs.declared.handles.DefiningEntity.TheVariants.{Op as ByOp, Block as ByBlock}

-- both are the same entity
abbrev pub same_definer : DefiningEntity → DefiningEntity → Bool
same_definer (ByOp p) (ByOp q) = same p.key q.key
same_definer (ByOp p) (ByBlock q) = false
same_definer (ByBlock p) (ByOp q) = false
same_definer (ByBlock p) (ByBlock q) = same p.key q.key

-- both are the same value
abbrev pub same_value : Value → Value → Bool
same_value v w = same_definer v.definer w.definer && eqb v.number w.number

-- both are the same block
abbrev pub same_block : Ptr BasicBlock → Ptr BasicBlock → Bool
same_block p q = same p.key q.key

-- `other` in place of `value`, and each other value as it is
abbrev pub replacing : Value → Value → Value → Value
replacing value other v = cond (same_value v value) other v

-- `other` in place of `block`, and each other block as it is
abbrev pub retargeting : Ptr BasicBlock → Ptr BasicBlock → Ptr BasicBlock → Ptr BasicBlock
retargeting block other b = cond (same_block b block) other b

module _ {K : Type 0} where
  -- the row of operation p, from index k on: `other` in place of what is used at a chosen use, and the rest as it is
  abbrev pub with_chosen : (Use K → Bool) → K → Ptr Operation → ℕ → List K → List K
  with_chosen chosen other p k [] = []
  with_chosen chosen other p k (x ∷ xs) = cond (chosen (record { user_op = p; index = k; def = x })) other x ∷ with_chosen chosen other p (suc k) xs

  -- of the uses in the rows, those of x are chosen as the answers to them say, and no others are
  pub record Chooses (rows : Ptr Operation → List K) (answers : Use K → Bool → Type 0) (x : K) (chosen : Use K → Bool) : Type 0 where
    pub answered : (u : Use K) → IsUseIn rows u → u.def ≡ x → answers u (chosen u)
    pub others : (u : Use K) → IsUseIn rows u → u.def ≢ x → chosen u ≡ false

-- asked about use u in program c, the predicate f may answer b
pub record MayAnswerOfUse {F P U : Type 0} (g : Shared F (Bor P × (Bor U × Unit {0})) Bool) (f : F) (c : P) (u : U) (b : Bool) : Type 0 where
  pub program : Bor P
  pub asked : Bor U
  pub shows : (program.now ≡ c) × (asked.now ≡ u)
  pub says : FnReturns g f (program, (asked, tt)) b
