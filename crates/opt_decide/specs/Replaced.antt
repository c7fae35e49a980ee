-- What putting an unconditional branch in place of a decided one makes.
use Rattle.std.specs.Prelude.{◌≡◌, ◌≢◌, ℕ, [], map, length, Some, None, option_map, cond, slice_get}
use Rattle.ir_program.specs.Edits.{KeepsErased}
use Rattle.ir_program.specs.Erased.{IsGone}
use Rattle.ir_program.specs.Made.{BuildsOperation}
use Rattle.ir_program.specs.Program.{Program, OperationView, BlockView, operation_at, block_at, region_at}
use Rattle.ir_program.specs.declared.handles.IRNode.TheVariants.{Operation as OperationNode}
use Rattle.ir_program.specs.declared.handles.Ptr.{Ptr}
use Rattle.ir_program.specs.declared.handles.Operation.{Operation}
use Rattle.ir_program.specs.declared.handles.Region.{Region}
use Rattle.ir_program.specs.declared.handles.BasicBlock.{BasicBlock}
use Rattle.ir_trees.specs.ListRewrites.{same_operation}
use Rattle.ir_trees.specs.Stands.{in_program}
use Rattle.opt_trees.specs.Dialect.{Dialect}
use Rattle.opt_trees.specs.Occurrences.{cons_if, picks}
use Rattle.opt_decide.specs.declared.plan.Decision.{Decision}

-- q in place of p, and each other operation as it is
abbrev pub in_place_of : Ptr Operation → Ptr Operation → Ptr Operation → Ptr Operation
in_place_of p q x = cond (same_operation x p) q x

module _ {O B : Type 0} where
  -- each handle leads to what it led to, and those that lead nowhere for good do so still
  pub record LeadsAlikeForGood (old new : Program O B) : Type 0 where
    pub operations : (p : Ptr Operation) → operation_at new p ≡ operation_at old p
    pub blocks : (b : Ptr BasicBlock) → block_at new b ≡ block_at old b
    pub regions : (r : Ptr Region) → region_at new r ≡ region_at old r
    pub erased : KeepsErased old new

  -- q, an operation that stood in no block, stands in place of p, which is gone; all else is as it was
  pub record SwapsIn (old new : Program O B) (p q : Ptr Operation) : Type 0 where
    pub gone : IsGone new (OperationNode p)
    pub others : (x : Ptr Operation) → x ≢ p → operation_at new x ≡ operation_at old x
    pub blocks : (b : Ptr BasicBlock) → block_at new b ≡ option_map (λ (l : BlockView B). record l { operations = map (in_place_of p q) l.operations }) (block_at old b)
    pub regions : (r : Ptr Region) → region_at new r ≡ region_at old r
    pub erased : KeepsErased old new

  -- the operation p is gone, and q, a handle that was never given out, leads to this operation in p's place; all else is as
  -- it was
  pub record PutsInPlace (old new : Program O B) (p q : Ptr Operation) (v : OperationView O) : Type 0 where
    pub fresh : operation_at old q ≡ None
    pub unspent : IsGone old (OperationNode q) → ⊥
    pub made : operation_at new q ≡ Some v
    pub gone : IsGone new (OperationNode p)
    pub others : (x : Ptr Operation) → x ≢ p → x ≢ q → operation_at new x ≡ operation_at old x
    pub blocks : (b : Ptr BasicBlock) → block_at new b ≡ option_map (λ (l : BlockView B). record l { operations = map (in_place_of p q) l.operations }) (block_at old b)
    pub regions : (r : Ptr Region) → region_at new r ≡ region_at old r
    pub erased : KeepsErased old new

module _ {O B A : Type 0} (d : Dialect (in_program O B) A) where
  -- the unconditional branch with this payload along an edge of an operation
  abbrev pub along : OperationView O → ℕ → O → OperationView O
  along v i payload = record {
    payload = payload;
    results = [];
    operands = picks v.operands (d.forwards v.payload (length v.operands) i);
    successors = cons_if (slice_get v.successors i) [];
    regions = [];
  }

  -- the unconditional branch of a decision is made, and stands in no block
  pub record BuildsBranch (old new : Program O B) (x : Decision) (q : Ptr Operation) : Type 0 where
    pub payload : O
    pub plain : d.plain ≡ Some payload
    pub view : OperationView O
    pub there : operation_at old x.op ≡ Some view
    pub builds : BuildsOperation old new q payload [] (along view x.edge payload).operands (along view x.edge payload).successors 0

  -- it stands in place of the branch that was decided
  pub record DecidesBranch (old new : Program O B) (x : Decision) (q : Ptr Operation) : Type 0 where
    pub payload : O
    pub plain : d.plain ≡ Some payload
    pub view : OperationView O
    pub there : operation_at old x.op ≡ Some view
    pub puts : PutsInPlace old new x.op q (along view x.edge payload)
