-- Which branches are decided, by what is known of values by their definers alone.
use Rattle.std.specs.Prelude.{◌≡◌, ℕ, zero, suc, Bool, false, not, ◌&&◌, cond, List, [], ◌∷◌, map, Option, Some, None, IsSome, is_some, option_map, slice_get, if◌then◌else◌}
use Rattle.ir_program.specs.Program.{Program, TypedValue, OperationView, operation_at}
use Rattle.ir_program.specs.Rows.{operands_at}
use Rattle.ir_program.specs.Replacing.{same_value}
use Rattle.ir_program.specs.declared.handles.Ptr.{Ptr}
use Rattle.ir_program.specs.declared.handles.Operation.{Operation}
use Rattle.ir_program.specs.declared.handles.Value.{Value}
use Rattle.ir_program.specs.declared.handles.DefiningEntity.{DefiningEntity}
use Rattle.ir_program.specs.declared.handles.DefiningEntity.TheVariants.{Op as ByOp, Block as ByBlock}
use Rattle.ir_trees.specs.Searched.{Lists}
use Rattle.ir_trees.specs.Stands.{in_program}
use Rattle.opt_trees.specs.Dialect.{Dialect}
use Rattle.opt_trees.specs.Occurrences.{cons_if}
use Rattle.opt_trees.specs.Simplify.{is_empty}
use Rattle.opt_inside.specs.Around.{folded_alone}
use Rattle.opt_inside.specs.Occurring.{IsBelowRoot}
use Rattle.opt_decide.specs.declared.plan.Decision.{Decision}

-- what is said of the index of a value among definitions; nothing, where it is none of them
abbrev pub found_among : {A : Type 0} → List TypedValue → (ℕ → Option A) → Value → Option A
found_among [] f v = None
found_among (t ∷ ts) f v = cond (same_value v t.value) (f zero) (found_among ts (λ i. f (suc i)) v)

-- the decision of each of these operations for which there is an edge, in their order
abbrev pub decisions_of : (Ptr Operation → Option ℕ) → List (Ptr Operation) → List Decision
decisions_of f [] = []
decisions_of f (p ∷ ps) = cons_if (option_map (λ i. record { op = p; edge = i }) (f p)) (decisions_of f ps)

module _ {O B A : Type 0} (d : Dialect (in_program O B) A) where
  abbrev pub folded_if : Option (OperationView O) → Value → Option A
  folded_if None v = None
  folded_if (Some o) v = found_among o.results (folded_alone d o) v

  -- a branch that isn't unconditional, without results and regions
  abbrev pub can_decide : Option (OperationView O) → Bool
  can_decide None = false
  can_decide (Some o) = d.is_branch o.payload && (not (d.is_plain o.payload) && (is_empty o.results && is_empty o.regions))

  abbrev pub edge_if : List (Option A) → Option (OperationView O) → Option ℕ
  edge_if known None = None
  edge_if known (Some o) = d.edge o.payload known

  module _ (c : Program O B) where
    -- what a value is known to be by its definer alone: what a result folds to with no operand known, and nothing of an argument
    abbrev pub known_by : DefiningEntity → Value → Option A
    known_by (ByOp p) v = folded_if (operation_at c p) v
    known_by (ByBlock b) v = None

    abbrev pub known_alone : Value → Option A
    known_alone v = known_by v.definer v

    -- the edge that known operands of such a branch pick
    abbrev pub picked_edge : Ptr Operation → Option ℕ
    picked_edge p = if can_decide (operation_at c p) then edge_if (map known_alone (operands_at c p)) (operation_at c p) else None

    -- the edge along which an operation goes on, where the dialect has an unconditional branch to say so
    abbrev pub decided_edge : Ptr Operation → Option ℕ
    decided_edge p = if is_some d.plain then picked_edge p else None

    -- the operation is a branch below the root that is decided
    abbrev pub IsDecidedBelow : Ptr Operation → Ptr Operation → Type 0
    IsDecidedBelow op p = IsBelowRoot c op p × IsSome (decided_edge p)

    -- these are decisions below the root, each operation once
    pub record AreSomeDecisions (op : Ptr Operation) (ds : List Decision) : Type 0 where
      pub below : (x : Decision) → Lists ds x → IsBelowRoot c op x.op
      pub sound : (x : Decision) → Lists ds x → decided_edge x.op ≡ Some x.edge
      pub once : (j k : ℕ) (x y : Decision) → slice_get ds j ≡ Some x → slice_get ds k ≡ Some y → x.op ≡ y.op
          → j ≡ k

    -- these are all decisions below the root, each operation once
    pub record AreDecisions (op : Ptr Operation) (ds : List Decision) : Type 0 where
      pub below : (x : Decision) → Lists ds x → IsBelowRoot c op x.op
      pub sound : (x : Decision) → Lists ds x → decided_edge x.op ≡ Some x.edge
      pub all : (p : Ptr Operation) (i : ℕ) → IsBelowRoot c op p → decided_edge p ≡ Some i → Lists ds (record { op = p; edge = i })
      pub once : (j k : ℕ) (x y : Decision) → slice_get ds j ≡ Some x → slice_get ds k ≡ Some y → x.op ≡ y.op → j ≡ k
