-- What has been made of a text so far, and what it will say however the rest is made.
use Rattle.std.specs.Prelude.{◌≡◌, ◌≤◌, ℕ, suc, List, [], ◌∷◌, ◌++◌, map, Option, Some, slice_get, slice_set, option_map, unwrap_or, Vec}
use Rattle.std.specs.Global.{Global}
use Rattle.ir_program.specs.Program.{TypedValue}
use Rattle.ir_program.specs.declared.handles.Ptr.{Ptr}
use Rattle.ir_program.specs.declared.handles.Operation.{Operation}
use Rattle.ir_program.specs.declared.handles.BasicBlock.{BasicBlock}
use Rattle.ir_program.specs.declared.handles.Value.{Value}
use Rattle.ir_print.specs.Pieces.{ValueTree, a_region, Entity, entity, Entities, no_entity, an_entity}
use Rattle.ir_print.specs.Shown.{Saying, Pairs}
use Rattle.text_dialect.specs.Seen.{SeenOperation, SeenBlock, Seen}
use Rattle.text_dialect.specs.Standing.{Naming, HasDefinition, HasTree, HasBlockTree, HaveTrees, HasOwnLabel}
use Rattle.text_frames.specs.building.Later.{IsLater}
use Rattle.text_frames.specs.Waiting.{Pending}

-- the lists one after the other
abbrev pub joined : {X : Type 0} → List (List X) → List X
joined [] = []
joined (xs ∷ xss) = xs ++ joined xss

-- the numbers rise from at least the first bound on, and are below the second
abbrev pub Rises : ℕ → List ℕ → ℕ → Type 0
Rises low [] high = low ≤ high
Rises low (n ∷ ns) high = (low ≤ n) × Rises (suc n) ns high

-- values with each of these numbers set to the one beside it
abbrev pub set_all : List ℕ → List Value → List (Option Value) → List (Option Value)
set_all [] vs values = values
set_all (n ∷ ns) [] values = values
set_all (n ∷ ns) (v ∷ vs) values = set_all ns vs (slice_set values n (Some v))

-- the values of definitions, without their types
abbrev pub values_alone : List TypedValue → List Value
values_alone ds = map (λ d. d.value) ds

-- the operands of an operation, none where it is not there
abbrev pub operands_of : {K A T : Type 0} → Seen K A T → Ptr Operation → List Value
operands_of {K} {A} s p = unwrap_or (option_map (λ (o : SeenOperation K A). o.operands) (s.operation p)) []

-- so are its successors
abbrev pub successors_of : {K A T : Type 0} → Seen K A T → Ptr Operation → List (Ptr BasicBlock)
successors_of {K} {A} s p = unwrap_or (option_map (λ (o : SeenOperation K A). o.successors) (s.operation p)) []

-- The tokens of the names in a text, in its order: those that define values, those that mention values, the labels of blocks, and
-- the labels of edges, which mention blocks.
pub record NameTokens : Type 0 where
  pub definitions : List ℕ
  pub mentions : List ℕ
  pub labels : List ℕ
  pub edges : List ℕ

-- What has been made so far: a context, the values of definitions by their numbers, the blocks by the numbers of their labels, the
-- tokens of the names that were read, and the operands and successors that are still to be linked.
pub record PartialModule (K A T : Type 0) : Type 0 where
  pub ctx : Seen K A T
  pub values : List (Option Value)
  pub blocks : List (Ptr BasicBlock)
  pub names : NameTokens
  pub pending : List Pending

-- each of the first stands among the second
abbrev pub AreAmong : List ℕ → List ℕ → Type 0
AreAmong ks ms = (i k : ℕ) → slice_get ks i ≡ Some k → (j : ℕ) × (slice_get ms j ≡ Some k)

-- names stay at their places, and more may come
pub record LaterNames (m n : NameTokens) : Type 0 where
  pub definitions : (i k : ℕ) → slice_get m.definitions i ≡ Some k → slice_get n.definitions i ≡ Some k
  pub mentions : AreAmong m.mentions n.mentions
  pub labels : (i k : ℕ) → slice_get m.labels i ≡ Some k → slice_get n.labels i ≡ Some k
  pub edges : AreAmong m.edges n.edges

-- more is made, and what is whole stays so
pub record LaterWorld {K A T : Type 0} (w v : PartialModule K A T) : Type 0 where
  pub ctx : IsLater w.ctx v.ctx
  pub values : (n : ℕ) (x : Value) → slice_get w.values n ≡ Some (Some x) → slice_get v.values n ≡ Some (Some x)
  pub blocks : (n : ℕ) (b : Ptr BasicBlock) → slice_get w.blocks n ≡ Some b → slice_get v.blocks n ≡ Some b
  pub names : LaterNames w.names v.names
  pub pending : (i : ℕ) (x : Pending) → slice_get w.pending i ≡ Some x → slice_get v.pending i ≡ Some x

-- Where making ends: a context, the value of each definition by its number, the blocks in the order of the text, and the number
-- of the definition, or of the block, that a token means.
pub record End (K A T : Type 0) : Type 0 where
  pub ctx : Seen K A T
  pub values : List Value
  pub blocks : List (Ptr BasicBlock)
  pub number : ℕ → ℕ

-- a token names this value in the end, or this block
abbrev pub MeansInTheEnd : {K A T : Type 0} → End K A T → Naming ℕ
MeansInTheEnd e = record {
  value = λ v k. slice_get e.values (e.number k) ≡ Some v;
  block = λ b k. slice_get e.blocks (e.number k) ≡ Some b;
}

-- What has been made may end so: what is whole stays, each definition is named by its token, and each block by its label; operands
-- and successors are linked.
pub record MayEndAs {K A T : Type 0} (w : PartialModule K A T) (e : End K A T) : Type 0 where
  pub ctx : IsLater w.ctx e.ctx
  pub values : (n : ℕ) (x : Value) → slice_get w.values n ≡ Some (Some x) → slice_get e.values n ≡ Some x
  pub blocks : (n : ℕ) (b : Ptr BasicBlock) → slice_get w.blocks n ≡ Some b → slice_get e.blocks n ≡ Some b
  pub definitions : (n k : ℕ) → slice_get w.names.definitions n ≡ Some k → e.number k ≡ n
  pub labels : (n k : ℕ) → slice_get w.names.labels n ≡ Some k → e.number k ≡ n
  pub operands : (i : ℕ) (x : Pending) → slice_get w.pending i ≡ Some x
      → Pairs (MeansInTheEnd e).value (operands_of e.ctx x.op) x.tokens
  pub successors : (i : ℕ) (x : Pending) → slice_get w.pending i ≡ Some x
      → Pairs (MeansInTheEnd e).block (successors_of e.ctx x.op) x.labels

-- however making ends
abbrev pub Surely : {K A T : Type 0} → PartialModule K A T → (End K A T → Type 0) → Type 0
Surely {K = K} {A = A} {T = T} w P = (e : End K A T) → MayEndAs w e → P e

module _ {K A T : Type 0} (says : Saying K A T) (w : PartialModule K A T) where
  -- an operation that is made has a tree in the end
  abbrev pub IsMade : Ptr Operation → Entity ℕ → Type 0
  IsMade p t = Surely w (λ e. HasTree says (MeansInTheEnd e) HasOwnLabel e.ctx p t)

  -- a block that is in no region yet, but is as it will be in one
  pub record IsReady (p : Ptr BasicBlock) (t : Entity ℕ) : Type 0 where
    pub view : SeenBlock
    pub at : w.ctx.block p ≡ Some view
    pub made : Surely w (λ e. e.ctx.block p ≡ Some view → HasBlockTree says (MeansInTheEnd e) HasOwnLabel e.ctx p t)

  abbrev pub AreReady : List (Ptr BasicBlock) → Entities ℕ → Type 0
  AreReady [] no_entity = Unit {0}
  AreReady (b ∷ bs) (an_entity t ts) = IsReady b t × AreReady bs ts
  AreReady _ _ = ⊥

  -- the blocks of regions, each with its blocks
  abbrev pub AreReadyRegions : List (Vec (Ptr BasicBlock) Global) → Entities ℕ → Type 0
  AreReadyRegions [] no_entity = Unit {0}
  AreReadyRegions (bs ∷ rs) (an_entity (entity a_region us) ts) = AreReady bs.items us × AreReadyRegions rs ts
  AreReadyRegions _ _ = ⊥

  -- a block that is being read: the token that names it, its label, its arguments, and its operations so far; it has no attributes
  pub record IsOpenBlock (p : Ptr BasicBlock) (named : ℕ) (label : List ℕ) (arguments : List (ℕ × ValueTree))
      (operations : Entities ℕ) : Type 0 where
    pub view : SeenBlock
    pub at : w.ctx.block p ≡ Some view
    pub labelled : HasOwnLabel p view label
    pub names : Surely w (λ e. (MeansInTheEnd e).block p named)
    pub defines : Surely w (λ e. Pairs (HasDefinition says (MeansInTheEnd e) e.ctx.types) view.arguments arguments)
    pub holds : Surely w (λ e. HaveTrees says (MeansInTheEnd e) HasOwnLabel e.ctx view.operations operations)
