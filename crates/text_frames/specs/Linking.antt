-- The operands and successors of operations, by the tokens that name them.
use Rattle.std.specs.Prelude.{◌≡◌, ℕ, List, ◌++◌, Option, Some, option_and_then, slice_get}
use Rattle.ir_program.specs.declared.handles.Ptr.{Ptr}
use Rattle.ir_program.specs.declared.handles.Operation.{Operation}
use Rattle.ir_program.specs.declared.handles.Region.{Region}
use Rattle.ir_program.specs.declared.handles.BasicBlock.{BasicBlock}
use Rattle.ir_program.specs.declared.handles.Value.{Value}
use Rattle.ir_print.specs.Shown.{Pairs}
use Rattle.text_dialect.specs.Seen.{SeenOperation, Seen}
use Rattle.text_frames.specs.building.Loose.{IsDefinedValue, IsDefinedBlock}
use Rattle.text_frames.specs.Waiting.{Pending}
use Rattle.text_frames.specs.Worlds.{operands_of, successors_of}

-- the value with a number, if it is made
abbrev pub value_at : List (Option Value) → ℕ → Option Value
value_at values n = option_and_then (λ v. v) (slice_get values n)

-- the value that a token means, given the number of the definition that each token means
abbrev pub meant : List (Option Value) → List ℕ → ℕ → Option Value
meant values numbers k = option_and_then (value_at values) (slice_get numbers k)

-- the tokens mean these values, which are defined in the context
abbrev pub AreMeant : {K A T : Type 0} → Seen K A T → List (Option Value) → List ℕ → List Value → List ℕ → Type 0
AreMeant s values numbers vs ks = Pairs (λ v k. (meant values numbers k ≡ Some v) × IsDefinedValue s v) vs ks

-- the block that a label's token means, given the number of the block that each token means
abbrev pub target : List (Ptr BasicBlock) → List ℕ → ℕ → Option (Ptr BasicBlock)
target blocks numbers k = option_and_then (slice_get blocks) (slice_get numbers k)

-- the labels' tokens mean these blocks, which are in the context
abbrev pub AreTargets : {K A T : Type 0} → Seen K A T → List (Ptr BasicBlock) → List ℕ → List (Ptr BasicBlock) → List ℕ → Type 0
AreTargets s blocks numbers bs ks = Pairs (λ b k. (target blocks numbers k ≡ Some b) × IsDefinedBlock s b) bs ks

-- each token of an operand means a value, and each label of an edge a block
pub record CanLink {K A T : Type 0} (s : Seen K A T) (values : List (Option Value)) (blocks : List (Ptr BasicBlock))
    (numbers : List ℕ) (ps : List Pending) : Type 0 where
  pub operands : (i : ℕ) (x : Pending) → slice_get ps i ≡ Some x
      → (vs : List Value) × AreMeant s values numbers vs x.tokens
  pub successors : (i : ℕ) (x : Pending) → slice_get ps i ≡ Some x
      → (bs : List (Ptr BasicBlock)) × AreTargets s blocks numbers bs x.labels

-- Each of these operations has the operands that its tokens mean, and the successors that its labels mean; nothing else changes.
pub record Links {K A T : Type 0} (s t : Seen K A T) (values : List (Option Value)) (labelled : List (Ptr BasicBlock))
    (numbers : List ℕ) (ps : List Pending) : Type 0 where
  pub operations : (p : Ptr Operation) (o : SeenOperation K A) → s.operation p ≡ Some o
      → (vs : List Value) × (bs : List (Ptr BasicBlock))
      × (t.operation p ≡ Some (record o { operands = o.operands ++ vs; successors = o.successors ++ bs }))
  pub operands : (i : ℕ) (x : Pending) → slice_get ps i ≡ Some x
      → AreMeant s values numbers (operands_of t x.op) x.tokens
  pub successors : (i : ℕ) (x : Pending) → slice_get ps i ≡ Some x
      → AreTargets s labelled numbers (successors_of t x.op) x.labels
  pub regions : (r : Ptr Region) → t.region r ≡ s.region r
  pub blocks : (b : Ptr BasicBlock) → t.block b ≡ s.block b
  pub types : t.types ≡ s.types
