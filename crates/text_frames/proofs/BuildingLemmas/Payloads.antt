-- What edits make of payloads: each operation and each block keeps the one that it has.
use Rattle.std.proofs.Common.{◌≡◌, ◌≢◌, ⊎_elim, ℕ, List, Option, Some, None, option_map, refl, sym, ap, ◌∙◌, subst}
use Rattle.ir_base.specs.declared.types.TypeHandle.{TypeHandle}
use Rattle.ir_program.specs.Edits.{EditsOperation, EditsBlock, IsUnchanged}
use Rattle.ir_program.specs.Made.{BuildsBlock, BuildsOperation}
use Rattle.ir_program.specs.Program.{Program, OperationView, BlockView, operation_at, block_at}
use Rattle.ir_program.specs.declared.handles.Ptr.{Ptr}
use Rattle.ir_program.specs.declared.handles.Operation.{Operation}
use Rattle.ir_program.specs.declared.handles.BasicBlock.{BasicBlock}
use Rattle.ir_program.specs.declared.handles.Value.{Value}
use Rattle.ir_program.proofs.made.Frames.{same_or_not}
use Rattle.text_frames.specs.building.Kept.{KeepsPayloads, operation_payload, block_payload}
use Rattle.text_frames.proofs.BuildingLemmas.Options.{no_some}

-- what keeps the payload of each thing keeps that of the one that may be there
mapped_payload : {X Y : Type 0} (payload : X → Y) (f : X → X) → ((x : X) → payload (f x) ≡ payload x) → (o : Option X) → option_map payload (option_map f o) ≡ option_map payload o
mapped_payload payload f h None = refl
mapped_payload payload f h (Some x) = ap Some (h x)

-- where one leads nowhere before, what leads somewhere is another
another : {X Y : Type 0} (payload : X → Y) (at : Option X) (y : Y) → at ≡ None → option_map payload at ≡ Some y → ⊥
another payload at y none e = no_some y (sym (ap (option_map payload) none) ∙ e)

module _ {O B : Type 0} where
  -- where nothing is done, and of two calls
  pub payloads_none : (c : Program O B) → KeepsPayloads c c
  payloads_none c = record { operations = λ p o e. e; blocks = λ b x e. e }

  pub payloads_both : (c d e : Program O B) → KeepsPayloads c d → KeepsPayloads d e → KeepsPayloads c e
  payloads_both c d e f g = record {
    operations = λ p o h. g.operations p o (f.operations p o h);
    blocks = λ b x h. g.blocks b x (f.blocks b x h);
  }

  module _ (c d : Program O B) where
    -- where each operation and each block has the payload that it had
    same_payloads : ((p : Ptr Operation) → operation_payload d p ≡ operation_payload c p) → ((b : Ptr BasicBlock) → block_payload d b ≡ block_payload c b) → KeepsPayloads c d
    same_payloads operations blocks = record { operations = λ p o e. operations p ∙ e; blocks = λ b x e. blocks b ∙ e }

    -- where each handle leads to what it led to
    pub payloads_still : ((p : Ptr Operation) → operation_at d p ≡ operation_at c p) → ((b : Ptr BasicBlock) → block_at d b ≡ block_at c b) → KeepsPayloads c d
    payloads_still operations blocks = same_payloads (λ p. ap (option_map (λ (v : OperationView O). v.payload)) (operations p)) (λ b. ap (option_map (λ (v : BlockView B). v.payload)) (blocks b))

    pub payloads_unchanged : IsUnchanged c d → KeepsPayloads c d
    payloads_unchanged h = payloads_still h.operations h.blocks

    -- where one operation is edited
    pub payloads_operation : (p : Ptr Operation) (f : OperationView O → OperationView O) → ((v : OperationView O) → (f v).payload ≡ v.payload) → EditsOperation c d p f → KeepsPayloads c d
    payloads_operation p f keeps h = same_payloads at (λ b. ap (option_map (λ (v : BlockView B). v.payload)) (h.blocks b)) where
      at : (q : Ptr Operation) → operation_payload d q ≡ operation_payload c q
      at q = ⊎_elim
          (λ (e : q ≡ p). subst (λ z. operation_payload d z ≡ operation_payload c z) (sym e)
          (ap (option_map (λ (v : OperationView O). v.payload)) h.edited ∙ mapped_payload (λ (v : OperationView O). v.payload) f keeps (operation_at c p)))
          (λ (ne : q ≢ p). ap (option_map (λ (v : OperationView O). v.payload)) (h.others q ne))
          (same_or_not q p)

    -- where one block is
    pub payloads_block : (p : Ptr BasicBlock) (f : BlockView B → BlockView B) → ((v : BlockView B) → (f v).payload ≡ v.payload) → EditsBlock c d p f → KeepsPayloads c d
    payloads_block p f keeps h = same_payloads (λ q. ap (option_map (λ (v : OperationView O). v.payload)) (h.operations q)) at where
      at : (q : Ptr BasicBlock) → block_payload d q ≡ block_payload c q
      at q = ⊎_elim
          (λ (e : q ≡ p). subst (λ z. block_payload d z ≡ block_payload c z) (sym e)
          (ap (option_map (λ (v : BlockView B). v.payload)) h.edited ∙ mapped_payload (λ (v : BlockView B). v.payload) f keeps (block_at c p)))
          (λ (ne : q ≢ p). ap (option_map (λ (v : BlockView B). v.payload)) (h.others q ne))
          (same_or_not q p)

    -- where an operation is new
    pub payloads_built : (p : Ptr Operation) (payload : O) (tys : List TypeHandle) (vs : List Value) (bs : List (Ptr BasicBlock)) (n : ℕ) → BuildsOperation c d p payload tys vs bs n → KeepsPayloads c d
    payloads_built p payload tys vs bs n h = record {
      operations = λ q o e. ap (option_map (λ (v : OperationView O). v.payload)) (h.others q (λ is.
          another (λ (v : OperationView O). v.payload) (operation_at c p) o h.fresh (subst (λ z. operation_payload c z ≡ Some o) is e))) ∙ e;
      blocks = λ b x e. ap (option_map (λ (v : BlockView B). v.payload)) (h.blocks b) ∙ e;
    }

    -- where a block is
    pub payloads_opened : (p : Ptr BasicBlock) (payload : B) (tys : List TypeHandle) → BuildsBlock c d p payload tys → KeepsPayloads c d
    payloads_opened p payload tys h = record {
      operations = λ q o e. ap (option_map (λ (v : OperationView O). v.payload)) (h.operations q) ∙ e;
      blocks = λ q x e. ap (option_map (λ (v : BlockView B). v.payload)) (h.others q (λ is.
          another (λ (v : BlockView B). v.payload) (block_at c p) x h.fresh (subst (λ z. block_payload c z ≡ Some x) is e))) ∙ e;
    }
