-- What an operation that is made meets before it is put where it stands.
use Rattle.std.proofs.Common.{◌≡◌, ◌∙◌, ◌+◌, ◌≤◌, ◌^◌, ℕ, List, Some, IsSome, refl, sym, subst}
use Rattle.ir_base.specs.declared.growth.GrowError.{GrowError}
use Rattle.ir_base.specs.declared.growth.GrowError.TheVariants as growth
use Rattle.ir_base.specs.declared.types.TypeHandle.{TypeHandle}
use Rattle.ir_program.specs.Edits.{KeepsErased}
use Rattle.ir_program.specs.Program.{Program}
use Rattle.ir_program.specs.declared.handles.BasicBlock.{BasicBlock}
use Rattle.ir_program.specs.declared.handles.Operation.{Operation}
use Rattle.ir_program.specs.declared.handles.Ptr.{Ptr}
use Rattle.text_dialect.specs.Seen.{Seen}
use Rattle.text_frames.specs.building.Kept.{GivesNumbers, KeepsPayloads, SameSeen}
use Rattle.text_frames.proofs.BuildingLemmas.Numbers.{erased_both, gives_still}
use Rattle.text_frames.proofs.BuildingLemmas.Payloads.{payloads_both}
use Rattle.text_frames.specs.building.Loose.{IsLooseBlock}
use Rattle.text_frames.specs.building.Made.{MakesDetachedOperation}
use Rattle.text_frames.proofs.BuildingLemmas.Later.{makes_loose_block}
use Rattle.text_frames.specs.declared.opened.Body.{Body}
use Rattle.text_frames.specs.Makes.{block_in}
use Rattle.text_frames.specs.Opened.{of_growth}
use Rattle.text_frames.specs.declared.opened.AssemblyFault.TheVariants.{CounterFull}
use Rattle.text_assembling.specs.Steps.{CanMake}

module _ {K A T : Type 0} (s t : Seen K A T) (same : SameSeen s t) where
  loose_still : (b : Ptr BasicBlock) → IsLooseBlock s b → IsLooseBlock t b
  loose_still b h = record {
    there = subst IsSome (sym (same.blocks b)) h.there;
    loose = λ r bs k e listed. h.loose r bs k (sym (same.regions r) ∙ e) listed;
  }

  -- what can be made can be so where each handle leads to what it led to
  pub can_still : {D : Type 0} (b : Body D K A T) (bss : List (List (Ptr BasicBlock))) → CanMake s b bss → CanMake t b bss
  can_still b bss can = record {
    all_loose = λ k bs e i c at. loose_still c (can.all_loose k bs e i c at);
    apart = can.apart;
    open_loose = λ p e. loose_still p (can.open_loose p e);
    open_apart = can.open_apart;
  }

module _ {K A T : Type 0} (s t : Seen K A T) (p : Ptr Operation) (kind : K) (attributes : List (List ℕ × A)) (tys : List TypeHandle) (n : ℕ) (bss : List (List (Ptr BasicBlock)))
    (made : MakesDetachedOperation s t p kind attributes tys n bss) where
  -- the open block is loose still
  pub open_after : {D : Type 0} (b : Body D K A T) → CanMake s b bss → (q : Ptr BasicBlock) → block_in b ≡ Some q → IsLooseBlock t q
  open_after b can q e = makes_loose_block s t p kind attributes tys n bss made q (can.open_loose q e) (can.open_apart q e)

-- the same under other names
pub makes_so : {K A T : Type 0} (s t : Seen K A T) (p : Ptr Operation) (kind : K) (attributes : List (List ℕ × A)) (tys us : List TypeHandle) (n m : ℕ) (bss css : List (List (Ptr BasicBlock)))
    → tys ≡ us → n ≡ m → bss ≡ css → MakesDetachedOperation s t p kind attributes tys n bss → MakesDetachedOperation s t p kind attributes us m css
makes_so s t p kind attributes tys us n m bss css e f g h =
    subst (λ (xs : List TypeHandle). MakesDetachedOperation s t p kind attributes xs m css) e
    (subst (λ (k : ℕ). MakesDetachedOperation s t p kind attributes tys k css) f
    (subst (λ (ds : List (List (Ptr BasicBlock))). MakesDetachedOperation s t p kind attributes tys n ds) g h))

-- only a full counter is answered as one
pub growth_full : (e : GrowError) → of_growth e ≡ CounterFull → e ≡ growth.CounterFull
growth_full growth.CounterFull h = refl
growth_full growth.Memory h = cc

module _ {O B : Type 0} (c d : Program O B) (same : d ≡ c) where
  pub operation_full_so : (n m : ℕ) → m ≡ n → 2 ^ 64 ≤ d.counter + m → 2 ^ 64 ≤ c.counter + n
  operation_full_so n m e h =
      subst (λ (x : Program O B). 2 ^ 64 ≤ x.counter + n) same (subst (λ (k : ℕ). 2 ^ 64 ≤ d.counter + k) e h)

  pub gives_so : (e f : Program O B) (n m : ℕ) → m ≡ n → GivesNumbers d e m → GivesNumbers e f 0 → GivesNumbers c f n
  gives_so e f n m is h k =
      subst (λ (j : ℕ). GivesNumbers c f j) is (subst (λ (x : Program O B). GivesNumbers x f m) same (gives_still d e f m h k))

  pub erased_so : (e f : Program O B) → KeepsErased d e → KeepsErased e f → KeepsErased c f
  erased_so e f h k = subst (λ (x : Program O B). KeepsErased x f) same (erased_both d e f h k)

  pub payloads_so : (e f : Program O B) → KeepsPayloads d e → KeepsPayloads e f → KeepsPayloads c f
  payloads_so e f h k = subst (λ (x : Program O B). KeepsPayloads x f) same (payloads_both d e f h k)
