-- A module of a tree that keeps the rules has a symbol table: one block, of which no two symbols have one name.
use Rattle.std.proofs.Common.{◌≡◌, ◌⊎◌, inl, inr, ⊎_elim, ℕ, zero, suc, ◌<◌, Bool, true, false, List, [], ◌∷◌, map, length, Option, Some, None, option_map, option_and_then, slice_get, if◌then◌else◌, refl, sym, ap, ◌∙◌, subst, arith}
use Rattle.std.specs.Prelude.{unwrap_or}
use Rattle.std.proofs.lemmas.List.{length-map}
use Rattle.std.proofs.lemmas.Option.{same_Some}
use Rattle.ir_names.specs.Dictionary.{attribute_at}
use Rattle.ir_names.specs.declared.interfaces.OpInterface.TheVariants.{SymbolOp, SymbolTable}
use Rattle.ir_program.specs.Lists.{operations_in, blocks_in, regions_in}
use Rattle.ir_program.specs.declared.handles.Ptr.{Ptr}
use Rattle.ir_program.specs.declared.handles.Operation.{Operation}
use Rattle.ir_program.specs.declared.handles.BasicBlock.{BasicBlock}
use Rattle.ir_symbols.specs.Symbols.{name_at, HasBody, HasOneBlock, IsTable}
use Rattle.ir_symbols.specs.Tables.{SharesName}
use Rattle.ir_trees.specs.Stands.{AreTree, no_blocks, first_block}
use Rattle.ir_trees.specs.Trees.{Blocks}
use Rattle.kit.specs.Builtin.{held_identifier}
use Rattle.kit.specs.Context.{KitContext, KitProgram, KitTree}
use Rattle.kit.specs.Meaning.{KitBlock, KitOperation}
use Rattle.kit_ops.specs.Keys as keys
use Rattle.kit_ops.specs.Table.{has_interface}
use Rattle.kit_ops.specs.declared.attributes.KitAttr.{KitAttr}
use Rattle.kit_ops.specs.declared.attributes.KitAttr.TheVariants as attrs
use Rattle.kit_checks.specs.declared.rule.Rule.{Rule}
use Rattle.kit_checks.specs.declared.rule.Rule.TheVariants as rule
use Rattle.kit_checks.specs.Faults.{KeptEverywhere}
use Rattle.kit_checks.specs.Rules.{HasModuleBody, HasFreshName}
use Rattle.kit_checks.specs.Sites.{Listed, Body, operation_list, block_list, region_list, Around}
use Rattle.kit_checks.specs.Words.{identifier_in, symbol_name}
use Rattle.kit_checks.specs.World.{world_of}
use Rattle.kit_checks.proofs.Down.{step_to, region_listed, block_listed, regions_are}
use Rattle.kit_checks.proofs.Trees.{region_count}
use Rattle.kit_places.specs.Store.{body_of, members}
use Rattle.kit_interpreter.specs.Lowering.{symbol_of, holds_table, HasSymbolTable}
use Rattle.kit_execution.proofs.Reached.{outer_if}
use Rattle.kit_execution.proofs.Words.{payload_is}
use Rattle.kit_execution.proofs.Bodies.{KitBlocks, KitBody, KitSite, IsInner}
use Rattle.kit_execution.proofs.Functions.{keeps, IsModuleAt, body, member}

-- the members of an operation that has one block
members_are : (c : KitProgram) (m : Ptr Operation) (b : Ptr BasicBlock) → HasBody c m b → members c m ≡ operations_in c b
members_are c m b has =
    let first : slice_get (regions_in c m) 0 ≡ Some has.region = ap (λ rs. slice_get rs 0) has.one_region in
    let blocks : body_of c m ≡ b ∷ [] = ap (λ o. unwrap_or (option_map (blocks_in c) o) []) first ∙ has.one_block in
    ap (λ bs. unwrap_or (option_map (operations_in c) (slice_get bs 0)) []) blocks

single : {X : Type 0} (xs : List X) (x : X) → length xs ≡ 1 → slice_get xs 0 ≡ Some x → xs ≡ x ∷ []
single [] x n e = cc
single (y ∷ []) x n e = ap (λ z. z ∷ []) (same_Some y x e)
single (y ∷ z ∷ zs) x n e = absurd (omega (arith, n))

many_blocks : (c : KitProgram) (bs : List (Ptr BasicBlock)) (blocks : KitBlocks) → AreTree c Blocks bs blocks → length (block_list blocks) ≡ length bs
many_blocks c _ _ no_blocks = refl
many_blocks c _ _ (first_block p ps v ops rest there below behind) = ap suc (many_blocks c ps rest behind)

first_mapped : {X Y : Type 0} (f : X → Y) (xs : List X) (y : Y) → map f xs ≡ y ∷ [] → (x : X) × (slice_get xs 0 ≡ Some x) × (f x ≡ y)
first_mapped f [] y h = cc
first_mapped f (x ∷ xs) y h = let e : f x ≡ y = cc in (x, refl, e)

-- the name that a symbol has is that of the tree
held_name : (a : Option KitAttr) (name : List ℕ) → option_and_then held_identifier a ≡ Some name → option_and_then identifier_in a ≡ Some name
held_name (Some (attrs.Identifier id)) name e = e
held_name _ name e = cc

chosen : {X : Type 0} (b : Bool) (o : Option X) (x : X) → (if b then o else None) ≡ Some x → o ≡ Some x
chosen true o x e = e
chosen false o x e = cc

-- of two numbers, one is less, or they are the same
in_order : (i j : ℕ) → (i < j) ⊎ ((i ≡ j) ⊎ (j < i))
in_order zero zero = inr (inl refl)
in_order zero (suc j) = inl (omega arith)
in_order (suc i) zero = inr (inr (omega arith))
in_order (suc i) (suc j) = ⊎_elim
    (λ (l : i < j). inl (omega (arith, l)))
    (λ r. inr (⊎_elim (λ (e : i ≡ j). inl (ap suc e)) (λ (l : j < i). inr (omega (arith, l))) r))
    (in_order i j)

module _ (s : KitContext) (t : KitTree) (obeys : (r : Rule) → KeptEverywhere (world_of s) t r) (m : Ptr Operation) (x : KitSite) (at : IsModuleAt s t obeys m x) where
  has : HasModuleBody x.op
  has = (keeps s t obeys x at.seen.reached rule.ModuleHolds).body at.kind

  one_block : HasOneBlock s.program m
  one_block =
      let r = first_mapped block_list (region_list x.op.regions) (has.body ∷ []) has.one in
      let h = region_listed s.program at.seen.tree.view.regions x.op.regions at.seen.tree.regions 0 r.0 r.1 in
      let here : slice_get (regions_in s.program m) 0 ≡ Some h.0 = sym (ap (λ rs. slice_get rs 0) (regions_are s.program m x.op at.seen.tree)) ∙ h.1 in
      let one : length (regions_in s.program m) ≡ 1 = sym (region_count s.program m x.op at.seen.tree) ∙ sym (length-map (region_list x.op.regions) block_list) ∙ ap length has.one in
      let first : slice_get (block_list r.0) 0 ≡ Some has.body = ap (λ (l : List KitBody). slice_get l 0) r.2 in
      let b = block_listed s.program (blocks_in s.program h.0) r.0 h.2.listed 0 has.body first in
      let many : length (blocks_in s.program h.0) ≡ 1 = sym (many_blocks s.program (blocks_in s.program h.0) r.0 h.2.listed) ∙ ap length r.2 in (
        has.body.label.name,
        record {
          region = h.0;
          one_region = single (regions_in s.program m) h.0 one here;
          one_block = single (blocks_in s.program h.0) has.body.label.name many b.0;
        },
      )

  named : (p : Ptr Operation) (k : ℕ) (name : List ℕ) (it : IsInner s.program t x (body s t obeys m x at).blocks 0 k (body s t obeys m x at).block p)
      → name_at symbol_of s.program p ≡ Some name → symbol_name (world_of s) it.op ≡ Some name
  named p k name it e =
      let is : option_and_then symbol_of (Some it.op.head.content) ≡ Some name = ap (option_and_then symbol_of) (sym (payload_is s.program p it.op it.seen.tree)) ∙ e in
      held_name (attribute_at it.op.head.content.notes.attributes keys.symbol_name) name
      (chosen (has_interface it.op.head.content.kind SymbolOp) (option_and_then held_identifier (attribute_at it.op.head.content.notes.attributes keys.symbol_name)) name is)

  -- an operation has the name of an earlier one
  clash : (i j : ℕ) (p q : Ptr Operation) (name : List ℕ) → i < j → slice_get (members s.program m) i ≡ Some p → slice_get (members s.program m) j ≡ Some q
      → name_at symbol_of s.program p ≡ Some name → name_at symbol_of s.program q ≡ Some name → ⊥
  clash i j p q name before hp hq np nq =
      let pin = member s t obeys m x at i p hp in
      let qin = member s t obeys m x at j q hq in
      let same : pin.body ≡ qin.body = same_Some pin.body qin.body (sym pin.block_here ∙ qin.block_here) in
      let around : Around KitOperation KitBlock = record { owner = x.op; outer = outer_if x.around; blocks = (body s t obeys m x at).blocks; number = 0; body = qin.body; index = j } in
      let fresh : HasFreshName (world_of s) around qin.op =
      (keeps s t obeys (step_to x (outer_if x.around) (body s t obeys m x at).blocks 0 qin.body j qin.op) qin.seen.reached rule.ModuleHolds).names around (refl, at.kind) in
      fresh i pin.op name before (subst (λ (b : KitBody). slice_get (operation_list b.operations) i ≡ Some pin.op) same pin.op_here)
      (named p i name pin np) (named q j name qin nq)

  apart : SharesName symbol_of holds_table s.program m → ⊥
  apart (b, of, two) =
      let is = members_are s.program m b of in
      let one_at : slice_get (members s.program m) two.first.stands.index ≡ Some two.one = ap (λ ps. slice_get ps two.first.stands.index) is ∙ two.first.stands.here in
      let other_at : slice_get (members s.program m) two.second.stands.index ≡ Some two.other = ap (λ ps. slice_get ps two.second.stands.index) is ∙ two.second.stands.here in
      ⊎_elim
      (λ (l : two.first.stands.index < two.second.stands.index). clash two.first.stands.index two.second.stands.index two.one two.other two.name l one_at other_at two.first.named two.second.named)
      (λ r. ⊎_elim
      (λ (e : two.first.stands.index ≡ two.second.stands.index). two.apart (same_Some two.one two.other (sym one_at ∙ ap (slice_get (members s.program m)) e ∙ other_at)))
      (λ (l : two.second.stands.index < two.first.stands.index). clash two.second.stands.index two.first.stands.index two.other two.one two.name l other_at one_at two.second.named two.first.named)
      r)
      (in_order two.first.stands.index two.second.stands.index)

  pub symbol_table : HasSymbolTable s.program m
  symbol_table = record {
    holds = ap (option_map holds_table) (payload_is s.program m x.op at.seen.tree) ∙ ap (λ k. Some (has_interface k SymbolTable)) at.kind;
    body = one_block;
    apart = apart;
  }
