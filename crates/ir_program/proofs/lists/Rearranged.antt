-- What every program keeps says nothing of which operations stand in which blocks, nor of which blocks in which regions; and of regions only that each stands somewhere.
use Rattle.std.proofs.Common.{◌≡◌, ℕ, Some, IsSome, option_map, refl, sym, ap, subst, ◌∙◌}
use Rattle.ir_arena.specs.Arena.{held}
use Rattle.ir_entities.specs.Lists.{ListsView}
use Rattle.ir_entities.specs.Links.{IsLinked}
use Rattle.ir_entities.specs.Forest.{Forest}
use Rattle.ir_entities.specs.Uses.{key_of}
use Rattle.ir_program.specs.Program.{Program, definitions_of, definition_at, numbered, type_at}
use Rattle.ir_program.specs.Sound.{IsProgram, AreNumbered, thread_of_value}
use Rattle.ir_program.specs.declared.handles.Value.{Value}
use Rattle.ir_program.specs.declared.handles.DefiningEntity.{DefiningEntity}
use Rattle.ir_program.specs.declared.handles.DefiningEntity.TheVariants.{Op as ByOp, Block as ByBlock}
use Rattle.ir_program.specs.declared.records.Definition.{Definition}
use Rattle.ir_program.specs.declared.records.OperationRecord.{OperationRecord}
use Rattle.ir_program.specs.declared.records.BlockRecord.{BlockRecord}
use Rattle.ir_program.specs.declared.records.RegionRecord.{RegionRecord}
use Rattle.ir_program.proofs.defined.OwnNumbers.{own-same}

module _ {O B : Type 0} where
  -- the program with other lists
  abbrev pub rearranged : Program O B → ListsView → ListsView → ListsView → Program O B
  rearranged c in_blocks in_regions in_ops = record c { forest = record c.forest { in_blocks = in_blocks; in_regions = in_regions; in_ops = in_ops } }

  module _ (c : Program O B) (in_blocks in_regions in_ops : ListsView) where
    pub same_definitions : (e : DefiningEntity) → definitions_of (rearranged c in_blocks in_regions in_ops) e ≡ definitions_of c e
    same_definitions (ByOp p) = refl
    same_definitions (ByBlock p) = refl

    pub same_definition : (v : Value) → definition_at (rearranged c in_blocks in_regions in_ops) v ≡ definition_at c v
    same_definition v = ap (numbered v.number) (same_definitions v.definer)

    same_thread : (v : Value) → thread_of_value (rearranged c in_blocks in_regions in_ops) v ≡ thread_of_value c v
    same_thread v = ap (option_map (λ (d : Definition). d.thread)) (same_definition v)

    pub rearranged_program : IsProgram c → ((j : ℕ) → IsSome (held c.forest.regions j) → IsLinked in_ops.lists j) → IsProgram (rearranged c in_blocks in_regions in_ops)
    rearranged_program kept homes = record {
      operands = kept.operands;
      successors = kept.successors;
      values = λ v t. let were : (thread_of_value c v ≡ Some t → key_of c.values t ≡ Some v) × (key_of c.values t ≡ Some v → thread_of_value c v ≡ Some t) = kept.values v t in (λ h. were.0 (sym (same_thread v) ∙ h), λ h. same_thread v ∙ were.1 h);
      blocks = kept.blocks;
      numbers = λ e. subst (AreNumbered c.counter) (sym (same_definitions e)) (kept.numbers e);
      own = own-same (definitions_of c) (definitions_of (rearranged c in_blocks in_regions in_ops)) kept.own same_definitions;
      homes = homes;
    }

    module _ (f : Forest (OperationRecord O) (BlockRecord B) RegionRecord) (is : f ≡ record c.forest { in_blocks = in_blocks; in_regions = in_regions; in_ops = in_ops }) where
      pub still_program : IsProgram c → ((j : ℕ) → IsSome (held c.forest.regions j) → IsLinked in_ops.lists j) → IsProgram (record c { forest = f })
      still_program kept homes = subst (λ (t : Forest (OperationRecord O) (BlockRecord B) RegionRecord). IsProgram (record c { forest = t })) (sym is) (rearranged_program kept homes)

-- the types of the values stay
pub types_stay : {O B : Type 0} (i c : Program O B) → i ≡ c → (in_blocks in_regions in_ops : ListsView) (f : Forest (OperationRecord O) (BlockRecord B) RegionRecord) → f ≡ record i.forest { in_blocks = in_blocks; in_regions = in_regions; in_ops = in_ops } → (v : Value) → type_at (record i { forest = f }) v ≡ type_at c v
types_stay i c seen in_blocks in_regions in_ops f is v =
    ap (λ (t : Forest (OperationRecord _) (BlockRecord _) RegionRecord). type_at (record i { forest = t }) v) is
    ∙ ap (option_map (λ (d : Definition). d.ty)) (same_definition i in_blocks in_regions in_ops v)
    ∙ ap (λ (w : Program _ _). type_at w v) seen
