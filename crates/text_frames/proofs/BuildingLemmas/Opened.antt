-- A block that is made in a program is opened in what is seen of it.
use Rattle.std.proofs.Common.{◌≡◌, List, [], Some, IsSome, option_map, unwrap_or, slice_get, length, sym, ap, ◌∙◌}
use Rattle.ir_base.specs.declared.types.TypeHandle.{TypeHandle}
use Rattle.ir_program.specs.Adds.{numbered_values}
use Rattle.ir_program.specs.Edits.{IsUnchanged}
use Rattle.ir_program.specs.Lists.{IsUnlinkedOperation, IsUnlinkedBlock}
use Rattle.ir_program.specs.Made.{BuildsBlock}
use Rattle.ir_program.specs.Program.{RegionView, operation_at, block_at, region_at}
use Rattle.ir_program.specs.declared.handles.Ptr.{Ptr}
use Rattle.ir_program.specs.declared.handles.Operation.{Operation}
use Rattle.ir_program.specs.declared.handles.BasicBlock.{BasicBlock}
use Rattle.ir_program.specs.declared.handles.DefiningEntity.TheVariants.{Block as ByBlock}
use Rattle.ir_types.specs.Views.{TypesView}
use Rattle.ir_context.specs.Views.{ContextView}
use Rattle.ir_context.specs.declared.notes.OperationData.{OperationData}
use Rattle.ir_context.specs.declared.notes.BlockNotes.{BlockNotes}
use Rattle.text_dialect.specs.Seen.{SeenBlock, seen, seen_operation, seen_block}
use Rattle.text_frames.specs.building.Kept.{SameSeen, GivesNumbers}
use Rattle.text_frames.specs.building.Loose.{IsLooseOperation, IsLooseBlock}
use Rattle.text_frames.specs.building.Made.{OpensBlock}
use Rattle.text_frames.proofs.BuildingLemmas.Options.{is_there, there, mapped, mapped_there}
use Rattle.text_frames.proofs.BuildingLemmas.Payloads.{payloads_opened}

-- the contexts of a dialect
abbrev pub ContextOf : (D TypeKind AttrKind TypeBody Saved Location OpKind Attr TypeKey : Type 0) → Type 0
ContextOf D TypeKind AttrKind TypeBody Saved Location OpKind Attr TypeKey =
    ContextView (OperationData D TypeKind AttrKind TypeBody Saved Location OpKind Attr TypeKey)
    (BlockNotes D TypeKind AttrKind TypeBody Saved Location OpKind Attr TypeKey) (TypesView TypeKey TypeBody Saved)

module _ {D TypeKind AttrKind TypeBody Saved Location OpKind Attr TypeKey : Type 0}
    (c : ContextOf D TypeKind AttrKind TypeBody Saved Location OpKind Attr TypeKey) where
  pub loose_block : (b : Ptr BasicBlock) → IsSome (block_at c.program b) → IsUnlinkedBlock c.program b → IsLooseBlock (seen c) b
  loose_block b here unlinked = record {
    there = mapped_there seen_block (block_at c.program b) here;
    loose = λ r bs k e listed.
        let m = mapped (λ (v : RegionView). v.blocks) (region_at c.program r) bs e in
        unlinked r (record {
          block = here;
          region = there (region_at c.program r) m.0 m.1;
          index = k;
          here = ap (λ o. slice_get (unwrap_or o []) k) e ∙ listed;
        });
  }

  pub unlinked_block : (b : Ptr BasicBlock) → IsLooseBlock (seen c) b → IsUnlinkedBlock c.program b
  unlinked_block b h r stands =
      let m = is_there (region_at c.program r) stands.region in
      let e = ap (option_map (λ (v : RegionView). v.blocks)) m.1 in
      h.loose r m.0.blocks stands.index e (ap (λ o. slice_get (unwrap_or o []) stands.index) (sym e) ∙ stands.here)

  pub loose_operation : (p : Ptr Operation) → IsSome (operation_at c.program p) → IsUnlinkedOperation c.program p → IsLooseOperation (seen c) p
  loose_operation p here unlinked = record {
    there = mapped_there seen_operation (operation_at c.program p) here;
    loose = λ b v k e listed.
        let m = mapped seen_block (block_at c.program b) v e in
        unlinked b (record {
          operation = here;
          block = there (block_at c.program b) m.0 m.1;
          index = k;
          here = ap (λ o. slice_get (unwrap_or (option_map (λ x. x.operations) o) []) k) m.1 ∙ ap (λ (y : SeenBlock). slice_get y.operations k) m.2 ∙ listed;
        });
  }

  pub unlinked_operation : (p : Ptr Operation) → IsLooseOperation (seen c) p → IsUnlinkedOperation c.program p
  unlinked_operation p h b stands =
      let m = is_there (block_at c.program b) stands.block in
      h.loose b (seen_block m.0) stands.index (ap (option_map seen_block) m.1) (ap (λ o. slice_get (unwrap_or (option_map (λ x. x.operations) o) []) stands.index) (sym m.1) ∙ stands.here)

module _ {D TypeKind AttrKind TypeBody Saved Location OpKind Attr TypeKey : Type 0}
    (c d : ContextOf D TypeKind AttrKind TypeBody Saved Location OpKind Attr TypeKey)
    (same : d.types ≡ c.types) where
  -- a call that is refused leaves what is seen
  pub restored : IsUnchanged c.program d.program → SameSeen (seen c) (seen d)
  restored h = record {
    operations = λ p. ap (option_map seen_operation) (h.operations p);
    blocks = λ b. ap (option_map seen_block) (h.blocks b);
    regions = λ r. ap (option_map (λ (v : RegionView). v.blocks)) (h.regions r);
    types = λ n key e. ap (λ ts. slice_get ts.keys n) same ∙ e;
  }

  pub opened : (b : Ptr BasicBlock) (notes : BlockNotes D TypeKind AttrKind TypeBody Saved Location OpKind Attr TypeKey) (tys : List TypeHandle)
      → BuildsBlock c.program d.program b notes tys → notes.attributes ≡ []
      → OpensBlock (seen c) (seen d) b notes.label tys c.program.counter
  opened b notes tys h none = record {
    fresh = ap (option_map seen_block) h.fresh;
    made = ap (option_map seen_block) h.made ∙ ap
        (λ n. Some (record {
          label = notes.label;
          attributes = n;
          arguments = numbered_values (ByBlock b) c.program.counter tys;
          operations = [];
        }))
        (ap length none);
    loose = loose_block d b (there (block_at d.program b) _ h.made) h.unlinked;
    others = λ q ne. ap (option_map seen_block) (h.others q ne);
    operations = λ p. ap (option_map seen_operation) (h.operations p);
    regions = λ r. ap (option_map (λ (v : RegionView). v.blocks)) (h.regions r);
    types = ap (λ ts. ts.keys) same;
  }

  pub opened_numbers : (b : Ptr BasicBlock) (notes : BlockNotes D TypeKind AttrKind TypeBody Saved Location OpKind Attr TypeKey) (tys : List TypeHandle)
      → BuildsBlock c.program d.program b notes tys → GivesNumbers c.program d.program (length tys)
  opened_numbers b notes tys h = record {
    counter = h.counter;
    erased = h.erased;
    payloads = payloads_opened c.program d.program b notes tys h;
  }
