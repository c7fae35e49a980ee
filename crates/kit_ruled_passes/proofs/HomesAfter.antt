-- Values say who defines them, and entry blocks are told from others, also where branches are decided and blocks are gone
-- that nothing reaches.
use Rattle.std.proofs.Common.{◌≡◌, Bool, true, false, map, Option, Some, None, ℕ, refl, sym, subst}
use Rattle.std.specs.Prelude.{not, ◌&&◌, if◌then◌else◌}
use Rattle.ir_program.specs.declared.handles.BasicBlock.{BasicBlock}
use Rattle.ir_program.specs.declared.handles.DefiningEntity.TheVariants.{Block as ByBlock}
use Rattle.ir_program.specs.declared.handles.Ptr.{Ptr}
use Rattle.ir_program.specs.declared.handles.Value.{Value}
use Rattle.ir_trees.specs.Renames.{Maps, names_of, rename, rename_label}
use Rattle.ir_trees.specs.Stands.{by_handle, ProgramHead}
use Rattle.ir_trees.specs.Trees.{Sort, Operations, Blocks, Regions, end, operation, block, region}
use Rattle.kit.specs.Context.{KitTree}
use Rattle.opt_trees.specs.Occurrences.{Has, at_root}
use Rattle.opt_trees.specs.Simplify.{StartingRegions, IsCut, is_bare, along_edge, decide_head, decide, keep, entry}
use Rattle.kit.specs.Meaning.{KitOperation, KitBlock, kit}
use Rattle.kit_ops.specs.declared.attributes.IntegerAttr.{IntegerAttr}
use Rattle.kit_ruled_passes.specs.Scopes.{Part, KitLabel}
use Rattle.kit_ruled_passes.proofs.Scopes.{IsByOp, IsHome, Homed, AtEntry}
use Rattle.kit_ruled_passes.proofs.ScopesAfter.{EntryStays, EntriesStay, entries_stay}
use Rattle.kit_ruled_passes.proofs.AloneAfter.{Definitions, definitions_same}

module _ (E : Ptr BasicBlock → Type 0) where
  -- ---- decided branches

  module _ (alone : Value → Option IntegerAttr) where
    same_results : (h : ProgramHead KitOperation KitBlock) (o : Option ℕ) (q : Option KitOperation)
        → h.results ≡ (along_edge kit h o q).results
    same_results h None q = refl
    same_results h (Some i) None = refl
    same_results h (Some i) (Some c) = refl

    decided_results : (h : ProgramHead KitOperation KitBlock) (rs : Part Regions)
        → h.results ≡ (decide_head kit alone h rs).results
    decided_results h rs = go (is_bare kit h rs && not (kit.is_plain h.content))
      where
        go : (b : Bool) → h.results
            ≡ (if b then along_edge kit h (kit.edge h.content (map alone h.operands)) kit.plain else h).results
        go true = same_results h (kit.edge h.content (map alone h.operands)) kit.plain
        go false = refl

    pub homed_decided : {s : Sort} (t : Part s) (first : Bool) → Homed E t first → Homed E (decide kit alone t) first
    homed_decided end first q = tt
    homed_decided (operation h rs rest) first q = (
      subst (λ (ds : Definitions). (v : Value) → Has v (names_of ds) → IsByOp v.definer) (decided_results h rs) q.0,
      homed_decided rs true q.1,
      homed_decided rest first q.2,
    )
    homed_decided (block l os rest) first q = (q.0, homed_decided os true q.1, homed_decided rest false q.2)
    homed_decided (region bs rest) first q = (homed_decided bs true q.0, homed_decided rest true q.1)

  -- ---- other names of operations

  module _ (m : Maps by_handle by_handle) (values : (v : Value) → m.value v ≡ v)
      (blocks : (b : Ptr BasicBlock) → m.block b ≡ b) where
    home_renamed : (l : KitLabel) (first : Bool) → IsHome E l first → IsHome E (rename_label m l) first
    home_renamed l first q = (
      subst (λ b. AtEntry E first b) (sym (blocks l.name)) q.0,
      λ v has. subst (λ b. v.definer ≡ ByBlock b) (sym (blocks l.name)) (q.1 v
          (subst (λ (ds : Definitions). Has v (names_of ds)) (definitions_same m.value values l.arguments) has)),
    )

    pub homed_renamed : {s : Sort} (t : Part s) (first : Bool) → Homed E t first → Homed E (rename m t) first
    homed_renamed end first q = tt
    homed_renamed (operation h rs rest) first q = (
      subst (λ (ds : Definitions). (v : Value) → Has v (names_of ds) → IsByOp v.definer)
          (sym (definitions_same m.value values h.results)) q.0,
      homed_renamed rs true q.1,
      homed_renamed rest first q.2,
    )
    homed_renamed (block l os rest) first q =
        (home_renamed l first q.0, homed_renamed os true q.1, homed_renamed rest false q.2)
    homed_renamed (region bs rest) first q = (homed_renamed bs true q.0, homed_renamed rest true q.1)

  -- ---- blocks that go

  module _ (g : Ptr BasicBlock → Bool) where
    -- the first of these blocks stays, where it is an entry
    abbrev FirstStays : {s : Sort} → Part s → Bool → Type 0
    FirstStays end first = Unit {0}
    FirstStays (operation h rs rest) first = Unit {0}
    FirstStays (block l os rest) first = first ≡ true → g l.name ≡ false
    FirstStays (region bs rest) first = Unit {0}

    of_operations : (os : Part Operations) (first : Bool) → FirstStays os first
    of_operations end first = tt
    of_operations (operation h rs rest) first = tt

    pub of_regions : (rs : Part Regions) (first : Bool) → FirstStays rs first
    of_regions end first = tt
    of_regions (region bs rest) first = tt

    of_entry : (bs : Part Blocks) → EntryStays g bs → FirstStays bs true
    of_entry end stays = tt
    of_entry (block l os rest) stays = λ e. stays

    of_later : (bs : Part Blocks) → FirstStays bs false
    of_later end = tt
    of_later (block l os rest) = λ e. cc

    pub homed_kept : {s : Sort} (t : Part s) (first : Bool) → EntriesStay g t → FirstStays t first → Homed E t first
        → Homed E (keep g t) first
    homed_kept end first stay here q = tt
    homed_kept (operation h rs rest) first stay here q = (
      q.0,
      homed_kept rs true stay.0 (of_regions rs true) q.1,
      homed_kept rest first stay.1 (of_operations rest first) q.2,
    )
    homed_kept (block l os rest) true stay here q =
        subst (λ (b : Bool). Homed E (if b then keep g rest else block l (keep g os) (keep g rest)) true)
        (sym (here refl)) (
          q.0,
          homed_kept os true stay.0 (of_operations os true) q.1,
          homed_kept rest false stay.1 (of_later rest) q.2,
        )
    homed_kept (block l os rest) false stay here q = go (g l.name)
        (homed_kept os true stay.0 (of_operations os true) q.1)
        (homed_kept rest false stay.1 (of_later rest) q.2)
      where
        go : (b : Bool) → Homed E (keep g os) true → Homed E (keep g rest) false
            → Homed E (if b then keep g rest else block l (keep g os) (keep g rest)) false
        go true own later = later
        go false own later = (q.0, own, later)
    homed_kept (region bs rest) first stay here q = (
      homed_kept bs true stay.1 (of_entry bs stay.0) q.0,
      homed_kept rest true stay.2 (of_regions rest true) q.1,
    )

  -- no entry block goes, where it is cut
  pub homed_cut : (p : StartingRegions by_handle) (t after : KitTree) → IsCut kit p t after → Homed E t.regions true
      → Homed E after.regions true
  homed_cut p t after cut q =
      let stay = entries_stay cut.gone t.regions (at_root t) refl (λ y has first.
      stays (cut.gone y.label.name) refl (λ e. (cut.there y.label.name e).unreached (entry y has first))) in
      subst (λ (z : KitTree). Homed E z.regions true) (sym cut.is)
      (homed_kept cut.gone t.regions true stay (of_regions cut.gone t.regions true) q)
    where
      stays : (b : Bool) {x : Bool} → x ≡ b → (x ≡ true → ⊥) → x ≡ false
      stays false e none = e
      stays true e none = absurd (none e)
