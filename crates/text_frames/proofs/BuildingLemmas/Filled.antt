-- Regions that get blocks, one after the other.
use Rattle.std.proofs.Common.{◌≡◌, ◌≢◌, ⊎_elim, ℕ, ◌+◌, ◌<◌, List, [], ◌∷◌, ◌++◌, Option, Some, None, IsSome, option_map, unwrap_or, slice_get, length, take, refl, sym, ap, ◌∙◌, subst, arith}
use Rattle.ir_program.specs.Edits.{EditsRegion}
use Rattle.ir_program.specs.Lists.{regions_in, StandsInOperation, StandsInside}
use Rattle.ir_program.specs.Made.{IsNoneOf}
use Rattle.ir_program.specs.Program.{OperationView, RegionView, operation_at, region_at}
use Rattle.ir_program.specs.declared.handles.Ptr.{Ptr}
use Rattle.ir_program.specs.declared.handles.Operation.{Operation}
use Rattle.ir_program.specs.declared.handles.Region.{Region}
use Rattle.ir_program.specs.declared.handles.BasicBlock.{BasicBlock}
use Rattle.ir_program.specs.declared.handles.IRNode.TheVariants.{Region as RegionNode, BasicBlock as BlockNode}
use Rattle.ir_context.specs.declared.notes.OperationData.{OperationData}
use Rattle.ir_program.proofs.made.Frames.{same_or_not}
use Rattle.text_dialect.specs.Seen.{SeenOperation, Seen, seen, seen_operation, seen_block}
use Rattle.text_frames.specs.building.Loose.{AreDistinctHandles, ListsAreApart, IsLooseOperation, IsLooseBlock, AreLooseBlocks, AreAllLoose, regions_of, HasLooseHolder}
use Rattle.text_frames.specs.building.Made.{FillsRegion, FillsRegions}
use Rattle.text_frames.proofs.BuildingLemmas.Members.{in_append, take_step, at_take, found_or_not, nothing_more, twice_more, pairs_map, pairs_push, pairs_at, last_of, in_front}
use Rattle.text_frames.proofs.BuildingLemmas.Apart.{AreRegionsListed, block_apart}
use Rattle.text_frames.proofs.BuildingLemmas.Opened.{ContextOf, unlinked_operation}
use Rattle.text_frames.proofs.BuildingLemmas.Options.{mapped}

module _ {K A T : Type 0} where
  pub fills_none : (s : Seen K A T) (r : Ptr Region) → FillsRegion s s r []
  fills_none s r = record { filled = sym (nothing_more (s.region r)); others = λ q ne. refl; operations = λ p. refl; blocks = λ b. refl; types = refl }

  pub fills_both : (s t u : Seen K A T) (r : Ptr Region) (xs ys : List (Ptr BasicBlock)) → FillsRegion s t r xs → FillsRegion t u r ys → FillsRegion s u r (xs ++ ys)
  fills_both s t u r xs ys a b = record {
    filled = b.filled ∙ ap (option_map (λ (were : List (Ptr BasicBlock)). were ++ ys)) a.filled ∙ twice_more xs ys (s.region r);
    others = λ q ne. b.others q ne ∙ a.others q ne;
    operations = λ p. b.operations p ∙ a.operations p;
    blocks = λ q. b.blocks q ∙ a.blocks q;
    types = b.types ∙ a.types;
  }

  -- an operation that was in no block is in none
  pub still_loose_operation : (s t : Seen K A T) (p : Ptr Operation) → t.operation p ≡ s.operation p → ((b : Ptr BasicBlock) → t.block b ≡ s.block b) → IsLooseOperation s p → IsLooseOperation t p
  still_loose_operation s t p same blocks h = record {
    there = subst IsSome (sym same) h.there;
    loose = λ b v k e listed. h.loose b v k (sym (blocks b) ∙ e) listed;
  }

  pub still_holder : (s t : Seen K A T) (r : Ptr Region) → ((p : Ptr Operation) → t.operation p ≡ s.operation p) → ((b : Ptr BasicBlock) → t.block b ≡ s.block b) → HasLooseHolder s r → HasLooseHolder t r
  still_holder s t r same blocks h = record {
    holder = h.holder;
    loose = still_loose_operation s t h.holder (same h.holder) blocks h.loose;
    index = h.index;
    here = ap (λ o. slice_get (unwrap_or (option_map (λ (y : SeenOperation K A). y.regions) o) []) h.index) (same h.holder) ∙ h.here;
  }

  -- a block that isn't among those that a region got is in no region still
  pub still_loose_block : (s t : Seen K A T) (r : Ptr Region) (xs : List (Ptr BasicBlock)) → FillsRegion s t r xs → (b : Ptr BasicBlock) → IsLooseBlock s b → ((k : ℕ) → slice_get xs k ≡ Some b → ⊥) → IsLooseBlock t b
  still_loose_block s t r xs fills b h none = record {
    there = subst IsSome (sym (fills.blocks b)) h.there;
    loose = λ q bs k e listed. ⊎_elim
        (λ (same : q ≡ r).
        let now : t.region r ≡ Some bs = subst (λ x. t.region x ≡ Some bs) same e in
        let m = mapped (λ (were : List (Ptr BasicBlock)). were ++ xs) (s.region r) bs (sym fills.filled ∙ now) in
        ⊎_elim
        (λ (a : slice_get m.0 k ≡ Some b). h.loose r m.0 k m.1 a)
        (λ (a : (j : ℕ) × (slice_get xs j ≡ Some b)). none a.0 a.1)
        (in_append m.0 xs k b (ap (λ ys. slice_get ys k) m.2 ∙ listed)))
        (λ (ne : q ≢ r). h.loose q bs k (sym (fills.others q ne) ∙ e) listed)
        (same_or_not q r);
  }

  -- the next of distinct blocks is in no region still
  pub next_loose : (s t : Seen K A T) (r : Ptr Region) (bs : List (Ptr BasicBlock)) (i : ℕ) (b : Ptr BasicBlock) → AreLooseBlocks s bs → AreDistinctHandles bs
      → slice_get bs i ≡ Some b → FillsRegion s t r (take i bs) → IsLooseBlock t b
  next_loose s t r bs i b loose distinct here fills = still_loose_block s t r (take i bs) fills b (loose i b here)
      (λ k e. let a = at_take bs i k b e in let same : k ≡ i = distinct k i b a.1 here in let l : k < i = a.0 in absurd (omega arith))

pushed : (b : Ptr BasicBlock) (o : Option RegionView) → option_map (λ (v : RegionView). v.blocks) (option_map (λ (v : RegionView). record v { blocks = v.blocks ++ b ∷ [] }) o) ≡ option_map (λ (were : List (Ptr BasicBlock)). were ++ b ∷ []) (option_map (λ (v : RegionView). v.blocks) o)
pushed b None = refl
pushed b (Some v) = refl

module _ {D TypeKind AttrKind TypeBody Saved Location OpKind Attr TypeKey : Type 0}
    (c d : ContextOf D TypeKind AttrKind TypeBody Saved Location OpKind Attr TypeKey)
    (same : d.types ≡ c.types) where
  -- a block that is put last in a program is what its region gets
  pub put_fills : (r : Ptr Region) (b : Ptr BasicBlock) → EditsRegion c.program d.program r (λ (v : RegionView). record v { blocks = v.blocks ++ b ∷ [] }) → FillsRegion (seen c) (seen d) r (b ∷ [])
  put_fills r b h = record {
    filled = ap (option_map (λ (v : RegionView). v.blocks)) h.edited ∙ pushed b (region_at c.program r);
    others = λ q ne. ap (option_map (λ (v : RegionView). v.blocks)) (h.others q ne);
    operations = λ p. ap (option_map seen_operation) (h.operations p);
    blocks = λ q. ap (option_map seen_block) (h.blocks q);
    types = ap (λ ts. ts.keys) same;
  }

module _ {K A T : Type 0} where
  pub fills_no_region : (s : Seen K A T) → FillsRegions s s [] []
  fills_no_region s = record { filled = tt; others = λ q none. refl; operations = λ p. refl; blocks = λ b. refl; types = refl }

  -- one region more is filled
  pub fills_next : (s t u : Seen K A T) (rs : List (Ptr Region)) (bss : List (List (Ptr BasicBlock))) (r : Ptr Region) (bs : List (Ptr BasicBlock))
      → FillsRegions s t rs bss → FillsRegion t u r bs → IsNoneOf rs r → FillsRegions s u (rs ++ r ∷ []) (bss ++ bs ∷ [])
  fills_next s t u rs bss r bs a b none = record {
    filled = pairs_push (λ q ys. u.region q ≡ option_map (λ (were : List (Ptr BasicBlock)). were ++ ys) (s.region q)) rs bss r bs
        (pairs_map (λ q ys. t.region q ≡ option_map (λ (were : List (Ptr BasicBlock)). were ++ ys) (s.region q)) (λ q ys. u.region q ≡ option_map (λ (were : List (Ptr BasicBlock)). were ++ ys) (s.region q)) rs bss
        (λ k q ys here beside e. b.others q (λ (same : q ≡ r). none k (here ∙ ap Some same)) ∙ e) a.filled)
        (b.filled ∙ ap (option_map (λ (were : List (Ptr BasicBlock)). were ++ bs)) (a.others r none));
    others = λ q out. b.others q (λ (same : q ≡ r). let e : slice_get (rs ++ r ∷ []) (length rs) ≡ Some r = last_of rs r in out (length rs) (e ∙ ap Some (sym same)))
        ∙ a.others q (λ k e. out k (in_front rs (r ∷ []) k q e));
    operations = λ p. b.operations p ∙ a.operations p;
    blocks = λ q. b.blocks q ∙ a.blocks q;
    types = b.types ∙ a.types;
  }

  -- a block of the next list is in no region still
  pub next_list_loose : (s t : Seen K A T) (rs : List (Ptr Region)) (bss : List (List (Ptr BasicBlock))) (i : ℕ) (bs : List (Ptr BasicBlock)) → AreAllLoose s bss → ListsAreApart bss
      → slice_get bss i ≡ Some bs → FillsRegions s t rs (take i bss) → AreLooseBlocks t bs
  next_list_loose s t rs bss i bs loose apart here fills k b listed = let h = loose i bs here k b listed in record {
    there = subst IsSome (sym (fills.blocks b)) h.there;
    loose = λ q ys j e at. ⊎_elim
        (λ (found : (n : ℕ) × (slice_get rs n ≡ Some q)).
        let p = pairs_at (λ r zs. t.region r ≡ option_map (λ (were : List (Ptr BasicBlock)). were ++ zs) (s.region r)) rs (take i bss) fills.filled found.0 q found.1 in
        let m = mapped (λ (were : List (Ptr BasicBlock)). were ++ p.0) (s.region q) ys (sym p.2 ∙ e) in
        let f = at_take bss i found.0 p.0 p.1 in
        ⊎_elim
        (λ (a : slice_get m.0 j ≡ Some b). h.loose q m.0 j m.1 a)
        (λ (a : (l : ℕ) × (slice_get p.0 l ≡ Some b)). let same : found.0 ≡ i = (apart found.0 i a.0 k p.0 bs b f.1 here a.1 listed).0 in let l : found.0 < i = f.0 in absurd (omega arith))
        (in_append m.0 p.0 j b (ap (λ zs. slice_get zs j) m.2 ∙ at)))
        (λ (out : (n : ℕ) → slice_get rs n ≢ Some q). h.loose q ys j (sym (fills.others q out) ∙ e) at)
        (found_or_not q rs);
  }

  -- one region more of an operation's is filled
  pub fills_step : (s t u : Seen K A T) (rs : List (Ptr Region)) (bss : List (List (Ptr BasicBlock))) (i : ℕ) (r : Ptr Region) (bs : List (Ptr BasicBlock))
      → FillsRegions s t (take i rs) (take i bss) → slice_get rs i ≡ Some r → slice_get bss i ≡ Some bs → AreDistinctHandles rs → FillsRegion t u r bs → FillsRegions s u (take (i + 1) rs) (take (i + 1) bss)
  fills_step s t u rs bss i r bs a here beside distinct b =
      let none : IsNoneOf (take i rs) r = λ k e. let f = at_take rs i k r e in let same : k ≡ i = distinct k i r f.1 here in let l : k < i = f.0 in absurd (omega arith) in
      let next : FillsRegions s u (take i rs ++ r ∷ []) (take i bss ++ bs ∷ []) = fills_next s t u (take i rs) (take i bss) r bs a b none in
      subst (λ qs. FillsRegions s u qs (take (i + 1) bss)) (sym (take_step rs i r here)) (subst (λ qss. FillsRegions s u (take i rs ++ r ∷ []) qss) (sym (take_step bss i bs beside)) next)

regions_same : {D TypeKind AttrKind TypeBody Saved Location OpKind Attr TypeKey : Type 0}
    (o : Option (OperationView (OperationData D TypeKind AttrKind TypeBody Saved Location OpKind Attr TypeKey)))
    → unwrap_or (option_map (λ v. v.regions) o) [] ≡ unwrap_or (option_map (λ v. v.regions) (option_map seen_operation o)) []
regions_same None = refl
regions_same (Some v) = refl

module _ {D TypeKind AttrKind TypeBody Saved Location OpKind Attr TypeKey : Type 0}
    (c : ContextOf D TypeKind AttrKind TypeBody Saved Location OpKind Attr TypeKey) where
  -- the regions of an operation in a program are those that are seen
  pub regions_seen : (p : Ptr Operation) → regions_in c.program p ≡ regions_of (seen c) p
  regions_seen p = regions_same (operation_at c.program p)

  module _ (listed : AreRegionsListed c.program) where
    pub holder_stands : (r : Ptr Region) (h : HasLooseHolder (seen c) r) → StandsInOperation c.program r h.holder
    holder_stands r h = listed.0 h.holder h.index r (ap (λ rs. slice_get rs h.index) (regions_seen h.holder) ∙ h.here)

    -- a block can be put into a region of an operation that is in no block
    pub can_put : (b : Ptr BasicBlock) (r : Ptr Region) → HasLooseHolder (seen c) r → StandsInside c.program (BlockNode b) (RegionNode r) → ⊥
    can_put b r h = block_apart c.program b r h.holder listed.1 (holder_stands r h) (unlinked_operation c h.holder h.loose)

    pub regions_distinct : (p : Ptr Operation) → AreDistinctHandles (regions_of (seen c) p)
    regions_distinct p j k r a b = (listed.1 r p p j k (ap (λ rs. slice_get rs j) (regions_seen p) ∙ a) (ap (λ rs. slice_get rs k) (regions_seen p) ∙ b)).1
