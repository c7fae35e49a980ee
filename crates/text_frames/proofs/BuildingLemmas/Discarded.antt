-- Taking uses away from several things, and erasing them, one after the other.
use Rattle.std.proofs.Common.{◌≡◌, ◌⊎◌, inl, inr, ⊎_elim, ℕ, ◌+◌, List, [], ◌∷◌, ◌++◌, Option, Some, None, IsSome, option_map, slice_get, take, refl, sym, ap, ◌∙◌, subst}
use Rattle.ir_program.specs.Erased.{definer_node}
use Rattle.ir_program.specs.declared.handles.IRNode.{IRNode}
use Rattle.ir_program.specs.declared.handles.IRNode.TheVariants.{Operation as OperationNode, Region as RegionNode, BasicBlock as BlockNode}
use Rattle.ir_program.specs.declared.handles.Ptr.{Ptr}
use Rattle.ir_program.specs.declared.handles.Operation.{Operation}
use Rattle.ir_program.specs.declared.handles.Region.{Region}
use Rattle.ir_program.specs.declared.handles.BasicBlock.{BasicBlock}
use Rattle.ir_program.specs.declared.handles.Value.{Value}
use Rattle.text_dialect.specs.Seen.{SeenOperation, SeenBlock, Seen}
use Rattle.text_frames.specs.building.Kept.{SameSeen}
use Rattle.text_frames.specs.building.Inside.{IsThere, IsNowhere, IsNodeInside, itself, IsLoose, AreLoose, IsInsideSome, AreUsedInside, AreUnused, without_names, DropsUsesInNodes, ErasesNodes, CameSince, IsSeenForest, StartIsOutside}
use Rattle.text_frames.proofs.BuildingLemmas.Insides.{inside_there, loose_there, apart_before, some_front, some_back, some_either, some_one, one_some, none_inside, inside_now, inside_then}
use Rattle.text_frames.proofs.BuildingLemmas.Members.{take_step}
use Rattle.text_frames.proofs.BuildingLemmas.Options.{no_some, same_some, there, is_there, mapped}

-- an operation without names has the regions that it had
bare_regions : {K A : Type 0} (o : Option (SeenOperation K A)) → option_map (λ (u : SeenOperation K A). u.regions) (option_map without_names o) ≡ option_map (λ (u : SeenOperation K A). u.regions) o
bare_regions None = refl
bare_regions (Some o) = refl

bare_there : {K A : Type 0} (o : Option (SeenOperation K A)) → IsSome o → IsSome (option_map without_names o)
bare_there None h = h
bare_there (Some o) h = refl

-- nothing is inside some of both lists
abbrev pub HaveApart : {K A T : Type 0} → Seen K A T → List IRNode → List IRNode → Type 0
HaveApart s xs ys = (e : IRNode) → IsInsideSome s xs e → IsInsideSome s ys e → ⊥

module _ {K A T : Type 0} where
  pub drops_none : (s : Seen K A T) → DropsUsesInNodes s s []
  drops_none s = record {
    inside = λ p h. absurd (none_inside s (OperationNode p) h);
    outside = λ p out. refl;
    blocks = λ b. refl;
    regions = λ r. refl;
    types = refl;
  }

  pub erases_none : (s : Seen K A T) → ErasesNodes s s []
  erases_none s = record {
    gone = λ e h. absurd (none_inside s e h);
    operations = λ p out. refl;
    blocks = λ b out. refl;
    regions = λ r out. refl;
    types = refl;
  }

  -- the uses of the first go, and then those of the second
  module _ (s t u : Seen K A T) (xs ys : List IRNode) (apart : HaveApart s xs ys) (a : DropsUsesInNodes s t xs) where
    same_regions : (y : IRNode) (j : ℕ) → slice_get ys j ≡ Some y → (p : Ptr Operation) → IsNodeInside s y (OperationNode p) → option_map (λ (o : SeenOperation K A). o.regions) (t.operation p) ≡ option_map (λ (o : SeenOperation K A). o.regions) (s.operation p)
    same_regions y j here p i = ap (option_map (λ (o : SeenOperation K A). o.regions)) (a.outside p (λ h. apart (OperationNode p) h (record { index = j; thing = y; here = here; inside = i })))

    some_now : (e : IRNode) → IsInsideSome s ys e → IsInsideSome t ys e
    some_now e h = record { index = h.index; thing = h.thing; here = h.here; inside = inside_now s t h.thing (same_regions h.thing h.index h.here) (λ b i. a.blocks b) (λ r i. a.regions r) e h.inside }

    some_then : (e : IRNode) → IsInsideSome t ys e → IsInsideSome s ys e
    some_then e h = record { index = h.index; thing = h.thing; here = h.here; inside = inside_then s t h.thing (same_regions h.thing h.index h.here) (λ b i. a.blocks b) (λ r i. a.regions r) e h.inside }

    pub drops_both : DropsUsesInNodes t u ys → DropsUsesInNodes s u (xs ++ ys)
    drops_both b = record {
      inside = λ p h. ⊎_elim
          (λ (l : IsInsideSome s xs (OperationNode p)). b.outside p (λ i. apart (OperationNode p) l (some_then (OperationNode p) i)) ∙ a.inside p l)
          (λ (r : IsInsideSome s ys (OperationNode p)). b.inside p (some_now (OperationNode p) r) ∙ ap (option_map without_names) (a.outside p (λ l. apart (OperationNode p) l r)))
          (some_either s xs ys (OperationNode p) h);
      outside = λ p out. b.outside p (λ i. out (some_back s xs ys (OperationNode p) (some_then (OperationNode p) i))) ∙ a.outside p (λ l. out (some_front s xs ys (OperationNode p) l));
      blocks = λ q. b.blocks q ∙ a.blocks q;
      regions = λ r. b.regions r ∙ a.regions r;
      types = b.types ∙ a.types;
    }

    -- what is inside the second is there still
    pub dropped_there : (x : IRNode) → IsInsideSome s ys x → IsThere s x → IsThere t x
    dropped_there (OperationNode p) h l = subst IsSome (sym (a.outside p (λ i. apart (OperationNode p) i h))) l
    dropped_there (RegionNode r) h l = subst IsSome (sym (a.regions r)) l
    dropped_there (BlockNode b) h l = subst IsSome (sym (a.blocks b)) l

  -- one thing more
  pub drops_step : (s t u : Seen K A T) → IsSeenForest s → (xs : List IRNode) → AreLoose s xs → (i : ℕ) (x : IRNode) → slice_get xs i ≡ Some x → DropsUsesInNodes s t (take i xs) → DropsUsesInNodes t u (x ∷ []) → DropsUsesInNodes s u (take (i + 1) xs)
  drops_step s t u f xs loose i x here a b = subst (λ zs. DropsUsesInNodes s u zs) (sym (take_step xs i x here)) (drops_both s t u (take i xs) (x ∷ []) (apart_before s f xs loose i x here) a b)

  pub next_there : (s t : Seen K A T) → IsSeenForest s → (xs : List IRNode) → AreLoose s xs → (i : ℕ) (x : IRNode) → slice_get xs i ≡ Some x → DropsUsesInNodes s t (take i xs) → IsThere t x
  next_there s t f xs loose i x here a = dropped_there s t t (take i xs) (x ∷ []) (apart_before s f xs loose i x here) a x (some_one s x x itself) (loose_there s x (loose.loose i x here))

  -- what is inside none of the things isn't inside the next
  pub next_outside : (s t : Seen K A T) → IsSeenForest s → (xs : List IRNode) → AreLoose s xs → (i : ℕ) (x : IRNode) → slice_get xs i ≡ Some x → DropsUsesInNodes s t (take i xs) → (start : Seen K A T) → StartIsOutside start s xs → StartIsOutside start t (x ∷ [])
  next_outside s t f xs loose i x here a start out e shown h =
      let was = some_then s t t (take i xs) (x ∷ []) (apart_before s f xs loose i x here) a e h in
      out e shown (record { index = i; thing = x; here = here; inside = one_some s x e was })

  -- the first are erased, and then the second
  module _ (s t u : Seen K A T) (xs ys : List IRNode) (apart : HaveApart s xs ys) (a : ErasesNodes s t xs) where
    module _ (y : IRNode) (j : ℕ) (here : slice_get ys j ≡ Some y) where
      out_of : (e : IRNode) → IsNodeInside s y e → IsInsideSome s xs e → ⊥
      out_of e i h = apart e h (record { index = j; thing = y; here = here; inside = i })

      erased_now : (e : IRNode) → IsNodeInside s y e → IsNodeInside t y e
      erased_now e i = inside_now s t y (λ p k. ap (option_map (λ (o : SeenOperation K A). o.regions)) (a.operations p (out_of (OperationNode p) k))) (λ b k. a.blocks b (out_of (BlockNode b) k)) (λ r k. a.regions r (out_of (RegionNode r) k)) e i

      erased_then : (e : IRNode) → IsNodeInside t y e → IsNodeInside s y e
      erased_then e i = inside_then s t y (λ p k. ap (option_map (λ (o : SeenOperation K A). o.regions)) (a.operations p (out_of (OperationNode p) k))) (λ b k. a.blocks b (out_of (BlockNode b) k)) (λ r k. a.regions r (out_of (RegionNode r) k)) e i

    left_now : (e : IRNode) → IsInsideSome s ys e → IsInsideSome t ys e
    left_now e h = record { index = h.index; thing = h.thing; here = h.here; inside = erased_now h.thing h.index h.here e h.inside }

    pub left_then : (e : IRNode) → IsInsideSome t ys e → IsInsideSome s ys e
    left_then e h = record { index = h.index; thing = h.thing; here = h.here; inside = erased_then h.thing h.index h.here e h.inside }

    pub erases_both : ErasesNodes t u ys → ErasesNodes s u (xs ++ ys)
    erases_both b = record {
      gone = λ e h. ⊎_elim (λ (l : IsInsideSome s xs e). nowhere_still e l (a.gone e l)) (λ (r : IsInsideSome s ys e). b.gone e (left_now e r)) (some_either s xs ys e h);
      operations = λ p out. b.operations p (λ i. out (some_back s xs ys (OperationNode p) (left_then (OperationNode p) i))) ∙ a.operations p (λ l. out (some_front s xs ys (OperationNode p) l));
      blocks = λ q out. b.blocks q (λ i. out (some_back s xs ys (BlockNode q) (left_then (BlockNode q) i))) ∙ a.blocks q (λ l. out (some_front s xs ys (BlockNode q) l));
      regions = λ r out. b.regions r (λ i. out (some_back s xs ys (RegionNode r) (left_then (RegionNode r) i))) ∙ a.regions r (λ l. out (some_front s xs ys (RegionNode r) l));
      types = b.types ∙ a.types;
    } where
      nowhere_still : (e : IRNode) → IsInsideSome s xs e → IsNowhere t e → IsNowhere u e
      nowhere_still (OperationNode p) l none = b.operations p (λ i. apart (OperationNode p) l (left_then (OperationNode p) i)) ∙ none
      nowhere_still (RegionNode r) l none = b.regions r (λ i. apart (RegionNode r) l (left_then (RegionNode r) i)) ∙ none
      nowhere_still (BlockNode q) l none = b.blocks q (λ i. apart (BlockNode q) l (left_then (BlockNode q) i)) ∙ none

  -- what leads somewhere isn't inside what was erased, and led there before
  module _ (s t : Seen K A T) (xs : List IRNode) (a : ErasesNodes s t xs) where
    pub block_was : (b : Ptr BasicBlock) (v : SeenBlock) → t.block b ≡ Some v → s.block b ≡ Some v
    block_was b v e = sym (a.blocks b (λ h. no_some v (sym (a.gone (BlockNode b) h) ∙ e))) ∙ e

    pub region_was : (r : Ptr Region) (bs : List (Ptr BasicBlock)) → t.region r ≡ Some bs → s.region r ≡ Some bs
    region_was r bs e = sym (a.regions r (λ h. no_some bs (sym (a.gone (RegionNode r) h) ∙ e))) ∙ e

    pub operation_was : (p : Ptr Operation) (o : SeenOperation K A) → t.operation p ≡ Some o → s.operation p ≡ Some o
    operation_was p o e = sym (a.operations p (λ h. no_some o (sym (a.gone (OperationNode p) h) ∙ e))) ∙ e

  module _ (s t : Seen K A T) (f : IsSeenForest s) (xs : List IRNode) (loose : AreLoose s xs) (i : ℕ) (x : IRNode) (here : slice_get xs i ≡ Some x) (a : ErasesNodes s t (take i xs)) where
    apart : HaveApart s (take i xs) (x ∷ [])
    apart = apart_before s f xs loose i x here

    pub erases_step : (u : Seen K A T) → ErasesNodes t u (x ∷ []) → ErasesNodes s u (take (i + 1) xs)
    erases_step u b = subst (λ zs. ErasesNodes s u zs) (sym (take_step xs i x here)) (erases_both s t u (take i xs) (x ∷ []) apart a b)

    -- the next thing is loose still
    pub next_thing_loose : IsLoose t x
    next_thing_loose = left_loose x (loose.loose i x here) (λ h. apart x h (some_one s x x itself)) where
      left_loose : (y : IRNode) → IsLoose s y → (IsInsideSome s (take i xs) y → ⊥) → IsLoose t y
      left_loose (OperationNode p) h out = record {
        there = subst IsSome (sym (a.operations p out)) h.there;
        loose = λ b v k e listed. h.loose b v k (block_was s t (take i xs) a b v e) listed;
      }
      left_loose (RegionNode r) h out = h
      left_loose (BlockNode b) h out = record {
        there = subst IsSome (sym (a.blocks b out)) h.there;
        loose = λ r bs k e listed. h.loose r bs k (region_was s t (take i xs) a r bs e) listed;
      }

    -- what is inside none of the things isn't inside it
    pub left_outside : (start : Seen K A T) → StartIsOutside start s xs → StartIsOutside start t (x ∷ [])
    left_outside start out e shown h = out e shown (record { index = i; thing = x; here = here; inside = one_some s x e (left_then s t t (take i xs) (x ∷ []) apart a e h) })

    -- and unused
    pub next_unused : AreUnused s xs → AreUnused t (x ∷ [])
    next_unused unused = record {
      values = λ p o k v e named h. unused.values p o k v (operation_was s t (take i xs) a p o e) named (of_all (definer_node v.definer) (left_then s t t (take i xs) (x ∷ []) apart a (definer_node v.definer) h));
      blocks = λ p o k b e named h. unused.blocks p o k b (operation_was s t (take i xs) a p o e) named (of_all (BlockNode b) (left_then s t t (take i xs) (x ∷ []) apart a (BlockNode b) h));
    } where
      of_all : (e : IRNode) → IsInsideSome s (x ∷ []) e → IsInsideSome s xs e
      of_all e h = record { index = i; thing = x; here = here; inside = one_some s x e h }

  -- where all uses inside the things are taken away
  module _ (s t : Seen K A T) (xs : List IRNode) (a : DropsUsesInNodes s t xs) where
    things_regions : (y : IRNode) (j : ℕ) → slice_get xs j ≡ Some y → (p : Ptr Operation) → IsNodeInside s y (OperationNode p) → option_map (λ (o : SeenOperation K A). o.regions) (t.operation p) ≡ option_map (λ (o : SeenOperation K A). o.regions) (s.operation p)
    things_regions y j here p i = ap (option_map (λ (o : SeenOperation K A). o.regions)) (a.inside p (record { index = j; thing = y; here = here; inside = i })) ∙ bare_regions (s.operation p)

    things_now : (e : IRNode) → IsInsideSome s xs e → IsInsideSome t xs e
    things_now e h = record { index = h.index; thing = h.thing; here = h.here; inside = inside_now s t h.thing (things_regions h.thing h.index h.here) (λ b i. a.blocks b) (λ r i. a.regions r) e h.inside }

    things_then : (e : IRNode) → IsInsideSome t xs e → IsInsideSome s xs e
    things_then e h = record { index = h.index; thing = h.thing; here = h.here; inside = inside_then s t h.thing (things_regions h.thing h.index h.here) (λ b i. a.blocks b) (λ r i. a.regions r) e h.inside }

    pub bare_loose : AreLoose s xs → AreLoose t xs
    bare_loose h = record {
      loose = λ k x here. still x (h.loose k x here) (record { index = k; thing = x; here = here; inside = itself });
      once = h.once;
    } where
      still : (x : IRNode) → IsLoose s x → IsInsideSome s xs x → IsLoose t x
      still (OperationNode p) l i = record {
        there = subst IsSome (sym (a.inside p i)) (bare_there (s.operation p) l.there);
        loose = λ b v k e listed. l.loose b v k (sym (a.blocks b) ∙ e) listed;
      }
      still (RegionNode r) l i = l
      still (BlockNode b) l i = record {
        there = subst IsSome (sym (a.blocks b)) l.there;
        loose = λ r bs k e listed. l.loose r bs k (sym (a.regions r) ∙ e) listed;
      }

    pub bare_unused : AreUsedInside s xs → AreUnused t xs
    bare_unused used = record {
      values = λ p o k v e named h.
          let out : IsInsideSome s xs (OperationNode p) → ⊥ = λ i. no_operand p o k v e named i in
          out (used.values p o k v (sym (a.outside p out) ∙ e) named (things_then (definer_node v.definer) h));
      blocks = λ p o k b e named h.
          let out : IsInsideSome s xs (OperationNode p) → ⊥ = λ i. no_successor p o k b e named i in
          out (used.blocks p o k b (sym (a.outside p out) ∙ e) named (things_then (BlockNode b) h));
    } where
      no_operand : (p : Ptr Operation) (o : SeenOperation K A) (k : ℕ) (v : Value) → t.operation p ≡ Some o → slice_get o.operands k ≡ Some v → IsInsideSome s xs (OperationNode p) → ⊥
      no_operand p o k v e named i =
          let m = mapped without_names (s.operation p) o (sym (a.inside p i) ∙ e) in
          no_some v (ap (λ (y : SeenOperation K A). slice_get y.operands k) m.2 ∙ named)

      no_successor : (p : Ptr Operation) (o : SeenOperation K A) (k : ℕ) (b : Ptr BasicBlock) → t.operation p ≡ Some o → slice_get o.successors k ≡ Some b → IsInsideSome s xs (OperationNode p) → ⊥
      no_successor p o k b e named i =
          let m = mapped without_names (s.operation p) o (sym (a.inside p i) ∙ e) in
          no_some b (ap (λ (y : SeenOperation K A). slice_get y.successors k) m.2 ∙ named)

    -- what is inside none of them is so still
    pub bare_outside : (start : Seen K A T) → StartIsOutside start s xs → StartIsOutside start t xs
    bare_outside start out e shown h = out e shown (things_then e h)

    -- erasing them then is erasing them
    pub erases_bare : (u : Seen K A T) → ErasesNodes t u xs → ErasesNodes s u xs
    erases_bare u b = record {
      gone = λ e h. b.gone e (things_now e h);
      operations = λ p out. b.operations p (λ i. out (things_then (OperationNode p) i)) ∙ a.outside p out;
      blocks = λ q out. b.blocks q (λ i. out (things_then (BlockNode q) i)) ∙ a.blocks q;
      regions = λ r out. b.regions r (λ i. out (things_then (RegionNode r) i)) ∙ a.regions r;
      types = b.types ∙ a.types;
    }

some_or_none : {X : Type 0} (o : Option X) → ((x : X) × (o ≡ Some x)) ⊎ (o ≡ None)
some_or_none None = inr refl
some_or_none (Some x) = inl (x, refl)

module _ {K A T : Type 0} (start s : Seen K A T) (xs : List IRNode) (came : CameSince start s xs) where
  -- what came since is used by what came since
  pub used_since : AreUsedInside s xs
  used_since = record {
    values = λ p o k v e named h. ⊎_elim
        (λ (was : (u : SeenOperation K A) × (start.operation p ≡ Some u)).
        let same : was.0 ≡ o = same_some was.0 o (sym (came.keeps.operations p was.0 was.1) ∙ e) in
        absurd (came.old (definer_node v.definer) (came.named.values p o k v (was.1 ∙ ap Some same) named) h))
        (λ (none : start.operation p ≡ None). came.came (OperationNode p) none (there (s.operation p) o e))
        (some_or_none (start.operation p));
    blocks = λ p o k b e named h. ⊎_elim
        (λ (was : (u : SeenOperation K A) × (start.operation p ≡ Some u)).
        let same : was.0 ≡ o = same_some was.0 o (sym (came.keeps.operations p was.0 was.1) ∙ e) in
        absurd (came.old (BlockNode b) (came.named.blocks p o k b (was.1 ∙ ap Some same) named) h))
        (λ (none : start.operation p ≡ None). came.came (OperationNode p) none (there (s.operation p) o e))
        (some_or_none (start.operation p));
  }

  module _ (f : IsSeenForest s) (loose : AreLoose s xs) (u : Seen K A T) (b : ErasesNodes s u xs) where
    inside_live : (e : IRNode) → IsInsideSome s xs e → IsThere s e
    inside_live e h = inside_there s f h.thing (loose_there s h.thing (loose.loose h.index h.thing h.here)) e h.inside

    none_there : {X : Type 0} (o : Option X) → o ≡ None → IsSome o → ⊥
    none_there o e h = let m = is_there o h in no_some m.0 (sym e ∙ m.1)

    -- so what is left once it is erased is what there was
    pub undone : SameSeen start u
    undone = record {
      operations = λ p. ⊎_elim
          (λ (was : (o : SeenOperation K A) × (start.operation p ≡ Some o)).
          b.operations p (λ h. came.old (OperationNode p) (there (start.operation p) was.0 was.1) h) ∙ came.keeps.operations p was.0 was.1 ∙ sym was.1)
          (λ (none : start.operation p ≡ None). ⊎_elim
          (λ (now : (o : SeenOperation K A) × (s.operation p ≡ Some o)). b.gone (OperationNode p) (came.came (OperationNode p) none (there (s.operation p) now.0 now.1)) ∙ sym none)
          (λ (no : s.operation p ≡ None). b.operations p (λ h. none_there (s.operation p) no (inside_live (OperationNode p) h)) ∙ no ∙ sym none)
          (some_or_none (s.operation p)))
          (some_or_none (start.operation p));
      blocks = λ q. ⊎_elim
          (λ (was : (v : SeenBlock) × (start.block q ≡ Some v)).
          b.blocks q (λ h. came.old (BlockNode q) (there (start.block q) was.0 was.1) h) ∙ came.keeps.blocks q was.0 was.1 ∙ sym was.1)
          (λ (none : start.block q ≡ None). ⊎_elim
          (λ (now : (v : SeenBlock) × (s.block q ≡ Some v)). b.gone (BlockNode q) (came.came (BlockNode q) none (there (s.block q) now.0 now.1)) ∙ sym none)
          (λ (no : s.block q ≡ None). b.blocks q (λ h. none_there (s.block q) no (inside_live (BlockNode q) h)) ∙ no ∙ sym none)
          (some_or_none (s.block q)))
          (some_or_none (start.block q));
      regions = λ r. ⊎_elim
          (λ (was : (bs : List (Ptr BasicBlock)) × (start.region r ≡ Some bs)).
          b.regions r (λ h. came.old (RegionNode r) (there (start.region r) was.0 was.1) h) ∙ came.keeps.regions r was.0 was.1 ∙ sym was.1)
          (λ (none : start.region r ≡ None). ⊎_elim
          (λ (now : (bs : List (Ptr BasicBlock)) × (s.region r ≡ Some bs)). b.gone (RegionNode r) (came.came (RegionNode r) none (there (s.region r) now.0 now.1)) ∙ sym none)
          (λ (no : s.region r ≡ None). b.regions r (λ h. none_there (s.region r) no (inside_live (RegionNode r) h)) ∙ no ∙ sym none)
          (some_or_none (s.region r)))
          (some_or_none (start.region r));
      types = λ n key e. ap (λ ts. slice_get ts n) b.types ∙ came.keeps.types n key e;
    }
