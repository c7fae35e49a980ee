-- What has come since a context was seen stays inside the loose things while more is made.
use Rattle.std.proofs.Common.{◌≡◌, ◌≢◌, ◌⊎◌, inl, inr, ⊎_elim, ℕ, List, [], ◌∷◌, ◌++◌, Option, Some, None, IsSome, option_map, slice_get, length, refl, sym, ap, ◌∙◌, subst}
use Rattle.ir_base.specs.declared.types.TypeHandle.{TypeHandle}
use Rattle.ir_names.specs.declared.identifier.Identifier.{Identifier}
use Rattle.ir_program.specs.declared.handles.IRNode.{IRNode}
use Rattle.ir_program.specs.declared.handles.IRNode.TheVariants.{Operation as OperationNode, Region as RegionNode, BasicBlock as BlockNode}
use Rattle.ir_program.specs.declared.handles.Ptr.{Ptr}
use Rattle.ir_program.specs.declared.handles.Operation.{Operation}
use Rattle.ir_program.specs.declared.handles.Region.{Region}
use Rattle.ir_program.specs.declared.handles.BasicBlock.{BasicBlock}
use Rattle.ir_program.specs.declared.handles.Value.{Value}
use Rattle.ir_program.proofs.made.Frames.{same_or_not}
use Rattle.text_dialect.specs.Seen.{SeenOperation, SeenBlock, Seen}
use Rattle.text_frames.specs.building.Kept.{KeepsAllSeen, SameSeen}
use Rattle.text_frames.specs.building.Made.{OpensBlock, MakesDetachedOperation, AppendsOperation, LinksUses}
use Rattle.text_frames.specs.building.Inside.{IsThere, IsNowhere, IsNodeInside, itself, in_block, in_region, in_operation, AreLoose, IsInsideSome, NamesWhatIsThere, CameSince, IsSeenForest}
use Rattle.text_frames.specs.building.Came.{IsAmong, OneMore, Attached, TakenIn}
use Rattle.text_frames.proofs.BuildingLemmas.Insides.{HolderInside, itself_or_held, loose_there, around_loose, none_inside, inside_now, inside_then}
use Rattle.text_frames.proofs.BuildingLemmas.Later.{keeps_both, same_keeps, opens_keeps, makes_keeps}
use Rattle.text_frames.proofs.BuildingLemmas.Members.{in_append, in_front, last_of, only_member, found_or_not, pairs_at, pairs_back}
use Rattle.text_frames.proofs.BuildingLemmas.Options.{no_some, same_some, is_there, there, mapped}

module _ {K A T : Type 0} where
  -- where all is kept, what was inside something is so
  inside_kept : (s t : Seen K A T) → KeepsAllSeen s t → (x e : IRNode) → IsNodeInside s x e → IsNodeInside t x e
  inside_kept s t k x _ itself = itself
  inside_kept s t k x _ (in_block p b v j e listed i) = in_block p b v j (k.blocks b v e) listed (inside_kept s t k x (BlockNode b) i)
  inside_kept s t k x _ (in_region b r bs j e listed i) = in_region b r bs j (k.regions r bs e) listed (inside_kept s t k x (RegionNode r) i)
  inside_kept s t k x _ (in_operation r p o j e listed i) = in_operation r p o j (k.operations p o e) listed (inside_kept s t k x (OperationNode p) i)

  inside_both : (s : Seen K A T) (x y e : IRNode) → IsNodeInside s x y → IsNodeInside s y e → IsNodeInside s x e
  inside_both s x y _ a itself = a
  inside_both s x y _ a (in_block p b v j e listed i) = in_block p b v j e listed (inside_both s x y (BlockNode b) a i)
  inside_both s x y _ a (in_region b r bs j e listed i) = in_region b r bs j e listed (inside_both s x y (RegionNode r) a i)
  inside_both s x y _ a (in_operation r p o j e listed i) = in_operation r p o j e listed (inside_both s x y (OperationNode p) a i)

  there_kept : (s t : Seen K A T) → KeepsAllSeen s t → (e : IRNode) → IsThere s e → IsThere t e
  there_kept s t k (OperationNode p) h = let m = is_there (s.operation p) h in there (t.operation p) m.0 (k.operations p m.0 m.1)
  there_kept s t k (RegionNode r) h = let m = is_there (s.region r) h in there (t.region r) m.0 (k.regions r m.0 m.1)
  there_kept s t k (BlockNode b) h = let m = is_there (s.block b) h in there (t.block b) m.0 (k.blocks b m.0 m.1)

  -- what is there isn't nowhere
  not_both : (s : Seen K A T) (e : IRNode) → IsThere s e → IsNowhere s e → ⊥
  not_both s (OperationNode p) h none = let m = is_there (s.operation p) h in no_some m.0 (sym none ∙ m.1)
  not_both s (RegionNode r) h none = let m = is_there (s.region r) h in no_some m.0 (sym none ∙ m.1)
  not_both s (BlockNode b) h none = let m = is_there (s.block b) h in no_some m.0 (sym none ∙ m.1)

  some_of : (s : Seen K A T) (xs : List IRNode) (x e : IRNode) → IsAmong x xs → IsNodeInside s x e → IsInsideSome s xs e
  some_of s xs x e a i = record { index = a.0; thing = x; here = a.1; inside = i }

  -- at the start nothing has come
  pub came_none : (s : Seen K A T) → NamesWhatIsThere s → CameSince s s []
  came_none s named = record {
    keeps = record { operations = λ p o e. e; blocks = λ b v e. e; regions = λ r bs e. e; types = λ n key e. e };
    named = named;
    old = λ e h i. none_inside s e i;
    came = λ e none h. absurd (not_both s e h none);
  }

  -- a refused call changes nothing of it
  pub came_same : (start s t : Seen K A T) (xs : List IRNode) → CameSince start s xs → SameSeen s t → CameSince start t xs
  came_same start s t xs came same = record {
    keeps = keeps_both start s t came.keeps (same_keeps s t same);
    named = came.named;
    old = λ e h i. came.old e h (record {
      index = i.index;
      thing = i.thing;
      here = i.here;
      inside = inside_then s t i.thing (λ p j. ap (option_map (λ (o : SeenOperation K A). o.regions)) (same.operations p)) (λ b j. same.blocks b) (λ r j. same.regions r) e i.inside;
    });
    came = λ e none h. let i = came.came e none (back e h) in record { index = i.index; thing = i.thing; here = i.here; inside = inside_kept s t (same_keeps s t same) i.thing e i.inside };
  } where
    back : (e : IRNode) → IsThere t e → IsThere s e
    back (OperationNode p) h = subst IsSome (same.operations p) h
    back (RegionNode r) h = subst IsSome (same.regions r) h
    back (BlockNode b) h = subst IsSome (same.blocks b) h

  -- a new block is one thing more
  module _ (start s t : Seen K A T) (xs ys : List IRNode) (b : Ptr BasicBlock) (label : Option Identifier) (tys : List TypeHandle) (n : ℕ)
      (came : CameSince start s xs) (opens : OpensBlock s t b label tys n) (more : OneMore xs ys (BlockNode b)) where
    opened_inside : (x e : IRNode) → IsNodeInside t x e → IsNodeInside s x e
    opened_inside x _ itself = itself
    opened_inside x _ (in_block p c v k e listed i) = ⊎_elim
        (λ (same : c ≡ b). no_some p (ap (λ (w : SeenBlock). slice_get w.operations k) (same_some _ v (sym opens.made ∙ ap t.block (sym same) ∙ e)) ∙ listed))
        (λ (ne : c ≢ b). in_block p c v k (sym (opens.others c ne) ∙ e) listed (opened_inside x (BlockNode c) i))
        (same_or_not c b)
    opened_inside x _ (in_region c r bs k e listed i) = in_region c r bs k (sym (opens.regions r) ∙ e) listed (opened_inside x (RegionNode r) i)
    opened_inside x _ (in_operation r p o k e listed i) = in_operation r p o k (sym (opens.operations p) ∙ e) listed (opened_inside x (OperationNode p) i)

    -- nothing but itself is inside what is nowhere
    alone : (x e : IRNode) → IsNowhere s x → IsNodeInside s x e → x ≡ e
    alone x _ none itself = refl
    alone x _ none (in_block p c v k e listed i) = let q = alone x (BlockNode c) none i in let no : IsNowhere s (BlockNode c) = subst (IsNowhere s) q none in no_some v (sym no ∙ e)
    alone x _ none (in_region c r bs k e listed i) = let q = alone x (RegionNode r) none i in let no : IsNowhere s (RegionNode r) = subst (IsNowhere s) q none in no_some bs (sym no ∙ e)
    alone x _ none (in_operation r p o k e listed i) = let q = alone x (OperationNode p) none i in let no : IsNowhere s (OperationNode p) = subst (IsNowhere s) q none in no_some o (sym no ∙ e)

    keeps : KeepsAllSeen s t
    keeps = opens_keeps s t b label tys n opens

    here_or_new : (e : IRNode) → IsThere t e → IsThere s e ⊎ (BlockNode b ≡ e)
    here_or_new (OperationNode p) h = inl (subst IsSome (opens.operations p) h)
    here_or_new (RegionNode r) h = inl (subst IsSome (opens.regions r) h)
    here_or_new (BlockNode c) h = ⊎_elim (λ (same : c ≡ b). inr (ap BlockNode (sym same))) (λ (ne : c ≢ b). inl (subst IsSome (opens.others c ne) h)) (same_or_not c b)

    pub came_opens : CameSince start t ys
    came_opens = record {
      keeps = keeps_both start s t came.keeps keeps;
      named = came.named;
      old = λ e h i. ⊎_elim
          (λ (a : IsAmong i.thing xs). came.old e h (some_of s xs i.thing e a (opened_inside i.thing e i.inside)))
          (λ (q : i.thing ≡ BlockNode b).
          let j : IsNodeInside s (BlockNode b) e = subst (λ y. IsNodeInside s y e) q (opened_inside i.thing e i.inside) in
          let r : BlockNode b ≡ e = alone (BlockNode b) e opens.fresh j in
          not_both s (BlockNode b) (there_kept start s came.keeps (BlockNode b) (subst (IsThere start) (sym r) h)) opens.fresh)
          (more.from i.thing (i.index, i.here));
      came = λ e none h. ⊎_elim
          (λ (l : IsThere s e). let i = came.came e none l in some_of t ys i.thing e (more.front i.thing (i.index, i.here)) (inside_kept s t keeps i.thing e i.inside))
          (λ (q : BlockNode b ≡ e). some_of t ys (BlockNode b) e more.new (subst (IsNodeInside t (BlockNode b)) q itself))
          (here_or_new e h);
    }

  -- an operation that gets operands stays where it is
  pub came_links : (start s t : Seen K A T) (xs : List IRNode) (p : Ptr Operation) (vs : List Value) (cs : List (Ptr BasicBlock)) → CameSince start s xs → LinksUses s t p vs cs → IsNowhere start (OperationNode p) → CameSince start t xs
  came_links start s t xs p vs cs came links new = record {
    keeps = record {
      operations = λ q o e. links.others q (λ same. no_some o (sym new ∙ ap start.operation (sym same) ∙ e)) ∙ came.keeps.operations q o e;
      blocks = λ b v e. links.blocks b ∙ came.keeps.blocks b v e;
      regions = λ r bs e. links.regions r ∙ came.keeps.regions r bs e;
      types = λ n key e. ap (λ ts. slice_get ts n) links.types ∙ came.keeps.types n key e;
    };
    named = came.named;
    old = λ e h i. came.old e h (some_of s xs i.thing e (i.index, i.here) (inside_then s t i.thing (λ q j. same_regions q) (λ b j. links.blocks b) (λ r j. links.regions r) e i.inside));
    came = λ e none h. let i = came.came e none (back e h) in some_of t xs i.thing e (i.index, i.here) (inside_now s t i.thing (λ q j. same_regions q) (λ b j. links.blocks b) (λ r j. links.regions r) e i.inside);
  } where
    kept_regions : (o : Option (SeenOperation K A)) → option_map (λ (u : SeenOperation K A). u.regions) (option_map (λ (u : SeenOperation K A). record u { operands = u.operands ++ vs; successors = u.successors ++ cs }) o) ≡ option_map (λ (u : SeenOperation K A). u.regions) o
    kept_regions None = refl
    kept_regions (Some o) = refl

    same_regions : (q : Ptr Operation) → option_map (λ (o : SeenOperation K A). o.regions) (t.operation q) ≡ option_map (λ (o : SeenOperation K A). o.regions) (s.operation q)
    same_regions q = ⊎_elim
        (λ (same : q ≡ p). subst (λ z. option_map (λ (o : SeenOperation K A). o.regions) (t.operation z) ≡ option_map (λ (o : SeenOperation K A). o.regions) (s.operation z)) (sym same)
        (ap (option_map (λ (o : SeenOperation K A). o.regions)) links.linked ∙ kept_regions (s.operation p)))
        (λ (ne : q ≢ p). ap (option_map (λ (o : SeenOperation K A). o.regions)) (links.others q ne))
        (same_or_not q p)

    was : (o : Option (SeenOperation K A)) → IsSome (option_map (λ (u : SeenOperation K A). u.regions) o) → IsSome o
    was None h = h
    was (Some o) h = h

    is : (o : Option (SeenOperation K A)) → IsSome o → IsSome (option_map (λ (u : SeenOperation K A). u.regions) o)
    is None h = h
    is (Some o) h = h

    back : (e : IRNode) → IsThere t e → IsThere s e
    back (OperationNode q) h = was (s.operation q) (subst IsSome (same_regions q) (is (t.operation q) h))
    back (RegionNode r) h = subst IsSome (links.regions r) h
    back (BlockNode b) h = subst IsSome (links.blocks b) h

  -- an operation that goes into an open block is inside that one
  module _ (start s t : Seen K A T) (xs ys : List IRNode) (b : Ptr BasicBlock) (p : Ptr Operation) (came : CameSince start s xs) (appends : AppendsOperation s t b p) (attached : Attached xs ys b p) where
    now_inside : (x e : IRNode) → IsNodeInside s x e → IsNodeInside t x e
    now_inside x _ itself = itself
    now_inside x _ (in_block q c v k e listed i) = ⊎_elim
        (λ (same : c ≡ b). in_block q c (record v { operations = v.operations ++ p ∷ [] }) k
        (ap t.block same ∙ appends.appended ∙ ap (option_map (λ (w : SeenBlock). record w { operations = w.operations ++ p ∷ [] })) (ap s.block (sym same) ∙ e))
        (in_front v.operations (p ∷ []) k q listed) (now_inside x (BlockNode c) i))
        (λ (ne : c ≢ b). in_block q c v k (appends.others c ne ∙ e) listed (now_inside x (BlockNode c) i))
        (same_or_not c b)
    now_inside x _ (in_region c r bs k e listed i) = in_region c r bs k (appends.regions r ∙ e) listed (now_inside x (RegionNode r) i)
    now_inside x _ (in_operation r q o k e listed i) = in_operation r q o k (appends.operations q ∙ e) listed (now_inside x (OperationNode q) i)

    then_inside : (x e : IRNode) → IsNodeInside t x e → IsNodeInside s x e ⊎ IsNodeInside s (OperationNode p) e
    then_inside x _ itself = inl itself
    then_inside x _ (in_block q c v k e listed i) = ⊎_elim
        (λ (same : c ≡ b).
        let m = mapped (λ (w : SeenBlock). record w { operations = w.operations ++ p ∷ [] }) (s.block b) v (sym appends.appended ∙ ap t.block (sym same) ∙ e) in
        let at : s.block c ≡ Some m.0 = ap s.block same ∙ m.1 in
        ⊎_elim
        (λ (a : slice_get m.0.operations k ≡ Some q). ⊎_elim (λ (l : IsNodeInside s x (BlockNode c)). inl (in_block q c m.0 k at a l)) (λ (r : IsNodeInside s (OperationNode p) (BlockNode c)). inr (in_block q c m.0 k at a r)) (then_inside x (BlockNode c) i))
        (λ (a : (j : ℕ) × (slice_get (p ∷ []) j ≡ Some q)). inr (subst (λ z. IsNodeInside s (OperationNode p) (OperationNode z)) (sym (only_member p a.0 q a.1)) itself))
        (in_append m.0.operations (p ∷ []) k q (ap (λ (w : SeenBlock). slice_get w.operations k) m.2 ∙ listed)))
        (λ (ne : c ≢ b).
        let at : s.block c ≡ Some v = sym (appends.others c ne) ∙ e in
        ⊎_elim (λ (l : IsNodeInside s x (BlockNode c)). inl (in_block q c v k at listed l)) (λ (r : IsNodeInside s (OperationNode p) (BlockNode c)). inr (in_block q c v k at listed r)) (then_inside x (BlockNode c) i))
        (same_or_not c b)
    then_inside x _ (in_region c r bs k e listed i) = let at : s.region r ≡ Some bs = sym (appends.regions r) ∙ e in
        ⊎_elim (λ (l : IsNodeInside s x (RegionNode r)). inl (in_region c r bs k at listed l)) (λ (g : IsNodeInside s (OperationNode p) (RegionNode r)). inr (in_region c r bs k at listed g)) (then_inside x (RegionNode r) i)
    then_inside x _ (in_operation r q o k e listed i) = let at : s.operation q ≡ Some o = sym (appends.operations q) ∙ e in
        ⊎_elim (λ (l : IsNodeInside s x (OperationNode q)). inl (in_operation r q o k at listed l)) (λ (g : IsNodeInside s (OperationNode p) (OperationNode q)). inr (in_operation r q o k at listed g)) (then_inside x (OperationNode q) i)

    unpushed : (o : Option SeenBlock) → IsSome (option_map (λ (w : SeenBlock). record w { operations = w.operations ++ p ∷ [] }) o) → IsSome o
    unpushed None h = h
    unpushed (Some w) h = h

    back : (e : IRNode) → IsThere t e → IsThere s e
    back (OperationNode q) h = subst IsSome (appends.operations q) h
    back (RegionNode r) h = subst IsSome (appends.regions r) h
    back (BlockNode c) h = ⊎_elim
        (λ (same : c ≡ b). subst IsSome (ap s.block (sym same)) (unpushed (s.block b) (subst IsSome (ap t.block same ∙ appends.appended) h)))
        (λ (ne : c ≢ b). subst IsSome (appends.others c ne) h)
        (same_or_not c b)

    pub came_appends : IsThere s (BlockNode b) → CameSince start t ys
    came_appends there_now = record {
      keeps = record {
        operations = λ q o e. appends.operations q ∙ came.keeps.operations q o e;
        blocks = λ c v e. appends.others c (λ same. came.old (BlockNode b) (there (start.block b) v (ap start.block (sym same) ∙ e)) (some_of s xs (BlockNode b) (BlockNode b) attached.was_open itself)) ∙ came.keeps.blocks c v e;
        regions = λ r bs e. appends.regions r ∙ came.keeps.regions r bs e;
        types = λ n key e. ap (λ ts. slice_get ts n) appends.types ∙ came.keeps.types n key e;
      };
      named = came.named;
      old = λ e h i. ⊎_elim
          (λ (l : IsNodeInside s i.thing e). came.old e h (some_of s xs i.thing e (attached.from i.thing (i.index, i.here)) l))
          (λ (r : IsNodeInside s (OperationNode p) e). came.old e h (some_of s xs (OperationNode p) e attached.was_loose r))
          (then_inside i.thing e i.inside);
      came = λ e none h. let i = came.came e none (back e h) in ⊎_elim
          (λ (a : IsAmong i.thing ys). some_of t ys i.thing e a (now_inside i.thing e i.inside))
          (λ (q : i.thing ≡ OperationNode p).
          let m = is_there (s.block b) there_now in
          let at : t.block b ≡ Some (record m.0 { operations = m.0.operations ++ p ∷ [] }) = appends.appended ∙ ap (option_map (λ (w : SeenBlock). record w { operations = w.operations ++ p ∷ [] })) m.1 in
          let j : IsNodeInside t (OperationNode p) e = subst (λ y. IsNodeInside t y e) q (now_inside i.thing e i.inside) in
          some_of t ys (BlockNode b) e attached.stays (inside_both t (BlockNode b) (OperationNode p) e (in_block p b (record m.0 { operations = m.0.operations ++ p ∷ [] }) (length m.0.operations) at (last_of m.0.operations p) itself) j))
          (attached.but_one i.thing (i.index, i.here));
    }

  -- an operation that takes blocks in has all that was inside them inside it
  module _ (start s t : Seen K A T) (xs ys : List IRNode) (p : Ptr Operation) (kind : K) (attributes : List (List ℕ × A)) (tys : List TypeHandle) (n : ℕ) (bss : List (List (Ptr BasicBlock)))
      (came : CameSince start s xs) (made : MakesDetachedOperation s t p kind attributes tys n bss) (forest : IsSeenForest s) (loose : AreLoose s xs) (taken : TakenIn xs ys p bss) where
    all_kept : KeepsAllSeen s t
    all_kept = makes_keeps s t p kind attributes tys n bss made

    -- the new operation isn't inside what was there
    not_around : (y : IRNode) → IsThere s y → IsNodeInside t y (OperationNode p) → ⊥
    not_around y h i = let q : y ≡ OperationNode p = around_loose t y (OperationNode p) made.loose i in not_both s (OperationNode p) (subst (IsThere s) q h) made.fresh

    -- nor are its regions
    not_handle : (y : IRNode) → IsThere s y → (r : Ptr Region) (k : ℕ) → slice_get made.handles k ≡ Some r → IsNodeInside t y (RegionNode r) → ⊥
    not_handle y h r k at i = ⊎_elim
        (λ (e : y ≡ RegionNode r). not_both s (RegionNode r) (subst (IsThere s) e h) (made.fresh_regions k r at))
        (λ (g : HolderInside t y (RegionNode r)). ⊎_elim
        (λ (same : g.0 ≡ p). not_around y h (subst (λ z. IsNodeInside t y (OperationNode z)) same g.5))
        (λ (ne : g.0 ≢ p). not_both s (RegionNode r) (forest.region_there g.0 g.1 g.2 r (sym (made.others g.0 ne) ∙ g.3) g.4) (made.fresh_regions k r at))
        (same_or_not g.0 p))
        (itself_or_held t y (RegionNode r) i)

    old_inside : (y : IRNode) → IsThere s y → (e : IRNode) → IsNodeInside t y e → IsNodeInside s y e
    old_inside y h _ itself = itself
    old_inside y h _ (in_block q c v k e listed i) = in_block q c v k (sym (made.blocks c) ∙ e) listed (old_inside y h (BlockNode c) i)
    old_inside y h _ (in_region c r bs k e listed i) = ⊎_elim
        (λ (found : (j : ℕ) × (slice_get made.handles j ≡ Some r)). absurd (not_handle y h r found.0 found.1 i))
        (λ (out : (j : ℕ) → slice_get made.handles j ≢ Some r). in_region c r bs k (sym (made.regions r out) ∙ e) listed (old_inside y h (RegionNode r) i))
        (found_or_not r made.handles)
    old_inside y h _ (in_operation r q o k e listed i) = ⊎_elim
        (λ (same : q ≡ p). absurd (not_around y h (subst (λ z. IsNodeInside t y (OperationNode z)) same i)))
        (λ (ne : q ≢ p). in_operation r q o k (sym (made.others q ne) ∙ e) listed (old_inside y h (OperationNode q) i))
        (same_or_not q p)

    -- what is inside the new operation is new, or was inside one of the things
    new_or_old : (e : IRNode) → IsNodeInside t (OperationNode p) e → IsNowhere s e ⊎ IsInsideSome s xs e
    new_or_old _ itself = inl made.fresh
    new_or_old _ (in_block q c v k e listed i) = let at : s.block c ≡ Some v = sym (made.blocks c) ∙ e in ⊎_elim
        (λ (none : IsNowhere s (BlockNode c)). no_some v (sym none ∙ at))
        (λ (g : IsInsideSome s xs (BlockNode c)). inr (some_of s xs g.thing (OperationNode q) (g.index, g.here) (in_block q c v k at listed g.inside)))
        (new_or_old (BlockNode c) i)
    new_or_old _ (in_region c r bs k e listed i) = ⊎_elim
        (λ (found : (j : ℕ) × (slice_get made.handles j ≡ Some r)).
        let g = pairs_at (λ x zs. t.region x ≡ Some zs) made.handles bss made.filled found.0 r found.1 in
        let in_list : slice_get g.0 k ≡ Some c = ap (λ zs. slice_get zs k) (same_some g.0 bs (sym g.2 ∙ e)) ∙ listed in
        inr (some_of s xs (BlockNode c) (BlockNode c) (taken.blocks found.0 k g.0 c g.1 in_list) itself))
        (λ (out : (j : ℕ) → slice_get made.handles j ≢ Some r).
        let at : s.region r ≡ Some bs = sym (made.regions r out) ∙ e in ⊎_elim
        (λ (none : IsNowhere s (RegionNode r)). no_some bs (sym none ∙ at))
        (λ (g : IsInsideSome s xs (RegionNode r)). inr (some_of s xs g.thing (BlockNode c) (g.index, g.here) (in_region c r bs k at listed g.inside)))
        (new_or_old (RegionNode r) i))
        (found_or_not r made.handles)
    new_or_old _ (in_operation r q o k e listed i) = ⊎_elim
        (λ (same : q ≡ p). inl (made.fresh_regions k r (ap (λ (u : SeenOperation K A). slice_get u.regions k) (same_some _ o (sym made.made ∙ ap t.operation (sym same) ∙ e)) ∙ listed)))
        (λ (ne : q ≢ p).
        let at : s.operation q ≡ Some o = sym (made.others q ne) ∙ e in ⊎_elim
        (λ (none : IsNowhere s (OperationNode q)). no_some o (sym none ∙ at))
        (λ (g : IsInsideSome s xs (OperationNode q)). inr (some_of s xs g.thing (RegionNode r) (g.index, g.here) (in_operation r q o k at listed g.inside)))
        (new_or_old (OperationNode q) i))
        (same_or_not q p)

    handle_in : (k : ℕ) (r : Ptr Region) → slice_get made.handles k ≡ Some r → IsNodeInside t (OperationNode p) (RegionNode r)
    handle_in k r at = in_operation r p _ k made.made at itself

    block_in : (i k : ℕ) (bs : List (Ptr BasicBlock)) (b : Ptr BasicBlock) → slice_get bss i ≡ Some bs → slice_get bs k ≡ Some b → IsNodeInside t (OperationNode p) (BlockNode b)
    block_in i k bs b at listed = let g = pairs_back (λ x zs. t.region x ≡ Some zs) made.handles bss made.filled i bs at in in_region b g.0 bs k g.2 listed (handle_in i g.0 g.1)

    there_or_in : (e : IRNode) → IsThere t e → IsThere s e ⊎ IsNodeInside t (OperationNode p) e
    there_or_in (OperationNode q) h = ⊎_elim
        (λ (same : q ≡ p). inr (subst (λ z. IsNodeInside t (OperationNode p) (OperationNode z)) (sym same) itself))
        (λ (ne : q ≢ p). inl (subst IsSome (made.others q ne) h))
        (same_or_not q p)
    there_or_in (RegionNode r) h = ⊎_elim
        (λ (found : (j : ℕ) × (slice_get made.handles j ≡ Some r)). inr (handle_in found.0 r found.1))
        (λ (out : (j : ℕ) → slice_get made.handles j ≢ Some r). inl (subst IsSome (made.regions r out) h))
        (found_or_not r made.handles)
    there_or_in (BlockNode b) h = inl (subst IsSome (made.blocks b) h)

    pub came_makes : CameSince start t ys
    came_makes = record {
      keeps = keeps_both start s t came.keeps all_kept;
      named = came.named;
      old = λ e h i. ⊎_elim
          (λ (a : IsAmong i.thing xs). came.old e h (some_of s xs i.thing e a (old_inside i.thing (loose_there s i.thing (loose.loose a.0 i.thing a.1)) e i.inside)))
          (λ (q : i.thing ≡ OperationNode p). ⊎_elim
          (λ (none : IsNowhere s e). not_both s e (there_kept start s came.keeps e h) none)
          (λ (g : IsInsideSome s xs e). came.old e h g)
          (new_or_old e (subst (λ y. IsNodeInside t y e) q i.inside)))
          (taken.from i.thing (i.index, i.here));
      came = λ e none h. ⊎_elim
          (λ (l : IsThere s e). let g = came.came e none l in ⊎_elim
          (λ (a : IsAmong g.thing ys). some_of t ys g.thing e a (inside_kept s t all_kept g.thing e g.inside))
          (λ (m : (i : ℕ) × (k : ℕ) × (bs : List (Ptr BasicBlock)) × (b : Ptr BasicBlock) × (slice_get bss i ≡ Some bs) × (slice_get bs k ≡ Some b) × (g.thing ≡ BlockNode b)).
          some_of t ys (OperationNode p) e taken.new (inside_both t (OperationNode p) (BlockNode m.3) e (block_in m.0 m.1 m.2 m.3 m.4 m.5)
          (subst (λ y. IsNodeInside t y e) m.6 (inside_kept s t all_kept g.thing e g.inside))))
          (taken.stays_or_in g.thing (g.index, g.here)))
          (λ (j : IsNodeInside t (OperationNode p) e). some_of t ys (OperationNode p) e taken.new j)
          (there_or_in e h);
    }
