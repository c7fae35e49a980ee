-- What is made has its tree in the end: blocks that are opened, get operations and end, and operations that end.
use Rattle.std.proofs.Common.{◌≡◌, ℕ, zero, suc, List, [], ◌∷◌, ◌++◌, length, Option, Some, option_map, unwrap_or, slice_get, refl, sym, ap, subst, ◌∙◌}
use Rattle.std.specs.Prelude.{Vec}
use Rattle.std.specs.Global.{Global}
use Rattle.ir_base.specs.declared.types.TypeHandle.{TypeHandle}
use Rattle.ir_names.specs.Tree.{Trees}
use Rattle.ir_names.specs.declared.identifier.Identifier.{Identifier}
use Rattle.ir_names.specs.Identifier.{text_of}
use Rattle.ir_program.specs.Adds.{numbered_values}
use Rattle.ir_program.specs.Program.{TypedValue}
use Rattle.ir_program.specs.declared.handles.DefiningEntity.{DefiningEntity}
use Rattle.ir_program.specs.declared.handles.DefiningEntity.TheVariants.{Op as ByOp, Block as ByBlock}
use Rattle.ir_program.specs.declared.handles.Ptr.{Ptr}
use Rattle.ir_program.specs.declared.handles.Operation.{Operation}
use Rattle.ir_program.specs.declared.handles.BasicBlock.{BasicBlock}
use Rattle.ir_program.specs.declared.handles.Value.{Value}
use Rattle.ir_print.specs.Pieces.{ValueTree, Values, operation, a_region, block, Entity, entity, Entities, no_entity, an_entity}
use Rattle.ir_print.specs.Shown.{Saying, Pairs, ShowsType, Drafts, operands_said}
use Rattle.ir_forest.specs.Forest.{ActionSpan}
use Rattle.ir_forest.specs.Meaning.{pieces_in, operands_in, successors_in, typed, head_of, regions_in}
use Rattle.text_dialect.specs.Seen.{SeenOperation, SeenBlock, Seen}
use Rattle.text_dialect.specs.Standing.{HasDefinition, HaveBlockTrees, HasOwnLabel}
use Rattle.text_frames.specs.building.Later.{IsLater}
use Rattle.text_frames.specs.building.Made.{OpensBlock, MakesDetachedOperation, AppendsOperation, lists_of}
use Rattle.text_frames.specs.building.Trees.{with_last, HaveListTrees}
use Rattle.text_frames.proofs.BuildingLemmas.Later.{later_both}
use Rattle.text_frames.proofs.BuildingLemmas.Members.{pairs_back}
use Rattle.text_frames.proofs.BuildingLemmas.ShownLater.{shows_later, all_later}
use Rattle.text_frames.proofs.BuildingLemmas.Trees.{one_tree_more, made_tree}
use Rattle.text_frames.specs.Worlds.{operands_of, successors_of, PartialModule, LaterWorld, End, MeansInTheEnd, MayEndAs, IsMade, IsReady, AreReady, AreReadyRegions, IsOpenBlock}
use Rattle.text_frames.proofs.BuiltBehind.{operands_are_said}
use Rattle.text_frames.proofs.LaterWorlds.{reaches_before}
use Rattle.text_frames.proofs.Opening.{as_many}
use Rattle.text_frames.proofs.Rising.{numbered_types}

-- a token names this value among what has been made
abbrev pub IsNamed : {K A T : Type 0} → PartialModule K A T → Value → ℕ → Type 0
IsNamed w x k = (n : ℕ) × (slice_get w.names.definitions n ≡ Some k) × (slice_get w.values n ≡ Some (Some x))

-- a label's token names this block
abbrev pub IsBlockNamed : {K A T : Type 0} → PartialModule K A T → Ptr BasicBlock → ℕ → Type 0
IsBlockNamed w b k = (n : ℕ) × (slice_get w.names.labels n ≡ Some k) × (slice_get w.blocks n ≡ Some b)

module _ {K A T : Type 0} (w : PartialModule K A T) where
  -- values with numbers whose tokens are names are named so
  pub all_named : (ns : List ℕ) (ds : List TypedValue) (names : List ℕ)
      → Pairs (λ n k. slice_get w.names.definitions n ≡ Some k) ns names → length ns ≡ length ds
      → ((i n : ℕ) (d : TypedValue) → slice_get ns i ≡ Some n → slice_get ds i ≡ Some d
      → slice_get w.values n ≡ Some (Some d.value))
      → Pairs (λ d k. IsNamed w d.value k) ds names
  all_named [] [] [] h many at = tt
  all_named [] [] (k ∷ ks) h many at = absurd h
  all_named [] (d ∷ ds) ks h many at = cc
  all_named (n ∷ ns) [] ks h many at = cc
  all_named (n ∷ ns) (d ∷ ds) [] h many at = absurd h
  all_named (n ∷ ns) (d ∷ ds) (k ∷ ks) h many at =
      ((n, h.0, at 0 n d refl refl), all_named ns ds ks h.1 (cc many) (λ i. at (suc i)))

  module _ (e : End K A T) (r : MayEndAs w e) where
    -- what is named is meant in the end
    pub named_means : (x : Value) (k : ℕ) → IsNamed w x k → (MeansInTheEnd e).value x k
    named_means x k (n, token, value) = subst (λ (m : ℕ). slice_get e.values m ≡ Some x) (sym (r.definitions n k token))
        (r.values n x value)

    pub block_named_means : (b : Ptr BasicBlock) (k : ℕ) → IsBlockNamed w b k → (MeansInTheEnd e).block b k
    block_named_means b k (n, token, at) = subst (λ (m : ℕ). slice_get e.blocks m ≡ Some b) (sym (r.labels n k token))
        (r.blocks n b at)

    -- so definitions that are named so have these names and types
    pub definitions_named : (says : Saying K A T) (d : DefiningEntity) (n : ℕ) (tys : List TypeHandle)
        (names : List ℕ) (ts : List ValueTree)
        → Pairs (λ v k. IsNamed w v.value k) (numbered_values d n tys) names → Pairs (ShowsType says w.ctx.types) tys ts
        → Pairs (HasDefinition says (MeansInTheEnd e) e.ctx.types) (numbered_values d n tys) (typed names ts)
    definitions_named says d n [] [] ts h k = tt
    definitions_named says d n [] (name ∷ names) ts h k = absurd h
    definitions_named says d n (ty ∷ tys) [] ts h k = absurd h
    definitions_named says d n (ty ∷ tys) (name ∷ names) [] h k = absurd k
    definitions_named says d n (ty ∷ tys) (name ∷ names) (t ∷ ts) h k = (
      (
        named_means (record { definer = d; number = n }) name h.0,
        shows_later says w.ctx.types e.ctx.types r.ctx.types _ t k.0,
      ),
      definitions_named says d (suc n) tys names ts h.1 k.1,
    )

-- ---- blocks

module _ {K A T : Type 0} (says : Saying K A T) (w : PartialModule K A T) where
  -- a block that is opened has no operation yet
  pub block_opened : (s : Seen K A T) (b : Ptr BasicBlock) (id : Identifier) (named : ℕ) (label : List ℕ)
      (tys : List TypeHandle) (n : ℕ) (names : List ℕ) (ts : List ValueTree)
      → OpensBlock s w.ctx b (Some id) tys n → text_of id ≡ label → IsBlockNamed w b named
      → Pairs (λ v k. IsNamed w v.value k) (numbered_values (ByBlock b) n tys) names
      → Pairs (ShowsType says w.ctx.types) tys ts
      → IsOpenBlock says w b named label (typed names ts) no_entity
  block_opened s b id named label tys n names ts h spelt is given shown = record {
    view = record { label = Some id; attributes = 0; arguments = numbered_values (ByBlock b) n tys; operations = [] };
    at = h.made;
    labelled = record { labelled = spelt; no_attributes = refl };
    names = λ e r. block_named_means w e r b named is;
    defines = λ e r. definitions_named w e r says (ByBlock b) n tys names ts given shown;
    holds = λ e r. tt;
  }

  -- where it ends it is as it will be in a region
  pub block_ready : (b : Ptr BasicBlock) (named : ℕ) (label : List ℕ) (arguments : List (ℕ × ValueTree)) (ts : Entities ℕ)
      → IsOpenBlock says w b named label arguments ts → IsReady says w b (entity (block named label arguments) ts)
  block_ready b named label arguments ts h = record {
    view = h.view;
    at = h.at;
    made = λ e r same. (h.view, same, h.labelled, h.names e r, h.defines e r, h.holds e r);
  }

module _ {K A T : Type 0} (says : Saying K A T) (w v : PartialModule K A T) (l : LaterWorld w v) where
  -- an open block with one more operation, where it was what it was until it got that
  pub block_more : (s : Seen K A T) (b : Ptr BasicBlock) (named : ℕ) (label : List ℕ) (arguments : List (ℕ × ValueTree))
      (ts : Entities ℕ) (p : Ptr Operation) (t : Entity ℕ)
      → s.block b ≡ w.ctx.block b → AppendsOperation s v.ctx b p → IsMade says v p t
      → IsOpenBlock says w b named label arguments ts → IsOpenBlock says v b named label arguments (with_last ts t)
  block_more s b named label arguments ts p t same appends made h = record {
    view = record h.view { operations = h.view.operations ++ p ∷ [] };
    at = appends.appended ∙ ap (option_map (λ (x : SeenBlock). record x { operations = x.operations ++ p ∷ [] }))
        (same ∙ h.at);
    labelled = record { labelled = h.labelled.labelled; no_attributes = h.labelled.no_attributes };
    names = λ e r. h.names e (reaches_before w v e l r);
    defines = λ e r. h.defines e (reaches_before w v e l r);
    holds = λ e r. one_tree_more says (MeansInTheEnd e) HasOwnLabel e.ctx h.view.operations ts p t
        (h.holds e (reaches_before w v e l r)) (made e r);
  }

-- ---- operations

module _ {K A T : Type 0} (says : Saying K A T) (w : PartialModule K A T) (e : End K A T) (r : MayEndAs w e) where
  -- ready blocks that stay as they are have their trees
  pub ready_trees : (bs : List (Ptr BasicBlock)) (ts : Entities ℕ) → AreReady says w bs ts
      → ((k : ℕ) (b : Ptr BasicBlock) (x : SeenBlock) → slice_get bs k ≡ Some b → w.ctx.block b ≡ Some x
      → e.ctx.block b ≡ Some x)
      → HaveBlockTrees says (MeansInTheEnd e) HasOwnLabel e.ctx bs ts
  ready_trees [] no_entity h stays = tt
  ready_trees [] (an_entity t ts) h stays = absurd h
  ready_trees (b ∷ bs) no_entity h stays = absurd h
  ready_trees (b ∷ bs) (an_entity t ts) h stays =
      let ready : IsReady says w b t = h.0 in
      (ready.made e r (stays zero b ready.view refl ready.at), ready_trees bs ts h.1 (λ k. stays (suc k)))

  pub ready_list_trees : (rs : List (Vec (Ptr BasicBlock) Global)) (ts : Entities ℕ) → AreReadyRegions says w rs ts
      → ((i k : ℕ) (bs : List (Ptr BasicBlock)) (b : Ptr BasicBlock) (x : SeenBlock)
      → slice_get (lists_of rs) i ≡ Some bs → slice_get bs k ≡ Some b → w.ctx.block b ≡ Some x → e.ctx.block b ≡ Some x)
      → HaveListTrees says (MeansInTheEnd e) HasOwnLabel e.ctx (lists_of rs) ts
  ready_list_trees [] no_entity h stays = tt
  ready_list_trees [] (an_entity t ts) h stays = absurd h
  ready_list_trees (bs ∷ rs) no_entity h stays = absurd h
  ready_list_trees (bs ∷ rs) (an_entity (entity (operation k d u successors p) us) ts) h stays = absurd h
  ready_list_trees (bs ∷ rs) (an_entity (entity (block n l d) us) ts) h stays = absurd h
  ready_list_trees (bs ∷ rs) (an_entity (entity a_region us) ts) h stays = (
    ready_trees bs.items us h.0 (λ k b x at is. stays zero k bs.items b x refl at is),
    ready_list_trees rs ts h.1 (λ i. stays (suc i)),
  )

module _ {K A T : Type 0} (says : Saying K A T) (values : Values) (text : ℕ → List ℕ) (w v : PartialModule K A T)
    (l : LaterWorld w v) (s t : Seen K A T) (p : Ptr Operation) where
  -- An operation has its tree in the end that is made of the pieces of the tree, with results that are named so, takes
  -- in ready blocks, and waits for its operands and successors. What is whole when it is made is so in the later world.
  pub operation_made : (number : ℕ) (kind : K) (attributes : List (List ℕ × A)) (tys : List TypeHandle) (n : ℕ)
      (rs : List (Vec (Ptr BasicBlock) Global)) (used labels : List ℕ)
      (place : ℕ) (names : List ℕ) (ts : Trees ActionSpan)
      → MakesDetachedOperation s t p kind attributes tys n (lists_of rs) → IsLater t v.ctx
      → ((b : Ptr BasicBlock) (x : SeenBlock) → w.ctx.block b ≡ Some x → s.block b ≡ Some x)
      → Drafts says v.ctx.types values kind number (pieces_in values text ts) attributes tys
      → Pairs (λ d k. IsNamed v d.value k) (numbered_values (ByOp p) n tys) names
      → slice_get v.pending place ≡ Some (record { op = p; tokens = used; labels = labels })
      → used ≡ operands_in ts → labels ≡ successors_in ts
      → AreReadyRegions says w rs (regions_in values text ts)
      → IsMade says v p (entity (head_of values text names ts number) (regions_in values text ts))
  operation_made number kind attributes tys n rs used labels place names ts made later before drafts named waits uses leads ready =
      λ e r.
      let all : IsLater t e.ctx = later_both t v.ctx e.ctx later r.ctx in
      let q = all.operations p _ made.made in
      let given : operands_of e.ctx p ≡ q.0 = ap
      (λ (o : Option (SeenOperation K A)). unwrap_or (option_map (λ (u : SeenOperation K A). u.operands) o) [])
      q.2 in
      let reached : successors_of e.ctx p ≡ q.1 = ap
      (λ (o : Option (SeenOperation K A)). unwrap_or (option_map (λ (u : SeenOperation K A). u.successors) o) [])
      q.2 in
      let mentions : Pairs (MeansInTheEnd e).value q.0 (operands_in ts) =
      subst (λ (ks : List ℕ). Pairs (MeansInTheEnd e).value q.0 ks) uses
      (subst (λ (vs : List Value). Pairs (MeansInTheEnd e).value vs used) given (r.operands place _ waits)) in
      let goes_on : Pairs (MeansInTheEnd e).block q.1 (successors_in ts) =
      subst (λ (ks : List ℕ). Pairs (MeansInTheEnd e).block q.1 ks) leads
      (subst (λ (bs : List (Ptr BasicBlock)). Pairs (MeansInTheEnd e).block bs labels) reached (r.successors place _ waits)) in
      let many : length q.0 ≡ operands_said (pieces_in values text ts) = as_many (MeansInTheEnd e).value q.0 (operands_in ts)
      mentions ∙ sym (operands_are_said values text ts) in
      made_tree says (MeansInTheEnd e) HasOwnLabel s t e.ctx p kind attributes tys n (lists_of rs) made all _ number
      (typed names (values.result_types number (pieces_in values text ts))) (operands_in ts) (successors_in ts)
      (pieces_in values text ts) (regions_in values text ts)
      q.2
      (record {
        said = drafts.pieces;
        says_it = rw (many, numbered_types (ByOp p) n tys) drafts.said;
        shown = all_later says v.ctx.types e.ctx.types r.ctx.types drafts.pieces (pieces_in values text ts)
            drafts.shown;
        defines = definitions_named v e r says (ByOp p) n tys names
            (values.result_types number (pieces_in values text ts)) named drafts.typed;
        mentions = mentions;
        goes_on = goes_on;
      })
      (ready_list_trees says w e (reaches_before w v e l r) rs (regions_in values text ts) ready
      (λ i k bs b x at here is.
      let region = pairs_back (λ h cs. t.region h ≡ Some cs) made.handles (lists_of rs) made.filled i bs at in
      all.placed b x (made.blocks b ∙ before b x is)
      (record { region = region.0; blocks = bs; index = k; at = region.2; here = here })))
