-- A region and a block that end keep what has been made.
use Rattle.std.proofs.Common.{◌≡◌, ◌∙◌, inl, inr, ℕ, List, [], ◌∷◌, ◌++◌, map, reverse, Option, Some, None, Result, OnOk, MatchOption, slice_get, refl, sym, ap, subst, append-nil, append_assoc}
use Rattle.std.proofs.lemmas.List.{reverse-append}
use Rattle.std.proofs.lemmas.Result.{on_ok_weaker}
use Rattle.std.specs.Prelude.{Vec}
use Rattle.std.specs.Global.{Global}
use Rattle.text_frames.specs.Worlds.{joined}
use Rattle.ir_names.specs.Tree.{Trees}
use Rattle.ir_print.specs.Pieces as pieces
use Rattle.ir_print.specs.Pieces.{Values, block, Entity, entity, Entities}
use Rattle.ir_print.specs.Shown.{Saying, Pairs}
use Rattle.ir_print.specs.declared.format.Part.{Part}
use Rattle.ir_print.specs.declared.format.Part.TheVariants as part
use Rattle.ir_program.specs.declared.handles.BasicBlock.{BasicBlock}
use Rattle.ir_program.specs.declared.handles.Operation.{Operation}
use Rattle.ir_program.specs.declared.handles.Ptr.{Ptr}
use Rattle.ir_grammar.specs.declared.grammar.Action.{Action}
use Rattle.ir_grammar.specs.declared.grammar.Action.TheVariants as act
use Rattle.ir_grammar.specs.Nesting.{Position, at_end, in_operation, in_region, in_header, in_argument, in_block, behind_results, in_value, move}
use Rattle.ir_forest.specs.Forest.{ActionSpan}
use Rattle.ir_forest.specs.Building as building
use Rattle.ir_forest.specs.Building.{Built, with_end, behind, ended_tree, names_behind}
use Rattle.ir_forest.specs.Meaning.{tokens_in, by_operands, by_successor, by_region, by_label, operands_in, successors_in, regions_in, blocks_in, arguments_in, operations_in}
use Rattle.ir_formats.specs.Ordered.{Standing, moved_by, moved_out}
use Rattle.text_dialect.specs.Seen.{Seen}
use Rattle.text_frames.specs.building.Kept.{SameSeen}
use Rattle.text_frames.specs.building.Later.{IsLater}
use Rattle.text_frames.specs.building.Trees.{with_last}
use Rattle.text_frames.proofs.BuildingLemmas.Later.{defined_later, block_later, keeps_later, same_keeps}
use Rattle.text_frames.specs.declared.assembly.Assembly.{Assembly}
use Rattle.text_frames.specs.declared.opened.AssemblyFault.{AssemblyFault}
use Rattle.text_frames.specs.declared.opened.Body.{Body}
use Rattle.text_frames.specs.declared.opened.Body.TheVariants as body
use Rattle.text_frames.specs.declared.opened.Open.{Open}
use Rattle.text_frames.specs.declared.opened.OpenBlock.{OpenBlock}
use Rattle.text_frames.specs.declared.opened.OpenOperation.{OpenOperation}
use Rattle.text_frames.specs.Frames.{a_region, a_block, sort_at, sort_of, EndsAt, Begins, Stands, Ending}
use Rattle.text_frames.specs.Opened.{HasPut}
use Rattle.text_frames.specs.Raised.{HoldsAllNew, MayEnd, listed_block, blocks_of_body, begun_at, named_tokens, IsAroundRoot, IsOpened, RaisesBlock, Raises, IsRaised, RaisesAll, AreWaiting}
use Rattle.text_frames.specs.Worlds.{NameTokens, PartialModule, LaterWorld, AreAmong, IsReady, AreReady, AreReadyRegions, IsOpenBlock}
use Rattle.text_frames.proofs.BuiltBehind.{operands_behind, successors_behind, regions_behind, blocks_behind, ready_put, regions_put}
use Rattle.text_frames.proofs.Ended.{outer_list, outer_of_region, outer_of_operands, outer_of_edge, outer_region, is_text}
use Rattle.text_frames.proofs.Framing.{innermost}
use Rattle.text_frames.proofs.LaterWorlds.{names_same, raised_later, are_ready_later, keeps_same, KeepsBlocks, all_keep_same, around_later}
use Rattle.text_frames.proofs.Made.{block_ready}
use Rattle.text_frames.proofs.Moving.{operation_out, region_out, type_out, attribute_out, operands_out, edge_out, item_out, list_out, choice_out}
use Rattle.text_assembling.specs.declared.assembling.Assembler.{Assembler}
use Rattle.text_assembling.specs.Assembling.{Holds, IsUnrooted, Stage, all_open, numbers_of, blocks_of, unmade_block, unmade_label, unmade_labels, world_of, AreSettled, AreLabelled, HasMade}
use Rattle.text_assembling.proofs.Held.{held_list, held_same}
use Rattle.text_assembling.proofs.Labelled.{labelled_same, unmade_ended}
use Rattle.text_assembling.proofs.Lists.{concat_put}
use Rattle.text_assembling.proofs.SettledDefinitions as rising
use Rattle.text_assembling.proofs.Settling.{IsStacked, stack_same, still_unrooted, waiting_kept}
use Rattle.ir_print.specs.declared.format.ValueSort.TheVariants as sorts
use Rattle.text_assembling.proofs.Stepping.{IsAnEnd}

-- ---- what is open, in two parts

module _ {D K A T Y : Type 0} (F : Open D K A T → List Y) where
  -- what is gathered of the innermost stands behind that of what is around
  pub gathered_one : (c : Assembler D K A T) (rest : List (Open D K A T)) → c.around.items ≡ rest → joined (map F (all_open c)) ≡ joined (map F rest) ++ F c.here
  gathered_one c rest e = ap (λ (xs : List (Open D K A T)). joined (map F (xs ++ c.here ∷ []))) e ∙ concat_put F rest c.here

  -- the same of the innermost and what is straight around it
  pub gathered_two : (c : Assembler D K A T) (rest : List (Open D K A T)) (f g : Open D K A T) → c.here ≡ f → c.around.items ≡ rest ++ g ∷ []
      → joined (map F (all_open c)) ≡ (joined (map F rest) ++ F g) ++ F f
  gathered_two c rest f g is_f e =
      gathered_one c (rest ++ g ∷ []) e ∙ (ap (λ (xs : List Y). xs ++ F c.here) (concat_put F rest g) ∙ ap (λ (x : Open D K A T). (joined (map F rest) ++ F g) ++ F x) is_f)

-- ---- what ends, in what is around it

module _ {D K A T : Type 0} (says : Saying K A T) (values : Values) (text : ℕ → List ℕ) (w v : PartialModule K A T) (l : LaterWorld w v) where
  -- what is around something is another one now, and the rest of it stays as it was
  pub around_with : (old new : Option (Ptr Operation)) (g h : Open D K A T) (next : Position) (ts us : Trees ActionSpan) (gs : List (Open D K A T)) (os : List building.Open) (more : List Position)
      → (IsAroundRoot (begun_at next) (names_behind [] ts) → ⊥) → KeepsBlocks w.ctx v.ctx gs → IsRaised says values text v h next us
      → RaisesAll says values text w old g (begun_at next) ts gs os more → RaisesAll says values text v new h next us gs os more
  around_with old new g h next ts us [] [] [] inner blocks made all = absurd (inner all.2)
  around_with old new g h next ts us (g2 ∷ gs) (o ∷ os) (next2 ∷ more) inner blocks made all =
      (made, around_later says values text w v l old new g2 next2 o.before gs os more blocks all.1)
  around_with old new g h next ts us _ _ _ inner blocks made all = absurd all

  pub innermost_raised : (root : Option (Ptr Operation)) (f : Open D K A T) (at : Position) (ts : Trees ActionSpan) (gs : List (Open D K A T)) (os : List building.Open) (more : List Position)
      → RaisesAll says values text w root f at ts gs os more → IsRaised says values text w f at ts
  innermost_raised root f at ts [] [] [] h = h.0
  innermost_raised root f at ts (g ∷ gs) (o ∷ os) (next ∷ more) h = h.0
  innermost_raised root f at ts _ _ _ h = absurd h

-- where something ends in what is around it, no root is made yet
module _ {D K A T : Type 0} (says : Saying K A T) (values : Values) (text : ℕ → List ℕ) (types : List T) (f g : Open D K A T) (o : building.Open) (q : Position) (ts : Trees ActionSpan) where
  pub begun_unrooted : (at : Position) → Ending says values text types f g o at q ts → (root : Option (Ptr Operation)) → IsUnrooted at root → root ≡ None
  begun_unrooted at_end ending root h = absurd (subst (λ (b : Body D K A T). Begins b o.action) (is_text f.body ending.frame.sort) ending.begun.begins)
  begun_unrooted _ ending root h = h

-- what is known of something that ends in what is around it
module _ {D K A T : Type 0} (says : Saying K A T) (values : Values) (text : ℕ → List ℕ) (start : Seen K A T) (counter : ℕ) (s : Stage K A T) (whole : Assembler D K A T) (f g : Open D K A T) (rest : List (Open D K A T))
    (names : NameTokens) (is_f : whole.here ≡ f) (is_around : whole.around.items ≡ rest ++ g ∷ []) where
  pub ends_known : (P : List building.Open → Standing → Type 0) (b : Built) (at next : Standing) → Holds says values text s.ctx.types whole b at → HasMade says values text start counter s whole b at names → moved_out at.around ≡ Some next
      → ((o : building.Open) (os : List building.Open) (q : Position) (qs : List Position) → Ending says values text s.ctx.types f g o at.here q b.here
      → IsRaised says values text (world_of s whole names) f at.here b.here
      → RaisesAll says values text (world_of s whole names) whole.made.root g (begun_at q) o.before (reverse rest) os qs → P (o ∷ os) (record { here = q; around = qs }))
      → P b.around next
  ends_known P b at next holds made out known = go b.around at.around (stands holds) (raised made.frames) out
    where
      top : reverse whole.around.items ≡ g ∷ reverse rest
      top = ap reverse is_around ∙ reverse-append rest (g ∷ [])

      stands : Holds says values text s.ctx.types whole b at → Stands says values text s.ctx.types f at.here b.here (g ∷ reverse rest) b.around at.around
      stands h = subst (λ (x : Open D K A T). Stands says values text s.ctx.types x at.here b.here (g ∷ reverse rest) b.around at.around) is_f
          (subst (λ (xs : List (Open D K A T)). Stands says values text s.ctx.types whole.here at.here b.here xs b.around at.around) top h)

      raised : RaisesAll says values text (world_of s whole names) whole.made.root whole.here at.here b.here (reverse whole.around.items) b.around at.around
          → RaisesAll says values text (world_of s whole names) whole.made.root f at.here b.here (g ∷ reverse rest) b.around at.around
      raised h = subst (λ (x : Open D K A T). RaisesAll says values text (world_of s whole names) whole.made.root x at.here b.here (g ∷ reverse rest) b.around at.around) is_f
          (subst (λ (xs : List (Open D K A T)). RaisesAll says values text (world_of s whole names) whole.made.root whole.here at.here b.here xs b.around at.around) top h)

      go : (os : List building.Open) (qs : List Position) → Stands says values text s.ctx.types f at.here b.here (g ∷ reverse rest) os qs
          → RaisesAll says values text (world_of s whole names) whole.made.root f at.here b.here (g ∷ reverse rest) os qs → moved_out qs ≡ Some next → P os next
      go [] [] h k out = absurd h
      go [] (q ∷ qs) h k out = absurd h
      go (o ∷ os) [] h k out = absurd h
      go (o ∷ os) (q ∷ qs) h k out =
          let goes : record { here = q; around = qs } ≡ next = cc in
          subst (P (o ∷ os)) goes
          (known o os q qs (record { frame = h.0; begun = h.1; outer = innermost says values text s.ctx.types g q o.before (reverse rest) os qs h.2 }) k.0 k.1)

  -- what a member stands in, and what operands stand in
  pub list_around : (b : Built) (at next : Standing) → Holds says values text s.ctx.types whole b at → HasMade says values text start counter s whole b at names → moved_out at.around ≡ Some next
      → f.body ≡ body.Item → (ms : Vec (Vec (Part D K A T) Global) Global) × (g.body ≡ body.List ms)
  list_around b at next holds made out is =
      ends_known (λ os n. (ms : Vec (Vec (Part D K A T) Global) Global) × (g.body ≡ body.List ms)) b at next holds made out (λ o os q qs ending inner all. outer_list says values text s.ctx.types f g o at.here q b.here ending is)

  pub operation_around_edge : (b : Built) (at next : Standing) → Holds says values text s.ctx.types whole b at → HasMade says values text start counter s whole b at names → moved_out at.around ≡ Some next
      → (ks : Vec ℕ Global) → f.body ≡ body.Successor ks → (p : OpenOperation) × (g.body ≡ body.Operation p)
  operation_around_edge b at next holds made out ks is =
      ends_known (λ os n. (p : OpenOperation) × (g.body ≡ body.Operation p)) b at next holds made out (λ o os q qs ending inner all. outer_of_edge says values text s.ctx.types f g o at.here q b.here ending ks is)

  pub operation_around : (b : Built) (at next : Standing) → Holds says values text s.ctx.types whole b at → HasMade says values text start counter s whole b at names → moved_out at.around ≡ Some next
      → (ks : Vec ℕ Global) → f.body ≡ body.Operands ks → (p : OpenOperation) × (g.body ≡ body.Operation p)
  operation_around b at next holds made out ks is =
      ends_known (λ os n. (p : OpenOperation) × (g.body ≡ body.Operation p)) b at next holds made out (λ o os q qs ending inner all. outer_of_operands says values text s.ctx.types f g o at.here q b.here ending ks is)

  -- the text doesn't end in anything
  pub text_stays : {P : Type 0} (b : Built) (at next : Standing) → Holds says values text s.ctx.types whole b at → HasMade says values text start counter s whole b at names → moved_out at.around ≡ Some next
      → f.body ≡ body.Text → P
  text_stays {P = P} b at next holds made out is =
      ends_known (λ os n. P) b at next holds made out (λ o os q qs ending inner all. absurd (subst (λ (x : Body D K A T). EndsAt (sort_of x) q) is ending.begun.ends))

module _ {D K A T : Type 0} (says : Saying K A T) (values : Values) (text : ℕ → List ℕ) (start : Seen K A T) (counter : ℕ) (s t : Stage K A T) (whole c : Assembler D K A T) (f g : Open D K A T) (rest : List (Open D K A T))
    (names : NameTokens) (is_f : whole.here ≡ f) (is_around : whole.around.items ≡ rest ++ g ∷ []) (kept : c.around.items ≡ rest) where
  -- what is to be shown of something that ends in what is around it
  pub record EndsMade (o : building.Open) (os : List building.Open) (q : Position) (qs : List Position) (ts : Trees ActionSpan) (last : ℕ) : Type 0 where
    pub frames : RaisesAll says values text (world_of t c names) c.made.root c.here q (behind o.before (ended_tree o ts last)) (reverse rest) os qs
    pub held : HoldsAllNew start t.ctx c.made.loose.items
    pub stack : IsStacked c
    pub unrooted : IsUnrooted q c.made.root
    pub definitions : AreSettled t c names.definitions counter
    pub blocks : AreLabelled t c names.labels
    pub operands : AreWaiting start t.ctx c.made.pending.items names

  pub ends_made : (b : Built) (at next : Standing) (last : ℕ) (r : Result (Unit {0}) AssemblyFault) → Holds says values text s.ctx.types whole b at → HasMade says values text start counter s whole b at names → moved_out at.around ≡ Some next
      → ((o : building.Open) (os : List building.Open) (q : Position) (qs : List Position) → Ending says values text s.ctx.types f g o at.here q b.here
      → IsRaised says values text (world_of s whole names) f at.here b.here
      → RaisesAll says values text (world_of s whole names) whole.made.root g (begun_at q) o.before (reverse rest) os qs
      → whole.made.root ≡ None → OnOk r (EndsMade o os q qs b.here last))
      → OnOk r (HasMade says values text start counter t c (with_end b.here b.around last) next names)
  ends_made b at next last r holds made out rises =
      ends_known says values text start counter s whole f g rest names is_f is_around (λ os n. OnOk r (HasMade says values text start counter t c (with_end b.here os last) n names)) b at next holds made out
      (λ o os q qs ending inner all. on_ok_weaker r (λ (x : EndsMade o os q qs b.here last). record {
        frames = subst (λ (xs : List (Open D K A T)). RaisesAll says values text (world_of t c names) c.made.root c.here q (behind o.before (ended_tree o b.here last)) (reverse xs) os qs) (sym kept) x.frames;
        held = x.held;
        stack = x.stack;
        unrooted = x.unrooted;
        definitions = x.definitions;
        blocks = x.blocks;
        operands = x.operands;
      }) (rises o os q qs ending inner all (begun_unrooted says values text s.ctx.types f g o q b.here at.here ending whole.made.root made.unrooted)))

-- ---- where nothing is made but types

-- Nothing but types is made in a context.
pub record OnlyTypes {K A T : Type 0} (s t : Stage K A T) : Type 0 where
  pub same : SameSeen s.ctx t.ctx
  pub counter : t.counter ≡ s.counter

module _ {K A T : Type 0} (s t : Stage K A T) (only : OnlyTypes s t) where
  pub block_stays : (b : Ptr BasicBlock) → t.ctx.block b ≡ s.ctx.block b
  block_stays b = only.same.blocks b

  pub only_types_later : IsLater s.ctx t.ctx
  only_types_later = keeps_later s.ctx t.ctx (same_keeps s.ctx t.ctx only.same)

  pub all_blocks_stay : {D : Type 0} (fs : List (Open D K A T)) → KeepsBlocks s.ctx t.ctx fs
  all_blocks_stay [] = tt
  all_blocks_stay (f ∷ fs) = ((λ b i h. block_stays b), all_blocks_stay fs)

  -- where the same is named, and is made, as before
  module _ {D : Type 0} (a c : Assembler D K A T) (names : NameTokens) (made : c.made ≡ a.made) where
    pub same_world_later : LaterWorld (world_of s a names) (world_of t c names)
    same_world_later = record {
      ctx = only_types_later;
      values = λ n x h. ap (λ (z : Assembly). slice_get z.values.items n) made ∙ h;
      blocks = λ n b h. ap (λ (z : Assembly). slice_get z.blocks.items n) made ∙ h;
      names = names_same names;
      pending = λ i x h. ap (λ (z : Assembly). slice_get z.pending.items i) made ∙ h;
    }

    pub settled_same : (counter : ℕ) → numbers_of c ≡ numbers_of a → AreSettled s a names.definitions counter → AreSettled t c names.definitions counter
    settled_same counter numbers h =
        rising.settled_same s t a c names.definitions counter numbers (ap (λ (z : Assembly). z.values.items) made) (λ v d. defined_later s.ctx t.ctx only_types_later v d) only.counter h

    pub labels_same : unmade_labels (all_open c) ≡ unmade_labels (all_open a) → AreLabelled s a names.labels → AreLabelled t c names.labels
    labels_same unmade h = labelled_same s t a c names.labels unmade (ap (λ (z : Assembly). z.blocks) made) (λ b d. block_later s.ctx t.ctx only_types_later b d) h

    pub waiting_same : (start : Seen K A T) → AreWaiting start s.ctx a.made.pending.items names → AreWaiting start t.ctx c.made.pending.items names
    waiting_same start h = subst (λ (z : Assembly). AreWaiting start t.ctx z.pending.items names) (sym made)
        (waiting_kept start s.ctx t.ctx a.made.pending.items names (λ p o e. only.same.operations p ∙ e) h)

    pub held_still : (start : Seen K A T) → HoldsAllNew start s.ctx a.made.loose.items → HoldsAllNew start t.ctx c.made.loose.items
    held_still start h = held_list start t.ctx a.made.loose.items c.made.loose.items (ap (λ (z : Assembly). z.loose.items) made) (held_same start s.ctx t.ctx a.made.loose.items only.same h)

    pub stack_still : blocks_of c ≡ blocks_of a → IsStacked a → IsStacked c
    stack_still blocks h = stack_same a c blocks (ap (λ (z : Assembly). z.loose.items) made) (ap (λ (z : Assembly). z.root) made) h

pub nothing_made : {K A T : Type 0} (s : Stage K A T) → OnlyTypes s s
nothing_made s = record { same = record { operations = λ p. refl; blocks = λ b. refl; regions = λ r. refl; types = λ n key e. e }; counter = refl }

-- ---- positions

-- in a region nothing is named
region_unnamed : (p : Position) (ts : Trees ActionSpan) → sort_at p ≡ a_region → named_tokens p ts ≡ []
region_unnamed in_region ts e = refl
region_unnamed _ ts e = cc

-- a block ends among its operations
block_place : (p : Position) → sort_at p ≡ a_block → MayEnd p → p ≡ in_block
block_place in_block e h = refl
block_place in_header e h = absurd h
block_place in_argument e h = absurd h
block_place behind_results e h = absurd h
block_place (in_value sorts.«Type») e h = cc
block_place (in_value sorts.Attribute) e h = cc
block_place _ e h = cc

pub pairs_none : {X Y : Type 0} (R : X → Y → Type 0) (xs : List X) → Pairs R xs [] → xs ≡ []
pairs_none R [] h = refl
pairs_none R (x ∷ xs) h = absurd h

-- only a block has what may not end
not_a_block : (p : Position) → (sort_at p ≡ a_block → ⊥) → MayEnd p
not_a_block in_header h = h refl
not_a_block in_argument h = h refl
not_a_block behind_results h = h refl
not_a_block _ h = tt

-- where an action ends what is open, that may end
module _ (around : List Position) (next : Standing) (p : Position) where
  block_may : moved_by (move p act.EndBlock) around ≡ Some next → MayEnd p
  block_may m = go p m
    where
      go : (p : Position) → moved_by (move p act.EndBlock) around ≡ Some next → MayEnd p
      go in_header m = cc
      go in_argument m = cc
      go behind_results m = cc
      go _ m = tt

  pub may_end : (x : Action) → IsAnEnd x → moved_by (move p x) around ≡ Some next → MayEnd p
  may_end x (inl e) m = not_a_block p (λ h. cc (h, (operation_out around next p (subst (λ (z : Action). moved_by (move p z) around ≡ Some next) e m)).1))
  may_end x (inr (inl e)) m = not_a_block p (λ h. cc (h, (region_out around next p (subst (λ (z : Action). moved_by (move p z) around ≡ Some next) e m)).1))
  may_end x (inr (inr (inl e))) m = block_may (subst (λ (z : Action). moved_by (move p z) around ≡ Some next) e m)
  may_end x (inr (inr (inr (inl (sorts.«Type», e))))) m = not_a_block p (λ h. cc (h, (type_out around next p (subst (λ (z : Action). moved_by (move p z) around ≡ Some next) e m)).1))
  may_end x (inr (inr (inr (inl (sorts.Attribute, e))))) m = not_a_block p (λ h. cc (h, (attribute_out around next p (subst (λ (z : Action). moved_by (move p z) around ≡ Some next) e m)).1))
  may_end x (inr (inr (inr (inr (inl e))))) m = not_a_block p (λ h. cc (h, (operands_out around next p (subst (λ (z : Action). moved_by (move p z) around ≡ Some next) e m)).1))
  may_end x (inr (inr (inr (inr (inr (inl e)))))) m = not_a_block p (λ h. cc (h, (item_out around next p (subst (λ (z : Action). moved_by (move p z) around ≡ Some next) e m)).1))
  may_end x (inr (inr (inr (inr (inr (inr (inl e))))))) m = not_a_block p (λ h. cc (h, (list_out around next p (subst (λ (z : Action). moved_by (move p z) around ≡ Some next) e m)).1))
  may_end x (inr (inr (inr (inr (inr (inr (inr (inl e)))))))) m = not_a_block p (λ h. cc (h, (edge_out around next p (subst (λ (z : Action). moved_by (move p z) around ≡ Some next) e m)).1))
  may_end x (inr (inr (inr (inr (inr (inr (inr (inr e)))))))) m = not_a_block p (λ h. cc (h, (choice_out around next p (subst (λ (z : Action). moved_by (move p z) around ≡ Some next) e m)).1))

-- ---- a region that ends

module _ {D K A T : Type 0} (says : Saying K A T) (values : Values) (text : ℕ → List ℕ) (start : Seen K A T) (counter : ℕ) (s : Stage K A T) (whole c : Assembler D K A T) (f g : Open D K A T) (rest : List (Open D K A T))
    (names : NameTokens) (is_f : whole.here ≡ f) (is_around : whole.around.items ≡ rest ++ g ∷ []) (kept : c.around.items ≡ rest) (made : c.made ≡ whole.made) where
  abbrev v : PartialModule K A T
  v = world_of s c names

  later : LaterWorld (world_of s whole names) v
  later = same_world_later s s (nothing_made s) whole c names made

  -- what has the same numbers in the end, and the same blocks, as before
  ends_with_same : (blocks_of c ≡ blocks_of whole) → (numbers_of c ≡ numbers_of whole) → unmade_labels (all_open c) ≡ unmade_labels (all_open whole) → (b : Built) (at : Standing) → HasMade says values text start counter s whole b at names → whole.made.root ≡ None
      → (o : building.Open) (os : List building.Open) (q : Position) (qs : List Position) (ts : Trees ActionSpan) (last : ℕ)
      → RaisesAll says values text (world_of s c names) c.made.root c.here q (behind o.before (ended_tree o ts last)) (reverse rest) os qs
      → EndsMade says values text start counter s s whole c f g rest names is_f is_around kept o os q qs ts last
  ends_with_same blocks numbers labels b at h none_yet o os q qs ts last frames = record {
    frames = frames;
    held = held_still s s (nothing_made s) whole c names made start h.held;
    stack = stack_still s s (nothing_made s) whole c names made blocks h.stack;
    unrooted = still_unrooted q c.made.root (ap (λ (z : Assembly). z.root) made ∙ none_yet);
    definitions = settled_same s s (nothing_made s) whole c names made counter numbers h.definitions;
    blocks = labels_same s s (nothing_made s) whole c names made labels h.blocks;
    operands = waiting_same s s (nothing_made s) whole c names made start h.operands;
  }

  numbers_same : f.numbers.items ≡ [] → c.here.numbers.items ≡ g.numbers.items → numbers_of c ≡ numbers_of whole
  numbers_same none same =
      let N : Open D K A T → List ℕ = λ x. x.numbers.items in
      gathered_one N c rest kept ∙ (ap (λ (ns : List ℕ). joined (map N rest) ++ ns) same ∙ sym (gathered_two N whole rest f g is_f is_around
      ∙ (ap (λ (ns : List ℕ). (joined (map N rest) ++ g.numbers.items) ++ ns) none ∙ append-nil (joined (map N rest) ++ g.numbers.items))))

  blocks_same : blocks_of_body c.here.body ≡ blocks_of_body g.body ++ blocks_of_body f.body → blocks_of c ≡ blocks_of whole
  blocks_same same =
      let S : Open D K A T → List (Ptr BasicBlock) = λ x. blocks_of_body x.body in
      gathered_one S c rest kept ∙ (ap (λ (ns : List (Ptr BasicBlock)). joined (map S rest) ++ ns) same ∙ (sym (append_assoc (joined (map S rest)) (blocks_of_body g.body) (blocks_of_body f.body))
      ∙ sym (gathered_two S whole rest f g is_f is_around)))

  -- neither what ends nor what is around it has a label whose block isn't made
  labels_stay : unmade_label f.body f.first ≡ [] → unmade_label c.here.body c.here.first ≡ unmade_label g.body g.first → unmade_labels (all_open c) ≡ unmade_labels (all_open whole)
  labels_stay none same = unmade_ended whole c g (is_around ∙ ap (λ (xs : List (Open D K A T)). xs ++ g ∷ []) (sym kept)) same (ap (λ (x : Open D K A T). unmade_label x.body x.first) is_f ∙ none)

  pub region_raised : (b : Built) (at next : Standing) (last : ℕ) (r : Result (Unit {0}) AssemblyFault) → Holds says values text s.ctx.types whole b at → HasMade says values text start counter s whole b at names
      → moved_out at.around ≡ Some next → (first : ℕ) (bs : Vec (Ptr BasicBlock) Global) → f.body ≡ body.Region bs
      → ((p : OpenOperation) → g.body ≡ body.Operation p → OnOk r ((q : OpenOperation) × HasPut g c.here (body.Operation q) part.Region (first ∷ []) × (q.kind ≡ p.kind) × (q.operands ≡ p.operands) × (q.labels ≡ p.labels) × (q.regions.items ≡ p.regions.items ++ bs ∷ [])))
      → OnOk r (HasMade says values text start counter s c (with_end b.here b.around last) next names)
  region_raised b at next last r holds h out first bs is_region new =
      ends_made says values text start counter s s whole c f g rest names is_f is_around kept b at next last r holds h out
      (λ o os to qs ending inner all none_yet. (
      let outer = outer_of_region says values text s.ctx.types f g o at.here to b.here ending bs is_region in
      let p : OpenOperation = outer.0 in
      let is_operation : g.body ≡ body.Operation p = outer.1 in on_ok_weaker r (λ (e : (q : OpenOperation) × HasPut g c.here (body.Operation q) part.Region (first ∷ []) × (q.kind ≡ p.kind) × (q.operands ≡ p.operands) × (q.labels ≡ p.labels) × (q.regions.items ≡ p.regions.items ++ bs ∷ [])).
      (
      let place : to ≡ in_operation = subst (λ (x : Body D K A T). EndsAt (sort_of x) to) is_region ending.begun.ends in
      let begins : o.action ≡ act.BeginRegion = subst (λ (x : Body D K A T). Begins x o.action) is_region ending.begun.begins in
      let unnamed : f.numbers.items ≡ [] =
      pairs_none (λ n k. slice_get names.definitions n ≡ Some k) f.numbers.items
      (subst (λ (ks : List ℕ). Pairs (λ n k. slice_get names.definitions n ≡ Some k) f.numbers.items ks) (region_unnamed at.here b.here (sym ending.frame.sort ∙ ap sort_of is_region)) inner.numbered) in
      let us : Trees ActionSpan = behind o.before (ended_tree o b.here last) in
      let step : ActionSpan = record { action = o.action; first = o.first; last = last } in
      let ready : AreReady says v bs.items (blocks_in values text b.here) =
      are_ready_later says (world_of s whole names) v later bs.items (blocks_in values text b.here) (keeps_same s.ctx bs.items)
      (subst (λ (x : Body D K A T). Raises says values text (world_of s whole names) x f at.here b.here) is_region inner.made) in
      let g_raised : IsRaised says values text (world_of s whole names) g (begun_at to) o.before = innermost_raised says values text (world_of s whole names) v later whole.made.root g (begun_at to) o.before (reverse rest) os qs all in
      let g_made : Raises says values text v (body.Operation p) g in_operation o.before =
      subst (λ (x : Body D K A T). Raises says values text v x g in_operation o.before) is_operation
      (subst (λ (x : Position). IsRaised says values text v g (begun_at x) o.before) place
      (raised_later says values text (world_of s whole names) v later g (begun_at to) o.before (keeps_same s.ctx (blocks_of_body g.body)) g_raised)).made in
      let numbered : Pairs (λ n k. slice_get names.definitions n ≡ Some k) g.numbers.items [] =
      (subst (λ (x : Position). IsRaised says values text (world_of s whole names) g (begun_at x) o.before) place g_raised).numbered in
      let here : IsRaised says values text v c.here in_operation us = record {
        made = subst (λ (x : Body D K A T). Raises says values text v x c.here in_operation us) (sym e.1.body) (record {
          operands = ap (λ (ks : Vec ℕ Global). ks.items) e.3 ∙ (g_made.operands ∙ sym (operands_behind o.before step b.here
              ∙ (ap (λ (a : Action). operands_in o.before ++ by_operands a (tokens_in b.here) []) begins ∙ append-nil (operands_in o.before))));
          mentioned = subst (λ (ks : Vec ℕ Global). AreAmong ks.items names.mentions) (sym e.3) g_made.mentioned;
          labels = ap (λ (ks : Vec ℕ Global). ks.items) e.4 ∙ (g_made.labels ∙ sym (successors_behind o.before step b.here
              ∙ (ap (λ (a : Action). successors_in o.before ++ by_successor a (o.first ∷ []) []) begins ∙ append-nil (successors_in o.before))));
          labels_mentioned = subst (λ (ks : Vec ℕ Global). AreAmong ks.items names.edges) (sym e.4) g_made.labels_mentioned;
          regions = subst (λ (rs : List (Vec (Ptr BasicBlock) Global)). AreReadyRegions says v rs (regions_in values text us)) (sym e.5)
              (subst (λ (es : Entities ℕ). AreReadyRegions says v (p.regions.items ++ bs ∷ []) es)
              (sym (regions_behind values text o.before step b.here ∙ ap (λ (a : Action). by_region a (with_last (regions_in values text o.before) (entity pieces.a_region (blocks_in values text b.here))) (regions_in values text o.before)) begins))
              (regions_put says v p.regions.items (regions_in values text o.before) bs (blocks_in values text b.here) g_made.regions ready));
        });
        numbered = subst (λ (ns : Vec ℕ Global). Pairs (λ n k. slice_get names.definitions n ≡ Some k) ns.items []) (sym e.1.numbers) numbered;
      } in
      let more : blocks_of_body c.here.body ≡ blocks_of_body g.body ++ blocks_of_body f.body =
      ap blocks_of_body e.1.body ∙ (ap (λ (rs : List (Vec (Ptr BasicBlock) Global)). joined (map (λ (x : Vec (Ptr BasicBlock) Global). x.items) rs)) e.5 ∙ (concat_put (λ (x : Vec (Ptr BasicBlock) Global). x.items) p.regions.items bs
      ∙ sym (ap (λ (x : Body D K A T). blocks_of_body x ++ blocks_of_body f.body) is_operation ∙ ap (λ (x : Body D K A T). joined (map (λ (y : Vec (Ptr BasicBlock) Global). y.items) p.regions.items) ++ blocks_of_body x) is_region))) in
      ends_with_same (blocks_same more) (numbers_same unnamed (ap (λ (ns : Vec ℕ Global). ns.items) e.1.numbers))
      (labels_stay (ap (λ (x : Body D K A T). unmade_label x f.first) is_region) (ap (λ (x : Body D K A T). unmade_label x c.here.first) e.1.body ∙ sym (ap (λ (x : Body D K A T). unmade_label x g.first) is_operation))) b at h none_yet o os to qs b.here last
      (around_with says values text (world_of s whole names) v later whole.made.root c.made.root g c.here to o.before us (reverse rest) os qs
      (subst (λ (x : Position). IsAroundRoot (begun_at x) (names_behind [] o.before) → ⊥) (sym place) (λ x. x)) (all_keep_same s.ctx (reverse rest))
      (subst (λ (x : Position). IsRaised says values text v c.here x us) (sym place) here) all)
      )) (new p is_operation)))

  -- ---- a block that ends

  -- a block that ends was made where its header ended
  block_made : (ob : Option (Ptr BasicBlock)) (ts : Trees ActionSpan) → RaisesBlock says values text v ob f in_block ts → (b : Ptr BasicBlock) × (ob ≡ Some b) × IsOpened says values text v b f in_block ts
  block_made None ts h = absurd h.typed_so
  block_made (Some b) ts h = (b, refl, h)

  pub block_raised : (b : Built) (at next : Standing) (last : ℕ) (r : Result (Unit {0}) AssemblyFault) → Holds says values text s.ctx.types whole b at → HasMade says values text start counter s whole b at names
      → moved_out at.around ≡ Some next → MayEnd at.here → (ended : OpenBlock) → f.body ≡ body.Block ended
      → ((bs : Vec (Ptr BasicBlock) Global) → g.body ≡ body.Region bs → OnOk r ((cs : Vec (Ptr BasicBlock) Global) × (c.here ≡ record g { body = body.Region cs }) × MatchOption ended.block (cs.items ≡ bs.items) (λ x. cs.items ≡ bs.items ++ x ∷ [])))
      → OnOk r (HasMade says values text start counter s c (with_end b.here b.around last) next names)
  block_raised b at next last r holds h out may ended is_block new =
      ends_made says values text start counter s s whole c f g rest names is_f is_around kept b at next last r holds h out
      (λ o os to qs ending inner all none_yet. (
      let outer = outer_region says values text s.ctx.types f g o at.here to b.here ending ended is_block in
      let bs : Vec (Ptr BasicBlock) Global = outer.0 in
      let is_region : g.body ≡ body.Region bs = outer.1 in on_ok_weaker r (λ (e : (cs : Vec (Ptr BasicBlock) Global) × (c.here ≡ record g { body = body.Region cs }) × MatchOption ended.block (cs.items ≡ bs.items) (λ x. cs.items ≡ bs.items ++ x ∷ [])).
      (
      let cs : Vec (Ptr BasicBlock) Global = e.0 in
      let place : to ≡ in_region = subst (λ (x : Body D K A T). EndsAt (sort_of x) to) is_block ending.begun.ends in
      let begins : o.action ≡ act.Label = subst (λ (x : Body D K A T). Begins x o.action) is_block ending.begun.begins in
      let where_it_is : at.here ≡ in_block = block_place at.here (sym ending.frame.sort ∙ ap sort_of is_block) may in
      let us : Trees ActionSpan = behind o.before (ended_tree o b.here last) in
      let step : ActionSpan = record { action = o.action; first = o.first; last = last } in
      let f_raised : IsRaised says values text v f in_block b.here = subst (λ (x : Position). IsRaised says values text v f x b.here) where_it_is
      (raised_later says values text (world_of s whole names) v later f at.here b.here (keeps_same s.ctx (blocks_of_body f.body)) inner) in
      let opened = block_made ended.block b.here (subst (λ (x : Body D K A T). Raises says values text v x f in_block b.here) is_block f_raised.made) in
      let x : Ptr BasicBlock = opened.0 in
      let unnamed : f.numbers.items ≡ [] =
      pairs_none (λ n k. slice_get names.definitions n ≡ Some k) f.numbers.items
      (subst (λ (ks : List ℕ). Pairs (λ n k. slice_get names.definitions n ≡ Some k) f.numbers.items ks) opened.2.among f_raised.numbered) in
      let items : cs.items ≡ bs.items ++ x ∷ [] = subst (λ (y : Option (Ptr BasicBlock)). MatchOption y (cs.items ≡ bs.items) (λ z. cs.items ≡ bs.items ++ z ∷ [])) opened.1 e.2 in
      let tree : Entity ℕ = entity (block o.first (text o.first) (arguments_in values text 0 b.here)) (operations_in values text [] b.here) in
      let ready : IsReady says v x tree = block_ready says v x o.first (text o.first) (arguments_in values text 0 b.here) (operations_in values text [] b.here)
      (subst (λ (n : ℕ). IsOpenBlock says v x n (text n) (arguments_in values text 0 b.here) (operations_in values text [] b.here)) ending.begun.first opened.2.block) in
      let g_raised : IsRaised says values text (world_of s whole names) g in_region o.before =
      subst (λ (y : Position). IsRaised says values text (world_of s whole names) g (begun_at y) o.before) place
      (innermost_raised says values text (world_of s whole names) v later whole.made.root g (begun_at to) o.before (reverse rest) os qs all) in
      let g_made : AreReady says v bs.items (blocks_in values text o.before) =
      subst (λ (y : Body D K A T). Raises says values text v y g in_region o.before) is_region
      (raised_later says values text (world_of s whole names) v later g in_region o.before (keeps_same s.ctx (blocks_of_body g.body)) g_raised).made in
      let here : IsRaised says values text v c.here in_region us = record {
        made = subst (λ (y : Body D K A T). Raises says values text v y c.here in_region us) (sym (ap (λ (y : Open D K A T). y.body) e.1))
            (subst (λ (xs : List (Ptr BasicBlock)). AreReady says v xs (blocks_in values text us)) (sym items)
            (subst (λ (es : Entities ℕ). AreReady says v (bs.items ++ x ∷ []) es)
            (sym (blocks_behind values text o.before step b.here ∙ ap (λ (a : Action). by_label a (with_last (blocks_in values text o.before) tree) (blocks_in values text o.before)) begins))
            (ready_put says v bs.items (blocks_in values text o.before) x tree g_made ready)));
        numbered = subst (λ (ns : Vec ℕ Global). Pairs (λ n k. slice_get names.definitions n ≡ Some k) ns.items []) (sym (ap (λ (y : Open D K A T). y.numbers) e.1)) g_raised.numbered;
      } in
      let more : blocks_of_body c.here.body ≡ blocks_of_body g.body ++ blocks_of_body f.body =
      ap blocks_of_body (ap (λ (y : Open D K A T). y.body) e.1) ∙ (items
      ∙ sym (ap (λ (y : Body D K A T). blocks_of_body y ++ blocks_of_body f.body) is_region ∙ (ap (λ (y : Body D K A T). bs.items ++ blocks_of_body y) is_block ∙ ap (λ (y : Option (Ptr BasicBlock)). bs.items ++ listed_block y) opened.1))) in
      ends_with_same (blocks_same more) (numbers_same unnamed (ap (λ (ns : Vec ℕ Global). ns.items) (ap (λ (y : Open D K A T). y.numbers) e.1)))
      (labels_stay (ap (λ (y : Body D K A T). unmade_label y f.first) is_block ∙ ap (λ (y : Option (Ptr BasicBlock)). unmade_block y f.first) opened.1)
      (ap (λ (y : Open D K A T). unmade_label y.body y.first) e.1 ∙ sym (ap (λ (y : Body D K A T). unmade_label y g.first) is_region))) b at h none_yet o os to qs b.here last
      (around_with says values text (world_of s whole names) v later whole.made.root c.made.root g c.here to o.before us (reverse rest) os qs
      (subst (λ (y : Position). IsAroundRoot (begun_at y) (names_behind [] o.before) → ⊥) (sym place) (λ y. y)) (all_keep_same s.ctx (reverse rest))
      (subst (λ (y : Position). IsRaised says values text v c.here y us) (sym place) here) all)
      )) (new bs is_region)))
