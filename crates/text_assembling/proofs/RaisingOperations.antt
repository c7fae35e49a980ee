-- What an operation stands for that is made where it ends.
use Rattle.std.proofs.Common.{◌≡◌, ◌≢◌, ◌∙◌, ◌⊎◌, inl, inr, ℕ, ◌+◌, ◌≤◌, ◌==◌, if◌then◌else◌, Bool, true, false, List, [], ◌∷◌, ◌++◌, map, length, reverse, Option, Some, None, IsSome, Result, Ok, Err, OnOk, slice_get, option_map, unwrap_or, refl, sym, ap, subst, arith, eqb-true, append-nil, length-append, ◌^◌, Vec}
use Rattle.std.specs.Global.{Global}
use Rattle.text_frames.specs.Worlds.{joined}
use Rattle.ir_names.specs.Tree.{Trees}
use Rattle.ir_print.specs.Pieces.{ValueTree, Pieces, Values, Entity, entity, Entities}
use Rattle.ir_print.specs.Shown.{Saying, Pairs, ShowsParts, ShowsType, Drafts}
use Rattle.ir_program.specs.Adds.{numbered_values}
use Rattle.ir_program.specs.Program.{TypedValue}
use Rattle.ir_program.specs.declared.handles.BasicBlock.{BasicBlock}
use Rattle.ir_program.specs.declared.handles.DefiningEntity.TheVariants.{Op as ByOp}
use Rattle.ir_program.specs.declared.handles.IRNode.{IRNode}
use Rattle.ir_program.specs.declared.handles.IRNode.TheVariants.{Operation as OperationNode, BasicBlock as BlockNode}
use Rattle.ir_program.specs.declared.handles.Operation.{Operation}
use Rattle.ir_program.specs.declared.handles.Ptr.{Ptr}
use Rattle.ir_tokens.specs.declared.faults.Fault.{Fault}
use Rattle.ir_tokens.specs.declared.faults.FaultKind.TheVariants as kinds
use Rattle.ir_grammar.specs.declared.grammar.Action.{Action}
use Rattle.ir_grammar.specs.declared.grammar.Action.TheVariants as act
use Rattle.ir_grammar.specs.Nesting.{Position, behind_root_results, at_end, in_operation, in_block, behind_results}
use Rattle.ir_forest.specs.Building as building
use Rattle.ir_forest.specs.Building.{Built, with_end, behind, ended_tree, names_behind, with_name, names_fault}
use Rattle.ir_forest.specs.Forest.{ActionSpan}
use Rattle.ir_forest.specs.Meaning.{by_operation, operations_in, arguments_in, pieces_in, regions_in, head_of}
use Rattle.ir_forest.specs.ValueFaults.{first_token}
use Rattle.ir_forest.proofs.PiecesBehind.{name_behind}
use Rattle.ir_formats.specs.Ordered.{Standing, moved_out}
use Rattle.text_dialect.specs.Seen.{SeenOperation, Seen}
use Rattle.text_frames.specs.building.Kept.{KeepsAllSeen}
use Rattle.text_frames.specs.building.Later.{IsLater}
use Rattle.text_frames.specs.building.Loose.{IsLooseBlock}
use Rattle.text_frames.specs.building.Made.{AppendsOperation, lists_of}
use Rattle.text_frames.specs.building.Trees.{with_last}
use Rattle.text_frames.proofs.BuildingLemmas.Later.{appends_later, block_later, keeps_both, keeps_later, later_both, makes_keeps, same_keeps}
use Rattle.text_frames.proofs.BuildingLemmas.Options.{is_there, no_some}
use Rattle.text_frames.specs.declared.assembly.Assembly.{Assembly}
use Rattle.text_frames.specs.Waiting.{Pending}
use Rattle.text_frames.specs.declared.opened.AssemblyFault.{AssemblyFault}
use Rattle.text_frames.specs.declared.opened.Body.{Body}
use Rattle.text_frames.specs.declared.opened.Body.TheVariants as body
use Rattle.text_frames.specs.declared.opened.Open.{Open}
use Rattle.text_frames.specs.declared.opened.OpenBlock.{OpenBlock}
use Rattle.text_frames.specs.declared.opened.OpenOperation.{OpenOperation}
use Rattle.text_frames.specs.Frames.{an_operation, sort_at, sort_of, StandsAlone, EndsAt, Begins, Contains, Ending}
use Rattle.text_frames.specs.Makes.{block_in}
use Rattle.text_frames.specs.Opened.{HasBody}
use Rattle.text_frames.specs.Raised.{AreWaiting, HoldsAllNew, block_nodes, blocks_of_body, listed_block, with_result, result_names, is_header, has_header, begun_at, named_tokens, IsAroundRoot, IsOpened, RaisesBlock, Raises, IsRaised, RaisesAll}
use Rattle.text_frames.specs.Worlds.{NameTokens, IsMade, IsOpenBlock, LaterWorld, Rises, PartialModule, values_alone}
use Rattle.text_frames.proofs.BuiltBehind.{operations_behind, arguments_behind_header, has_header_behind, result_names_behind}
use Rattle.text_frames.proofs.Defining.{results_made}
use Rattle.text_frames.proofs.Ended.{is_text, is_block, alone_names}
use Rattle.text_frames.proofs.LaterWorlds.{around_later, get_left, KeepsBlocks, KeepsEach, world_both, world_same}
use Rattle.text_frames.proofs.Made.{IsNamed, all_named, block_more, operation_made}
use Rattle.text_frames.proofs.Opening.{as_many}
use Rattle.text_frames.proofs.Rising.{get_last, numbered_length, rises_right, set_all_at}
use Rattle.text_assembling.specs.declared.assembling.Assembler.{Assembler}
use Rattle.text_assembling.specs.Assembling.{AreLabelled, AreSettled, HasMade, Holds, IsUnrooted, Stage, blocks_of, numbers_of, root_nodes, unmade_label, world_of}
use Rattle.text_assembling.specs.Steps.{CanMake, EndsOperation, PutsInto, new_root}
use Rattle.text_assembling.proofs.Held.{held_list, held_makes, held_puts, held_same, outer_apart, outer_loose, taken_apart, taken_loose}
use Rattle.text_assembling.proofs.Labelled.{labelled_same, unmade_ended, unmade_same}
use Rattle.text_assembling.proofs.Lists.{get_image, get_shifted, nodes_append, once_apart, once_image}
use Rattle.text_assembling.proofs.RaisingBlocks.{begun_unrooted, gathered_one, gathered_two, around_with, innermost_raised, EndsMade, ends_made, ends_known, nothing_made, same_world_later, settled_same, pairs_none}
use Rattle.text_assembling.proofs.SettledDefinitions.{numbers_split, keeps_around}
use Rattle.text_assembling.proofs.Settling.{IsStacked, of_stack, settled_defined, stack_of, still_unrooted, waiting_kept, waiting_more, world_defined}

-- ---- what is around an operation

-- an operation ends in a block, or is the root
pub alone_place : (p : Position) → StandsAlone p → (p ≡ at_end) ⊎ (p ≡ in_block)
alone_place at_end h = inl refl
alone_place in_block h = inr refl
alone_place _ h = absurd h

-- there it began behind the names of its results, if it has any
pub named_before : (p : Position) (ts : Trees ActionSpan) → StandsAlone p → named_tokens (begun_at p) ts ≡ names_behind [] ts
named_before at_end ts h = refl
named_before in_block ts h = refl
named_before _ ts h = absurd h

operation_unnamed : (p : Position) (ts : Trees ActionSpan) → sort_at p ≡ an_operation → named_tokens p ts ≡ []
operation_unnamed in_operation ts e = refl
operation_unnamed _ ts e = cc

-- as many names as results, where there is no fault
pub names_many : (names : List ℕ) (first many last : ℕ) → names_fault names first many last ≡ None → length names ≡ many
names_many names first many last h = go (length names == many) (record { kind = kinds.ResultNames; met = last; place = first_token names first }) refl h
  where
    go : (b : Bool) (f : Fault) → (length names == many) ≡ b → (if b then None else Some f) ≡ None → length names ≡ many
    go true f e k = eqb-true (length names) many e
    go false f e k = cc

module _ {D K A T : Type 0} (says : Saying K A T) (values : Values) (text : ℕ → List ℕ) (w : PartialModule K A T) where
  -- the block that is open around an operation is there
  pub open_around : (ob : Option (Ptr BasicBlock)) (g : Open D K A T) (before : Trees ActionSpan) → RaisesBlock says values text w ob g behind_results before
      → (p : Ptr BasicBlock) × (ob ≡ Some p) × IsOpened says values text w p g behind_results before
  open_around None g before h = absurd h.typed_so
  open_around (Some p) g before h = (p, refl, h)

  -- What is around an operation: the text, or a block that was opened.
  pub data Surrounding (g : Open D K A T) (q : Position) (before : Trees ActionSpan) : Type 0 where
    in_text : q ≡ at_end → g.body ≡ body.Text → Surrounding g q before
    in_open_block : (ob : OpenBlock) (p : Ptr BasicBlock) → q ≡ in_block → g.body ≡ body.Block ob → ob.block ≡ Some p → IsOpened says values text w p g behind_results before → Surrounding g q before

  pub surrounding : (g : Open D K A T) (q : Position) (before : Trees ActionSpan) → StandsAlone q → sort_of g.body ≡ sort_at q → IsRaised says values text w g (begun_at q) before → Surrounding g q before
  surrounding g q before alone sorts raised = go (alone_place q alone)
    where
      go : (q ≡ at_end) ⊎ (q ≡ in_block) → Surrounding g q before
      go (inl e) = in_text e (is_text g.body (sorts ∙ ap sort_at e))
      go (inr e) =
          let b = is_block g.body (sorts ∙ ap sort_at e) in
          let there : IsRaised says values text w g behind_results before = subst (λ (x : Position). IsRaised says values text w g (begun_at x) before) e raised in
          let o = open_around (b.0).block g before (subst (λ (x : Body D K A T). Raises says values text w x g behind_results before) b.1 there.made) in
          in_open_block b.0 o.0 e b.1 o.1 o.2

on_ok_both : {P Q R : Type 0} (r : Result (Unit {0}) AssemblyFault) → OnOk r P → OnOk r Q → (P → Q → R) → OnOk r R
on_ok_both (Ok x) p q f = f p q
on_ok_both (Err e) p q f = tt

-- the block that is open is that of the body
open_first : {D K A T : Type 0} (b : Body D K A T) (p : Ptr BasicBlock) → block_in b ≡ Some p → slice_get (blocks_of_body b) 0 ≡ Some p
open_first (body.Block b) p h = go b.block h
  where
    go : (o : Option (Ptr BasicBlock)) → o ≡ Some p → slice_get (listed_block o) 0 ≡ Some p
    go None h = cc
    go (Some q) h = h
open_first _ p h = cc

-- ---- an operation that ends

module _ {D K A T : Type 0} (says : Saying K A T) (values : Values) (text : ℕ → List ℕ) (start : Seen K A T) (counter : ℕ) (s : Stage K A T) (whole a : Assembler D K A T) (f : Open D K A T) (ended : OpenOperation)
    (names : NameTokens) (is_f : whole.here ≡ f) (is_around : whole.around.items ≡ a.around.items ++ a.here ∷ []) (is_made : a.made ≡ whole.made) (is_body : f.body ≡ body.Operation ended)
    (o : building.Open) (os : List building.Open) (at q : Position) (qs : List Position) (ts : Trees ActionSpan)
    (ending : Ending says values text s.ctx.types f a.here o at q ts) (inner : IsRaised says values text (world_of s whole names) f at ts)
    (all : RaisesAll says values text (world_of s whole names) whole.made.root a.here (begun_at q) o.before (reverse a.around.items) os qs)
    (none_yet : whole.made.root ≡ None) (held : HoldsAllNew start s.ctx whole.made.loose.items) (stack : IsStacked whole) (definitions : AreSettled s whole names.definitions counter) where
  abbrev w : PartialModule K A T
  w = world_of s whole names

  alone : StandsAlone q
  alone = subst (λ (x : Body D K A T). EndsAt (sort_of x) q) is_body ending.begun.ends

  begins : o.action ≡ act.Operation ended.kind
  begins = subst (λ (x : Body D K A T). Begins x o.action) is_body ending.begun.begins

  unnamed : f.numbers.items ≡ []
  unnamed = pairs_none (λ n k. slice_get names.definitions n ≡ Some k) f.numbers.items
      (subst (λ (ks : List ℕ). Pairs (λ n k. slice_get names.definitions n ≡ Some k) f.numbers.items ks) (operation_unnamed at ts (sym ending.frame.sort ∙ ap sort_of is_body)) inner.numbered)

  inside : Raises says values text w (body.Operation ended) f at ts
  inside = subst (λ (x : Body D K A T). Raises says values text w x f at ts) is_body inner.made

  outer : IsRaised says values text w a.here (begun_at q) o.before
  outer = innermost_raised says values text w w (world_same w) whole.made.root a.here (begun_at q) o.before (reverse a.around.items) os qs all

  there : Surrounding says values text w a.here q o.before
  there = surrounding says values text w a.here q o.before alone ending.outer.sort outer

  numbers_same : numbers_of a ≡ numbers_of whole
  numbers_same =
      let N : Open D K A T → List ℕ = λ x. x.numbers.items in
      gathered_one N a a.around.items refl ∙ sym (gathered_two N whole a.around.items f a.here is_f is_around
      ∙ (ap (λ (ns : List ℕ). (joined (map N a.around.items) ++ a.here.numbers.items) ++ ns) unnamed ∙ append-nil (joined (map N a.around.items) ++ a.here.numbers.items)))

  pub settled_before : AreSettled s a names.definitions counter
  settled_before = settled_same s s (nothing_made s) whole a names is_made counter numbers_same definitions

  -- the blocks around, those of the open block among them, and the blocks that the operation takes in
  abbrev front : List (Ptr BasicBlock)
  front = joined (map (λ (x : Open D K A T). blocks_of_body x.body) a.around.items)

  abbrev others : List (Ptr BasicBlock)
  others = front ++ blocks_of_body a.here.body

  abbrev taken : List (List (Ptr BasicBlock))
  taken = lists_of ended.regions.items

  blocks_there : blocks_of whole ≡ others ++ joined taken
  blocks_there =
      gathered_two (λ (x : Open D K A T). blocks_of_body x.body) whole a.around.items f a.here is_f is_around
      ∙ ap (λ (x : Body D K A T). others ++ blocks_of_body x) is_body

  loose_whole : whole.made.loose.items ≡ block_nodes others ++ block_nodes (joined taken)
  loose_whole = of_stack whole (others ++ joined taken) blocks_there none_yet stack ∙ nodes_append others (joined taken)

  loose_was : a.made.loose.items ≡ block_nodes others ++ block_nodes (joined taken)
  loose_was = ap (λ (z : Assembly). z.loose.items) is_made ∙ loose_whole

  held_was : HoldsAllNew start s.ctx (block_nodes others ++ block_nodes (joined taken))
  held_was = subst (λ (xs : List IRNode). HoldsAllNew start s.ctx xs) loose_whole held

  -- the open block is among the blocks around
  open_at : (p : Ptr BasicBlock) → block_in a.here.body ≡ Some p → slice_get others (length front + 0) ≡ Some p
  open_at p e = get_shifted front (blocks_of_body a.here.body) 0 p (open_first a.here.body p e)

  open_node : (p : Ptr BasicBlock) → block_in a.here.body ≡ Some p → slice_get (block_nodes others) (length front + 0) ≡ Some (BlockNode p)
  open_node p e = get_image BlockNode others (length front + 0) p (open_at p e)

  -- it can be made, and put in what is around it
  pub can_make : CanMake s.ctx a.here.body taken
  can_make = record {
    all_loose = taken_loose start s.ctx (block_nodes others) taken held_was;
    apart = taken_apart start s.ctx (block_nodes others) taken held_was;
    open_loose = λ p e. outer_loose start s.ctx (block_nodes others) taken held_was (length front + 0) (BlockNode p) (open_node p e);
    open_apart = λ p e. outer_apart start s.ctx (block_nodes others) taken held_was (length front + 0) p (open_node p e);
  }

  -- where there is no room for its results, there is none for the definitions of the text
  pub numbers_full : 2 ^ 64 ≤ s.counter + length a.here.names.items → 2 ^ 64 ≤ counter + length names.definitions
  numbers_full full =
      let N : Open D K A T → List ℕ = λ x. x.numbers.items in
      let here : length a.here.numbers.items ≡ length a.here.names.items =
      as_many (λ n k. slice_get names.definitions n ≡ Some k) a.here.numbers.items (names_behind [] o.before)
      (subst (λ (ks : List ℕ). Pairs (λ n k. slice_get names.definitions n ≡ Some k) a.here.numbers.items ks) (named_before q o.before alone) outer.numbered)
      ∙ ap length (sym (alone_names q a.here.names.items o.before alone ending.outer.named)) in
      let split : length (numbers_of a) ≡ length (joined (map N a.around.items)) + length a.here.numbers.items =
      ap length (numbers_split a) ∙ length-append (joined (map N a.around.items)) a.here.numbers.items in
      let counted = settled_before.counted in
      let as_tokens = settled_before.many in
      omega (arith, full, here, split, counted, as_tokens)

  -- Now the operation is made.
  module _ (kind_at : ℕ → Option K) (t : Stage K A T) (c : Assembler D K A T) (kept : c.around.items ≡ a.around.items) (new : EndsOperation says values kind_at s t.ctx a c ended (pieces_in values text ts))
      (given : t.counter ≡ s.counter + length a.here.names.items) (same : HasBody a.here c.here a.here.body) (first last : ℕ)
      (no_fault : names_fault a.here.names.items first (length (values.result_types ended.kind (pieces_in values text ts))) last ≡ None)
      (waits : AreWaiting start s.ctx whole.made.pending.items names) (labelled : AreLabelled s whole names.labels) where
    abbrev v : PartialModule K A T
    v = world_of t c names

    abbrev op : Ptr Operation
    op = new.op

    abbrev step : ActionSpan
    step = record { action = o.action; first = o.first; last = last }

    abbrev us : Trees ActionSpan
    us = behind o.before (ended_tree o ts last)

    abbrev tree : Entity ℕ
    tree = entity (head_of values text (names_behind [] o.before) ts ended.kind) (regions_in values text ts)

    abbrev results : List TypedValue
    results = numbered_values (ByOp op) s.counter new.result_types

    numbered_here : Pairs (λ n k. slice_get names.definitions n ≡ Some k) a.here.numbers.items (names_behind [] o.before)
    numbered_here = subst (λ (ks : List ℕ). Pairs (λ n k. slice_get names.definitions n ≡ Some k) a.here.numbers.items ks) (named_before q o.before alone) outer.numbered

    names_count : length a.here.names.items ≡ length new.result_types
    names_count = names_many a.here.names.items first (length (values.result_types ended.kind (pieces_in values text ts))) last no_fault
        ∙ sym (as_many (ShowsType says new.typed.types) new.result_types (values.result_types ended.kind (pieces_in values text ts)) new.drafts.typed)

    many : length a.here.numbers.items ≡ length new.result_types
    many = as_many (λ n k. slice_get names.definitions n ≡ Some k) a.here.numbers.items (names_behind [] o.before) numbered_here
        ∙ (ap length (sym (alone_names q a.here.names.items o.before alone ending.outer.named)) ∙ names_count)

    -- ---- the context with the operation

    typed_keeps : KeepsAllSeen s.ctx new.typed
    typed_keeps = same_keeps s.ctx new.typed new.same

    made_keeps : KeepsAllSeen s.ctx new.with_it
    made_keeps = keeps_both s.ctx new.typed new.with_it typed_keeps
        (makes_keeps new.typed new.with_it op new.kind new.attributes new.result_types s.counter taken new.makes)

    held_made : HoldsAllNew start new.with_it (block_nodes others ++ OperationNode op ∷ [])
    held_made = held_makes start new.typed (block_nodes others) taken (held_same start s.ctx new.typed (block_nodes others ++ block_nodes (joined taken)) new.same held_was)
        new.with_it op new.kind new.attributes new.result_types s.counter new.makes new.forest

    open_still : (p : Ptr BasicBlock) → block_in a.here.body ≡ Some p → IsLooseBlock new.with_it p
    open_still p e = held_made.loose.loose (length front + 0) (BlockNode p) (get_left (block_nodes others) (OperationNode op ∷ []) (length front + 0) (BlockNode p) (open_node p e))

    put_in : (x : Option (Ptr BasicBlock)) → block_in a.here.body ≡ x → PutsInto new.with_it t.ctx x op
    put_in x e = subst (λ (y : Option (Ptr BasicBlock)). PutsInto new.with_it t.ctx y op) e new.put

    put_nowhere : a.here.body ≡ body.Text → t.ctx ≡ new.with_it
    put_nowhere is = put_in None (ap block_in is)

    later_put : IsLater new.with_it t.ctx
    later_put = go there
      where
        go : Surrounding says values text w a.here q o.before → IsLater new.with_it t.ctx
        go (in_text e is) = subst (λ (x : Seen K A T). IsLater new.with_it x) (sym (put_nowhere is)) (keeps_later new.with_it new.with_it (record { operations = λ p u h. h; blocks = λ b u h. h; regions = λ r bs h. h; types = λ n key h. h }))
        go (in_open_block ob p e is ob_is opened) =
            appends_later new.with_it t.ctx p op (open_still p (ap block_in is ∙ ob_is)) (put_in (Some p) (ap block_in is ∙ ob_is))

    operations_stay : (p : Ptr Operation) → t.ctx.operation p ≡ new.with_it.operation p
    operations_stay p = go there
      where
        go : Surrounding says values text w a.here q o.before → t.ctx.operation p ≡ new.with_it.operation p
        go (in_text e is) = ap (λ (x : Seen K A T). x.operation p) (put_nowhere is)
        go (in_open_block ob b e is ob_is opened) = let appends : AppendsOperation new.with_it t.ctx b op = put_in (Some b) (ap block_in is ∙ ob_is) in appends.operations p

    types_stay : t.ctx.types ≡ new.typed.types
    types_stay = go there ∙ new.makes.types
      where
        go : Surrounding says values text w a.here q o.before → t.ctx.types ≡ new.with_it.types
        go (in_text e is) = ap (λ (x : Seen K A T). x.types) (put_nowhere is)
        go (in_open_block ob b e is ob_is opened) = let appends : AppendsOperation new.with_it t.ctx b op = put_in (Some b) (ap block_in is ∙ ob_is) in appends.types

    later : IsLater s.ctx t.ctx
    later = later_both s.ctx new.with_it t.ctx (keeps_later s.ctx new.with_it made_keeps) later_put

    -- blocks around the open one stay as they were
    others_once : (j k : ℕ) (b : Ptr BasicBlock) → slice_get others j ≡ Some b → slice_get others k ≡ Some b → j ≡ k
    others_once = once_image BlockNode others (λ j k x e g. held_made.loose.once j k x (get_left (block_nodes others) (OperationNode op ∷ []) j x e) (get_left (block_nodes others) (OperationNode op ∷ []) k x g))

    front_stays : KeepsEach s.ctx t.ctx front
    front_stays b i e =
        let n : slice_get (block_nodes others) i ≡ Some (BlockNode b) = get_image BlockNode others i b (get_left front (blocks_of_body a.here.body) i b e) in
        let loose : IsLooseBlock s.ctx b = outer_loose start s.ctx (block_nodes others) taken held_was i (BlockNode b) n in
        let m = is_there (s.ctx.block b) loose.there in
        go there ∙ (made_keeps.blocks b m.0 m.1 ∙ sym m.1)
      where
        go : Surrounding says values text w a.here q o.before → t.ctx.block b ≡ new.with_it.block b
        go (in_text e is) = ap (λ (x : Seen K A T). x.block b) (put_nowhere is)
        go (in_open_block ob p g is ob_is opened) =
            let inb : block_in a.here.body ≡ Some p = ap block_in is ∙ ob_is in
            let appends : AppendsOperation new.with_it t.ctx p op = put_in (Some p) inb in
            appends.others b (λ eq. once_apart front (blocks_of_body a.here.body) others_once i 0 p (e ∙ ap (λ z. Some z) eq) (open_first a.here.body p inb))

    around_kept : KeepsBlocks s.ctx t.ctx (reverse a.around.items)
    around_kept = keeps_around s.ctx t.ctx a.around.items front_stays

    -- ---- the operation has its tree

    -- the operation as it waits
    abbrev waits_now : Pending
    waits_now = record { op = op; tokens = ended.operands.items; labels = ended.labels.items }

    to_same : LaterWorld w (world_of s a names)
    to_same = same_world_later s s (nothing_made s) whole a names is_made

    pub to_new : LaterWorld w v
    to_new = world_both w (world_of s a names) v to_same
        (world_defined s t a c (ByOp op) new.result_types names counter later many (new.defines many) settled_before
        (λ n b e. ap (λ (bs : Vec (Ptr BasicBlock) Global). slice_get bs.items n) new.blocks ∙ e)
        (λ i x e. ap (λ (xs : List Pending). slice_get xs i) new.pending ∙ get_left a.made.pending.items (waits_now ∷ []) i x e))

    results_named : Pairs (λ d k. IsNamed v d.value k) results (names_behind [] o.before)
    results_named = all_named v a.here.numbers.items results (names_behind [] o.before) numbered_here (many ∙ sym (numbered_length (ByOp op) s.counter new.result_types))
        (λ i n d at_n at_d. ap (λ (xs : List (Option _)). slice_get xs n) (new.defines many)
        ∙ set_all_at 0 a.here.numbers.items (length a.made.values.items) (values_alone results) a.made.values.items
        (rises_right 0 (joined (map (λ (x : Open D K A T). x.numbers.items) a.around.items)) a.here.numbers.items (length a.made.values.items)
        (subst (λ (ns : List ℕ). Rises 0 ns (length a.made.values.items)) (numbers_split a) settled_before.rise))
        (omega arith) i n d.value at_n (get_image (λ (x : TypedValue). x.value) results i d at_d))

    made : IsMade says v op tree
    made = operation_made says values text w v to_new new.typed new.with_it op ended.kind new.kind new.attributes new.result_types s.counter ended.regions.items ended.operands.items ended.labels.items
        (length a.made.pending.items) (names_behind [] o.before) ts new.makes later_put (λ b x e. typed_keeps.blocks b x e)
        (subst (λ (keys : List T). Drafts says keys values new.kind ended.kind (pieces_in values text ts) new.attributes new.result_types) (sym types_stay) new.drafts)
        results_named
        (ap (λ (xs : List Pending). slice_get xs (length a.made.pending.items)) new.pending ∙ get_last a.made.pending.items waits_now)
        inside.operands inside.labels inside.regions

    -- the trees with that of the operation
    names_none : names_behind [] us ≡ []
    names_none = name_behind [] o.before step ts ∙ ap (λ (x : Action). with_name (names_behind [] o.before) x o.first) begins

    results_none : result_names [] us ≡ []
    results_none = result_names_behind [] o.before step ts ∙ ap (λ (x : Action). with_result (result_names [] o.before) x o.first) begins

    one_more : result_names [] o.before ≡ names_behind [] o.before → operations_in values text [] us ≡ with_last (operations_in values text [] o.before) tree
    one_more e =
        operations_behind values text [] o.before step ts
        ∙ (ap (λ (x : Action). by_operation x (operations_in values text [] o.before)
        (λ kind. with_last (operations_in values text [] o.before) (entity (head_of values text (result_names [] o.before) ts kind) (regions_in values text ts)))
        (operations_in values text [] o.before)) begins
        ∙ ap (λ (names : List ℕ). with_last (operations_in values text [] o.before) (entity (head_of values text names ts ended.kind) (regions_in values text ts))) e)

    numbered_none : (p : Position) → named_tokens p us ≡ names_behind [] us → Pairs (λ n k. slice_get names.definitions n ≡ Some k) c.here.numbers.items (named_tokens p us)
    numbered_none p e = subst (λ (ks : List ℕ). Pairs (λ n k. slice_get names.definitions n ≡ Some k) c.here.numbers.items ks) (sym (e ∙ names_none))
        (subst (λ (ns : List ℕ). Pairs (λ n k. slice_get names.definitions n ≡ Some k) ns []) (sym new.numbers) tt)

    -- the root is made
    root_made : q ≡ at_end → a.here.body ≡ body.Text → RaisesAll says values text v c.made.root c.here at_end us (reverse a.around.items) os qs
    root_made e is = go (reverse a.around.items) os qs around_kept (subst (λ (x : Position). RaisesAll says values text w whole.made.root a.here (begun_at x) o.before (reverse a.around.items) os qs) e all)
      where
        here : IsRaised says values text v c.here at_end us
        here = record {
          made = subst (λ (x : Body D K A T). Raises says values text v x c.here at_end us) (sym (same.body ∙ is)) tt;
          numbered = numbered_none at_end refl;
        }

        go : (gs : List (Open D K A T)) (os : List building.Open) (qs : List Position) → KeepsBlocks s.ctx t.ctx gs
            → RaisesAll says values text w whole.made.root a.here behind_root_results o.before gs os qs → RaisesAll says values text v c.made.root c.here at_end us gs os qs
        go [] [] [] blocks h = (
          here,
          results_none ∙ sym names_none,
          names_none,
          (op, tree, new.root is, one_more h.1 ∙ ap (λ (x : Entities ℕ). with_last x tree) h.3, made),
        )
        go (g ∷ gs) (p ∷ ps) (n ∷ ns) blocks h = (here, around_later says values text w v to_new whole.made.root c.made.root g n p.before gs ps ns blocks h.1)
        go _ _ _ blocks h = absurd h

    -- an open block has one more operation
    block_has : (p : Ptr BasicBlock) → block_in a.here.body ≡ Some p → IsOpened says values text w p a.here behind_results o.before → IsOpened says values text v p c.here in_block us
    block_has p inb opened =
        let more : operations_in values text [] us ≡ with_last (operations_in values text [] o.before) tree = one_more opened.names in
        let arguments : arguments_in values text 0 us ≡ arguments_in values text 0 o.before = arguments_behind_header values text 0 o.before step ts opened.header in
        record {
          among = names_none;
          header = has_header_behind o.before step ts ∙ (ap (λ (x : Action). is_header x (has_header o.before)) begins ∙ opened.header);
          names = results_none ∙ sym names_none;
          block = subst (λ (n : ℕ). IsOpenBlock says v p n (text n) (arguments_in values text 0 us) (operations_in values text [] us)) (sym same.first)
              (subst (λ (xs : List (ℕ × ValueTree)). IsOpenBlock says v p a.here.first (text a.here.first) xs (operations_in values text [] us)) (sym arguments)
              (subst (λ (es : Entities ℕ). IsOpenBlock says v p a.here.first (text a.here.first) (arguments_in values text 0 o.before) es) (sym more)
              (block_more says w v to_new new.with_it p a.here.first (text a.here.first) (arguments_in values text 0 o.before) (operations_in values text [] o.before) op tree
              (made_keeps.blocks p opened.block.view opened.block.at ∙ sym opened.block.at) (put_in (Some p) inb) made opened.block)));
        }

    block_holds : (ob : OpenBlock) (p : Ptr BasicBlock) → q ≡ in_block → a.here.body ≡ body.Block ob → ob.block ≡ Some p → IsOpened says values text w p a.here behind_results o.before
        → RaisesAll says values text v c.made.root c.here q us (reverse a.around.items) os qs
    block_holds ob p e is ob_is opened =
        let now : IsOpened says values text v p c.here in_block us = block_has p (ap block_in is ∙ ob_is) opened in
        let here : IsRaised says values text v c.here in_block us = record {
          made = subst (λ (x : Body D K A T). Raises says values text v x c.here in_block us) (sym (same.body ∙ is))
              (subst (λ (x : Option (Ptr BasicBlock)). RaisesBlock says values text v x c.here in_block us) (sym ob_is) now);
          numbered = numbered_none in_block refl;
        } in
        around_with says values text w v to_new whole.made.root c.made.root a.here c.here q o.before us (reverse a.around.items) os qs
        (subst (λ (x : Position). IsAroundRoot (begun_at x) (names_behind [] o.before) → ⊥) (sym e) (λ x. x)) around_kept
        (subst (λ (x : Position). IsRaised says values text v c.here x us) (sym e) here) all

    -- ---- what is loose, and what waits

    blocks_are : blocks_of c ≡ others
    blocks_are = gathered_one (λ (x : Open D K A T). blocks_of_body x.body) c a.around.items kept ∙ ap (λ (x : Body D K A T). front ++ blocks_of_body x) same.body

    loose_is : (x : Body D K A T) → a.here.body ≡ x → c.made.loose.items ≡ block_nodes others ++ new_root x op
    loose_is x e = new.loose (block_nodes others) loose_was ∙ ap (λ (y : Body D K A T). block_nodes others ++ new_root y op) e

    stays_unrooted : (p : Ptr BasicBlock) → block_in a.here.body ≡ Some p → c.made.root ≡ None
    stays_unrooted p inb = new.root_stays p inb ∙ (ap (λ (z : Assembly). z.root) is_made ∙ none_yet)

    fresh_at : (o : Option (SeenOperation K A)) → start.operation op ≡ o → start.operation op ≡ None
    fresh_at None e = e
    fresh_at (Some u) e = no_some u (sym new.makes.fresh ∙ typed_keeps.operations op u (held.came.keeps.operations op u e))

    -- an operation that waits already is another one
    not_this : (i : ℕ) (x : Pending) → slice_get a.made.pending.items i ≡ Some x → x.op ≢ op
    not_this i x e is =
        let there : IsSome (s.ctx.operation x.op) = waits.there i x (ap (λ (z : Assembly). slice_get z.pending.items i) (sym is_made) ∙ e) in
        let m = is_there (s.ctx.operation x.op) there in
        no_some m.0 (sym new.makes.fresh ∙ (ap (λ (p : Ptr Operation). new.typed.operation p) (sym is) ∙ typed_keeps.operations x.op m.0 m.1))

    waits_more : AreWaiting start t.ctx c.made.pending.items names
    waits_more = subst (λ (xs : List Pending). AreWaiting start t.ctx xs names) (sym new.pending)
        (waiting_more start t.ctx a.made.pending.items waits_now _ names (operations_stay op ∙ new.makes.made) refl refl
        (fresh_at (start.operation op) refl) not_this inside.mentioned inside.labels_mentioned
        (waiting_kept start s.ctx t.ctx a.made.pending.items names (λ p u e. operations_stay p ∙ made_keeps.operations p u e)
        (subst (λ (z : Assembly). AreWaiting start s.ctx z.pending.items names) (sym is_made) waits)))

    settled_now : AreSettled t c names.definitions counter
    settled_now = settled_defined s t a c (ByOp op) new.result_types names counter later many (new.defines many) settled_before kept new.numbers
        (ap (λ (u : Option (SeenOperation K A)). unwrap_or (option_map (λ (x : SeenOperation K A). x.results) u) []) (operations_stay op)
        ∙ results_made new.typed new.with_it op new.kind new.attributes new.result_types s.counter taken new.makes)
        (given ∙ ap (λ (n : ℕ). s.counter + n) names_count)

    labels_now : AreLabelled t c names.labels
    labels_now = labelled_same s t whole c names.labels
        (unmade_ended whole c a.here (is_around ∙ ap (λ (xs : List (Open D K A T)). xs ++ a.here ∷ []) (sym kept)) (unmade_same a.here c.here same.body same.first)
        (ap (λ (x : Open D K A T). unmade_label x.body x.first) is_f ∙ ap (λ (x : Body D K A T). unmade_label x f.first) is_body))
        (new.blocks ∙ ap (λ (z : Assembly). z.blocks) is_made) (λ b d. block_later s.ctx t.ctx later b d) labelled

    abbrev Ends : Type 0
    Ends = EndsMade says values text start counter s t whole c f a.here a.around.items names is_f is_around kept o os q qs ts last

    pub operation_ends : Ends
    operation_ends = go there
      where
        go : Surrounding says values text w a.here q o.before → Ends
        go (in_text e is) = record {
          frames = subst (λ (x : Position). RaisesAll says values text v c.made.root c.here x us (reverse a.around.items) os qs) (sym e) (root_made e is);
          held = held_list start t.ctx (block_nodes others ++ OperationNode op ∷ []) c.made.loose.items (loose_is body.Text is)
              (subst (λ (x : Seen K A T). HoldsAllNew start x (block_nodes others ++ OperationNode op ∷ [])) (sym (put_nowhere is)) held_made);
          stack = loose_is body.Text is ∙ (ap (λ (bs : List (Ptr BasicBlock)). block_nodes bs ++ OperationNode op ∷ []) (sym blocks_are)
              ∙ ap (λ (r : Option (Ptr Operation)). block_nodes (blocks_of c) ++ root_nodes r) (sym (new.root is)));
          unrooted = subst (λ (x : Position). IsUnrooted x c.made.root) (sym e) tt;
          definitions = settled_now;
          blocks = labels_now;
          operands = waits_more;
        }
        go (in_open_block ob p e is ob_is opened) =
            let inb : block_in a.here.body ≡ Some p = ap block_in is ∙ ob_is in
            let loose : c.made.loose.items ≡ block_nodes others = loose_is (body.Block ob) is ∙ append-nil (block_nodes others) in
            record {
              frames = block_holds ob p e is ob_is opened;
              held = held_list start t.ctx (block_nodes others) c.made.loose.items loose
                  (held_puts start new.with_it t.ctx (block_nodes others) p op held_made (length front + 0, open_node p inb) (put_in (Some p) inb));
              stack = stack_of c others blocks_are (stays_unrooted p inb) loose;
              unrooted = still_unrooted q c.made.root (stays_unrooted p inb);
              definitions = settled_now;
              blocks = labels_now;
              operands = waits_more;
            }

module _ {D K A T : Type 0} (says : Saying K A T) (values : Values) (text : ℕ → List ℕ) (start : Seen K A T) (counter : ℕ) (s : Stage K A T) (whole a : Assembler D K A T) (f : Open D K A T) (ended : OpenOperation)
    (names : NameTokens) (is_f : whole.here ≡ f) (is_around : whole.around.items ≡ a.around.items ++ a.here ∷ []) (is_made : a.made ≡ whole.made) (is_body : f.body ≡ body.Operation ended)
    (b : Built) (at next : Standing) (holds : Holds says values text s.ctx.types whole b at) (made : HasMade says values text start counter s whole b at names) (out : moved_out at.around ≡ Some next) where
  -- what the pieces of the operation show
  abbrev ps : Pieces
  ps = pieces_in values text b.here

  -- it says its pieces
  pub operation_shown : ShowsParts says s.ctx.types f.content.value.parts.items ps
  operation_shown =
      ends_known says values text start counter s whole f a.here a.around.items names is_f is_around (λ os n. ShowsParts says s.ctx.types f.content.value.parts.items ps) b at next holds made out
      (λ o os q qs ending inner all. (subst (λ (x : Body D K A T). Contains says values text s.ctx.types x f.content.value b.here) is_body ending.frame.contains).parts)

  -- it can be made
  pub operation_can : CanMake s.ctx a.here.body (lists_of ended.regions.items)
  operation_can =
      ends_known says values text start counter s whole f a.here a.around.items names is_f is_around (λ os n. CanMake s.ctx a.here.body (lists_of ended.regions.items)) b at next holds made out
      (λ o os q qs ending inner all. can_make says values text start counter s whole a f ended names is_f is_around is_made is_body o os at.here q qs b.here ending inner all
      (begun_unrooted says values text s.ctx.types f a.here o q b.here at.here ending whole.made.root made.unrooted) made.held made.stack made.definitions)

  -- an operation that ends keeps what has been made
  pub operation_raised : (kind_at : ℕ → Option K) (t : Stage K A T) (c : Assembler D K A T) → c.around.items ≡ a.around.items → (first last : ℕ) (r : Result (Unit {0}) AssemblyFault)
      → (ShowsParts says s.ctx.types f.content.value.parts.items ps → OnOk r (EndsOperation says values kind_at s t.ctx a c ended ps))
      → (ShowsParts says s.ctx.types f.content.value.parts.items ps
      → OnOk r ((values.refused_operation ended.kind ps ≡ None) × (names_fault a.here.names.items first (length (values.result_types ended.kind ps)) last ≡ None)))
      → OnOk r ((t.counter ≡ s.counter + length a.here.names.items) × HasBody a.here c.here a.here.body)
      → OnOk r (HasMade says values text start counter t c (with_end b.here b.around last) next names)
  operation_raised kind_at t c kept first last r makes ends rest =
      ends_made says values text start counter s t whole c f a.here a.around.items names is_f is_around kept b at next last r holds made out
      (λ o os q qs ending inner all none_yet.
      on_ok_both r (on_ok_both r (makes operation_shown) (ends operation_shown) (λ x y. (x, y))) rest
      (λ (x : EndsOperation says values kind_at s t.ctx a c ended ps × ((values.refused_operation ended.kind ps ≡ None) × (names_fault a.here.names.items first (length (values.result_types ended.kind ps)) last ≡ None)))
      (y : (t.counter ≡ s.counter + length a.here.names.items) × HasBody a.here c.here a.here.body).
      operation_ends says values text start counter s whole a f ended names is_f is_around is_made is_body o os at.here q qs b.here ending inner all none_yet made.held made.stack made.definitions
      kind_at t c kept x.0 y.0 y.1 first last x.1.1 made.operands made.blocks))

  pub operation_full : 2 ^ 64 ≤ s.counter + length a.here.names.items → 2 ^ 64 ≤ counter + length names.definitions
  operation_full full =
      ends_known says values text start counter s whole f a.here a.around.items names is_f is_around (λ os n. 2 ^ 64 ≤ counter + length names.definitions) b at next holds made out
      (λ o os q qs ending inner all. numbers_full says values text start counter s whole a f ended names is_f is_around is_made is_body o os at.here q qs b.here ending inner all
      (begun_unrooted says values text s.ctx.types f a.here o q b.here at.here ending whole.made.root made.unrooted) made.held made.stack made.definitions full)
