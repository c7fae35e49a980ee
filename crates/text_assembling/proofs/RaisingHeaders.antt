-- The header of a block that ends makes the block.
use Rattle.std.proofs.Common.{◌≡◌, ◌∙◌, ℕ, ◌+◌, ◌≤◌, ◌^◌, List, [], ◌∷◌, ◌++◌, map, length, reverse, Option, Some, None, slice_get, Vec, true, refl, sym, ap, subst, append-nil, arith}
use Rattle.std.proofs.lemmas.List.{length-append}
use Rattle.std.specs.Global.{Global}
use Rattle.text_frames.specs.Worlds.{joined}
use Rattle.ir_names.specs.Text.{is_identifier}
use Rattle.ir_names.specs.Tree.{Trees, no_tree}
use Rattle.ir_base.specs.declared.types.TypeHandle.{TypeHandle}
use Rattle.ir_context.specs.Known.{AreKnownIn}
use Rattle.ir_print.specs.declared.format.Part.TheVariants as part
use Rattle.ir_print.specs.Pieces.{Values, ValueTree, Entities, no_entity}
use Rattle.ir_print.specs.Shown.{Saying, Pairs, ShowsType}
use Rattle.ir_program.specs.Adds.{numbered_values}
use Rattle.ir_program.specs.Program.{TypedValue}
use Rattle.ir_program.specs.declared.handles.BasicBlock.{BasicBlock}
use Rattle.ir_program.specs.declared.handles.DefiningEntity.TheVariants.{Block as ByBlock}
use Rattle.ir_program.specs.declared.handles.IRNode.{IRNode}
use Rattle.ir_program.specs.declared.handles.IRNode.TheVariants.{BasicBlock as BlockNode}
use Rattle.ir_program.specs.declared.handles.Ptr.{Ptr}
use Rattle.ir_grammar.specs.declared.grammar.Action.TheVariants as act
use Rattle.ir_grammar.specs.Nesting.{Position, in_header, in_block, move}
use Rattle.ir_forest.specs.Building.{Built, with_leaf, names_behind}
use Rattle.ir_forest.specs.Forest.{ActionSpan}
use Rattle.ir_forest.specs.Meaning.{pieces_in, arguments_in, typed, operations_in}
use Rattle.ir_forest.proofs.PiecesBehind.{name_behind}
use Rattle.ir_formats.specs.Ordered.{Standing, moved_by}
use Rattle.text_dialect.specs.Seen.{Seen}
use Rattle.text_frames.specs.building.Kept.{KeepsAllSeen}
use Rattle.text_frames.specs.building.Later.{IsLater}
use Rattle.text_frames.proofs.BuildingLemmas.Later.{block_later, keeps_later, opens_keeps}
use Rattle.text_frames.proofs.BuildingLemmas.Options.{there}
use Rattle.text_frames.specs.Waiting.{Waiting}
use Rattle.text_frames.specs.declared.opened.Body.{Body}
use Rattle.text_frames.specs.declared.opened.Body.TheVariants as body
use Rattle.text_frames.specs.declared.opened.Open.{Open}
use Rattle.text_frames.specs.declared.opened.OpenBlock.{OpenBlock}
use Rattle.text_frames.specs.Makes.{types_in}
use Rattle.text_frames.specs.Raised.{argument_tokens, blocks_of_body, listed, listed_block, IsAroundRoot, IsHeader, RaisesBlock, Raises, IsRaised}
use Rattle.text_frames.specs.Worlds.{NameTokens, IsOpenBlock, LaterWorld, Rises, PartialModule, values_alone}
use Rattle.text_frames.proofs.BuiltBehind.{operations_behind, arguments_behind, has_header_behind, result_names_behind, listed_length}
use Rattle.text_frames.proofs.Defining.{arguments_made}
use Rattle.text_frames.proofs.LaterWorlds.{get_left, KeepsBlocks, KeepsEach, keeps_left, keeps_right}
use Rattle.text_frames.proofs.Made.{IsNamed, IsBlockNamed, all_named, block_opened}
use Rattle.text_frames.proofs.Opening.{as_many, shown_known}
use Rattle.text_frames.proofs.Rising.{numbered_length, rises_right, set_all_at}
use Rattle.text_assembling.specs.declared.assembling.Assembler.{Assembler}
use Rattle.text_assembling.specs.Assembling.{HasMade, KeepsAround, Stage, blocks_of, numbers_of, unmade_block, unmade_label, unmade_labels, world_of}
use Rattle.text_assembling.specs.Steps.{MakesBlock}
use Rattle.text_assembling.proofs.Held.{held_list, held_opens}
use Rattle.text_assembling.proofs.Labelled.{label_numbered, block_numbered, labelled_made}
use Rattle.text_assembling.proofs.Lists.{get_image, nodes_put}
use Rattle.text_assembling.proofs.RaisingBegins.{raised_here}
use Rattle.text_assembling.proofs.RaisingLeaves.{leaf_behind, frames_leaf, none_more}
use Rattle.text_assembling.proofs.SettledDefinitions.{numbers_split, blocks_split, keeps_around}
use Rattle.text_assembling.proofs.Settling.{each_kept, of_stack, settled_defined, stack_of, still_unrooted, waiting_kept, world_defined}
use Rattle.text_assembling.proofs.Stepping.{lone}

pub header_at : (around : List Position) (next : Standing) (p : Position) → moved_by (move p act.Header) around ≡ Some next → (p ≡ in_header) × (record { here = in_block; around = around } ≡ next)
header_at around next in_header h = (refl, cc)
header_at around next _ h = cc

types_in_types : (D K A T : Type 0) (types : List TypeHandle) → types_in {D = D} {K = K} {A = A} {T = T} (map part.«Type» types) ≡ types
types_in_types D K A T [] = refl
types_in_types D K A T (ty ∷ types) = ap (λ (ts : List TypeHandle). ty ∷ ts) (types_in_types D K A T types)

module _ {D K A T : Type 0} (says : Saying K A T) (values : Values) (text : ℕ → List ℕ) (w : PartialModule K A T) (f : Open D K A T) (ts : Trees ActionSpan) where
  in_a_header : (p : Option (Ptr BasicBlock)) → RaisesBlock says values text w p f in_header ts → (p ≡ None) × IsHeader says values text w f in_header ts
  in_a_header None h = (refl, h)
  in_a_header (Some p) h = absurd h.among

  -- the block of a body that is read in a header is known by its header, and isn't made yet
  pub header_of : (o : OpenBlock) → f.body ≡ body.Block o → IsRaised says values text w f in_header ts → (o.block ≡ None) × IsHeader says values text w f in_header ts
  header_of o is h = in_a_header o.block (subst (λ (x : Body D K A T). Raises says values text w x f in_header ts) is h.made)

module _ {D K A T : Type 0} (says : Saying K A T) (values : Values) (text : ℕ → List ℕ) (start : Seen K A T) (counter : ℕ) (s : Stage K A T) (a : Assembler D K A T) (b : Built) (here : Standing) (names : NameTokens)
    (has : HasMade says values text start counter s a b here names) (place : here.here ≡ in_header) (o : OpenBlock) (is : a.here.body ≡ body.Block o) where
  old_header : IsRaised says values text (world_of s a names) a.here in_header b.here
  old_header = subst (λ (p : Position). IsRaised says values text (world_of s a names) a.here p b.here) place
      (raised_here says values text (world_of s a names) a.made.root a.here here.here b.here (reverse a.around.items) b.around here.around has.frames)

  pub the_header : IsHeader says values text (world_of s a names) a.here in_header b.here
  the_header = (header_of says values text (world_of s a names) a.here b.here o is old_header).1

  not_made : o.block ≡ None
  not_made = (header_of says values text (world_of s a names) a.here b.here o is old_header).0

  pub types_known : types_in a.here.content.value.parts.items ≡ the_header.types
  types_known = ap types_in the_header.parts ∙ types_in_types D K A T the_header.types

  -- the types of the arguments are there
  pub header_known : AreKnownIn (length s.ctx.types) (types_in a.here.content.value.parts.items)
  header_known = subst (λ (tys : List TypeHandle). AreKnownIn (length s.ctx.types) tys) (sym types_known) (shown_known says s.ctx.types the_header.types (listed (pieces_in values text b.here)) the_header.shown)

  pub header_spelt : is_identifier (text a.here.first) ≡ true
  header_spelt = the_header.spelt

  -- each argument that is named has a type
  pub many_types : length a.here.numbers.items ≡ length (types_in a.here.content.value.parts.items)
  many_types =
      as_many (λ n k. slice_get names.definitions n ≡ Some k) a.here.numbers.items (argument_tokens b.here) old_header.numbered
      ∙ (the_header.typed_so ∙ (sym (listed_length (pieces_in values text b.here))
      ∙ (sym (as_many (ShowsType says s.ctx.types) the_header.types (listed (pieces_in values text b.here)) the_header.shown) ∙ ap length (sym types_known))))

  -- where there is no room for its arguments, there is none for all that are named
  pub header_full : 2 ^ 64 ≤ s.counter + length (types_in a.here.content.value.parts.items) → 2 ^ 64 ≤ counter + length names.definitions
  header_full long =
      let outer : List ℕ = joined (map (λ (f : Open D K A T). f.numbers.items) a.around.items) in
      let all : length (numbers_of a) ≡ length outer + length a.here.numbers.items = ap length (numbers_split a) ∙ length-append outer a.here.numbers.items in
      omega (arith, long, many_types, all, has.definitions.counted, has.definitions.many)

  -- The block is made.
  module _ (none_yet : a.made.root ≡ None) (all_made : unmade_labels a.around.items ≡ []) (t : Stage K A T) (c : Assembler D K A T) (kept : KeepsAround a c) (first : c.here.first ≡ a.here.first) (new : MakesBlock s t.ctx a c (text a.here.first))
      (given : t.counter ≡ s.counter + length (types_in a.here.content.value.parts.items)) (k : ℕ) where
    abbrev ts : Trees ActionSpan
    ts = b.here

    abbrev more : Trees ActionSpan
    more = leaf_behind ts act.Header k

    abbrev types : List TypeHandle
    types = types_in a.here.content.value.parts.items

    abbrev p : Ptr BasicBlock
    p = new.block

    abbrev w : PartialModule K A T
    w = world_of s a names

    abbrev v : PartialModule K A T
    v = world_of t c names

    all_kept : KeepsAllSeen s.ctx t.ctx
    all_kept = opens_keeps s.ctx t.ctx p (Some new.id) types s.counter new.opens

    later : IsLater s.ctx t.ctx
    later = keeps_later s.ctx t.ctx all_kept

    items : c.around.items ≡ a.around.items
    items = ap (λ (gs : Vec (Open D K A T) Global). gs.items) kept.around

    to_new : LaterWorld w v
    to_new = world_defined s t a c (ByBlock p) types names counter later many_types (new.values many_types) has.definitions
        (λ n q at. ap (λ (qs : List (Ptr BasicBlock)). slice_get qs n) new.blocks ∙ get_left a.made.blocks.items (p ∷ []) n q at)
        (λ i x at. ap (λ (xs : Waiting). slice_get xs.items i) new.pending ∙ at)

    abbrev outer : List (Ptr BasicBlock)
    outer = joined (map (λ (f : Open D K A T). blocks_of_body f.body) a.around.items)

    each : KeepsEach s.ctx t.ctx (outer ++ blocks_of_body a.here.body)
    each = subst (λ (bs : List (Ptr BasicBlock)). KeepsEach s.ctx t.ctx bs) (blocks_split a)
        (each_kept start s.ctx a.made.loose.items (blocks_of a) has.held (of_stack a (blocks_of a) refl none_yet has.stack) t.ctx all_kept)

    all_keep : KeepsBlocks s.ctx t.ctx (a.here ∷ reverse a.around.items)
    all_keep = (
      keeps_right s.ctx t.ctx outer (blocks_of_body a.here.body) each,
      keeps_around s.ctx t.ctx a.around.items (keeps_left s.ctx t.ctx outer (blocks_of_body a.here.body) each),
    )

    rise : Rises 0 a.here.numbers.items (length a.made.values.items)
    rise = rises_right 0 (joined (map (λ (f : Open D K A T). f.numbers.items) a.around.items)) a.here.numbers.items (length a.made.values.items)
        (subst (λ (ns : List ℕ). Rises 0 ns (length a.made.values.items)) (numbers_split a) has.definitions.rise)

    named : Pairs (λ d k. IsNamed v d.value k) (numbered_values (ByBlock p) s.counter types) (argument_tokens ts)
    named = all_named v a.here.numbers.items (numbered_values (ByBlock p) s.counter types) (argument_tokens ts) old_header.numbered
        (many_types ∙ sym (numbered_length (ByBlock p) s.counter types))
        (λ i n d at_n at_d. ap (λ (xs : List (Option _)). slice_get xs n) (new.values many_types)
        ∙ set_all_at 0 a.here.numbers.items (length a.made.values.items) (values_alone (numbered_values (ByBlock p) s.counter types)) a.made.values.items rise (omega arith) i n d.value at_n
        (get_image (λ (x : TypedValue). x.value) (numbered_values (ByBlock p) s.counter types) i d at_d))

    shown : Pairs (ShowsType says t.ctx.types) types (listed (pieces_in values text ts))
    shown = subst (λ (keys : List T). Pairs (ShowsType says keys) types (listed (pieces_in values text ts))) (sym new.opens.types)
        (subst (λ (tys : List TypeHandle). Pairs (ShowsType says s.ctx.types) tys (listed (pieces_in values text ts))) (sym types_known) the_header.shown)

    arguments_so : arguments_in values text 0 more ≡ typed (argument_tokens ts) (listed (pieces_in values text ts))
    arguments_so = arguments_behind values text 0 ts (lone act.Header k) no_tree the_header.open_still ∙ (append-nil (arguments_in values text 0 ts) ∙ the_header.arguments)

    none_in_it : operations_in values text [] more ≡ no_entity
    none_in_it = operations_behind values text [] ts (lone act.Header k) no_tree ∙ the_header.empty

    -- its label is the only one whose block isn't made
    label_here : unmade_label a.here.body a.here.first ≡ a.here.first ∷ []
    label_here = ap (λ (x : Body D K A T). unmade_label x a.here.first) is ∙ ap (λ (x : Option (Ptr BasicBlock)). unmade_block x a.here.first) not_made

    label_is : IsBlockNamed v p a.here.first
    label_is = (
      length has.blocks.made,
      label_numbered s t a c names.labels a.here.first p has.blocks all_made label_here new.blocks,
      block_numbered s t a c names.labels a.here.first p has.blocks all_made label_here new.blocks,
    )

    opened : IsOpenBlock says v p c.here.first (text c.here.first) (arguments_in values text 0 more) (operations_in values text [] more)
    opened = subst (λ (n : ℕ). IsOpenBlock says v p n (text n) (arguments_in values text 0 more) (operations_in values text [] more)) (sym first)
        (subst (λ (xs : List (ℕ × ValueTree)). IsOpenBlock says v p a.here.first (text a.here.first) xs (operations_in values text [] more)) (sym arguments_so)
        (subst (λ (es : Entities ℕ). IsOpenBlock says v p a.here.first (text a.here.first) (typed (argument_tokens ts) (listed (pieces_in values text ts))) es) (sym none_in_it)
        (block_opened says v s.ctx p new.id a.here.first (text a.here.first) types s.counter (argument_tokens ts) (listed (pieces_in values text ts)) new.opens new.spelt label_is named shown)))

    raised : IsRaised says values text v c.here in_block more
    raised = record {
      made = subst (λ (x : Body D K A T). Raises says values text v x c.here in_block more) (sym new.body) (record {
        among = name_behind [] ts (lone act.Header k) no_tree;
        header = has_header_behind ts (lone act.Header k) no_tree;
        names = result_names_behind [] ts (lone act.Header k) no_tree ∙ (the_header.no_results ∙ sym (name_behind [] ts (lone act.Header k) no_tree));
        block = opened;
      });
      numbered = rw (new.numbers, name_behind [] ts (lone act.Header k) no_tree) tt;
    }

    -- it is the last of the blocks that are in no region
    blocks_were : blocks_of a ≡ outer
    blocks_were = blocks_split a ∙ (ap (λ (x : Body D K A T). outer ++ blocks_of_body x) is ∙ (ap (λ (x : Option (Ptr BasicBlock)). outer ++ listed_block x) not_made ∙ append-nil outer))

    blocks_are : blocks_of c ≡ outer ++ p ∷ []
    blocks_are = blocks_split c ∙ (ap (λ (gs : List (Open D K A T)). joined (map (λ (f : Open D K A T). blocks_of_body f.body) gs) ++ blocks_of_body c.here.body) items
        ∙ ap (λ (x : Body D K A T). outer ++ blocks_of_body x) new.body)

    pub header_made : (next : Standing) → record { here = in_block; around = here.around } ≡ next
        → HasMade says values text start counter t c (with_leaf b act.Header k) next (none_more names)
    header_made next leads = rw (append-nil names.definitions, append-nil names.mentions, append-nil names.labels, append-nil names.edges) (record {
      frames = frames_leaf says values text s t a c b here next names names has.frames to_new new.root all_keep kept.around in_block more leads (λ h. raised)
          (λ r. absurd (subst (λ (q : Position). IsAroundRoot q (names_behind [] b.here)) place r.1));
      held = held_list start t.ctx (a.made.loose.items ++ BlockNode p ∷ []) c.made.loose.items new.loose
          (held_opens start s.ctx t.ctx a.made.loose.items p (Some new.id) types s.counter new.opens has.held);
      stack = stack_of c (outer ++ p ∷ []) blocks_are (new.root ∙ none_yet)
          (new.loose ∙ (ap (λ (xs : List IRNode). xs ++ BlockNode p ∷ []) (of_stack a outer blocks_were none_yet has.stack) ∙ sym (nodes_put outer p)));
      unrooted = still_unrooted next.here c.made.root (new.root ∙ none_yet);
      definitions = settled_defined s t a c (ByBlock p) types names counter later many_types (new.values many_types) has.definitions items new.numbers
          (arguments_made s.ctx t.ctx p (Some new.id) types s.counter new.opens) given;
      blocks = labelled_made s t a c names.labels a.here.first p has.blocks all_made label_here new.blocks items (ap (λ (x : Body D K A T). unmade_label x c.here.first) new.body)
          (λ q d. block_later s.ctx t.ctx later q d) (there (t.ctx.block p) _ new.opens.made);
      operands = rw new.pending (waiting_kept start s.ctx t.ctx a.made.pending.items names (λ q u e. new.opens.operations q ∙ e) has.operands);
    })
