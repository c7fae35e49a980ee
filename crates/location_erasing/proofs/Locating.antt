-- A walk that takes locations away.
use Rattle.std.proofs.Common.{◌≡◌, ◌<◌, Option, Some, None, refl, sym, ap, ◌∙◌, subst}
use Rattle.std.specs.Prelude.{option_map, IsSome}
use Rattle.std.proofs.lemmas.Bool.{false≢true}
use Rattle.ir_context.specs.Kept.{notes_at, location_at, block_location_at}
use Rattle.ir_context.specs.declared.notes.BlockNotes.{BlockNotes}
use Rattle.ir_context.specs.declared.notes.OperationData.{OperationData}
use Rattle.ir_program.specs.Edits.{EditsOperation, EditsBlock, KeepsValues}
use Rattle.ir_program.specs.Lent.{block_payload_at}
use Rattle.ir_program.specs.Lists.{StandsInside, itself, in_block, in_region, in_operation, IsLiveNode}
use Rattle.ir_program.specs.Program.{Program, OperationView, BlockView, operation_at, block_at}
use Rattle.ir_program.specs.declared.handles.BasicBlock.{BasicBlock}
use Rattle.ir_program.specs.declared.handles.IRNode.{IRNode}
use Rattle.ir_program.specs.declared.handles.IRNode.TheVariants.{Operation as OperationNode, BasicBlock as BlockNode}
use Rattle.ir_program.specs.declared.handles.Operation.{Operation}
use Rattle.ir_program.specs.Preorder.{nodes_in}
use Rattle.ir_program.specs.declared.handles.Ptr.{Ptr}
use Rattle.ir_walks.specs.Levels.{preset}
use Rattle.ir_walks.specs.Turns.{IsKnown, IsTurn, called_at, node_of}
use Rattle.ir_walks.specs.declared.config.Direction.TheVariants.{Forward}
use Rattle.ir_walks.specs.declared.config.Order.TheVariants.{PreOrder}
use Rattle.ir_walks.specs.declared.config.WalkConfig.{WalkConfig}
use Rattle.ir_walks.specs.declared.results.WalkContinue.TheVariants.{Advance}
use Rattle.ir_walks.specs.declared.turns.Cursor.{Cursor}
use Rattle.ir_walks.specs.declared.turns.Cursor.TheVariants.{Arriving}
use Rattle.ir_walks.proofs.Measure.{turns_left}
use Rattle.ir_walks.proofs.Ordered.{walk_of}
use Rattle.ir_walks.proofs.Progress.{IsSoFar}
use Rattle.ir_walks.proofs.Trees.{tree_of}
use Rattle.ir_walks.proofs.Walked as walked
use Rattle.location_erasing.specs.Chosen.{repaid, block_repaid, EditsChosen, EditsOnArriving}
use Rattle.location_erasing.specs.Located.{located, block_located, LocatesAt, LocatesInside}
use Rattle.location_erasing.proofs.ChosenLemmas.{nodes_kept, node_live, stays_inside}
use Rattle.location_erasing.proofs.Turning.{IsAmong, EditsAt, Edited, edited, turn_back, turn_made, nodes_stay, whole_walk}

-- each node before what stands in it, from first to last
abbrev pub preorder : WalkConfig
preorder = preset PreOrder Forward

module _ {O B : Type 0} (f : O → O) (g : B → B) (f_twice : (x : O) → f (f x) ≡ f x) (g_twice : (y : B) → g (g y) ≡ g y) (old : Program O B) (x : IRNode) where
  -- what was called of the walk of the program as it was, and where it is now
  abbrev pub WalkedSoFar : Option Cursor → Program O B → Type 0
  WalkedSoFar at now = walked.Walking old preorder x (EditsAt f g) old at now

  pub begins : WalkedSoFar (Some (Arriving x)) old
  begins = walked.starts old preorder x (EditsAt f g) old

  module _ (known : IsKnown old x) where
    pub ends : (o : Option Cursor) → o ≡ None → (now : Program O B) → WalkedSoFar o now → EditsChosen old now (StandsInside old x) f g
    ends o is now so_far =
        whole_walk f g f_twice g_twice preorder x old so_far.so_far now so_far.ran
        (walk_of old preorder (tree_of old x known) x so_far.so_far (subst (λ z. IsSoFar old preorder x z so_far.so_far) is so_far.stands))

    module _ (o : Option Cursor) (at : Cursor) (is : o ≡ Some at) (mid : Program O B) (so_far : WalkedSoFar o mid) where
      all : Edited f g old so_far.so_far mid
      all = edited f g f_twice g_twice old so_far.so_far mid so_far.ran

      pub at_inside : StandsInside mid x (node_of at)
      at_inside =
          stays_inside f g old mid (IsAmong so_far.so_far) all.told all.edits x (node_of at)
          (walked.stands_inside old preorder x known (EditsAt f g) old o at is mid so_far)

      pub at_live : IsLiveNode mid (node_of at)
      at_live =
          node_live f g old mid (IsAmong so_far.so_far) all.told all.edits (node_of at)
          (walked.is_live old preorder x known (EditsAt f g) old o at is mid so_far)

      module _ (new : Program O B) (did : EditsOnArriving mid new at f g) (next : Option Cursor) (turn : IsTurn new preorder x at Advance next) where
        same : (e : IRNode) → nodes_in new e ≡ nodes_in old e
        same e = nodes_stay f g mid new at did e ∙ nodes_kept f g old mid (IsAmong so_far.so_far) all.told all.edits e

        made : walked.Made (EditsAt f g) (called_at preorder at) Advance mid new
        made = turn_made f g mid new at did

        back : IsTurn old preorder x at Advance next
        back = turn_back old new preorder x same at Advance next turn

        pub goes_on : WalkedSoFar next new
        goes_on = walked.turns old preorder x known (EditsAt f g) old o at is mid so_far Advance new made next back

        pub lowers : turns_left old preorder x next < turns_left old preorder x o
        lowers = walked.turn_lowers old preorder x known (EditsAt f g) old o at is mid so_far Advance new made next back

-- what stands inside what is there, is there
inside_live : {O B : Type 0} (c : Program O B) (x : IRNode) → IsLiveNode c x → (e : IRNode) → StandsInside c x e → IsLiveNode c e
inside_live c x live _ itself = live
inside_live c x live _ (in_block p b s h) = s.operation
inside_live c x live _ (in_region b r s h) = s.block
inside_live c x live _ (in_operation r p s h) = s.region

module _ {D TypeKind AttrKind TypeBody Saved Location OpKind Attr TypeKey : Type 0} (loc : Location) (old new : Program (OperationData D TypeKind AttrKind TypeBody Saved Location OpKind Attr TypeKey) (BlockNotes D TypeKind AttrKind TypeBody Saved Location OpKind Attr TypeKey)) where
  -- an operation that gets a location
  pub operation_located : (p : Ptr Operation) (l : Location) → l ≡ loc → IsSome (operation_at old p)
      → ((n : _) → notes_at old p ≡ Some n → EditsOperation old new p (λ o. record o { payload = record o.payload { notes = record n { loc = l } } }))
      → KeepsValues old new → LocatesAt old new (OperationNode p) loc
  operation_located p l is live edits values = from (operation_at old p) refl live where
    from : (v : Option (OperationView (OperationData D TypeKind AttrKind TypeBody Saved Location OpKind Attr TypeKey))) → operation_at old p ≡ v → IsSome v → LocatesAt old new (OperationNode p) loc
    from None h none = absurd (false≢true none)
    from (Some o) h some =
        let e = edits o.payload.notes (ap (λ v. option_map (λ (d : OperationData D TypeKind AttrKind TypeBody Saved Location OpKind Attr TypeKey). d.notes) (option_map (λ (z : OperationView (OperationData D TypeKind AttrKind TypeBody Saved Location OpKind Attr TypeKey)). z.payload) v)) h) in
        let here : operation_at new p ≡ option_map (repaid (located loc)) (operation_at old p) =
        e.edited
        ∙ ap (λ v. option_map (λ (z : OperationView (OperationData D TypeKind AttrKind TypeBody Saved Location OpKind Attr TypeKey)). record z { payload = record z.payload { notes = record o.payload.notes { loc = l } } }) v) h
        ∙ ap (λ z. Some (record o { payload = record o.payload { notes = record o.payload.notes { loc = z } } })) is
        ∙ sym (ap (λ v. option_map (repaid (located loc)) v) h) in record {
          operations = λ q s. let same : p ≡ q = cc in subst (λ z. operation_at new z ≡ option_map (repaid (located loc)) (operation_at old z)) same here;
          blocks = λ b s. absurd (let no : OperationNode p ≡ BlockNode b = s in cc);
          other_operations = λ q n. e.others q (λ s. n (ap OperationNode (sym s)));
          other_blocks = λ b n. e.blocks b;
          regions = e.regions;
          erased = e.erased;
          values = values;
        }

  -- a block that gets a location
  pub block_is_located : (b : Ptr BasicBlock) (l : Location) → l ≡ loc → IsSome (block_at old b)
      → ((n : _) → block_payload_at old b ≡ Some n → EditsBlock old new b (λ v. record v { payload = record n { loc = l } }))
      → KeepsValues old new → LocatesAt old new (BlockNode b) loc
  block_is_located b l is live edits values = from (block_at old b) refl live where
    from : (v : Option (BlockView (BlockNotes D TypeKind AttrKind TypeBody Saved Location OpKind Attr TypeKey))) → block_at old b ≡ v → IsSome v → LocatesAt old new (BlockNode b) loc
    from None h none = absurd (false≢true none)
    from (Some o) h some =
        let e = edits o.payload (ap (λ v. option_map (λ (z : BlockView (BlockNotes D TypeKind AttrKind TypeBody Saved Location OpKind Attr TypeKey)). z.payload) v) h) in
        let here : block_at new b ≡ option_map (block_repaid (block_located loc)) (block_at old b) =
        e.edited
        ∙ ap (λ v. option_map (λ (z : BlockView (BlockNotes D TypeKind AttrKind TypeBody Saved Location OpKind Attr TypeKey)). record z { payload = record o.payload { loc = l } }) v) h
        ∙ ap (λ z. Some (record o { payload = record o.payload { loc = z } })) is
        ∙ sym (ap (λ v. option_map (block_repaid (block_located loc)) v) h) in record {
          operations = λ q s. absurd (let no : BlockNode b ≡ OperationNode q = s in cc);
          blocks = λ q s. let same : b ≡ q = cc in subst (λ z. block_at new z ≡ option_map (block_repaid (block_located loc)) (block_at old z)) same here;
          other_operations = λ q n. e.operations q;
          other_blocks = λ q n. e.others q (λ s. n (ap BlockNode (sym s)));
          regions = e.regions;
          erased = e.erased;
          values = values;
        }

  module _ (x : IRNode) (live : IsLiveNode old x) (edits : LocatesInside old new x loc) where
    pub operation_has : (p : Ptr Operation) → StandsInside old x (OperationNode p) → location_at new p ≡ Some loc
    operation_has p s =
        ap (λ v. option_map (λ (d : OperationData D TypeKind AttrKind TypeBody Saved Location OpKind Attr TypeKey). d.notes.loc) (option_map (λ (o : OperationView (OperationData D TypeKind AttrKind TypeBody Saved Location OpKind Attr TypeKey)). o.payload) v)) (edits.operations p s)
        ∙ from (operation_at old p) (inside_live old x live (OperationNode p) s)
      where
        from : (v : Option (OperationView (OperationData D TypeKind AttrKind TypeBody Saved Location OpKind Attr TypeKey))) → IsSome v → option_map (λ (d : OperationData D TypeKind AttrKind TypeBody Saved Location OpKind Attr TypeKey). d.notes.loc) (option_map (λ (o : OperationView (OperationData D TypeKind AttrKind TypeBody Saved Location OpKind Attr TypeKey)). o.payload) (option_map (repaid (located loc)) v)) ≡ Some loc
        from None none = absurd (false≢true none)
        from (Some o) some = refl

    pub block_has : (b : Ptr BasicBlock) → StandsInside old x (BlockNode b) → block_location_at new b ≡ Some loc
    block_has b s =
        ap (λ v. option_map (λ (n : BlockNotes D TypeKind AttrKind TypeBody Saved Location OpKind Attr TypeKey). n.loc) (option_map (λ (o : BlockView (BlockNotes D TypeKind AttrKind TypeBody Saved Location OpKind Attr TypeKey)). o.payload) v)) (edits.blocks b s)
        ∙ from (block_at old b) (inside_live old x live (BlockNode b) s)
      where
        from : (v : Option (BlockView (BlockNotes D TypeKind AttrKind TypeBody Saved Location OpKind Attr TypeKey))) → IsSome v → option_map (λ (n : BlockNotes D TypeKind AttrKind TypeBody Saved Location OpKind Attr TypeKey). n.loc) (option_map (λ (o : BlockView (BlockNotes D TypeKind AttrKind TypeBody Saved Location OpKind Attr TypeKey)). o.payload) (option_map (block_repaid (block_located loc)) v)) ≡ Some loc
        from None none = absurd (false≢true none)
        from (Some o) some = refl
