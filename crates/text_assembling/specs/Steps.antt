-- What steps make, and where they lead to.
use Rattle.std.specs.Prelude.{◌≡◌, ℕ, ◌-◌, ◌+◌, ◌^◌, ◌≤◌, List, [], ◌∷◌, ◌++◌, None, length, Option, Some, slice_get}
use Rattle.text_frames.specs.Worlds.{joined}
use Rattle.ir_base.specs.declared.types.TypeHandle.{TypeHandle}
use Rattle.ir_context.specs.Views.{ContextView}
use Rattle.ir_context.specs.declared.notes.BlockNotes.{BlockNotes}
use Rattle.ir_context.specs.declared.notes.OperationData.{OperationData}
use Rattle.ir_names.specs.Identifier.{text_of}
use Rattle.ir_names.specs.declared.identifier.Identifier.{Identifier}
use Rattle.ir_print.specs.Pieces.{Values, Pieces}
use Rattle.ir_print.specs.Shown.{Saying, Drafts}
use Rattle.ir_program.specs.Adds.{numbered_values}
use Rattle.ir_program.specs.Made.{IsNoneOf}
use Rattle.ir_program.specs.declared.handles.BasicBlock.{BasicBlock}
use Rattle.ir_program.specs.declared.handles.DefiningEntity.TheVariants.{Op as ByOp, Block as ByBlock}
use Rattle.ir_program.specs.declared.handles.IRNode.{IRNode}
use Rattle.ir_program.specs.declared.handles.IRNode.TheVariants.{Operation as OperationNode, BasicBlock as BlockNode}
use Rattle.ir_program.specs.declared.handles.Operation.{Operation}
use Rattle.ir_program.specs.declared.handles.Ptr.{Ptr}
use Rattle.ir_types.specs.Views.{TypesView}
use Rattle.ir_forest.specs.Building.{Built, after, fault_after, fault_at_end, with_end}
use Rattle.ir_forest.specs.Identifiers.{IsSpelt}
use Rattle.ir_formats.specs.Ordered.{Standing, moved_by, moved_out}
use Rattle.ir_grammar.specs.Nesting.{move}
use Rattle.ir_grammar.specs.declared.grammar.Action.{Action}
use Rattle.ir_tokens.specs.declared.faults.Fault.{Fault}
use Rattle.text_dialect.specs.Seen.{Seen, seen}
use Rattle.text_frames.specs.building.Inside.{IsSeenForest}
use Rattle.text_frames.specs.building.Kept.{SameSeen}
use Rattle.text_frames.specs.building.Loose.{AreAllLoose, ListsAreApart, IsLooseBlock}
use Rattle.text_frames.specs.building.Made.{OpensBlock, MakesDetachedOperation, AppendsOperation, lists_of}
use Rattle.text_frames.specs.declared.opened.Body.{Body}
use Rattle.text_frames.specs.declared.opened.Body.TheVariants as body
use Rattle.text_frames.specs.declared.opened.Open.{Open}
use Rattle.text_frames.specs.declared.opened.OpenOperation.{OpenOperation}
use Rattle.text_frames.specs.Makes.{types_in, block_in}
use Rattle.text_frames.specs.Raised.{MayEnd, block_nodes, names_after}
use Rattle.text_frames.specs.Worlds.{NameTokens, set_all, values_alone}
use Rattle.text_assembling.specs.declared.assembling.Assembler.{Assembler}
use Rattle.text_assembling.specs.Assembling.{Holds, HasMade, Stage, stage}

-- ---- where reading has come to

-- What was at the start, and the number that the next value had then; the trees that are built, and where reading
-- stands; and the names that were read.
pub record Progress (K A T : Type 0) : Type 0 where
  pub start : Seen K A T
  pub first : ℕ
  pub built : Built
  pub standing : Standing
  pub names : NameTokens

module _ {K A T : Type 0} where
  -- after an action at a token, which leads on to another standing
  abbrev pub progress_after : Progress K A T → Action → ℕ → Standing → Progress K A T
  progress_after g x k next = record {
    start = g.start;
    first = g.first;
    built = after g.built x k;
    standing = next;
    names = names_after g.names x k;
  }

  -- after what is open innermost has ended at a token
  abbrev pub progress_ended : Progress K A T → ℕ → Standing → Progress K A T
  progress_ended g k next = record g { built = with_end g.built.here g.built.around k; standing = next }

  -- what is open innermost may end, and reading goes on behind it
  pub record MayGoOut (g : Progress K A T) (next : Standing) : Type 0 where
    pub out : moved_out g.standing.around ≡ Some next
    pub may : MayEnd g.standing.here

module _ {D K A T : Type 0} where
  -- an action at the last token has its place, and is spelt so
  pub record ActionIsInPlace (text : ℕ → List ℕ) (a : Assembler D K A T) (x : Action) (g : Progress K A T) (next : Standing) :
      Type 0 where
    pub leads : moved_by (move g.standing.here x) g.standing.around ≡ Some next
    pub spelt : IsSpelt x (text (a.taken - 1))

module _ {D K A T : Type 0} (says : Saying K A T) (values : Values) (text : ℕ → List ℕ) where
  -- what is open holds what is built, and what is built has been made
  pub record IsAt (s : Stage K A T) (a : Assembler D K A T) (g : Progress K A T) : Type 0 where
    pub holds : Holds says values text s.ctx.types a g.built g.standing
    pub made : HasMade says values text g.start g.first s a g.built g.standing g.names

  -- the action may come now
  pub record CanStep (s : Stage K A T) (a : Assembler D K A T) (x : Action) : Type 0 where
    pub progress : Progress K A T
    pub next : Standing
    pub at : IsAt s a progress
    pub goes : ActionIsInPlace text a x progress next

  -- the action has come, with no fault
  abbrev pub HasStepped : Stage K A T → Assembler D K A T → Stage K A T → Assembler D K A T → Action → Type 0
  HasStepped s a t c x = (g : Progress K A T) (next : Standing) → IsAt s a g → ActionIsInPlace text a x g next
      → (fault_after values text g.built x (a.taken - 1) ≡ None) × IsAt t c (progress_after g x (a.taken - 1) next)

module _ {D K A T : Type 0} (says : Saying K A T) (values : Values) where
  -- what is open innermost may end now
  abbrev pub CanEnd : Stage K A T → Assembler D K A T → Type 0
  CanEnd s a = (text : ℕ → List ℕ) × (g : Progress K A T) × (next : Standing) × IsAt says values text s a g
      × MayGoOut g next

  -- it has ended, with no fault
  abbrev pub HasEnded : Stage K A T → Assembler D K A T → Stage K A T → Assembler D K A T → Type 0
  HasEnded s a t c = (text : ℕ → List ℕ) (g : Progress K A T) (next : Standing) → IsAt says values text s a g
      → MayGoOut g next → (fault_at_end values text g.built.here g.built.around (a.taken - 1) ≡ None)
      × IsAt says values text t c (progress_ended g (a.taken - 1) next)

module _ {D K A T : Type 0} where
  -- The second is the first without what is open innermost.
  pub record IsWithout (whole : Assembler D K A T) (f : Open D K A T) (a : Assembler D K A T) : Type 0 where
    pub here : whole.here ≡ f
    pub around : whole.around.items ≡ a.around.items ++ a.here ∷ []
    pub made : whole.made ≡ a.made
    pub taken : whole.taken ≡ a.taken

  -- nothing but types has been made, and the loose things are what they were
  pub record IsUndone (s t : Seen K A T) (a c : Assembler D K A T) : Type 0 where
    pub loose : c.made.loose.items ≡ a.made.loose.items
    pub same : SameSeen s t

-- ---- what is made in one step

module _ {K A T : Type 0} where
  -- the operation is put into the block, if there is one
  abbrev pub PutsInto : Seen K A T → Seen K A T → Option (Ptr BasicBlock) → Ptr Operation → Type 0
  PutsInto s t None op = t ≡ s
  PutsInto s t (Some b) op = AppendsOperation s t b op

module _ {D K A T : Type 0} where
  -- the block with this label whose header was read is made
  pub record MakesBlock (s : Stage K A T) (t : Seen K A T) (a c : Assembler D K A T) (label : List ℕ) : Type 0 where
    pub id : Identifier
    pub spelt : text_of id ≡ label
    pub block : Ptr BasicBlock
    pub opens : OpensBlock s.ctx t block (Some id) (types_in a.here.content.value.parts.items) s.counter
    pub body : c.here.body ≡ body.Block (record { block = Some block })
    pub numbers : c.here.numbers.items ≡ []
    pub values : length a.here.numbers.items ≡ length (types_in a.here.content.value.parts.items)
        → c.made.values.items ≡ set_all a.here.numbers.items
        (values_alone (numbered_values (ByBlock block) s.counter (types_in a.here.content.value.parts.items)))
        a.made.values.items
    pub blocks : c.made.blocks.items ≡ a.made.blocks.items ++ block ∷ []
    pub pending : c.made.pending ≡ a.made.pending
    pub root : c.made.root ≡ a.made.root
    pub loose : c.made.loose.items ≡ a.made.loose.items ++ BlockNode block ∷ []

  -- An operation of the blocks of these lists can be made, and put into the open block, if there is one.
  pub record CanMake (s : Seen K A T) (b : Body D K A T) (bss : List (List (Ptr BasicBlock))) : Type 0 where
    pub all_loose : AreAllLoose s bss
    pub apart : ListsAreApart bss
    pub open_loose : (p : Ptr BasicBlock) → block_in b ≡ Some p → IsLooseBlock s p
    pub open_apart : (p : Ptr BasicBlock) → block_in b ≡ Some p
        → (k : ℕ) (bs : List (Ptr BasicBlock)) → slice_get bss k ≡ Some bs → IsNoneOf bs p

  -- the operation alone by its handle of any sort, where it is the root
  abbrev pub new_root : Body D K A T → Ptr Operation → List IRNode
  new_root body.Text op = OperationNode op ∷ []
  new_root _ op = []

  -- The operation that ends is made of these pieces, with its blocks in its regions, and stands where reading goes on:
  -- in the open block, or at the root. Its blocks are loose no more.
  pub record EndsOperation (says : Saying K A T) (values : Values) (kind_at : ℕ → Option K) (s : Stage K A T)
      (t : Seen K A T) (a c : Assembler D K A T) (ended : OpenOperation) (ps : Pieces) : Type 0 where
    pub op : Ptr Operation
    pub kind : K
    pub attributes : List (List ℕ × A)
    pub result_types : List TypeHandle
    pub known : kind_at ended.kind ≡ Some kind
    pub typed : Seen K A T
    pub same : SameSeen s.ctx typed
    pub forest : IsSeenForest typed
    pub drafts : Drafts says typed.types values kind ended.kind ps attributes result_types
    pub with_it : Seen K A T
    pub makes : MakesDetachedOperation typed with_it op kind attributes result_types s.counter (lists_of ended.regions.items)
    pub put : PutsInto with_it t (block_in a.here.body) op
    pub defines : length a.here.numbers.items ≡ length result_types
        → c.made.values.items ≡ set_all a.here.numbers.items
        (values_alone (numbered_values (ByOp op) s.counter result_types)) a.made.values.items
    pub numbers : c.here.numbers.items ≡ []
    pub blocks : c.made.blocks ≡ a.made.blocks
    pub pending : c.made.pending.items ≡ a.made.pending.items
        ++ record { op = op; tokens = ended.operands.items; labels = ended.labels.items } ∷ []
    pub root : a.here.body ≡ body.Text → c.made.root ≡ Some op
    pub root_stays : (b : Ptr BasicBlock) → block_in a.here.body ≡ Some b → c.made.root ≡ a.made.root
    pub loose : (xs : List IRNode)
        → a.made.loose.items ≡ xs ++ block_nodes (joined (lists_of ended.regions.items))
        → c.made.loose.items ≡ xs ++ new_root a.here.body op

-- ---- ends

module _ {D K A T : Type 0} (says : Saying K A T) (values : Values) where
  -- what was open around these, and was the innermost, may end now
  abbrev pub CanEndIn : Stage K A T → Open D K A T → Assembler D K A T → Type 0
  CanEndIn s f a = (whole : Assembler D K A T) × IsWithout whole f a × CanEnd says values s whole

-- ---- a step in a context

-- a context of a dialect with these types
abbrev ContextOf : (D TypeKind AttrKind TypeBody Saved Location OpKind Attr TypeKey : Type 0) → Type 0
ContextOf D TypeKind AttrKind TypeBody Saved Location OpKind Attr TypeKey =
    ContextView (OperationData D TypeKind AttrKind TypeBody Saved Location OpKind Attr TypeKey)
    (BlockNotes D TypeKind AttrKind TypeBody Saved Location OpKind Attr TypeKey) (TypesView TypeKey TypeBody Saved)

module _ {D TypeKind AttrKind TypeBody Saved Location OpKind Attr TypeKey : Type 0} where
  module _ (says : Saying OpKind Attr TypeKey) (values : Values) (text : ℕ → List ℕ) where
    -- the action may come now
    pub record MayStep (c : ContextOf D TypeKind AttrKind TypeBody Saved Location OpKind Attr TypeKey)
        (a : Assembler D OpKind Attr TypeKey) (x : Action) : Type 0 where
      pub can : CanStep says values text (stage c) a x

    -- the action has come, with no fault
    pub record DoesStep (c d : ContextOf D TypeKind AttrKind TypeBody Saved Location OpKind Attr TypeKey)
        (a b : Assembler D OpKind Attr TypeKey) (x : Action) : Type 0 where
      pub steps : HasStepped says values text (stage c) a (stage d) b x

    -- wherever reading has come to, the action has this fault
    pub record RefusesStep (c : ContextOf D TypeKind AttrKind TypeBody Saved Location OpKind Attr TypeKey)
        (a : Assembler D OpKind Attr TypeKey) (x : Action) (f : Fault) : Type 0 where
      pub fails : (g : Progress OpKind Attr TypeKey) (next : Standing) → IsAt says values text (stage c) a g
          → ActionIsInPlace text a x g next → fault_after values text g.built x (a.taken - 1) ≡ Some f

    -- wherever reading has come to, there are not so many numbers as it has read values
    pub record LacksNumbers (c : ContextOf D TypeKind AttrKind TypeBody Saved Location OpKind Attr TypeKey)
        (a : Assembler D OpKind Attr TypeKey) (x : Action) : Type 0 where
      pub fills : (g : Progress OpKind Attr TypeKey) (next : Standing) → IsAt says values text (stage c) a g
          → ActionIsInPlace text a x g next → 2 ^ 64 ≤ g.first + length g.names.definitions

  -- nothing but types has been made, and the loose things are what they were
  pub record UndoesStep (c d : ContextOf D TypeKind AttrKind TypeBody Saved Location OpKind Attr TypeKey)
      (a b : Assembler D OpKind Attr TypeKey) : Type 0 where
    pub undone : IsUndone (seen c) (seen d) a b
