-- What begins, and what is said in what is open, keeps what has been made.
use Rattle.std.proofs.Common.{◌≡◌, ◌∙◌, ℕ, List, [], ◌∷◌, ◌++◌, reverse, Option, Some, None, ◌-◌, true, Vec, refl, sym, ap, subst, append-nil}
use Rattle.std.proofs.lemmas.List.{reverse-append}
use Rattle.std.specs.Global.{Global}
use Rattle.ir_names.specs.Tree.{Trees, no_tree}
use Rattle.ir_print.specs.Pieces.{Values}
use Rattle.ir_print.specs.Shown.{Saying}
use Rattle.text_dialect.specs.Seen.{Seen}
use Rattle.ir_program.specs.declared.handles.Ptr.{Ptr}
use Rattle.ir_program.specs.declared.handles.Operation.{Operation}
use Rattle.ir_program.specs.declared.handles.BasicBlock.{BasicBlock}
use Rattle.ir_names.specs.Text.{is_identifier}
use Rattle.text_assembling.specs.declared.assembling.Assembler.{Assembler}
use Rattle.text_frames.specs.declared.assembly.Assembly.{Assembly}
use Rattle.ir_grammar.specs.declared.grammar.Action.{Action}
use Rattle.ir_grammar.specs.declared.grammar.Action.TheVariants as act
use Rattle.text_frames.specs.declared.opened.Body.{Body}
use Rattle.text_frames.specs.declared.opened.Body.TheVariants as body
use Rattle.text_frames.specs.declared.opened.Open.{Open}
use Rattle.text_frames.specs.declared.opened.OpenOperation.{OpenOperation}
use Rattle.ir_forest.specs.Forest.{ActionSpan}
use Rattle.ir_forest.specs.Building as building
use Rattle.ir_forest.specs.Building.{Built, with_begin, names_behind}
use Rattle.ir_grammar.specs.Nesting.{Position, at_root, behind_root_results, at_end, in_operation, in_operands, in_successor, in_region, in_header, in_argument, in_block, behind_results, in_value, in_list, in_item, in_choice, move}
use Rattle.text_frames.specs.Opened.{IsFreshFrame}
use Rattle.ir_formats.specs.Ordered.{Standing, moved_by}
use Rattle.text_assembling.specs.Assembling.{Begun, HasMade, Stage, unmade_label, world_of}
use Rattle.text_frames.specs.Raised.{result_names, IsAroundRoot, RaisesRoot, RaisesBlock, Raises, IsRaised, RaisesAll, begun_at, named_tokens, blocks_of_body, names_after}
use Rattle.text_frames.specs.Worlds.{NameTokens, LaterNames, LaterWorld, PartialModule}
use Rattle.text_frames.proofs.LaterWorlds.{get_right, names_later, later_same, all_keep_same, all_later}
use Rattle.ir_scopes.specs.Naming.{defined_by, labelled_by}
use Rattle.text_assembling.proofs.Held.{held_list}
use Rattle.text_assembling.proofs.Labelled.{unmade_begun, labelled_begun}
use Rattle.text_assembling.proofs.SettledDefinitions.{numbers_begun, blocks_begun, settled_same}
use Rattle.ir_print.specs.declared.format.ValueSort.TheVariants as sorts
use Rattle.text_assembling.proofs.Settling.{stack_same, still_unrooted, waiting_longer}

-- where something begins, what is around it stands there, or behind names of results, of which there may be none
abbrev pub Becomes : Position → Position → Type 0
Becomes at_root p = p ≡ behind_root_results
Becomes in_block p = p ≡ behind_results
Becomes at p = p ≡ at

-- ---- the innermost of what is open

-- what is known around the root, where nothing else is open
abbrev pub AtRoot : {K A T : Type 0} → Saying K A T → Values → (ℕ → List ℕ) → PartialModule K A T → Option (Ptr Operation) → Position → Trees ActionSpan → Type 0
AtRoot says values text w root at ts = (result_names [] ts ≡ names_behind [] ts) × IsAroundRoot at (names_behind [] ts) × RaisesRoot says values text w root at ts

root_becomes : {K A T : Type 0} (says : Saying K A T) (values : Values) (text : ℕ → List ℕ) (w : PartialModule K A T) (root : Option (Ptr Operation)) (at to : Position) (ts : Trees ActionSpan) → Becomes at to → AtRoot says values text w root at ts → AtRoot says values text w root to ts
root_becomes says values text w root at_root to ts e h = subst (λ (p : Position). AtRoot says values text w root p ts) (sym e) (h.0, tt, h.2)
root_becomes says values text w root in_block to ts e h = absurd h.1
root_becomes says values text w root behind_root_results to ts e h = subst (λ (p : Position). AtRoot says values text w root p ts) (sym e) h
root_becomes says values text w root at_end to ts e h = subst (λ (p : Position). AtRoot says values text w root p ts) (sym e) h
root_becomes says values text w root in_operation to ts e h = absurd h.1
root_becomes says values text w root in_operands to ts e h = absurd h.1
root_becomes says values text w root in_successor to ts e h = absurd h.1
root_becomes says values text w root in_region to ts e h = absurd h.1
root_becomes says values text w root in_header to ts e h = absurd h.1
root_becomes says values text w root in_argument to ts e h = absurd h.1
root_becomes says values text w root behind_results to ts e h = absurd h.1
root_becomes says values text w root (in_value sorts.«Type») to ts e h = absurd h.1
root_becomes says values text w root (in_value sorts.Attribute) to ts e h = absurd h.1
root_becomes says values text w root in_list to ts e h = absurd h.1
root_becomes says values text w root in_item to ts e h = absurd h.1
root_becomes says values text w root in_choice to ts e h = absurd h.1

module _ {D K A T : Type 0} (says : Saying K A T) (values : Values) (text : ℕ → List ℕ) (w : PartialModule K A T) where
  -- the innermost of what is open is something else, at another position
  pub raises_with : (root : Option (Ptr Operation)) (f g : Open D K A T) (at to : Position) (ts us : Trees ActionSpan) (gs : List (Open D K A T)) (os : List building.Open) (qs : List Position)
      → IsRaised says values text w g to us → (AtRoot says values text w root at ts → AtRoot says values text w root to us) → RaisesAll says values text w root f at ts gs os qs → RaisesAll says values text w root g to us gs os qs
  raises_with root f g at to ts us [] [] [] new root_so h = let r = root_so (h.1, h.2, h.3) in (new, r.0, r.1, r.2)
  raises_with root f g at to ts us [] [] (q ∷ qs) new root_so h = absurd h
  raises_with root f g at to ts us [] (o ∷ os) qs new root_so h = absurd h
  raises_with root f g at to ts us (k ∷ gs) [] qs new root_so h = absurd h
  raises_with root f g at to ts us (k ∷ gs) (o ∷ os) [] new root_so h = absurd h
  raises_with root f g at to ts us (k ∷ gs) (o ∷ os) (q ∷ qs) new root_so h = (new, h.1)

  pub raised_here : (root : Option (Ptr Operation)) (f : Open D K A T) (at : Position) (ts : Trees ActionSpan) (gs : List (Open D K A T)) (os : List building.Open) (qs : List Position)
      → RaisesAll says values text w root f at ts gs os qs → IsRaised says values text w f at ts
  raised_here root f at ts [] [] [] h = h.0
  raised_here root f at ts [] [] (q ∷ qs) h = absurd h
  raised_here root f at ts [] (o ∷ os) qs h = absurd h
  raised_here root f at ts (k ∷ gs) [] qs h = absurd h
  raised_here root f at ts (k ∷ gs) (o ∷ os) [] h = absurd h
  raised_here root f at ts (k ∷ gs) (o ∷ os) (q ∷ qs) h = h.0

  -- Nothing else of what is known of a body depends on its position, but at the header of a block.
  raises_behind_root : (b : Body D K A T) (f : Open D K A T) (ts : Trees ActionSpan) → Raises says values text w b f at_root ts → Raises says values text w b f behind_root_results ts
  raises_behind_root body.Text f ts h = tt
  raises_behind_root (body.«Type» n) f ts h = tt
  raises_behind_root (body.Attribute n) f ts h = tt
  raises_behind_root (body.List ms) f ts h = tt
  raises_behind_root body.Item f ts h = tt
  raises_behind_root (body.Choice n) f ts h = tt
  raises_behind_root (body.Operation o) f ts h = h
  raises_behind_root (body.Operands ks) f ts h = h
  raises_behind_root (body.Successor ks) f ts h = h
  raises_behind_root (body.Region bs) f ts h = h
  raises_behind_root (body.Block b) f ts h = of_block b.block h where
    of_block : (b : Option _) → RaisesBlock says values text w b f at_root ts → RaisesBlock says values text w b f behind_root_results ts
    of_block None i = absurd i.typed_so
    of_block (Some p) i = absurd i.among

  raises_among : (b : Body D K A T) (f : Open D K A T) (ts : Trees ActionSpan) → Raises says values text w b f in_block ts → Raises says values text w b f behind_results ts
  raises_among body.Text f ts h = tt
  raises_among (body.«Type» n) f ts h = tt
  raises_among (body.Attribute n) f ts h = tt
  raises_among (body.List ms) f ts h = tt
  raises_among body.Item f ts h = tt
  raises_among (body.Choice n) f ts h = tt
  raises_among (body.Operation o) f ts h = h
  raises_among (body.Operands ks) f ts h = h
  raises_among (body.Successor ks) f ts h = h
  raises_among (body.Region bs) f ts h = h
  raises_among (body.Block b) f ts h = of_block b.block h where
    of_block : (b : Option _) → RaisesBlock says values text w b f in_block ts → RaisesBlock says values text w b f behind_results ts
    of_block None i = absurd i.typed_so
    of_block (Some p) i = record { among = tt; header = i.header; names = i.names; block = i.block }

  raised_becomes : (f : Open D K A T) (at to : Position) (ts : Trees ActionSpan) → Becomes at to → IsRaised says values text w f at ts → IsRaised says values text w f to ts
  raised_becomes f at_root to ts e h = subst (λ (p : Position). IsRaised says values text w f p ts) (sym e) (record { made = raises_behind_root f.body f ts h.made; numbered = h.numbered })
  raised_becomes f in_block to ts e h = subst (λ (p : Position). IsRaised says values text w f p ts) (sym e) (record { made = raises_among f.body f ts h.made; numbered = h.numbered })
  raised_becomes f behind_root_results to ts e h = subst (λ (p : Position). IsRaised says values text w f p ts) (sym e) h
  raised_becomes f at_end to ts e h = subst (λ (p : Position). IsRaised says values text w f p ts) (sym e) h
  raised_becomes f in_operation to ts e h = subst (λ (p : Position). IsRaised says values text w f p ts) (sym e) h
  raised_becomes f in_operands to ts e h = subst (λ (p : Position). IsRaised says values text w f p ts) (sym e) h
  raised_becomes f in_successor to ts e h = subst (λ (p : Position). IsRaised says values text w f p ts) (sym e) h
  raised_becomes f in_region to ts e h = subst (λ (p : Position). IsRaised says values text w f p ts) (sym e) h
  raised_becomes f in_header to ts e h = subst (λ (p : Position). IsRaised says values text w f p ts) (sym e) h
  raised_becomes f in_argument to ts e h = subst (λ (p : Position). IsRaised says values text w f p ts) (sym e) h
  raised_becomes f behind_results to ts e h = subst (λ (p : Position). IsRaised says values text w f p ts) (sym e) h
  raised_becomes f (in_value sorts.«Type») to ts e h = subst (λ (p : Position). IsRaised says values text w f p ts) (sym e) h
  raised_becomes f (in_value sorts.Attribute) to ts e h = subst (λ (p : Position). IsRaised says values text w f p ts) (sym e) h
  raised_becomes f in_list to ts e h = subst (λ (p : Position). IsRaised says values text w f p ts) (sym e) h
  raised_becomes f in_item to ts e h = subst (λ (p : Position). IsRaised says values text w f p ts) (sym e) h
  raised_becomes f in_choice to ts e h = subst (λ (p : Position). IsRaised says values text w f p ts) (sym e) h

  pub raises_becomes : (root : Option (Ptr Operation)) (f : Open D K A T) (at to : Position) (ts : Trees ActionSpan) (gs : List (Open D K A T)) (os : List building.Open) (qs : List Position)
      → Becomes at to → RaisesAll says values text w root f at ts gs os qs → RaisesAll says values text w root f to ts gs os qs
  raises_becomes root f at to ts gs os qs e h =
      raises_with root f f at to ts ts gs os qs (raised_becomes f at to ts e (raised_here root f at ts gs os qs h)) (root_becomes says values text w root at to ts e) h

-- ---- what begins

-- what begins is read at a position, and what is around it stands where it stood
abbrev pub Enters : Position → Position → List Position → Standing → Type 0
Enters inner at around next = (outer : Position) × (record { here = inner; around = outer ∷ around } ≡ next) × Becomes at (begun_at outer)

module _ (around : List Position) (next : Standing) where
  pub operation_enters : (p : Position) (n : ℕ) → moved_by (move p (act.Operation n)) around ≡ Some next → Enters in_operation p around next
  operation_enters at_root n h = (at_end, cc, refl)
  operation_enters behind_root_results n h = (at_end, cc, refl)
  operation_enters in_block n h = (in_block, cc, refl)
  operation_enters behind_results n h = (in_block, cc, refl)
  operation_enters _ n h = cc

  pub region_enters : (p : Position) → moved_by (move p act.BeginRegion) around ≡ Some next → Enters in_region p around next
  region_enters in_operation h = (in_operation, cc, refl)
  region_enters _ h = cc

  pub block_enters : (p : Position) → moved_by (move p act.Label) around ≡ Some next → Enters in_header p around next
  block_enters in_region h = (in_region, cc, refl)
  block_enters _ h = cc

  pub type_enters : (p : Position) (n : ℕ) → moved_by (move p (act.Begin sorts.«Type» n)) around ≡ Some next → Enters (in_value sorts.«Type») p around next
  type_enters in_operation n h = (in_operation, cc, refl)
  type_enters (in_value sorts.«Type») n h = ((in_value sorts.«Type»), cc, refl)
  type_enters (in_value sorts.Attribute) n h = ((in_value sorts.Attribute), cc, refl)
  type_enters in_item n h = (in_item, cc, refl)
  type_enters in_choice n h = (in_choice, cc, refl)
  type_enters in_argument n h = (in_header, cc, refl)
  type_enters _ n h = cc

  pub attribute_enters : (p : Position) (n : ℕ) → moved_by (move p (act.Begin sorts.Attribute n)) around ≡ Some next → Enters (in_value sorts.Attribute) p around next
  attribute_enters in_operation n h = (in_operation, cc, refl)
  attribute_enters (in_value sorts.«Type») n h = ((in_value sorts.«Type»), cc, refl)
  attribute_enters (in_value sorts.Attribute) n h = ((in_value sorts.Attribute), cc, refl)
  attribute_enters in_item n h = (in_item, cc, refl)
  attribute_enters in_choice n h = (in_choice, cc, refl)
  attribute_enters _ n h = cc

  pub list_enters : (p : Position) → moved_by (move p act.BeginList) around ≡ Some next → Enters in_list p around next
  list_enters in_operation h = (in_operation, cc, refl)
  list_enters (in_value sorts.«Type») h = ((in_value sorts.«Type»), cc, refl)
  list_enters (in_value sorts.Attribute) h = ((in_value sorts.Attribute), cc, refl)
  list_enters in_item h = (in_item, cc, refl)
  list_enters in_choice h = (in_choice, cc, refl)
  list_enters _ h = cc

  pub choice_enters : (p : Position) (n : ℕ) → moved_by (move p (act.BeginChoice n)) around ≡ Some next → Enters in_choice p around next
  choice_enters in_operation n h = (in_operation, cc, refl)
  choice_enters (in_value sorts.«Type») n h = ((in_value sorts.«Type»), cc, refl)
  choice_enters (in_value sorts.Attribute) n h = ((in_value sorts.Attribute), cc, refl)
  choice_enters in_item n h = (in_item, cc, refl)
  choice_enters in_choice n h = (in_choice, cc, refl)
  choice_enters _ n h = cc

  pub item_enters : (p : Position) → moved_by (move p act.BeginItem) around ≡ Some next → Enters in_item p around next
  item_enters in_list h = (in_list, cc, refl)
  item_enters _ h = cc

  pub edge_enters : (p : Position) → moved_by (move p act.BeginSuccessor) around ≡ Some next → Enters in_successor p around next
  edge_enters in_operation h = (in_operation, cc, refl)
  edge_enters _ h = cc

  pub operands_enter : (p : Position) → moved_by (move p act.BeginOperands) around ≡ Some next → Enters in_operands p around next
  operands_enter in_operation h = (in_operation, cc, refl)
  operands_enter _ h = cc

module _ {D K A T : Type 0} (says : Saying K A T) (values : Values) (text : ℕ → List ℕ) (start : Seen K A T) (counter : ℕ) (s : Stage K A T) (a c : Assembler D K A T) (b : Built) (here next : Standing) (k : ℕ) (names : NameTokens)
    (has : HasMade says values text start counter s a b here names) (made : c.made ≡ a.made) (none_yet : a.made.root ≡ None) where
  -- it may bring a name
  named_world : (more : NameTokens) → LaterNames names more → LaterWorld (world_of s a names) (world_of s c more)
  named_world more later = subst (λ (x : Assembly). LaterWorld (world_of s a names) (record { ctx = s.ctx; values = x.values.items; blocks = x.blocks.items; names = more; pending = x.pending.items })) (sym made) (record {
    ctx = later_same s.ctx;
    values = λ n x h. h;
    blocks = λ n x h. h;
    names = later;
    pending = λ i x h. h;
  })

  -- what begins has nothing in it
  pub begins_made : (x : Action) (y : Body D K A T) (inner : Position) → Enters inner here.here here.around next → IsFreshFrame c.here y k → c.around.items ≡ a.around.items ++ a.here ∷ [] → blocks_of_body y ≡ [] → named_tokens inner no_tree ≡ []
      → defined_by x k ≡ [] → unmade_label y k ≡ labelled_by x k
      → Raises says values text (world_of s c (names_after names x k)) y c.here inner no_tree → HasMade says values text start counter s c (with_begin b x k) next (names_after names x k)
  begins_made x y inner (outer, leads, becomes) fresh around none unnamed defines labels made_so =
      let o : building.Open = record { action = x; first = k; before = b.here } in
      let all_names : NameTokens = names_after names x k in
      let later : LaterNames names all_names = names_later names x k in
      let w : PartialModule K A T = world_of s c all_names in
      let top : reverse c.around.items ≡ a.here ∷ reverse a.around.items = ap reverse around ∙ reverse-append a.around.items (a.here ∷ []) in
      let new : IsRaised says values text w c.here inner no_tree = record {
        made = subst (λ (z : Body D K A T). Raises says values text w z c.here inner no_tree) (sym fresh.body) made_so;
        numbered = rw (fresh.numbers, unnamed) tt;
      } in
      let old : RaisesAll says values text w c.made.root a.here here.here b.here (reverse a.around.items) b.around here.around =
      all_later says values text (world_of s a names) w (named_world all_names later) a.made.root c.made.root a.here here.here b.here (reverse a.around.items) b.around here.around
      (λ e. ap (λ (z : Assembly). z.root) made) (all_keep_same s.ctx (a.here ∷ reverse a.around.items)) has.frames in
      let all : RaisesAll says values text w c.made.root c.here inner no_tree (a.here ∷ reverse a.around.items) (o ∷ b.around) (outer ∷ here.around) =
      (new, raises_becomes says values text w c.made.root a.here here.here (begun_at outer) b.here (reverse a.around.items) b.around here.around becomes old) in
      record {
        frames = subst (λ (n : Standing). RaisesAll says values text w c.made.root c.here n.here no_tree (reverse c.around.items) (o ∷ b.around) n.around) leads
            (subst (λ (gs : List (Open D K A T)). RaisesAll says values text w c.made.root c.here inner no_tree gs (o ∷ b.around) (outer ∷ here.around)) (sym top) all);
        held = held_list start s.ctx a.made.loose.items c.made.loose.items (ap (λ (z : Assembly). z.loose.items) made) has.held;
        stack = stack_same a c (blocks_begun a c around (ap blocks_of_body fresh.body ∙ none)) (ap (λ (z : Assembly). z.loose.items) made) (ap (λ (z : Assembly). z.root) made) has.stack;
        unrooted = still_unrooted next.here c.made.root (ap (λ (z : Assembly). z.root) made ∙ none_yet);
        definitions = rw (defines, append-nil names.definitions) (settled_same s s a c names.definitions counter (numbers_begun a c around fresh.numbers) (ap (λ (z : Assembly). z.values.items) made) (λ d h. h) refl has.definitions);
        blocks = labelled_begun s a c names.labels (labelled_by x k) (unmade_begun a c (labelled_by x k) around (rw (fresh.body, fresh.first) labels)) (ap (λ (z : Assembly). z.blocks) made) has.blocks;
        operands = rw made (waiting_longer start s.ctx a.made.pending.items names all_names later has.operands);
      }

-- ---- each of what begins

module _ {D K A T : Type 0} (says : Saying K A T) (values : Values) (text : ℕ → List ℕ) (start : Seen K A T) (counter : ℕ) (s : Stage K A T) (a c : Assembler D K A T) (b : Built) (here next : Standing) (names : NameTokens)
    (has : HasMade says values text start counter s a b here names) (made : c.made ≡ a.made) (none_yet : a.made.root ≡ None) where
  -- a type, an attribute or a member
  pub value_begins : (x : Action) (y : Body D K A T) (inner : Position) → Enters inner here.here here.around next → Begun a c y → blocks_of_body y ≡ [] → named_tokens inner no_tree ≡ []
      → defined_by x (a.taken - 1) ≡ [] → unmade_label y (a.taken - 1) ≡ labelled_by x (a.taken - 1)
      → Raises says values text (world_of s c (names_after names x (a.taken - 1))) y c.here inner no_tree
      → HasMade says values text start counter s c (with_begin b x (a.taken - 1)) next (names_after names x (a.taken - 1))
  value_begins x y inner enters begun none unnamed defines labels made_so =
      begins_made says values text start counter s a c b here next (a.taken - 1) names has made none_yet x y inner enters begun.here begun.around none unnamed defines labels made_so

  pub operation_begins : (n : ℕ) (o : OpenOperation) → moved_by (move here.here (act.Operation n)) here.around ≡ Some next → Begun a c (body.Operation o) → o.operands.items ≡ [] → o.labels.items ≡ [] → o.regions.items ≡ []
      → HasMade says values text start counter s c (with_begin b (act.Operation n) (a.taken - 1)) next (names_after names (act.Operation n) (a.taken - 1))
  operation_begins n o moved begun operands labels regions =
      value_begins (act.Operation n) (body.Operation o) in_operation (operation_enters here.around next here.here n moved) begun (rw regions refl) refl refl refl (record {
        operands = operands;
        mentioned = rw operands (λ i k h. cc);
        labels = labels;
        labels_mentioned = rw labels (λ i k h. cc);
        regions = rw regions tt;
      })

  pub region_begins : (bs : Vec (Ptr BasicBlock) Global) → moved_by (move here.here act.BeginRegion) here.around ≡ Some next → Begun a c (body.Region bs) → bs.items ≡ []
      → HasMade says values text start counter s c (with_begin b act.BeginRegion (a.taken - 1)) next (names_after names act.BeginRegion (a.taken - 1))
  region_begins bs moved begun none =
      value_begins act.BeginRegion (body.Region bs) in_region (region_enters here.around next here.here moved) begun (rw none refl) refl refl refl (rw none tt)

  pub operands_begin : (ks : Vec ℕ Global) → moved_by (move here.here act.BeginOperands) here.around ≡ Some next → Begun a c (body.Operands ks) → ks.items ≡ []
      → HasMade says values text start counter s c (with_begin b act.BeginOperands (a.taken - 1)) next (names_after names act.BeginOperands (a.taken - 1))
  operands_begin ks moved begun none =
      value_begins act.BeginOperands (body.Operands ks) in_operands (operands_enter here.around next here.here moved) begun refl refl refl refl (rw none (λ i k h. cc))

  pub edge_begins : (ks : Vec ℕ Global) → moved_by (move here.here act.BeginSuccessor) here.around ≡ Some next → Begun a c (body.Successor ks) → ks.items ≡ []
      → HasMade says values text start counter s c (with_begin b act.BeginSuccessor (a.taken - 1)) next (names_after names act.BeginSuccessor (a.taken - 1))
  edge_begins ks moved begun none =
      value_begins act.BeginSuccessor (body.Successor ks) in_successor (edge_enters here.around next here.here moved) begun refl refl refl refl
      (rw none (λ i k h. cc), rw begun.here.first (λ i k h. get_right names.edges ((a.taken - 1) ∷ []) i k h))

  pub block_begins : moved_by (move here.here act.Label) here.around ≡ Some next → Begun a c (body.Block (record { block = None })) → is_identifier (text (a.taken - 1)) ≡ true
      → HasMade says values text start counter s c (with_begin b act.Label (a.taken - 1)) next (names_after names act.Label (a.taken - 1))
  block_begins moved begun spelt =
      value_begins act.Label (body.Block (record { block = None })) in_header (block_enters here.around next here.here moved) begun refl refl refl refl (record {
        open_still = refl;
        spelt = rw begun.here.first spelt;
        unnamed = refl;
        no_results = refl;
        empty = refl;
        types = [];
        parts = begun.here.parts;
        shown = tt;
        arguments = refl;
        typed_so = refl;
      })
