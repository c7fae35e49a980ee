-- What stands alone keeps what has been made, and names or makes what it is.
use Rattle.std.proofs.Common.{◌≡◌, ◌∙◌, ℕ, suc, zero, List, [], ◌∷◌, ◌++◌, length, reverse, Option, Some, None, slice_get, Vec, refl, sym, ap, subst, append-nil}
use Rattle.std.specs.Global.{Global}
use Rattle.ir_names.specs.Tree.{Trees, node, no_tree}
use Rattle.ir_print.specs.Pieces.{Values, Entities}
use Rattle.ir_print.specs.Shown.{Saying, Pairs}
use Rattle.text_dialect.specs.Seen.{Seen}
use Rattle.ir_program.specs.declared.handles.Ptr.{Ptr}
use Rattle.ir_program.specs.declared.handles.Operation.{Operation}
use Rattle.ir_program.specs.declared.handles.BasicBlock.{BasicBlock}
use Rattle.ir_program.specs.declared.handles.IRNode.{IRNode}
use Rattle.text_assembling.specs.declared.assembling.Assembler.{Assembler}
use Rattle.text_frames.specs.declared.assembly.Assembly.{Assembly}
use Rattle.ir_grammar.specs.declared.grammar.Action.{Action}
use Rattle.ir_grammar.specs.declared.grammar.Action.TheVariants as act
use Rattle.text_frames.specs.declared.opened.Body.{Body}
use Rattle.text_frames.specs.declared.opened.Body.TheVariants as body
use Rattle.text_frames.specs.declared.opened.Open.{Open}
use Rattle.ir_forest.specs.Forest.{ActionSpan}
use Rattle.ir_forest.specs.Building.{Built, behind, with_leaf, names_behind}
use Rattle.ir_forest.specs.Meaning.{pieces_in, operands_in, arguments_in, tokens_in, successors_in, by_operands, by_successor, by_region, by_label}
use Rattle.ir_grammar.specs.Nesting.{Position, at_root, behind_root_results, in_operation, in_operands, in_successor, in_header, in_argument, in_block, behind_results, in_value, in_item, in_choice, move}
use Rattle.text_frames.specs.Opened.{HasOneMoreName, HasBody}
use Rattle.ir_formats.specs.Ordered.{Standing, moved_by}
use Rattle.text_frames.specs.Frames.{sort_at, sort_of, TakesParts}
use Rattle.text_assembling.specs.Assembling.{HasMade, KeepsAround, NamesOne, Stage, unmade_label, world_of}
use Rattle.text_frames.specs.Raised.{argument_tokens, listed, IsAroundRoot, IsHeader, IsOpened, RaisesBlock, Raises, IsRaised, RaisesAll, named_tokens, blocks_of_body, names_after}
use Rattle.text_frames.specs.Worlds.{NameTokens, PartialModule, AreAmong, LaterNames, LaterWorld}
use Rattle.text_frames.proofs.BuiltBehind.{operations_behind, regions_behind, blocks_behind, operands_behind, successors_behind, arguments_behind, arguments_behind_header, argument_tokens_behind, last_argument_behind, has_header_behind, result_names_behind, listed_behind, listed_length, typed_longer}
use Rattle.text_frames.proofs.LaterWorlds.{get_right, names_later, later_same, world_same, KeepsBlocks, all_keep_same, all_later}
use Rattle.text_frames.proofs.Moving.{Stays}
use Rattle.ir_forest.proofs.PiecesBehind.{name_behind}
use Rattle.text_assembling.proofs.RaisingBegins.{AtRoot, Becomes, raises_with, raised_here, raises_becomes}
use Rattle.text_frames.proofs.Rising.{get_last}
use Rattle.text_assembling.proofs.SettledDefinitions.{numbers_here, blocks_here, settled_one, settled_same}
use Rattle.text_assembling.proofs.Settling.{stack_same, still_unrooted, waiting_longer, world_named}
use Rattle.text_assembling.proofs.Labelled.{unmade_same, unmade_here, labelled_same}
use Rattle.text_assembling.proofs.Held.{held_list}
use Rattle.ir_print.specs.declared.format.LeafSort.{LeafSort}
use Rattle.ir_print.specs.declared.format.ValueSort.TheVariants as sorts
use Rattle.text_assembling.proofs.Stepping.{lone}

-- the names, where an action adds none
abbrev pub none_more : NameTokens → NameTokens
none_more names = record { definitions = names.definitions ++ []; mentions = names.mentions ++ []; labels = names.labels ++ []; edges = names.edges ++ [] }

-- trees with one more that stands alone
abbrev pub leaf_behind : Trees ActionSpan → Action → ℕ → Trees ActionSpan
leaf_behind ts a k = behind ts (node (lone a k) no_tree)

pub pairs_put : {X Y : Type 0} (R : X → Y → Type 0) (xs : List X) (ys : List Y) (x : X) (y : Y) → Pairs R xs ys → R x y → Pairs R (xs ++ x ∷ []) (ys ++ y ∷ [])
pairs_put R [] [] x y h r = (r, tt)
pairs_put R (a ∷ xs) (b ∷ ys) x y h r = (h.0, pairs_put R xs ys x y h.1 r)
pairs_put R [] (b ∷ ys) x y h r = absurd h
pairs_put R (a ∷ xs) [] x y h r = absurd h

-- an action that adds no region, no block, no operand and no edge
pub record IsNeutral (a : Action) : Type 0 where
  pub region : (x y : Entities ℕ) → by_region a x y ≡ y
  pub block : (x y : Entities ℕ) → by_label a x y ≡ y
  pub operand : (xs : List ℕ) → by_operands a xs [] ≡ []
  pub edge : (xs : List ℕ) → by_successor a xs [] ≡ []

-- where parts are taken, nothing is named
pub unnamed_parts : (at : Position) → TakesParts (sort_at at) → (ts : Trees ActionSpan) → named_tokens at ts ≡ []
unnamed_parts in_operation h ts = refl
unnamed_parts (in_value sorts.«Type») h ts = refl
unnamed_parts (in_value sorts.Attribute) h ts = refl
unnamed_parts in_item h ts = refl
unnamed_parts in_choice h ts = refl
unnamed_parts _ h ts = absurd h

pub no_root_parts : {P : Type 0} (at : Position) → TakesParts (sort_at at) → (names : List ℕ) → IsAroundRoot at names → P
no_root_parts in_operation h names r = absurd r
no_root_parts (in_value sorts.«Type») h names r = absurd r
no_root_parts (in_value sorts.Attribute) h names r = absurd r
no_root_parts in_item h names r = absurd r
no_root_parts in_choice h names r = absurd r
no_root_parts _ h names r = absurd h

module _ {D K A T : Type 0} (says : Saying K A T) (values : Values) (text : ℕ → List ℕ) (w : PartialModule K A T) where
  -- what is made in a body stays so with a tree that adds nothing to it
  pub raises_more : (b : Body D K A T) (f g : Open D K A T) (at to : Position) (ts : Trees ActionSpan) (s : ActionSpan) (us : Trees ActionSpan) → IsNeutral s.action → g.first ≡ f.first
      → ((p : Option (Ptr BasicBlock)) → b ≡ body.Block (record { block = p }) → RaisesBlock says values text w p f at ts → RaisesBlock says values text w p g to (behind ts (node s us)))
      → Raises says values text w b f at ts → Raises says values text w b g to (behind ts (node s us))
  raises_more body.Text f g at to ts s us neutral first of_block h = tt
  raises_more (body.«Type» n) f g at to ts s us neutral first of_block h = tt
  raises_more (body.Attribute n) f g at to ts s us neutral first of_block h = tt
  raises_more (body.List ms) f g at to ts s us neutral first of_block h = tt
  raises_more body.Item f g at to ts s us neutral first of_block h = tt
  raises_more (body.Choice n) f g at to ts s us neutral first of_block h = tt
  raises_more (body.Operands ks) f g at to ts s us neutral first of_block h = h
  raises_more (body.Successor ks) f g at to ts s us neutral first of_block h = (h.0, rw first h.1)
  raises_more (body.Operation o) f g at to ts s us neutral first of_block h = record {
    operands = h.operands ∙ sym (operands_behind ts s us ∙ (ap (λ (ks : List ℕ). operands_in ts ++ ks) (neutral.operand (tokens_in us)) ∙ append-nil (operands_in ts)));
    mentioned = h.mentioned;
    labels = h.labels ∙ sym (successors_behind ts s us ∙ (ap (λ (ks : List ℕ). successors_in ts ++ ks) (neutral.edge (s.first ∷ [])) ∙ append-nil (successors_in ts)));
    labels_mentioned = h.labels_mentioned;
    regions = rw (regions_behind values text ts s us, neutral.region) h.regions;
  }
  raises_more (body.Region bs) f g at to ts s us neutral first of_block h = rw (blocks_behind values text ts s us, neutral.block) h
  raises_more (body.Block b) f g at to ts s us neutral first of_block h = of_block b.block refl h

module _ {D K A T : Type 0} (says : Saying K A T) (values : Values) (text : ℕ → List ℕ) (s t : Stage K A T) (a c : Assembler D K A T) (b : Built) (here next : Standing) (names new_names : NameTokens)
    (frames : RaisesAll says values text (world_of s a names) a.made.root a.here here.here b.here (reverse a.around.items) b.around here.around)
    (l : LaterWorld (world_of s a names) (world_of t c new_names)) (root : c.made.root ≡ a.made.root)
    (keeps : KeepsBlocks s.ctx t.ctx (a.here ∷ reverse a.around.items)) (around : c.around ≡ a.around) where
  -- what is open stays as it was in a later world
  pub frames_later : RaisesAll says values text (world_of t c new_names) c.made.root a.here here.here b.here (reverse a.around.items) b.around here.around
  frames_later = all_later says values text (world_of s a names) (world_of t c new_names) l a.made.root c.made.root a.here here.here b.here (reverse a.around.items) b.around here.around
      (λ e. root) keeps frames

  -- and where the innermost has one more tree
  pub frames_leaf : (to : Position) (more : Trees ActionSpan) → record { here = to; around = here.around } ≡ next
      → (IsRaised says values text (world_of t c new_names) a.here here.here b.here → IsRaised says values text (world_of t c new_names) c.here to more)
      → (AtRoot says values text (world_of t c new_names) c.made.root here.here b.here → AtRoot says values text (world_of t c new_names) c.made.root to more)
      → RaisesAll says values text (world_of t c new_names) c.made.root c.here next.here more (reverse c.around.items) b.around next.around
  frames_leaf to more leads made root_so =
      let v : PartialModule K A T = world_of t c new_names in
      let old = raised_here says values text v c.made.root a.here here.here b.here (reverse a.around.items) b.around here.around frames_later in
      let all : RaisesAll says values text v c.made.root c.here to more (reverse a.around.items) b.around here.around =
      raises_with says values text v c.made.root a.here c.here here.here to b.here more (reverse a.around.items) b.around here.around (made old) root_so frames_later in
      subst (λ (n : Standing). RaisesAll says values text v c.made.root c.here n.here more (reverse c.around.items) b.around n.around) leads
      (subst (λ (gs : Vec (Open D K A T) Global). RaisesAll says values text v c.made.root c.here to more (reverse gs.items) b.around here.around) (sym around) all)

-- ---- parts

module _ {D K A T : Type 0} (says : Saying K A T) (values : Values) (text : ℕ → List ℕ) (w : PartialModule K A T) where
  no_block : {P : Type 0} (b : Body D K A T) (p : Option (Ptr BasicBlock)) → TakesParts (sort_of b) → b ≡ body.Block (record { block = p }) → P
  no_block b p takes e = absurd (subst (λ (x : Body D K A T). TakesParts (sort_of x)) e takes)

  -- one more part stands in what takes parts
  pub raised_part : (f g : Open D K A T) (at : Position) (ts : Trees ActionSpan) (s : ActionSpan) (us : Trees ActionSpan) → TakesParts (sort_at at) → sort_of f.body ≡ sort_at at → g.body ≡ f.body → g.first ≡ f.first → g.numbers ≡ f.numbers → IsNeutral s.action
      → IsRaised says values text w f at ts → IsRaised says values text w g at (behind ts (node s us))
  raised_part f g at ts s us takes sort same first numbers neutral h = record {
    made = subst (λ (x : Body D K A T). Raises says values text w x g at (behind ts (node s us))) (sym same)
        (raises_more says values text w f.body f g at at ts s us neutral first (λ p e. no_block f.body p (subst TakesParts (sym sort) takes) e) h.made);
    numbered = rw (numbers, unnamed_parts at takes (behind ts (node s us))) (subst (λ (ks : List ℕ). Pairs (λ n k. slice_get w.names.definitions n ≡ Some k) f.numbers.items ks) (unnamed_parts at takes ts) h.numbered);
  }

module _ {D K A T : Type 0} (says : Saying K A T) (values : Values) (text : ℕ → List ℕ) (start : Seen K A T) (counter : ℕ) (s : Stage K A T) (a c : Assembler D K A T) (b : Built) (here next : Standing) (k : ℕ) (names : NameTokens)
    (has : HasMade says values text start counter s a b here names) (none_yet : a.made.root ≡ None) where
  kept_world : c.made ≡ a.made → LaterWorld (world_of s a names) (world_of s c names)
  kept_world made = subst (λ (x : Assembly). LaterWorld (world_of s a names) (record { ctx = s.ctx; values = x.values.items; blocks = x.blocks.items; names = names; pending = x.pending.items })) (sym made) (world_same (world_of s a names))

  -- a name, a number or a width is said
  pub part_made : (x : Action) → IsNeutral x → sort_of a.here.body ≡ sort_at here.here → Stays here.here here.around next → KeepsAround a c → c.made ≡ a.made → c.here.body ≡ a.here.body → c.here.first ≡ a.here.first
      → c.here.numbers ≡ a.here.numbers
      → HasMade says values text start counter s c (with_leaf b x k) next (none_more names)
  part_made x neutral sort stays kept made same first numbers =
      let more : Trees ActionSpan = behind b.here (node (lone x k) no_tree) in
      rw (append-nil names.definitions, append-nil names.mentions, append-nil names.labels, append-nil names.edges) (record {
        frames = frames_leaf says values text s s a c b here next names names has.frames (kept_world made) (ap (λ (z : Assembly). z.root) made) (all_keep_same s.ctx (a.here ∷ reverse a.around.items)) kept.around
            here.here more stays.leads (raised_part says values text (world_of s c names) a.here c.here here.here b.here (lone x k) no_tree stays.takes sort same first numbers neutral)
            (λ r. no_root_parts here.here stays.takes _ r.1);
        held = held_list start s.ctx a.made.loose.items c.made.loose.items (ap (λ (z : Assembly). z.loose.items) made) has.held;
        stack = stack_same a c (blocks_here a c (ap (λ (v : Vec (Open D K A T) Global). v.items) kept.around) (ap blocks_of_body same)) (ap (λ (z : Assembly). z.loose.items) made) (ap (λ (z : Assembly). z.root) made) has.stack;
        unrooted = still_unrooted next.here c.made.root (ap (λ (z : Assembly). z.root) made ∙ none_yet);
        definitions = settled_same s s a c names.definitions counter (numbers_here a c (ap (λ (v : Vec (Open D K A T) Global). v.items) kept.around) (ap (λ (v : Vec ℕ Global). v.items) numbers)) (ap (λ (z : Assembly). z.values.items) made) (λ d h. h) refl has.definitions;
        blocks = labelled_same s s a c names.labels (unmade_here a c (ap (λ (v : Vec (Open D K A T) Global). v.items) kept.around) (unmade_same a.here c.here same first)) (ap (λ (z : Assembly). z.blocks) made) (λ d h. h) has.blocks;
        operands = rw made has.operands;
      })

pub neutral_leaf : (sort : LeafSort) → IsNeutral (act.Leaf sort)
neutral_leaf sort = record { region = λ x y. refl; block = λ x y. refl; operand = λ xs. refl; edge = λ xs. refl }

-- ---- operands

-- what stands among others does so together
pub among_two : (ks js ms : List ℕ) → AreAmong ks ms → AreAmong js ms → AreAmong (ks ++ js) ms
among_two [] js ms h k i n e = k i n e
among_two (x ∷ ks) js ms h k zero n e = h zero n e
among_two (x ∷ ks) js ms h k (suc i) n e = among_two ks js ms (λ i n e. h (suc i) n e) k i n e

-- an operand stands among others, or among those that an edge hands on
abbrev pub TakesOperands : Position → Type 0
TakesOperands in_operands = Unit {0}
TakesOperands in_successor = Unit {0}
TakesOperands _ = ⊥

operand_at : (around : List Position) (next : Standing) (p : Position) → moved_by (move p act.Operand) around ≡ Some next → TakesOperands p × (record { here = p; around = around } ≡ next)
operand_at around next in_operands h = (tt, cc)
operand_at around next in_successor h = (tt, cc)
operand_at around next _ h = cc

operands_unnamed : (p : Position) (ts : Trees ActionSpan) → TakesOperands p → named_tokens p ts ≡ []
operands_unnamed in_operands ts h = refl
operands_unnamed in_successor ts h = refl
operands_unnamed _ ts h = absurd h

not_around_root : {P : Type 0} (p : Position) (names : List ℕ) → TakesOperands p → IsAroundRoot p names → P
not_around_root in_operands names h r = absurd r
not_around_root in_successor names h r = absurd r
not_around_root _ names h r = absurd h

module _ {D K A T : Type 0} (says : Saying K A T) (values : Values) (text : ℕ → List ℕ) (start : Seen K A T) (counter : ℕ) (s : Stage K A T) (a c : Assembler D K A T) (b : Built) (here next : Standing) (k : ℕ) (names : NameTokens)
    (has : HasMade says values text start counter s a b here names) (none_yet : a.made.root ≡ None) where
  abbrev pub all_names : NameTokens
  all_names = names_after names act.Operand k

  abbrev pub more : Trees ActionSpan
  more = behind b.here (node (lone act.Operand k) no_tree)

  -- the body of what an operand is put into becomes another one, which has no blocks and no label
  body_grows : moved_by (move here.here act.Operand) here.around ≡ Some next → KeepsAround a c → c.made ≡ a.made → (x y : Body D K A T) → a.here.body ≡ x → c.here ≡ record a.here { body = y }
      → blocks_of_body y ≡ blocks_of_body x → unmade_label y a.here.first ≡ unmade_label x a.here.first
      → (Raises says values text (world_of s c all_names) x a.here here.here b.here → Raises says values text (world_of s c all_names) y c.here here.here more)
      → HasMade says values text start counter s c (with_leaf b act.Operand k) next all_names
  body_grows moved kept made x y is new blocks label grows =
      let place = operand_at here.around next here.here moved in
      let v : PartialModule K A T = world_of s c all_names in
      let later : LaterNames names all_names = names_later names act.Operand k in
      let l : LaterWorld (world_of s a names) v = record {
        ctx = later_same s.ctx;
        values = rw made (λ n x h. h);
        blocks = rw made (λ n x h. h);
        names = later;
        pending = rw made (λ i x h. h);
      } in
      let body_is : c.here.body ≡ y = ap (λ (z : Open D K A T). z.body) new in
      let grown : IsRaised says values text v a.here here.here b.here → IsRaised says values text v c.here here.here more = λ h. record {
        made = subst (λ (z : Body D K A T). Raises says values text v z c.here here.here more) (sym body_is)
            (grows (subst (λ (z : Body D K A T). Raises says values text v z a.here here.here b.here) is h.made));
        numbered = rw (ap (λ (z : Open D K A T). z.numbers) new, operands_unnamed here.here more place.0)
            (subst (λ (ks : List ℕ). Pairs (λ n k. slice_get v.names.definitions n ≡ Some k) a.here.numbers.items ks) (operands_unnamed here.here b.here place.0) h.numbered);
      } in
      let around : c.around.items ≡ a.around.items = ap (λ (v : Vec (Open D K A T) Global). v.items) kept.around in
      record {
        frames = frames_leaf says values text s s a c b here next names all_names has.frames l (ap (λ (z : Assembly). z.root) made) (all_keep_same s.ctx (a.here ∷ reverse a.around.items)) kept.around
            here.here more place.1 grown (λ r. not_around_root here.here _ place.0 r.1);
        held = held_list start s.ctx a.made.loose.items c.made.loose.items (ap (λ (z : Assembly). z.loose.items) made) has.held;
        stack = stack_same a c (blocks_here a c around (ap blocks_of_body body_is ∙ (blocks ∙ sym (ap blocks_of_body is)))) (ap (λ (z : Assembly). z.loose.items) made) (ap (λ (z : Assembly). z.root) made) has.stack;
        unrooted = still_unrooted next.here c.made.root (ap (λ (z : Assembly). z.root) made ∙ none_yet);
        definitions = rw (append-nil names.definitions) (settled_same s s a c names.definitions counter (numbers_here a c around (ap (λ (x : Open D K A T). x.numbers.items) new)) (ap (λ (z : Assembly). z.values.items) made) (λ d h. h) refl has.definitions);
        blocks = rw (append-nil names.labels) (labelled_same s s a c names.labels (unmade_here a c around (ap (λ (z : Open D K A T). unmade_label z.body z.first) new ∙ (label ∙ ap (λ (z : Body D K A T). unmade_label z a.here.first) (sym is))))
            (ap (λ (z : Assembly). z.blocks) made) (λ d h. h) has.blocks);
        operands = rw made (waiting_longer start s.ctx a.made.pending.items names all_names later has.operands);
      }

  -- the token is among those that mention values
  last_mention : AreAmong (k ∷ []) all_names.mentions
  last_mention = λ i n e. get_right names.mentions (k ∷ []) i n e

  -- an operand is named
  pub operand_made : moved_by (move here.here act.Operand) here.around ≡ Some next → KeepsAround a c → c.made ≡ a.made → (ks ls : Vec ℕ Global) → a.here.body ≡ body.Operands ks
      → c.here ≡ record a.here { body = body.Operands ls } → ls.items ≡ ks.items ++ k ∷ [] → HasMade says values text start counter s c (with_leaf b act.Operand k) next all_names
  operand_made moved kept made ks ls is new items =
      body_grows moved kept made (body.Operands ks) (body.Operands ls) is new refl refl (λ h. rw items (among_two ks.items (k ∷ []) all_names.mentions h last_mention))

  -- so is one that an edge hands on
  pub handed_on_made : moved_by (move here.here act.Operand) here.around ≡ Some next → KeepsAround a c → c.made ≡ a.made → (ks ls : Vec ℕ Global) → a.here.body ≡ body.Successor ks
      → c.here ≡ record a.here { body = body.Successor ls } → ls.items ≡ ks.items ++ k ∷ [] → HasMade says values text start counter s c (with_leaf b act.Operand k) next all_names
  handed_on_made moved kept made ks ls is new items =
      body_grows moved kept made (body.Successor ks) (body.Successor ls) is new refl refl
      (λ h. (rw items (among_two ks.items (k ∷ []) all_names.mentions h.0 last_mention), rw (ap (λ (z : Open D K A T). z.first) new) h.1))

-- ---- names of definitions

abbrev pub IsResults : Position → Type 0
IsResults behind_root_results = Unit {0}
IsResults behind_results = Unit {0}
IsResults _ = ⊥

result_at : (around : List Position) (next : Standing) (p : Position) → moved_by (move p act.Result) around ≡ Some next → (to : Position) × (record { here = to; around = around } ≡ next) × Becomes p to × IsResults to
result_at around next at_root h = (behind_root_results, cc, refl, tt)
result_at around next behind_root_results h = (behind_root_results, cc, refl, tt)
result_at around next in_block h = (behind_results, cc, refl, tt)
result_at around next behind_results h = (behind_results, cc, refl, tt)
result_at around next _ h = cc

argument_at : (around : List Position) (next : Standing) (p : Position) → moved_by (move p act.Argument) around ≡ Some next → (p ≡ in_header) × (record { here = in_argument; around = around } ≡ next)
argument_at around next in_header h = (refl, cc)
argument_at around next _ h = cc

named_result : (ts : Trees ActionSpan) (to : Position) → IsResults to → named_tokens to ts ≡ names_behind [] ts
named_result ts behind_results is = refl
named_result ts behind_root_results is = refl
named_result ts _ is = absurd is

neutral_result : IsNeutral act.Result
neutral_result = record { region = λ x y. refl; block = λ x y. refl; operand = λ xs. refl; edge = λ xs. refl }

neutral_argument : IsNeutral act.Argument
neutral_argument = record { region = λ x y. refl; block = λ x y. refl; operand = λ xs. refl; edge = λ xs. refl }

module _ {D K A T : Type 0} (says : Saying K A T) (values : Values) (text : ℕ → List ℕ) (w : PartialModule K A T) (f g : Open D K A T) (ts : Trees ActionSpan) (k n : ℕ)
    (same : g.body ≡ f.body) (first : g.first ≡ f.first) (numbers : g.numbers.items ≡ f.numbers.items ++ n ∷ []) (token : slice_get w.names.definitions n ≡ Some k) where
  opened_result : (p : Ptr BasicBlock) (to : Position) → IsResults to → IsOpened says values text w p f to ts → IsOpened says values text w p g to (leaf_behind ts act.Result k)
  opened_result p behind_results is h = record {
    among = tt;
    header = has_header_behind ts (lone act.Result k) no_tree ∙ h.header;
    names = result_names_behind [] ts (lone act.Result k) no_tree ∙ (ap (λ (ks : List ℕ). ks ++ k ∷ []) h.names ∙ sym (name_behind [] ts (lone act.Result k) no_tree));
    block = rw (first, arguments_behind_header values text 0 ts (lone act.Result k) no_tree h.header, operations_behind values text [] ts (lone act.Result k) no_tree) h.block;
  }
  opened_result p behind_root_results is h = absurd h.among
  opened_result p _ is h = absurd is

  header_result : {P : Type 0} (to : Position) → IsResults to → IsHeader says values text w f to ts → P
  header_result behind_results is h = absurd h.typed_so
  header_result behind_root_results is h = absurd h.typed_so
  header_result _ is h = absurd is

  block_result : (p : Option (Ptr BasicBlock)) (to : Position) → IsResults to → RaisesBlock says values text w p f to ts → RaisesBlock says values text w p g to (leaf_behind ts act.Result k)
  block_result None to is h = header_result to is h
  block_result (Some p) to is h = opened_result p to is h

  pub raised_result : (to : Position) → IsResults to → IsRaised says values text w f to ts → IsRaised says values text w g to (leaf_behind ts act.Result k)
  raised_result to is h = record {
    made = subst (λ (x : Body D K A T). Raises says values text w x g to (leaf_behind ts act.Result k)) (sym same)
        (raises_more says values text w f.body f g to to ts (lone act.Result k) no_tree neutral_result first (λ p e i. block_result p to is i) h.made);
    numbered = rw (numbers, named_result (leaf_behind ts act.Result k) to is, name_behind [] ts (lone act.Result k) no_tree)
        (pairs_put (λ n k. slice_get w.names.definitions n ≡ Some k) f.numbers.items (names_behind [] ts) n k (subst (λ (ks : List ℕ). Pairs (λ n k. slice_get w.names.definitions n ≡ Some k) f.numbers.items ks) (named_result ts to is) h.numbered) token);
  }

  -- the name of an argument, whose type comes
  header_argument : g.content ≡ f.content → IsHeader says values text w f in_header ts → IsHeader says values text w g in_argument (leaf_behind ts act.Argument k)
  header_argument content h =
      let step = lone act.Argument k in
      let listed_so : listed (pieces_in values text (leaf_behind ts act.Argument k)) ≡ listed (pieces_in values text ts) = listed_behind values text ts step no_tree ∙ append-nil (listed (pieces_in values text ts)) in
      let tokens_so : argument_tokens (leaf_behind ts act.Argument k) ≡ argument_tokens ts ++ k ∷ [] = argument_tokens_behind ts step no_tree in
      record {
        open_still = has_header_behind ts step no_tree ∙ h.open_still;
        spelt = rw first h.spelt;
        unnamed = name_behind [] ts step no_tree;
        no_results = result_names_behind [] ts step no_tree ∙ h.no_results;
        empty = operations_behind values text [] ts step no_tree ∙ h.empty;
        types = h.types;
        parts = ap (λ x. x.value.parts.items) content ∙ h.parts;
        shown = rw listed_so h.shown;
        arguments = rw (listed_so, tokens_so) (arguments_behind values text 0 ts step no_tree h.open_still
            ∙ (append-nil (arguments_in values text 0 ts) ∙ (h.arguments ∙ sym (typed_longer (argument_tokens ts) k (listed (pieces_in values text ts)) (h.typed_so ∙ sym (listed_length (pieces_in values text ts)))))));
        typed_so = (
          argument_tokens ts,
          tokens_so ∙ ap (λ (n : ℕ). argument_tokens ts ++ n ∷ []) (sym (last_argument_behind 0 ts step no_tree)),
          h.typed_so ∙ (sym (listed_length (pieces_in values text ts)) ∙ (ap length (sym listed_so) ∙ listed_length (pieces_in values text (leaf_behind ts act.Argument k)))),
        );
      }

  block_argument : g.content ≡ f.content → (p : Option (Ptr BasicBlock)) → RaisesBlock says values text w p f in_header ts → RaisesBlock says values text w p g in_argument (leaf_behind ts act.Argument k)
  block_argument content None h = header_argument content h
  block_argument content (Some p) h = absurd h.among

  pub raised_argument : g.content ≡ f.content → IsRaised says values text w f in_header ts → IsRaised says values text w g in_argument (leaf_behind ts act.Argument k)
  raised_argument content h = record {
    made = subst (λ (x : Body D K A T). Raises says values text w x g in_argument (leaf_behind ts act.Argument k)) (sym same)
        (raises_more says values text w f.body f g in_header in_argument ts (lone act.Argument k) no_tree neutral_argument first (λ p e i. block_argument content p i) h.made);
    numbered = rw (numbers, argument_tokens_behind ts (lone act.Argument k) no_tree) (pairs_put (λ n k. slice_get w.names.definitions n ≡ Some k) f.numbers.items (argument_tokens ts) n k h.numbered token);
  }

module _ {K A T : Type 0} (says : Saying K A T) (values : Values) (text : ℕ → List ℕ) (w : PartialModule K A T) (root : Option (Ptr Operation)) (ts : Trees ActionSpan) (k : ℕ) where
  root_result : (to : Position) → IsResults to → AtRoot says values text w root to ts → AtRoot says values text w root to (leaf_behind ts act.Result k)
  root_result behind_root_results is h = (
    result_names_behind [] ts (lone act.Result k) no_tree ∙ (ap (λ (ks : List ℕ). ks ++ k ∷ []) h.0 ∙ sym (name_behind [] ts (lone act.Result k) no_tree)),
    tt,
    operations_behind values text [] ts (lone act.Result k) no_tree ∙ h.2,
  )
  root_result behind_results is h = absurd h.1
  root_result _ is h = absurd is

module _ {D K A T : Type 0} (says : Saying K A T) (values : Values) (text : ℕ → List ℕ) (start : Seen K A T) (counter : ℕ) (s : Stage K A T) (a c : Assembler D K A T) (b : Built) (here next : Standing) (k : ℕ) (names : NameTokens)
    (has : HasMade says values text start counter s a b here names) (none_yet : a.made.root ≡ None) (kept : KeepsAround a c) (named : NamesOne a c) where
  -- the names with one more definition
  abbrev pub one_more : NameTokens
  one_more = names_after names act.Result k

  named_world : LaterWorld (world_of s a names) (world_of s c one_more)
  named_world = world_named s a c names one_more (names_later names act.Result k) named

  named_token : slice_get (names.definitions ++ k ∷ []) (length a.made.values.items) ≡ Some k
  named_token = subst (λ (n : ℕ). slice_get (names.definitions ++ k ∷ []) n ≡ Some k) has.definitions.many (get_last names.definitions k)

  named_made : (b2 : Built) → RaisesAll says values text (world_of s c one_more) c.made.root c.here next.here b2.here (reverse c.around.items) b2.around next.around → c.here.body ≡ a.here.body → c.here.first ≡ a.here.first
      → HasMade says values text start counter s c b2 next one_more
  named_made b2 frames same first =
      let items : c.around.items ≡ a.around.items = ap (λ (v : Vec (Open D K A T) Global). v.items) kept.around in
      record {
        frames = frames;
        held = held_list start s.ctx a.made.loose.items c.made.loose.items (ap (λ (v : Vec IRNode Global). v.items) named.loose) has.held;
        stack = stack_same a c (blocks_here a c items (ap blocks_of_body same)) (ap (λ (v : Vec IRNode Global). v.items) named.loose) named.root has.stack;
        unrooted = still_unrooted next.here c.made.root (named.root ∙ none_yet);
        definitions = settled_one s a c names.definitions counter k items named has.definitions;
        blocks = rw (append-nil names.labels) (labelled_same s s a c names.labels (unmade_here a c items (unmade_same a.here c.here same first)) named.blocks (λ d h. h) has.blocks);
        operands = rw named.pending (waiting_longer start s.ctx a.made.pending.items names one_more (names_later names act.Result k) has.operands);
      }

  -- a result is named
  pub result_made : moved_by (move here.here act.Result) here.around ≡ Some next → HasOneMoreName a.here c.here k → HasMade says values text start counter s c (with_leaf b act.Result k) next one_more
  result_made moved new =
      let place = result_at here.around next here.here moved in
      let to : Position = place.0 in
      let v : PartialModule K A T = world_of s c one_more in
      let later = frames_later says values text s s a c b here next names one_more has.frames named_world named.root (all_keep_same s.ctx (a.here ∷ reverse a.around.items)) kept.around in
      let there : RaisesAll says values text v c.made.root a.here to b.here (reverse a.around.items) b.around here.around =
      raises_becomes says values text v c.made.root a.here here.here to b.here (reverse a.around.items) b.around here.around place.2 later in
      let old : IsRaised says values text v a.here to b.here = raised_here says values text v c.made.root a.here to b.here (reverse a.around.items) b.around here.around there in
      let more : Trees ActionSpan = leaf_behind b.here act.Result k in
      let all : RaisesAll says values text v c.made.root c.here to more (reverse a.around.items) b.around here.around =
      raises_with says values text v c.made.root a.here c.here to to b.here more (reverse a.around.items) b.around here.around
      (raised_result says values text v a.here c.here b.here k (length a.made.values.items) new.body new.first named.numbers named_token to place.3 old)
      (root_result says values text v c.made.root b.here k to place.3) there in
      named_made (with_leaf b act.Result k)
      (subst (λ (n : Standing). RaisesAll says values text v c.made.root c.here n.here more (reverse c.around.items) b.around n.around) place.1
      (subst (λ (gs : Vec (Open D K A T) Global). RaisesAll says values text v c.made.root c.here to more (reverse gs.items) b.around here.around) (sym kept.around) all)) new.body new.first

  -- an argument is named
  pub argument_made : moved_by (move here.here act.Argument) here.around ≡ Some next → HasBody a.here c.here a.here.body → c.here.content ≡ a.here.content
      → HasMade says values text start counter s c (with_leaf b act.Argument k) next one_more
  argument_made moved new content =
      let place = argument_at here.around next here.here moved in
      let v : PartialModule K A T = world_of s c one_more in
      named_made (with_leaf b act.Argument k)
      (frames_leaf says values text s s a c b here next names one_more has.frames named_world named.root (all_keep_same s.ctx (a.here ∷ reverse a.around.items)) kept.around
      in_argument (leaf_behind b.here act.Argument k) place.1
      (λ h. raised_argument says values text v a.here c.here b.here k (length a.made.values.items) new.body new.first named.numbers named_token content (subst (λ (p : Position). IsRaised says values text v a.here p b.here) place.0 h))
      (λ r. absurd (subst (λ (p : Position). IsAroundRoot p (names_behind [] b.here)) place.0 r.1)))
      new.body new.first
