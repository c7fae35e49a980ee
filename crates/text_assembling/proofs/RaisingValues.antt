-- What ends and is a value, or has operands, keeps what has been made.
use Rattle.std.proofs.Common.{◌≡◌, ◌∙◌, inl, inr, ℕ, ◌+◌, List, [], ◌∷◌, ◌++◌, map, length, reverse, Option, Some, None, Result, OnOk, slice_get, Vec, refl, sym, ap, subst, append-nil}
use Rattle.std.proofs.lemmas.List.{map-append, length-append}
use Rattle.std.proofs.lemmas.Result.{on_ok_weaker}
use Rattle.std.specs.Global.{Global}
use Rattle.text_frames.specs.Worlds.{joined}
use Rattle.ir_names.specs.Tree.{Trees, node}
use Rattle.ir_base.specs.declared.types.TypeHandle.{TypeHandle}
use Rattle.ir_print.specs.declared.format.Part.{Part}
use Rattle.ir_print.specs.declared.format.Part.TheVariants as part
use Rattle.ir_print.specs.Pieces.{Values, ValueTree, Pieces, value_of_kind}
use Rattle.ir_print.specs.Shown.{Saying, Pairs, ShowsType, ShowsAttribute, ShowsParts}
use Rattle.text_dialect.specs.Seen.{Seen}
use Rattle.ir_program.specs.declared.handles.Ptr.{Ptr}
use Rattle.ir_program.specs.declared.handles.BasicBlock.{BasicBlock}
use Rattle.text_assembling.specs.declared.assembling.Assembler.{Assembler}
use Rattle.ir_grammar.specs.declared.grammar.Action.{Action}
use Rattle.ir_grammar.specs.declared.grammar.Action.TheVariants as act
use Rattle.text_frames.specs.declared.opened.AssemblyFault.{AssemblyFault}
use Rattle.text_frames.specs.declared.opened.Body.{Body}
use Rattle.text_frames.specs.declared.opened.Body.TheVariants as body
use Rattle.text_frames.specs.declared.opened.Open.{Open}
use Rattle.text_frames.specs.declared.opened.OpenOperation.{OpenOperation}
use Rattle.ir_forest.specs.Forest.{ActionSpan}
use Rattle.ir_forest.specs.Building as building
use Rattle.ir_forest.specs.Building.{Built, with_end, behind, ended_tree, names_behind}
use Rattle.ir_forest.specs.Meaning.{pieces_in, tokens_in, operands_in, successors_in, arguments_in, typed}
use Rattle.ir_grammar.specs.Nesting.{Position, in_operation, in_operands, in_successor, in_header, in_argument, in_value, in_list, in_item, in_choice}
use Rattle.text_frames.specs.Opened.{HasMember, HasPut}
use Rattle.ir_formats.specs.Ordered.{Standing, moved_out}
use Rattle.text_frames.specs.Frames.{FrameSort, some_operands, an_edge, a_type, an_attribute, a_list, an_item, a_choice, sort_at, sort_of, TakesParts, TakesTypes, EndsAt, Begins, SaysParts, Contains, Ending}
use Rattle.text_assembling.specs.Assembling.{Holds, Stage, numbers_of, blocks_of, unmade_label, world_of, HasMade}
use Rattle.text_frames.specs.Worlds.{NameTokens, PartialModule, AreAmong}
use Rattle.text_frames.specs.Raised.{blocks_of_body, begun_at, argument_tokens, last_argument, listed, named_tokens, IsAroundRoot, IsHeader, RaisesBlock, Raises, IsRaised}
use Rattle.text_frames.proofs.BuiltBehind.{operations_behind, regions_behind, operands_behind, successors_behind, arguments_behind, argument_tokens_behind, has_header_behind, result_names_behind, listed_behind, listed_length, typed_longer, typed_more}
use Rattle.text_frames.proofs.Ended.{type_place}
use Rattle.text_frames.proofs.LaterWorlds.{raised_later}
use Rattle.ir_forest.proofs.PiecesBehind.{name_behind}
use Rattle.text_assembling.proofs.RaisingBegins.{raised_here}
use Rattle.text_assembling.proofs.RaisingBlocks.{OnlyTypes, block_stays, all_blocks_stay, same_world_later, settled_same, labels_same, waiting_same, held_still, stack_still, around_with, ends_made, pairs_none}
use Rattle.text_assembling.proofs.RaisingLeaves.{among_two, IsNeutral, raises_more, raised_part, no_root_parts, pairs_put}
use Rattle.text_assembling.proofs.Labelled.{unmade_same, unmade_ended}
use Rattle.text_assembling.proofs.SettledDefinitions.{numbers_ended, blocks_ended}
use Rattle.text_assembling.proofs.Settling.{still_unrooted}
use Rattle.ir_print.specs.declared.format.ValueSort.TheVariants as sorts
use Rattle.text_frames.specs.declared.assembly.Assembly.{Assembly}

-- values, and operands
abbrev pub IsValue : FrameSort → Type 0
IsValue a_type = Unit {0}
IsValue an_attribute = Unit {0}
IsValue a_list = Unit {0}
IsValue an_item = Unit {0}
IsValue a_choice = Unit {0}
IsValue some_operands = Unit {0}
IsValue an_edge = Unit {0}
IsValue _ = ⊥

no_blocks : {D K A T : Type 0} (b : Body D K A T) → IsValue (sort_of b) → blocks_of_body b ≡ []
no_blocks (body.«Type» n) h = refl
no_blocks (body.Attribute n) h = refl
no_blocks (body.List ms) h = refl
no_blocks body.Item h = refl
no_blocks (body.Choice n) h = refl
no_blocks (body.Operands ks) h = refl
no_blocks (body.Successor ks) h = refl
no_blocks _ h = absurd h

no_label : {D K A T : Type 0} (b : Body D K A T) (k : ℕ) → IsValue (sort_of b) → unmade_label b k ≡ []
no_label (body.Block o) k h = absurd h
no_label _ k h = refl

value_unnamed : (p : Position) (ts : Trees ActionSpan) → IsValue (sort_at p) → named_tokens p ts ≡ []
value_unnamed (in_value sorts.«Type») ts h = refl
value_unnamed (in_value sorts.Attribute) ts h = refl
value_unnamed in_list ts h = refl
value_unnamed in_item ts h = refl
value_unnamed in_choice ts h = refl
value_unnamed in_operands ts h = refl
value_unnamed in_successor ts h = refl
value_unnamed _ ts h = absurd h

begun_parts : (p : Position) → TakesParts (sort_at p) → begun_at p ≡ p
begun_parts in_operation h = refl
begun_parts (in_value sorts.«Type») h = refl
begun_parts (in_value sorts.Attribute) h = refl
begun_parts in_item h = refl
begun_parts in_choice h = refl
begun_parts _ h = absurd h

-- ---- a value that ends

module _ {D K A T : Type 0} (says : Saying K A T) (values : Values) (text : ℕ → List ℕ) (start : Seen K A T) (counter : ℕ) (s t : Stage K A T) (whole c : Assembler D K A T) (f g : Open D K A T) (rest : List (Open D K A T))
    (names : NameTokens) (is_f : whole.here ≡ f) (is_around : whole.around.items ≡ rest ++ g ∷ []) (kept : c.around.items ≡ rest) (only : OnlyTypes s t) (made : c.made ≡ whole.made) where
  -- what a value that ends leaves of what is around it
  pub record Leaves (o : building.Open) (q : Position) (ts : Trees ActionSpan) (last : ℕ) : Type 0 where
    pub inner : IsAroundRoot (begun_at q) (names_behind [] o.before) → ⊥
    pub numbers : c.here.numbers.items ≡ g.numbers.items
    pub blocks : blocks_of_body c.here.body ≡ blocks_of_body g.body
    pub label : unmade_label c.here.body c.here.first ≡ unmade_label g.body g.first
    pub raised : IsRaised says values text (world_of t c names) c.here q (behind o.before (ended_tree o ts last))

  pub value_ends : (b : Built) (at next : Standing) (last : ℕ) (r : Result (Unit {0}) AssemblyFault) → Holds says values text s.ctx.types whole b at → HasMade says values text start counter s whole b at names
      → moved_out at.around ≡ Some next → IsValue (sort_of f.body)
      → ((o : building.Open) (q : Position) → Ending says values text s.ctx.types f g o at.here q b.here → IsRaised says values text (world_of t c names) f at.here b.here
      → IsRaised says values text (world_of t c names) g (begun_at q) o.before → OnOk r (Leaves o q b.here last))
      → OnOk r (HasMade says values text start counter t c (with_end b.here b.around last) next names)
  value_ends b at next last r holds has out value leaves =
      let w : PartialModule K A T = world_of s whole names in
      let v : PartialModule K A T = world_of t c names in
      let later = same_world_later s t only whole c names made in
      let two : whole.around.items ≡ c.around.items ++ g ∷ [] = is_around ∙ ap (λ (xs : List (Open D K A T)). xs ++ g ∷ []) (sym kept) in
      ends_made says values text start counter s t whole c f g rest names is_f is_around kept b at next last r holds has out
      (λ o os q qs ending inner all none_yet. (
      let unnamed : f.numbers.items ≡ [] = pairs_none (λ n k. slice_get names.definitions n ≡ Some k) f.numbers.items
      (subst (λ (ks : List ℕ). Pairs (λ n k. slice_get names.definitions n ≡ Some k) f.numbers.items ks) (value_unnamed at.here b.here (subst IsValue ending.frame.sort value)) inner.numbered) in
      let outer : IsRaised says values text w g (begun_at q) o.before = raised_here says values text w whole.made.root g (begun_at q) o.before (reverse rest) os qs all in
      on_ok_weaker r (λ (x : Leaves o q b.here last). (
      let blocks : blocks_of c ≡ blocks_of whole = blocks_ended whole c g two (x.blocks ∙ (sym (append-nil (blocks_of_body g.body)) ∙ ap (λ (ns : List (Ptr BasicBlock)). blocks_of_body g.body ++ ns) (sym (ap (λ (y : Open D K A T). blocks_of_body y.body) is_f ∙ no_blocks f.body value)))) in
      let numbers : numbers_of c ≡ numbers_of whole = numbers_ended whole c g two (x.numbers ∙ (sym (append-nil g.numbers.items) ∙ ap (λ (ns : List ℕ). g.numbers.items ++ ns) (sym (ap (λ (y : Open D K A T). y.numbers.items) is_f ∙ unnamed)))) in
      record {
        frames = around_with says values text w v later whole.made.root c.made.root g c.here q o.before (behind o.before (ended_tree o b.here last)) (reverse rest) os qs x.inner (all_blocks_stay s t only (reverse rest)) x.raised all;
        held = held_still s t only whole c names made start has.held;
        stack = stack_still s t only whole c names made blocks has.stack;
        unrooted = still_unrooted q c.made.root (ap (λ (z : Assembly). z.root) made ∙ none_yet);
        definitions = settled_same s t only whole c names made counter numbers has.definitions;
        blocks = labels_same s t only whole c names made (unmade_ended whole c g two x.label (ap (λ (y : Open D K A T). unmade_label y.body y.first) is_f ∙ no_label f.body f.first value)) has.blocks;
        operands = waiting_same s t only whole c names made start has.operands;
      })) (leaves o q ending
      (raised_later says values text w v later f at.here b.here (λ p i h. block_stays s t only p) inner)
      (raised_later says values text w v later g (begun_at q) o.before (λ p i h. block_stays s t only p) outer))))

  -- one more part stands in what is around it
  part_leaves : (o : building.Open) (q : Position) (ts : Trees ActionSpan) (last : ℕ) (ks : List ℕ) (p : Part D K A T) → IsNeutral o.action → TakesParts (sort_at q) → sort_of g.body ≡ sort_at q → HasPut g c.here g.body p ks
      → IsRaised says values text (world_of t c names) g (begun_at q) o.before → Leaves o q ts last
  part_leaves o q ts last ks p neutral takes sort put old = record {
    inner = λ r. no_root_parts q takes (names_behind [] o.before) (subst (λ (x : Position). IsAroundRoot x (names_behind [] o.before)) (begun_parts q takes) r);
    numbers = ap (λ (v : Vec ℕ Global). v.items) put.numbers;
    blocks = ap blocks_of_body put.body;
    label = unmade_same g c.here put.body put.first;
    raised = raised_part says values text (world_of t c names) g c.here q o.before (record { action = o.action; first = o.first; last = last }) ts takes sort put.body put.first put.numbers neutral
        (subst (λ (x : Position). IsRaised says values text (world_of t c names) g x o.before) (begun_parts q takes) old);
  }

-- ---- a type in a header

module _ {D K A T : Type 0} (says : Saying K A T) (values : Values) (text : ℕ → List ℕ) (w : PartialModule K A T) (g h : Open D K A T) (ts us : Trees ActionSpan) (kind first last : ℕ) (ks : List ℕ) (ty : TypeHandle)
    (put : HasPut g h g.body (part.«Type» ty) ks) (shows : ShowsType says w.ctx.types ty (node (value_of_kind sorts.«Type» kind) (pieces_in values text us))) where
  header_type : IsHeader says values text w g in_argument ts → IsHeader says values text w h in_header (behind ts (node (record { action = act.Begin sorts.«Type» kind; first = first; last = last }) us))
  header_type old =
      let step : ActionSpan = record { action = act.Begin sorts.«Type» kind; first = first; last = last } in
      let x : ValueTree = node (value_of_kind sorts.«Type» kind) (pieces_in values text us) in
      let before : List ValueTree = listed (pieces_in values text ts) in
      let front : List ℕ = old.typed_so.0 in
      let named : ℕ = last_argument 0 ts in
      let listed_so : listed (pieces_in values text (behind ts (node step us))) ≡ before ++ x ∷ [] = listed_behind values text ts step us in
      let tokens_so : argument_tokens (behind ts (node step us)) ≡ front ++ named ∷ [] = argument_tokens_behind ts step us ∙ (append-nil (argument_tokens ts) ∙ old.typed_so.1) in
      let many : length front ≡ length before = old.typed_so.2 ∙ sym (listed_length (pieces_in values text ts)) in
      let arguments_were : arguments_in values text 0 ts ≡ typed front before =
      old.arguments ∙ (ap (λ (ks : List ℕ). typed ks before) old.typed_so.1 ∙ typed_longer front named before many) in
      record {
        open_still = has_header_behind ts step us ∙ old.open_still;
        spelt = rw put.first old.spelt;
        unnamed = name_behind [] ts step us;
        no_results = result_names_behind [] ts step us ∙ old.no_results;
        empty = operations_behind values text [] ts step us ∙ old.empty;
        types = old.types ++ ty ∷ [];
        parts = put.content.parts ∙ (ap (λ (ps : List (Part D K A T)). ps ++ part.«Type» ty ∷ []) old.parts ∙ sym (map-append part.«Type» old.types (ty ∷ [])));
        shown = rw listed_so (pairs_put (ShowsType says w.ctx.types) old.types before ty x old.shown shows);
        arguments = rw (listed_so, tokens_so) (arguments_behind values text 0 ts step us old.open_still
            ∙ (ap (λ (rs : List (ℕ × ValueTree)). rs ++ (named, x) ∷ []) arguments_were ∙ sym (typed_more front named before x many)));
        typed_so = ap length tokens_so ∙ (length-append front (named ∷ []) ∙ (ap (λ (n : ℕ). n + 1) many ∙ (sym (length-append before (x ∷ [])) ∙ (ap length (sym listed_so) ∙ listed_length (pieces_in values text (behind ts (node step us)))))));
      }

  block_type : (p : Option (Ptr BasicBlock)) → RaisesBlock says values text w p g in_argument ts → RaisesBlock says values text w p h in_header (behind ts (node (record { action = act.Begin sorts.«Type» kind; first = first; last = last }) us))
  block_type None old = header_type old
  block_type (Some p) old = absurd old.among

  pub raised_type : IsRaised says values text w g in_argument ts → IsRaised says values text w h in_header (behind ts (node (record { action = act.Begin sorts.«Type» kind; first = first; last = last }) us))
  raised_type old =
      let step : ActionSpan = record { action = act.Begin sorts.«Type» kind; first = first; last = last } in
      let tokens_so : argument_tokens (behind ts (node step us)) ≡ argument_tokens ts = argument_tokens_behind ts step us ∙ append-nil (argument_tokens ts) in
      record {
        made = subst (λ (x : Body D K A T). Raises says values text w x h in_header (behind ts (node step us))) (sym put.body)
            (raises_more says values text w g.body g h in_argument in_header ts step us (record { region = λ x y. refl; block = λ x y. refl; operand = λ xs. refl; edge = λ xs. refl }) put.first (λ p e i. block_type p i) old.made);
        numbered = rw (put.numbers, tokens_so) old.numbered;
      }

-- ---- each of the values

neutral_type : (n : ℕ) → IsNeutral (act.Begin sorts.«Type» n)
neutral_type n = record { region = λ x y. refl; block = λ x y. refl; operand = λ xs. refl; edge = λ xs. refl }

neutral_attribute : (n : ℕ) → IsNeutral (act.Begin sorts.Attribute n)
neutral_attribute n = record { region = λ x y. refl; block = λ x y. refl; operand = λ xs. refl; edge = λ xs. refl }

neutral_list : IsNeutral act.BeginList
neutral_list = record { region = λ x y. refl; block = λ x y. refl; operand = λ xs. refl; edge = λ xs. refl }

neutral_choice : (n : ℕ) → IsNeutral (act.BeginChoice n)
neutral_choice n = record { region = λ x y. refl; block = λ x y. refl; operand = λ xs. refl; edge = λ xs. refl }

module _ {D K A T : Type 0} (says : Saying K A T) (values : Values) (text : ℕ → List ℕ) (start : Seen K A T) (counter : ℕ) (s t : Stage K A T) (whole c : Assembler D K A T) (f g : Open D K A T) (rest : List (Open D K A T))
    (names : NameTokens) (is_f : whole.here ≡ f) (is_around : whole.around.items ≡ rest ++ g ∷ []) (kept : c.around.items ≡ rest) (only : OnlyTypes s t) (made : c.made ≡ whole.made)
    (b : Built) (at next : Standing) (last : ℕ) (r : Result (Unit {0}) AssemblyFault) (holds : Holds says values text s.ctx.types whole b at) (has : HasMade says values text start counter s whole b at names) (out : moved_out at.around ≡ Some next) where
  abbrev v : PartialModule K A T
  v = world_of t c names

  -- a type that ends is a part, or that of the last argument
  pub type_raised : (kind first : ℕ) → f.body ≡ body.«Type» kind
      → ((ps : Pieces) → ShowsParts says s.ctx.types f.content.value.parts.items ps → OnOk r ((values.refused_type kind ps ≡ None) × (ty : TypeHandle) × ShowsType says t.ctx.types ty (node (value_of_kind sorts.«Type» kind) ps) × HasPut g c.here g.body (part.«Type» ty) (first ∷ [])))
      → OnOk r (HasMade says values text start counter t c (with_end b.here b.around last) next names)
  type_raised kind first is new =
      value_ends says values text start counter s t whole c f g rest names is_f is_around kept only made b at next last r holds has out (subst (λ (x : Body D K A T). IsValue (sort_of x)) (sym is) tt)
      (λ o q ending inner outer. (
      let place : TakesTypes q = subst (λ (x : Body D K A T). EndsAt (sort_of x) q) is ending.begun.ends in
      let begins : o.action ≡ act.Begin sorts.«Type» kind = subst (λ (x : Body D K A T). Begins x o.action) is ending.begun.begins in
      let parts : SaysParts says values text s.ctx.types f.content.value b.here = subst (λ (x : Body D K A T). Contains says values text s.ctx.types x f.content.value b.here) is ending.frame.contains in
      on_ok_weaker r (λ (x : (values.refused_type kind (pieces_in values text b.here) ≡ None) × (ty : TypeHandle) × ShowsType says t.ctx.types ty (node (value_of_kind sorts.«Type» kind) (pieces_in values text b.here)) × HasPut g c.here g.body (part.«Type» ty) (first ∷ [])).
      elim (type_place q place) [
        | inl e ↦ record {
          inner = λ i. subst (λ (p : Position). IsAroundRoot (begun_at p) (names_behind [] o.before)) e i;
          numbers = ap (λ (ks : Vec ℕ Global). ks.items) x.3.numbers;
          blocks = ap blocks_of_body x.3.body;
          label = unmade_same g c.here x.3.body x.3.first;
          raised = subst (λ (p : Position). IsRaised says values text v c.here p (behind o.before (ended_tree o b.here last))) (sym e)
              (subst (λ (a : Action). IsRaised says values text v c.here in_header (behind o.before (node (record { action = a; first = o.first; last = last }) b.here))) (sym begins)
              (raised_type says values text v g c.here o.before b.here kind o.first last (first ∷ []) x.1 x.3 x.2 (subst (λ (p : Position). IsRaised says values text v g (begun_at p) o.before) e outer)));
        }
        | inr takes ↦ part_leaves says values text start counter s t whole c f g rest names is_f is_around kept only made o q b.here last (first ∷ []) (part.«Type» x.1)
            (subst IsNeutral (sym begins) (neutral_type kind)) takes ending.outer.sort x.3 outer
      ]) (new (pieces_in values text b.here) parts.parts)))

  pub attribute_raised : (kind first : ℕ) → f.body ≡ body.Attribute kind
      → ((ps : Pieces) → ShowsParts says s.ctx.types f.content.value.parts.items ps → OnOk r ((values.refused_attribute kind ps ≡ None) × (attr : A) × ShowsAttribute says t.ctx.types attr (node (value_of_kind sorts.Attribute kind) (values.canonical kind ps)) × HasPut g c.here g.body (part.Attribute attr) (first ∷ [])))
      → OnOk r (HasMade says values text start counter t c (with_end b.here b.around last) next names)
  attribute_raised kind first is new =
      value_ends says values text start counter s t whole c f g rest names is_f is_around kept only made b at next last r holds has out (subst (λ (x : Body D K A T). IsValue (sort_of x)) (sym is) tt)
      (λ o q ending inner outer. (
      let takes : TakesParts (sort_at q) = subst (λ (x : Body D K A T). EndsAt (sort_of x) q) is ending.begun.ends in
      let begins : o.action ≡ act.Begin sorts.Attribute kind = subst (λ (x : Body D K A T). Begins x o.action) is ending.begun.begins in
      let parts : SaysParts says values text s.ctx.types f.content.value b.here = subst (λ (x : Body D K A T). Contains says values text s.ctx.types x f.content.value b.here) is ending.frame.contains in
      on_ok_weaker r (λ (x : (values.refused_attribute kind (pieces_in values text b.here) ≡ None) × (attr : A) × ShowsAttribute says t.ctx.types attr (node (value_of_kind sorts.Attribute kind) (values.canonical kind (pieces_in values text b.here))) × HasPut g c.here g.body (part.Attribute attr) (first ∷ [])).
      part_leaves says values text start counter s t whole c f g rest names is_f is_around kept only made o q b.here last (first ∷ []) (part.Attribute x.1)
      (subst IsNeutral (sym begins) (neutral_attribute kind)) takes ending.outer.sort x.3 outer) (new (pieces_in values text b.here) parts.parts)))

  pub list_raised : (ks : List ℕ) (ms : Vec (Vec (Part D K A T) Global) Global) → f.body ≡ body.List ms → OnOk r (HasPut g c.here g.body (part.List ms) ks)
      → OnOk r (HasMade says values text start counter t c (with_end b.here b.around last) next names)
  list_raised ks ms is new =
      value_ends says values text start counter s t whole c f g rest names is_f is_around kept only made b at next last r holds has out (subst (λ (x : Body D K A T). IsValue (sort_of x)) (sym is) tt)
      (λ o q ending inner outer. (
      let takes : TakesParts (sort_at q) = subst (λ (x : Body D K A T). EndsAt (sort_of x) q) is ending.begun.ends in
      let begins : o.action ≡ act.BeginList = subst (λ (x : Body D K A T). Begins x o.action) is ending.begun.begins in
      on_ok_weaker r (λ (x : HasPut g c.here g.body (part.List ms) ks).
      part_leaves says values text start counter s t whole c f g rest names is_f is_around kept only made o q b.here last ks (part.List ms)
      (subst IsNeutral (sym begins) neutral_list) takes ending.outer.sort x outer) new))

  pub choice_raised : (ks : List ℕ) (n : ℕ) (ps : Vec (Part D K A T) Global) → f.body ≡ body.Choice n → OnOk r (HasPut g c.here g.body (part.Choice n ps) ks)
      → OnOk r (HasMade says values text start counter t c (with_end b.here b.around last) next names)
  choice_raised ks n ps is new =
      value_ends says values text start counter s t whole c f g rest names is_f is_around kept only made b at next last r holds has out (subst (λ (x : Body D K A T). IsValue (sort_of x)) (sym is) tt)
      (λ o q ending inner outer. (
      let takes : TakesParts (sort_at q) = subst (λ (x : Body D K A T). EndsAt (sort_of x) q) is ending.begun.ends in
      let begins : o.action ≡ act.BeginChoice n = subst (λ (x : Body D K A T). Begins x o.action) is ending.begun.begins in
      on_ok_weaker r (λ (x : HasPut g c.here g.body (part.Choice n ps) ks).
      part_leaves says values text start counter s t whole c f g rest names is_f is_around kept only made o q b.here last ks (part.Choice n ps)
      (subst IsNeutral (sym begins) (neutral_choice n)) takes ending.outer.sort x outer) new))

  -- a member is one more of a list
  pub item_raised : (parts : Vec (Part D K A T) Global) (ms : Vec (Vec (Part D K A T) Global) Global) (ks : List ℕ) → f.body ≡ body.Item → g.body ≡ body.List ms
      → OnOk r ((ns : Vec (Vec (Part D K A T) Global) Global) × HasMember g c.here (body.List ns) ks × (ns.items ≡ ms.items ++ parts ∷ []))
      → OnOk r (HasMade says values text start counter t c (with_end b.here b.around last) next names)
  item_raised parts ms ks is is_list new =
      value_ends says values text start counter s t whole c f g rest names is_f is_around kept only made b at next last r holds has out (subst (λ (x : Body D K A T). IsValue (sort_of x)) (sym is) tt)
      (λ o q ending inner outer. (
      let place : q ≡ in_list = subst (λ (x : Body D K A T). EndsAt (sort_of x) q) is ending.begun.ends in
      let more : Trees ActionSpan = behind o.before (ended_tree o b.here last) in
      let old : IsRaised says values text v g in_list o.before = subst (λ (p : Position). IsRaised says values text v g (begun_at p) o.before) place outer in
      on_ok_weaker r (λ (x : (ns : Vec (Vec (Part D K A T) Global) Global) × HasMember g c.here (body.List ns) ks × (ns.items ≡ ms.items ++ parts ∷ [])). record {
        inner = λ i. subst (λ (p : Position). IsAroundRoot (begun_at p) (names_behind [] o.before)) place i;
        numbers = ap (λ (ns : Vec ℕ Global). ns.items) x.1.numbers;
        blocks = ap blocks_of_body x.1.body ∙ sym (ap blocks_of_body is_list);
        label = ap (λ (y : Body D K A T). unmade_label y c.here.first) x.1.body ∙ sym (ap (λ (y : Body D K A T). unmade_label y g.first) is_list);
        raised = subst (λ (p : Position). IsRaised says values text v c.here p more) (sym place) (record {
          made = subst (λ (y : Body D K A T). Raises says values text v y c.here in_list more) (sym x.1.body) tt;
          numbered = rw x.1.numbers old.numbered;
        });
      }) new))

  -- operands are those of the operation around them
  pub operands_raised : (first : ℕ) (ks : Vec ℕ Global) (p : OpenOperation) → f.body ≡ body.Operands ks → g.body ≡ body.Operation p
      → OnOk r ((q : OpenOperation) × HasPut g c.here (body.Operation q) (part.Operands (length ks.items)) (first ∷ []) × (q.kind ≡ p.kind) × (q.regions ≡ p.regions) × (q.labels ≡ p.labels) × (q.operands.items ≡ p.operands.items ++ ks.items))
      → OnOk r (HasMade says values text start counter t c (with_end b.here b.around last) next names)
  operands_raised first ks p is is_operation new =
      value_ends says values text start counter s t whole c f g rest names is_f is_around kept only made b at next last r holds has out (subst (λ (x : Body D K A T). IsValue (sort_of x)) (sym is) tt)
      (λ o q ending inner outer. (
      let place : q ≡ in_operation = subst (λ (x : Body D K A T). EndsAt (sort_of x) q) is ending.begun.ends in
      let begins : o.action ≡ act.BeginOperands = subst (λ (x : Body D K A T). Begins x o.action) is ending.begun.begins in
      let step : ActionSpan = record { action = act.BeginOperands; first = o.first; last = last } in
      let contains : ks.items ≡ tokens_in b.here = subst (λ (x : Body D K A T). Contains says values text s.ctx.types x f.content.value b.here) is ending.frame.contains in
      let among : AreAmong ks.items names.mentions = subst (λ (x : Body D K A T). Raises says values text v x f at.here b.here) is inner.made in
      let old : IsRaised says values text v g in_operation o.before = subst (λ (x : Position). IsRaised says values text v g (begun_at x) o.before) place outer in
      let known : Raises says values text v (body.Operation p) g in_operation o.before = subst (λ (x : Body D K A T). Raises says values text v x g in_operation o.before) is_operation old.made in
      on_ok_weaker r (λ (x : (n : OpenOperation) × HasPut g c.here (body.Operation n) (part.Operands (length ks.items)) (first ∷ []) × (n.kind ≡ p.kind) × (n.regions ≡ p.regions) × (n.labels ≡ p.labels) × (n.operands.items ≡ p.operands.items ++ ks.items)). record {
        inner = λ i. subst (λ (y : Position). IsAroundRoot (begun_at y) (names_behind [] o.before)) place i;
        numbers = ap (λ (ns : Vec ℕ Global). ns.items) x.1.numbers;
        blocks = ap blocks_of_body x.1.body ∙ (ap (λ (rs : Vec (Vec (Ptr BasicBlock) Global) Global). joined (map (λ (bs : Vec (Ptr BasicBlock) Global). bs.items) rs.items)) x.3 ∙ sym (ap blocks_of_body is_operation));
        label = ap (λ (y : Body D K A T). unmade_label y c.here.first) x.1.body ∙ sym (ap (λ (y : Body D K A T). unmade_label y g.first) is_operation);
        raised = subst (λ (y : Position). IsRaised says values text v c.here y (behind o.before (ended_tree o b.here last))) (sym place)
            (subst (λ (a : Action). IsRaised says values text v c.here in_operation (behind o.before (node (record { action = a; first = o.first; last = last }) b.here))) (sym begins) (record {
              made = subst (λ (y : Body D K A T). Raises says values text v y c.here in_operation (behind o.before (node step b.here))) (sym x.1.body) (record {
                operands = x.5 ∙ (ap (λ (ns : List ℕ). ns ++ ks.items) known.operands ∙ (ap (λ (ns : List ℕ). operands_in o.before ++ ns) contains ∙ sym (operands_behind o.before step b.here)));
                mentioned = rw x.5 (among_two p.operands.items ks.items names.mentions known.mentioned among);
                labels = ap (λ (ns : Vec ℕ Global). ns.items) x.4 ∙ (known.labels ∙ sym (successors_behind o.before step b.here ∙ append-nil (successors_in o.before)));
                labels_mentioned = rw x.4 known.labels_mentioned;
                regions = rw (x.3, regions_behind values text o.before step b.here) known.regions;
              });
              numbered = rw x.1.numbers old.numbered;
            }));
      }) new))

  -- an edge is one of the operation around it, which has the operands that it hands on
  pub edge_raised : (first : ℕ) → first ≡ f.first → (ks : Vec ℕ Global) (p : OpenOperation) → f.body ≡ body.Successor ks → g.body ≡ body.Operation p
      → OnOk r ((q : OpenOperation) × HasPut g c.here (body.Operation q) (part.Successor (length ks.items)) (first ∷ []) × (q.kind ≡ p.kind) × (q.regions ≡ p.regions) × (q.labels.items ≡ p.labels.items ++ first ∷ []) × (q.operands.items ≡ p.operands.items ++ ks.items))
      → OnOk r (HasMade says values text start counter t c (with_end b.here b.around last) next names)
  edge_raised first at_label ks p is is_operation new =
      value_ends says values text start counter s t whole c f g rest names is_f is_around kept only made b at next last r holds has out (subst (λ (x : Body D K A T). IsValue (sort_of x)) (sym is) tt)
      (λ o q ending inner outer. (
      let place : q ≡ in_operation = subst (λ (x : Body D K A T). EndsAt (sort_of x) q) is ending.begun.ends in
      let begins : o.action ≡ act.BeginSuccessor = subst (λ (x : Body D K A T). Begins x o.action) is ending.begun.begins in
      let step : ActionSpan = record { action = act.BeginSuccessor; first = o.first; last = last } in
      let contains : ks.items ≡ tokens_in b.here = subst (λ (x : Body D K A T). Contains says values text s.ctx.types x f.content.value b.here) is ending.frame.contains in
      let known_edge : Raises says values text v (body.Successor ks) f at.here b.here = subst (λ (x : Body D K A T). Raises says values text v x f at.here b.here) is inner.made in
      let label_is : first ≡ o.first = at_label ∙ ending.begun.first in
      let old : IsRaised says values text v g in_operation o.before = subst (λ (x : Position). IsRaised says values text v g (begun_at x) o.before) place outer in
      let known : Raises says values text v (body.Operation p) g in_operation o.before = subst (λ (x : Body D K A T). Raises says values text v x g in_operation o.before) is_operation old.made in
      on_ok_weaker r (λ (x : (n : OpenOperation) × HasPut g c.here (body.Operation n) (part.Successor (length ks.items)) (first ∷ []) × (n.kind ≡ p.kind) × (n.regions ≡ p.regions) × (n.labels.items ≡ p.labels.items ++ first ∷ []) × (n.operands.items ≡ p.operands.items ++ ks.items)). record {
        inner = λ i. subst (λ (y : Position). IsAroundRoot (begun_at y) (names_behind [] o.before)) place i;
        numbers = ap (λ (ns : Vec ℕ Global). ns.items) x.1.numbers;
        blocks = ap blocks_of_body x.1.body ∙ (ap (λ (rs : Vec (Vec (Ptr BasicBlock) Global) Global). joined (map (λ (bs : Vec (Ptr BasicBlock) Global). bs.items) rs.items)) x.3 ∙ sym (ap blocks_of_body is_operation));
        label = ap (λ (y : Body D K A T). unmade_label y c.here.first) x.1.body ∙ sym (ap (λ (y : Body D K A T). unmade_label y g.first) is_operation);
        raised = subst (λ (y : Position). IsRaised says values text v c.here y (behind o.before (ended_tree o b.here last))) (sym place)
            (subst (λ (a : Action). IsRaised says values text v c.here in_operation (behind o.before (node (record { action = a; first = o.first; last = last }) b.here))) (sym begins) (record {
              made = subst (λ (y : Body D K A T). Raises says values text v y c.here in_operation (behind o.before (node step b.here))) (sym x.1.body) (record {
                operands = x.5 ∙ (ap (λ (ns : List ℕ). ns ++ ks.items) known.operands ∙ (ap (λ (ns : List ℕ). operands_in o.before ++ ns) contains ∙ sym (operands_behind o.before step b.here)));
                mentioned = rw x.5 (among_two p.operands.items ks.items names.mentions known.mentioned known_edge.0);
                labels = x.4 ∙ (ap (λ (ns : List ℕ). ns ++ first ∷ []) known.labels ∙ (ap (λ (n : ℕ). successors_in o.before ++ n ∷ []) label_is ∙ sym (successors_behind o.before step b.here)));
                labels_mentioned = rw x.4 (among_two p.labels.items (first ∷ []) names.edges known.labels_mentioned (subst (λ (n : ℕ). AreAmong (n ∷ []) names.edges) (sym at_label) known_edge.1));
                regions = rw (x.3, regions_behind values text o.before step b.here) known.regions;
              });
              numbered = rw x.1.numbers old.numbered;
            }));
      }) new))
