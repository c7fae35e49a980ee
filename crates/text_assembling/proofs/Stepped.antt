-- Where each action leads to.
use Rattle.std.proofs.Common.{◌≡◌, ◌∙◌, ◌⊎◌, inl, inr, ℕ, ◌+◌, ◌-◌, ◌≤◌, ◌^◌, true, List, [], ◌∷◌, ◌++◌, length, reverse, Some, None, Result, Ok, Err, OnOk, slice_get, Vec, refl, sym, ap, subst, append-nil}
use Rattle.std.specs.Global.{Global}
use Rattle.ir_context.specs.Known.{AreKnownIn}
use Rattle.ir_names.specs.Text.{is_identifier}
use Rattle.ir_print.specs.Pieces.{Values}
use Rattle.ir_print.specs.Shown.{Saying, IsLeaf}
use Rattle.ir_print.specs.declared.format.Part.{Part}
use Rattle.ir_print.specs.declared.format.Part.TheVariants as part
use Rattle.ir_program.specs.declared.handles.BasicBlock.{BasicBlock}
use Rattle.ir_program.specs.declared.handles.Ptr.{Ptr}
use Rattle.ir_grammar.specs.declared.grammar.Action.{Action}
use Rattle.ir_grammar.specs.declared.grammar.Action.TheVariants as act
use Rattle.ir_grammar.specs.Nesting.{in_value, in_list, in_item, in_choice, move}
use Rattle.ir_forest.specs.Building.{fault_after, fault_at_end, with_end}
use Rattle.ir_forest.specs.Meaning.{leaf_in}
use Rattle.ir_formats.specs.Ordered.{Standing, moved_by}
use Rattle.text_frames.specs.building.Kept.{KeepsKeys}
use Rattle.text_frames.specs.declared.opened.Body.TheVariants as body
use Rattle.text_frames.specs.declared.opened.OpenBlock.{OpenBlock}
use Rattle.text_frames.specs.declared.opened.OpenOperation.{OpenOperation}
use Rattle.text_frames.specs.Frames.{sort_at, sort_of}
use Rattle.text_frames.specs.Makes.{types_in}
use Rattle.text_frames.specs.Opened.{HasBody, HasOneMoreName, HasPut}
use Rattle.text_frames.proofs.Framing.{innermost}
use Rattle.text_frames.proofs.Moving as moving
use Rattle.text_frames.proofs.Moving.{type_begins, leaf_stays, result_goes, argument_goes, header_goes, operand_goes}
use Rattle.text_assembling.specs.declared.assembling.Assembler.{Assembler}
use Rattle.text_assembling.specs.Assembling.{Begun, KeepsAround, NamesOne, Stage, value_body, world_of}
use Rattle.text_assembling.specs.Steps.{HasEnded, HasStepped, IsAt, MakesBlock, ActionIsInPlace, MayGoOut, Progress, progress_after, progress_ended}
use Rattle.text_assembling.proofs.RaisingBegins.{type_enters, attribute_enters, list_enters, item_enters, choice_enters, value_begins, operation_begins, region_begins, operands_begin, edge_begins, block_begins}
use Rattle.text_assembling.proofs.Outside.{around_block}
use Rattle.text_assembling.proofs.RaisingBlocks.{may_end}
use Rattle.text_assembling.proofs.RaisingHeaders.{header_at, header_full, header_known, header_made, header_spelt}
use Rattle.text_assembling.proofs.RaisingLeaves.{neutral_leaf, none_more, part_made, operand_made, handed_on_made, result_made, argument_made}
use Rattle.text_assembling.proofs.RaisingSteps.{ends_out}
use Rattle.text_assembling.proofs.Settling.{unrooted}
use Rattle.ir_print.specs.declared.format.LeafValue.{LeafValue}
use Rattle.ir_print.specs.declared.format.LeafSort.{LeafSort}
use Rattle.ir_print.specs.declared.format.ValueSort.{ValueSort}
use Rattle.ir_print.specs.declared.format.ValueSort.TheVariants as sorts
use Rattle.text_assembling.proofs.Stepping.{IsAnEnd, begins, went_leaf, went_result, went_argument, the_block, went_header, the_operands, went_operand, the_edge, went_handed_on}

-- what is well on both counts is so together
pub on_ok_both : {X E P Q R : Type 0} (r : Result X E) → OnOk r P → OnOk r Q → (P → Q → R) → OnOk r R
on_ok_both (Ok x) p q f = f p q
on_ok_both (Err e) p q f = tt

-- what is known where the answer is Ok may be used there
pub ok_case : {X E : Type 0} (r : Result X E) (P : Type 0) → (((Q : Type 0) → OnOk r Q → Q) → P) → OnOk r P
ok_case (Ok x) P f = f (λ Q q. q)
ok_case (Err e) P f = tt

module _ {D K A T : Type 0} (text : ℕ → List ℕ) (a : Assembler D K A T) where
  -- what is open innermost may end where an action ends it
  pub goes_out : (g : Progress K A T) (next : Standing) (x : Action) → IsAnEnd x → ActionIsInPlace text a x g next → MayGoOut g next
  goes_out g next x is goes = record {
    out = ends_out g.standing.around next g.standing.here x is goes.leads;
    may = may_end g.standing.around next g.standing.here x is goes.leads;
  }

module _ {D K A T : Type 0} (says : Saying K A T) (values : Values) (text : ℕ → List ℕ) (s t : Stage K A T) (a c : Assembler D K A T) where
  -- an action that is known
  pub stepped : (x y : Action) → x ≡ y → HasStepped says values text s a t c y → HasStepped says values text s a t c x
  stepped x y e h = subst (λ (z : Action). HasStepped says values text s a t c z) (sym e) h

  -- what ends leads on as its end does
  ended_at : (g : Progress K A T) (next : Standing) (k : ℕ) → IsAt says values text t c (progress_ended g k next)
      → IsAt says values text t c (record { start = g.start; first = g.first; built = with_end g.built.here g.built.around k; standing = next; names = none_more g.names })
  ended_at g next k h = record { holds = h.holds; made = rw (append-nil g.names.definitions, append-nil g.names.mentions, append-nil g.names.labels, append-nil g.names.edges) h.made }

  at_end : (g : Progress K A T) (next : Standing) (k : ℕ) (x y : Action) → x ≡ y → (fault_after values text g.built y k ≡ None) × IsAt says values text t c (progress_after g y k next)
      → (fault_after values text g.built x k ≡ None) × IsAt says values text t c (progress_after g x k next)
  at_end g next k x y e h = subst (λ (z : Action). (fault_after values text g.built z k ≡ None) × IsAt says values text t c (progress_after g z k next)) (sym e) h

  ended_after : (g : Progress K A T) (next : Standing) (k : ℕ) (x : Action) → IsAnEnd x
      → (fault_at_end values text g.built.here g.built.around k ≡ None) × IsAt says values text t c (progress_ended g k next)
      → (fault_after values text g.built x k ≡ None) × IsAt says values text t c (progress_after g x k next)
  ended_after g next k x (inl e) w = at_end g next k x act.EndOperation e (w.0, ended_at g next k w.1)
  ended_after g next k x (inr (inl e)) w = at_end g next k x act.EndRegion e (refl, ended_at g next k w.1)
  ended_after g next k x (inr (inr (inl e))) w = at_end g next k x act.EndBlock e (refl, ended_at g next k w.1)
  ended_after g next k x (inr (inr (inr (inl (sorts.«Type», e))))) w = at_end g next k x (act.End sorts.«Type») e (w.0, ended_at g next k w.1)
  ended_after g next k x (inr (inr (inr (inl (sorts.Attribute, e))))) w = at_end g next k x (act.End sorts.Attribute) e (w.0, ended_at g next k w.1)
  ended_after g next k x (inr (inr (inr (inr (inl e))))) w = at_end g next k x act.EndOperands e (refl, ended_at g next k w.1)
  ended_after g next k x (inr (inr (inr (inr (inr (inl e)))))) w = at_end g next k x act.EndItem e (refl, ended_at g next k w.1)
  ended_after g next k x (inr (inr (inr (inr (inr (inr (inl e))))))) w = at_end g next k x act.EndList e (refl, ended_at g next k w.1)
  ended_after g next k x (inr (inr (inr (inr (inr (inr (inr (inl e)))))))) w = at_end g next k x act.EndSuccessor e (refl, ended_at g next k w.1)
  ended_after g next k x (inr (inr (inr (inr (inr (inr (inr (inr e)))))))) w = at_end g next k x act.EndChoice e (refl, ended_at g next k w.1)

  pub stepped_end : (x : Action) → IsAnEnd x → HasEnded says values s a t c → HasStepped says values text s a t c x
  stepped_end x is ended g next at goes = ended_after g next (a.taken - 1) x is (ended text g next at (goes_out text a g next x is goes))

  -- the block whose header ends is made
  pub stepped_header : KeepsAround a c → c.here.first ≡ a.here.first → c.here.names.items ≡ [] → MakesBlock s t.ctx a c (text a.here.first)
      → t.counter ≡ s.counter + length (types_in a.here.content.value.parts.items) → HasStepped says values text s a t c act.Header
  stepped_header kept first names new given g next at goes =
      let k : ℕ = a.taken - 1 in
      let none_yet = unrooted g.standing.here act.Header g.standing.around next a.made.root goes.leads at.made.unrooted in
      let place = header_at g.standing.around next g.standing.here goes.leads in
      let along = header_goes g.standing.around next g.standing.here goes.leads in
      let o = the_block says values text s.ctx.types a c g.built g.standing next k at.holds along.1 in
      let keeps : KeepsKeys s.ctx.types t.ctx.types = λ i key e. ap (λ (keys : List T). slice_get keys i) new.opens.types ∙ e in
      let w = went_header says values text s.ctx.types a c g.built g.standing next k at.holds t.ctx.types keeps along kept o.0 (record { block = Some new.block }) o.1
      (record { body = new.body; first = first; names = names }) in (
        w.0,
        record {
          holds = w.1;
          made = header_made says values text g.start g.first s a g.built g.standing g.names at.made place.0 o.0 o.1 none_yet
              (around_block says values text (world_of s a g.names) s.ctx.types a.made.root a.here g.standing.here g.built.here a.around.items g.built.around g.standing.around (ap sort_of o.1) at.holds at.made.frames)
              t c kept first new given k next place.1;
        },
      )

module _ {D K A T : Type 0} (says : Saying K A T) (values : Values) (text : ℕ → List ℕ) (s : Stage K A T) (a c : Assembler D K A T) where
  pub stepped_result : KeepsAround a c → HasOneMoreName a.here c.here (a.taken - 1) → NamesOne a c → HasStepped says values text s a s c act.Result
  stepped_result kept name named g next at goes =
      let none_yet = unrooted g.standing.here act.Result g.standing.around next a.made.root goes.leads at.made.unrooted in
      let w = went_result says values text s.ctx.types a c g.built g.standing next (a.taken - 1) at.holds (result_goes g.standing.around next g.standing.here goes.leads) kept name in
      (w.0, record { holds = w.1; made = result_made says values text g.start g.first s a c g.built g.standing next (a.taken - 1) g.names at.made none_yet kept named goes.leads name })

  pub stepped_argument : KeepsAround a c → HasBody a.here c.here a.here.body → c.here.content ≡ a.here.content → NamesOne a c → HasStepped says values text s a s c act.Argument
  stepped_argument kept here content named g next at goes =
      let none_yet = unrooted g.standing.here act.Argument g.standing.around next a.made.root goes.leads at.made.unrooted in
      let w = went_argument says values text s.ctx.types a c g.built g.standing next (a.taken - 1) at.holds (argument_goes g.standing.around next g.standing.here goes.leads) kept here in
      (w.0, record { holds = w.1; made = argument_made says values text g.start g.first s a c g.built g.standing next (a.taken - 1) g.names at.made none_yet kept named goes.leads here content })

  -- the operands that are open where one more is named, or those that an edge hands on
  pub open_operands : (g : Progress K A T) (next : Standing) → IsAt says values text s a g → ActionIsInPlace text a act.Operand g next
      → ((ks : Vec ℕ Global) × (a.here.body ≡ body.Operands ks)) ⊎ ((ks : Vec ℕ Global) × (a.here.body ≡ body.Successor ks))
  open_operands g next at goes = elim (operand_goes g.standing.around next g.standing.here goes.leads).1 [
    | inl e ↦ inl (the_operands says values text s.ctx.types a c g.built g.standing next (a.taken - 1) at.holds e)
    | inr e ↦ inr (the_edge says values text s.ctx.types a c g.built g.standing next (a.taken - 1) at.holds e)
  ]

  pub stepped_operand : KeepsAround a c → c.made ≡ a.made → ((ks : Vec ℕ Global) → a.here.body ≡ body.Operands ks
      → (ls : Vec ℕ Global) × (c.here ≡ record a.here { body = body.Operands ls }) × (ls.items ≡ ks.items ++ (a.taken - 1) ∷ []))
      → ((ks : Vec ℕ Global) → a.here.body ≡ body.Successor ks
      → (ls : Vec ℕ Global) × (c.here ≡ record a.here { body = body.Successor ls }) × (ls.items ≡ ks.items ++ (a.taken - 1) ∷ []))
      → HasStepped says values text s a s c act.Operand
  stepped_operand kept made more handed_on g next at goes =
      let none_yet = unrooted g.standing.here act.Operand g.standing.around next a.made.root goes.leads at.made.unrooted in
      let along = operand_goes g.standing.around next g.standing.here goes.leads in
      elim along.1 [
        | inl e ↦
            let ks = the_operands says values text s.ctx.types a c g.built g.standing next (a.taken - 1) at.holds e in
            let m = more ks.0 ks.1 in
            let w = went_operand says values text s.ctx.types a c g.built g.standing next (a.taken - 1) at.holds (along.0, e) kept ks.0 m.0 ks.1 m.1 m.2 in
            (w.0, record { holds = w.1; made = operand_made says values text g.start g.first s a c g.built g.standing next (a.taken - 1) g.names at.made none_yet goes.leads kept made ks.0 m.0 ks.1 m.1 m.2 })
        | inr e ↦
            let ks = the_edge says values text s.ctx.types a c g.built g.standing next (a.taken - 1) at.holds e in
            let m = handed_on ks.0 ks.1 in
            let w = went_handed_on says values text s.ctx.types a c g.built g.standing next (a.taken - 1) at.holds (along.0, e) kept ks.0 m.0 ks.1 m.1 m.2 in
            (w.0, record { holds = w.1; made = handed_on_made says values text g.start g.first s a c g.built g.standing next (a.taken - 1) g.names at.made none_yet goes.leads kept made ks.0 m.0 ks.1 m.1 m.2 })
      ]

  -- ---- parts

  sort_here : (g : Progress K A T) → IsAt says values text s a g → sort_of a.here.body ≡ sort_at g.standing.here
  sort_here g at = (innermost says values text s.ctx.types a.here g.standing.here g.built.here (reverse a.around.items) g.built.around g.standing.around at.holds).sort

  pub stepped_leaf : KeepsAround a c → c.made ≡ a.made → (sort : LeafSort) (l : LeafValue) → IsLeaf l (leaf_in sort (text (a.taken - 1))) → HasPut a.here c.here a.here.body (part.Leaf l) ((a.taken - 1) ∷ [])
      → HasStepped says values text s a s c (act.Leaf sort)
  stepped_leaf kept made sort l shown put g next at goes =
      let none_yet = unrooted g.standing.here (act.Leaf sort) g.standing.around next a.made.root goes.leads at.made.unrooted in
      let stays = leaf_stays g.standing.around next g.standing.here sort goes.leads in
      let w = went_leaf says values text s.ctx.types a c g.built g.standing next (a.taken - 1) at.holds sort l stays kept shown put in
      (w.0, record { holds = w.1; made = part_made says values text g.start g.first s a c g.built g.standing next (a.taken - 1) g.names at.made none_yet (act.Leaf sort) (neutral_leaf sort) (sort_here g at) stays kept made put.body put.first put.numbers })

  -- ---- what begins

  pub stepped_operation : c.made ≡ a.made → (n : ℕ) (o : OpenOperation) → Begun a c (body.Operation o) → o.kind ≡ n → o.operands.items ≡ [] → o.labels.items ≡ [] → o.regions.items ≡ []
      → HasStepped says values text s a s c (act.Operation n)
  stepped_operation made n o begun kind operands labels regions g next at goes =
      let none_yet = unrooted g.standing.here (act.Operation n) g.standing.around next a.made.root goes.leads at.made.unrooted in (
        refl,
        record {
          holds = begins says values text s.ctx.types a c g.built g.standing next (a.taken - 1) at.holds (act.Operation n) (body.Operation o)
              (moving.operation_begins g.standing.around next g.standing.here n goes.leads) begun.here begun.around (ap act.Operation (sym kind)) tt;
          made = operation_begins says values text g.start g.first s a c g.built g.standing next g.names at.made made none_yet n o goes.leads begun operands labels regions;
        },
      )

  pub stepped_region : c.made ≡ a.made → (bs : Vec (Ptr BasicBlock) Global) → Begun a c (body.Region bs) → bs.items ≡ [] → HasStepped says values text s a s c act.BeginRegion
  stepped_region made bs begun empty g next at goes =
      let none_yet = unrooted g.standing.here act.BeginRegion g.standing.around next a.made.root goes.leads at.made.unrooted in (
        refl,
        record {
          holds = begins says values text s.ctx.types a c g.built g.standing next (a.taken - 1) at.holds act.BeginRegion (body.Region bs)
              (moving.region_begins g.standing.around next g.standing.here goes.leads) begun.here begun.around refl tt;
          made = region_begins says values text g.start g.first s a c g.built g.standing next g.names at.made made none_yet bs goes.leads begun empty;
        },
      )

  pub stepped_block : c.made ≡ a.made → Begun a c (body.Block (record { block = None })) → HasStepped says values text s a s c act.Label
  stepped_block made begun g next at goes =
      let none_yet = unrooted g.standing.here act.Label g.standing.around next a.made.root goes.leads at.made.unrooted in (
        refl,
        record {
          holds = begins says values text s.ctx.types a c g.built g.standing next (a.taken - 1) at.holds act.Label (body.Block (record { block = None }))
              (moving.block_begins g.standing.around next g.standing.here goes.leads) begun.here begun.around refl tt;
          made = block_begins says values text g.start g.first s a c g.built g.standing next g.names at.made made none_yet goes.leads begun goes.spelt;
        },
      )

  pub stepped_operands : c.made ≡ a.made → (ks : Vec ℕ Global) → Begun a c (body.Operands ks) → ks.items ≡ [] → HasStepped says values text s a s c act.BeginOperands
  stepped_operands made ks begun empty g next at goes =
      let none_yet = unrooted g.standing.here act.BeginOperands g.standing.around next a.made.root goes.leads at.made.unrooted in (
        refl,
        record {
          holds = begins says values text s.ctx.types a c g.built g.standing next (a.taken - 1) at.holds act.BeginOperands (body.Operands ks)
              (moving.operands_begin g.standing.around next g.standing.here goes.leads) begun.here begun.around refl empty;
          made = operands_begin says values text g.start g.first s a c g.built g.standing next g.names at.made made none_yet ks goes.leads begun empty;
        },
      )

  pub stepped_edge : c.made ≡ a.made → (ks : Vec ℕ Global) → Begun a c (body.Successor ks) → ks.items ≡ [] → HasStepped says values text s a s c act.BeginSuccessor
  stepped_edge made ks begun empty g next at goes =
      let none_yet = unrooted g.standing.here act.BeginSuccessor g.standing.around next a.made.root goes.leads at.made.unrooted in (
        refl,
        record {
          holds = begins says values text s.ctx.types a c g.built g.standing next (a.taken - 1) at.holds act.BeginSuccessor (body.Successor ks)
              (moving.edge_begins g.standing.around next g.standing.here goes.leads) begun.here begun.around refl empty;
          made = edge_begins says values text g.start g.first s a c g.built g.standing next g.names at.made made none_yet ks goes.leads begun empty;
        },
      )

  stepped_type : c.made ≡ a.made → (n : ℕ) → Begun a c (body.«Type» n) → HasStepped says values text s a s c (act.Begin sorts.«Type» n)
  stepped_type made n begun g next at goes =
      let none_yet = unrooted g.standing.here (act.Begin sorts.«Type» n) g.standing.around next a.made.root goes.leads at.made.unrooted in (
        refl,
        record {
          holds = begins says values text s.ctx.types a c g.built g.standing next (a.taken - 1) at.holds (act.Begin sorts.«Type» n) (body.«Type» n)
              (moving.type_begins g.standing.around next g.standing.here n goes.leads) begun.here begun.around refl tt;
          made = value_begins says values text g.start g.first s a c g.built g.standing next g.names at.made made none_yet (act.Begin sorts.«Type» n) (body.«Type» n) (in_value sorts.«Type»)
              (type_enters g.standing.around next g.standing.here n goes.leads) begun refl refl refl refl tt;
        },
      )

  stepped_attribute : c.made ≡ a.made → (n : ℕ) → Begun a c (body.Attribute n) → HasStepped says values text s a s c (act.Begin sorts.Attribute n)
  stepped_attribute made n begun g next at goes =
      let none_yet = unrooted g.standing.here (act.Begin sorts.Attribute n) g.standing.around next a.made.root goes.leads at.made.unrooted in (
        refl,
        record {
          holds = begins says values text s.ctx.types a c g.built g.standing next (a.taken - 1) at.holds (act.Begin sorts.Attribute n) (body.Attribute n)
              (moving.attribute_begins g.standing.around next g.standing.here n goes.leads) begun.here begun.around refl tt;
          made = value_begins says values text g.start g.first s a c g.built g.standing next g.names at.made made none_yet (act.Begin sorts.Attribute n) (body.Attribute n) (in_value sorts.Attribute)
              (attribute_enters g.standing.around next g.standing.here n goes.leads) begun refl refl refl refl tt;
        },
      )

  pub stepped_value : c.made ≡ a.made → (sort : ValueSort) (n : ℕ) → Begun a c (value_body sort n) → HasStepped says values text s a s c (act.Begin sort n)
  stepped_value made sorts.«Type» n begun = stepped_type made n begun
  stepped_value made sorts.Attribute n begun = stepped_attribute made n begun

  pub stepped_list : c.made ≡ a.made → (ms : Vec (Vec (Part D K A T) Global) Global) → Begun a c (body.List ms) → ms.items ≡ [] → HasStepped says values text s a s c act.BeginList
  stepped_list made ms begun empty g next at goes =
      let none_yet = unrooted g.standing.here act.BeginList g.standing.around next a.made.root goes.leads at.made.unrooted in (
        refl,
        record {
          holds = begins says values text s.ctx.types a c g.built g.standing next (a.taken - 1) at.holds act.BeginList (body.List ms)
              (moving.list_begins g.standing.around next g.standing.here goes.leads) begun.here begun.around refl empty;
          made = value_begins says values text g.start g.first s a c g.built g.standing next g.names at.made made none_yet act.BeginList (body.List ms) in_list
              (list_enters g.standing.around next g.standing.here goes.leads) begun refl refl refl refl tt;
        },
      )

  pub stepped_item : c.made ≡ a.made → Begun a c body.Item → HasStepped says values text s a s c act.BeginItem
  stepped_item made begun g next at goes =
      let none_yet = unrooted g.standing.here act.BeginItem g.standing.around next a.made.root goes.leads at.made.unrooted in (
        refl,
        record {
          holds = begins says values text s.ctx.types a c g.built g.standing next (a.taken - 1) at.holds act.BeginItem body.Item
              (moving.item_begins g.standing.around next g.standing.here goes.leads) begun.here begun.around refl tt;
          made = value_begins says values text g.start g.first s a c g.built g.standing next g.names at.made made none_yet act.BeginItem body.Item in_item
              (item_enters g.standing.around next g.standing.here goes.leads) begun refl refl refl refl tt;
        },
      )

  pub stepped_choice : c.made ≡ a.made → (n : ℕ) → Begun a c (body.Choice n) → HasStepped says values text s a s c (act.BeginChoice n)
  stepped_choice made n begun g next at goes =
      let none_yet = unrooted g.standing.here (act.BeginChoice n) g.standing.around next a.made.root goes.leads at.made.unrooted in (
        refl,
        record {
          holds = begins says values text s.ctx.types a c g.built g.standing next (a.taken - 1) at.holds (act.BeginChoice n) (body.Choice n)
              (moving.choice_begins g.standing.around next g.standing.here n goes.leads) begun.here begun.around refl tt;
          made = value_begins says values text g.start g.first s a c g.built g.standing next g.names at.made made none_yet (act.BeginChoice n) (body.Choice n) in_choice
              (choice_enters g.standing.around next g.standing.here n goes.leads) begun refl refl refl refl tt;
        },
      )

-- ---- what a header asks for

module _ {D K A T : Type 0} (says : Saying K A T) (values : Values) (text : ℕ → List ℕ) (s : Stage K A T) (a : Assembler D K A T) (g : Progress K A T) (next : Standing)
    (at : IsAt says values text s a g) (x : Action) (is : x ≡ act.Header) (goes : ActionIsInPlace text a x g next) where
  leads : moved_by (move g.standing.here act.Header) g.standing.around ≡ Some next
  leads = subst (λ (y : Action). moved_by (move g.standing.here y) g.standing.around ≡ Some next) is goes.leads

  the_open : (o : OpenBlock) × (a.here.body ≡ body.Block o)
  the_open = the_block says values text s.ctx.types a a g.built g.standing next (a.taken - 1) at.holds (header_goes g.standing.around next g.standing.here leads).1

  pub can_header : AreKnownIn (length s.ctx.types) (types_in a.here.content.value.parts.items) × (is_identifier (text a.here.first) ≡ true)
  can_header = (
    header_known says values text g.start g.first s a g.built g.standing g.names at.made (header_at g.standing.around next g.standing.here leads).0 the_open.0 the_open.1,
    header_spelt says values text g.start g.first s a g.built g.standing g.names at.made (header_at g.standing.around next g.standing.here leads).0 the_open.0 the_open.1,
  )

  pub header_is_full : 2 ^ 64 ≤ s.counter + length (types_in a.here.content.value.parts.items) → 2 ^ 64 ≤ g.first + length g.names.definitions
  header_is_full long =
      header_full says values text g.start g.first s a g.built g.standing g.names at.made (header_at g.standing.around next g.standing.here leads).0 the_open.0 the_open.1 long
