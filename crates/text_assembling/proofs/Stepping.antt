-- What an action makes of what is open.
use Rattle.std.proofs.Common.{◌≡◌, ℕ, List, [], ◌∷◌, ◌++◌, reverse, Some, None, Result, Ok, Err, OnOk, refl, sym, ap, subst, ◌∙◌, ◌⊎◌, inl, inr}
use Rattle.std.proofs.lemmas.List.{reverse-append}
use Rattle.std.proofs.lemmas.Result.{on_ok_weaker}
use Rattle.std.specs.Prelude.{Vec}
use Rattle.std.specs.Global.{Global}
use Rattle.ir_names.specs.Tree.{Trees, node, no_tree, a_tree}
use Rattle.ir_print.specs.declared.format.Part.{Part}
use Rattle.ir_print.specs.declared.format.Part.TheVariants as part
use Rattle.ir_print.specs.Pieces.{Values, ValueTree, leaf}
use Rattle.ir_print.specs.Shown.{Saying, ShowsPart, IsLeaf}
use Rattle.text_assembling.specs.declared.assembling.Assembler.{Assembler}
use Rattle.text_frames.specs.declared.opened.AssemblyFault.{AssemblyFault}
use Rattle.ir_tokens.specs.declared.faults.Fault.{Fault}
use Rattle.ir_grammar.specs.declared.grammar.Action.{Action}
use Rattle.ir_grammar.specs.declared.grammar.Action.TheVariants as act
use Rattle.text_frames.specs.declared.opened.Body.{Body}
use Rattle.text_frames.specs.declared.opened.Body.TheVariants as body
use Rattle.text_frames.specs.declared.opened.Open as opened
use Rattle.text_frames.specs.declared.opened.OpenBlock.{OpenBlock}
use Rattle.ir_forest.specs.Forest.{ActionSpan}
use Rattle.ir_forest.specs.Meaning.{with_piece, leaf_in, tokens_in}
use Rattle.ir_forest.specs.ValueFaults.{tokens_at}
use Rattle.ir_forest.specs.Building as building
use Rattle.ir_forest.specs.Building.{Built, after, behind, with_begin, with_leaf, with_end, with_name, names_behind, fault_after, fault_at_end}
use Rattle.ir_grammar.specs.Nesting.{Position, move}
use Rattle.text_frames.specs.building.Kept.{KeepsKeys}
use Rattle.text_frames.specs.Opened.{HasPut, HasOneMoreName, HasBody, IsFreshFrame}
use Rattle.ir_formats.specs.Ordered.{Standing, moved_by, moved_out}
use Rattle.text_frames.specs.Frames.{FrameSort, some_operands, an_edge, a_region, a_block, a_list, an_item, a_choice, sort_at, sort_of, EndsAt, Begins, IsEmpty, NamesResults, Contains, IsFrame, HasBegun, Stands, BeganSo}
use Rattle.text_assembling.specs.Assembling.{Holds, KeepsAround}
use Rattle.ir_forest.proofs.PiecesBehind.{tokens_behind}
use Rattle.text_frames.proofs.Framing.{stands_later, stands_at, stands_with, innermost, frame_put, fresh_frame}
use Rattle.text_frames.proofs.Ended.{Hollow, hollow_names, frame_hollow, began_same, began_other, is_block, is_operands, is_edge, no_fault}
use Rattle.ir_print.specs.declared.format.LeafValue.{LeafValue}
use Rattle.ir_print.specs.declared.format.LeafSort.{LeafSort}
use Rattle.ir_print.specs.declared.format.ValueSort.{ValueSort}
use Rattle.ir_print.specs.declared.format.ValueSort.TheVariants as sorts
use Rattle.text_frames.proofs.Moving.{GoesIn, GoesTo, Stays, operation_out, region_out, block_out, type_out, attribute_out, operands_out, edge_out, item_out, list_out, choice_out}

-- what an action at a token leads to: no fault, and what is open holds what is built
abbrev pub Goes : {D K A T : Type 0} → Saying K A T → Values → (ℕ → List ℕ) → List T → Assembler D K A T → Built → Action → ℕ → Standing → Type 0
Goes says values text types c b a k next = (fault_after values text b a k ≡ None) × Holds says values text types c (after b a k) next

-- the step of an action that stands alone
abbrev pub lone : Action → ℕ → ActionSpan
lone a k = record { action = a; first = k; last = k }

module _ {D K A T : Type 0} (says : Saying K A T) (values : Values) (text : ℕ → List ℕ) (types : List T) (a c : Assembler D K A T) (b : Built) (s next : Standing) (k : ℕ)
    (holds : Holds says values text types a b s) where
  frame : IsFrame says values text types a.here s.here b.here
  frame = innermost says values text types a.here s.here b.here (reverse a.around.items) b.around s.around holds

  -- something begins
  pub begins : (x : Action) (y : Body D K A T) → GoesIn (sort_of y) s.here s.around next → IsFreshFrame c.here y k → c.around.items ≡ a.around.items ++ a.here ∷ [] → Begins y x → IsEmpty y
      → Holds says values text types c (with_begin b x k) next
  begins x y goes fresh around starts empty =
      let o : building.Open = record { action = x; first = k; before = b.here } in
      let top : reverse c.around.items ≡ a.here ∷ reverse a.around.items = ap reverse around ∙ reverse-append a.around.items (a.here ∷ []) in
      let begun : HasBegun says values text types c.here o goes.outer = record {
        begins = subst (λ (z : Body D K A T). Begins z x) (sym fresh.body) starts;
        first = fresh.first;
        ends = subst (λ (z : Body D K A T). EndsAt (sort_of z) goes.outer) (sym fresh.body) goes.ends;
      } in
      let all : Stands says values text types c.here goes.inner no_tree (a.here ∷ reverse a.around.items) (o ∷ b.around) (goes.outer ∷ s.around) = (
        fresh_frame says values text types c.here y k goes.inner fresh empty goes.is_sort,
        begun,
        stands_at says values text types a.here s.here goes.outer b.here (reverse a.around.items) b.around s.around goes.stays holds,
      ) in
      subst (λ (n : Standing). Stands says values text types c.here n.here no_tree (reverse c.around.items) (o ∷ b.around) n.around) goes.leads
      (subst (λ (gs : List (opened.Open D K A T)). Stands says values text types c.here goes.inner no_tree gs (o ∷ b.around) (goes.outer ∷ s.around)) (sym top) all)

  -- what stands alone is one more tree
  alone : (t : List T) → KeepsKeys types t → (x : Action) (goes : GoesTo s.here s.around next) → KeepsAround a c → BeganSo a.here c.here
      → IsFrame says values text t c.here goes.to (behind b.here (node (lone x k) no_tree)) → Holds says values text t c (with_leaf b x k) next
  alone t keeps x goes kept so new =
      let more : Trees ActionSpan = behind b.here (node (lone x k) no_tree) in
      let all : Stands says values text t c.here goes.to more (reverse a.around.items) b.around s.around =
      stands_with says values text t a.here c.here s.here goes.to b.here more (reverse a.around.items) b.around s.around goes.stays so new
      (stands_later says values text types t keeps a.here s.here b.here (reverse a.around.items) b.around s.around holds) in
      subst (λ (n : Standing). Stands says values text t c.here n.here more (reverse c.around.items) b.around n.around) goes.leads
      (subst (λ (v : Vec (opened.Open D K A T) Global). Stands says values text t c.here goes.to more (reverse v.items) b.around s.around) (sym kept.around) all)

  put : (x : Action) (p : Part D K A T) (t : ValueTree) → Stays s.here s.around next → KeepsAround a c → HasPut a.here c.here a.here.body p (k ∷ []) → k ∷ [] ≡ tokens_at x k []
      → with_piece values x (text k) 0 no_tree no_tree ≡ a_tree t no_tree → ShowsPart says types p t → Holds says values text types c (with_leaf b x k) next
  put x p t goes kept new one piece shown =
      alone types (λ i key h. h) x (record { to = s.here; leads = goes.leads; stays = refl }) kept (began_same a.here c.here new.body new.first)
      (frame_put says values text types a.here c.here a.here.body s.here b.here (lone x k) no_tree p t (k ∷ []) goes.takes frame refl new one piece shown)

  pub went_leaf : (sort : LeafSort) (l : LeafValue) → Stays s.here s.around next → KeepsAround a c → IsLeaf l (leaf_in sort (text k)) → HasPut a.here c.here a.here.body (part.Leaf l) (k ∷ [])
      → Goes says values text types c b (act.Leaf sort) k next
  went_leaf sort l goes kept shown new = (refl, put (act.Leaf sort) (part.Leaf l) (node (leaf (leaf_in sort (text k))) no_tree) goes kept new refl refl (l, refl, shown))

  pub went_result : GoesTo s.here s.around next × Hollow (sort_at s.here) → KeepsAround a c → HasOneMoreName a.here c.here k → Goes says values text types c b act.Result k next
  went_result goes kept new =
      let named : a.here.names.items ≡ names_behind [] b.here = hollow_names (sort_at s.here) a.here.names.items b.here goes.1 frame.named in (
        refl,
        alone types (λ i key h. h) act.Result goes.0 kept (began_same a.here c.here new.body new.first)
            (frame_hollow says values text types c.here goes.0.to b.here (lone act.Result k) no_tree
            (ap sort_of new.body ∙ (frame.sort ∙ sym goes.0.stays)) (subst Hollow (sym goes.0.stays) goes.1)
            (new.names ∙ ap (λ (ns : List ℕ). ns ++ k ∷ []) named)),
      )

  in_block_of : (t : List T) → KeepsKeys types t → (x : Action) → with_name (names_behind [] b.here) x k ≡ [] → GoesTo s.here s.around next × (sort_at s.here ≡ a_block) → KeepsAround a c
      → (y : Body D K A T) → sort_of y ≡ sort_of a.here.body → BeganSo a.here c.here → HasBody a.here c.here y → Holds says values text t c (with_leaf b x k) next
  in_block_of t keeps x unnamed goes kept y sorts so new =
      alone t keeps x goes.0 kept so
      (frame_hollow says values text t c.here goes.0.to b.here (lone x k) no_tree
      (ap sort_of new.body ∙ (sorts ∙ (frame.sort ∙ sym goes.0.stays))) (subst Hollow (sym (goes.0.stays ∙ goes.1)) tt) (new.names ∙ sym unnamed))

  pub went_argument : GoesTo s.here s.around next × (sort_at s.here ≡ a_block) → KeepsAround a c → HasBody a.here c.here a.here.body → Goes says values text types c b act.Argument k next
  went_argument goes kept new =
      (refl, in_block_of types (λ i key h. h) act.Argument refl goes kept a.here.body refl (began_same a.here c.here new.body new.first) new)

  -- the block that is read, and its header
  pub the_block : sort_at s.here ≡ a_block → (o : OpenBlock) × (a.here.body ≡ body.Block o)
  the_block e = is_block a.here.body (frame.sort ∙ e)

  pub went_header : (t : List T) → KeepsKeys types t → GoesTo s.here s.around next × (sort_at s.here ≡ a_block) → KeepsAround a c → (o p : OpenBlock) → a.here.body ≡ body.Block o
      → HasBody a.here c.here (body.Block p) → Goes says values text t c b act.Header k next
  went_header t keeps goes kept o p is new = (
    refl,
    in_block_of t keeps act.Header refl goes kept (body.Block p) (sym (ap sort_of is))
        (began_other a.here c.here (body.Block o) (body.Block p) is new.body (λ x h. h) refl new.first) new,
  )

  pub the_operands : sort_at s.here ≡ some_operands → (ks : Vec ℕ Global) × (a.here.body ≡ body.Operands ks)
  the_operands e = is_operands a.here.body (frame.sort ∙ e)

  pub went_operand : GoesTo s.here s.around next × (sort_at s.here ≡ some_operands) → KeepsAround a c → (ks ls : Vec ℕ Global) → a.here.body ≡ body.Operands ks
      → c.here ≡ record a.here { body = body.Operands ls } → ls.items ≡ ks.items ++ k ∷ [] → Goes says values text types c b act.Operand k next
  went_operand goes kept ks ls is new items =
      let more : Trees ActionSpan = behind b.here (node (lone act.Operand k) no_tree) in
      let old : ks.items ≡ tokens_in b.here = subst (λ (x : Body D K A T). Contains says values text types x a.here.content.value b.here) is frame.contains in
      let sorts : some_operands ≡ sort_at goes.0.to = sym (goes.0.stays ∙ goes.1) in (
        refl,
        alone types (λ i key h. h) act.Operand goes.0 kept
            (began_other a.here c.here (body.Operands ks) (body.Operands ls) is (ap (λ (x : opened.Open D K A T). x.body) new) (λ x h. h) refl (ap (λ (x : opened.Open D K A T). x.first) new))
            (subst (λ (x : opened.Open D K A T). IsFrame says values text types x goes.0.to more) (sym new) (record {
              sort = sorts;
              contains = items ∙ (ap (λ (xs : List ℕ). xs ++ k ∷ []) old ∙ sym (tokens_behind b.here (lone act.Operand k) no_tree));
              named = subst (λ (x : FrameSort). NamesResults x a.here.names.items more) sorts tt;
            })),
      )

  -- the same of an operand that an edge hands on
  pub the_edge : sort_at s.here ≡ an_edge → (ks : Vec ℕ Global) × (a.here.body ≡ body.Successor ks)
  the_edge e = is_edge a.here.body (frame.sort ∙ e)

  pub went_handed_on : GoesTo s.here s.around next × (sort_at s.here ≡ an_edge) → KeepsAround a c → (ks ls : Vec ℕ Global) → a.here.body ≡ body.Successor ks
      → c.here ≡ record a.here { body = body.Successor ls } → ls.items ≡ ks.items ++ k ∷ [] → Goes says values text types c b act.Operand k next
  went_handed_on goes kept ks ls is new items =
      let more : Trees ActionSpan = behind b.here (node (lone act.Operand k) no_tree) in
      let old : ks.items ≡ tokens_in b.here = subst (λ (x : Body D K A T). Contains says values text types x a.here.content.value b.here) is frame.contains in
      let sorts : an_edge ≡ sort_at goes.0.to = sym (goes.0.stays ∙ goes.1) in (
        refl,
        alone types (λ i key h. h) act.Operand goes.0 kept
            (began_other a.here c.here (body.Successor ks) (body.Successor ls) is (ap (λ (x : opened.Open D K A T). x.body) new) (λ x h. h) refl (ap (λ (x : opened.Open D K A T). x.first) new))
            (subst (λ (x : opened.Open D K A T). IsFrame says values text types x goes.0.to more) (sym new) (record {
              sort = sorts;
              contains = items ∙ (ap (λ (xs : List ℕ). xs ++ k ∷ []) old ∙ sym (tokens_behind b.here (lone act.Operand k) no_tree));
              named = subst (λ (x : FrameSort). NamesResults x a.here.names.items more) sorts tt;
            })),
      )

-- ---- ends that refuse nothing

-- only types, attributes and operations are refused
abbrev pub Silent : FrameSort → Type 0
Silent a_block = Unit {0}
Silent a_region = Unit {0}
Silent some_operands = Unit {0}
Silent an_edge = Unit {0}
Silent a_list = Unit {0}
Silent an_item = Unit {0}
Silent a_choice = Unit {0}
Silent _ = ⊥

module _ {D K A T : Type 0} (values : Values) (text : ℕ → List ℕ) (o : building.Open) (ts : Trees ActionSpan) (k : ℕ) where
  silent_end : (y : Body D K A T) → Silent (sort_of y) → Begins y o.action → fault_at_end values text ts (o ∷ []) k ≡ None
  silent_end body.Text h e = absurd h
  silent_end (body.«Type» n) h e = absurd h
  silent_end (body.Attribute n) h e = absurd h
  silent_end (body.List ms) h e = no_fault values text o ts k act.BeginList e refl refl
  silent_end body.Item h e = no_fault values text o ts k act.BeginItem e refl refl
  silent_end (body.Choice n) h e = no_fault values text o ts k (act.BeginChoice n) e refl refl
  silent_end (body.Operation p) h e = absurd h
  silent_end (body.Operands ks) h e = no_fault values text o ts k act.BeginOperands e refl refl
  silent_end (body.Successor ks) h e = no_fault values text o ts k act.BeginSuccessor e refl refl
  silent_end (body.Region bs) h e = no_fault values text o ts k act.BeginRegion e refl refl
  silent_end (body.Block p) h e = no_fault values text o ts k act.Label e refl refl

module _ {D K A T : Type 0} (says : Saying K A T) (values : Values) (text : ℕ → List ℕ) (types : List T) where
  -- what ends with a fault is none of these
  pub silent : (f : opened.Open D K A T) (at : Position) (ts : Trees ActionSpan) (gs : List (opened.Open D K A T)) (os : List building.Open) (qs : List Position) (k : ℕ)
      → Stands says values text types f at ts gs os qs → Silent (sort_at at) → fault_at_end values text ts os k ≡ None
  silent f at ts [] [] [] k h quiet = refl
  silent f at ts [] [] (q ∷ qs) k h quiet = absurd h
  silent f at ts [] (o ∷ os) qs k h quiet = absurd h
  silent f at ts (g ∷ gs) [] qs k h quiet = absurd h
  silent f at ts (g ∷ gs) (o ∷ os) [] k h quiet = absurd h
  silent f at ts (g ∷ gs) (o ∷ os) (q ∷ qs) k h quiet =
      silent_end values text o ts k f.body (subst Silent (sym h.0.sort) quiet) h.1.begins

-- ---- by the action

-- an action that is known
pub at_action : (s next : Standing) (x y : Action) → x ≡ y → moved_by (move s.here x) s.around ≡ Some next → moved_by (move s.here y) s.around ≡ Some next
at_action s next x y e m = subst (λ (z : Action). moved_by (move s.here z) s.around ≡ Some next) e m

module _ {D K A T : Type 0} (says : Saying K A T) (values : Values) (text : ℕ → List ℕ) (types : List T) (c : Assembler D K A T) (b : Built) (k : ℕ) (next : Standing) where
  pub went : (r : Result (Unit {0}) AssemblyFault) (x y : Action) → x ≡ y → OnOk r (Goes says values text types c b y k next) → OnOk r (Goes says values text types c b x k next)
  went r x y e h = subst (λ (z : Action). OnOk r (Goes says values text types c b z k next)) (sym e) h

-- what holds whatever comes, holds of what is well
pub any_ok : {P : Type 0} (r : Result (Unit {0}) AssemblyFault) → P → OnOk r P
any_ok (Ok x) h = h
any_ok (Err e) h = tt

-- ---- what ends

-- the action ends something
abbrev pub IsAnEnd : Action → Type 0
IsAnEnd x = (x ≡ act.EndOperation) ⊎ ((x ≡ act.EndRegion) ⊎ ((x ≡ act.EndBlock) ⊎ (((sort : ValueSort) × (x ≡ act.End sort)) ⊎ ((x ≡ act.EndOperands) ⊎ ((x ≡ act.EndItem) ⊎ ((x ≡ act.EndList) ⊎ ((x ≡ act.EndSuccessor) ⊎ (x ≡ act.EndChoice))))))))

module _ {D K A T : Type 0} (says : Saying K A T) (values : Values) (text : ℕ → List ℕ) (types : List T) (c : Assembler D K A T) (b : Built) (s next : Standing) (k : ℕ) (r : Result (Unit {0}) AssemblyFault) where
  pub ends_went : (x : Action) → IsAnEnd x → moved_by (move s.here x) s.around ≡ Some next
      → (moved_out s.around ≡ Some next → OnOk r ((fault_at_end values text b.here b.around k ≡ None) × Holds says values text types c (with_end b.here b.around k) next))
      → OnOk r (Goes says values text types c b x k next)
  ends_went x (inl e) m h = went says values text types c b k next r x act.EndOperation e (h (operation_out s.around next s.here (at_action s next x act.EndOperation e m)).0)
  ends_went x (inr (inl e)) m h = went says values text types c b k next r x act.EndRegion e (on_ok_weaker r (λ (w : (fault_at_end values text b.here b.around k ≡ None) × Holds says values text types c (with_end b.here b.around k) next). (refl, w.1)) (h (region_out s.around next s.here (at_action s next x act.EndRegion e m)).0))
  ends_went x (inr (inr (inl e))) m h = went says values text types c b k next r x act.EndBlock e (on_ok_weaker r (λ (w : (fault_at_end values text b.here b.around k ≡ None) × Holds says values text types c (with_end b.here b.around k) next). (refl, w.1)) (h (block_out s.around next s.here (at_action s next x act.EndBlock e m)).0))
  ends_went x (inr (inr (inr (inl (sorts.«Type», e))))) m h = went says values text types c b k next r x (act.End sorts.«Type») e (h (type_out s.around next s.here (at_action s next x (act.End sorts.«Type») e m)).0)
  ends_went x (inr (inr (inr (inl (sorts.Attribute, e))))) m h = went says values text types c b k next r x (act.End sorts.Attribute) e (h (attribute_out s.around next s.here (at_action s next x (act.End sorts.Attribute) e m)).0)
  ends_went x (inr (inr (inr (inr (inl e))))) m h = went says values text types c b k next r x act.EndOperands e (on_ok_weaker r (λ (w : (fault_at_end values text b.here b.around k ≡ None) × Holds says values text types c (with_end b.here b.around k) next). (refl, w.1)) (h (operands_out s.around next s.here (at_action s next x act.EndOperands e m)).0))
  ends_went x (inr (inr (inr (inr (inr (inl e)))))) m h = went says values text types c b k next r x act.EndItem e (on_ok_weaker r (λ (w : (fault_at_end values text b.here b.around k ≡ None) × Holds says values text types c (with_end b.here b.around k) next). (refl, w.1)) (h (item_out s.around next s.here (at_action s next x act.EndItem e m)).0))
  ends_went x (inr (inr (inr (inr (inr (inr (inl e))))))) m h = went says values text types c b k next r x act.EndList e (on_ok_weaker r (λ (w : (fault_at_end values text b.here b.around k ≡ None) × Holds says values text types c (with_end b.here b.around k) next). (refl, w.1)) (h (list_out s.around next s.here (at_action s next x act.EndList e m)).0))
  ends_went x (inr (inr (inr (inr (inr (inr (inr (inl e)))))))) m h = went says values text types c b k next r x act.EndSuccessor e (on_ok_weaker r (λ (w : (fault_at_end values text b.here b.around k ≡ None) × Holds says values text types c (with_end b.here b.around k) next). (refl, w.1)) (h (edge_out s.around next s.here (at_action s next x act.EndSuccessor e m)).0))
  ends_went x (inr (inr (inr (inr (inr (inr (inr (inr e)))))))) m h = went says values text types c b k next r x act.EndChoice e (on_ok_weaker r (λ (w : (fault_at_end values text b.here b.around k ≡ None) × Holds says values text types c (with_end b.here b.around k) next). (refl, w.1)) (h (choice_out s.around next s.here (at_action s next x act.EndChoice e m)).0))

module _ {D K A T : Type 0} (says : Saying K A T) (values : Values) (text : ℕ → List ℕ) (types : List T) (a : Assembler D K A T) (b : Built) (s next : Standing) (k : ℕ)
    (holds : Holds says values text types a b s) (f : Fault) where
  none_is_refused : Silent (sort_at s.here) → fault_at_end values text b.here b.around k ≡ Some f → None ≡ Some f
  none_is_refused quiet h = sym (silent says values text types a.here s.here b.here (reverse a.around.items) b.around s.around k holds quiet) ∙ h

  faulty : (x y : Action) → x ≡ y → fault_after values text b y k ≡ Some f → fault_after values text b x k ≡ Some f
  faulty x y e h = subst (λ (z : Action). fault_after values text b z k ≡ Some f) (sym e) h

  pub end_refused : (x : Action) → IsAnEnd x → moved_by (move s.here x) s.around ≡ Some next → (moved_out s.around ≡ Some next → fault_at_end values text b.here b.around k ≡ Some f)
      → fault_after values text b x k ≡ Some f
  end_refused x (inl e) m h = faulty x act.EndOperation e (h (operation_out s.around next s.here (at_action s next x act.EndOperation e m)).0)
  end_refused x (inr (inl e)) m h = faulty x act.EndRegion e (let out = region_out s.around next s.here (at_action s next x act.EndRegion e m) in none_is_refused (subst Silent (sym out.1) tt) (h out.0))
  end_refused x (inr (inr (inl e))) m h = faulty x act.EndBlock e (let out = block_out s.around next s.here (at_action s next x act.EndBlock e m) in none_is_refused (subst Silent (sym out.1) tt) (h out.0))
  end_refused x (inr (inr (inr (inl (sorts.«Type», e))))) m h = faulty x (act.End sorts.«Type») e (h (type_out s.around next s.here (at_action s next x (act.End sorts.«Type») e m)).0)
  end_refused x (inr (inr (inr (inl (sorts.Attribute, e))))) m h = faulty x (act.End sorts.Attribute) e (h (attribute_out s.around next s.here (at_action s next x (act.End sorts.Attribute) e m)).0)
  end_refused x (inr (inr (inr (inr (inl e))))) m h = faulty x act.EndOperands e (let out = operands_out s.around next s.here (at_action s next x act.EndOperands e m) in none_is_refused (subst Silent (sym out.1) tt) (h out.0))
  end_refused x (inr (inr (inr (inr (inr (inl e)))))) m h = faulty x act.EndItem e (let out = item_out s.around next s.here (at_action s next x act.EndItem e m) in none_is_refused (subst Silent (sym out.1) tt) (h out.0))
  end_refused x (inr (inr (inr (inr (inr (inr (inl e))))))) m h = faulty x act.EndList e (let out = list_out s.around next s.here (at_action s next x act.EndList e m) in none_is_refused (subst Silent (sym out.1) tt) (h out.0))
  end_refused x (inr (inr (inr (inr (inr (inr (inr (inl e)))))))) m h = faulty x act.EndSuccessor e (let out = edge_out s.around next s.here (at_action s next x act.EndSuccessor e m) in none_is_refused (subst Silent (sym out.1) tt) (h out.0))
  end_refused x (inr (inr (inr (inr (inr (inr (inr (inr e)))))))) m h = faulty x act.EndChoice e (let out = choice_out s.around next s.here (at_action s next x act.EndChoice e m) in none_is_refused (subst Silent (sym out.1) tt) (h out.0))
