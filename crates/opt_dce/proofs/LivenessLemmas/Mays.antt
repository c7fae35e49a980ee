-- What may go, what is kept and what is forwarded, by numbers and in a tree.
use Rattle.std.proofs.Common.{◌≡◌, inl, inr, ⊎_elim, ℕ, zero, suc, true, List, [], ◌∷◌, Some, map, length, slice_get, option_map, unwrap_or, refl, sym, ap, subst, ◌∙◌}
use Rattle.std.proofs.lemmas.Option.{same_Some}
use Rattle.ir_program.specs.Program.{Program, OperationView, TypedValue, IsLiveValue, operation_at, arguments_at, value_in}
use Rattle.ir_program.specs.Lists.{StandsInside, regions_in, blocks_in}
use Rattle.ir_program.specs.Rows.{operands_at}
use Rattle.ir_program.specs.declared.handles.IRNode.TheVariants.{Operation as OperationNode, BasicBlock as BlockNode}
use Rattle.ir_program.specs.declared.handles.DefiningEntity.TheVariants.{Block as ByBlock}
use Rattle.ir_program.specs.declared.handles.Ptr.{Ptr}
use Rattle.ir_program.specs.declared.handles.Operation.{Operation}
use Rattle.ir_program.specs.declared.handles.BasicBlock.{BasicBlock}
use Rattle.ir_program.specs.declared.handles.Region.{Region}
use Rattle.ir_program.specs.declared.handles.Value.{Value}
use Rattle.ir_trees.specs.Renames.{names_of}
use Rattle.ir_trees.specs.Searched.{Lists}
use Rattle.ir_trees.specs.Trees.{Head, Label}
use Rattle.ir_trees.specs.Stands.{by_handle, in_program, defined_by, ProgramTree, head_of}
use Rattle.ir_trees.proofs.Members.{at_has, has_at}
use Rattle.opt_trees.specs.Dialect.{Dialect}
use Rattle.opt_trees.specs.Occurrences.{Has, Spot, occurrences_of}
use Rattle.opt_trees.specs.Dce.{TreeSurroundings, Item, Whole, Slot, Touches, May, IsKept, ForwardsTo}
use Rattle.opt_rows.specs.DeadCandidates.{Candidate}
use Rattle.opt_rows.specs.declared.dead_problem.Argument.{Argument}
use Rattle.opt_rows.specs.declared.dead_problem.DeadProblem.{DeadProblem}
use Rattle.opt_rows.specs.Dead.{NumberedItem as Number, Whole as WholeAt, Slot as SlotAt, ItemMayGo as MayAt, IsKeptItem as IsKeptAt}
use Rattle.opt_inside.specs.Numbered.{Numbers}
use Rattle.opt_inside.specs.Occurring.{Found, IsBelowRoot, IsSpotOf}
use Rattle.opt_inside.proofs.Around.{inside_both, is_root}
use Rattle.opt_dce.specs.liveness.Plans.{SaysPins}
use Rattle.opt_dialect.specs.Removable.{IsRemovable}
use Rattle.opt_dialect.proofs.Removing.{same_truth}
use Rattle.opt_dce.specs.liveness.Problems.{HasBranchesOnly, IsKeptValue, Forwards}
use Rattle.opt_dce.proofs.LivenessLemmas.Ground.{Ground, Occurs, has_value_in, value_in_has, arguments_here, operands_here, successors_here, same_view}
use Rattle.opt_dce.proofs.LivenessLemmas.Within.{row_of, value_row_of}
use Rattle.opt_dce.proofs.LivenessLemmas.Made.{at_definer, SameItem, occurrence_of, touches_to, touches_from}

names_at : (ts : List TypedValue) (k : ℕ) → slice_get (names_of (map defined_by ts)) k ≡ value_in ts k
names_at [] k = refl
names_at (t ∷ ts) zero = refl
names_at (t ∷ ts) (suc k) = names_at ts k

module _ {O B A : Type 0} {d : Dialect (in_program O B) A} {c : Program O B} {op : Ptr Operation} {n : Numbers} {problem : DeadProblem} (g : Ground d c op n problem) where
  regions_here : (p : Ptr Operation) (w : OperationView O) → operation_at c p ≡ Some w → regions_in c p ≡ w.regions
  regions_here p w h = ap (λ o. unwrap_or (option_map (λ (z : OperationView O). z.regions) o) []) h

  -- the spot of a block says what the dialect lets go there
  removable_at : (b : Ptr BasicBlock) (s : Spot by_handle (in_program O B)) → IsSpotOf c op b s → IsRemovable d c b → d.can_remove s.owner.content s.region s.first ≡ true
  removable_at b s spot r =
      let same : r.region ≡ spot.region = (g.lists.blocks_once b r.region spot.region r.in_region.index spot.in_region.index r.in_region.here spot.in_region.here).0 in
      let one = g.lists.regions_once spot.region r.owner s.owner.name r.index s.region
      (ap (λ (l : List (Ptr Region)). slice_get l r.index) (regions_here r.owner r.view r.there) ∙ (r.here ∙ ap Some same))
      (ap (λ (l : List (Ptr Region)). slice_get l s.region) (regions_here s.owner.name spot.owner_view spot.owner_there) ∙ spot.index) in
      let view : r.view ≡ spot.owner_view = same_view c r.owner s.owner.name r.view spot.owner_view one.0 r.there spot.owner_there in
      let first : r.first ≡ s.first = same_truth r.first s.first
      (λ e. spot.first.1 (subst (λ z. slice_get (blocks_in c z) 0 ≡ Some b) same (r.entry.0 e)))
      (λ e. r.entry.1 (subst (λ z. slice_get (blocks_in c z) 0 ≡ Some b) (sym same) (spot.first.0 e))) in
      let content : s.owner.content ≡ r.view.payload = ap (λ (h : Head by_handle (in_program O B)). h.content) spot.owner ∙ ap (λ (z : OperationView O). z.payload) (sym view) in
      let all : d.can_remove s.owner.content s.region s.first ≡ d.can_remove r.view.payload r.index r.first = (λ k. d.can_remove (content k) (sym one.1 k) (sym first k)) in
      all ∙ r.removable

  removable_of : (b : Ptr BasicBlock) (s : Spot by_handle (in_program O B)) → IsSpotOf c op b s → d.can_remove s.owner.content s.region s.first ≡ true → IsRemovable d c b
  removable_of b s spot e =
      let content : spot.owner_view.payload ≡ s.owner.content = sym (ap (λ (h : Head by_handle (in_program O B)). h.content) spot.owner) in
      record { region = spot.region; in_region = spot.in_region; owner = s.owner.name; view = spot.owner_view; there = spot.owner_there; index = s.region; here = spot.index; first = s.first; entry = spot.first; removable = ap (λ z. d.can_remove z s.region s.first) content ∙ e }

  module _ (t : ProgramTree O B) (f : Occurs c op t) where
    pub may_to : (x : Number) (y : Item by_handle) → SameItem g t f x y → May d t y → MayAt problem x
    may_to (WholeAt a) (Whole p) s m =
        let r = row_of g a p s in
        let o = f.sound m.it m.stands in
        let view : o.view ≡ r.2.view = same_view c m.it.head.name p o.view r.2.view m.name o.there r.2.there in
        let content : r.2.view.payload ≡ m.it.head.content = sym (ap (λ (h : Head by_handle (in_program O B)). h.content) o.head ∙ ap (λ (z : OperationView O). z.payload) view) in
        (r.0, r.1, r.2.may_go.1 (ap d.has_effects content ∙ m.pure, ap d.is_terminator content ∙ m.no_terminator))
    may_to (SlotAt k) (Slot v) s m =
        let o = f.blocks_sound m.it m.stands in
        let w = has_value_in o.view.arguments v (subst (λ (z : Label by_handle (in_program O B)). Has v (names_of z.arguments)) o.label m.argument) in
        let by : v.definer ≡ ByBlock m.it.label.name = g.definer (ByBlock m.it.label.name) w.0 v (ap (λ ts. value_in ts w.0) (arguments_here c m.it.label.name o.view o.there) ∙ w.1) in
        let r = value_row_of g k v s.0 in
        let branches : HasBranchesOnly d c m.it.label.name = (λ p view there l.
        let below = g.edges.entering p m.it.label.name (l.0, ap (λ bs. slice_get bs l.0) (successors_here c p view there) ∙ l.1) o.below in
        let u = f.found p below in
        let q = f.sound u.0 u.1 in
        let same : q.view ≡ view = same_view c u.0.head.name p q.view view u.2 q.there there in
        let head : u.0.head.successors ≡ view.successors = ap (λ (h : Head by_handle (in_program O B)). h.successors) q.head ∙ ap (λ (z : OperationView O). z.successors) same in
        let content : view.payload ≡ u.0.head.content = sym (ap (λ (h : Head by_handle (in_program O B)). h.content) q.head ∙ ap (λ (z : OperationView O). z.payload) same) in
        ap d.is_branch content ∙ m.predecessors u.0 u.1 (subst (Has m.it.label.name) (sym head) (at_has view.successors l.0 m.it.label.name l.1))) in
        (r.0, r.1, ((r.2.argument m.it.label.name by).may_go).1 (removable_of m.it.label.name m.it.spot o.spot m.removable, branches))
    may_to (WholeAt a) (Slot v) s m = absurd s
    may_to (SlotAt k) (Whole p) s m = absurd s

    pub may_from : (x : Number) (y : Item by_handle) → SameItem g t f x y → MayAt problem x → May d t y
    may_from (WholeAt a) (Whole p) s m =
        let r = row_of g a p s in
        let o = occurrence_of g t f a p s in
        let q = f.sound o.0 o.1 in
        let view : q.view ≡ r.2.view = same_view c o.0.head.name p q.view r.2.view o.2 q.there r.2.there in
        let content : o.0.head.content ≡ r.2.view.payload = ap (λ (h : Head by_handle (in_program O B)). h.content) q.head ∙ ap (λ (z : OperationView O). z.payload) view in
        let row : r.0 ≡ m.0 = same_Some r.0 m.0 (sym r.1 ∙ m.1) in
        let goes = r.2.may_go.0 (ap (λ (z : Candidate). z.may_go) row ∙ m.2) in
        record { it = o.0; stands = o.1; name = o.2; pure = ap d.has_effects content ∙ goes.0; no_terminator = ap d.is_terminator content ∙ goes.1 }
    may_from (SlotAt k) (Slot v) s m =
        let b = s.1.0 in
        let r = value_row_of g k v s.0 in
        let row : r.0 ≡ m.0 = same_Some r.0 m.0 (sym r.1 ∙ m.1) in
        let goes = ((r.2.argument s.1.0 s.1.1).may_go).0 (ap (λ (z : Argument). z.may_go) row ∙ m.2) in
        let x = f.blocks_found s.1.0 ((g.numbers.blocks s.1.0).0 (g.there.definers v s.1.0 (k, s.0) s.1.1)) in
        let o = f.blocks_sound x.0 x.1 in
        let w = at_definer g v (g.there.values v (k, s.0)) (ByBlock x.0.label.name) (s.1.1 ∙ ap ByBlock (sym x.2)) in
        record {
          it = x.0;
          stands = x.1;
          argument = subst (λ (z : Label by_handle (in_program O B)). Has v (names_of z.arguments)) (sym o.label) (value_in_has o.view.arguments w.0 v (ap (λ ts. value_in ts w.0) (sym (arguments_here c x.0.label.name o.view o.there)) ∙ w.1));
          removable = removable_at x.0.label.name x.0.spot o.spot (subst (IsRemovable d c) (sym x.2) goes.0);
          predecessors = λ u has h.
              let q = f.sound u has in
              let w = has_at q.view.successors x.0.label.name (subst (λ (z : Head by_handle (in_program O B)). Has x.0.label.name z.successors) q.head h) in
              ap d.is_branch (ap (λ (h : Head by_handle (in_program O B)). h.content) q.head) ∙ goes.1 u.head.name q.view q.there (w.0, w.1 ∙ ap Some x.2);
        }
    may_from (WholeAt a) (Slot v) s m = absurd s
    may_from (SlotAt k) (Whole p) s m = absurd s

    -- what an item makes is inside the root
    touched_listed : (x : Number) (y : Item by_handle) → SameItem g t f x y → (v : Value) → Touches t y v → Lists n.values v
    touched_listed (WholeAt a) (Whole p) s v m =
        let o = f.sound m.it m.stands in
        (g.numbers.values v).1 (⊎_elim
        (λ r. inl (m.it.head.name, o.view, o.below, o.there, subst (λ (z : Head by_handle (in_program O B)). Has v (names_of z.results)) o.head r))
        (λ r. ⊎_elim
        (λ w. inl (w.0, w.1, record { inside = inside_both c (OperationNode op) (OperationNode m.it.head.name) (OperationNode w.0) o.below.inside w.2.inside; other = λ e. not_up m.it.head.name w.0 o.below w.2 e }, w.3, w.4))
        (λ w. inr (w.0, w.1, inside_both c (OperationNode op) (OperationNode m.it.head.name) (BlockNode w.0) o.below.inside w.2, w.3, w.4))
        ((f.inside m.it m.stands v).0 r))
        m.value)
      where
        not_up : (a q : Ptr Operation) → IsBelowRoot c op a → IsBelowRoot c a q → q ≡ op → ⊥
        not_up a q below inner e =
            let up : StandsInside c (OperationNode a) (OperationNode op) = subst (λ z. StandsInside c (OperationNode a) (OperationNode z)) e inner.inside in
            let same : OperationNode a ≡ OperationNode op = is_root c g.lists op (OperationNode a) below.inside up in
            let equal : a ≡ op = cc in
            below.other equal
    touched_listed (SlotAt k) (Slot z) s v m = (k, s.0 ∙ ap Some m)
    touched_listed (WholeAt a) (Slot z) s v m = absurd s
    touched_listed (SlotAt k) (Whole p) s v m = absurd s

    root_operand : (v : Value) → Has v t.head.operands → Lists (operands_at c op) v
    root_operand v h =
        let k = has_at f.root.view.operands v (subst (λ (z : Head by_handle (in_program O B)). Has v z.operands) f.root.head h) in
        (k.0, ap (λ l. slice_get l k.0) (operands_here c op f.root.view f.root.there) ∙ k.1)

    operand_root : (v : Value) → Lists (operands_at c op) v → Has v t.head.operands
    operand_root v l = subst (λ (z : Head by_handle (in_program O B)). Has v z.operands) (sym f.root.head) (at_has f.root.view.operands l.0 v (ap (λ z. slice_get z l.0) (sym (operands_here c op f.root.view f.root.there)) ∙ l.1))

    module _ (w : TreeSurroundings by_handle A) (pins : SaysPins c op w) where
      pub kept_to : (x : Number) (y : Item by_handle) → SameItem g t f x y → IsKept w t y → IsKeptAt problem x
      kept_to x y s k =
          let v = k.0 in
          let kept : IsKeptValue c n op k.0 = ⊎_elim (λ p. inr (touched_listed x y s k.0 k.1, (pins.pinned k.0).0 p)) (λ h. inl (root_operand k.0 h)) k.2 in
          let e = g.rows.kept.all k.0 kept in
          (e.0, e.1, touches_to g t f x y s k.0 e.0 e.2 k.1)

      pub kept_from : (x : Number) (y : Item by_handle) → SameItem g t f x y → IsKeptAt problem x → IsKept w t y
      kept_from x y s k =
          let v = g.rows.kept.sound k.0 k.1 in
          let live : IsLiveValue c v.0 = ⊎_elim (λ l. g.live op l.0 v.0 l.1) (λ p. g.there.values v.0 p.0) v.1 in
          (v.0, touches_from g t f x y s v.0 k.0 live v.2 k.2, ⊎_elim (λ l. inr (operand_root v.0 l)) (λ p. inl ((pins.pinned v.0).1 p.1)) v.1)

    -- an argument that is forwarded to, and its number
    pub forwards_to : (o : Found O B) → Has o (occurrences_of t) → (i : ℕ) (v : Value) → ForwardsTo d t o i v → (q : ℕ) × (slice_get n.values q ≡ Some v) × ((b : Ptr BasicBlock) × (v.definer ≡ ByBlock b)) × Forwards d c n o.head.name i q
    forwards_to o has i v w =
        let s = f.sound o has in
        let x = f.blocks_sound w.target w.stands in
        let takes : value_in x.view.arguments w.place ≡ Some v = sym (names_at x.view.arguments w.place) ∙ (ap (λ (l : Label by_handle (in_program O B)). slice_get (names_of l.arguments) w.place) (sym x.label) ∙ w.takes) in
        let here : value_in (arguments_at c w.target.label.name) w.place ≡ Some v = ap (λ ts. value_in ts w.place) (arguments_here c w.target.label.name x.view x.there) ∙ takes in
        let number = (g.numbers.values v).1 (inr (w.target.label.name, x.view, x.below, x.there, value_in_has x.view.arguments w.place v takes)) in
        let content = ap (λ (h : Head by_handle (in_program O B)). h.content) s.head in (
          number.0,
          number.1,
          (w.target.label.name, g.definer (ByBlock w.target.label.name) w.place v here),
          record {
            view = s.view;
            there = s.there;
            branch = ap d.is_branch (sym content) ∙ w.branch;
            edge = w.edge;
            target = w.target.label.name;
            leads = ap (λ (h : Head by_handle (in_program O B)). slice_get h.successors w.edge) (sym s.head) ∙ w.leads;
            place = w.place;
            gives = ap (λ (h : Head by_handle (in_program O B)). slice_get (d.forwards h.content (length h.operands) w.edge) w.place) (sym s.head) ∙ w.gives;
            takes = record { argument = v; takes = here; number = number.1 };
          },
        )

    pub forwards_from : (o : Found O B) → Has o (occurrences_of t) → (i q : ℕ) → Forwards d c n o.head.name i q → (v : Value) × (slice_get n.values q ≡ Some v) × ((b : Ptr BasicBlock) × (v.definer ≡ ByBlock b)) × ForwardsTo d t o i v
    forwards_from o has i q w =
        let s = f.sound o has in
        let view : w.view ≡ s.view = same_Some w.view s.view (sym w.there ∙ s.there) in
        let head : head_of {B = B} o.head.name w.view ≡ o.head = ap (head_of {B = B} o.head.name) view ∙ sym s.head in
        let v = w.takes.argument in
        let by : w.takes.argument.definer ≡ ByBlock w.target = g.definer (ByBlock w.target) w.place w.takes.argument w.takes.takes in
        let x = f.blocks_found w.target ((g.numbers.blocks w.target).0 (g.there.definers w.takes.argument w.target (q, w.takes.number) by)) in
        let y = f.blocks_sound x.0 x.1 in (
          w.takes.argument,
          w.takes.number,
          (w.target, by),
          record {
            branch = ap (λ (h : Head by_handle (in_program O B)). d.is_branch h.content) (sym head) ∙ w.branch;
            edge = w.edge;
            target = x.0;
            stands = x.1;
            leads = ap (λ (h : Head by_handle (in_program O B)). slice_get h.successors w.edge) (sym head) ∙ (w.leads ∙ ap Some (sym x.2));
            place = w.place;
            gives = ap (λ (h : Head by_handle (in_program O B)). slice_get (d.forwards h.content (length h.operands) w.edge) w.place) (sym head) ∙ w.gives;
            takes = ap (λ (l : Label by_handle (in_program O B)). slice_get (names_of l.arguments) w.place) y.label ∙ (names_at y.view.arguments w.place ∙ (ap (λ ts. value_in ts w.place) (sym (arguments_here c x.0.label.name y.view y.there)) ∙ (ap (λ b. value_in (arguments_at c b) w.place) x.2 ∙ w.takes.takes)));
          },
        )

    -- an operand is forwarded to one argument
    pub forwards_one : (p : Ptr Operation) (i q r : ℕ) → Forwards d c n p i q → Forwards d c n p i r → q ≡ r
    forwards_one p i q r u w =
        let view : u.view ≡ w.view = same_Some u.view w.view (sym u.there ∙ w.there) in
        let one = g.lawful.forwards_once w.view.payload (length w.view.operands) u.edge u.place w.edge w.place i
        (ap (λ (z : OperationView O). slice_get (d.forwards z.payload (length z.operands) u.edge) u.place) (sym view) ∙ u.gives) w.gives in
        let target : u.target ≡ w.target = same_Some u.target w.target (sym u.leads ∙ ((λ k. slice_get ((view k).successors) (one.0 k)) ∙ w.leads)) in
        let argument : u.takes.argument ≡ w.takes.argument = same_Some u.takes.argument w.takes.argument (sym u.takes.takes ∙ ((λ k. value_in (arguments_at c (target k)) (one.1 k)) ∙ w.takes.takes)) in
        g.numbers.values_once q r w.takes.argument (u.takes.number ∙ ap Some argument) w.takes.number
