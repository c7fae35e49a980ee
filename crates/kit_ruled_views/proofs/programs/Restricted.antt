-- What goes from the tree of a module, in one function alone.
use Rattle.std.proofs.Common.{◌≡◌, ◌⊎◌, ⊎_elim, inl, inr, ℕ, zero, suc, Bool, true, false, List, [], ◌∷◌, ◌++◌, map}
use Rattle.std.proofs.Common.{Option}
use Rattle.std.proofs.Common.{refl, sym, ap, ◌∙◌, subst}
use Rattle.std.specs.Prelude.{slice_get, ◌&&◌, if◌then◌else◌}
use Rattle.ir_base.specs.declared.types.TypeHandle.{TypeHandle}
use Rattle.ir_trees.specs.Names.{Names}
use Rattle.ir_trees.specs.Renames.{names_of}
use Rattle.ir_trees.specs.Searched.{heads_in}
use Rattle.ir_trees.specs.Trees.{Defined, Head, Label, Sort, Tree, end, operation, block, region, Root}
use Rattle.opt_trees.specs.Dialect.{drop}
use Rattle.opt_trees.specs.Dce.{TreeSurroundings, Item, Whole, Slot, May, ForwardsTo, IsDead, dies, IsLost, Gone}
use Rattle.opt_trees.specs.Dce.{gone_at, thin_label, thin, IsGoneExactly, IsDce}
use Rattle.opt_trees.specs.Occurrences.{Has, Occurrence, occurrences_of}
use Rattle.opt_trees.specs.Occurrences.{at_root, defined_in}
use Rattle.opt_trees.proofs.Defined.{result_defined, argument_defined, definer}
use Rattle.opt_trees.proofs.Lists.{map-map, map-append, has-map, has-from_map}
use Rattle.opt_trees.proofs.NoneDead.{has-left, has-right}
use Rattle.kit_ops.specs.declared.attributes.IntegerAttr.{IntegerAttr}
use Rattle.kit_ops.specs.declared.types.KitType.{KitType}
use Rattle.kit.specs.Meaning.{kit}
use Rattle.kit_behaviour.specs.Scopes.{is_in}
use Rattle.kit_views.specs.FlatView.{IsSameness}
use Rattle.kit_views.specs.Laws.{NothingPinned}
use Rattle.kit_views.specs.Reading.{kit_contents}
use Rattle.kit_views.proofs.Definers.{heads_are}
use Rattle.kit_ruled_views.specs.ProgramLaws.{AreTold}
use Rattle.kit_ruled_views.specs.Sound.{tree_of, IsSound}
use Rattle.kit_ruled_views.proofs.programs.Inside.{Function, up, up_block, there, block_there, same_up}
use Rattle.kit_ruled_views.proofs.programs.DeadInside.{Inside, dead_down, dead_up, forwards_up, forwards_down}
use Rattle.kit_ruled_views.proofs.programs.DeadInside.{forwarded_inside}

-- where a test of names says so, the name is among these
pub has_is : {X : Type 0} (same : X → X → Bool) → IsSameness same → (x : X) (xs : List X) → Has x xs →
    is_in same x xs ≡ true
has_is same law x [] h = absurd h
has_is same law x (y ∷ ys) h =
    ⊎_elim
    (λ e. ap (λ b. if b then true else is_in same x ys) (ap (same x) (sym e) ∙ law.same_true x))
    (λ k. by_test (same x y) (has_is same law x ys k))
    h
  where
    by_test : (b : Bool) → is_in same x ys ≡ true → (if b then true else is_in same x ys) ≡ true
    by_test true q = refl
    by_test false q = q

pub is_has : {X : Type 0} (same : X → X → Bool) → IsSameness same → (x : X) (xs : List X) → is_in same x xs ≡ true →
    Has x xs
is_has same law x [] e = absurd (cc e)
is_has same law x (y ∷ ys) e = by_test (same x y) refl e (is_has same law x ys)
  where
    by_test : (b : Bool) → same x y ≡ b → (if b then true else is_in same x ys) ≡ true →
        (is_in same x ys ≡ true → Has x ys) → (x ≡ y) ⊎ Has x ys
    by_test true t h ih = inl (law.true_same x y t)
    by_test false t h ih = inr (ih h)

pub both_true : (a b : Bool) → a ≡ true → b ≡ true → a && b ≡ true
both_true a b e f = ap (λ x. x && b) e ∙ f

pub left_true : (a b : Bool) → a && b ≡ true → a ≡ true
left_true true b e = refl
left_true false b e = absurd (cc e)

pub right_true : (a b : Bool) → a && b ≡ true → b ≡ true
right_true true b e = e
right_true false b e = absurd (cc e)

pub and_is : (a b : Bool) → b ≡ true → a ≡ a && b
and_is true b e = sym e
and_is false b e = refl

-- two that say the same of what stands in a tree leave the same of it
module _ {N : Names} (g k : Gone N) where
  abbrev SameGone : N.operation → Type 0
  SameGone a = (g.item (Whole a) ≡ k.item (Whole a)) × (g.operand a ≡ k.operand a)

  abbrev name_at : Head N kit_contents → N.operation
  name_at h = h.name

  slot_same : (ds : List (Defined N.value TypeHandle)) → ((v : N.value) → Has v (names_of ds) → g.item (Slot v)
      ≡ k.item (Slot v)) → (i : ℕ) → gone_at g (slice_get ds i) ≡ gone_at k (slice_get ds i)
  slot_same [] h i = refl
  slot_same (d ∷ ds) h zero = h d.name (inl refl)
  slot_same (d ∷ ds) h (suc i) = slot_same ds (λ v m. h v (inr m)) i

  label_same : (l : Label N kit_contents) → ((v : N.value) → Has v (names_of l.arguments) → g.item (Slot v) ≡ k.item
      (Slot v)) → thin_label kit g l ≡ thin_label kit k l
  label_same l h =
      ap (λ (p : ℕ → Bool). record {
        name = l.name;
        content = kit.drop_names l.content p;
        arguments = drop p
            l.arguments;
      })
      (λ j i. slot_same l.arguments h i j)

  pub thin_same : {s : Sort} (t : Tree N kit_contents s) → ((a : N.operation) → Has a (map name_at (heads_in t)) →
      SameGone a) → ((v : N.value) → Has v (defined_in t) → g.item (Slot v) ≡ k.item (Slot v)) →
      thin kit g t ≡ thin kit k t
  thin_same end o v = refl
  thin_same (operation h rs rest) o v =
      let own : SameGone h.name = o h.name (inl refl) in
      let split = λ (a : N.operation) (m : Has a (map name_at (heads_in rs) ++ map name_at (heads_in rest))).
      o a (inr (subst (Has a) (sym (map-append name_at (heads_in rs) (heads_in rest))) m)) in
      let inner_same = thin_same rs (λ a m. split a (has-left a (map name_at (heads_in rs)) (map name_at (heads_in
      rest)) m))
      (λ x m. v x (has-right x (names_of h.results) (defined_in rs ++ defined_in rest)
      (has-left x (defined_in rs) (defined_in rest) m))) in
      let rest_same = thin_same rest
      (λ a m. split a (has-right a (map name_at (heads_in rs)) (map name_at (heads_in rest)) m))
      (λ x m. v x (has-right x (names_of h.results) (defined_in rs ++ defined_in rest)
      (has-right x (defined_in rs) (defined_in rest) m))) in
      λ i. if own.0 i then rest_same i else operation
      (record {
        name = h.name;
        content = kit.drop_operands h.content (own.1 i);
        results = h.results;
        operands = drop (own.1 i) h.operands;
        successors = h.successors;
      }) (inner_same i) (rest_same i)
  thin_same (block l os rest) o v =
      let split = λ (a : N.operation) (m : Has a (map name_at (heads_in os) ++ map name_at (heads_in rest))).
      o a (subst (Has a) (sym (map-append name_at (heads_in os) (heads_in rest))) m) in
      let label = label_same l (λ x m. v x (has-left x (names_of l.arguments) (defined_in os ++ defined_in rest) m)) in
      let inner_same = thin_same os (λ a m. split a (has-left a (map name_at (heads_in os)) (map name_at (heads_in
      rest)) m))
      (λ x m. v x (has-right x (names_of l.arguments) (defined_in os ++ defined_in rest)
      (has-left x (defined_in os) (defined_in rest) m))) in
      let rest_same = thin_same rest
      (λ a m. split a (has-right a (map name_at (heads_in os)) (map name_at (heads_in rest)) m))
      (λ x m. v x (has-right x (names_of l.arguments) (defined_in os ++ defined_in rest)
      (has-right x (defined_in os) (defined_in rest) m))) in
      λ i. block (label i) (inner_same i) (rest_same i)
  thin_same (region bs rest) o v =
      let split = λ (a : N.operation) (m : Has a (map name_at (heads_in bs) ++ map name_at (heads_in rest))).
      o a (subst (Has a) (sym (map-append name_at (heads_in bs) (heads_in rest))) m) in
      let inner_same = thin_same bs (λ a m. split a (has-left a (map name_at (heads_in bs)) (map name_at (heads_in
      rest)) m))
      (λ x m. v x (has-left x (defined_in bs) (defined_in rest) m)) in
      let rest_same = thin_same rest
      (λ a m. split a (has-right a (map name_at (heads_in bs)) (map name_at (heads_in rest)) m))
      (λ x m. v x (has-right x (defined_in bs) (defined_in rest) m)) in
      λ i. region (inner_same i) (rest_same i)

module _ {N : Names} (told : AreTold N) (leads : TypeHandle → Option KitType) (numbered : List ℕ → ℕ)
    (type_at : N.value → TypeHandle) (t : Root N kit_contents) (sound : IsSound {N = N} leads numbered type_at t)
    (w : TreeSurroundings N IntegerAttr) (gone : Gone N) (is_gone : IsGoneExactly kit w t gone) (o : Occurrence N kit_contents)
    (function : Function {N = N} leads numbered type_at t sound o) where
  abbrev u : Root N kit_contents
  u = tree_of o

  abbrev op_name : Occurrence N kit_contents → N.operation
  op_name p = p.head.name

  abbrev names : List N.operation
  names = map op_name (occurrences_of u)

  abbrev here : Item N → Bool
  here (Whole a) = is_in told.operation a names
  here (Slot v) = is_in told.value v (defined_in o.regions)

  -- what goes from the function
  abbrev pub gone_in : Gone N
  gone_in = record {
    item = λ x. gone.item x && here x;
    operand = λ a i. gone.operand a i && is_in told.operation a names;
  }

  inside_is_here : (x : Item N) → Inside {N = N} leads numbered type_at t sound w o function x → here x ≡ true
  inside_is_here (Whole a) i =
      has_is told.operation told.operations a names
      (subst (λ z. Has z names) i.2 (has-map op_name i.0 (occurrences_of u) i.1))
  inside_is_here (Slot v) i = has_is told.value told.values v (defined_in o.regions) i

  named_inside : (a : N.operation) → is_in told.operation a names ≡ true →
      (p : Occurrence N kit_contents) × Has p (occurrences_of u) × (p.head.name ≡ a)
  named_inside a e =
      let z = has-from_map op_name a (occurrences_of u) (is_has told.operation told.operations a names e) in
      (z.it, z.stands, z.is)

  here_is_inside : (x : Item N) → here x ≡ true → Inside {N = N} leads numbered type_at t sound w o function x
  here_is_inside (Whole a) e = named_inside a e
  here_is_inside (Slot v) e = is_has told.value told.values v (defined_in o.regions) e

  may_of : (x : Item N) → IsDead kit w u x → May kit u x
  may_of _ (dies x may kept uses) = may

  dead_inside : (x : Item N) → May kit u x → Inside {N = N} leads numbered type_at t sound w o function x
  dead_inside (Whole a) may = (may.it, may.stands, may.name)
  dead_inside (Slot v) may = argument_defined o.regions (at_root u) may.it v may.stands may.argument

  lost_down : (a : N.operation) → is_in told.operation a names ≡ true → (i : ℕ) → IsLost kit w t a i →
      IsLost kit w u a i
  lost_down a e i l =
      let p = named_inside a e in
      let same = same_up {N = N} leads numbered type_at t sound o function p.0 l.user p.1 l.stands (l.name ∙ sym p.2) in
      let f = forwards_down {N = N} leads numbered type_at t sound w o function p.0 p.1 i l.argument
      (subst (λ z. ForwardsTo kit t z i l.argument) (sym same) l.forwards) in
      record {
        user = p.0;
        stands = p.1;
        name = p.2;
        argument = l.argument;
        forwards = f;
        dead = dead_down {N = N} leads numbered type_at t sound w o function (Slot l.argument) l.dead
            (forwarded_inside {N = N} leads numbered type_at t sound w o function p.0 i l.argument f);
      }

  lost_up : (a : N.operation) (i : ℕ) → IsLost kit w u a i → IsLost kit w t a i
  lost_up a i l = record {
    user = up {N = N} leads numbered type_at t sound o l.user;
    stands = there {N = N} leads numbered type_at t sound o function l.user l.stands;
    name = l.name;
    argument = l.argument;
    forwards = forwards_up {N = N} leads numbered type_at t sound w o function l.user i l.argument l.forwards;
    dead = dead_up {N = N} leads numbered type_at t sound w o function (Slot l.argument) l.dead
        (forwarded_inside {N = N} leads numbered type_at t sound w o function l.user i l.argument l.forwards);
  }

  pub is_gone_in : IsGoneExactly kit w u gone_in
  is_gone_in = record {
    dead = λ x e. dead_down {N = N} leads numbered type_at t sound w o function x
        (is_gone.dead x (left_true (gone.item x) (here x) e)) (here_is_inside x (right_true (gone.item x) (here x) e));
    all = λ x d.
        let i = dead_inside x (may_of x d) in
        both_true (gone.item x) (here x)
        (is_gone.all x (dead_up {N = N} leads numbered type_at t sound w o function x d i)) (inside_is_here x i);
    lost = λ a i e. lost_down a (right_true (gone.operand a i) (is_in told.operation a names) e) i
        (is_gone.lost a i (left_true (gone.operand a i) (is_in told.operation a names) e));
    all_lost = λ a i l. both_true (gone.operand a i) (is_in told.operation a names) (is_gone.all_lost a i (lost_up a
        i l))
        (inside_is_here (Whole a) (l.user, l.stands, l.name));
  }

  head_names : map (λ (h : Head N kit_contents). h.name) (heads_in o.regions) ≡ names
  head_names =
      sym (ap (map (λ (h : Head N kit_contents). h.name)) (heads_are o.regions (at_root u)))
      ∙ map-map (λ (h : Head N kit_contents). h.name) (λ (p : Occurrence N kit_contents). p.head) (occurrences_of u)

  -- what is left of the function in the module is what removal of dead values leaves of the function
  abbrev pub rest : Root N kit_contents
  rest = record { head = o.head; regions = thin kit gone o.regions }

  pub function_dce : IsDce kit w u rest
  function_dce = record {
    gone = gone_in;
    is_gone = is_gone_in;
    is = ap (λ z. record { head = o.head; regions = z })
        (thin_same gone gone_in o.regions
        (λ a m.
        let e = has_is told.operation told.operations a names (subst (Has a) head_names m) in (
          and_is (gone.item (Whole a)) (is_in told.operation a names) e,
          λ j i. and_is (gone.operand a i) (is_in told.operation a names) e j,
        ))
        (λ v m. and_is (gone.item (Slot v)) (is_in told.value v (defined_in o.regions))
        (has_is told.value told.values v (defined_in o.regions) m)));
  }

  -- nothing in the function is named from outside the module
  pub function_unpinned : NothingPinned w t → NothingPinned w u
  function_unpinned none v h pinned =
      ⊎_elim
      (λ z. none v (result_defined t.regions (at_root t) (up {N = N} leads numbered type_at t sound o z.it) v
      (there {N = N} leads numbered type_at t sound o function z.it z.stands) z.value) pinned)
      (λ z. none v (argument_defined t.regions (at_root t) (up_block {N = N} leads numbered type_at t sound o z.it) v
      (block_there {N = N} leads numbered type_at t sound o function z.it z.stands) z.value) pinned)
      (definer o.regions (at_root u) v h)
