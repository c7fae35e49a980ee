-- What is decided by facts that are kept by numbers.
use Rattle.std.proofs.Common.{◌≡◌, ◌≢◌, inl, inr, ⊎_elim, ℕ, zero, suc, ◌+◌, ◌<◌, Bool, true, cond, List, [], ◌∷◌, map, Some, None, IsSome, slice_get, refl, sym, ap, ◌∙◌, subst, arith}
use Rattle.std.specs.Prelude.{nat_lt}
use Rattle.std.proofs.lemmas.Option.{slice_get-map}
use Rattle.ir_base.specs.declared.types.TypeHandle.{TypeHandle}
use Rattle.ir_context.specs.Known.{IsKnownIn, HasKnownTypes}
use Rattle.ir_program.specs.Program.{Program, TypedValue, operation_at, block_at, type_at, value_in, type_in, IsLiveValue}
use Rattle.ir_program.specs.Definers.{values_at}
use Rattle.ir_program.specs.declared.handles.Ptr.{Ptr}
use Rattle.ir_program.specs.declared.handles.Operation.{Operation}
use Rattle.ir_program.specs.declared.handles.Value.{Value}
use Rattle.ir_program.specs.declared.handles.DefiningEntity.{DefiningEntity}
use Rattle.ir_program.specs.declared.handles.DefiningEntity.TheVariants.{Op as ByOp, Block as ByBlock}
use Rattle.ir_program.proofs.used.Renaming.{value-test}
use Rattle.ir_trees.specs.Searched.{Lists}
use Rattle.ir_trees.specs.Stands.{by_handle, in_program, ProgramTree, ProgramHead, StandsFor, defined_by}
use Rattle.ir_trees.proofs.ListEdited.{AreOrderly}
use Rattle.opt_inside.specs.Around.{CanTellTaken}
use Rattle.opt_inside.specs.facts.ByNumber.{AreFactsBy, AreBestFacts}
use Rattle.opt_inside.specs.Numbered.{Numbers, NumbersInside}
use Rattle.opt_inside.specs.Occurring.{IsBelowRoot, IsDefinedBelow}
use Rattle.opt_inside.proofs.Told.{Told, look, same_handle}
use Rattle.opt_rows.specs.declared.known.Known.{Known}
use Rattle.opt_rows.specs.declared.known.Known.TheVariants.{One}
use Rattle.opt_trees.specs.Dce.{TreeSurroundings}
use Rattle.opt_trees.specs.Dialect.{Dialect, Lawful}
use Rattle.opt_trees.specs.Facts.{Facts}
use Rattle.opt_trees.specs.Occurrences.{Has, types_of}
use Rattle.opt_trees.specs.Sccp.{AreMadeConstants}
use Rattle.opt_sccp.specs.declared.putting.Made.{Made}
use Rattle.opt_sccp.specs.Made.{made_of, IsPutList}
use Rattle.opt_sccp.specs.Sccp.{IsDecided, LacksIn, PinsTaken}
use Rattle.opt_sccp.specs.Placed.{DefinerIsPlaced}
use Rattle.opt_sccp.specs.Wanted.{AreMade, LacksAt}
use Rattle.opt_sccp.proofs.Definitions.{AreDefined, results_are, result_at, argument_at, type_there, block_around, result_or_argument}
use Rattle.opt_sccp.proofs.KnownTypes.{constants_typed}
use Rattle.opt_sccp.proofs.PlacedLists.{has_index, index_has}
use Rattle.opt_sccp.proofs.Options.{is_something}
use Rattle.opt_sccp.proofs.Seen.{IsSeen, lacking_found, found_lacking, gets_found, found_gets}

-- values and types at an index
types_at : (ts : List TypedValue) (i : ℕ) (ty : TypeHandle) → slice_get (types_of (map defined_by ts)) i ≡ Some ty → (v : Value) × (value_in ts i ≡ Some v) × (type_in ts i ≡ Some ty)
types_at [] i ty h = cc
types_at (t ∷ ts) zero ty h = (t.value, refl, h)
types_at (t ∷ ts) (suc i) ty h = types_at ts i ty h

less_is : (a b : ℕ) → nat_lt a b ≡ true → a < b
less_is a b h = grind arith

is_less : (a b : ℕ) → a < b → nat_lt a b ≡ true
is_less a b h = grind arith

-- what a list of values and constants says of a value
module _ {A : Type 0} where
  abbrev entry : Value → A → Made A
  entry v a = record { value = v; constant = a }

  pub found_entry : (ms : List (Made A)) (v : Value) (a : A) → made_of ms v ≡ Some a → Has (entry v a) ms
  found_entry [] v a h = cc
  found_entry (m ∷ ms) v a h = ⊎_elim
      (λ (e : v ≡ m.value).
      let s : Some m.constant ≡ Some a = ap (λ b. cond b (Some m.constant) (made_of ms v)) (sym (value-test.yes v m.value e)) ∙ h in
      let t : a ≡ m.constant = cc in
      inl (λ i. entry (e i) (t i)))
      (λ (ne : v ≢ m.value). inr (found_entry ms v a (ap (λ b. cond b (Some m.constant) (made_of ms v)) (sym (value-test.no v m.value ne)) ∙ h)))
      (value-test.decide v m.value)

  entry_found : (ms : List (Made A)) (v : Value) (a : A) → Has (entry v a) ms → ((b : A) → Has (entry v b) ms → b ≡ a) → made_of ms v ≡ Some a
  entry_found [] v a h one = absurd h
  entry_found (m ∷ ms) v a h one = ⊎_elim
      (λ (e : v ≡ m.value). ap (λ b. cond b (Some m.constant) (made_of ms v)) (value-test.yes v m.value e) ∙ ap Some (one m.constant (inl (λ i. entry (e i) m.constant))))
      (λ (ne : v ≢ m.value). ap (λ b. cond b (Some m.constant) (made_of ms v)) (value-test.no v m.value ne)
      ∙ entry_found ms v a (⊎_elim (λ s. absurd (ne (ap (λ (z : Made A). z.value) s))) (λ r. r) h) (λ b g. one b (inr g)))
      (value-test.decide v m.value)

module _ {O B A : Type 0} (d : Dialect (in_program O B) A) (c : Program O B) (op : Ptr Operation) (orderly : AreOrderly c) (values : AreDefined c) (n : Numbers) (numbers : NumbersInside c op n) where
  is_below : (v : Value) → Has v n.values → IsDefinedBelow c op v
  is_below v h = (numbers.values v).0 (has_index n.values v h)

  -- it is told what is below the root
  told_below : (p : Ptr Operation) → Told (IsBelowRoot c op p)
  told_below p = ⊎_elim
      (λ l. inl ((numbers.operations p).0 l))
      (λ no. inr (λ b. no ((numbers.operations p).1 b)))
      (look same_handle n.operations p)

  -- what is around the root, where it is told what is taken outside it
  abbrev around_root : CanTellTaken c op → TreeSurroundings by_handle A
  around_root told = record { alone = λ v. None; is_pinned = told.0 }

  -- numbers of the values of one definer are in its order
  in_a_row : (e : DefiningEntity) (v : Value) → IsDefinedBelow c op v → v.definer ≡ e → (j : ℕ) × ((i : ℕ) (w : Value) → value_in (values_at c e) i ≡ Some w → slice_get n.values (j + i) ≡ Some w)
  in_a_row e v below definer = ⊎_elim
      (λ r. subst (λ z. (j : ℕ) × ((i : ℕ) (w : Value) → value_in (values_at c z) i ≡ Some w → slice_get n.values (j + i) ≡ Some w)) (sym r.1.definer ∙ definer)
      (let row = numbers.results_in_order r.0 r.1.below in (row.0, λ i w h. row.1 i w (slice_get-map (λ (t : TypedValue). t.value) (values_at c (ByOp r.0)) i ∙ h))))
      (λ r. subst (λ z. (j : ℕ) × ((i : ℕ) (w : Value) → value_in (values_at c z) i ≡ Some w → slice_get n.values (j + i) ≡ Some w)) (sym r.1.definer ∙ definer)
      (let row = numbers.arguments_in_order r.0 r.1.below in (row.0, λ i w h. row.1 i w (slice_get-map (λ (t : TypedValue). t.value) (values_at c (ByBlock r.0)) i ∙ h))))
      (result_or_argument c op values v below)

  module _ (k : Facts by_handle A) (made : List (Made A)) (are : AreMade d c k n.values made) where
    put_list : IsPutList d c op made
    put_list = record {
      below = λ m h. is_below m.value (are.among m h);
      ordered = λ i j m q g h less e a b x y.
          let o = are.ordered i j m q g h less in
          let row = in_a_row e m.value (is_below m.value (are.among m (index_has made i m g))) (values.definer e a m.value x) in
          let first : o.0 ≡ row.0 + a = numbers.values_once o.0 (row.0 + a) m.value o.2 (row.1 a m.value x) in
          let second : o.1 ≡ row.0 + b = numbers.values_once o.1 (row.0 + b) q.value o.3 (row.1 b q.value y) in
          let before : o.0 < o.1 = o.4 in
          omega arith;
      made_by = λ m h. (are.gets m h).maker;
    }

    one_each : (v : Value) (a : A) → Has (entry v a) made → made_of made v ≡ Some a
    one_each v a h = entry_found made v a h (λ b has. let s : One b ≡ One a = sym (are.gets (entry v b) has).known ∙ (are.gets (entry v a) h).known in cc)

    module _ (t : ProgramTree O B) (seen : IsSeen c op t) (w : TreeSurroundings by_handle A) (pins : PinsTaken c op w) where
      made_in_tree : AreMadeConstants d w t k (made_of made)
      made_in_tree = record {
        gets = λ v a h. let has = found_entry made v a h in gets_found d c op orderly values t seen k w pins told_below v a (is_below v (are.among (entry v a) has)) (are.gets (entry v a) has);
        all = λ v a g.
            let f = found_gets d c op orderly values t seen k w pins told_below v a g in
            let at = (numbers.values v).1 f.0 in
            one_each v a (are.all v a (index_has n.values at.0 v at.1) f.1);
      }

  -- what defines a value with a number has a place
  pub placed : (v : Value) → Lists n.values v → DefinerIsPlaced c v.definer
  placed v h = ⊎_elim
      (λ r. subst (DefinerIsPlaced c) (sym r.1.definer) (let around = block_around c op r.0 r.1.below in (around.0, around.1)))
      (λ r. subst (DefinerIsPlaced c) (sym r.1.definer) (is_something (block_at c r.0) r.1.view r.1.there))
      (result_or_argument c op values v ((numbers.values v).0 h))

  -- a value with a number is live
  typed_live : ((e : DefiningEntity) (i : ℕ) (v : Value) → value_in (values_at c e) i ≡ Some v → type_at c v ≡ type_in (values_at c e) i)
      → (e : DefiningEntity) (i : ℕ) (v : Value) → value_in (values_at c e) i ≡ Some v → IsLiveValue c v
  typed_live typed e i v h = let ty = type_there (values_at c e) i v h in is_something (type_at c v) ty.0 (typed e i v h ∙ ty.1)

  pub live : ((e : DefiningEntity) (i : ℕ) (v : Value) → value_in (values_at c e) i ≡ Some v → type_at c v ≡ type_in (values_at c e) i)
      → (v : Value) → Lists n.values v → IsLiveValue c v
  live typed v h = ⊎_elim
      (λ r. typed_live typed (ByOp r.0) r.1.index v (result_at c r.0 r.1.view r.1.index v r.1.there r.1.stands))
      (λ r. typed_live typed (ByBlock r.0) r.1.index v (argument_at c r.0 r.1.view r.1.index v r.1.there r.1.stands))
      (result_or_argument c op values v ((numbers.values v).0 h))

  -- an operation with a number is there
  pub numbered_there : (p : Ptr Operation) → Lists n.operations p → IsSome (operation_at c p)
  numbered_there p h = let around = block_around c op p ((numbers.operations p).0 h) in around.1.operation

  module _ (runs : List Bool) (known : List (Known A)) (facts : (t : ProgramTree O B) → AreBestFacts d c op n runs known t) (seen : (t : ProgramTree O B) → StandsFor c op t → IsSeen c op t) where
    -- where an operand lacks
    pub lacking : ((k : Facts by_handle A) → AreFactsBy n runs known k → (p : Ptr Operation) × Lists n.operations p × LacksAt d c k p) → (t : ProgramTree O B) → StandsFor c op t → LacksIn d t
    lacking lacks t stands =
        let f = facts t in
        let l = lacks f.facts f.by_number in
        record { facts = f.facts; best = f.best stands; lacks = lacking_found d c op orderly values t (seen t stands) f.facts l.0 ((numbers.operations l.0).0 l.1) l.2 }

    module _ (made : List (Made A)) (are : (k : Facts by_handle A) → AreFactsBy n runs known k → AreMade d c k n.values made) (some : (t : ProgramTree O B) × StandsFor c op t) where
      -- where none does
      pub decided : (told : CanTellTaken c op) → ((k : Facts by_handle A) → AreFactsBy n runs known k → (p : Ptr Operation) × Lists n.operations p × LacksAt d c k p → ⊥) → IsDecided d c op made
      decided told complete = record {
        list = let f = facts some.0 in put_list f.facts made (are f.facts f.by_number);
        one = λ m h. let f = facts some.0 in one_each f.facts made (are f.facts f.by_number) m.value m.constant h;
        in_tree = λ t stands.
            let f = facts t in
            record {
              around = around_root told;
              pins = told.1;
              facts = f.facts;
              best = f.best stands;
              complete = λ l. let a = found_lacking d c op orderly values t (seen t stands) f.facts l in complete f.facts f.by_number (a.0, (numbers.operations a.0).1 a.1, a.2);
              is_made = made_in_tree f.facts made (are f.facts f.by_number) t (seen t stands) (around_root told) told.1;
            };
      }

      -- the types of the constants are known, where those of all values are
      pub types_known : Lawful d → ((e : DefiningEntity) (i : ℕ) (v : Value) → value_in (values_at c e) i ≡ Some v → type_at c v ≡ type_in (values_at c e) i)
          → (count : ℕ) → HasKnownTypes count c → (m : Made A) → Has m made → IsKnownIn count (d.constant_type m.constant)
      types_known lawful typed count types m h =
          let t = some.0 in
          let f = facts t in
          let s = seen t some.1 in
          less_is (d.constant_type m.constant).number count
          (constants_typed d count by_handle f.facts t lawful (λ o has a i at.
          let w = s.sound o has in
          let ty = types_at w.view.results i (d.constant_type a) (ap (λ (x : ProgramHead O B). slice_get (types_of x.results) i) (sym w.head) ∙ at) in
          let there = result_at c o.head.name w.view i ty.0 w.there ty.1 in
          let results = ap (λ z. type_in z i) (results_are c o.head.name w.view w.there) in
          is_less (d.constant_type a).number count (types ty.0 (d.constant_type a) (typed (ByOp o.head.name) i ty.0 there ∙ results ∙ ty.2)))
          (f.best some.1) m.value m.constant ((are f.facts f.by_number).gets m h).known)
