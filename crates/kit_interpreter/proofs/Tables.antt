-- The functions of a module, by the module's symbol table.
use Rattle.std.proofs.Common.{◌≡◌, ◌⊎◌, inl, inr, ⊎_elim, ℕ, zero, suc, ◌<◌, Bool, true, false, ◌&&◌, List, [], ◌∷◌, ◌++◌, length, Option, Some, None, IsSome, option_map, option_and_then, slice_get, refl, sym, ap, ◌∙◌, subst, if◌then◌else◌, arith}
use Rattle.std.specs.Prelude.{unwrap_or, eqb}
use Rattle.std.specs.List.{list_any, position}
use Rattle.std.specs.Str.{bytes_eq}
use Rattle.std.proofs.lemmas.Bool.{false≢true, and_parts}
use Rattle.std.proofs.lemmas.Slice.Eq.{bytes_eq-Decides}
use Rattle.std.proofs.lemmas.Option.{same_Some, none-some, get_or_from_slice_get}
use Rattle.std.proofs.lemmas.List.Quantifiers.{position-Some}
use Rattle.indexmap.specs.IndexSet.{insert_key}
use Rattle.ir_names.specs.Dictionary.{attribute_at}
use Rattle.ir_names.specs.Identifier.{text_of}
use Rattle.ir_names.specs.declared.interfaces.OpInterface.TheVariants.{SymbolOp}
use Rattle.ir_program.specs.Lent.{payload_at}
use Rattle.ir_program.specs.Lists.{operations_in, blocks_in, regions_in, StandsInBlock}
use Rattle.ir_program.specs.Program.{no_handle}
use Rattle.ir_program.specs.declared.handles.Ptr.{Ptr}
use Rattle.ir_program.specs.declared.handles.Operation.{Operation}
use Rattle.ir_program.specs.declared.handles.BasicBlock.{BasicBlock}
use Rattle.ir_program.proofs.used.Renames.{IsTestOf}
use Rattle.ir_symbols.specs.Collections.{TableEntries, same_handle, table_in, KeepsTable}
use Rattle.ir_symbols.specs.Symbols.{name_at, HasBody, IsSymbolIn}
use Rattle.ir_symbols.specs.Tables.{entry_at, IsTableOf}
use Rattle.ir_symbols.specs.declared.tables.SymbolTable.{SymbolTable}
use Rattle.ir_symbols.proofs.Handles.{itself, not_same, same_or_not}
use Rattle.ir_trees.specs.Searched.{Lists}
use Rattle.kit.specs.Builtin.{held_identifier}
use Rattle.kit.specs.Context.{KitProgram}
use Rattle.kit.specs.Meaning.{KitOperation}
use Rattle.kit_ops.specs.Keys as keys
use Rattle.kit_ops.specs.Table.{has_interface}
use Rattle.kit_ops.specs.declared.attributes.KitAttr.{KitAttr}
use Rattle.kit_ops.specs.declared.attributes.KitAttr.TheVariants as attrs
use Rattle.kit_ops.specs.declared.kinds.KitOp.{KitOp}
use Rattle.kit_ops.specs.declared.kinds.KitOp.TheVariants as ops
use Rattle.kit_places.specs.Numbers.{operation_with}
use Rattle.kit_places.specs.Store.{is_name, is_function, is_function_named, first_with, body_of, members, function_named}
use Rattle.kit_places.proofs.Located.{first_listed}
use Rattle.kit_interpreter.specs.Lowering.{symbol_of, holds_table, number_of, AreNamedFunctions, HaveTableOf, IsFunctionTable, IsNamedFunction}
use Rattle.kit_interpreter.proofs.Places.{found_at, not_found}

pub handle-test : IsTestOf same_handle
handle-test = record {
  decide = same_or_not;
  yes = λ p q e. subst (λ x. same_handle p x ≡ true) e (itself p);
  no = not_same;
}

-- ---- lists

module _ {X : Type 0} where
  last_of : (done : List X) (y : X) (i : ℕ) (x : X) → slice_get (done ++ y ∷ []) i ≡ Some x → (slice_get done i ≡ Some x) ⊎ (x ≡ y)
  last_of [] y zero x e = inr (same_Some x y (sym e))
  last_of [] y (suc i) x e = cc
  last_of (d ∷ done) y zero x e = inl e
  last_of (d ∷ done) y (suc i) x e = last_of done y i x e

  listed_last : (done : List X) (y x : X) → Lists (done ++ y ∷ []) x → Lists done x ⊎ (x ≡ y)
  listed_last done y x l = ⊎_elim (λ e. inl (l.0, e)) inr (last_of done y l.0 x l.1)

  listed_front : (done rest : List X) (x : X) → Lists done x → Lists (done ++ rest) x
  listed_front [] rest x l = absurd (none-some x l.1)
  listed_front (d ∷ done) rest x (zero, e) = (0, e)
  listed_front (d ∷ done) rest x (suc k, e) = let l = listed_front done rest x (k, e) in (suc l.0, l.1)

  listed_end : (done : List X) (x : X) → Lists (done ++ x ∷ []) x
  listed_end [] x = (0, refl)
  listed_end (d ∷ done) x = let l = listed_end done x in (suc l.0, l.1)

  any_listed : (p : X → Bool) (xs : List X) → list_any p xs ≡ true → (x : X) × Lists xs x × (p x ≡ true)
  any_listed p [] e = absurd (false≢true e)
  any_listed p (x ∷ xs) e = go (p x) refl (any_listed p xs) e
    where
      go : (b : Bool) → p x ≡ b → (list_any p xs ≡ true → (y : X) × Lists xs y × (p y ≡ true)) → list_any p (x ∷ xs) ≡ true
          → (y : X) × Lists (x ∷ xs) y × (p y ≡ true)
      go true is h e = (x, (0, refl), is)
      go false is h e = let l = h cc in (l.0, (suc l.1.0, l.1.1), l.2)

  -- one that passes a test is found
  pub passing : (test : X → Bool) (xs : List X) (x : X) → Lists xs x → test x ≡ true → (y : X) × (first_with test xs ≡ Some y)
  passing test [] x l t = absurd (none-some x l.1)
  passing test (y ∷ ys) x l t = go (test y) refl (λ r. passing test ys x r t)
    where
      behind : (k : ℕ) → slice_get (y ∷ ys) k ≡ Some x → test y ≡ false → Lists ys x
      behind zero e fails = absurd (false≢true (sym fails ∙ ap test (same_Some y x e) ∙ t))
      behind (suc k) e fails = (k, e)

      go : (b : Bool) → test y ≡ b → (Lists ys x → (z : X) × (first_with test ys ≡ Some z)) → (z : X) × (first_with test (y ∷ ys) ≡ Some z)
      go true is h = (y, ap (λ (b : Bool). if b then Some y else first_with test ys) is)
      go false is h =
          let r = h (behind l.0 l.1 is) in
          (r.0, ap (λ (b : Bool). if b then Some y else first_with test ys) is ∙ r.1)

  -- and what is found passes
  pub found_passes : (test : X → Bool) (xs : List X) (x : X) → first_with test xs ≡ Some x → test x ≡ true
  found_passes test [] x e = cc
  found_passes test (y ∷ ys) x e = go (test y) refl (found_passes test ys x) e
    where
      go : (b : Bool) → test y ≡ b → (first_with test ys ≡ Some x → test x ≡ true) → (if b then Some y else first_with test ys) ≡ Some x → test x ≡ true
      go true is h e = subst (λ z. test z ≡ true) (same_Some y x e) is
      go false is h e = h e

module _ (keys after : List (Ptr Operation)) (p : Ptr Operation) (is : after ≡ insert_key same_handle keys p) where
  put_in : (b : Bool) → list_any (same_handle p) keys ≡ b → after ≡ (if b then keys else keys ++ p ∷ [])
  put_in b e = is ∙ ap (λ (t : Bool). if t then keys else keys ++ p ∷ []) e

  -- a set keeps what it had, and has what was put in
  kept_in : (f : Ptr Operation) → Lists keys f → Lists after f
  kept_in f l = by (list_any (same_handle p) keys) refl
    where
      by : (b : Bool) → list_any (same_handle p) keys ≡ b → Lists after f
      by true e = subst (λ ks. Lists ks f) (sym (put_in true e)) l
      by false e = subst (λ ks. Lists ks f) (sym (put_in false e)) (listed_front keys (p ∷ []) f l)

  has_it : Lists after p
  has_it = by (list_any (same_handle p) keys) refl
    where
      by : (b : Bool) → list_any (same_handle p) keys ≡ b → Lists after p
      by true e =
          let l = any_listed (same_handle p) keys e in
          let same : p ≡ l.0 = ⊎_elim (λ (q : p ≡ l.0). q) (λ n. absurd (false≢true (sym (not_same p l.0 n) ∙ l.2))) (same_or_not p l.0) in
          subst (λ ks. Lists ks p) (sym (put_in true e)) (subst (Lists keys) (sym same) l.1)
      by false e = subst (λ ks. Lists ks p) (sym (put_in false e)) (listed_end keys p)

  had_or_is : (f : Ptr Operation) → Lists after f → Lists keys f ⊎ (f ≡ p)
  had_or_is f l = by (list_any (same_handle p) keys) refl
    where
      by : (b : Bool) → list_any (same_handle p) keys ≡ b → Lists keys f ⊎ (f ≡ p)
      by true e = inl (subst (λ ks. Lists ks f) (put_in true e) l)
      by false e = listed_last keys p f (subst (λ ks. Lists ks f) (put_in false e) l)

-- ---- the functions that have names

module _ (c : KitProgram) where
  pub no_functions : AreNamedFunctions c [] []
  no_functions = record { each = λ f l. absurd (none-some f l.1); all = λ f l n. absurd (none-some f l.1) }

  module _ (done keys : List (Ptr Operation)) (p : Ptr Operation) (are : AreNamedFunctions c done keys) where
    pub with_function : IsNamedFunction c p → (after : List (Ptr Operation)) → after ≡ insert_key same_handle keys p
        → AreNamedFunctions c (done ++ p ∷ []) after
    with_function named after is = record {
      each = λ f l. ⊎_elim
          (λ (h : Lists keys f). let e = are.each f h in (listed_front done (p ∷ []) f e.0, e.1))
          (λ (e : f ≡ p). (subst (Lists (done ++ p ∷ [])) (sym e) (listed_end done p), subst (IsNamedFunction c) (sym e) named))
          (had_or_is keys after p is f l);
      all = λ f l n. ⊎_elim
          (λ (h : Lists done f). kept_in keys after p is f (are.all f h n))
          (λ (e : f ≡ p). subst (Lists after) (sym e) (has_it keys after p is))
          (listed_last done p f l);
    }

    pub without_function : (IsNamedFunction c p → ⊥) → AreNamedFunctions c (done ++ p ∷ []) keys
    without_function none = record {
      each = λ f l. let e = are.each f l in (listed_front done (p ∷ []) f e.0, e.1);
      all = λ f l n. ⊎_elim
          (λ (h : Lists done f). are.all f h n)
          (λ (e : f ≡ p). absurd (none (subst (IsNamedFunction c) e n)))
          (listed_last done p f l);
    }

-- ---- what has a name is a symbol

is_func : (k : KitOp) → is_function (Some k) ≡ true → k ≡ ops.Func
is_func ops.Func h = refl
is_func _ h = absurd (false≢true h)

held : (a : Option KitAttr) (name : List ℕ) → is_name name a ≡ true → option_and_then held_identifier a ≡ Some name
held (Some (attrs.Identifier id)) name e = ap Some (sym ((bytes_eq-Decides name (text_of id)).0 e))
held _ name e = absurd (false≢true e)

named_so : (o : Option KitOperation) (name : List ℕ)
    → (is_function (option_map (λ (d : KitOperation). d.kind) o)
    && is_name name (option_and_then (λ (d : KitOperation). attribute_at d.notes.attributes keys.symbol_name) o)) ≡ true
    → option_and_then symbol_of o ≡ Some name
named_so None name e = absurd (false≢true e)
named_so (Some d) name e =
    let parts = and_parts (is_function (Some d.kind)) (is_name name (attribute_at d.notes.attributes keys.symbol_name)) e in
    let symbol : has_interface d.kind SymbolOp ≡ true = ap (λ k. has_interface k SymbolOp) (is_func d.kind parts.0) in
    ap (λ (b : Bool). if b then option_and_then held_identifier (attribute_at d.notes.attributes keys.symbol_name) else None) symbol
    ∙ held (attribute_at d.notes.attributes keys.symbol_name) name parts.1

attribute_by : (o : Option KitOperation) (key : List ℕ)
    → option_and_then (λ (d : KitOperation). attribute_at d.notes.attributes key) o
    ≡ option_and_then (λ n. attribute_at n.attributes key) (option_map (λ (d : KitOperation). d.notes) o)
attribute_by None key = refl
attribute_by (Some d) key = refl

module _ (c : KitProgram) where
  pub symbol_named : (name : List ℕ) (f : Ptr Operation) → is_function_named c name f ≡ true → name_at symbol_of c f ≡ Some name
  symbol_named name f e = named_so (payload_at c f) name
      (ap (λ a. is_function (option_map (λ (d : KitOperation). d.kind) (payload_at c f)) && is_name name a)
      (attribute_by (payload_at c f) keys.symbol_name) ∙ e)

-- ---- the table of a module

module _ (c : KitProgram) (m : Ptr Operation) (handles : List (Ptr Operation)) (tables : TableEntries)
    (stand : (b : Ptr BasicBlock) (k : ℕ) (q : Ptr Operation) → slice_get (operations_in c b) k ≡ Some q → StandsInBlock c q b)
    (are : AreNamedFunctions c (members c m) handles) (have : HaveTableOf c m tables) where
  body_is : members c m ≡ operations_in c have.table.body
  body_is =
      let b = have.is.of_body in
      let first : slice_get (regions_in c m) 0 ≡ Some b.region = ap (λ rs. slice_get rs 0) b.one_region in
      let blocks : body_of c m ≡ have.table.body ∷ [] = ap (λ o. unwrap_or (option_map (blocks_in c) o) []) first ∙ b.one_block in
      ap (λ bs. unwrap_or (option_map (operations_in c) (slice_get bs 0)) []) blocks

  -- a function of a name is under it
  under : (name : List ℕ) (f : Ptr Operation) → Lists (members c m) f → is_function_named c name f ≡ true → entry_at have.table name ≡ Some f
  under name f l e = (have.is.agrees name f).1 (record {
    stands = stand have.table.body l.0 f (ap (λ ps. slice_get ps l.0) (sym body_is) ∙ l.1);
    named = symbol_named c name f e;
  })

  found_under : (name : List ℕ) (f : Ptr Operation) → function_named c m name ≡ Some f → entry_at have.table name ≡ Some f
  found_under name f e = under name f (first_listed (is_function_named c name) (members c m) f e)
      (found_passes (is_function_named c name) (members c m) f e)

  -- and a function that is under a name is found
  under_found : (name : List ℕ) (f : Ptr Operation) → entry_at have.table name ≡ Some f → Lists handles f → function_named c m name ≡ Some f
  under_found name f e l =
      let of = are.each f l in
      let same : of.1.0 ≡ name = same_Some of.1.0 name (sym (symbol_named c of.1.0 f of.1.1) ∙ ((have.is.agrees name f).0 e).named) in
      let r = passing (is_function_named c name) (members c m) f of.0 (subst (λ n. is_function_named c n f ≡ true) same of.1.1) in
      r.1 ∙ ap Some (same_Some r.0 f (sym (found_under name r.0 r.1) ∙ e))

  number_is : (name : List ℕ) → number_of tables m handles name ≡ option_and_then (λ f. position (same_handle f) handles) (entry_at have.table name)
  number_is name = ap (λ o. option_and_then (λ f. position (same_handle f) handles) (option_and_then (λ table. entry_at table name) o)) have.kept

  numbered : (name : List ℕ) (e : Option (Ptr Operation)) → entry_at have.table name ≡ e
      → option_map (operation_with handles) (option_and_then (λ f. position (same_handle f) handles) e) ≡ function_named c m name
  numbered name None is = by (function_named c m name) refl
    where
      by : (o : Option (Ptr Operation)) → function_named c m name ≡ o → None ≡ function_named c m name
      by None e = sym e
      by (Some f) e = absurd (none-some f (sym is ∙ found_under name f e))
  numbered name (Some f) is = by (position (same_handle f) handles) refl
    where
      lacks : None ≡ position (same_handle f) handles → (o : Option (Ptr Operation)) → function_named c m name ≡ o → None ≡ function_named c m name
      lacks e None n = sym n
      lacks e (Some g) n =
          let same : g ≡ f = same_Some g f (sym (found_under name g n) ∙ is) in
          let l = are.all g (first_listed (is_function_named c name) (members c m) g n)
          (name, found_passes (is_function_named c name) (members c m) g n) in
          absurd (not_found same_handle handle-test handles f e (subst (Lists handles) same l))

      by : (o : Option ℕ) → position (same_handle f) handles ≡ o → option_map (operation_with handles) o ≡ function_named c m name
      by None e = lacks (sym e) (function_named c m name) refl
      by (Some i) e =
          let at = found_at same_handle handle-test handles f i (sym e) in
          ap Some (get_or_from_slice_get handles i f no_handle at) ∙ sym (under_found name f is (i, at))

  within : (o : Option (Ptr Operation)) (i : ℕ) → option_and_then (λ f. position (same_handle f) handles) o ≡ Some i → i < length handles
  within None i e = cc
  within (Some f) i e = (position-Some (same_handle f) handles i f e).0

  pub function_table : IsFunctionTable c m handles (number_of tables m handles)
  function_table = record {
    named = λ name. ap (option_map (operation_with handles)) (number_is name) ∙ numbered name (entry_at have.table name) refl;
    below = λ name i e. within (entry_at have.table name) i (sym (number_is name) ∙ e);
    back = λ i f e. let of = are.each f (i, e) in (of.1.0, under_found of.1.0 f (under of.1.0 f of.0 of.1.1) (i, e));
  }

-- the same of the module by another name
pub table_by : (c : KitProgram) (within outer : Ptr Operation) (handles : List (Ptr Operation)) (tables : TableEntries) → outer ≡ within
    → IsFunctionTable c within handles (number_of tables within handles) → IsFunctionTable c outer handles (number_of tables outer handles)
table_by c within outer handles tables e t = subst (λ m. IsFunctionTable c m handles (number_of tables m handles)) (sym e) t

-- a collection in which one table was made
pub made_table : (c : KitProgram) (m : Ptr Operation) (new : TableEntries) → KeepsTable symbol_of holds_table c m [] new → HaveTableOf c m new
made_table c m new (KeepsTable.kept some) = absurd (false≢true some)
made_table c m new (KeepsTable.made none table is) = record {
  table = table;
  kept = ap (λ (b : Bool). if b then Some table else None) (itself m);
  is = is;
}
