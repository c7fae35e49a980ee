-- Values that definitions get one by one.
use Rattle.std.proofs.Common.{◌≡◌, ◌∙◌, ℕ, zero, suc, ◌+◌, ◌<◌, ◌≤◌, List, [], ◌∷◌, drop, map, length, get_or, slice_get, Option, Some, option_map, unwrap_or, sym, ap, arith, add-one}
use Rattle.std.proofs.Math.ListN.{set}
use Rattle.std.proofs.lemmas.List.{set_past}
use Rattle.ir_names.specs.declared.identifier.Identifier.{Identifier}
use Rattle.ir_base.specs.declared.types.TypeHandle.{TypeHandle}
use Rattle.ir_program.specs.declared.handles.Ptr.{Ptr}
use Rattle.ir_program.specs.declared.handles.BasicBlock.{BasicBlock}
use Rattle.ir_program.specs.declared.handles.Value.{Value}
use Rattle.ir_program.specs.declared.handles.Operation.{Operation}
use Rattle.ir_program.specs.declared.handles.DefiningEntity.{DefiningEntity}
use Rattle.ir_program.specs.declared.handles.DefiningEntity.TheVariants.{Op as ByOp, Block as ByBlock}
use Rattle.ir_program.specs.Adds.{numbered_values}
use Rattle.ir_program.specs.Program.{TypedValue}
use Rattle.text_dialect.specs.Seen.{SeenOperation, SeenBlock, Seen}
use Rattle.text_frames.specs.building.Loose.{values_of, IsDefinedValue}
use Rattle.text_frames.specs.building.Made.{OpensBlock, MakesDetachedOperation}
use Rattle.text_frames.specs.Worlds.{set_all, values_alone}
use Rattle.text_frames.proofs.Rising.{get_map, numbered_length, numbered_value, made_at}

-- a value with its type
abbrev typed_as : Value → TypeHandle → TypedValue
typed_as v ty = record { value = v; ty = ty }

module _ {X : Type 0} (f : X → Value) where
  defines_next : (ns : List ℕ) (ds : List X) (i n : ℕ) (v : Value) (values : List (Option Value)) → i < length ns
      → get_or ns i 0 ≡ n → option_map f (slice_get ds i) ≡ Some v
      → set_all (drop i ns) (map f (drop i ds)) values
      ≡ set_all (drop (suc i) ns) (map f (drop (suc i) ds)) (set values n (Some v))
  defines_next [] ds i n v values lt en ev = absurd (omega arith)
  defines_next (m ∷ ns) [] i n v values lt en ev = cc
  defines_next (m ∷ ns) (d ∷ ds) zero n v values lt en ev = cc (en, ev)
  defines_next (m ∷ ns) (d ∷ ds) (suc i) n v values lt en ev = defines_next ns ds i n v values (omega arith) en ev

  -- one more definition gets its value
  pub defines_more : (ns : List ℕ) (ds : List X) (i n : ℕ) (v : Value) (values : List (Option Value)) → i < length ns
      → get_or ns i 0 ≡ n → option_map f (slice_get ds i) ≡ Some v
      → set_all (drop i ns) (map f (drop i ds)) values
      ≡ set_all (drop (i + 1) ns) (map f (drop (i + 1) ds)) (set values n (Some v))
  defines_more ns ds i n v values lt en ev = rw add-one (defines_next ns ds i n v values lt en ev)

  defines_past : (ns : List ℕ) (ds : List X) (i n : ℕ) (values : List (Option Value)) → i < length ns → i < length ds
      → get_or ns i 0 ≡ n → length values ≤ n
      → set_all (drop i ns) (map f (drop i ds)) values ≡ set_all (drop (suc i) ns) (map f (drop (suc i) ds)) values
  defines_past [] ds i n values lt less en past = absurd (omega arith)
  defines_past (m ∷ ns) [] i n values lt less en past = absurd (omega arith)
  defines_past (m ∷ ns) (d ∷ ds) zero n values lt less en past =
      let far : length values ≤ m = rw en past in
      ap (λ vs. set_all ns (map f ds) vs) (set_past values m (Some (f d)) far)
  defines_past (m ∷ ns) (d ∷ ds) (suc i) n values lt less en past = defines_past ns ds i n values (omega arith)
      (omega arith) en past

  -- a number past all values gets none
  pub defines_none : (ns : List ℕ) (ds : List X) (i n : ℕ) (values : List (Option Value)) → i < length ns
      → i < length ds → get_or ns i 0 ≡ n → length values ≤ n
      → set_all (drop i ns) (map f (drop i ds)) values ≡ set_all (drop (i + 1) ns) (map f (drop (i + 1) ds)) values
  defines_none ns ds i n values lt less en past = rw add-one (defines_past ns ds i n values lt less en past)

-- the values of what was made are those of the definitions that were named
pub values_made : (e : DefiningEntity) (n : ℕ) (ds : List TypedValue) (types there : List TypeHandle)
    (ns numbers : List ℕ) (old values new : List (Option Value))
    → ds ≡ numbered_values e n types → types ≡ there → ns ≡ numbers → old ≡ values
    → (length ns ≡ length ds → new ≡ set_all ns (values_alone ds) old)
    → length numbers ≡ length there → new ≡ set_all numbers (values_alone (numbered_values e n there)) values
values_made e n ds types there ns numbers old values new made et en eo h many =
    let l : length ns ≡ length ds = ap length en ∙ many
    ∙ sym (ap length made ∙ numbered_length e n types ∙ ap length et) in
    rw (← en, ← et, ← eo, ← made) (h l)

module _ {K A T : Type 0} where
  -- the arguments of a block that was made
  pub arguments_made : (s t : Seen K A T) (b : Ptr BasicBlock) (label : Option Identifier) (types : List TypeHandle)
      (n : ℕ) → OpensBlock s t b label types n
      → values_of t (ByBlock b) ≡ numbered_values (ByBlock b) n types
  arguments_made s t b label types n h = ap
      (λ (o : Option SeenBlock). unwrap_or (option_map (λ (v : SeenBlock). v.arguments) o) []) h.made

  -- the results of an operation that was made
  pub results_made : (s t : Seen K A T) (p : Ptr Operation) (kind : K) (attributes : List (List ℕ × A))
      (types : List TypeHandle) (n : ℕ) (bss : List (List (Ptr BasicBlock)))
      → MakesDetachedOperation s t p kind attributes types n bss → values_of t (ByOp p) ≡ numbered_values (ByOp p) n types
  results_made s t p kind attributes types n bss h = ap
      (λ (o : Option (SeenOperation K A)). unwrap_or (option_map (λ (u : SeenOperation K A). u.results) o) []) h.made

  -- what was made defines its values
  pub numbered_defined : (t : Seen K A T) (e : DefiningEntity) (n : ℕ) (types : List TypeHandle)
      → values_of t e ≡ numbered_values e n types
      → (i : ℕ) (v : Value) → slice_get (values_alone (numbered_values e n types)) i ≡ Some v
      → IsDefinedValue t v × (v.number ≡ n + i)
  numbered_defined t e n types same i v h =
      let x = get_map (λ (u : TypedValue). u.value) (numbered_values e n types) i v h in
      let is : v ≡ numbered_value e (n + i) = made_at e n types i v h in
      let definer : v.definer ≡ e = ap (λ (u : Value). u.definer) is in
      let here : slice_get (values_of t v.definer) i
      ≡ Some x.0 = ap (λ (d : DefiningEntity). slice_get (values_of t d) i) definer
      ∙ ap (λ (ds : List TypedValue). slice_get ds i) same ∙ x.1 in (
        record { index = i; ty = x.0.ty; here = here ∙ ap (λ (u : Value). Some (typed_as u x.0.ty)) x.2 },
        ap
            (λ (u : Value). u.number) is,
      )
