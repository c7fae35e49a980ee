-- What becomes of what is open where only its body is another one.
use Rattle.std.proofs.Common.{◌≡◌, ◌∙◌, ℕ, zero, suc, ◌<◌, List, [], ◌∷◌, length, Option, Some, option_map, Result, Ok, Err, OnOk, ap, refl, sym, subst}
use Rattle.std.proofs.lemmas.Option.{slice_get_within}
use Rattle.ir_base.specs.declared.types.TypeHandle.{TypeHandle}
use Rattle.ir_context.specs.Known.{AreKnownIn}
use Rattle.ir_names.specs.Tree.{Trees, node}
use Rattle.ir_program.specs.Program.{RegionView, operation_at, block_at, region_at}
use Rattle.ir_print.specs.Pieces.{value_of_kind, list, item, chosen, operands, successor, region, leaf, name, number, width, ValueTree}
use Rattle.text_dialect.specs.declared.dialect.MakeFault.{MakeFault}
use Rattle.text_dialect.specs.declared.dialect.MakeFault.TheVariants as make
use Rattle.ir_print.specs.declared.format.Part.{Part}
use Rattle.ir_print.specs.Shown.{Saying, Pairs, ShowsType}
use Rattle.ir_types.specs.Interned.{KeepsTypes}
use Rattle.ir_types.specs.Views.{TypesView}
use Rattle.ir_tokens.specs.declared.faults.Fault.{Fault}
use Rattle.text_frames.specs.declared.opened.AssemblyFault.{AssemblyFault}
use Rattle.text_frames.specs.declared.opened.AssemblyFault.TheVariants.{Memory, Text}
use Rattle.text_frames.specs.declared.opened.Body.{Body}
use Rattle.text_frames.specs.declared.opened.Open.{Open}
use Rattle.ir_forest.specs.ValueFaults.{piece_token}
use Rattle.ir_tokens.specs.declared.faults.FaultKind.{FaultKind}
use Rattle.ir_forest.specs.Forest.{ActionSpan}
use Rattle.text_frames.specs.Opened.{HasPut}
use Rattle.text_dialect.specs.Seen.{seen, seen_operation, seen_block}
use Rattle.text_frames.specs.building.Kept.{KeepsKeys, SameSeen}
use Rattle.ir_print.specs.declared.format.ValueSort.TheVariants as sorts
use Rattle.text_frames.proofs.BuildingLemmas.Opened.{ContextOf}

-- a part that is put where the body has become another one
pub put_with_body : {D K A T : Type 0} (f between g : Open D K A T) (b : Body D K A T) (p q : Part D K A T) (tokens : List ℕ)
    → between ≡ record f { body = b } → p ≡ q → HasPut between g between.body p tokens → HasPut f g b q tokens
put_with_body f between g b p q tokens e ep h = record {
  body = h.body ∙ ap (λ x. x.body) e;
  first = h.first ∙ ap (λ x. x.first) e;
  content = record {
    parts = cc (h.content.parts, ap (λ x. x.content.value.parts.items) e, ep);
    tokens = cc
        (h.content.tokens, ap (λ x. x.content.value.tokens.items) e);
  };
  names = h.names;
  numbers = h.numbers ∙ ap (λ x. x.numbers) e;
}

-- a fault of this kind at the part with a number
abbrev pub fault_at_part : FaultKind → Trees ActionSpan → ℕ → ℕ → Fault
fault_at_part kind ts last i = record { kind = kind; met = last; place = piece_token ts i last }

-- what a value isn't made for is a fault at the part that its dialect refuses
pub refused_at_part : (r : AssemblyFault) (fault : MakeFault) (kind : FaultKind) (ts : Trees ActionSpan) (at : Option ℕ) (last : ℕ)
    → ((i : ℕ) → fault ≡ make.Refused i → at ≡ Some i)
    → ((i : ℕ) → fault ≡ make.Refused i → r ≡ Text (fault_at_part kind ts last i))
    → (fault ≡ make.Memory → r ≡ Memory)
    → (f : Fault) → r ≡ Text f → (i : ℕ) × (at ≡ Some i) × (f ≡ fault_at_part kind ts last i)
refused_at_part r (make.Refused i) kind ts at last h n m f e = let p = n i refl in (i, h i refl, cc (p, e))
refused_at_part r make.Memory kind ts at last h n m f e = let q = m refl in let bad : ⊥ = cc (q, e) in absurd bad

-- types that stay under their handles stay at their places
pub keeps_keys : {K B S : Type 0} (s t : TypesView K B S) → KeepsTypes s t → KeepsKeys s.keys t.keys
keeps_keys s t h i key e = (h (record { number = i }) key e).0

-- where the program is the same and types are kept, each handle leads to what it led to
pub interned_same : {D TypeKind AttrKind TypeBody Saved Location OpKind Attr TypeKey : Type 0}
    (c d : ContextOf D TypeKind AttrKind TypeBody Saved Location OpKind Attr TypeKey)
    → d.program ≡ c.program → KeepsTypes c.types d.types → SameSeen (seen c) (seen d)
interned_same c d same keeps = record {
  operations = λ p. ap (λ q. option_map seen_operation (operation_at q p)) same;
  blocks = λ b. ap (λ q. option_map seen_block (block_at q b)) same;
  regions = λ r. ap (λ q. option_map (λ (v : RegionView). v.blocks) (region_at q r)) same;
  types = keeps_keys c.types d.types keeps;
}

-- a type that shows something is there
module _ {K A T : Type 0} (says : Saying K A T) (types : List T) where
  known_one : (ty : TypeHandle) (t : ValueTree) → ShowsType says types ty t → ty.number < length types
  known_one ty (node (value_of_kind sorts.«Type» n) ts) (u, key, us, e, at, says_it, all) = let same : ty ≡ u = cc in
      subst (λ (x : TypeHandle). x.number < length types) (sym same) (slice_get_within types u.number key at)
  known_one ty (node (value_of_kind sorts.Attribute n) ts) (attr, us, e, says_it, all) = cc
  known_one ty (node list ts) (us, e, all) = cc
  known_one ty (node item ts) (us, e, all) = cc
  known_one ty (node (chosen n) ts) (us, e, all) = cc
  known_one ty (node (operands n) ts) e = cc
  known_one ty (node (successor n) ts) e = cc
  known_one ty (node region ts) e = cc
  known_one ty (node (leaf x) ts) e = cc

  -- types that show something are there
  pub shown_known : (tys : List TypeHandle) (ts : List ValueTree) → Pairs (ShowsType says types) tys ts
      → AreKnownIn (length types) tys
  shown_known [] [] h k ty e = cc
  shown_known [] (t ∷ ts) h k ty e = absurd h
  shown_known (u ∷ tys) [] h k ty e = absurd h
  shown_known (u ∷ tys) (t ∷ ts) h zero ty e = let same : u ≡ ty = cc in
      subst (λ (x : TypeHandle). x.number < length types) same (known_one u t h.0)
  shown_known (u ∷ tys) (t ∷ ts) h (suc k) ty e = shown_known tys ts h.1 k ty e

-- what stands in pairs is as many
pub as_many : {X Y : Type 0} (R : X → Y → Type 0) (xs : List X) (ys : List Y) → Pairs R xs ys → length xs ≡ length ys
as_many R [] [] h = refl
as_many R [] (y ∷ ys) h = absurd h
as_many R (x ∷ xs) [] h = absurd h
as_many R (x ∷ xs) (y ∷ ys) h = ap suc (as_many R xs ys h.1)

-- a fault that is handed on is the same one
pub handed_on : (o : Option Fault) (a : AssemblyFault) (f h : Fault) → a ≡ Text h → o ≡ Some h → Text f ≡ a → o ≡ Some f
handed_on o a f h e is g = cc (e, is, g)

-- what holds on success holds where it holds anyhow
pub always_ok : {T E : Type 0} (r : Result T E) (P : Type 0) → P → OnOk r P
always_ok (Ok x) P p = p
always_ok (Err e) P p = tt
