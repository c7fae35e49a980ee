-- A program with no operation, no block and no region keeps what every program keeps.
use Rattle.std.proofs.Common.{◌≡◌, ℕ, Bool, true, false, cond, eqb, List, [], None, option_map, refl, sym, ap, subst, slice_get, unwrap_or}
use Rattle.ir_arena.specs.declared.arena.Key.{Key}
use Rattle.ir_arena.specs.declared.arena.Slot.{Slot}
use Rattle.ir_arena.specs.Arena.{get, held}
use Rattle.ir_entities.specs.Uses.{key_of, place_of}
use Rattle.ir_program.specs.Program.{Program, definitions_of, definition_at, numbered}
use Rattle.ir_program.specs.Sound.{IsProgram, AreNumbered, operand_row, successor_row, thread_of_value, thread_of_block}
use Rattle.ir_program.specs.declared.handles.Value.{Value}
use Rattle.ir_program.specs.declared.handles.DefiningEntity.{DefiningEntity}
use Rattle.ir_program.specs.declared.handles.DefiningEntity.TheVariants.{Op as ByOp, Block as ByBlock}

pub either : {T : Type 0} (b : Bool) (x : T) → cond b x x ≡ x
either true x = refl
either false x = refl

-- no key leads anywhere where there is no slot
pub get_empty : {T : Type 0} (slots : List (Slot T)) (k : Key) → slots ≡ [] → get slots k ≡ None
get_empty slots k e = rw e (either (eqb 0 k.version) None)

pub held_empty : {T : Type 0} (slots : List (Slot T)) (i : ℕ) → slots ≡ [] → held slots i ≡ None
held_empty slots i e = rw e refl

module _ {O B : Type 0} (c : Program O B) (o : c.forest.ops ≡ []) (b : c.forest.blocks ≡ []) where
  no_definitions : (e : DefiningEntity) → definitions_of c e ≡ []
  no_definitions (ByOp p) = ap (λ r. unwrap_or (option_map (λ r. r.results.items) r) []) (get_empty c.forest.ops p.key o)
  no_definitions (ByBlock p) = ap (λ r. unwrap_or (option_map (λ r. r.arguments.items) r) []) (get_empty c.forest.blocks p.key b)

  no_definition : (v : Value) → definition_at c v ≡ None
  no_definition v = ap (numbered v.number) (no_definitions v.definer)

  pub empty_program : c.forest.regions ≡ []
      → c.values.definitions ≡ [] → c.values.places ≡ [] → c.targets.definitions ≡ [] → c.targets.places ≡ [] → IsProgram c
  empty_program r vd vp td tp = record {
    operands = record { held = λ i k p h. let e : slice_get (operand_row c i) k ≡ None = ap (λ s. slice_get (unwrap_or (option_map (λ s. s.operands.items) s) []) k) (held_empty c.forest.ops i o) in cc; all = λ p x h. let e : place_of c.values p ≡ None = rw vp refl in cc };
    successors = record { held = λ i k p h. let e : slice_get (successor_row c i) k ≡ None = ap (λ s. slice_get (unwrap_or (option_map (λ s. s.successors.items) s) []) k) (held_empty c.forest.ops i o) in cc; all = λ p x h. let e : place_of c.targets p ≡ None = rw tp refl in cc };
    values = λ v t. (λ h. let e : thread_of_value c v ≡ None = ap (option_map (λ d. d.thread)) (no_definition v) in cc, λ h. let e : key_of c.values t ≡ None = rw vd refl in cc);
    blocks = λ p t. (λ h. let e : thread_of_block c p ≡ None = ap (option_map (λ b. b.thread)) (get_empty c.forest.blocks p.key b) in cc, λ h. let e : key_of c.targets t ≡ None = rw td refl in cc);
    numbers = λ e. subst (AreNumbered c.counter) (sym (no_definitions e)) (record { distinct = record {}; below = λ i d h. cc });
    own = λ e f j k d g h. let none : slice_get (definitions_of c e) j ≡ None = ap (λ l. slice_get l j) (no_definitions e) in cc;
    homes = λ i h. let e : held c.forest.regions i ≡ None = held_empty c.forest.regions i r in cc;
  }
