-- A program is empty exactly where no key leads to an operation, a block or a region.
use Rattle.std.proofs.Common.{◌≡◌, ◌↔◌, Bool, IsTrue, Option, Some, None, option_map, ap, refl}
use Rattle.ir_arena.specs.Arena.{IsVacant}
use Rattle.ir_program.specs.Handles.{handle}
use Rattle.ir_program.specs.Program.{Program, operation_of, block_of, region_of}
use Rattle.ir_program.specs.Lists.{IsEmptyProgram}

map-none : {X Y : Type 0} (f : X → Y) (x : Option X) → option_map f x ≡ None → x ≡ None
map-none f None e = refl
map-none f (Some x) e = cc

pub empty_exactly : {O B : Type 0} (c : Program O B) (b : Bool) → (IsTrue b ↔ (IsVacant c.forest.ops × IsVacant c.forest.blocks × IsVacant c.forest.regions)) → (IsTrue b ↔ IsEmptyProgram c)
empty_exactly c b vacant = (
  λ t. record {
    operations = λ p. ap (option_map (operation_of c p)) ((vacant.0 t).0 p.key);
    regions = λ p. ap (option_map (λ _. region_of c p)) ((vacant.0 t).2 p.key);
    blocks = λ p. ap (option_map (block_of c p)) ((vacant.0 t).1 p.key);
  },
  λ empty. vacant.1 (
    λ k. map-none (operation_of c (handle k)) _ (empty.operations (handle k)),
    λ k. map-none (block_of c (handle k)) _ (empty.blocks (handle k)),
    λ k. map-none (λ _. region_of c (handle k)) _ (empty.regions (handle k)),
  ),
)
