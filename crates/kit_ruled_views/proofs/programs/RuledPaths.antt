-- A path leads to a function at a place of the tree, so where the module keeps the rules it leads to a ruled function.
use Rattle.std.proofs.Common.{◌≡◌, ℕ, zero, suc, Bool, true, false, List, [], ◌∷◌, ◌++◌, Option, Some, None, slice_get}
use Rattle.std.proofs.Common.{refl, ap, subst}
use Rattle.std.specs.Prelude.{option_and_then, if◌then◌else◌}
use Rattle.ir_base.specs.declared.types.TypeHandle.{TypeHandle}
use Rattle.ir_program.specs.declared.handles.Value.{Value}
use Rattle.ir_trees.specs.Trees.{Operations, Regions, end, operation, block, region}
use Rattle.kit.specs.Context.{KitTree}
use Rattle.kit_checks.specs.KitWorld.{kit_world}
use Rattle.opt_trees.proofs.Lists.{some_same}
use Rattle.kit.specs.Meaning.{KitOperation, KitBlock}
use Rattle.kit_ops.specs.declared.kinds.KitOp.TheVariants as ops
use Rattle.kit_ops.specs.declared.types.KitType.{KitType}
use Rattle.kit_checks.specs.declared.rule.Rule.{Rule}
use Rattle.kit_checks.specs.Faults.{KeptEverywhere}
use Rattle.kit_checks.specs.Sites.{Listed, Around, operation_list, block_list, region_list, site_at}
use Rattle.kit_ruled_views.specs.Ruled.{IsRuledFunction}
use Rattle.kit_ruled_views.proofs.FunctionSites.{KitBlocks, KitBody, outer_if, inner_place}
use Rattle.kit_ruled_views.specs.Paths.{is_function_named, is_module_named, first_with, members_in, locate}
use Rattle.kit_ruled_views.proofs.programs.Located.{function_kind_of}

-- the operation is at a place of the tree
record IsPlaced (t u : KitTree) : Type 0 where
  place : List ℕ
  around : Option (Around KitOperation KitBlock)
  there : site_at t place ≡ Some (record { op = u; around = around })

-- the operation passes the test, and is one of these
record IsMember (test : KitOperation → Bool) (os : Listed KitOperation KitBlock Operations) (u : KitTree) : Type 0 where
  index : ℕ
  here : slice_get (operation_list os) index ≡ Some u
  passes : test u.head.content ≡ true

member_of : (test : KitOperation → Bool) (os : Listed KitOperation KitBlock Operations) (u : KitTree) →
    first_with test os ≡ Some u → IsMember test os u
member_of test end u e = absurd (cc e)
member_of test (operation h rs rest) u e = by_test (test h.content) refl e (member_of test rest u)
  where
    by_test : (b : Bool) → test h.content ≡ b →
        (if b then Some (record { head = h; regions = rs }) else first_with test rest) ≡ Some u →
        (first_with test rest ≡ Some u → IsMember test rest u) → IsMember test (operation h rs rest) u
    by_test true q f ih =
        let own : KitTree = record { head = h; regions = rs } in
        let same : own ≡ u = some_same own u f in
        record {
          index = zero;
          here = ap Some same;
          passes = subst (λ (x : KitTree). test x.head.content ≡ true) same q;
        }
    by_test false q f ih =
        let m = ih f in
        record { index = suc m.index; here = m.here; passes = m.passes }

-- it is in the first block of the first region
record IsInFirst (test : KitOperation → Bool) (rs : Listed KitOperation KitBlock Regions) (u : KitTree) : Type 0 where
  blocks : KitBlocks
  body : KitBody
  region_here : slice_get (region_list rs) 0 ≡ Some blocks
  block_here : slice_get (block_list blocks) 0 ≡ Some body
  member : IsMember test body.operations u

in_first : (test : KitOperation → Bool) (rs : Listed KitOperation KitBlock Regions) (u : KitTree) →
    first_with test (members_in rs) ≡ Some u → IsInFirst test rs u
in_first test end u e = absurd (cc e)
in_first test (region end rest) u e = absurd (cc e)
in_first test (region (block l os more) rest) u e = record {
  blocks = block l os more;
  body = record { label = l; operations = os };
  region_here = refl;
  block_here = refl;
  member = member_of test os u e;
}

module _ (t : KitTree) where
  further : (m : KitTree) → IsPlaced t m → (test : KitOperation → Bool) (u : KitTree) → IsInFirst test m.regions u →
      IsPlaced t u
  further m at test u first = record {
    place = at.place ++ 0 ∷ 0 ∷ first.member.index ∷ [];
    around = Some (record {
      owner = m;
      outer = outer_if at.around;
      blocks = first.blocks;
      number = 0;
      body = first.body;
      index = first.member.index;
    });
    there = inner_place t (record { op = m; around = at.around }) at.place at.there 0 0 first.member.index first.blocks
        first.body u first.region_here first.block_here first.member.here;
  }

  -- a function that a path leads to
  record IsPlacedFunction (u : KitTree) : Type 0 where
    at : IsPlaced t u
    kind : u.head.content.kind ≡ ops.Func

  placed_function : (numbered : List ℕ → ℕ) (path : List ℕ) (m : KitTree) → IsPlaced t m → (u : KitTree) →
      locate numbered path m ≡ Some u → IsPlacedFunction u
  placed_function numbered [] m at u e = absurd (cc e)
  placed_function numbered (x ∷ []) m at u e =
      let first = in_first (is_function_named numbered x) m.regions u e in
      record {
        at = further m at (is_function_named numbered x) u first;
        kind = function_kind_of numbered x u.head.content first.member.passes;
      }
  placed_function numbered (x ∷ y ∷ path) m at u e =
      by_module (first_with (is_module_named numbered x) (members_in m.regions)) refl e
      (λ n there. placed_function numbered (y ∷ path) n there u)
    where
      by_module : (o : Option KitTree) → first_with (is_module_named numbered x) (members_in m.regions) ≡ o →
          option_and_then (locate numbered (y ∷ path)) o ≡ Some u →
          ((n : KitTree) → IsPlaced t n → locate numbered (y ∷ path) n ≡ Some u → IsPlacedFunction u) →
          IsPlacedFunction u
      by_module None q f ih = absurd (cc f)
      by_module (Some n) q f ih =
          ih n (further m at (is_module_named numbered x) n (in_first (is_module_named numbered x) m.regions n q)) f

-- what a path leads to in a module that keeps the rules
pub ruled_at : (leads : TypeHandle → Option KitType) (typed : Value → Option TypeHandle) (numbered : List ℕ → ℕ)
    (t : KitTree) → ((r : Rule) → KeptEverywhere (kit_world leads typed) t r) → (path : List ℕ) (u : KitTree) →
    locate numbered path t ≡ Some u → IsRuledFunction leads typed u
ruled_at leads typed numbered t keeps path u e =
    let f = placed_function t numbered path t (record { place = []; around = None; there = refl }) u e in
    record {
      root = t;
      keeps = keeps;
      place = f.at.place;
      around = f.at.around;
      there = f.at.there;
      function = f.kind;
    }
