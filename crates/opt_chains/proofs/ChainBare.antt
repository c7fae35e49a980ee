-- A block that is joinable to another is under the place where looking begins, and ends in a bare branch to the other.
use Rattle.std.proofs.Common.{◌≡◌, zero, ◌-◌, Bool, true, false, ◌&&◌, List, [], ◌∷◌, map, length, option_map, unwrap_or, slice_get, refl, sym, ap, ◌∙◌, subst, arith}
use Rattle.ir_program.specs.Lists.{operations_in, StandsInBlock}
use Rattle.ir_program.specs.Program.{Program, TypedValue, OperationView}
use Rattle.ir_program.specs.Rows.{successors_at}
use Rattle.ir_program.specs.declared.handles.Ptr.{Ptr}
use Rattle.ir_program.specs.declared.handles.Operation.{Operation}
use Rattle.ir_program.specs.declared.handles.BasicBlock.{BasicBlock}
use Rattle.ir_program.specs.declared.handles.Region.{Region}
use Rattle.ir_trees.specs.Stands.{by_handle, in_program, ProgramTree, ProgramHead, defined_by, head_of, AreTree, no_regions, first_region}
use Rattle.ir_trees.specs.Trees.{Regions, Tree}
use Rattle.opt_inside.proofs.Around.{HasLists}
use Rattle.opt_inside.specs.Occurring.{EachFound, IsOccurrence}
use Rattle.opt_trees.specs.Dialect.{Dialect}
use Rattle.opt_trees.specs.Simplify.{StartingRegions, Joinable, is_bare, is_empty, is_end}
use Rattle.opt_inside.specs.reach.Edges.{IsUnder, IsBlockUnder, HasLocalEdgesFrom}
use Rattle.opt_inside.specs.reach.Starts.{IsStartIn}
use Rattle.opt_inside.specs.declared.reach.starts.Start.{Start}
use Rattle.opt_inside.proofs.ReachLemmas.Under.{spot_under, under_block}
use Rattle.opt_chains.specs.Exits.{IsBareExit}
use Rattle.opt_chains.proofs.ChainExits.{with_last}

both_true : (a b : Bool) → (a && b) ≡ true → (a ≡ true) × (b ≡ true)
both_true true b e = (refl, e)
both_true false b e = let f : false ≡ true = e in cc

none_defined : (ts : List TypedValue) → is_empty (map defined_by ts) ≡ true → ts ≡ []
none_defined [] e = refl
none_defined (x ∷ ts) e = let f : false ≡ true = e in cc

no_handles : {O B : Type 0} (c : Program O B) (rs : List (Ptr Region)) (t : Tree by_handle (in_program O B) Regions) → AreTree c Regions rs t → is_end t ≡ true → rs ≡ []
no_handles c _ _ no_regions e = refl
no_handles c _ _ (first_region r rs v blocks rest there inner more) e = let f : false ≡ true = e in cc

module _ {O B A : Type 0} (d : Dialect (in_program O B) A) (place : StartingRegions by_handle) (c : Program O B) (op : Ptr Operation) (t : ProgramTree O B) (lists : HasLists c) (start : Start) (is_start : IsStartIn c start place) (edges : HasLocalEdgesFrom d.is_terminator c start)
    (sound : EachFound t (IsOccurrence c op)) where
  pub source_under : (x y : Ptr BasicBlock) → Joinable d place t x y → IsBlockUnder c start x
  source_under x y joins =
      let i = sound joins.last joins.stands in
      subst (IsBlockUnder c start) joins.in_block (spot_under d place c lists start is_start op t sound joins.last.site.label.name joins.last.site.spot i.spot joins.visited.visited)

  pub last_under : (x y : Ptr BasicBlock) (joins : Joinable d place t x y) → IsUnder c start joins.last.head.name
  last_under x y joins =
      let i = sound joins.last joins.stands in
      under_block c start joins.last.head.name x (subst (StandsInBlock c joins.last.head.name) joins.in_block i.in_block) (source_under x y joins)

  pub joinable_exit : (x y : Ptr BasicBlock) (joins : Joinable d place t x y) → IsBareExit d c x joins.last.head.name y
  joinable_exit x y joins =
      let i = sound joins.last joins.stands in
      let bare : is_bare d (head_of {B = B} joins.last.head.name i.view) joins.last.regions ≡ true = ap (λ (h : ProgramHead O B). is_bare d h joins.last.regions) (sym i.head) ∙ joins.bare in
      let first = both_true (d.is_branch i.view.payload) (is_empty (map defined_by i.view.results) && is_end joins.last.regions) bare in
      let second = both_true (is_empty (map defined_by i.view.results)) (is_end joins.last.regions) first.1 in
      let row : i.view.successors ≡ y ∷ [] = sym (ap (λ (h : ProgramHead O B). h.successors) i.head) ∙ joins.leads in
      let named : successors_at c joins.last.head.name ≡ y ∷ [] = ap (λ o. unwrap_or (option_map (λ (v : OperationView O). v.successors) o) []) i.there ∙ row in
      let here : StandsInBlock c joins.last.head.name x = subst (StandsInBlock c joins.last.head.name) joins.in_block i.in_block in
      let end = edges.last joins.last.head.name y x here.index (last_under x y joins) (zero, ap (λ l. slice_get l zero) named) here.here in
      let index : length (operations_in c x) - 1 ≡ here.index = omega (arith, end) in
      record {
        ends = with_last (operations_in c x) joins.last.head.name (ap (slice_get (operations_in c x)) index ∙ here.here);
        view = i.view;
        there = i.there;
        branches = first.0;
        results = none_defined i.view.results second.0;
        regions = no_handles c i.view.regions joins.last.regions i.regions second.1;
        successors = row;
      }
