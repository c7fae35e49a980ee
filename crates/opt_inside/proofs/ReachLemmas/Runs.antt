-- Which regions are visited, as it is tested.
use Rattle.std.proofs.Common.{◌≡◌, inr, ⊎_elim, ℕ, ◌≤◌, Bool, true, List, [], length, Option, None, Some, IsSome, slice_get, option_map, unwrap_or, refl, sym, ap, ◌∙◌, arith}
use Rattle.std.specs.Prelude.{◌↔◌}
use Rattle.std.proofs.lemmas.Option.{slice_get_within, same_Some}
use Rattle.ir_program.specs.Program.{Program, OperationView, operation_at}
use Rattle.ir_program.specs.Lists.{StandsInBlock, StandsInRegion, StandsInOperation, blocks_in, regions_in}
use Rattle.ir_program.specs.Lent.{payload_at}
use Rattle.ir_program.specs.Replacing.{same_block}
use Rattle.ir_program.specs.declared.handles.Ptr.{Ptr}
use Rattle.ir_program.specs.declared.handles.Operation.{Operation}
use Rattle.ir_program.specs.declared.handles.Region.{Region}
use Rattle.ir_program.specs.declared.handles.BasicBlock.{BasicBlock}
use Rattle.ir_program.proofs.used.Renaming.{block-test}
use Rattle.ir_trees.specs.Searched.{Lists, AreDistinct}
use Rattle.ir_trees.specs.Stands.{in_program}
use Rattle.opt_trees.specs.Dialect.{Dialect}
use Rattle.opt_inside.specs.reach.Fates.{HasVisit, fate, IsJudgedFate}
use Rattle.opt_inside.specs.reach.Paths.{number_in}
use Rattle.opt_inside.specs.reach.Starts.{BeginsAtRegion}
use Rattle.opt_inside.specs.declared.reach.fates.Fate.{Fate}
use Rattle.opt_inside.specs.declared.reach.fates.Fate.TheVariants.{Entered}
use Rattle.opt_inside.specs.declared.reach.starts.Start.{Start}
use Rattle.opt_inside.proofs.ReachLemmas.Places.{placed, unplaced, listed_or_not, own_place}

module _ {O B : Type 0} (c : Program O B) (start : Start) (keys : List (Ptr BasicBlock)) (fates : List Fate) (q : Ptr Operation) (r : Ptr Region) (other : BeginsAtRegion c start q r → ⊥) where
  pub run_there : AreDistinct keys → length fates ≤ length keys → (b : Ptr BasicBlock) → StandsInBlock c q b → ((a : Ptr BasicBlock) → StandsInBlock c q a → a ≡ b)
      → (k : ℕ) → k ≡ number_in keys b → (is : Bool) → (is ≡ true) ↔ (slice_get fates k ≡ Some Entered) → (is ≡ true) ↔ HasVisit c start keys fates q r
  run_there once short b stands only k number is says = (
    λ h. let f = says.0 h in let l = slice_get_within fates k Entered f in ⊎_elim
        (λ (in_keys : Lists keys b). inr (b, stands, k, ap (slice_get keys) number ∙ placed same_block block-test keys b in_keys, f))
        (λ (out : Lists keys b → ⊥). let e = unplaced same_block block-test keys b out in absurd (omega (arith, l, e, number, short)))
        (listed_or_not same_block block-test keys b),
    λ run. ⊎_elim
        (λ e. absurd (other e))
        (λ (h : (a : Ptr BasicBlock) × StandsInBlock c q a × (j : ℕ) × (slice_get keys j ≡ Some a) × (slice_get fates j ≡ Some Entered)).
        let same : h.0 ≡ b = only h.0 h.1 in
        let at : k ≡ h.2 = number ∙ own_place same_block block-test keys once h.2 b (h.3 ∙ ap Some same) in
        says.1 (ap (slice_get fates) at ∙ h.4))
        run,
  )

  pub run_nowhere : ((a : Ptr BasicBlock) → StandsInBlock c q a → ⊥) → HasVisit c start keys fates q r → ⊥
  run_nowhere none run = ⊎_elim (λ e. other e) (λ (h : (a : Ptr BasicBlock) × StandsInBlock c q a × (j : ℕ) × (slice_get keys j ≡ Some a) × (slice_get fates j ≡ Some Entered)). none h.0 h.1) run

module _ {O B A : Type 0} (d : Dialect (in_program O B) A) (c : Program O B) (start : Start) (keys : List (Ptr BasicBlock)) (fates : List Fate) (b : Ptr BasicBlock) (reach : Bool) (f : Fate) where
  pub judged : (r : Ptr Region) → StandsInRegion c b r → (q : Ptr Operation) → StandsInOperation c r q → (visited : Bool) → (visited ≡ true) ↔ HasVisit c start keys fates q r
      → (w : O) → payload_at c q ≡ Some w → (i : ℕ) → ((p : Ptr Operation) (k : ℕ) → slice_get (regions_in c p) k ≡ Some r → i ≡ k) → (ssa : Bool) → ssa ≡ d.is_ssa w i
      → (first : Bool) → (first ≡ true) ↔ (slice_get (blocks_in c r) 0 ≡ Some b) → f ≡ fate visited ssa reach first → IsJudgedFate d c start keys fates b reach f
  judged r in_r q of_q visited visit w holds i index ssa is_ssa first entry is = from_view (operation_at c q) refl of_q.operation where
    from_view : (o : Option (OperationView O)) → operation_at c q ≡ o → IsSome o → IsJudgedFate d c start keys fates b reach f
    from_view None e h = absurd (cc)
    from_view (Some v) e h =
        let at : i ≡ of_q.index = index q of_q.index of_q.here in
        let same : w ≡ v.payload = same_Some w v.payload (sym holds ∙ ap (option_map (λ (x : OperationView O). x.payload)) e) in
        record {
          region = r;
          in_region = in_r;
          owner = q;
          view = v;
          there = e;
          index = i;
          here = ap (slice_get v.regions) at ∙ ap (λ x. slice_get (unwrap_or (option_map (λ (y : OperationView O). y.regions) x) []) of_q.index) (sym e) ∙ of_q.here;
          visited = visited;
          visit = visit;
          first = first;
          entry = entry;
          is = is ∙ (λ j. fate visited ((is_ssa ∙ (λ k. d.is_ssa (same k) i)) j) reach first);
        }
