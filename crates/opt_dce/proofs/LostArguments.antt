-- Edits of one block, one after the other, and of blocks of a list.
use Rattle.std.proofs.Common.{◌≡◌, ⊎_elim, ℕ, suc, ◌+◌, ◌<◌, Bool, true, false, List, [], length, take, remove, Option, Some, None, IsSome, option_map, unwrap_or, slice_get, refl, sym, ap, ◌∙◌, subst}
use Rattle.std.proofs.lemmas.Option.{slice_get_within}
use Rattle.ir_program.specs.Edits.{EditsBlock}
use Rattle.ir_program.specs.Program.{Program, TypedValue, BlockView, block_at, arguments_at, value_in}
use Rattle.ir_program.specs.Uses.{IsUsed}
use Rattle.ir_program.specs.ValueEdits.{RemovesArgument}
use Rattle.ir_program.specs.declared.handles.Ptr.{Ptr}
use Rattle.ir_program.specs.declared.handles.BasicBlock.{BasicBlock}
use Rattle.ir_program.specs.declared.handles.Value.{Value}
use Rattle.ir_trees.specs.Stands.{in_program}
use Rattle.ir_program.specs.Lent.{block_payload_at}
use Rattle.opt_trees.specs.Dialect.{Dialect, drop}
use Rattle.opt_dialect.specs.Masks.{marked}
use Rattle.opt_dce.specs.declared.liveness.plan.DeadArguments.{DeadArguments}
use Rattle.opt_dce.specs.Steps.{LosesArguments, loses_arguments}
use Rattle.opt_dce.proofs.Lost.{erased_both}
use Rattle.opt_dce.proofs.Turns.{mapped_twice, there_within, not_before, before_or_it, it_next, before_next}
use Rattle.opt_dce.proofs.Picking.{dropped_from, none_from, one_from, kept_from, at_from}

-- the block without the arguments that are marked from an index on
abbrev pub loses_arguments_from : {B : Type 0} → ℕ → List Bool → BlockView B → BlockView B
loses_arguments_from i marks v = record v { arguments = dropped_from i (marked marks) v.arguments }

module _ {O B : Type 0} where
  -- two edits of one block
  pub edits_both : (old mid new : Program O B) (p : Ptr BasicBlock) (f h k : BlockView B → BlockView B) → EditsBlock old mid p f → EditsBlock mid new p h → ((v : BlockView B) → h (f v) ≡ k v) → EditsBlock old new p k
  edits_both old mid new p f h k a b e = record {
    edited = b.edited ∙ ap (option_map h) a.edited ∙ mapped_twice f h k e (block_at old p);
    others = λ q ne. b.others q ne ∙ a.others q ne;
    operations = λ q. b.operations q ∙ a.operations q;
    regions = λ q. b.regions q ∙ a.regions q;
    erased = erased_both old mid new a.erased b.erased;
  }

  -- an edit that changes nothing
  pub edits_none : (c : Program O B) (p : Ptr BasicBlock) (f : BlockView B → BlockView B) → ((v : BlockView B) → block_at c p ≡ Some v → f v ≡ v) → EditsBlock c c p f
  edits_none c p f same = record {
    edited = by_case (block_at c p) refl;
    others = λ q ne. refl;
    operations = λ q. refl;
    regions = λ q. refl;
    erased = record { operations = λ q s. s; blocks = λ q s. s; regions = λ q s. s };
  } where
    by_case : (o : Option (BlockView B)) → block_at c p ≡ o → o ≡ option_map f o
    by_case None e = refl
    by_case (Some v) e = ap Some (sym (same v e))

  pub begins : (c : Program O B) (p : Ptr BasicBlock) (marks : List Bool) → length marks ≡ length (arguments_at c p) → EditsBlock c c p (loses_arguments_from (length marks) marks)
  begins c p marks count = edits_none c p (loses_arguments_from (length marks) marks) (λ v there.
      let e : length marks ≡ length v.arguments = count ∙ ap (λ o. length (unwrap_or (option_map (λ (y : BlockView B). y.arguments) o) [])) there in
      λ j. record v { arguments = (ap (λ n. dropped_from n (marked marks) v.arguments) e ∙ none_from (marked marks) v.arguments) j })

  -- an operation that takes a value did so before
  pub used_before : (old new : Program O B) (p : Ptr BasicBlock) (f : BlockView B → BlockView B) → EditsBlock old new p f → (v : Value) → IsUsed new v → IsUsed old v
  used_before old new p f edits v u = (u.0, u.1, sym (edits.operations u.0) ∙ u.2, u.3, u.4)

  -- one turn: the argument at the index goes, or stays
  module _ (old mid : Program O B) (p : Ptr BasicBlock) (marks : List Bool) (i n : ℕ) (next : n ≡ suc i) (done : EditsBlock old mid p (loses_arguments_from n marks)) where
    done_next : EditsBlock old mid p (loses_arguments_from (suc i) marks)
    done_next = subst (λ m. EditsBlock old mid p (loses_arguments_from m marks)) next done

    at_now : slice_get (arguments_at mid p) i ≡ slice_get (arguments_at old p) i
    at_now = ap (λ o. slice_get (unwrap_or (option_map (λ (y : BlockView B). y.arguments) o) []) i) done_next.edited ∙ by_case (block_at old p) where
      by_case : (o : Option (BlockView B)) → slice_get (unwrap_or (option_map (λ (y : BlockView B). y.arguments) (option_map (loses_arguments_from (suc i) marks) o)) []) i ≡ slice_get (unwrap_or (option_map (λ (y : BlockView B). y.arguments) o) []) i
      by_case None = refl
      by_case (Some v) = at_from i (marked marks) v.arguments

    pub there_now : IsSome (block_at old p) → IsSome (block_at mid p)
    there_now h = subst IsSome (sym done.edited) (mapped (block_at old p) h) where
      mapped : (o : Option (BlockView B)) → IsSome o → IsSome (option_map (loses_arguments_from n marks) o)
      mapped None h = h
      mapped (Some v) h = h

    pub within_now : i < length (arguments_at old p) → i < length (arguments_at mid p)
    within_now lt = let x = there_within (arguments_at old p) i lt in slice_get_within (arguments_at mid p) i x.0 (at_now ∙ x.1)

    pub unused_now : ((k : ℕ) (v : Value) → slice_get marks k ≡ Some true → value_in (arguments_at old p) k ≡ Some v → IsUsed old v → ⊥) → slice_get marks i ≡ Some true → (v : Value) → value_in (arguments_at mid p) i ≡ Some v → IsUsed mid v → ⊥
    unused_now unused mark v at used = unused i v mark (ap (option_map (λ (t : TypedValue). t.value)) (sym at_now) ∙ at) (used_before old mid p (loses_arguments_from n marks) done v used)

    pub one_goes : (new : Program O B) → marked marks i ≡ true → RemovesArgument mid new p i → EditsBlock old new p (loses_arguments_from i marks)
    one_goes new h removes = edits_both old mid new p (loses_arguments_from (suc i) marks) (λ v. record v { arguments = remove v.arguments i }) (loses_arguments_from i marks) done_next removes
        (λ v j. record v { arguments = one_from i (marked marks) v.arguments h j })

    pub one_stays : marked marks i ≡ false → EditsBlock old mid p (loses_arguments_from i marks)
    one_stays h = subst (EditsBlock old mid p) (λ j v. record v { arguments = kept_from i (marked marks) v.arguments h j }) done_next

module _ {O B A : Type 0} (d : Dialect (in_program O B) A) where
  -- the arguments go, and then what the block says of them
  pub lost_both : (old mid new : Program O B) (p : Ptr BasicBlock) (picks : ℕ → Bool) (w u : B) → EditsBlock old mid p (λ v. record v { arguments = drop picks v.arguments })
      → block_payload_at mid p ≡ Some w → u ≡ d.drop_names w picks → EditsBlock mid new p (λ v. record v { payload = u }) → EditsBlock old new p (loses_arguments d picks)
  lost_both old mid new p picks w u removed value made edits = record {
    edited = edits.edited ∙ ap (option_map (λ (v : BlockView B). record v { payload = u })) removed.edited ∙ by_case (block_at old p) (ap (option_map (λ (v : BlockView B). v.payload)) (sym removed.edited) ∙ value);
    others = λ q ne. edits.others q ne ∙ removed.others q ne;
    operations = λ q. edits.operations q ∙ removed.operations q;
    regions = λ q. edits.regions q ∙ removed.regions q;
    erased = erased_both old mid new removed.erased edits.erased;
  } where
    by_case : (o : Option (BlockView B)) → option_map (λ (v : BlockView B). v.payload) (option_map (λ (v : BlockView B). record v { arguments = drop picks v.arguments }) o) ≡ Some w
        → option_map (λ (v : BlockView B). record v { payload = u }) (option_map (λ (v : BlockView B). record v { arguments = drop picks v.arguments }) o) ≡ option_map (loses_arguments d picks) o
    by_case None h = refl
    by_case (Some v) h =
        let same : w ≡ v.payload = cc in
        λ j. Some (record v { payload = (made ∙ ap (λ x. d.drop_names x picks) same) j; arguments = drop picks v.arguments })

  -- one turn of the loop over the blocks that lose arguments
  module _ (old mid : Program O B) (dead : List DeadArguments) (once : (j k : ℕ) (a b : DeadArguments) → slice_get dead j ≡ Some a → slice_get dead k ≡ Some b → a.block ≡ b.block → j ≡ k) (i : ℕ) (a : DeadArguments) (here : slice_get dead i ≡ Some a) (done : LosesArguments d old mid (take i dead)) where
    as_before : block_at mid a.block ≡ block_at old a.block
    as_before = done.others a.block (not_before (λ (x : DeadArguments). x.block) dead once i a here)

    list_before : arguments_at mid a.block ≡ arguments_at old a.block
    list_before = ap (λ o. unwrap_or (option_map (λ (y : BlockView B). y.arguments) o) []) as_before

    pub count_still : (IsSome (block_at old a.block) → length a.marks.items ≡ length (arguments_at old a.block)) → IsSome (block_at mid a.block) → length a.marks.items ≡ length (arguments_at mid a.block)
    count_still count there = count (subst IsSome as_before there) ∙ ap length (sym list_before)

    pub unused_still : ((k : ℕ) (v : Value) → slice_get a.marks.items k ≡ Some true → value_in (arguments_at old a.block) k ≡ Some v → IsUsed old v → ⊥)
        → (k : ℕ) (v : Value) → slice_get a.marks.items k ≡ Some true → value_in (arguments_at mid a.block) k ≡ Some v → IsUsed mid v → ⊥
    unused_still unused k v mark at u = unused k v mark (ap (λ ts. value_in ts k) (sym list_before) ∙ at) (u.0, u.1, sym (done.operations u.0) ∙ u.2, u.3, u.4)

    pub lost_next : (new : Program O B) → EditsBlock mid new a.block (loses_arguments d (marked a.marks.items)) → LosesArguments d old new (take (i + 1) dead)
    lost_next new edits = record {
      listed = λ m h. ⊎_elim
          (λ before. edits.others m.block (not_before (λ (x : DeadArguments). x.block) dead once i a here m before) ∙ done.listed m before)
          (λ (e : m ≡ a). subst (λ (x : DeadArguments). block_at new x.block ≡ option_map (loses_arguments d (marked x.marks.items)) (block_at old x.block)) (sym e) (edits.edited ∙ ap (option_map (loses_arguments d (marked a.marks.items))) as_before))
          (before_or_it (λ (x : DeadArguments). x.block) dead once i a here m h);
      others = λ b out.
          edits.others b (λ e. out a (it_next (λ (x : DeadArguments). x.block) dead once i a here) (sym e))
          ∙ done.others b (λ m h. out m (before_next (λ (x : DeadArguments). x.block) dead once i a here m h));
      operations = λ p. edits.operations p ∙ done.operations p;
      regions = λ r. edits.regions r ∙ done.regions r;
      erased = erased_both old mid new done.erased edits.erased;
    }
