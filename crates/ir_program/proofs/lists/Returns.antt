-- Lists that are gone over from either end, and what was taken out of a list and put back where it stood.
use Rattle.std.proofs.Common.{◌≡◌, ⊎_elim, ℕ, zero, suc, ◌+◌, List, [], ◌∷◌, reverse, Option, Some, None, option_map, unwrap_or, refl, sym, ap, ◌∙◌, subst, arith, slice_get, insert, remove}
use Rattle.std.specs.Iterator.{Yields, YieldsFirst, YieldsLast}
use Rattle.std.proofs.lemmas.List.{reverse-append}
use Rattle.std.proofs.lemmas.Option.{same_Some}
use Rattle.ir_program.specs.Program.{Program, BlockView, RegionView, block_at, region_at}
use Rattle.ir_program.specs.Lists.{operations_in, blocks_in}
use Rattle.ir_program.specs.Edits.{EditsBlock, EditsRegion}
use Rattle.ir_program.specs.Returns.{IsWalkedBothWays, ReturnsOperations, ReturnsBlocks}
use Rattle.ir_program.proofs.made.Frames.{same_or_not}

module _ {X : Type 0} where
  from-front : (items taken rest last : List X) → Yields (YieldsFirst (λ (s : List X). s)) items taken rest → YieldsFirst (λ (s : List X). s) rest None last → taken ≡ items
  from-front items [] rest last calls none = sym (calls ∙ none.0)
  from-front items (x ∷ taken) rest last calls none = ap (λ r. x ∷ r) (from-front calls.0 taken rest last calls.2 none) ∙ sym calls.1

  from-back : (items taken rest last : List X) → Yields (YieldsLast (λ (s : List X). s)) items taken rest → YieldsLast (λ (s : List X). s) rest None last → taken ≡ reverse items
  from-back items [] rest last calls none = sym (ap reverse (calls ∙ none.0))
  from-back items (x ∷ taken) rest last calls none = ap (λ r. x ∷ r) (from-back calls.0 taken rest last calls.2 none) ∙ sym (ap reverse calls.1 ∙ reverse-append calls.0 (x ∷ []))

  pub both-ways : (items : List X) → IsWalkedBothWays items
  both-ways items front back forward backward =
      let fore : front ≡ items = from-front items front forward.1.0 forward.0 forward.1.1 forward.1.2 in
      (fore, from-back items back backward.1.0 backward.0 backward.1.1 backward.1.2 ∙ ap reverse (sym fore))

  -- what is put back at its index
  put-back : (xs : List X) (k : ℕ) (x : X) → slice_get xs k ≡ Some x → insert (remove xs k) k x ≡ xs
  put-back [] k x e = cc
  put-back (y ∷ ys) zero x e = ap (λ z. z ∷ ys) (sym (same_Some y x e))
  put-back (y ∷ ys) (suc k) x e = ap (λ zs. y ∷ zs) (put-back ys k x e)

  before-removed : (xs : List X) (k : ℕ) → slice_get (remove xs (suc k)) k ≡ slice_get xs k
  before-removed [] k = refl
  before-removed (y ∷ ys) zero = refl
  before-removed (y ∷ ys) (suc k) = before-removed ys k

  -- what stands right before what is taken out stays where it was
  before-next : (xs : List X) (k : ℕ) → slice_get (remove xs (k + 1)) k ≡ slice_get xs k
  before-next xs k = let next : k + 1 ≡ suc k = omega arith in rw next (before-removed xs k)

  -- something stands in the list of an entity only where that is there
  there : {V : Type 0} (members : V → List X) (o : Option V) (k : ℕ) (x : X) → slice_get (unwrap_or (option_map members o) []) k ≡ Some x → (v : V) × (o ≡ Some v) × (slice_get (members v) k ≡ Some x)
  there members None k x e = cc
  there members (Some v) k x e = (v, refl, e)

module _ {O B : Type 0} (old : Program O B) where
  pub returns-operations : ReturnsOperations old
  returns-operations mid block k mark op at_mark at_op takes kept =
      let was = there (λ (v : BlockView B). v.operations) (block_at old block) (k + 1) op at_op in
      let taken : EditsBlock old mid block (λ (v : BlockView B). record v { operations = remove v.operations (k + 1) }) = takes block (k + 1) at_op in
      let between = taken.edited ∙ ap (option_map (λ (v : BlockView B). record v { operations = remove v.operations (k + 1) })) was.1 in
      let mark_was : slice_get was.0.operations k ≡ Some mark = sym (ap (λ (o : Option (BlockView B)). slice_get (unwrap_or (option_map (λ (v : BlockView B). v.operations) o) []) k) was.1) ∙ at_mark in
      let mark_is : slice_get (operations_in mid block) k ≡ Some mark = ap (λ (o : Option (BlockView B)). slice_get (unwrap_or (option_map (λ (v : BlockView B). v.operations) o) []) k) between ∙ before-next was.0.operations k ∙ mark_was in (
        mark_is,
        λ new puts kept_too.
            let put : EditsBlock mid new block (λ (v : BlockView B). record v { operations = insert v.operations (k + 1) op }) = puts block k mark_is in
            let back : block_at new block ≡ block_at old block =
            put.edited
            ∙ ap (option_map (λ (v : BlockView B). record v { operations = insert v.operations (k + 1) op })) between
            ∙ ap (λ l. Some (record was.0 { operations = l })) (put-back was.0.operations (k + 1) op was.2)
            ∙ sym was.1 in
            record {
              operations = λ q. put.operations q ∙ taken.operations q;
              blocks = λ q. ⊎_elim (λ (e : q ≡ block). subst (λ x. block_at new x ≡ block_at old x) (sym e) back) (λ ne. put.others q ne ∙ taken.others q ne) (same_or_not q block);
              regions = λ q. put.regions q ∙ taken.regions q;
              erased = record {
                operations = λ q s. put.erased.operations q (taken.erased.operations q s);
                blocks = λ q s. put.erased.blocks q (taken.erased.blocks q s);
                regions = λ q s. put.erased.regions q (taken.erased.regions q s);
              };
              counter = kept_too ∙ kept;
            },
      )

  pub returns-blocks : ReturnsBlocks old
  returns-blocks mid region k mark block at_mark at_block takes kept =
      let was = there (λ (v : RegionView). v.blocks) (region_at old region) (k + 1) block at_block in
      let taken : EditsRegion old mid region (λ v. record v { blocks = remove v.blocks (k + 1) }) = takes region (k + 1) at_block in
      let between = taken.edited ∙ ap (option_map (λ (v : RegionView). record v { blocks = remove v.blocks (k + 1) })) was.1 in
      let mark_was : slice_get was.0.blocks k ≡ Some mark = sym (ap (λ (o : Option RegionView). slice_get (unwrap_or (option_map (λ (v : RegionView). v.blocks) o) []) k) was.1) ∙ at_mark in
      let mark_is : slice_get (blocks_in mid region) k ≡ Some mark = ap (λ (o : Option RegionView). slice_get (unwrap_or (option_map (λ (v : RegionView). v.blocks) o) []) k) between ∙ before-next was.0.blocks k ∙ mark_was in (
        mark_is,
        λ new puts kept_too.
            let put : EditsRegion mid new region (λ v. record v { blocks = insert v.blocks (k + 1) block }) = puts region k mark_is in
            let back : region_at new region ≡ region_at old region =
            put.edited
            ∙ ap (option_map (λ (v : RegionView). record v { blocks = insert v.blocks (k + 1) block })) between
            ∙ ap (λ l. Some (record was.0 { blocks = l })) (put-back was.0.blocks (k + 1) block was.2)
            ∙ sym was.1 in
            record {
              operations = λ q. put.operations q ∙ taken.operations q;
              blocks = λ q. put.blocks q ∙ taken.blocks q;
              regions = λ q. ⊎_elim (λ (e : q ≡ region). subst (λ x. region_at new x ≡ region_at old x) (sym e) back) (λ ne. put.others q ne ∙ taken.others q ne) (same_or_not q region);
              erased = record {
                operations = λ q s. put.erased.operations q (taken.erased.operations q s);
                blocks = λ q s. put.erased.blocks q (taken.erased.blocks q s);
                regions = λ q s. put.erased.regions q (taken.erased.regions q s);
              };
              counter = kept_too ∙ kept;
            },
      )
