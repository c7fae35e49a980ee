-- A root in its program, with its numbers, its tree and its problem.
use Rattle.std.proofs.Common.{◌≡◌, inl, inr, ⊎_elim, ℕ, true, List, [], ◌∷◌, Option, Some, slice_get, unwrap_or, option_map, refl, sym, ap, ◌∙◌, subst}
use Rattle.std.specs.Prelude.{map}
use Rattle.std.specs.declared.vec.Vec.{Vec}
use Rattle.std.specs.declared.alloc.Global.{Global}
use Rattle.std.proofs.lemmas.Option.{none-some, same_Some}
use Rattle.ir_program.specs.Program.{Program, BlockView, RegionView, TypedValue, block_at, region_at, arguments_at}
use Rattle.ir_program.specs.Lists.{blocks_in, regions_in, StandsInRegion, StandsInOperation, StandsInside, in_region, in_operation}
use Rattle.ir_program.specs.Replacing.{same_block}
use Rattle.ir_program.specs.declared.handles.IRNode.TheVariants.{Operation as OperationNode}
use Rattle.ir_program.specs.declared.handles.Ptr.{Ptr}
use Rattle.ir_program.specs.declared.handles.Operation.{Operation}
use Rattle.ir_program.specs.declared.handles.Region.{Region}
use Rattle.ir_program.specs.declared.handles.BasicBlock.{BasicBlock}
use Rattle.ir_program.proofs.used.Renaming.{block-test}
use Rattle.ir_trees.specs.Trees.{Label, Blocks, Regions, Tree}
use Rattle.ir_trees.specs.Renames.{names_of}
use Rattle.ir_trees.specs.Searched.{Lists}
use Rattle.ir_trees.specs.Stands.{by_handle, in_program, ProgramTree, defined_by, AreTree, no_blocks, no_regions, first_block, first_region}
use Rattle.opt_rows.specs.declared.facts_problem.FactsProblem.{FactsProblem}
use Rattle.opt_rows.specs.Known.{AllAny}
use Rattle.opt_rows.specs.Facts.{NumberedFacts, RunsWithAny, arguments_of}
use Rattle.opt_trees.specs.Occurrences.{Has, BlockOccurrence, block_occurrences_of, types_of}
use Rattle.opt_trees.specs.Dialect.{Dialect, Lawful}
use Rattle.opt_trees.specs.Facts.{Facts, EntriesRun}
use Rattle.opt_inside.specs.Occurring.{IsBlockBelow}
use Rattle.opt_inside.specs.Numbered.{Numbers, NumbersInside}
use Rattle.opt_inside.specs.facts.ByNumber.{LeadsBelow}
use Rattle.opt_inside.specs.facts.Folds.{result_types}
use Rattle.opt_inside.specs.facts.Problem.{value_number, block_number, values_of, entries_in, IsFactsProblemOf}
use Rattle.opt_inside.proofs.FactsLemmas.Places.{placed}
use Rattle.opt_inside.proofs.FactsLemmas.Members.{has_lists, has_front, has_behind, front_or_behind}
use Rattle.opt_inside.proofs.FactsLemmas.Occurs.{Occurs}
use Rattle.opt_inside.proofs.FactsLemmas.Agree.{Agree, cast, uncast, any_of}

-- what is listed in the program stands there
pub record AreHeld {O B : Type 0} (c : Program O B) : Type 0 where
  pub blocks : (r : Ptr Region) (k : ℕ) (b : Ptr BasicBlock) → slice_get (blocks_in c r) k ≡ Some b → StandsInRegion c b r
  pub regions : (p : Ptr Operation) (k : ℕ) (r : Ptr Region) → slice_get (regions_in c p) k ≡ Some r → StandsInOperation c r p

-- the numbers of what is below a root, and the problem
pub record IsSet {O B A : Type 0} (d : Dialect (in_program O B) A) (c : Program O B) (op : Ptr Operation) (n : Numbers) (p : FactsProblem) : Type 0 where
  pub exclude : (w : O) → d.is_foldable w ≡ true → d.is_branch w ≡ true → ⊥
  pub held : AreHeld c
  pub numbered : NumbersInside c op n
  pub leads : LeadsBelow c op
  pub problem : IsFactsProblemOf d c op n p

pub is_set : {O B A : Type 0} (d : Dialect (in_program O B) A) (c : Program O B) (op : Ptr Operation) (n : Numbers) (p : FactsProblem) → Lawful d
    → ((r : Ptr Region) (k : ℕ) (b : Ptr BasicBlock) → slice_get (blocks_in c r) k ≡ Some b → StandsInRegion c b r) → ((q : Ptr Operation) (k : ℕ) (r : Ptr Region) → slice_get (regions_in c q) k ≡ Some r → StandsInOperation c r q)
    → NumbersInside c op n → LeadsBelow c op → IsFactsProblemOf d c op n p → IsSet d c op n p
is_set d c op n p lawful blocks regions numbered leads problem = record { exclude = lawful.exclude; held = record { blocks = blocks; regions = regions }; numbered = numbered; leads = leads; problem = problem }

names_values : (ts : List TypedValue) → names_of (map defined_by ts) ≡ values_of ts
names_values [] = refl
names_values (t ∷ ts) = ap (λ vs. t.value ∷ vs) (names_values ts)

pub values_names : (ts : List TypedValue) → values_of ts ≡ names_of (map defined_by ts)
values_names ts = sym (names_values ts)

pub types_same : (ts : List TypedValue) → result_types ts ≡ types_of (map defined_by ts)
types_same [] = refl
types_same (t ∷ ts) = ap (λ us. t.ty ∷ us) (types_same ts)

-- the entry blocks of what is inside a root are inside it
pub entries_below : {O B : Type 0} (c : Program O B) (op : Ptr Operation) → AreHeld c → (q : Ptr Operation) → StandsInside c (OperationNode op) (OperationNode q) → (b : Ptr BasicBlock) → Has b (entries_in c (regions_in c q)) → IsBlockBelow c op b
entries_below c op held q inside b h = go (regions_in c q) (λ r m. let l = has_lists (regions_in c q) r m in held.regions q l.0 r l.1) h
  where
    go : (rs : List (Ptr Region)) → ((r : Ptr Region) → Has r rs → StandsInOperation c r q) → Has b (entries_in c rs) → IsBlockBelow c op b
    go [] all m = absurd m
    go (r ∷ rs) all m = ⊎_elim
        (λ (e : slice_get (blocks_in c r) 0 ≡ Some b). in_region b r (held.blocks r 0 b e) (in_operation r q (all r (inl refl)) inside))
        (λ (e : Has b (entries_in c rs)). go rs (λ s l. all s (inr l)) e)
        (front_or_behind (slice_get (blocks_in c r) 0) (entries_in c rs) b m)

module _ {O B A : Type 0} (d : Dialect (in_program O B) A) (c : Program O B) (op : Ptr Operation) (n : Numbers) (p : FactsProblem) (s : IsSet d c op n p) where
  pub listed : (b : Ptr BasicBlock) → IsBlockBelow c op b → Lists n.blocks b
  listed b below = (s.numbered.blocks b).1 below

  pub arguments_are : (b : Ptr BasicBlock) → Lists n.blocks b → arguments_of p (block_number n b) ≡ map (value_number n) (values_of (arguments_at c b))
  arguments_are b l =
      let at = s.problem.arguments.onto (block_number n b) b (placed same_block block-test n.blocks b l) in
      ap (λ (o : Option (Vec ℕ Global)). unwrap_or (option_map (λ (v : Vec ℕ Global). v.items) o) []) at.1 ∙ at.2

module _ {O B : Type 0} (c : Program O B) where
  pub arguments_named : (b : Ptr BasicBlock) (v : BlockView B) → block_at c b ≡ Some v → values_of (arguments_at c b) ≡ names_of (map defined_by v.arguments)
  arguments_named b v there = ap (λ (o : Option (BlockView B)). values_of (unwrap_or (option_map (λ (w : BlockView B). w.arguments) o) [])) there ∙ values_names v.arguments

  module _ {A : Type 0} (k : Facts by_handle A) where
    -- the block runs, with any arguments
    abbrev pub Runs : Ptr BasicBlock → Type 0
    Runs b = (k.runs b ≡ true) × AllAny k.of (values_of (arguments_at c b))

    entry_to : (bs : List (Ptr BasicBlock)) (u : Tree by_handle (in_program O B) Blocks) → AreTree c Blocks bs u → ((b : Ptr BasicBlock) → slice_get bs 0 ≡ Some b → Runs b) → EntriesRun k u
    entry_to _ _ no_blocks f = tt
    entry_to _ _ (first_block b bs v ops rest there below more) f = let h = f b refl in (h.0, subst (AllAny k.of) (arguments_named b v there) h.1)

    entry_from : (bs : List (Ptr BasicBlock)) (u : Tree by_handle (in_program O B) Blocks) → AreTree c Blocks bs u → EntriesRun k u → (b : Ptr BasicBlock) → slice_get bs 0 ≡ Some b → Runs b
    entry_from _ _ no_blocks e b at = absurd (none-some b at)
    entry_from _ _ (first_block b bs v ops rest there below more) e a at = subst Runs (same_Some b a at) (e.0, subst (AllAny k.of) (sym (arguments_named b v there)) e.1)

    first_of_region : (r : Ptr Region) (v : RegionView) → region_at c r ≡ Some v → slice_get (blocks_in c r) 0 ≡ slice_get v.blocks 0
    first_of_region r v there = ap (λ (o : Option RegionView). slice_get (unwrap_or (option_map (λ (w : RegionView). w.blocks) o) []) 0) there

    -- the entries of regions run where their entry blocks do
    pub entries_to : (rs : List (Ptr Region)) (u : Tree by_handle (in_program O B) Regions) → AreTree c Regions rs u → ((b : Ptr BasicBlock) → Has b (entries_in c rs) → Runs b) → EntriesRun k u
    entries_to _ _ no_regions f = tt
    entries_to _ _ (first_region r rs v blocks rest there below more) f = (
      entry_to v.blocks blocks below (λ b at. f b (has_front (slice_get (blocks_in c r) 0) (entries_in c rs) b (first_of_region r v there ∙ at))),
      entries_to rs rest more (λ b h. f b (has_behind (slice_get (blocks_in c r) 0) (entries_in c rs) b h)),
    )

    pub entries_from : (rs : List (Ptr Region)) (u : Tree by_handle (in_program O B) Regions) → AreTree c Regions rs u → EntriesRun k u → (b : Ptr BasicBlock) → Has b (entries_in c rs) → Runs b
    entries_from _ _ no_regions e b h = absurd h
    entries_from _ _ (first_region r rs v blocks rest there below more) e b h = ⊎_elim
        (λ (at : slice_get (blocks_in c r) 0 ≡ Some b). entry_from v.blocks blocks below e.0 b (sym (first_of_region r v there) ∙ at))
        (λ (m : Has b (entries_in c rs)). entries_from rs rest more e.1 b m)
        (front_or_behind (slice_get (blocks_in c r) 0) (entries_in c rs) b h)

module _ {O B A : Type 0} (d : Dialect (in_program O B) A) (c : Program O B) (op : Ptr Operation) (n : Numbers) (p : FactsProblem) (s : IsSet d c op n p) (K : NumberedFacts A) (k : Facts by_handle A) (agree : Agree n K k) where
  pub enters_to : (b : Ptr BasicBlock) → Lists n.blocks b → RunsWithAny p K (block_number n b) → Runs c k b
  enters_to b l h = (sym (agree.runs b l) ∙ h.runs, cast (any_of n K k agree (values_of (arguments_at c b))) (subst (AllAny K.of) (arguments_are d c op n p s b l) h.arguments))

  pub enters_from : (b : Ptr BasicBlock) → Lists n.blocks b → Runs c k b → RunsWithAny p K (block_number n b)
  enters_from b l h = record { runs = agree.runs b l ∙ h.0; arguments = subst (AllAny K.of) (sym (arguments_are d c op n p s b l)) (uncast (any_of n K k agree (values_of (arguments_at c b))) h.1) }

-- the arguments of a block of the tree
pub occurrence_arguments : {O B : Type 0} (c : Program O B) (op : Ptr Operation) (t : ProgramTree O B) → Occurs c op t → (x : BlockOccurrence by_handle (in_program O B)) → Has x (block_occurrences_of t) → values_of (arguments_at c x.label.name) ≡ names_of x.label.arguments
occurrence_arguments {O} {B} c op t occurs x h =
    let is = occurs.blocks_sound x h in
    arguments_named c x.label.name is.view is.there ∙ sym (ap (λ (l : Label by_handle (in_program O B)). names_of l.arguments) is.label)
