-- Blocks can be joined exactly where there are steps that join all chains.
use Rattle.std.proofs.Common.{◌≡◌, ◌⊎◌, ⊎_elim, ℕ, zero, true, false, nat_eq, eq-eqb, List, [], ◌∷◌, length, refl, sym, ap, ◌∙◌}
use Rattle.std.proofs.lemmas.Bool.{eqb-true}
use Rattle.ir_program.specs.Program.{Program}
use Rattle.ir_program.specs.declared.handles.Ptr.{Ptr}
use Rattle.ir_program.specs.declared.handles.Operation.{Operation}
use Rattle.ir_program.specs.declared.handles.BasicBlock.{BasicBlock}
use Rattle.ir_trees.specs.Stands.{by_handle, in_program, ProgramTree, StandsFor}
use Rattle.opt_trees.specs.Dialect.{Dialect}
use Rattle.opt_trees.specs.Simplify.{StartingRegions, Joinable}
use Rattle.opt_chains.specs.Chained.{AreChains, StartsSomewhere}
use Rattle.opt_chains.specs.Merging.{is_taken}
use Rattle.opt_chains.specs.declared.merging.Join.{Join}
use Rattle.opt_inside.specs.declared.reach.starts.Start.{Start}
use Rattle.ir_opts.specs.joining.Answers.{HasNoneJoinable}
use Rattle.ir_opts.specs.joining.Plans.{JoinAll}

-- a list without length is empty
pub empty_list : {X : Type 0} (xs : List X) (n : ℕ) → n ≡ length xs → nat_eq n 0 ≡ true → xs ≡ []
empty_list [] n len equal = refl
empty_list (x ∷ xs) n len equal = let e : length (x ∷ xs) ≡ 0 = sym len ∙ eqb-true n 0 equal in cc

-- and one with some isn't
pub no_empty : {X : Type 0} (xs : List X) (n : ℕ) → n ≡ length xs → nat_eq n 0 ≡ false → xs ≡ [] → ⊥
no_empty xs n len unequal e =
    let none : n ≡ 0 = len ∙ ap length e in
    let f : true ≡ false = sym (eq-eqb n 0 none) ∙ unequal in
    cc

module _ {O B A : Type 0} (d : Dialect (in_program O B) A) (c : Program O B) where
  module _ (p : StartingRegions by_handle) (t : ProgramTree O B) where
    none_taken : (js : List Join) → js ≡ [] → AreChains d p c t js → (a b : Ptr BasicBlock) → Joinable d p t a b → ⊥
    none_taken js e chains a b joins = let f : false ≡ true = sym (ap (λ l. is_taken l b) e) ∙ chains.all a b joins in cc

    -- the first step joins two blocks
    first_joined : (js : List Join) → (js ≡ [] → ⊥) → AreChains d p c t js → (a : Ptr BasicBlock) × (b : Ptr BasicBlock) × Joinable d p t a b
    first_joined [] some chains = absurd (some refl)
    first_joined (j ∷ js) some chains = (j.first, j.block, chains.sound zero j refl)

  module _ (op : Ptr Operation) (start : Start) (js : List Join) (all : JoinAll d c op start js) where
    pub none_joinable : js ≡ [] → HasNoneJoinable d c op start
    none_joinable e p is t stands = none_taken p t js e (all p is t stands)

    pub some_joinable : (js ≡ [] → ⊥) → StartsSomewhere c start → ((t : ProgramTree O B) × StandsFor c op t) → HasNoneJoinable d c op start → ⊥
    some_joinable some begins tree none =
        let both = first_joined begins.0 tree.0 js some (all begins.0 begins.1 tree.0 tree.1) in
        none begins.0 begins.1 tree.0 tree.1 both.0 both.1 both.2

    pub begins_somewhere : (js ≡ [] → ⊥) → (js ≡ []) ⊎ StartsSomewhere c start → StartsSomewhere c start
    begins_somewhere some either = ⊎_elim (λ (e : js ≡ []). absurd (some e)) (λ b. b) either
